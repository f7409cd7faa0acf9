-- Whose each open of this client is: each that stands has a holder who will close it, or who keeps it for a user.
use Rattle.std.specs.Prelude.{◌≡◌, ◌⊎◌, ℕ, ◌==◌, true, false, List, [], ◌∷◌, length, Some}
use Rattle.std.specs.List.{AllByRecursion, list_any}
use Rattle.share_state.specs.declared.opens.Open.{Open}
use Rattle.fs_plain.specs.Tidy.{WillClose, Tidies}
use Rattle.fs_plain.specs.PlainSide.{PlainCall, PlainSide, nth_open}

-- a call that runs made this open, and closes it before it answers
abbrev pub HoldsUntilItCloses : Open → PlainCall → Type 0
HoldsUntilItCloses o c = (n : ℕ) × (nth_open n c.opened ≡ Some o.number) × WillClose n c.rest

abbrev pub HeldByCall : Open → List PlainCall → Type 0
HeldByCall o [] = ⊥
HeldByCall o (c ∷ cs) = HoldsUntilItCloses o c ⊎ HeldByCall o cs

-- an open file, which a descriptor of the user names, stands for this open
abbrev pub HeldByFile : Open → List (ℕ × ℕ) → Type 0
HeldByFile o described = list_any (λ entry. entry.1 == o.number) described ≡ true

-- whose an open of the plain share is: another client's, a running call's, or an open file's. Opens that are kept after a close, that
-- are being closed, and those of a lost connection are further cases, each with the work that brings it.
abbrev pub IsHeld : PlainSide → Open → Type 0
IsHeld p o = ((o.who.0 == 0) ≡ false) ⊎ (HeldByCall o p.running ⊎ HeldByFile o p.described)

-- a call closes each open that it makes from now on
abbrev pub ClosesItsOwn : PlainCall → Type 0
ClosesItsOwn c = Tidies (length c.opened) c.rest

-- every open of the plain share has a holder, and every call closes each open that it makes from now on
pub record AllHeld (p : PlainSide) : Type 0 where
  pub opens : AllByRecursion (IsHeld p) p.plain.opens
  pub calls : AllByRecursion ClosesItsOwn p.running
