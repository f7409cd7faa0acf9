-- Which running call of the plain client stands for which call of the client, and which plain opens for which of its file ids.
use Rattle.std.specs.Prelude.{◌≡◌, ℕ, ◌≤◌, true, false, List, [], ◌∷◌, ◌++◌, map, None}
use Rattle.std.specs.List.{AllByRecursion}
use Rattle.smb_base.specs.declared.names.Fid.{Fid}
use Rattle.share_state.specs.Reply.{fid_of}
use Rattle.fs_plain.specs.Paired.{Pair, plain_of_real}
use Rattle.fs_plain.specs.PlainSide.{PlainCall}
use Rattle.fs_client.specs.Item.{Item, Place, OfFile, KeptSince, Placed}

-- the number of the plain open that stands for the one that a file id names
abbrev pub plain_number : List Pair → Fid → ℕ
plain_number pairs fid = plain_of_real pairs fid.persistent

-- a file id is one that the share gave, where it has given numbers up to this one: that of an open, in both halves
pub record IsGiven (made : ℕ) (fid : Fid) : Type 0 where
  pub halves : fid ≡ fid_of fid.persistent
  pub some : 1 ≤ fid.persistent
  pub low : fid.persistent ≤ made

-- what is left of a call's program is the same on both sides, and its plain opens stand for the opens that it made
pub record IsAlong (pairs : List Pair) (made : ℕ) (i : Item) (c : PlainCall) : Type 0 where
  pub rest : c.rest ≡ i.rest
  pub opened : c.opened ≡ map (plain_number pairs) i.fids
  pub given : AllByRecursion (IsGiven made) i.fids

-- a plain call is this one of the client. Where a lost connection broke it off, the client may have missed replies to it; nothing of it
-- is in flight then. No request was sent of a call for which no frame was announced.
pub record IsCall (pairs : List Pair) (made : ℕ) (i : Item) (c : PlainCall) : Type 0 where
  pub number : c.number ≡ i.number
  pub lane : c.lane ≡ i.lane
  pub call : c.call ≡ i.call
  pub announced : c.announced ≡ i.announced
  pub file : c.file ≡ i.file
  pub along : i.broken ≡ false → IsAlong pairs made i c
  pub parted : i.broken ≡ true → i.frame ≡ None
  pub unsent : i.announced ≡ false → i.frame ≡ None
  pub unopened : i.announced ≡ false → c.opened ≡ []

-- one for one, in the order of beginning
abbrev pub AreCalls : List Pair → ℕ → List Item → List PlainCall → Type 0
AreCalls pairs made [] [] = Unit {0}
AreCalls pairs made [] (c ∷ cs) = ⊥
AreCalls pairs made (i ∷ is) [] = ⊥
AreCalls pairs made (i ∷ is) (c ∷ cs) = IsCall pairs made i c × AreCalls pairs made is cs

-- the plain opens of the open files of the user
abbrev pub described_as : List Pair → Fid → Place → List (ℕ × ℕ)
described_as pairs fid (OfFile file) = (file, plain_number pairs fid) ∷ []
described_as pairs fid (KeptSince time) = []

abbrev pub all_described : List Pair → List Placed → List (ℕ × ℕ)
all_described pairs [] = []
all_described pairs (x ∷ xs) = described_as pairs x.fid x.place ++ all_described pairs xs
