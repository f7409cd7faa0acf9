-- What ties the real share to the plain one, beside the connection and the calls. Proofs about runs cite the laws of it (proofs/AlikeLaws)
-- and never look into it. Today the plain share is the real one without leases, with the same numbers, and no open is kept; with pages,
-- leases and postponed closes it says less, and its laws stay.
use Rattle.std.specs.Prelude.{◌≡◌, ℕ, ◌==◌, true, not, [], ◌≤◌, ◌<◌, false, List, ◌∷◌}
use Rattle.std.specs.List.{list_all, AllByRecursion}
use Rattle.share_state.specs.declared.lease.Lease.{Lease}
use Rattle.share_state.specs.declared.share.Share.{Share}
use Rattle.share_state.specs.declared.opens.Open.{Open}
use Rattle.fs_plain.specs.Paired.{Pair, plain_of_real}
use Rattle.fs_plain.specs.PlainSide.{PlainSide}

-- the share without leases and without a connection
abbrev pub bare : Share → Share
bare s = record s { leases = []; connected = false; sent = []; owed = []; held = []; grants = [] }

-- an open has one of the numbers that were given, is connected, and is not durable
abbrev pub IsStanding : ℕ → Open → Type 0
IsStanding made o = (1 ≤ o.number) × (o.number ≤ made) × (o.connected ≡ true) × (o.durable ≡ false)

-- two opens have different numbers
abbrev pub IsAnother : Open → Open → Type 0
IsAnother o q = (q.number == o.number) ≡ false

-- no two of these opens have one number
abbrev pub AreApart : List Open → Type 0
AreApart [] = Unit {0}
AreApart (o ∷ os) = AllByRecursion (IsAnother o) os × AreApart os

-- each open of a share stands, under a number of its own
abbrev pub AreStanding : Share → Type 0
AreStanding s = AllByRecursion (IsStanding s.opens_made) s.opens × AreApart s.opens

-- each open of a number that was given stands for itself, and no other number stands for an open
pub record AreSame (pairs : List Pair) (made : ℕ) : Type 0 where
  pub known : (n : ℕ) → 1 ≤ n → n ≤ made → plain_of_real pairs n ≡ n
  pub unknown : (n : ℕ) → made < n → plain_of_real pairs n ≡ 0
  pub none : plain_of_real pairs 0 ≡ 0

-- the two shares are one but for leases and connections
pub record IsIdentical (s : Share) (p : PlainSide) : Type 0 where
  pub tree : p.plain ≡ bare s
  pub standing : AreStanding s
  pub pairs : AreSame p.pairs s.opens_made
  pub kept : p.kept ≡ []

-- the real share and the plain one are alike
unfoldable pub Alike : Share → PlainSide → Type 0
Alike s p = IsIdentical s p

-- no lease is this client's. Others may hold leases.
abbrev pub HasNoLeaseOfOurs : Share → Type 0
HasNoLeaseOfOurs s = list_all (λ (l : Lease). not (l.who.0 == 0)) s.leases ≡ true
