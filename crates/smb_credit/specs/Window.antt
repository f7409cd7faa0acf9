-- The ids of a connection's messages (MS-SMB2 3.2.4.1.6 and 3.2.5.1.4): 0 at first; n credits grant the next n numbers, but never the
-- greatest one of 64 bits, which is the id of what answers no request; a request uses the least ones that may be used.
use Rattle.std.specs.Prelude.{ℕ, zero, suc, ◌+◌, ◌-◌, ◌^◌, ◌==◌, Bool, not, nat_lt, max, List, [], ◌∷◌, ◌++◌, length, take, slice_index}
use Rattle.std.specs.List.{filter, list_any}

-- the numbers granted so far on the connection, and those of them that were used, each in order
pub record Ids : Type 0 where
  pub granted : List ℕ
  pub used : List ℕ

-- the greatest number of 64 bits
abbrev pub no_request : ℕ
no_request = 2 ^ 64 - 1

-- so many numbers from one on
unfoldable pub numbers : ℕ → ℕ → List ℕ
numbers from zero = []
numbers from (suc n) = from ∷ numbers (from + 1) n

-- a number is one of a list
abbrev pub is_in : List ℕ → ℕ → Bool
is_in used id = list_any (λ u. u == id) used

-- the ids that may be used: those granted, less those used
unfoldable pub usable : Ids → List ℕ
usable ids = filter (λ id. not (is_in ids.used id)) ids.granted

-- the least one of them
abbrev pub least : Ids → ℕ
least ids = slice_index (usable ids) 0

-- so many credits more
unfoldable pub granted_more : ℕ → Ids → Ids
granted_more n ids =
    record ids { granted = ids.granted ++ filter (λ id. nat_lt id no_request) (numbers (length ids.granted) n) }

-- the least ones of those that may be used are used
unfoldable pub after_use : ℕ → Ids → Ids
after_use charge ids = record ids { used = ids.used ++ take charge (usable ids) }

-- how many ids a request of this charge uses: one also where its charge is 0
abbrev pub cost : ℕ → ℕ
cost charge = max 1 charge

-- all numbers below the second were granted, and all below the first used
unfoldable pub up_to : ℕ → ℕ → Ids
up_to next top = record { granted = numbers 0 top; used = numbers 0 next }
