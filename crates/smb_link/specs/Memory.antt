-- What the sources, sinks and clock in memory hold, as contracts see them.
use Rattle.std.specs.Prelude.{ℕ, ◌+◌, List, [], ◌∷◌, Bool, ◌==◌, nat_eq, if◌then◌else◌, take}
use Rattle.std.specs.List.{list_any}
use Rattle.smb_link.specs.Once.{all_told_once}

-- a source in memory: the bytes that are left, the numbers of the reads that are to fail, and how many reads there were and failed
pub record HeldSource : Type 0 where
  pub left : List ℕ
  pub fail : List ℕ
  pub calls : ℕ
  pub faults : ℕ

-- a sink in memory: the bytes that were written, the numbers of the writes that are to fail, and how many writes there were and failed
pub record HeldSink : Type 0 where
  pub written : List ℕ
  pub fail : List ℕ
  pub calls : ℕ
  pub faults : ℕ

-- the call with this number is one of those that are to fail
abbrev pub is_to_fail : List ℕ → ℕ → Bool
is_to_fail fail call = list_any (λ n. n == call) fail

-- a clock in memory: the readings to come, the last of which is repeated, and those so far, of which what comes twice in a row is told once
pub record HeldClock : Type 0 where
  pub left : List ℕ
  pub told : List ℕ

-- the readings of a clock that was made with these: with none it reads 0
abbrev pub its_readings : List ℕ → List ℕ
its_readings [] = 0 ∷ []
its_readings (t ∷ ts) = t ∷ ts

-- what a clock told of its readings: those before this place, and the one there where it was read already
abbrev pub told_at : ℕ → Bool → List ℕ → List ℕ
told_at at read readings = all_told_once nat_eq (take (at + (if read then 1 else 0)) (its_readings readings)) []

-- the first reading of a clock, or 0 where there is none
abbrev pub first_reading : List ℕ → ℕ
first_reading [] = 0
first_reading (t ∷ ts) = t

-- the readings after one: the last one stays
abbrev pub next_readings : List ℕ → List ℕ
next_readings [] = []
next_readings (t ∷ []) = t ∷ []
next_readings (t ∷ u ∷ ts) = u ∷ ts

-- a sink in memory with no planned failure
pub record SureHeld : Type 0 where
  pub written : List ℕ
  pub faults : ℕ
