-- Counts of how often something happened, in 64 bits.
use Rattle.std.specs.Prelude.{◌≤◌, ℕ, ◌+◌, ◌-◌, ◌^◌, Bool, min, if◌then◌else◌}

-- a count of calls that answered so: one more where this one did, and at its greatest value it stays
abbrev pub counted : ℕ → Bool → ℕ
counted n so = if so then min (n + 1) (2 ^ 64 - 1) else n

-- the count went up, or stands at its greatest value
abbrev pub Rose : ℕ → ℕ → Type 0
Rose before now = min (before + 1) (2 ^ 64 - 1) ≤ now
