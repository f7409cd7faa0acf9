-- What one read of a source and one write to a sink do to the bytes, where these are told.
use Rattle.std.specs.Prelude.{◌≡◌, ◌≤◌, ◌<◌, ℕ, ◌++◌, List, [], length, take, drop, Option, option_map, IfSome, Result, Ok, Err, Bool, false, ◌&&◌, nat_lt, ◌==◌}
use Rattle.smb_link.specs.declared.faults.Failed.{Failed}

-- what is left after a read: the bytes that it gave are taken off, and a failed one takes nothing
abbrev pub left_after : Option (List ℕ) → Result ℕ Failed → Option (List ℕ)
left_after left (Ok n) = option_map (drop n) left
left_after left (Err e) = left

-- a read put the first bytes that were left into the front of the buffer, and gave none into a buffer with room only at the end
abbrev pub GaveFirst : Option (List ℕ) → Result ℕ Failed → List ℕ → Type 0
GaveFirst left (Ok n) buffer =
    IfSome left (λ bytes. (n ≤ length bytes) × (take n buffer ≡ take n bytes) × (n ≡ 0 → 0 < length buffer → bytes ≡ []))
GaveFirst left (Err e) buffer = Unit {0}

-- what is written after a write: the bytes that it took are added, and a failed one adds nothing
abbrev pub written_after : Option (List ℕ) → Result ℕ Failed → List ℕ → Option (List ℕ)
written_after written (Ok n) bytes = option_map (λ w. w ++ take n bytes) written
written_after written (Err e) bytes = written

-- a write that took nothing of a piece that has bytes
abbrev pub stalled : Result ℕ Failed → List ℕ → Bool
stalled (Ok n) bytes = n == 0 && nat_lt 0 (length bytes)
stalled (Err e) bytes = false
