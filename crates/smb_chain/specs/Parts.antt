-- The messages of a frame, found by NextCommand (MS-SMB2 2.2.1).
use Rattle.std.specs.Prelude.{◌==◌, ◌+◌, ◌%◌, ℕ, zero, suc, Bool, not, ◌||◌, List, [], ◌∷◌, length, take, drop, nat_lt, if◌then◌else◌, Option, Some, None, Result, Ok, Err}
use Rattle.smb_le.specs.Numbers.{number_at}
use Rattle.smb_chain.specs.declared.parts.BadNext.{BadNext}
use denote.Ref.{Bor}

-- no message begins so far after the first byte of one of so many bytes: under 64, no multiple of 8, or fewer than 64 bytes after it
abbrev pub is_bad_next : ℕ → ℕ → Bool
is_bad_next next len = nat_lt next 64 || (not (next % 8 == 0) || nat_lt len (next + 64))

-- what a frame begins with: its only message, a message and the bytes after it, or one whose NextCommand is bad
pub data Step : Type 0 where
  Only : List ℕ → Step
  Then : List ℕ → List ℕ → Step
  Bad : Step

-- what a place of the next message makes of the bytes; 0 is said of the last message
abbrev pub step_at : ℕ → List ℕ → Step
step_at next bytes =
    if next == 0 then Only bytes
    else (if is_bad_next next (length bytes) then Bad else Then (take next bytes) (drop next bytes))

-- by NextCommand, the 4 bytes at 20; bytes that are no whole header are a part as they stand
unfoldable pub step_of : List ℕ → Step
step_of bytes = if nat_lt (length bytes) 64 then Only bytes else step_at (number_at 4 20 bytes) bytes

-- a step and the parts after it
abbrev pub with_rest : Step → (List ℕ → List (Result (List ℕ) BadNext)) → List (Result (List ℕ) BadNext)
with_rest (Only part) others = Ok part ∷ []
with_rest (Then part rest) others = Ok part ∷ others rest
with_rest Bad others = Err record {} ∷ []

-- n parts at most
abbrev pub parts_within : ℕ → List ℕ → List (Result (List ℕ) BadNext)
parts_within zero bytes = []
parts_within (suc n) bytes = with_rest (step_of bytes) (parts_within n)

-- the parts of a frame in order, up to the first bad NextCommand
unfoldable pub parts_of : List ℕ → List (Result (List ℕ) BadNext)
parts_of bytes = parts_within (suc (length bytes)) bytes

-- a part and what follows it, where something does, as a step
abbrev pub step_from : List ℕ → Option (Bor (List ℕ)) → Step
step_from part None = Only part
step_from part (Some rest) = Then part rest.now

-- what a function answered, as a step
abbrev pub seen_step : Result (Bor (List ℕ) × Option (Bor (List ℕ))) BadNext → Step
seen_step (Ok p) = step_from p.0.now p.1
seen_step (Err e) = Bad

-- the bytes of a part that was lent
abbrev pub seen_part : Result (Bor (List ℕ)) BadNext → Result (List ℕ) BadNext
seen_part (Ok part) = Ok part.now
seen_part (Err e) = Err e

-- the parts that are still to come
abbrev pub parts_left : Option (Bor (List ℕ)) → List (Result (List ℕ) BadNext)
parts_left None = []
parts_left (Some bytes) = parts_of bytes.now
