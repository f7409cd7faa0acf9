-- A body: its structure size, its fields and its variable part, which lies anywhere behind the fixed part.
use Rattle.std.specs.Prelude.{◌≡◌, ◌≢◌, ℕ, ◌+◌, ◌-◌, ◌%◌, ◌<◌, ◌≤◌, ◌⊎◌, ◌==◌, if◌then◌else◌, List, ◌++◌, length, replicate, slice_range, ⊤, Result, Ok, Err}
use Rattle.smb_le.specs.Numbers.{number_at, bytes_of}
use Rattle.smb_field.specs.declared.field.Field.{Field}
use Rattle.smb_field.specs.declared.field.BodyFault.{BodyFault}
use Rattle.smb_field.specs.declared.field.BodyFault.TheVariants.{Short, Size, Value, Offset}
use Rattle.smb_field.specs.declared.field.Places.{Places}
use Rattle.smb_field.specs.Fields.{Holds, spelled}

-- the end of the fixed part, counted from the header of 64 bytes. An odd structure size counts one byte of the variable part.
abbrev pub end_of_fixed : ℕ → ℕ
end_of_fixed size = 64 + (size - size % 2)

-- a variable part stands at an offset of a message, behind the fixed part. That of an empty part may be any.
abbrev pub Lends : ℕ → List ℕ → List ℕ → ℕ → Type 0
Lends behind part message offset = (0 < length part) → (behind ≤ offset) × (offset + length part ≤ length message) × (slice_range message offset (offset + length part) ≡ part)

-- a variable part that is not empty leaves the message, or begins before the end of the fixed part
abbrev pub Strays : ℕ → ℕ → ℕ → List ℕ → Type 0
Strays behind offset size message = (0 < size) × ((offset < behind) ⊎ (length message < offset + size))

-- the offset that a body names for a part that stands here: 0 where it is empty
abbrev pub named : List ℕ → ℕ → ℕ
named part at = if length part == 0 then 0 else at

-- the offsets that a body with one variable part names
abbrev pub places_of : ℕ → List ℕ → Places
places_of size part = record { behind = end_of_fixed size; first = named part (end_of_fixed size); second = 0 }

-- what is written behind the fixed part: the variable part, or one zero byte where it is empty and the size is odd
abbrev pub tail : ℕ → List ℕ → List ℕ
tail size part = if length part == 0 then replicate (size % 2) 0 else part

-- the one spelling of a body
unfoldable pub spelling : ℕ → List Field → List ℕ → List ℕ
spelling size fields part = bytes_of 2 size ++ (spelled (places_of size part) fields ++ tail size part)

-- a body of this size, with these fields and this variable part, stands in a message
abbrev pub IsBody : ℕ → List Field → List ℕ → List ℕ → Type 0
IsBody size fields part message =
    (end_of_fixed size ≤ length message)
    × (number_at 2 64 message ≡ size)
    × Holds (Lends (end_of_fixed size) part message) (λ (offset : ℕ). ⊤) (end_of_fixed size) 66 fields message

-- behind any header, and whatever follows it, a body's spelling is read as that body
unfoldable pub IsReadAgain : ℕ → List Field → List ℕ → Type 0
IsReadAgain size fields part =
    (header rest : List ℕ) → length header ≡ 64 → IsBody size fields part (header ++ (spelling size fields part ++ rest))

-- a writer appends a body's spelling, which is read again and is as long as the fixed part and what is behind it, and for want of
-- memory changes nothing
abbrev pub WritesBody : {A E : Type 0} → ℕ → List Field → List ℕ → List ℕ → List ℕ → Result A E → Type 0
WritesBody size fields part old new (Ok done) =
    (new ≡ old ++ spelling size fields part)
    × IsReadAgain size fields part
    × (length (spelling size fields part) ≡ size - size % 2 + length (tail size part))
WritesBody size fields part old new (Err fault) = new ≡ old

-- what a reader of a body answers: a value that stands in the message, or the first that holds of: the message is shorter than
-- the fixed part; the structure size is another; a field has a wrong value; a variable part strays
abbrev pub Reads : {X : Type 0} → ℕ → (X → Type 0) → Type 0 → Type 0 → List ℕ → Result X BodyFault → Type 0
Reads size stands wrong strays message (Ok x) = stands x
Reads size stands wrong strays message (Err Short) = length message < end_of_fixed size
Reads size stands wrong strays message (Err Size) = (end_of_fixed size ≤ length message) × (number_at 2 64 message ≢ size)
Reads size stands wrong strays message (Err Value) = (end_of_fixed size ≤ length message) × (number_at 2 64 message ≡ size) × wrong
Reads size stands wrong strays message (Err Offset) =
    (end_of_fixed size ≤ length message) × (number_at 2 64 message ≡ size) × ¬ wrong × strays
