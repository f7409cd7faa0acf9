-- A body with two variable parts, as a CREATE request has (MS-SMB2 2.2.13): the second one stands at a multiple of 8.
use Rattle.std.specs.Prelude.{◌≡◌, ℕ, ◌+◌, ◌-◌, ◌*◌, ◌/◌, ◌%◌, ◌≤◌, ◌==◌, if◌then◌else◌, List, ◌++◌, length, replicate, Result, Ok, Err}
use Rattle.smb_le.specs.Numbers.{number_at, bytes_of}
use Rattle.smb_field.specs.declared.field.Field.{Field}
use Rattle.smb_field.specs.declared.field.Places.{Places}
use Rattle.smb_field.specs.Fields.{Holds, spelled}
use Rattle.smb_field.specs.Body.{end_of_fixed, Lends, named, tail}

-- the least multiple of 8, counted from the header, that is not below the end of the first part
abbrev pub second_place : ℕ → List ℕ → ℕ
second_place size first = (end_of_fixed size + length first + 7) / 8 * 8

-- the offsets that a body with two variable parts names
abbrev pub places_of_two : ℕ → List ℕ → List ℕ → Places
places_of_two size first second =
    record { behind = end_of_fixed size; first = named first (end_of_fixed size); second = named second (second_place size first) }

-- what is written behind the fixed part: the first part, zero bytes up to the place of the second, and the second; where the
-- second is empty, what a body with the first part alone has there
abbrev pub tail_of_two : ℕ → List ℕ → List ℕ → List ℕ
tail_of_two size first second =
    if length second == 0 then tail size first
    else first ++ (replicate (second_place size first - (end_of_fixed size + length first)) 0 ++ second)

-- the one spelling of a body with two variable parts
unfoldable pub spelling_of_two : ℕ → List Field → List ℕ → List ℕ → List ℕ
spelling_of_two size fields first second =
    bytes_of 2 size ++ (spelled (places_of_two size first second) fields ++ tail_of_two size first second)

-- a body of this size, with these fields and these variable parts, stands in a message
abbrev pub IsBodyOfTwo : ℕ → List Field → List ℕ → List ℕ → List ℕ → Type 0
IsBodyOfTwo size fields first second message =
    (end_of_fixed size ≤ length message)
    × (number_at 2 64 message ≡ size)
    × Holds (Lends (end_of_fixed size) first message) (Lends (end_of_fixed size) second message) (end_of_fixed size) 66 fields message

-- behind any header, and whatever follows it, the spelling is read as that body
unfoldable pub IsTwoReadAgain : ℕ → List Field → List ℕ → List ℕ → Type 0
IsTwoReadAgain size fields first second =
    (header rest : List ℕ) → length header ≡ 64
    → IsBodyOfTwo size fields first second (header ++ (spelling_of_two size fields first second ++ rest))

-- a writer appends the spelling, which is read again and is as long as the fixed part and what is behind it, and for want of
-- memory changes nothing
abbrev pub WritesBodyOfTwo : {A E : Type 0} → ℕ → List Field → List ℕ → List ℕ → List ℕ → List ℕ → Result A E → Type 0
WritesBodyOfTwo size fields first second old new (Ok done) =
    (new ≡ old ++ spelling_of_two size fields first second)
    × IsTwoReadAgain size fields first second
    × (length (spelling_of_two size fields first second) ≡ size - size % 2 + length (tail_of_two size first second))
WritesBodyOfTwo size fields first second old new (Err fault) = new ≡ old
