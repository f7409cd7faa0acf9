-- A message as it is read: an exact function, whose row is a table of MS-SMB2 2.2 or MS-FSCC 2.4, one field after another from an
-- offset on. No row has an offset of its own: each field begins where the one before it ends.
use Rattle.std.specs.Prelude.{ℕ, ◌+◌, ◌==◌, Bool, ◌&&◌, ◌||◌, nat_lt, nat_le, if◌then◌else◌, List, [], ◌∷◌, length, slice_index, slice_range, Option, Some, None, Result, Ok, Err}
use Rattle.smb_base.specs.declared.names.Fid.{Fid}
use Rattle.smb_le.specs.Numbers.{number_at}
use Rattle.smb_field.specs.declared.field.BodyFault.{BodyFault}
use Rattle.smb_field.specs.declared.field.BodyFault.TheVariants.{Short, Size, Value, Offset}
use Rattle.smb_field.specs.Body.{end_of_fixed}

-- a byte, and the row behind it
abbrev pub byte : {X : Type 0} → (ℕ → ℕ → List ℕ → X) → ℕ → List ℕ → X
byte rest at message = rest (slice_index message at) (at + 1) message

-- a number of w bytes
abbrev pub number : {X : Type 0} → ℕ → (ℕ → ℕ → List ℕ → X) → ℕ → List ℕ → X
number w rest at message = rest (number_at w at message) (at + w) message

-- so many bytes as they are
abbrev pub block : {X : Type 0} → ℕ → (List ℕ → ℕ → List ℕ → X) → ℕ → List ℕ → X
block many rest at message = rest (slice_range message at (at + many)) (at + many) message

-- so many bytes that are not looked at
abbrev pub skip : {X : Type 0} → ℕ → (ℕ → List ℕ → X) → ℕ → List ℕ → X
skip many rest at message = rest (at + many) message

-- the two halves of a file id
abbrev pub file_id : {X : Type 0} → (Fid → ℕ → List ℕ → X) → ℕ → List ℕ → X
file_id rest = number 8 (λ persistent. number 8 (λ volatile. rest (record { persistent = persistent; volatile = volatile })))

-- the times of creation, last access, last write and change
abbrev pub times : {X : Type 0} → (List ℕ → ℕ → List ℕ → X) → ℕ → List ℕ → X
times rest = number 8 (λ a. number 8 (λ b. number 8 (λ c. number 8 (λ d. rest (a ∷ b ∷ c ∷ d ∷ [])))))

-- the end of a row: what is read
abbrev pub value : {X E : Type 0} → X → ℕ → List ℕ → Result X E
value x at message = Ok x

-- a variable part of so many bytes lies in a message behind its fixed part; that of no byte may lie anywhere
abbrev pub lies_behind : ℕ → ℕ → ℕ → List ℕ → Bool
lies_behind behind offset many message = many == 0 || (nat_le behind offset && nat_le (offset + many) (length message))

-- the bytes of such a part; none where it does not lie there
unfoldable pub part_in : ℕ → ℕ → ℕ → List ℕ → Option (List ℕ)
part_in behind offset many message =
    if lies_behind behind offset many message then Some (slice_range message offset (offset + many)) else None

-- what is read with a part, and the fault where it does not lie there
abbrev pub with_part : {X E : Type 0} → E → Option (List ℕ) → (List ℕ → Result X E) → Result X E
with_part fault None read = Err fault
with_part fault (Some bytes) read = read bytes

-- the variable part of a body of this size, of so many bytes at an offset
abbrev pub part : {X : Type 0} → ℕ → ℕ → ℕ → (List ℕ → ℕ → List ℕ → Result X BodyFault) → ℕ → List ℕ → Result X BodyFault
part size offset many rest at message =
    with_part Offset (part_in (end_of_fixed size) offset many message) (λ bytes. rest bytes at message)

-- so many bytes that follow the fixed part, where no field has their offset
abbrev pub follows : {X : Type 0} → ℕ → ℕ → (List ℕ → ℕ → List ℕ → Result X BodyFault) → ℕ → List ℕ → Result X BodyFault
follows size many = part size (end_of_fixed size) many

-- a value that a field has to have
abbrev pub right : {X : Type 0} → Bool → (ℕ → List ℕ → Result X BodyFault) → ℕ → List ℕ → Result X BodyFault
right is rest at message = if is then rest at message else Err Value

-- a body of this size in a message: its structure size stands behind the header, and its row behind that
abbrev pub body : {X : Type 0} → ℕ → (ℕ → List ℕ → Result X BodyFault) → List ℕ → Result X BodyFault
body size row message =
    if nat_lt (length message) (end_of_fixed size) then Err Short
    else if number_at 2 64 message == size then row 66 message else Err Size

-- a structure of this width, from its own start on
abbrev pub structure : {X E : Type 0} → E → ℕ → (ℕ → List ℕ → Result X E) → List ℕ → Result X E
structure short width row bytes = if nat_lt (length bytes) width then Err short else row 0 bytes

-- what a function answered, as a value
abbrev pub seen_as : {X Y E : Type 0} → (X → Y) → Result X E → Result Y E
seen_as see (Ok x) = Ok (see x)
seen_as see (Err fault) = Err fault

-- what is said of a message that reads as a value, and of one that does not
abbrev pub if_read : {X E : Type 0} {Y : Type 0} → Result X E → (X → Y) → Y → Y
if_read (Ok x) says otherwise = says x
if_read (Err fault) says otherwise = otherwise
