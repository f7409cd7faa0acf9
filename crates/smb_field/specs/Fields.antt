-- The fields of a body, one after another, as the tables of MS-SMB2 2.2 list them: how wide each is, what it says of a message,
-- and how it is written.
use Rattle.std.specs.Prelude.{◌≡◌, ℕ, ◌+◌, ◌^◌, ◌<◌, length, List, [], ◌∷◌, ◌++◌, slice_index, slice_range, ⊤}
use Rattle.smb_le.specs.Numbers.{number_at, bytes_of}
use Rattle.smb_field.specs.declared.field.Field.{Field}
use Rattle.smb_field.specs.declared.field.Field.TheVariants.{U8, U16, U32, U64, Block, Name, Any8, Any16, Any32, Any64, Place8, Offset16, Offset32, Second32, Follows}
use Rattle.smb_field.specs.declared.field.Places.{Places}

-- how many bytes a field takes
abbrev pub width : Field → ℕ
width (U8 n) = 1
width (U16 n) = 2
width (U32 n) = 4
width (U64 n) = 8
width (Block bytes) = 16
width (Name bytes) = 4
width (Any8 n) = 1
width (Any16 n) = 2
width (Any32 n) = 4
width (Any64 n) = 8
width Place8 = 1
width Offset16 = 2
width Offset32 = 4
width Second32 = 4
width Follows = 0

-- how many bytes fields take
abbrev pub width_of : List Field → ℕ
width_of [] = 0
width_of (f ∷ fields) = width f + width_of fields

-- what a field says of a message that has it at an offset. The offset of the variable part, or of the second one, meets
-- what is said of it; where no field has it, it is the end of the fixed part, `behind`.
abbrev pub Says : (ℕ → Type 0) → (ℕ → Type 0) → ℕ → ℕ → Field → List ℕ → Type 0
Says first second behind at (U8 n) message = slice_index message at ≡ n
Says first second behind at (U16 n) message = number_at 2 at message ≡ n
Says first second behind at (U32 n) message = number_at 4 at message ≡ n
Says first second behind at (U64 n) message = number_at 8 at message ≡ n
Says first second behind at (Block bytes) message = slice_range message at (at + 16) ≡ bytes
Says first second behind at (Name bytes) message = slice_range message at (at + 4) ≡ bytes
Says first second behind at (Any8 n) message = ⊤
Says first second behind at (Any16 n) message = ⊤
Says first second behind at (Any32 n) message = ⊤
Says first second behind at (Any64 n) message = ⊤
Says first second behind at Place8 message = first (slice_index message at)
Says first second behind at Offset16 message = first (number_at 2 at message)
Says first second behind at Offset32 message = first (number_at 4 at message)
Says first second behind at Second32 message = second (number_at 4 at message)
Says first second behind at Follows message = first behind

-- fields stand one after another in a message, from an offset on
abbrev pub Holds : (ℕ → Type 0) → (ℕ → Type 0) → ℕ → ℕ → List Field → List ℕ → Type 0
Holds first second behind at [] message = ⊤
Holds first second behind at (f ∷ fields) message =
    Says first second behind at f message × Holds first second behind (at + width f) fields message

-- how a field is written
abbrev pub spelled_field : Places → Field → List ℕ
spelled_field places (U8 n) = n ∷ []
spelled_field places (U16 n) = bytes_of 2 n
spelled_field places (U32 n) = bytes_of 4 n
spelled_field places (U64 n) = bytes_of 8 n
spelled_field places (Block bytes) = bytes
spelled_field places (Name bytes) = bytes
spelled_field places (Any8 n) = n ∷ []
spelled_field places (Any16 n) = bytes_of 2 n
spelled_field places (Any32 n) = bytes_of 4 n
spelled_field places (Any64 n) = bytes_of 8 n
spelled_field places Place8 = places.behind ∷ []
spelled_field places Offset16 = bytes_of 2 places.first
spelled_field places Offset32 = bytes_of 4 places.first
spelled_field places Second32 = bytes_of 4 places.second
spelled_field places Follows = []

-- how fields are written, one after another
unfoldable pub spelled : Places → List Field → List ℕ
spelled places [] = []
spelled places (f ∷ fields) = spelled_field places f ++ spelled places fields

-- a field's number fits its width, a block has sixteen bytes, and a name four
abbrev pub Fits : Field → Type 0
Fits (U8 n) = n < 256
Fits (U16 n) = n < 2 ^ 16
Fits (U32 n) = n < 2 ^ 32
Fits (U64 n) = n < 2 ^ 64
Fits (Block bytes) = length bytes ≡ 16
Fits (Name bytes) = length bytes ≡ 4
Fits (Any8 n) = n < 256
Fits (Any16 n) = n < 2 ^ 16
Fits (Any32 n) = n < 2 ^ 32
Fits (Any64 n) = n < 2 ^ 64
Fits Place8 = ⊤
Fits Offset16 = ⊤
Fits Offset32 = ⊤
Fits Second32 = ⊤
Fits Follows = ⊤

-- each field fits
abbrev pub AllFit : List Field → Type 0
AllFit [] = ⊤
AllFit (f ∷ fields) = Fits f × AllFit fields
