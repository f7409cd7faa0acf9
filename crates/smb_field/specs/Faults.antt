-- What is wrong with a body that has one variable part at most, by its numbers alone: the first fault, if there is one.
use Rattle.std.specs.Prelude.{ℕ, ◌+◌, ◌==◌, Bool, not, ◌&&◌, ◌||◌, nat_lt, if◌then◌else◌, List, length, Option, Some, None}
use Rattle.smb_le.specs.Numbers.{number_at}
use Rattle.smb_field.specs.declared.field.BodyFault.{BodyFault}
use Rattle.smb_field.specs.declared.field.BodyFault.TheVariants.{Short, Size, Offset}
use Rattle.smb_field.specs.Body.{end_of_fixed}

-- a variable part of so many bytes leaves the message, or begins before the end of the fixed part; that of no byte may lie anywhere
abbrev pub strays : ℕ → ℕ → ℕ → List ℕ → Bool
strays behind offset many message = not (many == 0) && (nat_lt offset behind || nat_lt (length message) (offset + many))

-- the first fault of a body of this size: the fixed part is not there, the size is another, the variable part strays
abbrev pub fault_of : ℕ → Bool → List ℕ → Option BodyFault
fault_of size stray message =
    if nat_lt (length message) (end_of_fixed size) then Some Short
    else (if number_at 2 64 message == size then (if stray then Some Offset else None) else Some Size)

-- the error body (MS-SMB2 2.2.2): as many bytes as stand at 68, from 72 on
abbrev pub error_fault : List ℕ → Option BodyFault
error_fault message = fault_of 9 (strays 72 72 (number_at 4 68 message) message) message
