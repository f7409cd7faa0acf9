-- Frames on a stream of bytes (MS-SMB2 2.1, the transport over TCP): one zero byte, the length in three bytes with the highest
-- first, and that many bytes.
use Rattle.std.specs.Prelude.{◌≡◌, ◌==◌, ◌≤◌, ◌+◌, ◌-◌, ◌*◌, ◌/◌, ◌%◌, ℕ, zero, suc, List, [], ◌∷◌, ◌++◌, length, take, drop, slice_index, nat_lt, if◌then◌else◌, Option, Some, None}
use Rattle.smb_head.specs.declared.first.TheConstants.{MAX_FRAME}
use Rattle.smb_head.specs.declared.first.FrameFault.{FrameFault}
use Rattle.smb_head.specs.declared.first.FrameFault.TheVariants.{NotZero, TooLarge, NoMemory}

-- the four bytes in front of so many
abbrev pub prefix : ℕ → List ℕ
prefix n = 0 ∷ n / 65536 % 256 ∷ n / 256 % 256 ∷ n % 256 ∷ []

-- a message as a frame
abbrev pub frame : List ℕ → List ℕ
frame message = prefix (length message) ++ message

-- what may be sent as a frame
abbrev pub IsMessage : List ℕ → Type 0
IsMessage message = length message ≤ MAX_FRAME

-- the length that bytes 1 to 3 name
abbrev pub frame_length : List ℕ → ℕ
frame_length bytes = slice_index bytes 1 * 65536 + (slice_index bytes 2 * 256 + slice_index bytes 3)

-- what bytes begin with: less than a frame, a whole frame (its message, and the bytes after it), or what no frame begins with
pub data First : Type 0 where
  Partial : First
  Whole : List ℕ → List ℕ → First
  Bad : FrameFault → First

-- A first byte that is not zero is a fault at once, a length above the limit as soon as it is there.
unfoldable pub first_of : List ℕ → First
first_of bytes =
    if slice_index bytes 0 == 0 then
    (if nat_lt (length bytes) 4 then Partial
    else (if nat_lt MAX_FRAME (frame_length bytes) then Bad (TooLarge (frame_length bytes))
    else (if nat_lt (length bytes) (4 + frame_length bytes) then Partial
    else Whole (take (frame_length bytes) (drop 4 bytes)) (drop (4 + frame_length bytes) bytes))))
    else Bad (NotZero (slice_index bytes 0))

-- a fault is one of the bytes; want of memory comes only where a frame is to be copied out
abbrev pub IsFault : FrameFault → First → Type 0
IsFault (NotZero byte) first = first ≡ Bad (NotZero byte)
IsFault (TooLarge n) first = first ≡ Bad (TooLarge n)
IsFault NoMemory first = (message rest : List ℕ) × (first ≡ Whole message rest)

-- how many bytes are missing before there is something to give: the rest of the four, then the rest of the frame
abbrev pub lack : First → List ℕ → ℕ
lack Partial bytes = if nat_lt (length bytes) 4 then 4 - length bytes else 4 + frame_length bytes - length bytes
lack (Whole message rest) bytes = 0
lack (Bad fault) bytes = 0

-- how many bytes are missing of what is held
abbrev pub lack_of : List ℕ → ℕ
lack_of bytes = lack (first_of bytes) bytes

-- a fault of the bytes, if there is one
abbrev pub fault_of : First → Option FrameFault
fault_of Partial = None
fault_of (Whole message rest) = None
fault_of (Bad fault) = Some fault

-- the messages of a frame and of those after it, and the bytes that are left
abbrev pub one_more : First → List ℕ → (List ℕ → List (List ℕ) × List ℕ) → List (List ℕ) × List ℕ
one_more Partial bytes others = ([], bytes)
one_more (Whole message rest) bytes others = (message ∷ (others rest).0, (others rest).1)
one_more (Bad fault) bytes others = ([], bytes)

-- what at most n steps take off: the messages, and the bytes that are left
abbrev pub taken_within : ℕ → List ℕ → List (List ℕ) × List ℕ
taken_within zero bytes = ([], bytes)
taken_within (suc n) bytes = one_more (first_of bytes) bytes (taken_within n)

-- the messages of the whole frames that bytes begin with, one after the other
unfoldable pub frames_in : List ℕ → List (List ℕ)
frames_in bytes = (taken_within (length bytes) bytes).0

-- the bytes that are left behind these frames
unfoldable pub rest_in : List ℕ → List ℕ
rest_in bytes = (taken_within (length bytes) bytes).1

-- the fault that ends a stream, if there is one
abbrev pub fault_in : List ℕ → Option FrameFault
fault_in bytes = fault_of (first_of (rest_in bytes))
