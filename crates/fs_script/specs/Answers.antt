-- The text of each answer, and its line.
use Rattle.std.specs.Prelude.{ℕ, ◌+◌, ◌/◌, ◌%◌, ◌==◌, Bool, not, ◌&&◌, nat_le, nat_lt, if◌then◌else◌, List, [], ◌∷◌, ◌++◌, length, codes}
use Rattle.std.specs.Prelude.{Option, Some, None}
use Rattle.std.specs.Fmt.{decimal}
use Rattle.std.specs.List.{flat_map}
use Rattle.hex.specs.Hex.{encode_lower, encode_upper}
use Rattle.smb_base.specs.declared.names.Status.{Status}
use Rattle.fs_types.specs.declared.answer.Answer.{Answer}
use Rattle.fs_types.specs.declared.answer.Answer.TheVariants.{Done, Descriptor, Count, Bytes, At, Stat, Target, Names, Room, Err}
use Rattle.fs_types.specs.declared.answer.StatOf.{StatOf}
use Rattle.fs_types.specs.declared.answer.Listing.{Listing}
use Rattle.fs_types.specs.declared.names.Kind.{Kind}
use Rattle.fs_types.specs.declared.names.Kind.TheVariants.{File, Dir, Link}

-- an upper-case hex digit
abbrev pub upper_digit : ℕ → ℕ
upper_digit n = if nat_lt n 10 then 48 + n else 55 + n

-- a byte that stands for itself in a name: 0x21 to 0x7E, but not `%`
abbrev pub is_plain : ℕ → Bool
is_plain b = nat_le 0x21 b && nat_le b 0x7E && not (b == 0x25)

-- any other is written as `%` and its two hex digits
abbrev pub escaped_byte : ℕ → List ℕ
escaped_byte b = if is_plain b then b ∷ [] else 0x25 ∷ upper_digit (b / 16) ∷ upper_digit (b % 16) ∷ []

-- a name
abbrev pub escaped : List ℕ → List ℕ
escaped name = flat_map escaped_byte name

-- bytes in hex, and `-` where there is none
abbrev pub data_text : List ℕ → List ℕ
data_text bytes = if length bytes == 0 then codes "-" else encode_lower bytes

abbrev pub kind_text : Kind → List ℕ
kind_text File = codes "file"
kind_text Dir = codes "dir"
kind_text Link = codes "link"

-- the low twelve bits of a mode in four octal digits
abbrev pub mode_text : ℕ → List ℕ
mode_text mode = (48 + mode / 512 % 8) ∷ (48 + mode / 64 % 8) ∷ (48 + mode / 8 % 8) ∷ (48 + mode % 8) ∷ []

-- what is known of a file: its kind, size, mode, links and number
abbrev pub stat_text : StatOf → List ℕ
stat_text stat =
    codes "stat " ++ (kind_text stat.kind
    ++ (codes " " ++ (decimal stat.size
    ++ (codes " " ++ (mode_text stat.mode
    ++ (codes " " ++ (decimal stat.links
    ++ (codes " " ++ decimal stat.number))))))))

-- how a listing marks a name: `d` a directory, `f` all else
abbrev pub kind_mark : Kind → List ℕ
kind_mark File = codes " f "
kind_mark Dir = codes " d "
kind_mark Link = codes " f "

abbrev pub entry_text : List ℕ × Kind → List ℕ
entry_text entry = kind_mark entry.1 ++ escaped entry.0

-- the names of a directory: how many there are, how many have no text, and each with its mark
abbrev pub listing_text : Listing → List ℕ
listing_text listing =
    codes "list " ++ (decimal (length listing.names)
    ++ (codes " " ++ (decimal listing.bad
    ++ flat_map entry_text listing.names)))

-- a status in eight hex digits
abbrev pub status_text : ℕ → List ℕ
status_text status = encode_upper (status / 16777216 ∷ status / 65536 % 256 ∷ status / 256 % 256 ∷ status % 256 ∷ [])

-- an error number, and the status where there is one
abbrev pub error_text : ℕ → Option Status → List ℕ
error_text number None = codes "err " ++ decimal number
error_text number (Some status) = codes "err " ++ (decimal number ++ (codes " " ++ status_text status.0))

-- the text of an answer
abbrev pub text_of : Answer → List ℕ
text_of Done = codes "ok"
text_of (Descriptor fd) = codes "fd " ++ decimal fd.0
text_of (Count count) = codes "count " ++ decimal count
text_of (Bytes bytes) = codes "data " ++ data_text bytes
text_of (At offset) = codes "at " ++ decimal offset
text_of (Stat stat) = stat_text stat
text_of (Target target) = codes "link " ++ escaped target
text_of (Names listing) = listing_text listing
text_of (Room total free) = codes "room " ++ (decimal total ++ (codes " " ++ decimal free))
text_of (Err errno status) = error_text errno.0 status

-- the line of an answer: its number, its text, and a line feed
abbrev pub line_of : ℕ → Answer → List ℕ
line_of number answer = decimal number ++ (codes " " ++ (text_of answer ++ 10 ∷ []))
