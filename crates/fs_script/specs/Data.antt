-- The words that are bytes.
use Rattle.std.specs.Prelude.{ℕ, ◌==◌, Bool, ◌&&◌, ◌||◌, not, nat_le, if◌then◌else◌, List, [], length, codes, Result, Ok, Err}
use Rattle.std.specs.List.{list_all}
use Rattle.std.specs.Str.{bytes_eq}
use Rattle.hex.specs.Hex.{decode_of}
use Rattle.hex.specs.declared.error.FromHexError.{FromHexError}
use Rattle.fs_script.specs.declared.line.LineFault.{LineFault}
use Rattle.fs_script.specs.declared.line.LineFault.TheVariants.{Hex}

-- a digit from 0 to 9 or from a to f
abbrev pub is_lower : ℕ → Bool
is_lower b = (nat_le 0x30 b && nat_le b 0x39) || (nat_le 0x61 b && nat_le b 0x66)

-- the bytes of digits, two for each
abbrev pub decoded : Result (List ℕ) FromHexError → Result (List ℕ) LineFault
decoded (Ok bytes) = Ok bytes
decoded (Err fault) = Err Hex

-- bytes: two lower-case hex digits for each, and `-` where there is none
abbrev pub data_of : List ℕ → Result (List ℕ) LineFault
data_of word =
    if bytes_eq word (codes "-") then Ok []
    else if not (length word == 0) && list_all is_lower word then decoded (decode_of word)
    else Err Hex
