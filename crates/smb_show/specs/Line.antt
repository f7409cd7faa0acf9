-- A line of the input.
use Rattle.std.specs.Prelude.{ℕ, ◌==◌, ◌||◌, Bool, not, if◌then◌else◌, List, [], length, codes, bytes_eq, slice_index, Result, Ok}
use Rattle.hex.specs.Hex.{decode_of}
use Rattle.hex.specs.declared.error.FromHexError.{FromHexError}

-- a vector, where a line is neither empty nor begins with `#`
abbrev pub is_vector : List ℕ → Bool
is_vector line = not (length line == 0 || slice_index line 0 == 0x23)

-- the bytes that the second word of a vector spells: `-` none, and else two hex digits each
abbrev pub bytes_of : List ℕ → Result (List ℕ) FromHexError
bytes_of digits = if bytes_eq digits (codes "-") then Ok [] else decode_of digits
