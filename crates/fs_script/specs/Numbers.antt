-- The words that are numbers.
use Rattle.std.specs.Prelude.{ℕ, ◌+◌, ◌-◌, ◌*◌, ◌==◌, Bool, ◌&&◌, ◌||◌, nat_le, nat_lt, if◌then◌else◌, List, [], ◌∷◌, slice_index, codes, Result, Ok, Err}
use Rattle.std.specs.List.{list_all}
use Rattle.std.specs.Str.{bytes_eq}
use Rattle.std.specs.Str.Parse.{digits_value}
use Rattle.fs_script.specs.declared.line.LineFault.{LineFault}
use Rattle.fs_script.specs.declared.line.LineFault.TheVariants.{Number}

abbrev pub is_digit : ℕ → Bool
is_digit b = nat_le 0x30 b && nat_le b 0x39

-- decimal digits, of which the first is 0 in the word `0` alone
abbrev pub is_number : List ℕ → Bool
is_number word = list_all is_digit word && (bytes_eq word (codes "0") || nat_lt 0x30 (slice_index word 0))

-- a number of at most so much
abbrev pub number_of : ℕ → List ℕ → Result ℕ LineFault
number_of most word = if is_number word && nat_le (digits_value 10 word) most then Ok (digits_value 10 word) else Err Number

-- the most that the number of a descriptor may be, and any other number
abbrev pub most_descriptor : ℕ
most_descriptor = 4294967295

abbrev pub most : ℕ
most = 9223372036854775807

abbrev pub is_octal : ℕ → Bool
is_octal b = nat_le 0x30 b && nat_le b 0x37

-- a mode: four octal digits, at most 0777
abbrev pub mode_of : List ℕ → Result ℕ LineFault
mode_of (front ∷ a ∷ b ∷ c ∷ []) =
    if front == 0x30 && is_octal a && is_octal b && is_octal c then Ok (64 * (a - 0x30) + 8 * (b - 0x30) + (c - 0x30)) else Err Number
mode_of other = Err Number
