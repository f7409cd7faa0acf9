-- The words that are paths and targets: UTF-8 without a zero byte, in which any byte may be written as `%` and two upper-case hex digits.
use Rattle.std.specs.Prelude.{ℕ, ◌<◌, ◌+◌, ◌-◌, ◌*◌, ◌==◌, Bool, ◌&&◌, not, nat_le, if◌then◌else◌, List, [], ◌∷◌, ◌++◌, slice_index}
use Rattle.std.specs.Prelude.{Option, Some, None, option_map, option_to_list, Result, Ok, Err}
use Rattle.std.specs.List.{list_any}
use Rattle.std.specs.Str.{is_utf8}
use Rattle.fs_script.specs.declared.line.LineFault.{LineFault}
use Rattle.fs_script.specs.declared.line.LineFault.TheVariants.{Path}
use Rattle.fs_script.specs.Words.{◌>>=◌}
use Rattle.fs_script.specs.declared.text.Escape.{Escape}
use Rattle.fs_script.specs.declared.text.Escape.TheVariants.{Outside, Percent, Digit}

-- the value of an upper-case hex digit
abbrev pub upper_value : ℕ → Option ℕ
upper_value b =
    if nat_le 0x30 b && nat_le b 0x39 then Some (b - 0x30)
    else if nat_le 0x41 b && nat_le b 0x46 then Some (b - 0x37)
    else None

-- what comes behind a byte of a word, and which byte it stands for, if it ends one: a byte stands for itself, but a `%` begins an
-- escape, which two digits have to end
abbrev pub behind : Escape → ℕ → Option (Escape × Option ℕ)
behind Outside b = if b == 0x25 then Some (Percent, None) else Some (Outside, Some b)
behind Percent b = option_map (λ high. (Digit high, None)) (upper_value b)
behind (Digit high) b = option_map (λ low. (Outside, Some (16 * high + low))) (upper_value b)

-- a digit is below 16
abbrev pub IsSound : Escape → Type 0
IsSound (Digit high) = high < 16
IsSound begun = Unit {0}

-- the byte that a step gives, if it gives one, stands before what the rest stands for
abbrev pub given_then : Option (Escape × Option ℕ) → (Escape → Option (List ℕ)) → Option (List ℕ)
given_then None rest = None
given_then (Some x) rest = option_map (λ more. option_to_list x.1 ++ more) (rest x.0)

-- what the rest of a word stands for, where an escape may have begun
abbrev pub unescaped_in : Escape → List ℕ → Option (List ℕ)
unescaped_in Outside [] = Some []
unescaped_in begun [] = None
unescaped_in begun (b ∷ rest) = given_then (behind begun b) (λ next. unescaped_in next rest)

abbrev pub whole : Option (List ℕ) → Result (List ℕ) LineFault
whole None = Err Path
whole (Some bytes) = Ok bytes

-- the bytes that a word stands for
abbrev pub unescaped : List ℕ → Result (List ℕ) LineFault
unescaped word = whole (unescaped_in Outside word)

-- UTF-8 without a zero byte
abbrev pub is_text : List ℕ → Bool
is_text bytes = not (list_any (λ b. b == 0) bytes) && is_utf8 bytes

-- the target of a link, which may be empty
abbrev pub as_target : List ℕ → Result (List ℕ) LineFault
as_target bytes = if is_text bytes then Ok bytes else Err Path

abbrev pub target_of : List ℕ → Result (List ℕ) LineFault
target_of word = unescaped word >>= as_target

-- a path begins with a slash
abbrev pub as_path : List ℕ → Result (List ℕ) LineFault
as_path bytes = if slice_index bytes 0 == 0x2F then Ok bytes else Err Path

abbrev pub path_of : List ℕ → Result (List ℕ) LineFault
path_of word = target_of word >>= as_path
