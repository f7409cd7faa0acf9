-- What `parse` reads of a number.
use Rattle.std.proofs.Common.{rules, ◌≡◌, ◌<◌, ◌^◌, if◌then◌else◌, ◌&&◌, ◌||◌, ℕ, Bool, true, false, List, [], ◌∷◌, length, get_or, Ok, Err, codes, nat_le, nat_lt, refl, arith}
use Rattle.std.specs.List.{list_all}
use Rattle.std.specs.Str.{bytes_eq}
use Rattle.std.specs.Str.Parse.{ParsesUnsigned, digits_value}
use Rattle.std.proofs.lemmas.Bool.{and_parts}
use Rattle.std.proofs.lemmas.Bool.Decides.{nat_tests}
use Rattle.std.proofs.lemmas.Str.Parse.{IsNumeralModel, IsDigitsTest, numerals_by_value, parse_digits}
use Rattle.fs_script.specs.declared.line.LineFault.TheVariants.{Number}
use Rattle.fs_script.specs.Numbers.{is_digit, is_number, number_of}

tells : IsDigitsTest (λ ds. list_all is_digit ds ≡ true)
tells = search rules

pub own : IsNumeralModel (λ ds. list_all is_digit ds ≡ true) (digits_value 10)
own = numerals_by_value (λ ds. list_all is_digit ds ≡ true) tells

-- a number has a digit
some_digit : (word : List ℕ) → (bytes_eq word (codes "0") || nat_lt 0x30 (get_or word 0 0)) ≡ true → 0 < length word
some_digit [] h = absurd (let both : false ≡ true = h in cc)
some_digit (b ∷ bs) h = omega arith

-- a number that cannot be read is too great
pub number_unread : {E : Type 0} (most : ℕ) (word : List ℕ) (fault : E) → is_number word ≡ true → most < 2 ^ 64
    → ParsesUnsigned {E = E} 64 10 word (Err fault) → number_of most word ≡ Err Number
number_unread {E} most word fault is small parsed =
    let parts = and_parts (list_all is_digit word) (bytes_eq word (codes "0") || nat_lt 0x30 (get_or word 0 0)) is in
    let not = parse_digits own {E = E} 64 word (Err fault) parsed parts.0 in
    by (digits_value 10 word) (λ below. not (some_digit word parts.1, below)) (nat_le (digits_value 10 word) most) refl
  where
    by : (value : ℕ) → (value < 2 ^ 64 → ⊥) → (fits : Bool) → nat_le value most ≡ fits → (if is_number word && fits then Ok value else Err Number) ≡ Err Number
    by value large true fits = absurd (large (grind (arith, nat_tests)))
    by value large false fits = rw is refl
