-- A port's text and its number.
use Rattle.std.proofs.Common.{◌≡◌, ◌≢◌, ◌≤◌, ◌<◌, ◌^◌, ℕ, zero, suc, List, get_or, Result, Ok, Err, IfSome, IfNone, sym, ap, ◌∙◌, arith}
use Rattle.std.specs.Result.{result_ok}
use Rattle.std.specs.Fmt.{decimal}
use Rattle.std.specs.Str.Parse.{ParsesUnsigned, AllDigits, digits_value}
use Rattle.std.proofs.lemmas.Str.Parse.{IsNumeralModel, numerals_by_value, tells_digits, parse_plain, digit_at}
use Rattle.std.proofs.lemmas.Fmt.{decimal-digits_value, parse-decimal, first_decimal, decimal_digit, decimal_nonempty, digits_decimal}

own : IsNumeralModel (AllDigits 10) (digits_value 10)
own = numerals_by_value (AllDigits 10) tells_digits

-- the decimal text of 0 begins with its digit
not_zero : (n : ℕ) (bs : List ℕ) → bs ≡ decimal n → 49 ≤ get_or bs 0 0 → 1 ≤ n
not_zero zero bs text low =
    let first : get_or bs 0 0 ≡ 48 = ap (λ (xs : List ℕ). get_or xs 0 0) (text ∙ decimal_digit 0 (omega arith)) in
    absurd (omega arith)
not_zero (suc n) bs text low = omega arith

-- a text of digits that begins with none of them 0 is the decimal text of its number, which is not 0
pub port_found : {E : Type 0} (bs : List ℕ) (r : Result ℕ E) → ParsesUnsigned 16 10 bs r → 49 ≤ get_or bs 0 0 → get_or bs 0 0 ≤ 57
    → IfSome (result_ok r) (λ port. (bs ≡ decimal port) × (1 ≤ port))
port_found bs (Err e) h low high = tt
port_found {E} bs (Ok n) h low high =
    let plain : get_or bs 0 0 ≢ 43 = omega arith in
    let p = parse_plain own {E = E} 16 bs (Ok n) h plain in
    let back : decimal (digits_value 10 bs) ≡ bs = decimal-digits_value own bs p.0.0 p.0.1 (λ zero. absurd (omega arith)) (omega (arith, p.0.2)) in
    let text : bs ≡ decimal n = sym back ∙ ap decimal (sym p.1) in
    (text, not_zero n bs text low)

-- the decimal text of a port is read as its number
pub port_read : {E : Type 0} (bs : List ℕ) (r : Result ℕ E) → ParsesUnsigned 16 10 bs r
    → IfNone (result_ok r) ((port : ℕ) → bs ≡ decimal port → 1 ≤ port → port ≤ 65535 → ⊥)
port_read bs (Ok n) h = tt
port_read bs (Err e) h = λ port text low high. cc (parse-decimal 16 port bs (Err e) (omega arith) (omega arith) text h)

-- and it begins with one of the digits 1 to 9
pub port_begins : (bs : List ℕ) (port : ℕ) → bs ≡ decimal port → 1 ≤ port → port ≤ 65535 → (49 ≤ get_or bs 0 0) × (get_or bs 0 0 ≤ 57)
port_begins bs port text low high =
    let small : port < 2 ^ 64 = omega arith in
    let first = first_decimal port low small in
    let range = digit_at (decimal port) 0 (digits_decimal own port small) (decimal_nonempty port small) in
    rw text (omega arith, omega (arith, range))
