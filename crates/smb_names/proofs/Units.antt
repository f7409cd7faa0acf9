-- Characters in UTF-16.
use Rattle.std.proofs.Common.{◌≡◌, ℕ, ◌+◌, ◌-◌, ◌/◌, ◌%◌, ◌<◌, ◌≤◌, Bool, true, false, not, ◌&&◌, List, [], ◌∷◌, ◌++◌, map, length, refl, sym, ap, ◌∙◌, arith, length-append, inl, inr}
use Rattle.std.proofs.Common.{Some, is_some}
use Rattle.std.specs.List.{list_any}
use Rattle.std.specs.Str.{chars, IsUtf8}
use Rattle.std.specs.Char.{encode_utf8}
use Rattle.std.specs.Char.Escape.{encode_utf16}
use Rattle.std.specs.Char.Utf16.{utf16_chars, surrogate_pair_char, has_unpaired_surrogate}
use Rattle.std.proofs.lemmas.Str.{chars_past_char, encodes-chars, length-encode, utf16_chars-nil, utf16_chars_lone, utf16_chars_pair}
use Rattle.std.proofs.str.Utf16.{IsPair, one_unit, two_units, lone_unit_char_low, lone_unit_char_high}
use Rattle.std.proofs.lemmas.Bool.{cases_lt}
use lib.Utf8.{encode, encodes, scalar, scalars, scalar_cases}
use Rattle.smb_names.specs.WireName.{utf16}

-- how many units a character has
pub length-encode_utf16 : (c n : ℕ) → (c < 0x1_0000 → n ≡ 1) → (0x1_0000 ≤ c → n ≡ 2) → length (encode_utf16 c) ≡ n
length-encode_utf16 c n one two = grind arith

-- no more than it has bytes
length-encode_utf16-le : (c : ℕ) → length (encode_utf16 c) ≤ length (encode c)
length-encode_utf16-le c = rw (length-encode c) (grind arith)

length-utf16-le-encodes : (cs : List ℕ) → length (utf16 cs) ≤ length (encodes cs)
length-utf16-le-encodes [] = omega arith
length-utf16-le-encodes (c ∷ cs) = omega (arith, length-utf16-le-encodes cs, length-encode_utf16-le c, length-append (encode_utf16 c) (utf16 cs), length-append (encode c) (encodes cs))

pub length-utf16-le : (bs : List ℕ) → IsUtf8 bs → length (utf16 (chars bs)) ≤ length bs
length-utf16-le bs text = omega (arith, length-utf16-le-encodes (chars bs), ap length (encodes-chars bs text))

pub utf16-step : (bs rest : List ℕ) (c : ℕ) → IsUtf8 bs → bs ≡ encode_utf8 c ++ rest → length (utf16 (chars bs)) ≡ length (encode_utf16 c) + length (utf16 (chars rest))
utf16-step bs rest c text begins = ap (λ cs. length (utf16 cs)) (chars_past_char bs rest c text begins) ∙ length-append (encode_utf16 c) (utf16 (chars rest))

pub both_true : (a b : Bool) → (a && b) ≡ true → (a ≡ true) × (b ≡ true)
both_true true b e = (refl, e)
both_true false b e = (e, absurd (cc))

-- reading the units of characters gives them back
low : (c : ℕ) (us : List ℕ) → c < 0xD800 → utf16_chars (encode_utf16 c ++ us) ≡ Some c ∷ utf16_chars us
low c us below = rw (one_unit c (omega arith)) (utf16_chars_lone c us (λ pair. absurd (omega arith)) ∙ ap (λ o. o ∷ utf16_chars us) (lone_unit_char_low c below))

middle : (c : ℕ) (us : List ℕ) → 0xE000 ≤ c → c < 0x1_0000 → utf16_chars (encode_utf16 c ++ us) ≡ Some c ∷ utf16_chars us
middle c us from below = rw (one_unit c below) (utf16_chars_lone c us (λ pair. absurd (omega arith)) ∙ ap (λ o. o ∷ utf16_chars us) (lone_unit_char_high c from))

high : (c : ℕ) (us : List ℕ) → 0x1_0000 ≤ c → c < 0x11_0000 → utf16_chars (encode_utf16 c ++ us) ≡ Some c ∷ utf16_chars us
high c us from below =
    let pair : IsPair (0xD800 + (c - 0x1_0000) / 0x400) (0xDC00 + (c - 0x1_0000) % 0x400) = (omega arith, omega arith, omega arith, omega arith) in
    let is : surrogate_pair_char (0xD800 + (c - 0x1_0000) / 0x400) (0xDC00 + (c - 0x1_0000) % 0x400) ≡ c = omega arith in
    rw (two_units c from) (utf16_chars_pair _ _ us pair ∙ ap (λ x. Some x ∷ utf16_chars us) is)

utf16_chars-encode : (c : ℕ) (us : List ℕ) → scalar c ≡ true → utf16_chars (encode_utf16 c ++ us) ≡ Some c ∷ utf16_chars us
utf16_chars-encode c us s = elim (scalar_cases c s) [
  | inl below ↦ low c us below
  | inr within ↦ elim (cases_lt c 0x1_0000) [ inl below ↦ middle c us within.0 below | inr from ↦ high c us from within.1 ]
]

pub utf16_chars-utf16 : (cs : List ℕ) → scalars cs ≡ true → utf16_chars (utf16 cs) ≡ map Some cs
utf16_chars-utf16 [] s = utf16_chars-nil
utf16_chars-utf16 (c ∷ cs) s =
    let parts = both_true (scalar c) (scalars cs) s in
    utf16_chars-encode c (utf16 cs) parts.0 ∙ ap (λ os. Some c ∷ os) (utf16_chars-utf16 cs parts.1)

without_some : (xs ys : List ℕ) → map Some xs ≡ map Some ys → xs ≡ ys
without_some [] [] e = refl
without_some [] (y ∷ ys) e = cc
without_some (x ∷ xs) [] e = cc
without_some (x ∷ xs) (y ∷ ys) e =
    let tails : map Some xs ≡ map Some ys = cc in
    let same = without_some xs ys tails in cc

-- so no two lists of characters have the same units
pub utf16_same : (xs ys : List ℕ) → scalars xs ≡ true → scalars ys ≡ true → utf16 xs ≡ utf16 ys → xs ≡ ys
utf16_same xs ys s t e = without_some xs ys (sym (utf16_chars-utf16 xs s) ∙ ap utf16_chars e ∙ utf16_chars-utf16 ys t)

all_some : (cs : List ℕ) → list_any (λ o. not (is_some o)) (map Some cs) ≡ false
all_some [] = refl
all_some (c ∷ cs) = all_some cs

-- and none of them has a surrogate alone
pub utf16-paired : (cs : List ℕ) → scalars cs ≡ true → has_unpaired_surrogate (utf16 cs) ≡ false
utf16-paired cs s = ap (list_any (λ o. not (is_some o))) (utf16_chars-utf16 cs s) ∙ all_some cs
