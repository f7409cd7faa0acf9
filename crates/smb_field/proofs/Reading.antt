-- A spelling is read again: each field stands where it was written, and so do all of them and the variable part.
use Rattle.std.proofs.Common.{◌≡◌, ℕ, ◌+◌, ◌-◌, ◌%◌, ◌^◌, ◌<◌, ◌≤◌, List, [], ◌∷◌, ◌++◌, length, drop, get_or, refl, ap, sym, subst, ◌∙◌, arith, append_assoc, length-append, Bool, false, if◌then◌else◌, replicate}
use Rattle.std.proofs.lemmas.List.{take_at, drop_at}
use Rattle.std.proofs.lemmas.Bool.Decides.{nat_tests}
use Rattle.std.proofs.Math.Seq.{get_or-append_seam}
use Rattle.std.specs.Prelude.{◌==◌, slice_range, ⊤}
use Rattle.smb_le.specs.Numbers.{number_at, bytes_of}
use Rattle.smb_le.proofs.NumberLaws.{number_at-append_right, number_at-bytes_of, length-bytes_of}
use Rattle.smb_field.specs.declared.field.Field.{Field}
use Rattle.smb_field.specs.declared.field.Field.TheVariants.{U8, U16, U32, U64, Block, Name, Any8, Any16, Any32, Any64, Place8, Offset16, Offset32, Second32, Follows}
use Rattle.smb_field.specs.declared.field.Places.{Places}
use Rattle.smb_field.specs.Fields.{width, width_of, Says, Holds, spelled_field, spelled, Fits, AllFit}
use Rattle.smb_field.specs.Body.{end_of_fixed, Lends, named, places_of, tail, spelling, IsReadAgain}

-- the offsets that are written fit, and meet what is said of the parts
pub record Meets (first second : ℕ → Type 0) (behind : ℕ) (places : Places) : Type 0 where
  pub narrow : places.behind < 256
  pub first_fits : places.first < 2 ^ 16
  pub second_fits : places.second < 2 ^ 32
  pub at_behind : first places.behind
  pub at_first : first places.first
  pub at_second : second places.second
  pub follows : first behind

-- a number that was written is read
number-stands : (w n at : ℕ) (message head rest : List ℕ) → message ≡ head ++ (bytes_of w n ++ rest) → at ≡ length head → n < 256 ^ w
    → number_at w at message ≡ n
number-stands w n at message head rest is place fits =
    ap (number_at w at) is
    ∙ number_at-append_right w 0 at head (bytes_of w n ++ rest) (omega arith)
    ∙ number_at-bytes_of w n rest fits

-- so is a byte
byte-stands : (n at : ℕ) (message head rest : List ℕ) → message ≡ head ++ (n ∷ [] ++ rest) → at ≡ length head → get_or message at 0 ≡ n
byte-stands n at message head rest is place =
    ap (λ (k : ℕ). get_or message k 0) place ∙ ap (λ (xs : List ℕ). get_or xs (length head) 0) is ∙ get_or-append_seam head n rest 0

-- and so are sixteen bytes, or any part
pub part-stands : (part : List ℕ) (at n : ℕ) (message head rest : List ℕ) → message ≡ head ++ (part ++ rest) → at ≡ length head → n ≡ length part
    → slice_range message at (at + n) ≡ part
part-stands part at n message head rest is place long =
    let from : drop at message ≡ part ++ rest = ap (drop at) is ∙ drop_at head (part ++ rest) at (sym place) in
    let some : at + n - at ≡ length part = omega arith in
    rw (from, some) (take_at part rest (length part) refl)

-- a field says what was written
field-says : (first second : ℕ → Type 0) (behind : ℕ) (places : Places) (f : Field) (at : ℕ) (message head rest : List ℕ)
    → Meets first second behind places → Fits f → at ≡ length head → message ≡ head ++ (spelled_field places f ++ rest)
    → Says first second behind at f message
field-says first second behind places (U8 n) at message head rest meets fits place is = byte-stands n at message head rest is place
field-says first second behind places (U16 n) at message head rest meets fits place is = number-stands 2 n at message head rest is place fits
field-says first second behind places (U32 n) at message head rest meets fits place is = number-stands 4 n at message head rest is place fits
field-says first second behind places (U64 n) at message head rest meets fits place is = number-stands 8 n at message head rest is place fits
field-says first second behind places (Block bytes) at message head rest meets fits place is = part-stands bytes at 16 message head rest is place (sym fits)
field-says first second behind places (Name bytes) at message head rest meets fits place is = part-stands bytes at 4 message head rest is place (sym fits)
field-says first second behind places (Any8 n) at message head rest meets fits place is = tt
field-says first second behind places (Any16 n) at message head rest meets fits place is = tt
field-says first second behind places (Any32 n) at message head rest meets fits place is = tt
field-says first second behind places (Any64 n) at message head rest meets fits place is = tt
field-says first second behind places Place8 at message head rest meets fits place is =
    subst first (sym (byte-stands places.behind at message head rest is place)) meets.at_behind
field-says first second behind places Offset16 at message head rest meets fits place is =
    subst first (sym (number-stands 2 places.first at message head rest is place meets.first_fits)) meets.at_first
field-says first second behind places Offset32 at message head rest meets fits place is =
    let fits32 : places.first < 2 ^ 32 = omega (arith, meets.first_fits) in
    subst first (sym (number-stands 4 places.first at message head rest is place fits32)) meets.at_first
field-says first second behind places Second32 at message head rest meets fits place is =
    subst second (sym (number-stands 4 places.second at message head rest is place meets.second_fits)) meets.at_second
field-says first second behind places Follows at message head rest meets fits place is = meets.follows

-- a field is as long as it is wide
pub length-spelled_field : (places : Places) (f : Field) → Fits f → length (spelled_field places f) ≡ width f
length-spelled_field places (U8 n) fits = refl
length-spelled_field places (U16 n) fits = length-bytes_of 2 n
length-spelled_field places (U32 n) fits = length-bytes_of 4 n
length-spelled_field places (U64 n) fits = length-bytes_of 8 n
length-spelled_field places (Block bytes) fits = fits
length-spelled_field places (Name bytes) fits = fits
length-spelled_field places (Any8 n) fits = refl
length-spelled_field places (Any16 n) fits = length-bytes_of 2 n
length-spelled_field places (Any32 n) fits = length-bytes_of 4 n
length-spelled_field places (Any64 n) fits = length-bytes_of 8 n
length-spelled_field places Place8 fits = refl
length-spelled_field places Offset16 fits = length-bytes_of 2 places.first
length-spelled_field places Offset32 fits = length-bytes_of 4 places.first
length-spelled_field places Second32 fits = length-bytes_of 4 places.second
length-spelled_field places Follows fits = refl

-- fields are as long as they are wide together
pub length-spelled : (places : Places) (fields : List Field) → AllFit fields → length (spelled places fields) ≡ width_of fields
unfolding spelled
length-spelled places [] fit = refl
length-spelled places (f ∷ fields) fit =
    omega (arith, length-append (spelled_field places f) (spelled places fields), length-spelled_field places f fit.0, length-spelled places fields fit.1)

-- fields that were written one after another hold
pub spelled-holds : (first second : ℕ → Type 0) (behind : ℕ) (places : Places) (fields : List Field) (at : ℕ) (message head rest : List ℕ)
    → Meets first second behind places → AllFit fields → at ≡ length head → message ≡ head ++ (spelled places fields ++ rest)
    → Holds first second behind at fields message
unfolding spelled
spelled-holds first second behind places [] at message head rest meets fit place is = tt
spelled-holds first second behind places (f ∷ fields) at message head rest meets fit place is =
    let all : message ≡ head ++ (spelled_field places f ++ (spelled places fields ++ rest)) =
    is ∙ ap (λ (xs : List ℕ). head ++ xs) (append_assoc (spelled_field places f) (spelled places fields) rest) in
    let next : message ≡ (head ++ spelled_field places f) ++ (spelled places fields ++ rest) =
    all ∙ sym (append_assoc head (spelled_field places f) (spelled places fields ++ rest)) in
    let on : at + width f ≡ length (head ++ spelled_field places f) =
    omega (arith, length-append head (spelled_field places f), length-spelled_field places f fit.0) in (
      field-says first second behind places f at message head (spelled places fields ++ rest) meets fit.0 place all,
      spelled-holds first second behind places fields (at + width f) message (head ++ spelled_field places f) rest meets fit.1 on next,
    )

-- a list with a member has a length that is not 0
pub not-empty : (b : ℕ) (xs : List ℕ) → (length (b ∷ xs) == 0) ≡ false
not-empty b xs = grind (arith, nat_tests)

-- the offset of an empty part is 0, and that of another one its place
pub named-le : (part : List ℕ) (at : ℕ) → named part at ≤ at
named-le [] at = omega arith
named-le (b ∷ xs) at = rw (ap (λ (t : Bool). if t then 0 else at) (not-empty b xs)) (omega arith)

-- a variable part stands behind the fixed part, where it was written, under the offset that names it
part-lent : (size : ℕ) (part : List ℕ) (message head rest : List ℕ) → message ≡ head ++ (tail size part ++ rest) → end_of_fixed size ≡ length head
    → Lends (end_of_fixed size) part message (end_of_fixed size) × Lends (end_of_fixed size) part message (named part (end_of_fixed size))
part-lent size [] message head rest is place = ((λ some. absurd (omega arith)), (λ some. absurd (omega arith)))
part-lent size (b ∷ xs) message head rest is place =
    let whole : tail size (b ∷ xs) ≡ b ∷ xs = ap (λ (t : Bool). if t then replicate (size % 2) 0 else b ∷ xs) (not-empty b xs) in
    let at : named (b ∷ xs) (end_of_fixed size) ≡ end_of_fixed size = ap (λ (t : Bool). if t then 0 else end_of_fixed size) (not-empty b xs) in
    let stands : message ≡ head ++ ((b ∷ xs) ++ rest) = is ∙ ap (λ (ys : List ℕ). head ++ (ys ++ rest)) whole in
    let long : end_of_fixed size + length (b ∷ xs) ≤ length message =
    omega (arith, ap length stands, length-append head ((b ∷ xs) ++ rest), length-append (b ∷ xs) rest) in
    let there : Lends (end_of_fixed size) (b ∷ xs) message (end_of_fixed size) =
    λ some. (omega arith, long, part-stands (b ∷ xs) (end_of_fixed size) (length (b ∷ xs)) message head rest stands place refl) in
    (there, subst (λ (k : ℕ). Lends (end_of_fixed size) (b ∷ xs) message k) (sym at) there)

-- the offsets that a body names fit
pub meets : (size : ℕ) (part : List ℕ) (message head rest : List ℕ) → size < 192 → message ≡ head ++ (tail size part ++ rest) → end_of_fixed size ≡ length head
    → Meets (Lends (end_of_fixed size) part message) (λ (offset : ℕ). ⊤) (end_of_fixed size) (places_of size part)
meets size part message head rest small is place =
    let both = part-lent size part message head rest is place in
    let low : named part (end_of_fixed size) ≤ end_of_fixed size = named-le part (end_of_fixed size) in
    record {
      narrow = omega arith;
      first_fits = omega arith;
      second_fits = omega arith;
      at_behind = both.0;
      at_first = both.1;
      at_second = tt;
      follows = both.0;
    }

-- behind a header, a structure size and fields that were written hold, where the offsets meet what is said of the parts
pub written-stands : (p q : ℕ → Type 0) (size : ℕ) (places : Places) (fields : List Field) (tail message header rest : List ℕ) → size < 192
    → 2 + width_of fields ≡ size - size % 2 → AllFit fields → length header ≡ 64
    → message ≡ header ++ (bytes_of 2 size ++ (spelled places fields ++ (tail ++ rest)))
    → ((head : List ℕ) → message ≡ head ++ (tail ++ rest) → end_of_fixed size ≡ length head → Meets p q (end_of_fixed size) places)
    → (end_of_fixed size ≤ length message) × (number_at 2 64 message ≡ size) × Holds p q (end_of_fixed size) 66 fields message
written-stands p q size places fields tail message header rest small whole fit long is meet =
    let head = header ++ bytes_of 2 size in
    let second : message ≡ head ++ (spelled places fields ++ (tail ++ rest)) =
    is ∙ sym (append_assoc header (bytes_of 2 size) (spelled places fields ++ (tail ++ rest))) in
    let third : message ≡ (head ++ spelled places fields) ++ (tail ++ rest) =
    second ∙ sym (append_assoc head (spelled places fields) (tail ++ rest)) in
    let at : 66 ≡ length head = omega (arith, length-append header (bytes_of 2 size), length-bytes_of 2 size) in
    let front : end_of_fixed size ≡ length (head ++ spelled places fields) =
    omega (arith, length-append head (spelled places fields), length-spelled places fields fit) in (
      omega (arith, ap length third, length-append (head ++ spelled places fields) (tail ++ rest)),
      number-stands 2 size 64 message header (spelled places fields ++ (tail ++ rest)) is (sym long) (omega arith),
      spelled-holds p q (end_of_fixed size) places fields 66 message head (tail ++ rest) (meet (head ++ spelled places fields) third front) fit at second,
    )

-- four pieces one after another, whatever follows, however they are grouped
pub regrouped : (header a b c rest : List ℕ) → header ++ ((a ++ (b ++ c)) ++ rest) ≡ header ++ (a ++ (b ++ (c ++ rest)))
regrouped header a b c rest =
    ap (λ (xs : List ℕ). header ++ xs) (append_assoc a (b ++ c) rest ∙ ap (λ (xs : List ℕ). a ++ xs) (append_assoc b c rest))

-- behind a header, and whatever follows it, a body's spelling is that body
pub read_again : (size : ℕ) (fields : List Field) (part : List ℕ) → size < 192 → 2 + width_of fields ≡ size - size % 2 → AllFit fields
    → IsReadAgain size fields part
unfolding IsReadAgain spelling
read_again size fields part small whole fit header rest long =
    let message = header ++ ((bytes_of 2 size ++ (spelled (places_of size part) fields ++ tail size part)) ++ rest) in
    written-stands (Lends (end_of_fixed size) part message) (λ (offset : ℕ). ⊤) size (places_of size part) fields (tail size part) message header rest
    small whole fit long (regrouped header (bytes_of 2 size) (spelled (places_of size part) fields) (tail size part) rest)
    (λ head is front. meets size part message head rest small is front)

-- a body's spelling is as long as the fixed part and what is behind it
pub length-spelling : (size : ℕ) (fields : List Field) (part : List ℕ) → 2 + width_of fields ≡ size - size % 2 → AllFit fields
    → length (spelling size fields part) ≡ size - size % 2 + length (tail size part)
unfolding spelling
length-spelling size fields part whole fit =
    let front = spelled (places_of size part) fields in
    omega (arith, length-append (bytes_of 2 size) (front ++ tail size part), length-append front (tail size part), length-bytes_of 2 size, length-spelled (places_of size part) fields fit)
