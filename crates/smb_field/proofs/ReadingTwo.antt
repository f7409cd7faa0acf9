-- A spelling with two variable parts is read again.
use Rattle.std.proofs.Common.{◌≡◌, ℕ, ◌+◌, ◌-◌, ◌%◌, ◌^◌, ◌<◌, ◌≤◌, List, [], ◌∷◌, ◌++◌, length, refl, ap, sym, subst, ◌∙◌, arith, append_assoc, length-append, Bool, if◌then◌else◌, replicate}
use Rattle.std.proofs.lemmas.List.{length-replicate}
use Rattle.smb_le.specs.Numbers.{bytes_of}
use Rattle.smb_le.proofs.NumberLaws.{length-bytes_of}
use Rattle.smb_field.specs.declared.field.Field.{Field}
use Rattle.smb_field.specs.Fields.{width_of, spelled, AllFit}
use Rattle.smb_field.specs.Body.{end_of_fixed, Lends, named, tail}
use Rattle.smb_field.specs.TwoParts.{second_place, places_of_two, tail_of_two, spelling_of_two, IsTwoReadAgain}
use Rattle.smb_field.proofs.Reading.{Meets, not-empty, named-le, part-stands, meets, written-stands, regrouped, length-spelled}

-- a part stands at a place behind the fixed part, and at the offset that names it
pub lent-at : (behind at : ℕ) (part message head rest : List ℕ) → message ≡ head ++ (part ++ rest) → at ≡ length head → behind ≤ at
    → Lends behind part message at × Lends behind part message (named part at)
lent-at behind at [] message head rest is place low = ((λ some. absurd (omega arith)), (λ some. absurd (omega arith)))
lent-at behind at (b ∷ xs) message head rest is place low =
    let named_so : named (b ∷ xs) at ≡ at = ap (λ (t : Bool). if t then 0 else at) (not-empty b xs) in
    let long : at + length (b ∷ xs) ≤ length message =
    omega (arith, ap length is, length-append head ((b ∷ xs) ++ rest), length-append (b ∷ xs) rest) in
    let there : Lends behind (b ∷ xs) message at =
    λ some. (omega arith, long, part-stands (b ∷ xs) at (length (b ∷ xs)) message head rest is place refl) in
    (there, subst (λ (k : ℕ). Lends behind (b ∷ xs) message k) (sym named_so) there)

-- the offsets fit, and name the parts
meets_two : (size : ℕ) (first second message head rest : List ℕ) → size < 192 → length first < 2 ^ 16
    → message ≡ head ++ (tail_of_two size first second ++ rest) → end_of_fixed size ≡ length head
    → Meets (Lends (end_of_fixed size) first message) (Lends (end_of_fixed size) second message) (end_of_fixed size) (places_of_two size first second)
meets_two size first [] message head rest small short is front =
    let one = meets size first message head rest small is front in
    record {
      narrow = one.narrow;
      first_fits = one.first_fits;
      second_fits = omega arith;
      at_behind = one.at_behind;
      at_first = one.at_first;
      at_second = λ some. absurd (omega arith);
      follows = one.follows;
    }
meets_two size first (b ∷ xs) message head rest small short is front =
    let gap = second_place size first - (end_of_fixed size + length first) in
    let whole : tail_of_two size first (b ∷ xs) ≡ first ++ (replicate gap 0 ++ b ∷ xs) =
    ap (λ (t : Bool). if t then tail size first else first ++ (replicate gap 0 ++ b ∷ xs)) (not-empty b xs) in
    let stands : message ≡ head ++ ((first ++ (replicate gap 0 ++ b ∷ xs)) ++ rest) = is ∙ ap (λ (ys : List ℕ). head ++ (ys ++ rest)) whole in
    let one : message ≡ head ++ (first ++ ((replicate gap 0 ++ b ∷ xs) ++ rest)) =
    stands ∙ ap (λ (ys : List ℕ). head ++ ys) (append_assoc first (replicate gap 0 ++ b ∷ xs) rest) in
    let two : message ≡ (head ++ (first ++ replicate gap 0)) ++ ((b ∷ xs) ++ rest) =
    one ∙ ap (λ (ys : List ℕ). head ++ (first ++ ys)) (append_assoc (replicate gap 0) (b ∷ xs) rest)
    ∙ ap (λ (ys : List ℕ). head ++ ys) (sym (append_assoc first (replicate gap 0) ((b ∷ xs) ++ rest)))
    ∙ sym (append_assoc head (first ++ replicate gap 0) ((b ∷ xs) ++ rest)) in
    let up : end_of_fixed size + length first ≤ second_place size first = omega arith in
    let place : second_place size first ≡ length (head ++ (first ++ replicate gap 0)) =
    omega (arith, length-append head (first ++ replicate gap 0), length-append first (replicate gap 0), length-replicate {A = ℕ} gap 0) in
    let lent_first = lent-at (end_of_fixed size) (end_of_fixed size) first message head ((replicate gap 0 ++ b ∷ xs) ++ rest) one front (omega arith) in
    let lent_second = lent-at (end_of_fixed size) (second_place size first) (b ∷ xs) message (head ++ (first ++ replicate gap 0)) rest two place (omega arith) in
    let low_first : named first (end_of_fixed size) ≤ end_of_fixed size = named-le first (end_of_fixed size) in
    let low_second : named (b ∷ xs) (second_place size first) ≤ second_place size first = named-le (b ∷ xs) (second_place size first) in
    record {
      narrow = omega arith;
      first_fits = omega arith;
      second_fits = omega arith;
      at_behind = lent_first.0;
      at_first = lent_first.1;
      at_second = lent_second.1;
      follows = lent_first.0;
    }

-- behind a header, and whatever follows it, the spelling is that body
pub two_read_again : (size : ℕ) (fields : List Field) (first second : List ℕ) → size < 192 → 2 + width_of fields ≡ size - size % 2
    → length first < 2 ^ 16 → AllFit fields → IsTwoReadAgain size fields first second
unfolding IsTwoReadAgain spelling_of_two
two_read_again size fields first second small whole short fit header rest long =
    let places = places_of_two size first second in
    let message = header ++ ((bytes_of 2 size ++ (spelled places fields ++ tail_of_two size first second)) ++ rest) in
    written-stands (Lends (end_of_fixed size) first message) (Lends (end_of_fixed size) second message) size places fields
    (tail_of_two size first second) message header rest small whole fit long
    (regrouped header (bytes_of 2 size) (spelled places fields) (tail_of_two size first second) rest)
    (λ head is front. meets_two size first second message head rest small short is front)

-- and is as long as the fixed part and what is behind it
pub length-spelling_of_two : (size : ℕ) (fields : List Field) (first second : List ℕ) → 2 + width_of fields ≡ size - size % 2 → AllFit fields
    → length (spelling_of_two size fields first second) ≡ size - size % 2 + length (tail_of_two size first second)
unfolding spelling_of_two
length-spelling_of_two size fields first second whole fit =
    let front = spelled (places_of_two size first second) fields in
    let behind = tail_of_two size first second in
    omega (arith, length-append (bytes_of 2 size) (front ++ behind), length-append front behind, length-bytes_of 2 size, length-spelled (places_of_two size first second) fields fit)
