-- What a row reads of a message in which the fields of its table stand.
use Rattle.std.proofs.Common.{◌≡◌, ◌∙◌, ◌≤◌, ℕ, ◌+◌, ◌-◌, Bool, true, false, List, [], ◌∷◌, take, drop, length, inl, inr, refl, ap, arith, Some, None, Result, Ok, Err}
use Rattle.std.specs.Prelude.{slice_range, ◌&&◌, ◌||◌, ◌==◌, nat_le, nat_lt, if◌then◌else◌, is_ok}
use Rattle.std.proofs.lemmas.Bool.Decides.{nat_tests, eqb_tells}
use Rattle.smb_le.specs.Numbers.{number_at}
use Rattle.smb_field.specs.declared.field.BodyFault.{BodyFault}
use Rattle.smb_field.specs.declared.field.BodyFault.TheVariants.{Short, Size}
use Rattle.smb_field.specs.Body.{end_of_fixed, Lends}
use Rattle.smb_field.specs.Rows.{lies_behind, part_in, body, structure, seen_as, if_read}

-- no byte at any place
pub no_bytes : (offset : ℕ) (message : List ℕ) → slice_range message offset (offset + 0) ≡ []
no_bytes offset message =
    let none : offset + 0 - offset ≡ 0 = omega arith in
    ap (λ (n : ℕ). take n (drop offset message)) none

-- a part that is lent is the bytes at its place
lent_at : (behind : ℕ) (part message : List ℕ) (offset many : ℕ) → Lends behind part message offset → many ≡ length part
    → slice_range message offset (offset + many) ≡ part
lent_at behind [] message offset many lends same = rw same (no_bytes offset message)
lent_at behind (b ∷ part) message offset many lends same = rw same ((lends (omega arith)).2)

-- and it lies in the message
lent_lies : (behind : ℕ) (part message : List ℕ) (offset many : ℕ) → Lends behind part message offset → many ≡ length part
    → lies_behind behind offset many message ≡ true
lent_lies behind [] message offset many lends same = rw same refl
lent_lies behind (b ∷ part) message offset many lends same =
    let there : (behind ≤ offset) × (offset + length (b ∷ part) ≤ length message) × (slice_range message offset (offset + length (b ∷ part)) ≡ b ∷ part) = lends (omega arith) in
    let low : behind ≤ offset = there.0 in
    let high : offset + many ≤ length message = omega (arith, there.1) in
    both (many == 0) (nat_le behind offset) (nat_le (offset + many) (length message)) (grind (arith, nat_tests)) (grind (arith, nat_tests))
  where
    both : (a b c : Bool) → b ≡ true → c ≡ true → (a || (b && c)) ≡ true
    both true b c p q = refl
    both false b c p q = rw (p, q) refl

-- so it is read
pub part_read : (behind : ℕ) (part message : List ℕ) (offset many : ℕ) → Lends behind part message offset → many ≡ length part
    → part_in behind offset many message ≡ Some part
unfolding part_in
part_read behind part message offset many lends same =
    ap (λ (t : Bool). if t then Some (slice_range message offset (offset + many)) else None) (lent_lies behind part message offset many lends same)
    ∙ ap (λ (bytes : List ℕ). Some bytes) (lent_at behind part message offset many lends same)

-- a body whose fixed part and size are there is read by its row
pub body_read : {X : Type 0} (size : ℕ) (row : ℕ → List ℕ → Result X BodyFault) (message : List ℕ) → end_of_fixed size ≤ length message
    → number_at 2 64 message ≡ size → body size row message ≡ row 66 message
body_read size row message long is =
    let whole : nat_lt (length message) (end_of_fixed size) ≡ false = grind (arith, nat_tests) in
    let right : (number_at 2 64 message == size) ≡ true = grind (arith, nat_tests) in
    ap (λ (t : Bool). if t then Err Short else if number_at 2 64 message == size then row 66 message else Err Size) whole
    ∙ ap (λ (t : Bool). if t then row 66 message else Err Size) right

-- and a structure that is as long as its fields
pub structure_read : {X E : Type 0} (short : E) (width : ℕ) (row : ℕ → List ℕ → Result X E) (bytes : List ℕ) → width ≤ length bytes
    → structure short width row bytes ≡ row 0 bytes
structure_read short width row bytes long =
    let whole : nat_lt (length bytes) width ≡ false = grind (arith, nat_tests) in
    ap (λ (t : Bool). if t then Err short else row 0 bytes) whole

-- whether a function answered with a value is told by the value
pub seen_ok : {X Y E : Type 0} (see : X → Y) (r : Result X E) → is_ok (seen_as see r) ≡ is_ok r
seen_ok see (Ok x) = refl
seen_ok see (Err fault) = refl

-- what reads as a body of a size has that structure size, and what has another does not
pub read_size : {X : Type 0} (size n : ℕ) (short : Bool) (read : Result X BodyFault) → is_ok (if short then Err Short else if n == size then read else Err Size) ≡ true
    → n ≡ size
read_size size n true read is = absurd (cc is)
read_size size n false read is = elim (eqb_tells n size) [
  | inl told ↦ told.1
  | inr told ↦ absurd (none (n == size) told.0 is)
]
  where
    none : (t : Bool) → t ≡ false → is_ok (if t then read else Err Size) ≡ true → ⊥
    none true other is = absurd (cc other)
    none false other is = absurd (cc is)

pub not_read : {X Y : Type 0} (size n : ℕ) (short : Bool) (read : Result X BodyFault) (says : X → Y) (otherwise : Y) → (n == size) ≡ false
    → if_read (if short then Err Short else if n == size then read else Err Size) says otherwise ≡ otherwise
not_read size n true read says otherwise other = refl
not_read size n false read says otherwise other =
    ap (λ (t : Bool). if_read (if t then read else Err Size) says otherwise) other
