-- What a clock in memory told of its readings.
use Rattle.std.proofs.Common.{◌≡◌, ◌∙◌, ◌≤◌, ℕ, zero, suc, ◌+◌, ◌-◌, Bool, true, false, List, [], ◌∷◌, ◌++◌, length, take, drop, refl, sym, ap, subst, add-one, arith}
use Rattle.std.specs.Prelude.{nat_eq, slice_index_or}
use Rattle.std.proofs.Math.Nat.{add-zero}
use Rattle.std.proofs.lemmas.List.{length-drop}
use Rattle.smb_link.specs.Memory.{its_readings, told_at}
use Rattle.smb_link.specs.Once.{told_once, all_told_once}
use Rattle.smb_link.proofs.OnceLaws.{told_once_twice, all_told_once-append, same_number}

-- the first n and one more
take_one : (n : ℕ) (xs : List ℕ) (x : ℕ) (ys : List ℕ) → drop n xs ≡ x ∷ ys → take (suc n) xs ≡ take n xs ++ x ∷ []
take_one zero [] x ys is = absurd (cc (is))
take_one (suc n) [] x ys is = absurd (cc (is))
take_one zero (z ∷ zs) x ys is = ap (λ (l : List ℕ). take 1 l) is
take_one (suc n) (z ∷ zs) x ys is = ap (λ (l : List ℕ). z ∷ l) (take_one n zs x ys is)

-- where a reading is left there are some
its_own : (at : ℕ) (xs : List ℕ) (x : ℕ) (ys : List ℕ) → drop at xs ≡ x ∷ ys → its_readings xs ≡ xs
its_own zero [] x ys is = absurd (cc (is))
its_own (suc n) [] x ys is = absurd (cc (is))
its_own at (z ∷ zs) x ys is = refl

-- what is told before a reading, and with it
told_before : (at : ℕ) (xs : List ℕ) → told_at at false xs ≡ all_told_once nat_eq (take at (its_readings xs)) []
told_before at xs = ap (λ (n : ℕ). all_told_once nat_eq (take n (its_readings xs)) []) (add-zero at)

told_with : (at : ℕ) (xs : List ℕ) (x : ℕ) (ys : List ℕ) → drop at xs ≡ x ∷ ys → told_at at true xs ≡ told_once nat_eq x (told_at at false xs)
told_with at xs x ys is =
    ap (λ (n : ℕ). all_told_once nat_eq (take n (its_readings xs)) []) (add-one at)
    ∙ ap (λ (l : List ℕ). all_told_once nat_eq l []) (take_one at (its_readings xs) x ys (subst (λ (l : List ℕ). drop at l ≡ x ∷ ys) (sym (its_own at xs x ys is)) is))
    ∙ all_told_once-append nat_eq x (take at (its_readings xs)) []
    ∙ ap (told_once nat_eq x) (sym (told_before at xs))

-- a reading that is read, for the first time or again
read_at : (at : ℕ) (read : Bool) (xs : List ℕ) (x : ℕ) (ys : List ℕ) → drop at xs ≡ x ∷ ys → told_at at true xs ≡ told_once nat_eq x (told_at at read xs)
read_at at false xs x ys is = told_with at xs x ys is
read_at at true xs x ys is =
    told_with at xs x ys is ∙ sym (told_once_twice nat_eq same_number x (told_at at false xs)) ∙ ap (told_once nat_eq x) (sym (told_with at xs x ys is))

-- a reading behind which another comes
read_on : (at : ℕ) (xs : List ℕ) (x : ℕ) (ys : List ℕ) → drop at xs ≡ x ∷ ys → told_at (at + 1) false xs ≡ told_once nat_eq x (told_at at false xs)
read_on at xs x ys is = told_before (at + 1) xs ∙ told_with at xs x ys is

-- a list that has a first one
first_left : (l : List ℕ) → 1 ≤ length l → l ≡ slice_index_or l 0 0 ∷ drop 1 l
first_left [] some = absurd (omega arith)
first_left (x ∷ xs) some = refl

-- the next reading is read where it is the last, for the first time or again
pub reads_last : (at : ℕ) (read : Bool) (xs : List ℕ) → 1 ≤ length (drop at xs) → told_at at true xs ≡ told_once nat_eq (slice_index_or (drop at xs) 0 0) (told_at at read xs)
reads_last at read xs some = read_at at read xs (slice_index_or (drop at xs) 0 0) (drop 1 (drop at xs)) (first_left (drop at xs) some)

-- and where another one comes behind it
pub reads_next : (at : ℕ) (read : Bool) (xs : List ℕ) → (read ≡ true → length xs ≤ at + 1) → 2 ≤ length (drop at xs)
    → told_at (at + 1) read xs ≡ told_once nat_eq (slice_index_or (drop at xs) 0 0) (told_at at read xs)
reads_next at true xs last more =
    let few : length xs ≤ at + 1 = last refl in
    let left : length (drop at xs) ≡ length xs - at = length-drop at xs in
    absurd (omega arith)
reads_next at false xs last more =
    read_on at xs (slice_index_or (drop at xs) 0 0) (drop 1 (drop at xs)) (first_left (drop at xs) (omega arith))
