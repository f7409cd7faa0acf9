-- Ids that were granted and used in order.
use Rattle.std.proofs.Common.{◌≡◌, ◌∙◌, ◌≢◌, refl, sym, ap, cond, ℕ, zero, suc, ◌+◌, ◌-◌, ◌<◌, ◌≤◌, inl, inr, ◌==◌, Bool, true, false, not, ◌||◌, nat_lt, min, List, [], ◌∷◌, ◌++◌, length, take, filter, All, arith, append-nil}
use Rattle.std.proofs.lemmas.Bool.Decides.{eqb_tells, nat_tests}
use Rattle.std.proofs.lemmas.List.Elements.{filter-append, All-cons}
use Rattle.smb_credit.specs.Window.{numbers, is_in, usable, granted_more, after_use, up_to, no_request}

pub length-numbers : (a n : ℕ) → length (numbers a n) ≡ n
unfolding numbers
length-numbers a zero = refl
length-numbers a (suc n) = ap suc (length-numbers (a + 1) n)

same-numbers : (a b m n : ℕ) → a ≡ b → m ≡ n → numbers a m ≡ numbers b n
same-numbers a b m n from many = ap (λ (x : ℕ). numbers x m) from ∙ ap (numbers b) many

-- so many, and those behind them
pub numbers-append : (a m n b k : ℕ) → b ≡ a + m → k ≡ m + n → numbers a k ≡ numbers a m ++ numbers b n
unfolding numbers
numbers-append a zero n b k from many = same-numbers a b k n (omega arith) (omega arith)
numbers-append a (suc m) n b zero from many = absurd (omega arith)
numbers-append a (suc m) n b (suc k) from many =
    ap (λ (l : List ℕ). a ∷ l) (numbers-append (a + 1) m n b k (omega arith) (omega arith))

-- the first ones
pub take-numbers : (a m n : ℕ) → m ≤ n → take m (numbers a n) ≡ numbers a m
unfolding numbers
take-numbers a zero n le = refl
take-numbers a (suc m) zero le = absurd (omega arith)
take-numbers a (suc m) (suc n) le = ap (λ (l : List ℕ). a ∷ l) (take-numbers (a + 1) m n (omega arith))

-- each is below what follows them
pub below-numbers : (a n k : ℕ) → k ≡ a + n → All (λ id. id < k) (numbers a n)
unfolding numbers
below-numbers a zero k is = λ i d within. absurd (omega arith)
below-numbers a (suc n) k is = All-cons (λ id. id < k) a (numbers (a + 1) n) (omega arith) (below-numbers (a + 1) n k (omega arith))

-- a test that each of them passes, or none
passed : (p : ℕ → Bool) (a n : ℕ) → ((id : ℕ) → a ≤ id → id < a + n → p id ≡ true) → filter p (numbers a n) ≡ numbers a n
unfolding numbers
passed p a zero each = refl
passed p a (suc n) each =
    ap (λ (b : Bool). cond b (a ∷ filter p (numbers (a + 1) n)) (filter p (numbers (a + 1) n))) (each a (omega arith) (omega arith))
    ∙ ap (λ (l : List ℕ). a ∷ l) (passed p (a + 1) n (λ id low high. each id (omega arith) (omega arith)))

failed : (p : ℕ → Bool) (a n : ℕ) → ((id : ℕ) → a ≤ id → id < a + n → p id ≡ false) → filter p (numbers a n) ≡ []
unfolding numbers
failed p a zero each = refl
failed p a (suc n) each =
    ap (λ (b : Bool). cond b (a ∷ filter p (numbers (a + 1) n)) (filter p (numbers (a + 1) n))) (each a (omega arith) (omega arith))
    ∙ failed p (a + 1) n (λ id low high. each id (omega arith) (omega arith))

same : (a b : ℕ) → a ≡ b → (a == b) ≡ true
same a b is = elim (eqb_tells a b) as (λ _. (a == b) ≡ true) [ inl p ↦ p.0 | inr p ↦ absurd (p.1 is) ]

other : (a b : ℕ) → a ≢ b → (a == b) ≡ false
other a b is = elim (eqb_tells a b) as (λ _. (a == b) ≡ false) [ inl p ↦ absurd (is p.1) | inr p ↦ p.0 ]

lower : (a b : ℕ) → a < b → nat_lt a b ≡ true
lower a b is = grind (arith, nat_tests)

higher : (a b : ℕ) → b ≤ a → nat_lt a b ≡ false
higher a b is = grind (arith, nat_tests)

found : (b : Bool) (c : Bool) → c ≡ true → (b || c) ≡ true
found true c is = refl
found false c is = is

-- a number is among those from one on, or below them
among : (a n id : ℕ) → a ≤ id → id < a + n → is_in (numbers a n) id ≡ true
unfolding numbers
among a zero id low high = absurd (omega arith)
among a (suc n) id low high = elim (eqb_tells a id) as (λ _. is_in (numbers a (suc n)) id ≡ true) [
  | inl p ↦ ap (λ (b : Bool). b || is_in (numbers (a + 1) n) id) p.0
  | inr p ↦ let more : a + 1 ≤ id = omega (arith, p.1) in found (a == id) (is_in (numbers (a + 1) n) id) (among (a + 1) n id more (omega arith))
]

behind : (a n id : ℕ) → a + n ≤ id → is_in (numbers a n) id ≡ false
unfolding numbers
behind a zero id low = refl
behind a (suc n) id low =
    ap (λ (b : Bool). b || is_in (numbers (a + 1) n) id) (other a id (omega arith)) ∙ behind (a + 1) n id (omega arith)

-- those that may be used are the numbers between
pub usable-up_to : (next top : ℕ) → next ≤ top → usable (up_to next top) ≡ numbers next (top - next)
unfolding usable up_to
usable-up_to next top le =
    let p = λ (id : ℕ). not (is_in (numbers 0 next) id) in
    ap (filter p) (numbers-append 0 next (top - next) next top (omega arith) (omega arith))
    ∙ filter-append p (numbers 0 next) (numbers next (top - next))
    ∙ ap (λ (l : List ℕ). l ++ filter p (numbers next (top - next)))
    (failed p 0 next (λ id low high. ap not (among 0 next id low high)))
    ∙ passed p next (top - next) (λ id low high. ap not (behind 0 next id (omega arith)))

pub length-usable : (next top : ℕ) → next ≤ top → length (usable (up_to next top)) ≡ top - next
length-usable next top le = ap length (usable-up_to next top le) ∙ length-numbers next (top - next)

pub after_use-up_to : (charge next top : ℕ) → next + charge ≤ top → up_to (next + charge) top ≡ after_use charge (up_to next top)
unfolding after_use up_to
after_use-up_to charge next top le =
    ap (λ (l : List ℕ). record { granted = numbers 0 top; used = l })
    (numbers-append 0 next charge next (next + charge) (omega arith) (omega arith)
    ∙ ap (λ (l : List ℕ). numbers 0 next ++ l) (sym (ap (take charge) (usable-up_to next top (omega arith)) ∙ take-numbers next charge (top - next) (omega arith))))

-- those granted are the next ones, below the id of what answers no request
pub granted_more-up_to : (n next top : ℕ) → top ≤ no_request → up_to next (min (top + n) no_request) ≡ granted_more n (up_to next top)
unfolding granted_more up_to
granted_more-up_to n next top le =
    let many = min (top + n) no_request - top in
    let rest = n - many in
    let p = λ (id : ℕ). nat_lt id no_request in
    ap (λ (l : List ℕ). record { granted = l; used = numbers 0 next })
    (numbers-append 0 top many top (min (top + n) no_request) (omega arith) (omega arith)
    ∙ ap (λ (l : List ℕ). numbers 0 top ++ l) (sym (ap (λ (k : ℕ). filter p (numbers k n)) (length-numbers 0 top)
    ∙ ap (filter p) (numbers-append top many rest (top + many) n (omega arith) (omega arith))
    ∙ filter-append p (numbers top many) (numbers (top + many) rest)
    ∙ ap (λ (l : List ℕ). l ++ filter p (numbers (top + many) rest)) (passed p top many (λ id low high. lower id no_request (omega arith)))
    ∙ ap (λ (l : List ℕ). numbers top many ++ l) (failed p (top + many) rest (λ id low high. higher id no_request (omega arith)))
    ∙ append-nil (numbers top many))))
