-- How many numbers are bound or reserved, against which are.
use Rattle.std.proofs.Common.{◌≡◌, ◌∙◌, refl, ap, cond, ℕ, zero, suc, ◌+◌, ◌<◌, ◌≤◌, inl, inr, Bool, true, false, List, [], ◌∷◌, length, arith}
use Rattle.std.proofs.lemmas.Bool.{cases_lt}
use Rattle.std.proofs.lemmas.List.Sums.{count_by-le-length, sum_by-cons}
use Rattle.fs_handles.specs.declared.number.Number.{Number}
use Rattle.fs_handles.specs.declared.number.Number.TheVariants.{Free}
use Rattle.fs_handles.specs.Numbers.{many, number_at, is_held, held, AreHeld}

-- one more number counts where it is bound or reserved
counted : (x : Number) (xs : List Number) (b : Bool) → is_held x ≡ b → held (x ∷ xs) ≡ cond b 1 0 + held xs
counted x xs b is =
    sum_by-cons (λ (y : Number). cond (is_held y) 1 0) x xs ∙ ap (λ (t : Bool). cond t 1 0 + held xs) is

at_most : (x : Number) (xs : List Number) (b : Bool) → is_held x ≡ b → held (x ∷ xs) ≤ 1 + held xs
at_most x xs true is = let c = counted x xs true is in omega (arith, c)
at_most x xs false is = let c = counted x xs false is in omega (arith, c)

-- where all are, there are as many as numbers
all_held : (numbers : List Number) → ((n : ℕ) → n < length numbers → is_held (number_at numbers n) ≡ true) → held numbers ≡ length numbers
all_held [] each = refl
all_held (x ∷ xs) each =
    let c = counted x xs true (each 0 (omega arith)) in
    let rest = all_held xs (λ n low. each (suc n) (omega arith)) in
    omega (arith, c, rest)

-- where one is free, there are fewer
one_free : (numbers : List Number) (n : ℕ) → n < length numbers → is_held (number_at numbers n) ≡ false → held numbers < length numbers
one_free [] n low free = absurd (omega arith)
one_free (x ∷ xs) zero low free =
    let c = counted x xs false free in
    let fewer = count_by-le-length is_held xs in
    omega (arith, c, fewer)
one_free (x ∷ xs) (suc n) low free =
    let c = at_most x xs (is_held x) refl in
    let fewer = one_free xs n (omega arith) free in
    omega (arith, c, fewer)

-- all of the table are bound or reserved: those below a number are, and so are those from it on
pub none_free : (numbers : List Number) (hint : ℕ) → length numbers ≡ many → AreHeld numbers 0 hint → AreHeld numbers hint (length numbers) → held numbers ≡ many
none_free numbers hint whole below above =
    all_held numbers (λ n low. elim (cases_lt n hint) as (λ _. is_held (number_at numbers n) ≡ true) [
      | inl is ↦ below n (omega arith) is
      | inr is ↦ above n is low
    ])
    ∙ whole

-- one of the table is free
pub some_free : (numbers : List Number) (n : ℕ) → length numbers ≡ many → n < length numbers → number_at numbers n ≡ Free → held numbers < many
some_free numbers n whole low free =
    let fewer = one_free numbers n low (ap is_held free) in omega (arith, fewer, whole)
