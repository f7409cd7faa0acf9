-- What holds of every element of a list.
use Rattle.std.proofs.Common.{◌≡◌, true, false, [], ◌∷◌, ◌++◌, refl, List, Bool, if◌then◌else◌}
use Rattle.std.specs.Prelude.{filter}
use Rattle.std.specs.List.{AllByRecursion}

pub every-snoc : {X : Type 0} (P : X → Type 0) (xs : List X) (y : X) → AllByRecursion P xs → P y → AllByRecursion P (xs ++ y ∷ [])
every-snoc P [] y all holds = (holds, tt)
every-snoc P (x ∷ xs) y all holds = (all.0, every-snoc P xs y all.1 holds)

every-kept : {X : Type 0} (P : X → Type 0) (x : X) (xs : List X) (t : Bool) → P x → AllByRecursion P xs → AllByRecursion P (if t then x ∷ xs else xs)
every-kept P x xs true holds all = (holds, all)
every-kept P x xs false holds all = all

pub every-filter : {X : Type 0} (P : X → Type 0) (p : X → Bool) (xs : List X) → AllByRecursion P xs → AllByRecursion P (filter p xs)
every-filter P p [] all = tt
every-filter P p (x ∷ xs) all = every-kept P x (filter p xs) (p x) all.0 (every-filter P p xs all.1)

pub every-more : {X : Type 0} (P Q : X → Type 0) → ((x : X) → P x → Q x) → (xs : List X) → AllByRecursion P xs → AllByRecursion Q xs
every-more P Q more [] all = tt
every-more P Q more (x ∷ xs) all = (more x all.0, every-more P Q more xs all.1)

pub every-both : {X : Type 0} (P Q : X → Type 0) (xs : List X) → AllByRecursion P xs → AllByRecursion Q xs → AllByRecursion (λ x. P x × Q x) xs
every-both P Q [] p q = tt
every-both P Q (x ∷ xs) p q = ((p.0, q.0), every-both P Q xs p.1 q.1)

-- what is kept passed the test
pub all_kept : {X : Type 0} (p : X → Bool) (xs : List X) → AllByRecursion (λ x. p x ≡ true) (filter p xs)
all_kept p [] = tt
all_kept p (x ∷ xs) = by (p x) refl (all_kept p xs)
  where
    by : (t : Bool) → p x ≡ t → AllByRecursion (λ y. p y ≡ true) (filter p xs) → AllByRecursion (λ y. p y ≡ true) (if t then x ∷ filter p xs else filter p xs)
    by true is all = (is, all)
    by false is all = all
