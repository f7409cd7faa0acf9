-- Edits of lists in place.
use Rattle.std.proofs.Common.{add-one, ◌≡◌, ◌∙◌, refl, sym, ap, ap₂, ℕ, zero, suc, ◌+◌, ◌<◌, ◌==◌, true, List, [], ◌∷◌, ◌++◌, length, take, drop, get_or, set}
use Rattle.std.proofs.Math.Seq.{drop-cons}
use Rattle.std.proofs.lemmas.List.{take-append-drop, take-set, drop-set}
use Rattle.fs_core.specs.declared.slot.Slot.{Slot}
use Rattle.fs_core.specs.Parts.{on_slot}

-- what is read at a place stands there
pub same_there : {X : Type 0} (xs : List X) (i : ℕ) (d : X) → get_or xs i d ≡ get_or xs i (get_or xs i d)
same_there [] i d = refl
same_there (x ∷ xs) zero d = refl
same_there (x ∷ xs) (suc i) d = same_there xs i d

-- a list with another element at a place
set_at : {X : Type 0} (xs : List X) (i : ℕ) (y : X) → i < length xs → set xs i y ≡ take i xs ++ y ∷ drop (i + 1) xs
set_at xs i y within =
    sym (take-append-drop i (set xs i y)) ∙ ap₂ (λ a b. a ++ b) (take-set xs i y) (drop-set xs i y within)

-- the elements from a place on
from_there : {X : Type 0} (xs : List X) (i : ℕ) (d : X) → i < length xs → drop i xs ≡ get_or xs i d ∷ drop (i + 1) xs
from_there xs i d within = rw (add-one, drop-cons xs i d) refl

-- the first call with a number is the one at a place
pub on_slot_there : (number : ℕ) (f : Slot → Slot) (slots : List Slot) (i : ℕ) (d : Slot) → i < length slots
    → on_slot number f slots ≡ take i slots ++ on_slot number f (drop i slots) → ((get_or slots i d).number == number) ≡ true
    → set slots i (f (get_or slots i d)) ≡ on_slot number f slots
on_slot_there number f slots i d within none is =
    let x : Slot = get_or slots i d in
    let here : on_slot number f (x ∷ drop (i + 1) slots) ≡ f x ∷ drop (i + 1) slots = rw is refl in
    set_at slots i (f x) within
    ∙ sym (none ∙ ap (λ (l : List Slot). take i slots ++ l) (ap (on_slot number f) (from_there slots i d within) ∙ here))
