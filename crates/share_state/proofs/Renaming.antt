-- A list whose first item of a kind is changed: where that item is found, or nowhere.
use Rattle.std.proofs.Common.{◌≡◌, ℕ, Bool, List, [], ◌∷◌, Some, None, get_or, set, arith, refl}
use Rattle.std.specs.List.{position}
use Rattle.share_state.specs.State.{edited}

-- at this place
pub edited_at_first : {X : Type 0} (is : X → Bool) (change : X → X) → (xs : List X) (i : ℕ) (d : X) → position is xs ≡ Some i → edited is change xs ≡ set xs i (change (get_or xs i d))
edited_at_first is change [] i d h = grind arith
edited_at_first is change (x ∷ xs) i d h = grind (arith, edited_at_first is change xs)

-- nowhere
pub edited_nowhere : {X : Type 0} (is : X → Bool) (change : X → X) → (xs : List X) → position is xs ≡ None → edited is change xs ≡ xs
edited_nowhere is change [] h = refl
edited_nowhere is change (x ∷ xs) h = grind (arith, edited_nowhere is change xs)
