-- The last component of a path is the last item of its components.
use Rattle.std.proofs.Common.{◌≡◌, ◌∙◌, ℕ, ◌-◌, ◌<◌, List, [], ◌∷◌, length, get_or, refl, arith}
use Rattle.std.proofs.lemmas.Grind.{common_steps}
use Rattle.share_state.specs.NewNames.{last_name}

pub last_name_at : (names : List (List ℕ)) (d : List ℕ) → 0 < length names → last_name names ≡ get_or names (length names - 1) d
last_name_at [] d h = grind arith
last_name_at (name ∷ []) d h = refl
last_name_at (name ∷ next ∷ names) d h = last_name_at (next ∷ names) d (omega arith) ∙ grind (arith, common_steps)
