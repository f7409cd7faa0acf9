-- What is looked at in the variable parts of a message.
use Rattle.std.specs.Prelude.{ℕ, ◌+◌, ◌*◌, List, [], ◌∷◌}

-- units of UTF-16, two bytes each, the low one first
abbrev pub units_in : List ℕ → List ℕ
units_in [] = []
units_in (low ∷ []) = []
units_in (low ∷ high ∷ rest) = (low + 256 * high) ∷ units_in rest
