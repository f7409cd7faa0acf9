-- Names on the share (MS-FSCC 2.1.5), when two of them are equal, and the components of a path.
use Rattle.std.specs.Prelude.{ℕ, ◌-◌, ◌==◌, Bool, true, false, not, ◌&&◌, ◌||◌, nat_le, nat_lt, if◌then◌else◌, List, [], ◌∷◌, length}
use Rattle.std.specs.List.{list_any, slice_split}

-- the unit that decides: on a folding share `a` to `z` are as `A` to `Z`
abbrev pub folded : Bool → ℕ → ℕ
folded fold u = if fold && nat_le 0x61 u && nat_le u 0x7A then u - 0x20 else u

-- two names are equal: as long as each other, and unit by unit the same
abbrev pub same_name : Bool → List ℕ → List ℕ → Bool
same_name fold [] [] = true
same_name fold [] (y ∷ ys) = false
same_name fold (x ∷ xs) [] = false
same_name fold (x ∷ xs) (y ∷ ys) = folded fold x == folded fold y && same_name fold xs ys

-- a unit that no name may have: those below 0x20 and " * / : < > ? |
abbrev pub is_reserved : ℕ → Bool
is_reserved u = nat_lt u 0x20 || u == 0x22 || u == 0x2A || u == 0x2F || u == 0x3A || u == 0x3C || u == 0x3E || u == 0x3F || u == 0x7C

-- units that can be the name of a file: 1 to 255 of them, none reserved
abbrev pub is_name : List ℕ → Bool
is_name units = nat_le 1 (length units) && nat_le (length units) 255 && not (list_any is_reserved units)

-- a path, cut at each backslash; the empty path is the root and has no component
unfoldable pub components : List ℕ → List (List ℕ)
components path = if length path == 0 then [] else slice_split (λ u. u == 0x5C) path
