-- The words of which there are few: flags, and the two kinds of a lock.
use Rattle.std.specs.Prelude.{ℕ, ◌+◌, Bool, true, false, List, [], ◌∷◌, ◌++◌, map, codes, Result}
use Rattle.std.specs.List.{flat_map}
use Rattle.fs_script.specs.declared.line.LineFault.{LineFault}
use Rattle.fs_script.specs.Words.{value_in, known}

-- `r` 1, `w` 2 or `rw`; then perhaps `c` 4, to create, or `cx` 12, to refuse what is there; then perhaps `t` 16, to truncate
abbrev pub accesses : List (List ℕ × ℕ)
accesses = (codes "r", 1) ∷ (codes "w", 2) ∷ (codes "rw", 3) ∷ []

abbrev pub creations : List (List ℕ × ℕ)
creations = ([], 0) ∷ (codes "c", 4) ∷ (codes "cx", 12) ∷ []

abbrev pub cuts : List (List ℕ × ℕ)
cuts = ([], 0) ∷ (codes "t", 16) ∷ []

-- each of the first with each of the second behind it
abbrev pub joined : List (List ℕ × ℕ) → List (List ℕ × ℕ) → List (List ℕ × ℕ)
joined firsts seconds = flat_map (λ (a : List ℕ × ℕ). map (λ (b : List ℕ × ℕ). (a.0 ++ b.0, a.1 + b.1)) seconds) firsts

abbrev pub flags_of : List ℕ → Result ℕ LineFault
flags_of word = known (value_in (joined (joined accesses creations) cuts) word)

-- a shared lock, or an exclusive one
abbrev pub exclusive_of : List ℕ → Result Bool LineFault
exclusive_of word = known (value_in ((codes "s", false) ∷ (codes "x", true) ∷ []) word)
