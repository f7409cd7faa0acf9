-- A line is cut at its first space.
use Rattle.std.proofs.Common.{◌≡◌, ◌≢◌, ◌<◌, ◌==◌, ℕ, false, inl, inr, List, [], ◌∷◌, length, get_or, Option, Some, None, MatchOption}
use Rattle.std.proofs.Common.{refl, ap, ◌∙◌, arith}
use Rattle.std.specs.List.{All}
use Rattle.std.proofs.lemmas.Bool.Decides.{eqb_tells, nat_tests}
use Rattle.std.proofs.lemmas.List.{get_or_default}
use Rattle.std.proofs.lemmas.List.Splits.{slice_split_at, slice_split_none, length-slice_split}
use Rattle.std.proofs.lemmas.Str.Pattern.{IsSplitOnceResult, split_parts}
use Rattle.fs_script.specs.Words.{words_of}
use denote.Ref.{Bor}

apart : (b : ℕ) → b ≢ 0x20 → (b == 0x20) ≡ false
apart b other = elim (eqb_tells b 0x20) [
  | inl is ↦ absurd (other is.1)
  | inr not ↦ not.0
]

no_space : (bs : List ℕ) → ((i : ℕ) → i < length bs → get_or bs i 0 ≢ 0x20) → All (λ b. (b == 0x20) ≡ false) bs
no_space bs h = λ k d within. apart (get_or bs k d) (λ is. h k within (get_or_default bs k 0 d within ∙ is))

-- what a cut at the first space tells of the words
pub cut_words : (bs : List ℕ) (r : Option (Bor (List ℕ) × Bor (List ℕ))) → IsSplitOnceResult 0x20 bs r
    → MatchOption r (words_of bs ≡ bs ∷ []) (λ x. words_of bs ≡ x.0.now ∷ words_of x.1.now)
cut_words bs None h = slice_split_none (λ b. b == 0x20) bs (no_space bs (split_parts 0x20 bs None h (omega arith)))
cut_words bs (Some x) h =
    let parts = split_parts 0x20 bs (Some x) h (omega arith) in
    ap words_of parts.0 ∙ slice_split_at (λ b. b == 0x20) x.0.now 0x20 x.1.now (no_space x.0.now parts.1) refl

-- there is always a word
pub some_words : (bs : List ℕ) → (length (words_of bs) == 0) ≡ false
some_words bs = rw (length-slice_split (λ b. b == 0x20) bs) (grind (arith, nat_tests))
