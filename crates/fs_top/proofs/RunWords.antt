-- The words of a run name one host, one port and one share, and those of a ping one host and one port.
use Rattle.std.proofs.Common.{arith, get_or, ◌≡◌, ◌∙◌, sym, ap, subst, ℕ, List, [], ◌∷◌, codes}
use Rattle.std.specs.Fmt.{decimal}
use Rattle.std.proofs.lemmas.Fmt.{decimal_injective}
use Rattle.fs_top.specs.Words.{IsPing, IsRun}

same_word : (n : ℕ) (words others : List (List ℕ)) → words ≡ others → get_or words n [] ≡ get_or others n []
same_word n words others same = ap (λ (l : List (List ℕ)). get_or l n []) same

-- what holds of the host, the port and the share that were read holds of those that the words name
pub along_words : (P : List ℕ → ℕ → List ℕ → Type 0) (words : List (List ℕ)) (host host' : List ℕ) (port port' : ℕ) (share share' : List ℕ)
    → IsRun words host port share → IsRun words host' port' share' → P host port share → P host' port' share'
along_words P words host host' port port' share share' one other p =
    subst (λ (h : List ℕ). P h port' share') (same_word 1 _ _ same)
    (subst (λ (n : ℕ). P host n share') (decimal_injective port port' (omega (arith, one.port_small)) (omega (arith, other.port_small)) (same_word 2 _ _ same))
    (subst (λ (s : List ℕ). P host port s) (same_word 3 _ _ same) p))
  where
    same : (codes "run" ∷ host ∷ decimal port ∷ share ∷ []) ≡ (codes "run" ∷ host' ∷ decimal port' ∷ share' ∷ [])
    same = sym one.words_are ∙ other.words_are

pub along_ping : (P : List ℕ → ℕ → Type 0) (words : List (List ℕ)) (host host' : List ℕ) (port port' : ℕ) → IsPing words host port → IsPing words host' port' → P host port → P host' port'
along_ping P words host host' port port' one other p =
    subst (λ (h : List ℕ). P h port') (same_word 1 _ _ same)
    (subst (λ (n : ℕ). P host n) (decimal_injective port port' (omega (arith, one.port_small)) (omega (arith, other.port_small)) (same_word 2 _ _ same)) p)
  where
    same : (codes "ping" ∷ host ∷ decimal port ∷ []) ≡ (codes "ping" ∷ host' ∷ decimal port' ∷ [])
    same = sym one.words_are ∙ other.words_are
