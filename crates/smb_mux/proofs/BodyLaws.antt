-- The variable part of a body.
use Rattle.std.proofs.Common.{◌≡◌, ◌∙◌, refl, ap, ℕ, ◌+◌, ◌-◌, ◌<◌, List, [], ◌∷◌, length, slice_range, take, drop, arith}
use Rattle.smb_field.specs.Body.{Lends}

take_none : (l : List ℕ) → take 0 l ≡ []
take_none [] = refl
take_none (x ∷ l) = refl

empty : (m : List ℕ) (at : ℕ) → slice_range m at (at + 0) ≡ []
empty m at = let e : at + 0 - at ≡ 0 = omega arith in ap (λ (n : ℕ). take n (drop at m)) e ∙ take_none (drop at m)

-- it is what stands at the place that the body names
pub lent_part : (behind at many : ℕ) (part m : List ℕ) → Lends behind part m at → many ≡ length part → slice_range m at (at + many) ≡ part
lent_part behind at many [] m lends is = ap (λ (n : ℕ). slice_range m at (at + n)) is ∙ empty m at
lent_part behind at many (x ∷ part) m lends is =
    let long : 0 < length (x ∷ part) = omega arith in
    ap (λ (n : ℕ). slice_range m at (at + n)) is ∙ (lends long).2
