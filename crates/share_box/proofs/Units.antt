-- The units of UTF-16 that bytes are.
use Rattle.std.proofs.Common.{◌≡◌, ◌≤◌, ◌<◌, ℕ, List, [], ◌∷◌, drop, length, refl, ap, arith}
use Rattle.smb_le.specs.Numbers.{number_at}
use Rattle.fs_plain.specs.Wire.{units_in}

pub units_first : (bytes : List ℕ) → 2 ≤ length bytes → units_in bytes ≡ number_at 2 0 bytes ∷ units_in (drop 2 bytes)
unfolding number_at
units_first [] h = absurd (omega arith)
units_first (low ∷ []) h = absurd (omega arith)
units_first (low ∷ high ∷ bytes) h = ap (λ (n : ℕ). n ∷ units_in bytes) (omega arith)

pub units_none : (bytes : List ℕ) → length bytes < 2 → units_in bytes ≡ []
units_none [] h = refl
units_none (low ∷ []) h = refl
units_none (low ∷ high ∷ bytes) h = absurd (omega arith)
