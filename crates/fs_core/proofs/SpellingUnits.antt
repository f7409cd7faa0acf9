-- The units of UTF-16 that bytes are.
use Rattle.std.proofs.Common.{◌≡◌, ◌∙◌, ◌≤◌, ◌<◌, ℕ, suc, ◌*◌, ◌^◌, List, [], ◌∷◌, ◌++◌, drop, length, refl, ap, arith, length-append}
use Rattle.std.specs.Prelude.{slice_index}
use Rattle.std.proofs.lemmas.List.{drop_at}
use Rattle.smb_le.specs.Numbers.{number_at, bytes_of}
use Rattle.smb_le.proofs.NumberLaws.{length-bytes_of, number_at-bytes_of}
use Rattle.smb_mount.specs.Requests.{unit_bytes}
use Rattle.fs_plain.specs.Wire.{units_in}

-- each unit fits in two bytes
abbrev pub AreUnits : List ℕ → Type 0
AreUnits units = (k : ℕ) → slice_index units k < 2 ^ 16

units_first : (bytes : List ℕ) → 2 ≤ length bytes → units_in bytes ≡ number_at 2 0 bytes ∷ units_in (drop 2 bytes)
unfolding number_at
units_first [] h = absurd (omega arith)
units_first (low ∷ []) h = absurd (omega arith)
units_first (low ∷ high ∷ bytes) h = ap (λ (n : ℕ). n ∷ units_in bytes) (omega arith)

-- two bytes each
pub length-units : (units : List ℕ) → length (unit_bytes units) ≡ 2 * length units
unfolding unit_bytes
length-units [] = refl
length-units (u ∷ units) = omega (arith, length-append (bytes_of 2 u) (unit_bytes units), length-bytes_of 2 u, length-units units)

-- the bytes of units are read as these units
pub units_back : (units : List ℕ) → AreUnits units → units_in (unit_bytes units) ≡ units
unfolding unit_bytes
units_back [] fit = refl
units_back (u ∷ units) fit =
    let rest = unit_bytes units in
    let long : 2 ≤ length (bytes_of 2 u ++ rest) = omega (arith, length-append (bytes_of 2 u) rest, length-bytes_of 2 u) in
    let first : number_at 2 0 (bytes_of 2 u ++ rest) ≡ u = number_at-bytes_of 2 u rest (fit 0) in
    let behind : drop 2 (bytes_of 2 u ++ rest) ≡ rest = drop_at (bytes_of 2 u) rest 2 (length-bytes_of 2 u) in
    units_first (bytes_of 2 u ++ rest) long
    ∙ ap (λ (n : ℕ). n ∷ units_in (drop 2 (bytes_of 2 u ++ rest))) first
    ∙ ap (λ (l : List ℕ). u ∷ units_in l) behind
    ∙ ap (λ (l : List ℕ). u ∷ l) (units_back units (λ k. fit (suc k)))
