-- Bytes that are filled up with zeros and then written over.
use Rattle.std.proofs.Common.{◌≡◌, ℕ, ◌+◌, ◌-◌, ◌<◌, ◌≤◌, ◌==◌, ◌⊎◌, inl, inr, false, List, ◌++◌, length, take, drop, replicate, refl, sym, ap, ◌∙◌, arith}
use Rattle.std.proofs.Math.Seq.{take-append-add}
use Rattle.std.proofs.lemmas.Bool.{cases_lt}
use Rattle.std.proofs.lemmas.List.{take-append-le, take-replicate, take_all, drop_all, append-nil, length-append, length-replicate}
use Rattle.share_state.specs.Data.{resized, written}

-- bytes filled up with zeros to a size
abbrev filled : ℕ → List ℕ → List ℕ
filled size bytes = bytes ++ replicate (size - length bytes) 0

-- the front of what is filled up to a size not below it
front : (k size : ℕ) (bytes : List ℕ) → k ≤ size → take k (filled size bytes) ≡ resized k bytes
front k size bytes h = by (cases_lt k (length bytes))
  where
    by : (k < length bytes) ⊎ (length bytes ≤ k) → take k (filled size bytes) ≡ resized k bytes
    by (inl less) =
        let none : k - length bytes ≡ 0 = omega arith in
        rw (take-append-le k bytes (replicate (size - length bytes) 0) (omega arith), none, append-nil) refl
    by (inr more) =
        let more_by : k ≡ length bytes + (k - length bytes) = omega arith in
        let all : take k bytes ≡ bytes = take_all k bytes more in
        let zeros : take (k - length bytes) (replicate (size - length bytes) 0) ≡ replicate (k - length bytes) 0 = take-replicate (k - length bytes) (size - length bytes) 0 (omega arith) in
        let added : take (length bytes + (k - length bytes)) (filled size bytes) ≡ bytes ++ take (k - length bytes) (replicate (size - length bytes) 0) = take-append-add bytes (replicate (size - length bytes) 0) (k - length bytes) in
        rw all (ap (λ (n : ℕ). take n (filled size bytes)) more_by ∙ (added ∙ ap (λ (zs : List ℕ). bytes ++ zs) zeros))

-- nothing that was filled up lies behind the size
rest : (size : ℕ) (bytes : List ℕ) → drop size (filled size bytes) ≡ drop size bytes
rest size bytes = by (cases_lt size (length bytes))
  where
    by : (size < length bytes) ⊎ (length bytes ≤ size) → drop size (filled size bytes) ≡ drop size bytes
    by (inl less) =
        let none : size - length bytes ≡ 0 = omega arith in
        rw (none, append-nil) refl
    by (inr more) =
        let long : length (filled size bytes) ≤ size = rw (length-append, length-replicate) (omega arith) in
        drop_all size (filled size bytes) long ∙ sym (drop_all size bytes more)

-- other bytes, which are some, put over what was filled up as far as they go
pub put_over : (offset : ℕ) (others bytes : List ℕ) → (length others == 0) ≡ false
    → take offset (bytes ++ replicate (offset + length others - length bytes) 0) ++ (others ++ drop (offset + length others) (bytes ++ replicate (offset + length others - length bytes) 0))
    ≡ written offset others bytes
put_over offset others bytes h = rw (h, front offset (offset + length others) bytes (omega arith), rest (offset + length others) bytes) refl
