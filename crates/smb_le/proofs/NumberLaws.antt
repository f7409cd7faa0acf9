-- What the layers above need of numbers in bytes, over every width and offset: a number that was written is read, one beside it
-- stays, a layout has its length, and a number reads only its own bytes.
use Rattle.std.proofs.Common.{◌≡◌, ℕ, zero, suc, ◌+◌, ◌-◌, ◌^◌, ◌<◌, ◌≤◌, List, [], ◌++◌, length, take, drop, slice_index, refl, ap, sym, ◌∙◌, arith, length-append, length-take, length-drop, add-zero}
use Rattle.std.proofs.lemmas.List.{append-nil, drop_at, take_at, drop_all, drop-drop, get_or-drop, length-take-le}
use borrow.Rule.Slice.PartMut.{put_mid}
use Rattle.byteorder.specs.Endian.{little_from, little_bytes}
use Rattle.byteorder.specs.Numbers.{little_number-reads_back, little_from-lt, little_from-take, length-bytes_low_first}
use Rattle.smb_le.specs.Numbers.{number_at, bytes_of, overwritten}

-- the number at an offset is the one at the start of the bytes from there
little_from-drop : (w i j : ℕ) (xs : List ℕ) → little_from i w (drop j xs) ≡ little_from (j + i) w xs
little_from-drop zero i j xs = refl
little_from-drop (suc w) i j xs =
    let rest = little_from-drop w (suc i) j xs in
    let byte = get_or-drop j xs i 0 in
    let e : j + suc i ≡ suc (j + i) = omega arith in
    rw (byte, rest, e) refl

pub number_at-drop : (w i j : ℕ) (xs : List ℕ) → number_at w i (drop j xs) ≡ number_at w (j + i) xs
unfolding number_at
number_at-drop w i j xs = little_from-drop w i j xs

pub number_at-take : (w i n : ℕ) (xs : List ℕ) → i + w ≤ n → number_at w i (take n xs) ≡ number_at w i xs
unfolding number_at
number_at-take w i n xs fits = little_from-take i w n xs fits

-- bytes that follow change nothing
pub number_at-append_left : (w i : ℕ) (xs ys : List ℕ) → i + w ≤ length xs → number_at w i (xs ++ ys) ≡ number_at w i xs
number_at-append_left w i xs ys fits =
    sym (number_at-take w i (length xs) (xs ++ ys) fits) ∙ ap (number_at w i) (take_at xs ys (length xs) refl)

-- bytes in front move the offset on
pub number_at-append_right : (w i j : ℕ) (xs ys : List ℕ) → j ≡ length xs + i → number_at w j (xs ++ ys) ≡ number_at w i ys
number_at-append_right w i j xs ys place =
    ap (λ (k : ℕ). number_at w k (xs ++ ys)) place
    ∙ sym (number_at-drop w i (length xs) (xs ++ ys))
    ∙ ap (number_at w i) (drop_at xs ys (length xs) refl)

-- a number has as many bytes as its field is wide
pub length-bytes_of : (w n : ℕ) → length (bytes_of w n) ≡ w
unfolding bytes_of
length-bytes_of w n = length-bytes_low_first 0 w n

-- what was written is read, whatever follows it
pub number_at-bytes_of : (w n : ℕ) (rest : List ℕ) → n < 256 ^ w → number_at w 0 (bytes_of w n ++ rest) ≡ n
unfolding number_at bytes_of
number_at-bytes_of w n rest fits = little_number-reads_back w n rest fits

-- the same where nothing follows
pub number_at-bytes_of_alone : (w n : ℕ) → n < 256 ^ w → number_at w 0 (bytes_of w n) ≡ n
number_at-bytes_of_alone w n fits = ap (number_at w 0) (sym (append-nil (bytes_of w n))) ∙ number_at-bytes_of w n [] fits

-- a field of w bytes holds a number below 256 ^ w
pub number_at-lt : (w i : ℕ) (xs : List ℕ) → ((k : ℕ) → slice_index xs k < 256) → number_at w i xs < 256 ^ w
unfolding number_at
number_at-lt w i xs bytes = little_from-lt i w xs bytes

-- the three parts of bytes that were written over
pub length-overwritten : (i : ℕ) (piece bytes : List ℕ) → i + length piece ≤ length bytes → length (overwritten i piece bytes) ≡ length bytes
unfolding overwritten
length-overwritten i piece bytes fits =
    omega (arith, length-append (take i bytes) (piece ++ drop (i + length piece) bytes), length-append piece (drop (i + length piece) bytes), length-take-le i bytes (omega arith), length-drop (i + length piece) bytes)

-- a number that was written over bytes is read there
pub number_at-overwritten_same : (w i n : ℕ) (bytes : List ℕ) → i ≤ length bytes → n < 256 ^ w → number_at w i (overwritten i (bytes_of w n) bytes) ≡ n
unfolding overwritten
number_at-overwritten_same w i n bytes within fits =
    number_at-append_right w 0 i (take i bytes) (bytes_of w n ++ drop (i + length (bytes_of w n)) bytes) (omega (arith, length-take-le i bytes within))
    ∙ number_at-bytes_of w n (drop (i + length (bytes_of w n)) bytes) fits

-- a number before the bytes that were written over, or behind them, stays
pub number_at-overwritten_before : (w j i : ℕ) (piece bytes : List ℕ) → i ≤ length bytes → j + w ≤ i → number_at w j (overwritten i piece bytes) ≡ number_at w j bytes
unfolding overwritten
number_at-overwritten_before w j i piece bytes within before =
    number_at-append_left w j (take i bytes) (piece ++ drop (i + length piece) bytes) (omega (arith, length-take-le i bytes within))
    ∙ number_at-take w j i bytes before

pub number_at-overwritten_behind : (w j i : ℕ) (piece bytes : List ℕ) → i + length piece ≤ length bytes → i + length piece ≤ j → number_at w j (overwritten i piece bytes) ≡ number_at w j bytes
unfolding overwritten
number_at-overwritten_behind w j i piece bytes within behind =
    number_at-append_right w (j - i) j (take i bytes) (piece ++ drop (i + length piece) bytes) (omega (arith, length-take-le i bytes (omega arith)))
    ∙ number_at-append_right w (j - i - length piece) (j - i) piece (drop (i + length piece) bytes) (omega arith)
    ∙ number_at-drop w (j - i - length piece) (i + length piece) bytes
    ∙ ap (λ (k : ℕ). number_at w k bytes) (omega arith)

-- a number that stands in a part of the bytes, as a getter reads it
pub number_at-part : (w i n : ℕ) (xs : List ℕ) → n ≡ w → little_from 0 w (take n (drop i xs)) ≡ number_at w i xs
unfolding number_at
number_at-part w i n xs whole =
    little_from-take 0 w n (drop i xs) (omega arith) ∙ little_from-drop w 0 i xs ∙ ap (λ (k : ℕ). little_from k w xs) (add-zero i)

-- a part of the bytes that a number was written over, as a putter leaves it
pub overwritten-part : (w i k n : ℕ) (bytes : List ℕ) → k ≡ w → i + w ≤ length bytes
    → put_mid i k bytes (little_bytes w n ++ drop w (take k (drop i bytes))) ≡ overwritten i (bytes_of w n) bytes
unfolding overwritten bytes_of
overwritten-part w i k n bytes whole fits =
    let none : drop w (take k (drop i bytes)) ≡ [] = drop_all w (take k (drop i bytes)) (omega (arith, length-take k (drop i bytes))) in
    let piece : length (little_bytes w n) ≡ w = length-bytes_low_first 0 w n in
    let place : i + k ≡ i + length (little_bytes w n) = omega arith in
    rw (none, append-nil, drop-drop k i bytes, place) refl
