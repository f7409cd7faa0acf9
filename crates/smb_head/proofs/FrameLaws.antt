-- What the layers above need of the first frame of some bytes: bytes that come later change nothing of it.
use Rattle.std.proofs.Common.{◌≡◌, ◌∙◌, refl, sym, ap, ℕ, zero, suc, cond, nat_lt, ◌+◌, ◌-◌, ◌*◌, ◌/◌, ◌%◌, ◌<◌, ◌≤◌, List, [], ◌∷◌, ◌++◌, length, take, drop, slice_index, get_or, arith, length-append, length-drop}
use Rattle.std.proofs.lemmas.List.{take_at, drop_at, get_or_append_left, drop-append-le, take-append-le, take_all, drop_all, length-take-le}
use Rattle.smb_head.specs.declared.first.TheConstants.{MAX_FRAME}
use Rattle.smb_head.specs.declared.first.FrameFault.{FrameFault}
use Rattle.smb_head.specs.declared.first.FrameFault.TheVariants.{NotZero, TooLarge, NoMemory}
use Rattle.smb_head.specs.Stream.{First, Partial, Whole, Bad, prefix, frame_length, first_of, lack, IsFault}

-- a fault of the bytes is never want of memory
pub bad-memory : (bytes : List ℕ) → first_of bytes ≡ Bad NoMemory → ⊥
unfolding first_of
bad-memory bytes h = grind arith

pub IsFault-bad : (fault : FrameFault) (first : First) → (first ≡ Bad NoMemory → ⊥) → first ≡ Bad fault → IsFault fault first
IsFault-bad (NotZero byte) first never is = is
IsFault-bad (TooLarge n) first never is = is
IsFault-bad NoMemory first never is = absurd (never is)

-- three bytes name any length below 2 ^ 24
prefix-length : (n : ℕ) → n < 16777216 → n / 65536 % 256 * 65536 + (n / 256 % 256 * 256 + n % 256) ≡ n
prefix-length n small = omega arith

-- a frame is taken off a stream, whatever follows it
pub first_of-frame : (n : ℕ) (message rest : List ℕ) → n ≤ MAX_FRAME → length message ≡ n → first_of (prefix n ++ (message ++ rest)) ≡ Whole message rest
unfolding first_of
first_of-frame n message rest fits is =
    let e : n / 65536 % 256 * 65536 + (n / 256 % 256 * 256 + n % 256) ≡ n = prefix-length n (omega arith) in
    let long = length-append message rest in
    let front = take_at message rest n is in
    let back = drop_at message rest n is in
    rw e (grind arith)

-- what a whole frame is, in numbers
pub record IsWhole (bytes message rest : List ℕ) : Type 0 where
  pub zero_first : slice_index bytes 0 ≡ 0
  pub four : 4 ≤ length bytes
  pub small : frame_length bytes ≤ MAX_FRAME
  pub fits : 4 + frame_length bytes ≤ length bytes
  pub its_message : message ≡ take (frame_length bytes) (drop 4 bytes)
  pub its_rest : rest ≡ drop (4 + frame_length bytes) bytes

whole-is : (bytes message rest : List ℕ) → first_of bytes ≡ Whole message rest → IsWhole bytes message rest
unfolding first_of
whole-is bytes message rest h = record {
  zero_first = grind arith;
  four = grind arith;
  small = grind arith;
  fits = grind arith;
  its_message = grind arith;
  its_rest = grind arith;
}

whole-of : (bytes message rest : List ℕ) → IsWhole bytes message rest → first_of bytes ≡ Whole message rest
unfolding first_of
whole-of bytes message rest is = grind arith

-- a whole frame takes four bytes and more
pub length-whole : (bytes message rest : List ℕ) → first_of bytes ≡ Whole message rest → 4 + length rest ≤ length bytes
length-whole bytes message rest h =
    let is = whole-is bytes message rest h in
    omega (arith, is.fits, ap length is.its_rest, length-drop (4 + frame_length bytes) bytes)

-- it is spelled as a frame
same_length : (xs ys : List ℕ) → 4 ≤ length xs → frame_length (xs ++ ys) ≡ frame_length xs
same_length xs ys long =
    let b : get_or (xs ++ ys) 1 0 ≡ get_or xs 1 0 = get_or_append_left xs ys 0 1 (omega arith) in
    let c : get_or (xs ++ ys) 2 0 ≡ get_or xs 2 0 = get_or_append_left xs ys 0 2 (omega arith) in
    let d : get_or (xs ++ ys) 3 0 ≡ get_or xs 3 0 = get_or_append_left xs ys 0 3 (omega arith) in
    rw (b, c, d) refl

-- bytes that come later do not change the first frame
pub first_of-more : (xs ys message rest : List ℕ) → first_of xs ≡ Whole message rest → first_of (xs ++ ys) ≡ Whole message (rest ++ ys)
first_of-more xs ys message rest h =
    let is = whole-is xs message rest h in
    let first : get_or (xs ++ ys) 0 0 ≡ get_or xs 0 0 = get_or_append_left xs ys 0 0 (omega arith) in
    let same : frame_length (xs ++ ys) ≡ frame_length xs = same_length xs ys is.four in
    let long : length (xs ++ ys) ≡ length xs + length ys = length-append xs ys in
    whole-of (xs ++ ys) message (rest ++ ys) record {
      zero_first = first ∙ is.zero_first;
      four = omega arith;
      small = omega arith;
      fits = omega arith;
      its_message = rw (same, drop-append-le 4 xs ys is.four) (is.its_message ∙ sym (take-append-le (frame_length xs) (drop 4 xs) ys (omega (arith, length-drop 4 xs))));
      its_rest = rw (same, drop-append-le (4 + frame_length xs) xs ys is.fits) (ap (λ (l : List ℕ). l ++ ys) is.its_rest);
    }

-- and no fault goes away
pub first_of-bad_more : (xs ys : List ℕ) (fault : FrameFault) → first_of xs ≡ Bad fault → first_of (xs ++ ys) ≡ Bad fault
unfolding first_of
first_of-bad_more [] ys fault h = grind arith
first_of-bad_more (x ∷ xs) ys fault h =
    let long = length-append xs ys in
    let same = same_length (x ∷ xs) ys in
    grind arith

pub first_of-nil : first_of [] ≡ Partial
unfolding first_of
first_of-nil = refl

-- less than a frame, of which the four bytes are there
pub record IsPart (bytes : List ℕ) : Type 0 where
  pub zero_first : slice_index bytes 0 ≡ 0
  pub small : frame_length bytes ≤ MAX_FRAME
  pub short : length bytes < 4 + frame_length bytes

part-is : (bytes : List ℕ) → 4 ≤ length bytes → first_of bytes ≡ Partial → IsPart bytes
unfolding first_of
part-is bytes four h = record {
  zero_first = grind arith;
  small = grind arith;
  short = grind arith;
}

pub lack-part : (bytes : List ℕ) → 4 ≤ length bytes → lack Partial bytes ≡ 4 + frame_length bytes - length bytes
lack-part bytes four = grind arith

-- so many bytes more make it a whole frame, whatever they are
pub first_of-completed : (bytes more : List ℕ) → first_of bytes ≡ Partial → 4 ≤ length bytes → length more ≡ 4 + frame_length bytes - length bytes
    → first_of (bytes ++ more) ≡ Whole (drop 4 (bytes ++ more)) []
first_of-completed bytes more h four so_many =
    let is = part-is bytes four h in
    let first : get_or (bytes ++ more) 0 0 ≡ get_or bytes 0 0 = get_or_append_left bytes more 0 0 (omega arith) in
    let same : frame_length (bytes ++ more) ≡ frame_length bytes = same_length bytes more four in
    let long : length (bytes ++ more) ≡ length bytes + length more = length-append bytes more in
    let after = length-drop 4 (bytes ++ more) in
    whole-of (bytes ++ more) (drop 4 (bytes ++ more)) [] record {
      zero_first = first ∙ is.zero_first;
      four = omega arith;
      small = omega arith;
      fits = omega arith;
      its_message = sym (take_all (frame_length (bytes ++ more)) (drop 4 (bytes ++ more)) (omega arith));
      its_rest = sym (drop_all (4 + frame_length (bytes ++ more)) (bytes ++ more) (omega arith));
    }

-- what is sent of a frame before its last byte is less than a frame
pub first_of-begun : (n : ℕ) (message : List ℕ) (k : ℕ) → n ≤ MAX_FRAME → length message ≡ n → k < 4 + n → first_of (take k (prefix n ++ message)) ≡ Partial
unfolding first_of
first_of-begun n message zero fits is before = refl
first_of-begun n message (suc zero) fits is before = refl
first_of-begun n message (suc (suc zero)) fits is before = refl
first_of-begun n message (suc (suc (suc zero))) fits is before = refl
first_of-begun n message (suc (suc (suc (suc k)))) fits is before =
    let e : n / 65536 % 256 * 65536 + (n / 256 % 256 * 256 + n % 256) ≡ n = prefix-length n (omega arith) in
    let long : length (take k message) ≡ k = length-take-le k message (omega arith) in
    rw e (begun (length (take k message)) n (omega arith) fits)
  where
    begun : (a n : ℕ) → a < n → n ≤ MAX_FRAME
        → cond (nat_lt (suc (suc (suc (suc a)))) 4) Partial (cond (nat_lt MAX_FRAME n) (Bad (TooLarge n)) (cond (nat_lt (suc (suc (suc (suc a)))) (4 + n)) Partial (Whole (take n (take k message)) (drop (4 + n) (take (suc (suc (suc (suc k)))) (prefix n ++ message)))))) ≡ Partial
    begun a n less small = grind arith
