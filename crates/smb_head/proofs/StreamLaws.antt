-- Taking the frames off a stream: it does not matter in which pieces the bytes came.
use Rattle.std.proofs.Common.{◌≡◌, ◌∙◌, refl, sym, ap, ℕ, zero, suc, ◌≤◌, List, [], ◌∷◌, ◌++◌, length, arith, append_assoc}
use Rattle.std.proofs.lemmas.List.{append-nil, nil_from_length}
use Rattle.smb_head.specs.declared.first.FrameFault.{FrameFault}
use Rattle.std.specs.List.{AllByRecursion, flat_map}
use Rattle.smb_head.specs.Stream.{prefix, frame, IsMessage, First, Partial, Whole, Bad, first_of, one_more, taken_within, frames_in, rest_in}
use Rattle.smb_head.proofs.FrameLaws.{length-whole, first_of-more, first_of-nil, first_of-frame}

by_first : (bytes : List ℕ) (n k : ℕ) (first : First) → first_of bytes ≡ first
    → ((message rest : List ℕ) → first_of bytes ≡ Whole message rest → taken_within n rest ≡ taken_within k rest)
    → one_more first bytes (taken_within n) ≡ one_more first bytes (taken_within k)
by_first bytes n k Partial is others = refl
by_first bytes n k (Bad fault) is others = refl
by_first bytes n k (Whole message rest) is others =
    ap (λ (t : List (List ℕ) × List ℕ). (message ∷ t.0, t.1)) (others message rest is)

-- more steps than there are bytes take off no more
taken_within-enough : (n k : ℕ) (bytes : List ℕ) → length bytes ≤ n → length bytes ≤ k → taken_within n bytes ≡ taken_within k bytes
taken_within-enough zero zero bytes hn hk = refl
taken_within-enough zero (suc k) bytes hn hk =
    rw (nil_from_length bytes (omega arith), first_of-nil) refl
taken_within-enough (suc n) zero bytes hn hk =
    rw (nil_from_length bytes (omega arith), first_of-nil) refl
taken_within-enough (suc n) (suc k) bytes hn hk =
    by_first bytes n k (first_of bytes) refl (λ message rest is.
    let short = length-whole bytes message rest is in
    taken_within-enough n k rest (omega arith) (omega arith))

-- one frame off, and then the others
taken-whole : (n : ℕ) (bytes message rest : List ℕ) → length bytes ≤ n → first_of bytes ≡ Whole message rest
    → taken_within n bytes ≡ (message ∷ (taken_within (length rest) rest).0, (taken_within (length rest) rest).1)
taken-whole zero bytes message rest hn h = let short = length-whole bytes message rest h in absurd (omega arith)
taken-whole (suc n) bytes message rest hn h =
    let short = length-whole bytes message rest h in
    let same : taken_within n rest ≡ taken_within (length rest) rest = taken_within-enough n (length rest) rest (omega arith) (omega arith) in
    rw (h, same) refl

pub frames_in-whole : (bytes message rest : List ℕ) → first_of bytes ≡ Whole message rest → frames_in bytes ≡ message ∷ frames_in rest
unfolding frames_in
frames_in-whole bytes message rest h = ap (λ (t : List (List ℕ) × List ℕ). t.0) (taken-whole (length bytes) bytes message rest (omega arith) h)

pub rest_in-whole : (bytes message rest : List ℕ) → first_of bytes ≡ Whole message rest → rest_in bytes ≡ rest_in rest
unfolding rest_in
rest_in-whole bytes message rest h = ap (λ (t : List (List ℕ) × List ℕ). t.1) (taken-whole (length bytes) bytes message rest (omega arith) h)

-- no frame, and nothing is taken
taken-partial : (n : ℕ) (bytes : List ℕ) → first_of bytes ≡ Partial → taken_within n bytes ≡ ([], bytes)
taken-partial zero bytes h = refl
taken-partial (suc n) bytes h = rw h refl

taken-bad : (n : ℕ) (bytes : List ℕ) (fault : FrameFault) → first_of bytes ≡ Bad fault → taken_within n bytes ≡ ([], bytes)
taken-bad zero bytes fault h = refl
taken-bad (suc n) bytes fault h = rw h refl

-- nothing more can be taken off
pub record IsSettled (bytes : List ℕ) : Type 0 where
  pub no_frame : frames_in bytes ≡ []
  pub all_left : rest_in bytes ≡ bytes

pub settled-partial : (bytes : List ℕ) → first_of bytes ≡ Partial → IsSettled bytes
unfolding frames_in rest_in
settled-partial bytes h = record {
  no_frame = ap (λ (t : List (List ℕ) × List ℕ). t.0) (taken-partial (length bytes) bytes h);
  all_left = ap (λ (t : List (List ℕ) × List ℕ). t.1) (taken-partial (length bytes) bytes h);
}

pub settled-bad : (bytes : List ℕ) (fault : FrameFault) → first_of bytes ≡ Bad fault → IsSettled bytes
unfolding frames_in rest_in
settled-bad bytes fault h = record {
  no_frame = ap (λ (t : List (List ℕ) × List ℕ). t.0) (taken-bad (length bytes) bytes fault h);
  all_left = ap (λ (t : List (List ℕ) × List ℕ). t.1) (taken-bad (length bytes) bytes fault h);
}

-- what came is taken off first, and then what comes later, or both at once
pub record IsSplit (bytes more : List ℕ) : Type 0 where
  pub frames : frames_in (bytes ++ more) ≡ frames_in bytes ++ frames_in (rest_in bytes ++ more)
  pub rest : rest_in (bytes ++ more) ≡ rest_in (rest_in bytes ++ more)

split-settled : (bytes more : List ℕ) → IsSettled bytes → IsSplit bytes more
split-settled bytes more s = record {
  frames = rw (s.no_frame, s.all_left) refl;
  rest = rw s.all_left refl;
}

split-whole : (bytes more message rest : List ℕ) → first_of bytes ≡ Whole message rest → IsSplit rest more → IsSplit bytes more
split-whole bytes more message rest is others =
    let longer = first_of-more bytes more message rest is in
    record {
      frames = rw (frames_in-whole bytes message rest is, rest_in-whole bytes message rest is, frames_in-whole (bytes ++ more) message (rest ++ more) longer) (ap (λ (l : List (List ℕ)). message ∷ l) others.frames);
      rest = rw (rest_in-whole bytes message rest is, rest_in-whole (bytes ++ more) message (rest ++ more) longer) others.rest;
    }

split-first : (bytes more : List ℕ) (first : First) → first_of bytes ≡ first
    → ((message rest : List ℕ) → first_of bytes ≡ Whole message rest → IsSplit rest more) → IsSplit bytes more
split-first bytes more Partial is others = split-settled bytes more (settled-partial bytes is)
split-first bytes more (Bad fault) is others = split-settled bytes more (settled-bad bytes fault is)
split-first bytes more (Whole message rest) is others = split-whole bytes more message rest is (others message rest is)

split-within : (n : ℕ) (bytes more : List ℕ) → length bytes ≤ n → IsSplit bytes more
split-within zero bytes more hn =
    split-first bytes more (first_of bytes) refl (λ message rest is.
    let short = length-whole bytes message rest is in absurd (omega arith))
split-within (suc n) bytes more hn =
    split-first bytes more (first_of bytes) refl (λ message rest is.
    let short = length-whole bytes message rest is in
    split-within n rest more (omega arith))

pub split : (bytes more : List ℕ) → IsSplit bytes more
split bytes more = split-within (length bytes) bytes more (omega arith)

-- what is left behind the frames has no frame
settled-first : (bytes : List ℕ) (first : First) → first_of bytes ≡ first
    → ((message rest : List ℕ) → first_of bytes ≡ Whole message rest → IsSettled (rest_in rest)) → IsSettled (rest_in bytes)
settled-first bytes Partial is others = let s = settled-partial bytes is in rw s.all_left s
settled-first bytes (Bad fault) is others = let s = settled-bad bytes fault is in rw s.all_left s
settled-first bytes (Whole message rest) is others = rw (rest_in-whole bytes message rest is) (others message rest is)

settled-within : (n : ℕ) (bytes : List ℕ) → length bytes ≤ n → IsSettled (rest_in bytes)
settled-within zero bytes hn =
    settled-first bytes (first_of bytes) refl (λ message rest is.
    let short = length-whole bytes message rest is in absurd (omega arith))
settled-within (suc n) bytes hn =
    settled-first bytes (first_of bytes) refl (λ message rest is.
    let short = length-whole bytes message rest is in
    settled-within n rest (omega arith))

pub settled : (bytes : List ℕ) → IsSettled (rest_in bytes)
settled bytes = settled-within (length bytes) bytes (omega arith)

-- messages that were sent as frames are taken off again
pub frames_in-sent : (messages : List (List ℕ)) (rest : List ℕ) → AllByRecursion IsMessage messages
    → frames_in (flat_map frame messages ++ rest) ≡ messages ++ frames_in rest
frames_in-sent [] rest each = refl
frames_in-sent (message ∷ messages) rest each =
    let others = frames_in-sent messages rest each.1 in
    let grouped : flat_map frame (message ∷ messages) ++ rest ≡ prefix (length message) ++ (message ++ (flat_map frame messages ++ rest)) =
    append_assoc (frame message) (flat_map frame messages) rest ∙ append_assoc (prefix (length message)) message (flat_map frame messages ++ rest) in
    let first = first_of-frame (length message) message (flat_map frame messages ++ rest) each.0 refl in
    ap frames_in grouped ∙ frames_in-whole _ message (flat_map frame messages ++ rest) first ∙ ap (λ (l : List (List ℕ)). message ∷ l) others

-- a loop that takes frames off, one step on
pub told-more : (out new goal : List (List ℕ)) (bytes message rest : List ℕ) → out ++ frames_in bytes ≡ goal → new ≡ out ++ message ∷ []
    → first_of bytes ≡ Whole message rest → new ++ frames_in rest ≡ goal
told-more out new goal bytes message rest told pushed whole =
    ap (λ (l : List (List ℕ)). l ++ frames_in rest) pushed
    ∙ append_assoc out (message ∷ []) (frames_in rest)
    ∙ ap (λ (l : List (List ℕ)). out ++ l) (sym (frames_in-whole bytes message rest whole))
    ∙ told

-- and at its end
pub told-all : (out goal : List (List ℕ)) (bytes : List ℕ) → out ++ frames_in bytes ≡ goal → IsSettled bytes → out ≡ goal
told-all out goal bytes told s =
    sym (append-nil out) ∙ ap (λ (l : List (List ℕ)). out ++ l) (sym s.no_frame) ∙ told

-- the frames so far, and those of what is held and what comes
pub record Tells (out : List (List ℕ)) (held more all : List ℕ) : Type 0 where
  pub told : out ++ frames_in (held ++ more) ≡ frames_in all
  pub left : rest_in (held ++ more) ≡ rest_in all
  pub settled : IsSettled held

-- one piece on
pub tells-more : (out new : List (List ℕ)) (held fed after piece more now all : List ℕ) → Tells out held now all → now ≡ piece ++ more
    → fed ≡ held ++ piece → new ≡ out ++ frames_in fed → after ≡ rest_in fed → Tells new after more all
tells-more out new held fed after piece more now all before cut is_fed is_new is_after =
    let both : held ++ now ≡ fed ++ more =
    ap (λ (l : List ℕ). held ++ l) cut ∙ sym (append_assoc held piece more) ∙ ap (λ (l : List ℕ). l ++ more) (sym is_fed) in
    let parts = split fed more in
    record {
      told = rw (is_new, is_after)
          (append_assoc out (frames_in fed) (frames_in (rest_in fed ++ more))
          ∙ ap (λ (l : List (List ℕ)). out ++ l) (sym parts.frames)
          ∙ ap (λ (l : List ℕ). out ++ frames_in l) (sym both)
          ∙ before.told);
      left = rw is_after (sym parts.rest ∙ ap rest_in (sym both) ∙ before.left);
      settled = rw is_after (settled fed);
    }

-- at the end
pub tells-all : (out : List (List ℕ)) (held all : List ℕ) → Tells out held [] all → (out ≡ frames_in all) × (held ≡ rest_in all)
tells-all out held all t =
    let alone : held ++ [] ≡ held = append-nil held in (
      told-all out (frames_in all) held (ap (λ (l : List ℕ). out ++ frames_in l) (sym alone) ∙ t.told) t.settled,
      sym t.settled.all_left ∙ ap rest_in (sym alone) ∙ t.left,
    )
