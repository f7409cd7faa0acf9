-- The parts of a frame, one step on.
use Rattle.std.proofs.Common.{◌≡◌, ◌∙◌, refl, sym, ap, ℕ, zero, suc, ◌+◌, ◌*◌, ◌<◌, ◌≤◌, List, [], ◌∷◌, length, Option, Some, None, Result, Ok, Err, arith, length-drop, Bor}
use Rattle.smb_le.specs.Numbers.{number_at}
use Rattle.smb_chain.specs.declared.parts.BadNext.{BadNext}
use Rattle.smb_chain.specs.Parts.{Step, Only, Then, Bad, step_of, step_from, with_rest, parts_within, parts_of, parts_left}

-- what follows a part is shorter by a header and more
pub length-then : (bytes part rest : List ℕ) → step_of bytes ≡ Then part rest → 64 + length rest ≤ length bytes
unfolding step_of
length-then bytes part rest h =
    let long = length-drop (number_at 4 20 bytes) bytes in
    grind arith

by_step : (bytes : List ℕ) (n k : ℕ) (step : Step) → step_of bytes ≡ step
    → ((part rest : List ℕ) → step_of bytes ≡ Then part rest → parts_within n rest ≡ parts_within k rest)
    → with_rest step (parts_within n) ≡ with_rest step (parts_within k)
by_step bytes n k (Only part) is others = refl
by_step bytes n k Bad is others = refl
by_step bytes n k (Then part rest) is others = ap (λ (l : List (Result (List ℕ) BadNext)). Ok part ∷ l) (others part rest is)

-- more steps than there are bytes find no more
parts_within-enough : (n k : ℕ) (bytes : List ℕ) → length bytes < n → length bytes < k → parts_within n bytes ≡ parts_within k bytes
parts_within-enough zero k bytes hn hk = absurd (omega arith)
parts_within-enough (suc n) zero bytes hn hk = absurd (omega arith)
parts_within-enough (suc n) (suc k) bytes hn hk =
    by_step bytes n k (step_of bytes) refl (λ part rest is.
    let short = length-then bytes part rest is in
    parts_within-enough n k rest (omega arith) (omega arith))

-- the first part, and those of the bytes after it
by_rest : (bytes : List ℕ) (step : Step) → step_of bytes ≡ step
    → ((part rest : List ℕ) → step_of bytes ≡ Then part rest → parts_within (length bytes) rest ≡ parts_of rest)
    → with_rest step (parts_within (length bytes)) ≡ with_rest step parts_of
by_rest bytes (Only part) is others = refl
by_rest bytes Bad is others = refl
by_rest bytes (Then part rest) is others = ap (λ (l : List (Result (List ℕ) BadNext)). Ok part ∷ l) (others part rest is)

pub parts_of-step : (bytes : List ℕ) → parts_of bytes ≡ with_rest (step_of bytes) parts_of
unfolding parts_of
parts_of-step bytes =
    by_rest bytes (step_of bytes) refl (λ part rest is.
    let short = length-then bytes part rest is in
    parts_within-enough (length bytes) (suc (length rest)) rest (omega arith) (omega arith))

-- what an iterator gives, and what it has left
pub parts_of-part : (bytes part : List ℕ) (rest : Option (Bor (List ℕ))) → step_from part rest ≡ step_of bytes → parts_of bytes ≡ Ok part ∷ parts_left rest
parts_of-part bytes part None is = parts_of-step bytes ∙ ap (λ (s : Step). with_rest s parts_of) (sym is)
parts_of-part bytes part (Some rest) is = parts_of-step bytes ∙ ap (λ (s : Step). with_rest s parts_of) (sym is)

pub parts_of-bad : (bytes : List ℕ) → Bad ≡ step_of bytes → parts_of bytes ≡ Err record {} ∷ []
parts_of-bad bytes is = parts_of-step bytes ∙ ap (λ (s : Step). with_rest s parts_of) (sym is)

few-by_step : (bytes : List ℕ) (n : ℕ) (step : Step) → step_of bytes ≡ step
    → ((part rest : List ℕ) → step_of bytes ≡ Then part rest → 64 * length (parts_within n rest) ≤ 64 + length rest)
    → 64 * length (with_rest step (parts_within n)) ≤ 64 + length bytes
few-by_step bytes n (Only part) is others = omega arith
few-by_step bytes n Bad is others = omega arith
few-by_step bytes n (Then part rest) is others =
    let short = length-then bytes part rest is in
    let few = others part rest is in
    omega (arith, short, few)

few-within : (n : ℕ) (bytes : List ℕ) → 64 * length (parts_within n bytes) ≤ 64 + length bytes
few-within zero bytes = omega arith
few-within (suc n) bytes = few-by_step bytes n (step_of bytes) refl (λ part rest is. few-within n rest)

-- there are no more parts than headers have room
pub few_parts : (bytes : List ℕ) → 64 * length (parts_of bytes) ≤ 64 + length bytes
unfolding parts_of
few_parts bytes = few-within (suc (length bytes)) bytes

pub ruleset iterator_steps = (parts_of-part, parts_of-bad)
