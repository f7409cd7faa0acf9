-- The messages of a frame, one step on.
use Rattle.std.proofs.Common.{◌≡◌, ◌∙◌, refl, sym, ap, ℕ, zero, suc, ◌<◌, List, length, Option, Some, None, Result, Ok, Err, arith, Bor}
use Rattle.smb_head.specs.declared.head.Head.{Head}
use Rattle.smb_head.specs.declared.head.HeadFault.{HeadFault}
use Rattle.smb_head.specs.Header.{head_of}
use Rattle.smb_chain.specs.Parts.{Step, Only, Then, Bad, step_of, step_from}
use Rattle.smb_chain.proofs.PartLaws.{length-then}
use Rattle.smb_mux.specs.declared.fault.TakeFault.{TakeFault}
use Rattle.smb_mux.specs.declared.fault.TakeFault.TheVariants as fault
use Rattle.smb_mux.specs.declared.fault.Malformed.TheVariants as malformed
use Rattle.smb_mux.specs.declared.taken.Taken.{Taken}
use Rattle.smb_mux.specs.declared.look.Look.{Look}
use Rattle.smb_mux.specs.Judged.{look_of, added, on_with, judged_by, judged_within, judged_from, next_of, others_left, IsAnswer}

on_same : (r : Result Taken TakeFault) (f g : Taken → Result Taken TakeFault) → ((now : Taken) → f now ≡ g now) → on_with r f ≡ on_with r g
on_same (Err e) f g same = refl
on_same (Ok taken) f g same = same taken

by_step : (head : Result Head HeadFault) (step : Step) (awaited : List (ℕ × ℕ)) (taken : Taken) (f g : Taken → List ℕ → Result Taken TakeFault)
    → ((part rest : List ℕ) (now : Taken) → step ≡ Then part rest → f now rest ≡ g now rest)
    → judged_by head step awaited taken f ≡ judged_by head step awaited taken g
by_step (Err e) step awaited taken f g same = refl
by_step (Ok head) Bad awaited taken f g same = refl
by_step (Ok head) (Only part) awaited taken f g same = refl
by_step (Ok head) (Then part rest) awaited taken f g same =
    on_same (added (look_of awaited taken part) part taken) (λ now. f now rest) (λ now. g now rest) (λ now. same part rest now refl)

enough : (n k : ℕ) (awaited : List (ℕ × ℕ)) (taken : Taken) (bytes : List ℕ) → length bytes < n → length bytes < k
    → judged_within n awaited taken bytes ≡ judged_within k awaited taken bytes
enough zero k awaited taken bytes hn hk = absurd (omega arith)
enough (suc n) zero awaited taken bytes hn hk = absurd (omega arith)
enough (suc n) (suc k) awaited taken bytes hn hk =
    by_step (head_of bytes) (step_of bytes) awaited taken (judged_within n awaited) (judged_within k awaited)
    (λ part rest now is.
    let short = length-then bytes part rest is in
    enough n k awaited now rest (omega arith) (omega arith))

-- the first message, and those of the bytes behind it
pub judged-step : (awaited : List (ℕ × ℕ)) (taken : Taken) (bytes : List ℕ)
    → judged_from awaited taken bytes ≡ judged_by (head_of bytes) (step_of bytes) awaited taken (judged_from awaited)
unfolding judged_from
judged-step awaited taken bytes =
    by_step (head_of bytes) (step_of bytes) awaited taken (judged_within (length bytes) awaited) (judged_from awaited)
    (λ part rest now is.
    let short = length-then bytes part rest is in
    enough (length bytes) (suc (length rest)) awaited now rest (omega arith) (omega arith))

-- one of two
same_ok : (x y : Step) (r : Result Step TakeFault) → r ≡ Ok x → r ≡ Ok y → x ≡ y
same_ok x y r is is' = cc

not_both : (x : Step) (e : TakeFault) (r : Result Step TakeFault) → r ≡ Ok x → r ≡ Err e → ⊥
not_both x e r is is' = cc

abbrev faulted : TakeFault → Result Taken TakeFault
faulted e = Err e

err_as : (e f : TakeFault) (r : Result Step TakeFault) → r ≡ Err e → r ≡ Err f → faulted e ≡ faulted f
err_as e f r is is' = let same : e ≡ f = cc in ap faulted same

only_not_then : (a b c : List ℕ) → Only a ≡ Then b c → ⊥
only_not_then a b c is = cc

same_only : (a b : List ℕ) → Only a ≡ Only b → a ≡ b
same_only a b is = cc

same_then : (a b c d : List ℕ) → Then a b ≡ Then c d → a ≡ c
same_then a b c d is = cc

same_rest : (a b c d : List ℕ) → Then a b ≡ Then c d → b ≡ d
same_rest a b c d is = cc

-- what stands behind a message
abbrev behind : (Taken → List ℕ → Result Taken TakeFault) → Option (Bor (List ℕ)) → Taken → Result Taken TakeFault
behind others None now = Ok now
behind others (Some rest) now = others now rest.now

by_fault : (head : Result Head HeadFault) (at : Step) (awaited : List (ℕ × ℕ)) (taken : Taken) (others : Taken → List ℕ → Result Taken TakeFault) (e : TakeFault)
    → next_of head at ≡ Err e → judged_by head at awaited taken others ≡ Err e
by_fault (Err f) at awaited taken others e is = err_as (fault.Malformed (malformed.Head f)) e (Err (fault.Malformed (malformed.Head f))) refl is
by_fault (Ok head) Bad awaited taken others e is = err_as (fault.Malformed malformed.Chain) e (Err (fault.Malformed malformed.Chain)) refl is
by_fault (Ok head) (Only part) awaited taken others e is = absurd (not_both (Only part) e (Ok (Only part)) refl is)
by_fault (Ok head) (Then part rest) awaited taken others e is = absurd (not_both (Then part rest) e (Ok (Then part rest)) refl is)

only_added : (r : Result Taken TakeFault) → r ≡ on_with r (λ now. Ok now)
only_added (Err e) = refl
only_added (Ok taken) = refl

by_part : (head : Result Head HeadFault) (at : Step) (awaited : List (ℕ × ℕ)) (taken : Taken) (others : Taken → List ℕ → Result Taken TakeFault) (part : List ℕ) (rest : Option (Bor (List ℕ)))
    → next_of head at ≡ Ok (step_from part rest)
    → judged_by head at awaited taken others ≡ on_with (added (look_of awaited taken part) part taken) (behind others rest)
by_part (Err f) at awaited taken others part rest is = absurd (not_both (step_from part rest) (fault.Malformed (malformed.Head f)) (Err (fault.Malformed (malformed.Head f))) is refl)
by_part (Ok head) Bad awaited taken others part rest is = absurd (not_both (step_from part rest) (fault.Malformed malformed.Chain) (Err (fault.Malformed malformed.Chain)) is refl)
by_part (Ok head) (Only p) awaited taken others part None is =
    ap (λ (q : List ℕ). added (look_of awaited taken q) q taken) (same_only p part (same_ok (Only p) (Only part) (Ok (Only p)) refl is))
    ∙ only_added (added (look_of awaited taken part) part taken)
by_part (Ok head) (Only p) awaited taken others part (Some rest) is = absurd (only_not_then p part rest.now (same_ok (Only p) (Then part rest.now) (Ok (Only p)) refl is))
by_part (Ok head) (Then p r) awaited taken others part None is = absurd (only_not_then part p r (same_ok (Only part) (Then p r) (Ok (Only part)) refl (sym is)))
by_part (Ok head) (Then p r) awaited taken others part (Some rest) is =
    let same : Then p r ≡ Then part rest.now = same_ok (Then p r) (Then part rest.now) (Ok (Then p r)) refl is in
    ap (λ (q : List ℕ). on_with (added (look_of awaited taken q) q taken) (λ now. others now r)) (same_then p r part rest.now same)
    ∙ ap (λ (q : List ℕ). on_with (added (look_of awaited taken part) part taken) (λ now. others now q)) (same_rest p r part rest.now same)

-- the walk ends at a fault of the next message
pub walk_next : (awaited : List (ℕ × ℕ)) (taken : Taken) (bytes : List ℕ) (e : TakeFault)
    → Err e ≡ next_of (head_of bytes) (step_of bytes) → judged_from awaited taken bytes ≡ Err e
walk_next awaited taken bytes e is =
    judged-step awaited taken bytes ∙ by_fault (head_of bytes) (step_of bytes) awaited taken (judged_from awaited) e (sym is)

walk_part : (awaited : List (ℕ × ℕ)) (taken : Taken) (bytes part : List ℕ) (rest : Option (Bor (List ℕ)))
    → Ok (step_from part rest) ≡ next_of (head_of bytes) (step_of bytes)
    → judged_from awaited taken bytes ≡ on_with (added (look_of awaited taken part) part taken) (behind (judged_from awaited) rest)
walk_part awaited taken bytes part rest is =
    judged-step awaited taken bytes ∙ by_part (head_of bytes) (step_of bytes) awaited taken (judged_from awaited) part rest (sym is)

left_same : (awaited : List (ℕ × ℕ)) (now : Taken) (rest : Option (Bor (List ℕ))) → behind (judged_from awaited) rest now ≡ others_left awaited now rest
left_same awaited now None = refl
left_same awaited now (Some rest) = refl

-- a message that is taken, or is none
pub walk_on : (awaited : List (ℕ × ℕ)) (taken : Taken) (bytes part : List ℕ) (rest : Option (Bor (List ℕ))) (l : Look) (r : Result Taken TakeFault)
    → Ok (step_from part rest) ≡ next_of (head_of bytes) (step_of bytes) → l ≡ look_of awaited taken part → IsAnswer (added l part taken) r
    → (now : Taken) → r ≡ Ok now → judged_from awaited taken bytes ≡ others_left awaited now rest
walk_on awaited taken bytes part rest l (Ok given) is looks told now was =
    walk_part awaited taken bytes part rest is
    ∙ ap (λ (k : Look). on_with (added k part taken) (behind (judged_from awaited) rest)) (sym looks)
    ∙ ap (λ (x : Result Taken TakeFault). on_with x (behind (judged_from awaited) rest)) (told ∙ was)
    ∙ left_same awaited now rest
walk_on awaited taken bytes part rest l (Err e) is looks told now was = absurd (cc)

fault_on : (e : TakeFault) (told : Result Taken TakeFault) (others : Taken → Result Taken TakeFault) → IsAnswer told (Err e) → IsAnswer (on_with told others) (Err e)
fault_on fault.NoMemory told others is = tt
fault_on (fault.Malformed m) told others is = ap (λ (x : Result Taken TakeFault). on_with x others) is
fault_on (fault.Stranger mid) told others is = ap (λ (x : Result Taken TakeFault). on_with x others) is

same_answer : (e : TakeFault) (told told' : Result Taken TakeFault) → told ≡ told' → IsAnswer told' (Err e) → IsAnswer told (Err e)
same_answer fault.NoMemory told told' same is = tt
same_answer (fault.Malformed m) told told' same is = same ∙ is
same_answer (fault.Stranger mid) told told' same is = same ∙ is

pub walk_fault : (awaited : List (ℕ × ℕ)) (taken : Taken) (bytes part : List ℕ) (rest : Option (Bor (List ℕ))) (l : Look) (e : TakeFault)
    → Ok (step_from part rest) ≡ next_of (head_of bytes) (step_of bytes) → l ≡ look_of awaited taken part → IsAnswer (added l part taken) (Err e)
    → IsAnswer (judged_from awaited taken bytes) (Err e)
walk_fault awaited taken bytes part rest l e is looks told =
    same_answer e (judged_from awaited taken bytes) (on_with (added l part taken) (behind (judged_from awaited) rest))
    (walk_part awaited taken bytes part rest is ∙ ap (λ (k : Look). on_with (added k part taken) (behind (judged_from awaited) rest)) (sym looks))
    (fault_on e (added l part taken) (behind (judged_from awaited) rest) told)

-- the walk ends where a message is none, or its place is bad
pub walk_none : (awaited : List (ℕ × ℕ)) (taken : Taken) (bytes : List ℕ) (e : TakeFault)
    → Err e ≡ next_of (head_of bytes) (step_of bytes) → IsAnswer (judged_from awaited taken bytes) (Err e)
walk_none awaited taken bytes e is = told e (walk_next awaited taken bytes e is)
  where
    told : (e : TakeFault) → judged_from awaited taken bytes ≡ Err e → IsAnswer (judged_from awaited taken bytes) (Err e)
    told fault.NoMemory is = tt
    told (fault.Malformed m) is = is
    told (fault.Stranger mid) is = is

-- or goes on behind it
pub walk_with : (awaited : List (ℕ × ℕ)) (taken now : Taken) (bytes part : List ℕ) (rest : Option (Bor (List ℕ))) (l : Look)
    → Ok (step_from part rest) ≡ next_of (head_of bytes) (step_of bytes) → l ≡ look_of awaited taken part → added l part taken ≡ Ok now
    → judged_from awaited taken bytes ≡ others_left awaited now rest
walk_with awaited taken now bytes part rest l is looks told = walk_on awaited taken bytes part rest l (Ok now) is looks told now refl
