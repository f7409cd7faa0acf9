-- The requests of a frame.
use Rattle.std.proofs.Common.{◌≡◌, ◌<◌, ◌≤◌, ◌∙◌, ◌==◌, ℕ, ◌+◌, ◌-◌, Bool, true, false, List, [], ◌∷◌, length, take, drop, Option, Some, None, Result, Ok, Err, refl, sym, ap, arith, length-drop, Bor}
use Rattle.std.specs.Prelude.{nat_lt, if◌then◌else◌}
use Rattle.smb_base.specs.declared.names.Mid.{Mid}
use Rattle.smb_le.specs.Numbers.{number_at}
use Rattle.smb_le.proofs.NumberLaws.{number_at-take}
use Rattle.smb_head.specs.declared.head.Head.{Head}
use Rattle.smb_head.specs.declared.head.HeadFault.{HeadFault}
use Rattle.smb_head.specs.declared.head.HeadFault.TheVariants.{Short}
use Rattle.smb_head.specs.Header.{head_of}
use Rattle.smb_chain.specs.Parts.{Step, Only, Then, Bad, is_bad_next, step_at, step_of, step_from, with_rest, parts_of}
use Rattle.smb_chain.proofs.PartLaws.{length-then, parts_of-part, parts_of-bad, parts_of-step}
use Rattle.fs_plain.specs.Requests.{asked_with, wire_request}
use Rattle.fs_plain.specs.World.{mid_of, first_mid, requests_among}

short_head : (message : List ℕ) → length message < 64 → head_of message ≡ Err Short
unfolding head_of
short_head message short = grind arith

-- fewer bytes than a header has ask for nothing
pub short_asks_nothing : (message : List ℕ) → length message < 64 → wire_request message ≡ None
unfolding wire_request
short_asks_nothing message short = ap (λ (h : Result Head HeadFault). asked_with h message) (short_head message short)

short_step : (message : List ℕ) → length message < 64 → step_of message ≡ Only message
unfolding step_of
short_step message short = grind arith

-- and they hold no request
pub none_in_short : (frame : Mid) (message : List ℕ) → length message < 64 → requests_among frame (parts_of message) ≡ []
none_in_short frame message short =
    let parts : parts_of message ≡ Ok message ∷ [] = parts_of-step message ∙ ap (λ (s : Step). with_rest s parts_of) (short_step message short) in
    let nothing = short_asks_nothing message short in
    rw (parts, nothing) refl

-- the id of the first part
first_of_parts : (message part : List ℕ) (rest : Option (Bor (List ℕ))) → step_from part rest ≡ step_of message → mid_of part ≡ first_mid (parts_of message)
first_of_parts message part rest is = sym (ap first_mid (parts_of-part message part rest is))

pub first_of_bad : (message : List ℕ) → Bad ≡ step_of message → first_mid (parts_of message) ≡ record { 0 = 0 }
first_of_bad message is = ap first_mid (parts_of-bad message is)

only_at : (next : ℕ) (m part : List ℕ) (a b : Bool) → Only part ≡ (if a then Only m else (if b then Bad else Then (take next m) (drop next m))) → part ≡ m
only_at next m part true b h = cc
only_at next m part false true h = absurd (cc h)
only_at next m part false false h = absurd (cc h)

only_or : (c : Bool) (m part : List ℕ) (s : Step) → (Only part ≡ s → part ≡ m) → Only part ≡ (if c then Only m else s) → part ≡ m
only_or true m part s go h = cc
only_or false m part s go h = go h

only_whole : (m part : List ℕ) → Only part ≡ step_of m → part ≡ m
unfolding step_of
only_whole m part h =
    only_or (nat_lt (length m) 64) m part (step_at (number_at 4 20 m) m)
    (only_at (number_at 4 20 m) m part (number_at 4 20 m == 0) (is_bad_next (number_at 4 20 m) (length m))) h

then_at : (next : ℕ) (m part rest : List ℕ) (a b : Bool) → Then part rest ≡ (if a then Only m else (if b then Bad else Then (take next m) (drop next m)))
    → (part ≡ take next m) × (rest ≡ drop next m)
then_at next m part rest true b h = absurd (cc h)
then_at next m part rest false true h = absurd (cc h)
then_at next m part rest false false h = (cc, cc)

then_or : (c : Bool) (next : ℕ) (m part rest : List ℕ) (s : Step) → (Then part rest ≡ s → (part ≡ take next m) × (rest ≡ drop next m))
    → Then part rest ≡ (if c then Only m else s) → (part ≡ take next m) × (rest ≡ drop next m)
then_or true next m part rest s go h = absurd (cc h)
then_or false next m part rest s go h = go h

then_whole : (m part rest : List ℕ) → Then part rest ≡ step_of m → (part ≡ take (number_at 4 20 m) m) × (rest ≡ drop (number_at 4 20 m) m)
unfolding step_of
then_whole m part rest h =
    then_or (nat_lt (length m) 64) (number_at 4 20 m) m part rest (step_at (number_at 4 20 m) m)
    (then_at (number_at 4 20 m) m part rest (number_at 4 20 m == 0) (is_bad_next (number_at 4 20 m) (length m))) h

-- the first part of a frame begins as the frame does
pub own_first : (message part : List ℕ) (rest : Option (Bor (List ℕ))) → 64 ≤ length message → step_from part rest ≡ step_of message
    → mid_of message ≡ first_mid (parts_of message)
own_first message part None long is = ap mid_of (sym (only_whole message part is)) ∙ first_of_parts message part None is
own_first message part (Some rest) long is =
    let cut : (part ≡ take (number_at 4 20 message) message) × (rest.now ≡ drop (number_at 4 20 message) message) = then_whole message part rest.now is in
    let short : 64 + length rest.now ≤ length message = length-then message part rest.now (sym is) in
    let left : length rest.now ≡ length message - number_at 4 20 message = ap length cut.1 ∙ length-drop (number_at 4 20 message) message in
    let far : 24 + 8 ≤ number_at 4 20 message = omega arith in
    let same : number_at 8 24 (take (number_at 4 20 message) message) ≡ number_at 8 24 message = number_at-take 8 24 (number_at 4 20 message) message far in
    let whole : mid_of part ≡ mid_of message = ap mid_of cut.0 ∙ ap (λ (n : ℕ). record { 0 = n }) same in
    sym whole ∙ first_of_parts message part (Some rest) is
