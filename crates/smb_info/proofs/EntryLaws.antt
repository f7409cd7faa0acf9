-- The entries of a directory, one step on.
use Rattle.std.proofs.Common.{◌≡◌, ◌≢◌, ◌∙◌, refl, sym, ap, subst, ℕ, zero, suc, ◌+◌, ◌-◌, ◌<◌, ◌≤◌, Bool, true, false, if◌then◌else◌, List, [], ◌∷◌, length, drop, Option, Some, None, Result, Ok, Err, arith, inl, inr, length-drop, length-take, Bor}
use Rattle.std.specs.Prelude.{◌==◌, nat_lt, slice_range, MatchOption}
use Rattle.std.proofs.lemmas.Bool.Decides.{nat_tests}
use Rattle.smb_le.specs.Numbers.{number_at}
use Rattle.smb_field.specs.Body.{Lends}
use Rattle.smb_info.specs.declared.fault.InfoFault.{InfoFault}
use Rattle.smb_info.specs.declared.fault.InfoFault.TheVariants.{Short, Next}
use Rattle.smb_info.specs.declared.entries.DirEntry.{DirEntry}
use Rattle.smb_info.specs.Directory.{Entry, seen, IsBadNext, IsEntry, Refuses, IsChain, IsListing, Step, Last, Then, Refused, entry_at, step_by, is_bad_next, step_of, with_rest, entries_within, chain_of, entries_of, entries_left, step_from}

-- a name behind the fields is the bytes there
name-stands : (name info : List ℕ) → Lends 80 name info 80 → slice_range info 80 (80 + length name) ≡ name
name-stands [] info lends = refl
name-stands (b ∷ name) info lends = (lends (omega arith)).2

name-within : (name info : List ℕ) → 80 ≤ length info → Lends 80 name info 80 → 80 + length name ≤ length info
name-within [] info long lends = long
name-within (b ∷ name) info long lends = (lends (omega arith)).1

-- an entry with which information begins is the one whose fields stand there
pub entry-is : (x : DirEntry) (info : List ℕ) → IsEntry (seen x) info → seen x ≡ entry_at info
entry-is x info h =
    let a = h.0.1 in
    let times = a.1.1 in
    let sizes = times.1.1.1.1 in
    let marks = sizes.1.1 in
    let name : slice_range info 80 (80 + number_at 4 60 info) ≡ x.name.now =
    ap (λ (n : ℕ). slice_range info 80 (80 + n)) marks.1.0 ∙ name-stands x.name.now info marks.1.1.1.1.1.0 in
    rw (a.0, a.1.0, times.0, times.1.0, times.1.1.0, times.1.1.1.0, sizes.0, sizes.1.0, marks.0, marks.1.1.0, marks.1.1.1.1.0, name) refl

bad-test : (next size : ℕ) → IsBadNext next size → is_bad_next next size ≡ true
bad-test next size bad = grind (arith, nat_tests)

good-test : (next size : ℕ) → ¬ IsBadNext next size → is_bad_next next size ≡ false
good-test next size good = grind (arith, nat_tests)

test-bad : (next size : ℕ) → is_bad_next next size ≡ true → IsBadNext next size
test-bad next size is = grind (arith, nat_tests)

test-good : (next size : ℕ) → is_bad_next next size ≡ false → ¬ IsBadNext next size
test-good next size is bad = grind (arith, nat_tests)

-- so the first step is that entry
pub step-of_entry : (x : DirEntry) (info : List ℕ) → IsEntry (seen x) info → step_of info ≡ step_by (seen x) info
unfolding step_of
step-of_entry x info h =
    let a = h.0.1 in
    let marks = a.1.1.1.1.1.1.1.1 in
    let long : 80 ≤ length info = h.0.0 in
    let within : 80 + length x.name.now ≤ length info = name-within x.name.now info long marks.1.1.1.1.1.0 in
    let size : nat_lt (length info) 80 ≡ false = grind (arith, nat_tests) in
    let next : is_bad_next (number_at 4 0 info) (length info) ≡ false = rw a.0 (good-test x.next (length info) h.1) in
    let name : nat_lt (length info) (80 + number_at 4 60 info) ≡ false = rw marks.1.0 (grind (arith, nat_tests, within)) in
    rw (size, next, name) (ap (λ (e : Entry). step_by e info) (sym (entry-is x info h)))

either-way : (b : Bool) (step : Step) → (if b then step else step) ≡ step
either-way true step = refl
either-way false step = refl

step-of_short : (info : List ℕ) → Refuses Short info → step_of info ≡ Refused Short
unfolding step_of
step-of_short info (inl few) =
    let size : nat_lt (length info) 80 ≡ true = grind (arith, nat_tests) in
    rw size refl
step-of_short info (inr (good, strays)) =
    let next : is_bad_next (number_at 4 0 info) (length info) ≡ false = good-test (number_at 4 0 info) (length info) good in
    let name : nat_lt (length info) (80 + number_at 4 60 info) ≡ true = grind (arith, nat_tests) in
    rw (next, name) (either-way (nat_lt (length info) 80) (Refused Short))

step-of_next : (info : List ℕ) → Refuses Next info → step_of info ≡ Refused Next
unfolding step_of
step-of_next info h =
    let size : nat_lt (length info) 80 ≡ false = grind (arith, nat_tests, h.0) in
    rw (size, bad-test (number_at 4 0 info) (length info) h.1) refl

-- a fault with which information begins is the first step
pub step-of_fault : (fault : InfoFault) (info : List ℕ) → Refuses fault info → step_of info ≡ Refused fault
step-of_fault Short info h = step-of_short info h
step-of_fault Next info h = step-of_next info h

-- an entry whose fields stand at the start is one with which the information begins
entry_at-stands : (info : List ℕ) → 80 ≤ length info → ¬ IsBadNext (number_at 4 0 info) (length info)
    → 80 + number_at 4 60 info ≤ length info → IsEntry (entry_at info) info
entry_at-stands info long good within =
    let size : length (slice_range info 80 (80 + number_at 4 60 info)) ≡ number_at 4 60 info =
    omega (arith, length-take (80 + number_at 4 60 info - 80) (drop 80 info), length-drop 80 info) in
    let lends : Lends 80 (slice_range info 80 (80 + number_at 4 60 info)) info 80 =
    λ some. (omega arith, omega (arith, size), ap (λ (n : ℕ). slice_range info 80 (80 + n)) size) in
    ((long, (refl, (refl, (refl, (refl, (refl, (refl, (refl, (refl, (refl, (sym size, (refl, (tt, (refl, (lends, tt))))))))))))))), good)

-- what a step says of the information that it is taken in
abbrev IsSound : Step → List ℕ → Type 0
IsSound (Last e) info = IsEntry e info × (e.next ≡ 0)
IsSound (Then e rest) info = IsEntry e info × (e.next ≢ 0) × (rest ≡ drop e.next info) × (80 + length rest ≤ length info)
IsSound (Refused fault) info = Refuses fault info

sound-by : (b : Bool) (info : List ℕ) → (number_at 4 0 info == 0) ≡ b → 80 ≤ length info → ¬ IsBadNext (number_at 4 0 info) (length info)
    → 80 + number_at 4 60 info ≤ length info
    → IsSound (if b then Last (entry_at info) else Then (entry_at info) (drop (number_at 4 0 info) info)) info
sound-by true info is long good within = (entry_at-stands info long good within, grind (arith, nat_tests))
sound-by false info is long good within =
    (entry_at-stands info long good within, grind (arith, nat_tests), refl, grind (arith, nat_tests, length-drop (number_at 4 0 info) info))

sound-name : (b : Bool) (info : List ℕ) → nat_lt (length info) (80 + number_at 4 60 info) ≡ b → 80 ≤ length info
    → ¬ IsBadNext (number_at 4 0 info) (length info)
    → IsSound (if b then Refused Short else step_by (entry_at info) info) info
sound-name true info is long good =
    let over : length info < 80 + number_at 4 60 info = grind (arith, nat_tests) in
    inr (good, (omega (arith, over), inr over))
sound-name false info is long good = sound-by (number_at 4 0 info == 0) info refl long good (grind (arith, nat_tests))

sound-next : (b : Bool) (info : List ℕ) → is_bad_next (number_at 4 0 info) (length info) ≡ b → 80 ≤ length info
    → IsSound (if b then Refused Next else (if nat_lt (length info) (80 + number_at 4 60 info) then Refused Short else step_by (entry_at info) info)) info
sound-next true info is long = (long, test-bad (number_at 4 0 info) (length info) is)
sound-next false info is long =
    sound-name (nat_lt (length info) (80 + number_at 4 60 info)) info refl long (test-good (number_at 4 0 info) (length info) is)

sound-size : (b : Bool) (info : List ℕ) → nat_lt (length info) 80 ≡ b
    → IsSound (if b then Refused Short
    else (if is_bad_next (number_at 4 0 info) (length info) then Refused Next
    else (if nat_lt (length info) (80 + number_at 4 60 info) then Refused Short else step_by (entry_at info) info))) info
sound-size true info is = inl (grind (arith, nat_tests))
sound-size false info is = sound-next (is_bad_next (number_at 4 0 info) (length info)) info refl (grind (arith, nat_tests))

step-sound : (info : List ℕ) → IsSound (step_of info) info
unfolding step_of
step-sound info = sound-size (nat_lt (length info) 80) info refl

-- what follows an entry is shorter
length-then : (info : List ℕ) (e : Entry) (rest : List ℕ) → step_of info ≡ Then e rest → 80 + length rest ≤ length info
length-then info e rest is = (subst (λ (s : Step). IsSound s info) is (step-sound info)).3

by-step : (info : List ℕ) (n k : ℕ) (step : Step) → step_of info ≡ step
    → ((e : Entry) (rest : List ℕ) → step_of info ≡ Then e rest → entries_within n rest ≡ entries_within k rest)
    → with_rest step (entries_within n) ≡ with_rest step (entries_within k)
by-step info n k (Last e) is others = refl
by-step info n k (Refused fault) is others = refl
by-step info n k (Then e rest) is others = ap (λ (l : List (Result Entry InfoFault)). Ok e ∷ l) (others e rest is)

-- more steps than there are bytes find no more
entries_within-enough : (n k : ℕ) (info : List ℕ) → length info < n → length info < k → entries_within n info ≡ entries_within k info
entries_within-enough zero k info hn hk = absurd (omega arith)
entries_within-enough (suc n) zero info hn hk = absurd (omega arith)
entries_within-enough (suc n) (suc k) info hn hk =
    by-step info n k (step_of info) refl (λ e rest is.
    let short = length-then info e rest is in
    entries_within-enough n k rest (omega arith) (omega arith))

by-rest : (info : List ℕ) (step : Step) → step_of info ≡ step
    → ((e : Entry) (rest : List ℕ) → step_of info ≡ Then e rest → entries_within (length info) rest ≡ chain_of rest)
    → with_rest step (entries_within (length info)) ≡ with_rest step chain_of
by-rest info (Last e) is others = refl
by-rest info (Refused fault) is others = refl
by-rest info (Then e rest) is others = ap (λ (l : List (Result Entry InfoFault)). Ok e ∷ l) (others e rest is)

-- a chain is its first entry and the chain of the bytes after it
pub chain_of-step : (info : List ℕ) → chain_of info ≡ with_rest (step_of info) chain_of
unfolding chain_of
chain_of-step info =
    by-rest info (step_of info) refl (λ e rest is.
    let short = length-then info e rest is in
    entries_within-enough (length info) (suc (length rest)) rest (omega arith) (omega arith))

-- what an iterator gives, and what it has left
pub chain_of-entry : (info : List ℕ) (x : DirEntry) (rest : Option (Bor (List ℕ))) → step_from x rest ≡ step_of info
    → chain_of info ≡ Ok (seen x) ∷ entries_left rest
chain_of-entry info x None is = chain_of-step info ∙ ap (λ (s : Step). with_rest s chain_of) (sym is)
chain_of-entry info x (Some rest) is = chain_of-step info ∙ ap (λ (s : Step). with_rest s chain_of) (sym is)

pub chain_of-fault : (info : List ℕ) (fault : InfoFault) → Refused fault ≡ step_of info → chain_of info ≡ Err fault ∷ []
chain_of-fault info fault is = chain_of-step info ∙ ap (λ (s : Step). with_rest s chain_of) (sym is)

pub ruleset iterator_steps = (chain_of-entry, chain_of-fault)

-- an entry before others, as a step
step-before : (x : DirEntry) (info rest : List ℕ) → x.next ≢ 0 → rest ≡ drop x.next info → Then (seen x) rest ≡ step_by (seen x) info
step-before x info rest some is =
    let test : (x.next == 0) ≡ false = grind (arith, nat_tests) in
    rw (test, is) refl

step-last : (x : DirEntry) (info : List ℕ) → x.next ≡ 0 → Last (seen x) ≡ step_by (seen x) info
step-last x info none =
    let test : (x.next == 0) ≡ true = grind (arith, nat_tests) in
    rw test refl

-- the first step, by the entry that was read and what was left
pub first_step : (x : DirEntry) (info : List ℕ) (rest : Option (Bor (List ℕ))) → IsEntry (seen x) info
    → MatchOption rest (x.next ≡ 0) (λ (r : Bor (List ℕ)). (x.next ≢ 0) × (r.now ≡ drop x.next info))
    → step_from x rest ≡ step_of info
first_step x info None h after = step-last x info after ∙ sym (step-of_entry x info h)
first_step x info (Some rest) h after = step-before x info rest.now after.0 after.1 ∙ sym (step-of_entry x info h)

chain-by : (n : ℕ) (info : List ℕ) (step : Step) → IsSound step info
    → ((rest : List ℕ) → 80 + length rest ≤ length info → IsChain (entries_within n rest) rest)
    → IsChain (with_rest step (entries_within n)) info
chain-by n info (Last e) sound others = (sound.0, inl (sound.1, refl))
chain-by n info (Refused fault) sound others = (sound, refl)
chain-by n info (Then e rest) sound others =
    (sound.0, inr (sound.1, subst (λ (xs : List ℕ). IsChain (entries_within n rest) xs) sound.2 (others rest sound.3)))

chain-within : (n : ℕ) (info : List ℕ) → length info < n → IsChain (entries_within n info) info
chain-within zero info few = absurd (omega arith)
chain-within (suc n) info few =
    chain-by n info (step_of info) (step-sound info) (λ rest short. chain-within n rest (omega arith))

-- the entries that are given are those of the chain
pub is-listing : (info : List ℕ) → IsListing (entries_of info) info
unfolding chain_of
is-listing [] = refl
is-listing (b ∷ info) = chain-within (suc (length (b ∷ info))) (b ∷ info) (omega arith)

pub listed : (info : List ℕ) → (length info == 0) ≡ false → IsListing (chain_of info) info
listed [] some = grind (arith, nat_tests)
listed (b ∷ info) some = is-listing (b ∷ info)
