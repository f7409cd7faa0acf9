-- Each call that begins is answered once, or is unanswered still.
use Rattle.std.proofs.Common.{arith, ◌≡◌, ◌∙◌, refl, sym, ap, subst, ℕ, ◌+◌, ◌==◌, Bool, true, false, cond, if◌then◌else◌, not, List, [], ◌∷◌, ◌++◌, Some}
use Rattle.std.specs.Prelude.{nat_lt, map, IsSomeAnd, ◌&&◌, ◌||◌}
use Rattle.std.specs.List.{AllByRecursion, list_all, list_any}
use Rattle.std.proofs.lemmas.Bool.{false≢true}
use Rattle.std.proofs.lemmas.Bool.Decides.{nat_tests}
use Rattle.std.proofs.lemmas.List.Folds.{list_any-append}
use Rattle.fs_types.specs.declared.answer.Answer.{Answer}
use Rattle.fs_types.specs.declared.call.Call.{Call}
use Rattle.smb_head.specs.Stream.{rest_in}
use Rattle.smb_link.specs.declared.event.Event.{Event}
use Rattle.smb_link.specs.declared.event.Event.TheVariants as event
use Rattle.smb_link.specs.declared.mark.Mark.TheVariants as mark
use Rattle.fs_ahead.specs.declared.asked.ScriptCall.{ScriptCall}
use Rattle.fs_plain.specs.Told.{was_begun, told_after}
use Rattle.fs_client.specs.Item.{Item, item_with, parted}
use Rattle.fs_client.specs.View.{Setting, View, Client}
use Rattle.fs_client.specs.After.{new_item, frame_of, made_whole, after, all_after}
use Rattle.fs_client.specs.May.{MayAnswerFor, May, Allowed}
use Rattle.fs_client.specs.Sane.{Sane}
use Rattle.fs_client.proofs.Lists.{itself, same_number}
use Rattle.fs_client.proofs.Stays.{stays}
use Rattle.fs_top.specs.Turns.{calls_but}
use Rattle.fs_top.specs.Run.{begun_in}
use Rattle.fs_top.specs.Completeness.{times_answered}
use Rattle.fs_top.proofs.Clients.{numbers, numbers_spoken, numbers_but, numbers_append, numbers_sent, same_looked}

-- one, where something is so
abbrev one_if : Bool → ℕ
one_if t = if t then 1 else 0

-- a call with this number is among these
abbrev runs : ℕ → List ℕ → Bool
runs n ms = list_any (λ m. m == n) ms

other_number : (k m n : ℕ) → (k == m) ≡ true → (m == n) ≡ false → (k == n) ≡ false
other_number k m n same other = grind (arith, nat_tests)

runs_none : (n m : ℕ) (ms : List ℕ) → (m == n) ≡ true → runs n (calls_but m ms) ≡ false
runs_none n m [] is = refl
runs_none n m (k ∷ ks) is = by (k == m) refl (runs_none n m ks is)
  where
    differs : (k m n : ℕ) → (k == m) ≡ false → (m == n) ≡ true → (k == n) ≡ false
    differs k m n other same = grind (arith, nat_tests)

    by : (t : Bool) → (k == m) ≡ t → runs n (calls_but m ks) ≡ false → runs n (cond (not t) (k ∷ calls_but m ks) (calls_but m ks)) ≡ false
    by true here deeper = deeper
    by false here deeper = ap (λ (b : Bool). b || runs n (calls_but m ks)) (differs k m n here is) ∙ deeper

runs_others : (n m : ℕ) (ms : List ℕ) → (m == n) ≡ false → runs n (calls_but m ms) ≡ runs n ms
runs_others n m [] other = refl
runs_others n m (k ∷ ks) other = by (k == m) refl (runs_others n m ks other)
  where
    by : (t : Bool) → (k == m) ≡ t → runs n (calls_but m ks) ≡ runs n ks
        → runs n (cond (not t) (k ∷ calls_but m ks) (calls_but m ks)) ≡ ((k == n) || runs n ks)
    by true here deeper = deeper ∙ ap (λ (b : Bool). b || runs n ks) (sym (other_number k m n here other))
    by false here deeper = ap (λ (b : Bool). (k == n) || b) deeper

-- a call that is found runs
found_runs : (n : ℕ) (items : List Item) (P : Item → Type 0) → IsSomeAnd (item_with n items) P → runs n (numbers items) ≡ true
found_runs n [] P found = absurd found
found_runs n (i ∷ is) P found = by (i.number == n) found (λ deeper. found_runs n is P deeper)
  where
    by : (t : Bool) → IsSomeAnd (if t then Some i else item_with n is) P → (IsSomeAnd (item_with n is) P → runs n (numbers is) ≡ true) → (t || runs n (numbers is)) ≡ true
    by true found deeper = refl
    by false found deeper = deeper found

-- a line above all that were begun was not begun, and no call has its number
not_begun : (n number : ℕ) (lines : List (ℕ × Call)) → list_all (λ line. nat_lt line.0 number) lines ≡ true → (number == n) ≡ true → was_begun n lines ≡ false
not_begun n number [] above is = refl
not_begun n number (line ∷ lines) above is =
    by (nat_lt line.0 number) refl (line.0 == n) refl above (λ rest. not_begun n number lines rest is)
  where
    never : (a : ℕ) → nat_lt a number ≡ true → (a == n) ≡ true → (number == n) ≡ true → ⊥
    never a less here there = grind (arith, nat_tests)

    by : (a : Bool) → nat_lt line.0 number ≡ a → (t : Bool) → (line.0 == n) ≡ t → (a && list_all (λ l. nat_lt l.0 number) lines) ≡ true
        → (list_all (λ l. nat_lt l.0 number) lines ≡ true → was_begun n lines ≡ false) → (t || was_begun n lines) ≡ false
    by true less true here above deeper = absurd (never line.0 less here is)
    by true less false here above deeper = deeper above
    by false less t here above deeper = absurd (false≢true above)

not_running : (n : ℕ) (begun : List (ℕ × Call)) (items : List Item) → AllByRecursion (λ (i : Item). was_begun i.number begun ≡ true) items → was_begun n begun ≡ false
    → runs n (numbers items) ≡ false
not_running n begun [] all none = refl
not_running n begun (i ∷ is) all none = by (i.number == n) refl (not_running n begun is all.1 none)
  where
    by : (t : Bool) → (i.number == n) ≡ t → runs n (numbers is) ≡ false → (t || runs n (numbers is)) ≡ false
    by true here deeper = absurd (false≢true (sym none ∙ subst (λ (m : ℕ). was_begun m begun ≡ true) (same_number i.number n here) all.0))
    by false here deeper = deeper

-- What an event makes of the answers to a number: those that it gives, and one where the call runs then, are one where it ran before, or was
-- begun now.
abbrev Balanced : ℕ → Event → Client → Client → Type 0
Balanced n e c c' =
    times_answered n (e ∷ []) + one_if (runs n (numbers c'.view.items)) + one_if (was_begun n c.view.told.begun)
    ≡ one_if (was_begun n c'.view.told.begun) + one_if (runs n (numbers c.view.items))

level : (t r r' b b' : ℕ) → t ≡ 0 → r' ≡ r → b' ≡ b → t + r' + b ≡ b' + r
level t r r' b b' none same_r same_b = omega (arith, none, same_r, same_b)

-- an event that answers nothing, and begins nothing
leaves : (n : ℕ) (e : Event) (c c' : Client) → times_answered n (e ∷ []) ≡ 0 → numbers c'.view.items ≡ numbers c.view.items → c'.view.told.begun ≡ c.view.told.begun
    → Balanced n e c c'
leaves n e c c' none items begun =
    level (times_answered n (e ∷ [])) (one_if (runs n (numbers c.view.items))) (one_if (runs n (numbers c'.view.items)))
    (one_if (was_begun n c.view.told.begun)) (one_if (was_begun n c'.view.told.begun))
    none (ap (λ (l : List ℕ). one_if (runs n l)) items) (ap (λ (l : List (ℕ × Call)). one_if (was_begun n l)) begun)

begins : (st : Setting) (c : Client) (n number lane : ℕ) (call : Call) → Sane c.view → list_all (λ line. nat_lt line.0 number) c.view.told.begun ≡ true
    → Balanced n (event.Marked (mark.Begin number lane call)) c (after st c (event.Marked (mark.Begin number lane call)))
begins st c n number lane call sane above =
    ap (λ (b : Bool). 0 + one_if b + one_if old) running
    ∙ by (number == n) old ran (λ is. not_begun n number c.view.told.begun above is)
    (λ is. not_running n c.view.told.begun c.view.items sane.begun (not_begun n number c.view.told.begun above is))
  where
    old : Bool
    old = was_begun n c.view.told.begun

    ran : Bool
    ran = runs n (numbers c.view.items)

    running : runs n (numbers (after st c (event.Marked (mark.Begin number lane call))).view.items) ≡ (ran || ((number == n) || false))
    running = ap (runs n) (numbers_append c.view.items (new_item st number lane call c.view ∷ [])) ∙ list_any-append (λ m. m == n) (numbers c.view.items) (number ∷ [])

    by : (t b r : Bool) → (t ≡ true → b ≡ false) → (t ≡ true → r ≡ false) → 0 + one_if (r || (t || false)) + one_if b ≡ one_if (t || b) + one_if r
    by true true r fresh idle = absurd (false≢true (sym (fresh refl)))
    by true false true fresh idle = absurd (false≢true (sym (idle refl)))
    by true false false fresh idle = refl
    by false true true fresh idle = refl
    by false true false fresh idle = refl
    by false false true fresh idle = refl
    by false false false fresh idle = refl

answers : (st : Setting) (c : Client) (n number : ℕ) (a : Answer) → runs number (numbers c.view.items) ≡ true
    → Balanced n (event.Marked (mark.Answer number a)) c (after st c (event.Marked (mark.Answer number a)))
answers st c n number a ran = by (number == n) refl
  where
    ms : List ℕ
    ms = numbers c.view.items

    begun : ℕ
    begun = one_if (was_begun n c.view.told.begun)

    running : numbers (after st c (event.Marked (mark.Answer number a))).view.items ≡ calls_but number ms
    running = numbers_but number c.view.items

    once : (t r r' b : ℕ) → t ≡ 1 → r ≡ 1 → r' ≡ 0 → t + 0 + r' + b ≡ b + r
    once t r r' b one runs gone = omega (arith, one, runs, gone)

    never : (t r r' b : ℕ) → t ≡ 0 → r' ≡ r → t + 0 + r' + b ≡ b + r
    never t r r' b none same = omega (arith, none, same)

    by : (t : Bool) → (number == n) ≡ t
        → (if number == n then 1 else 0) + 0 + one_if (runs n (numbers (after st c (event.Marked (mark.Answer number a))).view.items)) + begun ≡ begun + one_if (runs n ms)
    by true is =
        once (if number == n then 1 else 0) (one_if (runs n ms)) (one_if (runs n (numbers (after st c (event.Marked (mark.Answer number a))).view.items))) begun
        (ap one_if is) (ap one_if (subst (λ (m : ℕ). runs m ms ≡ true) (same_number number n is) ran))
        (ap (λ (l : List ℕ). one_if (runs n l)) running ∙ ap one_if (runs_none n number ms is))
    by false is =
        never (if number == n then 1 else 0) (one_if (runs n ms)) (one_if (runs n (numbers (after st c (event.Marked (mark.Answer number a))).view.items))) begun
        (ap one_if is) (ap (λ (l : List ℕ). one_if (runs n l)) running ∙ ap one_if (runs_others n number ms is))

numbers_parted : (items : List Item) → numbers (map parted items) ≡ numbers items
numbers_parted [] = refl
numbers_parted (i ∷ is) = ap (λ (l : List ℕ). i.number ∷ l) (numbers_parted is)

-- bytes are got, and not looked at yet
abbrev got : List ℕ → View → View
got bytes v = record v { held = rest_in (v.held ++ bytes); told = told_after (event.Got bytes) (made_whole bytes v) v.told }

balanced : (st : Setting) (c : Client) (n : ℕ) (e : Event) → Sane c.view → May st c e → Balanced n e c (after st c e)
balanced st c n (event.Marked (mark.Begin number lane call)) sane may = begins st c n number lane call sane may.above
balanced st c n (event.Marked (mark.For number first count)) sane may =
    leaves n (event.Marked (mark.For number first count)) c (after st c (event.Marked (mark.For number first count))) refl (numbers_spoken number c.view.items) refl
balanced st c n (event.Marked (mark.Answer number a)) sane may = answers st c n number a (found_runs number c.view.items (MayAnswerFor c a) may)
balanced st c n (event.Marked (mark.Now time)) sane may = leaves n (event.Marked (mark.Now time)) c (after st c (event.Marked (mark.Now time))) refl refl refl
balanced st c n (event.Marked mark.End) sane may = leaves n (event.Marked mark.End) c (after st c (event.Marked mark.End)) refl refl refl
balanced st c n (event.Sent frame) sane may =
    leaves n (event.Sent frame) c (after st c (event.Sent frame)) refl (numbers_sent c.view.told.announced (frame_of frame) c.view.items) refl
balanced st c n (event.Got bytes) sane may =
    let same = same_looked (made_whole bytes c.view) (got bytes c.view) in
    leaves n (event.Got bytes) c (after st c (event.Got bytes)) refl same.running (ap (λ t. t.begun) same.told)
balanced st c n event.Quiet sane may = leaves n event.Quiet c (after st c event.Quiet) refl refl refl
balanced st c n event.Joined sane may = leaves n event.Joined c (after st c event.Joined) refl (numbers_parted c.view.items) refl
balanced st c n event.NotJoined sane may = leaves n event.NotJoined c (after st c event.NotJoined) refl refl refl
balanced st c n event.Cut sane may = leaves n event.Cut c (after st c event.Cut) refl (numbers_parted c.view.items) refl
balanced st c n (event.Took mid) sane may = absurd may
balanced st c n (event.Pend mid) sane may = absurd may
balanced st c n (event.Act who request reply) sane may = absurd may
balanced st c n (event.Break key state) sane may = absurd may
balanced st c n (event.Dropped key) sane may = absurd may

-- the first event's answers, and those of the others
times_first : (n : ℕ) (e : Event) (es : List Event) → times_answered n (e ∷ es) ≡ times_answered n (e ∷ []) + times_answered n es
times_first n (event.Marked (mark.Answer number a)) es = plus (if number == n then 1 else 0) (times_answered n es)
  where
    plus : (a b : ℕ) → a + b ≡ a + 0 + b
    plus a b = omega arith
times_first n e es = none (times_answered n es)
  where
    none : (b : ℕ) → b ≡ 0 + b
    none b = omega arith

-- the answers of events to a number, and one where the call runs in the end
abbrev Balance : Setting → ℕ → List Event → Client → Type 0
Balance st n events c =
    times_answered n events + one_if (runs n (numbers (all_after st c events).view.items)) + one_if (was_begun n c.view.told.begun)
    ≡ one_if (was_begun n (all_after st c events).view.told.begun) + one_if (runs n (numbers c.view.items))

balance : (st : Setting) (n : ℕ) (events : List Event) (c : Client) → Sane c.view → Allowed st c events → Balance st n events c
balance st n [] c sane allowed = nothing (one_if (runs n (numbers c.view.items))) (one_if (was_begun n c.view.told.begun))
  where
    nothing : (r b : ℕ) → 0 + r + b ≡ b + r
    nothing r b = omega arith
balance st n (e ∷ es) c sane allowed =
    let c1 : Client = after st c e in
    sum (times_answered n (e ∷ es)) (times_answered n (e ∷ [])) (times_answered n es)
    (one_if (runs n (numbers c.view.items))) (one_if (runs n (numbers c1.view.items))) (one_if (runs n (numbers (all_after st c1 es).view.items)))
    (one_if (was_begun n c.view.told.begun)) (one_if (was_begun n c1.view.told.begun)) (one_if (was_begun n (all_after st c1 es).view.told.begun))
    (times_first n e es) (balanced st c n e sane allowed.0) (balance st n es c1 (stays st c e sane allowed.0) allowed.1)
  where
    sum : (t t1 t2 r r1 r2 b b1 b2 : ℕ) → t ≡ t1 + t2 → t1 + r1 + b ≡ b1 + r → t2 + r2 + b1 ≡ b2 + r1 → t + r2 + b ≡ b2 + r
    sum t t1 t2 r r1 r2 b b1 b2 parts first rest = omega (arith, parts, first, rest)

-- a line that was begun stays so
begun_on : (st : Setting) (c : Client) (n : ℕ) (e : Event) → was_begun n c.view.told.begun ≡ true → was_begun n (after st c e).view.told.begun ≡ true
begun_on st c n (event.Marked (mark.Begin number lane call)) is = or_true (number == n) (was_begun n c.view.told.begun) is
  where
    or_true : (a b : Bool) → b ≡ true → (a || b) ≡ true
    or_true true b is = refl
    or_true false b is = is
begun_on st c n (event.Marked (mark.For number first count)) is = is
begun_on st c n (event.Marked (mark.Answer number a)) is = is
begun_on st c n (event.Marked (mark.Now time)) is = is
begun_on st c n (event.Marked mark.End) is = is
begun_on st c n (event.Got bytes) is = ap (λ t. was_begun n t.begun) (same_looked (made_whole bytes c.view) (got bytes c.view)).told ∙ is
begun_on st c n e is = is

begun_along : (st : Setting) (n : ℕ) (events : List Event) (c : Client) → was_begun n c.view.told.begun ≡ true → was_begun n (all_after st c events).view.told.begun ≡ true
begun_along st n [] c is = is
begun_along st n (e ∷ es) c is = begun_along st n es (after st c e) (begun_on st c n e is)

-- and so is each that begins
all_begun : (st : Setting) (events : List Event) (c : Client)
    → AllByRecursion (λ (x : ScriptCall). was_begun x.number (all_after st c events).view.told.begun ≡ true) (begun_in events)
all_begun st [] c = tt
all_begun st (event.Marked (mark.Begin number lane call) ∷ es) c =
    let c1 : Client = after st c (event.Marked (mark.Begin number lane call)) in (
      begun_along st number es c1 (ap (λ (b : Bool). b || was_begun number c.view.told.begun) (itself number)),
      all_begun st es c1,
    )
all_begun st (e ∷ es) c = all_begun st es (after st c e)

-- where no call runs in the end, nor did at first, each that began was answered once
pub answered_once : (st : Setting) (events : List Event) (c : Client) → Sane c.view → Allowed st c events → c.view.items ≡ [] → c.view.told.begun ≡ [] → (all_after st c events).view.items ≡ []
    → AllByRecursion (λ (x : ScriptCall). times_answered x.number events ≡ 1) (begun_in events)
answered_once st events c sane allowed idle fresh ended = each (begun_in events) (all_begun st events c)
  where
    one : (t r r' b b' : ℕ) → t + r' + b ≡ b' + r → r ≡ 0 → r' ≡ 0 → b ≡ 0 → b' ≡ 1 → t ≡ 1
    one t r r' b b' is ran runs was now = omega (arith, is, ran, runs, was, now)

    at : (n : ℕ) → was_begun n (all_after st c events).view.told.begun ≡ true → times_answered n events ≡ 1
    at n begun =
        one (times_answered n events) (one_if (runs n (numbers c.view.items))) (one_if (runs n (numbers (all_after st c events).view.items)))
        (one_if (was_begun n c.view.told.begun)) (one_if (was_begun n (all_after st c events).view.told.begun))
        (balance st n events c sane allowed)
        (ap (λ (l : List Item). one_if (runs n (numbers l))) idle) (ap (λ (l : List Item). one_if (runs n (numbers l))) ended)
        (ap (λ (l : List (ℕ × Call)). one_if (was_begun n l)) fresh) (ap one_if begun)

    each : (xs : List ScriptCall) → AllByRecursion (λ (x : ScriptCall). was_begun x.number (all_after st c events).view.told.begun ≡ true) xs
        → AllByRecursion (λ (x : ScriptCall). times_answered x.number events ≡ 1) xs
    each [] all = tt
    each (x ∷ xs) all = (at x.number all.0, each xs all.1)
