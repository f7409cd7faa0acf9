-- The requests that a client awaits, as replies are looked at: each takes its own away, and no other one.
use Rattle.std.proofs.Common.{arith, ◌≡◌, ◌∙◌, refl, sym, ap, subst, ℕ, zero, suc, ◌==◌, ◌<◌, Bool, true, false, cond, if◌then◌else◌, not, ◌||◌, List, [], ◌∷◌, ◌++◌, length, Option, Some, None, nat_lt, Less, Equal, Greater, inl, inr, rules}
use Rattle.std.specs.Prelude.{map, filter}
use Rattle.std.specs.List.{AllByRecursion}
use Rattle.std.specs.Ordering.{nat_cmp, is_eq}
use Rattle.std.specs.Cmp.{nat_cmp_is}
use Rattle.std.proofs.lemmas.Bool.{false≢true}
use Rattle.std.proofs.lemmas.Bool.Decides.{eqb_tells, nat_tests}
use Rattle.smb_base.specs.declared.names.Mid.{Mid}
use Rattle.smb_mux.specs.declared.taken.Reply.{Reply}
use Rattle.smb_mux.specs.Answers.{AreAnswers}
use Rattle.smb_mux.specs.InFlight.{but}
use Rattle.smb_mux.specs.Judged.{command_at, is_answered}
use Rattle.share_state.specs.declared.connection.Sent.{Sent}
use Rattle.share_state.specs.declared.request.Rep.{Rep}
use Rattle.share_state.specs.Sent.{sent_but, sent_with}
use Rattle.fs_plain.specs.Replies.{command_of}
use Rattle.fs_plain.specs.World.{is_first_of_frame}
use Rattle.fs_client.specs.View.{View}
use Rattle.fs_client.specs.Asked.{behind_it}
use Rattle.fs_client.specs.Looks.{is_early, early_but, went, if_first, in_turn, drained_with, drained, landed_by, without}
use Rattle.fs_client.specs.Ready.{awaited}
use Rattle.fs_client.specs.Sane.{IsAbove, AreRising}
use Rattle.fs_client.proofs.Lists.{all_map, all_filter, all_of, itself, equal, turned, none_some, some_is, found}
use Rattle.fs_client.proofs.Ids.{flight_of}
use Rattle.fs_client.proofs.Flights.{it_mid, it_message, left_is}

-- the awaited ones but those with an id
abbrev pub awaited_but : ℕ → List (ℕ × ℕ) → List (ℕ × ℕ)
awaited_but id es = filter (λ (e : ℕ × ℕ). not (e.0 == id)) es

-- those in flight by a list of early replies
abbrev pub unanswered : List (Mid × Rep) → List Sent → List Sent
unanswered early xs = filter (λ (x : Sent). not (is_early x.mid early)) xs

abbrev pub awaited_in : List (Mid × Rep) → List Sent → List (ℕ × ℕ)
awaited_in early xs = map flight_of (unanswered early xs)

-- an early reply that goes is one to the same id alone
early_left : (m n : Mid) (early : List (Mid × Rep)) → (m.0 == n.0) ≡ false → is_early m (early_but n early) ≡ is_early m early
early_left m n [] other = refl
early_left m n (e ∷ early) other = elim (eqb_tells e.0.0 n.0) [
  | inl told ↦
      ap (λ (b : Bool). is_early m (cond (not b) (e ∷ early_but n early) (early_but n early))) told.0
      ∙ early_left m n early other
      ∙ sym (ap (λ (b : Bool). b || is_early m early) (ap (λ (i : ℕ). i == m.0) told.1 ∙ turned m.0 n.0 other))
  | inr told ↦
      ap (λ (b : Bool). is_early m (cond (not b) (e ∷ early_but n early) (early_but n early))) told.0
      ∙ ap (λ (b : Bool). e.0.0 == m.0 || b) (early_left m n early other)
]

early_more : (m n : Mid) (reply : Rep) (early : List (Mid × Rep)) → is_early m (early ++ (n, reply) ∷ []) ≡ (is_early m early || n.0 == m.0)
early_more m n reply [] = or_false (n.0 == m.0)
  where
    or_false : (b : Bool) → (b || false) ≡ b
    or_false true = refl
    or_false false = refl
early_more m n reply (e ∷ early) = ap (λ (b : Bool). e.0.0 == m.0 || b) (early_more m n reply early) ∙ either (e.0.0 == m.0) (is_early m early) (n.0 == m.0)
  where
    either : (a b c : Bool) → (a || (b || c)) ≡ ((a || b) || c)
    either true b c = refl
    either false b c = refl

-- one entry, in or out
entry : (x : Sent) (id : ℕ) (t u w : Bool) (ys zs : List Sent) → w ≡ (t || u) → (x.mid.0 == id) ≡ u
    → map flight_of zs ≡ awaited_but id (map flight_of ys)
    → map flight_of (cond (not w) (x ∷ zs) zs)
    ≡ awaited_but id (map flight_of (cond (not t) (x ∷ ys) ys))
entry x id true u w ys zs is same deeper = ap (λ (b : Bool). map flight_of (cond (not b) (x ∷ zs) zs)) is ∙ deeper
entry x id false true w ys zs is same deeper =
    ap (λ (b : Bool). map flight_of (cond (not b) (x ∷ zs) zs)) is ∙ deeper
    ∙ sym (ap (λ (b : Bool). cond (not b) ((x.mid.0, command_of x.message) ∷ awaited_but id (map flight_of ys))
    (awaited_but id (map flight_of ys))) same)
entry x id false false w ys zs is same deeper =
    ap (λ (b : Bool). map flight_of (cond (not b) (x ∷ zs) zs)) is
    ∙ ap (λ (l : List (ℕ × ℕ)). (x.mid.0, command_of x.message) ∷ l) deeper
    ∙ sym (ap (λ (b : Bool). cond (not b) ((x.mid.0, command_of x.message) ∷ awaited_but id (map flight_of ys))
    (awaited_but id (map flight_of ys))) same)

-- a reply that waits for its turn takes its request away
waits_is : (m : Mid) (reply : Rep) (early : List (Mid × Rep)) (xs : List Sent)
    → awaited_in (early ++ (m, reply) ∷ []) xs ≡ awaited_but m.0 (awaited_in early xs)
waits_is m reply early [] = refl
waits_is m reply early (x ∷ xs) =
    entry x m.0 (is_early x.mid early) (x.mid.0 == m.0) (is_early x.mid (early ++ (m, reply) ∷ [])) (unanswered early xs)
    (filter (λ (y : Sent). not (is_early y.mid (early ++ (m, reply) ∷ []))) xs)
    (early_more x.mid m reply early ∙ ap (λ (b : Bool). is_early x.mid early || b) (swapped m.0 x.mid.0)) refl (waits_is m reply early xs)
  where
    swapped : (a b : ℕ) → (a == b) ≡ (b == a)
    swapped a b = elim (eqb_tells a b) [
      | inl told ↦ ap (λ (n : ℕ). n == b) told.1 ∙ itself b ∙ sym (ap (λ (n : ℕ). b == n) told.1 ∙ itself b)
      | inr told ↦ told.0 ∙ sym (turned a b told.0)
    ]

-- a request that goes, whose reply was not early or was
gone_is : (m : Mid) (early : List (Mid × Rep)) (xs : List Sent) → awaited_in (early_but m early) (sent_but m xs) ≡ awaited_but m.0 (awaited_in early xs)
gone_is m early [] = refl
gone_is m early (x ∷ xs) = elim (eqb_tells x.mid.0 m.0) [
  | inl told ↦
      ap (λ (b : Bool). awaited_in (early_but m early) (cond (not b) (x ∷ sent_but m xs) (sent_but m xs))) told.0
      ∙ gone_is m early xs ∙ sym (out told.0 (is_early x.mid early))
  | inr told ↦
      ap (λ (b : Bool). awaited_in (early_but m early) (cond (not b) (x ∷ sent_but m xs) (sent_but m xs))) told.0
      ∙ entry x m.0 (is_early x.mid early) false (is_early x.mid (early_but m early)) (unanswered early xs)
      (filter (λ (y : Sent). not (is_early y.mid (early_but m early))) (sent_but m xs))
      (early_left x.mid m early told.0 ∙ sym (or_false (is_early x.mid early))) told.0 (gone_is m early xs)
]
  where
    or_false : (b : Bool) → (b || false) ≡ b
    or_false true = refl
    or_false false = refl

    out : (x.mid.0 == m.0) ≡ true → (t : Bool)
        → awaited_but m.0 (map flight_of (cond (not t) (x ∷ unanswered early xs) (unanswered early xs)))
        ≡ awaited_but m.0 (awaited_in early xs)
    out same true = refl
    out same false =
        ap (λ (b : Bool). cond (not b) ((x.mid.0, command_of x.message) ∷ awaited_but m.0 (awaited_in early xs)) (awaited_but m.0 (awaited_in early xs))) same

-- those left are told what a CREATE came to, and awaited as before
behind_is : (x : Sent) (reply : Rep) (early : List (Mid × Rep)) (ys : List Sent) → awaited_in early (map (behind_it x reply) ys) ≡ awaited_in early ys
behind_is x reply early [] = refl
behind_is x reply early (y ∷ ys) =
    ap (λ (m : Mid). map flight_of (cond (not (is_early m early)) (behind_it x reply y ∷ unanswered early (map (behind_it x reply) ys))
    (unanswered early (map (behind_it x reply) ys)))) (it_mid x reply y)
    ∙ by (is_early y.mid early) (behind_is x reply early ys)
  where
    by : (t : Bool) → awaited_in early (map (behind_it x reply) ys) ≡ awaited_in early ys
        → map flight_of (cond (not t) (behind_it x reply y ∷ unanswered early (map (behind_it x reply) ys))
        (unanswered early (map (behind_it x reply) ys)))
        ≡ map flight_of (cond (not t) (y ∷ unanswered early ys) (unanswered early ys))
    by true deeper = deeper
    by false deeper =
        ap (λ (m : Mid). (m.0, command_of (behind_it x reply y).message) ∷ awaited_in early (map (behind_it x reply) ys)) (it_mid x reply y)
        ∙ ap (λ (m : List ℕ). (y.mid.0, command_of m) ∷ awaited_in early (map (behind_it x reply) ys)) (it_message x reply y)
        ∙ ap (λ (l : List (ℕ × ℕ)). (y.mid.0, command_of y.message) ∷ l) deeper

pub went_awaits : (x : Sent) (reply : Rep) (v : View) → awaited (went x reply v) ≡ awaited_but x.mid.0 (awaited v)
went_awaits x reply v =
    ap (awaited_in (early_but x.mid v.early)) (left_is x reply v.flights) ∙ behind_is x reply (early_but x.mid v.early) (sent_but x.mid v.flights)
    ∙ gone_is x.mid v.early v.flights

-- nobody awaits what is early
not_awaited : (m : Mid) (early : List (Mid × Rep)) (xs : List Sent) → is_early m early ≡ true → awaited_but m.0 (awaited_in early xs) ≡ awaited_in early xs
not_awaited m early [] is = refl
not_awaited m early (x ∷ xs) is = by (is_early x.mid early) refl (not_awaited m early xs is)
  where
    by : (t : Bool) → is_early x.mid early ≡ t → awaited_but m.0 (awaited_in early xs) ≡ awaited_in early xs
        → awaited_but m.0 (map flight_of (cond (not t) (x ∷ unanswered early xs) (unanswered early xs)))
        ≡ map flight_of (cond (not t) (x ∷ unanswered early xs) (unanswered early xs))
    by true here deeper = deeper
    by false here deeper = elim (eqb_tells x.mid.0 m.0) [
      | inl told ↦ absurd (false≢true (sym here ∙ ap (λ (n : ℕ). is_early (record { 0 = n }) early) told.1 ∙ is))
      | inr told ↦
          ap (λ (b : Bool). cond (not b) (flight_of x ∷ awaited_but m.0 (awaited_in early xs)) (awaited_but m.0 (awaited_in early xs))) told.0
          ∙ ap (λ (l : List (ℕ × ℕ)). (x.mid.0, command_of x.message) ∷ l) deeper
    ]

-- the one in turn is early
abbrev IfEarly : List (Mid × Rep) → Option (Sent × Rep) → Type 0
IfEarly early None = Unit {0}
IfEarly early (Some next) = is_early next.0.mid early ≡ true

turn_early : (flights : List Sent) (early : List (Mid × Rep)) → IfEarly early (in_turn flights early)
turn_early flights [] = record {}
turn_early flights (e ∷ early) = by (sent_with e.0 flights) refl (later (in_turn flights early) (turn_early flights early))
  where
    or_true : (b : Bool) → (b || true) ≡ true
    or_true true = refl
    or_true false = refl

    later : (o : Option (Sent × Rep)) → IfEarly early o → IfEarly (e ∷ early) o
    later None is = record {}
    later (Some next) is = ap (λ (b : Bool). e.0.0 == next.0.mid.0 || b) is ∙ or_true (e.0.0 == next.0.mid.0)

    first : (x : Sent) → sent_with e.0 flights ≡ Some x → IfEarly (e ∷ early) (in_turn flights early) → (t : Bool)
        → IfEarly (e ∷ early) (if t then Some (x, e.1) else in_turn flights early)
    first x there deeper true =
        ap (λ (b : Bool). b || is_early x.mid early)
        (equal e.0.0 x.mid.0 (sym (found (λ (z : Sent). Unit {0}) e.0 flights x there (all_of (λ (z : Sent). Unit {0}) flights (λ z. record {}))).1))
    first x there deeper false = deeper

    by : (o : Option Sent) → sent_with e.0 flights ≡ o → IfEarly (e ∷ early) (in_turn flights early)
        → IfEarly (e ∷ early) (if_first o flights e.1 (in_turn flights early))
    by None there deeper = deeper
    by (Some x) there deeper = first x there deeper (is_first_of_frame flights x)

drained_awaits : (n : ℕ) (v : View) → awaited (drained n v) ≡ awaited v
drained_awaits zero v = refl
drained_awaits (suc n) v = by (in_turn v.flights v.early) (turn_early v.flights v.early) (drained_awaits n)
  where
    by : (o : Option (Sent × Rep)) → IfEarly v.early o → ((u : View) → awaited (drained n u) ≡ awaited u) → awaited (drained_with o (drained n) v) ≡ awaited v
    by None is others = refl
    by (Some next) is others = others (went next.0 next.1 v) ∙ went_awaits next.0 next.1 v ∙ not_awaited next.0.mid v.early v.flights is

-- a reply is looked at
pub landed_awaits : (x : Sent) (reply : Rep) (v : View) → awaited (landed_by (Some x) reply v) ≡ awaited_but x.mid.0 (awaited v)
landed_awaits x reply v = by (is_first_of_frame v.flights x)
  where
    by : (t : Bool)
        → awaited (if t then drained (length v.early) (went x reply v) else record v { early = v.early ++ (x.mid, reply) ∷ [] })
        ≡ awaited_but x.mid.0 (awaited v)
    by true = drained_awaits (length v.early) (went x reply v) ∙ went_awaits x reply v
    by false = waits_is x.mid reply v.early v.flights

-- a request of the connection itself is answered
early_none : (m : Mid) (early : List (Mid × Rep)) → is_early m early ≡ false → early_but m early ≡ early
early_none m [] fresh = refl
early_none m (e ∷ early) fresh = by (e.0.0 == m.0) fresh (early_none m early)
  where
    by : (t : Bool) → (t || is_early m early) ≡ false → (is_early m early ≡ false → early_but m early ≡ early)
        → cond (not t) (e ∷ early_but m early) (early_but m early) ≡ e ∷ early
    by true fresh deeper = absurd (false≢true (sym fresh))
    by false fresh deeper = ap (λ (l : List (Mid × Rep)). e ∷ l) (deeper fresh)

pub without_awaits : (x : Sent) (v : View) → is_early x.mid v.early ≡ false → awaited (without x.mid v) ≡ awaited_but x.mid.0 (awaited v)
without_awaits x v fresh =
    ap (λ (early : List (Mid × Rep)). awaited_in early (sent_but x.mid v.flights)) (sym (early_none x.mid v.early fresh)) ∙ gone_is x.mid v.early v.flights

-- the test of an id
test_is : (a b : ℕ) → is_eq (nat_cmp a b) ≡ (a == b)
test_is a b = elim (eqb_tells a b) [
  | inl told ↦ ap is_eq (sym (nat_cmp_is a b Equal told.1)) ∙ sym told.0
  | inr told ↦ other (nat_lt a b) (a == b) told.0 ∙ sym told.0
]
  where
    other : (t u : Bool) → u ≡ false → is_eq (cond t Less (cond u Equal Greater)) ≡ false
    other true u is = refl
    other false true is = absurd (false≢true (sym is))
    other false false is = refl

swapped : (a b : ℕ) → (a == b) ≡ true → (b == a) ≡ true
swapped a b is = search rules

-- what is awaited rises as the requests in flight do, so that the first one with an id is the only one
abbrev Rises : List (ℕ × ℕ) → Type 0
Rises [] = Unit {0}
Rises (e ∷ es) = AllByRecursion (λ (f : ℕ × ℕ). e.0 < f.0) es × Rises es

rises : (early : List (Mid × Rep)) (xs : List Sent) → AreRising xs → Rises (awaited_in early xs)
rises early [] rising = record {}
rises early (x ∷ xs) rising = by (is_early x.mid early) (rises early xs rising.1)
  where
    by : (t : Bool) → Rises (awaited_in early xs)
        → Rises (map flight_of (cond (not t) (x ∷ unanswered early xs) (unanswered early xs)))
    by true deeper = deeper
    by false deeper = (
      all_map (IsAbove x) (λ (f : ℕ × ℕ). x.mid.0 < f.0) flight_of (unanswered early xs) (λ y above. above)
          (all_filter (IsAbove x) (λ (y : Sent). not (is_early y.mid early)) xs rising.0),
      deeper,
    )

none_with : (id : ℕ) (es : List (ℕ × ℕ)) → AllByRecursion (λ (f : ℕ × ℕ). id < f.0) es → awaited_but id es ≡ es
none_with id [] above = refl
none_with id (e ∷ es) above =
    ap (λ (b : Bool). cond (not b) (e ∷ awaited_but id es) (awaited_but id es)) (apart id e.0 above.0)
    ∙ ap (λ (l : List (ℕ × ℕ)). e ∷ l) (none_with id es above.1)
  where
    apart : (a b : ℕ) → a < b → (b == a) ≡ false
    apart a b less = grind (arith, nat_tests)

but_is : (id : ℕ) (es : List (ℕ × ℕ)) → Rises es → but id es ≡ awaited_but id es
but_is id [] rising = refl
but_is id (e ∷ es) rising = elim (eqb_tells e.0 id) [
  | inl told ↦
      ap (λ (b : Bool). cond b es (e ∷ but id es)) (test_is id e.0 ∙ swapped e.0 id told.0)
      ∙ sym (none_with id es (subst (λ (n : ℕ). AllByRecursion (λ (f : ℕ × ℕ). n < f.0) es) told.1 rising.0))
      ∙ sym (ap (λ (b : Bool). cond (not b) (e ∷ awaited_but id es) (awaited_but id es)) told.0)
  | inr told ↦
      ap (λ (b : Bool). cond b es (e ∷ but id es)) (test_is id e.0 ∙ turned e.0 id told.0)
      ∙ ap (λ (l : List (ℕ × ℕ)). e ∷ l) (but_is id es rising.1)
      ∙ sym (ap (λ (b : Bool). cond (not b) (e ∷ awaited_but id es) (awaited_but id es)) told.0)
]

pub awaited_without : (id : ℕ) (v : View) → AreRising v.flights → but id (awaited v) ≡ awaited_but id (awaited v)
awaited_without id v rising = but_is id (awaited v) (rises v.early v.flights rising)

-- the request that is awaited under an id
pub record IsAwaitedAs (mid : Mid) (command : ℕ) (v : View) : Type 0 where
  pub request : Sent
  pub fresh : is_early mid v.early ≡ false
  pub there : sent_with mid v.flights ≡ Some request
  pub command_is : command_of request.message ≡ command

awaited_in_found : (mid : Mid) (command : ℕ) (v : View) (xs : List Sent) → command_at (awaited_in v.early xs) mid.0 ≡ Some command
    → IsAwaitedAs mid command (record v { flights = xs })
awaited_in_found mid command v [] is = absurd (none_some command is)
awaited_in_found mid command v (x ∷ xs) is = by (is_early x.mid v.early) refl is (awaited_in_found mid command v xs)
  where
    past : (x.mid.0 == mid.0) ≡ false → IsAwaitedAs mid command (record v { flights = xs }) → IsAwaitedAs mid command (record v { flights = x ∷ xs })
    past other a = record {
      request = a.request;
      fresh = a.fresh;
      there = ap (λ (b : Bool). if b then Some x else sent_with mid xs) other ∙ a.there;
      command_is = a.command_is;
    }

    at : is_early x.mid v.early ≡ false → command_at ((x.mid.0, command_of x.message) ∷ awaited_in v.early xs) mid.0 ≡ Some command
        → (command_at (awaited_in v.early xs) mid.0 ≡ Some command → IsAwaitedAs mid command (record v { flights = xs }))
        → IsAwaitedAs mid command (record v { flights = x ∷ xs })
    at here is deeper = elim (eqb_tells x.mid.0 mid.0) [
      | inl told ↦ record {
        request = x;
        fresh = ap (λ (n : ℕ). is_early (record { 0 = n }) v.early) (sym told.1) ∙ here;
        there = ap (λ (b : Bool). if b then Some x else sent_with mid xs) told.0;
        command_is = some_is (command_of x.message) command
            (sym (ap (λ (b : Bool). cond b (Some (command_of x.message)) (command_at (awaited_in v.early xs) mid.0))
            (test_is mid.0 x.mid.0 ∙ swapped x.mid.0 mid.0 told.0)) ∙ is);
      }
      | inr told ↦ past told.0 (deeper
          (sym (ap (λ (b : Bool). cond b (Some (command_of x.message)) (command_at (awaited_in v.early xs) mid.0))
          (test_is mid.0 x.mid.0 ∙ turned x.mid.0 mid.0 told.0)) ∙ is))
    ]

    by : (t : Bool) → is_early x.mid v.early ≡ t
        → command_at (map flight_of (cond (not t) (x ∷ unanswered v.early xs) (unanswered v.early xs))) mid.0
        ≡ Some command
        → (command_at (awaited_in v.early xs) mid.0 ≡ Some command → IsAwaitedAs mid command (record v { flights = xs }))
        → IsAwaitedAs mid command (record v { flights = x ∷ xs })
    by true here is deeper = elim (eqb_tells x.mid.0 mid.0) [
      | inl told ↦ absurd (false≢true (sym (deeper is).fresh ∙ ap (λ (n : ℕ). is_early (record { 0 = n }) v.early) (sym told.1) ∙ here))
      | inr told ↦ past told.0 (deeper is)
    ]
    by false here is deeper = at here is deeper

pub awaited_found : (mid : Mid) (command : ℕ) (v : View) → command_at (awaited v) mid.0 ≡ Some command → IsAwaitedAs mid command v
awaited_found mid command v is = awaited_in_found mid command v v.flights is

-- the answers to others stay so once one is answered
command_left : (id other : ℕ) (es : List (ℕ × ℕ)) → (id == other) ≡ false → command_at (awaited_but other es) id ≡ command_at es id
command_left id other [] far = refl
command_left id other (e ∷ es) far = elim (eqb_tells e.0 other) [
  | inl told ↦
      ap (λ (b : Bool). command_at (cond (not b) (e ∷ awaited_but other es) (awaited_but other es)) id) told.0
      ∙ command_left id other es far
      ∙ sym (ap (λ (b : Bool). cond b (Some e.1) (command_at es id)) (test_is id e.0 ∙ ap (λ (n : ℕ). id == n) told.1 ∙ far))
  | inr told ↦
      ap (λ (b : Bool). command_at (cond (not b) (e ∷ awaited_but other es) (awaited_but other es)) id) told.0
      ∙ ap (λ (o : Option ℕ). cond (is_eq (nat_cmp id e.0)) (Some e.1) o) (command_left id other es far)
]

pub answers_left : (id : ℕ) (es : List (ℕ × ℕ)) (rs : List Reply) → is_answered rs id ≡ false → AreAnswers es rs → AreAnswers (awaited_but id es) rs
answers_left id es [] none are = record {}
answers_left id es (r ∷ rs) none are = by (r.mid.0 == id) refl none (answers_left id es rs)
  where
    by : (t : Bool) → (r.mid.0 == id) ≡ t → (t || is_answered rs id) ≡ false
        → (is_answered rs id ≡ false → AreAnswers es rs → AreAnswers (awaited_but id es) rs)
        → AreAnswers (awaited_but id es) (r ∷ rs)
    by true is none deeper = absurd (false≢true (sym none))
    by false is none deeper = (
      record {
        head = are.0.head;
        headed = are.0.headed;
        mid = are.0.mid;
        command = command_left r.mid.0 id es is ∙ are.0.command;
        flagged = are.0.flagged;
        final = are.0.final;
        body = are.0.body;
      },
      are.1,
      deeper none are.2,
    )
