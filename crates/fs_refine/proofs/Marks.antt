-- The client's marks make no difference, and what is related stays so.
use Rattle.std.proofs.Common.{rules, arith, ◌≡◌, ◌∙◌, refl, sym, ap, subst, ℕ, ◌==◌, Bool, true, false, if◌then◌else◌, not, List, [], ◌∷◌, ◌++◌, Option, Some, None, inl, inr}
use Rattle.std.specs.Prelude.{IsSomeAnd, map, ◌⊎◌, ◌&&◌, ◌||◌, nat_lt}
use Rattle.std.specs.List.{AllByRecursion, list_any, list_all}
use Rattle.std.proofs.lemmas.Bool.{false≢true}
use Rattle.std.proofs.lemmas.Bool.Decides.{nat_tests}
use Rattle.smb_base.specs.declared.names.Mid.{Mid}
use Rattle.fs_types.specs.declared.answer.Answer.{Answer}
use Rattle.fs_types.specs.declared.call.Call.{Call}
use Rattle.share_state.specs.declared.connection.Sent.{Sent}
use Rattle.share_state.specs.declared.request.Rep.{Rep}
use Rattle.share_state.specs.declared.share.Share.{Share}
use Rattle.smb_link.specs.declared.event.Event.{Event}
use Rattle.smb_link.specs.declared.event.Event.TheVariants as event
use Rattle.smb_link.specs.declared.mark.Mark.TheVariants as mark
use Rattle.smb_link.specs.Calls.{is_there, program_of}
use Rattle.smb_link.specs.Program.{Program, Known, Ask, Look, Say, settled, of_errno}
use Rattle.fs_plain.specs.World.{happens}
use Rattle.fs_plain.specs.Run.{Run, ended_by}
use Rattle.fs_plain.specs.Owners.{Owner, owner_of}
use Rattle.fs_plain.specs.Differences.{odd_unless}
use Rattle.fs_plain.specs.PlainAnswered.{is_number, compared, finished_on, is_passed_by, judged_answer_of, without_call, side_after_answer_of}
use Rattle.fs_plain.specs.Paired.{Pair}
use Rattle.fs_plain.specs.Told.{Told, was_begun, told_by_mark}
use Rattle.fs_plain.specs.PlainSide.{PlainCall, PlainSide, call_with, file_named}
use Rattle.fs_plain.specs.Divergence as plain
use Rattle.fs_plain.specs.Divergence.{side_after, judged_event}
use Rattle.fs_plain.specs.Holders.{AllHeld}
use Rattle.fs_plain.proofs.AlikeLaws.{alike_calls}
use Rattle.fs_plain.proofs.Programs.{program_tidies}
use Rattle.fs_plain.proofs.SameLaws.{answer_itself}
use Rattle.fs_client.specs.Item.{Item, Placed, item_with, items_but, spoken_for}
use Rattle.fs_client.specs.View.{Setting, View, Client}
use Rattle.fs_client.specs.Asked.{is_refused}
use Rattle.fs_client.specs.After.{new_item, view_after}
use Rattle.fs_client.specs.Flies.{IsIdle}
use Rattle.fs_client.specs.Looks.{advanced, went}
use Rattle.fs_client.specs.May.{MayBegin, MayAnnounceFor, MayAnswerFor, May}
use Rattle.fs_client.specs.Owing.{taken}
use Rattle.fs_client.specs.Sane.{IsApart, AreApart, IsBegun, Sane}
use Rattle.fs_client.proofs.Lists.{some_is, all_more, turned, found, item_on, item_found}
use Rattle.fs_client.proofs.Flights.{it_mid}
use Rattle.fs_client.proofs.Landing.{InTurn, moved, moved_goes, advanced_is, all_left}
use Rattle.fs_client.proofs.Answers.{IsNotOf, IsFree, idle_free}
use Rattle.fs_client.proofs.Stays.{stays}
use Rattle.fs_client.proofs.Taken.{Commutes, begin_commutes, announce_commutes, answer_commutes, now_commutes, end_commutes}
use Rattle.fs_client.proofs.Steps.{changed}
use Rattle.fs_refine.specs.Calls.{IsGiven, IsCall, AreCalls, all_described}
use Rattle.fs_refine.specs.Related.{IsOfRun, Related}
use Rattle.fs_refine.proofs.CallLists.{call_found, calls_append, calls_map, calls_without, lanes_same, stem}
use Rattle.fs_refine.proofs.Holding.{begin_holds, announce_holds, HoldsNothing, at_answer, never_opened, answer_holds, same_holds}
use Rattle.fs_refine.proofs.Taking.{well_taken, IsSame, same_taken, taken_keeps, cached_along}
use Rattle.fs_refine.proofs.Changing.{well}

-- what is to be shown of an own event
abbrev pub Keeps : Run → Setting → Share → PlainSide → View → Event → Type 0
Keeps run st s p v e = (judged_event run s p e ≡ None) × Related (happens s e) (side_after run s p e) (view_after st v e)

-- an event of the client that leaves the share alone, and does before the looks what it does after them
pub record Does (s : Share) (p p' : PlainSide) (v w : View) (H : List Item → List Item) : Type 0 where
  pub commutes : Commutes (changed H w.told) s.owed v w
  pub sane : Sane w
  pub early : w.early ≡ v.early
  pub flights : w.flights ≡ v.flights
  pub owners : w.told.owners ≡ v.told.owners
  pub connected : w.connected ≡ v.connected
  pub held : w.held ≡ v.held
  pub placed : w.placed ≡ v.placed
  pub plain : p'.plain ≡ p.plain
  pub pairs : p'.pairs ≡ p.pairs
  pub kept : p'.kept ≡ p.kept
  pub described : p'.described ≡ p.described
  pub told : p'.told ≡ w.told
  pub running : AreCalls p.pairs s.opens_made (H (taken s.owed v).items) p'.running
  pub holders : AllHeld p'

pub does_related : (s : Share) (p p' : PlainSide) (v w : View) (H : List Item → List Item) → Related s p v → Does s p p' v w H → Related s p' w
does_related s p p' v w H old does = record {
  alike = alike_calls s p p' does.plain does.pairs does.kept old.alike;
  ours = old.ours;
  sane = does.sane;
  due = does.commutes.due;
  early = does.early ∙ old.early;
  sent = old.sent ∙ sym (ap (λ (u : View). u.flights) does.commutes.is);
  running = subst (λ (u : View). AreCalls p'.pairs s.opens_made u.items p'.running) (sym does.commutes.is)
      (subst (λ (l : _). AreCalls l s.opens_made (H (taken s.owed v).items) p'.running) (sym does.pairs) does.running);
  told = does.told;
  connected = old.connected ∙ sym does.connected;
  held = old.held ∙ sym does.held;
  described = does.described ∙ old.described ∙ ap (λ (l : _). all_described l v.placed) (sym does.pairs)
      ∙ ap (all_described p'.pairs) (sym does.placed);
  placed = subst (AllByRecursion (λ (x : Placed). IsGiven s.opens_made x.fid)) (sym does.placed) old.placed;
  holders = does.holders;
  cached = cached_along s p' s.owed w (record { sane = does.sane; early = does.early ∙ old.early }) does.commutes.due;
}

-- a call begins
three : (a b c : Bool) → a ≡ true → b ≡ true → c ≡ true → (a && b && c) ≡ true
three true true true x y z = refl
three true true false x y z = absurd (false≢true z)
three true false c x y z = absurd (false≢true y)
three false b c x y z = absurd (false≢true x)

abbrev lane_in : ℕ → List ((ℕ × ℕ) × (Call × (Bool × Option ℕ))) → Bool
lane_in lane stems = list_any (λ t. t.0.1 == lane) stems

lanes_in : (lane : ℕ) (items : List Item) → list_any (λ (i : Item). i.lane == lane) items ≡ lane_in lane (map stem items)
lanes_in lane [] = refl
lanes_in lane (i ∷ is) = ap (λ (b : Bool). i.lane == lane || b) (lanes_in lane is)

pub begin_keeps : (run : Run) (st : Setting) (s : Share) (p : PlainSide) (c : Client) (number lane : ℕ) (call : Call) → IsOfRun run st → Related s p c.view → MayBegin st c number lane call
    → Keeps run st s p c.view (event.Marked (mark.Begin number lane call))
begin_keeps run st s p c number lane call of old may =
    let v : View = c.view in
    let e : Event = event.Marked (mark.Begin number lane call) in
    let w : View = view_after st v e in
    let p' : PlainSide = side_after run s p e in
    let same : IsSame v (taken s.owed v) = same_taken s.owed v (well s p v old) old.due in
    let lanes : list_any (λ (d : PlainCall). d.lane == lane) p.running ≡ list_any (λ (i : Item). i.lane == lane) v.items =
    lanes_same p.pairs s.opens_made lane (taken s.owed v).items p.running old.running
    ∙ lanes_in lane (taken s.owed v).items ∙ ap (lane_in lane) same.stems ∙ sym (lanes_in lane v.items) in (
      ap odd_unless (three (is_there call) (list_all (λ line. nat_lt line.0 number) p.told.begun) (not (list_any (λ (d : PlainCall). d.lane == lane) p.running)) may.there
          (ap (λ (t : Told). list_all (λ line. nat_lt line.0 number) t.begun) old.told ∙ may.above) (ap not lanes ∙ may.lane_free)),
      does_related s p p' v w (λ items. items ++ new_item st number lane call v ∷ []) old (record {
        commutes = begin_commutes st s.owed v number lane call old.sane old.early old.due;
        sane = stays st c e old.sane may;
        early = refl;
        flights = refl;
        owners = refl;
        connected = refl;
        held = refl;
        placed = refl;
        plain = refl;
        pairs = refl;
        kept = refl;
        described = refl;
        told = ap (told_by_mark (mark.Begin number lane call)) old.told;
        running = calls_append p.pairs s.opens_made (taken s.owed v).items p.running (new_item st number lane call v)
            (record {
              number = number;
              lane = lane;
              call = call;
              announced = false;
              rest = program_of run.options run.seed call;
              opened = [];
              file = file_named call p.told.known.locals;
            }) old.running
            (record {
              number = refl;
              lane = refl;
              call = refl;
              announced = refl;
              file = ap (λ (t : Told). file_named call t.known.locals) old.told;
              along = λ whole. record {
                rest = ap (λ (o : _). program_of o run.seed call) of.options ∙ ap (λ (l : List ℕ). program_of st.options l call) of.seed;
                opened = refl;
                given = tt;
              };
              parted = λ broken. refl;
              unsent = λ none. refl;
              unopened = λ none. refl;
            });
        holders = begin_holds p p' (record {
          number = number;
          lane = lane;
          call = call;
          announced = false;
          rest = program_of run.options run.seed call;
          opened = [];
          file = file_named call p.told.known.locals;
        }) refl refl refl (program_tidies run.options run.seed call) old.holders;
      }),
    )

-- a frame is announced
spoken_call : (pairs : List Pair) (made n : ℕ) (i : Item) (c : PlainCall) → IsCall pairs made i c → IsCall pairs made (spoken_for n i) (plain.spoken_for n c)
spoken_call pairs made n i c is = ap_number (by (i.number == n))
  where
    by : (t : Bool) → IsCall pairs made (if t then record i { announced = true } else i) (if t then record c { announced = true } else c)
    by true = record {
      number = is.number;
      lane = is.lane;
      call = is.call;
      announced = refl;
      file = is.file;
      along = λ whole. record { rest = (is.along whole).rest; opened = (is.along whole).opened; given = (is.along whole).given };
      parted = is.parted;
      unsent = λ none. absurd (false≢true (sym none));
      unopened = λ none. absurd (false≢true (sym none));
    }
    by false = is

    ap_number : IsCall pairs made (spoken_for n i) (if i.number == n then record c { announced = true } else c) → IsCall pairs made (spoken_for n i) (plain.spoken_for n c)
    ap_number = subst (λ (m : ℕ). IsCall pairs made (spoken_for n i) (if m == n then record c { announced = true } else c)) (sym is.number)

pub announce_keeps : (run : Run) (st : Setting) (s : Share) (p : PlainSide) (c : Client) (number : ℕ) (first : Mid) (count : ℕ) → Related s p c.view → May st c (event.Marked (mark.For number first count))
    → Keeps run st s p c.view (event.Marked (mark.For number first count))
announce_keeps run st s p c number first count old may =
    let v : View = c.view in
    let e : Event = event.Marked (mark.For number first count) in
    let w : View = view_after st v e in
    let p' : PlainSide = side_after run s p e in (
      ap (λ (t : Told). odd_unless (was_begun number t.begun)) old.told ∙ begun (item_with number v.items) refl may,
      does_related s p p' v w (map (spoken_for number)) old (record {
        commutes = announce_commutes st s.owed v number first count old.sane old.early old.due;
        sane = stays st c e old.sane may;
        early = refl;
        flights = refl;
        owners = refl;
        connected = refl;
        held = refl;
        placed = refl;
        plain = refl;
        pairs = refl;
        kept = refl;
        described = refl;
        told = ap (told_by_mark (mark.For number first count)) old.told;
        running = calls_map p.pairs s.opens_made (spoken_for number) (plain.spoken_for number) (taken s.owed v).items p.running (spoken_call p.pairs s.opens_made number) old.running;
        holders = announce_holds p p' number refl refl refl old.holders;
      }),
    )
  where
    begun : (o : Option Item) → item_with number c.view.items ≡ o → IsSomeAnd o (MayAnnounceFor st c first count) → odd_unless (was_begun number c.view.told.begun) ≡ None
    begun None is may = absurd may
    begun (Some i) is may =
        let f = item_found (IsBegun c.view.told) number c.view.items i is old.sane.begun in
        ap odd_unless (subst (λ (n : ℕ). was_begun n c.view.told.begun ≡ true) f.1 f.0)

-- a call that has nothing in flight is the same once all was looked at
pub record IsStill (n : ℕ) (v u : View) : Type 0 where
  pub item : item_with n u.items ≡ item_with n v.items
  pub free : AllByRecursion (IsFree n u.told.owners) u.flights

still_went : (n : ℕ) (v u : View) (x : Sent) (reply : Rep) → InTurn u.flights x reply → IsStill n v u → IsStill n v (went x reply u)
still_went n v u x reply turn still = record {
  item = by (owner_of x.mid u.told.owners) (found (IsFree n u.told.owners) x.mid u.flights x turn.there still.free).0 ∙ still.item;
  free = all_left (IsFree n u.told.owners) x reply u.flights (λ y free. subst (λ (m : Mid). IsNotOf n (owner_of m u.told.owners)) (sym (it_mid x reply y)) free) still.free;
}
  where
    by : (o : Option Owner) → IsNotOf n o → item_with n (advanced o (is_refused x) reply u.items) ≡ item_with n u.items
    by None free = refl
    by (Some o) free =
        ap (item_with n) (advanced_is o (is_refused x) reply u.items)
        ∙ item_on n o.number (moved (is_refused x) o.known reply) u.items (moved_goes (is_refused x) o.known reply).number (turned o.number n free)

pub item_taken : (s : Share) (p : PlainSide) (v : View) (n : ℕ) (i : Item) → Related s p v → item_with n v.items ≡ Some i → IsIdle i.frame v.flights → item_with n (taken s.owed v).items ≡ Some i
item_taken s p v n i old runs idle =
    (taken_keeps (IsStill n v) (λ u x reply sane turn still. still_went n v u x reply turn still) s.owed v (well s p v old) old.due
    (record { item = refl; free = idle_free v n i old.sane runs idle })).item ∙ runs

-- each call with a number is the one that is found
only_one : (n : ℕ) (i : Item) (items : List Item) → item_with n items ≡ Some i → AreApart items → AllByRecursion (λ (j : Item). (j.number == n) ≡ true → j ≡ i) items
only_one n i [] there apart = tt
only_one n i (j ∷ js) there apart = by (j.number == n) refl there (only_one n i js)
  where
    away : (k : Item) → (j.number == n) ≡ true → IsApart j k → (k.number == n) ≡ true → k ≡ i
    away k at other at' = absurd (false≢true (sym other.0 ∙ both k.number j.number at' at))
      where
        both : (a b : ℕ) → (a == n) ≡ true → (b == n) ≡ true → (a == b) ≡ true
        both a b x y = grind (arith, nat_tests)

    by : (t : Bool) → (j.number == n) ≡ t → (if t then Some j else item_with n js) ≡ Some i
        → (item_with n js ≡ Some i → AreApart js → AllByRecursion (λ (k : Item). (k.number == n) ≡ true → k ≡ i) js)
        → AllByRecursion (λ (k : Item). (k.number == n) ≡ true → k ≡ i) (j ∷ js)
    by true is there deeper = ((λ at. some_is j i there), all_more (IsApart j) (λ (k : Item). (k.number == n) ≡ true → k ≡ i) js (λ k other. away k is other) apart.0)
    by false is there deeper = ((λ at. absurd (false≢true (sym is ∙ at))), deeper there apart.1)

-- so the plain call with it is the one of that
plain_only : (pairs : List Pair) (made n : ℕ) (i : Item) (items : List Item) (running : List PlainCall) → AreCalls pairs made items running → ((c : PlainCall) → IsCall pairs made i c → HoldsNothing c)
    → AllByRecursion (λ (j : Item). (j.number == n) ≡ true → j ≡ i) items → AllByRecursion (λ (c : PlainCall). (c.number == n) ≡ true → HoldsNothing c) running
plain_only pairs made n i [] [] are f only = tt
plain_only pairs made n i [] (c ∷ cs) are f only = absurd are
plain_only pairs made n i (j ∷ js) [] are f only = absurd are
plain_only pairs made n i (j ∷ js) (c ∷ cs) are f only = (
  (λ at. f c (subst (λ (k : Item). IsCall pairs made k c) (only.0 (ap (λ (m : ℕ). m == n) (sym are.0.number) ∙ at)) are.0)),
  plain_only pairs made n i js cs are.1 f only.1,
)

-- a program that says its answer is finished with it
finished_says : (s : Share) (known : Known) (c : PlainCall) (q : Program) (p : PlainSide) (a : Answer) → settled known q ≡ Say a → finished_on s known c q p ≡ (Some a, p)
finished_says s known c (Ask wish rest) p a is = absurd (no is)
  where
    no : Ask wish rest ≡ Say a → ⊥
    no is = search rules
finished_says s known c (Look rest) p a is = finished_says s known c (rest known) p a is
finished_says s known c (Say b) p a is = ap (λ (x : Answer). (Some x, p)) (the b a is)
  where
    answer_of : Program → Answer
    answer_of (Ask wish rest) = a
    answer_of (Look rest) = a
    answer_of (Say b) = b

    the : (b a : Answer) → Say b ≡ Say a → b ≡ a
    the b a is = ap answer_of is

-- an answer is right, and nothing but the call goes
record Answers (run : Run) (s : Share) (p : PlainSide) (c : PlainCall) (a : Answer) : Type 0 where
  right : judged_answer_of run s p (Some c) a ≡ None
  after : side_after_answer_of run s p (Some c) a ≡ without_call c.number p
  holds : HoldsNothing c

says_right : (run : Run) (s : Share) (p : PlainSide) (c : PlainCall) (a : Answer) → settled p.told.known c.rest ≡ Say a → Answers run s p c a
says_right run s p c a says =
    let done : finished_on s p.told.known c c.rest p ≡ (Some a, p) = finished_says s p.told.known c c.rest p a says in
    record {
      right = ap (λ (d : Option Answer × PlainSide). if is_passed_by run p c a then None else compared d.0 a) done ∙ judged (is_passed_by run p c a);
      after = ap (λ (d : Option Answer × PlainSide). without_call c.number (if is_passed_by run p c a then p else d.1)) done ∙ same (is_passed_by run p c a);
      holds = at_answer p.told.known c a says;
    }
  where
    judged : (t : Bool) → (if t then None else compared (Some a) a) ≡ None
    judged true = refl
    judged false = ap (λ (b : Bool). if b then None else Some (record { expected = a; found = a })) (answer_itself a)

    same : (t : Bool) → without_call c.number (if t then p else p) ≡ without_call c.number p
    same true = refl
    same false = refl

nomem_right : (run : Run) (s : Share) (p : PlainSide) (c : PlainCall) (a : Answer) → c.announced ≡ false → c.opened ≡ [] → a ≡ of_errno 12 → Answers run s p c a
nomem_right run s p c a unannounced unopened is =
    let passed : is_passed_by run p c a ≡ true = passed_by c.announced a unannounced is in
    record {
      right = ap (λ (b : Bool). if b then None else compared (finished_on s p.told.known c c.rest p).0 a) passed;
      after = ap (λ (b : Bool). without_call c.number (if b then p else (finished_on s p.told.known c c.rest p).1)) passed;
      holds = never_opened c unopened;
    }
  where
    passed_by : (t : Bool) (b : Answer) → t ≡ false → b ≡ of_errno 12 → (not t && is_number 12 b || (p.to_do == 0 && ((ended_by 5 run.status && is_number 71 b) || (ended_by 6 run.status && is_number 112 b)))) ≡ true
    passed_by t b none same = rw none (rw same refl)

answered : (run : Run) (st : Setting) (s : Share) (p : PlainSide) (c : Client) (number : ℕ) (a : Answer) (i : Item) → Related s p c.view → May st c (event.Marked (mark.Answer number a))
    → item_with number c.view.items ≡ Some i → MayAnswerFor c a i → Keeps run st s p c.view (event.Marked (mark.Answer number a))
answered run st s p c number a i old may runs for =
    let v : View = c.view in
    let e : Event = event.Marked (mark.Answer number a) in
    let w : View = view_after st v e in
    let p' : PlainSide = side_after run s p e in
    let runs' : item_with number (taken s.owed v).items ≡ Some i = item_taken s p v number i old runs for.idle in
    let f = call_found p.pairs s.opens_made number i (taken s.owed v).items p.running old.running runs' in
    let d : PlainCall = f.c in
    let ok : (k : PlainCall) → IsCall p.pairs s.opens_made i k → Answers run s p k a = λ k is. right k is for.says in
    let after : side_after_answer_of run s p (call_with number p.running) a ≡ without_call number p =
    ap (λ (o : Option PlainCall). side_after_answer_of run s p o a) f.there ∙ (ok d f.is).after ∙ ap (λ (n : ℕ). without_call n p) f.number in
    let q : PlainSide = record (without_call number p) { told = told_by_mark (mark.Answer number a) p.told; to_do = p.to_do } in
    let is : p' ≡ q = ap (λ (t : PlainSide). record t { told = told_by_mark (mark.Answer number a) t.told; to_do = t.to_do }) after in (
      ap (λ (o : Option PlainCall). judged_answer_of run s p o a) f.there ∙ (ok d f.is).right,
      subst (λ (t : PlainSide). Related s t w) (sym is) (does_related s p q v w (items_but number) old (record {
        commutes = answer_commutes st s.owed v number a i old.sane old.early old.due runs for.idle;
        sane = stays st c e old.sane may;
        early = refl;
        flights = refl;
        owners = refl;
        connected = refl;
        held = refl;
        placed = refl;
        plain = refl;
        pairs = refl;
        kept = refl;
        described = refl;
        told = ap (told_by_mark (mark.Answer number a)) old.told;
        running = calls_without p.pairs s.opens_made number (taken s.owed v).items p.running old.running;
        holders = answer_holds p q number refl refl refl
            (plain_only p.pairs s.opens_made number i (taken s.owed v).items p.running old.running (λ k is. (ok k is).holds)
            (only_one number i (taken s.owed v).items runs' (well_taken s.owed v (well s p v old) old.due).sane.apart)) old.holders;
      })),
    )
  where
    right : (k : PlainCall) → IsCall p.pairs s.opens_made i k → ((i.broken ≡ false) × (settled c.view.told.known i.rest ≡ Say a)) ⊎ ((i.announced ≡ false) × (a ≡ of_errno 12)) → Answers run s p k a
    right k is (inl says) = says_right run s p k a (ap (λ (t : Told). settled t.known k.rest) old.told ∙ ap (settled c.view.told.known) (is.along says.0).rest ∙ says.1)
    right k is (inr none) = nomem_right run s p k a (is.announced ∙ none.0) (is.unopened none.0) none.1

pub answer_keeps : (run : Run) (st : Setting) (s : Share) (p : PlainSide) (c : Client) (number : ℕ) (a : Answer) → Related s p c.view → May st c (event.Marked (mark.Answer number a))
    → Keeps run st s p c.view (event.Marked (mark.Answer number a))
answer_keeps run st s p c number a old may = by (item_with number c.view.items) refl may
  where
    by : (o : Option Item) → item_with number c.view.items ≡ o → IsSomeAnd o (MayAnswerFor c a) → Keeps run st s p c.view (event.Marked (mark.Answer number a))
    by None is for = absurd for
    by (Some i) is for = answered run st s p c number a i old may is for

-- the clock is read; the end is said
pub now_keeps : (run : Run) (st : Setting) (s : Share) (p : PlainSide) (c : Client) (time : ℕ) → Related s p c.view → May st c (event.Marked (mark.Now time))
    → Keeps run st s p c.view (event.Marked (mark.Now time))
now_keeps run st s p c time old may = (
  refl,
  does_related s p (side_after run s p (event.Marked (mark.Now time))) c.view (view_after st c.view (event.Marked (mark.Now time))) (λ items. items) old (record {
    commutes = now_commutes st s.owed c.view time old.sane old.early old.due;
    sane = stays st c (event.Marked (mark.Now time)) old.sane may;
    early = refl;
    flights = refl;
    owners = refl;
    connected = refl;
    held = refl;
    placed = refl;
    plain = refl;
    pairs = refl;
    kept = refl;
    described = refl;
    told = ap (told_by_mark (mark.Now time)) old.told;
    running = old.running;
    holders = same_holds p (side_after run s p (event.Marked (mark.Now time))) refl refl old.holders.opens old.holders;
  }),
)

pub end_keeps : (run : Run) (st : Setting) (s : Share) (p : PlainSide) (c : Client) → Related s p c.view → May st c (event.Marked mark.End) → Keeps run st s p c.view (event.Marked mark.End)
end_keeps run st s p c old may = (
  refl,
  does_related s p (side_after run s p (event.Marked mark.End)) c.view (view_after st c.view (event.Marked mark.End)) (λ items. items) old (record {
    commutes = end_commutes st s.owed c.view old.sane old.early old.due;
    sane = stays st c (event.Marked mark.End) old.sane may;
    early = refl;
    flights = refl;
    owners = refl;
    connected = refl;
    held = refl;
    placed = refl;
    plain = refl;
    pairs = refl;
    kept = refl;
    described = refl;
    told = ap (told_by_mark mark.End) old.told;
    running = old.running;
    holders = same_holds p (side_after run s p (event.Marked mark.End)) refl refl old.holders.opens old.holders;
  }),
)
