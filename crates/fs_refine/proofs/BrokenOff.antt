-- A run that was broken off: behind a story of a client that does what it may, the answers that close its calls diverge nowhere.
use Rattle.std.proofs.Common.{rules, arith, ◌≡◌, ◌∙◌, refl, sym, ap, subst, ℕ, suc, ◌+◌, ◌-◌, ◌==◌, Bool, true, false, cond, if◌then◌else◌, not, List, [], ◌∷◌, ◌++◌, length, Option, Some, None}
use Rattle.std.specs.Prelude.{IsSomeAnd, map, filter, is_some}
use Rattle.fs_types.specs.declared.answer.Answer.{Answer}
use Rattle.fs_types.specs.declared.call.Call.{Call}
use Rattle.share_state.specs.declared.connection.Sent.{Sent}
use Rattle.share_state.specs.declared.request.Req.{Req}
use Rattle.share_state.specs.declared.request.Rep.{Rep}
use Rattle.share_state.specs.declared.share.Share.{Share}
use Rattle.share_state.specs.declared.request.Req.TheVariants as req
use Rattle.share_state.specs.Reply.{fid_of}
use Rattle.share_state.specs.PlainShare.{plain_step, shown}
use Rattle.smb_link.specs.declared.event.Event.{Event}
use Rattle.smb_link.specs.declared.event.Event.TheVariants as event
use Rattle.smb_link.specs.declared.mark.Mark.{Mark}
use Rattle.smb_link.specs.declared.mark.Mark.TheVariants as mark
use Rattle.smb_link.specs.Program.{Open as Opening, Query, Close, Program, Known, Ask, Look, Say, settled}
use Rattle.fs_plain.specs.Masked.{Untold, untold}
use Rattle.fs_plain.specs.Requests.{WireRequest, wire_request}
use Rattle.share_state.specs.Sent.{sent_with}
use Rattle.fs_plain.specs.World.{us, choice_now, done_of, refused_before, resolved, happens, share_after}
use Rattle.fs_plain.specs.Honest.{HonestFrom}
use Rattle.fs_plain.specs.Run.{Run}
use Rattle.fs_plain.specs.Owners.{Owner, owner_of}
use Rattle.fs_plain.specs.Differences.{Difference, first_of_two}
use Rattle.fs_plain.specs.Divergence.{is_passed_over, side_after_act, act_on_side, side_after_mark, side_done, deeds_left, side_after, judged_event, divergence_from, side_at}
use Rattle.fs_plain.specs.Paired.{open_given, reusable, pair_given}
use Rattle.fs_plain.specs.PlainSide.{PlainCall, PlainSide, is_deed, deeds_in, call_with, wish_done_on, with_given}
use Rattle.fs_plain.specs.PlainTaken.{pair_ended, still_stands, side_after_next, side_after_owned, side_after_unowned, side_after_request, side_after_asked, side_after_sent, is_at_end}
use Rattle.fs_plain.specs.PlainAnswered.{side_reopened, side_closed_early, with_kept, is_open, finished_on, is_passed_by, without_call, side_after_answer_of}
use Rattle.fs_client.specs.Item.{Item, item_with, items_but}
use Rattle.fs_client.specs.View.{Setting, Client}
use Rattle.fs_client.specs.After.{all_after, own}
use Rattle.fs_client.specs.May.{Allowed}
use Rattle.fs_client.specs.Owing.{taken}
use Rattle.fs_refine.specs.Related.{IsOfRun, Related}
use Rattle.fs_refine.specs.Ends.{BreaksOff, AreClosings}
use Rattle.fs_refine.proofs.CallLists.{stem, the_head, the_tail}
use Rattle.fs_refine.proofs.Changing.{well}
use Rattle.fs_refine.proofs.Taking.{same_taken}
use Rattle.fs_refine.proofs.Kept.{kept}
use Rattle.fs_refine.proofs.Ends.{closed_off}

-- the plain side counts how many events of the client are still to come that are no answers
finished_counts : (s : Share) (known : Known) (c : PlainCall) (q : Program) (p : PlainSide) → (finished_on s known c q p).1.to_do ≡ p.to_do
finished_counts s known c (Ask (Opening path access disposition options) rest) p =
    by (is_open c.call) (reusable path access s.opens p.kept)
    (λ real. finished_counts s known (record c { opened = with_given (open_given (wish_done_on p c (Opening path access disposition options)).0.body) c.opened })
    (rest (shown (wish_done_on p c (Opening path access disposition options)).0)) (side_reopened p path (wish_done_on p c (Opening path access disposition options)) real))
  where
    done : Rep × Share
    done = wish_done_on p c (Opening path access disposition options)

    by : (t : Bool) (o : Option ℕ)
        → ((real : ℕ) → (finished_on s known (record c { opened = with_given (open_given done.0.body) c.opened }) (rest (shown done.0)) (side_reopened p path done real)).1.to_do ≡ p.to_do)
        → (if t then with_kept o (None, p) (λ real. finished_on s known (record c { opened = with_given (open_given done.0.body) c.opened }) (rest (shown done.0)) (side_reopened p path done real)) else (None, p)).1.to_do
        ≡ p.to_do
    by true None on = refl
    by true (Some real) on = on real
    by false o on = refl
finished_counts s known c (Ask (Query file) rest) p = refl
finished_counts s known c (Ask (Close file) rest) p =
    finished_counts s known c (rest (shown (wish_done_on p c (Close file)).0)) (side_closed_early p c file (wish_done_on p c (Close file)))
finished_counts s known c (Look rest) p = finished_counts s known c (rest known) p
finished_counts s known c (Say a) p = refl

answer_counts : (run : Run) (s : Share) (p : PlainSide) (o : Option PlainCall) (a : Answer) → (side_after_answer_of run s p o a).to_do ≡ p.to_do
answer_counts run s p None a = refl
answer_counts run s p (Some c) a = by (is_passed_by run p c a)
  where
    by : (t : Bool) → (without_call c.number (if t then p else (finished_on s p.told.known c c.rest p).1)).to_do ≡ p.to_do
    by true = refl
    by false = finished_counts s p.told.known c c.rest p

mark_counts : (run : Run) (s : Share) (p : PlainSide) (m : Mark) → (side_after_mark run s p m).to_do ≡ p.to_do
mark_counts run s p (mark.Begin number lane call) = refl
mark_counts run s p (mark.For number first count) = refl
mark_counts run s p (mark.Answer number a) = answer_counts run s p (call_with number p.running) a
mark_counts run s p (mark.Now time) = refl
mark_counts run s p mark.End = refl

next_counts : (p : PlainSide) (c : PlainCall) (u : Untold) (q : Program) (real : Rep) → (side_after_next p c u q real).to_do ≡ p.to_do
next_counts p c u (Ask wish rest) real = refl
next_counts p c u (Look rest) real = refl
next_counts p c u (Say a) real = refl

owned_counts : (p : PlainSide) (o : Option PlainCall) (known : Known) (refused : Bool) (u : Untold) (real : Rep) → (side_after_owned p o known refused u real).to_do ≡ p.to_do
owned_counts p None known refused u real = refl
owned_counts p (Some c) known true u real = refl
owned_counts p (Some c) known false u real = next_counts p c u (settled known c.rest) real

unowned_counts : (p : PlainSide) (ended : Option ℕ) → (side_after_unowned p ended).to_do ≡ p.to_do
unowned_counts p None = refl
unowned_counts p (Some n) = by (is_at_end p)
  where
    by : (t : Bool) → (if t then record p { plain = (plain_step p.plain us (req.Close (fid_of n))).1 } else p).to_do ≡ p.to_do
    by true = refl
    by false = refl

request_counts : (s : Share) (p : PlainSide) (o : Option Owner) (refused : Bool) (u : Untold) (request : Req) (real : Rep) → (side_after_request s p o refused u request real).to_do ≡ p.to_do
request_counts s p None refused u request real = unowned_counts p (still_stands (pair_ended s p.pairs refused request) p.plain)
request_counts s p (Some o) refused u request real = owned_counts p (call_with o.number p.running) o.known refused u real

asked_counts : (s : Share) (p : PlainSide) (x : Sent) (w : Option WireRequest) → (side_after_asked s p x w).to_do ≡ p.to_do
asked_counts s p x None = refl
asked_counts s p x (Some WireRequest.Aside) = refl
asked_counts s p x (Some (WireRequest.Share related request)) =
    request_counts s p (owner_of x.mid p.told.owners) (is_some (refused_before related x.last_create request)) (untold x.message) (resolved related x.last_create request)
    (done_of (choice_now s.grants) s related x.last_create request).0

sent_counts : (s : Share) (p : PlainSide) (o : Option Sent) → (side_after_sent s p o).to_do ≡ p.to_do
sent_counts s p None = refl
sent_counts s p (Some x) = asked_counts s p x (wire_request x.message)

act_counts : (p : PlainSide) (who : ℕ) (r : Req) (reply : Rep) → (side_after_act p who r reply).to_do ≡ p.to_do
act_counts p who r reply = by (is_passed_over r)
  where
    by : (t : Bool) → (if t then p else record p { plain = (act_on_side p who r).1; pairs = pair_given [] (act_on_side p who r).0 reply ++ p.pairs }).to_do ≡ p.to_do
    by true = refl
    by false = refl

done_counts : (run : Run) (s : Share) (p : PlainSide) (e : Event) → (side_done run s p e).to_do ≡ p.to_do
done_counts run s p (event.Marked m) = mark_counts run s p m
done_counts run s p (event.Took mid) = sent_counts s p (sent_with mid s.sent)
done_counts run s p (event.Act who request reply) = act_counts p who request reply
done_counts run s p other = refl

-- each event that is one of them is counted off
less_one : (e : Event) (events : List Event) → deeds_left e (deeds_in (e ∷ events)) ≡ deeds_in events
less_one e events = by (is_deed e)
  where
    minus : (n : ℕ) → suc n - 1 ≡ n
    minus n = omega arith

    by : (t : Bool) → (if t then length (cond t (e ∷ filter is_deed events) (filter is_deed events)) - 1 else length (cond t (e ∷ filter is_deed events) (filter is_deed events))) ≡ deeds_in events
    by true = minus (deeds_in events)
    by false = refl

pub left_to_do : (run : Run) (events rest : List Event) (s : Share) (p : PlainSide) → p.to_do ≡ deeds_in (events ++ rest) → (side_at run s p events).to_do ≡ deeds_in rest
left_to_do run [] rest s p is = is
left_to_do run (e ∷ events) rest s p is =
    left_to_do run events rest (happens s e) (side_after run s p e)
    (ap (deeds_left e) (done_counts run s p e ∙ is) ∙ less_one e (events ++ rest))

-- two stretches that diverge nowhere
pub none_in_both : (run : Run) (events rest : List Event) (n : ℕ) (s : Share) (p : PlainSide) → divergence_from run n s p events ≡ None
    → ((m : ℕ) → divergence_from run m (share_after s events) (side_at run s p events) rest ≡ None) → divergence_from run n s p (events ++ rest) ≡ None
none_in_both run [] rest n s p none later = later n
none_in_both run (e ∷ events) rest n s p none later =
    by (judged_event run s p e) none (λ none'. none_in_both run events rest (n + 1) (happens s e) (side_after run s p e) none' later)
  where
    some_none : (d : ℕ × Difference) → Some d ≡ None → ⊥
    some_none d is = search rules

    by : (o : Option Difference) → first_of_two n o (divergence_from run (n + 1) (happens s e) (side_after run s p e) events) ≡ None
        → (divergence_from run (n + 1) (happens s e) (side_after run s p e) events ≡ None → divergence_from run (n + 1) (happens s e) (side_after run s p e) (events ++ rest) ≡ None)
        → first_of_two n o (divergence_from run (n + 1) (happens s e) (side_after run s p e) (events ++ rest)) ≡ None
    by None none deeper = deeper none
    by (Some d) none deeper = absurd (some_none (n, d) none)

-- the calls that run are the same before and after the looks
closing_there : (n : ℕ) (P : Type 0) (items items' : List Item) → map stem items' ≡ map stem items → IsSomeAnd (item_with n items) (λ (i : Item). P) → IsSomeAnd (item_with n items') (λ (i : Item). P)
closing_there n P [] items' same holds = absurd holds
closing_there n P (i ∷ is) [] same holds = absurd (no same)
  where
    no : [] ≡ stem i ∷ map stem is → ⊥
    no is = search rules
closing_there n P (i ∷ is) (j ∷ js) same holds =
    subst (λ (m : ℕ). IsSomeAnd (if m == n then Some j else item_with n js) (λ (k : Item). P)) (sym (ap (λ (t : (ℕ × ℕ) × (Call × (Bool × Option ℕ))). t.0.0) (ap (the_head (stem j)) same)))
    (by (i.number == n) holds (closing_there n P is js (ap the_tail same)))
  where
    by : (t : Bool) → IsSomeAnd (if t then Some i else item_with n is) (λ (k : Item). P) → (IsSomeAnd (item_with n is) (λ (k : Item). P) → IsSomeAnd (item_with n js) (λ (k : Item). P))
        → IsSomeAnd (if t then Some j else item_with n js) (λ (k : Item). P)
    by true holds deeper = holds
    by false holds deeper = deeper holds

stems_but : (n : ℕ) (items items' : List Item) → map stem items' ≡ map stem items → map stem (items_but n items') ≡ map stem (items_but n items)
stems_but n items items' same = without items' ∙ ap (filter (λ (t : (ℕ × ℕ) × (Call × (Bool × Option ℕ))). not (t.0.0 == n))) same ∙ sym (without items)
  where
    without : (is : List Item) → map stem (items_but n is) ≡ filter (λ (t : (ℕ × ℕ) × (Call × (Bool × Option ℕ))). not (t.0.0 == n)) (map stem is)
    without [] = refl
    without (i ∷ is) = by (not (i.number == n)) (without is)
      where
        by : (t : Bool) → map stem (items_but n is) ≡ filter (λ (t : (ℕ × ℕ) × (Call × (Bool × Option ℕ))). not (t.0.0 == n)) (map stem is)
            → map stem (cond t (i ∷ items_but n is) (items_but n is))
            ≡ cond t (stem i ∷ filter (λ (t : (ℕ × ℕ) × (Call × (Bool × Option ℕ))). not (t.0.0 == n)) (map stem is)) (filter (λ (t : (ℕ × ℕ) × (Call × (Bool × Option ℕ))). not (t.0.0 == n)) (map stem is))
        by true deeper = ap (λ (l : List ((ℕ × ℕ) × (Call × (Bool × Option ℕ)))). stem i ∷ l) deeper
        by false deeper = deeper

closings_same : (run : Run) (events : List Event) (items items' : List Item) → map stem items' ≡ map stem items → AreClosings run items events → AreClosings run items' events
closings_same run [] items items' same are = record {}
closings_same run (event.Marked (mark.Answer number a) ∷ events) items items' same are = (
  closing_there number (BreaksOff run a) items items' same are.0,
  closings_same run events (items_but number items) (items_but number items') (stems_but number items items' same) are.1,
)
closings_same run (other ∷ events) items items' same are = absurd are

closings_are_answers : (run : Run) (events : List Event) (items : List Item) → AreClosings run items events → deeds_in events ≡ 0
closings_are_answers run [] items are = refl
closings_are_answers run (event.Marked (mark.Answer number a) ∷ events) items are = closings_are_answers run events (items_but number items) are.1
closings_are_answers run (other ∷ events) items are = absurd are

-- a story of a client that does what it may, and the answers with which a run that was broken off closes its calls
pub broken_off : (run : Run) (st : Setting) (events closing : List Event) (n : ℕ) (s : Share) (p : PlainSide) (c : Client) → IsOfRun run st → Related s p c.view → p.to_do ≡ deeds_in (events ++ closing)
    → HonestFrom s events → Allowed st c (own events) → AreClosings run (all_after st c (own events)).view.items closing → divergence_from run n s p (events ++ closing) ≡ None
broken_off run st events closing n s p c of old counted honest allowed closings =
    let k = kept run st events n s p c of old honest allowed in
    let s' : Share = share_after s events in
    let q : PlainSide = side_at run s p events in
    let v = (all_after st c (own events)).view in
    none_in_both run events closing n s p k.none
    (λ m. closed_off run closing m s' q q.pairs s'.opens_made (taken s'.owed v).items k.related.running
    (left_to_do run events closing s p counted ∙ closings_are_answers run closing v.items closings)
    (closings_same run closing v.items (taken s'.owed v).items (same_taken s'.owed v (well s' q v k.related) k.related.due).stems closings))
