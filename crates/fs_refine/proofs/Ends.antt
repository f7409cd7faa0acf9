-- How a run ends: the share is left clean, the answers of a broken-off run are passed over, and no frame was sent in vain.
use Rattle.std.proofs.Common.{rules, ◌≡◌, ◌∙◌, refl, sym, ap, subst, ℕ, ◌+◌, ◌==◌, Bool, true, false, if◌then◌else◌, not, List, [], ◌∷◌, Option, Some, None, inl, inr}
use Rattle.std.specs.Prelude.{IsSomeAnd, map, ◌&&◌, ◌||◌}
use Rattle.std.specs.List.{AllByRecursion, list_all}
use Rattle.std.proofs.lemmas.Bool.{false≢true}
use Rattle.fs_types.specs.declared.answer.Answer.{Answer}
use Rattle.share_state.specs.declared.opens.Open.{Open}
use Rattle.share_state.specs.declared.share.Share.{Share}
use Rattle.smb_link.specs.declared.event.Event.{Event}
use Rattle.smb_link.specs.declared.event.Event.TheVariants as event
use Rattle.smb_link.specs.declared.mark.Mark.TheVariants as mark
use Rattle.smb_link.specs.Program.{of_errno}
use Rattle.fs_plain.specs.Run.{Run, ended_by}
use Rattle.fs_plain.specs.Differences.{Difference, first_of_two}
use Rattle.fs_plain.specs.PlainAnswered.{is_number, compared, finished_on, is_passed_by, judged_answer_of, without_call, side_after_answer_of}
use Rattle.fs_plain.specs.Holders.{HeldByCall, HeldByFile, IsHeld}
use Rattle.fs_plain.specs.Paired.{Pair}
use Rattle.fs_plain.specs.PlainSide.{PlainCall, PlainSide, call_with, plain_side}
use Rattle.fs_plain.specs.Divergence.{side_after, divergence_from, side_at}
use Rattle.fs_plain.proofs.AlikeLaws.{alike_clear, alike_closed}
use Rattle.fs_client.specs.Item.{Item, item_with, items_but}
use Rattle.fs_client.specs.View.{Setting, View, Client, no_client}
use Rattle.fs_client.specs.After.{after, all_after, own}
use Rattle.fs_client.specs.May.{MayAnnounceFor, May, Allowed}
use Rattle.fs_client.specs.Owing.{taken}
use Rattle.fs_client.proofs.Lists.{some_more}
use Rattle.fs_refine.specs.Calls.{AreCalls, all_described}
use Rattle.fs_refine.specs.Related.{Related, IsOfRun}
use Rattle.fs_refine.specs.Ends.{IsLeft, BreaksOff, AreClosings, IsThrifty, AreThrifty}
use Rattle.fs_refine.proofs.CallLists.{stem, call_found, calls_without, none_runs}
use Rattle.fs_refine.proofs.Changing.{well}
use Rattle.fs_refine.proofs.Taking.{same_taken}
use Rattle.share_state.specs.State.{Making}
use Rattle.fs_plain.specs.Honest.{start, IsHonest}
use Rattle.fs_plain.specs.World.{share_after}
use Rattle.fs_refine.proofs.Kept.{kept, related_first}

-- where no call runs no open of this client stands
none_held : (opens : List Open) (p : PlainSide) → p.running ≡ [] → p.described ≡ [] → AllByRecursion (IsHeld p) opens → list_all (λ (o : Open). not (o.who.0 == 0)) opens ≡ true
none_held [] p none no_file all = refl
none_held (o ∷ os) p none no_file all =
    ap (λ (b : Bool). not b && list_all (λ (q : Open). not (q.who.0 == 0)) os) (other all.0) ∙ none_held os p none no_file all.1
  where
    other : IsHeld p o → (o.who.0 == 0) ≡ false
    other (inl is) = is
    other (inr (inl call)) = absurd (subst (HeldByCall o) none call)
    other (inr (inr file)) = absurd (false≢true (subst (HeldByFile o) no_file file))

none_stems : (items items' : List Item) → items ≡ [] → map stem items' ≡ map stem items → items' ≡ []
none_stems items [] none same = refl
none_stems items (j ∷ js) none same = absurd (no (same ∙ ap (map stem) none))
  where
    no : stem j ∷ map stem js ≡ [] → ⊥
    no is = search rules

-- a client that left with nothing running leaves the share clean
pub left_clean : (s : Share) (p : PlainSide) (v : View) → Related s p v → v.items ≡ [] → IsLeft s p
left_clean s p v old none =
    let tv : View = taken s.owed v in
    let items : tv.items ≡ [] = none_stems v.items tv.items none (same_taken s.owed v (well s p v old) old.due).stems in
    let running : p.running ≡ [] = none_runs p.pairs s.opens_made tv.items p.running old.running items in
    let files : p.described ≡ [] = old.described ∙ ap (all_described p.pairs) old.sane.no_place in
    record {
      nodes = (alike_clear s p old.alike).0;
      entries = (alike_clear s p old.alike).1;
      opens = alike_closed s p old.alike (none_held p.plain.opens p running files old.holders.opens);
    }

-- so a story of such a client, at whose end no call runs, leaves the share as the plain side has it
pub ends_clean : (run : Run) (st : Setting) (made : Making) (story : List Event) → IsOfRun run st → IsHonest made.room made.fold story → Allowed st no_client (own story)
    → (all_after st no_client (own story)).view.items ≡ [] → IsLeft (share_after (start made.room made.fold story) story) (side_at run (start made.room made.fold story) (plain_side made story) story)
ends_clean run st made story of honest allowed none =
    let s : Share = start made.room made.fold story in
    left_clean (share_after s story) (side_at run s (plain_side made story) story) (all_after st no_client (own story)).view
    (kept run st story 1 s (plain_side made story) no_client of (related_first made story) honest allowed).related none

-- an answer of a broken-off run is passed over
number_itself : (n : ℕ) → (n == n) ≡ true
number_itself n = search rules

passed_over : (run : Run) (p : PlainSide) (c : PlainCall) (a : Answer) → p.to_do ≡ 0 → BreaksOff run a → is_passed_by run p c a ≡ true
passed_over run p c a done (inl ended) =
    rw done (rw ended.1 (rw ended.0 (or_true (not c.announced && is_number 12 (of_errno 71)))))
  where
    or_true : (t : Bool) → (t || true) ≡ true
    or_true true = refl
    or_true false = refl
passed_over run p c a done (inr ended) =
    rw done (rw ended.1 (rw ended.0 (both (not c.announced && is_number 12 (of_errno 112)) (ended_by 5 run.status && is_number 71 (of_errno 112)))))
  where
    both : (t u : Bool) → (t || (u || true)) ≡ true
    both true u = refl
    both false true = refl
    both false false = refl

-- the answers of calls that a broken-off run closes diverge nowhere, where nothing of the client but answers is to come
pub closed_off : (run : Run) (events : List Event) (n : ℕ) (s : Share) (p : PlainSide) (pairs : List Pair) (made : ℕ) (items : List Item) → AreCalls pairs made items p.running → p.to_do ≡ 0
    → AreClosings run items events → divergence_from run n s p events ≡ None
closed_off run [] n s p pairs made items are done closing = refl
closed_off run (event.Marked (mark.Answer number a) ∷ events) n s p pairs made items are done closing =
    by (item_with number items) refl closing.0 (λ q are' done'. closed_off run events (n + 1) s q pairs made (items_but number items) are' done' closing.1)
  where
    e : Event
    e = event.Marked (mark.Answer number a)

    by : (o : Option Item) → item_with number items ≡ o → IsSomeAnd o (λ (i : Item). BreaksOff run a)
        → ((q : PlainSide) → AreCalls pairs made (items_but number items) q.running → q.to_do ≡ 0 → divergence_from run (n + 1) s q events ≡ None)
        → divergence_from run n s p (event.Marked (mark.Answer number a) ∷ events) ≡ None
    by None is breaks deeper = absurd breaks
    by (Some i) is breaks deeper =
        let f = call_found pairs made number i items p.running are is in
        let passed : is_passed_by run p f.c a ≡ true = passed_over run p f.c a done breaks in
        let judged : judged_answer_of run s p (call_with number p.running) a ≡ None =
        ap (λ (o : Option PlainCall). judged_answer_of run s p o a) f.there
        ∙ ap (λ (b : Bool). if b then None else compared (finished_on s p.told.known f.c f.c.rest p).0 a) passed in
        let goes : side_after_answer_of run s p (call_with number p.running) a ≡ without_call number p =
        ap (λ (o : Option PlainCall). side_after_answer_of run s p o a) f.there
        ∙ ap (λ (b : Bool). without_call f.c.number (if b then p else (finished_on s p.told.known f.c f.c.rest p).1)) passed
        ∙ ap (λ (m : ℕ). without_call m p) f.number in
        ap (λ (d : Option Difference). first_of_two n d (divergence_from run (n + 1) s (side_after run s p e) events)) judged
        ∙ deeper (side_after run s p e)
        (subst (λ (q : PlainSide). AreCalls pairs made (items_but number items) q.running) (sym goes) (calls_without pairs made number items p.running are))
        (ap (λ (q : PlainSide). q.to_do) goes ∙ done)
closed_off run (event.Marked (mark.Begin number lane call) ∷ events) n s p pairs made items are done closing = absurd closing
closed_off run (event.Marked (mark.For number first count) ∷ events) n s p pairs made items are done closing = absurd closing
closed_off run (event.Marked (mark.Now time) ∷ events) n s p pairs made items are done closing = absurd closing
closed_off run (event.Marked mark.End ∷ events) n s p pairs made items are done closing = absurd closing
closed_off run (event.Sent frame ∷ events) n s p pairs made items are done closing = absurd closing
closed_off run (event.Got bytes ∷ events) n s p pairs made items are done closing = absurd closing
closed_off run (event.Quiet ∷ events) n s p pairs made items are done closing = absurd closing
closed_off run (event.Joined ∷ events) n s p pairs made items are done closing = absurd closing
closed_off run (event.NotJoined ∷ events) n s p pairs made items are done closing = absurd closing
closed_off run (event.Cut ∷ events) n s p pairs made items are done closing = absurd closing
closed_off run (event.Took mid ∷ events) n s p pairs made items are done closing = absurd closing
closed_off run (event.Pend mid ∷ events) n s p pairs made items are done closing = absurd closing
closed_off run (event.Act who request reply ∷ events) n s p pairs made items are done closing = absurd closing
closed_off run (event.Break key state ∷ events) n s p pairs made items are done closing = absurd closing
closed_off run (event.Dropped key ∷ events) n s p pairs made items are done closing = absurd closing

-- a client that does what it may sends no frame that it can do without
pub thrifty : (st : Setting) (events : List Event) (c : Client) → Allowed st c events → AreThrifty st c events
thrifty st [] c allowed = record {}
thrifty st (e ∷ events) c allowed = (one e allowed.0, thrifty st events (after st c e) allowed.1)
  where
    one : (e : Event) → May st c e → IsThrifty st c e
    one (event.Marked (mark.For number first count)) may = some_more (MayAnnounceFor st c first count) _ (item_with number c.view.items) (λ i for. for.chained) may
    one other may = record {}
