-- What a box does goes on in step with its story.
use Rattle.std.proofs.Common.{◌≡◌, ◌∙◌, ℕ, ◌==◌, ◌&&◌, Bool, true, false, not, if◌then◌else◌, List, [], ◌∷◌, ◌++◌, take, refl, sym, ap, subst, inl, inr, Option, Some, None, Result, Ok, Err, OnOk, OnErr}
use Rattle.std.specs.Prelude.{◌⊎◌}
use Rattle.smb_head.proofs.FrameLaws.{first_of-nil}
use Rattle.smb_base.specs.declared.names.Mid.{Mid}
use Rattle.share_state.specs.declared.connection.Sent.{Sent}
use Rattle.share_state.specs.declared.request.Req.{Req}
use Rattle.share_state.specs.declared.share.Share.{Share}
use Rattle.share_state.specs.Sent.{sent_but, sent_with}
use Rattle.share_state.specs.Built.{is_built}
use Rattle.share_state.specs.Step.{step_of}
use Rattle.smb_link.specs.declared.event.Event.{Event}
use Rattle.smb_link.specs.declared.event.Event.TheVariants as event
use Rattle.smb_link.specs.declared.mark.Mark.{Mark}
use Rattle.fs_plain.specs.World.{happens, share_after}
use Rattle.fs_plain.specs.Honest.{MayHappen, HonestFrom, IsHonest, at_start}
use Rattle.share_box.specs.declared.schedule.Turn.{Turn}
use Rattle.share_box.specs.declared.state.State.{State}
use Rattle.share_box.specs.Serving.{plan_of, is_free}
use Rattle.share_box.specs.Paid.{PaysAs, PaysInterim}
use Rattle.share_box.specs.declared.serving.Plan.{Plan}
use Rattle.share_box.specs.Order.{is_next}
use Rattle.share_box.specs.Answers.{interim_of}
use Rattle.share_box.specs.Turns.{may_act, answered_as, served_as, interim_to, delayed_by, act_events, share_after_act}
use Rattle.share_box.specs.Calls.{fresh_box, ended, accepted, left, joined, refused, passed, given, waited, marked}
use Rattle.share_box.specs.Truth.{Mirrors, IsAlwaysHonest, TellsOf, IsTruthful, IsInStep, IsFaithful, IsUntold, GoesInStep, StopsTruthful, Keeps, TookOrNot}
use Rattle.share_box.proofs.Choices.{always_honest}
use Rattle.share_box.proofs.Mirrors.{sent_mirrors, lost_mirrors, cut_mirrors, join_mirrors, got_mirrors, act_mirrors, IsTaken, took_mirrors, may_take, pend_mirrors}
use Rattle.share_box.proofs.Ordering.{found_own}

-- a story goes on
after_both : (s : Share) (xs ys : List Event) → share_after s (xs ++ ys) ≡ share_after (share_after s xs) ys
after_both s [] ys = refl
after_both s (x ∷ xs) ys = after_both (happens s x) xs ys

honest_both : (s : Share) (xs ys : List Event) → HonestFrom s xs → HonestFrom (share_after s xs) ys → HonestFrom s (xs ++ ys)
honest_both s [] ys honest more = more
honest_both s (x ∷ xs) ys honest more = (honest.0, honest_both (happens s x) xs ys honest.1 more)

more_honest : (room : ℕ) (fold : Bool) (story more : List Event) (own : Share) (waits : List ℕ) → TellsOf room fold story own waits
    → ((told : Share) → Mirrors told own waits → HonestFrom told more) → IsAlwaysHonest room fold (story ++ more)
more_honest room fold story more own waits tells on choices bare =
    let so_far : HonestFrom (at_start room fold choices) story × Mirrors (share_after (at_start room fold choices) story) own waits = tells choices bare in
    honest_both (at_start room fold choices) story more so_far.0 (on (share_after (at_start room fold choices) story) so_far.1)

more_told : (room : ℕ) (fold : Bool) (story more : List Event) (own own' : Share) (waits waits' : List ℕ) → TellsOf room fold story own waits
    → ((told : Share) → Mirrors told own waits → HonestFrom told more × Mirrors (share_after told more) own' waits')
    → TellsOf room fold (story ++ more) own' waits'
more_told room fold story more own own' waits waits' tells on choices bare =
    let so_far : HonestFrom (at_start room fold choices) story × Mirrors (share_after (at_start room fold choices) story) own waits = tells choices bare in
    let next : HonestFrom (share_after (at_start room fold choices) story) more × Mirrors (share_after (share_after (at_start room fold choices) story) more) own' waits' =
    on (share_after (at_start room fold choices) story) so_far.1 in (
      honest_both (at_start room fold choices) story more so_far.0 next.0,
      subst (λ (t : Share). Mirrors t own' waits') (sym (after_both (at_start room fold choices) story more)) next.1,
    )

-- by one event
one_told : (room : ℕ) (fold : Bool) (story : List Event) (e : Event) (own own' : Share) (waits waits' : List ℕ) → TellsOf room fold story own waits
    → ((told : Share) → Mirrors told own waits → MayHappen told e × Mirrors (happens told e) own' waits')
    → TellsOf room fold (story ++ e ∷ []) own' waits'
one_told room fold story e own own' waits waits' tells on =
    more_told room fold story (e ∷ []) own own' waits waits' tells (λ told old.
    let next : MayHappen told e × Mirrors (happens told e) own' waits' = on told old in ((next.0, tt), next.1))

goes_told : (b new : State) (e : Event) → new.room ≡ b.room → new.fold ≡ b.fold → new.story ≡ b.story ++ e ∷ []
    → ((told : Share) → Mirrors told b.share b.waiting → MayHappen told e × Mirrors (happens told e) new.share new.waiting) → GoesInStep b new
goes_told b new e room fold story on = record {
  room = room;
  fold = fold;
  keeps = λ step. record { tells = rw (room, fold, story) (one_told b.room b.fold b.story e b.share new.share b.waiting new.waiting step.tells on) };
}

-- a fresh box
pub fresh_in_step : (room : ℕ) (fold : Bool) (credits : ℕ) (turns : List Turn) → IsInStep (fresh_box room fold credits turns)
fresh_in_step room fold credits turns = record {
  tells = λ choices bare. (
    tt,
    record {
      tree = refl;
      leases = refl;
      own_leases = refl;
      connected = refl;
      sent = refl;
      requests = tt;
      begun = first_of-nil;
      paid = refl;
      choices = bare;
    },
  );
}

-- nothing is told
pub same_goes : (b new : State) → new.room ≡ b.room → new.fold ≡ b.fold → new.story ≡ b.story → new.share ≡ b.share → new.waiting ≡ b.waiting → GoesInStep b new
same_goes b new room fold story share waiting = record {
  room = room;
  fold = fold;
  keeps = λ step. record { tells = rw (room, fold, story, share, waiting) step.tells };
}

step_truthful : (b : State) → IsInStep b → IsTruthful b
step_truthful b step = record { honest = λ choices bare. (step.tells choices bare).0 }

pub untold_stops : (b new : State) → IsUntold b new → StopsTruthful b new
untold_stops b new untold = record {
  room = untold.room;
  fold = untold.fold;
  keeps = λ step. record { honest = rw (untold.room, untold.fold, untold.story) (step_truthful b step).honest };
}

-- one thing after another
pub goes_after : (a b c : State) → GoesInStep a b → GoesInStep b c → GoesInStep a c
goes_after a b c first later = record { room = later.room ∙ first.room; fold = later.fold ∙ first.fold; keeps = λ step. later.keeps (first.keeps step) }

pub stops_after : (a b c : State) → GoesInStep a b → StopsTruthful b c → StopsTruthful a c
stops_after a b c first later = record { room = later.room ∙ first.room; fold = later.fold ∙ first.fold; keeps = λ step. later.keeps (first.keeps step) }

pub keeps_after : {A E : Type 0} (result : Result A E) (a b c : State) → GoesInStep a b → Keeps result b c → Keeps result a c
keeps_after (Ok x) a b c first later = goes_after a b c first later
keeps_after (Err e) a b c first later = stops_after a b c first later

-- each thing that a box does
pub ended_goes : (b : State) → GoesInStep b (ended [] b)
ended_goes b = goes_told b (ended [] b) event.Cut refl refl refl (λ told old. (tt, cut_mirrors told b.share b.waiting old))

pub lost_goes : (b : State) (frame : List ℕ) → b.share.connected ≡ false → GoesInStep b (ended (event.Sent frame ∷ []) b)
lost_goes b frame none = record {
  room = refl;
  fold = refl;
  keeps = λ step. record {
    tells = more_told b.room b.fold b.story (event.Sent frame ∷ event.Cut ∷ []) b.share (ended (event.Sent frame ∷ []) b).share b.waiting [] step.tells
        (λ told old. ((tt, (tt, tt)), cut_mirrors _ b.share b.waiting (lost_mirrors told b.share b.waiting frame none old)));
  };
}

pub accepted_goes : (b : State) (frame : List ℕ) → b.share.connected ≡ true → GoesInStep b (accepted frame b)
accepted_goes b frame stands =
    goes_told b (accepted frame b) (event.Sent frame) refl refl refl (λ told old. (tt, sent_mirrors told b.share b.waiting frame stands old))

pub joined_goes : (b : State) → GoesInStep b (joined b)
joined_goes b = goes_told b (joined b) event.Joined refl refl refl (λ told old. (tt, join_mirrors told b.share b.waiting old))

pub refused_goes : (b : State) → GoesInStep b (refused b)
refused_goes b = goes_told b (refused b) event.NotJoined refl refl refl (λ told old. (tt, old))

pub waited_goes : (b : State) → GoesInStep b (waited b)
waited_goes b = goes_told b (waited b) event.Quiet refl refl refl (λ told old. (tt, old))

pub marked_goes : (b : State) (mark : Mark) → GoesInStep b (marked mark b)
marked_goes b mark = goes_told b (marked mark b) (event.Marked mark) refl refl refl (λ told old. (tt, old))

pub given_goes : (b : State) (n : ℕ) → GoesInStep b (given n b)
given_goes b n = goes_told b (given n b) (event.Got (take n b.waiting)) refl refl refl (λ told old. got_mirrors told b.share b.waiting n old)

pub passed_goes : (b : State) → GoesInStep b (passed b)
passed_goes b = same_goes b (passed b) refl refl refl refl refl

left_by : (b : State) (t : Bool) → GoesInStep b (if t then ended [] b else b)
left_by b true = ended_goes b
left_by b false = same_goes b b refl refl refl refl refl

pub left_goes : (b : State) → GoesInStep b (left b)
left_goes b = left_by b b.share.connected

-- another client makes a request
may_both : (a b c : Bool) → (not a && b && c) ≡ true → (a ≡ false) × (b ≡ true)
may_both true b c is = absurd (cc is)
may_both false true c is = (refl, refl)
may_both false false c is = absurd (cc is)

pub act_goes : (b new : State) (who : ℕ) (r : Req) → may_act b.share who r ≡ true → new.room ≡ b.room → new.fold ≡ b.fold
    → new.story ≡ b.story ++ act_events b.share who r → new.share ≡ share_after_act b.share who r → new.waiting ≡ b.waiting → GoesInStep b new
act_goes b new who r may room fold story share waiting =
    let is : ((who == 0) ≡ false) × (is_built r ≡ true) = may_both (who == 0) (is_built r) (is_free b.share (record { 0 = who }) r) may in
    goes_told b new (event.Act who r (step_of None b.share (record { 0 = who }) r).0) room fold story
    (λ told old. rw (share, waiting) (act_mirrors told b.share b.waiting who r is.0 is.1 old))

-- a request that waits is served
served_goes : (b : State) (one : Sent) → IsTaken one b.share.sent
    → PaysAs (plan_of one) one (record b { share = record b.share { sent = sent_but one.mid b.share.sent } })
    → (plan : Option Plan) → plan_of one ≡ plan → GoesInStep b (served_as plan one (record b { share = record b.share { sent = sent_but one.mid b.share.sent } }))
served_goes b one is pays None planned =
    goes_told b _ (event.Took one.mid) refl refl refl (λ told old. (
      may_take told b.share b.waiting one old is,
      subst (λ (p : Option Plan). Mirrors (happens told (event.Took one.mid)) (answered_as p one (record b { share = record b.share { sent = sent_but one.mid b.share.sent } })).share
          (answered_as p one (record b { share = record b.share { sent = sent_but one.mid b.share.sent } })).waiting) planned
          (took_mirrors told b.share b one old is pays),
    ))
served_goes b one is pays (Some plan) planned =
    goes_told b _ (event.Took one.mid) refl refl refl (λ told old. (
      may_take told b.share b.waiting one old is,
      subst (λ (p : Option Plan). Mirrors (happens told (event.Took one.mid)) (answered_as p one (record b { share = record b.share { sent = sent_but one.mid b.share.sent } })).share
          (answered_as p one (record b { share = record b.share { sent = sent_but one.mid b.share.sent } })).waiting) planned
          (took_mirrors told b.share b one old is pays),
    ))

-- a request that waits is put off, unless it was before
delayed_goes : (b : State) (mid : Mid) (found : Option Sent) → sent_with mid b.share.sent ≡ found → PaysInterim found → GoesInStep b (delayed_by (interim_to found) mid b)
delayed_goes b mid None is pays = same_goes b b refl refl refl refl refl
delayed_goes b mid (Some one) is pays = by one.pended refl
  where
    by : (t : Bool) → one.pended ≡ t → GoesInStep b (delayed_by (if t then None else Some (interim_of one.message)) mid b)
    by true before = same_goes b b refl refl refl refl refl
    by false fresh =
        goes_told b _ (event.Pend mid) refl refl refl (λ told old. pend_mirrors told b.share b.waiting mid one (interim_of one.message) is fresh (pays fresh) old)

-- memory ran out before a request was taken, or after it was
took_stops : (old new : State) (share : Share) (one : Sent) → IsTaken one old.share.sent
    → TookOrNot one.mid (record old { share = share }) new → StopsTruthful old new
took_stops old new share one is took = by took.story
  where
    by : (new.story ≡ old.story) ⊎ (new.story ≡ old.story ++ event.Took one.mid ∷ []) → StopsTruthful old new
    by (inl none) = untold_stops old new (record { room = took.room; fold = took.fold; story = none })
    by (inr told) = record {
      room = took.room;
      fold = took.fold;
      keeps = λ step. record {
        honest = rw (took.room, took.fold, told) (more_honest old.room old.fold old.story (event.Took one.mid ∷ []) old.share old.waiting step.tells
            (λ w mirrors. (may_take w old.share old.waiting one mirrors is, tt)));
      };
    }

-- what a call comes to
pub keeps_untold : {A E : Type 0} (result : Result A E) (old new : State) → OnOk result (GoesInStep old new) → OnErr result (IsUntold old new) → Keeps result old new
keeps_untold (Ok x) old new ok err = ok
keeps_untold (Err e) old new ok err = untold_stops old new err

pub keeps_by : {A E : Type 0} (result : Result A E) (old new : State) → OnOk result (GoesInStep old new) → OnErr result (StopsTruthful old new) → Keeps result old new
keeps_by (Ok x) old new ok err = ok
keeps_by (Err e) old new ok err = err

pub ended_keeps : {A E : Type 0} (result : Result A E) (old new : State) → OnOk result (new ≡ ended [] old) → OnErr result (IsUntold old new) → Keeps result old new
ended_keeps (Ok x) old new ok err = rw ok (ended_goes old)
ended_keeps (Err e) old new ok err = untold_stops old new err

-- a request that was found by its id, and is the first of its frame
is_taken : (mid : Mid) (sent : List Sent) (one : Sent) → sent_with mid sent ≡ Some one → is_next (sent_with mid sent) sent ≡ true → IsTaken one sent
is_taken mid sent one found next = record {
  found = ap (λ (m : Mid). sent_with m sent) (found_own mid sent one found) ∙ found;
  first = ap (λ (o : Option Sent). is_next o sent) (sym found) ∙ next;
}

pub serve_keeps : {A E : Type 0} (result : Result A E) (old new : State) (mid : Mid) (one : Sent) (rest : List Sent) → sent_with mid old.share.sent ≡ Some one
    → is_next (sent_with mid old.share.sent) old.share.sent ≡ true → rest ≡ sent_but mid old.share.sent
    → OnOk result (new ≡ served_as (plan_of one) one (record old { share = record old.share { sent = rest } }))
    → OnOk result (PaysAs (plan_of one) one (record old { share = record old.share { sent = rest } }))
    → OnErr result (TookOrNot one.mid (record old { share = record old.share { sent = rest } }) new) → Keeps result old new
serve_keeps (Ok x) old new mid one rest found next left ok pays err =
    let own : rest ≡ sent_but one.mid old.share.sent = left ∙ ap (λ (m : Mid). sent_but m old.share.sent) (sym (found_own mid old.share.sent one found)) in
    rw (ok, own) (served_goes old one (is_taken mid old.share.sent one found next) (rw own at pays) (plan_of one) refl)
serve_keeps (Err e) old new mid one rest found next left ok pays err =
    took_stops old new (record old.share { sent = rest }) one (is_taken mid old.share.sent one found next) err

pub delay_keeps : {A E : Type 0} (result : Result A E) (old new : State) (mid : Mid) (frame : List ℕ) → interim_to (sent_with mid old.share.sent) ≡ Some frame
    → PaysInterim (sent_with mid old.share.sent) → OnOk result (new ≡ delayed_by (Some frame) mid old) → OnErr result (new ≡ record old { waiting = new.waiting })
    → Keeps result old new
delay_keeps (Ok x) old new mid frame is pays ok err =
    rw ok (subst (λ (reply : Option (List ℕ)). GoesInStep old (delayed_by reply mid old)) is (delayed_goes old mid (sent_with mid old.share.sent) refl pays))
delay_keeps (Err e) old new mid frame is pays ok err = untold_stops old new (record {
  room = ap (λ (b : State). b.room) err;
  fold = ap (λ (b : State). b.fold) err;
  story = ap (λ (b : State). b.story) err;
})

pub act_keeps : {A E : Type 0} (result : Result A E) (b : State) (share : Share) (story : List Event) (who : ℕ) (r : Req) → may_act b.share who r ≡ true
    → OnOk result ((share ≡ share_after_act b.share who r) × (story ≡ b.story ++ act_events b.share who r)) → OnErr result (story ≡ b.story)
    → Keeps result b (record b { share = share; story = story })
act_keeps (Ok x) b share story who r may ok err = act_goes b (record b { share = share; story = story }) who r may refl refl ok.1 ok.0 refl
act_keeps (Err e) b share story who r may ok err = untold_stops b (record b { share = share; story = story }) (record { room = refl; fold = refl; story = err })

-- a box at its start, and its story
pub fresh_faithful : (room : ℕ) (fold : Bool) (credits : ℕ) (turns : List Turn) → IsFaithful (fresh_box room fold credits turns)
fresh_faithful room fold credits turns = record {
  truthful = step_truthful (fresh_box room fold credits turns) (fresh_in_step room fold credits turns);
  in_step = λ lives. fresh_in_step room fold credits turns;
}

pub marked_faithful : (b new : State) (mark : Mark) → new ≡ marked mark b → b.dead ≡ false → IsFaithful b → IsFaithful new
marked_faithful b new mark is lives faithful =
    let step : IsInStep (marked mark b) = (marked_goes b mark).keeps (faithful.in_step lives) in
    rw is (record { truthful = step_truthful (marked mark b) step; in_step = λ still. step })

pub faithful_honest : (b : State) → IsFaithful b → IsHonest b.room b.fold b.story
faithful_honest b faithful = always_honest b.room b.fold b.story faithful.truthful.honest
