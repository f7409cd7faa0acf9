-- Carrying out outputs, one after another.
use Rattle.std.proofs.Common.{◌≡◌, ℕ, Bool, true, false, ◌||◌, List, [], ◌∷◌, ◌++◌, Option, Some, None, Result, Ok, Err, refl, ap, sym, ◌∙◌, subst, append_assoc, append-nil, rules}
use Rattle.std.specs.Prelude.{IfErr, OnOk}
use Rattle.std.proofs.lemmas.List.Folds.{list_any-append}
use Rattle.smb_base.specs.declared.names.NoMemory.{NoMemory}
use Rattle.smb_link.specs.Came.{Seen, Came}
use Rattle.smb_link.specs.Story.{story_with, send_events, mark_events}
use Rattle.smb_link.specs.declared.event.Event.{Event}
use Rattle.smb_link.specs.declared.event.Event.TheVariants as event
use Rattle.smb_link.specs.declared.mark.Mark.{Mark}
use Rattle.smb_link.specs.declared.mark.Mark.TheVariants as mark
use Rattle.smb_link.specs.declared.faults.LinkFail.{LinkFail}
use Rattle.smb_link.specs.declared.faults.LinkFail.TheVariants as fail
use Rattle.smb_link.proofs.CameLaws.{came_none, came_then}
use Rattle.fs_types.specs.declared.answer.Answer.{Answer}
use Rattle.fs_ahead.specs.declared.asked.Over.{Over}
use Rattle.fs_ahead.specs.declared.asked.Over.TheVariants as over
use Rattle.fs_core.specs.declared.output.Output.{Output}
use Rattle.fs_core.specs.declared.output.Output.TheVariants as output
use Rattle.fs_core.specs.Kept.{CoreValue}
use Rattle.fs_core.specs.Event.{events_by, events_of, is_leave, has_left}
use Rattle.fs_top.specs.declared.run_end.End.{End}
use Rattle.fs_top.specs.declared.run_end.End.TheVariants as end
use Rattle.fs_script.specs.Answers.{line_of}
use Rattle.fs_top.specs.Printing.{Held, TookAll}
use Rattle.fs_top.specs.Turns.{calls_marked, running_by, running_after, line_by, lines_by, ends_in_send}
use Rattle.fs_top.specs.Ends.{PrintedSo}
use Rattle.fs_top.specs.Causes.{end_by, end_of_send, end_of_mark}
use Rattle.fs_top.specs.Given.{is_through}
use Rattle.fs_top.specs.Steps.{events_carried, events_told, line_carried, IsCarryEnd, RunsOn, CarriedTo, Carried, AllElse, EndsOver}
use Rattle.fs_top.specs.declared.engine.Engine.{Engine}
use Rattle.fs_top.proofs.Printing.{took_nothing, took_then, printed_then}

pub on_ok : {P : Type 0} (result : Result (Unit {0}) End) → P → OnOk result P
on_ok (Ok done) p = p
on_ok (Err e) p = tt

-- a frame is sent, or not
sent : (frame : List ℕ) (r : Result (Unit {0}) LinkFail) (old new : Seen) → Came (send_events frame r) old new → Came (events_carried (output.Send frame) (end_of_send r)) old new
sent frame (Ok done) old new came = came
sent frame (Err fail.Failed) old new came = came
sent frame (Err fail.NoMemory) old new came = came

pub sent_came : (frame : List ℕ) (r : Result (Unit {0}) LinkFail) (result : Result (Unit {0}) End) (old new : Seen) → result ≡ end_of_send r → Came (send_events frame r) old new
    → Came (events_carried (output.Send frame) result) old new
sent_came frame r result old new is came = subst (λ (x : Result (Unit {0}) End). Came (events_carried (output.Send frame) x) old new) (sym is) (sent frame r old new came)

sent_ends : (frame : List ℕ) (r : Result (Unit {0}) LinkFail) → IfErr (end_of_send r) (IsCarryEnd (output.Send frame))
sent_ends frame (Ok done) = tt
sent_ends frame (Err fail.Failed) = tt
sent_ends frame (Err fail.NoMemory) = tt

pub sent_why : (frame : List ℕ) (r : Result (Unit {0}) LinkFail) (result : Result (Unit {0}) End) → result ≡ end_of_send r → IfErr result (IsCarryEnd (output.Send frame))
sent_why frame r result is = subst (λ (x : Result (Unit {0}) End). IfErr x (IsCarryEnd (output.Send frame))) (sym is) (sent_ends frame r)

-- a mark is told, or not
told : (m : Mark) (r : Result (Unit {0}) NoMemory) (old new : Seen) → Came (mark_events m r) old new → Came (events_carried (output.Marked m) (end_of_mark r)) old new
told m (Ok done) old new came = came
told m (Err none) old new came = came

pub told_came : (m : Mark) (r : Result (Unit {0}) NoMemory) (result : Result (Unit {0}) End) (old new : Seen) → result ≡ end_of_mark r → Came (mark_events m r) old new
    → Came (events_carried (output.Marked m) result) old new
told_came m r result old new is came = subst (λ (x : Result (Unit {0}) End). Came (events_carried (output.Marked m) x) old new) (sym is) (told m r old new came)

told_ends : (r : Result (Unit {0}) NoMemory) → IfErr (end_of_mark r) (λ e. e ≡ end.Memory)
told_ends (Ok done) = tt
told_ends (Err none) = refl

pub told_why : (r : Result (Unit {0}) NoMemory) (result : Result (Unit {0}) End) → result ≡ end_of_mark r → IfErr result (λ e. e ≡ end.Memory)
told_why r result is = subst (λ (x : Result (Unit {0}) End). IfErr x (λ e. e ≡ end.Memory)) (sym is) (told_ends r)

-- what prints nothing leaves the sink as it is
pub prints_nothing : (o : Output) (result : Result (Unit {0}) End) (h : Held) → line_by o ≡ [] → (result ≡ Err end.Sink → ⊥) → PrintedSo result (line_carried o result) h h
prints_nothing o (Ok done) h none sound = subst (λ (l : List ℕ). TookAll l h h) (sym none) (took_nothing h)
prints_nothing o (Err end.Sink) h none sound = absurd (sound refl)
prints_nothing o (Err end.Done) h none sound = took_nothing h
prints_nothing o (Err (end.Line number)) h none sound = took_nothing h
prints_nothing o (Err end.Memory) h none sound = took_nothing h
prints_nothing o (Err (end.Mount why)) h none sound = took_nothing h
prints_nothing o (Err (end.Frame number what)) h none sound = took_nothing h
prints_nothing o (Err (end.Connects number)) h none sound = took_nothing h
prints_nothing o (Err end.Cuts) h none sound = took_nothing h
prints_nothing o (Err end.Source) h none sound = took_nothing h
prints_nothing o (Err end.Frames) h none sound = took_nothing h

pub send_sound : (frame : List ℕ) (result : Result (Unit {0}) End) → IfErr result (IsCarryEnd (output.Send frame)) → result ≡ Err end.Sink → ⊥
send_sound frame result why is = subst (λ (x : Result (Unit {0}) End). IfErr x (IsCarryEnd (output.Send frame))) is why

pub memory_sound : (result : Result (Unit {0}) End) → IfErr result (λ e. e ≡ end.Memory) → result ≡ Err end.Sink → ⊥
memory_sound (Ok done) why is = absurd (cc)
memory_sound (Err e) why is = absurd (cc)

pub memory_ends : (o : Output) (result : Result (Unit {0}) End) → IfErr result (λ e. e ≡ end.Memory) → IfErr result (IsCarryEnd o)
memory_ends o (Ok done) why = tt
memory_ends o (Err e) why = subst (IsCarryEnd o) (sym why) (always o)
  where
    always : (p : Output) → IsCarryEnd p end.Memory
    always p = tt

-- several outputs, one behind the other
events_of-append : (xs ys : List Output) → events_of (xs ++ ys) ≡ events_of xs ++ events_of ys
events_of-append [] ys = refl
events_of-append (x ∷ xs) ys = ap (λ (l : List Event). events_by x ++ l) (events_of-append xs ys) ∙ sym (append_assoc (events_by x) (events_of xs) (events_of ys))

pub events_of-one : (xs : List Output) (o : Output) → events_of (xs ++ o ∷ []) ≡ events_of xs ++ events_by o
events_of-one xs o = events_of-append xs (o ∷ []) ∙ ap (λ (l : List Event). events_of xs ++ l) (append-nil (events_by o))

lines_by-append : (xs ys : List Output) → lines_by (xs ++ ys) ≡ lines_by xs ++ lines_by ys
lines_by-append [] ys = refl
lines_by-append (x ∷ xs) ys = ap (λ (l : List ℕ). line_by x ++ l) (lines_by-append xs ys) ∙ sym (append_assoc (line_by x) (lines_by xs) (lines_by ys))

pub lines_by-one : (xs : List Output) (o : Output) → lines_by (xs ++ o ∷ []) ≡ lines_by xs ++ line_by o
lines_by-one [] o = append-nil (line_by o)
lines_by-one (x ∷ xs) o = ap (λ (l : List ℕ). line_by x ++ l) (lines_by-one xs o) ∙ sym (append_assoc (line_by x) (lines_by xs) (line_by o))

running_after-one : (xs : List Output) (o : Output) (running : List ℕ) → running_after (xs ++ o ∷ []) running ≡ running_by o (running_after xs running)
running_after-one [] o running = refl
running_after-one (x ∷ xs) o running = running_after-one xs o (running_by x running)

or_last : (x y b : Bool) → x ≡ false → y ≡ b → (x || (y || false)) ≡ b
or_last true y b none is = absurd (cc)
or_last false true b none is = is
or_last false false b none is = is

has_left-one : (xs : List Output) (o : Output) (b : Bool) → has_left xs ≡ false → is_leave o ≡ b → has_left (xs ++ o ∷ []) ≡ b
has_left-one xs o b none is = list_any-append is_leave xs (o ∷ []) ∙ or_last (has_left xs) (is_leave o) b none is

ends_in_send-one : (xs : List Output) (frame : List ℕ) → ends_in_send (xs ++ output.Send frame ∷ []) ≡ true
ends_in_send-one [] frame = refl
ends_in_send-one (x ∷ []) frame = behind x
  where
    behind : (o : Output) → ends_in_send (o ∷ output.Send frame ∷ []) ≡ true
    behind (output.Send other) = refl
    behind (output.Marked m) = refl
    behind (output.Answer number a) = refl
    behind output.Reconnect = refl
    behind output.Left = refl
ends_in_send-one (x ∷ y ∷ xs) frame = behind x (ends_in_send-one (y ∷ xs) frame)
  where
    behind : (o : Output) → ends_in_send (y ∷ (xs ++ output.Send frame ∷ [])) ≡ true → ends_in_send (o ∷ y ∷ (xs ++ output.Send frame ∷ [])) ≡ true
    behind (output.Send other) is = is
    behind (output.Marked m) is = is
    behind (output.Answer number a) is = is
    behind output.Reconnect is = is
    behind output.Left is = is

-- so many outputs were carried out so far
pub record Carrying (outs now : List Output) (running running' : List ℕ) (old new : Seen) (out out' : Held) : Type 0 where
  pub did : List Output
  pub popped : outs ≡ did ++ now
  pub came : Came (events_of did) old new
  pub took : TookAll (lines_by did) out out'
  pub stays : has_left did ≡ false
  pub runs : running' ≡ running_after did running

pub carrying_none : (outs : List Output) (running : List ℕ) (seen : Seen) (h : Held) → Carrying outs outs running running seen seen h h
carrying_none outs running seen h = record { did = []; popped = refl; came = came_none seen; took = took_nothing h; stays = refl; runs = refl }

pub carrying_more : (outs now rest : List Output) (o : Output) (running running' running2 : List ℕ) (a b c : Seen) (h k l : Held) → Carrying outs now running running' a b h k → now ≡ o ∷ rest
    → is_leave o ≡ false → Came (events_carried o (Ok tt)) b c → PrintedSo (Ok tt) (line_carried o (Ok tt)) k l → running2 ≡ running_by o running'
    → Carrying outs rest running running2 a c h l
carrying_more outs now rest o running running' running2 a b c h k l so is none came printed runs = record {
  did = so.did ++ o ∷ [];
  popped = so.popped ∙ ap (λ (x : List Output). so.did ++ x) is ∙ sym (append_assoc so.did (o ∷ []) rest);
  came = subst (λ (e : List Event). Came e a c) (sym (events_of-one so.did o)) (came_then (events_of so.did) (events_by o) a b c so.came came);
  took = subst (λ (t : List ℕ). TookAll t h l) (sym (lines_by-one so.did o)) (took_then (lines_by so.did) (line_by o) h k l so.took printed);
  stays = has_left-one so.did o false so.stays none;
  runs = runs ∙ ap (running_by o) so.runs ∙ sym (running_after-one so.did o running);
}

-- all of them
pub carried_all : (outs now : List Output) (running running' : List ℕ) (a b : Seen) (h k : Held) → Carrying outs now running running' a b h k → now ≡ []
    → Carried (Ok tt) outs running running' a b h k
carried_all outs now running running' a b h k so none = record {
  did = so.did;
  left = [];
  heard = [];
  popped = so.popped ∙ ap (λ (x : List Output). so.did ++ x) none;
  came = subst (λ (e : List Event). Came e a b) (sym (append-nil (events_of so.did))) so.came;
  printed = so.took;
  to = (refl, refl, so.stays, so.runs);
}

-- the one that says that the share was left
left_to : (why : Option Over) (did left : List Output) (running running' : List ℕ) → has_left did ≡ true → CarriedTo (Err (end_by why)) did left [] running running'
left_to (Some over.End) did left running running' is = (refl, is)
left_to (Some (over.Line number)) did left running running' is = (refl, is)
left_to (Some over.Source) did left running running' is = (refl, is)
left_to None did left running running' is = refl

left_prints : (why : Option Over) (text : List ℕ) (h k : Held) → TookAll text h k → PrintedSo (Err (end_by why)) text h k
left_prints (Some over.End) text h k took = took
left_prints (Some (over.Line number)) text h k took = took
left_prints (Some over.Source) text h k took = took
left_prints None text h k took = took

line_by_leave : (o : Output) → is_leave o ≡ true → line_by o ≡ []
line_by_leave (output.Send frame) is = refl
line_by_leave (output.Marked m) is = refl
line_by_leave (output.Answer number a) is = absurd (cc)
line_by_leave output.Reconnect is = refl
line_by_leave output.Left is = refl

events_by_leave : (o : Output) → is_leave o ≡ true → events_by o ≡ []
events_by_leave (output.Send frame) is = absurd (cc)
events_by_leave (output.Marked m) is = absurd (cc)
events_by_leave (output.Answer number a) is = absurd (cc)
events_by_leave output.Reconnect is = refl
events_by_leave output.Left is = refl

pub carried_left : (outs now rest : List Output) (o : Output) (running running' : List ℕ) (why : Option Over) (e : End) (a b : Seen) (h k : Held) → Carrying outs now running running' a b h k
    → now ≡ o ∷ rest → is_leave o ≡ true → e ≡ end_by why → Carried (Err e) outs running running' a b h k
carried_left outs now rest o running running' why e a b h k so is leave ends = subst (λ (x : End). Carried (Err x) outs running running' a b h k) (sym ends) (record {
  did = so.did ++ o ∷ [];
  left = rest;
  heard = [];
  popped = so.popped ∙ ap (λ (x : List Output). so.did ++ x) is ∙ sym (append_assoc so.did (o ∷ []) rest);
  came = subst (λ (x : List Event). Came x a b) (sym (append-nil (events_of (so.did ++ o ∷ [])) ∙ events_of-one so.did o ∙ ap (λ (x : List Event). events_of so.did ++ x) (events_by_leave o leave) ∙ append-nil (events_of so.did))) so.came;
  printed = left_prints why (lines_by (so.did ++ o ∷ [])) h k (subst (λ (t : List ℕ). TookAll t h k) (sym (lines_by-one so.did o ∙ ap (λ (x : List ℕ). lines_by so.did ++ x) (line_by_leave o leave) ∙ append-nil (lines_by so.did))) so.took);
  to = left_to why (so.did ++ o ∷ []) rest running running' (has_left-one so.did o true so.stays leave);
})

-- one that ends the run: it was carried out, or not
record Stops (o : Output) (e : End) (did rest : List Output) (running running' : List ℕ) (b c : Seen) (k l : Held) : Type 0 where
  pub some : List Output
  pub left : List Output
  pub heard : List Event
  pub popped : o ∷ rest ≡ some ++ left
  pub came : Came (events_of some ++ heard) b c
  pub printed : PrintedSo (Err e) (lines_by some) k l
  pub to : CarriedTo (Err e) (did ++ some) left heard running running'

stops_at : (o : Output) (e : End) (did rest : List Output) (running running' running1 : List ℕ) (b c : Seen) (k l : Held) → running1 ≡ running_after did running → RunsOn o (Err e) running1 running'
    → IsCarryEnd o e → Came (events_carried o (Err e)) b c
    → PrintedSo (Err e) (line_carried o (Err e)) k l → Stops o e did rest running running' b c k l
stops_at o end.Memory did rest running running' running1 b c k l was runs why came printed =
    record { some = []; left = o ∷ rest; heard = []; popped = refl; came = came; printed = printed; to = refl }
stops_at (output.Send frame) end.Cuts did rest running running' running1 b c k l was runs why came printed = record {
  some = output.Send frame ∷ [];
  left = rest;
  heard = event.Cut ∷ [];
  popped = refl;
  came = came;
  printed = printed;
  to = (refl, ends_in_send-one did frame, runs ∙ ap (running_by (output.Send frame)) was ∙ sym (running_after-one did (output.Send frame) running));
}
stops_at (output.Answer number a) end.Sink did rest running running' running1 b c k l was runs why came printed = record {
  some = output.Answer number a ∷ [];
  left = rest;
  heard = [];
  popped = refl;
  came = came;
  printed = subst (λ (t : List ℕ). PrintedSo (Err end.Sink) t k l) (sym (append-nil (line_by (output.Answer number a)))) printed;
  to = refl;
}
stops_at (output.Send frame) end.Done did rest running running' running1 b c k l was runs why came printed = absurd why
stops_at (output.Marked m) end.Done did rest running running' running1 b c k l was runs why came printed = absurd why
stops_at (output.Answer n a) end.Done did rest running running' running1 b c k l was runs why came printed = absurd why
stops_at output.Reconnect end.Done did rest running running' running1 b c k l was runs why came printed = absurd why
stops_at output.Left end.Done did rest running running' running1 b c k l was runs why came printed = absurd why
stops_at (output.Send frame) (end.Line number) did rest running running' running1 b c k l was runs why came printed = absurd why
stops_at (output.Marked m) (end.Line number) did rest running running' running1 b c k l was runs why came printed = absurd why
stops_at (output.Answer n a) (end.Line number) did rest running running' running1 b c k l was runs why came printed = absurd why
stops_at output.Reconnect (end.Line number) did rest running running' running1 b c k l was runs why came printed = absurd why
stops_at output.Left (end.Line number) did rest running running' running1 b c k l was runs why came printed = absurd why
stops_at (output.Send frame) (end.Mount what) did rest running running' running1 b c k l was runs why came printed = absurd why
stops_at (output.Marked m) (end.Mount what) did rest running running' running1 b c k l was runs why came printed = absurd why
stops_at (output.Answer n a) (end.Mount what) did rest running running' running1 b c k l was runs why came printed = absurd why
stops_at output.Reconnect (end.Mount what) did rest running running' running1 b c k l was runs why came printed = absurd why
stops_at output.Left (end.Mount what) did rest running running' running1 b c k l was runs why came printed = absurd why
stops_at (output.Send frame) (end.Frame number what) did rest running running' running1 b c k l was runs why came printed = absurd why
stops_at (output.Marked m) (end.Frame number what) did rest running running' running1 b c k l was runs why came printed = absurd why
stops_at (output.Answer n a) (end.Frame number what) did rest running running' running1 b c k l was runs why came printed = absurd why
stops_at output.Reconnect (end.Frame number what) did rest running running' running1 b c k l was runs why came printed = absurd why
stops_at output.Left (end.Frame number what) did rest running running' running1 b c k l was runs why came printed = absurd why
stops_at (output.Send frame) (end.Connects number) did rest running running' running1 b c k l was runs why came printed = absurd why
stops_at (output.Marked m) (end.Connects number) did rest running running' running1 b c k l was runs why came printed = absurd why
stops_at (output.Answer n a) (end.Connects number) did rest running running' running1 b c k l was runs why came printed = absurd why
stops_at output.Reconnect (end.Connects number) did rest running running' running1 b c k l was runs why came printed = absurd why
stops_at output.Left (end.Connects number) did rest running running' running1 b c k l was runs why came printed = absurd why
stops_at (output.Marked m) end.Cuts did rest running running' running1 b c k l was runs why came printed = absurd why
stops_at (output.Answer n a) end.Cuts did rest running running' running1 b c k l was runs why came printed = absurd why
stops_at output.Reconnect end.Cuts did rest running running' running1 b c k l was runs why came printed = absurd why
stops_at output.Left end.Cuts did rest running running' running1 b c k l was runs why came printed = absurd why
stops_at (output.Send frame) end.Source did rest running running' running1 b c k l was runs why came printed = absurd why
stops_at (output.Marked m) end.Source did rest running running' running1 b c k l was runs why came printed = absurd why
stops_at (output.Answer n a) end.Source did rest running running' running1 b c k l was runs why came printed = absurd why
stops_at output.Reconnect end.Source did rest running running' running1 b c k l was runs why came printed = absurd why
stops_at output.Left end.Source did rest running running' running1 b c k l was runs why came printed = absurd why
stops_at (output.Send frame) end.Sink did rest running running' running1 b c k l was runs why came printed = absurd why
stops_at (output.Marked m) end.Sink did rest running running' running1 b c k l was runs why came printed = absurd why
stops_at output.Reconnect end.Sink did rest running running' running1 b c k l was runs why came printed = absurd why
stops_at output.Left end.Sink did rest running running' running1 b c k l was runs why came printed = absurd why
stops_at (output.Send frame) end.Frames did rest running running' running1 b c k l was runs why came printed = absurd why
stops_at (output.Marked m) end.Frames did rest running running' running1 b c k l was runs why came printed = absurd why
stops_at (output.Answer n a) end.Frames did rest running running' running1 b c k l was runs why came printed = absurd why
stops_at output.Reconnect end.Frames did rest running running' running1 b c k l was runs why came printed = absurd why
stops_at output.Left end.Frames did rest running running' running1 b c k l was runs why came printed = absurd why

pub carried_stop : (outs now rest : List Output) (o : Output) (running running' running2 : List ℕ) (e : End) (a b c : Seen) (h k l : Held) → Carrying outs now running running' a b h k
    → now ≡ o ∷ rest → RunsOn o (Err e) running' running2 → IsCarryEnd o e → Came (events_carried o (Err e)) b c → PrintedSo (Err e) (line_carried o (Err e)) k l → Carried (Err e) outs running running2 a c h l
carried_stop outs now rest o running running' running2 e a b c h k l so is runs why came printed =
    let s : Stops o e so.did rest running running2 b c k l = stops_at o e so.did rest running running2 running' b c k l so.runs runs why came printed in
    record {
      did = so.did ++ s.some;
      left = s.left;
      heard = s.heard;
      popped = so.popped ∙ ap (λ (x : List Output). so.did ++ x) (is ∙ s.popped) ∙ sym (append_assoc so.did s.some s.left);
      came = subst (λ (x : List Event). Came x a c) (sym (ap (λ (x : List Event). x ++ s.heard) (events_of-append so.did s.some) ∙ append_assoc (events_of so.did) (events_of s.some) s.heard))
          (came_then (events_of so.did) (events_of s.some ++ s.heard) a b c so.came s.came);
      printed = subst (λ (t : List ℕ). PrintedSo (Err e) t h l) (sym (lines_by-append so.did s.some)) (printed_then (Err e) (lines_by so.did) (lines_by s.some) h k l so.took s.printed);
      to = s.to;
    }

-- the line of an answer is printed, or not all of it
pub print_came : (number : ℕ) (a : Answer) (result : Result (Unit {0}) End) (old new : Seen) → IfErr result (λ e. e ≡ end.Sink) → Came (event.Marked (mark.Answer number a) ∷ []) old new
    → Came (events_carried (output.Answer number a) result) old new
print_came number a (Ok done) old new why came = came
print_came number a (Err e) old new why came = subst (λ (x : End). Came (events_carried (output.Answer number a) (Err x)) old new) (sym why) came

pub print_printed : (number : ℕ) (a : Answer) (result : Result (Unit {0}) End) (text : List ℕ) (h k : Held) → IfErr result (λ e. e ≡ end.Sink) → text ≡ line_of number a
    → PrintedSo result text h k → PrintedSo result (line_carried (output.Answer number a) result) h k
print_printed number a (Ok done) text h k why is printed = subst (λ (t : List ℕ). TookAll t h k) is printed
print_printed number a (Err e) text h k why is printed =
    subst (λ (x : End). PrintedSo (Err x) (line_carried (output.Answer number a) (Err x)) h k) (sym why)
    (subst (λ (t : List ℕ). PrintedSo (Err end.Sink) t h k) is (subst (λ (x : End). PrintedSo (Err x) text h k) why printed))

pub print_why : (number : ℕ) (a : Answer) (result : Result (Unit {0}) End) → IfErr result (λ e. e ≡ end.Sink) → IfErr result (IsCarryEnd (output.Answer number a))
print_why number a (Ok done) why = tt
print_why number a (Err e) why = subst (IsCarryEnd (output.Answer number a)) (sym why) tt

-- a mark is told, or not
mark_tells : (m : Mark) (r : Result (Unit {0}) NoMemory) (old new : Seen) → Came (mark_events m r) old new → Came (events_told m (end_of_mark r)) old new
mark_tells m (Ok done) old new came = came
mark_tells m (Err none) old new came = came

pub mark_told : (m : Mark) (r : Result (Unit {0}) NoMemory) (result : Result (Unit {0}) End) (old new : Seen) → result ≡ end_of_mark r → Came (mark_events m r) old new
    → Came (events_told m result) old new
mark_told m r result old new is came = subst (λ (x : Result (Unit {0}) End). Came (events_told m x) old new) (sym is) (mark_tells m r old new came)

-- a mark alone
mark_alone : (m : Mark) (r : Result (Unit {0}) NoMemory) → mark_events m r ≡ events_told m (end_of_mark r)
mark_alone m (Ok done) = refl
mark_alone m (Err none) = refl

pub told_alone : (m : Mark) (r : Result (Unit {0}) NoMemory) (result : Result (Unit {0}) End) (old new : Option (List Event)) → result ≡ end_of_mark r
    → new ≡ story_with old (mark_events m r) → new ≡ story_with old (events_told m result)
told_alone m r result old new is alone = alone ∙ ap (story_with old) (mark_alone m r ∙ ap (events_told m) (sym is))

print_events : (number : ℕ) (a : Answer) (result : Result (Unit {0}) End) → IfErr result (λ e. e ≡ end.Sink)
    → event.Marked (mark.Answer number a) ∷ [] ≡ events_carried (output.Answer number a) result
print_events number a (Ok done) why = refl
print_events number a (Err e) why = ap (λ (x : End). events_carried (output.Answer number a) (Err x)) (sym why)

pub print_alone : (number : ℕ) (a : Answer) (result : Result (Unit {0}) End) (old new : Option (List Event)) → IfErr result (λ e. e ≡ end.Sink)
    → new ≡ story_with old (event.Marked (mark.Answer number a) ∷ []) → new ≡ story_with old (events_carried (output.Answer number a) result)
print_alone number a result old new why alone = alone ∙ ap (story_with old) (print_events number a result why)

pub untold_alone : (o : Output) (m : Mark) (e : End) (old new : Option (List Event)) → e ≡ end.Memory → new ≡ story_with old (events_told m (Err e))
    → new ≡ story_with old (events_carried o (Err e))
untold_alone o m e old new is alone = alone ∙ ap (λ (x : End). story_with old (events_carried o (Err x))) (sym is)

-- an answer that could not be told
pub untold_came : (o : Output) (m : Mark) (e : End) (old new : Seen) → e ≡ end.Memory → Came (events_told m (Err e)) old new → Came (events_carried o (Err e)) old new
untold_came o m e old new is came = subst (λ (x : End). Came (events_carried o (Err x)) old new) (sym is) came

pub untold_printed : (o : Output) (e : End) (h : Held) → e ≡ end.Memory → PrintedSo (Err e) (line_carried o (Err e)) h h
untold_printed o e h is = subst (λ (x : End). PrintedSo (Err x) (line_carried o (Err x)) h h) (sym is) (took_nothing h)

pub untold_why : (o : Output) (e : End) → e ≡ end.Memory → IsCarryEnd o e
untold_why o e is = subst (IsCarryEnd o) (sym is) (always o)
  where
    always : (p : Output) → IsCarryEnd p end.Memory
    always p = tt

-- what carrying out ends a run for is not that the share was left
no_true : false ≡ true → ⊥
no_true is = search rules

no_left : (o : Output) (e : End) → IsCarryEnd o e → is_through e ≡ true → ⊥
no_left (output.Send frame) end.Done why is = why
no_left (output.Marked m) end.Done why is = why
no_left (output.Answer n a) end.Done why is = why
no_left output.Reconnect end.Done why is = why
no_left output.Left end.Done why is = why
no_left (output.Send frame) (end.Line number) why is = why
no_left (output.Marked m) (end.Line number) why is = why
no_left (output.Answer n a) (end.Line number) why is = why
no_left output.Reconnect (end.Line number) why is = why
no_left output.Left (end.Line number) why is = why
no_left (output.Send frame) end.Source why is = why
no_left (output.Marked m) end.Source why is = why
no_left (output.Answer n a) end.Source why is = why
no_left output.Reconnect end.Source why is = why
no_left output.Left end.Source why is = why
no_left o end.Memory why is = no_true is
no_left o (end.Mount what) why is = no_true is
no_left o (end.Frame number what) why is = no_true is
no_left o (end.Connects number) why is = no_true is
no_left o end.Cuts why is = no_true is
no_left o end.Sink why is = no_true is
no_left o end.Frames why is = no_true is

pub stop_over : (o : Output) (e : End) (why : Option Over) → IsCarryEnd o e → EndsOver (Err e) why
stop_over o e why stops = λ is. absurd (no_left o e stops is)

-- and where it was left, the run ends for that reason
pub left_over : (e : End) (old now : Option Over) → now ≡ old → e ≡ end_by now → EndsOver (Err e) old
left_over e old now same ends = λ is. ends ∙ ap end_by same

-- the core keeps what it has
pub record Keeping (old now : CoreValue) : Type 0 where
  pub setting : now.setting ≡ old.setting
  pub kept : now.kept ≡ old.kept

pub keeping_none : (core : CoreValue) → Keeping core core
keeping_none core = record { setting = refl; kept = refl }

pub keeping_more : (old now new : CoreValue) → Keeping old now → new.kept ≡ now.kept → new.setting ≡ now.setting → Keeping old new
keeping_more old now new k kept setting = record { setting = setting ∙ k.setting; kept = kept ∙ k.kept }

-- and the engine all else
pub all_more : (old now new : Engine) → AllElse old now → new.ahead ≡ now.ahead → new.over ≡ now.over → new.frames ≡ now.frames → new.received ≡ now.received
    → new.silences ≡ now.silences → new.patience ≡ now.patience → AllElse old new
all_more old now new so ahead over frames received silences patience = record {
  ahead = ahead ∙ so.ahead;
  over = over ∙ so.over;
  frames = frames ∙ so.frames;
  received = received ∙ so.received;
  silences = silences ∙ so.silences;
  patience = patience ∙ so.patience;
}

-- the calls that run behind an output
pub runs_same : (o : Output) (result : Result (Unit {0}) End) (running running' : List ℕ) → running' ≡ running_by o running → RunsOn o result running running'
runs_same o (Ok done) running running' is = is
runs_same o (Err end.Cuts) running running' is = is
runs_same o (Err end.Memory) running running' is = tt
runs_same o (Err end.Sink) running running' is = tt
runs_same o (Err end.Done) running running' is = tt
runs_same o (Err (end.Line number)) running running' is = tt
runs_same o (Err (end.Mount why)) running running' is = tt
runs_same o (Err (end.Frame number what)) running running' is = tt
runs_same o (Err (end.Connects number)) running running' is = tt
runs_same o (Err end.Source) running running' is = tt
runs_same o (Err end.Frames) running running' is = tt

pub runs_told : (m : Mark) (result : Result (Unit {0}) End) (running running' : List ℕ) → IfErr result (λ e. e ≡ end.Memory) → OnOk result (running' ≡ calls_marked m running)
    → RunsOn (output.Marked m) result running running'
runs_told m (Ok done) running running' why is = is
runs_told m (Err e) running running' why is = subst (λ (x : End). RunsOn (output.Marked m) (Err x) running running') (sym why) tt
