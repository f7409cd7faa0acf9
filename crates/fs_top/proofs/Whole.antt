-- A whole run, from what the engine's functions say of it.
use Rattle.std.proofs.Common.{◌≡◌, ◌∙◌, refl, sym, ap, subst, ℕ, Bool, true, false, ◌||◌, List, [], ◌++◌, Option, Some, None, Err, inl, inr, ◌⊎◌}
use Rattle.std.specs.Prelude.{option_map, IfSome, IsSome}
use Rattle.std.proofs.lemmas.Bool.{false≢true}
use Rattle.std.proofs.lemmas.List.{append-nil}
use Rattle.smb_link.specs.Came.{Seen, Came}
use Rattle.smb_link.specs.declared.event.Event.{Event}
use Rattle.smb_link.proofs.CameLaws.{came_then}
use Rattle.fs_client.specs.View.{Client}
use Rattle.fs_client.specs.After.{all_after}
use Rattle.fs_core.specs.Kept.{CoreValue}
use Rattle.fs_ahead.specs.declared.asked.Asked.{Asked}
use Rattle.fs_ahead.specs.declared.asked.Over.{Over}
use Rattle.fs_ahead.specs.Script.{Coming, Place, coming_of, to_come}
use Rattle.fs_ahead.specs.Progress.{Reads, Progress, IsFront}
use Rattle.fs_ahead.proofs.Progressing.{progress_start, progress_front, progress_end}
use Rattle.fs_top.specs.declared.run_end.End.{End}
use Rattle.fs_top.specs.declared.run_end.End.TheVariants as end
use Rattle.fs_top.specs.declared.run_end.Wrong.TheVariants as wrong
use Rattle.fs_top.specs.Causes.{end_by}
use Rattle.fs_top.specs.Clients.{Holds}
use Rattle.fs_top.specs.Closing.{errno_by, answers_of, CameAlone, ClosesWith, ClosesBy, Closes}
use Rattle.fs_top.specs.Ends.{EndsAt, AreFew}
use Rattle.fs_top.specs.Given.{has_ended, IsStopped, ScriptTo, is_through}
use Rattle.fs_top.specs.Going.{Outside}
use Rattle.fs_top.specs.Printing.{Held, TookAll, TookFront}
use Rattle.fs_top.specs.Run.{core_of, joined_with, joined_client, begun_in, AreFirst, IsRead, unanswered, ClosedSo, closings_of, closing_lines, PrintedClosing, Unjoined, Turned, RunIs}
use Rattle.fs_top.specs.RunEndings.{PrintedEnd}
use Rattle.fs_top.specs.Running.{JoinsSo, Joins, NeverWent, Went, RanThrough, first_place, RanScript}
use Rattle.fs_top.specs.Steps.{Remain, EndsOver}
use Rattle.fs_top.specs.Turns.{Turn, State, after_turns, events_in, lines_by}
use Rattle.fs_top.proofs.Beginning.{AreBegun, turns_begun, follows_calls}
use Rattle.fs_top.proofs.Clients.{turns_along}
use Rattle.fs_top.proofs.ClientsEnds.{joined_holds}
use Rattle.fs_top.proofs.Blameless.{is_fair}
use Rattle.fs_top.proofs.ClientsRuns.{ends_caused}
use Rattle.fs_top.proofs.Printing.{took_then}
use Rattle.fs_top.proofs.Telling.{all_tell}

-- a run begins with what its client has once it joined
pub start_holds : (seed host share : List ℕ) → Holds (core_of seed host share).setting (joined_with (core_of seed host share)) (joined_client (core_of seed host share).setting)
start_holds seed host share =
    joined_holds (core_of seed host share).setting (record { guid = seed; path = (core_of seed host share).setting.path; previous = 0 }) refl

-- the answers that close a run
record Closing (errno : Option ℕ) (why last : End) (all : List ℕ) (a b : Seen) (h k : Held) : Type 0 where
  closed : List ℕ
  closes : ClosedSo errno why last all closed
  came : CameAlone (closings_of errno closed) a b
  printed : PrintedClosing why last (closing_lines errno closed) h k

closing_none : (why last : End) (all running : List ℕ) (a b : Seen) (h k : Held) → ClosesBy None running why last a b h k → Closing None why last all a b h k
closing_none why last all running a b h k closes = record { closed = all; closes = inl (closes.0, refl); came = closes.1; printed = inl (closes.0, closes.2) }

closing_some : (errno : ℕ) (why last : End) (all running : List ℕ) (a b : Seen) (h k : Held) → running ≡ all → ClosesWith errno running why last a b h k
    → Closing (Some errno) why last all a b h k
closing_some errno why last all running a b h k same (inl closes) =
    record { closed = running; closes = inl (closes.0, same); came = closes.1.came; printed = inl (closes.0, closes.1.printed) }
closing_some errno why last all running a b h k same (inr some) = by some.ends
  where
    by : ((last ≡ end.Memory) × TookAll (lines_by (answers_of errno some.answered)) h k) ⊎ ((last ≡ end.Sink) × TookFront (lines_by (answers_of errno some.answered)) h k)
        → Closing (Some errno) why last all a b h k
    by (inl memory) = record {
      closed = some.answered;
      closes = inr (inl memory.0, (some.left, sym same ∙ some.parts));
      came = some.came;
      printed = inr (inl memory);
    }
    by (inr sink) = record {
      closed = some.answered;
      closes = inr (inr sink.0, (some.left, sym same ∙ some.parts));
      came = some.came;
      printed = inr (inr sink);
    }

closing_of : (why last : End) (all running reached : List ℕ) (a b : Seen) (h k : Held) → all ≡ reached → Remain why running reached → Closes running why last a b h k
    → Closing (errno_by why) why last all a b h k
closing_of (end.Frame n what) last all running reached a b h k is remain closes = closing_some 71 (end.Frame n what) last all running a b h k (remain ∙ sym is) closes
closing_of end.Cuts last all running reached a b h k is remain closes = closing_some 112 end.Cuts last all running a b h k (remain ∙ sym is) closes
closing_of end.Done last all running reached a b h k is remain closes = closing_none end.Done last all running a b h k closes
closing_of (end.Line n) last all running reached a b h k is remain closes = closing_none (end.Line n) last all running a b h k closes
closing_of end.Memory last all running reached a b h k is remain closes = closing_none end.Memory last all running a b h k closes
closing_of (end.Mount what) last all running reached a b h k is remain closes = closing_none (end.Mount what) last all running a b h k closes
closing_of (end.Connects n) last all running reached a b h k is remain closes = closing_none (end.Connects n) last all running a b h k closes
closing_of end.Source last all running reached a b h k is remain closes = closing_none end.Source last all running a b h k closes
closing_of end.Sink last all running reached a b h k is remain closes = closing_none end.Sink last all running a b h k closes
closing_of end.Frames last all running reached a b h k is remain closes = closing_none end.Frames last all running a b h k closes

-- a run that ends with its script left the share
through_over : (patience : ℕ) (why : End) (s : State) → is_through why ≡ true → EndsAt patience why s → s.over ≡ true
through_over patience end.Done s is ends = ends
through_over patience (end.Line n) s is ends = ends
through_over patience end.Source s is ends = ends
through_over patience (end.Frame n wrong.Length) s is ends = absurd (false≢true is)
through_over patience (end.Frame n (wrong.Protocol what)) s is ends = absurd (false≢true is)
through_over patience end.Cuts s is ends = absurd (false≢true is)
through_over patience end.Memory s is ends = absurd (false≢true is)
through_over patience (end.Mount what) s is ends = absurd (false≢true is)
through_over patience (end.Connects n) s is ends = absurd (false≢true is)
through_over patience end.Sink s is ends = absurd (false≢true is)
through_over patience end.Frames s is ends = absurd (false≢true is)

-- how far a script was taken
script_front : (why : End) (script : Option Coming) (f : ℕ) (taken : List Asked) (r : Reads) → ScriptTo (Err why) script f taken r → IfSome script (IsFront taken)
script_front end.Memory script f taken r to = to
script_front end.Done script f taken r to = progress_front script f taken r to
script_front (end.Line n) script f taken r to = progress_front script f taken r to
script_front end.Source script f taken r to = progress_front script f taken r to
script_front (end.Frame n what) script f taken r to = progress_front script f taken r to
script_front end.Cuts script f taken r to = progress_front script f taken r to
script_front (end.Mount what) script f taken r to = progress_front script f taken r to
script_front (end.Connects n) script f taken r to = progress_front script f taken r to
script_front end.Sink script f taken r to = progress_front script f taken r to
script_front end.Frames script f taken r to = progress_front script f taken r to

script_progress : (why : End) (script : Option Coming) (f : ℕ) (taken : List Asked) (r : Reads) → (why ≡ end.Memory → ⊥) → ScriptTo (Err why) script f taken r → Progress script f taken r
script_progress end.Memory script f taken r sound to = absurd (sound refl)
script_progress end.Done script f taken r sound to = to
script_progress (end.Line n) script f taken r sound to = to
script_progress end.Source script f taken r sound to = to
script_progress (end.Frame n what) script f taken r sound to = to
script_progress end.Cuts script f taken r sound to = to
script_progress (end.Mount what) script f taken r sound to = to
script_progress (end.Connects n) script f taken r sound to = to
script_progress end.Sink script f taken r sound to = to
script_progress end.Frames script f taken r sound to = to

-- a script that was read to its end, or a run that ended with it
read_at : (why : End) (over : Option Over) (script : Option Coming) (f : ℕ) (taken unbegun : List Asked) (r : Reads) → IsSome over → (IsSome over → unbegun ≡ []) → IsStopped over r.place
    → EndsOver (Err why) over → Progress script f (taken ++ unbegun) r → (unbegun ≡ []) × IsRead why script f r.faults taken
read_at why None script f taken unbegun r some none stopped ends p = absurd (false≢true some)
read_at why (Some over) script f taken unbegun r some none stopped ends p = (
  none some,
  record {
    over = over;
    to = progress_end script f taken over r stopped.0 stopped.1 (subst (λ (l : List Asked). Progress script f l r) (ap (λ (u : List Asked). taken ++ u) (none some) ∙ append-nil taken) p);
    ends = ends;
  },
)

through_some : (why : End) (over : Option Over) → is_through why ≡ true → why ≡ end_by over → IsSome over
through_some why None is same = absurd (false≢true (sym (ap is_through same) ∙ is))
through_some why (Some over) is same = refl

told_some : (why : End) (turns : List Turn) (over : Option Over) → (has_ended turns ≡ true → IsSome over) → EndsOver (Err why) over → (is_through why || has_ended turns) ≡ true → IsSome over
told_some why turns over told ends is = by (is_through why) refl is
  where
    by : (b : Bool) → is_through why ≡ b → (b || has_ended turns) ≡ true → IsSome over
    by true through is = through_some why over through (ends through)
    by false not is = told is

-- a connection was made, and turns were taken on it
pub turned : (core : CoreValue) (tries patience : ℕ) (script : Option Coming) (stood : Bool) (why last : End) (s' : State) (over : Option Over) (a m b : Outside)
    → Holds core.setting (joined_with core) (joined_client core.setting) → Progress script a.reads.faults [] a.reads
    → Went tries patience stood (joined_with core) why s' over a m → Closes s'.running why last m.link b.link m.sink b.sink → b.reads ≡ m.reads → b.told ≡ m.told
    → Turned core tries patience script a.reads.faults b.reads.faults a.told b.told stood why last a.link b.link a.sink b.sink
turned core tries patience script stood why last s' over a m b holds start w closes reads told = record {
  joining = w.joins.events;
  joined = w.joins.so;
  turns = turns;
  are = w.goes.ran.are;
  allowed = (turns_along core.setting turns (joined_with core) c w.goes.ran.are holds).allowed;
  cause = ends_caused core.setting patience (joined_with core) c turns why w.goes.ran.are holds refl refl refl w.goes.ran.reaches.0;
  few = subst (AreFew why) (sym holds'.frames) w.goes.ran.reaches.2;
  taken = w.goes.taken;
  unbegun = w.goes.unbegun;
  one = w.goes.few;
  follows = w.goes.follows;
  calls = (
    subst (AreFirst (begun_in (events_in turns))) (sym (follows_calls turns (joined_with core) w.goes.taken w.goes.follows)) begun.first,
    λ through. begun.whole (through_over patience why (after_turns turns (joined_with core)) through w.goes.ran.reaches.0)
        ∙ sym (follows_calls turns (joined_with core) w.goes.taken w.goes.follows),
  );
  front = script_front why script a.reads.faults (w.goes.taken ++ w.goes.unbegun) m.reads to;
  read = λ sound is. read_as (read_at why over script a.reads.faults w.goes.taken w.goes.unbegun m.reads (told_some why turns over w.goes.told w.goes.ends is) w.goes.none w.goes.stopped w.goes.ends
      (script_progress why script a.reads.faults (w.goes.taken ++ w.goes.unbegun) m.reads sound to));
  readings = w.goes.readings;
  times = w.goes.times;
  clock = told ∙ w.goes.clock;
  middle = m.link;
  came = came_then w.joins.events (events_in turns) a.link w.between m.link w.joins.came w.goes.ran.came;
  closed = closing.closed;
  closes = closing.closes;
  came_last = closing.came;
  between = m.sink;
  printed = w.goes.ran.printed;
  printed_last = closing.printed;
}
  where
    turns : List Turn
    turns = w.goes.ran.turns

    c : Client
    c = joined_client core.setting

    holds' : Holds core.setting (after_turns turns (joined_with core)) (all_after core.setting c (events_in turns))
    holds' = (turns_along core.setting turns (joined_with core) c w.goes.ran.are holds).holds

    begun : AreBegun turns (joined_with core)
    begun = turns_begun turns (joined_with core) refl w.goes.ran.are (all_tell turns (joined_with core) w.goes.ran.are)

    to : ScriptTo (Err why) script a.reads.faults (w.goes.taken ++ w.goes.unbegun) m.reads
    to = w.goes.script script a.reads.faults [] start

    read_as : (w.goes.unbegun ≡ []) × IsRead why script a.reads.faults m.reads.faults w.goes.taken → (w.goes.unbegun ≡ []) × IsRead why script a.reads.faults b.reads.faults w.goes.taken
    read_as x = subst (λ (r : Reads). (w.goes.unbegun ≡ []) × IsRead why script a.reads.faults r.faults w.goes.taken) (sym reads) x

    closing : Closing (errno_by why) why last (unanswered (all_after core.setting c (events_in turns))) m.link b.link m.sink b.sink
    closing = closing_of why last (unanswered (all_after core.setting c (events_in turns))) s'.running (after_turns turns (joined_with core)).running m.link b.link m.sink b.sink
        holds'.running w.goes.ran.reaches.1 closes

-- no connection was made: then nothing is closed
joins_more : (tries : ℕ) (stood : Bool) (why : End) (a b c : Seen) → Joins tries stood (Err why) a b → Came [] b c → Joins tries stood (Err why) a c
joins_more tries stood why a b c joins came = record {
  events = joins.events;
  came = subst (λ (l : List Event). Came l a c) (append-nil joins.events) (came_then joins.events [] a b c joins.came came);
  so = joins.so;
}

not_closed : (tries : ℕ) (stood : Bool) (why last : End) (running : List ℕ) (events : List Event) (a b : Seen) (h k : Held) → JoinsSo tries stood (Err why) events
    → Closes running why last a b h k → ClosesBy None running why last a b h k
not_closed tries stood (end.Connects n) last running events a b h k so closes = closes
not_closed tries stood end.Memory last running events a b h k so closes = closes
not_closed tries stood end.Done last running events a b h k so closes = absurd so
not_closed tries stood (end.Line n) last running events a b h k so closes = absurd so
not_closed tries stood (end.Mount what) last running events a b h k so closes = absurd so
not_closed tries stood (end.Frame n what) last running events a b h k so closes = absurd so
not_closed tries stood end.Cuts last running events a b h k so closes = absurd so
not_closed tries stood end.Source last running events a b h k so closes = absurd so
not_closed tries stood end.Sink last running events a b h k so closes = absurd so
not_closed tries stood end.Frames last running events a b h k so closes = absurd so

pub unjoined : (tries : ℕ) (stood : Bool) (why last : End) (running : List ℕ) (a m b : Outside) → NeverWent tries stood why a m → Closes running why last m.link b.link m.sink b.sink
    → b.reads ≡ m.reads → b.told ≡ m.told → Unjoined tries stood a.reads.faults b.reads.faults a.told b.told why last a.link b.link a.sink b.sink
unjoined tries stood why last running a m b never closes reads told =
    let none = not_closed tries stood why last running never.joins.events m.link b.link m.sink b.sink never.joins.so closes in
    record {
      joins = joins_more tries stood why a.link m.link b.link never.joins none.1.came;
      ends = none.0;
      faults_are = ap (λ (r : Reads). r.faults) (reads ∙ never.reads);
      told_is = told ∙ never.told;
      printed = took_then [] [] a.sink m.sink b.sink never.sink none.2;
    }

-- a run either made no connection, or took turns
pub went : (core : CoreValue) (tries patience : ℕ) (script : Option Coming) (stood : Bool) (last : End) (a b : Outside)
    → Holds core.setting (joined_with core) (joined_client core.setting) → Progress script a.reads.faults [] a.reads
    → (ran : RanScript tries patience stood (joined_with core) last a b)
    → Unjoined tries stood a.reads.faults b.reads.faults a.told b.told ran.why last a.link b.link a.sink b.sink
    ⊎ Turned core tries patience script a.reads.faults b.reads.faults a.told b.told stood ran.why last a.link b.link a.sink b.sink
went core tries patience script stood last a b holds start ran = by ran.through
  where
    by : RanThrough tries patience stood (joined_with core) ran.why ran.s' ran.over a ran.middle
        → Unjoined tries stood a.reads.faults b.reads.faults a.told b.told ran.why last a.link b.link a.sink b.sink
        ⊎ Turned core tries patience script a.reads.faults b.reads.faults a.told b.told stood ran.why last a.link b.link a.sink b.sink
    by (inl never) = inl (unjoined tries stood ran.why last ran.s'.running a ran.middle b never ran.closes ran.reads ran.told)
    by (inr w) = inr (turned core tries patience script stood ran.why last ran.s' ran.over a ran.middle b holds start w ran.closes ran.reads ran.told)

-- a whole run, with its last line
pub run_is : (seed host share : List ℕ) (tries patience : ℕ) (stood : Bool) (last : End) (a b : Outside) (out : Held) (status : ℕ)
    → a.reads.place ≡ first_place
    → (ran : RanScript tries patience stood (joined_with (core_of seed host share)) last a b) → PrintedEnd last b.sink out status
    → RunIs (core_of seed host share) tries patience (option_map coming_of a.reads.left) a.reads.faults b.reads.faults a.told b.told stood a.link b.link a.sink out status
run_is seed host share tries patience stood last a b out status place ran printed = record {
  why = ran.why;
  last = last;
  between = b.sink;
  went = way;
  printed = printed;
  fair = is_fair (core_of seed host share) tries patience (option_map coming_of a.reads.left) a.reads.faults b.reads.faults a.told b.told stood ran.why last a.link b.link a.sink b.sink way;
}
  where
    core : CoreValue
    core = core_of seed host share

    script_start : (r : Reads) → r.place ≡ first_place → Progress (option_map coming_of r.left) r.faults [] r
    script_start r is = progress_start (option_map coming_of r.left) r (ap (λ (p : Place). p.over) is)
        (by r.left ∙ ap (λ (p : Place). to_come p r.left) (sym is))
      where
        by : (left : Option (List ℕ)) → option_map coming_of left ≡ to_come first_place left
        by None = refl
        by (Some text) = refl

    way : Unjoined tries stood a.reads.faults b.reads.faults a.told b.told ran.why last a.link b.link a.sink b.sink
        ⊎ Turned core tries patience (option_map coming_of a.reads.left) a.reads.faults b.reads.faults a.told b.told stood ran.why last a.link b.link a.sink b.sink
    way = went core tries patience (option_map coming_of a.reads.left) stood last a b (start_holds seed host share) (script_start a.reads place) ran
