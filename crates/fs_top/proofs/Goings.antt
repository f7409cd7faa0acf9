-- Turns with all that is outside, one after the other.
use Rattle.std.proofs.Common.{◌≡◌, ◌⊎◌, inl, inr, ℕ, Bool, true, false, ◌||◌, List, [], ◌∷◌, ◌++◌, Option, Some, None, Result, Ok, Err, refl, ap, sym, ◌∙◌, subst, append_assoc, append-nil, arith, rules}
use Rattle.std.specs.Prelude.{IsSome, nat_eq}
use Rattle.smb_link.specs.Came.{Seen, Came}
use Rattle.smb_link.specs.Once.{told_once, all_told_once}
use Rattle.smb_link.specs.declared.event.Event.{Event}
use Rattle.smb_link.proofs.CameLaws.{came_none}
use Rattle.fs_ahead.specs.declared.asked.Asked.{Asked}
use Rattle.fs_ahead.specs.declared.asked.Asked.TheVariants as asked
use Rattle.fs_ahead.specs.declared.asked.Over.{Over}
use Rattle.fs_ahead.specs.Script.{Coming}
use Rattle.fs_ahead.specs.Progress.{Reads, Progress}
use Rattle.fs_ahead.proofs.Progressing.{progress_front}
use Rattle.fs_core.specs.declared.input.Input.{Input}
use Rattle.fs_core.specs.declared.input.Input.TheVariants as input
use Rattle.fs_core.specs.Parts.{has_flight}
use Rattle.fs_core.specs.Event.{events_of}
use Rattle.fs_top.specs.declared.run_end.End.{End}
use Rattle.fs_top.specs.declared.run_end.End.TheVariants as end
use Rattle.fs_top.specs.Printing.{Held, TookAll}
use Rattle.fs_top.specs.Turns.{Turn, State, heard_by, carried, after_turn, after_turns, events_at, lines_by}
use Rattle.fs_top.specs.Steps.{RanBy, Gave, AreBy, EndsOver}
use Rattle.fs_top.specs.Given.{ArePassed, Takes, Follows, is_end, has_ended, time_by, times_in, AreTimes, told_with, ScriptTo, IsStopped}
use Rattle.fs_top.specs.Going.{Outside, Goes}
use Rattle.fs_top.proofs.Printing.{took_nothing}
use Rattle.fs_top.proofs.Outputs.{on_ok}
use Rattle.fs_top.proofs.Runs.{ran_then}

-- pauses, and then more of them
passed_then : (a b : List Asked) (running : List ℕ) → ArePassed a running → ArePassed b running → ArePassed (a ++ b) running
passed_then [] b running first last = last
passed_then (asked.Wait ∷ a) b running first last = (first.0, passed_then a b running first.1 last)
passed_then (asked.Call x ∷ a) b running first last = absurd first

-- pauses before what is taken for an input
takes_behind : (i : Input) (running : List ℕ) (a now : List Asked) → ArePassed a running → Takes i running now → Takes i running (a ++ now)
takes_behind (input.Begin number lane call) running a now first last = (
  a ++ last.0,
  ap (λ (l : List Asked). a ++ l) last.1 ∙ sym (append_assoc a last.0 (asked.Call (record { number = number; lane = lane; call = call }) ∷ [])),
  passed_then a last.0 running first last.2,
)
takes_behind (input.Frame frame) running a now first last = passed_then a now running first last
takes_behind input.Cut running a now first last = passed_then a now running first last
takes_behind input.Joined running a now first last = passed_then a now running first last
takes_behind (input.Now time) running a now first last = passed_then a now running first last
takes_behind input.End running a now first last = passed_then a now running first last

-- and before what is taken for turns
follows_behind : (a b : List Asked) (s : State) (us : List Turn) → ArePassed a s.running → Follows b s us → Follows (a ++ b) s us
follows_behind a b s [] first last = passed_then a b s.running first last
follows_behind a b s (u ∷ us) first last = (
  a ++ last.0,
  last.1,
  ap (λ (l : List Asked). a ++ l) last.2 ∙ sym (append_assoc a last.0 last.1),
  takes_behind u.input s.running a last.0 first last.3,
  last.4,
)

-- what is taken for turns, and then for more of them
pub follows_then : (a b : List Asked) (s : State) (ts us : List Turn) → Follows a s ts → Follows b (after_turns ts s) us → Follows (a ++ b) s (ts ++ us)
follows_then a b s [] us first last = follows_behind a b s us first last
follows_then a b s (t ∷ ts) us first last = (
  first.0,
  first.1 ++ b,
  ap (λ (l : List Asked). l ++ b) first.2 ∙ append_assoc first.0 first.1 b,
  first.3,
  follows_then first.1 b (after_turn t s) ts us first.4 last,
)

-- the client is told of the end in the first turns, or in the later ones
or_ways : (x a b y : Bool) → (y ≡ true → (a ≡ true) ⊎ (b ≡ true)) → (x || y) ≡ true → ((x || a) ≡ true) ⊎ (b ≡ true)
or_ways true a b y ways is = inl refl
or_ways false a b y ways is = ways is

ended_ways : (ts us : List Turn) → has_ended (ts ++ us) ≡ true → (has_ended ts ≡ true) ⊎ (has_ended us ≡ true)
ended_ways [] us is = inr is
ended_ways (t ∷ ts) us is = or_ways (is_end t.input) (has_ended ts) (has_ended us) (has_ended (ts ++ us)) (ended_ways ts us) is

-- times and readings, and then more of them
times_in-append : (ts us : List Turn) → times_in (ts ++ us) ≡ times_in ts ++ times_in us
times_in-append [] us = refl
times_in-append (t ∷ ts) us = ap (λ (l : List ℕ). time_by t.input ++ l) (times_in-append ts us) ∙ sym (append_assoc (time_by t.input) (times_in ts) (times_in us))

pub times_then : (result : Result (Unit {0}) End) (xs ys : List ℕ) (ts us : List Turn) → xs ≡ times_in ts → AreTimes result ys us → AreTimes result (xs ++ ys) (ts ++ us)
times_then (Ok done) xs ys ts us first last =
    ap (λ (l : List ℕ). l ++ ys) first ∙ ap (λ (l : List ℕ). times_in ts ++ l) last ∙ sym (times_in-append ts us)
times_then (Err why) xs ys ts us first last = (
  last.0,
  last.1,
  ap (λ (l : List ℕ). l ++ ys) first ∙ ap (λ (l : List ℕ). times_in ts ++ l) last.2 ∙ sym (append_assoc (times_in ts) (times_in us) last.0)
      ∙ ap (λ (l : List ℕ). l ++ last.0) (sym (times_in-append ts us)),
)

all_told-append : (xs ys told : List ℕ) → all_told_once nat_eq ys (all_told_once nat_eq xs told) ≡ all_told_once nat_eq (xs ++ ys) told
all_told-append [] ys told = refl
all_told-append (x ∷ xs) ys told = all_told-append xs ys (told_once nat_eq x told)

pub told_then : (xs ys : List ℕ) (told : Option (List ℕ)) → told_with ys (told_with xs told) ≡ told_with (xs ++ ys) told
told_then xs ys None = refl
told_then xs ys (Some told) = ap Some (all_told-append xs ys told)

pub told_none : (told : Option (List ℕ)) → told ≡ told_with [] told
told_none None = refl
told_none (Some told) = refl

-- how far the script was taken, where a run ends
pub script_to : (result : Result (Unit {0}) End) (script : Option Coming) (faults : ℕ) (taken : List Asked) (now : Reads) → Progress script faults taken now
    → ScriptTo result script faults taken now
script_to (Ok done) script faults taken now p = p
script_to (Err end.Memory) script faults taken now p = progress_front script faults taken now p
script_to (Err end.Sink) script faults taken now p = p
script_to (Err end.Done) script faults taken now p = p
script_to (Err (end.Line number)) script faults taken now p = p
script_to (Err (end.Mount why)) script faults taken now p = p
script_to (Err (end.Frame number what)) script faults taken now p = p
script_to (Err (end.Connects number)) script faults taken now p = p
script_to (Err end.Cuts) script faults taken now p = p
script_to (Err end.Source) script faults taken now p = p
script_to (Err end.Frames) script faults taken now p = p

no_some : false ≡ true → ⊥
no_some is = search rules

-- no turn
pub goes_none : (patience : ℕ) (s : State) (over : Option Over) (a : Outside) → IsStopped over a.reads.place → Goes patience s over (Ok tt) s over a a
goes_none patience s over a stopped = record {
  ran = record { turns = []; are = tt; came = came_none a.link; printed = took_nothing a.sink; reaches = refl };
  taken = [];
  unbegun = [];
  follows = tt;
  fresh = refl;
  few = omega arith;
  script = λ script faults before p. subst (λ (l : List Asked). Progress script faults l a.reads) (sym (append-nil before)) p;
  stays = λ some. (refl, refl);
  told = λ is. absurd (no_some is);
  none = λ some. refl;
  stopped = stopped;
  ends = tt;
  readings = [];
  clock = told_none a.told;
  times = refl;
}

-- turns, and then more of them
behind : (before t1 u1 t2 u2 : List Asked) → u1 ≡ [] → (before ++ (t1 ++ u1)) ++ (t2 ++ u2) ≡ before ++ ((t1 ++ t2) ++ u2)
behind before t1 u1 t2 u2 none =
    ap (λ (u : List Asked). (before ++ (t1 ++ u)) ++ (t2 ++ u2)) none ∙ ap (λ (l : List Asked). (before ++ l) ++ (t2 ++ u2)) (append-nil t1)
    ∙ append_assoc before t1 (t2 ++ u2) ∙ ap (λ (l : List Asked). before ++ l) (sym (append_assoc t1 t2 u2))

told_over : (ts us : List Turn) (over1 over2 : Option Over) → (has_ended ts ≡ true → IsSome over1) → (IsSome over1 → over2 ≡ over1) → (has_ended us ≡ true → IsSome over2)
    → (has_ended ts ≡ true) ⊎ (has_ended us ≡ true) → IsSome over2
told_over ts us over1 over2 first stays last (inl is) = subst IsSome (sym (stays (first is))) (first is)
told_over ts us over1 over2 first stays last (inr is) = last is

pub goes_then : (patience : ℕ) (result : Result (Unit {0}) End) (s s1 s2 : State) (over over1 over2 : Option Over) (a b c : Outside) → Goes patience s over (Ok tt) s1 over1 a b
    → Goes patience s1 over1 result s2 over2 b c → Goes patience s over result s2 over2 a c
goes_then patience result s s1 s2 over over1 over2 a b c first last =
    let unended : (has_ended first.ran.turns ≡ true) ⊎ (has_ended last.ran.turns ≡ true) → IsSome over2 =
    told_over first.ran.turns last.ran.turns over1 over2 first.told (λ some. (last.stays some).0) last.told in
    record {
      ran = ran_then patience result s s1 s2 a.link b.link c.link a.sink b.sink c.sink first.ran last.ran;
      taken = first.taken ++ last.taken;
      unbegun = last.unbegun;
      follows = follows_then first.taken last.taken s first.ran.turns last.ran.turns first.follows
          (subst (λ (x : State). Follows last.taken x last.ran.turns) first.ran.reaches last.follows);
      fresh = last.fresh;
      few = last.few;
      script = λ script faults before p.
          subst (λ (l : List Asked). ScriptTo result script faults l c.reads) (behind before first.taken first.unbegun last.taken last.unbegun first.fresh)
          (last.script script faults (before ++ (first.taken ++ first.unbegun)) (first.script script faults before p));
      stays = λ some.
          let one = first.stays some in
          let two = last.stays (subst IsSome (sym one.0) some) in
          (two.0 ∙ one.0, two.1 ∙ one.1);
      told = λ is. unended (ended_ways first.ran.turns last.ran.turns is);
      none = last.none;
      stopped = last.stopped;
      ends = last.ends;
      readings = first.readings ++ last.readings;
      clock = last.clock ∙ ap (told_with last.readings) first.clock ∙ told_then first.readings last.readings a.told;
      times = times_then result first.readings last.readings first.ran.turns last.ran.turns first.times last.times;
    }

-- turns, and then want of memory
goes_memory : (patience : ℕ) (s s' : State) (over : Option Over) (a : Outside) → IsStopped over a.reads.place → Goes patience s over (Err end.Memory) s' over a a
goes_memory patience s s' over a stopped = record {
  ran = record { turns = []; are = tt; came = came_none a.link; printed = took_nothing a.sink; reaches = (tt, tt, tt) };
  taken = [];
  unbegun = [];
  follows = tt;
  fresh = tt;
  few = omega arith;
  script = λ script faults before p.
      progress_front script faults (before ++ []) a.reads (subst (λ (l : List Asked). Progress script faults l a.reads) (sym (append-nil before)) p);
  stays = λ some. (refl, refl);
  told = λ is. absurd (no_some is);
  none = λ some. refl;
  stopped = stopped;
  ends = λ is. absurd (no_some is);
  readings = [];
  clock = told_none a.told;
  times = ([], omega arith, refl);
}

pub goes_out : (patience : ℕ) (s s1 s' : State) (over over1 : Option Over) (a b : Outside) → Goes patience s over (Ok tt) s1 over1 a b → Goes patience s over (Err end.Memory) s' over1 a b
goes_out patience s s1 s' over over1 a b first =
    goes_then patience (Err end.Memory) s s1 s' over over1 over1 a b b first (goes_memory patience s1 s' over1 b first.stopped)

-- one input that was given is a turn
pub gave_by : (i : Input) (patience : ℕ) (s s1 : State) (a b : Seen) (h k : Held) → Gave i s s1 a b h k → RanBy i patience s (Ok tt) s1 a b h k
gave_by i patience s s1 a b h k g =
    let events : events_at g.turn ++ [] ≡ events_of g.turn.outs =
    append-nil (events_at g.turn) ∙ ap (λ (x : List Event). events_of g.turn.outs ++ x) g.silent ∙ append-nil (events_of g.turn.outs) in
    record {
      ran = record {
        turns = g.turn ∷ [];
        are = (g.is, tt);
        came = subst (λ (x : List Event). Came x a b) (sym events) g.came;
        printed = subst (λ (t : List ℕ). TookAll t h k) (sym (append-nil (lines_by g.turn.outs))) g.printed;
        reaches = g.then ∙ ap (λ (x : List Event). heard_by (has_flight g.turn.mid.kept.flights) x (carried g.turn s)) (sym g.silent);
      };
      by = g.input;
    }

-- the turn at which a connection is made: nothing is read and no time is told
follows_joined : (s : State) (ts : List Turn) → AreBy input.Joined ts → Follows [] s ts
follows_joined s [] by = tt
follows_joined s (t ∷ []) by = ([], [], refl, subst (λ (i : Input). Takes i s.running []) (sym by) tt, tt)
follows_joined s (t ∷ u ∷ ts) by = absurd by

unended_joined : (ts : List Turn) → AreBy input.Joined ts → has_ended ts ≡ false
unended_joined [] by = refl
unended_joined (t ∷ []) by = ap (λ (i : Input). is_end i || false) by
unended_joined (t ∷ u ∷ ts) by = absurd by

times_joined : (ts : List Turn) → AreBy input.Joined ts → [] ≡ times_in ts
times_joined [] by = refl
times_joined (t ∷ []) by = ap (λ (i : Input). time_by i ++ []) (sym by)
times_joined (t ∷ u ∷ ts) by = absurd by

no_times : (result : Result (Unit {0}) End) (ts : List Turn) → [] ≡ times_in ts → AreTimes result [] ts
no_times (Ok done) ts none = none
no_times (Err why) ts none = ([], omega arith, none ∙ sym (append-nil (times_in ts)))

pub goes_joined : (patience : ℕ) (result : Result (Unit {0}) End) (s s' : State) (a b : Outside) → RanBy input.Joined patience s result s' a.link b.link a.sink b.sink
    → b.reads ≡ a.reads → b.told ≡ a.told → EndsOver result None → Goes patience s None result s' None a b
goes_joined patience result s s' a b r reads told ends = record {
  ran = r.ran;
  taken = [];
  unbegun = [];
  follows = follows_joined s r.ran.turns r.by;
  fresh = on_ok result refl;
  few = omega arith;
  script = λ script faults before p.
      script_to result script faults (before ++ []) b.reads
      (subst (λ (l : List Asked). Progress script faults l b.reads) (sym (append-nil before)) (subst (λ (r : Reads). Progress script faults before r) (sym reads) p));
  stays = λ some. absurd (no_some some);
  told = λ is. absurd (no_some (sym (unended_joined r.ran.turns r.by) ∙ is));
  none = λ some. refl;
  stopped = tt;
  ends = ends;
  readings = [];
  clock = told ∙ told_none a.told;
  times = no_times result r.ran.turns (times_joined r.ran.turns r.by);
}
