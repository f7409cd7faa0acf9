-- Turns, one after another.
use Rattle.std.proofs.Common.{◌≡◌, ◌⊎◌, inl, inr, ◌<◌, ℕ, Bool, true, false, List, [], ◌∷◌, ◌++◌, Option, Some, None, Result, Ok, Err, refl, ap, sym, ◌∙◌, subst, append_assoc, append-nil}
use Rattle.std.specs.Prelude.{OnOk, IfErr, is_some}
use Rattle.smb_head.specs.Stream.{first_of}
use Rattle.smb_link.specs.Came.{Seen, Came}
use Rattle.smb_link.specs.declared.event.Event.{Event}
use Rattle.smb_link.specs.declared.event.Event.TheVariants as event
use Rattle.smb_link.proofs.CameLaws.{came_none, came_then}
use Rattle.fs_ahead.specs.declared.asked.Over.{Over}
use Rattle.fs_ahead.specs.Script.{Place}
use Rattle.fs_ahead.specs.Steps.{IsAhead}
use Rattle.fs_core.specs.declared.fault.CoreFault.{CoreFault}
use Rattle.fs_core.specs.declared.fault.CoreFault.TheVariants as fault
use Rattle.fs_core.specs.declared.input.Input.{Input}
use Rattle.fs_core.specs.declared.input.Input.TheVariants as input
use Rattle.fs_core.specs.declared.output.Output.{Output}
use Rattle.fs_core.specs.Kept.{Kept, CoreValue}
use Rattle.fs_core.specs.Parts.{has_flight}
use Rattle.fs_core.specs.Event.{events_of, has_left, Goes, Stays, Lives, IsFaultOf, is_connected, last_after}
use Rattle.fs_client.specs.View.{Setting}
use Rattle.fs_top.specs.declared.engine.Engine.{Engine}
use Rattle.fs_top.specs.declared.run_end.End.{End}
use Rattle.fs_top.specs.declared.run_end.End.TheVariants as end
use Rattle.fs_top.specs.declared.run_end.Wrong.TheVariants as wrong
use Rattle.fs_top.specs.Printing.{Held, TookAll}
use Rattle.fs_top.specs.Turns.{Turn, State, Hears, Silently, Listened, Lost, IsOne, IsTurn, AreTurns, running_after, heard_one, heard_by, carried, after_turn, after_turns, pending_of, is_now, events_at, events_in, lines_by, lines_at}
use Rattle.fs_top.specs.declared.hear.TheConstants.{MAX_FRAMES}
use Rattle.fs_top.specs.Ends.{StopsAt, EndsAt, PrintedSo, AreFew}
use Rattle.fs_top.specs.Causes.{end_of}
use Rattle.fs_top.specs.Steps.{state_of, last_of, IsReadyFor, IsReady, CarriedTo, Carried, CoreStays, AllElse, Remain, Reaches, Ran, AreBy, RanBy, Gave, HeardTo, Heard, EndsOver}
use Rattle.fs_top.specs.Given.{is_through, IsStopped}
use Rattle.fs_top.proofs.Printing.{took_nothing, printed_then}
use Rattle.fs_top.proofs.Bytes.{parts, same_parts}

-- no turn
abbrev pub ran_none : (patience : ℕ) (s : State) (seen : Seen) (h : Held) → Ran patience s (Ok tt) s seen seen h h
ran_none patience s seen h = record { turns = []; are = tt; came = came_none seen; printed = took_nothing h; reaches = refl }

-- turns, and then turns
pub events_in-append : (xs ys : List Turn) → events_in (xs ++ ys) ≡ events_in xs ++ events_in ys
events_in-append [] ys = refl
events_in-append (x ∷ xs) ys = ap (λ (l : List Event). events_at x ++ l) (events_in-append xs ys) ∙ sym (append_assoc (events_at x) (events_in xs) (events_in ys))

pub lines_at-append : (xs ys : List Turn) → lines_at (xs ++ ys) ≡ lines_at xs ++ lines_at ys
lines_at-append [] ys = refl
lines_at-append (x ∷ xs) ys = ap (λ (l : List ℕ). lines_by x.outs ++ l) (lines_at-append xs ys) ∙ sym (append_assoc (lines_by x.outs) (lines_at xs) (lines_at ys))

pub after_turns-append : (xs ys : List Turn) (s : State) → after_turns (xs ++ ys) s ≡ after_turns ys (after_turns xs s)
after_turns-append [] ys s = refl
after_turns-append (x ∷ xs) ys s = after_turns-append xs ys (after_turn x s)

pub are_turns-append : (xs ys : List Turn) (s : State) → AreTurns s xs → AreTurns (after_turns xs s) ys → AreTurns s (xs ++ ys)
are_turns-append [] ys s first last = last
are_turns-append (x ∷ xs) ys s first last = (first.0, are_turns-append xs ys (after_turn x s) first.1 last)

abbrev pub ran_then : (patience : ℕ) (result : Result (Unit {0}) End) (s s1 s2 : State) (a b c : Seen) (h k l : Held) → Ran patience s (Ok tt) s1 a b h k → Ran patience s1 result s2 b c k l
    → Ran patience s result s2 a c h l
ran_then patience result s s1 s2 a b c h k l first last = record {
  turns = first.turns ++ last.turns;
  are = are_turns-append first.turns last.turns s first.are (subst (λ (x : State). AreTurns x last.turns) first.reaches last.are);
  came = subst (λ (e : List Event). Came e a c) (sym (events_in-append first.turns last.turns)) (came_then (events_in first.turns) (events_in last.turns) a b c first.came last.came);
  printed = subst (λ (t : List ℕ). PrintedSo result t h l) (sym (lines_at-append first.turns last.turns))
      (printed_then result (lines_at first.turns) (lines_at last.turns) h k l first.printed last.printed);
  reaches = subst (λ (x : State). Reaches patience result s2 x) (sym (after_turns-append first.turns last.turns s))
      (subst (λ (x : State). Reaches patience result s2 (after_turns last.turns x)) first.reaches last.reaches);
}

-- the inputs of turns
abbrev pub inputs_of : List Turn → List Input
inputs_of [] = []
inputs_of (t ∷ ts) = t.input ∷ inputs_of ts

inputs_of-append : (xs ys : List Turn) → inputs_of (xs ++ ys) ≡ inputs_of xs ++ inputs_of ys
inputs_of-append [] ys = refl
inputs_of-append (x ∷ xs) ys = ap (λ (l : List Input). x.input ∷ l) (inputs_of-append xs ys)

-- turns were taken at these inputs
pub record RanAt (at : List Input) (patience : ℕ) (s : State) (result : Result (Unit {0}) End) (s' : State) (old new : Seen) (out out' : Held) : Type 0 where
  pub ran : Ran patience s result s' old new out out'
  pub inputs : inputs_of ran.turns ≡ at

pub ran_at_then : (xs ys : List Input) (patience : ℕ) (result : Result (Unit {0}) End) (s s1 s2 : State) (a b c : Seen) (h k l : Held)
    → RanAt xs patience s (Ok tt) s1 a b h k → RanAt ys patience s1 result s2 b c k l → RanAt (xs ++ ys) patience s result s2 a c h l
ran_at_then xs ys patience result s s1 s2 a b c h k l first last = record {
  ran = ran_then patience result s s1 s2 a b c h k l first.ran last.ran;
  inputs = inputs_of-append first.ran.turns last.ran.turns ∙ ap (λ (i : List Input). i ++ inputs_of last.ran.turns) first.inputs
      ∙ ap (λ (i : List Input). xs ++ i) last.inputs;
}

pub ran_at_none : (patience : ℕ) (s : State) (seen : Seen) (h : Held) → RanAt [] patience s (Ok tt) s seen seen h h
ran_at_none patience s seen h = record { ran = ran_none patience s seen h; inputs = refl }

-- the calls that are unanswered
remain_any : (why : End) (running reached : List ℕ) → running ≡ reached → Remain why running reached
remain_any (end.Frame number what) running reached is = is
remain_any end.Cuts running reached is = is
remain_any end.Memory running reached is = tt
remain_any end.Sink running reached is = tt
remain_any end.Done running reached is = tt
remain_any (end.Line number) running reached is = tt
remain_any (end.Mount what) running reached is = tt
remain_any (end.Connects number) running reached is = tt
remain_any end.Source running reached is = tt
remain_any end.Frames running reached is = tt

running_one : (waits : Bool) (e : Event) (s : State) → (heard_one waits e s).running ≡ s.running
running_one waits (event.Marked m) s = refl
running_one waits (event.Sent frame) s = refl
running_one waits (event.Got bytes) s = refl
running_one waits event.Quiet s = refl
running_one waits event.Joined s = refl
running_one waits event.NotJoined s = refl
running_one waits event.Cut s = refl
running_one waits (event.Took mid) s = refl
running_one waits (event.Pend mid) s = refl
running_one waits (event.Act who request reply) s = refl
running_one waits (event.Break key state) s = refl
running_one waits (event.Dropped key) s = refl

running_heard : (waits : Bool) (events : List Event) (s : State) → (heard_by waits events s).running ≡ s.running
running_heard waits [] s = refl
running_heard waits (e ∷ events) s = running_heard waits events (heard_one waits e s) ∙ running_one waits e s

-- the core stops at an input
stop_prints : (f : CoreFault) (n : ℕ) (h : Held) → PrintedSo (Err (end_of f n)) [] h h
stop_prints fault.NoMemory n h = took_nothing h
stop_prints (fault.Protocol what) n h = took_nothing h
stop_prints (fault.Refused what) n h = took_nothing h

stop_at : (i : Input) (f : CoreFault) (e : Engine) → IsReadyFor i e → IsFaultOf i e.core f → StopsAt (state_of e (pending_of i)) f
stop_at i f e ready is = record {
  input = i;
  may = ready.may;
  connects = ready.connected;
  nothing_left = ready.outs;
  stands = refl;
  given = refl;
  is = is;
}

stop_ends : (patience : ℕ) (i : Input) (f : CoreFault) (e : Engine) → IsReadyFor i e → IsFaultOf i e.core f → EndsAt patience (end_of f e.received) (state_of e (pending_of i))
stop_ends patience i fault.NoMemory e ready is = tt
stop_ends patience i (fault.Protocol what) e ready is = (refl, stop_at i (fault.Protocol what) e ready is)
stop_ends patience i (fault.Refused what) e ready is = stop_at i (fault.Refused what) e ready is

stop_few : (f : CoreFault) (n : ℕ) → n < MAX_FRAMES → AreFew (end_of f n) n
stop_few fault.NoMemory n few = tt
stop_few (fault.Protocol what) n few = few
stop_few (fault.Refused what) n few = few

pub ran_stop : (i : Input) (f : CoreFault) (why : End) (e : Engine) (s' : State) (seen : Seen) (h : Held) → s'.running ≡ e.running → IsReadyFor i e → IsFaultOf i e.core f
    → why ≡ end_of f e.received → RanBy i e.patience (state_of e (pending_of i)) (Err why) s' seen seen h h
ran_stop i f why e s' seen h same ready is ends = subst (λ (x : End). RanBy i e.patience (state_of e (pending_of i)) (Err x) s' seen seen h h) (sym ends) (record {
  ran = record {
    turns = [];
    are = tt;
    came = came_none seen;
    printed = stop_prints f e.received h;
    reaches = (stop_ends e.patience i f e ready is, remain_any (end_of f e.received) s'.running e.running same, stop_few f e.received ready.few);
  };
  by = tt;
})

-- where the core stops, the run does not end with its script
stop_not_through : (f : CoreFault) (n : ℕ) → is_through (end_of f n) ≡ false
stop_not_through fault.NoMemory n = refl
stop_not_through (fault.Protocol what) n = refl
stop_not_through (fault.Refused what) n = refl

pub not_through : (why : End) (over : Option Over) → is_through why ≡ false → EndsOver (Err why) over
not_through why over not = λ is. absurd (no_both (is_through why) is not)
  where
    no_both : (b : Bool) → b ≡ true → b ≡ false → ⊥
    no_both b is' not' = cc

pub stop_over : (f : CoreFault) (n : ℕ) (why : End) (over : Option Over) → why ≡ end_of f n → EndsOver (Err why) over
stop_over f n why over is = not_through why over (ap is_through is ∙ stop_not_through f n)

-- the turn of an input that the core took
abbrev turn_of : (i : Input) (before mid : CoreValue) (did left : List Output) (heard : List Event) → Turn
turn_of i before mid did left heard = record { input = i; before = before; mid = mid; outs = did; left = left; heard = heard }

hears_so : (result : Result (Unit {0}) End) (i : Input) (before mid : CoreValue) (did left : List Output) (heard : List Event) (running running' : List ℕ) → CarriedTo result did left heard running running'
    → Hears (turn_of i before mid did left heard)
hears_so (Ok done) i before mid did left heard running running' to = Silently to.1
hears_so (Err end.Memory) i before mid did left heard running running' to = Silently to
hears_so (Err end.Sink) i before mid did left heard running running' to = Silently to
hears_so (Err end.Cuts) i before mid did left heard running running' to = Lost to.1 to.0
hears_so (Err end.Done) i before mid did left heard running running' to = Silently to.0
hears_so (Err (end.Line number)) i before mid did left heard running running' to = Silently to.0
hears_so (Err end.Source) i before mid did left heard running running' to = Silently to.0
hears_so (Err (end.Mount why)) i before mid did left heard running running' to = absurd to
hears_so (Err (end.Frame number what)) i before mid did left heard running running' to = absurd to
hears_so (Err (end.Connects number)) i before mid did left heard running running' to = absurd to
hears_so (Err end.Frames) i before mid did left heard running running' to = absurd to

-- what the core said of the input
pub record Took (i : Input) (before mid : CoreValue) : Type 0 where
  pub goes : Goes i before mid
  pub stays : Stays i before.kept mid.kept
  pub lives : Lives mid.kept

is_turn : (result : Result (Unit {0}) End) (i : Input) (e : Engine) (mid : CoreValue) (running' : List ℕ) (a b : Seen) (h k : Held) → IsReadyFor i e → Took i e.core mid
    → (c : Carried result mid.outs e.running running' a b h k) → IsTurn (state_of e (pending_of i)) (turn_of i e.core mid c.did c.left c.heard)
is_turn result i e mid running' a b h k ready took c = record {
  before = refl;
  nothing_left = ready.outs;
  stands = refl;
  goes_on = refl;
  may = ready.may;
  connects = ready.connected;
  given = refl;
  goes = took.goes;
  stays = took.stays;
  lives = took.lives;
  popped = c.popped;
  hears = hears_so result i e.core mid c.did c.left c.heard e.running running' c.to;
}

-- the core and the engine once all was carried out
abbrev core_with : Setting → Kept → List Output → CoreValue
core_with setting kept outs = record { setting = setting; kept = kept; outs = outs }

same_core : (setting setting' : Setting) (kept kept' : Kept) (outs outs' : List Output) → setting ≡ setting' → kept ≡ kept' → outs ≡ outs'
    → core_with setting kept outs ≡ core_with setting' kept' outs'
same_core setting setting' kept kept' outs outs' a b c =
    ap (λ (x : Setting). core_with x kept outs) a ∙ ap (λ (x : Kept). core_with setting' x outs) b ∙ ap (λ (x : List Output). core_with setting' kept' x) c

reached : (i : Input) (e e' : Engine) (mid : CoreValue) (did left : List Output) (heard : List Event) → CoreStays (Ok tt) mid e'.core → AllElse (record e { core = mid }) e'
    → left ≡ [] → has_left did ≡ false → e'.running ≡ running_after did e.running → state_of e' [] ≡ carried (turn_of i e.core mid did left heard) (state_of e (pending_of i))
reached i e e' mid did left heard core rest none stays runs =
    same_parts e'.core (core_with mid.setting mid.kept left) e'.running (running_after did e.running) e'.frames e.frames e'.received e.received e'.silences e.silences [] []
    (same_core e'.core.setting mid.setting e'.core.kept mid.kept e'.core.outs left core.setting core.kept (core.outs ∙ sym none)) runs rest.frames rest.received rest.silences refl
    ∙ ap (λ (b : Bool). record (parts (core_with mid.setting mid.kept left) (running_after did e.running) e.frames e.received e.silences []) { over = b }) (sym stays)

pub gave : (i : Input) (e e' : Engine) (mid : CoreValue) (a b : Seen) (h k : Held) → IsReadyFor i e → Took i e.core mid → Carried (Ok tt) mid.outs e.running e'.running a b h k
    → CoreStays (Ok tt) mid e'.core → AllElse (record e { core = mid }) e' → Gave i (state_of e (pending_of i)) (state_of e' []) a b h k
gave i e e' mid a b h k ready took c core rest = record {
  turn = turn_of i e.core mid c.did c.left c.heard;
  input = refl;
  is = is_turn (Ok tt) i e mid e'.running a b h k ready took c;
  all = c.to.0;
  silent = c.to.1;
  came = subst (λ (x : List Event). Came x a b) (ap (λ (x : List Event). events_of c.did ++ x) c.to.1 ∙ append-nil (events_of c.did)) c.came;
  printed = c.printed;
  then = reached i e e' mid c.did c.left c.heard core rest c.to.0 c.to.2 c.to.3;
}

pub gave_ready : (i : Input) (e e' : Engine) (mid : CoreValue) → IsReadyFor i e → Took i e.core mid → CoreStays (Ok tt) mid e'.core → AllElse (record e { core = mid }) e' → IsReady e'
gave_ready i e e' mid ready took core rest = record {
  may = tt;
  outs = core.outs;
  partial = ap first_of rest.frames ∙ ready.partial;
  few = subst (λ (n : ℕ). n < MAX_FRAMES) (sym rest.received) ready.few;
  patient = subst (λ (n : ℕ). n < e'.patience) (sym rest.silences) (subst (λ (n : ℕ). e.silences < n) (sym rest.patience) ready.patient);
  ended = ap is_some rest.over ∙ ready.ended ∙ sym took.stays.ended ∙ sym (ap (λ (x : Kept). x.ended) core.kept);
  stopped = subst (λ (o : Option Over). IsStopped o e'.ahead) (sym rest.over) (subst (λ (p : Place). IsStopped e.over p) (sym rest.ahead) ready.stopped);
  ahead = subst (λ (x : Option ℕ). IsAhead (last_of x) e'.ahead) (sym (ap (λ (x : Kept). x.last) core.kept ∙ took.stays.last))
      (subst (λ (p : Place). IsAhead (last_of (last_after i e.core.kept.last)) p) (sym rest.ahead) ready.ahead);
  connected = ap (λ (x : Kept). is_connected x.phase) core.kept ∙ took.stays.connected ∙ ready.connected;
}

-- the run ends while outputs are carried out
carry_ends : (patience : ℕ) (why : End) (i : Input) (before mid : CoreValue) (did left : List Output) (heard : List Event) (running running' : List ℕ) (s : State)
    → CarriedTo (Err why) did left heard running running' → EndsAt patience why (after_turn (turn_of i before mid did left heard) s)
carry_ends patience end.Memory i before mid did left heard running running' s to = tt
carry_ends patience end.Sink i before mid did left heard running running' s to = tt
carry_ends patience end.Cuts i before mid did left heard running running' s to =
    inl (ap (λ (x : List Event). (heard_by (has_flight mid.kept.flights) x (carried (turn_of i before mid did left []) s)).connected) to.0)
carry_ends patience end.Done i before mid did left heard running running' s to =
    ap (λ (x : List Event). (heard_by (has_flight mid.kept.flights) x (carried (turn_of i before mid did left []) s)).over) to.0 ∙ to.1
carry_ends patience (end.Line number) i before mid did left heard running running' s to =
    ap (λ (x : List Event). (heard_by (has_flight mid.kept.flights) x (carried (turn_of i before mid did left []) s)).over) to.0 ∙ to.1
carry_ends patience end.Source i before mid did left heard running running' s to =
    ap (λ (x : List Event). (heard_by (has_flight mid.kept.flights) x (carried (turn_of i before mid did left []) s)).over) to.0 ∙ to.1
carry_ends patience (end.Mount what) i before mid did left heard running running' s to = absurd to
carry_ends patience (end.Frame number what) i before mid did left heard running running' s to = absurd to
carry_ends patience (end.Connects number) i before mid did left heard running running' s to = absurd to
carry_ends patience end.Frames i before mid did left heard running running' s to = absurd to

carry_remains : (why : End) (did left : List Output) (heard : List Event) (running running' now reached : List ℕ) → now ≡ running' → CarriedTo (Err why) did left heard running running'
    → reached ≡ running_after did running → Remain why now reached
carry_remains end.Cuts did left heard running running' now reached same to is = same ∙ to.2 ∙ sym is
carry_remains (end.Frame number what) did left heard running running' now reached same to is = absurd to
carry_remains end.Memory did left heard running running' now reached same to is = tt
carry_remains end.Sink did left heard running running' now reached same to is = tt
carry_remains end.Done did left heard running running' now reached same to is = tt
carry_remains (end.Line number) did left heard running running' now reached same to is = tt
carry_remains (end.Mount what) did left heard running running' now reached same to is = tt
carry_remains (end.Connects number) did left heard running running' now reached same to is = tt
carry_remains end.Source did left heard running running' now reached same to is = tt
carry_remains end.Frames did left heard running running' now reached same to is = tt

-- no frame comes while outputs are carried out
carry_few : (why : End) (i : Input) (before mid : CoreValue) (did left : List Output) (heard : List Event) (running running' : List ℕ) (s : State) → s.received < MAX_FRAMES
    → CarriedTo (Err why) did left heard running running' → AreFew why (after_turn (turn_of i before mid did left heard) s).received
carry_few why i before mid did left heard running running' s few to = by why to
  where
    same : (x : List Event) → heard ≡ x → (heard_by (has_flight mid.kept.flights) x (carried (turn_of i before mid did left []) s)).received ≡ s.received
        → (after_turn (turn_of i before mid did left heard) s).received < MAX_FRAMES
    same x is stays =
        subst (λ (n : ℕ). n < MAX_FRAMES) (sym (ap (λ (y : List Event). (heard_by (has_flight mid.kept.flights) y (carried (turn_of i before mid did left []) s)).received) is ∙ stays)) few

    by : (why : End) → CarriedTo (Err why) did left heard running running' → AreFew why (after_turn (turn_of i before mid did left heard) s).received
    by end.Memory to = tt
    by end.Sink to = same [] to refl
    by end.Cuts to = same (event.Cut ∷ []) to.0 refl
    by end.Done to = same [] to.0 refl
    by (end.Line number) to = same [] to.0 refl
    by end.Source to = same [] to.0 refl
    by (end.Mount what) to = absurd to
    by (end.Frame number what) to = absurd to
    by (end.Connects number) to = absurd to
    by end.Frames to = absurd to

pub gave_up : (patience : ℕ) (why : End) (i : Input) (e : Engine) (s' : State) (mid : CoreValue) (running' : List ℕ) (a b : Seen) (h k : Held) → s'.running ≡ running' → IsReadyFor i e → Took i e.core mid
    → Carried (Err why) mid.outs e.running running' a b h k → RanBy i patience (state_of e (pending_of i)) (Err why) s' a b h k
gave_up patience why i e s' mid running' a b h k same ready took c = record {
  ran = record {
    turns = turn_of i e.core mid c.did c.left c.heard ∷ [];
    are = (is_turn (Err why) i e mid running' a b h k ready took c, tt);
    came = subst (λ (x : List Event). Came x a b) (sym (append-nil (events_of c.did ++ c.heard))) c.came;
    printed = subst (λ (t : List ℕ). PrintedSo (Err why) t h k) (sym (append-nil (lines_by c.did))) c.printed;
    reaches = (
      carry_ends patience why i e.core mid c.did c.left c.heard e.running running' (state_of e (pending_of i)) c.to,
      carry_remains why c.did c.left c.heard e.running running' s'.running (after_turn (turn_of i e.core mid c.did c.left c.heard) (state_of e (pending_of i))).running same c.to
          (running_heard (has_flight mid.kept.flights) c.heard (carried (turn_of i e.core mid c.did c.left c.heard) (state_of e (pending_of i)))),
      carry_few why i e.core mid c.did c.left c.heard e.running running' (state_of e (pending_of i)) ready.few c.to,
    );
  };
  by = refl;
}

-- what is no refusal of the sink
prints : (result : Result (Unit {0}) End) (text : List ℕ) (h k : Held) → (result ≡ Err end.Sink → ⊥) → TookAll text h k → PrintedSo result text h k
prints (Ok done) text h k sound took = took
prints (Err end.Sink) text h k sound took = absurd (sound refl)
prints (Err end.Done) text h k sound took = took
prints (Err (end.Line number)) text h k sound took = took
prints (Err end.Memory) text h k sound took = took
prints (Err (end.Mount why)) text h k sound took = took
prints (Err (end.Frame number what)) text h k sound took = took
prints (Err (end.Connects number)) text h k sound took = took
prints (Err end.Cuts) text h k sound took = took
prints (Err end.Source) text h k sound took = took
prints (Err end.Frames) text h k sound took = took

ok_sound : (x : Result (Unit {0}) End) → x ≡ Ok tt → x ≡ Err end.Sink → ⊥
ok_sound x is is' = cc

-- a turn with what was heard then
pub record Given (s s1 : State) (i : Input) (heard : List Event) (a b : Seen) (h k : Held) : Type 0 where
  pub turn : Turn
  pub input : turn.input ≡ i
  pub is : IsTurn s turn
  pub came : Came (events_at turn) a b
  pub printed : TookAll (lines_by turn.outs) h k
  pub then : s1 ≡ after_turn turn s

given_silently : (i : Input) (s s1 : State) (a b : Seen) (h k : Held) → Gave i s s1 a b h k → Given s s1 i [] a b h k
given_silently i s s1 a b h k g = record {
  turn = g.turn;
  input = g.input;
  is = g.is;
  came = subst (λ (x : List Event). Came x a b) (sym (ap (λ (x : List Event). events_of g.turn.outs ++ x) g.silent ∙ append-nil (events_of g.turn.outs))) g.came;
  printed = g.printed;
  then = g.then ∙ ap (λ (x : List Event). heard_by (has_flight g.turn.mid.kept.flights) x (carried g.turn s)) (sym g.silent);
}

given_heard : (time : ℕ) (s s1 : State) (heard : List Event) (a b c : Seen) (h k : Held) → s1.over ≡ false → Gave (input.Now time) s s1 a b h k → IsOne heard → Came heard b c
    → Given s (heard_by (has_flight s1.core.kept.flights) heard s1) (input.Now time) heard a c h k
given_heard time s s1 heard a b c h k on g one came = record {
  turn = record g.turn { heard = heard };
  input = g.input;
  is = record {
    before = g.is.before;
    nothing_left = g.is.nothing_left;
    stands = g.is.stands;
    goes_on = g.is.goes_on;
    may = g.is.may;
    connects = g.is.connects;
    given = g.is.given;
    goes = g.is.goes;
    stays = g.is.stays;
    lives = g.is.lives;
    popped = g.is.popped;
    hears = Listened (ap is_now g.input) g.all (sym (ap (λ (x : State). x.over) g.then) ∙ on) one;
  };
  came = came_then (events_of g.turn.outs) heard a b c g.came came;
  printed = g.printed;
  then = ap (λ (x : State). heard_by (has_flight x.core.kept.flights) heard x) g.then;
}

pub given_ran : (patience : ℕ) (result : Result (Unit {0}) End) (i : Input) (s s1 s2 : State) (heard : List Event) (a b : Seen) (h k : Held) → Given s s1 i heard a b h k
    → (result ≡ Err end.Sink → ⊥) → Reaches patience result s2 s1 → RanAt (i ∷ []) patience s result s2 a b h k
given_ran patience result i s s1 s2 heard a b h k g sound reaches = record {
  ran = record {
    turns = g.turn ∷ [];
    are = (g.is, tt);
    came = subst (λ (x : List Event). Came x a b) (sym (append-nil (events_at g.turn))) g.came;
    printed = prints result (lines_by g.turn.outs ++ []) h k sound (subst (λ (t : List ℕ). TookAll t h k) (sym (append-nil (lines_by g.turn.outs))) g.printed);
    reaches = subst (λ (x : State). Reaches patience result s2 x) g.then reaches;
  };
  inputs = ap (λ (x : Input). x ∷ []) g.input;
}

pub gave_ran : (patience : ℕ) (i : Input) (s s1 : State) (a b : Seen) (h k : Held) → Gave i s s1 a b h k → RanAt (i ∷ []) patience s (Ok tt) s1 a b h k
gave_ran patience i s s1 a b h k g = given_ran patience (Ok tt) i s s1 s1 [] a b h k (given_silently i s s1 a b h k g) (ok_sound (Ok tt) refl) refl

-- the clock is told, and something is heard
pub listened_none : (patience time : ℕ) (s : State) (e e' : Engine) (a b c : Seen) (h k : Held) → Gave (input.Now time) s (state_of e []) a b h k → e.patience ≡ patience → Heard (Ok None) e e' b c
    → RanAt (input.Now time ∷ []) patience s (Ok tt) (state_of e' []) a c h k
listened_none patience time s e e' a b c h k g is heard =
    given_ran patience (Ok tt) (input.Now time) s (heard_by (has_flight e.core.kept.flights) heard.heard (state_of e [])) (state_of e' []) heard.heard a c h k
    (given_heard time s (state_of e []) heard.heard a b c h k refl g heard.one heard.came) (ok_sound (Ok tt) refl) heard.to

pub listened_frame : (patience time : ℕ) (frame : List ℕ) (s : State) (e e' : Engine) (a b c : Seen) (h k : Held) → Gave (input.Now time) s (state_of e []) a b h k → e.patience ≡ patience
    → Heard (Ok (Some frame)) e e' b c → RanAt (input.Now time ∷ []) patience s (Ok tt) (state_of e' (frame ∷ [])) a c h k
listened_frame patience time frame s e e' a b c h k g is heard =
    given_ran patience (Ok tt) (input.Now time) s (heard_by (has_flight e.core.kept.flights) heard.heard (state_of e [])) (state_of e' (frame ∷ [])) heard.heard a c h k
    (given_heard time s (state_of e []) heard.heard a b c h k refl g heard.one heard.came) (ok_sound (Ok tt) refl) heard.to

heard_ends : (patience : ℕ) (why : End) (e' : Engine) (r : State) → HeardTo patience (Err why) e' r → EndsAt patience why r × AreFew why r.received × ((x : Result (Unit {0}) End) → x ≡ Err why → x ≡ Err end.Sink → ⊥)
heard_ends patience end.Sink e' r to = absurd to
heard_ends patience end.Memory e' r to = (to.0, to.1, λ x is is'. cc)
heard_ends patience end.Done e' r to = (to.0, to.1, λ x is is'. cc)
heard_ends patience (end.Line number) e' r to = (to.0, to.1, λ x is is'. cc)
heard_ends patience (end.Mount what) e' r to = (to.0, to.1, λ x is is'. cc)
heard_ends patience (end.Frame number wrong.Length) e' r to = (to.0, to.1, λ x is is'. cc)
heard_ends patience (end.Frame number (wrong.Protocol what)) e' r to = (to.0, to.1, λ x is is'. cc)
heard_ends patience (end.Connects number) e' r to = (to.0, to.1, λ x is is'. cc)
heard_ends patience end.Cuts e' r to = (to.0, to.1, λ x is is'. cc)
heard_ends patience end.Source e' r to = (to.0, to.1, λ x is is'. cc)
heard_ends patience end.Frames e' r to = (to.0, to.1, λ x is is'. cc)

pub listened_end : (patience time : ℕ) (why : End) (s s' : State) (e e' : Engine) (a b c : Seen) (h k : Held) → Gave (input.Now time) s (state_of e []) a b h k → e.patience ≡ patience
    → s'.running ≡ e.running → Heard (Err why) e e' b c → RanAt (input.Now time ∷ []) patience s (Err why) s' a c h k
listened_end patience time why s s' e e' a b c h k g is same heard =
    let ends = heard_ends patience why e' (heard_by (has_flight e.core.kept.flights) heard.heard (state_of e []))
    (subst (λ (p : ℕ). HeardTo p (Err why) e' (heard_by (has_flight e.core.kept.flights) heard.heard (state_of e []))) is heard.to) in
    given_ran patience (Err why) (input.Now time) s (heard_by (has_flight e.core.kept.flights) heard.heard (state_of e [])) s' heard.heard a c h k
    (given_heard time s (state_of e []) heard.heard a b c h k refl g heard.one heard.came) (ends.2 (Err why) refl)
    (ends.0, remain_any why s'.running (heard_by (has_flight e.core.kept.flights) heard.heard (state_of e [])).running (same ∙ sym (running_heard (has_flight e.core.kept.flights) heard.heard (state_of e []))), ends.1)

-- an input that the core took, by how carrying out went
pub took_gave : (result : Result (Unit {0}) End) (i : Input) (e e' : Engine) (mid : CoreValue) (a b : Seen) (h k : Held) → IsReadyFor i e → Took i e.core mid
    → Carried result mid.outs e.running e'.running a b h k → CoreStays result mid e'.core → AllElse (record e { core = mid }) e'
    → OnOk result (Gave i (state_of e (pending_of i)) (state_of e' []) a b h k)
took_gave (Ok done) i e e' mid a b h k ready took c core rest = gave i e e' mid a b h k ready took c core rest
took_gave (Err why) i e e' mid a b h k ready took c core rest = tt

pub took_ends : (result : Result (Unit {0}) End) (i : Input) (e e' : Engine) (s' : State) (mid : CoreValue) (a b : Seen) (h k : Held) → s'.running ≡ e'.running → IsReadyFor i e → Took i e.core mid
    → Carried result mid.outs e.running e'.running a b h k → IfErr result (λ why. RanBy i e.patience (state_of e (pending_of i)) (Err why) s' a b h k)
took_ends (Ok done) i e e' s' mid a b h k same ready took c = tt
took_ends (Err why) i e e' s' mid a b h k same ready took c = gave_up e.patience why i e s' mid e'.running a b h k same ready took c

pub took_ready : (result : Result (Unit {0}) End) (i : Input) (e e' : Engine) (mid : CoreValue) → IsReadyFor i e → Took i e.core mid → CoreStays result mid e'.core
    → AllElse (record e { core = mid }) e' → OnOk result (IsReady e')
took_ready (Ok done) i e e' mid ready took core rest = gave_ready i e e' mid ready took core rest
took_ready (Err why) i e e' mid ready took core rest = tt

-- the clock may be told, and a frame given, between two turns
pub ready_now : (time : ℕ) (e : Engine) → IsReady e → IsReadyFor (input.Now time) e
ready_now time e r = record {
  may = tt;
  outs = r.outs;
  partial = r.partial;
  few = r.few;
  patient = r.patient;
  ended = r.ended;
  stopped = r.stopped;
  ahead = r.ahead;
  connected = r.connected;
}

pub ready_frame : (frame : List ℕ) (e : Engine) → IsReady e → IsReadyFor (input.Frame frame) e
ready_frame frame e r = record {
  may = r.connected;
  outs = r.outs;
  partial = r.partial;
  few = r.few;
  patient = r.patient;
  ended = r.ended;
  stopped = r.stopped;
  ahead = r.ahead;
  connected = r.connected;
}

-- an input was given behind turns at these: a turn was taken at it, or the core stopped at it
abbrev pub Tried : List Input → Input → ℕ → State → Result (Unit {0}) End → State → Seen → Seen → Held → Held → Type 0
Tried at i patience s result s' a b h k =
    RanAt (at ++ i ∷ []) patience s result s' a b h k ⊎ ((why : End) × (result ≡ Err why) × RanAt at patience s (Err why) s' a b h k)

by_one : (i : Input) (ts : List Turn) → AreBy i ts → (inputs_of ts ≡ []) ⊎ (inputs_of ts ≡ i ∷ [])
by_one i [] by = inl refl
by_one i (t ∷ []) by = inr (ap (λ (x : Input). x ∷ []) by)
by_one i (t ∷ u ∷ ts) by = absurd by

ran_by : (i : Input) (patience : ℕ) (why : End) (s s' : State) (a b : Seen) (h k : Held) → RanBy i patience s (Err why) s' a b h k → Tried [] i patience s (Err why) s' a b h k
ran_by i patience why s s' a b h k r = elim (by_one i r.ran.turns r.by) [
  | inl none ↦ inr (why, refl, record { ran = r.ran; inputs = none })
  | inr one ↦ inl (record { ran = r.ran; inputs = one })
]

pub tried : (patience : ℕ) (result : Result (Unit {0}) End) (i : Input) (s s1 : State) (a b : Seen) (h k : Held)
    → OnOk result (Gave i s s1 a b h k) → IfErr result (λ why. RanBy i patience s (Err why) s1 a b h k) → Tried [] i patience s result s1 a b h k
tried patience (Ok done) i s s1 a b h k gave ends = inl (gave_ran patience i s s1 a b h k gave)
tried patience (Err why) i s s1 a b h k gave ends = ran_by i patience why s s1 a b h k ends

pub tried_then : (at : List Input) (i : Input) (patience : ℕ) (result : Result (Unit {0}) End) (s s1 s2 : State) (a b c : Seen) (h k l : Held)
    → RanAt at patience s (Ok tt) s1 a b h k → Tried [] i patience s1 result s2 b c k l → Tried at i patience s result s2 a c h l
tried_then at i patience result s s1 s2 a b c h k l first (inl more) = inl (ran_at_then at (i ∷ []) patience result s s1 s2 a b c h k l first more)
tried_then at i patience result s s1 s2 a b c h k l first (inr (why, is, none)) =
    inr (why, is, subst (λ (x : List Input). RanAt x patience s (Err why) s2 a c h l) (append-nil at) (ran_at_then at [] patience (Err why) s s1 s2 a b c h k l first none))

-- the run ends at once for want of memory
pub memory_prints : (e : End) (h : Held) → e ≡ end.Memory → PrintedSo (Err e) [] h h
memory_prints e h is = subst (λ (x : End). PrintedSo (Err x) [] h h) (sym is) (took_nothing h)

pub memory_reaches : (patience : ℕ) (e : End) (s s' : State) → e ≡ end.Memory → Reaches patience (Err e) s' s
memory_reaches patience e s s' is = subst (λ (x : End). Reaches patience (Err x) s' s) (sym is) (tt, tt, tt)

abbrev pub ran_memory : (patience : ℕ) (e : End) (s s' : State) (seen : Seen) (h : Held) → e ≡ end.Memory → Ran patience s (Err e) s' seen seen h h
ran_memory patience e s s' seen h is =
    record { turns = []; are = tt; came = came_none seen; printed = memory_prints e h is; reaches = memory_reaches patience e s s' is }

-- so many turns are enough
abbrev pub ran_out : (patience : ℕ) (s s1 s' : State) (a b : Seen) (h k : Held) → Ran patience s (Ok tt) s1 a b h k → Ran patience s (Err end.Memory) s' a b h k
ran_out patience s s1 s' a b h k first = ran_then patience (Err end.Memory) s s1 s' a b b h k k first (ran_memory patience end.Memory s1 s' b k refl)
