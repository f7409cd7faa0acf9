-- What a turn takes of the script and of the clock.
use Rattle.std.proofs.Common.{arith, ◌≡◌, inl, inr, ◌≤◌, ◌∙◌, refl, sym, ap, subst, ℕ, Bool, true, false, ◌||◌, List, [], ◌∷◌, ◌++◌, length, append-nil}
use Rattle.std.proofs.Common.{Option, Some, None, Result, Ok, Err}
use Rattle.std.specs.Prelude.{IsSome, is_some, OnOk, IfErr, option_map, nat_eq}
use Rattle.smb_link.specs.Came.{Seen}
use Rattle.smb_link.specs.Once.{told_once}
use Rattle.fs_ahead.specs.declared.asked.Asked.{Asked}
use Rattle.fs_ahead.specs.declared.asked.Asked.TheVariants as asked
use Rattle.fs_ahead.specs.declared.asked.Over.{Over}
use Rattle.fs_ahead.specs.Script.{Coming, Place}
use Rattle.fs_ahead.specs.Progress.{Reads, reads_by, Progress}
use Rattle.fs_ahead.proofs.Progressing.{progress_front}
use Rattle.fs_types.specs.declared.call.Call.{Call}
use Rattle.fs_core.specs.declared.input.Input.{Input}
use Rattle.fs_core.specs.declared.input.Input.TheVariants as input
use Rattle.fs_top.specs.declared.engine.Engine.{Engine}
use Rattle.fs_top.specs.declared.line.Next.{Next}
use Rattle.fs_top.specs.declared.line.Next.TheVariants as next
use Rattle.fs_top.specs.declared.run_end.End.{End}
use Rattle.fs_top.specs.declared.run_end.End.TheVariants as end
use Rattle.fs_top.specs.Printing.{Held}
use Rattle.fs_top.specs.Turns.{Turn, State, after_turn, pending_of}
use Rattle.fs_top.specs.Given.{ArePassed, Takes, Follows, is_end, has_ended, time_by, times_in, AreTimes, told_with, ScriptTo, IsStopped}
use Rattle.fs_top.specs.Steps.{state_of, IsReady, IsOfScript, Gives, IsSame, OverBy, ScriptGives, taken_by, EndsOver, Gave, RanBy}
use Rattle.fs_top.specs.Going.{Outside, Listens, Goes}
use Rattle.fs_top.proofs.Runs.{inputs_of, RanAt, ran_at_none, ran_memory, Tried, tried, tried_then}
use Rattle.fs_top.proofs.Scripts.{reads_at}
use Rattle.fs_top.proofs.Goings.{script_to, told_none}

-- what turns take is what their inputs take
abbrev ends_at : List Input → Bool
ends_at [] = false
ends_at (i ∷ is) = is_end i || ends_at is

has_ended_at : (ts : List Turn) → has_ended ts ≡ ends_at (inputs_of ts)
has_ended_at [] = refl
has_ended_at (t ∷ ts) = ap (λ (b : Bool). is_end t.input || b) (has_ended_at ts)

abbrev times_at : List Input → List ℕ
times_at [] = []
times_at (i ∷ is) = time_by i ++ times_at is

times_in_at : (ts : List Turn) → times_in ts ≡ times_at (inputs_of ts)
times_in_at [] = refl
times_in_at (t ∷ ts) = ap (λ (l : List ℕ). time_by t.input ++ l) (times_in_at ts)

-- the first input takes all that is taken, and the others nothing
abbrev AreIdle : List Input → Type 0
AreIdle [] = Unit {0}
AreIdle (input.Begin number lane call ∷ is) = ⊥
AreIdle (i ∷ is) = AreIdle is

abbrev TakesAt : List Asked → List ℕ → List Input → Type 0
TakesAt taken running [] = ArePassed taken running
TakesAt taken running (i ∷ is) = Takes i running taken × AreIdle is

idle_first : (i : Input) (is : List Input) (running : List ℕ) → AreIdle (i ∷ is) → Takes i running [] × AreIdle is
idle_first (input.Begin number lane call) is running idle = absurd idle
idle_first (input.Frame frame) is running idle = (tt, idle)
idle_first input.Joined is running idle = (tt, idle)
idle_first input.Cut is running idle = (tt, idle)
idle_first (input.Now time) is running idle = (tt, idle)
idle_first input.End is running idle = (tt, idle)

follows_none : (s : State) (ts : List Turn) → AreIdle (inputs_of ts) → Follows [] s ts
follows_none s [] idle = tt
follows_none s (t ∷ ts) idle = let first = idle_first t.input (inputs_of ts) s.running idle in ([], [], refl, first.0, follows_none (after_turn t s) ts first.1)

follows_at : (taken : List Asked) (s : State) (ts : List Turn) → TakesAt taken s.running (inputs_of ts) → Follows taken s ts
follows_at taken s [] takes = takes
follows_at taken s (t ∷ ts) takes = (taken, [], sym (append-nil taken), takes.0, follows_none (after_turn t s) ts takes.1)

-- the readings of the clock
abbrev TimesAt : Result (Unit {0}) End → List ℕ → List Input → Type 0
TimesAt (Ok done) readings at = readings ≡ times_at at
TimesAt (Err why) readings at = (last : List ℕ) × (length last ≤ 1) × (readings ≡ times_at at ++ last)

are_times : (result : Result (Unit {0}) End) (readings : List ℕ) (ts : List Turn) → TimesAt result readings (inputs_of ts) → AreTimes result readings ts
are_times (Ok done) readings ts times = times ∙ sym (times_in_at ts)
are_times (Err why) readings ts times = (times.0, times.1, times.2 ∙ ap (λ (l : List ℕ). l ++ times.0) (sym (times_in_at ts)))

times_exact : (result : Result (Unit {0}) End) (readings : List ℕ) (at : List Input) → readings ≡ times_at at → TimesAt result readings at
times_exact (Ok done) readings at is = is
times_exact (Err why) readings at is = ([], omega arith, is ∙ sym (append-nil (times_at at)))

pub told_one : (time : ℕ) (told : Option (List ℕ)) → option_map (told_once nat_eq time) told ≡ told_with (time ∷ []) told
told_one time None = refl
told_one time (Some readings) = refl

-- turns at inputs that take nothing of the script
listens_at : (at : List Input) (readings : List ℕ) (patience : ℕ) (s : State) (over : Option Over) (result : Result (Unit {0}) End) (s' : State) (a b : Seen) (h k : Held)
    (told told' : Option (List ℕ)) → RanAt at patience s result s' a b h k → AreIdle at → ends_at at ≡ false → EndsOver result over → told' ≡ told_with readings told → TimesAt result readings at
    → Listens patience s over result s' a b h k told told'
listens_at at readings patience s over result s' a b h k told told' ran idle going ends clock times = record {
  ran = ran.ran;
  follows = follows_none s ran.ran.turns (subst AreIdle (sym ran.inputs) idle);
  unended = has_ended_at ran.ran.turns ∙ ap ends_at ran.inputs ∙ going;
  ends = ends;
  readings = readings;
  clock = clock;
  times = are_times result readings ran.ran.turns (subst (TimesAt result readings) (sym ran.inputs) times);
}

-- the clock was told, and no frame became whole
pub listens_one : (time patience : ℕ) (s : State) (over : Option Over) (result : Result (Unit {0}) End) (s' : State) (a b : Seen) (h k : Held) (told told' : Option (List ℕ))
    → RanAt (input.Now time ∷ []) patience s result s' a b h k → EndsOver result over → told' ≡ option_map (told_once nat_eq time) told
    → Listens patience s over result s' a b h k told told'
listens_one time patience s over result s' a b h k told told' ran ends clock =
    listens_at (input.Now time ∷ []) (time ∷ []) patience s over result s' a b h k told told' ran tt refl ends (clock ∙ told_one time told)
    (times_exact result (time ∷ []) (input.Now time ∷ []) refl)

-- or the run ended at the reading of the clock
pub listens_stop : (time patience : ℕ) (s : State) (over : Option Over) (why : End) (s' : State) (a b : Seen) (h k : Held) (told told' : Option (List ℕ))
    → RanBy (input.Now time) patience s (Err why) s' a b h k → EndsOver (Err why) over → told' ≡ option_map (told_once nat_eq time) told
    → Listens patience s over (Err why) s' a b h k told told'
listens_stop time patience s over why s' a b h k told told' ran ends clock = elim (tried patience (Err why) (input.Now time) s s' a b h k tt ran) [
  | inl one ↦ listens_one time patience s over (Err why) s' a b h k told told' one ends clock
  | inr (why', is, none) ↦ listens_at [] (time ∷ []) patience s over (Err why) s' a b h k told told'
      (subst (λ (r : Result (Unit {0}) End). RanAt [] patience s r s' a b h k) (sym is) none) tt refl ends (clock ∙ told_one time told) (time ∷ [], omega arith, refl)
]

-- or a frame became whole, and was given
pub listens_two : (time patience : ℕ) (frame : List ℕ) (s s1 s2 : State) (over over1 : Option Over) (result : Result (Unit {0}) End) (a b c : Seen) (h k l : Held) (told told' : Option (List ℕ))
    → RanAt (input.Now time ∷ []) patience s (Ok tt) s1 a b h k → IfErr result (λ why. RanBy (input.Frame frame) patience s1 (Err why) s2 b c k l)
    → OnOk result (Gave (input.Frame frame) s1 s2 b c k l) → over1 ≡ over → EndsOver result over1 → told' ≡ option_map (told_once nat_eq time) told
    → Listens patience s over result s2 a c h l told told'
listens_two time patience frame s s1 s2 over over1 result a b c h k l told told' first stops gave same ends clock =
    elim (tried_then (input.Now time ∷ []) (input.Frame frame) patience result s s1 s2 a b c h k l first (tried patience result (input.Frame frame) s1 s2 b c k l gave stops)) [
      | inl both ↦ listens_at (input.Now time ∷ input.Frame frame ∷ []) (time ∷ []) patience s over result s2 a c h l told told' both tt refl
          (subst (EndsOver result) same ends) (clock ∙ told_one time told) (times_exact result (time ∷ []) (input.Now time ∷ input.Frame frame ∷ []) refl)
      | inr (why, is, one) ↦ listens_one time patience s over result s2 a c h l told told'
          (subst (λ (r : Result (Unit {0}) End). RanAt (input.Now time ∷ []) patience s r s2 a c h l) (sym is) one) (subst (EndsOver result) same ends) clock
    ]

-- a line could not be read for want of memory
script_memory : (why : End) (script : Option Coming) (faults : ℕ) (taken : List Asked) (old now : Reads) → why ≡ end.Memory
    → Progress script faults taken old → ScriptTo (Err why) script faults taken now
script_memory why script faults taken old now is so =
    subst (λ (e : End). ScriptTo (Err e) script faults taken now) (sym is) (progress_front script faults taken old so)

-- what the script gave, and what that leaves
pub record Lined (n : Next) (e e1 : Engine) (old new : Reads) : Type 0 where
  pub ready : IsReady e
  pub same : IsSame e e1
  pub gives : Gives e1 n
  pub over : OverBy (Ok n) e.over e1.over e1.ahead
  pub stays : IsSome e.over → new ≡ old
  pub script : ScriptGives n e.running old new

pub same_reads : {S : Type 0} (left : S → Option (List ℕ)) (faults : S → ℕ) (p q : Place) (x y : S) → (q ≡ p) × (y ≡ x)
    → reads_by left faults q y ≡ reads_by left faults p x
same_reads left faults p q x y same = ap (λ r. reads_by left faults r y) same.0 ∙ ap (λ z. reads_by left faults p z) same.1

no_some : (over : Option Over) → IsSome over → over ≡ None → ⊥
no_some over some none = cc

over_stays : (n : Next) (over over' : Option Over) (place : Place) → OverBy (Ok n) over over' place → IsSome over → over' ≡ over
over_stays (next.Give input.End) over over' place by some = absurd (no_some over some by.0)
over_stays (next.Give (input.Begin number lane call)) over over' place by some = by
over_stays (next.Give (input.Frame frame)) over over' place by some = by
over_stays (next.Give input.Joined) over over' place by some = by
over_stays (next.Give input.Cut) over over' place by some = by
over_stays (next.Give (input.Now time)) over over' place by some = by
over_stays next.Passed over over' place by some = by
over_stays next.Nothing over over' place by some = by

stopped_of : (n : Next) (e : Engine) → Gives e n → IsStopped e.over e.ahead
stopped_of (next.Give i) e gives = gives.0.stopped
stopped_of next.Passed e gives = gives.stopped
stopped_of next.Nothing e gives = gives.stopped

-- what the script gave was taken at turns at these inputs, or nothing was begun of it
goes_line : (n : Next) (at : List Input) (taken unbegun : List Asked) (result : Result (Unit {0}) End) (e e1 : Engine) (s' : State) (a b : Seen) (h k : Held) (old : Reads)
    (left : Option (List ℕ)) (faults : ℕ) (told : Option (List ℕ)) → Lined n e e1 old (reads_at e1.ahead left faults) → RanAt at e.patience (state_of e []) result s' a b h k
    → TakesAt taken e.running at → taken ++ unbegun ≡ taken_by n → OnOk result (unbegun ≡ []) → length unbegun ≤ 1 → (ends_at at ≡ true → IsSome e1.over)
    → (IsSome e1.over → unbegun ≡ []) → EndsOver result e1.over → TimesAt result [] at
    → Goes e.patience (state_of e []) e.over result s' e1.over (record { link = a; sink = h; reads = old; told = told })
    (record { link = b; sink = k; reads = reads_at e1.ahead left faults; told = told })
goes_line n at taken unbegun result e e1 s' a b h k old left faults told l ran takes all fresh few ended none ends times = record {
  ran = ran.ran;
  taken = taken;
  unbegun = unbegun;
  follows = follows_at taken (state_of e []) ran.ran.turns (subst (TakesAt taken e.running) (sym ran.inputs) takes);
  fresh = fresh;
  few = few;
  script = λ script begun before so. script_to result script begun (before ++ (taken ++ unbegun)) (reads_at e1.ahead left faults)
      (subst (λ (more : List Asked). Progress script begun (before ++ more) (reads_at e1.ahead left faults)) (sym all) (l.script.takes script begun before so));
  stays = λ some. (over_stays n e.over e1.over e1.ahead l.over some, l.stays some);
  told = λ is. ended (sym (has_ended_at ran.ran.turns ∙ ap ends_at ran.inputs) ∙ is);
  none = none;
  stopped = stopped_of n e1 l.gives;
  ends = ends;
  readings = [];
  clock = told_none told;
  times = are_times result [] ran.ran.turns (subst (TimesAt result []) (sym ran.inputs) times);
}

-- the engine as it is once an input was given
goes_moved : (patience : ℕ) (s : State) (over : Option Over) (result : Result (Unit {0}) End) (s' : State) (over1 over2 : Option Over) (old : Outside) (b : Seen) (k : Held)
    (p1 p2 : Place) (left : Option (List ℕ)) (faults : ℕ) (told : Option (List ℕ)) → (p2 ≡ p1) × (over2 ≡ over1)
    → Goes patience s over result s' over1 old (record { link = b; sink = k; reads = reads_at p1 left faults; told = told })
    → Goes patience s over result s' over2 old (record { link = b; sink = k; reads = reads_at p2 left faults; told = told })
goes_moved patience s over result s' over1 over2 old b k p1 p2 left faults told same goes =
    subst (λ (o : Option Over). Goes patience s over result s' o old (record { link = b; sink = k; reads = reads_at p2 left faults; told = told })) (sym same.1)
    (subst (λ (p : Place). Goes patience s over result s' over1 old (record { link = b; sink = k; reads = reads_at p left faults; told = told })) (sym same.0) goes)

ok_same : (result : Result (Unit {0}) End) (taken : List Asked) → OnOk result (taken ≡ taken)
ok_same (Ok done) taken = refl
ok_same (Err why) taken = tt

err_any : (result : Result (Unit {0}) End) (why : End) (A : Type 0) → result ≡ Err why → OnOk result A
err_any result why A is = subst (λ (r : Result (Unit {0}) End). OnOk r A) (sym is) tt

-- a call was given: its turn was taken, or the core stopped at it
goes_begin : (number lane : ℕ) (call : Call) (result : Result (Unit {0}) End) (e e1 : Engine) (s' : State) (a b : Seen) (h k : Held) (old : Reads)
    (left : Option (List ℕ)) (faults : ℕ) (told : Option (List ℕ)) → Lined (next.Give (input.Begin number lane call)) e e1 old (reads_at e1.ahead left faults)
    → Tried [] (input.Begin number lane call) e.patience (state_of e []) result s' a b h k → EndsOver result e1.over
    → Goes e.patience (state_of e []) e.over result s' e1.over (record { link = a; sink = h; reads = old; told = told })
    (record { link = b; sink = k; reads = reads_at e1.ahead left faults; told = told })
goes_begin number lane call result e e1 s' a b h k old left faults told l (inl one) ends =
    goes_line (next.Give (input.Begin number lane call)) (input.Begin number lane call ∷ []) (asked.Call (record { number = number; lane = lane; call = call }) ∷ []) [] result e e1 s' a b h k old
    left faults told l one (([], refl, tt), tt) refl (ok_same result []) (omega arith) (λ is. absurd (cc)) (λ some. refl) ends (times_exact result [] (input.Begin number lane call ∷ []) refl)
goes_begin number lane call result e e1 s' a b h k old left faults told l (inr (why, is, none)) ends =
    goes_line (next.Give (input.Begin number lane call)) [] [] (asked.Call (record { number = number; lane = lane; call = call }) ∷ []) result e e1 s' a b h k old
    left faults told l (subst (λ (r : Result (Unit {0}) End). RanAt [] e.patience (state_of e []) r s' a b h k) (sym is) none) tt refl
    (err_any result why _ is) (omega arith) (λ is'. absurd (cc)) (λ some. absurd (going e1.over e1.core.kept.ended some l.gives.0.ended l.gives.0.may.3)) ends
    (times_exact result [] [] refl)
  where
    going : (over : Option Over) (ended : Bool) → IsSome over → is_some over ≡ ended → ended ≡ false → ⊥
    going over ended some is' not = cc

-- the end was given
goes_end : (result : Result (Unit {0}) End) (e e1 : Engine) (s' : State) (a b : Seen) (h k : Held) (old : Reads)
    (left : Option (List ℕ)) (faults : ℕ) (told : Option (List ℕ)) → Lined (next.Give input.End) e e1 old (reads_at e1.ahead left faults)
    → Tried [] input.End e.patience (state_of e []) result s' a b h k → EndsOver result e1.over
    → Goes e.patience (state_of e []) e.over result s' e1.over (record { link = a; sink = h; reads = old; told = told })
    (record { link = b; sink = k; reads = reads_at e1.ahead left faults; told = told })
goes_end result e e1 s' a b h k old left faults told l (inl one) ends =
    goes_line (next.Give input.End) (input.End ∷ []) [] [] result e e1 s' a b h k old
    left faults told l one (tt, tt) refl (ok_same result []) (omega arith) (λ is. l.over.1) (λ some. refl) ends (times_exact result [] (input.End ∷ []) refl)
goes_end result e e1 s' a b h k old left faults told l (inr (why, is, none)) ends =
    goes_line (next.Give input.End) [] [] [] result e e1 s' a b h k old
    left faults told l (subst (λ (r : Result (Unit {0}) End). RanAt [] e.patience (state_of e []) r s' a b h k) (sym is) none) tt refl
    (ok_same result []) (omega arith) (λ is'. l.over.1) (λ some. refl) ends (times_exact result [] [] refl)

goes_tried : (i : Input) (result : Result (Unit {0}) End) (e e1 : Engine) (s' : State) (a b : Seen) (h k : Held) (old : Reads)
    (left : Option (List ℕ)) (faults : ℕ) (told : Option (List ℕ)) → Lined (next.Give i) e e1 old (reads_at e1.ahead left faults)
    → Tried [] i e.patience (state_of e []) result s' a b h k → EndsOver result e1.over
    → Goes e.patience (state_of e []) e.over result s' e1.over (record { link = a; sink = h; reads = old; told = told })
    (record { link = b; sink = k; reads = reads_at e1.ahead left faults; told = told })
goes_tried (input.Begin number lane call) result e e1 s' a b h k old left faults told l more ends =
    goes_begin number lane call result e e1 s' a b h k old left faults told l more ends
goes_tried input.End result e e1 s' a b h k old left faults told l more ends = goes_end result e e1 s' a b h k old left faults told l more ends
goes_tried (input.Frame frame) result e e1 s' a b h k old left faults told l more ends = absurd l.gives.1
goes_tried input.Joined result e e1 s' a b h k old left faults told l more ends = absurd l.gives.1
goes_tried input.Cut result e e1 s' a b h k old left faults told l more ends = absurd l.gives.1
goes_tried (input.Now time) result e e1 s' a b h k old left faults told l more ends = absurd l.gives.1

-- nothing is pending where the script gives an input
none_pending : (i : Input) → IsOfScript i → pending_of i ≡ []
none_pending (input.Begin number lane call) of = refl
none_pending input.End of = refl
none_pending (input.Frame frame) of = absurd of
none_pending input.Joined of = absurd of
none_pending input.Cut of = absurd of
none_pending (input.Now time) of = absurd of

-- an input that the script gave was given to the client
pub goes_given : (i : Input) (result : Result (Unit {0}) End) (e e1 e2 : Engine) (a b : Seen) (h k : Held) (old : Reads)
    (left : Option (List ℕ)) (faults : ℕ) (told : Option (List ℕ)) → Lined (next.Give i) e e1 old (reads_at e1.ahead left faults)
    → OnOk result (Gave i (state_of e1 (pending_of i)) (state_of e2 []) a b h k)
    → IfErr result (λ why. RanBy i e1.patience (state_of e1 (pending_of i)) (Err why) (state_of e2 []) a b h k) → EndsOver result e1.over
    → (e2.ahead ≡ e1.ahead) × (e2.over ≡ e1.over)
    → Goes e.patience (state_of e []) e.over result (state_of e2 []) e2.over (record { link = a; sink = h; reads = old; told = told })
    (record { link = b; sink = k; reads = reads_at e2.ahead left faults; told = told })
goes_given i result e e1 e2 a b h k old left faults told l gave stops ends moved =
    goes_moved e.patience (state_of e []) e.over result (state_of e2 []) e1.over e2.over (record { link = a; sink = h; reads = old; told = told }) b k e1.ahead e2.ahead left faults told moved
    (goes_tried i result e e1 (state_of e2 []) a b h k old left faults told l
    (subst (λ (p : ℕ). Tried [] i p (state_of e []) result (state_of e2 []) a b h k) l.same.patience
    (subst (λ (s : State). Tried [] i e1.patience s result (state_of e2 []) a b h k) (ap (state_of e1) (none_pending i l.gives.1) ∙ l.same.state)
    (tried e1.patience result i (state_of e1 (pending_of i)) (state_of e2 []) a b h k gave stops)))
    ends)

-- a pause was passed
pub goes_passed : (e e1 : Engine) (seen : Seen) (h : Held) (old : Reads) (left : Option (List ℕ)) (faults : ℕ) (told : Option (List ℕ))
    → Lined next.Passed e e1 old (reads_at e1.ahead left faults)
    → Goes e.patience (state_of e []) e.over (Ok tt) (state_of e1 []) e1.over (record { link = seen; sink = h; reads = old; told = told })
    (record { link = seen; sink = h; reads = reads_at e1.ahead left faults; told = told })
goes_passed e e1 seen h old left faults told l =
    goes_line next.Passed [] (asked.Wait ∷ []) [] (Ok tt) e e1 (state_of e1 []) seen seen h h old left faults told l
    (subst (λ (s : State). RanAt [] e.patience (state_of e []) (Ok tt) s seen seen h h) (sym l.same.state) (ran_at_none e.patience (state_of e []) seen h))
    (l.script.passed, tt) refl refl (omega arith) (λ is. absurd (cc)) (λ some. refl) tt refl

-- nothing was given, and the clock was told
pub goes_listens : (result : Result (Unit {0}) End) (e e1 e2 : Engine) (a b : Seen) (h k : Held) (old : Reads) (left : Option (List ℕ)) (faults : ℕ) (told told' : Option (List ℕ))
    → Lined next.Nothing e e1 old (reads_at e1.ahead left faults)
    → Listens e1.patience (state_of e1 []) e1.over result (state_of e2 []) a b h k told told' → (e2.ahead ≡ e1.ahead) × (e2.over ≡ e1.over)
    → Goes e.patience (state_of e []) e.over result (state_of e2 []) e2.over (record { link = a; sink = h; reads = old; told = told })
    (record { link = b; sink = k; reads = reads_at e2.ahead left faults; told = told' })
goes_listens result e e1 e2 a b h k old left faults told told' l listens moved =
    goes_moved e.patience (state_of e []) e.over result (state_of e2 []) e1.over e2.over (record { link = a; sink = h; reads = old; told = told }) b k e1.ahead e2.ahead left faults told' moved
    (so (subst (λ (s : State). Listens e.patience s e1.over result (state_of e2 []) a b h k told told') l.same.state
    (subst (λ (p : ℕ). Listens p (state_of e1 []) e1.over result (state_of e2 []) a b h k told told') l.same.patience listens)))
  where
    never : (ended : Bool) → ended ≡ false → ended ≡ true → ⊥
    never ended is is' = cc

    so : Listens e.patience (state_of e []) e1.over result (state_of e2 []) a b h k told told'
        → Goes e.patience (state_of e []) e.over result (state_of e2 []) e1.over (record { link = a; sink = h; reads = old; told = told })
        (record { link = b; sink = k; reads = reads_at e1.ahead left faults; told = told' })
    so x = record {
      ran = x.ran;
      taken = [];
      unbegun = [];
      follows = x.follows;
      fresh = ok_same result [];
      few = omega arith;
      script = λ script begun before so. script_to result script begun (before ++ []) (reads_at e1.ahead left faults) (l.script.takes script begun before so);
      stays = λ some. (l.over, l.stays some);
      told = λ is. absurd (never (has_ended x.ran.turns) x.unended is);
      none = λ some. refl;
      stopped = l.gives.stopped;
      ends = x.ends;
      readings = x.readings;
      clock = x.clock;
      times = x.times;
    }

-- the run ended for want of memory at a line
pub goes_memory : (why : End) (e e1 : Engine) (seen : Seen) (h : Held) (old : Reads) (left : Option (List ℕ)) (faults : ℕ) (told : Option (List ℕ))
    → why ≡ end.Memory → IsReady e → IsSame e e1 → e1.over ≡ e.over → (IsSome e.over → e1.ahead ≡ e.ahead) → (IsSome e.over → reads_at e1.ahead left faults ≡ old)
    → Goes e.patience (state_of e []) e.over (Err why) (state_of e1 []) e1.over (record { link = seen; sink = h; reads = old; told = told })
    (record { link = seen; sink = h; reads = reads_at e1.ahead left faults; told = told })
goes_memory why e e1 seen h old left faults told is ready same over ahead stays = record {
  ran = ran_memory e.patience why (state_of e []) (state_of e1 []) seen h is;
  taken = [];
  unbegun = [];
  follows = tt;
  fresh = tt;
  few = omega arith;
  script = λ script begun before so. script_memory why script begun (before ++ []) old (reads_at e1.ahead left faults) is
      (subst (λ (l : List Asked). Progress script begun l old) (sym (append-nil before)) so);
  stays = λ some. (over, stays some);
  told = λ is'. absurd (cc);
  none = λ some. refl;
  stopped = stopped_stays e.over e1.over e.ahead e1.ahead over ready.stopped ahead;
  ends = subst (λ (x : End). EndsOver (Err x) e1.over) (sym is) (λ is'. absurd (cc));
  readings = [];
  clock = told_none told;
  times = ([], omega arith, refl);
}
  where
    stopped_stays : (over over' : Option Over) (p p' : Place) → over' ≡ over → IsStopped over p → (IsSome over → p' ≡ p) → IsStopped over' p'
    stopped_stays None over' p p' is stopped same = subst (λ (o : Option Over). IsStopped o p') (sym is) tt
    stopped_stays (Some why) over' p p' is stopped same =
        subst (λ (o : Option Over). IsStopped o p') (sym is) (subst (λ (q : Place). IsStopped (Some why) q) (sym (same refl)) stopped)
