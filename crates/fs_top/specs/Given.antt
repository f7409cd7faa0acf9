-- What the script and the clock give along the turns of a run.
use Rattle.std.specs.Prelude.{◌≡◌, ℕ, ◌≤◌, Bool, true, false, ◌||◌, IfSome, List, [], ◌∷◌, ◌++◌, length, Option, Some, None, option_map, Result, Ok, Err, nat_eq}
use Rattle.smb_link.specs.Once.{all_told_once}
use Rattle.fs_ahead.specs.declared.asked.Asked.{Asked}
use Rattle.fs_ahead.specs.declared.asked.Asked.TheVariants as asked
use Rattle.fs_ahead.specs.declared.asked.Over.{Over}
use Rattle.fs_ahead.specs.Script.{Coming, Place}
use Rattle.fs_ahead.specs.Progress.{Reads, Progress, IsFront}
use Rattle.fs_core.specs.declared.input.Input.{Input}
use Rattle.fs_core.specs.declared.input.Input.TheVariants as input
use Rattle.fs_top.specs.declared.run_end.End.{End}
use Rattle.fs_top.specs.declared.run_end.End.TheVariants as end
use Rattle.fs_top.specs.Turns.{Turn, State, after_turn}

-- pauses were passed, and no call ran then
abbrev pub ArePassed : List Asked → List ℕ → Type 0
ArePassed [] running = Unit {0}
ArePassed (asked.Wait ∷ more) running = (running ≡ []) × ArePassed more running
ArePassed (asked.Call x ∷ more) running = ⊥

-- what was taken of the script for an input, while these calls ran: pauses, and last the call that begins, where one does
abbrev pub Takes : Input → List ℕ → List Asked → Type 0
Takes (input.Begin number lane call) running now =
    (pauses : List Asked) × (now ≡ pauses ++ asked.Call (record { number = number; lane = lane; call = call }) ∷ []) × ArePassed pauses running
Takes other running now = ArePassed now running

-- what was taken of the script, in order, for one turn after another; behind the last turn pauses alone
abbrev pub Follows : List Asked → State → List Turn → Type 0
Follows taken s [] = ArePassed taken s.running
Follows taken s (t ∷ ts) =
    (now : List Asked) × (later : List Asked) × (taken ≡ now ++ later) × Takes t.input s.running now × Follows later (after_turn t s) ts

-- one of the turns told the client that no more calls begin
abbrev pub is_end : Input → Bool
is_end input.End = true
is_end other = false

abbrev pub has_ended : List Turn → Bool
has_ended [] = false
has_ended (t ∷ ts) = is_end t.input || has_ended ts

-- the times that the client was told, in order
abbrev pub time_by : Input → List ℕ
time_by (input.Now time) = time ∷ []
time_by other = []

abbrev pub times_in : List Turn → List ℕ
times_in [] = []
times_in (t ∷ ts) = time_by t.input ++ times_in ts

-- each reading of the clock was told in a turn of its own; but for the last one, where the run ended at it
abbrev pub AreTimes : Result (Unit {0}) End → List ℕ → List Turn → Type 0
AreTimes (Ok done) readings turns = readings ≡ times_in turns
AreTimes (Err why) readings turns = (last : List ℕ) × (length last ≤ 1) × (readings ≡ times_in turns ++ last)

-- what a clock has told, once it gave these readings
abbrev pub told_with : List ℕ → Option (List ℕ) → Option (List ℕ)
told_with readings told = option_map (all_told_once nat_eq readings) told

-- how far the script was taken where a step ends so: for want of memory a line may be lost
abbrev pub ScriptTo : Result (Unit {0}) End → Option Coming → ℕ → List Asked → Reads → Type 0
ScriptTo (Err end.Memory) script faults taken now = IfSome script (IsFront taken)
ScriptTo result script faults taken now = Progress script faults taken now

-- once the client was told that no more calls begin, for this reason, nothing is held, and no line is read for this reason
abbrev pub IsStopped : Option Over → Place → Type 0
IsStopped None place = Unit {0}
IsStopped (Some why) place = (place.held ≡ None) × (place.over ≡ Some why)

-- a run that ends with its script ends for the reason for which no more calls begin
abbrev pub is_through : End → Bool
is_through end.Done = true
is_through (end.Line number) = true
is_through end.Source = true
is_through other = false
