-- Turns with all that is outside: the link, the sink, the script and the clock.
use Rattle.std.specs.Prelude.{◌≡◌, ◌≤◌, ℕ, true, false, List, [], ◌++◌, length, Option, Result, IsSome, OnOk}
use Rattle.smb_link.specs.Came.{Seen, seen_by}
use Rattle.smb_link.specs.declared.event.Event.{Event}
use Rattle.fs_ahead.specs.declared.asked.Asked.{Asked}
use Rattle.fs_ahead.specs.declared.asked.Over.{Over}
use Rattle.fs_ahead.specs.Script.{Coming, Place}
use Rattle.fs_ahead.specs.Progress.{Reads, reads_by, Progress}
use Rattle.fs_top.specs.declared.run_end.End.{End}
use Rattle.fs_top.specs.Printing.{Held, held_by}
use Rattle.fs_top.specs.Turns.{State}
use Rattle.fs_top.specs.Steps.{Ran, EndsOver}
use Rattle.fs_top.specs.Given.{Follows, has_ended, AreTimes, told_with, ScriptTo, IsStopped}

-- what is outside, as a contract sees it: the link, the sink, the script with the place that was come to in it, and what the clock told
pub record Outside : Type 0 where
  pub link : Seen
  pub sink : Held
  pub reads : Reads
  pub told : Option (List ℕ)

-- turns at which the script gave nothing: the clock was told, and frames came
pub record Listens (patience : ℕ) (s : State) (over : Option Over) (result : Result (Unit {0}) End) (s' : State) (old new : Seen) (out out' : Held)
    (told told' : Option (List ℕ)) : Type 0 where
  pub ran : Ran patience s result s' old new out out'
  pub follows : Follows [] s ran.turns
  pub unended : has_ended ran.turns ≡ false
  pub ends : EndsOver result over
  pub readings : List ℕ
  pub clock : told' ≡ told_with readings told
  pub times : AreTimes result readings ran.turns

-- turns that were taken as the script and the clock gave them. A call may have been taken of the script that could not be begun; then the
-- run ends, and no end of the script was told.
pub record Goes (patience : ℕ) (s : State) (over : Option Over) (result : Result (Unit {0}) End) (s' : State) (over' : Option Over) (old new : Outside) : Type 0 where
  pub ran : Ran patience s result s' old.link new.link old.sink new.sink
  pub taken : List Asked
  pub unbegun : List Asked
  pub follows : Follows taken s ran.turns
  pub fresh : OnOk result (unbegun ≡ [])
  pub few : length unbegun ≤ 1
  pub script : (script : Option Coming) (faults : ℕ) (before : List Asked) → Progress script faults before old.reads
      → ScriptTo result script faults (before ++ (taken ++ unbegun)) new.reads
  pub stays : IsSome over → (over' ≡ over) × (new.reads ≡ old.reads)
  pub told : has_ended ran.turns ≡ true → IsSome over'
  pub none : IsSome over' → unbegun ≡ []
  pub stopped : IsStopped over' new.reads.place
  pub ends : EndsOver result over'
  pub readings : List ℕ
  pub clock : new.told ≡ told_with readings old.told
  pub times : AreTimes result readings ran.turns

abbrev pub outside_by : {S K L C : Type 0} → (S → Option (List ℕ)) → (S → ℕ) → (K → Option (List ℕ)) → (K → ℕ) → (K → ℕ) → (L → Option (List Event)) → (L → ℕ) → (L → ℕ) → (L → ℕ)
    → (C → Option (List ℕ)) → Place → S → K → L → C → Outside
outside_by left faults written sink_faults stalls story connect_faults cuts quiets told place source sink link clock = record {
  link = seen_by story connect_faults cuts quiets link;
  sink = held_by written sink_faults stalls sink;
  reads = reads_by left faults place source;
  told = told clock;
}
