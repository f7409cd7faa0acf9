-- A line of a script is looked for, and what it gives is taken.
use Rattle.std.proofs.Common.{ℕ, List, ◌++◌, Option}
use Rattle.fs_ahead.specs.declared.asked.Asked.{Asked}
use Rattle.fs_ahead.specs.Script.{Coming, Place}
use Rattle.fs_ahead.specs.Progress.{Reads, ReadsOn, Progress}
use Rattle.fs_ahead.proofs.Progressing.{progress_look}
use Rattle.fs_top.specs.declared.line.Next.{Next}
use Rattle.fs_top.specs.Steps.{Passes, taken_by, ScriptGives}

-- a place of a source that has this left, and failed so often
abbrev pub reads_at : Place → Option (List ℕ) → ℕ → Reads
reads_at place left faults = record { place = place; left = left; faults = faults }

-- what is taken between two places, whatever the source has left
abbrev pub TakesBy : List Asked → Place → Place → Type 0
TakesBy more old new =
    (script : Option Coming) (faults : ℕ) (taken : List Asked) (left : Option (List ℕ)) (now : ℕ)
    → Progress script faults taken (reads_at old left now) → Progress script faults (taken ++ more) (reads_at new left now)

pub script_gives : (n : Next) (running : List ℕ) (old : Reads) (mid new : Place) (left : Option (List ℕ)) (faults : ℕ)
    → ReadsOn old (reads_at mid left faults) → TakesBy (taken_by n) mid new → Passes n running → ScriptGives n running old (reads_at new left faults)
script_gives n running old mid new left faults on takes passes = record {
  takes = λ script begun taken so. takes script begun taken left faults (progress_look script begun taken old (reads_at mid left faults) so on);
  passed = passes;
}
