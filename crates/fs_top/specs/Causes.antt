-- Which end of a run each stop of the core is.
use Rattle.std.specs.Prelude.{ℕ, Option, Some, None, Result, Ok, Err}
use Rattle.smb_base.specs.declared.names.NoMemory.{NoMemory}
use Rattle.smb_link.specs.declared.faults.LinkFail.{LinkFail}
use Rattle.smb_link.specs.declared.faults.LinkFail.TheVariants as fail
use Rattle.fs_core.specs.declared.fault.CoreFault.{CoreFault}
use Rattle.fs_core.specs.declared.fault.CoreFault.TheVariants as fault
use Rattle.fs_ahead.specs.declared.asked.Over.{Over}
use Rattle.fs_ahead.specs.declared.asked.Over.TheVariants as over
use Rattle.fs_top.specs.declared.run_end.End.{End}
use Rattle.fs_top.specs.declared.run_end.End.TheVariants as end
use Rattle.fs_top.specs.declared.run_end.Wrong.TheVariants as wrong

-- the end where the core stops so after so many frames
abbrev pub end_of : CoreFault → ℕ → End
end_of fault.NoMemory frames = end.Memory
end_of (fault.Protocol what) frames = end.Frame frames (wrong.Protocol what)
end_of (fault.Refused what) frames = end.Mount what

-- the end of a run whose share was left, by why no more lines came
abbrev pub end_by : Option Over → End
end_by (Some over.End) = end.Done
end_by (Some (over.Line number)) = end.Line number
end_by (Some over.Source) = end.Source
end_by None = end.Memory

-- what a send, and what a mark makes of the run
abbrev pub end_of_send : Result (Unit {0}) LinkFail → Result (Unit {0}) End
end_of_send (Ok done) = Ok done
end_of_send (Err fail.Failed) = Err end.Cuts
end_of_send (Err fail.NoMemory) = Err end.Memory

abbrev pub end_of_mark : Result (Unit {0}) NoMemory → Result (Unit {0}) End
end_of_mark (Ok done) = Ok done
end_of_mark (Err none) = Err end.Memory
