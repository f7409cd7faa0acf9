-- The program of each call: its requests, and what it answers.
use Rattle.std.specs.Prelude.{ℕ, Bool, true, false, List}
use Rattle.fs_types.specs.declared.call.Call.{Call}
use Rattle.fs_types.specs.declared.call.Call.TheVariants as call
use Rattle.fs_types.specs.declared.options.Options.{Options}
use Rattle.smb_link.specs.Program.{Program, Say, of_errno}
use Rattle.smb_link.specs.Stat.{stat_program}

-- a call that is there already
abbrev pub is_there : Call → Bool
is_there (call.Stat path) = true
is_there other = false

-- a call under these options and with this seed; one that is not there yet may not begin, so that its program is nobody's matter
abbrev pub program_of : Options → List ℕ → Call → Program
program_of options seed (call.Stat path) = stat_program options path
program_of options seed other = Say (of_errno 95)
