-- A run of the program: what it was started with, and the status with which it ended.
use Rattle.std.specs.Prelude.{ℕ, ◌==◌, Bool, ◌||◌, List}
use Rattle.fs_types.specs.declared.options.Options.{Options}

-- a run: its options and its seed, and the status with which it ended
pub record Run : Type 0 where
  pub options : Options
  pub seed : List ℕ
  pub status : ℕ

-- the run with these options, this seed and this status
abbrev pub run_of : Options → List ℕ → ℕ → Run
run_of options seed status = record { options = options; seed = seed; status = status }

-- the run ended by this status, or in its place by want of memory or a full output while its last answers were made and printed
abbrev pub ended_by : ℕ → ℕ → Bool
ended_by cause status = status == cause || status == 3 || status == 8
