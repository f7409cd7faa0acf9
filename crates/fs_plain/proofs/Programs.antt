-- What the programs of calls do with the opens that they make.
use Rattle.std.proofs.Common.{◌≡◌, ℕ, true, false, refl, sym, inl, inr, List, Bool, ◌==◌, if◌then◌else◌}
use Rattle.std.specs.Prelude.{length, nat_lt, Result, Ok, Err}
use Rattle.std.proofs.lemmas.Bool.{false≢true}
use Rattle.smb_names.specs.declared.fault.NameFault.{NameFault}
use Rattle.smb_names.specs.Path.{components, path_of}
use Rattle.fs_types.specs.declared.call.Call.{Call}
use Rattle.fs_types.specs.declared.call.Call.TheVariants as call
use Rattle.fs_types.specs.declared.options.Options.{Options}
use Rattle.share_state.specs.declared.request.Rep.{Rep}
use Rattle.smb_link.specs.Program.{Own, Open as Opening, Query, Close, Program, Ask, Say, map_of, of_refusal, of_errno, unless_refused, at_path}
use Rattle.smb_link.specs.Stat.{stat_answer, stat_once_open}
use Rattle.smb_link.specs.Calls.{program_of}
use Rattle.fs_plain.specs.Tidy.{WillClose, Tidies}

-- the program of each call closes what it opens: stat does by its CLOSE, and no other opens anything
once_open_tidies : (options : Options) (opened : Rep)
    → ((opened.status.0 == 0) ≡ true → WillClose 0 (stat_once_open options opened) × Tidies 1 (stat_once_open options opened))
    × ((opened.status.0 == 0) ≡ false → Tidies 0 (stat_once_open options opened))
once_open_tidies options opened = by (opened.status.0 == 0)
  where
    by : (t : Bool)
        → (t ≡ true → WillClose 0 (if t then Ask (Query (Own 0)) (λ info. Ask (Close (Own 0)) (λ closed. Say (stat_answer options info))) else Say (of_refusal opened.status))
        × Tidies 1 (if t then Ask (Query (Own 0)) (λ info. Ask (Close (Own 0)) (λ closed. Say (stat_answer options info))) else Say (of_refusal opened.status)))
        × (t ≡ false → Tidies 0 (if t then Ask (Query (Own 0)) (λ info. Ask (Close (Own 0)) (λ closed. Say (stat_answer options info))) else Say (of_refusal opened.status)))
    by true = (λ is. (inr (λ info. inl refl), λ info closed. record {}), λ is. absurd (false≢true (sym is)))
    by false = (λ is. absurd (false≢true is), λ is. record {})

at_path_tidies : (options : Options) (path : List ℕ) (program : List ℕ → Program) → ((wire : List ℕ) → Tidies 0 (program wire)) → Tidies 0 (at_path options path program)
at_path_tidies options path program tidies = by (nat_lt 4095 (length path)) (path_of (map_of options) (components path))
  where
    by : (t : Bool) (wire : Result (List ℕ) NameFault) → Tidies 0 (if t then Say (of_errno 36) else unless_refused wire program)
    by true wire = record {}
    by false (Ok wire) = tidies wire
    by false (Err fault) = record {}

pub program_tidies : (options : Options) (seed : List ℕ) (c : Call) → Tidies 0 (program_of options seed c)
program_tidies options seed (call.Stat path) =
    at_path_tidies options path (λ wire. Ask (Opening wire 0x100080 1 0) (stat_once_open options)) (λ wire reply. once_open_tidies options reply)
program_tidies options seed (call.Open a b) = record {}
program_tidies options seed (call.Dup a) = record {}
program_tidies options seed (call.Close a) = record {}
program_tidies options seed (call.Fsync a) = record {}
program_tidies options seed (call.Ftruncate a b) = record {}
program_tidies options seed (call.Pread a b c) = record {}
program_tidies options seed (call.Read a b) = record {}
program_tidies options seed (call.Pwrite a b c) = record {}
program_tidies options seed (call.Write a b) = record {}
program_tidies options seed (call.Append a b) = record {}
program_tidies options seed (call.Seek a b) = record {}
program_tidies options seed (call.Fstat a) = record {}
program_tidies options seed (call.Lstat a) = record {}
program_tidies options seed (call.Unlink a) = record {}
program_tidies options seed (call.Rmdir a) = record {}
program_tidies options seed (call.Mkdir a) = record {}
program_tidies options seed (call.Rename a b) = record {}
program_tidies options seed (call.Link a b) = record {}
program_tidies options seed (call.Symlink a b) = record {}
program_tidies options seed (call.Readlink a) = record {}
program_tidies options seed (call.List a) = record {}
program_tidies options seed (call.Chmod a b) = record {}
program_tidies options seed (call.Lock a b c d) = record {}
program_tidies options seed (call.Unlock a b c) = record {}
program_tidies options seed call.Statfs = record {}
