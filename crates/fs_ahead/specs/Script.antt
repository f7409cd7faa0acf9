-- What a script asks for: calls and pauses, line by line, and why there are no more.
use Rattle.std.specs.Prelude.{◌==◌, ◌+◌, ◌-◌, ◌^◌, ℕ, nat_lt, if◌then◌else◌, List, [], ◌∷◌, Result, Ok, Err}
use Rattle.std.specs.Prelude.{Option, Some, None, option_map}
use Rattle.std.specs.List.{onto_first}
use Rattle.std.specs.Str.{is_utf8}
use Rattle.fs_types.specs.declared.call.Call.{Call}
use Rattle.fs_lines.specs.Told.{Reading, ahead}
use Rattle.fs_script.specs.declared.line.LineFault.{LineFault}
use Rattle.fs_script.specs.declared.line.Line.{Line}
use Rattle.fs_script.specs.declared.line.Line.TheVariants as line
use Rattle.fs_script.specs.Lines.{said_by}
use Rattle.smb_link.specs.Calls.{is_there}
use Rattle.fs_ahead.specs.declared.asked.Asked.{Asked}
use Rattle.fs_ahead.specs.declared.asked.Asked.TheVariants as asked
use Rattle.fs_ahead.specs.declared.asked.Over.{Over}
use Rattle.fs_ahead.specs.declared.asked.Over.TheVariants as over

-- the lines of a text: each ends with LF (10), which is no part of it; what stands behind the last LF is a line too, where it has bytes
abbrev pub lines_of : List ℕ → List (List ℕ)
lines_of [] = []
lines_of (b ∷ bs) = if b == 10 then [] ∷ lines_of bs else onto_first b (lines_of bs)

-- what a line asks for: nothing, a pause, a call in a lane, or what is refused
pub data LineWants : Type 0 where
  Nothing : LineWants
  Pause : LineWants
  Called : ℕ → Call → LineWants
  Refused : LineWants

-- a call that the client does not have is refused
abbrev pub called : ℕ → Call → LineWants
called lane call = if is_there call then Called lane call else Refused

-- a line that is outside the grammar is refused; an empty line and a comment ask for nothing, and the line `wait` for a pause
abbrev pub wanted_of : Result Line LineFault → LineWants
wanted_of (Err fault) = Refused
wanted_of (Ok line.Skip) = Nothing
wanted_of (Ok line.Wait) = Pause
wanted_of (Ok (line.Call lane call)) = called lane call

-- a line that is not UTF-8 is refused too
abbrev pub wanted_by : List ℕ → LineWants
wanted_by line = if is_utf8 line then wanted_of (said_by line) else Refused

-- the greatest number of a line
abbrev pub greatest : ℕ
greatest = 2 ^ 64 - 1

-- what the line with this number asks for: the one with the greatest number is refused
abbrev pub wanted_at : ℕ → List ℕ → LineWants
wanted_at number line = if nat_lt number greatest then wanted_by line else Refused

-- what is asked for, one after the other, and why no more comes
pub record Coming : Type 0 where
  pub asked : List Asked
  pub over : Over

-- no more comes
abbrev pub ends_by : Over → Coming
ends_by why = record { asked = []; over = why }

-- what a line asks for goes before what the later lines ask for; after a line that is refused nothing comes
abbrev pub wanted_then : LineWants → ℕ → Coming → Coming
wanted_then Nothing number later = later
wanted_then Pause number later = record later { asked = asked.Wait ∷ later.asked }
wanted_then (Called lane call) number later = record later { asked = asked.Call (record { number = number; lane = lane; call = call }) ∷ later.asked }
wanted_then Refused number later = ends_by (over.Line number)

-- what these lines ask for, of which the first has this number, up to the first line that is refused
abbrev pub coming_from : ℕ → List (List ℕ) → Coming
coming_from number [] = ends_by over.End
coming_from number (line ∷ lines) = wanted_then (wanted_at number line) number (coming_from (number + 1) lines)

-- what a whole script asks for
abbrev pub coming_of : List ℕ → Coming
coming_of script = coming_from 1 (lines_of script)

-- a place in a script: the lines that were read, what the next line asks for, once it was read, and why no more lines are read
pub record Place : Type 0 where
  pub lines : Reading
  pub held : Option Asked
  pub over : Option Over

-- what is to come of the lines behind the one with this number: nothing, where it was refused for being the greatest
abbrev pub coming_behind : ℕ → List (List ℕ) → Coming
coming_behind number lines = if nat_lt number greatest then coming_from (number + 1) lines else ends_by (over.Line greatest)

-- what is to come of the lines ahead
abbrev pub coming_ahead : Reading → List ℕ → Coming
coming_ahead reading left = coming_behind reading.number (lines_of (ahead reading left))

-- what is held comes first
abbrev pub asked_then : Option Asked → Coming → Coming
asked_then None later = later
asked_then (Some asked) later = record later { asked = asked ∷ later.asked }

-- where no more lines are read, nothing else comes
abbrev pub unless_over : Option Over → Coming → Coming
unless_over None later = later
unless_over (Some why) later = ends_by why

-- what is to come of a script over what its source has left: what is held, and what the lines ahead ask for
abbrev pub coming_at : Place → List ℕ → Coming
coming_at p left = asked_then p.held (unless_over p.over (coming_ahead p.lines left))

-- the same, where the source tells what is left
abbrev pub to_come : Place → Option (List ℕ) → Option Coming
to_come p left = option_map (coming_at p) left

-- the same of the lines alone
abbrev pub lines_to_come : Reading → Option (List ℕ) → Option Coming
lines_to_come reading left = option_map (coming_ahead reading) left
