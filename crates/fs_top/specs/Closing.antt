-- The calls that are answered where a run ends by what the server sent, or with the connection.
use Rattle.std.specs.Prelude.{◌≡◌, ◌⊎◌, ℕ, List, [], ◌++◌, map, Option, Some, None}
use Rattle.smb_link.specs.Came.{Seen, Came}
use Rattle.smb_link.specs.Story.{story_with}
use Rattle.smb_link.specs.declared.event.Event.{Event}
use Rattle.fs_types.specs.declared.answer.Answer.TheVariants as answer
use Rattle.fs_core.specs.declared.output.Output.{Output}
use Rattle.fs_core.specs.declared.output.Output.TheVariants as output
use Rattle.fs_core.specs.Event.{events_of}
use Rattle.fs_top.specs.declared.run_end.End.{End}
use Rattle.fs_top.specs.declared.run_end.End.TheVariants as end
use Rattle.fs_top.specs.Printing.{Held, TookAll, TookFront}
use Rattle.fs_top.specs.Turns.{lines_by}

-- the error number of a call that is unanswered at this end: EPROTO where the server sent what is wrong, EHOSTDOWN where the connection is lost
abbrev pub errno_by : End → Option ℕ
errno_by (end.Frame number what) = Some 71
errno_by end.Cuts = Some 112
errno_by other = None

-- the answers of these calls, in order
abbrev pub answers_of : ℕ → List ℕ → List Output
answers_of errno running = map (λ number. output.Answer number (answer.Err (record { 0 = errno }) None)) running

-- these events of the client came at a link, and nothing of the share between them
pub record CameAlone (events : List Event) (old new : Seen) : Type 0 where
  pub came : Came events old new
  pub alone : new.story ≡ story_with old.story events

-- all are answered, and the run ends as it did; or it ends at one of them: memory ran out, or the sink took less than its line
pub record ClosesAll (errno : ℕ) (running : List ℕ) (old new : Seen) (out out' : Held) : Type 0 where
  pub came : CameAlone (events_of (answers_of errno running)) old new
  pub printed : TookAll (lines_by (answers_of errno running)) out out'

pub record ClosesSome (errno : ℕ) (running : List ℕ) (e : End) (old new : Seen) (out out' : Held) : Type 0 where
  pub answered : List ℕ
  pub left : List ℕ
  pub parts : running ≡ answered ++ left
  pub came : CameAlone (events_of (answers_of errno answered)) old new
  pub ends : ((e ≡ end.Memory) × TookAll (lines_by (answers_of errno answered)) out out')
      ⊎ ((e ≡ end.Sink) × TookFront (lines_by (answers_of errno answered)) out out')

abbrev pub ClosesWith : ℕ → List ℕ → End → End → Seen → Seen → Held → Held → Type 0
ClosesWith errno running e e' old new out out' =
    ((e' ≡ e) × ClosesAll errno running old new out out') ⊎ ClosesSome errno running e' old new out out'

abbrev pub ClosesBy : Option ℕ → List ℕ → End → End → Seen → Seen → Held → Held → Type 0
ClosesBy None running e e' old new out out' = (e' ≡ e) × CameAlone [] old new × TookAll [] out out'
ClosesBy (Some errno) running e e' old new out out' = ClosesWith errno running e e' old new out out'

abbrev pub Closes : List ℕ → End → End → Seen → Seen → Held → Held → Type 0
Closes running e e' old new out out' = ClosesBy (errno_by e) running e e' old new out out'
