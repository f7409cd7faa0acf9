-- What the outputs of a turn tell of calls that begin: the call of the input, and no other.
use Rattle.std.proofs.Common.{◌≡◌, ◌∙◌, refl, sym, ap, List, [], ◌∷◌, ◌++◌}
use Rattle.smb_link.specs.declared.mark.Mark.{Mark}
use Rattle.smb_link.specs.declared.mark.Mark.TheVariants as mark
use Rattle.fs_ahead.specs.declared.asked.ScriptCall.{ScriptCall}
use Rattle.fs_core.specs.declared.input.Input.{Input}
use Rattle.fs_core.specs.declared.input.Input.TheVariants as input
use Rattle.fs_core.specs.declared.output.Output.{Output}
use Rattle.fs_core.specs.declared.output.Output.TheVariants as output
use Rattle.fs_core.specs.Kept.{Kept}
use Rattle.fs_core.specs.Event.{events_of, tellings, told_by, Moves}
use Rattle.fs_top.specs.Turns.{Turn, State, after_turn, IsTurn, AreTurns}
use Rattle.fs_top.specs.Run.{begun_in}
use Rattle.fs_top.proofs.Beginning.{begun_by, TellsBegun, AllTell}
use Rattle.fs_top.proofs.Clients.{moves}

-- the calls that marks begin
abbrev begun_marks : List Mark → List ScriptCall
begun_marks [] = []
begun_marks (mark.Begin number lane call ∷ marks) = record { number = number; lane = lane; call = call } ∷ begun_marks marks
begun_marks (m ∷ marks) = begun_marks marks

begun_told : (os : List Output) → begun_in (events_of os) ≡ begun_marks (tellings os)
begun_told [] = refl
begun_told (output.Send frame ∷ os) = begun_told os
begun_told (output.Marked (mark.Begin number lane call) ∷ os) =
    ap (λ (l : List ScriptCall). record { number = number; lane = lane; call = call } ∷ l) (begun_told os)
begun_told (output.Marked (mark.For number first count) ∷ os) = begun_told os
begun_told (output.Marked (mark.Answer number a) ∷ os) = begun_told os
begun_told (output.Marked (mark.Now time) ∷ os) = begun_told os
begun_told (output.Marked mark.End ∷ os) = begun_told os
begun_told (output.Answer number a ∷ os) = begun_told os
begun_told (output.Reconnect ∷ os) = begun_told os
begun_told (output.Left ∷ os) = begun_told os

told_begun : (i : Input) (k : Kept) → begun_marks (told_by i k) ≡ begun_by i
told_begun (input.Begin number lane call) k = refl
told_begun (input.Frame frame) k = refl
told_begun input.Cut k = refl
told_begun input.Joined k = refl
told_begun (input.Now time) k = refl
told_begun input.End k = refl

tells_begun : (s : State) (t : Turn) → IsTurn s t → TellsBegun t
tells_begun s t is = by (moves t.input t.before t.mid t.before.kept.phase is.connects is.goes)
  where
    by : Moves t.input t.before t.mid → TellsBegun t
    by m =
        begun_told (t.outs ++ t.left)
        ∙ ap begun_marks (ap tellings (sym is.popped ∙ m.outs ∙ ap (λ (l : List Output). l ++ m.more) is.nothing_left) ∙ m.tells)
        ∙ told_begun t.input t.before.kept

pub all_tell : (turns : List Turn) (s : State) → AreTurns s turns → AllTell turns
all_tell [] s are = record {}
all_tell (t ∷ ts) s are = (tells_begun s t are.0, all_tell ts (after_turn t s) are.1)
