use Rattle.std.proofs.Common.{◌∙◌, ◌≤◌, sym, ap, subst, Bool, false, List}
use Rattle.std.proofs.lemmas.Result.{on_ok_weaker}
use Rattle.smb_head.specs.declared.first.TheConstants.{MAX_FRAME}
use Rattle.smb_head.specs.declared.request.Request.{Request}
use Rattle.smb_mux.specs.Sending.{costs, room_of}
use Rattle.fs_core.specs.Event.{Puts, Stops}
use Rattle.fs_core.specs.Going.{Tries}
use Rattle.fs_core.specs.Kept.{CoreValue}
use Rattle.fs_core.proofs.Composed.{if_err}
use Rattle.fs_core.proofs.MarkingGoing.{waiting_has_facts, waiting_starved}
use Rattle.fs_core.proofs.MarkingStarved.{alone_cost}
use Rattle.fs_core.proofs.Putting.{puts_nothing}
use Rattle.fs_core.proofs.SendingCalls.{alone_room}
use Rattle.fs_core.proofs.SendingParts.{alone_puts}
use Rattle.fs_core.proofs.machine.Core.send_next.Goals as goal

pub returns-in-Err-clause-err : goal.returns-in-Err-clause-err
returns-in-Err-clause-err c =
    subst (Stops c.args.self.now) (sym c.in-Err.ensures.none.0) (waiting_has_facts c.args.self.now c.args.number c.requires.waits c.in-Err.ensures.none.1)

pub try_send-requires-clause-room : goal.try_send-requires-clause-room
try_send-requires-clause-room c =
    let alone = c.in-Ok-alone_with.ensures.alone in
    subst (λ (l : List Request). room_of l ≤ MAX_FRAME) (sym alone.are) (alone_room c.in-Ok.facts alone.slot.stat.path alone.slot.stat.progress alone.can)

pub returns-in-Ok-true-clause-puts : goal.returns-in-Ok-true-clause-puts
returns-in-Ok-true-clause-puts c =
    let alone = c.in-Ok-alone_with.ensures.alone in
    alone_puts c.args.self.now c.try_send.new.self c.args.number alone.slot c.in-Ok.facts c.in-Ok-alone_with.requests c.in-Ok.ensures.facts alone.found
    c.requires.waits c.requires.few alone.can alone.are
    (subst (λ (b : Bool). Tries c.args.number c.in-Ok-alone_with.requests b c.args.self.now c.try_send.new.self) c.in-Ok-true.field-0-test c.in-Ok-true.ensures.tries)

pub returns-in-Ok-false-clause-puts : goal.returns-in-Ok-false-clause-puts
returns-in-Ok-false-clause-puts c =
    let none : Tries c.args.number c.in-Ok-alone_with.requests false c.args.self.now c.try_send.new.self =
    subst (λ (b : Bool). Tries c.args.number c.in-Ok-alone_with.requests b c.args.self.now c.try_send.new.self) c.in-Ok-false.field-0-test c.in-Ok-false.ensures.tries in
    on_ok_weaker c.wait.result (λ flies. subst (Puts 3 3 c.args.self.now) (sym none.0) (puts_nothing 3 3 c.args.self.now)) c.wait.ensures.flies

pub returns-in-Ok-false-clause-err : goal.returns-in-Ok-false-clause-err
returns-in-Ok-false-clause-err c =
    let none : Tries c.args.number c.in-Ok-alone_with.requests false c.args.self.now c.try_send.new.self =
    subst (λ (b : Bool). Tries c.args.number c.in-Ok-alone_with.requests b c.args.self.now c.try_send.new.self) c.in-Ok-false.field-0-test c.in-Ok-false.ensures.tries in
    let alone = c.in-Ok-alone_with.ensures.alone in
    if_err c.wait.result (λ f starved. subst (Stops c.args.self.now) (sym starved.0)
    (waiting_starved c.args.self.now c.args.number c.in-Ok-alone_with.requests c.requires.waits
    (sym (ap (λ (v : CoreValue). v.kept.flights) none.0) ∙ starved.1) none.1
    (subst (λ (l : List Request). costs l ≤ 1) (sym alone.are) (alone_cost c.in-Ok.facts alone.slot.stat.path alone.slot.stat.progress)))) c.wait.ensures.err
