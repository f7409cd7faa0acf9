use Rattle.std.proofs.Common.{◌≡◌, inr, ◌∙◌, sym, ap, ℕ, ◌+◌, List, ◌++◌, ◌∷◌, get_or, take, drop}
use Rattle.std.proofs.lemmas.List.{take-append-drop, take_more, drop_more, take_all}
use Rattle.smb_link.specs.Came.{seen_by}
use Rattle.fs_top.specs.Printing.{held_by}
use Rattle.fs_top.proofs.Closed.{closing_more, closing_all, closing_some}
use Rattle.fs_top.proofs.close.close_with.Goals as goal

pub loop-number-preserved : goal.loop-number-preserved
loop-number-preserved g c =
    let seen = seen_by g.L.Link.story g.L.Link.connect_faults g.L.Link.cuts g.L.Link.quiets in
    let held = held_by g.K.Sink.written g.K.Sink.faults g.K.Sink.stalls in
    let running = c.args.running.now in
    let at = c.loop-number.number-index in
    let e = c.in-Ok.ensures in
    record {
      so_far = closing_more c.args.errno.0 (get_or running at 0) (take at running) (take (at + 1) running) (seen c.args.link.now) (seen c.loop-number.link) (seen c.answered.new.link)
          (held c.args.out.now) (held c.loop-number.out) (held c.answered.new.out) (take_more running at 0 c.loop-number-test.true) c.loop-number.invariant.so_far e.came e.alone e.printed;
      places = (e.places.0 ∙ c.loop-number.invariant.places.0, e.places.1 ∙ c.loop-number.invariant.places.1);
    }

pub returns-in-Err-clause-closes : goal.returns-in-Err-clause-closes
returns-in-Err-clause-closes g c =
    let seen = seen_by g.L.Link.story g.L.Link.connect_faults g.L.Link.cuts g.L.Link.quiets in
    let held = held_by g.K.Sink.written g.K.Sink.faults g.K.Sink.stalls in
    let running = c.args.running.now in
    let at = c.loop-number.number-index in
    let e = c.in-Err.ensures in
    let parts : running ≡ take at running ++ get_or running at 0 ∷ drop (at + 1) running =
    sym (take-append-drop at running) ∙ ap (λ (l : List ℕ). take at running ++ l) (drop_more running at 0 c.loop-number-test.true) in
    inr (closing_some c.args.errno.0 (get_or running at 0) running (take at running) (drop (at + 1) running) c.in-Err.other
    (seen c.args.link.now) (seen c.loop-number.link) (seen c.answered.new.link) (held c.args.out.now) (held c.loop-number.out) (held c.answered.new.out)
    parts c.loop-number.invariant.so_far e.why e.came e.alone e.printed)

pub returns-clause-closes : goal.returns-clause-closes
returns-clause-closes g c =
    let seen = seen_by g.L.Link.story g.L.Link.connect_faults g.L.Link.cuts g.L.Link.quiets in
    let held = held_by g.K.Sink.written g.K.Sink.faults g.K.Sink.stalls in
    closing_all c.args.errno.0 c.args.running.now (take c.loop-number.number-index c.args.running.now) c.args.end (seen c.args.link.now) (seen c.loop-number.link)
    (held c.args.out.now) (held c.loop-number.out) (take_all c.loop-number.number-index c.args.running.now c.loop-number-test.false) c.loop-number.invariant.so_far
