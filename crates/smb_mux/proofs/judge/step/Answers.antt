use Rattle.smb_mux.proofs.JudgeLaws.{walk_none, walk_with, walk_fault}
use Rattle.smb_mux.proofs.judge.step.Goals as goal

pub returns-in-Ok-with-clause-walks : goal.returns-in-Ok-with-clause-walks
returns-in-Ok-with-clause-walks c =
    walk_with c.args.flights.now.entries c.args.so_far c.in-Ok-with.now c.args.bytes.now c.in-Ok.part.now c.in-Ok.rest c.look_at-look.result
    c.in-Ok.ensures.exact c.look_at-look.ensures c.in-Ok-with.ensures

pub returns-in-Ok-clause-walks : goal.returns-in-Ok-clause-walks
returns-in-Ok-clause-walks c =
    walk_fault c.args.flights.now.entries c.args.so_far c.args.bytes.now c.in-Ok.part.now c.in-Ok.rest c.look_at-look.result c.in-Err-with.fault
    c.in-Ok.ensures.exact c.look_at-look.ensures c.in-Err-with.ensures

pub returns-clause-walks : goal.returns-clause-walks
returns-clause-walks c = walk_none c.args.flights.now.entries c.args.so_far c.args.bytes.now c.in-Err.fault c.in-Err.ensures.exact
