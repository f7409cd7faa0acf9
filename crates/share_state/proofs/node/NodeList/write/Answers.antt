use Rattle.std.proofs.Common.{◌==◌, rules}
use Rattle.share_state.proofs.Edited.{edited_at, edited_none}
use Rattle.share_state.specs.declared.node.Node.{Node}
use Rattle.share_state.specs.Data.{written}
use Rattle.share_state.proofs.node.NodeList.write.Goals as goal

pub returns-in_ok-write_one-in-Some-clause-ok : goal.returns-in_ok-write_one-in-Some-clause-ok
returns-in_ok-write_one-in-Some-clause-ok c =
    rw c.self.view_is (edited_at (λ (x : Node). x.number == c.args.number) (λ (x : Node). record x { bytes = written c.args.offset c.args.others.now x.bytes }) c.args.self.now
    c.in-Some.place c.index_mut.result.now c.write_one.new.node (search rules) (search rules) (search rules))

pub returns-in-None-clause-ok : goal.returns-in-None-clause-ok
returns-in-None-clause-ok c = edited_none (λ (x : Node). x.number == c.args.number) (λ (x : Node). record x { bytes = written c.args.offset c.args.others.now x.bytes }) c.args.self.now (search rules)
