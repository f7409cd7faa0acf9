use Rattle.fs_top.proofs.Started.{wish_taken}
use Rattle.fs_top.proofs.run.take_wish.Goals as goal

pub returns : goal.returns
returns c = record {
  taken = wish_taken c.pop.result c.args.core.now c.pop.new.self c.requires.wishes c.pop.ensures.some c.pop.ensures.none c.pop.ensures.kept c.pop.ensures.setting;
}
