use Rattle.fs_script.proofs.Cuts.{cut_words}
use Rattle.fs_script.proofs.words.cut.Goals as goal

pub returns : goal.returns
returns c = cut_words c.args.line.now c.split_once.result c.split_once.ensures.cases
