-- the open was found, nothing refuses the Rename, and its entry has the name
use Rattle.std.proofs.Common.{rules, ◌∙◌}
use Rattle.share_names.proofs.Renames.{rename_done}
use Rattle.share_names.proofs.renaming.rename.Goals as goal

pub returns-clause-ok : goal.returns-clause-ok
returns-clause-ok c =
    rename_done c.args.s.now c.args.who c.args.fid c.args.replace c.args.path.now c.in-Some.open.now (search rules) (search rules)
    ∙ (search rules)
