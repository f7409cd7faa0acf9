-- the name that was found is the last one
use Rattle.std.proofs.Common.{rules}
use Rattle.share_names.proofs.LastName.{last_name_at}
use Rattle.share_names.proofs.target.last_name.Goals as goal

pub returns-in-Some : goal.returns-in-Some
returns-in-Some c =
    let found = c.in-Some.ensures.item in
    rw (last_name_at c.args.names.now c.in-Some.name.now found.3.0, ← found.1) (search rules)
