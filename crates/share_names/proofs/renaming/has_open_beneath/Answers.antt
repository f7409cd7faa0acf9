-- what has no entries has nothing beneath it
use Rattle.std.proofs.Common.{rules}
use Rattle.share_names.proofs.Beneath.{no_open_beneath}
use Rattle.share_names.proofs.renaming.has_open_beneath.Goals as goal

pub returns-else-has_entries : goal.returns-else-has_entries
returns-else-has_entries c = search (rules, no_open_beneath)
