-- each call is of a shorter name
use Rattle.std.proofs.Common.{length}
use Rattle.share_names.proofs.names.+same_name.Given as goal

abbrev pub decreases-same_name : goal.decreases-same_name
decreases-same_name l = length l.one.now
