use Rattle.std.proofs.Common.{◌∙◌, ap, length}
use Rattle.fs_core.proofs.SharePaths.{share_path-short}
use Rattle.fs_core.proofs.machine.Core.new.Goals as goal

pub new-mount-requires : goal.new-mount-requires
new-mount-requires c =
    rw (ap length (c.in_ok-of.ensures ∙ c.as_slice.ensures ∙ c.in_ok-path.ensures))
    (share_path-short c.args.host.now c.args.share.now c.utf8.host c.utf8.share c.requires.host.1 c.requires.share.1)
