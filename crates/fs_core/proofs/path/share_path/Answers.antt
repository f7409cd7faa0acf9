use Rattle.fs_core.proofs.SharePaths.{share_path-written}
use Rattle.fs_core.proofs.path.share_path.Goals as goal

pub returns : goal.returns
returns c = share_path-written c.args.host.now c.args.share.now _ _ _ _ c.utf8.host c.in_ok-units.ensures c.in_ok-put_text.ensures c.in_ok-push.ensures.ok c.in_ok-put_text-2.ensures
