use Rattle.std.proofs.Common.{rules, ◌≡◌, ◌==◌, true}
use Rattle.smb_mount.proofs.Same.{negotiated}
use Rattle.smb_mount.proofs.states.New.reply.Goals as goal

pub returns : goal.returns
returns c =
    let success : (c.head_in.result.status.0 == 0) ≡ true = search rules in
    negotiated c.args.self c.args.part.now c.head_in.result _ _ c.head_in.ensures success c.read_negotiate_reply.ensures.reads c.by_body.ensures
