use Rattle.std.proofs.Common.{ap, refl, ◌∙◌, replicate}
use Rattle.smb_le.specs.Numbers.{bytes_of, overwritten}
use Rattle.smb_body_b.specs.Contexts.{fid_content}
use Rattle.smb_body_b.proofs.Content.{fid_written}
use Rattle.smb_body_b.proofs.contexts.fid_content.Goals as goal

pub returns-clause-value : goal.returns-clause-value
unfolding fid_content
returns-clause-value c =
    c.put_u64-2.ensures
    ∙ ap (overwritten 8 (bytes_of 8 c.args.fid.volatile)) c.put_u64.ensures
    ∙ fid_written (replicate 16 0) c.args.fid.persistent c.args.fid.volatile refl
