use Rattle.std.proofs.Common.{ap, sym, refl, ◌∙◌, ◌++◌, List, ℕ, replicate, length}
use Rattle.smb_le.specs.Numbers.{bytes_of, overwritten}
use Rattle.smb_body_b.specs.Contexts.{lease_content}
use Rattle.smb_body_b.proofs.Content.{lease_written}
use Rattle.smb_body_b.proofs.contexts.lease_content.Goals as goal

pub returns-clause-value : goal.returns-clause-value
unfolding lease_content
returns-clause-value c =
    c.put_u32.ensures
    ∙ ap (λ (key : List ℕ). overwritten 16 (bytes_of 4 c.args.state) (key ++ replicate 16 0)) c.copy_from_slice.ensures.after
    ∙ lease_written c.args.key.0 (replicate 16 0) c.args.state (ap length (sym c.copy_from_slice.ensures.after) ∙ c.copy_from_slice.ensures.len) refl
