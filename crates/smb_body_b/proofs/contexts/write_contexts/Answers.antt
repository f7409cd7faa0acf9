use Rattle.std.proofs.Common.{ap, ◌∙◌, ◌++◌, List, ℕ}
use Rattle.smb_body_b.proofs.SetAgain.{read_again, parts_spelled}
use Rattle.smb_body_b.proofs.contexts.write_contexts.Goals as goal

pub returns-in-Ok : goal.returns-in-Ok
returns-in-Ok c = (
  c.in-Ok.ensures.ok.0
      ∙ ap (λ (xs : List ℕ). c.args.out.now.items ++ xs) (parts_spelled c.args.reply c.args.set.now.lease c.args.set.now.durable c.args.set.now.reclaim),
  read_again c.args.reply c.args.set.now c.in-Ok.ensures.ok.1 c.in-Ok.ensures.ok.2,
)
