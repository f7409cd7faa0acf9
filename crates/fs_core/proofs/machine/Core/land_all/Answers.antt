use Rattle.std.proofs.Common.{◌∙◌, sym, subst, List, take, drop, ◌+◌}
use Rattle.smb_mux.specs.declared.taken.Reply.{Reply}
use Rattle.fs_client.specs.View.{Setting}
use Rattle.fs_core.specs.Steps.{Lands, LandAll}
use Rattle.fs_core.proofs.LandingLoop.{land_more, taken_more, split_at}
use Rattle.fs_core.proofs.machine.Core.land_all.Goals as goal

pub loop-reply-preserved : goal.loop-reply-preserved
loop-reply-preserved c = (
  subst (λ (l : List Reply). LandAll c.args.self.now.setting.options l c.args.self.now.kept c.land_reply.new.self.kept)
      (sym (taken_more c.args.replies.now c.loop-reply.reply-index c.reply-item.result c.loop-reply-test.true c.reply-item.is))
      (land_more c.args.self.now.setting.options (take c.loop-reply.reply-index c.args.replies.now) c.reply-item.result c.args.self.now.kept c.loop-reply.self.kept
      c.land_reply.new.self.kept c.loop-reply.invariant.0
      (subst (λ (s : Setting). Lands s.options c.reply-item.result c.loop-reply.self.kept c.land_reply.new.self.kept) c.loop-reply.invariant.1 c.in-Ok.ensures.land)),
  c.in-Ok.ensures.setting ∙ c.loop-reply.invariant.1,
  c.in-Ok.ensures.outs ∙ c.loop-reply.invariant.2,
)

pub returns-in-Err-clause-err : goal.returns-in-Err-clause-err
returns-in-Err-clause-err c = record {
  before = take c.loop-reply.reply-index c.args.replies.now;
  reply = c.reply-item.result;
  later = drop (c.loop-reply.reply-index + 1) c.args.replies.now;
  told = split_at c.args.replies.now c.loop-reply.reply-index c.reply-item.result c.loop-reply-test.true c.reply-item.is;
  between = c.loop-reply.self.kept;
  land = c.loop-reply.invariant.0;
  stops = c.in-Err.ensures.err;
}
