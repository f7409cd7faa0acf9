use Rattle.std.proofs.Common.{sym}
use Rattle.std.proofs.lemmas.List.{append-nil}
use Rattle.share_box.proofs.FrameParts.{short_asks_nothing}
use Rattle.share_box.proofs.sending.add_part.Goals as goal

pub returns-then-part-lt64 : goal.returns-then-part-lt64
returns-then-part-lt64 c = rw (short_asks_nothing c.args.part.now c.if-part-lt64.true) (sym (append-nil c.args.sent.now))
