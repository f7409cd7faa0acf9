use Rattle.std.proofs.Common.{sym}
use Rattle.std.proofs.lemmas.List.{append-nil}
use Rattle.smb_chain.specs.Parts.{parts_of}
use Rattle.fs_plain.specs.World.{first_mid}
use Rattle.share_box.proofs.FrameParts.{none_in_short}
use Rattle.share_box.proofs.sending.add_message.Goals as goal

pub returns-then-message-lt64 : goal.returns-then-message-lt64
returns-then-message-lt64 c = rw (none_in_short (first_mid (parts_of c.args.message.now)) c.args.message.now c.if-message-lt64.true) (sym (append-nil c.args.sent.now))
