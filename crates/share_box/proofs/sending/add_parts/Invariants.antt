-- those so far, with those among the parts to come, are all
use Rattle.std.proofs.Common.{◌≡◌, ◌++◌}
use Rattle.smb_chain.specs.Parts.{parts_of}
use Rattle.fs_plain.specs.World.{requests_among}
use Rattle.share_box.proofs.sending.add_parts.Given as goal

abbrev pub invariant-loop-part : goal.invariant-loop-part
invariant-loop-part l = l.sent ++ requests_among l.frame l.part-iterator ≡ l.fn.sent ++ requests_among l.frame (parts_of l.message)
