use Rattle.fs_top.proofs.Pings.Parts.{part_long}
use Rattle.fs_top.proofs.ping.verdict.judge.Goals as goal

pub judge_reply-requires : goal.judge_reply-requires
judge_reply-requires c = part_long c.args.message.now c.in-Ok-first_part.part.now c.in-Ok-first_part.rest c.in-Ok.ensures.found.long_enough c.in-Ok-first_part.ensures.value
