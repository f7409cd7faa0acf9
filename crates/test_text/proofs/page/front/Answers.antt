-- a message that is shorter than a header is the front of itself
use Rattle.std.proofs.Common.{arith, sym}
use Rattle.std.proofs.lemmas.List.{take_all}
use Rattle.test_text.proofs.page.front.Goals as goal

pub returns-then-part-lt64 : goal.returns-then-part-lt64
returns-then-part-lt64 c = sym (take_all 64 c.args.part.now (omega arith))
