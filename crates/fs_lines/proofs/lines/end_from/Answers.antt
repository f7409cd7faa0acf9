use Rattle.std.proofs.Common.{List, ℕ, Some, None, subst}
use Rattle.fs_lines.specs.Line.{EndsAt}
use Rattle.fs_lines.proofs.LineLaws.{ends-from, none-from}
use Rattle.fs_lines.proofs.lines.end_from.Goals as goal

pub returns-in-Some : goal.returns-in-Some
returns-in-Some c =
    ends-from c.args.seen c.args.bytes.now c.in-Some.n c.requires.0 c.requires.1
    (subst (λ (l : List ℕ). EndsAt l (Some c.in-Some.n)) c.from.ensures c.in-Some.ensures)

pub returns-in-None : goal.returns-in-None
returns-in-None c =
    none-from c.args.seen c.args.bytes.now c.requires.1
    (subst (λ (l : List ℕ). EndsAt l None) c.from.ensures c.in-None.ensures)
