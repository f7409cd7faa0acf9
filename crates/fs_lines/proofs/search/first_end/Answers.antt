use Rattle.std.proofs.Common.{◌≡◌, ◌∙◌, ap, sym, arith}
use Rattle.std.proofs.lemmas.List.{take_all}
use Rattle.fs_lines.specs.Line.{first_line}
use Rattle.fs_lines.proofs.LineLaws.{ends_at, none_more, behind-none}
use Rattle.fs_lines.proofs.search.first_end.Goals as goal

pub returns-then-bytes-i-eq-LINE_END : goal.returns-then-bytes-i-eq-LINE_END
returns-then-bytes-i-eq-LINE_END c =
    ends_at c.args.bytes.now c.loop-i.i c.loop-i-test.true c.loop-i.invariant c.if-bytes-i-eq-LINE_END.true

pub loop-i-preserved : goal.loop-i-preserved
loop-i-preserved c = none_more c.args.bytes.now c.loop-i.i c.loop-i-test.true c.loop-i.invariant c.if-bytes-i-eq-LINE_END.false

pub returns : goal.returns
returns c =
    let all = take_all c.loop-i.i c.args.bytes.now (omega arith) in
    let none : first_line c.args.bytes.now ≡ c.args.bytes.now = ap first_line (sym all) ∙ c.loop-i.invariant ∙ all in
    (none, behind-none c.args.bytes.now none)
