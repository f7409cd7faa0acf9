use Rattle.std.proofs.Common.{ap, sym, ◌∙◌}
use Rattle.smb_link.specs.Count.{counted}
use Rattle.fs_ahead.proofs.Coming.{line_brings, bad_text_brings, long_brings, line_no_source}
use Rattle.fs_ahead.proofs.next.next_line.Goals as goal

pub returns-in-Line-clause-brings : goal.returns-in-Line-clause-brings
returns-in-Line-clause-brings g c =
    let a = c.in-Line.ensures in
    line_brings c.args.lines.now c.next.new.self (g.S.Source.left c.args.input.now) (g.S.Source.left c.next.new.source) a.gave.0 c.in-Line.text
    c.number.result c.found_in.result c.requires a.number a.gave.1.took a.told c.number.ensures c.found_in.ensures.brings

pub returns-in-Line-clause-faults : goal.returns-in-Line-clause-faults
returns-in-Line-clause-faults g c =
    c.in-Line.ensures.faults
    ∙ ap (counted (g.S.Source.faults c.args.input.now)) (sym (line_no_source c.number.result c.in-Line.text c.found_in.result c.found_in.ensures.brings))

pub returns-in-NotText-clause-brings : goal.returns-in-NotText-clause-brings
returns-in-NotText-clause-brings g c =
    let a = c.in-NotText.ensures in
    bad_text_brings c.args.lines.now c.next.new.self (g.S.Source.left c.args.input.now) (g.S.Source.left c.next.new.source) a.gave.0 c.number-in-NotText.result
    c.number-in-NotText.ensures c.requires a.number a.gave.1.took a.told

pub returns-in-TooLong-clause-brings : goal.returns-in-TooLong-clause-brings
returns-in-TooLong-clause-brings g c =
    let a = c.in-TooLong.ensures in
    long_brings c.args.lines.now c.next.new.self (g.S.Source.left c.args.input.now) (g.S.Source.left c.next.new.source) a.gave.0 c.number-in-TooLong.result
    c.number-in-TooLong.ensures c.requires a.number a.gave.1.took a.told
