use Rattle.std.proofs.Common.{◌∙◌, ◌<◌, arith}
use Rattle.fs_script.specs.declared.line.Line.TheVariants as line
use Rattle.fs_ahead.specs.Script.{greatest}
use Rattle.fs_ahead.proofs.Coming.{line_brings_said}
use Rattle.fs_ahead.proofs.next.found_in.Goals as goal

pub returns-in-Ok-Call-clause-brings : goal.returns-in-Ok-Call-clause-brings
returns-in-Ok-Call-clause-brings c =
    let a = c.in-Ok-Call in
    let fits = c.ranges.number.fits in
    let other = c.if-number-eq18446744073709551615.false in
    let small : c.args.number < greatest = omega arith in
    c.found_call.ensures.brings
    ∙ line_brings_said c.args.number c.args.text.now c.as_str.result.now a.field-0 (line.Call a.lane a.call) small c.as_str.ensures c.as_str.utf8 a.field-0-is a.ensures.line

pub returns-in-Ok-Skip-clause-brings : goal.returns-in-Ok-Skip-clause-brings
returns-in-Ok-Skip-clause-brings c =
    let a = c.in-Ok-Skip in
    let fits = c.ranges.number.fits in
    let other = c.if-number-eq18446744073709551615.false in
    let small : c.args.number < greatest = omega arith in
    line_brings_said c.args.number c.args.text.now c.as_str.result.now a.field-0 line.Skip small c.as_str.ensures c.as_str.utf8 a.field-0-is a.ensures.line

pub returns-in-Ok-Wait-clause-brings : goal.returns-in-Ok-Wait-clause-brings
returns-in-Ok-Wait-clause-brings c =
    let a = c.in-Ok-Wait in
    let fits = c.ranges.number.fits in
    let other = c.if-number-eq18446744073709551615.false in
    let small : c.args.number < greatest = omega arith in
    line_brings_said c.args.number c.args.text.now c.as_str.result.now a.field-0 line.Wait small c.as_str.ensures c.as_str.utf8 a.field-0-is a.ensures.line
