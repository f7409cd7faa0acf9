use Rattle.std.proofs.Common.{◌≡◌, ◌<◌, ◌^◌, true, sym, ◌∙◌, arith}
use Rattle.fs_script.specs.Numbers.{is_number}
use Rattle.fs_script.proofs.Numbers.{number_unread}
use Rattle.fs_script.proofs.number.number_of.Goals as goal

pub returns-in-Err-clause-value : goal.returns-in-Err-clause-value
returns-in-Err-clause-value c =
    let fits = c.ranges.most.fits in
    let small : c.args.most < 2 ^ 64 = omega arith in
    let is : is_number c.args.word.now ≡ true = sym c.is_number.ensures ∙ c.if-not-is_number.false in
    sym (number_unread c.args.most c.args.word.now c.in-Err.field-0 is small c.in-Err.ensures.value.0)
