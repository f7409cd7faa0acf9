use Rattle.std.proofs.Common.{rules, ◌≡◌, length, ap, arith}
use Rattle.std.specs.Str.Iter.{chars_rest}
use Rattle.std.specs.Str.{chars}
use Rattle.std.proofs.lemmas.Str.{IsUtf8-past_char}
use Rattle.smb_names.specs.WireName.{utf16}
use Rattle.smb_names.proofs.Steps.{chars-empty}
use Rattle.smb_names.proofs.Units.{utf16-step, length-encode_utf16, length-utf16-le}
use Rattle.smb_names.proofs.name.utf16_len.Goals as goal

pub overflow_add-len : goal.overflow_add-len
overflow_add-len c =
    let step = utf16-step _ _ c.in-Some.c c.loop-c.invariant.text c.in-Some.ensures.steps.0 in
    let one = length-encode_utf16 c.in-Some.c c.len_utf16-len.result c.len_utf16-len.ensures.bmp c.len_utf16-len.ensures.surrogate_pair in
    let bound = length-utf16-le c.args.text.now c.utf8.text in
    let k = c.type_inv.text in
    omega (arith, step, one, bound, c.loop-c.invariant.rest)

pub loop-c-preserved : goal.loop-c-preserved
loop-c-preserved c =
    let step = utf16-step _ _ c.in-Some.c c.loop-c.invariant.text c.in-Some.ensures.steps.0 in
    let one = length-encode_utf16 c.in-Some.c c.len_utf16-len.result c.len_utf16-len.ensures.bmp c.len_utf16-len.ensures.surrogate_pair in
    record {
      can_next = tt;
      is_finite = tt;
      text = IsUtf8-past_char _ _ c.in-Some.c c.loop-c.invariant.text c.in-Some.ensures.steps.0;
      rest = omega (arith, step, one, c.loop-c.invariant.rest);
    }

pub returns : goal.returns
returns c =
    let none : length (utf16 (chars (chars_rest c.loop-c.c-iterator))) ≡ 0 = ap (λ cs. length (utf16 cs)) (chars-empty (chars_rest c.loop-c.c-iterator) (search rules)) in
    omega (arith, none, c.loop-c.invariant.rest)
