use Rattle.std.proofs.Common.{rules, ◌∙◌, ◌==◌, ◌++◌, length, sym, ap, append-nil}
use Rattle.std.specs.Str.Iter.{chars_rest}
use Rattle.std.proofs.lemmas.Str.{IsUtf8-past_char}
use Rattle.std.specs.Char.Escape.{encode_utf16}
use Rattle.smb_names.proofs.Steps.{spelling-step, spelling-nil, one_piece_on}
use Rattle.smb_names.proofs.name.write_name.Goals as goal

pub loop-c-preserved : goal.loop-c-preserved
loop-c-preserved c =
    let step = spelling-step c.args.map _ _ c.in-Some.c c.is_empty.result c.loop-c.invariant.text c.in-Some.ensures.steps.0 (c.is_empty.ensures ∙ ap (λ s. length s == 0) c.as_str.ensures) in
    record {
      can_next = tt;
      is_finite = tt;
      text = IsUtf8-past_char _ _ c.in-Some.c c.loop-c.invariant.text c.in-Some.ensures.steps.0;
      rest = one_piece_on _ _ _ _ _ _ c.loop-c.invariant.rest step (c.in_ok-write_char.ensures ∙ ap (λ w. c.loop-c.units ++ encode_utf16 w) c.wire_char-wire.ensures);
    }

pub returns : goal.returns
returns c = sym (append-nil c.loop-c.units) ∙ ap (λ xs. c.loop-c.units ++ xs) (sym (spelling-nil c.args.map (chars_rest c.loop-c.left) (search rules))) ∙ c.loop-c.invariant.rest
