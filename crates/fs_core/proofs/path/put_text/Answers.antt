use Rattle.std.proofs.Common.{rules, ◌∙◌, ◌++◌, sym, ap, append-nil}
use Rattle.std.specs.Str.Iter.{chars_rest}
use Rattle.std.proofs.lemmas.Str.{IsUtf8-past_char, chars_past_char}
use Rattle.smb_names.specs.WireName.{utf16}
use Rattle.smb_names.proofs.Steps.{chars-empty, one_piece_on}
use Rattle.fs_core.proofs.path.put_text.Goals as goal

pub loop-c-preserved : goal.loop-c-preserved
loop-c-preserved c = record {
  can_next = tt;
  is_finite = tt;
  text = IsUtf8-past_char _ _ c.in-Some.c c.loop-c.invariant.text c.in-Some.ensures.steps.0;
  rest = one_piece_on _ _ _ _ _ _ c.loop-c.invariant.rest (ap utf16 (chars_past_char _ _ c.in-Some.c c.loop-c.invariant.text c.in-Some.ensures.steps.0)) c.in_ok-put_char.ensures;
}

pub returns : goal.returns
returns c =
    sym (append-nil c.loop-c.units) ∙ ap (λ xs. c.loop-c.units ++ utf16 xs) (sym (chars-empty (chars_rest c.loop-c.c-iterator) (search rules))) ∙ c.loop-c.invariant.rest
