use Rattle.std.proofs.Common.{rules, ◌≡◌, ◌∙◌, ◌==◌, ◌++◌, true, false, length, ap, append-nil, string_bytes, Some}
use Rattle.std.specs.Option.{option_map}
use Rattle.std.specs.Str.{chars}
use Rattle.std.specs.Char.{encode_utf8}
use Rattle.std.specs.Str.Iter.{chars_rest}
use Rattle.std.proofs.lemmas.Str.{IsUtf8-past_char, IsUtf8-string_bytes}
use Rattle.smb_names.specs.WireSteps.{stands_for, original_char, original_chars}
use Rattle.smb_names.proofs.Steps.{original_chars-step, original_chars-nil, chars-empty, chars-push, read_begin, read_stop, read_on}
use Rattle.smb_names.proofs.name.original_name.Goals as goal

pub loop-w-init : goal.loop-w-init
loop-w-init c = record {
  can_next = tt;
  is_finite = tt;
  text = search rules;
  rest = rw c.chars-left.ensures.rest (read_begin (original_chars c.args.map (chars c.args.wire.now)) _ c.new-name.ensures.bytes);
}

pub returns-then-not-stands_for : goal.returns-then-not-stands_for
returns-then-not-stands_for c =
    let step = original_chars-step c.args.map _ _ c.in-Some.w c.is_empty.result c.loop-w.invariant.text c.in-Some.ensures.steps.0 (c.is_empty.ensures ∙ ap (λ s. length s == 0) c.as_str.ensures) in
    let no : stands_for c.args.map c.is_empty.result c.in-Some.w (original_char c.args.map c.in-Some.w) ≡ false = search rules in
    read_stop _ _ _ _ _ c.loop-w.invariant.rest step no

pub loop-w-preserved : goal.loop-w-preserved
loop-w-preserved c =
    let step = original_chars-step c.args.map _ _ c.in-Some.w c.is_empty.result c.loop-w.invariant.text c.in-Some.ensures.steps.0 (c.is_empty.ensures ∙ ap (λ s. length s == 0) c.as_str.ensures) in
    let yes : stands_for c.args.map c.is_empty.result c.in-Some.w (original_char c.args.map c.in-Some.w) ≡ true = search rules in
    let longer = c.in_ok-push.ensures.bytes ∙ ap (λ x. string_bytes c.loop-w.name ++ encode_utf8 x) c.original_char-c.ensures in
    let text = rw longer at (IsUtf8-string_bytes c.push.new.self) in
    record {
      can_next = tt;
      is_finite = tt;
      text = IsUtf8-past_char _ _ c.in-Some.w c.loop-w.invariant.text c.in-Some.ensures.steps.0;
      rest = read_on _ _ _ _ _ _ _ c.loop-w.invariant.rest step yes (ap chars longer ∙ chars-push (string_bytes c.loop-w.name) (original_char c.args.map c.in-Some.w) (IsUtf8-string_bytes c.loop-w.name) text);
    }

pub returns : goal.returns
returns c =
    let end = ap (original_chars c.args.map) (chars-empty (chars_rest c.loop-w.left) (search rules)) ∙ original_chars-nil c.args.map in
    rw c.of_string.ensures (IsUtf8-string_bytes c.loop-w.name, c.loop-w.invariant.rest ∙ ap (option_map (λ cs. chars (string_bytes c.loop-w.name) ++ cs)) end ∙ ap Some (append-nil (chars (string_bytes c.loop-w.name))))
