use Rattle.std.proofs.Common.{rules, ◌∙◌, ◌==◌, ◌||◌, length, sym, ap}
use Rattle.std.specs.Str.{chars}
use Rattle.std.specs.Str.Iter.{chars_rest}
use Rattle.std.proofs.lemmas.Str.{IsUtf8-past_char}
use Rattle.smb_names.specs.WireName.{holds_reserved}
use Rattle.smb_names.proofs.Steps.{holds_reserved-step, holds_reserved-nil, chars-empty}
use Rattle.smb_names.proofs.name.holds_reserved.Goals as goal

pub returns-then-is_refused : goal.returns-then-is_refused
returns-then-is_refused c =
    let step = holds_reserved-step c.args.map _ _ c.in-Some.c c.is_empty.result c.loop-c.invariant.text c.in-Some.ensures.steps.0 (c.is_empty.ensures ∙ ap (λ s. length s == 0) c.as_str.ensures) in
    let here = sym c.is_refused.ensures ∙ c.if-is_refused.true in
    sym (c.loop-c.invariant.rest ∙ step ∙ ap (λ b. b || holds_reserved c.args.map (chars (chars_rest c.next.new.self))) here)

pub loop-c-preserved : goal.loop-c-preserved
loop-c-preserved c =
    let step = holds_reserved-step c.args.map _ _ c.in-Some.c c.is_empty.result c.loop-c.invariant.text c.in-Some.ensures.steps.0 (c.is_empty.ensures ∙ ap (λ s. length s == 0) c.as_str.ensures) in
    let here = sym c.is_refused.ensures ∙ c.if-is_refused.false in
    record {
      can_next = tt;
      is_finite = tt;
      text = IsUtf8-past_char _ _ c.in-Some.c c.loop-c.invariant.text c.in-Some.ensures.steps.0;
      rest = c.loop-c.invariant.rest ∙ step ∙ ap (λ b. b || holds_reserved c.args.map (chars (chars_rest c.next.new.self))) here;
    }

pub returns : goal.returns
returns c = sym (c.loop-c.invariant.rest ∙ ap (holds_reserved c.args.map) (chars-empty _ (search rules)) ∙ holds_reserved-nil c.args.map)
