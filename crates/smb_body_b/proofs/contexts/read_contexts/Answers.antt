use Rattle.std.proofs.Common.{ap, sym, ◌∙◌, Option, inl, inr, ok_or}
use Rattle.smb_field.specs.declared.field.BodyFault.TheVariants.{Short}
use Rattle.smb_body_b.specs.declared.contexts.ContextSet.{ContextSet}
use Rattle.smb_body_b.proofs.Chain.{positive, walked_start, walked_lost, walked_end, walked_small, walked_past, walked_more, gathered-none, read_of-empty}
use Rattle.smb_body_b.proofs.contexts.read_contexts.Goals as goal

pub returns-then-is_empty : goal.returns-then-is_empty
returns-then-is_empty c = read_of-empty c.args.reply c.args.list.now (sym c.is_empty.ensures ∙ c.if-is_empty.true)

pub loop-context-init : goal.loop-context-init
loop-context-init c = walked_start c.args.reply c.args.list.now _ (positive _ (sym c.is_empty.ensures ∙ c.if-is_empty.false)) (gathered-none c.args.reply)

pub returns-in_default : goal.returns-in_default
returns-in_default c = walked_lost c.args.reply c.args.list.now c.loop-context.rest.now c.loop-context.so_far c.loop-context.invariant c.in_default.ensures

pub returns-then-context-eq0 : goal.returns-then-context-eq0
returns-then-context-eq0 c =
    c.ok_or.ensures.value
    ∙ ap (λ (o : Option ContextSet). ok_or o Short) c.extended-so_far.ensures
    ∙ walked_end c.args.reply c.args.list.now c.loop-context.rest.now c.loop-context.so_far _ c.in-Some.context.next c.loop-context.invariant
    c.in-Some.ensures.0 c.in-Some.ensures.2 c.in-Some.ensures.1 c.if-context-eq0.true

pub returns-in_default-after : goal.returns-in_default-after
returns-in_default-after c =
    elim c.in_default-after.ensures [
      | inl small ↦ walked_small c.args.reply c.args.list.now c.loop-context.rest.now c.loop-context.so_far _ c.in-Some.context.next c.loop-context.invariant
          c.in-Some.ensures.0 c.in-Some.ensures.2 c.in-Some.ensures.1 c.if-context-eq0.false small
      | inr past ↦ walked_past c.args.reply c.args.list.now c.loop-context.rest.now c.loop-context.so_far _ c.in-Some.context.next c.loop-context.invariant
          c.in-Some.ensures.0 c.in-Some.ensures.2 c.in-Some.ensures.1 past
    ]

pub loop-context-preserved : goal.loop-context-preserved
loop-context-preserved c =
    rw c.extended-so_far.ensures
    (walked_more c.args.reply c.args.list.now c.loop-context.rest.now c.in-Some-after.others.now c.loop-context.so_far _ c.in-Some.context.next
    c.loop-context.invariant c.in-Some.ensures.0 c.in-Some.ensures.2 c.in-Some.ensures.1 c.in-Some-after.ensures.1 c.in-Some-after.ensures.0)
