use Rattle.std.proofs.Common.{◌∙◌, sym}
use Rattle.smb_head.proofs.StreamLaws.{told-more, told-all, rest_in-whole, settled-partial, settled-bad}
use Rattle.smb_head.proofs.frames.take_whole.Goals as goal

pub loop-frame-preserved : goal.loop-frame-preserved
loop-frame-preserved c =
    let whole = rw c.in-Ok-Some.field-0-is at c.in-Ok-Some.ensures.whole in
    record {
      told = told-more c.loop-frame.frames.items c.push.new.self.items _ c.loop-frame.held c.in-Ok-Some.frame c.next.new.self c.loop-frame.invariant.told c.in_ok-push-in-Ok-Some.ensures.items whole;
      left = sym (rest_in-whole c.loop-frame.held c.in-Ok-Some.frame c.next.new.self whole) ∙ c.loop-frame.invariant.left;
    }

pub returns-in-Ok-None-clause-frames : goal.returns-in-Ok-None-clause-frames
returns-in-Ok-None-clause-frames c =
    let partial = rw c.in-Ok-None.field-0-is at c.in-Ok-None.ensures.partial in
    told-all c.loop-frame.frames.items _ c.loop-frame.held c.loop-frame.invariant.told (settled-partial c.loop-frame.held partial.0)

pub returns-in-Ok-None-clause-rest : goal.returns-in-Ok-None-clause-rest
returns-in-Ok-None-clause-rest c =
    let partial = rw c.in-Ok-None.field-0-is at c.in-Ok-None.ensures.partial in
    partial.1 ∙ sym (settled-partial c.loop-frame.held partial.0).all_left ∙ c.loop-frame.invariant.left

pub returns-in-Err-NotZero-clause-frames : goal.returns-in-Err-NotZero-clause-frames
returns-in-Err-NotZero-clause-frames c =
    let bad = rw c.in-Err-NotZero.field-0-is at c.in-Err-NotZero.ensures.fault in
    told-all c.loop-frame.frames.items _ c.loop-frame.held c.loop-frame.invariant.told (settled-bad c.loop-frame.held _ bad)

pub returns-in-Err-NotZero-clause-rest : goal.returns-in-Err-NotZero-clause-rest
returns-in-Err-NotZero-clause-rest c =
    let bad = rw c.in-Err-NotZero.field-0-is at c.in-Err-NotZero.ensures.fault in
    c.in-Err-NotZero.ensures.err ∙ sym (settled-bad c.loop-frame.held _ bad).all_left ∙ c.loop-frame.invariant.left

pub returns-in-Err-TooLarge-clause-frames : goal.returns-in-Err-TooLarge-clause-frames
returns-in-Err-TooLarge-clause-frames c =
    let bad = rw c.in-Err-TooLarge.field-0-is at c.in-Err-TooLarge.ensures.fault in
    told-all c.loop-frame.frames.items _ c.loop-frame.held c.loop-frame.invariant.told (settled-bad c.loop-frame.held _ bad)

pub returns-in-Err-TooLarge-clause-rest : goal.returns-in-Err-TooLarge-clause-rest
returns-in-Err-TooLarge-clause-rest c =
    let bad = rw c.in-Err-TooLarge.field-0-is at c.in-Err-TooLarge.ensures.fault in
    c.in-Err-TooLarge.ensures.err ∙ sym (settled-bad c.loop-frame.held _ bad).all_left ∙ c.loop-frame.invariant.left
