use Rattle.std.proofs.Common.{arith, ◌≡◌, ◌∙◌, length, ap, sym, suc}
use Rattle.smb_head.specs.Stream.{Whole, first_of, frames_in}
use Rattle.smb_head.proofs.StreamLaws.{frames_in-whole, rest_in-whole, settled-partial}
use Rattle.smb_bench.proofs.frames.take.Goals as goal

pub loop-frame-preserved : goal.loop-frame-preserved
loop-frame-preserved c =
    let whole : first_of c.loop-frame.frames ≡ Whole c.in-Some.frame c.next.new.self = rw c.in-Some.is at c.in_ok-frame.ensures.whole in
    let more : length (frames_in c.loop-frame.frames) ≡ suc (length (frames_in c.next.new.self)) =
    ap length (frames_in-whole c.loop-frame.frames c.in-Some.frame c.next.new.self whole) in
    record {
      told = omega (arith, more, c.saturating_add-count.ensures, c.loop-frame.invariant.told);
      fits = omega (arith, c.saturating_add-count.ensures);
      left = sym (rest_in-whole c.loop-frame.frames c.in-Some.frame c.next.new.self whole) ∙ c.loop-frame.invariant.left;
    }

pub returns-in-None-clause-count : goal.returns-in-None-clause-count
returns-in-None-clause-count c =
    let partial = rw c.in-None.is at c.in_ok-frame.ensures.partial in
    let none = ap length (settled-partial c.loop-frame.frames partial.0).no_frame in
    omega (arith, none, c.loop-frame.invariant.told, c.loop-frame.invariant.fits)

pub returns-in-None-clause-rest : goal.returns-in-None-clause-rest
returns-in-None-clause-rest c =
    let partial = rw c.in-None.is at c.in_ok-frame.ensures.partial in
    partial.1 ∙ sym (settled-partial c.loop-frame.frames partial.0).all_left ∙ c.loop-frame.invariant.left
