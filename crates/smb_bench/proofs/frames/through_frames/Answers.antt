use Rattle.std.proofs.Common.{arith, ◌≡◌, ◌∙◌, ◌+◌, ◌++◌, [], List, ℕ, length, ap, sym, append_assoc, length-append}
use Rattle.std.proofs.lemmas.List.{append-nil, nil_from_length}
use Rattle.std.specs.Slice.Iter.{chunks_rest}
use Rattle.std.specs.declared.slice.Chunks.{Chunks}
use Rattle.smb_head.specs.Stream.{frames_in, rest_in}
use Rattle.smb_head.proofs.FrameLaws.{first_of-nil}
use Rattle.smb_head.proofs.StreamLaws.{split, settled, settled-partial}
use Rattle.smb_bench.proofs.frames.through_frames.Goals as goal

pub loop-part-init : goal.loop-part-init
loop-part-init c =
    let whole : chunks_rest c.into_iter-part-iterator.result ≡ c.args.stream.now =
    ap (λ (s : Chunks ℕ). chunks_rest s) c.into_iter-part-iterator.ensures.into_iter_gives ∙ c.chunks-part-items.ensures.rest in
    rw (c.new-frames.ensures, whole) record { told = omega arith; fits = omega arith; settled = settled-partial [] first_of-nil }

pub loop-part-preserved : goal.loop-part-preserved
loop-part-preserved c =
    let rest = chunks_rest c.next.new.self in
    let cut : chunks_rest c.loop-part.part-iterator ≡ c.in-Some.part.now ++ rest = c.in-Some.ensures.steps.1.0 in
    let fed : c.feed.new.self ≡ c.loop-part.frames ++ c.in-Some.part.now = c.in_ok-feed.ensures.ok in
    let both : c.loop-part.frames ++ chunks_rest c.loop-part.part-iterator ≡ c.feed.new.self ++ rest =
    ap (λ (l : List ℕ). c.loop-part.frames ++ l) cut ∙ sym (append_assoc c.loop-part.frames c.in-Some.part.now rest) ∙ ap (λ (l : List ℕ). l ++ rest) (sym fed) in
    let parts = split c.feed.new.self rest in
    let all : length (frames_in (c.loop-part.frames ++ chunks_rest c.loop-part.part-iterator)) ≡ length (frames_in c.feed.new.self) + length (frames_in (rest_in c.feed.new.self ++ rest)) =
    ap (λ (l : List ℕ). length (frames_in l)) both ∙ ap length parts.frames ∙ length-append (frames_in c.feed.new.self) (frames_in (rest_in c.feed.new.self ++ rest)) in
    let now : length (frames_in (c.take.new.frames ++ rest)) ≡ length (frames_in (rest_in c.feed.new.self ++ rest)) =
    ap (λ (l : List ℕ). length (frames_in (l ++ rest))) c.in_ok-count.ensures.rest in
    record {
      told = omega (arith, all, now, c.in_ok-count.ensures.count, c.loop-part.invariant.told);
      fits = omega (arith, c.in_ok-count.ensures.count);
      settled = rw c.in_ok-count.ensures.rest (settled c.feed.new.self);
    }

pub returns : goal.returns
returns c =
    let over : chunks_rest c.loop-part.part-iterator ≡ [] = nil_from_length (chunks_rest c.loop-part.part-iterator) c.in-None.ensures.steps.1.0 in
    let none : length (frames_in (c.loop-part.frames ++ chunks_rest c.loop-part.part-iterator)) ≡ 0 =
    ap (λ (l : List ℕ). length (frames_in (c.loop-part.frames ++ l))) over
    ∙ ap (λ (l : List ℕ). length (frames_in l)) (append-nil c.loop-part.frames)
    ∙ ap length c.loop-part.invariant.settled.no_frame in
    omega (arith, none, c.loop-part.invariant.told, c.loop-part.invariant.fits)
