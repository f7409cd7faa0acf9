use Rattle.std.proofs.Common.{◌≡◌, ◌++◌, ap, sym, ◌∙◌}
use Rattle.smb_head.specs.Stream.{first_of, Whole}
use Rattle.fs_top.proofs.Bytes.{taken_whole, none_behind}
use Rattle.fs_top.proofs.hear.take_in.Goals as goal

pub returns-in-Ok-Some : goal.returns-in-Ok-Some
returns-in-Ok-Some c =
    let whole : first_of c.feed.new.self ≡ Whole c.in-Ok-Some.frame c.next.new.self = rw c.in-Ok-Some.field-0-is at c.in-Ok-Some.ensures.whole in
    let all : first_of (c.args.frames.now ++ c.args.piece.now) ≡ Whole c.in-Ok-Some.frame c.next.new.self =
    ap first_of (sym c.in-Ok.ensures.ok) ∙ whole in
    record {
      taken = taken_whole c.counted.result (c.args.frames.now ++ c.args.piece.now) c.in-Ok-Some.frame c.next.new.self c.args.received.now c.counted.new.received all
          (none_behind c.args.frames.now c.args.piece.now c.in-Ok-Some.frame c.next.new.self c.requires.partial all c.requires.room)
          c.counted.ensures.counted c.counted.ensures.few c.counted.ensures.many;
    }
