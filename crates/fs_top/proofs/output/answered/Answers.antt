use Rattle.std.proofs.Common.{rules, refl, sym}
use Rattle.smb_link.specs.Came.{seen_by}
use Rattle.smb_link.proofs.CameLaws.{came_none, story_with-nothing}
use Rattle.smb_link.specs.declared.mark.Mark.TheVariants as mark
use Rattle.fs_core.specs.declared.output.Output.TheVariants as output
use Rattle.fs_top.specs.Printing.{held_by}
use Rattle.fs_top.proofs.Outputs.{print_alone, print_came, print_printed, print_why, untold_alone, untold_came, untold_printed, untold_why}
use Rattle.fs_top.proofs.Printing.{took_nothing}
use Rattle.fs_top.proofs.output.answered.Goals as goal

pub returns : goal.returns
returns g c =
    let seen = seen_by g.L.Link.story g.L.Link.connect_faults g.L.Link.cuts g.L.Link.quiets in
    let held = held_by g.K.Sink.written g.K.Sink.faults g.K.Sink.stalls in
    record {
      alone = print_alone c.args.number c.args.answer c.print.result (g.L.Link.story c.args.link.now) (g.L.Link.story c.tell_answer.new.link) c.print.ensures.why c.in-Ok-tell_answer.ensures.alone;
      came = print_came c.args.number c.args.answer c.print.result (seen c.args.link.now) (seen c.tell_answer.new.link) c.print.ensures.why c.in-Ok-tell_answer.ensures.came;
      printed = print_printed c.args.number c.args.answer c.print.result c.in-Ok.line (held c.args.out.now) (held c.print.new.out) c.print.ensures.why c.in-Ok.ensures c.print.ensures.printed;
      why = print_why c.args.number c.args.answer c.print.result c.print.ensures.why;
      places = c.in-Ok-tell_answer.ensures.places;
    }

pub returns-in-Err-tell_answer : goal.returns-in-Err-tell_answer
returns-in-Err-tell_answer g c =
    let seen = seen_by g.L.Link.story g.L.Link.connect_faults g.L.Link.cuts g.L.Link.quiets in
    let held = held_by g.K.Sink.written g.K.Sink.faults g.K.Sink.stalls in
    let o = output.Answer c.args.number c.args.answer in
    record {
      alone = untold_alone o (mark.Answer c.args.number c.args.answer) c.in-Err-tell_answer.end (g.L.Link.story c.args.link.now) (g.L.Link.story c.tell_answer.new.link) c.in-Err-tell_answer.ensures.why
          c.in-Err-tell_answer.ensures.alone;
      came = untold_came o (mark.Answer c.args.number c.args.answer) c.in-Err-tell_answer.end (seen c.args.link.now) (seen c.tell_answer.new.link) c.in-Err-tell_answer.ensures.why c.in-Err-tell_answer.ensures.came;
      printed = untold_printed o c.in-Err-tell_answer.end (held c.args.out.now) c.in-Err-tell_answer.ensures.why;
      why = untold_why o c.in-Err-tell_answer.end c.in-Err-tell_answer.ensures.why;
      places = c.in-Err-tell_answer.ensures.places;
    }

pub returns-in-Err : goal.returns-in-Err
returns-in-Err g c =
    let seen = seen_by g.L.Link.story g.L.Link.connect_faults g.L.Link.cuts g.L.Link.quiets in
    let held = held_by g.K.Sink.written g.K.Sink.faults g.K.Sink.stalls in
    record {
      alone = sym (story_with-nothing (g.L.Link.story c.args.link.now));
      came = came_none (seen c.args.link.now);
      printed = took_nothing (held c.args.out.now);
      why = search rules;
      places = (refl, refl);
    }
