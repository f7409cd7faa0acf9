use Rattle.std.proofs.Common.{inl, inr, Option, refl, subst}
use Rattle.smb_link.specs.Came.{seen_by}
use Rattle.fs_ahead.specs.declared.asked.Over.{Over}
use Rattle.fs_top.specs.Printing.{held_by}
use Rattle.fs_top.specs.Steps.{EndsOver}
use Rattle.fs_top.proofs.Printing.{took_nothing}
use Rattle.fs_top.proofs.run.begin.Goals as goal

pub returns-in-Ok-clause-begins : goal.returns-in-Ok-clause-begins
returns-in-Ok-clause-begins g c = inr (record {
  between = seen_by g.L.Link.story g.L.Link.connect_faults g.L.Link.cuts g.L.Link.quiets c.join.new.link;
  joins = c.in-Ok.ensures.joins;
  gave = c.take.ensures.gave;
  ends = c.take.ensures.ends;
  over = subst (λ (o : Option Over). EndsOver c.take.result o) c.requires.fresh c.take.ensures.over;
})

pub returns-in-Err-clause-begins : goal.returns-in-Err-clause-begins
returns-in-Err-clause-begins g c = inl (record {
  why = c.in-Err.end;
  is = refl;
  joins = c.in-Err.ensures.joins;
  printed = took_nothing (held_by g.K.Sink.written g.K.Sink.faults g.K.Sink.stalls c.args.out.now);
})
