use Rattle.std.proofs.Common.{◌∙◌, sym, ap, subst, List}
use Rattle.std.proofs.lemmas.Result.{on_ok_weaker}
use Rattle.smb_mux.specs.declared.taken.Reply.{Reply}
use Rattle.fs_core.specs.Going.{StopsAmong, AreRead}
use Rattle.fs_core.specs.Kept.{CoreValue}
use Rattle.fs_core.specs.Steps.{LandAll, with_frame}
use Rattle.fs_core.proofs.Composed.{if_err}
use Rattle.fs_core.proofs.Landing.{frame_comes}
use Rattle.fs_core.proofs.LandingFaults.{frame_stops}
use Rattle.fs_core.proofs.machine.Core.land.Goals as goal

pub land_all-requires : goal.land_all-requires
land_all-requires c = record { read = subst AreRead (sym c.as_slice.ensures) c.in-Ok.ensures.read }

pub returns-in-Ok-clause-comes : goal.returns-in-Ok-clause-comes
returns-in-Ok-clause-comes c =
    let old : CoreValue = c.args.self.now in
    on_ok_weaker c.land_all.result
    (λ land. frame_comes c.args.frame.now c.in-Ok.taken old c.land_all.new.self c.in-Ok.ensures.sound
    (subst (λ (replies : List Reply). LandAll old.setting.options replies (with_frame c.args.frame.now c.in-Ok.taken old.kept) c.land_all.new.self.kept) c.as_slice.ensures
    (subst (λ (v : CoreValue). LandAll v.setting.options c.as_slice.result.now v.kept c.land_all.new.self.kept) c.in-Ok.ensures.ok land))
    (c.land_all.ensures.setting ∙ ap (λ (v : CoreValue). v.setting) c.in-Ok.ensures.ok)
    (c.land_all.ensures.outs ∙ ap (λ (v : CoreValue). v.outs) c.in-Ok.ensures.ok)) c.land_all.ensures.land

pub returns-in-Ok-clause-err : goal.returns-in-Ok-clause-err
returns-in-Ok-clause-err c =
    let old : CoreValue = c.args.self.now in
    if_err c.land_all.result
    (λ f stops. frame_stops c.args.frame.now c.in-Ok.taken old f c.in-Ok.ensures.sound
    (subst (λ (replies : List Reply). StopsAmong old.setting.options replies (with_frame c.args.frame.now c.in-Ok.taken old.kept) f) c.as_slice.ensures
    (subst (λ (v : CoreValue). StopsAmong v.setting.options c.as_slice.result.now v.kept f) c.in-Ok.ensures.ok stops))) c.land_all.ensures.err
