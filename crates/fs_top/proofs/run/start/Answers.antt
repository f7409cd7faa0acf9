use Rattle.std.proofs.Common.{◌≡◌, ◌∙◌, ◌<◌, ℕ, [], refl, ap, sym, subst, arith}
use Rattle.fs_core.specs.Kept.{CoreValue}
use Rattle.fs_top.specs.Run.{core_of}
use Rattle.fs_top.proofs.Started.{started_state, started_ready}
use Rattle.fs_top.proofs.run.start.Goals as goal

pub returns : goal.returns
returns c =
    let e = c.new-2.result in
    let says = c.new-2.ensures in
    let starts = says.starts in
    let core : CoreValue = core_of c.args.seed c.args.host.now c.args.share.now in
    let is : e.core ≡ core = says.core ∙ c.take_wish.ensures.taken ∙ ap (λ (x : CoreValue). record x { outs = [] }) c.in-Ok.ensures.value in
    record {
      state = started_state e core is starts.1 starts.2 starts.3 starts.4;
      ready = started_ready e core is starts.0 starts.2 starts.3 starts.4 (subst (λ (n : ℕ). 0 < n) (sym says.patience) (omega arith)) says.ahead refl refl refl refl;
      fresh = (starts.0, says.place, says.patience);
    }
