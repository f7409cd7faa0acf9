use Rattle.std.proofs.Common.{◌∙◌, refl, sym, ap, subst, List, length}
use Rattle.fs_handles.specs.declared.number.Number.{Number}
use Rattle.fs_handles.specs.Numbers.{held, AreHeld}
use Rattle.fs_handles.proofs.HeldLaws.{none_free}
use Rattle.fs_handles.proofs.fds.Fds.reserve.Goals as goal

-- all below the hint are held, and all from it on
pub returns-in-None-clause-none : goal.returns-in-None-clause-none
returns-in-None-clause-none c =
    let above = subst (λ (numbers : List Number). AreHeld numbers c.self.inside.hint (length numbers)) c.as_slice.ensures.value c.in-None.ensures.none in
    (ap held (sym c.self.view_is) ∙ none_free c.self.inside.numbers.items c.self.inside.hint c.self.invariant.0 c.self.invariant.2 above, refl)
