use Rattle.std.proofs.Common.{◌∙◌, ℕ, List, length, sym, ap, subst}
use Rattle.smb_mux.specs.InFlight.{InFlight, AreBelow}
use Rattle.smb_mux.specs.Judged.{judged}
use Rattle.smb_mux.proofs.AnswerLaws.{answers_given}
use Rattle.smb_mux.proofs.FlightLaws.{below-without}
use Rattle.smb_mux.proofs.mux.Mux.take.Goals as goal

pub invariant_of-self : goal.invariant_of-self
invariant_of-self c =
    subst (λ (l : List ℕ). AreBelow (length l) c.remove_all.new.flights.entries) (sym c.grant_all.ensures.used)
    (subst (AreBelow (length c.self.inside.window.used)) (sym c.remove_all.ensures.exact)
    (below-without (length c.self.inside.window.used) c.as_slice.result.now c.self.inside.flights.entries c.self.invariant))

pub returns-in-Ok-clause-answers : goal.returns-in-Ok-clause-answers
returns-in-Ok-clause-answers c =
    (answers_given c.args.self.now.awaited c.args.frame.now c.in-Ok.taken
    (ap (λ (s : InFlight). judged s.awaited c.args.frame.now) (sym c.self.view_is) ∙ c.in-Ok.ensures)).0

pub returns-in-Ok-clause-all : goal.returns-in-Ok-clause-all
returns-in-Ok-clause-all c =
    (answers_given c.args.self.now.awaited c.args.frame.now c.in-Ok.taken
    (ap (λ (s : InFlight). judged s.awaited c.args.frame.now) (sym c.self.view_is) ∙ c.in-Ok.ensures)).1
