use Rattle.std.proofs.Common.{◌∙◌, ◌≡◌, ◌-◌, ◌+◌, ◌<◌, ◌≤◌, ◌++◌, List, ℕ, zero, suc, length, refl, sym, ap, subst, arith, All}
use Rattle.std.specs.Prelude.{slice_index}
use Rattle.smb_credit.specs.Window.{Ids, usable, least, after_use, up_to, numbers}
use Rattle.smb_credit.proofs.WindowLaws.{length-numbers, length-usable, usable-up_to, after_use-up_to, below-numbers, numbers-append}
use Rattle.smb_credit.proofs.window.Window.take.Goals as goal

first : (a n : ℕ) → 1 ≤ n → a ≡ slice_index (numbers a n) 0
unfolding numbers
first a zero some = absurd (omega arith)
first a (suc n) some = refl

pub returns-then-self-charge-clause-none : goal.returns-then-self-charge-clause-none
returns-then-self-charge-clause-none c =
    let many = length-usable c.self.inside.next c.self.inside.top c.self.invariant in
    let same = ap (λ (ids : Ids). length (usable ids)) c.self.view_is in
    (omega (arith, many, same, c.from-charge.ensures), refl)

pub returns-clause-some : goal.returns-clause-some
returns-clause-some c = (
  omega (arith, length-usable c.self.inside.next c.self.inside.top c.self.invariant, ap (λ (ids : Ids). length (usable ids)) c.self.view_is),
  first c.self.inside.next (c.self.inside.top - c.self.inside.next) (omega arith)
      ∙ ap (λ (l : List ℕ). slice_index l 0) (sym (usable-up_to c.self.inside.next c.self.inside.top c.self.invariant))
      ∙ ap (λ (ids : Ids). least ids) c.self.view_is,
  ap (λ (n : ℕ). up_to n c.self.inside.top) (let e : c.self.inside.next + c.from-charge.result ≡ c.self.inside.next + c.args.charge = omega arith in e)
      ∙ after_use-up_to c.args.charge c.self.inside.next c.self.inside.top (omega arith)
      ∙ ap (after_use c.args.charge) c.self.view_is,
)

pub returns-clause-follow : goal.returns-clause-follow
unfolding up_to
returns-clause-follow c = (
  numbers-append 0 c.self.inside.next c.args.charge c.self.inside.next (c.self.inside.next + c.from-charge.result) (omega arith) (omega arith)
      ∙ ap (λ (ids : Ids). ids.used ++ numbers c.self.inside.next c.args.charge) c.self.view_is,
  subst (λ (ids : Ids). All (λ id. id < c.self.inside.next) ids.used) c.self.view_is (below-numbers 0 c.self.inside.next c.self.inside.next (omega arith)),
  sym (length-numbers 0 c.self.inside.next) ∙ ap (λ (ids : Ids). length ids.used) c.self.view_is,
)

pub returns-clause-left : goal.returns-clause-left
returns-clause-left c =
    omega (
      arith,
      c.from-charge.ensures,
      length-usable (c.self.inside.next + c.from-charge.result) c.self.inside.top (omega arith),
      length-usable c.self.inside.next c.self.inside.top c.self.invariant,
      ap (λ (ids : Ids). length (usable ids)) c.self.view_is,
    )
