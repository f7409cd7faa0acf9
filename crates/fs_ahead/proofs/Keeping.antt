-- Looks at the lines ahead, one after the other.
use Rattle.std.proofs.Common.{◌≡◌, ◌∙◌, refl, ap, ℕ, List, Option, Some, None, inr}
use Rattle.std.specs.Prelude.{IsSome, MatchBool}
use Rattle.fs_ahead.specs.declared.asked.Over.{Over}
use Rattle.fs_ahead.specs.declared.asked.Over.TheVariants as over
use Rattle.fs_ahead.specs.Script.{Place, to_come}
use Rattle.fs_ahead.specs.Steps.{is_failed_now, Keeps, IsHeldOrOver}

-- nothing was looked at
pub keeps_none : (a : Place) (left : Option (List ℕ)) → Keeps a left a left
keeps_none a left = by a.over
  where
    by : (o : Option Over) → MatchBool (is_failed_now o o) (a.held ≡ None) (to_come a left ≡ to_come a left)
    by None = refl
    by (Some why) = refl

by_overs : (x y z : Option Over) (Held Held' Same Same' Both : Type 0)
    → (Same → Same' → Both) → (IsSome y → Held → Held') → (IsSome x → y ≡ x) → (IsSome y → z ≡ y)
    → MatchBool (is_failed_now x y) Held Same → MatchBool (is_failed_now y z) Held' Same' → MatchBool (is_failed_now x z) Held' Both
by_overs (Some why) None z Held Held' Same Same' Both join holds first second was is = absurd (let no = first refl in cc)
by_overs (Some why) (Some why') z Held Held' Same Same' Both join holds first second was is = join was is
by_overs None None None Held Held' Same Same' Both join holds first second was is = join was is
by_overs None None (Some over.Source) Held Held' Same Same' Both join holds first second was is = is
by_overs None None (Some over.End) Held Held' Same Same' Both join holds first second was is = join was is
by_overs None None (Some (over.Line n)) Held Held' Same Same' Both join holds first second was is = join was is
by_overs None (Some why) None Held Held' Same Same' Both join holds first second was is = absurd (let no = second refl in cc)
by_overs None (Some over.Source) (Some over.Source) Held Held' Same Same' Both join holds first second was is = holds refl was
by_overs None (Some over.Source) (Some over.End) Held Held' Same Same' Both join holds first second was is = absurd (let no = second refl in cc)
by_overs None (Some over.Source) (Some (over.Line n)) Held Held' Same Same' Both join holds first second was is = absurd (let no = second refl in cc)
by_overs None (Some over.End) (Some over.Source) Held Held' Same Same' Both join holds first second was is = absurd (let no = second refl in cc)
by_overs None (Some over.End) (Some over.End) Held Held' Same Same' Both join holds first second was is = join was is
by_overs None (Some over.End) (Some (over.Line n)) Held Held' Same Same' Both join holds first second was is = join was is
by_overs None (Some (over.Line m)) (Some over.Source) Held Held' Same Same' Both join holds first second was is = absurd (let no = second refl in cc)
by_overs None (Some (over.Line m)) (Some over.End) Held Held' Same Same' Both join holds first second was is = join was is
by_overs None (Some (over.Line m)) (Some (over.Line n)) Held Held' Same Same' Both join holds first second was is = join was is

-- two looks
pub keeps_then : (a b c : Place) (left left' left'' : Option (List ℕ)) → (IsHeldOrOver a → b ≡ a) → (IsHeldOrOver b → c ≡ b)
    → Keeps a left b left' → Keeps b left' c left'' → Keeps a left c left''
keeps_then a b c left left' left'' first second was is =
    by_overs a.over b.over c.over (b.held ≡ None) (c.held ≡ None)
    (to_come a left ≡ to_come b left') (to_come b left' ≡ to_come c left'') (to_come a left ≡ to_come c left'')
    (λ p q. p ∙ q)
    (λ some none. ap (λ (x : Place). x.held) (second (inr some)) ∙ none)
    (λ some. ap (λ (x : Place). x.over) (first (inr some)))
    (λ some. ap (λ (x : Place). x.over) (second (inr some)))
    was is
