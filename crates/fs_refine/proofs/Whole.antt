-- A whole run of a client that does what it may: its story up to the answers that close it, and these.
use Rattle.std.proofs.Common.{◌≡◌, ◌∙◌, refl, sym, ap, subst, ℕ, Bool, cond, if◌then◌else◌, not, List, [], ◌∷◌, ◌++◌, Some, None}
use Rattle.std.specs.Prelude.{IsSomeAnd}
use Rattle.std.specs.List.{AllByRecursion}
use Rattle.share_state.specs.declared.share.Share.{Share}
use Rattle.share_state.specs.State.{Making}
use Rattle.smb_link.specs.declared.event.Event.{Event}
use Rattle.smb_link.specs.declared.event.Event.TheVariants as event
use Rattle.smb_link.specs.declared.mark.Mark.TheVariants as mark
use Rattle.smb_link.specs.Program.{of_errno}
use Rattle.fs_plain.specs.Honest.{HonestFrom, start, IsHonest}
use Rattle.fs_plain.specs.World.{happens}
use Rattle.fs_plain.specs.Run.{Run}
use Rattle.fs_plain.specs.Divergence.{divergence}
use Rattle.fs_plain.specs.PlainSide.{plain_side}
use Rattle.fs_client.specs.Item.{Item, item_with, items_but}
use Rattle.fs_client.specs.View.{Setting, no_client}
use Rattle.fs_client.specs.After.{all_after, own}
use Rattle.fs_client.specs.May.{Allowed}
use Rattle.fs_client.specs.Sane.{IsApart, AreApart}
use Rattle.fs_client.proofs.Lists.{itself}
use Rattle.fs_refine.specs.Ends.{BreaksOff, AreClosings, closings}
use Rattle.fs_refine.specs.Related.{IsOfRun}
use Rattle.fs_refine.proofs.BrokenOff.{broken_off}
use Rattle.fs_refine.proofs.Kept.{related_first}

-- calls that are told apart from one are all but that one
others_stay : (i : Item) (is : List Item) → AllByRecursion (IsApart i) is → items_but i.number is ≡ is
others_stay i [] apart = refl
others_stay i (j ∷ is) apart =
    ap (λ (t : Bool). cond (not t) (j ∷ items_but i.number is) (items_but i.number is)) apart.0.0
    ∙ ap (λ (l : List Item). j ∷ l) (others_stay i is apart.1)

-- each call that runs is closed once, in the order of beginning
pub closings_close : (run : Run) (number : ℕ) (items : List Item) → AreApart items → BreaksOff run (of_errno number) → AreClosings run items (closings number items)
closings_close run number [] apart breaks = record {}
closings_close run number (i ∷ is) apart breaks = (
  subst (λ (t : Bool). IsSomeAnd (if t then Some i else item_with i.number is) (λ (j : Item). BreaksOff run (of_errno number))) (sym (itself i.number)) breaks,
  subst (λ (l : List Item). AreClosings run l (closings number is)) (sym left) (closings_close run number is apart.1 breaks),
)
  where
    left : items_but i.number (i ∷ is) ≡ is
    left = ap (λ (t : Bool). cond (not t) (i ∷ items_but i.number is) (items_but i.number is)) (itself i.number) ∙ others_stay i is apart.0

-- so are the first ones of them
pub closings_front : (run : Run) (events later : List Event) (items : List Item) → AreClosings run items (events ++ later) → AreClosings run items events
closings_front run [] later items are = record {}
closings_front run (event.Marked (mark.Answer number a) ∷ events) later items are = (are.0, closings_front run events later (items_but number items) are.1)
closings_front run (other ∷ events) later items are = absurd are

-- a story that is honest is so up to each of its events
pub honest_first : (s : Share) (events later : List Event) → HonestFrom s (events ++ later) → HonestFrom s events
honest_first s [] later honest = record {}
honest_first s (e ∷ events) later honest = (honest.0, honest_first (happens s e) events later honest.1)

-- the story of a run that was broken off, with as many of its closing answers as were given, diverges nowhere
pub broken_whole : (run : Run) (st : Setting) (made : Making) (story closing : List Event) → IsOfRun run st → Allowed st no_client (own story)
    → AreClosings run (all_after st no_client (own story)).view.items closing → IsHonest made.room made.fold (story ++ closing) → divergence run made (story ++ closing) ≡ None
broken_whole run st made story closing of allowed are honest =
    let s : Share = start made.room made.fold (story ++ closing) in
    broken_off run st story closing 1 s (plain_side made (story ++ closing)) no_client of (related_first made (story ++ closing)) refl
    (honest_first s story closing honest) allowed are
