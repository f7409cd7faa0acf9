-- The story that a run tells, where it told none before: the client's own events in it, and what its client may do.
use Rattle.std.proofs.Common.{◌≡◌, ◌∙◌, refl, sym, ap, subst, ℕ, zero, suc, false, List, [], ◌∷◌, ◌++◌, Option, Some, None, Ok, Err, inl, inr}
use Rattle.std.proofs.lemmas.List.{append-nil, append_assoc}
use Rattle.smb_link.specs.Came.{Seen, Came, own}
use Rattle.smb_link.specs.Story.{story_with}
use Rattle.smb_link.specs.declared.event.Event.{Event}
use Rattle.smb_link.specs.declared.event.Event.TheVariants as event
use Rattle.smb_link.specs.declared.mark.Mark.TheVariants as mark
use Rattle.smb_link.specs.Program.{of_errno}
use Rattle.std.specs.Prelude.{map}
use Rattle.fs_client.specs.Item.{Item}
use Rattle.fs_client.specs.View.{Setting, no_client}
use Rattle.fs_client.specs.After.{all_after}
use Rattle.fs_client.specs.May.{Allowed}
use Rattle.fs_core.specs.Event.{events_of}
use Rattle.fs_refine.specs.Ends.{closings}
use Rattle.fs_top.specs.declared.run_end.End.TheVariants as end
use Rattle.fs_top.specs.Closing.{answers_of, CameAlone}
use Rattle.fs_top.specs.Run.{joined_client}
use Rattle.fs_top.specs.Connects.{opening, refusals}
use Rattle.fs_top.specs.Running.{JoinsSo}

-- a story whose first events are the client's own ones and the share's, and whose last ones stand alone
pub record IsStory (events closing came : List Event) : Type 0 where
  pub story : List Event
  pub are : came ≡ story ++ closing
  pub own : own story ≡ events

abbrev the_story : Option (List Event) → List Event
the_story None = []
the_story (Some story) = story

-- a story that began with nothing
pub begun_story : (events came : List Event) (a b : Seen) → a.story ≡ Some [] → Came events a b → b.story ≡ Some came → own came ≡ events
begun_story events came a b none c told = ap own (ap the_story (sym told ∙ c.story ∙ ap (λ (s : Option (List Event)). story_with s c.gained) none)) ∙ c.clients

pub whole_story : (events closing came : List Event) (a m b : Seen) → a.story ≡ Some [] → Came events a m → CameAlone closing m b → b.story ≡ Some came → IsStory events closing came
whole_story events closing came a m b none first last told = record {
  story = first.gained;
  are = ap the_story (sym told ∙ last.alone ∙ ap (λ (s : Option (List Event)). story_with s closing) (first.story ∙ ap (λ (s : Option (List Event)). story_with s first.gained) none));
  own = first.clients;
}

-- connects that are refused change nothing of a client that is not connected
refused_allowed : (st : Setting) (n : ℕ) (events : List Event) → Allowed st no_client events → Allowed st no_client (refusals n ++ events)
refused_allowed st zero events allowed = allowed
refused_allowed st (suc n) events allowed = (refl, refused_allowed st n events allowed)

refused_after : (st : Setting) (n : ℕ) (events : List Event) → all_after st no_client (refusals n ++ events) ≡ all_after st no_client events
refused_after st zero events = refl
refused_after st (suc n) events = refused_after st n events

joined_is : (n : ℕ) (joining events : List Event) → joining ≡ opening false ++ (refusals n ++ event.Joined ∷ []) → joining ++ events ≡ refusals n ++ (event.Joined ∷ events)
joined_is n joining events are = ap (λ (l : List Event). l ++ events) are ∙ append_assoc (refusals n) (event.Joined ∷ []) events

pub joined_allowed : (st : Setting) (tries : ℕ) (joining events : List Event) → JoinsSo tries false (Ok tt) joining → Allowed st (joined_client st) events → Allowed st no_client (joining ++ events)
joined_allowed st tries joining events joins allowed =
    subst (Allowed st no_client) (sym (joined_is joins.0 joining events joins.2)) (refused_allowed st joins.0 (event.Joined ∷ events) (refl, allowed))

pub joined_after : (st : Setting) (tries : ℕ) (joining events : List Event) → JoinsSo tries false (Ok tt) joining → all_after st no_client (joining ++ events) ≡ all_after st (joined_client st) events
joined_after st tries joining events joins = ap (all_after st no_client) (joined_is joins.0 joining events joins.2) ∙ refused_after st joins.0 (event.Joined ∷ events)

-- connects that all failed
pub unjoined_allowed : (st : Setting) (tries n : ℕ) (events : List Event) → JoinsSo tries false (Err (end.Connects n)) events → Allowed st no_client events
unjoined_allowed st tries n events joins = subst (Allowed st no_client) (sym (joins.1 ∙ sym (append-nil (refusals tries)))) (refused_allowed st tries [] (record {}))

-- or memory ran out at one
pub memory_allowed : (st : Setting) (tries : ℕ) (events : List Event) → JoinsSo tries false (Err end.Memory) events → Allowed st no_client events
memory_allowed st tries events (inl none) = subst (Allowed st no_client) (sym none) (record {})
memory_allowed st tries events (inr some) = subst (Allowed st no_client) (sym (some.1 ∙ sym (append-nil (refusals some.0)))) (refused_allowed st some.0 [] (record {}))

-- answers that close calls are the closings of these calls
pub closings_are : (errno : ℕ) (items : List Item) → events_of (answers_of errno (map (λ (i : Item). i.number) items)) ≡ closings errno items
closings_are errno [] = refl
closings_are errno (i ∷ is) = ap (λ (l : List Event). event.Marked (mark.Answer i.number (of_errno errno)) ∷ l) (closings_are errno is)

pub answers_append : (errno : ℕ) (xs ys : List ℕ) → events_of (answers_of errno (xs ++ ys)) ≡ events_of (answers_of errno xs) ++ events_of (answers_of errno ys)
answers_append errno [] ys = refl
answers_append errno (x ∷ xs) ys = ap (λ (l : List Event). event.Marked (mark.Answer x (of_errno errno)) ∷ l) (answers_append errno xs ys)

-- they are all the client's own
pub answers_own : (errno : ℕ) (xs : List ℕ) → own (events_of (answers_of errno xs)) ≡ events_of (answers_of errno xs)
answers_own errno [] = refl
answers_own errno (x ∷ xs) = ap (λ (l : List Event). event.Marked (mark.Answer x (of_errno errno)) ∷ l) (answers_own errno xs)
