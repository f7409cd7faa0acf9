-- A link as contracts see it, and which events of the client came at it.
use Rattle.std.specs.Prelude.{◌≡◌, ℕ, Bool, true, false, not, List, [], ◌∷◌, filter, Option}
use Rattle.smb_link.specs.Count.{counted}
use Rattle.smb_link.specs.Story.{story_with, is_of_share}
use Rattle.smb_link.specs.declared.event.Event.{Event}
use Rattle.smb_link.specs.declared.event.Event.TheVariants as event

-- the story of a link, where it tells one, and its counts
pub record Seen : Type 0 where
  pub story : Option (List Event)
  pub connect_faults : ℕ
  pub cuts : ℕ
  pub quiets : ℕ

abbrev pub seen_by : {L : Type 0} → (L → Option (List Event)) → (L → ℕ) → (L → ℕ) → (L → ℕ) → L → Seen
seen_by story connect_faults cuts quiets link =
    record { story = story link; connect_faults = connect_faults link; cuts = cuts link; quiets = quiets link }

abbrev pub is_refusal : Event → Bool
is_refusal event.NotJoined = true
is_refusal e = false

abbrev pub is_cut : Event → Bool
is_cut event.Cut = true
is_cut e = false

abbrev pub is_silence : Event → Bool
is_silence event.Quiet = true
is_silence e = false

-- a count after these events, of which such ones count
abbrev pub counted_all : ℕ → (Event → Bool) → List Event → ℕ
counted_all count such [] = count
counted_all count such (event ∷ events) = counted_all (counted count (such event)) such events

-- the client's own events among these
abbrev pub own : List Event → List Event
own events = filter (λ e. not (is_of_share e)) events

-- between two moments these events of the client came at a link: they are what its story gained beside the share's own events, and what
-- its counts counted
pub record Came (events : List Event) (old new : Seen) : Type 0 where
  pub gained : List Event
  pub story : new.story ≡ story_with old.story gained
  pub clients : own gained ≡ events
  pub connect_faults : new.connect_faults ≡ counted_all old.connect_faults is_refusal events
  pub cuts : new.cuts ≡ counted_all old.cuts is_cut events
  pub quiets : new.quiets ≡ counted_all old.quiets is_silence events
