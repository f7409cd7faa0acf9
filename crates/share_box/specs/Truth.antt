-- The story of a box is honest: what it told happened at a share that has what the box has.
use Rattle.std.specs.Prelude.{◌≡◌, ℕ, ◌==◌, Bool, true, false, not, ◌&&◌, ◌⊎◌, is_none, List, [], ◌∷◌, ◌++◌, Option, Some, None, Result, Ok, Err}
use Rattle.std.specs.List.{AllByRecursion}
use Rattle.smb_base.specs.declared.names.Mid.{Mid}
use Rattle.smb_head.specs.Stream.{Partial, first_of}
use Rattle.share_state.specs.declared.connection.Grant.{Grant}
use Rattle.share_state.specs.declared.connection.Owed.{Owed}
use Rattle.share_state.specs.declared.connection.Sent.{Sent}
use Rattle.share_state.specs.declared.share.Share.{Share}
use Rattle.smb_link.specs.declared.event.Event.{Event}
use Rattle.smb_link.specs.declared.event.Event.TheVariants as event
use Rattle.fs_plain.specs.Requests.{wire_request}
use Rattle.fs_plain.specs.Honest.{HonestFrom, at_start}
use Rattle.fs_plain.specs.World.{share_after}
use Rattle.fs_plain.specs.Alike.{bare}
use Rattle.share_box.specs.declared.state.State.{State}
use Rattle.share_box.specs.Paid.{IsPayment, IsProper}

-- a choice that grants neither a lease nor a durable open, or none that is told
abbrev pub is_bare : Option Grant → Bool
is_bare None = true
is_bare (Some grant) = grant.lease == 0 && not grant.durable

abbrev pub IsBare : Option Grant → Type 0
IsBare choice = is_bare choice ≡ true

abbrev pub AreBare : List (Option Grant) → Type 0
AreBare choices = AllByRecursion IsBare choices

-- a message that waits asks for something, under its own id
pub record IsRequest (x : Sent) : Type 0 where
  pub asks : is_none (wire_request x.message) ≡ false
  pub proper : IsProper x

-- bytes are frames that pay what is owed, one after the other
abbrev pub ArePayments : List Owed → List ℕ → Type 0
ArePayments [] bytes = bytes ≡ []
ArePayments (o ∷ owed) bytes =
    (first rest : List ℕ) × (bytes ≡ first ++ rest) × IsPayment o first × ArePayments owed rest

-- The share that the story tells of is the one that the box has, with the same connection, and without leases. What it owes are the
-- frames that wait; of the first of them the client may have got a part.
pub record Mirrors (told own : Share) (waiting : List ℕ) : Type 0 where
  pub tree : bare told ≡ bare own
  pub leases : told.leases ≡ []
  pub own_leases : own.leases ≡ []
  pub connected : told.connected ≡ own.connected
  pub sent : told.sent ≡ own.sent
  pub requests : AllByRecursion IsRequest own.sent
  pub begun : first_of told.held ≡ Partial
  pub paid : ArePayments told.owed (told.held ++ waiting)
  pub choices : AreBare told.grants

-- a story is honest, whatever a share that grants nothing is going to choose
abbrev pub IsAlwaysHonest : ℕ → Bool → List Event → Type 0
IsAlwaysHonest room fold story = (choices : List (Option Grant)) → AreBare choices → HonestFrom (at_start room fold choices) story

-- and it tells of this share, and of these bytes that wait
abbrev pub TellsOf : ℕ → Bool → List Event → Share → List ℕ → Type 0
TellsOf room fold story own waiting = (choices : List (Option Grant)) → AreBare choices
    → HonestFrom (at_start room fold choices) story × Mirrors (share_after (at_start room fold choices) story) own waiting

-- the story of a box is honest, whatever its share is going to choose
pub record IsTruthful (b : State) : Type 0 where
  pub honest : IsAlwaysHonest b.room b.fold b.story

-- and it tells of what the box has
pub record IsInStep (b : State) : Type 0 where
  pub tells : TellsOf b.room b.fold b.story b.share b.waiting

-- a box is truthful, and as long as memory lasts its story tells of what it has
pub record IsFaithful (b : State) : Type 0 where
  pub truthful : IsTruthful b
  pub in_step : b.dead ≡ false → IsInStep b

-- what was done told nothing
pub record IsUntold (old new : State) : Type 0 where
  pub room : new.room ≡ old.room
  pub fold : new.fold ≡ old.fold
  pub story : new.story ≡ old.story

-- a box goes on, and its story in step with it
pub record GoesInStep (old new : State) : Type 0 where
  pub room : new.room ≡ old.room
  pub fold : new.fold ≡ old.fold
  pub keeps : IsInStep old → IsInStep new

-- memory ran out on the way: what was told so far is honest
pub record StopsTruthful (old new : State) : Type 0 where
  pub room : new.room ≡ old.room
  pub fold : new.fold ≡ old.fold
  pub keeps : IsInStep old → IsTruthful new

-- what a box does goes on in step with its story, or stops at an honest one
abbrev pub Keeps : {A E : Type 0} → Result A E → State → State → Type 0
Keeps (Ok x) old new = GoesInStep old new
Keeps (Err e) old new = StopsTruthful old new

-- the request with this id was taken, or memory ran out before it was
pub record TookOrNot (mid : Mid) (old new : State) : Type 0 where
  pub room : new.room ≡ old.room
  pub fold : new.fold ≡ old.fold
  pub story : (new.story ≡ old.story) ⊎ (new.story ≡ old.story ++ event.Took mid ∷ [])
