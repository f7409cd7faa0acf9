-- The client once it has looked at all that a share owes: what is coming is no list of its own, but the view after the looks to come.
use Rattle.std.specs.Prelude.{◌≡◌, ℕ, true, IsSomeAnd, List, Option, [], ◌∷◌, None, Some}
use Rattle.share_state.specs.declared.connection.Owed.{Owed}
use Rattle.share_state.specs.declared.connection.Owed.TheVariants as owed
use Rattle.share_state.specs.declared.connection.Sent.{Sent}
use Rattle.share_state.specs.declared.request.Rep.{Rep}
use Rattle.fs_plain.specs.Masked.{masked}
use Rattle.fs_plain.specs.Requests.{WireRequest, wire_request}
use Rattle.fs_plain.specs.Owners.{owner_of}
use Rattle.share_state.specs.Sent.{sent_with}
use Rattle.fs_plain.specs.World.{is_first_of_frame}
use Rattle.fs_client.specs.View.{View}
use Rattle.fs_client.specs.Asked.{fits}
use Rattle.fs_client.specs.Looks.{landed_owed}

-- the view once all of it was looked at
abbrev pub taken : List Owed → View → View
taken [] v = v
taken (o ∷ os) v = taken os (landed_owed o v)

-- a request makes one of the share
abbrev pub IsShare : Option WireRequest → Type 0
IsShare None = ⊥
IsShare (Some WireRequest.Aside) = ⊥
IsShare (Some (WireRequest.Share related request)) = Unit {0}

-- a reply that is owed is one to the first request in flight of its frame
pub record IsDueTo (v : View) (request : List ℕ) (reply : Rep) (x : Sent) : Type 0 where
  pub message : x.message ≡ request
  pub share : IsShare (wire_request x.message)
  pub first : is_first_of_frame v.flights x ≡ true
  pub fit : fits x (masked request reply) ≡ true

-- one to a request of the connection itself is one that no call has, the first of its frame too
pub record IsDueAside (v : View) (request : List ℕ) (x : Sent) : Type 0 where
  pub message : x.message ≡ request
  pub first : is_first_of_frame v.flights x ≡ true
  pub aside : wire_request x.message ≡ Some WireRequest.Aside
  pub nobodys : owner_of x.mid v.told.owners ≡ None

-- what is owed is for requests in flight; no notice is, since there is no lease
abbrev pub IsDue : View → Owed → Type 0
IsDue v (owed.Interim mid request) = IsSomeAnd (sent_with mid v.flights) (λ (x : Sent). x.message ≡ request)
IsDue v (owed.Reply mid request reply) = IsSomeAnd (sent_with mid v.flights) (IsDueTo v request reply)
IsDue v (owed.Aside mid request) = IsSomeAnd (sent_with mid v.flights) (IsDueAside v request)
IsDue v (owed.Notice key state wanted) = ⊥

-- each at its turn
abbrev pub AreDue : View → List Owed → Type 0
AreDue v [] = Unit {0}
AreDue v (o ∷ os) = IsDue v o × AreDue (landed_owed o v) os
