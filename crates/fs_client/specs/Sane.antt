-- What holds of the client between any two of its events, where it does what it may, whatever the share does.
use Rattle.std.specs.Prelude.{◌≡◌, ℕ, ◌<◌, ◌==◌, true, false, IsSomeAnd, List, [], ◌∷◌, Option, Some, None}
use Rattle.std.specs.List.{AllByRecursion}
use Rattle.smb_base.specs.declared.names.Mid.{Mid}
use Rattle.share_state.specs.declared.connection.Sent.{Sent}
use Rattle.share_state.specs.declared.request.Rep.{Rep}
use Rattle.fs_plain.specs.Requests.{WireRequest, wire_request}
use Rattle.fs_plain.specs.Owners.{Owner, owner_of}
use Rattle.fs_plain.specs.Told.{Told, was_begun}
use Rattle.share_state.specs.Sent.{sent_with}
use Rattle.fs_client.specs.Item.{Item, item_with}
use Rattle.fs_client.specs.View.{View}
use Rattle.fs_client.specs.Asked.{fits}
use Rattle.fs_client.specs.Flies.{FliesFrom}

-- no call has sent this frame last
abbrev pub IsNotFrom : Mid → Item → Type 0
IsNotFrom frame i = i.frame ≡ Some frame → ⊥

-- a request of a call is in the frame that the call sent last, and it is looked at by what was known at the mark of that frame
pub record IsFrom (o : Owner) (x : Sent) (i : Item) : Type 0 where
  pub frame : i.frame ≡ Some x.frame
  pub known : i.known ≡ o.known

-- a request of no call is one of the connection itself, in a frame that no call has sent
pub record IsNobodys (items : List Item) (x : Sent) : Type 0 where
  pub aside : wire_request x.message ≡ Some WireRequest.Aside
  pub elsewhere : AllByRecursion (IsNotFrom x.frame) items

-- a request in flight is a running call's, or no call's
abbrev pub IsOwnedBy : Option Owner → List Item → Sent → Type 0
IsOwnedBy None items x = IsNobodys items x
IsOwnedBy (Some o) items x = IsSomeAnd (item_with o.number items) (IsFrom o x)

abbrev pub IsOwned : List Item → List Owner → Sent → Type 0
IsOwned items owners x = IsOwnedBy (owner_of x.mid owners) items x

-- a call's frame has an id that was used
abbrev pub IsUsed : ℕ → Option Mid → Type 0
IsUsed next None = Unit {0}
IsUsed next (Some frame) = frame.0 < next

-- two calls have different numbers and different frames
abbrev pub IsApart : Item → Item → Type 0
IsApart i j = ((j.number == i.number) ≡ false) × ((frame : Mid) → i.frame ≡ Some frame → j.frame ≡ Some frame → ⊥)

abbrev pub AreApart : List Item → Type 0
AreApart [] = Unit {0}
AreApart (i ∷ is) = AllByRecursion (IsApart i) is × AreApart is

-- a request in flight has an id that was used, and so has its frame
abbrev pub IsSent : ℕ → Sent → Type 0
IsSent next x = (x.mid.0 < next) × (x.frame.0 < next)

-- ids rise in the order of sending
abbrev pub IsAbove : Sent → Sent → Type 0
IsAbove x y = x.mid.0 < y.mid.0

abbrev pub AreRising : List Sent → Type 0
AreRising [] = Unit {0}
AreRising (x ∷ xs) = AllByRecursion (IsAbove x) xs × AreRising xs

-- an early reply is one to a request in flight
abbrev pub IsEarly : List Sent → Mid × Rep → Type 0
IsEarly flights entry = IsSomeAnd (sent_with entry.0 flights) (λ x. fits x entry.1 ≡ true)

-- a call that runs was begun
abbrev pub IsBegun : Told → Item → Type 0
IsBegun t i = was_begun i.number t.begun ≡ true

-- what a call has in flight
abbrev pub FliesIn : View → Item → Type 0
FliesIn v i = FliesFrom i.frame i v.placed v.flights

pub record Sane (v : View) : Type 0 where
  pub flies : AllByRecursion (FliesIn v) v.items
  pub owned : AllByRecursion (IsOwned v.items v.told.owners) v.flights
  pub apart : AreApart v.items
  pub used : AllByRecursion (λ (i : Item). IsUsed v.next i.frame) v.items
  pub begun : AllByRecursion (IsBegun v.told) v.items
  pub sent : AllByRecursion (IsSent v.next) v.flights
  pub rising : AreRising v.flights
  pub early : AllByRecursion (IsEarly v.flights) v.early
  pub no_place : v.placed ≡ []
  pub no_lease : v.leased ≡ []
