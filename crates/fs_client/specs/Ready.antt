-- What a client that does what it may has in flight, and what it awaits.
use Rattle.std.specs.Prelude.{◌≡◌, ℕ, ◌≤◌, not, List, map, filter}
use Rattle.std.specs.List.{AllByRecursion}
use Rattle.share_state.specs.declared.connection.Sent.{Sent}
use Rattle.smb_credit.specs.Window.{no_request}
use Rattle.fs_plain.specs.Masked.{Untold, untold}
use Rattle.fs_plain.specs.Replies.{command_of}
use Rattle.fs_client.specs.View.{View, Client}
use Rattle.fs_client.specs.Looks.{is_early}

-- the requests that a client awaits, each by its id and its command: those in flight whose replies were not looked at
abbrev pub awaited : View → List (ℕ × ℕ)
awaited v = map (λ (x : Sent). (x.mid.0, command_of x.message)) (filter (λ (x : Sent). not (is_early x.mid v.early)) v.flights)

-- the replies to requests leave nothing out
abbrev pub AreWhole : List Sent → Type 0
AreWhole flights = AllByRecursion (λ (x : Sent). untold x.message ≡ Untold.Nothing) flights

-- a client has used no id that was not granted to it, the one of no request was not, and the replies to what it has in flight leave
-- nothing out
pub record IsReady (c : Client) : Type 0 where
  pub used : c.view.next ≤ c.tally.granted
  pub granted : c.tally.granted ≤ no_request
  pub whole : AreWhole c.view.flights
