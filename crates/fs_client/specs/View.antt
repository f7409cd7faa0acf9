-- The client between two of its own events: what it knows that the share can make true or false, and what it only counts.
use Rattle.std.specs.Prelude.{ℕ, Bool, false, List, []}
use Rattle.smb_base.specs.declared.names.Mid.{Mid}
use Rattle.fs_types.specs.declared.options.Options.{Options}
use Rattle.share_state.specs.declared.connection.Sent.{Sent}
use Rattle.share_state.specs.declared.request.Rep.{Rep}
use Rattle.fs_plain.specs.Told.{Told, nothing_told}
use Rattle.fs_client.specs.Item.{Item, Placed, Leased}

-- what a run is given: its options, its seed, the client's id, and the path of the share in units of UTF-16
pub record Setting : Type 0 where
  pub options : Options
  pub seed : List ℕ
  pub guid : List ℕ
  pub path : List ℕ

-- the calls, in the order of beginning; the requests in flight, in the order of sending; the replies that were looked at of requests
-- behind an unanswered one of their frame; the bytes of a frame that is not whole; what the events tell; whether a connection stands;
-- the least id that was not used on it; and the opens and leases that are no running call's
pub record View : Type 0 where
  pub items : List Item
  pub flights : List Sent
  pub early : List (Mid × Rep)
  pub held : List ℕ
  pub told : Told
  pub connected : Bool
  pub next : ℕ
  pub placed : List Placed
  pub leased : List Leased

-- a request of the connection itself, and the message that answered it
pub record Exchange : Type 0 where
  pub request : List ℕ
  pub reply : List ℕ

-- what bytes tell beside replies to calls: the frames that came since the run began; how many ids were granted on this connection, the
-- first one among them; how many silences stand in a row; and the connection's own exchanges on this connection
pub record Tally : Type 0 where
  pub frames : ℕ
  pub granted : ℕ
  pub silences : ℕ
  pub exchanges : List Exchange

pub record Client : Type 0 where
  pub view : View
  pub tally : Tally

-- before the first event
abbrev pub no_view : View
no_view = record {
  items = [];
  flights = [];
  early = [];
  held = [];
  told = nothing_told;
  connected = false;
  next = 0;
  placed = [];
  leased = [];
}

abbrev pub no_tally : Tally
no_tally = record { frames = 0; granted = 0; silences = 0; exchanges = [] }

abbrev pub no_client : Client
no_client = record { view = no_view; tally = no_tally }
