-- What ties the client to the real share and to the plain side between any two events. What is coming is told by no list of its own: the
-- share and the plain side are where the client is once it has looked at all that it is owed.
use Rattle.std.specs.Prelude.{◌≡◌, false, List, [], ◌∷◌, map}
use Rattle.std.specs.List.{AllByRecursion}
use Rattle.share_state.specs.declared.connection.Owed.{Owed}
use Rattle.share_state.specs.declared.connection.Sent.{Sent}
use Rattle.share_state.specs.declared.share.Share.{Share}
use Rattle.fs_plain.specs.Run.{Run}
use Rattle.fs_plain.specs.PlainSide.{PlainSide}
use Rattle.fs_plain.specs.Alike.{Alike, HasNoLeaseOfOurs}
use Rattle.fs_plain.specs.Holders.{AllHeld}
use Rattle.fs_client.specs.Item.{Placed}
use Rattle.fs_client.specs.View.{Setting, View}
use Rattle.fs_client.specs.Looks.{landed_owed}
use Rattle.fs_client.specs.Owing.{taken, AreDue}
use Rattle.fs_client.specs.Sane.{Sane}
use Rattle.fs_refine.specs.Calls.{IsGiven, AreCalls, all_described}

-- a run is given what its client is
pub record IsOfRun (run : Run) (setting : Setting) : Type 0 where
  pub options : run.options ≡ setting.options
  pub seed : run.seed ≡ setting.seed

-- a request that waits, put off or not
abbrev pub calm : Sent → Sent
calm x = record x { pended = false }

-- something holds of a view, and after each look at what is owed
abbrev pub Along : (View → Type 0) → View → List Owed → Type 0
Along P v [] = P v
Along P v (o ∷ os) = P v × Along P (landed_owed o v) os

-- the pages that the client holds of files agree with the share. It holds none, since no file is leased to it.
abbrev pub Cached : Share → PlainSide → View → Type 0
Cached s p u = u.leased ≡ []

-- the two shares are alike; no lease is this client's; what holds of the client by itself; all that is owed is for requests in flight,
-- each in its turn; no reply came before its turn; the requests that the share
-- has not taken are those in flight once all was looked at; the plain calls are the client's then; both sides are told the same; the
-- connection is the same; the open files of the user are the same, and so are the file ids that were given; each plain open has a
-- holder; and what is cached agrees
pub record Related (s : Share) (p : PlainSide) (v : View) : Type 0 where
  pub alike : Alike s p
  pub ours : HasNoLeaseOfOurs s
  pub sane : Sane v
  pub due : AreDue v s.owed
  pub early : v.early ≡ []
  pub sent : map calm s.sent ≡ (taken s.owed v).flights
  pub running : AreCalls p.pairs s.opens_made (taken s.owed v).items p.running
  pub told : p.told ≡ v.told
  pub connected : s.connected ≡ v.connected
  pub held : s.held ≡ v.held
  pub described : p.described ≡ all_described p.pairs v.placed
  pub placed : AllByRecursion (λ (x : Placed). IsGiven s.opens_made x.fid) v.placed
  pub holders : AllHeld p
  pub cached : Along (Cached s p) v s.owed
