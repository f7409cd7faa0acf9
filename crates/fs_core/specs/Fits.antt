-- The core has what a client with this view has.
use Rattle.std.specs.Prelude.{◌≡◌, ◌⊎◌, ℕ, ◌+◌, ◌==◌, nat_lt, Bool, true, false, List, [], ◌∷◌, Option, Some, None, option_map}
use Rattle.std.specs.List.{AllByRecursion, list_all}
use Rattle.smb_base.specs.declared.names.Fid.{Fid}
use Rattle.fs_types.specs.declared.answer.Answer.{Answer}
use Rattle.fs_types.specs.declared.answer.Answer.TheVariants as answer
use Rattle.fs_types.specs.declared.call.Call.{Call}
use Rattle.fs_types.specs.declared.options.Options.{Options}
use Rattle.smb_head.specs.declared.command.TheConstants.{NEGOTIATE, SESSION_SETUP, TREE_CONNECT, TREE_DISCONNECT, LOGOFF, CREATE, CLOSE, QUERY_INFO}
use Rattle.share_state.specs.declared.connection.Sent.{Sent}
use Rattle.smb_link.specs.Program.{Program, Open as Opening, Query, Close, Own, Ask, Say}
use Rattle.smb_link.specs.Stat.{stat_answer, stat_once_open}
use Rattle.smb_mount.specs.declared.facts.Facts.{Facts}
use Rattle.fs_plain.specs.Replies.{command_of}
use Rattle.fs_plain.specs.Requests.{WireRequest, wire_request}
use Rattle.fs_plain.specs.Owners.{Owner, owner_of}
use Rattle.fs_plain.specs.World.{is_creating}
use Rattle.smb_mount.specs.Kept.{Start}
use Rattle.fs_client.specs.View.{Setting, Client}
use Rattle.fs_client.specs.Item.{Item}
use Rattle.fs_client.specs.Asked.{is_refused}
use Rattle.fs_client.specs.Mount.{Stage, Unmounted, Agreed, Challenging, InSession, Mounted, HasCome, at_first}
use Rattle.fs_client.specs.May.{is_stat, was_answered, IsAside}
use Rattle.fs_client.specs.Spelled.{ids_of}
use Rattle.fs_client.specs.Ready.{IsReady, awaited}
use Rattle.fs_core.specs.declared.flight.Flight.{Flight}
use Rattle.fs_core.specs.declared.flight.Kind.{Kind}
use Rattle.fs_core.specs.declared.flight.Kind.TheVariants as kind
use Rattle.fs_core.specs.declared.slot.Slot.{Slot}
use Rattle.fs_core.specs.declared.phase.Phase.{Phase}
use Rattle.fs_core.specs.declared.phase.Phase.TheVariants as phase
use Rattle.fs_core.specs.declared.stat.Stat.{Stat}
use Rattle.fs_core.specs.declared.stat.Progress.{Progress}
use Rattle.fs_core.specs.declared.stat.Progress.TheVariants as progress
use Rattle.fs_core.specs.declared.stat.Outcome.{Outcome}
use Rattle.fs_core.specs.declared.stat.Outcome.TheVariants as outcome
use Rattle.fs_core.specs.Kept.{Kept}

-- what a call came to, as its answer
abbrev pub answer_of : Outcome → Answer
answer_of (outcome.Known stat) = answer.Stat stat
answer_of (outcome.Failed number status) = answer.Err number status

-- what is left of a stat
abbrev pub rest_by : Options → List ℕ → Progress → Program
rest_by options path progress.Opening = Ask (Opening path 0x100080 1 0) (stat_once_open options)
rest_by options path (progress.Querying fid) =
    Ask (Query (Own 0)) (λ info. Ask (Close (Own 0)) (λ closed. Say (stat_answer options info)))
rest_by options path (progress.Closing fid o) = Ask (Close (Own 0)) (λ closed. Say (answer_of o))
rest_by options path (progress.Said o) = Say (answer_of o)

abbrev pub rest_of : Options → Stat → Program
rest_of options stat = rest_by options stat.path stat.progress

-- the opens that a call has made, as far as requests to come name one
abbrev pub HasOpened : Progress → List Fid → Type 0
HasOpened progress.Opening fids = fids ≡ []
HasOpened (progress.Querying fid) fids = fids ≡ fid ∷ []
HasOpened (progress.Closing fid o) fids = fids ≡ fid ∷ []
HasOpened (progress.Said o) fids = Unit {0}

-- a call that has had no request has its first one to make, or none
abbrev pub IsFirst : Progress → Type 0
IsFirst progress.Opening = Unit {0}
IsFirst (progress.Querying fid) = ⊥
IsFirst (progress.Closing fid o) = ⊥
IsFirst (progress.Said o) = Unit {0}

-- a call of the core is this one of the client
pub record Shows (options : Options) (s : Slot) (i : Item) : Type 0 where
  pub number : s.number ≡ i.number
  pub lane : s.lane ≡ i.lane
  pub announced : s.announced ≡ i.announced
  pub whole : i.broken ≡ false
  pub stat : is_stat i.call ≡ true
  pub rest : i.rest ≡ rest_of options s.stat
  pub opened : HasOpened s.stat.progress i.fids
  pub first : i.announced ≡ false → IsFirst s.stat.progress
  pub unsent : i.announced ≡ false → i.frame ≡ None

-- one for one, in the order of beginning
abbrev pub AllShow : Options → List Slot → List Item → Type 0
AllShow options [] [] = Unit {0}
AllShow options [] (i ∷ is) = ⊥
AllShow options (s ∷ ss) [] = ⊥
AllShow options (s ∷ ss) (i ∷ is) = Shows options s i × AllShow options ss is

-- a request that does not leave the share
abbrev pub IsNoLeave : ℕ → Type 0
IsNoLeave command = ((command == TREE_DISCONNECT) ≡ false) × ((command == LOGOFF) ≡ false)

-- a request is one of the share, related to the one before it or not, and a CREATE or not
abbrev pub IsOfShare : Bool → Bool → Option WireRequest → Type 0
IsOfShare creating related None = ⊥
IsOfShare creating related (Some WireRequest.Aside) = ⊥
IsOfShare creating related (Some (WireRequest.Share r request)) = (r ≡ related) × (is_creating request ≡ creating)

-- what a request asks for, by its message; a CREATE and a request of the connection are related to none before them
abbrev pub IsOfKind : Kind → Bool → Sent → Type 0
IsOfKind kind.Open related x = (related ≡ false) × IsOfShare true related (wire_request x.message) × (command_of x.message ≡ CREATE)
IsOfKind kind.Query related x = IsOfShare false related (wire_request x.message) × (command_of x.message ≡ QUERY_INFO)
IsOfKind kind.Close related x = IsOfShare false related (wire_request x.message) × (command_of x.message ≡ CLOSE)
IsOfKind kind.Aside related x = (related ≡ false) × IsAside x

-- a request that the core has in flight is this one of the client
pub record Flies (owners : List Owner) (f : Flight) (x : Sent) : Type 0 where
  pub mid : f.mid ≡ x.mid
  pub frame : f.frame ≡ x.frame
  pub owner : option_map (λ (o : Owner). o.number) (owner_of x.mid owners) ≡ f.owner
  pub kind : IsOfKind f.kind f.related x
  pub refused : is_refused x ≡ f.refused

-- one for one, in the order of sending
abbrev pub AllFly : List Owner → List Flight → List Sent → Type 0
AllFly owners [] [] = Unit {0}
AllFly owners [] (x ∷ xs) = ⊥
AllFly owners (f ∷ fs) [] = ⊥
AllFly owners (f ∷ fs) (x ∷ xs) = Flies owners f x × AllFly owners fs xs

-- one request is in flight, with this command; or none is
abbrev pub IsAlone : ℕ → List Sent → Type 0
IsAlone command [] = ⊥
IsAlone command (x ∷ []) = command_of x.message ≡ command
IsAlone command (x ∷ y ∷ xs) = ⊥

abbrev pub IsAtMost : ℕ → List Sent → Type 0
IsAtMost command flights = IsAlone command flights ⊎ (flights ≡ [])

-- nothing was answered that leaves the share
abbrev pub IsStaying : Client → Type 0
IsStaying c = (was_answered TREE_DISCONNECT c.tally.exchanges ≡ false) × (was_answered LOGOFF c.tally.exchanges ≡ false)

-- the mount of a connection that stands has come to a stage, no call runs, and what the stage asks with this command is in flight alone,
-- or nothing is
pub record Mounts (st : Setting) (s : Stage) (command : ℕ) (c : Client) : Type 0 where
  pub connected : c.view.connected ≡ true
  pub come : HasCome st c s
  pub no_call : c.view.items ≡ []
  pub asked : IsAtMost command c.view.flights
  pub staying : IsStaying c

-- the share is mounted
pub record IsMounted (st : Setting) (facts : Facts) (c : Client) : Type 0 where
  pub connected : c.view.connected ≡ true
  pub come : HasCome st c (Mounted facts)

-- the share is being left: no call runs, and none will
pub record IsOver (st : Setting) (facts : Facts) (c : Client) : Type 0 where
  pub mounted : IsMounted st facts c
  pub no_call : c.view.items ≡ []
  pub ended : c.view.told.ended ≡ true

-- a request of the connection with this command is in flight alone, or nothing is and it was answered
abbrev pub IsAsked : ℕ → Client → Type 0
IsAsked command c =
    ((was_answered command c.tally.exchanges ≡ false) × IsAlone command c.view.flights)
    ⊎ ((was_answered command c.tally.exchanges ≡ true) × (c.view.flights ≡ []))

-- no connection stands, and none did
pub record IsApart (st : Setting) (first : Start) (c : Client) : Type 0 where
  pub connected : c.view.connected ≡ false
  pub start : Unmounted first ≡ at_first st
  pub no_call : c.view.items ≡ []
  pub no_flight : c.view.flights ≡ []

-- how far the connection has come; nothing is said of a client whose connection was lost
abbrev pub IsAt : Setting → Phase → Client → Type 0
IsAt st (phase.Apart start) c = IsApart st start c
IsAt st (phase.Greeting k) c = Mounts st (Unmounted k) NEGOTIATE c
IsAt st (phase.SettingUp k) c = Mounts st (Agreed k) SESSION_SETUP c
IsAt st (phase.Answering k) c = Mounts st (Challenging k) SESSION_SETUP c
IsAt st (phase.Joining k) c = Mounts st (InSession k) TREE_CONNECT c
IsAt st (phase.On facts) c =
    IsMounted st facts c × IsStaying c × AllByRecursion (λ (x : Sent). IsNoLeave (command_of x.message)) c.view.flights
IsAt st (phase.LeavingTree facts) c = IsOver st facts c × IsAsked TREE_DISCONNECT c × (was_answered LOGOFF c.tally.exchanges ≡ false)
IsAt st (phase.LeavingSession facts) c = IsOver st facts c × (was_answered TREE_DISCONNECT c.tally.exchanges ≡ true) × IsAsked LOGOFF c
IsAt st phase.Left c =
    c.view.items ≡ [] × (c.view.told.ended ≡ true) × (c.view.flights ≡ [])
    × (was_answered TREE_DISCONNECT c.tally.exchanges ≡ true) × (was_answered LOGOFF c.tally.exchanges ≡ true)
IsAt st phase.Lost c = ⊥

-- the lines that were begun go up to the last one
abbrev pub AreUpTo : Option ℕ → List (ℕ × Call) → Type 0
AreUpTo None begun = begun ≡ []
AreUpTo (Some n) begun = list_all (λ line. nat_lt line.0 (n + 1)) begun ≡ true

-- what the core keeps is what this client has
pub record Fits (st : Setting) (k : Kept) (c : Client) : Type 0 where
  pub slots : AllShow st.options k.slots c.view.items
  pub flights : AllFly c.view.told.owners k.flights c.view.flights
  pub early : k.early ≡ c.view.early
  pub ids : c.view.connected ≡ true → k.mux.ids ≡ ids_of c
  pub awaited : k.mux.awaited ≡ awaited c.view
  pub phase : IsAt st k.phase c
  pub last : AreUpTo k.last c.view.told.begun
  pub now : k.now ≡ c.view.told.now
  pub ended : k.ended ≡ c.view.told.ended
  pub idle : c.view.told.announced ≡ []
  pub ready : IsReady c
