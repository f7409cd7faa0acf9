-- Which stories an honest share tells.
use Rattle.std.specs.Prelude.{◌≡◌, ℕ, ◌==◌, Bool, true, false, not, ◌&&◌, ◌||◌, List, [], ◌∷◌, ◌++◌, Option, Some, None, bit_and, Result, Ok, Err}
use Rattle.smb_head.specs.Stream.{fault_in}
use Rattle.smb_chain.specs.declared.parts.BadNext.{BadNext}
use Rattle.share_state.specs.declared.connection.Grant.{Grant}
use Rattle.share_state.specs.declared.connection.LastCreate.{LastCreate}
use Rattle.share_state.specs.declared.connection.Sent.{Sent}
use Rattle.share_state.specs.declared.connection.Owed.{Owed}
use Rattle.share_state.specs.declared.lease.Lease.{Lease}
use Rattle.share_state.specs.declared.request.Req.{Req}
use Rattle.share_state.specs.declared.request.Rep.{Rep}
use Rattle.share_state.specs.declared.share.Share.{Share}
use Rattle.share_state.specs.State.{fresh_share}
use Rattle.share_state.specs.Built.{is_built}
use Rattle.share_state.specs.Breaks.{needs_of}
use Rattle.share_state.specs.Grants.{is_allowed}
use Rattle.share_state.specs.Sent.{sent_with}
use Rattle.smb_link.specs.declared.event.Event.{Event}
use Rattle.smb_link.specs.declared.event.Event.TheVariants as event
use Rattle.fs_plain.specs.Requests.{WireRequest, wire_request}
use Rattle.fs_plain.specs.Replies.{Pays}
use Rattle.fs_plain.specs.World.{us, is_first_of_frame, resolved, refused_before, choice_now, act_of, grant_in, breakable, messages_got, happens}
use Rattle.fs_plain.specs.Ahead.{ahead}

-- a request of this client waits for no break, and what the share chooses there is allowed; one that the CREATE before it refuses asks
-- nothing of the share
abbrev pub MayBeDone : Option ℕ → Option Grant → Share → Req → Type 0
MayBeDone (Some status) choice s r = Unit {0}
MayBeDone None choice s r = (needs_of s us r ≡ []) × (is_allowed choice s us r ≡ true)

abbrev pub MayBeTakenAs : Option WireRequest → LastCreate → Share → Type 0
MayBeTakenAs None before s = ⊥
MayBeTakenAs (Some WireRequest.Aside) before s = Unit {0}
MayBeTakenAs (Some (WireRequest.Share related r)) before s =
    MayBeDone (refused_before related before r) (choice_now s.grants) s (resolved related before r)

-- a request is taken that was sent on this connection and was not taken, and that is the first of its frame to be so
abbrev pub MayTake : Option Sent → Share → Type 0
MayTake None s = ⊥
MayTake (Some x) s = (is_first_of_frame s.sent x ≡ true) × MayBeTakenAs (wire_request x.message) x.last_create s

-- a request is put off that was sent on this connection and was not taken, once at most
abbrev pub MayPend : Option Sent → Type 0
MayPend None = ⊥
MayPend (Some x) = x.pended ≡ false

-- another client's request is one that the share takes, waits for no break, and has the reply that the share gives to it, with what
-- the reply tells of the share's choice
pub record MayAct (who : ℕ) (r : Req) (reply : Rep) (s : Share) : Type 0 where
  pub another : (who == 0) ≡ false
  pub built : is_built r ≡ true
  pub needs : needs_of s (record { 0 = who }) r ≡ []
  pub choice : is_allowed (grant_in reply.body) s (record { 0 = who }) r ≡ true
  pub answered : (act_of who r reply s).0 ≡ reply

-- the states of a lease: none, R 1, RH 3, RW 5, RWH 7
abbrev pub is_state : ℕ → Bool
is_state state = state == 0 || state == 1 || state == 3 || state == 5 || state == 7

-- a state strictly within another
abbrev pub is_within_state : ℕ → ℕ → Bool
is_within_state state whole = bit_and state whole == state && not (state == whole)

-- a break is asked of a lease that a connected open has and of which none is asked, to a state strictly within its own
abbrev pub MayBreak : Option Lease → ℕ → Type 0
MayBreak None state = ⊥
MayBreak (Some l) state = (is_state state && is_within_state state l.state) ≡ true

-- messages that were got are what is owed, in that order
abbrev pub ArePaid : List Owed → List (Result (List ℕ) BadNext) → Type 0
ArePaid owed [] = Unit {0}
ArePaid [] (message ∷ messages) = ⊥
ArePaid (o ∷ owed) (Err bad ∷ messages) = ⊥
ArePaid (o ∷ owed) (Ok message ∷ messages) = Pays o message × ArePaid owed messages

-- bytes that are held of a frame begin one, and something is owed that it may bring
abbrev pub MayBeHeld : List ℕ → List Owed → Type 0
MayBeHeld [] owed = Unit {0}
MayBeHeld (b ∷ bytes) [] = ⊥
MayBeHeld (b ∷ bytes) (o ∷ owed) = Unit {0}

-- bytes are got: the messages that became whole with them were owed, and what is left of them begins a frame
pub record MayGet (bytes : List ℕ) (s : Share) : Type 0 where
  pub paid : ArePaid s.owed (messages_got bytes s)
  pub sound : fault_in (s.held ++ bytes) ≡ None
  pub held : MayBeHeld (happens s (event.Got bytes)).held (happens s (event.Got bytes)).owed

-- an event may happen at a share with this connection. What the client does it may do at any time.
abbrev pub MayHappen : Share → Event → Type 0
MayHappen s (event.Marked mark) = Unit {0}
MayHappen s (event.Sent frame) = Unit {0}
MayHappen s (event.Got bytes) = MayGet bytes s
MayHappen s event.Quiet = Unit {0}
MayHappen s event.Joined = Unit {0}
MayHappen s event.NotJoined = Unit {0}
MayHappen s event.Cut = Unit {0}
MayHappen s (event.Took mid) = MayTake (sent_with mid s.sent) s
MayHappen s (event.Pend mid) = MayPend (sent_with mid s.sent)
MayHappen s (event.Act who r reply) = MayAct who r reply s
MayHappen s (event.Break key state) = MayBreak (breakable s.opens key s.leases) state
MayHappen s (event.Dropped key) = Unit {0}

-- each event may happen where it happens
abbrev pub HonestFrom : Share → List Event → Type 0
HonestFrom s [] = Unit {0}
HonestFrom s (e ∷ events) = MayHappen s e × HonestFrom (happens s e) events

-- the share at the start of a story: it has the root alone and no open, and what it is going to choose is read from the story
abbrev pub start : ℕ → Bool → List Event → Share
start room fold story = record (fresh_share room fold) { grants = ahead [] story }

-- a story is one that an honest share with this room and folding tells
abbrev pub IsHonest : ℕ → Bool → List Event → Type 0
IsHonest room fold story = HonestFrom (start room fold story) story

-- the share at the start of a story, whatever it is going to choose
abbrev pub at_start : ℕ → Bool → List (Option Grant) → Share
at_start room fold grants = record (fresh_share room fold) { grants = grants }
