-- The client's whole policy: what it may do next, by what it knows.
use Rattle.std.specs.Prelude.{◌≡◌, ◌⊎◌, ℕ, ◌<◌, ◌≤◌, ◌==◌, Bool, true, false, not, nat_lt, IsSomeAnd, List, [], ◌∷◌, length, map, Some}
use Rattle.std.specs.List.{AllByRecursion, list_any, list_all}
use Rattle.smb_base.specs.declared.names.Mid.{Mid}
use Rattle.smb_head.specs.declared.command.TheConstants.{TREE_DISCONNECT, LOGOFF}
use Rattle.smb_head.specs.declared.request.Request.{Request}
use Rattle.smb_mount.specs.declared.facts.Facts.{Facts}
use Rattle.smb_mount.specs.Requests.{tree_disconnect, logoff}
use Rattle.share_state.specs.declared.connection.Sent.{Sent}
use Rattle.fs_types.specs.declared.answer.Answer.{Answer}
use Rattle.fs_types.specs.declared.call.Call.{Call}
use Rattle.fs_types.specs.declared.call.Call.TheVariants as call
use Rattle.smb_link.specs.declared.event.Event.{Event}
use Rattle.smb_link.specs.declared.event.Event.TheVariants as event
use Rattle.smb_link.specs.declared.mark.Mark.{Mark}
use Rattle.smb_link.specs.declared.mark.Mark.TheVariants as mark
use Rattle.smb_link.specs.Calls.{is_there}
use Rattle.smb_link.specs.Program.{Wish, Program, Ask, Look, Say, settled, of_errno}
use Rattle.fs_plain.specs.Owners.{mids_in}
use Rattle.fs_plain.specs.Requests.{WireRequest, wire_request}
use Rattle.fs_plain.specs.Replies.{command_of}
use Rattle.fs_plain.specs.Told.{Announcement}
use Rattle.fs_plain.specs.World.{requests_in}
use Rattle.fs_client.specs.Item.{Item, Asking, NotAsked, Asked, Acknowledging, Leased, item_with}
use Rattle.fs_client.specs.View.{Setting, Exchange, Client}
use Rattle.fs_client.specs.After.{frame_of, after}
use Rattle.fs_client.specs.Flies.{FliesAs, files_of, IsIdle}
use Rattle.fs_client.specs.Spelled.{request_for, ids_for, echo, next_mid, free_ids, IsFrameOf}
use Rattle.fs_client.specs.Mount.{Stage, Mounted, HasCome, asked_at}

-- a break of a lease that was told is acknowledged
abbrev pub IsAcknowledged : Asking → Type 0
IsAcknowledged NotAsked = Unit {0}
IsAcknowledged (Asked state) = ⊥
IsAcknowledged (Acknowledging mid state) = Unit {0}

-- before it begins a call, and before it waits in vain, the client acknowledges each break that it was told
abbrev pub IsPrompt : Client → Type 0
IsPrompt c = AllByRecursion (λ (l : Leased). IsAcknowledged l.asking) c.view.leased

-- A call begins: the share is mounted, the call is one that is there, its number is above all before it, no call runs in its lane, and
-- the end was not said.
pub record MayBegin (s : Setting) (c : Client) (number lane : ℕ) (call : Call) : Type 0 where
  pub facts : Facts
  pub mounted : HasCome s c (Mounted facts)
  pub connected : c.view.connected ≡ true
  pub there : is_there call ≡ true
  pub above : list_all (λ line. nat_lt line.0 number) c.view.told.begun ≡ true
  pub lane_free : not (list_any (λ (i : Item). i.lane == lane) c.view.items) ≡ true
  pub going : c.view.told.ended ≡ false
  pub prompt : IsPrompt c

-- a program asks for something next
abbrev pub IsAsking : Program → Type 0
IsAsking (Ask wish rest) = Unit {0}
IsAsking (Look rest) = ⊥
IsAsking (Say answer) = ⊥

abbrev pub StartsWith : Wish → Program → Type 0
StartsWith wish (Ask next rest) = next ≡ wish
StartsWith wish (Look rest) = ⊥
StartsWith wish (Say answer) = ⊥

abbrev pub is_stat : Call → Bool
is_stat (call.Stat path) = true
is_stat other = false

-- A frame is announced for a call that runs, was not broken off with a connection, has nothing in flight and asks for something; no other
-- frame is announced. Where three ids are free, the first frame of a stat is announced with all its three requests. How a call goes on
-- that was broken off is to come.
pub record MayAnnounceFor (s : Setting) (c : Client) (first : Mid) (count : ℕ) (item : Item) : Type 0 where
  pub whole : item.broken ≡ false
  pub idle : IsIdle item.frame c.view.flights
  pub asking : IsAsking (settled c.view.told.known item.rest)
  pub alone : c.view.told.announced ≡ []
  pub next : first ≡ next_mid c
  pub some : 0 < count
  pub chained : is_stat item.call ≡ true → item.announced ≡ false → s.options.mfsymlinks ≡ false → 3 ≤ free_ids c → count ≡ 3

abbrev pub MayAnnounce : Setting → Client → ℕ → Mid → ℕ → Type 0
MayAnnounce s c number first count = IsSomeAnd (item_with number c.view.items) (MayAnnounceFor s c first count)

-- A call that was not broken off and has nothing in flight gives the answer that its program says by what is known now; or, for want of
-- memory, one for which no frame was announced gives ENOMEM.
pub record MayAnswerFor (c : Client) (answer : Answer) (item : Item) : Type 0 where
  pub idle : IsIdle item.frame c.view.flights
  pub says : ((item.broken ≡ false) × (settled c.view.told.known item.rest ≡ Say answer)) ⊎ ((item.announced ≡ false) × (answer ≡ of_errno 12))

abbrev pub MayAnswer : Client → ℕ → Answer → Type 0
MayAnswer c number answer = IsSomeAnd (item_with number c.view.items) (MayAnswerFor c answer)

abbrev pub MayMark : Setting → Client → Mark → Type 0
MayMark s c (mark.Begin number lane call) = MayBegin s c number lane call
MayMark s c (mark.For number first count) = MayAnnounce s c number first count
MayMark s c (mark.Answer number answer) = MayAnswer c number answer
MayMark s c (mark.Now time) = c.view.told.now ≤ time
MayMark s c mark.End = c.view.told.ended ≡ false

-- the requests of wishes of a call, each related to the one before it or not
abbrev pub requests_for : Facts → Item → Client → List (Bool × Wish) → List Request
requests_for facts item c wishes = map (request_for facts (files_of item c.view.placed item.fids)) wishes

-- A frame is sent under a mark: it is the one spelling of as many requests as were announced, under the ids that were announced, of a
-- call that was not broken off and has nothing in flight; and they are what the call's program asks by what was known at the mark, one
-- after another, whatever the replies to those before are.
pub record MaySendFor (s : Setting) (c : Client) (a : Announcement) (frame : List ℕ) (item : Item) : Type 0 where
  pub facts : Facts
  pub mounted : HasCome s c (Mounted facts)
  pub whole : item.broken ≡ false
  pub announced : item.announced ≡ true
  pub idle : IsIdle item.frame c.view.flights
  pub wishes : List (Bool × Wish)
  pub frame_is : IsFrameOf (requests_for facts item c wishes) c frame
  pub count : a.count ≡ length (mids_in frame)
  pub first : a.first ≡ next_mid c
  pub asks : FliesAs (files_of item c.view.placed) a.known (frame_of frame) (λ x. x) item.rest item.fids (requests_in frame)

abbrev pub MaySend : Setting → Client → Announcement → List ℕ → Type 0
MaySend s c a frame = IsSomeAnd (item_with a.number c.view.items) (MaySendFor s c a frame)

-- a request asks for something of the connection itself
abbrev pub IsAside : Sent → Type 0
IsAside x = wire_request x.message ≡ Some WireRequest.Aside

-- A request without a mark asks what the mount of the connection asks next, while no call runs and nothing is in flight.
pub record IsMounting (s : Setting) (c : Client) (frame : List ℕ) : Type 0 where
  pub stage : Stage
  pub come : HasCome s c stage
  pub request : Request
  pub asks : asked_at stage ≡ Some request
  pub no_call : c.view.items ≡ []
  pub quiet : c.view.flights ≡ []
  pub frame_is : IsFrameOf (request ∷ []) c frame
  pub aside : AllByRecursion IsAside (requests_in frame)

-- An ECHO asks for more ids, where nothing is in flight and the next request of a call costs more than are free.
pub record IsEcho (s : Setting) (c : Client) (frame : List ℕ) : Type 0 where
  pub facts : Facts
  pub mounted : HasCome s c (Mounted facts)
  pub quiet : c.view.flights ≡ []
  pub number : ℕ
  pub item : Item
  pub runs : item_with number c.view.items ≡ Some item
  pub whole : item.broken ≡ false
  pub wish : Wish
  pub waits : StartsWith wish (settled c.view.told.known item.rest)
  pub short : free_ids c < ids_for facts wish
  pub frame_is : IsFrameOf (echo facts ∷ []) c frame
  pub aside : AllByRecursion IsAside (requests_in frame)

-- a request of this command was answered on this connection
abbrev pub was_answered : ℕ → List Exchange → Bool
was_answered command exchanges = list_any (λ (x : Exchange). command_of x.request == command) exchanges

-- The share is left: the end was said, no call runs, and nothing is in flight.
pub record IsLeaving (s : Setting) (c : Client) (facts : Facts) : Type 0 where
  pub mounted : HasCome s c (Mounted facts)
  pub over : c.view.told.ended ≡ true
  pub no_call : c.view.items ≡ []
  pub no_open : c.view.placed ≡ []
  pub quiet : c.view.flights ≡ []

-- Leaving asks to end the tree, once.
pub record IsLeavingTree (s : Setting) (c : Client) (frame : List ℕ) : Type 0 where
  pub facts : Facts
  pub leaving : IsLeaving s c facts
  pub once : was_answered TREE_DISCONNECT c.tally.exchanges ≡ false
  pub frame_is : IsFrameOf (tree_disconnect facts ∷ []) c frame
  pub aside : AllByRecursion IsAside (requests_in frame)

-- Leaving asks to end the session, once, behind that.
pub record IsLeavingSession (s : Setting) (c : Client) (frame : List ℕ) : Type 0 where
  pub facts : Facts
  pub leaving : IsLeaving s c facts
  pub behind : was_answered TREE_DISCONNECT c.tally.exchanges ≡ true
  pub once : was_answered LOGOFF c.tally.exchanges ≡ false
  pub frame_is : IsFrameOf (logoff facts ∷ []) c frame
  pub aside : AllByRecursion IsAside (requests_in frame)

-- The requests without a mark are of these kinds. Acknowledging, flushing, closing and reclaiming are to come.
pub data Unmarked (s : Setting) (c : Client) (frame : List ℕ) : Type 0 where
  Mounting : IsMounting s c frame → Unmarked s c frame
  Echo : IsEcho s c frame → Unmarked s c frame
  LeavingTree : IsLeavingTree s c frame → Unmarked s c frame
  LeavingSession : IsLeavingSession s c frame → Unmarked s c frame

-- One mark at most speaks of a frame.
abbrev pub MaySendUnder : List Announcement → Setting → Client → List ℕ → Type 0
MaySendUnder [] s c frame = Unmarked s c frame
MaySendUnder (a ∷ []) s c frame = MaySend s c a frame
MaySendUnder (a ∷ b ∷ others) s c frame = ⊥

-- Bytes come, a silence is heard and a connection ends where one stands; one is made, or could not be, where none does. What the share
-- does is not the client's to do.
abbrev pub May : Setting → Client → Event → Type 0
May s c (event.Marked m) = MayMark s c m
May s c (event.Sent frame) = MaySendUnder c.view.told.announced s c frame
May s c (event.Got bytes) = c.view.connected ≡ true
May s c event.Quiet = (c.view.connected ≡ true) × IsPrompt c
May s c event.Joined = c.view.connected ≡ false
May s c event.NotJoined = c.view.connected ≡ false
May s c event.Cut = c.view.connected ≡ true
May s c other = ⊥

-- a client does these events, one after another, as it may
abbrev pub Allowed : Setting → Client → List Event → Type 0
Allowed s c [] = Unit {0}
Allowed s c (e ∷ events) = May s c e × Allowed s (after s c e) events
