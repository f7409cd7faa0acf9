-- The connection itself sends a request: the core has then what its client has.
use Rattle.std.proofs.Common.{arith, ◌≡◌, ◌∙◌, refl, sym, ap, subst, ℕ, ◌+◌, ◌-◌, ◌^◌, ◌<◌, ◌≤◌, inl, inr, true, false, List, [], ◌∷◌, ◌++◌, length, Option, Some, None, append-nil}
use Rattle.std.specs.Prelude.{map, option_map, is_none}
use Rattle.std.specs.List.{AllByRecursion}
use Rattle.smb_base.specs.declared.names.Mid.{Mid}
use Rattle.smb_head.specs.declared.command.TheConstants.{NEGOTIATE, SESSION_SETUP, LOGOFF, TREE_CONNECT, TREE_DISCONNECT}
use Rattle.smb_head.specs.declared.first.TheConstants.{MAX_FRAME}
use Rattle.smb_head.specs.declared.request.Request.{Request}
use Rattle.smb_head.specs.Header.{header}
use Rattle.smb_head.specs.Stream as stream
use Rattle.smb_chain.specs.Chain.{linked, chain}
use Rattle.smb_credit.specs.Window.{Ids, usable, least}
use Rattle.smb_field.proofs.Reading.{length-spelling}
use Rattle.smb_mount.specs.declared.facts.Facts.{Facts}
use Rattle.smb_mount.specs.Tokens.{negotiate_token, authenticate_token}
use Rattle.smb_mount.specs.Requests.{no_fields, empty_body, negotiate, session_setup, tree_connect, tree_disconnect, logoff}
use Rattle.smb_mux.specs.Sending.{costs, head_for, placed, room_of}
use Rattle.smb_link.specs.declared.event.Event.TheVariants as event
use Rattle.share_state.specs.declared.connection.Sent.{Sent}
use Rattle.fs_plain.specs.Owners.{mids_in, Owner, owner_of}
use Rattle.fs_plain.specs.Requests.{WireRequest}
use Rattle.fs_plain.specs.Told.{Announcement}
use Rattle.fs_plain.specs.World.{waiting, requests_in}
use Rattle.fs_client.specs.View.{Setting, Client}
use Rattle.fs_client.specs.After.{parts_sent, frame_of, cost_of, all_after}
use Rattle.fs_client.specs.May.{IsAside, MaySendUnder, Unmarked, Mounting, LeavingTree, LeavingSession, IsLeaving, Allowed, was_answered}
use Rattle.fs_client.specs.Mount.{Stage, Unmounted, Agreed, Challenging, InSession, Mounted, asked_at}
use Rattle.fs_client.specs.Ready.{IsReady}
use Rattle.fs_client.specs.Sane.{Sane}
use Rattle.fs_client.specs.Spelled.{ids_of, next_mid}
use Rattle.fs_client.proofs.Lists.{none_some, some_is, all_more}
use Rattle.fs_client.proofs.Frames.{is_in, are_in, owner_outside, owner_gone}
use Rattle.fs_client.proofs.Readiness.{ready_along}
use Rattle.fs_client.proofs.Sends.{owners_left}
use Rattle.fs_client.proofs.SpelledLaws.{AsksSomething}
use Rattle.fs_core.specs.declared.flight.Kind.TheVariants as kind
use Rattle.fs_core.specs.declared.phase.Phase.{Phase}
use Rattle.fs_core.specs.declared.phase.Phase.TheVariants as phase
use Rattle.fs_core.specs.declared.output.Output.TheVariants as output
use Rattle.fs_core.specs.Kept.{Kept}
use Rattle.fs_core.specs.Asks.{mount_asks}
use Rattle.fs_core.specs.Fits.{IsAlone, Mounts, IsMounted, IsAsked, IsAt, Fits}
use Rattle.fs_core.specs.Steps.{flights_from, sent_aside}
use Rattle.fs_core.specs.Event.{Does}
use Rattle.fs_core.specs.Written.{IsWrittenAt, IsWrittenIn}
use Rattle.fs_core.proofs.MarkingLists.{no_call, no_sent}
use Rattle.fs_core.proofs.FlyingFrames.{messages_for, CanSend, IsOfRequests, cost_there, of_requests}
use Rattle.fs_core.proofs.FlyingLists.{flights_kept, flights_append, AreParts}
use Rattle.fs_core.proofs.SpellingHeads.{Everywhere}
use Rattle.fs_core.proofs.SpellingAsides.{AsksAside, stage_speaks, disconnect_speaks, logoff_speaks}
use Rattle.fs_core.proofs.SpellingWishes.{charge_small}
use Rattle.fs_core.proofs.Sending.{ids_left, awaited_more, outside, new_flights, sent}
use Rattle.fs_core.proofs.SendingCalls.{free_is, first_is}

-- a request of the connection itself
pub record IsOwn (r : Request) : Type 0 where
  pub charge : r.charge ≤ 1
  pub command : r.command < 2 ^ 16
  pub short : length r.body ≤ 100000
  pub speaks : Everywhere (AsksAside r.command) r

pub stage_own : (stage : Stage) (r : Request) → asked_at stage ≡ Some r → IsWrittenAt stage r → IsOwn r
stage_own (Unmounted k) r is written = record {
  charge = subst (λ (q : Request). q.charge ≤ 1) (some_is (negotiate k.guid) r is) (omega arith);
  command = subst (λ (q : Request). q.command < 2 ^ 16) (some_is (negotiate k.guid) r is) (omega arith);
  short = written.short;
  speaks = stage_speaks (Unmounted k) r is written;
}
stage_own (Agreed k) r is written = record {
  charge = subst (λ (q : Request). q.charge ≤ 1) (some_is (session_setup k.server.caps 0 k.previous negotiate_token) r is) (charge_small k.server.caps);
  command = subst (λ (q : Request). q.command < 2 ^ 16) (some_is (session_setup k.server.caps 0 k.previous negotiate_token) r is) (omega arith);
  short = written.short;
  speaks = stage_speaks (Agreed k) r is written;
}
stage_own (Challenging k) r is written = record {
  charge = subst (λ (q : Request). q.charge ≤ 1) (some_is (session_setup k.server.caps k.session k.previous authenticate_token) r is)
      (charge_small k.server.caps);
  command = subst (λ (q : Request). q.command < 2 ^ 16) (some_is (session_setup k.server.caps k.session k.previous authenticate_token) r is) (omega arith);
  short = written.short;
  speaks = stage_speaks (Challenging k) r is written;
}
stage_own (InSession k) r is written = record {
  charge = subst (λ (q : Request). q.charge ≤ 1) (some_is (tree_connect k.server.caps k.session k.path) r is) (charge_small k.server.caps);
  command = subst (λ (q : Request). q.command < 2 ^ 16) (some_is (tree_connect k.server.caps k.session k.path) r is) (omega arith);
  short = written.short;
  speaks = stage_speaks (InSession k) r is written;
}
stage_own (Mounted facts) r is written = absurd (none_some r is)

empty_short : length empty_body ≤ 100000
empty_short = omega (arith, length-spelling 4 no_fields [] refl (omega arith, tt))

disconnect_own : (facts : Facts) → IsOwn (tree_disconnect facts)
disconnect_own facts = record { charge = charge_small facts.caps; command = omega arith; short = empty_short; speaks = disconnect_speaks facts }

logoff_own : (facts : Facts) → IsOwn (logoff facts)
logoff_own facts = record { charge = charge_small facts.caps; command = omega arith; short = empty_short; speaks = logoff_speaks facts }

-- it has room
pub own_room : (r : Request) → IsOwn r → room_of (r ∷ []) ≤ MAX_FRAME
own_room r own = under (length r.body) own.short
  where
    under : (n : ℕ) → n ≤ 100000 → 64 + n ≤ MAX_FRAME
    under n le = omega (arith, le)

-- its message, alone in its frame
message_own : (c : Client) (r : Request) → IsOwn r → (m : List ℕ) × (messages_for c (r ∷ []) ≡ m ∷ []) × AsksAside r.command m × (cost_of m ≡ 1)
message_own c r own = (
  header (linked (head_for (least (ids_of c)) r) 0) ++ r.body,
  refl,
  subst (λ (b : List ℕ). AsksAside r.command (header (linked (head_for (least (ids_of c)) r) 0) ++ b)) (append-nil r.body) (own.speaks (least (ids_of c)) 0 []),
  cost_there (least (ids_of c)) r 0 r.body own.charge,
)

can_send_own : (st : Setting) (k : Kept) (c : Client) (r : Request) → Fits st k c → c.view.connected ≡ true → IsOwn r
    → costs (r ∷ []) ≤ length (usable k.mux.ids) → CanSend c (r ∷ [])
can_send_own st k c r fits stands own enough = record {
  connected = stands;
  within = within c.view.next c.tally.granted (costs (r ∷ [])) (length (usable k.mux.ids)) enough (free_is st k c fits stands) fits.ready.used;
  below = fits.ready.granted;
  some = omega arith;
  room = own_room r own;
  charges = (own.charge, tt);
  commands = (own.command, tt);
  asks = let m = message_own c r own in subst (AllByRecursion AsksSomething) (sym m.1) (ap (λ (o : Option WireRequest). is_none o) m.2.asks, tt);
}
  where
    within : (next top n free : ℕ) → n ≤ free → free ≡ top - next → next ≤ top → next + n ≤ top
    within next top n free le is used = omega (arith, le, is, used)

-- what is in flight then of the frame
record IsOwnFrame (c : Client) (r : Request) (frame : List ℕ) : Type 0 where
  message : List ℕ
  requests : requests_in frame ≡ waiting (frame_of frame) message ∷ []
  speaks : AsksAside r.command message
  parts : AreParts ((kind.Aside, false) ∷ []) (messages_for c (r ∷ []))

own_frame : (c : Client) (r : Request) (frame : List ℕ) → IsOwn r → IsOfRequests c (r ∷ []) frame → IsOwnFrame c r frame
own_frame c r frame own of =
    let m = message_own c r own in
    record {
      message = m.0;
      requests = of.requests ∙ ap (map (waiting (frame_of frame))) m.1;
      speaks = m.2;
      parts = subst (AreParts ((kind.Aside, false) ∷ [])) (sym m.1) (record { kind = λ f. (refl, m.2.asks); one = m.3 }, record {});
    }

all_aside : (c : Client) (r : Request) (frame : List ℕ) → IsOwnFrame c r frame → AllByRecursion IsAside (requests_in frame)
all_aside c r frame own = subst (AllByRecursion IsAside) (sym own.requests) (own.speaks.asks, tt)

-- where nothing was, it is in flight alone
own_alone : (c : Client) (r : Request) (frame : List ℕ) (command : ℕ) → IsOwnFrame c r frame → r.command ≡ command → c.view.flights ≡ []
    → IsAlone command (c.view.flights ++ requests_in frame)
own_alone c r frame command own is quiet =
    subst (λ (l : List Sent). IsAlone command (l ++ requests_in frame)) (sym quiet) (subst (IsAlone command) (sym own.requests) (own.speaks.command_is ∙ is))

-- it is no call's
own_fits : (st : Setting) (k : Kept) (c : Client) (p : Phase) (r : Request) (first : Mid) (frame : List ℕ) → Sane c.view → Fits st k c → CanSend c (r ∷ [])
    → IsOfRequests c (r ∷ []) frame → IsOwnFrame c r frame
    → first ≡ next_mid c → IsAt st p (sent [] frame c) → IsReady (sent [] frame c) → Fits st (sent_aside p first r k) (sent [] frame c)
own_fits st k c p r first frame sane fits can of own is at ready = record {
  slots = fits.slots;
  flights = flights_append (owners_left frame c.view) k.flights (flights_from None first first.0 ((kind.Aside, false) ∷ [])) c.view.flights (requests_in frame)
      (flights_kept c.view.told.owners (owners_left frame c.view) k.flights c.view.flights
      (all_more (λ (x : Sent). is_in x.mid.0 (mids_in frame) ≡ false)
      (λ (x : Sent). owner_of x.mid (owners_left frame c.view) ≡ owner_of x.mid c.view.told.owners) c.view.flights
      (λ x out. owner_outside x.mid (mids_in frame) c.view.told.owners out) (outside c (r ∷ []) frame sane of)) fits.flights)
      (new_flights c (r ∷ []) frame (owners_left frame c.view) None first ((kind.Aside, false) ∷ []) can of is own.parts
      (all_more (λ (x : Sent). is_in x.mid.0 (mids_in frame) ≡ true)
      (λ (x : Sent). option_map (λ (o : Owner). o.number) (owner_of x.mid (owners_left frame c.view)) ≡ None) (requests_in frame)
      (λ x is. ap (option_map (λ (o : Owner). o.number)) (owner_gone x.mid (mids_in frame) c.view.told.owners is))
      (are_in (frame_of frame) c.view.next (parts_sent frame) of.frame_is.next)));
  early = fits.early;
  ids = λ stands. ids_left st k c (r ∷ []) frame fits can of;
  awaited = awaited_more st k c (r ∷ []) frame sane fits can of;
  phase = at;
  last = fits.last;
  now = fits.now;
  ended = fits.ended;
  idle = refl;
  ready = ready;
}

own_sent : (st : Setting) (k : Kept) (c : Client) (p : Phase) (r : Request) (first : Mid) (frame : List ℕ) → Sane c.view → Fits st k c → CanSend c (r ∷ [])
    → IsOfRequests c (r ∷ []) frame → IsOwnFrame c r frame
    → first ≡ next_mid c → Unmarked st c frame → IsAt st p (sent [] frame c)
    → Allowed st c (event.Sent frame ∷ []) × Fits st (sent_aside p first r k) (all_after st c (event.Sent frame ∷ []))
own_sent st k c p r first frame sane fits can of own is may at = (
  allowed,
  subst (λ (l : List Announcement). Fits st (sent_aside p first r k) (sent l frame c)) (sym fits.idle)
      (own_fits st k c p r first frame sane fits can of own is at (record { used = ready.used; granted = ready.granted; whole = ready.whole })),
)
  where
    allowed : Allowed st c (event.Sent frame ∷ [])
    allowed = (subst (λ (l : List Announcement). MaySendUnder l st c frame) (sym fits.idle) may, record {})

    ready : IsReady (all_after st c (event.Sent frame ∷ []))
    ready = ready_along st (event.Sent frame ∷ []) c allowed fits.ready

-- what may be sent of the connection itself
abbrev Sends : Setting → Kept → Phase → Request → Mid → List ℕ → Type 0
Sends st k p r first frame = Does st k (output.Send frame ∷ []) (sent_aside p first r k)

own_does : (st : Setting) (k : Kept) (p : Phase) (r : Request) (first : Mid) (frame : List ℕ) → IsOwn r → costs (r ∷ []) ≤ length (usable k.mux.ids)
    → frame ≡ stream.frame (chain (placed k.mux.ids (r ∷ []))) → first.0 ≡ least k.mux.ids
    → ((c : Client) → Sane c.view → Fits st k c → c.view.connected ≡ true)
    → ((c : Client) → Sane c.view → Fits st k c → IsOfRequests c (r ∷ []) frame → IsOwnFrame c r frame → Unmarked st c frame × IsAt st p (sent [] frame c))
    → Sends st k p r first frame
own_does st k p r first frame own enough frame_is first_at stands may = λ c sane fits.
    let can : CanSend c (r ∷ []) = can_send_own st k c r fits (stands c sane fits) own enough in
    let of : IsOfRequests c (r ∷ []) frame =
    of_requests c (r ∷ []) frame can (frame_is ∙ ap (λ (ids : Ids). stream.frame (chain (placed ids (r ∷ [])))) (fits.ids (stands c sane fits))) in
    let one : IsOwnFrame c r frame = own_frame c r frame own of in
    let both = may c sane fits of one in
    own_sent st k c p r first frame sane fits can of one (first_is st k c (r ∷ []) first fits can first_at) both.0 both.1

-- the mount asks what its stage asks
mount_by : (st : Setting) (k : Kept) (p : Phase) (stage : Stage) (command : ℕ) (r : Request) (first : Mid) (frame : List ℕ) → k.phase ≡ p
    → ((c : Client) → IsAt st p c → Mounts st stage command c) → ((c : Client) → Mounts st stage command c → IsAt st p c)
    → asked_at stage ≡ Some r → r.command ≡ command → IsWrittenAt stage r → k.flights ≡ [] → costs (r ∷ []) ≤ length (usable k.mux.ids)
    → frame ≡ stream.frame (chain (placed k.mux.ids (r ∷ []))) → first.0 ≡ least k.mux.ids → Sends st k p r first frame
mount_by st k p stage command r first frame on mounts back asks commanded written none enough frame_is first_at =
    own_does st k p r first frame (stage_own stage r asks written) enough frame_is first_at (λ c sane fits. (here c fits).connected)
    (λ c sane fits of own. (
      Mounting (record {
        stage = stage;
        come = (here c fits).come;
        request = r;
        asks = asks;
        no_call = (here c fits).no_call;
        quiet = quiet c fits;
        frame_is = of.frame_is;
        aside = all_aside c r frame own;
      }),
      back (sent [] frame c) (record {
        connected = (here c fits).connected;
        come = (here c fits).come;
        no_call = (here c fits).no_call;
        asked = inl (own_alone c r frame command own commanded (quiet c fits));
        staying = (here c fits).staying;
      }),
    ))
  where
    here : (c : Client) → Fits st k c → Mounts st stage command c
    here c fits = mounts c (subst (λ (q : Phase). IsAt st q c) on fits.phase)

    quiet : (c : Client) → Fits st k c → c.view.flights ≡ []
    quiet c fits = no_sent c.view.told.owners k.flights c.view.flights fits.flights none

mount_in : (st : Setting) (k : Kept) (p : Phase) (r : Request) (first : Mid) (frame : List ℕ) → k.phase ≡ p → mount_asks p ≡ Some r → IsWrittenIn p r
    → k.flights ≡ []
    → costs (r ∷ []) ≤ length (usable k.mux.ids) → frame ≡ stream.frame (chain (placed k.mux.ids (r ∷ []))) → first.0 ≡ least k.mux.ids
    → Sends st k p r first frame
mount_in st k (phase.Greeting s) r first frame on asks written none enough frame_is first_at =
    mount_by st k (phase.Greeting s) (Unmounted s) NEGOTIATE r first frame on (λ c at. at) (λ c at. at) asks
    (sym (ap (λ (q : Request). q.command) (some_is (negotiate s.guid) r asks))) written none enough frame_is first_at
mount_in st k (phase.SettingUp s) r first frame on asks written none enough frame_is first_at =
    mount_by st k (phase.SettingUp s) (Agreed s) SESSION_SETUP r first frame on (λ c at. at) (λ c at. at) asks
    (sym (ap (λ (q : Request). q.command) (some_is (session_setup s.server.caps 0 s.previous negotiate_token) r asks))) written none enough frame_is first_at
mount_in st k (phase.Answering s) r first frame on asks written none enough frame_is first_at =
    mount_by st k (phase.Answering s) (Challenging s) SESSION_SETUP r first frame on (λ c at. at) (λ c at. at) asks
    (sym (ap (λ (q : Request). q.command) (some_is (session_setup s.server.caps s.session s.previous authenticate_token) r asks)))
    written none enough frame_is first_at
mount_in st k (phase.Joining s) r first frame on asks written none enough frame_is first_at =
    mount_by st k (phase.Joining s) (InSession s) TREE_CONNECT r first frame on (λ c at. at) (λ c at. at) asks
    (sym (ap (λ (q : Request). q.command) (some_is (tree_connect s.server.caps s.session s.path) r asks))) written none enough frame_is first_at
mount_in st k other r first frame on asks written none enough frame_is first_at = absurd (none_some r asks)

pub mount_does : (st : Setting) (k : Kept) (r : Request) (first : Mid) (frame : List ℕ) → mount_asks k.phase ≡ Some r → IsWrittenIn k.phase r → k.flights ≡ []
    → costs (r ∷ []) ≤ length (usable k.mux.ids) → frame ≡ stream.frame (chain (placed k.mux.ids (r ∷ []))) → first.0 ≡ least k.mux.ids
    → Does st k (output.Send frame ∷ []) (sent_aside k.phase first r k)
mount_does st k r first frame asks written none enough frame_is first_at = mount_in st k k.phase r first frame refl asks written none enough frame_is first_at

-- each request that leaves the share is short enough for a frame
pub disconnect_room : (facts : Facts) → room_of (tree_disconnect facts ∷ []) ≤ MAX_FRAME
disconnect_room facts = own_room (tree_disconnect facts) (disconnect_own facts)

pub logoff_room : (facts : Facts) → room_of (logoff facts ∷ []) ≤ MAX_FRAME
logoff_room facts = own_room (logoff facts) (logoff_own facts)

-- what the client has that leaves the share
leaving : (st : Setting) (k : Kept) (c : Client) (facts : Facts) → Sane c.view → Fits st k c → IsMounted st facts c → c.view.told.ended ≡ true
    → c.view.items ≡ [] → k.flights ≡ [] → IsLeaving st c facts
leaving st k c facts sane fits mounted over no_items none = record {
  mounted = mounted.come;
  over = over;
  no_call = no_items;
  no_open = sane.no_place;
  quiet = no_sent c.view.told.owners k.flights c.view.flights fits.flights none;
}

-- first the tree is left
pub leave_tree_does : (st : Setting) (k : Kept) (facts : Facts) (first : Mid) (frame : List ℕ) → k.phase ≡ phase.On facts → k.ended ≡ true → k.slots ≡ []
    → k.flights ≡ []
    → costs (tree_disconnect facts ∷ []) ≤ length (usable k.mux.ids) → frame ≡ stream.frame (chain (placed k.mux.ids (tree_disconnect facts ∷ [])))
    → first.0 ≡ least k.mux.ids
    → Does st k (output.Send frame ∷ []) (sent_aside (phase.LeavingTree facts) first (tree_disconnect facts) k)
leave_tree_does st k facts first frame on ended empty none enough frame_is first_at =
    own_does st k (phase.LeavingTree facts) (tree_disconnect facts) first frame (disconnect_own facts) enough frame_is first_at
    (λ c sane fits. (here c fits).0.connected)
    (λ c sane fits of own.
    let at = here c fits in
    let over : c.view.told.ended ≡ true = sym fits.ended ∙ ended in
    let items : c.view.items ≡ [] = no_call st.options k.slots c.view.items fits.slots empty in
    let leaves : IsLeaving st c facts = leaving st k c facts sane fits at.0 over items none in (
      LeavingTree (record { facts = facts; leaving = leaves; once = at.1.0; frame_is = of.frame_is; aside = all_aside c (tree_disconnect facts) frame own }),
      (
        record { mounted = record { connected = at.0.connected; come = at.0.come }; no_call = items; ended = over },
        inl (at.1.0, own_alone c (tree_disconnect facts) frame TREE_DISCONNECT own refl leaves.quiet),
        at.1.1,
      ),
    ))
  where
    here : (c : Client) → Fits st k c → IsAt st (phase.On facts) c
    here c fits = subst (λ (q : Phase). IsAt st q c) on fits.phase

-- behind that the session
pub leave_session_does : (st : Setting) (k : Kept) (facts : Facts) (first : Mid) (frame : List ℕ) → k.phase ≡ phase.LeavingTree facts → k.flights ≡ []
    → costs (logoff facts ∷ []) ≤ length (usable k.mux.ids) → frame ≡ stream.frame (chain (placed k.mux.ids (logoff facts ∷ []))) → first.0 ≡ least k.mux.ids
    → Does st k (output.Send frame ∷ []) (sent_aside (phase.LeavingSession facts) first (logoff facts) k)
leave_session_does st k facts first frame on none enough frame_is first_at =
    own_does st k (phase.LeavingSession facts) (logoff facts) first frame (logoff_own facts) enough frame_is first_at
    (λ c sane fits. (here c fits).0.mounted.connected)
    (λ c sane fits of own.
    let at = here c fits in
    let quiet : c.view.flights ≡ [] = no_sent c.view.told.owners k.flights c.view.flights fits.flights none in
    let answered : was_answered TREE_DISCONNECT c.tally.exchanges ≡ true = was TREE_DISCONNECT c quiet at.1 in
    let leaves : IsLeaving st c facts = leaving st k c facts sane fits at.0.mounted at.0.ended at.0.no_call none in (
      LeavingSession (record {
        facts = facts;
        leaving = leaves;
        behind = answered;
        once = at.2;
        frame_is = of.frame_is;
        aside = all_aside c (logoff facts)
            frame own;
      }),
      (
        record { mounted = record { connected = at.0.mounted.connected; come = at.0.mounted.come }; no_call = at.0.no_call; ended = at.0.ended },
        answered,
        inl (at.2, own_alone c (logoff facts) frame LOGOFF own refl quiet),
      ),
    ))
  where
    here : (c : Client) → Fits st k c → IsAt st (phase.LeavingTree facts) c
    here c fits = subst (λ (q : Phase). IsAt st q c) on fits.phase

    was : (command : ℕ) (c : Client) → c.view.flights ≡ [] → IsAsked command c → was_answered command c.tally.exchanges ≡ true
    was command c quiet (inl asked) = absurd (subst (IsAlone command) quiet asked.1)
    was command c quiet (inr asked) = asked.0
