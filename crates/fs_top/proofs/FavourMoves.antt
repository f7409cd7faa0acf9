-- The client may do what it does in that story: so a run on which all has to be carried out is one that may be.
use Rattle.std.proofs.Common.{arith, ◌≡◌, refl, sym, ap, subst, ℕ, ◌==◌, ◌<◌, true, false, if◌then◌else◌, List, [], ◌∷◌, Result, Ok, Err}
use Rattle.smb_le.specs.Numbers.{number_at, bytes_of}
use Rattle.smb_head.specs.Header.{head_of, head_at, header}
use Rattle.smb_head.specs.Stream.{frame, first_of}
use Rattle.smb_chain.specs.Chain.{chain}
use Rattle.smb_chain.specs.Parts.{step_of, parts_of}
use Rattle.smb_credit.specs.Window.{numbers, usable, after_use, up_to}
use Rattle.smb_field.specs.declared.field.BodyFault.{BodyFault}
use Rattle.smb_field.specs.declared.field.BodyFault.TheVariants.{Short, Size, Value, Offset}
use Rattle.smb_field.specs.Body.{spelling}
use Rattle.smb_field.specs.Fields.{spelled}
use Rattle.smb_field.specs.Rows.{part_in}
use Rattle.smb_body_a.specs.Empty.{empty_of}
use Rattle.smb_body_a.specs.Negotiate.{negotiate_request_of}
use Rattle.smb_body_a.specs.Session.{session_setup_request_of}
use Rattle.smb_body_a.specs.Tree.{tree_connect_request_of}
use Rattle.smb_body_a.specs.declared.session.SessionSetupReply.{SessionSetupReply}
use Rattle.smb_body_a.specs.declared.tree.TreeConnectReply.{TreeConnectReply}
use Rattle.smb_mount.specs.declared.facts.Facts.{Facts}
use Rattle.smb_mount.specs.declared.facts.Server.{Server}
use Rattle.smb_mount.specs.declared.fault.MountFault.{MountFault}
use Rattle.smb_mount.specs.declared.fault.MountFault.TheVariants.{NotGuest, NotDisk}
use Rattle.smb_mount.specs.declared.states.SetUp.{SetUp}
use Rattle.smb_mount.specs.declared.states.SetUp.TheVariants.{Challenged}
use Rattle.smb_mount.specs.Kept as kept
use Rattle.smb_mount.specs.Replies.{ReadsSession, ReadsTree, is_guest, server_of}
use Rattle.smb_mount.specs.Requests.{unit_bytes, negotiate, session_setup, tree_connect}
use Rattle.smb_mount.specs.Tokens.{negotiate_token, authenticate_token}
use Rattle.smb_mount.specs.Verdicts.{by_body, challenged, answered, joined, NegotiateEnds, SetUpEnds, SessionEnds, TreeEnds}
use Rattle.smb_mount.proofs.Same.{negotiated}
use Rattle.smb_link.specs.declared.event.Event.{Event}
use Rattle.smb_link.specs.declared.event.Event.TheVariants as event
use Rattle.fs_plain.specs.Facts.{no_facts}
use Rattle.fs_plain.specs.Requests.{wire_request}
use Rattle.fs_client.specs.View.{Client, Exchange, no_client}
use Rattle.fs_client.specs.May.{Mounting, LeavingTree, LeavingSession, May, Allowed}
use Rattle.fs_client.specs.Mount.{Unmounted, Agreed, Challenging, InSession, Mounted, LeadTo, at_first}
use Rattle.fs_top.proofs.FavourFrames.{greeting, greeting_reply, set_up, set_up_reply, authenticate, authenticate_reply, tree, tree_reply, leave_tree, leave_session}
use Rattle.fs_top.proofs.FavourStory.{st, mine, client, clients, x0, x1, x2, x3, x4, server, Goes, they_go, at_most, less, greeting_read, session_read, tree_read, reads_greeting, reads_set_up, reads_authenticate, reads_tree}

-- what the mount keeps from stage to stage
abbrev pub start : kept.Start
start = record { guid = st.guid; path = st.path; previous = 0 }

abbrev says : Server
says = server_of greeting_read

abbrev pub agreed : kept.Greeted
agreed = record { path = []; previous = 0; server = says }

abbrev pub challenge : kept.Challenge
challenge = record { path = []; previous = 0; server = says; session = 1 }

abbrev pub session : kept.Session
session = record { path = []; server = says; session = 1 }

abbrev pub share : Facts
share = record {
  session = 1;
  tree = 1;
  caps = says.caps;
  max_transact = says.max_transact;
  max_read = says.max_read;
  max_write = says.max_write;
  guid = says.guid;
}

leads_greeting : NegotiateEnds start (head_of greeting_reply) greeting_reply (Ok agreed)
unfolding head_of head_at number_at
leads_greeting = negotiated start greeting_reply _ (Ok greeting_read) (Ok agreed) refl refl reads_greeting refl

none : {P : Type 0} → 0 < 0 → P
none is = absurd (omega (arith, is))

too_short : {P : Type 0} (n : ℕ) → n < n → P
too_short n is = absurd (omega (arith, is))

-- a session reply of which something else is read: it has the same flags, and no fault
set_up_once : (body : Result SessionSetupReply BodyFault) → ReadsSession set_up_reply body → ◌≡◌ {A = Result SetUp MountFault} (Ok (Challenged challenge)) (by_body (challenged agreed 1) body)
unfolding number_at
set_up_once (Ok x) reads = refl
set_up_once (Err Short) reads = too_short 72 reads
set_up_once (Err Size) reads = absurd (reads.1 refl)
set_up_once (Err Value) reads = absurd reads.2
set_up_once (Err Offset) reads = none reads.3.0

leads_set_up : SetUpEnds agreed (head_of set_up_reply) set_up_reply (Ok (Challenged challenge))
unfolding head_of head_at number_at
leads_set_up = record { some_body = (Ok (session_read 0), reads_set_up, refl); every_body = set_up_once }

authenticate_once : (body : Result SessionSetupReply BodyFault) → ReadsSession authenticate_reply body → ◌≡◌ {A = Result kept.Session MountFault} (Ok session) (by_body (answered challenge) body)
unfolding number_at
authenticate_once (Ok x) reads = ap (λ (flags : ℕ). if is_guest flags then Ok session else Err NotGuest) reads.2.0
authenticate_once (Err Short) reads = too_short 72 reads
authenticate_once (Err Size) reads = absurd (reads.1 refl)
authenticate_once (Err Value) reads = absurd reads.2
authenticate_once (Err Offset) reads = none reads.3.0

leads_authenticate : SessionEnds challenge (head_of authenticate_reply) authenticate_reply (Ok session)
unfolding head_of head_at number_at
leads_authenticate = record { some_body = (Ok (session_read 1), reads_authenticate, refl); every_body = authenticate_once }

-- and so a tree reply
tree_once : (body : Result TreeConnectReply BodyFault) → ReadsTree tree_reply body → ◌≡◌ {A = Result Facts MountFault} (Ok share) (by_body (joined session (head_at tree_reply).route) body)
unfolding head_at number_at
tree_once (Ok x) reads = ap (λ (kind : ℕ). if kind == 1 then Ok share else Err (NotDisk kind)) reads.2.0
tree_once (Err Short) reads = too_short 80 reads
tree_once (Err Size) reads = absurd (reads.1 refl)
tree_once (Err Value) reads = absurd reads.2
tree_once (Err Offset) reads = absurd reads.3

leads_tree : TreeEnds session (head_of tree_reply) tree_reply (Ok share)
unfolding head_of head_at number_at
leads_tree = record { some_body = (Ok tree_read, reads_tree, refl); every_body = tree_once }

-- the exchanges lead from stage to stage, and those of the leave from the mounted share no further
come_1 : LeadTo (at_first st) (x0 ∷ []) (Agreed agreed)
come_1 = (Agreed agreed, leads_greeting, refl)

pub come_2 : LeadTo (at_first st) (x0 ∷ x1 ∷ []) (Challenging challenge)
come_2 = (Agreed agreed, leads_greeting, (Challenging challenge, leads_set_up, refl))

come_3 : LeadTo (at_first st) (x0 ∷ x1 ∷ x2 ∷ []) (InSession session)
come_3 = (Agreed agreed, leads_greeting, (Challenging challenge, leads_set_up, (InSession session, leads_authenticate, refl)))

come_4 : (behind : List Exchange) → LeadTo (Mounted share) behind (Mounted share) → LeadTo (at_first st) (x0 ∷ x1 ∷ x2 ∷ x3 ∷ behind) (Mounted share)
come_4 behind leads =
    (Agreed agreed, leads_greeting, (Challenging challenge, leads_set_up, (InSession session, leads_authenticate, (Mounted share, leads_tree, leads))))

-- each request of the mount is the next one that its stage asks
sends_greeting : May st (client [] 0 0 1 [] no_facts false) (event.Sent (frame greeting))
unfolding wire_request head_of head_at number_at first_of step_of parts_of part_in header chain bytes_of spelling spelled unit_bytes numbers usable after_use up_to empty_of negotiate_request_of session_setup_request_of tree_connect_request_of
sends_greeting = Mounting (record {
  stage = Unmounted start;
  come = refl;
  request = negotiate st.guid;
  asks = refl;
  no_call = refl;
  quiet = refl;
  frame_is = record { connected = refl; spelled = refl; granted = at_most _ _ refl; room = at_most _ _ refl; some = less _ _ refl; next = (refl, refl, record {}) };
  aside = (refl, tt);
})

sends_set_up : May st (client [] 1 1 2 (x0 ∷ []) server false) (event.Sent (frame set_up))
unfolding wire_request head_of head_at number_at first_of step_of parts_of part_in header chain bytes_of spelling spelled unit_bytes numbers usable after_use up_to empty_of negotiate_request_of session_setup_request_of tree_connect_request_of
sends_set_up = Mounting (record {
  stage = Agreed agreed;
  come = come_1;
  request = session_setup says.caps 0 0 negotiate_token;
  asks = refl;
  no_call = refl;
  quiet = refl;
  frame_is = record { connected = refl; spelled = refl; granted = at_most _ _ refl; room = at_most _ _ refl; some = less _ _ refl; next = (refl, refl, record {}) };
  aside = (refl, tt);
})

sends_authenticate : May st (client [] 2 2 3 (x0 ∷ x1 ∷ []) server false) (event.Sent (frame authenticate))
unfolding wire_request head_of head_at number_at first_of step_of parts_of part_in header chain bytes_of spelling spelled unit_bytes numbers usable after_use up_to empty_of negotiate_request_of session_setup_request_of tree_connect_request_of
sends_authenticate = Mounting (record {
  stage = Challenging challenge;
  come = come_2;
  request = session_setup says.caps 1 0 authenticate_token;
  asks = refl;
  no_call = refl;
  quiet = refl;
  frame_is = record { connected = refl; spelled = refl; granted = at_most _ _ refl; room = at_most _ _ refl; some = less _ _ refl; next = (refl, refl, record {}) };
  aside = (refl, tt);
})

sends_tree : May st (client [] 3 3 35 (x0 ∷ x1 ∷ x2 ∷ []) server false) (event.Sent (frame tree))
unfolding wire_request head_of head_at number_at first_of step_of parts_of part_in header chain bytes_of spelling spelled unit_bytes numbers usable after_use up_to empty_of negotiate_request_of session_setup_request_of tree_connect_request_of
sends_tree = Mounting (record {
  stage = InSession session;
  come = come_3;
  request = tree_connect says.caps 1 [];
  asks = refl;
  no_call = refl;
  quiet = refl;
  frame_is = record { connected = refl; spelled = refl; granted = at_most _ _ refl; room = at_most _ _ refl; some = less _ _ refl; next = (refl, refl, record {}) };
  aside = (refl, tt);
})

-- and those of the leave come once each, one behind the other
leaves_tree : May st (client [] 4 4 67 (x0 ∷ x1 ∷ x2 ∷ x3 ∷ []) server true) (event.Sent (frame leave_tree))
unfolding wire_request head_of head_at number_at first_of step_of parts_of part_in header chain bytes_of spelling spelled unit_bytes numbers usable after_use up_to empty_of negotiate_request_of session_setup_request_of tree_connect_request_of
leaves_tree = LeavingTree (record {
  facts = share;
  leaving = record { mounted = come_4 [] refl; over = refl; no_call = refl; no_open = refl; quiet = refl };
  once = refl;
  frame_is = record { connected = refl; spelled = refl; granted = at_most _ _ refl; room = at_most _ _ refl; some = less _ _ refl; next = (refl, refl, record {}) };
  aside = (refl, tt);
})

leaves_session : May st (client [] 5 5 99 (x0 ∷ x1 ∷ x2 ∷ x3 ∷ x4 ∷ []) server true) (event.Sent (frame leave_session))
unfolding wire_request head_of head_at number_at first_of step_of parts_of part_in header chain bytes_of spelling spelled unit_bytes numbers usable after_use up_to empty_of negotiate_request_of session_setup_request_of tree_connect_request_of
leaves_session = LeavingSession (record {
  facts = share;
  leaving = record { mounted = come_4 (x4 ∷ []) (Mounted share, refl, refl); over = refl; no_call = refl; no_open = refl; quiet = refl };
  behind = refl;
  once = refl;
  frame_is = record { connected = refl; spelled = refl; granted = at_most _ _ refl; room = at_most _ _ refl; some = less _ _ refl; next = (refl, refl, record {}) };
  aside = (refl, tt);
})

-- what a client may do on its way through these clients, it may do
abbrev MayAll : Client → List Event → List Client → Type 0
MayAll c [] ds = Unit {0}
MayAll c (e ∷ es) [] = ⊥
MayAll c (e ∷ es) (d ∷ ds) = May st c e × MayAll d es ds

allowed_so : (events : List Event) (ds : List Client) (c : Client) → Goes c events ds → MayAll c events ds → Allowed st c events
allowed_so [] ds c goes may = record {}
allowed_so (e ∷ es) [] c goes may = absurd may
allowed_so (e ∷ es) (d ∷ ds) c goes may = (may.0, subst (λ (k : Client). Allowed st k es) (sym goes.0) (allowed_so es ds d goes.1 may.1))

pub it_is_allowed : Allowed st no_client mine
it_is_allowed = allowed_so mine clients no_client they_go
    (refl, (sends_greeting, (refl, (sends_set_up, (refl, (sends_authenticate, (refl, (sends_tree, (refl, (refl, (leaves_tree, (refl, (leaves_session, (refl, record {}))))))))))))))
