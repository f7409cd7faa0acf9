-- What each reply of a mount decides, the first reason first (MS-SMB2 3.2.5.2, 3.2.5.3 and 3.2.5.5): from what was kept and the bytes
-- of the reply to what the next state keeps, or the fault.
use Rattle.std.specs.Prelude.{◌==◌, ℕ, List, if◌then◌else◌, MatchBool, Result, Ok, Err, bit_and}
use Rattle.smb_base.specs.declared.names.Status.{Status}
use Rattle.smb_head.specs.declared.head.Head.{Head}
use Rattle.smb_head.specs.declared.head.HeadFault.{HeadFault}
use Rattle.smb_head.specs.declared.head.Route.{Route}
use Rattle.smb_field.specs.declared.field.BodyFault.{BodyFault}
use Rattle.smb_body_a.specs.declared.negotiate.NegotiateReply.{NegotiateReply}
use Rattle.smb_body_a.specs.declared.session.SessionSetupReply.{SessionSetupReply}
use Rattle.smb_body_a.specs.declared.tree.TreeConnectReply.{TreeConnectReply}
use Rattle.smb_mount.specs.declared.facts.Facts.{Facts}
use Rattle.smb_mount.specs.declared.fault.MountFault.{MountFault}
use Rattle.smb_mount.specs.declared.fault.MountFault.TheVariants.{Dialect, SigningRequired, Session, NotGuest, Tree, NotDisk, Malformed}
use Rattle.smb_mount.specs.declared.states.SetUp.{SetUp}
use Rattle.smb_mount.specs.declared.states.SetUp.TheVariants.{Challenged, Authenticated}
use Rattle.smb_mount.specs.Kept as kept
use Rattle.smb_mount.specs.Replies.{ReadsNegotiate, ReadsSession, ReadsTree, Decides, Refuses, is_guest, tree_of, server_of}

-- the answer by what is read of the body: a malformed one is refused before all else
abbrev pub by_body : {X A : Type 0} → (X → Result A MountFault) → Result X BodyFault → Result A MountFault
by_body verdict (Ok x) = verdict x
by_body verdict (Err malformed) = Err (Malformed malformed)

-- a fault and nothing else
abbrev pub Fails : {A : Type 0} → (MountFault → Type 0) → Result A MountFault → Type 0
Fails is (Ok a) = ⊥
Fails is (Err fault) = is fault

-- NEGOTIATE: another dialect, then signing
abbrev pub greeted : kept.Start → NegotiateReply → Result kept.Greeted MountFault
greeted k x =
    if x.dialect == 0x0210 then
    (if bit_and x.security_mode 2 == 2 then Err SigningRequired
    else Ok (record { path = k.path; previous = k.previous; server = server_of x }))
    else Err (Dialect x.dialect)

abbrev pub NegotiateEnds : kept.Start → Result Head HeadFault → List ℕ → Result kept.Greeted MountFault → Type 0
NegotiateEnds k (Err fault) part result = ⊥
NegotiateEnds k (Ok head) part result =
    MatchBool (head.status.0 == 0)
    (Decides (ReadsNegotiate part) (by_body (greeted k)) result)
    (Fails (Refuses part (Dialect 0)) result)

-- a challenge: the session has the id of this reply's header
abbrev pub challenged : kept.Greeted → ℕ → SessionSetupReply → Result SetUp MountFault
challenged k session x = Ok (Challenged (record { path = k.path; previous = k.previous; server = k.server; session = session }))

-- a first session reply that is the last one
abbrev pub at_once : kept.Greeted → ℕ → SessionSetupReply → Result SetUp MountFault
at_once k session x =
    if is_guest x.session_flags then Ok (Authenticated (record { path = k.path; server = k.server; session = session })) else Err NotGuest

-- the first SESSION_SETUP: MORE_PROCESSING_REQUIRED is a challenge, success the end
abbrev pub SetUpEnds : kept.Greeted → Result Head HeadFault → List ℕ → Result SetUp MountFault → Type 0
SetUpEnds k (Err fault) part result = ⊥
SetUpEnds k (Ok head) part result =
    MatchBool (head.status.0 == 0xC0000016)
    (Decides (ReadsSession part) (by_body (challenged k head.session)) result)
    (MatchBool (head.status.0 == 0)
    (Decides (ReadsSession part) (by_body (at_once k head.session)) result)
    (Fails (Refuses part (Session head.status)) result))

-- the last session reply after a challenge: the session stays that of the challenge
abbrev pub answered : kept.Challenge → SessionSetupReply → Result kept.Session MountFault
answered k x =
    if is_guest x.session_flags then Ok (record { path = k.path; server = k.server; session = k.session }) else Err NotGuest

-- a further challenge is a refusal
abbrev pub challenged_again : Status → SessionSetupReply → Result kept.Session MountFault
challenged_again status x = Err (Session status)

-- the second SESSION_SETUP: every other status than success is a refusal, and MORE_PROCESSING_REQUIRED has the body of a session reply
abbrev pub SessionEnds : kept.Challenge → Result Head HeadFault → List ℕ → Result kept.Session MountFault → Type 0
SessionEnds k (Err fault) part result = ⊥
SessionEnds k (Ok head) part result =
    MatchBool (head.status.0 == 0)
    (Decides (ReadsSession part) (by_body (answered k)) result)
    (MatchBool (head.status.0 == 0xC0000016)
    (Decides (ReadsSession part) (by_body (challenged_again head.status)) result)
    (Fails (Refuses part (Session head.status)) result))

-- TREE_CONNECT: a disk, whose tree has the id of this reply's header
abbrev pub joined : kept.Session → Route → TreeConnectReply → Result Facts MountFault
joined k route x =
    if x.share_type == 1 then
    Ok (record {
      session = k.session;
      tree = tree_of route;
      caps = k.server.caps;
      max_transact = k.server.max_transact;
      max_read = k.server.max_read;
      max_write = k.server.max_write;
      guid = k.server.guid;
    })
    else Err (NotDisk x.share_type)

abbrev pub TreeEnds : kept.Session → Result Head HeadFault → List ℕ → Result Facts MountFault → Type 0
TreeEnds k (Err fault) part result = ⊥
TreeEnds k (Ok head) part result =
    MatchBool (head.status.0 == 0)
    (Decides (ReadsTree part) (by_body (joined k head.route)) result)
    (Fails (Refuses part (Tree head.status)) result)
