-- How far a mount has come by the exchanges of its connection, and what it asks next (MS-SMB2 3.2.4.2).
use Rattle.std.specs.Prelude.{◌≡◌, ℕ, List, [], ◌∷◌, Option, Some, None, Ok}
use Rattle.smb_head.specs.declared.request.Request.{Request}
use Rattle.smb_head.specs.Header.{head_of}
use Rattle.smb_mount.specs.declared.facts.Facts.{Facts}
use Rattle.smb_mount.specs.declared.states.SetUp.TheVariants.{Challenged, Authenticated}
use Rattle.smb_mount.specs.Kept as kept
use Rattle.smb_mount.specs.Tokens.{negotiate_token, authenticate_token}
use Rattle.smb_mount.specs.Requests.{negotiate, session_setup, tree_connect}
use Rattle.smb_mount.specs.Verdicts.{NegotiateEnds, SetUpEnds, SessionEnds, TreeEnds}
use Rattle.fs_client.specs.View.{Setting, Exchange, Client}

-- nothing was asked; the dialect is agreed; the server wants one more message; the session stands; the share is mounted
pub data Stage : Type 0 where
  Unmounted : kept.Start → Stage
  Agreed : kept.Greeted → Stage
  Challenging : kept.Challenge → Stage
  InSession : kept.Session → Stage
  Mounted : Facts → Stage

-- a reply leads from one stage to another; once the share is mounted, no reply does
abbrev pub Leads : Stage → List ℕ → Stage → Type 0
Leads (Unmounted k) reply (Agreed next) = NegotiateEnds k (head_of reply) reply (Ok next)
Leads (Agreed k) reply (Challenging next) = SetUpEnds k (head_of reply) reply (Ok (Challenged next))
Leads (Agreed k) reply (InSession next) = SetUpEnds k (head_of reply) reply (Ok (Authenticated next))
Leads (Challenging k) reply (InSession next) = SessionEnds k (head_of reply) reply (Ok next)
Leads (InSession k) reply (Mounted facts) = TreeEnds k (head_of reply) reply (Ok facts)
Leads (Mounted facts) reply (Mounted next) = facts ≡ next
Leads stage reply other = ⊥

-- exchanges lead from one stage to another
abbrev pub LeadTo : Stage → List Exchange → Stage → Type 0
LeadTo stage [] end = stage ≡ end
LeadTo stage (x ∷ exchanges) end = (next : Stage) × Leads stage x.reply next × LeadTo next exchanges end

-- a mount begins with the client's id and the path of the share; no session was before
abbrev pub at_first : Setting → Stage
at_first s = Unmounted (record { guid = s.guid; path = s.path; previous = 0 })

-- the mount of this connection has come to a stage
abbrev pub HasCome : Setting → Client → Stage → Type 0
HasCome s c stage = LeadTo (at_first s) c.tally.exchanges stage

-- what a stage asks
abbrev pub asked_at : Stage → Option Request
asked_at (Unmounted k) = Some (negotiate k.guid)
asked_at (Agreed k) = Some (session_setup k.server.caps 0 k.previous negotiate_token)
asked_at (Challenging k) = Some (session_setup k.server.caps k.session k.previous authenticate_token)
asked_at (InSession k) = Some (tree_connect k.server.caps k.session k.path)
asked_at (Mounted facts) = None
