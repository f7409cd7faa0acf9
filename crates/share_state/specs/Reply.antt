-- Replies of the share: one of a status alone, and what a reply shows of an open and its file.
use Rattle.std.specs.Prelude.{ℕ, Bool, false, if◌then◌else◌, Option, Some, None}
use Rattle.smb_base.specs.declared.names.Fid.{Fid}
use Rattle.share_state.specs.declared.granting.Granting.{Granting}
use Rattle.share_state.specs.declared.request.Rep.{Rep}
use Rattle.share_state.specs.declared.request.RepBody.TheVariants as body
use Rattle.share_state.specs.declared.request.Req.{Req}
use Rattle.share_state.specs.declared.request.Req.TheVariants as req
use Rattle.share_state.specs.declared.share.Share.{Share}

-- a reply of this status alone
abbrev pub of_status : ℕ → Rep
of_status status = record { status = record { 0 = status }; body = body.None }

-- a request that is refused: the share stays as it is
abbrev pub refused : ℕ → Share → Rep × Share
refused status s = (of_status status, s)

-- what a request does, unless it is refused
abbrev pub unless : Option ℕ → Share → Rep × Share → Rep × Share
unless None s done = done
unless (Some status) s done = refused status s

-- the file id of an open: its number in both halves
abbrev pub fid_of : ℕ → Fid
fid_of n = record { persistent = n; volatile = n }

-- a request with another file id in place of its own, where it has one
abbrev pub map_fid : (Fid → Fid) → Req → Req
map_fid f (req.Create path access share disposition options attributes lease durable) =
    req.Create path access share disposition options attributes lease durable
map_fid f (req.Close fid) = req.Close (f fid)
map_fid f (req.Query fid) = req.Query (f fid)
map_fid f (req.Flush fid) = req.Flush (f fid)
map_fid f (req.Room fid) = req.Room (f fid)
map_fid f (req.Read fid offset length) = req.Read (f fid) offset length
map_fid f (req.Write fid offset bytes) = req.Write (f fid) offset bytes
map_fid f (req.Lock fid offset length exclusive) = req.Lock (f fid) offset length exclusive
map_fid f (req.Unlock fid offset length) = req.Unlock (f fid) offset length
map_fid f (req.List fid restart room) = req.List (f fid) restart room
map_fid f (req.SetBasic fid attributes) = req.SetBasic (f fid) attributes
map_fid f (req.SetEnd fid size) = req.SetEnd (f fid) size
map_fid f (req.SetPending fid on) = req.SetPending (f fid) on
map_fid f (req.Rename fid replace path) = req.Rename (f fid) replace path
map_fid f (req.LinkTo fid replace path) = req.LinkTo (f fid) replace path
map_fid f (req.Ack key state) = req.Ack key state
map_fid f (req.Reclaim fid key) = req.Reclaim (f fid) key

-- the attributes that a reply shows (MS-FSCC 2.6): DIRECTORY 0x10 and READONLY 1, or NORMAL 0x80 where it has neither
abbrev pub attributes_of : Bool → Bool → ℕ
attributes_of dir read_only = if dir then (if read_only then 0x11 else 0x10) else (if read_only then 1 else 0x80)

-- the reply to a Create that was done and granted so much: the lease state, and whether the open is durable
abbrev pub granted_reply : Granting → ℕ → ℕ → ℕ → ℕ → Rep
granted_reply g number action size attributes =
    record { status = record { 0 = 0 }; body = body.Opened (fid_of number) action size attributes g.state g.durable }

-- the same, where nothing is granted
abbrev pub opened_reply : ℕ → ℕ → ℕ → ℕ → Rep
opened_reply number action size attributes = granted_reply (record { key = None; state = 0; durable = false }) number action size attributes
