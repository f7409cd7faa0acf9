-- One request on the share: its reply, and the share after it.
use Rattle.std.specs.Prelude.{Option}
use Rattle.share_state.specs.declared.connection.Grant.{Grant}
use Rattle.share_state.specs.declared.request.Who.{Who}
use Rattle.share_state.specs.declared.request.Rep.{Rep}
use Rattle.share_state.specs.declared.request.Req.{Req}
use Rattle.share_state.specs.declared.request.Req.TheVariants as req
use Rattle.share_state.specs.declared.share.Share.{Share}
use Rattle.share_state.specs.Create.{create_of}
use Rattle.share_state.specs.Close.{close_of}
use Rattle.share_state.specs.Query.{query_of}
use Rattle.share_state.specs.Data.{read_of, write_of, end_of, flush_of, room_of}
use Rattle.share_state.specs.Locking.{lock_of, unlock_of}
use Rattle.share_state.specs.Marks.{basic_of, mark_of}
use Rattle.share_state.specs.NewNames.{rename_of, link_of}
use Rattle.share_state.specs.Listing.{list_of}
use Rattle.share_state.specs.Reply.{refused}

-- the reply to a client's request and the share after it, where the share chose so, or as much as it may. The acknowledgement of a break
-- and the reclaim of a durable open are refused as NOT_SUPPORTED until there are leases
abbrev pub step_of : Option Grant → Share → Who → Req → Rep × Share
step_of choice s who (req.Create path access share disposition options attributes lease durable) =
    create_of choice s who path (record {
      access = access;
      share = share;
      disposition = disposition;
      options = options;
      attributes = attributes;
      lease = lease;
      durable = durable;
    })
step_of choice s who (req.Close fid) = close_of s who fid
step_of choice s who (req.Query fid) = query_of s who fid
step_of choice s who (req.Flush fid) = flush_of s who fid
step_of choice s who (req.Room fid) = room_of s who fid
step_of choice s who (req.Read fid offset length) = read_of s who fid offset length
step_of choice s who (req.Write fid offset bytes) = write_of s who fid offset bytes
step_of choice s who (req.Lock fid offset length exclusive) = lock_of s who fid offset length exclusive
step_of choice s who (req.Unlock fid offset length) = unlock_of s who fid offset length
step_of choice s who (req.List fid restart room) = list_of s who fid restart room
step_of choice s who (req.SetBasic fid attributes) = basic_of s who fid attributes
step_of choice s who (req.SetEnd fid size) = end_of s who fid size
step_of choice s who (req.SetPending fid on) = mark_of s who fid on
step_of choice s who (req.Rename fid replace path) = rename_of s who fid replace path
step_of choice s who (req.LinkTo fid replace path) = link_of s who fid replace path
step_of choice s who (req.Ack key state) = refused 0xC00000BB s
step_of choice s who (req.Reclaim fid key) = refused 0xC00000BB s
