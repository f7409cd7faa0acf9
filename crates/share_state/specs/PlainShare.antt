-- The share as a client without leases, durable opens and connections sees it.
use Rattle.std.specs.Prelude.{true, false, [], map, Some, None}
use Rattle.share_state.specs.declared.wanted.Wanted.{Wanted}
use Rattle.share_state.specs.declared.opens.Open.{Open}
use Rattle.share_state.specs.declared.request.Who.{Who}
use Rattle.share_state.specs.declared.request.Rep.{Rep}
use Rattle.share_state.specs.declared.request.RepBody.{RepBody}
use Rattle.share_state.specs.declared.request.RepBody.TheVariants as body
use Rattle.share_state.specs.declared.request.Req.{Req}
use Rattle.share_state.specs.declared.request.Req.TheVariants as req
use Rattle.share_state.specs.declared.share.Share.{Share}
use Rattle.share_state.specs.Reply.{fid_of}
use Rattle.share_state.specs.Step.{step_of}

-- an open without key and durability, always connected
abbrev pub plain_open : Open → Open
plain_open o = record o { key = None; durable = false; connected = true }

-- the share without leases, and without a connection
abbrev pub plain_share : Share → Share
plain_share s = record s { opens = map plain_open s.opens; leases = []; connected = false; sent = []; owed = []; held = []; grants = [] }

-- what a Create wants, without a lease and a durable open
abbrev pub plain_wanted : Wanted → Wanted
plain_wanted w = record w { lease = None; durable = false }

-- a request without the wish for a lease or a durable open
abbrev pub plain_request : Req → Req
plain_request (req.Create path access share disposition options attributes lease durable) =
    req.Create path access share disposition options attributes None false
plain_request r = r

-- one request on the plain share
abbrev pub plain_step : Share → Who → Req → Rep × Share
plain_step s who r = step_of (Some (record { lease = 0; durable = false })) s who (plain_request r)

-- what of a reply does not hang on file ids, leases and durable opens
abbrev pub shown_body : RepBody → RepBody
shown_body (body.Opened fid action size attributes lease durable) = body.Opened (fid_of 0) action size attributes 0 false
shown_body b = b

abbrev pub shown : Rep → Rep
shown r = record r { body = shown_body r.body }
