-- What a request in flight asks for, and what its reply can be and leaves of the others.
use Rattle.std.specs.Prelude.{◌≡◌, ◌==◌, Bool, false, ◌&&◌, if◌then◌else◌, List, map, Option, Some, None, is_some, is_none}
use Rattle.share_state.specs.declared.connection.LastCreate.{LastCreate}
use Rattle.share_state.specs.declared.connection.Sent.{Sent}
use Rattle.share_state.specs.declared.request.Rep.{Rep}
use Rattle.share_state.specs.declared.request.Req.{Req}
use Rattle.share_state.specs.Sent.{behind_create, sent_but}
use Rattle.fs_plain.specs.Masked.{Untold, untold}
use Rattle.fs_plain.specs.Requests.{WireRequest, wire_request}
use Rattle.fs_plain.specs.World.{resolved, refused_before, is_creating, came_to}
use Rattle.fs_plain.specs.Paired.{open_given}

-- it is a CREATE
abbrev pub creates_as : Option WireRequest → Bool
creates_as None = false
creates_as (Some WireRequest.Aside) = false
creates_as (Some (WireRequest.Share related request)) = is_creating request

abbrev pub creates : Sent → Bool
creates x = creates_as (wire_request x.message)

-- it is related to a CREATE that was refused, and so refused with it
abbrev pub refused_as : Option WireRequest → LastCreate → Bool
refused_as None before = false
refused_as (Some WireRequest.Aside) before = false
refused_as (Some (WireRequest.Share related request)) before = is_some (refused_before related before request)

abbrev pub is_refused : Sent → Bool
is_refused x = refused_as (wire_request x.message) x.last_create

-- it makes this request of the share
abbrev pub AsksAs : Option WireRequest → LastCreate → Req → Type 0
AsksAs None before wanted = ⊥
AsksAs (Some WireRequest.Aside) before wanted = ⊥
AsksAs (Some (WireRequest.Share related request)) before wanted = resolved related before request ≡ wanted

-- and its reply leaves nothing out
abbrev pub Asks : Sent → Req → Type 0
Asks x wanted = AsksAs (wire_request x.message) x.last_create wanted × (untold x.message ≡ Untold.Nothing)

-- a reply can be one to it: it gives an open exactly where a CREATE had success
abbrev pub fits : Sent → Rep → Bool
fits x reply =
    if creates x && reply.status.0 == 0 then is_some (open_given reply.body) else is_none (open_given reply.body)

-- the requests once it has this reply: those behind a CREATE of their frame know what it came to
abbrev pub behind_it : Sent → Rep → Sent → Sent
behind_it x reply y = if creates x then behind_create x.frame (came_to reply reply.body) y else y

abbrev pub left_by : Sent → Rep → List Sent → List Sent
left_by x reply flights =
    if creates x then map (behind_create x.frame (came_to reply reply.body)) (sent_but x.mid flights) else sent_but x.mid flights
