-- What a request that waits comes to (MS-SMB2 3.3.5.2).
use Rattle.std.specs.Prelude.{ℕ, ◌==◌, Bool, ◌&&◌, true, false, List, length, slice_get, Option, Some, None, Result, Ok, Err}
use Rattle.smb_base.specs.declared.names.Mid.{Mid}
use Rattle.smb_head.specs.declared.head.Head.{Head}
use Rattle.smb_head.specs.declared.head.HeadFault.{HeadFault}
use Rattle.smb_head.specs.Header.{head_of}
use Rattle.share_state.specs.declared.connection.LastCreate.{LastCreate}
use Rattle.share_state.specs.declared.connection.Sent.{Sent}
use Rattle.share_state.specs.declared.request.Who.{Who}
use Rattle.share_state.specs.declared.request.Rep.{Rep}
use Rattle.share_state.specs.declared.request.Req.{Req}
use Rattle.share_state.specs.declared.share.Share.{Share}
use Rattle.share_state.specs.Breaks.{needs_of}
use Rattle.share_state.specs.Built.{is_built}
use Rattle.share_state.specs.Reply.{of_status}
use Rattle.share_state.specs.Sent.{sent_with}
use Rattle.share_state.specs.Step.{step_of}
use Rattle.fs_plain.specs.Requests.{WireRequest, wire_request}
use Rattle.fs_plain.specs.World.{us, is_first_of_frame, resolved, refused_before, after_create}
use Rattle.share_box.specs.declared.bodies.Said.{Said}
use Rattle.share_box.specs.declared.bodies.Said.TheVariants as said
use Rattle.share_box.specs.declared.serving.Plan.{Plan}
use Rattle.share_box.specs.declared.serving.Plan.TheVariants as plan
use Rattle.share_box.specs.Order.{waiting_ids}
use Rattle.share_box.specs.Answers.{said_aside}

-- a request of the share is done, unless the CREATE before it refuses it
abbrev pub plan_by : Option ℕ → Req → Plan
plan_by None r = plan.Do r
plan_by (Some status) r = plan.Refuse (record { 0 = status })

abbrev pub planned : LastCreate → Option WireRequest → Option Plan
planned before None = None
planned before (Some WireRequest.Aside) = Some plan.Aside
planned before (Some (WireRequest.Share related r)) = Some (plan_by (refused_before related before r) (resolved related before r))

-- what is to be done for a message that waits
unfoldable pub plan_of : Sent → Option Plan
plan_of one = planned one.last_create (wire_request one.message)

-- the share takes what is to be done
abbrev pub is_doable : Plan → Bool
is_doable plan.Aside = true
is_doable (plan.Refuse status) = true
is_doable (plan.Do r) = is_built r

-- no break stands against a request
abbrev pub is_free : Share → Who → Req → Bool
is_free s who r = length (needs_of s who r) == 0

abbrev pub plan_is_free : Share → Plan → Bool
plan_is_free s plan.Aside = true
plan_is_free s (plan.Refuse status) = true
plan_is_free s (plan.Do r) = is_free s us r

abbrev pub can_do : Share → Option Plan → Bool
can_do s None = false
can_do s (Some p) = plan_is_free s p

-- a request that was found can be served: it is the first of its frame, and what it asks for can be done
abbrev pub can_take : Option Sent → Share → Bool
can_take None s = false
can_take (Some one) s = is_first_of_frame s.sent one && can_do s (plan_of one)

abbrev pub can_serve : Option Mid → Share → Bool
can_serve None s = false
can_serve (Some mid) s = can_take (sent_with mid s.sent) s

-- the request with this number, of those that may be served, can be served
unfoldable pub is_servable : Share → ℕ → Bool
is_servable s n = can_serve (slice_get (waiting_ids s.sent) n) s

-- what the reply says to a request of the connection itself
abbrev pub said_under : Result Head HeadFault → List ℕ → Said
said_under (Err fault) message = said.Done
said_under (Ok head) message = said_aside head.command message

-- a request of the client on the share: what the reply says, and the share after it, where the requests behind a CREATE know what it
-- came to
abbrev pub stepped : Mid → Req → Rep × Share → Said × Share
stepped frame r done = (said.Share done.0, record done.1 { sent = after_create r frame done.0 done.1.sent })

-- what is done for a message, given what is to be done
abbrev pub done_by : Plan → Sent → Share → Said × Share
done_by plan.Aside one s = (said_under (head_of one.message) one.message, s)
done_by (plan.Refuse status) one s = (said.Share (of_status status.0), s)
done_by (plan.Do r) one s = stepped one.frame r (step_of None s us r)
