-- What the replies of a box pay.
use Rattle.std.specs.Prelude.{◌≡◌, ◌≤◌, ◌==◌, ℕ, Bool, true, false, not, ◌&&◌, is_none, List, [], ◌∷◌, ◌++◌, length, Option, Some, None, Result, Ok, Err}
use Rattle.std.specs.List.{AllByRecursion}
use Rattle.smb_head.specs.declared.first.TheConstants.{MAX_FRAME}
use Rattle.smb_head.specs.declared.head.Head.{Head}
use Rattle.smb_head.specs.declared.head.HeadFault.{HeadFault}
use Rattle.smb_head.specs.Header.{head_of, header}
use Rattle.smb_head.specs.Stream.{frame}
use Rattle.smb_chain.specs.Parts.{parts_of}
use Rattle.share_state.specs.declared.connection.LastCreate.{LastCreate}
use Rattle.share_state.specs.declared.connection.LastCreate.TheVariants as last
use Rattle.share_state.specs.declared.connection.Owed.{Owed}
use Rattle.share_state.specs.declared.connection.Owed.TheVariants as owed
use Rattle.share_state.specs.declared.connection.Sent.{Sent}
use Rattle.share_state.specs.declared.request.RepBody.{RepBody}
use Rattle.share_state.specs.declared.request.RepBody.TheVariants as body
use Rattle.share_state.specs.Reply.{of_status}
use Rattle.fs_plain.specs.Requests.{wire_request}
use Rattle.fs_plain.specs.Replies.{Pays}
use Rattle.fs_plain.specs.World.{mid_of}
use Rattle.share_box.specs.declared.bodies.Said.{Said}
use Rattle.share_box.specs.declared.bodies.Said.TheVariants as said
use Rattle.share_box.specs.declared.serving.Plan.{Plan}
use Rattle.share_box.specs.declared.serving.Plan.TheVariants as plan
use Rattle.share_box.specs.declared.state.State.{State}
use Rattle.share_box.specs.Bodies.{body_of}
use Rattle.share_box.specs.Answers.{reply_head, reply_of, interim_of}
use Rattle.share_box.specs.Again.{IsBodyAgain}
use Rattle.share_box.specs.Serving.{done_by}

-- bytes are one frame of one message, which pays what is owed
pub record IsPayment (o : Owed) (bytes : List ℕ) : Type 0 where
  pub message : List ℕ
  pub framed : bytes ≡ frame message
  pub alone : parts_of message ≡ Ok message ∷ []
  pub fits : (64 ≤ length message) × (length message ≤ MAX_FRAME)
  pub pays : Pays o message

-- what is owed for a request that was taken, by what was to be done for it and what the reply says
abbrev pub owed_for : Plan → Sent → Said → Owed
owed_for plan.Aside one what = owed.Aside one.mid one.message
owed_for (plan.Refuse status) one what = owed.Reply one.mid one.message (of_status status.0)
owed_for (plan.Do r) one (said.Share reply) = owed.Reply one.mid one.message reply
owed_for (plan.Do r) one other = owed.Aside one.mid one.message

-- a status with which a CREATE is refused: it is neither that of success nor BUFFER_OVERFLOW, which a query that was done may have,
-- nor PENDING, which only an interim reply has
abbrev pub is_refusal : ℕ → Bool
is_refusal status = not (status == 0) && not (status == 0x80000005) && not (status == 0x103)

-- what the last CREATE before a request came to: it was refused only with such a status
abbrev pub is_outcome : LastCreate → Bool
is_outcome (last.Refused status) = is_refusal status.0
is_outcome other = true

-- a request waits under the id in its message, and knows of the last CREATE before it what one can come to
pub record IsProper (one : Sent) : Type 0 where
  pub own : one.mid ≡ mid_of one.message
  pub outcome : is_outcome one.last_create ≡ true

-- each of these waits so
abbrev pub AreProper : List Sent → Type 0
AreProper sent = AllByRecursion IsProper sent

-- a reply has neither a lease nor a durable open to grant
abbrev pub GrantsNothing : RepBody → Type 0
GrantsNothing (body.Opened fid action size attributes lease durable) = (lease ≡ 0) × (durable ≡ false)
GrantsNothing other = Unit {0}

-- bytes are the frame of one message with this header, which is read again, and with the body of what it says, which is read again
pub record IsReply (head : Head) (part : Bool) (what : Said) (bytes : List ℕ) : Type 0 where
  pub framed : bytes ≡ frame (header head ++ body_of part what)
  pub alone : parts_of (header head ++ body_of part what) ≡ Ok (header head ++ body_of part what) ∷ []
  pub small : length (header head ++ body_of part what) ≤ MAX_FRAME
  pub read : head_of (header head ++ body_of part what) ≡ Ok head
  pub again : IsBodyAgain part what

-- the reply to a message, which has a header
abbrev pub IsReplyTo : Result Head HeadFault → Bool → ℕ → Bool → Said → List ℕ → Type 0
IsReplyTo (Err fault) part credits pended what bytes = Unit {0}
IsReplyTo (Ok head) part credits pended what bytes = IsReply (reply_head head credits pended what) part what bytes

-- the reply to a request, with what is to be done for it, pays what is owed
abbrev pub PaysAs : Option Plan → Sent → State → Type 0
PaysAs None one b = Unit {0}
PaysAs (Some p) one b =
    IsProper one → IsPayment (owed_for p one (done_by p one b.share).0) (reply_of b.credits one.pended one.message (done_by p one b.share).0)

-- the interim reply to a request that was found, and had none before, pays what is owed once it is put off
abbrev pub PaysInterim : Option Sent → Type 0
PaysInterim None = Unit {0}
PaysInterim (Some one) =
    one.pended ≡ false → is_none (wire_request one.message) ≡ false → IsProper one
    → IsPayment (owed.Interim one.mid one.message) (interim_of one.message)
