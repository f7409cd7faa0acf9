-- Replies, each as a frame of its own.
use Rattle.std.specs.Prelude.{ℕ, ◌==◌, Bool, true, false, ◌&&◌, nat_le, if◌then◌else◌, List, [], ◌∷◌, length, take, bytes_eq, codes, Result, Ok, Err}
use Rattle.smb_le.specs.Numbers.{number_at}
use Rattle.smb_le.specs.declared.flags.HeadFlags.{HeadFlags}
use Rattle.smb_head.specs.declared.command.TheConstants.{NEGOTIATE, SESSION_SETUP, TREE_CONNECT}
use Rattle.smb_head.specs.declared.head.Head.{Head}
use Rattle.smb_head.specs.declared.head.HeadFault.{HeadFault}
use Rattle.smb_head.specs.declared.head.Route.{Route}
use Rattle.smb_head.specs.declared.head.Route.TheVariants.{Sync, Async}
use Rattle.smb_head.specs.Header.{head_of}
use Rattle.smb_head.specs.Stream.{frame}
use Rattle.smb_chain.specs.Chain.{chain, message as message_of}
use Rattle.share_state.specs.Reply.{of_status}
use Rattle.share_box.specs.declared.bodies.Said.{Said}
use Rattle.share_box.specs.declared.bodies.Said.TheVariants as said
use Rattle.smb_field.specs.Rows.{if_read}
use Rattle.smb_body_a.specs.Session.{session_setup_request_of}
use Rattle.fs_plain.specs.Masked.{untold}
use Rattle.share_box.specs.Bodies.{in_part, body_of, status_of}

-- a token is NTLM's message of type 1 (MS-NLMP 2.2.1.1)
abbrev pub is_first_message : List ℕ → Bool
is_first_message token =
    nat_le 12 (length token) && bytes_eq (take 8 token) (codes "NTLMSSP\0") && number_at 4 8 token == 1

-- a SESSION_SETUP request has such a token
abbrev pub begins_session : List ℕ → Bool
begins_session message = if_read (session_setup_request_of message) (λ x. is_first_message x.buffer) false

-- the first message of a session is answered by a challenge
unfoldable pub said_session : List ℕ → Said
said_session message = if begins_session message then said.Challenge else said.Session

-- what the reply says to a request that changes nothing on the share
abbrev pub said_aside : ℕ → List ℕ → Said
said_aside command message =
    if command == NEGOTIATE then said.Negotiated
    else if command == SESSION_SETUP then said_session message
    else if command == TREE_CONNECT then said.Tree
    else said.Done

-- the session of a reply: the one that it makes, or that of the request
abbrev pub session_of : Head → ℕ
session_of head = if head.command == SESSION_SETUP then 1 else head.session

abbrev pub tree_in : Route → ℕ
tree_in (Sync tree) = tree
tree_in (Async id) = 0

-- its tree: the one that it connects, or that of the request
abbrev pub tree_of : Head → ℕ
tree_of head = if head.command == TREE_CONNECT then 1 else tree_in head.route

-- its way: after an interim reply, and for that one itself, it is an asynchronous one, under the id of its message
abbrev pub route_of : Head → Bool → Route
route_of head pended = if pended then Async head.mid.0 else Sync (tree_of head)

-- its flags: that of replies, and that of asynchronous ones
abbrev pub flags_of : Bool → HeadFlags
flags_of pended = if pended then record { 0 = 3 } else record { 0 = 1 }

-- its header
abbrev pub reply_head : Head → ℕ → Bool → Said → Head
reply_head head credits pended what = record {
  charge = head.charge;
  status = status_of what;
  command = head.command;
  credits = credits;
  flags = flags_of pended;
  next = 0;
  mid = head.mid;
  route = route_of head pended;
  session = session_of head;
}

abbrev pub reply_under : Result Head HeadFault → Bool → ℕ → Bool → Said → List ℕ
reply_under (Err fault) part credits pended what = []
reply_under (Ok head) part credits pended what = frame (chain (message_of (reply_head head credits pended what) (body_of part what) ∷ []))

-- the frame of the reply to a message, which has a header and may have been put off: it tells what the message asked to be told
unfoldable pub reply_of : ℕ → Bool → List ℕ → Said → List ℕ
reply_of credits pended message what = reply_under (head_of message) (in_part (untold message)) credits pended what

-- that a request was put off: STATUS_PENDING
abbrev pub pending : Said
pending = said.Share (of_status 0x103)

-- the interim reply to a message (MS-SMB2 3.3.4.2), which grants nothing
abbrev pub interim_of : List ℕ → List ℕ
interim_of message = reply_of 0 true message pending
