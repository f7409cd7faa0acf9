-- What a message that the client got says of its request.
use Rattle.std.specs.Prelude.{◌≡◌, ℕ, ◌^◌, ◌-◌, ◌==◌, Bool, true, false, not, ◌&&◌, ◌||◌, if◌then◌else◌, List, Option, Some, None, is_ok, bit_and, Result, Ok, Err}
use Rattle.std.specs.Result.{IsOkAnd}
use Rattle.smb_base.specs.declared.names.Key.{Key}
use Rattle.smb_base.specs.declared.names.Mid.{Mid}
use Rattle.smb_le.specs.Numbers.{number_at}
use Rattle.smb_head.specs.declared.command.TheConstants.{NEGOTIATE, SESSION_SETUP, TREE_CONNECT, CREATE, CLOSE, QUERY_INFO, OPLOCK_BREAK}
use Rattle.smb_head.specs.declared.head.Head.{Head}
use Rattle.smb_head.specs.declared.head.HeadFault.{HeadFault}
use Rattle.smb_head.specs.Header.{head_of, is_reply, is_interim}
use Rattle.smb_field.specs.declared.field.BodyFault.{BodyFault}
use Rattle.smb_field.specs.Rows.{if_read}
use Rattle.smb_body_a.specs.Empty.{empty_of}
use Rattle.smb_body_a.specs.Negotiate.{negotiate_reply_of}
use Rattle.smb_body_a.specs.Session.{session_setup_reply_of}
use Rattle.smb_body_a.specs.Tree.{tree_connect_reply_of}
use Rattle.smb_body_b.specs.declared.contexts.ContextSet.{ContextSet}
use Rattle.smb_body_b.specs.Close.{close_reply_of}
use Rattle.smb_body_b.specs.Create.{CreateReplyValue, create_reply_of}
use Rattle.smb_body_b.specs.Contexts.{read_of}
use Rattle.smb_body_c.specs.declared.lease.LeaseBreak.{LeaseBreak}
use Rattle.smb_body_c.specs.Directory.{buffer_reply_of}
use Rattle.smb_body_c.specs.Error.{error_reply_of}
use Rattle.smb_body_c.specs.Lease.{lease_break_of}
use Rattle.smb_info.specs.declared.attributes.All.{All}
use Rattle.smb_info.specs.declared.attributes.Standard.{Standard}
use Rattle.smb_info.specs.Attributes.{all_of, standard_of}
use Rattle.share_state.specs.declared.connection.Owed.{Owed}
use Rattle.share_state.specs.declared.connection.Owed.TheVariants as owed
use Rattle.share_state.specs.declared.request.Rep.{Rep}
use Rattle.share_state.specs.declared.request.RepBody.{RepBody}
use Rattle.share_state.specs.declared.request.RepBody.TheVariants as body
use Rattle.share_state.specs.State.{has}
use Rattle.fs_plain.specs.Masked.{Untold, NumberAndMark, untold, without, masked}

-- the command of a request
abbrev pub command_of : List ℕ → ℕ
command_of request = number_at 2 12 request

-- a reply to this request, by its id: it has the flag of replies and the request's command
abbrev pub answers : Mid → List ℕ → Head → Bool
answers mid request head = is_reply head && head.mid.0 == mid.0 && head.command == command_of request

-- the error body (MS-SMB2 2.2.2)
abbrev pub is_error : List ℕ → Bool
is_error message = is_ok (error_reply_of message)

-- the lease state that contexts grant, where the oplock level says that there is a lease
abbrev pub granted_state : ℕ → Option (Key × ℕ) → ℕ
granted_state level None = 0
granted_state level (Some lease) = if level == 0xFF then bit_and lease.1 7 else 0

-- the CREATE reply (MS-SMB2 2.2.14) with these contexts, to a request that is told so much
abbrev pub opened_with : Untold → CreateReplyValue → Result ContextSet BodyFault → Option RepBody
opened_with u x (Err fault) = None
opened_with u x (Ok set) = Some (without u (body.Opened x.file_id x.action x.end_of_file x.attributes
    (granted_state x.oplock_level set.lease) set.durable))

abbrev pub opened_in : Untold → List ℕ → Option RepBody
opened_in u message = if_read (create_reply_of message) (λ x. opened_with u x (read_of true x.contexts)) None

-- the CLOSE reply (MS-SMB2 2.2.16)
abbrev pub closed_in : List ℕ → Option RepBody
closed_in message = if_read (close_reply_of message) (λ x. Some body.None) None

-- all that is known of a file (MS-FSCC 2.4.2)
abbrev pub known_whole : All → RepBody
known_whole x = body.Info (not (x.standard.directory == 0)) x.standard.end_of_file (has x.basic.attributes 1) x.standard.links
    (not (x.standard.delete_pending == 0)) x.internal.number

-- what FileStandardInformation has of it (MS-FSCC 2.4.41)
abbrev pub known_in_part : Standard → RepBody
known_in_part x =
    body.Info (not (x.directory == 0)) x.end_of_file false x.links (not (x.delete_pending == 0)) 0

-- the information that a query is answered with
abbrev pub info_of : Untold → List ℕ → Option RepBody
info_of NumberAndMark info = if_read (standard_of info) (λ x. Some (known_in_part x)) None
info_of u info = if_read (all_of info) (λ x. Some (known_whole x)) None

-- the QUERY_INFO reply (MS-SMB2 2.2.38)
abbrev pub info_in : Untold → List ℕ → Option RepBody
info_in u message = if_read (buffer_reply_of message) (info_of u) None

-- the body of a reply of success, by the command of its request and what it leaves out
abbrev pub body_in : Untold → ℕ → List ℕ → Option RepBody
body_in u command message =
    if command == CREATE then opened_in u message
    else if command == CLOSE then closed_in message
    else if command == QUERY_INFO then info_in u message
    else None

-- a reply of this status, with the body that there is
abbrev pub reply_of : ℕ → Option RepBody → Option Rep
reply_of status None = None
reply_of status (Some b) = Some (record { status = record { 0 = status }; body = b })

-- the status of a success; that of a query for all that is known stands also where more is known than there was room for
-- (BUFFER_OVERFLOW)
abbrev pub is_success : Untold → ℕ → ℕ → Bool
is_success NumberAndMark status command = status == 0
is_success u status command = status == 0 || (status == 0x80000005 && command == QUERY_INFO)

-- a reply of success has the body of its command, and every other one the error body
abbrev pub reply_by_status : Untold → ℕ → ℕ → List ℕ → Option Rep
reply_by_status u status command message =
    if is_success u status command then reply_of 0 (body_in u command message)
    else if is_error message then reply_of status (Some body.None)
    else None

abbrev pub reply_with : Result Head HeadFault → Mid → List ℕ → List ℕ → Option Rep
reply_with (Err fault) mid request message = None
reply_with (Ok head) mid request message =
    if answers mid request head && not (is_interim head)
    then reply_by_status (untold request) head.status.0 (command_of request) message
    else None

-- the final reply to a request that a message is, if it is one
unfoldable pub reply_in : Mid → List ℕ → List ℕ → Option Rep
reply_in mid request message = reply_with (head_of message) mid request message

abbrev pub interim_with : Result Head HeadFault → Mid → List ℕ → List ℕ → Bool
interim_with (Err fault) mid request message = false
interim_with (Ok head) mid request message = answers mid request head && is_interim head && is_error message

-- a message is an interim reply to this request
unfoldable pub is_interim_of : Mid → List ℕ → List ℕ → Bool
is_interim_of mid request message = interim_with (head_of message) mid request message

-- the body of a reply of success to a request of the connection itself: NEGOTIATE (MS-SMB2 2.2.4), SESSION_SETUP (2.2.6),
-- TREE_CONNECT (2.2.10), or none
abbrev pub has_aside_body : ℕ → List ℕ → Bool
has_aside_body command message =
    if command == NEGOTIATE then is_ok (negotiate_reply_of message)
    else if command == SESSION_SETUP then is_ok (session_setup_reply_of message)
    else if command == TREE_CONNECT then is_ok (tree_connect_reply_of message)
    else is_ok (empty_of message)

-- a reply to such a request may have any status; SESSION_SETUP has its own body also with MORE_PROCESSING_REQUIRED
abbrev pub is_aside_by_status : ℕ → ℕ → List ℕ → Bool
is_aside_by_status status command message =
    if status == 0 || (status == 0xC0000016 && command == SESSION_SETUP) then has_aside_body command message else is_error message

abbrev pub aside_with : Result Head HeadFault → Mid → List ℕ → List ℕ → Bool
aside_with (Err fault) mid request message = false
aside_with (Ok head) mid request message =
    answers mid request head && not (is_interim head) && is_aside_by_status head.status.0 (command_of request) message

-- a message is the reply to this request of the connection itself
unfoldable pub is_aside_reply : Mid → List ℕ → List ℕ → Bool
is_aside_reply mid request message = aside_with (head_of message) mid request message

-- the body of a notice
abbrev pub IsNoticeBody : Key → ℕ → Bool → LeaseBreak → Type 0
IsNoticeBody key state wanted x = (has x.flags 1 ≡ wanted) × (x.key.0 ≡ key.0) × (bit_and x.new 7 ≡ state)

abbrev pub notice_with : Result Head HeadFault → Key → ℕ → Bool → List ℕ → Type 0
notice_with (Err fault) key state wanted message = ⊥
notice_with (Ok head) key state wanted message =
    (head.command ≡ OPLOCK_BREAK) × (head.status.0 ≡ 0) × (head.mid.0 ≡ 2 ^ 64 - 1) × (has head.flags.0 1 ≡ true)
    × IsOkAnd (lease_break_of message) (IsNoticeBody key state wanted)

-- a message is the notice that a lease is to be broken to a state, and says whether it wants to be acknowledged (MS-SMB2 2.2.23.2)
unfoldable pub IsNotice : Key → ℕ → Bool → List ℕ → Type 0
IsNotice key state wanted message = notice_with (head_of message) key state wanted message

-- a message is what is owed. Of a final reply all that the share decides and that its request is told of has to agree; times,
-- allocation sizes, credits and the ids of session and tree are the server's own.
abbrev pub Pays : Owed → List ℕ → Type 0
Pays (owed.Interim mid request) message = is_interim_of mid request message ≡ true
Pays (owed.Reply mid request reply) message = reply_in mid request message ≡ Some (masked request reply)
Pays (owed.Aside mid request) message = is_aside_reply mid request message ≡ true
Pays (owed.Notice key state wanted) message = IsNotice key state wanted message
