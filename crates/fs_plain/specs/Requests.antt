-- What a message that the client sent asks for.
use Rattle.std.specs.Prelude.{ℕ, ◌==◌, Bool, false, ◌&&◌, ◌||◌, if◌then◌else◌, List, Option, Some, None, is_some, is_ok, bit_and, Result, Ok, Err}
use Rattle.smb_base.specs.declared.names.Key.{Key}
use Rattle.smb_head.specs.declared.command.TheConstants.{NEGOTIATE, SESSION_SETUP, LOGOFF, TREE_CONNECT, TREE_DISCONNECT, CREATE, CLOSE, ECHO, QUERY_INFO}
use Rattle.smb_head.specs.declared.head.Head.{Head}
use Rattle.smb_head.specs.declared.head.HeadFault.{HeadFault}
use Rattle.smb_head.specs.Header.{head_of}
use Rattle.smb_field.specs.declared.field.BodyFault.{BodyFault}
use Rattle.smb_field.specs.Rows.{if_read}
use Rattle.smb_body_a.specs.Empty.{empty_of}
use Rattle.smb_body_a.specs.Negotiate.{negotiate_request_of}
use Rattle.smb_body_a.specs.Session.{session_setup_request_of}
use Rattle.smb_body_a.specs.Tree.{tree_connect_request_of}
use Rattle.smb_body_b.specs.declared.close.CloseRequest.{CloseRequest}
use Rattle.smb_body_b.specs.declared.contexts.ContextSet.{ContextSet}
use Rattle.smb_body_b.specs.Close.{close_request_of}
use Rattle.smb_body_b.specs.Create.{CreateRequestValue, create_request_of}
use Rattle.smb_body_b.specs.Contexts.{read_of}
use Rattle.smb_body_c.specs.declared.info.QueryInfoRequest.{QueryInfoRequest}
use Rattle.smb_body_c.specs.Info.{query_info_request_of}
use Rattle.share_state.specs.declared.request.Req.{Req}
use Rattle.share_state.specs.declared.request.Req.TheVariants as req
use Rattle.share_state.specs.State.{has}
use Rattle.share_state.specs.Built.{is_built}
use Rattle.fs_plain.specs.Wire.{units_in}

-- what is asked: something of the connection itself, as a mount, an ECHO or a leave; or a request to the share, with whether it is
-- related to the CREATE before it in its frame (MS-SMB2 3.3.5.2.7.2)
pub data WireRequest : Type 0 where
  Aside : WireRequest
  Share : Bool → Req → WireRequest

-- a request that the share machine takes
abbrev pub share_request : Bool → Req → Option WireRequest
share_request related request = if is_built request then Some (WireRequest.Share related request) else None

-- the lease that contexts want: its key, and the bits of its state
abbrev pub wanted_lease : Key × ℕ → Key × ℕ
wanted_lease lease = (lease.0, bit_and lease.1 7)

-- the lease that is asked for: the one that the contexts want, where the oplock level asks for a lease (0xFF, MS-SMB2 3.3.5.9.8); at
-- any other level the context says nothing
abbrev pub asked_lease : ℕ → Option (Key × ℕ) → Option (Key × ℕ)
asked_lease level None = None
asked_lease level (Some lease) = if level == 0xFF then Some (wanted_lease lease) else None

-- CREATE (MS-SMB2 2.2.13) with these contexts. A reclaim is another request.
abbrev pub create_with : Bool → CreateRequestValue → Result ContextSet BodyFault → Option WireRequest
create_with related x (Err fault) = None
create_with related x (Ok set) = if is_some set.reclaim then None else share_request related (req.Create (units_in x.name) x.access
    x.share x.disposition x.options x.attributes (asked_lease x.oplock_level set.lease) set.durable)

abbrev pub create_asked : Bool → CreateRequestValue → Option WireRequest
create_asked related x = create_with related x (read_of false x.contexts)

-- CLOSE (MS-SMB2 2.2.15)
abbrev pub close_asked : Bool → CloseRequest → Option WireRequest
close_asked related x = share_request related (req.Close x.file_id)

-- QUERY_INFO (MS-SMB2 2.2.37) of a file, for all that is known of it (class 18) or for FileStandardInformation (class 5), which is the
-- same question and is told less
abbrev pub is_query : QueryInfoRequest → Bool
is_query x = x.info_type == 1 && (x.class == 18 || x.class == 5)

abbrev pub query_asked : Bool → QueryInfoRequest → Option WireRequest
query_asked related x = if is_query x then share_request related (req.Query x.file_id) else None

-- the body of a request of the connection itself, by its command: NEGOTIATE (MS-SMB2 2.2.3), SESSION_SETUP (2.2.5), TREE_CONNECT
-- (2.2.9), or LOGOFF, TREE_DISCONNECT and ECHO, which have none
abbrev pub is_aside : ℕ → List ℕ → Bool
is_aside command message =
    if command == NEGOTIATE then is_ok (negotiate_request_of message)
    else if command == SESSION_SETUP then is_ok (session_setup_request_of message)
    else if command == TREE_CONNECT then is_ok (tree_connect_request_of message)
    else (command == LOGOFF || command == TREE_DISCONNECT || command == ECHO) && is_ok (empty_of message)

-- what is asked by a message of this command
abbrev pub by_command : ℕ → Bool → List ℕ → Option WireRequest
by_command command related message =
    if command == CREATE then if_read (create_request_of message) (create_asked related) None
    else if command == CLOSE then if_read (close_request_of message) (close_asked related) None
    else if command == QUERY_INFO then if_read (query_info_request_of message) (query_asked related) None
    else if is_aside command message then Some WireRequest.Aside
    else None

-- a message with the flag of replies asks for nothing
abbrev pub asked_with : Result Head HeadFault → List ℕ → Option WireRequest
asked_with (Err fault) message = None
asked_with (Ok head) message =
    if has head.flags.0 1 then None else by_command head.command (has head.flags.0 4) message

-- what a message asks for, if it is a request that the share takes
unfoldable pub wire_request : List ℕ → Option WireRequest
wire_request message = asked_with (head_of message) message
