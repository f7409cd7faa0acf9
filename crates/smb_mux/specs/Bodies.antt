-- The bodies of replies (MS-SMB2 2.2), each counted from the header of its message: what is wrong with one, if anything is.
use Rattle.std.specs.Prelude.{ℕ, ◌+◌, ◌==◌, Bool, true, false, ◌&&◌, ◌||◌, if◌then◌else◌, List, slice_index, slice_range, Option, Some, None, Result, Ok, Err}
use Rattle.smb_le.specs.Numbers.{number_at}
use Rattle.smb_head.specs.declared.command.TheConstants.{NEGOTIATE, SESSION_SETUP, LOGOFF, TREE_CONNECT, TREE_DISCONNECT, CREATE, CLOSE, FLUSH, READ, WRITE, LOCK, ECHO, QUERY_DIRECTORY, QUERY_INFO, SET_INFO, OPLOCK_BREAK}
use Rattle.smb_field.specs.declared.field.BodyFault.{BodyFault}
use Rattle.smb_field.specs.declared.field.BodyFault.TheVariants.{Value}
use Rattle.smb_field.specs.Faults.{strays, fault_of, error_fault}
use Rattle.smb_body_b.specs.declared.contexts.ContextSet.{ContextSet}
use Rattle.smb_body_b.specs.Contexts.{read_of}

-- NEGOTIATE (2.2.4) with its token, SESSION_SETUP (2.2.6) with its token
abbrev pub negotiate_fault : List ℕ → Option BodyFault
negotiate_fault message = fault_of 65 (strays 128 (number_at 2 120 message) (number_at 2 122 message) message) message

abbrev pub session_fault : List ℕ → Option BodyFault
session_fault message = fault_of 9 (strays 72 (number_at 2 68 message) (number_at 2 70 message) message) message

-- READ (2.2.20) with its bytes, QUERY_DIRECTORY and QUERY_INFO (2.2.34 and 2.2.38) with their buffers
abbrev pub read_fault : List ℕ → Option BodyFault
read_fault message = fault_of 17 (strays 80 (slice_index message 66) (number_at 4 68 message) message) message

abbrev pub buffer_fault : List ℕ → Option BodyFault
buffer_fault message = fault_of 9 (strays 72 (number_at 2 66 message) (number_at 4 68 message) message) message

-- CREATE (2.2.14) with its contexts, which have to be a list of contexts
abbrev pub contexts_fault : Result ContextSet BodyFault → Option BodyFault
contexts_fault (Ok set) = None
contexts_fault (Err fault) = Some fault

abbrev pub first_fault : Option BodyFault → Option BodyFault → Option BodyFault
first_fault None next = next
first_fault (Some fault) next = Some fault

abbrev pub contexts_of : List ℕ → List ℕ
contexts_of message = slice_range message (number_at 4 144 message) (number_at 4 144 message + number_at 4 148 message)

abbrev pub create_fault : List ℕ → Option BodyFault
create_fault message =
    first_fault (fault_of 89 (strays 152 (number_at 4 144 message) (number_at 4 148 message) message) message)
    (contexts_fault (read_of true (contexts_of message)))

-- the reply of success to a request of the connection: NEGOTIATE, SESSION_SETUP, TREE_CONNECT (2.2.10); no other is known
abbrev pub connection_fault : ℕ → List ℕ → Option BodyFault
connection_fault command message =
    if command == NEGOTIATE then negotiate_fault message
    else (if command == SESSION_SETUP then session_fault message else (if command == TREE_CONNECT then fault_of 16 false message else Some Value))

-- to one that moves bytes or entries of a directory, or asks for information: READ, WRITE (2.2.22), QUERY_DIRECTORY, QUERY_INFO,
-- SET_INFO (2.2.40), and the acknowledgement of a broken lease (2.2.25.2)
abbrev pub content_fault : ℕ → List ℕ → Option BodyFault
content_fault command message =
    if command == READ then read_fault message
    else (if command == WRITE then fault_of 17 false message
    else (if command == QUERY_DIRECTORY || command == QUERY_INFO then buffer_fault message
    else (if command == SET_INFO then fault_of 2 false message
    else (if command == OPLOCK_BREAK then fault_of 36 false message else connection_fault command message))))

-- LOGOFF, TREE_DISCONNECT, FLUSH, LOCK and ECHO are answered alike, with no field
abbrev pub is_empty_reply : ℕ → Bool
is_empty_reply command =
    command == LOGOFF || command == TREE_DISCONNECT || command == FLUSH || command == LOCK || command == ECHO

-- the reply of success to a request of this command
abbrev pub done_fault : ℕ → List ℕ → Option BodyFault
done_fault command message =
    if command == CREATE then create_fault message
    else (if command == CLOSE then fault_of 60 false message
    else (if is_empty_reply command then fault_of 4 false message else content_fault command message))

-- a reply of this status has the body of its command: success, a query that knows more than was asked for (BUFFER_OVERFLOW), a session
-- that needs one more message (MORE_PROCESSING_REQUIRED)
abbrev pub is_done : ℕ → ℕ → Bool
is_done status command =
    status == 0 || (status == 0x80000005 && command == QUERY_INFO) || (status == 0xC0000016 && command == SESSION_SETUP)

-- every other status has the error body
abbrev pub reply_fault : ℕ → ℕ → List ℕ → Option BodyFault
reply_fault status command message = if is_done status command then done_fault command message else error_fault message
