-- What the messages of the first frame say to a NEGOTIATE request with message id 0 (MS-SMB2 3.2.5.2).
use Rattle.std.specs.Prelude.{◌≡◌, ◌==◌, ◌&&◌, ◌⊎◌, ℕ, List, Bool, if◌then◌else◌, MatchBool, Option, Some, None, Result, Ok, Err, bit_and}
use Rattle.smb_head.specs.declared.command.TheConstants.{NEGOTIATE}
use Rattle.smb_head.specs.declared.head.Head.{Head}
use Rattle.smb_head.specs.declared.head.HeadFault.{HeadFault}
use Rattle.smb_head.specs.Header.{head_of}
use Rattle.smb_chain.specs.Parts.{Step, Only, Then, Bad, step_of}
use Rattle.smb_body_a.specs.declared.negotiate.NegotiateReply.{NegotiateReply}
use Rattle.smb_body_a.specs.Negotiate.{IsNegotiateReply}
use Rattle.smb_body_c.specs.declared.error.ErrorReply.{ErrorReply}
use Rattle.smb_body_c.specs.Error.{IsErrorReply}
use Rattle.fs_top.specs.declared.ping.ending.Ending.{Ending}
use Rattle.fs_top.specs.declared.ping.ending.Ending.TheVariants.{Greeted, Words, Memory, Dialect, Frame, Connects, Cuts}
use Rattle.fs_top.specs.declared.ping.ending.Greeting.{Greeting}
use Rattle.fs_top.specs.declared.ping.ending.FirstFrameFault as kinds
use Rattle.fs_top.specs.declared.ping.ending.FirstFrameFault.TheVariants as kind

-- a head with the reply flag (MS-SMB2 2.2.1.2, SERVER_TO_REDIR)
abbrev pub is_reply : Head → Bool
is_reply head = bit_and head.flags.0 1 == 1

-- what the server says of itself
abbrev pub greeting_of : NegotiateReply → Greeting
greeting_of x = record { caps = x.capabilities; transact = x.max_transact; «read» = x.max_read; write = x.max_write; guid = x.server_guid }

-- the ending by the dialect of the reply
abbrev pub answer_of : NegotiateReply → Ending
answer_of x = if x.dialect == 0x0210 then Greeted (greeting_of x) else Dialect x.dialect

-- what is wrong with a second message of the frame: the one request is answered by then
abbrev pub second_kind : Result Head HeadFault → Step → kinds.FirstFrameFault
second_kind (Err fault) step = kind.Head
second_kind (Ok head) Bad = kind.Chain
second_kind (Ok head) (Only part) = kind.Stranger
second_kind (Ok head) (Then part rest) = kind.Stranger

-- an ending that stands unless another message follows
abbrev pub unless_more : Option (List ℕ) → Ending → Ending
unless_more None ending = ending
unless_more (Some rest) ending = Frame (second_kind (head_of rest) (step_of rest))

-- a reply of success has a NEGOTIATE reply in it, and else is bad
abbrev pub GreetingEnds : List ℕ → Option (List ℕ) → Ending → Type 0
GreetingEnds part rest ending =
    ((x : NegotiateReply) × IsNegotiateReply x part × (ending ≡ unless_more rest (answer_of x)))
    ⊎ (((x : NegotiateReply) → IsNegotiateReply x part → ⊥) × (ending ≡ Frame kind.Body))

-- a reply of another status has an error reply in it, and else is bad
abbrev pub RefusalEnds : List ℕ → Option (List ℕ) → Ending → Type 0
RefusalEnds part rest ending =
    ((x : ErrorReply) × IsErrorReply x part × (ending ≡ unless_more rest (Dialect 0)))
    ⊎ (((x : ErrorReply) → IsErrorReply x part → ⊥) × (ending ≡ Frame kind.Body))

-- the first message, with its head: it answers message 0, it is a reply to NEGOTIATE, and by its status
abbrev pub ReplyEnds : Head → List ℕ → Option (List ℕ) → Ending → Type 0
ReplyEnds head part rest ending =
    MatchBool (head.mid.0 == 0)
    (MatchBool (head.command == NEGOTIATE && is_reply head)
    (MatchBool (head.status.0 == 0) (GreetingEnds part rest ending) (RefusalEnds part rest ending))
    (ending ≡ Frame kind.Body))
    (ending ≡ Frame kind.Stranger)

-- the messages of the frame one after another, the first bad one deciding: its head, its place in the chain, what it answers, its body
abbrev pub PartEnds : Result Head HeadFault → Step → Ending → Type 0
PartEnds (Err fault) step ending = ending ≡ Frame kind.Head
PartEnds (Ok head) Bad ending = ending ≡ Frame kind.Chain
PartEnds (Ok head) (Only part) ending = ReplyEnds head part None ending
PartEnds (Ok head) (Then part rest) ending = ReplyEnds head part (Some rest) ending

abbrev pub MessageEnds : List ℕ → Ending → Type 0
MessageEnds message ending = PartEnds (head_of message) (step_of message) ending

-- the endings that a wait for the first frame may have
abbrev pub EndsWait : Ending → Type 0
EndsWait Words = ⊥
EndsWait Connects = ⊥
EndsWait (Greeted greeting) = Unit {0}
EndsWait (Dialect dialect) = Unit {0}
EndsWait (Frame kind) = Unit {0}
EndsWait Cuts = Unit {0}
EndsWait Memory = Unit {0}
