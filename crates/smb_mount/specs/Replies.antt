-- What is read of the replies of a mount, and what of it decides.
use Rattle.std.specs.Prelude.{◌≡◌, ◌==◌, ◌||◌, ℕ, Bool, List, bit_and, Result, Ok, Err}
use Rattle.smb_le.specs.Numbers.{number_at}
use Rattle.smb_head.specs.declared.head.Route.{Route}
use Rattle.smb_head.specs.declared.head.Route.TheVariants.{Sync, Async}
use Rattle.smb_field.specs.declared.field.BodyFault.{BodyFault}
use Rattle.smb_field.specs.Body.{Strays, Reads}
use Rattle.smb_body_a.specs.declared.negotiate.NegotiateReply.{NegotiateReply}
use Rattle.smb_body_a.specs.Negotiate.{IsNegotiateReply}
use Rattle.smb_body_a.specs.declared.session.SessionSetupReply.{SessionSetupReply}
use Rattle.smb_body_a.specs.Session.{IsSessionSetupReply}
use Rattle.smb_body_a.specs.declared.tree.TreeConnectReply.{TreeConnectReply}
use Rattle.smb_body_a.specs.Tree.{IsTreeConnectReply}
use Rattle.smb_body_c.specs.declared.error.ErrorReply.{ErrorReply}
use Rattle.smb_body_c.specs.Error.{IsErrorReply}
use Rattle.smb_mount.specs.declared.facts.Server.{Server}
use Rattle.smb_mount.specs.declared.fault.MountFault.{MountFault}
use Rattle.smb_mount.specs.declared.fault.MountFault.TheVariants.{Malformed}

-- the body of a NEGOTIATE reply, or its first fault
abbrev pub ReadsNegotiate : List ℕ → Result NegotiateReply BodyFault → Type 0
ReadsNegotiate part body =
    Reads 65 (λ (x : NegotiateReply). IsNegotiateReply x part) ⊥ (Strays 128 (number_at 2 120 part) (number_at 2 122 part) part) part body

-- the body of a SESSION_SETUP reply, or its first fault
abbrev pub ReadsSession : List ℕ → Result SessionSetupReply BodyFault → Type 0
ReadsSession part body =
    Reads 9 (λ (x : SessionSetupReply). IsSessionSetupReply x part) ⊥ (Strays 72 (number_at 2 68 part) (number_at 2 70 part) part) part body

-- the body of a TREE_CONNECT reply, or its first fault
abbrev pub ReadsTree : List ℕ → Result TreeConnectReply BodyFault → Type 0
ReadsTree part body = Reads 16 (λ (x : TreeConnectReply). IsTreeConnectReply x part) ⊥ ⊥ part body

-- the body of an error reply, or its first fault
abbrev pub ReadsError : List ℕ → Result ErrorReply BodyFault → Type 0
ReadsError part body = Reads 9 (λ (x : ErrorReply). IsErrorReply x part) ⊥ (Strays 72 72 (number_at 4 68 part) part) part body

-- the answer to what is read of a body: something is read, and whatever is read has this answer
pub record Decides {X A : Type 0} (reads : Result X BodyFault → Type 0) (verdict : Result X BodyFault → A) (answer : A) : Type 0 where
  pub some_body : (body : Result X BodyFault) × reads body × (answer ≡ verdict body)
  pub every_body : (body : Result X BodyFault) → reads body → answer ≡ verdict body

-- the fault by what is read of an error reply: a malformed one comes before the server's refusal
abbrev pub refusal : MountFault → Result ErrorReply BodyFault → MountFault
refusal fault (Ok x) = fault
refusal fault (Err malformed) = Malformed malformed

-- the fault of a reply that the server refused with
abbrev pub Refuses : List ℕ → MountFault → MountFault → Type 0
Refuses part fault answer = Decides (ReadsError part) (refusal fault) answer

-- IS_GUEST or IS_NULL (MS-SMB2 2.2.6)
abbrev pub is_guest : ℕ → Bool
is_guest flags = bit_and flags 1 == 1 || bit_and flags 2 == 2

-- the tree of a route
abbrev pub tree_of : Route → ℕ
tree_of (Sync tree) = tree
tree_of (Async id) = 0

-- what the server says of itself
abbrev pub server_of : NegotiateReply → Server
server_of x = record {
  caps = record { 0 = x.capabilities };
  max_transact = x.max_transact;
  max_read = x.max_read;
  max_write = x.max_write;
  guid = x.server_guid;
}
