-- What the client's reader of replies gives, beside what a reply says, and which faults it has.
use Rattle.std.specs.Prelude.{◌≡◌, ℕ, ◌==◌, Bool, ◌&&◌, ◌||◌, is_ok, false, List, Option, Some, None, Result, Ok, Err}
use Rattle.smb_head.specs.declared.command.TheConstants.{CREATE, CLOSE, QUERY_INFO}
use Rattle.smb_body_c.specs.Directory.{buffer_reply_of}
use Rattle.share_state.specs.declared.request.Rep.{Rep}
use Rattle.share_state.specs.declared.request.RepBody.{RepBody}
use Rattle.fs_core.specs.declared.read.WireFault.{WireFault}
use Rattle.fs_core.specs.declared.read.WireFault.TheVariants as fault

-- the reply that was read, if there is one
abbrev pub seen : Result Rep WireFault → Option Rep
seen (Ok rep) = Some rep
seen (Err fault) = None

-- the body that was read, if there is one
abbrev pub seen_body : Result RepBody WireFault → Option RepBody
seen_body (Ok b) = Some b
seen_body (Err fault) = None

-- a fault of a body, and a fault of a reply to this command: the information that a body holds is that of a QUERY_INFO alone
abbrev pub IsOfBody : WireFault → Type 0
IsOfBody (fault.Body why) = Unit {0}
IsOfBody (fault.Info why) = ⊥

abbrev pub IsOfInformation : WireFault → Type 0
IsOfInformation (fault.Body why) = ⊥
IsOfInformation (fault.Info why) = Unit {0}

abbrev pub IsOfReply : ℕ → WireFault → Type 0
IsOfReply command (fault.Body why) = Unit {0}
IsOfReply command (fault.Info why) = command ≡ QUERY_INFO

-- a fault of the body that holds the information of a file is one of the body itself
abbrev pub IsOfInfo : List ℕ → WireFault → Type 0
IsOfInfo part (fault.Body why) = is_ok (buffer_reply_of part) ≡ false
IsOfInfo part (fault.Info why) = Unit {0}

-- a reply of this status to this command has the command's own body
abbrev pub is_done : ℕ → ℕ → Bool
is_done status command = status == 0 || (status == 0x80000005 && command == QUERY_INFO)

-- the commands whose replies are read: CREATE, CLOSE and QUERY_INFO
abbrev pub is_known : ℕ → Bool
is_known command = command == CREATE || command == CLOSE || command == QUERY_INFO
