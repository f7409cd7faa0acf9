-- What the messages of a frame are to a client with requests in flight (MS-SMB2 3.2.5.1). They are judged one after the other, and the
-- first one with a fault decides.
use Rattle.std.specs.Prelude.{◌≡◌, ℕ, zero, suc, ◌==◌, Bool, true, false, ◌&&◌, if◌then◌else◌, bit_and, List, [], ◌∷◌, ◌++◌, length, slice_range, Option, Some, None, Result, Ok, Err}
use Rattle.std.specs.List.{list_any}
use Rattle.std.specs.Map.{lookup}
use Rattle.std.specs.BTreeMap.{is_at}
use Rattle.std.specs.Ordering.{nat_cmp}
use Rattle.smb_le.specs.Numbers.{number_at}
use Rattle.smb_head.specs.declared.command.TheConstants.{OPLOCK_BREAK}
use Rattle.smb_head.specs.declared.head.Head.{Head}
use Rattle.smb_head.specs.declared.head.HeadFault.{HeadFault}
use Rattle.smb_head.specs.Header.{head_of, has, is_reply_to, is_interim}
use Rattle.smb_chain.specs.Parts.{Step, Only, Then, Bad, step_of, step_from}
use Rattle.smb_credit.specs.Window.{no_request}
use Rattle.smb_field.specs.declared.field.BodyFault.{BodyFault}
use Rattle.smb_field.specs.declared.field.BodyFault.TheVariants as body
use Rattle.smb_mux.specs.declared.fault.Malformed.TheVariants as malformed
use Rattle.smb_mux.specs.declared.fault.TakeFault.{TakeFault}
use Rattle.smb_mux.specs.declared.fault.TakeFault.TheVariants as fault
use Rattle.smb_mux.specs.declared.taken.Reply.{Reply}
use Rattle.smb_mux.specs.declared.taken.BreakNote.{BreakNote}
use Rattle.smb_mux.specs.declared.taken.Taken.{Taken}
use Rattle.smb_mux.specs.declared.look.Look.{Look}
use Rattle.smb_mux.specs.declared.look.Look.TheVariants as look
use Rattle.smb_field.specs.Faults.{fault_of, error_fault}
use Rattle.smb_mux.specs.Bodies.{reply_fault}
use denote.Ref.{Bor}

-- nothing so far
abbrev pub nothing : Taken
nothing = record { replies = []; breaks = []; interim = [] }

-- the command of the request in flight that has this id, if there is one; a request is known by its id and its command
abbrev pub command_at : List (ℕ × ℕ) → ℕ → Option ℕ
command_at awaited id = lookup (is_at (nat_cmp id)) awaited

-- a request was answered by one of these replies
abbrev pub is_answered : List Reply → ℕ → Bool
is_answered replies id = list_any (λ (r : Reply). r.mid.0 == id) replies

-- what is still awaited: the requests in flight but those that earlier messages of the frame answered
abbrev pub awaited_command : List (ℕ × ℕ) → Taken → ℕ → Option ℕ
awaited_command awaited taken id = if is_answered taken.replies id then None else command_at awaited id

-- the notice that a lease is broken (MS-SMB2 2.2.23.2): its flags at 68, the key at 72, the new state at 92
abbrev pub is_sound : Option BodyFault → Bool
is_sound None = true
is_sound (Some fault) = false

abbrev pub is_notice : Head → List ℕ → Bool
is_notice head message = is_reply_to OPLOCK_BREAK head && head.status.0 == 0 && is_sound (fault_of 44 false message)

abbrev pub note_of : List ℕ → BreakNote
note_of message = record {
  key = record { 0 = slice_range message 72 88 };
  to = bit_and (number_at 4 92 message) 7;
  wants_ack = has (number_at 4 68 message) 1;
}

abbrev pub notice_in : Head → List ℕ → Option BreakNote
notice_in head message = if is_notice head message then Some (note_of message) else None

-- a message with this fault in its body
abbrev pub wrong : BodyFault → Look
wrong f = look.Fault (fault.Malformed (malformed.Body f))

-- a message that is good where its body is
abbrev pub if_sound : Look → Option BodyFault → Look
if_sound l None = l
if_sound l (Some f) = wrong f

-- a reply to a request that is awaited: an interim one has the error body, a final one that of its status and command
abbrev pub looked_reply : Head → List ℕ → Look
looked_reply head message =
    if is_interim head then if_sound (look.Interim head.mid) (error_fault message)
    else if_sound (look.Final head.mid) (reply_fault head.status.0 head.command message)

-- a message of an id: that of no request in flight is a stranger's; it has its request's command, and the flag of replies
abbrev pub looked_for : Option ℕ → Head → List ℕ → Look
looked_for None head message = look.Fault (fault.Stranger head.mid)
looked_for (Some command) head message =
    if is_reply_to command head then looked_reply head message else wrong body.Value

-- what answers no request has to be a notice
abbrev pub looked_notice : Option BreakNote → Look
looked_notice None = wrong body.Value
looked_notice (Some note) = look.Notice note

abbrev pub looked : Option ℕ → Head → List ℕ → Look
looked command head message =
    if head.mid.0 == no_request then looked_notice (notice_in head message) else looked_for command head message

abbrev pub look_with : Result Head HeadFault → List (ℕ × ℕ) → Taken → List ℕ → Look
look_with (Err f) awaited taken message = look.Fault (fault.Malformed (malformed.Head f))
look_with (Ok head) awaited taken message = looked (awaited_command awaited taken head.mid.0) head message

-- what a message is, behind those that brought this
abbrev pub look_of : List (ℕ × ℕ) → Taken → List ℕ → Look
look_of awaited taken message = look_with (head_of message) awaited taken message

-- what it adds to what came
abbrev pub added : Look → List ℕ → Taken → Result Taken TakeFault
added (look.Final mid) part taken = Ok (record taken { replies = taken.replies ++ record { mid = mid; part = part } ∷ [] })
added (look.Interim mid) part taken = Ok (record taken { interim = taken.interim ++ mid ∷ [] })
added (look.Notice note) part taken = Ok (record taken { breaks = taken.breaks ++ note ∷ [] })
added (look.Fault f) part taken = Err f

abbrev pub on_with : Result Taken TakeFault → (Taken → Result Taken TakeFault) → Result Taken TakeFault
on_with (Err f) others = Err f
on_with (Ok taken) others = others taken

-- the messages from one on: its header, its place in the chain, and what it is
abbrev pub judged_by : Result Head HeadFault → Step → List (ℕ × ℕ) → Taken → (Taken → List ℕ → Result Taken TakeFault) → Result Taken TakeFault
judged_by (Err f) step awaited taken others = Err (fault.Malformed (malformed.Head f))
judged_by (Ok head) Bad awaited taken others = Err (fault.Malformed malformed.Chain)
judged_by (Ok head) (Only part) awaited taken others = added (look_of awaited taken part) part taken
judged_by (Ok head) (Then part rest) awaited taken others =
    on_with (added (look_of awaited taken part) part taken) (λ now. others now rest)

-- n messages at most
abbrev pub judged_within : ℕ → List (ℕ × ℕ) → Taken → List ℕ → Result Taken TakeFault
judged_within zero awaited taken bytes = Ok taken
judged_within (suc n) awaited taken bytes = judged_by (head_of bytes) (step_of bytes) awaited taken (judged_within n awaited)

-- what the messages of these bytes add to what came before
unfoldable pub judged_from : List (ℕ × ℕ) → Taken → List ℕ → Result Taken TakeFault
judged_from awaited taken bytes = judged_within (suc (length bytes)) awaited taken bytes

-- what a frame brings, or its first fault
abbrev pub judged : List (ℕ × ℕ) → List ℕ → Result Taken TakeFault
judged awaited frame = judged_from awaited nothing frame

-- an answer is this one, or memory ran out before it was there
abbrev pub IsAnswer : Result Taken TakeFault → Result Taken TakeFault → Type 0
IsAnswer told (Ok taken) = told ≡ Ok taken
IsAnswer told (Err fault.NoMemory) = Unit {0}
IsAnswer told (Err (fault.Malformed m)) = told ≡ Err (fault.Malformed m)
IsAnswer told (Err (fault.Stranger mid)) = told ≡ Err (fault.Stranger mid)

-- what comes next of these bytes: a step, where they begin with a header and name no bad place
abbrev pub next_of : Result Head HeadFault → Step → Result Step TakeFault
next_of (Err f) step = Err (fault.Malformed (malformed.Head f))
next_of (Ok head) Bad = Err (fault.Malformed malformed.Chain)
next_of (Ok head) (Only part) = Ok (Only part)
next_of (Ok head) (Then part rest) = Ok (Then part rest)

abbrev pub seen_next : Result (Bor (List ℕ) × Option (Bor (List ℕ))) TakeFault → Result Step TakeFault
seen_next (Ok p) = Ok (step_from p.0.now p.1)
seen_next (Err f) = Err f

-- what the messages from the next one on add
abbrev pub others_left : List (ℕ × ℕ) → Taken → Option (Bor (List ℕ)) → Result Taken TakeFault
others_left awaited taken None = Ok taken
others_left awaited taken (Some rest) = judged_from awaited taken rest.now

-- one message on, it comes to the same
abbrev pub Walks : List (ℕ × ℕ) → Result Taken TakeFault → Result (Taken × Option (Bor (List ℕ))) TakeFault → Type 0
Walks awaited told (Ok p) = told ≡ others_left awaited p.0 p.1
Walks awaited told (Err f) = IsAnswer told (Err f)
