-- A request as it stands in a frame, the last one there or before another: what it asks for goes by its command and by whether it is
-- related to the one before it.
use Rattle.std.proofs.Common.{arith, ◌≡◌, ◌∙◌, refl, ap, ap₂, ℕ, ◌^◌, ◌<◌, ◌==◌, Bool, true, false, if◌then◌else◌, List, [], ◌++◌, None, Result, Ok, length-append}
use Rattle.smb_le.specs.Numbers.{number_at, bytes_of}
use Rattle.smb_le.proofs.NumberLaws.{number_at-bytes_of}
use Rattle.smb_head.specs.declared.command.TheConstants.{CREATE, QUERY_INFO}
use Rattle.smb_head.specs.declared.head.TheConstants.{PROTOCOL}
use Rattle.smb_head.specs.declared.head.Head.{Head}
use Rattle.smb_head.specs.declared.head.HeadFault.{HeadFault}
use Rattle.smb_head.specs.declared.request.Request.{Request}
use Rattle.smb_head.specs.Header.{head_at, head_of, header}
use Rattle.smb_head.proofs.HeadLaws.{head_of-is_header, length-header}
use Rattle.smb_chain.specs.Chain.{linked}
use Rattle.smb_field.specs.declared.field.Field.{Field}
use Rattle.smb_field.specs.Body.{IsBody, IsReadAgain, spelling}
use Rattle.smb_field.specs.Rows.{if_read}
use Rattle.smb_body_b.specs.Contexts.{read_of}
use Rattle.smb_body_b.specs.Create.{create_request_of}
use Rattle.smb_body_c.specs.Info.{query_info_request_of}
use Rattle.smb_mux.specs.Sending.{head_for}
use Rattle.share_state.specs.State.{has}
use Rattle.fs_plain.specs.Masked.{Untold, untold_of_class, untold_of_contexts, untold_with, untold}
use Rattle.fs_plain.specs.Replies.{command_of}
use Rattle.fs_plain.specs.Requests.{asked_with, by_command, wire_request}

protocol_read : (head : Head) (rest : List ℕ) → number_at 4 0 (header head ++ rest) ≡ PROTOCOL
unfolding number_at bytes_of header
protocol_read head rest = refl

size_read : (head : Head) (rest : List ℕ) → number_at 2 4 (header head ++ rest) ≡ 64
unfolding number_at bytes_of header
size_read head rest = refl

command_read : (head : Head) (rest : List ℕ) → head.command < 2 ^ 16 → number_at 2 12 (header head ++ rest) ≡ head.command
unfolding number_at bytes_of header
command_read head rest fits = number_at-bytes_of 2 head.command [] fits

flags_read : (head : Head) (rest : List ℕ) → head.flags.0 < 2 ^ 32 → number_at 4 16 (header head ++ rest) ≡ head.flags.0
unfolding number_at bytes_of header
flags_read head rest fits = number_at-bytes_of 4 head.flags.0 [] fits

-- whatever its fields are, a header is read
head_there : (head : Head) (rest : List ℕ) → head_of (header head ++ rest) ≡ Ok (head_at (header head ++ rest))
head_there head rest = head_of-is_header (head_at (header head ++ rest)) (header head ++ rest) (record {
  long_enough = omega (arith, length-append (header head) rest, length-header head);
  protocol = protocol_read head rest;
  size = size_read head rest;
  fields = refl;
})

-- a request's flags
small_flags : (related : Bool) → (if related then 4 else 0) < 2 ^ 32
small_flags true = omega arith
small_flags false = omega arith

by_flags : (related : Bool) (command : ℕ) (m : List ℕ)
    → (if has (if related then 4 else 0) 1 then None else by_command command (has (if related then 4 else 0) 4) m) ≡ by_command command related m
by_flags true command m = refl
by_flags false command m = refl

-- the message of a request, wherever the next one stands, with these bytes behind its header
abbrev pub behind_header : ℕ → Request → ℕ → List ℕ → List ℕ
behind_header mid r place rest = header (linked (head_for mid r) place) ++ rest

-- its command
pub command_there : (mid : ℕ) (r : Request) (place : ℕ) (rest : List ℕ) → r.command < 2 ^ 16 → command_of (behind_header mid r place rest) ≡ r.command
command_there mid r place rest small = command_read (linked (head_for mid r) place) rest small

-- what it asks for
pub asked_there : (mid : ℕ) (r : Request) (place : ℕ) (rest : List ℕ) → r.command < 2 ^ 16
    → wire_request (behind_header mid r place rest) ≡ by_command r.command r.related (behind_header mid r place rest)
unfolding wire_request head_at
asked_there mid r place rest small =
    let m : List ℕ = behind_header mid r place rest in
    ap (λ (h : Result Head HeadFault). asked_with h m) (head_there (linked (head_for mid r) place) rest)
    ∙ ap₂ (λ (flags command : ℕ). if has flags 1 then None else by_command command (has flags 4) m)
    (flags_read (linked (head_for mid r) place) rest (small_flags r.related)) (command_read (linked (head_for mid r) place) rest small)
    ∙ by_flags r.related r.command m

-- what its reply leaves out goes by its command and its body
abbrev pub untold_by : ℕ → List ℕ → Untold
untold_by command m =
    if command == QUERY_INFO then if_read (query_info_request_of m) (λ x. untold_of_class x.class) Untold.Nothing
    else if command == CREATE then if_read (create_request_of m) (λ x. untold_of_contexts (read_of false x.contexts)) Untold.Nothing
    else Untold.Nothing

pub untold_there : (mid : ℕ) (r : Request) (place : ℕ) (rest : List ℕ) → r.command < 2 ^ 16
    → untold (behind_header mid r place rest) ≡ untold_by r.command (behind_header mid r place rest)
unfolding untold head_at
untold_there mid r place rest small =
    let m : List ℕ = behind_header mid r place rest in
    ap (λ (h : Result Head HeadFault). untold_with h m) (head_there (linked (head_for mid r) place) rest)
    ∙ ap (λ (command : ℕ). untold_by command m) (command_read (linked (head_for mid r) place) rest small)

-- its body
pub body_there : (mid : ℕ) (r : Request) (place : ℕ) (rest : List ℕ) (size : ℕ) (fields : List Field) (part : List ℕ) → IsReadAgain size fields part
    → IsBody size fields part (behind_header mid r place (spelling size fields part ++ rest))
unfolding IsReadAgain
body_there mid r place rest size fields part again = again (header (linked (head_for mid r) place)) rest (length-header (linked (head_for mid r) place))

-- something holds of a request wherever it stands
abbrev pub Everywhere : (List ℕ → Type 0) → Request → Type 0
Everywhere P r = (mid place : ℕ) (rest : List ℕ) → P (behind_header mid r place (r.body ++ rest))
