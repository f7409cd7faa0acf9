-- What a message that waits asks for is a request that the share takes.
use Rattle.std.proofs.Common.{◌≡◌, ◌∙◌, ℕ, ◌==◌, Bool, true, false, if◌then◌else◌, List, refl, subst, Result, Ok, Err, Option, Some, None}
use Rattle.std.specs.Prelude.{is_some}
use Rattle.smb_base.specs.declared.names.Fid.{Fid}
use Rattle.smb_head.specs.declared.command.TheConstants.{CREATE, CLOSE, QUERY_INFO}
use Rattle.smb_head.specs.declared.head.Head.{Head}
use Rattle.smb_head.specs.declared.head.HeadFault.{HeadFault}
use Rattle.smb_head.specs.Header.{head_of}
use Rattle.smb_field.specs.declared.field.BodyFault.{BodyFault}
use Rattle.smb_field.specs.Rows.{if_read}
use Rattle.smb_body_b.specs.declared.close.CloseRequest.{CloseRequest}
use Rattle.smb_body_b.specs.declared.contexts.ContextSet.{ContextSet}
use Rattle.smb_body_b.specs.Close.{close_request_of}
use Rattle.smb_body_b.specs.Contexts.{read_of}
use Rattle.smb_body_b.specs.Create.{CreateRequestValue, create_request_of}
use Rattle.smb_body_c.specs.declared.info.QueryInfoRequest.{QueryInfoRequest}
use Rattle.smb_body_c.specs.Info.{query_info_request_of}
use Rattle.share_state.specs.declared.connection.LastCreate.{LastCreate}
use Rattle.share_state.specs.declared.connection.LastCreate.TheVariants as last
use Rattle.share_state.specs.declared.connection.Sent.{Sent}
use Rattle.share_state.specs.declared.request.Req.{Req}
use Rattle.share_state.specs.declared.request.Req.TheVariants as req
use Rattle.share_state.specs.Reply.{map_fid}
use Rattle.share_state.specs.State.{has}
use Rattle.share_state.specs.Built.{is_built}
use Rattle.fs_plain.specs.Wire.{units_in}
use Rattle.fs_plain.specs.Requests.{WireRequest, asked_lease, share_request, create_with, create_asked, close_asked, is_query, query_asked, is_aside, by_command, asked_with, wire_request}
use Rattle.fs_plain.specs.World.{followed, is_creating, resolved, refused_before}
use Rattle.share_box.specs.declared.serving.Plan.TheVariants as plan
use Rattle.share_box.specs.Serving.{plan_by, planned, plan_of}

-- a message asks for what the share takes
abbrev pub IsBuiltIn : Option WireRequest → Type 0
IsBuiltIn None = Unit {0}
IsBuiltIn (Some WireRequest.Aside) = Unit {0}
IsBuiltIn (Some (WireRequest.Share related r)) = is_built r ≡ true

built_if : (t : Bool) (a b : Option WireRequest) → IsBuiltIn a → IsBuiltIn b → IsBuiltIn (if t then a else b)
built_if true a b is is' = is
built_if false a b is is' = is'

built_given : (related : Bool) (r : Req) (t : Bool) → is_built r ≡ t → IsBuiltIn (if t then Some (WireRequest.Share related r) else None)
built_given related r true is = is
built_given related r false is = tt

built_request : (related : Bool) (r : Req) → IsBuiltIn (share_request related r)
built_request related r = built_given related r (is_built r) refl

-- the CREATE that one with these contexts is
abbrev create_in : CreateRequestValue → ContextSet → Req
create_in x set =
    req.Create (units_in x.name) x.access x.share x.disposition x.options x.attributes (asked_lease x.oplock_level set.lease) set.durable

built_contexts : (related : Bool) (x : CreateRequestValue) (contexts : Result ContextSet BodyFault) → IsBuiltIn (create_with related x contexts)
built_contexts related x (Err fault) = tt
built_contexts related x (Ok set) = built_if (is_some set.reclaim) None (share_request related (create_in x set)) tt (built_request related (create_in x set))

built_create : (related : Bool) (read : Result CreateRequestValue BodyFault) → IsBuiltIn (if_read read (create_asked related) None)
built_create related (Err fault) = tt
built_create related (Ok x) = built_contexts related x (read_of false x.contexts)

built_close : (related : Bool) (read : Result CloseRequest BodyFault) → IsBuiltIn (if_read read (close_asked related) None)
built_close related (Err fault) = tt
built_close related (Ok x) = built_request related (req.Close x.file_id)

built_query : (related : Bool) (read : Result QueryInfoRequest BodyFault) → IsBuiltIn (if_read read (query_asked related) None)
built_query related (Err fault) = tt
built_query related (Ok x) = built_if (is_query x) (share_request related (req.Query x.file_id)) None (built_request related (req.Query x.file_id)) tt

built_command : (command : ℕ) (related : Bool) (message : List ℕ) → IsBuiltIn (by_command command related message)
built_command command related message =
    built_if (command == CREATE) _ _ (built_create related (create_request_of message))
    (built_if (command == CLOSE) _ _ (built_close related (close_request_of message))
    (built_if (command == QUERY_INFO) _ _ (built_query related (query_info_request_of message))
    (built_if (is_aside command message) (Some WireRequest.Aside) None tt tt)))

built_with : (head : Result Head HeadFault) (message : List ℕ) → IsBuiltIn (asked_with head message)
built_with (Err fault) message = tt
built_with (Ok head) message = built_if (has head.flags.0 1) None _ tt (built_command head.command (has head.flags.0 4) message)

pub asked_built : (message : List ℕ) → IsBuiltIn (wire_request message)
unfolding wire_request
asked_built message = built_with (head_of message) message

-- a related request stays what it is, but for its file id
abbrev pub IsAlike : Req → Req → Type 0
IsAlike r' r = (is_creating r' ≡ is_creating r) × (is_built r' ≡ is_built r)

with_fid_alike : (fid : Fid) (r : Req) → IsAlike (map_fid (λ own. fid) r) r
with_fid_alike fid (req.Create path access share disposition options attributes lease durable) = (refl, refl)
with_fid_alike fid (req.Close a) = (refl, refl)
with_fid_alike fid (req.Flush a) = (refl, refl)
with_fid_alike fid (req.Query a) = (refl, refl)
with_fid_alike fid (req.Room a) = (refl, refl)
with_fid_alike fid (req.Read a b c) = (refl, refl)
with_fid_alike fid (req.Write a b c) = (refl, refl)
with_fid_alike fid (req.Lock a b c d) = (refl, refl)
with_fid_alike fid (req.Unlock a b c) = (refl, refl)
with_fid_alike fid (req.List a b c) = (refl, refl)
with_fid_alike fid (req.SetBasic a b) = (refl, refl)
with_fid_alike fid (req.SetEnd a b) = (refl, refl)
with_fid_alike fid (req.SetPending a b) = (refl, refl)
with_fid_alike fid (req.Rename a b c) = (refl, refl)
with_fid_alike fid (req.LinkTo a b c) = (refl, refl)
with_fid_alike fid (req.Ack a b) = (refl, refl)
with_fid_alike fid (req.Reclaim a b) = (refl, refl)

followed_alike : (before : LastCreate) (r : Req) → IsAlike (followed before r) r
followed_alike last.Nothing r = (refl, refl)
followed_alike (last.Opened fid) r = with_fid_alike fid r
followed_alike (last.Refused status) r = (refl, refl)

pub resolved_alike : (related : Bool) (before : LastCreate) (r : Req) → IsAlike (resolved related before r) r
resolved_alike true before r = followed_alike before r
resolved_alike false before r = (refl, refl)

pub resolved_built : (related : Bool) (before : LastCreate) (r : Req) → is_built r ≡ true → is_built (resolved related before r) ≡ true
resolved_built related before r built = (resolved_alike related before r).1 ∙ built

done_built : (refusal : Option ℕ) (q r : Req) → is_built q ≡ true → Some (plan_by refusal q) ≡ Some (plan.Do r) → is_built r ≡ true
done_built None q r built h =
    let same : q ≡ r = cc in
    subst (λ (x : Req). is_built x ≡ true) same built
done_built (Some status) q r built h = absurd (cc h)

planned_built : (before : LastCreate) (a : Option WireRequest) (r : Req) → IsBuiltIn a → planned before a ≡ Some (plan.Do r) → is_built r ≡ true
planned_built before None r built h = absurd (cc h)
planned_built before (Some WireRequest.Aside) r built h = absurd (cc h)
planned_built before (Some (WireRequest.Share related q)) r built h =
    done_built (refused_before related before q) (resolved related before q) r (resolved_built related before q built) h

-- so is what is to be done on the share for one
pub plan_built : (one : Sent) (r : Req) → plan_of one ≡ Some (plan.Do r) → is_built r ≡ true
unfolding plan_of
plan_built one r h = planned_built one.last_create (wire_request one.message) r (asked_built one.message) h
