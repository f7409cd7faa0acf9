-- The reply to a request that the share takes tells whether an open is durable: a reclaim is another request.
use Rattle.std.proofs.Common.{rules, ◌≡◌, refl, ℕ, ◌==◌, Bool, true, false, if◌then◌else◌, List, Option, Some, None, Result, Ok, Err}
use Rattle.std.specs.Prelude.{is_some}
use Rattle.smb_head.specs.declared.command.TheConstants.{CREATE, QUERY_INFO}
use Rattle.smb_head.specs.declared.head.Head.{Head}
use Rattle.smb_head.specs.declared.head.HeadFault.{HeadFault}
use Rattle.smb_head.specs.Header.{head_of}
use Rattle.smb_field.specs.declared.field.BodyFault.{BodyFault}
use Rattle.smb_field.specs.Rows.{if_read}
use Rattle.smb_body_b.specs.declared.contexts.ContextSet.{ContextSet}
use Rattle.smb_body_b.specs.Create.{CreateRequestValue, create_request_of}
use Rattle.smb_body_b.specs.Contexts.{read_of}
use Rattle.smb_body_c.specs.declared.info.QueryInfoRequest.{QueryInfoRequest}
use Rattle.smb_body_c.specs.Info.{query_info_request_of}
use Rattle.share_state.specs.declared.request.Req.{Req}
use Rattle.share_state.specs.State.{has}
use Rattle.fs_plain.specs.Masked.{Untold, Nothing, NumberAndMark, Durability, untold_of_class, untold_of_contexts, untold_with, untold}
use Rattle.fs_plain.specs.Requests.{WireRequest, create_with, create_asked, asked_with, wire_request}

-- whether a reply that leaves this out tells it
abbrev pub tells_durability : Untold → Bool
tells_durability Durability = false
tells_durability u = true

none_asked : {X : Type 0} (related : Bool) (r : Req) → None ≡ Some (WireRequest.Share related r) → X
none_asked related r is = absurd (never is)
  where
    never : None ≡ Some (WireRequest.Share related r) → ⊥
    never is = search rules

class_tells : (class : ℕ) → tells_durability (untold_of_class class) ≡ true
class_tells class = by (class == 5)
  where
    by : (t : Bool) → tells_durability (if t then NumberAndMark else Nothing) ≡ true
    by true = refl
    by false = refl

query_tells : (r : Result QueryInfoRequest BodyFault) → tells_durability (if_read r (λ (x : QueryInfoRequest). untold_of_class x.class) Nothing) ≡ true
query_tells (Ok x) = class_tells x.class
query_tells (Err fault) = refl

contexts_tell : (related : Bool) (x : CreateRequestValue) (r : Result ContextSet BodyFault) (rel : Bool) (q : Req) → create_with related x r ≡ Some (WireRequest.Share rel q)
    → tells_durability (untold_of_contexts r) ≡ true
contexts_tell related x (Err fault) rel q is = none_asked rel q is
contexts_tell related x (Ok set) rel q is = by (is_some set.reclaim) _ is
  where
    by : (t : Bool) (o : Option WireRequest) → (if t then None else o) ≡ Some (WireRequest.Share rel q) → tells_durability (if t then Durability else Nothing) ≡ true
    by true o is = none_asked rel q is
    by false o is = refl

create_tells : (related : Bool) (r : Result CreateRequestValue BodyFault) (rel : Bool) (q : Req) → if_read r (create_asked related) None ≡ Some (WireRequest.Share rel q)
    → tells_durability (if_read r (λ (x : CreateRequestValue). untold_of_contexts (read_of false x.contexts)) Nothing) ≡ true
create_tells related (Ok x) rel q is = contexts_tell related x (read_of false x.contexts) rel q is
create_tells related (Err fault) rel q is = none_asked rel q is

head_tells : (head : Result Head HeadFault) (m : List ℕ) (rel : Bool) (q : Req) → asked_with head m ≡ Some (WireRequest.Share rel q) → tells_durability (untold_with head m) ≡ true
head_tells (Err fault) m rel q is = none_asked rel q is
head_tells (Ok head) m rel q is =
    by (has head.flags.0 1) (head.command == CREATE) (head.command == QUERY_INFO) _ is
  where
    related : Bool
    related = has head.flags.0 4

    by : (t a b : Bool) (others : Option WireRequest) → (if t then None else if a then if_read (create_request_of m) (create_asked related) None else others) ≡ Some (WireRequest.Share rel q)
        → tells_durability (if b then if_read (query_info_request_of m) (λ (x : QueryInfoRequest). untold_of_class x.class) Nothing
        else if a then if_read (create_request_of m) (λ (x : CreateRequestValue). untold_of_contexts (read_of false x.contexts)) Nothing
        else Nothing) ≡ true
    by true a b others is = none_asked rel q is
    by false a true others is = query_tells (query_info_request_of m)
    by false true false others is = create_tells related (create_request_of m) rel q is
    by false false false others is = refl

pub asked_tells : (m : List ℕ) (rel : Bool) (q : Req) → wire_request m ≡ Some (WireRequest.Share rel q) → tells_durability (untold m) ≡ true
unfolding wire_request untold
asked_tells m rel q is = head_tells (head_of m) m rel q is
