-- Which request of the share a message makes, by its command.
use Rattle.std.proofs.Common.{◌≡◌, ◌∙◌, ◌⊎◌, inl, inr, ℕ, Bool, true, false, List, Option, Some, None, Result, Ok, Err, refl, sym, ap, subst}
use Rattle.std.specs.Prelude.{◌==◌, not, ◌&&◌, if◌then◌else◌, is_some}
use Rattle.std.proofs.lemmas.Bool.Decides.{eqb_tells}
use Rattle.std.proofs.lemmas.Bool.{false≢true}
use Rattle.smb_base.specs.declared.names.Fid.{Fid}
use Rattle.smb_base.specs.declared.names.Key.{Key}
use Rattle.smb_base.specs.declared.names.Status.{Status}
use Rattle.smb_head.specs.declared.command.TheConstants.{CREATE, CLOSE, QUERY_INFO}
use Rattle.smb_head.specs.declared.head.Head.{Head}
use Rattle.smb_head.specs.declared.head.HeadFault.{HeadFault}
use Rattle.smb_head.specs.Header.{head_of}
use Rattle.smb_field.specs.declared.field.BodyFault.{BodyFault}
use Rattle.smb_field.specs.Rows.{if_read}
use Rattle.smb_body_b.specs.declared.close.CloseRequest.{CloseRequest}
use Rattle.smb_body_b.specs.Close.{close_request_of}
use Rattle.smb_body_b.specs.Create.{CreateRequestValue, create_request_of}
use Rattle.smb_body_c.specs.declared.info.QueryInfoRequest.{QueryInfoRequest}
use Rattle.smb_body_c.specs.Info.{query_info_request_of}
use Rattle.smb_body_b.specs.declared.contexts.ContextSet.{ContextSet}
use Rattle.smb_body_b.specs.Contexts.{read_of}
use Rattle.share_state.specs.declared.connection.LastCreate.{LastCreate}
use Rattle.share_state.specs.declared.connection.LastCreate.TheVariants as last
use Rattle.share_state.specs.declared.connection.Sent.{Sent}
use Rattle.share_state.specs.declared.request.Req.{Req}
use Rattle.share_state.specs.declared.request.Req.TheVariants as req
use Rattle.share_state.specs.State.{has}
use Rattle.fs_plain.specs.Requests.{WireRequest, create_with, create_asked, close_asked, is_query, query_asked, is_aside, by_command, asked_with, wire_request}
use Rattle.fs_plain.specs.World.{is_creating, refusal_before, resolved, refused_before}
use Rattle.share_box.specs.declared.serving.Plan.{Plan}
use Rattle.share_box.specs.declared.serving.Plan.TheVariants as plan
use Rattle.share_box.specs.Serving.{plan_by, planned, plan_of}
use Rattle.share_box.specs.Paid.{is_refusal, is_outcome}

-- a Create, by its command
pub record IsCreate (command : ℕ) (r : Req) : Type 0 where
  pub by : command ≡ CREATE
  pub path : List ℕ
  pub access : ℕ
  pub share : ℕ
  pub disposition : ℕ
  pub options : ℕ
  pub attributes : ℕ
  pub lease : Option (Key × ℕ)
  pub durable : Bool
  pub is : r ≡ req.Create path access share disposition options attributes lease durable

-- a Close
pub record IsClose (command : ℕ) (r : Req) : Type 0 where
  pub by : command ≡ CLOSE
  pub fid : Fid
  pub is : r ≡ req.Close fid

-- a Query
pub record IsQuery (command : ℕ) (r : Req) : Type 0 where
  pub by : command ≡ QUERY_INFO
  pub fid : Fid
  pub is : r ≡ req.Query fid

-- a request is the one of its command
abbrev pub Fits : ℕ → Req → Type 0
Fits command r = IsCreate command r ⊎ (IsClose command r ⊎ IsQuery command r)

-- what is asked for is a request of the share
abbrev Is : Option WireRequest → Bool → Req → Type 0
Is o related r = o ≡ Some (WireRequest.Share related r)

taken_is : (t related rel : Bool) (q r : Req) → Is (if t then Some (WireRequest.Share related q) else None) rel r → r ≡ q
taken_is true related rel q r h = cc
taken_is false related rel q r h = absurd (cc h)

not_first : (t rel : Bool) (o : Option WireRequest) (r : Req) → Is (if t then None else o) rel r → Is o rel r
not_first true rel o r h = absurd (cc h)
not_first false rel o r h = h

only_then : (t rel : Bool) (o : Option WireRequest) (r : Req) → Is (if t then o else None) rel r → Is o rel r
only_then true rel o r h = h
only_then false rel o r h = absurd (cc h)

create_of_contexts : (related rel : Bool) (x : CreateRequestValue) (read : Result ContextSet BodyFault) (r : Req) → Is (create_with related x read) rel r → IsCreate 5 r
create_of_contexts related rel x (Err fault) r h = absurd (cc h)
create_of_contexts related rel x (Ok set) r h = record {
  by = refl;
  path = _;
  access = _;
  share = _;
  disposition = _;
  options = _;
  attributes = _;
  lease = _;
  durable = _;
  is = taken_is _ related rel _ r (not_first (is_some set.reclaim) rel _ r h);
}

-- what is read of a message asks for it
create_is : (related rel : Bool) (read : Result CreateRequestValue BodyFault) (r : Req) → Is (if_read read (create_asked related) None) rel r → IsCreate 5 r
create_is related rel (Err fault) r h = absurd (cc h)
create_is related rel (Ok x) r h = create_of_contexts related rel x (read_of false x.contexts) r h

close_is : (related rel : Bool) (read : Result CloseRequest BodyFault) (r : Req) → Is (if_read read (close_asked related) None) rel r → IsClose 6 r
close_is related rel (Err fault) r h = absurd (cc h)
close_is related rel (Ok x) r h = record { by = refl; fid = x.file_id; is = taken_is true related rel (req.Close x.file_id) r h }

query_is : (related rel : Bool) (read : Result QueryInfoRequest BodyFault) (r : Req) → Is (if_read read (query_asked related) None) rel r → IsQuery 16 r
query_is related rel (Err fault) r h = absurd (cc h)
query_is related rel (Ok x) r h =
    record { by = refl; fid = x.file_id; is = taken_is true related rel (req.Query x.file_id) r (only_then (is_query x) rel _ r h) }

same : (command n : ℕ) → (command == n) ≡ true → command ≡ n
same command n h = elim (eqb_tells command n) [
  | inl told ↦ told.1
  | inr told ↦ absurd (false≢true (sym told.0 ∙ h))
]

-- a message of a command asks for a request of it
fits : (command : ℕ) (related rel : Bool) (m : List ℕ) (r : Req) → Is (by_command command related m) rel r → Fits command r
fits command related rel m r h =
    by (command == CREATE) (command == CLOSE) (command == QUERY_INFO) (is_aside command m) _ _ _
    (λ t is. inl (subst (λ (c : ℕ). IsCreate c r) (sym (same command 5 t)) (create_is related rel (create_request_of m) r is)))
    (λ t is. inr (inl (subst (λ (c : ℕ). IsClose c r) (sym (same command 6 t)) (close_is related rel (close_request_of m) r is))))
    (λ t is. inr (inr (subst (λ (c : ℕ). IsQuery c r) (sym (same command 16 t)) (query_is related rel (query_info_request_of m) r is)))) h
  where
    by : (a b c d : Bool) (x y z : Option WireRequest) → (a ≡ true → Is x rel r → Fits command r) → (b ≡ true → Is y rel r → Fits command r)
        → (c ≡ true → Is z rel r → Fits command r)
        → Is (if a then x else if b then y else if c then z else if d then Some WireRequest.Aside else None) rel r → Fits command r
    by true b c d x y z f g k h = f refl h
    by false true c d x y z f g k h = g refl h
    by false false true d x y z f g k h = k refl h
    by false false false true x y z f g k h = absurd (cc h)
    by false false false false x y z f g k h = absurd (cc h)

-- a message that asks for something has a header
pub record HasHead (m : List ℕ) : Type 0 where
  pub head : Head
  pub is : head_of m ≡ Ok head

-- and what it asks for of the share is a request of its command
pub record HasRequest (m : List ℕ) (r : Req) : Type 0 where
  pub head : Head
  pub is : head_of m ≡ Ok head
  pub fits : Fits head.command r

has_head : (m : List ℕ) (a : WireRequest) (read : Result Head HeadFault) → head_of m ≡ read → asked_with read m ≡ Some a → HasHead m
has_head m a (Err fault) is h = absurd (cc h)
has_head m a (Ok head) is h = record { head = head; is = is }

has_request : (m : List ℕ) (rel : Bool) (r : Req) (read : Result Head HeadFault) → head_of m ≡ read → Is (asked_with read m) rel r → HasRequest m r
has_request m rel r (Err fault) is h = absurd (cc h)
has_request m rel r (Ok head) is h =
    record { head = head; is = is; fits = fits head.command (has head.flags.0 4) rel m r (not_first (has head.flags.0 1) rel _ r h) }

pub asked_head : (m : List ℕ) (a : WireRequest) → wire_request m ≡ Some a → HasHead m
unfolding wire_request
asked_head m a h = has_head m a (head_of m) refl h

asked_request : (m : List ℕ) (rel : Bool) (r : Req) → Is (wire_request m) rel r → HasRequest m r
unfolding wire_request
asked_request m rel r h = has_request m rel r (head_of m) refl h

-- a related request stays one of its command
follows_create : (before : LastCreate) (related : Bool) (path : List ℕ) (access share disposition options attributes : ℕ) (lease : Option (Key × ℕ)) (durable : Bool)
    → resolved related before (req.Create path access share disposition options attributes lease durable)
    ≡ req.Create path access share disposition options attributes lease durable
follows_create before false path access share disposition options attributes lease durable = refl
follows_create last.Nothing true path access share disposition options attributes lease durable = refl
follows_create (last.Opened fid) true path access share disposition options attributes lease durable = refl
follows_create (last.Refused status) true path access share disposition options attributes lease durable = refl

follows_close : (command : ℕ) (before : LastCreate) (related : Bool) (fid : Fid) → command ≡ CLOSE → IsClose command (resolved related before (req.Close fid))
follows_close command before false fid by = record { by = by; fid = fid; is = refl }
follows_close command last.Nothing true fid by = record { by = by; fid = fid; is = refl }
follows_close command (last.Opened its) true fid by = record { by = by; fid = its; is = refl }
follows_close command (last.Refused status) true fid by = record { by = by; fid = fid; is = refl }

follows_query : (command : ℕ) (before : LastCreate) (related : Bool) (fid : Fid) → command ≡ QUERY_INFO → IsQuery command (resolved related before (req.Query fid))
follows_query command before false fid by = record { by = by; fid = fid; is = refl }
follows_query command last.Nothing true fid by = record { by = by; fid = fid; is = refl }
follows_query command (last.Opened its) true fid by = record { by = by; fid = its; is = refl }
follows_query command (last.Refused status) true fid by = record { by = by; fid = fid; is = refl }

follows : (command : ℕ) (related : Bool) (before : LastCreate) (r : Req) → Fits command r → Fits command (resolved related before r)
follows command related before r (inl c) = inl (record {
  by = c.by;
  path = c.path;
  access = c.access;
  share = c.share;
  disposition = c.disposition;
  options = c.options;
  attributes = c.attributes;
  lease = c.lease;
  durable = c.durable;
  is = ap (resolved related before) c.is
      ∙ follows_create before related c.path c.access c.share c.disposition c.options c.attributes c.lease c.durable;
})
follows command related before r (inr (inl c)) =
    inr (inl (subst (λ (q : Req). IsClose command (resolved related before q)) (sym c.is) (follows_close command before related c.fid c.by)))
follows command related before r (inr (inr c)) =
    inr (inr (subst (λ (q : Req). IsQuery command (resolved related before q)) (sym c.is) (follows_query command before related c.fid c.by)))

plan_does : (refusal : Option ℕ) (q r : Req) → plan_by refusal q ≡ plan.Do r → r ≡ q
plan_does None q r h = cc
plan_does (Some status) q r h = absurd (cc h)

-- what is to be done on the share for a message is a request of its command
does : (m : List ℕ) (before : LastCreate) (o : Option WireRequest) (r : Req) → wire_request m ≡ o → planned before o ≡ Some (plan.Do r) → HasRequest m r
does m before None r is h = absurd (cc h)
does m before (Some WireRequest.Aside) r is h = absurd (cc h)
does m before (Some (WireRequest.Share related q)) r is h =
    let there : HasRequest m q = asked_request m related q is in
    let made : plan_by (refused_before related before q) (resolved related before q) ≡ plan.Do r = cc in
    record {
      head = there.head;
      is = there.is;
      fits = subst (Fits there.head.command) (sym (plan_does (refused_before related before q) (resolved related before q) r made))
          (follows there.head.command related before q there.fits);
    }

pub plan_does_own : (one : Sent) (r : Req) → plan_of one ≡ Some (plan.Do r) → HasRequest one.message r
unfolding plan_of
plan_does_own one r h = does one.message one.last_create (wire_request one.message) r refl h

-- a plan is made only for a message with a header
plans : (m : List ℕ) (before : LastCreate) (o : Option WireRequest) (p : Plan) → wire_request m ≡ o → planned before o ≡ Some p → HasHead m
plans m before None p is h = absurd (cc h)
plans m before (Some a) p is h = asked_head m a is

pub plan_has_head : (one : Sent) (p : Plan) → plan_of one ≡ Some p → HasHead one.message
unfolding plan_of
plan_has_head one p h = plans one.message one.last_create (wire_request one.message) p refl h

plan_refuses : (refusal : Option ℕ) (q : Req) (status : Status) → plan_by refusal q ≡ plan.Refuse status → refusal ≡ Some status.0
plan_refuses None q status h = absurd (cc h)
plan_refuses (Some n) q status h =
    let whole : record { 0 = n } ≡ status = cc in
    ap (λ (s : Status). Some s.0) whole

before_refuses : (t : Bool) (before : LastCreate) (status : ℕ) → (if t then refusal_before before else None) ≡ Some status → is_outcome before ≡ true → is_refusal status ≡ true
before_refuses false before status h outcome = absurd (cc h)
before_refuses true last.Nothing status h outcome = absurd (cc h)
before_refuses true (last.Opened fid) status h outcome = absurd (cc h)
before_refuses true (last.Refused own) status h outcome =
    let whole : own.0 ≡ status = cc in
    subst (λ (n : ℕ). is_refusal n ≡ true) whole outcome

refuses : (before : LastCreate) (o : Option WireRequest) (status : Status) → planned before o ≡ Some (plan.Refuse status) → is_outcome before ≡ true → is_refusal status.0 ≡ true
refuses before None status h outcome = absurd (cc h)
refuses before (Some WireRequest.Aside) status h outcome = absurd (cc h)
refuses before (Some (WireRequest.Share related q)) status h outcome =
    let made : plan_by (refused_before related before q) (resolved related before q) ≡ plan.Refuse status = cc in
    before_refuses (related && not (is_creating q)) before status.0 (plan_refuses (refused_before related before q) (resolved related before q) status made) outcome

-- a request is refused before the share looks at it only with a status with which a CREATE is
pub plan_refuses_so : (one : Sent) (status : Status) → plan_of one ≡ Some (plan.Refuse status) → is_outcome one.last_create ≡ true → is_refusal status.0 ≡ true
unfolding plan_of
plan_refuses_so one status h outcome = refuses one.last_create (wire_request one.message) status h outcome
