-- A written reply pays what is owed.
use Rattle.share_state.specs.declared.connection.Owed.TheVariants as owed
use Rattle.share_state.specs.declared.request.RepBody.TheVariants as body
use Rattle.share_state.specs.declared.request.Req.TheVariants as req
use Rattle.share_box.specs.declared.bodies.Said.TheVariants as said
use Rattle.share_box.specs.declared.serving.Plan.TheVariants as plan
use Rattle.share_box.specs.Answers as answers
use Rattle.std.proofs.Common.{◌≡◌, ◌∙◌, ◌⊎◌, inl, inr, ℕ, Bool, true, false, List, [], ◌++◌, Option, Some, None, Result, Ok, Err, OnOk, refl, sym, ap, subst, arith, length-append}
use Rattle.std.specs.Prelude.{◌==◌, not, ◌&&◌, ◌||◌, if◌then◌else◌, is_none}
use Rattle.smb_base.specs.declared.names.Key.{Key}
use Rattle.smb_head.specs.declared.command.TheConstants.{NEGOTIATE, SESSION_SETUP, TREE_CONNECT, CREATE, CLOSE, QUERY_INFO}
use Rattle.smb_head.specs.declared.head.Head.{Head}
use Rattle.smb_head.specs.declared.head.HeadFault.{HeadFault}
use Rattle.smb_head.specs.Header.{head_of, header}
use Rattle.smb_head.proofs.HeadLaws.{length-header}
use Rattle.smb_field.specs.Body.{IsReadAgain, spelling}
use Rattle.share_state.specs.declared.connection.Owed.{Owed}
use Rattle.share_state.specs.declared.connection.Sent.{Sent}
use Rattle.share_state.specs.declared.request.Rep.{Rep}
use Rattle.share_state.specs.declared.request.RepBody.{RepBody}
use Rattle.share_state.specs.declared.request.Req.{Req}
use Rattle.share_state.specs.declared.share.Share.{Share}
use Rattle.share_state.specs.Reply.{of_status, opened_reply, fid_of}
use Rattle.share_state.specs.Query.{info_reply}
use Rattle.share_state.specs.Step.{step_of}
use Rattle.share_state.specs.Built.{is_built}
use Rattle.std.proofs.lemmas.Bool.{false≢true}
use Rattle.fs_plain.specs.Requests.{WireRequest, wire_request}
use Rattle.fs_plain.specs.Masked.{Untold, Nothing, NumberAndMark, Durability, untold, without, told_of}
use Rattle.fs_plain.specs.Replies.{is_error, body_in, reply_of, reply_by_status, is_aside_by_status, Pays}
use Rattle.fs_plain.specs.World.{us}
use Rattle.share_box.specs.declared.bodies.Said.{Said}
use Rattle.share_box.specs.declared.serving.Plan.{Plan}
use Rattle.share_box.specs.declared.state.State.{State}
use Rattle.share_box.specs.Bodies.{negotiated, challenge, session, tree, empty, error, opened, closed, in_part, information_size, buffer, body_of, status_of}
use Rattle.share_box.specs.Again.{IsBodyAgain}
use Rattle.share_box.specs.Answers.{begins_session, said_session, said_aside, reply_head, pending, interim_of}
use Rattle.share_box.specs.Serving.{plan_of, said_under, done_by}
use Rattle.share_box.specs.Paid.{IsPayment, owed_for, is_refusal, IsProper, IsReply, IsReplyTo, PaysAs, PaysInterim}
use Rattle.share_box.proofs.Reading.{stands, error_is, closed_is, opened_is, info_is, negotiated_is, session_is, tree_is, empty_is}
use Rattle.share_box.proofs.Built.{plan_built}
use Rattle.share_box.proofs.Shapes.{IsRefused, IsOpened, IsTold, create_shape, query_shape, close_shape}
use Rattle.share_box.proofs.Asking.{IsCreate, IsClose, IsQuery, HasHead, HasRequest, asked_head, plan_does_own, plan_has_head, plan_refuses_so}
use Rattle.share_box.proofs.Heard.{IsFinal, heard, heard_aside, heard_interim}

-- the message of a reply
abbrev message : Bool → Head → Said → List ℕ
message part head what = header head ++ body_of part what

-- behind any header the body is read as what this command is told of this reply
abbrev IsRead : Untold → ℕ → Rep → Type 0
IsRead u command reply =
    IsBodyAgain (in_part u) (said.Share reply) → (head : Head)
    → reply_by_status u reply.status.0 command (message (in_part u) head (said.Share reply)) ≡ Some (told_of u reply)

-- what a reply of the share says: it is no interim one, and it is read so
record Says (u : Untold) (command : ℕ) (reply : Rep) : Type 0 where
  final : IsFinal (said.Share reply)
  read : IsRead u command reply

of_three : (a b c : Bool) → (not a && not b && not c) ≡ true → ((not a && not b) ≡ true) × (c ≡ false)
of_three true b c is = absurd (cc is)
of_three false true c is = absurd (cc is)
of_three false false true is = absurd (cc is)
of_three false false false is = (refl, refl)

refused_by : (a b c e : Bool) (x y : Option Rep) → (not a && not b) ≡ true → e ≡ true → (if a || (b && c) then x else if e then y else None) ≡ y
refused_by true b c e x y h is = absurd (cc h)
refused_by false true c e x y h is = absurd (cc h)
refused_by false false c e x y h is = rw is refl

refused_in_part : (a b e : Bool) (x y : Option Rep) → (not a && not b) ≡ true → e ≡ true → (if a then x else if e then y else None) ≡ y
refused_in_part true b e x y h is = absurd (cc h)
refused_in_part false b e x y h is = rw is refl

refused_body : (part t u : Bool) (status : ℕ) → (status == 0) ≡ t → (not t && u) ≡ true → IsBodyAgain part (said.Share (of_status status))
    → IsReadAgain 9 error [] × (body_of part (said.Share (of_status status)) ≡ spelling 9 error [])
unfolding IsBodyAgain body_of
refused_body part true u status is h again = absurd (cc h)
refused_body part false u status is h again = (rw is at again, rw is refl)

refused_error : (part : Bool) (status : ℕ) → (not (status == 0) && not (status == 0x80000005)) ≡ true → IsBodyAgain part (said.Share (of_status status)) → (head : Head)
    → is_error (message part head (said.Share (of_status status))) ≡ true
refused_error part status refusal again head =
    let body : IsReadAgain 9 error [] × (body_of part (said.Share (of_status status)) ≡ spelling 9 error []) =
    refused_body part (status == 0) (not (status == 0x80000005)) status refl refusal again in
    subst (λ (b : List ℕ). is_error (header head ++ b) ≡ true) (sym body.1)
    (error_is (header head ++ spelling 9 error []) (stands 9 error [] (header head) body.0 (length-header head)))

-- a refusal has the body of an error, whatever is told
refused_read : (u : Untold) (command status : ℕ) → (not (status == 0) && not (status == 0x80000005)) ≡ true → IsRead u command (of_status status)
refused_read Nothing command status refusal again head =
    let m = message false head (said.Share (of_status status)) in
    refused_by (status == 0) (status == 0x80000005) (command == QUERY_INFO) (is_error m) (reply_of 0 (body_in Nothing command m)) (Some (of_status status)) refusal
    (refused_error false status refusal again head)
refused_read NumberAndMark command status refusal again head =
    let m = message true head (said.Share (of_status status)) in
    refused_in_part (status == 0) (status == 0x80000005) (is_error m) (reply_of 0 (body_in NumberAndMark command m)) (Some (of_status status)) refusal
    (refused_error true status refusal again head)
refused_read Durability command status refusal again head =
    let m = message false head (said.Share (of_status status)) in
    refused_by (status == 0) (status == 0x80000005) (command == QUERY_INFO) (is_error m) (reply_of 0 (body_in Durability command m)) (Some (of_status status)) refusal
    (refused_error false status refusal again head)

refused_says : (u : Untold) (command status : ℕ) → is_refusal status ≡ true → Says u command (of_status status)
refused_says u command status refusal =
    let parts : ((not (status == 0) && not (status == 0x80000005)) ≡ true) × ((status == 0x103) ≡ false) =
    of_three (status == 0) (status == 0x80000005) (status == 0x103) refusal in
    record { final = parts.1; read = refused_read u command status parts.0 }

-- what was done has the body of its command
success_says : (u : Untold) (command : ℕ) (m : List ℕ) → reply_by_status u 0 command m ≡ reply_of 0 (body_in u command m)
success_says Nothing command m = refl
success_says NumberAndMark command m = refl
success_says Durability command m = refl

none_told : (u : Untold) → body.None ≡ without u body.None
none_told Nothing = refl
none_told NumberAndMark = refl
none_told Durability = refl

-- a CREATE that was done
opened_read : (u : Untold) (number action size attributes : ℕ) → IsRead u CREATE (opened_reply number action size attributes)
unfolding IsBodyAgain body_of
opened_read u number action size attributes again head =
    success_says u CREATE (message (in_part u) head (said.Share (opened_reply number action size attributes)))
    ∙ ap (reply_of 0) (opened_is u (fid_of number) action size attributes (message (in_part u) head (said.Share (opened_reply number action size attributes)))
    (stands 89 (opened (fid_of number) action size attributes) [] (header head) again (length-header head)))

-- a Query that was done
told_read : (u : Untold) (s : Share) (node entry : ℕ) → IsRead u QUERY_INFO (info_reply s node entry)
unfolding IsBodyAgain body_of
told_read u s node entry again head =
    success_says u QUERY_INFO (message (in_part u) head (said.Share (info_reply s node entry)))
    ∙ ap (reply_of 0) (info_is u _ _ _ _ _ _ (message (in_part u) head (said.Share (info_reply s node entry))) again
    (stands 9 (buffer (information_size (in_part u))) _ (header head) again.body (length-header head)))

-- a Close that was done
closed_read : (u : Untold) → IsRead u CLOSE (of_status 0)
unfolding IsBodyAgain body_of
closed_read u again head =
    success_says u CLOSE (message (in_part u) head (said.Share (of_status 0)))
    ∙ ap (reply_of 0) (closed_is (message (in_part u) head (said.Share (of_status 0))) (stands 60 closed [] (header head) again (length-header head)))
    ∙ ap (λ (b : RepBody). Some (record { status = record { 0 = 0 }; body = b })) (none_told u)

created : (u : Untold) (command : ℕ) (reply : Rep) → command ≡ CREATE → IsRefused reply ⊎ IsOpened reply → Says u command reply
created u command reply by (inl r) = subst (Says u command) (sym r.is) (refused_says u command r.status r.refusal)
created u command reply by (inr o) =
    subst (λ (c : ℕ). Says u c reply) (sym by) (subst (Says u CREATE) (sym o.is) (record { final = refl; read = opened_read u o.number o.action o.size o.attributes }))

query_says : (u : Untold) (command : ℕ) (reply : Rep) → command ≡ QUERY_INFO → IsRefused reply ⊎ IsTold reply → Says u command reply
query_says u command reply by (inl r) = subst (Says u command) (sym r.is) (refused_says u command r.status r.refusal)
query_says u command reply by (inr o) =
    subst (λ (c : ℕ). Says u c reply) (sym by) (subst (Says u QUERY_INFO) (sym o.is) (record { final = refl; read = told_read u o.share o.node o.entry }))

ended : (u : Untold) (command : ℕ) (reply : Rep) → command ≡ CLOSE → IsRefused reply ⊎ (reply ≡ of_status 0) → Says u command reply
ended u command reply by (inl r) = subst (Says u command) (sym r.is) (refused_says u command r.status r.refusal)
ended u command reply by (inr is) = subst (λ (c : ℕ). Says u c reply) (sym by) (subst (Says u CLOSE) (sym is) (record { final = refl; read = closed_read u }))

-- a CREATE that the share takes
create_says : (u : Untold) (command : ℕ) (s : Share) (path : List ℕ) (access share disposition options attributes : ℕ) (lease : Option (Key × ℕ)) (durable : Bool)
    → command ≡ CREATE → is_built (req.Create path access share disposition options attributes lease durable) ≡ true
    → Says u command (step_of None s us (req.Create path access share disposition options attributes lease durable)).0
create_says u command s path access share disposition options attributes (Some wish) durable by built = absurd (false≢true built)
create_says u command s path access share disposition options attributes None true by built = absurd (false≢true built)
create_says u command s path access share disposition options attributes None false by built = created u command _ by (create_shape s us path (record {
  access = access;
  share = share;
  disposition = disposition;
  options = options;
  attributes = attributes;
  lease = None;
  durable = false;
}))

-- what the share replies to a request of a command
steps : (u : Untold) (command : ℕ) (s : Share) (r : Req) → is_built r ≡ true → IsCreate command r ⊎ (IsClose command r ⊎ IsQuery command r)
    → Says u command (step_of None s us r).0
steps u command s r built (inl c) =
    subst (λ (q : Req). Says u command (step_of None s us q).0) (sym c.is)
    (create_says u command s c.path c.access c.share c.disposition c.options c.attributes c.lease c.durable c.by
    (subst (λ (q : Req). is_built q ≡ true) c.is built))
steps u command s r built (inr (inl c)) =
    subst (λ (q : Req). Says u command (step_of None s us q).0) (sym c.is) (ended u command _ c.by (close_shape s us c.fid))
steps u command s r built (inr (inr c)) =
    subst (λ (q : Req). Says u command (step_of None s us q).0) (sym c.is) (query_says u command _ c.by (query_shape s us c.fid))

-- what is said to a request of the connection itself, by its command
abbrev chosen : Bool → Bool → Bool → Bool → Said
chosen a b c d =
    if a then said.Negotiated else if b then (if d then said.Challenge else said.Session) else if c then said.Tree else said.Done

chosen_says : (part a b c d : Bool) (command : ℕ) (head : Head) → (command == NEGOTIATE) ≡ a → (command == SESSION_SETUP) ≡ b → (command == TREE_CONNECT) ≡ c
    → IsBodyAgain part (chosen a b c d) → is_aside_by_status (status_of (chosen a b c d)).0 command (message part head (chosen a b c d)) ≡ true
unfolding IsBodyAgain body_of
chosen_says part true b c d command head p q r again =
    rw p (negotiated_is (message part head said.Negotiated) (stands 65 negotiated [] (header head) again (length-header head)))
chosen_says part false true c true command head p q r again =
    rw (p, q) (session_is 0 challenge (message part head said.Challenge) (stands 9 (session 0 56) challenge (header head) again (length-header head)))
chosen_says part false true c false command head p q r again =
    rw (p, q) (session_is 2 [] (message part head said.Session) (stands 9 (session 2 0) [] (header head) again (length-header head)))
chosen_says part false false true d command head p q r again =
    rw (p, q, r) (tree_is (message part head said.Tree) (stands 16 tree [] (header head) again (length-header head)))
chosen_says part false false false d command head p q r again =
    rw (p, q, r) (empty_is (message part head said.Done) (stands 4 empty [] (header head) again (length-header head)))

chosen_final : (a b c d : Bool) → IsFinal (chosen a b c d)
chosen_final true b c d = refl
chosen_final false true c true = refl
chosen_final false true c false = refl
chosen_final false false true d = refl
chosen_final false false false d = refl

aside_final : (command : ℕ) (request : List ℕ) → IsFinal (said_aside command request)
unfolding said_session
aside_final command request =
    chosen_final (command == NEGOTIATE) (command == SESSION_SETUP) (command == TREE_CONNECT) (begins_session request)

aside_says : (part : Bool) (command : ℕ) (request : List ℕ) (head : Head) → IsBodyAgain part (said_aside command request)
    → is_aside_by_status (status_of (said_aside command request)).0 command (message part head (said_aside command request)) ≡ true
unfolding said_session
aside_says part command request head again =
    chosen_says part (command == NEGOTIATE) (command == SESSION_SETUP) (command == TREE_CONNECT) (begins_session request)
    command head refl refl refl again

-- the frame of one message that pays is a payment
pays_by : (o : Owed) (head : Head) (part : Bool) (what : Said) (bytes : List ℕ) → IsReply head part what bytes → Pays o (message part head what) → IsPayment o bytes
pays_by o head part what bytes reply pays = record {
  message = message part head what;
  framed = reply.framed;
  alone = reply.alone;
  fits = (omega (arith, length-append (header head) (body_of part what), length-header head), reply.small);
  pays = pays;
}

-- the reply to a request that waits, by what is to be done for it, pays what is owed
pub paid : (p : Plan) (one : Sent) (s : Share) (credits : ℕ) (bytes : List ℕ) → plan_of one ≡ Some p → IsProper one
    → IsReplyTo (head_of one.message) (in_part (untold one.message)) credits one.pended (done_by p one s).0 bytes → IsPayment (owed_for p one (done_by p one s).0) bytes
paid plan.Aside one s credits bytes planned proper reply =
    let part : Bool = in_part (untold one.message) in
    let there : HasHead one.message = plan_has_head one plan.Aside planned in
    let what = said_aside there.head.command one.message in
    let head = reply_head there.head credits one.pended what in
    let r : IsReply head part what bytes =
    subst (λ (x : Result Head HeadFault). IsReplyTo x part credits one.pended (said_under x one.message) bytes) there.is reply in
    pays_by (owed.Aside one.mid one.message) head part what bytes r
    (heard_aside one.mid one.message (message part head what) there.head credits one.pended what there.is proper.own
    (aside_final there.head.command one.message) r.read
    ∙ aside_says part there.head.command one.message head r.again)
paid (plan.Refuse status) one s credits bytes planned proper reply =
    let part : Bool = in_part (untold one.message) in
    let there : HasHead one.message = plan_has_head one (plan.Refuse status) planned in
    let what = said.Share (of_status status.0) in
    let head = reply_head there.head credits one.pended what in
    let r : IsReply head part what bytes = subst (λ (x : Result Head HeadFault). IsReplyTo x part credits one.pended what bytes) there.is reply in
    let says : Says (untold one.message) there.head.command (of_status status.0) =
    refused_says (untold one.message) there.head.command status.0 (plan_refuses_so one status planned proper.outcome) in
    pays_by (owed.Reply one.mid one.message (of_status status.0)) head part what bytes r
    (heard one.mid one.message (message part head what) there.head credits one.pended what there.is proper.own says.final r.read ∙ says.read r.again head)
paid (plan.Do q) one s credits bytes planned proper reply =
    let part : Bool = in_part (untold one.message) in
    let there : HasRequest one.message q = plan_does_own one q planned in
    let what = said.Share (step_of None s us q).0 in
    let head = reply_head there.head credits one.pended what in
    let r : IsReply head part what bytes = subst (λ (x : Result Head HeadFault). IsReplyTo x part credits one.pended what bytes) there.is reply in
    let says : Says (untold one.message) there.head.command (step_of None s us q).0 =
    steps (untold one.message) there.head.command s q (plan_built one q planned) there.fits in
    pays_by (owed.Reply one.mid one.message (step_of None s us q).0) head part what bytes r
    (heard one.mid one.message (message part head what) there.head credits one.pended what there.is proper.own says.final r.read ∙ says.read r.again head)

-- so does the reply that a box writes
pub pays_as : (one : Sent) (b : State) (p : Plan) (what : Said) (bytes : List ℕ) → plan_of one ≡ Some p → (done_by p one b.share).0 ≡ what
    → bytes ≡ answers.reply_of b.credits one.pended one.message what
    → IsReplyTo (head_of one.message) (in_part (untold one.message)) b.credits one.pended what bytes → PaysAs (plan_of one) one b
pays_as one b p what bytes planned done is reply =
    let own : IsReplyTo (head_of one.message) (in_part (untold one.message)) b.credits one.pended (done_by p one b.share).0 bytes =
    subst (λ (w : Said). IsReplyTo (head_of one.message) (in_part (untold one.message)) b.credits one.pended w bytes) (sym done) reply in
    let same : bytes ≡ answers.reply_of b.credits one.pended one.message (done_by p one b.share).0 =
    is ∙ ap (λ (w : Said). answers.reply_of b.credits one.pended one.message w) (sym done) in
    subst (λ (o : Option Plan). PaysAs o one b) (sym planned)
    (λ proper. subst (λ (f : List ℕ). IsPayment (owed_for p one (done_by p one b.share).0) f) same
    (paid p one b.share b.credits bytes planned proper own))

-- a request asks for something
asked : (o : Option WireRequest) → is_none o ≡ false → (a : WireRequest) × (o ≡ Some a)
asked None is = absurd (cc is)
asked (Some a) is = (a, refl)

-- an interim reply pays what is owed for a request that is put off
interim_read : (part : Bool) (head : Head) → IsBodyAgain part pending → is_error (message part head pending) ≡ true
unfolding IsBodyAgain body_of
interim_read part head again = error_is (message part head pending) (stands 9 error [] (header head) again (length-header head))

pub interim_paid : (one : Sent) (bytes : List ℕ) → is_none (wire_request one.message) ≡ false → IsProper one
    → IsReplyTo (head_of one.message) (in_part (untold one.message)) 0 true pending bytes → IsPayment (owed.Interim one.mid one.message) bytes
interim_paid one bytes asks proper reply =
    let part : Bool = in_part (untold one.message) in
    let a : (a : WireRequest) × (wire_request one.message ≡ Some a) = asked (wire_request one.message) asks in
    let there : HasHead one.message = asked_head one.message a.0 a.1 in
    let head = reply_head there.head 0 true pending in
    let r : IsReply head part pending bytes = subst (λ (x : Result Head HeadFault). IsReplyTo x part 0 true pending bytes) there.is reply in
    pays_by (owed.Interim one.mid one.message) head part pending bytes r
    (heard_interim one.mid one.message (message part head pending) there.head there.is proper.own r.read (interim_read part head r.again))

-- as a box writes it, where the request was found
pub interim_pays : (found : Option Sent) (one : Sent) (bytes : List ℕ) → found ≡ Some one → bytes ≡ interim_of one.message
    → IsReplyTo (head_of one.message) (in_part (untold one.message)) 0 true pending bytes → PaysInterim found
interim_pays found one bytes is written reply =
    subst PaysInterim (sym is) (λ fresh asks proper.
    subst (IsPayment (owed.Interim one.mid one.message)) written (interim_paid one bytes asks proper reply))

-- what holds anyhow holds of a success
pub ok_any : {A E : Type 0} {P : Type 0} (r : Result A E) → P → OnOk r P
ok_any (Ok done) p = p
ok_any (Err e) p = tt
