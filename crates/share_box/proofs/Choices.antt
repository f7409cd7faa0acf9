-- In an honest story no choice is read ahead that grants a lease or a durable open, since the share grants none.
use Rattle.std.proofs.Common.{◌≡◌, ◌∙◌, ℕ, zero, suc, ◌==◌, ◌&&◌, Bool, true, false, not, if◌then◌else◌, List, [], ◌∷◌, ◌++◌, length, drop, refl, sym, ap, subst, inl, inr, append_assoc, Result, Ok, Err, Option, Some, None}
use Rattle.std.specs.Prelude.{filter, is_ok}
use Rattle.std.specs.Result.{IsOkAnd}
use Rattle.std.specs.List.{AllByRecursion}
use Rattle.std.proofs.lemmas.List.{append-nil}
use Rattle.std.proofs.lemmas.Bool.Decides.{eqb_tells}
use Rattle.smb_base.specs.declared.names.Key.{Key}
use Rattle.smb_base.specs.declared.names.Mid.{Mid}
use Rattle.smb_le.specs.Numbers.{number_at}
use Rattle.smb_head.specs.declared.command.TheConstants.{CREATE}
use Rattle.smb_head.specs.declared.head.Head.{Head}
use Rattle.smb_head.specs.declared.head.HeadFault.{HeadFault}
use Rattle.smb_head.specs.Header.{head_of, is_interim}
use Rattle.smb_head.specs.Stream.{frames_in, rest_in}
use Rattle.smb_head.proofs.FrameLaws.{first_of-nil}
use Rattle.smb_head.proofs.StreamLaws.{settled-partial, split, settled}
use Rattle.smb_chain.specs.declared.parts.BadNext.{BadNext}
use Rattle.smb_chain.specs.Parts.{parts_of}
use Rattle.share_state.specs.declared.connection.Grant.{Grant}
use Rattle.share_state.specs.declared.connection.Sent.{Sent}
use Rattle.share_state.specs.declared.connection.Owed.{Owed}
use Rattle.share_state.specs.declared.connection.Owed.TheVariants as owed
use Rattle.share_state.specs.declared.lease.Lease.{Lease}
use Rattle.share_state.specs.declared.opens.Open.{Open}
use Rattle.share_state.specs.declared.request.Req.{Req}
use Rattle.share_state.specs.declared.request.Rep.{Rep}
use Rattle.share_state.specs.declared.request.RepBody.{RepBody}
use Rattle.share_state.specs.declared.share.Share.{Share}
use Rattle.share_state.specs.Reply.{of_status}
use Rattle.share_state.specs.Close.{is_key_of, closed}
use Rattle.share_state.specs.Cut.{all_closed}
use Rattle.share_state.specs.Step.{step_of}
use Rattle.share_state.specs.Built.{is_built}
use Rattle.share_state.specs.Sent.{sent_with}
use Rattle.smb_link.specs.declared.event.Event.{Event}
use Rattle.smb_link.specs.declared.event.Event.TheVariants as event
use Rattle.smb_field.specs.declared.field.BodyFault.{BodyFault}
use Rattle.smb_field.specs.Rows.{if_read}
use Rattle.smb_field.proofs.Parts.{read_size, not_read}
use Rattle.smb_body_a.specs.Empty.{empty_of}
use Rattle.smb_body_b.specs.declared.contexts.ContextSet.{ContextSet}
use Rattle.smb_body_b.specs.Create.{CreateReplyValue, create_reply_of}
use Rattle.smb_body_b.specs.Contexts.{read_of}
use Rattle.smb_body_c.specs.Error.{error_reply_of}
use Rattle.smb_body_c.specs.Lease.{lease_break_of}
use Rattle.share_state.specs.declared.request.RepBody.TheVariants as body
use Rattle.fs_plain.specs.Masked.{Untold, Nothing, NumberAndMark, Durability, untold, without_number, told_of, masked}
use Rattle.fs_plain.proofs.Whole.{tells_durability, asked_tells}
use Rattle.fs_plain.specs.Requests.{WireRequest, wire_request}
use Rattle.fs_plain.specs.Replies.{Pays, command_of, answers, reply_of, reply_by_status, reply_with, reply_in, opened_in, interim_with, is_interim_of, is_aside_by_status, aside_with, is_aside_reply, notice_with, IsNotice, is_error, IsNoticeBody, opened_with}
use Rattle.fs_plain.specs.World.{us, grant_in, requests_in, messages_in, messages_got, resolved, refused_before, unless_refused_before, choice_now, after_sent, after_done, after_taking, after_took_of, after_pend_of, notices, breakable, happens}
use Rattle.fs_plain.specs.Ahead.{still_to_come, is_final, choice_of, is_opened, choice_among, ahead}
use Rattle.fs_plain.specs.Honest.{ArePaid, HonestFrom, IsHonest, at_start}
use Rattle.fs_plain.proofs.Deeds.{Connection, connection}
use Rattle.fs_plain.proofs.Steps.{step_connection}
use Rattle.share_box.specs.Truth.{IsBare, AreBare, IsAlwaysHonest}
use Rattle.share_box.proofs.SameShare.{step_grants}
use Rattle.share_box.proofs.Built.{IsBuiltIn, asked_built, resolved_built}

-- the choice that a message tells, if it is a final reply
abbrev told_by : Result Head HeadFault → List ℕ → Option Grant
told_by head message = if is_opened head then choice_of (opened_in Nothing message) else None

-- messages that grant nothing
abbrev Grants : Result (List ℕ) BadNext → Type 0
Grants (Err bad) = Unit {0}
Grants (Ok message) = IsBare (told_by (head_of message) message)

-- owed messages that grant nothing
abbrev GrantsNo : Owed → Type 0
GrantsNo (owed.Interim mid request) = Unit {0}
GrantsNo (owed.Reply mid request reply) = IsBare (grant_in reply.body) × (tells_durability (untold request) ≡ true)
GrantsNo (owed.Aside mid request) = Unit {0}
GrantsNo (owed.Notice key state wanted) = Unit {0}

and_left : (a b : Bool) → (a && b) ≡ true → a ≡ true
and_left true b is = refl
and_left false b is = is

and_right : (a b : Bool) → (a && b) ≡ true → b ≡ true
and_right true b is = is
and_right false b is = absurd (cc is)

is_number : (a b : ℕ) → (a == b) ≡ true → a ≡ b
is_number a b is = elim (eqb_tells a b) [
  | inl told ↦ told.1
  | inr told ↦ absurd (cc (is, told.0))
]

other_number : (a b c : ℕ) → a ≡ b → (b == c) ≡ false → (a == c) ≡ false
other_number a b c same other = ap (λ (n : ℕ). n == c) same ∙ other

-- a body of another size is not that of a CREATE reply
not_opened : (size : ℕ) (message : List ℕ) → number_at 2 64 message ≡ size → (size == 89) ≡ false → opened_in Nothing message ≡ None
unfolding create_reply_of
not_opened size message is other = not_read 89 (number_at 2 64 message) _ _ _ _ (other_number (number_at 2 64 message) size 89 is other)

error_size : (message : List ℕ) → is_error message ≡ true → number_at 2 64 message ≡ 9
unfolding error_reply_of
error_size message is = read_size 9 (number_at 2 64 message) _ _ is

empty_size : (message : List ℕ) → is_ok (empty_of message) ≡ true → number_at 2 64 message ≡ 4
unfolding empty_of
empty_size message is = read_size 4 (number_at 2 64 message) _ _ is

ok_and : {X E : Type 0} (P : X → Type 0) (r : Result X E) → IsOkAnd r P → is_ok r ≡ true
ok_and P (Ok x) is = refl
ok_and P (Err fault) is = absurd is

break_size : (message : List ℕ) → is_ok (lease_break_of message) ≡ true → number_at 2 64 message ≡ 44
unfolding lease_break_of
break_size message is = read_size 44 (number_at 2 64 message) _ _ is

bare_if : (a b : Bool) (choice : Option Grant) → (a ≡ true → b ≡ true → IsBare choice) → IsBare (if a && b then choice else None)
bare_if true true choice is = is refl refl
bare_if true false choice is = refl
bare_if false b choice is = refl

none_told : (head : Result Head HeadFault) (message : List ℕ) → opened_in Nothing message ≡ None → IsBare (told_by head message)
none_told (Err fault) message none = refl
none_told (Ok head) message none =
    bare_if (head.command == CREATE) (head.status.0 == 0) (choice_of (opened_in Nothing message)) (λ c s. subst (λ (o : Option RepBody). IsBare (choice_of o)) (sym none) refl)

if_some : (t : Bool) (x : Option Rep) (reply : Rep) → (if t then x else None) ≡ Some reply → (t ≡ true) × (x ≡ Some reply)
if_some true x reply is = (refl, is)
if_some false x reply is = absurd (cc is)

choice_told : (o : Option RepBody) (reply : Rep) → reply_of 0 o ≡ Some reply → choice_of o ≡ grant_in reply.body
choice_told None reply is = absurd (cc is)
choice_told (Some b) reply is = ap grant_in cc

-- a reply that tells of durability tells what it grants, whatever else it leaves out
same_opened : (r : Result CreateReplyValue BodyFault)
    → if_read r (λ (x : CreateReplyValue). opened_with NumberAndMark x (read_of true x.contexts)) None ≡ if_read r (λ (x : CreateReplyValue). opened_with Nothing x (read_of true x.contexts)) None
same_opened (Err fault) = refl
same_opened (Ok x) = by (read_of true x.contexts)
  where
    by : (c : Result ContextSet BodyFault) → opened_with NumberAndMark x c ≡ opened_with Nothing x c
    by (Ok set) = refl
    by (Err fault) = refl

same_grant : (b : RepBody) → grant_in (without_number b) ≡ grant_in b
same_grant body.None = refl
same_grant (body.Opened fid action size attributes lease durable) = refl
same_grant (body.Bytes bytes) = refl
same_grant (body.Count count) = refl
same_grant (body.Info dir size read_only links pending number) = refl
same_grant (body.Names names) = refl
same_grant (body.Room total free) = refl

opened_bare : (u : Untold) (message : List ℕ) (reply : Rep) → tells_durability u ≡ true → IsBare (grant_in reply.body)
    → reply_by_status u 0 CREATE message ≡ Some (told_of u reply) → IsBare (choice_of (opened_in Nothing message))
opened_bare Nothing message reply tells bare said = subst IsBare (sym (choice_told (opened_in Nothing message) reply said)) bare
opened_bare NumberAndMark message reply tells bare said =
    subst IsBare (sym (choice_told (opened_in Nothing message) (told_of NumberAndMark reply) (ap (reply_of 0) (sym (same_opened (create_reply_of message))) ∙ said) ∙ same_grant reply.body)) bare
opened_bare Durability message reply tells bare said = absurd (cc tells)

-- a reply that is owed tells what it grants
reply_told : (head : Result Head HeadFault) (mid : Mid) (request message : List ℕ) (reply : Rep) → IsBare (grant_in reply.body) → tells_durability (untold request) ≡ true
    → reply_with head mid request message ≡ Some (masked request reply) → IsBare (told_by head message)
reply_told (Err fault) mid request message reply bare tells is = refl
reply_told (Ok head) mid request message reply bare tells is =
    let u : Untold = untold request in
    let found : ((answers mid request head && not (is_interim head)) ≡ true) × (reply_by_status u head.status.0 (command_of request) message ≡ Some (told_of u reply)) =
    if_some (answers mid request head && not (is_interim head)) (reply_by_status u head.status.0 (command_of request) message) (told_of u reply) is in
    let same : head.command ≡ command_of request = is_number head.command (command_of request) (and_right _ _ (and_left _ _ found.0)) in
    bare_if (head.command == CREATE) (head.status.0 == 0) (choice_of (opened_in Nothing message)) (λ c s.
    let said : reply_by_status u 0 CREATE message ≡ Some (told_of u reply) =
    subst (λ (n : ℕ). reply_by_status u 0 n message ≡ Some (told_of u reply)) (sym same ∙ is_number head.command 5 c)
    (subst (λ (n : ℕ). reply_by_status u n (command_of request) message ≡ Some (told_of u reply)) (is_number head.status.0 0 s) found.1) in
    opened_bare u message reply tells bare said)

interim_told : (head : Result Head HeadFault) (mid : Mid) (request message : List ℕ) → interim_with head mid request message ≡ true → IsBare (told_by head message)
interim_told (Err fault) mid request message is = refl
interim_told (Ok head) mid request message is =
    none_told (Ok head) message (not_opened 9 message (error_size message (and_right (answers mid request head && is_interim head) _ is)) refl)

aside_told : (head : Result Head HeadFault) (mid : Mid) (request message : List ℕ) → aside_with head mid request message ≡ true → IsBare (told_by head message)
aside_told (Err fault) mid request message is = refl
aside_told (Ok head) mid request message is =
    let same : head.command ≡ command_of request =
    is_number head.command (command_of request) (and_right _ _ (and_left (answers mid request head) _ (and_left (answers mid request head && not (is_interim head)) _ is))) in
    bare_if (head.command == CREATE) (head.status.0 == 0) (choice_of (opened_in Nothing message)) (λ c s.
    let body : is_aside_by_status 0 5 message ≡ true =
    subst (λ (n : ℕ). is_aside_by_status 0 n message ≡ true) (sym same ∙ is_number head.command 5 c)
    (subst (λ (n : ℕ). is_aside_by_status n (command_of request) message ≡ true) (is_number head.status.0 0 s)
    (and_right (answers mid request head && not (is_interim head)) _ is)) in
    subst (λ (o : Option RepBody). IsBare (choice_of o)) (sym (not_opened 4 message (empty_size message body) refl)) refl)

notice_told : (head : Result Head HeadFault) (key : Key) (state : ℕ) (wanted : Bool) (message : List ℕ) → notice_with head key state wanted message → IsBare (told_by head message)
notice_told (Err fault) key state wanted message is = refl
notice_told (Ok head) key state wanted message is = none_told (Ok head) message (not_opened 44 message (break_size message (ok_and (IsNoticeBody key state wanted) (lease_break_of message) is.4)) refl)

-- a message that pays what grants nothing grants nothing
paid_grants : (o : Owed) (message : List ℕ) → GrantsNo o → Pays o message → Grants (Ok message)
unfolding is_interim_of reply_in is_aside_reply IsNotice
paid_grants (owed.Interim mid request) message none pays = interim_told (head_of message) mid request message pays
paid_grants (owed.Reply mid request reply) message none pays = reply_told (head_of message) mid request message reply none.0 none.1 pays
paid_grants (owed.Aside mid request) message none pays = aside_told (head_of message) mid request message pays
paid_grants (owed.Notice key state wanted) message none pays = notice_told (head_of message) key state wanted message pays

all_paid_grant : (owed : List Owed) (messages : List (Result (List ℕ) BadNext)) → AllByRecursion GrantsNo owed → ArePaid owed messages → AllByRecursion Grants messages
all_paid_grant owed [] none paid = tt
all_paid_grant [] (m ∷ messages) none paid = absurd paid
all_paid_grant (o ∷ owed) (Err bad ∷ messages) none paid = absurd paid
all_paid_grant (o ∷ owed) (Ok message ∷ messages) none paid = (paid_grants o message none.0 paid.0, all_paid_grant owed messages none.1 paid.1)

-- lists
every_drop : {X : Type 0} (P : X → Type 0) (n : ℕ) (xs : List X) → AllByRecursion P xs → AllByRecursion P (drop n xs)
every_drop P zero xs all = all
every_drop P (suc n) [] all = tt
every_drop P (suc n) (x ∷ xs) all = every_drop P n xs all.1

pub every_both : {X : Type 0} (P : X → Type 0) (xs ys : List X) → AllByRecursion P xs → AllByRecursion P ys → AllByRecursion P (xs ++ ys)
every_both P [] ys all others = others
every_both P (x ∷ xs) ys all others = (all.0, every_both P xs ys all.1 others)

messages_both : (xs ys : List (List ℕ)) → messages_in (xs ++ ys) ≡ messages_in xs ++ messages_in ys
messages_both [] ys = refl
messages_both (x ∷ xs) ys =
    ap (λ (l : List (Result (List ℕ) BadNext)). parts_of x ++ l) (messages_both xs ys) ∙ sym (append_assoc (parts_of x) (messages_in xs) (messages_in ys))

-- the choice that they tell for a request
choice_if : (final : Bool) (told later : Option Grant) → IsBare told → IsBare later → IsBare (if final then told else later)
choice_if true told later is is' = is
choice_if false told later is is' = is'

choice_bare : (mid : Mid) (messages : List (Result (List ℕ) BadNext)) → AllByRecursion Grants messages → IsBare (choice_among mid messages)
choice_bare mid [] all = refl
choice_bare mid (Err bad ∷ messages) all = choice_bare mid messages all.1
choice_bare mid (Ok message ∷ messages) all =
    choice_if (is_final mid (head_of message)) (if is_opened (head_of message) then choice_of (opened_in Nothing message) else None) (choice_among mid messages) all.0 (choice_bare mid messages all.1)

-- what leaves the bytes that are held, and adds nothing that grants to what is owed
record Passes (s after : Share) : Type 0 where
  held : after.held ≡ s.held
  owed : AllByRecursion GrantsNo s.owed → AllByRecursion GrantsNo after.owed

same_passes : (s after : Share) → after.held ≡ s.held → after.owed ≡ s.owed → Passes s after
same_passes s after held owed = record { held = held; owed = λ all. subst (AllByRecursion GrantsNo) (sym owed) all }

connection_passes : (s after : Share) → connection after ≡ connection s → Passes s after
connection_passes s after same = same_passes s after (ap (λ (c : Connection). c.held) same) (ap (λ (c : Connection). c.owed) same)

one_more_owed : (s after : Share) (o : Owed) → after.held ≡ s.held → after.owed ≡ s.owed ++ o ∷ [] → GrantsNo o → Passes s after
one_more_owed s after o held owed none =
    record { held = held; owed = λ all. subst (AllByRecursion GrantsNo) (sym owed) (every_both GrantsNo s.owed (o ∷ []) all (none, tt)) }

sent_passes : (s : Share) (requests : List Sent) (t : Bool) → Passes s (if t then record s { sent = s.sent ++ requests } else s)
sent_passes s requests true = same_passes s _ refl refl
sent_passes s requests false = same_passes s _ refl refl

done_passes : (s : Share) (x : Sent) (r : Req) (refusal : Option ℕ) (r' : Req) (choice : Option Grant) → is_built r' ≡ true → tells_durability (untold x.message) ≡ true
    → Passes s (after_done x r (unless_refused_before refusal s (step_of choice s us r')))
done_passes s x r None r' choice built tells =
    let leaves : connection (step_of choice s us r').1 ≡ connection s = step_connection choice s us r' in
    one_more_owed s _ (owed.Reply x.mid x.message (step_of choice s us r').0) (ap (λ (c : Connection). c.held) leaves)
    (ap (λ (c : Connection). c.owed ++ owed.Reply x.mid x.message (step_of choice s us r').0 ∷ []) leaves) (step_grants choice s us r' built, tells)
done_passes s x r (Some status) r' choice built tells = one_more_owed s _ (owed.Reply x.mid x.message (of_status status)) refl refl (refl, tells)

taking_passes : (s : Share) (x : Sent) (a : Option WireRequest) → IsBuiltIn a → wire_request x.message ≡ a → Passes s (after_taking a x s)
taking_passes s x None built is = same_passes s s refl refl
taking_passes s x (Some WireRequest.Aside) built is = one_more_owed s _ (owed.Aside x.mid x.message) refl refl tt
taking_passes s x (Some (WireRequest.Share related r)) built is =
    done_passes s x r (refused_before related x.last_create r) (resolved related x.last_create r) (choice_now s.grants)
    (resolved_built related x.last_create r built) (asked_tells x.message related r is)

took_passes : (s : Share) (found : Option Sent) → Passes s (after_took_of found s)
took_passes s None = same_passes s s refl refl
took_passes s (Some x) = taking_passes s x (wire_request x.message) (asked_built x.message) refl

pend_passes : (s : Share) (mid : Mid) (found : Option Sent) → Passes s (after_pend_of found mid s)
pend_passes s mid None = same_passes s s refl refl
pend_passes s mid (Some x) = one_more_owed s _ (owed.Interim mid x.message) refl refl tt

notice_none : (l : Option Lease) (key : Key) (state : ℕ) → AllByRecursion GrantsNo (notices l key state)
notice_none None key state = tt
notice_none (Some l) key state = by (l.who.0 == 0)
  where
    by : (t : Bool) → AllByRecursion GrantsNo (if t then owed.Notice key state true ∷ [] else [])
    by true = (tt, tt)
    by false = tt

pub closed_connection : (opens : List Open) (s : Share) → connection (all_closed opens s) ≡ connection s
closed_connection [] s = refl
closed_connection (o ∷ os) s = closed_connection os (closed o s)

dropped_passes : (s : Share) (key : Key) → Passes s (happens s (event.Dropped key))
dropped_passes s key =
    connection_passes s (happens s (event.Dropped key)) (closed_connection (filter (λ o. o.who.0 == 0 && not o.connected && is_key_of key o.key) s.opens) s)

break_passes : (s : Share) (key : Key) (state : ℕ) → Passes s (happens s (event.Break key state))
break_passes s key state = record {
  held = refl;
  owed = λ all. every_both GrantsNo s.owed (notices (breakable s.opens key s.leases) key state) all (notice_none (breakable s.opens key s.leases) key state);
}

-- from here on all that is got grants nothing
abbrev FromHere : Share → List Event → Type 0
FromHere s events = AllByRecursion Grants (messages_in (frames_in (s.held ++ still_to_come events)))

onward : (s after : Share) (events : List Event) → Passes s after → AllByRecursion GrantsNo s.owed → frames_in s.held ≡ []
    → (AllByRecursion GrantsNo after.owed → frames_in after.held ≡ [] → FromHere after events) → FromHere s events
onward s after events passes none part later =
    subst (λ (h : List ℕ). AllByRecursion Grants (messages_in (frames_in (h ++ still_to_come events)))) passes.held
    (later (passes.owed none) (subst (λ (h : List ℕ). frames_in h ≡ []) (sym passes.held) part))

at_end : (s : Share) (events : List Event) → still_to_come events ≡ [] → frames_in s.held ≡ [] → FromHere s events
at_end s events none part =
    subst (λ (f : List (List ℕ)). AllByRecursion Grants (messages_in f))
    (sym (ap (λ (l : List ℕ). frames_in (s.held ++ l)) none ∙ ap frames_in (append-nil s.held) ∙ part)) tt

all_got : (s : Share) (bytes : List ℕ) (events : List Event) → AllByRecursion Grants (messages_got bytes s) → FromHere (happens s (event.Got bytes)) events
    → FromHere s (event.Got bytes ∷ events)
all_got s bytes events now later =
    let cut = split (s.held ++ bytes) (still_to_come events) in
    subst (AllByRecursion Grants)
    (sym (ap (λ (l : List ℕ). messages_in (frames_in l)) (sym (append_assoc s.held bytes (still_to_come events))) ∙ ap messages_in cut.frames
    ∙ messages_both (frames_in (s.held ++ bytes)) (frames_in (rest_in (s.held ++ bytes) ++ still_to_come events))))
    (every_both Grants (messages_got bytes s) (messages_in (frames_in (rest_in (s.held ++ bytes) ++ still_to_come events))) now later)

from_here : (s : Share) (events : List Event) → HonestFrom s events → AllByRecursion GrantsNo s.owed → frames_in s.held ≡ [] → FromHere s events
from_here s [] honest none part = at_end s [] refl part
from_here s (event.Marked mark ∷ events) honest none part = from_here s events honest.1 none part
from_here s (event.Sent frame ∷ events) honest none part =
    onward s (after_sent frame s) events (sent_passes s (requests_in frame) s.connected) none part (from_here (after_sent frame s) events honest.1)
from_here s (event.Got bytes ∷ events) honest none part =
    all_got s bytes events (all_paid_grant s.owed (messages_got bytes s) none honest.0.paid)
    (from_here (happens s (event.Got bytes)) events honest.1 (every_drop GrantsNo (length (messages_got bytes s)) s.owed none) (settled (s.held ++ bytes)).no_frame)
from_here s (event.Quiet ∷ events) honest none part = from_here s events honest.1 none part
from_here s (event.Joined ∷ events) honest none part = at_end s (event.Joined ∷ events) refl part
from_here s (event.NotJoined ∷ events) honest none part = from_here s events honest.1 none part
from_here s (event.Cut ∷ events) honest none part = at_end s (event.Cut ∷ events) refl part
from_here s (event.Took mid ∷ events) honest none part =
    onward s (happens s (event.Took mid)) events (took_passes s (sent_with mid s.sent)) none part (from_here (happens s (event.Took mid)) events honest.1)
from_here s (event.Pend mid ∷ events) honest none part =
    onward s (happens s (event.Pend mid)) events (pend_passes s mid (sent_with mid s.sent)) none part (from_here (happens s (event.Pend mid)) events honest.1)
from_here s (event.Act who r reply ∷ events) honest none part =
    onward s (happens s (event.Act who r reply)) events (connection_passes s _ (step_connection (grant_in reply.body) s (record { 0 = who }) r)) none part
    (from_here (happens s (event.Act who r reply)) events honest.1)
from_here s (event.Break key state ∷ events) honest none part =
    onward s (happens s (event.Break key state)) events (break_passes s key state) none part (from_here (happens s (event.Break key state)) events honest.1)
from_here s (event.Dropped key ∷ events) honest none part =
    onward s (happens s (event.Dropped key)) events (dropped_passes s key) none part (from_here (happens s (event.Dropped key)) events honest.1)

ahead_onward : (s after : Share) (events : List Event) → Passes s after → AllByRecursion GrantsNo s.owed → frames_in s.held ≡ []
    → (AllByRecursion GrantsNo after.owed → frames_in after.held ≡ [] → AreBare (ahead after.held events)) → AreBare (ahead s.held events)
ahead_onward s after events passes none part later =
    subst (λ (h : List ℕ). AreBare (ahead h events)) passes.held
    (later (passes.owed none) (subst (λ (h : List ℕ). frames_in h ≡ []) (sym passes.held) part))

-- of the choice at a request that is taken, and of those after it
took_bare : (s after : Share) (mid : Mid) (events : List Event) → Passes s after → AllByRecursion GrantsNo s.owed → frames_in s.held ≡ []
    → (AllByRecursion GrantsNo after.owed → frames_in after.held ≡ [] → FromHere after events × AreBare (ahead after.held events))
    → AreBare (ahead s.held (event.Took mid ∷ events))
took_bare s after mid events passes none part later =
    let there : FromHere after events × AreBare (ahead after.held events) = later (passes.owed none) (subst (λ (h : List ℕ). frames_in h ≡ []) (sym passes.held) part) in (
      choice_bare mid (messages_in (frames_in (s.held ++ still_to_come events)))
          (subst (λ (h : List ℕ). AllByRecursion Grants (messages_in (frames_in (h ++ still_to_come events)))) passes.held there.0),
      subst (λ (h : List ℕ). AreBare (ahead h events)) passes.held there.1,
    )

nothing_held : frames_in [] ≡ []
nothing_held = (settled-partial [] first_of-nil).no_frame

-- the choices that are read ahead are bare
pub ahead_bare : (s : Share) (events : List Event) → HonestFrom s events → AllByRecursion GrantsNo s.owed → frames_in s.held ≡ [] → AreBare (ahead s.held events)
ahead_bare s [] honest none part = tt
ahead_bare s (event.Marked mark ∷ events) honest none part = ahead_bare s events honest.1 none part
ahead_bare s (event.Sent frame ∷ events) honest none part =
    ahead_onward s (after_sent frame s) events (sent_passes s (requests_in frame) s.connected) none part (ahead_bare (after_sent frame s) events honest.1)
ahead_bare s (event.Got bytes ∷ events) honest none part =
    ahead_bare (happens s (event.Got bytes)) events honest.1 (every_drop GrantsNo (length (messages_got bytes s)) s.owed none) (settled (s.held ++ bytes)).no_frame
ahead_bare s (event.Quiet ∷ events) honest none part = ahead_bare s events honest.1 none part
ahead_bare s (event.Joined ∷ events) honest none part = ahead_bare (happens s event.Joined) events honest.1 tt nothing_held
ahead_bare s (event.NotJoined ∷ events) honest none part = ahead_bare s events honest.1 none part
ahead_bare s (event.Cut ∷ events) honest none part = ahead_bare (happens s event.Cut) events honest.1 tt nothing_held
ahead_bare s (event.Took mid ∷ events) honest none part =
    took_bare s (happens s (event.Took mid)) mid events (took_passes s (sent_with mid s.sent)) none part
    (λ none' part'. (from_here (happens s (event.Took mid)) events honest.1 none' part', ahead_bare (happens s (event.Took mid)) events honest.1 none' part'))
ahead_bare s (event.Pend mid ∷ events) honest none part =
    ahead_onward s (happens s (event.Pend mid)) events (pend_passes s mid (sent_with mid s.sent)) none part (ahead_bare (happens s (event.Pend mid)) events honest.1)
ahead_bare s (event.Act who r reply ∷ events) honest none part =
    ahead_onward s (happens s (event.Act who r reply)) events (connection_passes s _ (step_connection (grant_in reply.body) s (record { 0 = who }) r)) none part
    (ahead_bare (happens s (event.Act who r reply)) events honest.1)
ahead_bare s (event.Break key state ∷ events) honest none part =
    ahead_onward s (happens s (event.Break key state)) events (break_passes s key state) none part (ahead_bare (happens s (event.Break key state)) events honest.1)
ahead_bare s (event.Dropped key ∷ events) honest none part =
    ahead_onward s (happens s (event.Dropped key)) events (dropped_passes s key) none part (ahead_bare (happens s (event.Dropped key)) events honest.1)

-- so a story that is honest whatever is chosen is honest at the choices that it tells itself
pub always_honest : (room : ℕ) (fold : Bool) (story : List Event) → IsAlwaysHonest room fold story → IsHonest room fold story
always_honest room fold story honest =
    honest (ahead [] story) (ahead_bare (at_start room fold []) story (honest [] tt) tt nothing_held)
