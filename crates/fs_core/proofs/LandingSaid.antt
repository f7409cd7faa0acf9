-- What a final reply says that smb_mux accepts: to a request of a call it is one that fits it, and to one of the connection itself it is
-- its reply.
use Rattle.std.proofs.Common.{◌≡◌, ◌∙◌, refl, sym, ap, ℕ, ◌==◌, Bool, true, false, if◌then◌else◌, not, ◌&&◌, ◌||◌, List, length, Option, Some, None, Result, Ok, Err, nat_lt, is_some, is_none}
use Rattle.std.proofs.lemmas.Bool.{false≢true}
use Rattle.smb_le.specs.Numbers.{number_at}
use Rattle.smb_head.specs.declared.command.TheConstants.{CREATE, CLOSE, QUERY_INFO}
use Rattle.smb_head.specs.declared.head.TheConstants.{PROTOCOL}
use Rattle.smb_head.specs.declared.head.Head.{Head}
use Rattle.smb_head.specs.declared.head.HeadFault.{HeadFault}
use Rattle.smb_head.specs.declared.head.HeadFault.TheVariants.{Short, Magic, Size}
use Rattle.smb_head.specs.Header.{head_of, head_at, is_reply, is_interim}
use Rattle.smb_field.specs.declared.field.BodyFault.{BodyFault}
use Rattle.smb_field.specs.Rows.{if_read}
use Rattle.smb_body_b.specs.declared.contexts.ContextSet.{ContextSet}
use Rattle.smb_body_b.specs.Contexts.{read_of}
use Rattle.smb_body_b.specs.Create.{CreateReplyValue, create_reply_of}
use Rattle.smb_body_b.specs.Close.{close_reply_of}
use Rattle.smb_body_c.specs.Directory.{buffer_reply_of}
use Rattle.smb_info.specs.Attributes.{all_of}
use Rattle.smb_mux.specs.Bodies.{reply_fault}
use Rattle.share_state.specs.declared.connection.Sent.{Sent}
use Rattle.share_state.specs.declared.request.Rep.{Rep}
use Rattle.share_state.specs.declared.request.RepBody.{RepBody}
use Rattle.share_state.specs.declared.request.RepBody.TheVariants as body
use Rattle.fs_plain.specs.Masked.{Untold, untold}
use Rattle.fs_plain.specs.Paired.{open_given}
use Rattle.fs_plain.specs.Requests.{WireRequest, wire_request}
use Rattle.fs_plain.specs.Replies.{command_of, answers, is_error, opened_with, opened_in, closed_in, info_of, info_in, is_success, reply_of, reply_by_status, reply_with, reply_in, is_aside_by_status, aside_with, is_aside_reply}
use Rattle.fs_plain.specs.World.{mid_of}
use Rattle.fs_client.specs.Asked.{creates, fits}
use Rattle.fs_client.proofs.Lists.{itself, none_some, some_is}
use Rattle.fs_client.proofs.Bodies.{create_agrees, close_agrees, asides_agree}
use Rattle.fs_client.proofs.Commands.{aside_command}
use Rattle.fs_core.specs.Steps.{said_by, said_in}

-- a message is a final reply to this request, sound by its header
pub record IsFinal (x : Sent) (part : List ℕ) : Type 0 where
  pub head : Head
  pub headed : head_of part ≡ Ok head
  pub mid : head.mid.0 ≡ x.mid.0
  pub command : head.command ≡ command_of x.message
  pub flagged : is_reply head ≡ true
  pub final : is_interim head ≡ false
  pub body : reply_fault head.status.0 head.command part ≡ None

-- the id of a message whose header reads
pub mid_is : (message : List ℕ) (head : Head) → head_of message ≡ Ok head → (mid_of message).0 ≡ head.mid.0
unfolding head_of head_at
mid_is message head is = by (nat_lt (length message) 64) (number_at 4 0 message == PROTOCOL) (number_at 2 4 message == 64) is
  where
    not_ok : {X : Type 0} (f : HeadFault) → ◌≡◌ {A = Result Head HeadFault} (Err f) (Ok head) → X
    not_ok f is = absurd (cc)

    by : (a b c : Bool)
        → ◌≡◌ {A = Result Head HeadFault} (if a then Err Short else (if b then (if c then Ok (head_at message) else Err Size) else Err Magic)) (Ok head)
        → (mid_of message).0 ≡ head.mid.0
    by true b c is = not_ok Short is
    by false true true is = ap the is
      where
        the : Result Head HeadFault → ℕ
        the (Ok h) = h.mid.0
        the (Err f) = 0
    by false true false is = not_ok Size is
    by false false c is = not_ok Magic is

-- it answers the request
all_true : (a b c : Bool) → a ≡ true → b ≡ true → c ≡ true → (a && b && c) ≡ true
all_true a b c p q r = ap (λ (t : Bool). t && b && c) p ∙ ap (λ (t : Bool). t && c) q ∙ r

answers_it : (x : Sent) (part : List ℕ) (f : IsFinal x part) → answers x.mid x.message f.head ≡ true
answers_it x part f = all_true (is_reply f.head) (f.head.mid.0 == x.mid.0) (f.head.command == command_of x.message) f.flagged
    (ap (λ (n : ℕ). n == x.mid.0) f.mid ∙ itself x.mid.0) (ap (λ (n : ℕ). n == command_of x.message) f.command ∙ itself (command_of x.message))

-- and says what its body says
pub said_is : (x : Sent) (part : List ℕ) (command : ℕ) → IsFinal x part → untold x.message ≡ Untold.Nothing → command_of x.message ≡ command
    → reply_in x.mid x.message part ≡ said_in command part
unfolding reply_in
said_is x part command f whole is =
    ap (λ (h : Result Head HeadFault). reply_with h x.mid x.message part) f.headed
    ∙ ap (λ (b : Bool). if b && not (is_interim f.head) then reply_by_status (untold x.message) f.head.status.0 (command_of x.message) part else None)
    (answers_it x part f)
    ∙ ap (λ (b : Bool). if not b then reply_by_status (untold x.message) f.head.status.0 (command_of x.message) part else None) f.final
    ∙ ap (λ (u : Untold). reply_by_status u f.head.status.0 (command_of x.message) part) whole
    ∙ ap (λ (n : ℕ). reply_by_status Untold.Nothing f.head.status.0 n part) is
    ∙ sym (ap (λ (h : Result Head HeadFault). said_by h command part) f.headed)

-- the reply to a request of the connection itself
abbrev Agrees : ℕ → Type 0
Agrees command = (status : ℕ) (message : List ℕ) → is_aside_by_status status command message ≡ is_none (reply_fault status command message)

pub aside_body : (x : Sent) (part : List ℕ) (f : IsFinal x part) → wire_request x.message ≡ Some WireRequest.Aside
    → is_aside_by_status f.head.status.0 (command_of x.message) part ≡ true
aside_body x part f aside =
    aside_command Agrees x.message asides_agree aside f.head.status.0 part
    ∙ ap (λ (n : ℕ). is_none (reply_fault f.head.status.0 n part)) (sym f.command) ∙ ap is_none f.body

pub aside_said : (x : Sent) (part : List ℕ) → IsFinal x part → wire_request x.message ≡ Some WireRequest.Aside → is_aside_reply x.mid x.message part ≡ true
unfolding is_aside_reply
aside_said x part f aside =
    ap (λ (h : Result Head HeadFault). aside_with h x.mid x.message part) f.headed
    ∙ all_true (answers x.mid x.message f.head) (not (is_interim f.head)) (is_aside_by_status f.head.status.0 (command_of x.message) part) (answers_it x part f)
    (ap not f.final)
    (aside_body x part f aside)

-- the body of a reply that is read
opened_gives : (message : List ℕ) (b : RepBody) → opened_in Untold.Nothing message ≡ Some b → is_some (open_given b) ≡ true
opened_gives message b is = by (create_reply_of message) is
  where
    with : (x : CreateReplyValue) (r : Result ContextSet BodyFault) → opened_with Untold.Nothing x r ≡ Some b → is_some (open_given b) ≡ true
    with x (Err f) is = absurd (none_some b is)
    with x (Ok set) is = ap (λ (c : RepBody). is_some (open_given c)) (sym (some_is _ b is))

    by : (r : Result CreateReplyValue BodyFault) → if_read r (λ x. opened_with Untold.Nothing x (read_of true x.contexts)) None ≡ Some b
        → is_some (open_given b) ≡ true
    by (Err f) is = absurd (none_some b is)
    by (Ok x) is = with x (read_of true x.contexts) is

closed_gives : (message : List ℕ) (b : RepBody) → closed_in message ≡ Some b → is_none (open_given b) ≡ true
closed_gives message b is = by (close_reply_of message) is
  where
    by : {X : Type 0} (r : Result X BodyFault) → if_read r (λ x. Some body.None) None ≡ Some b → is_none (open_given b) ≡ true
    by (Err f) is = absurd (none_some b is)
    by (Ok x) is = ap (λ (c : RepBody). is_none (open_given c)) (sym (some_is body.None b is))

info_gives : (message : List ℕ) (b : RepBody) → info_in Untold.Nothing message ≡ Some b → is_none (open_given b) ≡ true
info_gives message b is = by (buffer_reply_of message) is
  where
    known : {X : Type 0} {E : Type 0} (r : Result X E) (whole : X → RepBody) → ((x : X) → is_none (open_given (whole x)) ≡ true)
        → if_read r (λ x. Some (whole x)) None ≡ Some b → is_none (open_given b) ≡ true
    known (Err f) whole none is = absurd (none_some b is)
    known (Ok x) whole none is = ap (λ (c : RepBody). is_none (open_given c)) (sym (some_is (whole x) b is)) ∙ none x

    by : (r : Result (List ℕ) BodyFault) → if_read r (info_of Untold.Nothing) None ≡ Some b → is_none (open_given b) ≡ true
    by (Err f) is = absurd (none_some b is)
    by (Ok info) is = known (all_of info) _ (λ x. refl) is

-- the status and the body of a reply
record IsWith (status : ℕ) (o : Option RepBody) (reply : Rep) : Type 0 where
  given : RepBody
  read : o ≡ Some given
  is : reply ≡ record { status = record { 0 = status }; body = given }

with_is : (status : ℕ) (o : Option RepBody) (reply : Rep) → reply_of status o ≡ Some reply → IsWith status o reply
with_is status None reply is = absurd (none_some reply is)
with_is status (Some b) reply is = record { given = b; read = refl; is = sym (some_is _ reply is) }

error_gives : (status : ℕ) (message : List ℕ) (reply : Rep) → (if is_error message then reply_of status (Some body.None) else None) ≡ Some reply
    → reply ≡ record { status = record { 0 = status }; body = body.None }
error_gives status message reply is = by (is_error message) is
  where
    by : (t : Bool) → (if t then reply_of status (Some body.None) else None) ≡ Some reply → reply ≡ record { status = record { 0 = status }; body = body.None }
    by true is = sym (some_is _ reply is)
    by false is = absurd (none_some reply is)

-- a reply to a CREATE gives an open exactly where it has success
not_success : (status : ℕ) → is_success Untold.Nothing status CREATE ≡ false → (status == 0) ≡ false
not_success status is = by (status == 0) is
  where
    by : (t : Bool) → (t || (status == 0x80000005 && false)) ≡ false → t ≡ false
    by true is = is
    by false is = refl

create_fits : (x : Sent) (status : ℕ) (part : List ℕ) (reply : Rep) → creates x ≡ true → reply_by_status Untold.Nothing status CREATE part ≡ Some reply
    → fits x reply ≡ true
create_fits x status part reply is said =
    ap (λ (b : Bool). if b && reply.status.0 == 0 then is_some (open_given reply.body) else is_none (open_given reply.body)) is
    ∙ by (is_success Untold.Nothing status CREATE) refl said
  where
    by : (t : Bool) → is_success Untold.Nothing status CREATE ≡ t
        → (if t then reply_of 0 (opened_in Untold.Nothing part) else if is_error part then reply_of status (Some body.None) else None) ≡ Some reply
        → (if reply.status.0 == 0 then is_some (open_given reply.body) else is_none (open_given reply.body)) ≡ true
    by true success said =
        let w = with_is 0 (opened_in Untold.Nothing part) reply said in
        ap (λ (r : Rep). if r.status.0 == 0 then is_some (open_given r.body) else is_none (open_given r.body)) w.is ∙ opened_gives part w.given w.read
    by false success said =
        ap (λ (r : Rep). if r.status.0 == 0 then is_some (open_given r.body) else is_none (open_given r.body)) (error_gives status part reply said)
        ∙ ap (λ (b : Bool). if b then is_some (open_given body.None) else is_none (open_given body.None)) (not_success status success)

-- a reply to another request gives none
other_fits : (x : Sent) (status command : ℕ) (part : List ℕ) (o : Option RepBody) (reply : Rep) → creates x ≡ false
    → ((b : RepBody) → o ≡ Some b → is_none (open_given b) ≡ true)
    → (if is_success Untold.Nothing status command then reply_of 0 o else if is_error part then reply_of status (Some body.None) else None) ≡ Some reply
    → fits x reply ≡ true
other_fits x status command part o reply is none said =
    ap (λ (b : Bool). if b && reply.status.0 == 0 then is_some (open_given reply.body) else is_none (open_given reply.body)) is
    ∙ by (is_success Untold.Nothing status command) said
  where
    by : (t : Bool) → (if t then reply_of 0 o else if is_error part then reply_of status (Some body.None) else None) ≡ Some reply
        → is_none (open_given reply.body) ≡ true
    by true said =
        let w = with_is 0 o reply said in
        ap (λ (r : Rep). is_none (open_given r.body)) w.is ∙ none w.given w.read
    by false said = ap (λ (r : Rep). is_none (open_given r.body)) (error_gives status part reply said)

-- so what is said to a request of a call fits it
headed_by : {A : Type 0} (part : List ℕ) (head : Head) (command : ℕ) (reply : Rep) → head_of part ≡ Ok head → said_in command part ≡ Some reply
    → (reply_by_status Untold.Nothing head.status.0 command part ≡ Some reply → A) → A
headed_by part head command reply here said on = on (sym (ap (λ (h : Result Head HeadFault). said_by h command part) here) ∙ said)

pub create_said : (x : Sent) (part : List ℕ) (reply : Rep) → IsFinal x part → creates x ≡ true → said_in CREATE part ≡ Some reply → fits x reply ≡ true
create_said x part reply f is said = headed_by part f.head CREATE reply f.headed said (λ s. create_fits x f.head.status.0 part reply is s)

pub query_said : (x : Sent) (part : List ℕ) (reply : Rep) → IsFinal x part → creates x ≡ false → said_in QUERY_INFO part ≡ Some reply → fits x reply ≡ true
query_said x part reply f is said =
    headed_by part f.head QUERY_INFO reply f.headed said
    (λ s. other_fits x f.head.status.0 QUERY_INFO part (info_in Untold.Nothing part) reply is (info_gives part) s)

pub close_said : (x : Sent) (part : List ℕ) (reply : Rep) → IsFinal x part → creates x ≡ false → said_in CLOSE part ≡ Some reply → fits x reply ≡ true
close_said x part reply f is said =
    headed_by part f.head CLOSE reply f.headed said (λ s. other_fits x f.head.status.0 CLOSE part (closed_in part) reply is (closed_gives part) s)

-- and one to a CREATE or a CLOSE does say something
unsaid : (x : Sent) (part : List ℕ) (command : ℕ) (f : IsFinal x part) → command_of x.message ≡ command
    → is_some (reply_by_status Untold.Nothing f.head.status.0 command part) ≡ is_none (reply_fault f.head.status.0 command part) → said_in command part ≡ None
    → ⊥
unsaid x part command f is agree none = false≢true
    (ap is_some (sym none ∙ ap (λ (h : Result Head HeadFault). said_by h command part) f.headed) ∙ agree
    ∙ ap (λ (n : ℕ). is_none (reply_fault f.head.status.0 n part)) (sym (f.command ∙ is)) ∙ ap is_none f.body)

pub create_speaks : (x : Sent) (part : List ℕ) → IsFinal x part → command_of x.message ≡ CREATE → said_in CREATE part ≡ None → ⊥
create_speaks x part f is = unsaid x part CREATE f is (create_agrees Untold.Nothing f.head.status.0 part)

pub close_speaks : (x : Sent) (part : List ℕ) → IsFinal x part → command_of x.message ≡ CLOSE → said_in CLOSE part ≡ None → ⊥
close_speaks x part f is = unsaid x part CLOSE f is (close_agrees Untold.Nothing f.head.status.0 part)
