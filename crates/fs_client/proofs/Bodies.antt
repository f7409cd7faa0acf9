-- What requests in flight are judged by says of the body of a reply what the share machine's reading says: a reply to a CREATE or a CLOSE
-- has no fault exactly where one is read of it, and one to a QUERY_INFO whose reply leaves nothing out where, had it success, it brings an
-- information besides.
use Rattle.std.proofs.Common.{arith, ◌≡◌, ◌∙◌, refl, sym, ap, ap₂, ℕ, ◌+◌, ◌==◌, Bool, true, false, if◌then◌else◌, not, ◌&&◌, ◌||◌, List, [], ◌∷◌, length, Option, Some, None, Result, Ok, Err, nat_lt, nat_le, is_some, is_none}
use Rattle.std.specs.Prelude.{is_ok, slice_range}
use Rattle.std.specs.List.{AllByRecursion}
use Rattle.std.proofs.lemmas.Bool.{false≢true}
use Rattle.std.proofs.lemmas.Bool.Decides.{nat_tests}
use Rattle.smb_le.specs.Numbers.{number_at}
use Rattle.smb_head.specs.declared.command.TheConstants.{NEGOTIATE, SESSION_SETUP, LOGOFF, TREE_CONNECT, TREE_DISCONNECT, CREATE, CLOSE, ECHO, QUERY_INFO}
use Rattle.smb_field.specs.declared.field.BodyFault.{BodyFault}
use Rattle.smb_field.specs.declared.field.BodyFault.TheVariants.{Short, Size, Offset}
use Rattle.smb_field.specs.Body.{end_of_fixed}
use Rattle.smb_field.specs.Faults.{strays, fault_of, error_fault}
use Rattle.smb_field.specs.Rows.{lies_behind, part_in, with_part, if_read}
use Rattle.smb_body_a.specs.Empty.{empty_of}
use Rattle.smb_body_a.specs.Negotiate.{negotiate_reply_of}
use Rattle.smb_body_a.specs.Session.{session_setup_reply_of}
use Rattle.smb_body_a.specs.Tree.{tree_connect_reply_of}
use Rattle.smb_body_b.specs.declared.contexts.ContextSet.{ContextSet}
use Rattle.smb_body_b.specs.Close.{close_reply_of}
use Rattle.smb_body_b.specs.Contexts.{read_of}
use Rattle.smb_body_b.specs.Create.{CreateReplyValue, create_reply_of}
use Rattle.smb_body_c.specs.Directory.{buffer_reply_of}
use Rattle.smb_body_c.specs.Error.{error_reply_of}
use Rattle.share_state.specs.declared.request.RepBody.{RepBody}
use Rattle.share_state.specs.declared.request.RepBody.TheVariants as body
use Rattle.smb_mux.specs.Bodies.{first_fault, contexts_of, contexts_fault, create_fault, buffer_fault, negotiate_fault, session_fault, is_done, reply_fault}
use Rattle.fs_plain.specs.Masked.{Untold, Nothing, NumberAndMark, Durability}
use Rattle.fs_plain.specs.Replies.{is_error, opened_with, opened_in, closed_in, info_in, info_of, is_success, reply_of, reply_by_status, has_aside_body, is_aside_by_status}

-- a body of a size and a variable part
not_less : (a b : ℕ) → nat_lt a b ≡ not (nat_le b a)
not_less a b = grind (arith, nat_tests)

lies_is : (behind offset many : ℕ) (message : List ℕ) → lies_behind behind offset many message ≡ not (strays behind offset many message)
lies_is behind offset many message =
    sym (
    ap (λ (b : Bool). not (not (many == 0) && (b || nat_lt (length message) (offset + many)))) (not_less offset behind)
    ∙ ap (λ (b : Bool). not (not (many == 0) && (not (nat_le behind offset) || b))) (not_less (length message) (offset + many))
    ∙ by (many == 0) (nat_le behind offset) (nat_le (offset + many) (length message))
    )
  where
    by : (a b c : Bool) → not (not a && (not b || not c)) ≡ (a || (b && c))
    by true b c = refl
    by false true true = refl
    by false true false = refl
    by false false c = refl

-- what reads such a body finds no fault where its row does not: the part does not stray
sound_is : {X : Type 0} (size : ℕ) (read : Result X BodyFault) (stray : Bool) (message : List ℕ) → is_ok read ≡ not stray
    → is_ok (if nat_lt (length message) (end_of_fixed size) then Err Short else if number_at 2 64 message == size then read else Err Size) ≡ is_none (fault_of size stray message)
sound_is size read stray message agree = by (nat_lt (length message) (end_of_fixed size)) (number_at 2 64 message == size)
  where
    strayed : (b : Bool) → not b ≡ is_none (if b then Some Offset else None)
    strayed true = refl
    strayed false = refl

    by : (a b : Bool) → is_ok (if a then Err Short else if b then read else Err Size)
        ≡ is_none (if a then Some Short else (if b then (if stray then Some Offset else None) else Some Size))
    by true b = refl
    by false true = agree ∙ strayed stray
    by false false = refl

part_is : {X : Type 0} (behind offset many : ℕ) (message : List ℕ) (read : List ℕ → X)
    → is_ok (with_part {X = X} Offset (part_in behind offset many message) (λ bytes. Ok (read bytes))) ≡ not (strays behind offset many message)
unfolding part_in
part_is {X = X} behind offset many message read = by (lies_behind behind offset many message) ∙ lies_is behind offset many message
  where
    by : (b : Bool) → is_ok (with_part {X = X} Offset (if b then Some (slice_range message offset (offset + many)) else None) (λ bytes. Ok (read bytes))) ≡ b
    by true = refl
    by false = refl

-- the error body
pub error_is : (message : List ℕ) → is_none (error_fault message) ≡ is_error message
unfolding error_reply_of
error_is message =
    sym (sound_is 9 _ (strays 72 72 (number_at 4 68 message) message) message (part_is 72 72 (number_at 4 68 message) message _))

-- the body of success to a CREATE, with its contexts
contexts_are : (u : Untold) (x : CreateReplyValue) (r : Result ContextSet BodyFault) → is_none (contexts_fault r) ≡ is_some (opened_with u x r)
contexts_are u x (Ok set) = refl
contexts_are u x (Err fault) = refl

create_is : (u : Untold) (message : List ℕ) → is_none (create_fault message) ≡ is_some (opened_in u message)
unfolding create_reply_of part_in
create_is u message = by (nat_lt (length message) 152) (number_at 2 64 message == 89) (strays 152 (number_at 4 144 message) (number_at 4 148 message) message)
    (lies_behind 152 (number_at 4 144 message) (number_at 4 148 message) message) (lies_is 152 (number_at 4 144 message) (number_at 4 148 message) message) _ (λ bytes. refl)
  where
    by : (a b stray lies : Bool) → lies ≡ not stray → (value : List ℕ → CreateReplyValue) → ((bytes : List ℕ) → (value bytes).contexts ≡ bytes)
        → is_none (first_fault (if a then Some Short else (if b then (if stray then Some Offset else None) else Some Size)) (contexts_fault (read_of true (contexts_of message))))
        ≡ is_some (if_read (if a then Err Short else if b then with_part Offset (if lies then Some (contexts_of message) else None) (λ bytes. Ok (value bytes)) else Err Size)
        (λ x. opened_with u x (read_of true x.contexts)) None)
    by true b stray lies is value of = refl
    by false false stray lies is value of = refl
    by false true true true is value of = absurd (false≢true (sym is))
    by false true true false is value of = refl
    by false true false false is value of = absurd (false≢true is)
    by false true false true is value of =
        contexts_are u (value (contexts_of message)) (read_of true (contexts_of message))
        ∙ ap (λ (l : List ℕ). is_some (opened_with u (value (contexts_of message)) (read_of true l))) (sym (of (contexts_of message)))

-- a reply read of a status
read_is : (status : ℕ) (o : Option RepBody) → is_some (reply_of status o) ≡ is_some o
read_is status None = refl
read_is status (Some b) = refl

-- by status: success, or the error body
by_status : (t u : Bool) (message : List ℕ) (status : ℕ) (o : Option RepBody) (fault : Option BodyFault) → u ≡ t → is_some o ≡ is_none fault
    → is_some (if t then reply_of 0 o else if is_error message then reply_of status (Some body.None) else None) ≡ is_none (if u then fault else error_fault message)
by_status t u message status o fault same agree =
    by t ∙ sym (ap (λ (b : Bool). is_none (if b then fault else error_fault message)) same)
  where
    errors : (b : Bool) → is_some (if b then reply_of status (Some body.None) else None) ≡ b
    errors true = refl
    errors false = refl

    by : (b : Bool) → is_some (if b then reply_of 0 o else if is_error message then reply_of status (Some body.None) else None) ≡ is_none (if b then fault else error_fault message)
    by true = read_is 0 o ∙ agree
    by false = errors (is_error message) ∙ sym (error_is message)

-- a CREATE and a CLOSE have success by one status alone
success_is : (status command : ℕ) → (command == QUERY_INFO) ≡ false → (command == SESSION_SETUP) ≡ false → (u : Untold) → is_done status command ≡ is_success u status command
success_is status command query session u =
    ap₂ (λ (p q : Bool). status == 0 || (status == 0x80000005 && p) || (status == 0xC0000016 && q)) query session ∙ to u
  where
    done : (a b c : Bool) → (a || (b && false) || (c && false)) ≡ (a || (b && false))
    done true b c = refl
    done false true true = refl
    done false true false = refl
    done false false true = refl
    done false false false = refl

    alone : (a b c : Bool) → (a || (b && false) || (c && false)) ≡ a
    alone true b c = refl
    alone false true true = refl
    alone false true false = refl
    alone false false true = refl
    alone false false false = refl

    whole : (status == 0 || (status == 0x80000005 && false) || (status == 0xC0000016 && false)) ≡ (status == 0 || (status == 0x80000005 && command == QUERY_INFO))
    whole = done (status == 0) (status == 0x80000005) (status == 0xC0000016) ∙ ap (λ (p : Bool). status == 0 || (status == 0x80000005 && p)) (sym query)

    to : (u : Untold) → (status == 0 || (status == 0x80000005 && false) || (status == 0xC0000016 && false)) ≡ is_success u status command
    to Nothing = whole
    to Durability = whole
    to NumberAndMark = alone (status == 0) (status == 0x80000005) (status == 0xC0000016)

pub create_agrees : (u : Untold) (status : ℕ) (message : List ℕ) → is_some (reply_by_status u status CREATE message) ≡ is_none (reply_fault status CREATE message)
create_agrees u status message =
    by_status (is_success u status CREATE) (is_done status CREATE) message status (opened_in u message) (create_fault message) (success_is status CREATE refl refl u) (sym (create_is u message))

close_is : (message : List ℕ) → is_some (closed_in message) ≡ is_none (fault_of 60 false message)
unfolding close_reply_of
close_is message = read_some (close_reply_of message) ∙ sound_is 60 _ false message refl
  where
    read_some : {X : Type 0} (r : Result X BodyFault) → is_some (if_read r (λ x. Some body.None) None) ≡ is_ok r
    read_some (Ok x) = refl
    read_some (Err fault) = refl

pub close_agrees : (u : Untold) (status : ℕ) (message : List ℕ) → is_some (reply_by_status u status CLOSE message) ≡ is_none (reply_fault status CLOSE message)
close_agrees u status message =
    by_status (is_success u status CLOSE) (is_done status CLOSE) message status (closed_in message) (fault_of 60 false message) (success_is status CLOSE refl refl u) (close_is message)

-- a QUERY_INFO whose reply leaves nothing out has success also where more is known than there was room for
query_success : (status : ℕ) → is_done status QUERY_INFO ≡ is_success Nothing status QUERY_INFO
query_success status = done (status == 0) (status == 0x80000005) (status == 0xC0000016)
  where
    done : (a b c : Bool) → (a || (b && true) || (c && false)) ≡ (a || (b && true))
    done true b c = refl
    done false true true = refl
    done false true false = refl
    done false false true = refl
    done false false false = refl

buffer_is : (message : List ℕ) → is_ok (buffer_reply_of message) ≡ is_none (buffer_fault message)
unfolding buffer_reply_of
buffer_is message =
    sound_is 9 _ (strays 72 (number_at 2 66 message) (number_at 4 68 message) message) message (part_is 72 (number_at 2 66 message) (number_at 4 68 message) message _)

-- a reply to a QUERY_INFO has no fault where it has a buffer; that what stands there is an information is seen when it is read
pub query_agrees : (status : ℕ) (message : List ℕ) → ((info : List ℕ) → buffer_reply_of message ≡ Ok info → is_some (info_of Nothing info) ≡ true)
    → is_some (reply_by_status Nothing status QUERY_INFO message) ≡ is_none (reply_fault status QUERY_INFO message)
query_agrees status message informs =
    by_status (is_success Nothing status QUERY_INFO) (is_done status QUERY_INFO) message status (info_in Nothing message) (buffer_fault message) (query_success status)
    (read (buffer_reply_of message) informs ∙ buffer_is message)
  where
    read : (r : Result (List ℕ) BodyFault) → ((info : List ℕ) → r ≡ Ok info → is_some (info_of Nothing info) ≡ true) → is_some (if_read r (info_of Nothing) None) ≡ is_ok r
    read (Ok info) all = all info refl
    read (Err fault) all = refl

-- a reply that is read of one has no fault
pub query_read : (status : ℕ) (message : List ℕ) → is_some (reply_by_status Nothing status QUERY_INFO message) ≡ true → is_none (reply_fault status QUERY_INFO message) ≡ true
query_read status message read =
    ap (λ (b : Bool). is_none (if b then buffer_fault message else error_fault message)) (query_success status) ∙ by (is_success Nothing status QUERY_INFO) read
  where
    some_ok : (r : Result (List ℕ) BodyFault) → is_some (if_read r (info_of Nothing) None) ≡ true → is_ok r ≡ true
    some_ok (Ok info) is = refl
    some_ok (Err fault) is = absurd (false≢true is)

    errors : (b : Bool) → is_some (if b then reply_of status (Some body.None) else None) ≡ true → b ≡ true
    errors true is = refl
    errors false is = absurd (false≢true is)

    by : (t : Bool) → is_some (if t then reply_of 0 (info_in Nothing message) else if is_error message then reply_of status (Some body.None) else None) ≡ true
        → is_none (if t then buffer_fault message else error_fault message) ≡ true
    by true is = sym (buffer_is message) ∙ some_ok (buffer_reply_of message) (sym (read_is 0 (info_in Nothing message)) ∙ is)
    by false is = error_is message ∙ errors (is_error message) is

-- the same of a reply to the connection itself
aside_by : (t u : Bool) (b : Bool) (fault : Option BodyFault) (message : List ℕ) → u ≡ t → b ≡ is_none fault
    → (if t then b else is_error message) ≡ is_none (if u then fault else error_fault message)
aside_by t u b fault message same agree = by t ∙ sym (ap (λ (v : Bool). is_none (if v then fault else error_fault message)) same)
  where
    by : (v : Bool) → (if v then b else is_error message) ≡ is_none (if v then fault else error_fault message)
    by true = agree
    by false = sym (error_is message)

negotiate_is : (message : List ℕ) → is_ok (negotiate_reply_of message) ≡ is_none (negotiate_fault message)
unfolding negotiate_reply_of
negotiate_is message =
    sound_is 65 _ (strays 128 (number_at 2 120 message) (number_at 2 122 message) message) message (part_is 128 (number_at 2 120 message) (number_at 2 122 message) message _)

session_is : (message : List ℕ) → is_ok (session_setup_reply_of message) ≡ is_none (session_fault message)
unfolding session_setup_reply_of
session_is message =
    sound_is 9 _ (strays 72 (number_at 2 68 message) (number_at 2 70 message) message) message (part_is 72 (number_at 2 68 message) (number_at 2 70 message) message _)

tree_is : (message : List ℕ) → is_ok (tree_connect_reply_of message) ≡ is_none (fault_of 16 false message)
unfolding tree_connect_reply_of
tree_is message = sound_is 16 _ false message refl

empty_is : (message : List ℕ) → is_ok (empty_of message) ≡ is_none (fault_of 4 false message)
unfolding empty_of
empty_is message = sound_is 4 _ false message refl

abbrev Agrees : ℕ → Type 0
Agrees command = (status : ℕ) (message : List ℕ) → is_aside_by_status status command message ≡ is_none (reply_fault status command message)

pub asides_agree : AllByRecursion Agrees (NEGOTIATE ∷ SESSION_SETUP ∷ TREE_CONNECT ∷ LOGOFF ∷ TREE_DISCONNECT ∷ ECHO ∷ [])
asides_agree = (
  λ status message. aside_by (status == 0 || (status == 0xC0000016 && false)) (is_done status NEGOTIATE) (has_aside_body NEGOTIATE message) (negotiate_fault message) message
      (done (status == 0) (status == 0x80000005) (status == 0xC0000016) false) (negotiate_is message),
  (
    λ status message. aside_by (status == 0 || (status == 0xC0000016 && true)) (is_done status SESSION_SETUP) (has_aside_body SESSION_SETUP message) (session_fault message) message
        (done (status == 0) (status == 0x80000005) (status == 0xC0000016) true) (session_is message),
    (
      λ status message. aside_by (status == 0 || (status == 0xC0000016 && false)) (is_done status TREE_CONNECT) (has_aside_body TREE_CONNECT message) (fault_of 16 false message) message
          (done (status == 0) (status == 0x80000005) (status == 0xC0000016) false) (tree_is message),
      (
        λ status message. empty status message,
        (
          λ status message. empty status message,
          (
            λ status message. empty status message,
            tt,
          ),
        ),
      ),
    ),
  ),
)
  where
    done : (a b c d : Bool) → (a || (b && false) || (c && d)) ≡ (a || (c && d))
    done true b c d = refl
    done false true c d = refl
    done false false c d = refl

    empty : (status : ℕ) (message : List ℕ) → (if status == 0 || (status == 0xC0000016 && false) then is_ok (empty_of message) else is_error message)
        ≡ is_none (if status == 0 || (status == 0x80000005 && false) || (status == 0xC0000016 && false) then fault_of 4 false message else error_fault message)
    empty status message = aside_by (status == 0 || (status == 0xC0000016 && false)) (status == 0 || (status == 0x80000005 && false) || (status == 0xC0000016 && false)) (is_ok (empty_of message)) (fault_of 4 false message) message
        (done (status == 0) (status == 0x80000005) (status == 0xC0000016) false) (empty_is message)
