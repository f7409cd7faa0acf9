-- Stories that break one premise each, and runs that carry a script out, or do not.
use Rattle.std.proofs.Common.{rules, arith, ◌≡◌, refl, ap, ℕ, ◌<◌, false, if◌then◌else◌, List, [], ◌∷◌, ◌++◌, Result, Ok, Err}
use Rattle.std.specs.Prelude.{codes, set}
use Rattle.std.proofs.lemmas.Bool.{false≢true}
use Rattle.smb_le.specs.Numbers.{number_at}
use Rattle.smb_head.specs.Header.{head_of, head_at}
use Rattle.smb_head.specs.Stream.{frame, first_of, frames_in, rest_in}
use Rattle.smb_chain.specs.Parts.{step_of, parts_of}
use Rattle.smb_field.specs.declared.field.BodyFault.{BodyFault}
use Rattle.smb_field.specs.declared.field.BodyFault.TheVariants.{Short, Size, Value, Offset}
use Rattle.smb_field.specs.Rows.{part_in}
use Rattle.smb_body_a.specs.Empty.{empty_of}
use Rattle.smb_body_a.specs.Negotiate.{negotiate_request_of, negotiate_reply_of}
use Rattle.smb_body_a.specs.Session.{session_setup_request_of, session_setup_reply_of}
use Rattle.smb_body_a.specs.Tree.{tree_connect_request_of, tree_connect_reply_of}
use Rattle.smb_body_a.specs.declared.session.SessionSetupReply.{SessionSetupReply}
use Rattle.smb_mount.specs.declared.fault.MountFault.{MountFault}
use Rattle.smb_mount.specs.declared.fault.MountFault.TheVariants.{NotGuest}
use Rattle.smb_mount.specs.Kept as kept
use Rattle.smb_mount.specs.Replies.{ReadsSession, is_guest}
use Rattle.smb_mount.specs.Verdicts.{by_body, answered}
use Rattle.smb_link.specs.Came.{own}
use Rattle.smb_link.specs.declared.event.Event.{Event}
use Rattle.smb_link.specs.declared.event.Event.TheVariants as event
use Rattle.smb_link.specs.declared.mark.Mark.TheVariants as mark
use Rattle.fs_types.specs.declared.answer.Answer.TheVariants as answer
use Rattle.fs_types.specs.declared.call.Call.{Call}
use Rattle.fs_types.specs.declared.call.Call.TheVariants as call
use Rattle.fs_ahead.specs.declared.asked.Asked.TheVariants as asked
use Rattle.fs_ahead.specs.declared.asked.Over.TheVariants as over
use Rattle.fs_ahead.specs.Script.{Coming}
use Rattle.fs_plain.specs.Replies.{is_aside_reply}
use Rattle.fs_plain.specs.Requests.{wire_request}
use Rattle.fs_client.specs.View.{Client}
use Rattle.fs_client.specs.Mount.{Challenging}
use Rattle.fs_top.specs.Completeness.{IsAccepted, Favours, IsCarriedOut}
use Rattle.fs_top.proofs.FavourFrames.{greeting, greeting_reply, authenticate, authenticate_reply}
use Rattle.fs_top.proofs.FavourStory.{st, mid, story, client, x0, x1, server, session_read, at_most, flies}
use Rattle.fs_top.proofs.FavourMoves.{challenge, session, come_2}

-- a connect that is refused, and a connection that ends
a_refused_connect : (patience : ℕ) → Favours st patience 1000 false (event.NotJoined ∷ story) → ⊥
a_refused_connect patience f = false≢true f.steady

a_lost_connection : (patience : ℕ) → Favours st patience 1000 false (story ++ event.Cut ∷ []) → ⊥
a_lost_connection patience f = false≢true f.steady

-- a reply that grants nothing
abbrev starves : List Event
starves = event.Joined ∷ event.Sent (frame greeting) ∷ event.Took (mid 0) ∷ event.Got (frame (set greeting_reply 14 0)) ∷ []

none : {P : Type 0} → 0 < 0 → P
none is = absurd (omega (arith, is))

too_short : {P : Type 0} (n : ℕ) → n < n → P
too_short n is = absurd (omega (arith, is))

no_credit : (patience : ℕ) → Favours st patience 1000 false starves → ⊥
unfolding head_of head_at number_at first_of frames_in rest_in step_of parts_of wire_request is_aside_reply part_in empty_of negotiate_request_of negotiate_reply_of session_setup_request_of session_setup_reply_of tree_connect_request_of tree_connect_reply_of
no_credit patience f = none (f.granted (own starves) [] refl refl refl)

-- two receives in a row that bring nothing while a request is in flight, where the client waits for no more than two
abbrev falls_silent : List Event
falls_silent = event.Joined ∷ event.Sent (frame greeting) ∷ event.Quiet ∷ event.Quiet ∷ []

silence : Favours st 2 1000 false falls_silent → ⊥
unfolding head_of head_at number_at first_of step_of parts_of wire_request part_in negotiate_request_of
silence f = f.lively falls_silent [] refl (record {
  before = event.Joined ∷ event.Sent (frame greeting) ∷ [];
  later = event.Quiet ∷ event.Quiet ∷ [];
  are = refl;
  silent = ((λ is. flies _ _ is), (1, refl, ((λ is. flies _ _ is), (0, refl, refl))));
})

-- a session that is neither a guest's nor an anonymous one
abbrev not_a_guest : List ℕ
not_a_guest = set authenticate_reply 66 0

abbrev as_a_user : Client
as_a_user = client [] 3 3 35 (x0 ∷ x1 ∷ record { request = authenticate; reply = not_a_guest } ∷ []) server false

reads_user : ReadsSession not_a_guest (Ok (session_read 0))
unfolding number_at
reads_user = (at_most _ _ refl, refl, (refl, ((λ some. none some), (refl, tt))))

user_once : (body : Result SessionSetupReply BodyFault) → ReadsSession not_a_guest body → ◌≡◌ {A = Result kept.Session MountFault} (Err NotGuest) (by_body (answered challenge) body)
unfolding number_at
user_once (Ok x) reads = ap (λ (flags : ℕ). if is_guest flags then Ok session else Err NotGuest) reads.2.0
user_once (Err Short) reads = too_short 72 reads
user_once (Err Size) reads = absurd (reads.1 refl)
user_once (Err Value) reads = absurd reads.2
user_once (Err Offset) reads = none reads.3.0

no_guest : IsAccepted st as_a_user → ⊥
unfolding head_of head_at number_at
no_guest accepted = accepted NotGuest (record {
  before = x0 ∷ x1 ∷ [];
  exchange = record { request = authenticate; reply = not_a_guest };
  later = [];
  told = refl;
  stage = Challenging challenge;
  come = come_2;
  fails = record { some_body = (Ok (session_read 0), reads_user, refl); every_body = user_once };
})

-- a script of two calls with a pause between them, and runs of it
abbrev a_call : Call
a_call = call.Stat (codes "/")

abbrev two_calls : Coming
two_calls = record {
  asked = asked.Call (record { number = 1; lane = 0; call = a_call }) ∷ asked.Wait ∷ asked.Call (record { number = 3; lane = 0; call = a_call }) ∷ [];
  over = over.End;
}

abbrev begins : ℕ → Event
begins number = event.Marked (mark.Begin number 0 a_call)

abbrev answers : ℕ → Event
answers number = event.Marked (mark.Answer number answer.Done)

in_order : IsCarriedOut two_calls (begins 1 ∷ event.Quiet ∷ answers 1 ∷ begins 3 ∷ answers 3 ∷ event.Marked mark.End ∷ [])
in_order = record { begun = refl; answered = (refl, (refl, tt)) }

zero_one : {P : Type 0} → ◌≡◌ {A = ℕ} 0 1 → P
zero_one is = absurd (omega (arith, is))

two_one : {P : Type 0} → ◌≡◌ {A = ℕ} 2 1 → P
two_one is = absurd (omega (arith, is))

-- one that is not answered, one that is answered twice, and one whose second call is never begun
one_unanswered : IsCarriedOut two_calls (begins 1 ∷ answers 1 ∷ begins 3 ∷ []) → ⊥
one_unanswered is = zero_one is.answered.1.0

one_twice : IsCarriedOut two_calls (begins 1 ∷ answers 1 ∷ answers 1 ∷ begins 3 ∷ answers 3 ∷ []) → ⊥
one_twice is = two_one is.answered.0

one_not_begun : IsCarriedOut two_calls (begins 1 ∷ answers 1 ∷ answers 3 ∷ []) → ⊥
one_not_begun is = absurd (search (rules, is.begun))
