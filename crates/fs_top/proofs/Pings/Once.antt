-- No two endings of a run have their causes in the same words and the same events.
use Rattle.std.proofs.Common.{◌≡◌, ◌==◌, ◌&&◌, inl, inr, ℕ, Bool, true, false, List, [], ◌∷◌, ◌++◌, Option, Some, None, Result, Ok, Err, MatchBool, refl, ap, sym, ◌∙◌, subst}
use Rattle.std.proofs.lemmas.List.{append_cancel_left}
use Rattle.smb_link.specs.declared.event.Event.{Event}
use Rattle.smb_link.specs.declared.event.Event.TheVariants.{Sent, Got, Quiet, Joined, NotJoined, Cut}
use Rattle.smb_head.specs.declared.command.TheConstants.{NEGOTIATE}
use Rattle.smb_head.specs.declared.head.Head.{Head}
use Rattle.smb_head.specs.declared.head.HeadFault.{HeadFault}
use Rattle.smb_head.specs.Header.{head_of}
use Rattle.smb_head.specs.Stream.{First, Partial, Whole, first_of}
use Rattle.smb_head.specs.Stream as stream
use Rattle.smb_chain.specs.Parts.{Step, Only, Then, step_of}
use Rattle.smb_chain.specs.Parts as parts
use Rattle.smb_body_a.specs.declared.negotiate.NegotiateReply.{NegotiateReply}
use Rattle.smb_body_a.specs.Negotiate.{IsNegotiateReply}
use Rattle.fs_top.specs.declared.ping.ending.Ending.{Ending}
use Rattle.fs_top.specs.declared.ping.ending.Ending.TheVariants as ending
use Rattle.fs_top.specs.declared.ping.ending.FirstFrameFault.TheVariants as kind
use Rattle.fs_top.specs.Ping.Request.{ping_frame}
use Rattle.fs_top.specs.Connects.{opening}
use Rattle.fs_top.specs.Ping.Run.{AskedEnds, ArePing, Causes}
use Rattle.fs_top.specs.Ping.Tale.{bytes_got, FirstEnds, LastEnds, WaitEnds}
use Rattle.fs_top.specs.Ping.Verdict.{is_reply, greeting_of, answer_of, unless_more, GreetingEnds, RefusalEnds, ReplyEnds, PartEnds}

-- two replies that stand in one message say the same
greeting_once : (part : List ℕ) (x y : NegotiateReply) → IsNegotiateReply x part → IsNegotiateReply y part → (x.dialect ≡ y.dialect) × (greeting_of x ≡ greeting_of y)
greeting_once part x y hx hy =
    let dialect : x.dialect ≡ y.dialect = sym hx.2.1.0 ∙ hy.2.1.0 in
    let guid : x.server_guid ≡ y.server_guid = sym hx.2.1.1.1.0 ∙ hy.2.1.1.1.0 in
    let caps : x.capabilities ≡ y.capabilities = sym hx.2.1.1.1.1.0 ∙ hy.2.1.1.1.1.0 in
    let transact : x.max_transact ≡ y.max_transact = sym hx.2.1.1.1.1.1.0 ∙ hy.2.1.1.1.1.1.0 in
    let reads : x.max_read ≡ y.max_read = sym hx.2.1.1.1.1.1.1.0 ∙ hy.2.1.1.1.1.1.1.0 in
    let write : x.max_write ≡ y.max_write = sym hx.2.1.1.1.1.1.1.1.0 ∙ hy.2.1.1.1.1.1.1.1.0 in
    (dialect, cc)

answer_once : (part : List ℕ) (x y : NegotiateReply) → IsNegotiateReply x part → IsNegotiateReply y part → answer_of x ≡ answer_of y
answer_once part x y hx hy =
    let same = greeting_once part x y hx hy in
    rw (same.0, same.1) refl

greeting_ends_once : (part : List ℕ) (rest : Option (List ℕ)) (e f : Ending) → GreetingEnds part rest e → GreetingEnds part rest f → e ≡ f
greeting_ends_once part rest e f (inl x) (inl y) = x.2 ∙ ap (unless_more rest) (answer_once part x.0 y.0 x.1 y.1) ∙ sym y.2
greeting_ends_once part rest e f (inl x) (inr none) = absurd (none.0 x.0 x.1)
greeting_ends_once part rest e f (inr none) (inl y) = absurd (none.0 y.0 y.1)
greeting_ends_once part rest e f (inr none) (inr nothing) = none.1 ∙ sym nothing.1

refusal_ends_once : (part : List ℕ) (rest : Option (List ℕ)) (e f : Ending) → RefusalEnds part rest e → RefusalEnds part rest f → e ≡ f
refusal_ends_once part rest e f (inl x) (inl y) = x.2 ∙ sym y.2
refusal_ends_once part rest e f (inl x) (inr none) = absurd (none.0 x.0 x.1)
refusal_ends_once part rest e f (inr none) (inl y) = absurd (none.0 y.0 y.1)
refusal_ends_once part rest e f (inr none) (inr nothing) = none.1 ∙ sym nothing.1

-- one of two, by a test, of which each has one ending
chosen_once : (b : Bool) (P Q : Ending → Type 0) (e f : Ending) → (P e → P f → e ≡ f) → (Q e → Q f → e ≡ f) → MatchBool b (P e) (Q e) → MatchBool b (P f) (Q f) → e ≡ f
chosen_once true P Q e f p q x y = p x y
chosen_once false P Q e f p q x y = q x y

same_once : (k e f : Ending) → e ≡ k → f ≡ k → e ≡ f
same_once k e f x y = x ∙ sym y

reply_ends_once : (head : Head) (part : List ℕ) (rest : Option (List ℕ)) (e f : Ending) → ReplyEnds head part rest e → ReplyEnds head part rest f → e ≡ f
reply_ends_once head part rest e f =
    chosen_once (head.mid.0 == 0)
    (λ x. MatchBool (head.command == NEGOTIATE && is_reply head) (MatchBool (head.status.0 == 0) (GreetingEnds part rest x) (RefusalEnds part rest x)) (x ≡ ending.Frame kind.Body))
    (λ x. x ≡ ending.Frame kind.Stranger) e f
    (chosen_once (head.command == NEGOTIATE && is_reply head)
    (λ x. MatchBool (head.status.0 == 0) (GreetingEnds part rest x) (RefusalEnds part rest x))
    (λ x. x ≡ ending.Frame kind.Body) e f
    (chosen_once (head.status.0 == 0) (GreetingEnds part rest) (RefusalEnds part rest) e f (greeting_ends_once part rest e f) (refusal_ends_once part rest e f))
    (same_once (ending.Frame kind.Body) e f))
    (same_once (ending.Frame kind.Stranger) e f)

part_ends_once : (head : Result Head HeadFault) (step : Step) (e f : Ending) → PartEnds head step e → PartEnds head step f → e ≡ f
part_ends_once (Err fault) step e f x y = x ∙ sym y
part_ends_once (Ok head) parts.Bad e f x y = x ∙ sym y
part_ends_once (Ok head) (Only part) e f x y = reply_ends_once head part None e f x y
part_ends_once (Ok head) (Then part rest) e f x y = reply_ends_once head part (Some rest) e f x y

first_ends_once : (first : First) (e f : Ending) → FirstEnds first e → FirstEnds first f → e ≡ f
first_ends_once Partial e f x y = absurd x
first_ends_once (stream.Bad fault) e f x y = x ∙ sym y
first_ends_once (Whole message rest) e f x y = part_ends_once (head_of message) (step_of message) e f x y

last_ends_once : (heard : List Event) (last : Event) (e f : Ending) → LastEnds heard last e → LastEnds heard last f → e ≡ f
last_ends_once heard (Got bytes) e f x y = first_ends_once (first_of (bytes_got heard ++ bytes)) e f x y
last_ends_once heard Quiet e f x y = x.1 ∙ sym y.1
last_ends_once heard Cut e f x y = x ∙ sym y
last_ends_once heard event e f x y = absurd x

-- events with one more at their end are known by their front and that one
last_once : (xs ys : List Event) (x y : Event) → xs ++ x ∷ [] ≡ ys ++ y ∷ [] → (xs ≡ ys) × (x ≡ y)
last_once [] [] x y is = (refl, cc)
last_once [] (b ∷ []) x y is = absurd (cc)
last_once [] (b ∷ c ∷ ys) x y is = absurd (cc)
last_once (a ∷ []) [] x y is = absurd (cc)
last_once (a ∷ b ∷ xs) [] x y is = absurd (cc)
last_once (a ∷ xs) (b ∷ ys) x y is =
    let rest : xs ++ x ∷ [] ≡ ys ++ y ∷ [] = cc in
    let first : a ≡ b = cc in
    let both = last_once xs ys x y rest in
    (cc, both.1)

wait_ends_once : (waited : List Event) (e f : Ending) → WaitEnds waited e → WaitEnds waited f → e ≡ f
wait_ends_once waited e f x y =
    let same = last_once x.heard y.heard x.last y.last (sym x.events_are ∙ y.events_are) in
    let there : LastEnds y.heard y.last e = subst (λ (l : Event). LastEnds y.heard l e) same.1 (subst (λ (h : List Event). LastEnds h x.last e) same.0 x.ends) in
    last_ends_once y.heard y.last e f there y.ends

asked_ends_once : (stood : Bool) (seed : List ℕ) (events : List Event) (e f : Ending) → AskedEnds stood seed events e → AskedEnds stood seed events f → e ≡ f
asked_ends_once stood seed events e f x y =
    let rest : Joined ∷ Sent (ping_frame seed) ∷ x.0 ≡ Joined ∷ Sent (ping_frame seed) ∷ y.0 = append_cancel_left (opening stood) (Joined ∷ Sent (ping_frame seed) ∷ x.0) (Joined ∷ Sent (ping_frame seed) ∷ y.0) (sym x.1 ∙ y.1) in
    let same : x.0 ≡ y.0 = cc in
    wait_ends_once y.0 e f (subst (λ (w : List Event). WaitEnds w e) same x.2) y.2

-- what was not joined was not asked
not_asked : (stood : Bool) (seed : List ℕ) (events : List Event) (e : Ending) → events ≡ opening stood ++ NotJoined ∷ [] → AskedEnds stood seed events e → ⊥
not_asked stood seed events e x y =
    let rest : NotJoined ∷ [] ≡ Joined ∷ Sent (ping_frame seed) ∷ y.0 = append_cancel_left (opening stood) (NotJoined ∷ []) (Joined ∷ Sent (ping_frame seed) ∷ y.0) (sym x ∙ y.1) in
    cc

-- the causes of an ending, as one of three
pub data Cause (words : List (List ℕ)) (stood : Bool) (seed : List ℕ) (events : List Event) (e : Ending) : Type 0 where
  by_words : e ≡ ending.Words → (ArePing words → ⊥) → events ≡ [] → Cause words stood seed events e
  by_refusal : e ≡ ending.Connects → ArePing words → events ≡ opening stood ++ NotJoined ∷ [] → Cause words stood seed events e
  by_wait : ArePing words → AskedEnds stood seed events e → Cause words stood seed events e

pub cause_of : (words : List (List ℕ)) (stood : Bool) (seed : List ℕ) (events : List Event) (e : Ending) → Causes words stood seed events e → Cause words stood seed events e
cause_of words stood seed events (ending.Greeted greeting) c = by_wait c.0 c.1
cause_of words stood seed events ending.Words c = by_words refl c.0 c.1
cause_of words stood seed events ending.Memory c = absurd c
cause_of words stood seed events (ending.Dialect dialect) c = by_wait c.0 c.1
cause_of words stood seed events (ending.Frame k) c = by_wait c.0 c.1
cause_of words stood seed events ending.Connects c = by_refusal refl c.0 c.1
cause_of words stood seed events ending.Cuts c = by_wait c.0 c.1

cause_once : (words : List (List ℕ)) (stood : Bool) (seed : List ℕ) (events : List Event) (e f : Ending) → Cause words stood seed events e → Cause words stood seed events f → e ≡ f
cause_once words stood seed events e f (by_words x never nothing) (by_words y neither too) = x ∙ sym y
cause_once words stood seed events e f (by_words x never nothing) (by_refusal y are is) = absurd (never are)
cause_once words stood seed events e f (by_words x never nothing) (by_wait are asked) = absurd (never are)
cause_once words stood seed events e f (by_refusal x are is) (by_words y never nothing) = absurd (never are)
cause_once words stood seed events e f (by_refusal x are is) (by_refusal y too same) = x ∙ sym y
cause_once words stood seed events e f (by_refusal x are is) (by_wait too asked) = absurd (not_asked stood seed events f is asked)
cause_once words stood seed events e f (by_wait are asked) (by_words y never nothing) = absurd (never are)
cause_once words stood seed events e f (by_wait are asked) (by_refusal y too is) = absurd (not_asked stood seed events e is asked)
cause_once words stood seed events e f (by_wait are asked) (by_wait too again) = asked_ends_once stood seed events e f asked again

-- one ending at most has its cause
pub causes_once : (words : List (List ℕ)) (stood : Bool) (seed : List ℕ) (events : List Event) (e f : Ending) → Causes words stood seed events e → Causes words stood seed events f → e ≡ f
causes_once words stood seed events e f x y =
    cause_once words stood seed events e f (cause_of words stood seed events e x) (cause_of words stood seed events f y)
