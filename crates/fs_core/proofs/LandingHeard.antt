-- A client with its exchanges, as messages come: bytes that make a frame whole are its messages, one after another, and a frame that
-- has no fault is its final replies.
use Rattle.std.proofs.Common.{◌≡◌, ◌∙◌, refl, sym, ap, ap₂, subst, ℕ, zero, suc, ◌==◌, ◌≤◌, Bool, true, false, cond, if◌then◌else◌, not, List, [], ◌∷◌, ◌++◌, length, Option, Some, None, Result, Ok, Err, append_assoc, append-nil}
use Rattle.smb_base.specs.declared.names.Mid.{Mid}
use Rattle.smb_head.specs.declared.head.Head.{Head}
use Rattle.smb_head.specs.declared.head.HeadFault.{HeadFault}
use Rattle.smb_head.specs.Header.{head_of, is_interim, is_reply_to}
use Rattle.smb_head.specs.Stream.{frames_in, rest_in}
use Rattle.smb_chain.specs.declared.parts.BadNext.{BadNext}
use Rattle.smb_chain.specs.Parts.{Step, Only, Then, Bad, step_of, with_rest, parts_within, parts_of}
use Rattle.smb_credit.specs.Window.{no_request}
use Rattle.smb_field.specs.declared.field.BodyFault.{BodyFault}
use Rattle.smb_field.specs.declared.field.BodyFault.TheVariants.{Value}
use Rattle.smb_field.specs.Faults.{error_fault}
use Rattle.smb_link.specs.declared.event.Event.TheVariants as event
use Rattle.smb_link.specs.Program.{Known}
use Rattle.smb_mux.specs.declared.fault.TakeFault.{TakeFault}
use Rattle.smb_mux.specs.declared.taken.Reply.{Reply}
use Rattle.smb_mux.specs.declared.taken.BreakNote.{BreakNote}
use Rattle.smb_mux.specs.declared.taken.Taken.{Taken}
use Rattle.smb_mux.specs.declared.look.Look.{Look}
use Rattle.smb_mux.specs.declared.look.Look.TheVariants as look
use Rattle.smb_mux.specs.Bodies.{reply_fault}
use Rattle.smb_mux.specs.Judged as mux
use Rattle.share_state.specs.declared.connection.Sent.{Sent}
use Rattle.share_state.specs.declared.request.Rep.{Rep}
use Rattle.share_state.specs.Sent.{sent_but, sent_with}
use Rattle.fs_plain.specs.Replies.{reply_in}
use Rattle.fs_plain.specs.Requests.{WireRequest, wire_request}
use Rattle.fs_plain.specs.Told.{told_after}
use Rattle.fs_plain.specs.World.{mid_of, messages_in, is_first_of_frame}
use Rattle.fs_client.specs.View.{Setting, Exchange, View, Client}
use Rattle.fs_client.specs.Asked.{fits}
use Rattle.fs_client.specs.After.{made_whole, exchange_as, exchange_by, exchanges_among, after}
use Rattle.fs_client.specs.Looks.{awaited_with, went, in_turn, drained_with, drained, landed_by, without, answers_aside, looked_reply, looked_as, looked_for, looked, all_looked}
use Rattle.fs_client.specs.Sane.{Sane}
use Rattle.fs_client.proofs.Lists.{none_some}
use Rattle.fs_client.proofs.Landing.{IsAwaited, awaited_is, looked_sane}
use Rattle.fs_client.proofs.Judging.{looked_next, interim_still, notice_still, parts_in}

-- a client with another view and more exchanges
abbrev pub hears : Client → View → List Exchange → Client
hears c v more = record { view = v; tally = record c.tally { exchanges = c.tally.exchanges ++ more } }

-- a message is looked at, and the exchange that it ends is told
abbrev pub heard : List ℕ → Client → Client
heard message c = hears c (looked message c.view) (exchange_by (awaited_with (mid_of message) c.view) message c.view)

abbrev pub all_heard : List (Result (List ℕ) BadNext) → Client → Client
all_heard [] c = c
all_heard (Err bad ∷ parts) c = all_heard parts c
all_heard (Ok message ∷ parts) c = all_heard parts (heard message c)

pub all_heard_is : (parts : List (Result (List ℕ) BadNext)) (c : Client)
    → hears c (all_looked parts c.view) (exchanges_among parts c.view) ≡ all_heard parts c
all_heard_is [] c = ap (λ (l : List Exchange). record c { tally = record c.tally { exchanges = l } }) (append-nil c.tally.exchanges)
all_heard_is (Err bad ∷ parts) c = all_heard_is parts c
all_heard_is (Ok message ∷ parts) c =
    ap (λ (l : List Exchange). record { view = all_looked parts (looked message c.view); tally = record c.tally { exchanges = l } })
    (sym (append_assoc c.tally.exchanges (exchange_by (awaited_with (mid_of message) c.view) message c.view) (exchanges_among parts (looked message c.view))))
    ∙ all_heard_is parts (heard message c)

-- what bytes tell beside messages moves no look
abbrev hearing : List ℕ → Known → View → View
hearing held known v = record v { held = held; told = record v.told { known = known } }

drained_same : (held : List ℕ) (known : Known) (n : ℕ) (v : View) → drained n (hearing held known v) ≡ hearing held known (drained n v)
drained_same held known zero v = refl
drained_same held known (suc n) v = by (in_turn v.flights v.early) (drained_same held known n)
  where
    by : (o : Option (Sent × Rep)) → ((u : View) → drained n (hearing held known u) ≡ hearing held known (drained n u))
        → drained_with o (drained n) (hearing held known v) ≡ hearing held known (drained_with o (drained n) v)
    by None others = refl
    by (Some next) others = others (went next.0 next.1 v)

looked_same : (held : List ℕ) (known : Known) (message : List ℕ) (v : View) → looked message (hearing held known v) ≡ hearing held known (looked message v)
looked_same held known message v = by (awaited_with (mid_of message) v)
  where
    landed : (x : Sent) (reply : Rep) (t : Bool)
        → (if t then drained (length v.early) (hearing held known (went x reply v))
        else record (hearing held known v) { early = v.early ++ (x.mid, reply) ∷ [] })
        ≡ hearing held known (if t then drained (length v.early) (went x reply v) else record v { early = v.early ++ (x.mid, reply) ∷ [] })
    landed x reply true = drained_same held known (length v.early) (went x reply v)
    landed x reply false = refl

    fit : (x : Sent) (reply : Rep) (t : Bool)
        → (if t then landed_by (Some x) reply (hearing held known v) else hearing held known v)
        ≡ hearing held known (if t then landed_by (Some x) reply v else v)
    fit x reply true = landed x reply (is_first_of_frame v.flights x)
    fit x reply false = refl

    at_reply : (x : Sent) (o : Option Rep) → looked_reply o x (hearing held known v) ≡ hearing held known (looked_reply o x v)
    at_reply x None = refl
    at_reply x (Some reply) = fit x reply (fits x reply)

    gone : (x : Sent) (t : Bool)
        → (if t then without x.mid (hearing held known v) else hearing held known v) ≡ hearing held known (if t then without x.mid v else v)
    gone x true = refl
    gone x false = refl

    asked : (x : Sent) (w : Option WireRequest) → looked_as w x message (hearing held known v) ≡ hearing held known (looked_as w x message v)
    asked x None = refl
    asked x (Some WireRequest.Aside) = gone x (answers_aside x message v.told.owners)
    asked x (Some (WireRequest.Share related request)) = at_reply x (reply_in x.mid x.message message)

    by : (o : Option Sent) → looked_for o message (hearing held known v) ≡ hearing held known (looked_for o message v)
    by None = refl
    by (Some x) = asked x (wire_request x.message)

exchange_same : (held : List ℕ) (known : Known) (message : List ℕ) (v : View) (o : Option Sent)
    → exchange_by o message (hearing held known v) ≡ exchange_by o message v
exchange_same held known message v None = refl
exchange_same held known message v (Some x) = by (wire_request x.message)
  where
    by : (w : Option WireRequest) → exchange_as w x message (hearing held known v) ≡ exchange_as w x message v
    by None = refl
    by (Some WireRequest.Aside) = refl
    by (Some (WireRequest.Share related request)) = refl

exchanges_same : (held : List ℕ) (known : Known) (parts : List (Result (List ℕ) BadNext)) (v : View)
    → exchanges_among parts (hearing held known v) ≡ exchanges_among parts v
exchanges_same held known [] v = refl
exchanges_same held known (Err bad ∷ parts) v = exchanges_same held known parts v
exchanges_same held known (Ok message ∷ parts) v =
    ap₂ (λ (a b : List Exchange). a ++ b) (exchange_same held known message v (awaited_with (mid_of message) v))
    (ap (exchanges_among parts) (looked_same held known message v) ∙ exchanges_same held known parts (looked message v))

-- the client as the bytes came, before the messages that they make whole are looked at
abbrev pub at_bytes : Setting → List ℕ → Client → Client
at_bytes st bytes c = record {
  view = record c.view { held = rest_in (c.view.held ++ bytes); told = told_after (event.Got bytes) (made_whole bytes c.view) c.view.told };
  tally = record (after st c (event.Got bytes)).tally { exchanges = c.tally.exchanges };
}

pub got_heard : (st : Setting) (bytes : List ℕ) (c : Client) → after st c (event.Got bytes) ≡ all_heard (made_whole bytes c.view) (at_bytes st bytes c)
got_heard st bytes c =
    ap (hears (at_bytes st bytes c) (after st c (event.Got bytes)).view)
    (sym (exchanges_same (rest_in (c.view.held ++ bytes)) (told_after (event.Got bytes) (made_whole bytes c.view) c.view.told).known
    (made_whole bytes c.view) c.view))
    ∙ all_heard_is (made_whole bytes c.view) (at_bytes st bytes c)

pub frame_heard : (st : Setting) (bytes frame : List ℕ) (c : Client) → frames_in (c.view.held ++ bytes) ≡ frame ∷ []
    → after st c (event.Got bytes) ≡ all_heard (parts_of frame) (at_bytes st bytes c)
frame_heard st bytes frame c whole =
    got_heard st bytes c
    ∙ ap (λ (parts : List (Result (List ℕ) BadNext)). all_heard parts (at_bytes st bytes c)) (ap messages_in whole ∙ append-nil (parts_of frame))

-- what moves nothing ends no exchange
none_left : (m : Mid) (xs : List Sent) → sent_with m (sent_but m xs) ≡ None
none_left m [] = refl
none_left m (x ∷ xs) = by (x.mid.0 == m.0) refl (none_left m xs)
  where
    by : (t : Bool) → (x.mid.0 == m.0) ≡ t → sent_with m (sent_but m xs) ≡ None → sent_with m (cond (not t) (x ∷ sent_but m xs) (sent_but m xs)) ≡ None
    by true is deeper = deeper
    by false is deeper = ap (λ (b : Bool). if b then Some x else sent_with m (sent_but m xs)) is ∙ deeper

still_silent : (message : List ℕ) (v : View) → looked message v ≡ v → exchange_by (awaited_with (mid_of message) v) message v ≡ []
still_silent message v still = by (awaited_with (mid_of message) v) refl still
  where
    ended : Sent → Exchange
    ended x = record { request = x.message; reply = message }

    gone : (x : Sent) → IsAwaited (mid_of message) v x → (t : Bool) → (if t then without x.mid v else v) ≡ v
        → (if t then ended x ∷ [] else []) ≡ []
    gone x at true still = absurd (none_some x (sym (none_left x.mid v.flights) ∙ ap (λ (u : View). sent_with x.mid u.flights) still ∙ at.there))
    gone x at false still = refl

    asked : (x : Sent) → IsAwaited (mid_of message) v x → (w : Option WireRequest) → looked_as w x message v ≡ v → exchange_as w x message v ≡ []
    asked x at None still = refl
    asked x at (Some WireRequest.Aside) still = gone x at (answers_aside x message v.told.owners) still
    asked x at (Some (WireRequest.Share related request)) still = refl

    by : (o : Option Sent) → awaited_with (mid_of message) v ≡ o → looked_for o message v ≡ v → exchange_by o message v ≡ []
    by None is still = refl
    by (Some x) is still = asked x (awaited_is (mid_of message) v x is) (wire_request x.message) still

heard_still : (message : List ℕ) (c : Client) → looked message c.view ≡ c.view → heard message c ≡ c
heard_still message c still =
    ap (λ (v : View). hears c v (exchange_by (awaited_with (mid_of message) c.view) message c.view)) still
    ∙ ap (λ (l : List Exchange). record c { tally = record c.tally { exchanges = c.tally.exchanges ++ l } }) (still_silent message c.view still)
    ∙ ap (λ (l : List Exchange). record c { tally = record c.tally { exchanges = l } }) (append-nil c.tally.exchanges)

-- one after another
heard_append : (ps qs : List (Result (List ℕ) BadNext)) (c : Client) → all_heard (ps ++ qs) c ≡ all_heard qs (all_heard ps c)
heard_append [] qs c = refl
heard_append (Err bad ∷ ps) qs c = heard_append ps qs c
heard_append (Ok message ∷ ps) qs c = heard_append ps qs (heard message c)

parts_append : (rs ss : List Reply) → parts_in (rs ++ ss) ≡ parts_in rs ++ parts_in ss
parts_append [] ss = refl
parts_append (r ∷ rs) ss = ap (λ (l : List (Result (List ℕ) BadNext)). Ok r.part ∷ l) (parts_append rs ss)

pub replies_append : (rs ss : List Reply) (c : Client) → all_heard (parts_in (rs ++ ss)) c ≡ all_heard (parts_in ss) (all_heard (parts_in rs) c)
replies_append rs ss c = ap (λ (ps : List (Result (List ℕ) BadNext)). all_heard ps c) (parts_append rs ss) ∙ heard_append (parts_in rs) (parts_in ss) c

-- what some messages brought, and that hearing them is hearing their final replies
record Brings (taken now : Taken) (parts : List (Result (List ℕ) BadNext)) (c : Client) : Type 0 where
  more : List Reply
  replies : now.replies ≡ taken.replies ++ more
  told : all_heard parts c ≡ all_heard (parts_in more) c

taken_is : (a b : Taken) → ◌≡◌ {A = Result Taken TakeFault} (Ok a) (Ok b) → a ≡ b
taken_is a b is = cc

not_taken : (f : TakeFault) (t : Taken) → ◌≡◌ {A = Result Taken TakeFault} (Err f) (Ok t) → ⊥
not_taken f t is = cc

-- a message that is no fault is a final reply, or moves nothing
one_brings : (awaited : List (ℕ × ℕ)) (taken now : Taken) (part : List ℕ) (c : Client) → Sane c.view → c.view.next ≤ no_request
    → mux.added (mux.look_of awaited taken part) part taken ≡ Ok now
    → Brings taken now (Ok part ∷ []) c
one_brings awaited taken now part c sane below is = by_head (head_of part) refl is
  where
    nothing : (t : Taken) → t ≡ now → t.replies ≡ taken.replies → looked part c.view ≡ c.view → Brings taken now (Ok part ∷ []) c
    nothing t same kept still =
        record { more = []; replies = ap (λ (x : Taken). x.replies) (sym same) ∙ kept ∙ sym (append-nil taken.replies); told = heard_still part c still }

    sound : (l : Look) (o : Option BodyFault) → (mux.added l part taken ≡ Ok now → Brings taken now (Ok part ∷ []) c)
        → mux.added (mux.if_sound l o) part taken ≡ Ok now → Brings taken now (Ok part ∷ []) c
    sound l None on is = on is
    sound l (Some f) on is = absurd (not_taken _ now is)

    reply : (head : Head) → head_of part ≡ Ok head → (t : Bool) → is_interim head ≡ t
        → mux.added (if t then mux.if_sound (look.Interim head.mid) (error_fault part)
        else mux.if_sound (look.Final head.mid) (reply_fault head.status.0 head.command part)) part taken ≡ Ok now
        → Brings taken now (Ok part ∷ []) c
    reply head here true interim is = sound (look.Interim head.mid) (error_fault part)
        (λ is. nothing (record taken { interim = taken.interim ++ head.mid ∷ [] }) (taken_is _ now is) refl (interim_still c.view part head here interim)) is
    reply head here false final is = sound (look.Final head.mid) (reply_fault head.status.0 head.command part)
        (λ is. record {
          more = record { mid = head.mid; part = part } ∷ [];
          replies =
              ap (λ (x : Taken). x.replies) (sym (taken_is (record taken { replies = taken.replies ++ record { mid = head.mid; part = part } ∷ [] }) now is));
          told = refl;
        }) is

    flagged : (head : Head) → head_of part ≡ Ok head → (t : Bool) → mux.added (if t then mux.looked_reply head part else mux.wrong Value) part taken ≡ Ok now
        → Brings taken now (Ok part ∷ []) c
    flagged head here true is = reply head here (is_interim head) refl is
    flagged head here false is = absurd (not_taken _ now is)

    for : (head : Head) → head_of part ≡ Ok head → (o : Option ℕ) → mux.added (mux.looked_for o head part) part taken ≡ Ok now
        → Brings taken now (Ok part ∷ []) c
    for head here None is = absurd (not_taken _ now is)
    for head here (Some command) is = flagged head here (is_reply_to command head) is

    noted : (head : Head) → head_of part ≡ Ok head → (head.mid.0 == no_request) ≡ true → (o : Option BreakNote)
        → mux.added (mux.looked_notice o) part taken ≡ Ok now → Brings taken now (Ok part ∷ []) c
    noted head here notice None is = absurd (not_taken _ now is)
    noted head here notice (Some note) is =
        nothing (record taken { breaks = taken.breaks ++ note ∷ [] }) (taken_is _ now is) refl (notice_still c.view part head sane below here notice)

    at : (head : Head) → head_of part ≡ Ok head → (t : Bool) → (head.mid.0 == no_request) ≡ t
        → mux.added (if t then mux.looked_notice (mux.notice_in head part)
        else mux.looked_for (mux.awaited_command awaited taken head.mid.0) head part) part taken ≡ Ok now → Brings taken now (Ok part ∷ []) c
    at head here true notice is = noted head here notice (mux.notice_in head part) is
    at head here false other is = for head here (mux.awaited_command awaited taken head.mid.0) is

    by_head : (h : Result Head HeadFault) → head_of part ≡ h → mux.added (mux.look_with h awaited taken part) part taken ≡ Ok now
        → Brings taken now (Ok part ∷ []) c
    by_head (Err f) here is = absurd (not_taken _ now is)
    by_head (Ok head) here is = at head here (head.mid.0 == no_request) refl is

-- messages, one after another
abbrev Others : ℕ → List (ℕ × ℕ) → Taken → Type 0
Others n awaited now =
    (taken : Taken) (rest : List ℕ) (c : Client) → Sane c.view → c.view.next ≤ no_request → mux.judged_within n awaited taken rest ≡ Ok now
    → Brings taken now (parts_within n rest) c

walk : (n : ℕ) (awaited : List (ℕ × ℕ)) (taken now : Taken) (bytes : List ℕ) (c : Client) → Sane c.view → c.view.next ≤ no_request
    → mux.judged_within n awaited taken bytes ≡ Ok now
    → Brings taken now (parts_within n bytes) c
walk zero awaited taken now bytes c sane below is =
    record { more = []; replies = ap (λ (x : Taken). x.replies) (sym (taken_is taken now is)) ∙ sym (append-nil taken.replies); told = refl }
walk (suc n) awaited taken now bytes c sane below is =
    by (head_of bytes) (step_of bytes) is (λ taken' rest c' sane' below' is'. walk n awaited taken' now rest c' sane' below' is')
  where
    more : (part rest : List ℕ) (r : Result Taken TakeFault) → mux.added (mux.look_of awaited taken part) part taken ≡ r
        → mux.on_with r (λ t. mux.judged_within n awaited t rest) ≡ Ok now
        → Others n awaited now
        → Brings taken now (Ok part ∷ parts_within n rest) c
    more part rest (Err f) one is on = absurd (not_taken f now is)
    more part rest (Ok between) one is on =
        let first = one_brings awaited taken between part c sane below one in
        let others = on between rest (heard part c) (looked_sane c.view part sane)
        (subst (λ (k : ℕ). k ≤ no_request) (sym (looked_next part c.view)) below) is in
        record {
          more = first.more ++ others.more;
          replies = others.replies ∙ ap (λ (l : List Reply). l ++ others.more) first.replies ∙ append_assoc taken.replies first.more others.more;
          told = others.told ∙ ap (all_heard (parts_in others.more)) first.told ∙ sym (replies_append first.more others.more c);
        }

    by : (h : Result Head HeadFault) (s : Step) → mux.judged_by h s awaited taken (mux.judged_within n awaited) ≡ Ok now
        → Others n awaited now
        → Brings taken now (with_rest s (parts_within n)) c
    by (Err f) s is on = absurd (not_taken _ now is)
    by (Ok head) Bad is on = absurd (not_taken _ now is)
    by (Ok head) (Only part) is on = one_brings awaited taken now part c sane below is
    by (Ok head) (Then part rest) is on = more part rest (mux.added (mux.look_of awaited taken part) part taken) refl is on

-- what a frame brings that has no fault
pub judged_heard : (awaited : List (ℕ × ℕ)) (frame : List ℕ) (taken : Taken) (c : Client) → Sane c.view → c.view.next ≤ no_request
    → mux.judged awaited frame ≡ Ok taken
    → all_heard (parts_of frame) c ≡ all_heard (parts_in taken.replies) c
unfolding mux.judged_from parts_of
judged_heard awaited frame taken c sane below is =
    let w = walk (suc (length frame)) awaited mux.nothing taken frame c sane below is in
    w.told ∙ ap (λ (rs : List Reply). all_heard (parts_in rs) c) (sym w.replies)
