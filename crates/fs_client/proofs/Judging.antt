-- A frame that has no fault is looked at by its final replies alone, one after another: what smb_mux takes of it is all that moves the
-- client.
use Rattle.std.proofs.Common.{arith, ◌≡◌, ◌∙◌, refl, sym, ap, subst, ℕ, zero, suc, ◌==◌, ◌<◌, ◌≤◌, Bool, true, false, if◌then◌else◌, not, ◌&&◌, List, [], ◌∷◌, ◌++◌, length, Option, Some, None, Result, Ok, Err, nat_lt, is_none, append_assoc, append-nil, inl, inr}
use Rattle.std.specs.Prelude.{map}
use Rattle.std.proofs.lemmas.Bool.{false≢true}
use Rattle.std.proofs.lemmas.Bool.Decides.{eqb_tells}
use Rattle.smb_base.specs.declared.names.Mid.{Mid}
use Rattle.smb_le.specs.Numbers.{number_at}
use Rattle.smb_head.specs.declared.head.TheConstants.{PROTOCOL}
use Rattle.smb_head.specs.declared.head.Head.{Head}
use Rattle.smb_head.specs.declared.head.HeadFault.{HeadFault}
use Rattle.smb_head.specs.declared.head.HeadFault.TheVariants.{Short, Magic, Size}
use Rattle.smb_head.specs.Header.{head_of, head_at, is_interim, is_reply_to}
use Rattle.smb_chain.specs.declared.parts.BadNext.{BadNext}
use Rattle.smb_chain.specs.Parts.{Step, Only, Then, Bad, step_of, with_rest, parts_within, parts_of}
use Rattle.smb_credit.specs.Window.{no_request}
use Rattle.smb_field.specs.declared.field.BodyFault.{BodyFault}
use Rattle.smb_field.specs.declared.field.BodyFault.TheVariants.{Value}
use Rattle.smb_field.specs.Faults.{error_fault}
use Rattle.smb_mux.specs.declared.fault.TakeFault.{TakeFault}
use Rattle.smb_mux.specs.declared.taken.Reply.{Reply}
use Rattle.smb_mux.specs.declared.taken.BreakNote.{BreakNote}
use Rattle.smb_mux.specs.declared.taken.Taken.{Taken}
use Rattle.smb_mux.specs.declared.look.Look.{Look}
use Rattle.smb_mux.specs.declared.look.Look.TheVariants as look
use Rattle.smb_mux.specs.Bodies.{reply_fault}
use Rattle.smb_mux.specs.Judged as mux
use Rattle.share_state.specs.declared.connection.Sent.{Sent}
use Rattle.share_state.specs.declared.request.Rep.{Rep}
use Rattle.share_state.specs.Sent.{sent_with}
use Rattle.fs_plain.specs.Requests.{WireRequest, wire_request}
use Rattle.fs_plain.specs.Replies.{answers, command_of, reply_by_status, reply_with, reply_in, is_aside_by_status, aside_with, is_aside_reply}
use Rattle.fs_plain.specs.Masked.{untold}
use Rattle.fs_plain.specs.World.{mid_of, is_first_of_frame}
use Rattle.fs_plain.specs.Owners.{owner_of}
use Rattle.fs_client.specs.View.{View}
use Rattle.fs_client.specs.Asked.{fits}
use Rattle.fs_client.specs.Looks.{is_early, awaited_with, went, in_turn, drained_with, drained, landed_by, without, answers_aside, looked_reply, looked_as, looked_for, looked, all_looked}
use Rattle.fs_client.specs.Sane.{IsSent, Sane}
use Rattle.fs_client.proofs.Lists.{found}
use Rattle.fs_client.proofs.Landing.{looked_sane}

-- looking leaves the ids
drained_next : (n : ℕ) (v : View) → (drained n v).next ≡ v.next
drained_next zero v = refl
drained_next (suc n) v = by (in_turn v.flights v.early) (drained_next n)
  where
    by : (o : Option (Sent × Rep)) → ((u : View) → (drained n u).next ≡ u.next) → (drained_with o (drained n) v).next ≡ v.next
    by None others = refl
    by (Some next) others = others (went next.0 next.1 v)

landed_next : (x : Sent) (reply : Rep) (v : View) → (landed_by (Some x) reply v).next ≡ v.next
landed_next x reply v = by (is_first_of_frame v.flights x)
  where
    by : (t : Bool) → (if t then drained (length v.early) (went x reply v) else record v { early = v.early ++ (x.mid, reply) ∷ [] }).next ≡ v.next
    by true = drained_next (length v.early) (went x reply v)
    by false = refl

pub looked_next : (message : List ℕ) (v : View) → (looked message v).next ≡ v.next
looked_next message v = by (awaited_with (mid_of message) v)
  where
    fit : (x : Sent) (reply : Rep) (t : Bool) → (if t then landed_by (Some x) reply v else v).next ≡ v.next
    fit x reply true = landed_next x reply v
    fit x reply false = refl

    at_reply : (x : Sent) (o : Option Rep) → (looked_reply o x v).next ≡ v.next
    at_reply x None = refl
    at_reply x (Some reply) = fit x reply (fits x reply)

    gone : (x : Sent) (t : Bool) → (if t then without x.mid v else v).next ≡ v.next
    gone x true = refl
    gone x false = refl

    asked : (x : Sent) (w : Option WireRequest) → (looked_as w x message v).next ≡ v.next
    asked x None = refl
    asked x (Some WireRequest.Aside) = gone x (answers_aside x message v.told.owners)
    asked x (Some (WireRequest.Share related request)) = at_reply x (reply_in x.mid x.message message)

    by : (o : Option Sent) → (looked_for o message v).next ≡ v.next
    by None = refl
    by (Some x) = asked x (wire_request x.message)

-- an interim reply moves nothing
not_interim : (a b : Bool) → b ≡ true → (a && not b) ≡ false
not_interim true true is = refl
not_interim true false is = absurd (false≢true is)
not_interim false b is = refl

no_reply : (mid : Mid) (request message : List ℕ) (head : Head) → head_of message ≡ Ok head → is_interim head ≡ true → reply_in mid request message ≡ None
unfolding reply_in
no_reply mid request message head is interim =
    ap (λ (h : Result Head HeadFault). reply_with h mid request message) is
    ∙ ap (λ (b : Bool). if b then reply_by_status (untold request) head.status.0 (command_of request) message else None) (not_interim (answers mid request head) (is_interim head) interim)

no_aside : (mid : Mid) (request message : List ℕ) (head : Head) → head_of message ≡ Ok head → is_interim head ≡ true → is_aside_reply mid request message ≡ false
unfolding is_aside_reply
no_aside mid request message head is interim =
    ap (λ (h : Result Head HeadFault). aside_with h mid request message) is ∙ last (answers mid request head) (is_interim head) (is_aside_by_status head.status.0 (command_of request) message) interim
  where
    last : (a b c : Bool) → b ≡ true → (a && not b && c) ≡ false
    last true true c is = refl
    last true false c is = absurd (false≢true is)
    last false b c is = refl

pub interim_still : (v : View) (message : List ℕ) (head : Head) → head_of message ≡ Ok head → is_interim head ≡ true → looked message v ≡ v
interim_still v message head is interim = by (awaited_with (mid_of message) v)
  where
    never : (a b : Bool) → b ≡ false → (a && b) ≡ false
    never true b is = is
    never false b is = refl

    asked : (x : Sent) (w : Option WireRequest) → looked_as w x message v ≡ v
    asked x None = refl
    asked x (Some WireRequest.Aside) =
        ap (λ (b : Bool). if b then without x.mid v else v) (never (is_none (owner_of x.mid v.told.owners)) (is_aside_reply x.mid x.message message) (no_aside x.mid x.message message head is interim))
    asked x (Some (WireRequest.Share related request)) = ap (λ (o : Option Rep). looked_reply o x v) (no_reply x.mid x.message message head is interim)

    by : (o : Option Sent) → looked_for o message v ≡ v
    by None = refl
    by (Some x) = asked x (wire_request x.message)

-- the id of a message whose header reads
mid_is : (message : List ℕ) (head : Head) → head_of message ≡ Ok head → (mid_of message).0 ≡ head.mid.0
unfolding head_of head_at
mid_is message head is = by (nat_lt (length message) 64) (number_at 4 0 message == PROTOCOL) (number_at 2 4 message == 64) is
  where
    bad : (f : HeadFault) → ◌≡◌ {A = Result Head HeadFault} (Err f) (Ok head) → (mid_of message).0 ≡ head.mid.0
    bad f is = absurd (not_ok f is)
      where
        not_ok : (f : HeadFault) → ◌≡◌ {A = Result Head HeadFault} (Err f) (Ok head) → ⊥
        not_ok f is = cc

    good : ◌≡◌ {A = Result Head HeadFault} (Ok (head_at message)) (Ok head) → (mid_of message).0 ≡ head.mid.0
    good is = ap the is
      where
        the : Result Head HeadFault → ℕ
        the (Ok h) = h.mid.0
        the (Err f) = 0

    by : (a b c : Bool) → ◌≡◌ {A = Result Head HeadFault} (if a then Err Short else (if b then (if c then Ok (head_at message) else Err Size) else Err Magic)) (Ok head) → (mid_of message).0 ≡ head.mid.0
    by true b c is = bad Short is
    by false true true is = good is
    by false true false is = bad Size is
    by false false c is = bad Magic is

-- a notice moves nothing, since no request has its id
pub notice_still : (v : View) (message : List ℕ) (head : Head) → Sane v → v.next ≤ no_request → head_of message ≡ Ok head → (head.mid.0 == no_request) ≡ true → looked message v ≡ v
notice_still v message head sane below is notice = by (is_early (mid_of message) v.early) (sent_with (mid_of message) v.flights) refl
  where
    id : (mid_of message).0 ≡ no_request
    id = mid_is message head is ∙ same head.mid.0 no_request notice
      where
        same : (a b : ℕ) → (a == b) ≡ true → a ≡ b
        same a b is = elim (eqb_tells a b) [ inl told ↦ told.1 | inr told ↦ absurd (false≢true (sym told.0 ∙ is)) ]

    high : (a : ℕ) → a < v.next → a ≡ no_request → ⊥
    high a less is = omega (arith, less, is, below)

    by : (t : Bool) (o : Option Sent) → sent_with (mid_of message) v.flights ≡ o → looked_for (if t then None else o) message v ≡ v
    by true o there = refl
    by false None there = refl
    by false (Some x) there =
        let f = found (IsSent v.next) (mid_of message) v.flights x there sane.sent in
        absurd (high x.mid.0 f.0.0 (f.1 ∙ id))

-- the parts of replies, as messages
abbrev pub parts_in : List Reply → List (Result (List ℕ) BadNext)
parts_in replies = map (λ (r : Reply). Ok r.part) replies

looked_append : (ps qs : List (Result (List ℕ) BadNext)) (v : View) → all_looked (ps ++ qs) v ≡ all_looked qs (all_looked ps v)
looked_append [] qs v = refl
looked_append (Err bad ∷ ps) qs v = looked_append ps qs v
looked_append (Ok message ∷ ps) qs v = looked_append ps qs (looked message v)

parts_append : (rs ss : List Reply) → parts_in (rs ++ ss) ≡ parts_in rs ++ parts_in ss
parts_append [] ss = refl
parts_append (r ∷ rs) ss = ap (λ (l : List (Result (List ℕ) BadNext)). Ok r.part ∷ l) (parts_append rs ss)

-- what some messages brought, and that looking at them is looking at their final replies
pub record Brings (taken now : Taken) (parts : List (Result (List ℕ) BadNext)) (v : View) : Type 0 where
  pub more : List Reply
  pub replies : now.replies ≡ taken.replies ++ more
  pub looked_at : all_looked parts v ≡ all_looked (parts_in more) v

taken_is : (a b : Taken) → ◌≡◌ {A = Result Taken TakeFault} (Ok a) (Ok b) → a ≡ b
taken_is a b is = ap the is
  where
    the : Result Taken TakeFault → Taken
    the (Ok t) = t
    the (Err f) = a

not_taken : (f : TakeFault) (t : Taken) → ◌≡◌ {A = Result Taken TakeFault} (Err f) (Ok t) → ⊥
not_taken f t is = cc

-- a message that is no fault is a final reply, or moves nothing
one_brings : (awaited : List (ℕ × ℕ)) (taken now : Taken) (part : List ℕ) (v : View) → Sane v → v.next ≤ no_request → mux.added (mux.look_of awaited taken part) part taken ≡ Ok now → Brings taken now (Ok part ∷ []) v
one_brings awaited taken now part v sane below is = by_head (head_of part) refl is
  where
    nothing : (t : Taken) → t ≡ now → t.replies ≡ taken.replies → looked part v ≡ v → Brings taken now (Ok part ∷ []) v
    nothing t same kept still = record { more = []; replies = ap (λ (x : Taken). x.replies) (sym same) ∙ kept ∙ sym (append-nil taken.replies); looked_at = still }

    sound : (head : Head) (l : Look) (o : Option BodyFault) → (mux.added l part taken ≡ Ok now → Brings taken now (Ok part ∷ []) v) → mux.added (mux.if_sound l o) part taken ≡ Ok now → Brings taken now (Ok part ∷ []) v
    sound head l None on is = on is
    sound head l (Some f) on is = absurd (not_taken _ now is)

    reply : (head : Head) → head_of part ≡ Ok head → (t : Bool) → is_interim head ≡ t
        → mux.added (if t then mux.if_sound (look.Interim head.mid) (error_fault part) else mux.if_sound (look.Final head.mid) (reply_fault head.status.0 head.command part)) part taken ≡ Ok now
        → Brings taken now (Ok part ∷ []) v
    reply head here true interim is = sound head (look.Interim head.mid) (error_fault part)
        (λ is. nothing (record taken { interim = taken.interim ++ head.mid ∷ [] }) (taken_is _ now is) refl (interim_still v part head here interim)) is
    reply head here false final is = sound head (look.Final head.mid) (reply_fault head.status.0 head.command part)
        (λ is. record {
          more = record { mid = head.mid; part = part } ∷ [];
          replies = ap (λ (x : Taken). x.replies) (sym (taken_is (record taken { replies = taken.replies ++ record { mid = head.mid; part = part } ∷ [] }) now is));
          looked_at = refl;
        }) is

    flagged : (head : Head) → head_of part ≡ Ok head → (t : Bool) → mux.added (if t then mux.looked_reply head part else mux.wrong Value) part taken ≡ Ok now → Brings taken now (Ok part ∷ []) v
    flagged head here true is = reply head here (is_interim head) refl is
    flagged head here false is = absurd (not_taken _ now is)

    for : (head : Head) → head_of part ≡ Ok head → (o : Option ℕ) → mux.added (mux.looked_for o head part) part taken ≡ Ok now → Brings taken now (Ok part ∷ []) v
    for head here None is = absurd (not_taken _ now is)
    for head here (Some command) is = flagged head here (is_reply_to command head) is

    noted : (head : Head) → head_of part ≡ Ok head → (head.mid.0 == no_request) ≡ true → (o : Option BreakNote) → mux.added (mux.looked_notice o) part taken ≡ Ok now → Brings taken now (Ok part ∷ []) v
    noted head here notice None is = absurd (not_taken _ now is)
    noted head here notice (Some note) is =
        nothing (record taken { breaks = taken.breaks ++ note ∷ [] }) (taken_is _ now is) refl (notice_still v part head sane below here notice)

    at : (head : Head) → head_of part ≡ Ok head → (t : Bool) → (head.mid.0 == no_request) ≡ t
        → mux.added (if t then mux.looked_notice (mux.notice_in head part) else mux.looked_for (mux.awaited_command awaited taken head.mid.0) head part) part taken ≡ Ok now → Brings taken now (Ok part ∷ []) v
    at head here true notice is = noted head here notice (mux.notice_in head part) is
    at head here false other is = for head here (mux.awaited_command awaited taken head.mid.0) is

    by_head : (h : Result Head HeadFault) → head_of part ≡ h → mux.added (mux.look_with h awaited taken part) part taken ≡ Ok now → Brings taken now (Ok part ∷ []) v
    by_head (Err f) here is = absurd (not_taken _ now is)
    by_head (Ok head) here is = at head here (head.mid.0 == no_request) refl is

-- messages, one after another
walk : (n : ℕ) (awaited : List (ℕ × ℕ)) (taken now : Taken) (bytes : List ℕ) (v : View) → Sane v → v.next ≤ no_request → mux.judged_within n awaited taken bytes ≡ Ok now → Brings taken now (parts_within n bytes) v
walk zero awaited taken now bytes v sane below is =
    record { more = []; replies = ap (λ (x : Taken). x.replies) (sym (taken_is taken now is)) ∙ sym (append-nil taken.replies); looked_at = refl }
walk (suc n) awaited taken now bytes v sane below is =
    by (head_of bytes) (step_of bytes) is (λ taken' rest v' sane' below' is'. walk n awaited taken' now rest v' sane' below' is')
  where
    more : (part rest : List ℕ) (r : Result Taken TakeFault) → mux.added (mux.look_of awaited taken part) part taken ≡ r → mux.on_with r (λ t. mux.judged_within n awaited t rest) ≡ Ok now
        → ((taken' : Taken) (rest : List ℕ) (v' : View) → Sane v' → v'.next ≤ no_request → mux.judged_within n awaited taken' rest ≡ Ok now → Brings taken' now (parts_within n rest) v')
        → Brings taken now (Ok part ∷ parts_within n rest) v
    more part rest (Err f) one is on = absurd (not_taken f now is)
    more part rest (Ok between) one is on =
        let first = one_brings awaited taken between part v sane below one in
        let others = on between rest (looked part v) (looked_sane v part sane) (subst (λ (k : ℕ). k ≤ no_request) (sym (looked_next part v)) below) is in
        record {
          more = first.more ++ others.more;
          replies = others.replies ∙ ap (λ (l : List Reply). l ++ others.more) first.replies ∙ append_assoc taken.replies first.more others.more;
          looked_at = others.looked_at ∙ ap (all_looked (parts_in others.more)) first.looked_at ∙ sym (looked_append (parts_in first.more) (parts_in others.more) v)
              ∙ ap (λ (ps : List (Result (List ℕ) BadNext)). all_looked ps v) (sym (parts_append first.more others.more));
        }

    by : (h : Result Head HeadFault) (s : Step) → mux.judged_by h s awaited taken (mux.judged_within n awaited) ≡ Ok now
        → ((taken' : Taken) (rest : List ℕ) (v' : View) → Sane v' → v'.next ≤ no_request → mux.judged_within n awaited taken' rest ≡ Ok now → Brings taken' now (parts_within n rest) v')
        → Brings taken now (with_rest s (parts_within n)) v
    by (Err f) s is on = absurd (not_taken _ now is)
    by (Ok head) Bad is on = absurd (not_taken _ now is)
    by (Ok head) (Only part) is on = one_brings awaited taken now part v sane below is
    by (Ok head) (Then part rest) is on = more part rest (mux.added (mux.look_of awaited taken part) part taken) refl is on

-- what a frame brings that has no fault
pub judged_looked : (awaited : List (ℕ × ℕ)) (frame : List ℕ) (taken : Taken) (v : View) → Sane v → v.next ≤ no_request → mux.judged awaited frame ≡ Ok taken
    → all_looked (parts_of frame) v ≡ all_looked (parts_in taken.replies) v
unfolding mux.judged_from parts_of
judged_looked awaited frame taken v sane below is =
    let w = walk (suc (length frame)) awaited mux.nothing taken frame v sane below is in
    w.looked_at ∙ ap (λ (rs : List Reply). all_looked (parts_in rs) v) (sym w.replies)
