-- The share that a story tells of stays the one that a box has, event by event.
use Rattle.std.proofs.Common.{◌≡◌, ◌∙◌, ℕ, ◌==◌, ◌&&◌, Bool, true, false, not, if◌then◌else◌, List, [], ◌∷◌, ◌++◌, take, drop, map, refl, sym, ap, subst, append_assoc, Result, Ok, Err, Option, Some, None}
use Rattle.std.specs.Prelude.{is_none, filter}
use Rattle.std.specs.List.{AllByRecursion}
use Rattle.std.proofs.lemmas.List.{take-append-drop}
use Rattle.smb_base.specs.declared.names.Mid.{Mid}
use Rattle.smb_head.specs.Stream.{Partial, first_of, fault_of}
use Rattle.smb_head.proofs.FrameLaws.{first_of-nil}
use Rattle.smb_chain.specs.declared.parts.BadNext.{BadNext}
use Rattle.share_state.specs.declared.connection.Grant.{Grant}
use Rattle.share_state.specs.declared.connection.LastCreate.{LastCreate}
use Rattle.share_state.specs.declared.connection.Sent.{Sent}
use Rattle.share_state.specs.declared.connection.Owed.{Owed}
use Rattle.share_state.specs.declared.connection.Owed.TheVariants as owed
use Rattle.share_state.specs.declared.request.Who.{Who}
use Rattle.share_state.specs.declared.request.Req.{Req}
use Rattle.share_state.specs.declared.request.Rep.{Rep}
use Rattle.share_state.specs.declared.share.Share.{Share}
use Rattle.share_state.specs.Reply.{of_status}
use Rattle.share_state.specs.Built.{is_built}
use Rattle.share_state.specs.Step.{step_of}
use Rattle.share_state.specs.Sent.{behind_create, put_off, sent_but, sent_with}
use Rattle.share_state.specs.Cut.{ends_with, after_cut, after_join}
use Rattle.smb_link.specs.declared.event.Event.TheVariants as event
use Rattle.fs_plain.specs.Requests.{WireRequest, wire_request}
use Rattle.fs_plain.specs.World.{us, grant_in, waiting, messages_of, first_mid, requests_among, requests_in, after_sent, is_first_of_frame, is_creating, refusal_before, resolved, refused_before, unless_refused_before, came_to, after_create, choices_left, choice_now, after_done, after_aside, after_taking, after_took_of, act_of, after_got, happens, after_pend_of}
use Rattle.fs_plain.specs.Honest.{MayBeDone, MayBeTakenAs, MayTake, MayAct, MayGet, MayHappen, MayPend}
use Rattle.fs_plain.specs.Alike.{bare}
use Rattle.fs_plain.proofs.Deeds.{Connection, bare_of}
use Rattle.fs_plain.proofs.Steps.{step_connection, step_leases}
use Rattle.fs_plain.proofs.Every.{every-filter}
use Rattle.share_box.specs.declared.state.State.{State}
use Rattle.share_box.specs.Turns.{answered_as}
use Rattle.share_box.specs.Serving.{plan_by, planned, plan_of, stepped}
use Rattle.share_box.specs.Paid.{IsPayment, is_outcome, IsProper, PaysAs}
use Rattle.share_box.specs.Truth.{IsBare, AreBare, IsRequest, ArePayments, Mirrors}
use Rattle.share_box.proofs.SameShare.{step_same, no_needs, bare_allowed, step_grants, cut_same, cut_leases}
use Rattle.share_box.proofs.Grants.{create_outcome}
use Rattle.share_box.proofs.Streams.{Front, front, may_be_held, one_more_payment}
use Rattle.share_box.proofs.Choices.{every_both, closed_connection}
use Rattle.share_box.proofs.Built.{IsBuiltIn, IsAlike, asked_built, resolved_alike, resolved_built}
use Rattle.share_box.proofs.Ordering.{found_own, found_holds}

-- a frame is sent: its messages that ask for something wait
request_if : (frame : Mid) (message : List ℕ) (none : Bool) (others : List Sent) → is_none (wire_request message) ≡ none → AllByRecursion IsRequest others
    → AllByRecursion IsRequest (if none then others else waiting frame message ∷ others)
request_if frame message true others is all = all
request_if frame message false others is all = (record { asks = is; proper = record { own = refl; outcome = refl } }, all)

all_requests : (frame : Mid) (parts : List (Result (List ℕ) BadNext)) → AllByRecursion IsRequest (requests_among frame parts)
all_requests frame [] = tt
all_requests frame (Err bad ∷ parts) = all_requests frame parts
all_requests frame (Ok message ∷ parts) =
    request_if frame message (is_none (wire_request message)) (requests_among frame parts) refl (all_requests frame parts)

pub sent_mirrors : (told own : Share) (waits frame : List ℕ) → own.connected ≡ true → Mirrors told own waits
    → Mirrors (after_sent frame told) (record own { sent = own.sent ++ requests_in frame }) waits
sent_mirrors told own waits frame stands old =
    subst (λ (t : Bool). Mirrors (if t then record told { sent = told.sent ++ requests_in frame } else told) (record own { sent = own.sent ++ requests_in frame }) waits)
    (sym (old.connected ∙ stands)) (record {
      tree = old.tree;
      leases = old.leases;
      own_leases = old.own_leases;
      connected = old.connected;
      sent = ap (λ (l : List Sent). l ++ requests_in frame) old.sent;
      requests = every_both IsRequest own.sent (requests_in frame) old.requests (all_requests (first_mid (messages_of (first_of frame))) (messages_of (first_of frame)));
      begun = old.begun;
      paid = old.paid;
      choices = old.choices;
    })

-- where no connection stands it is lost
pub lost_mirrors : (told own : Share) (waits frame : List ℕ) → own.connected ≡ false → Mirrors told own waits → Mirrors (after_sent frame told) own waits
lost_mirrors told own waits frame none old =
    subst (λ (t : Bool). Mirrors (if t then record told { sent = told.sent ++ requests_in frame } else told) own waits) (sym (old.connected ∙ none)) old

-- the connection ends
pub cut_mirrors : (told own : Share) (waits : List ℕ) → Mirrors told own waits → Mirrors (after_cut told) (after_cut own) []
cut_mirrors told own waits old = record {
  tree = cut_same told own old.tree old.leases old.own_leases;
  leases = cut_leases told old.leases;
  own_leases = cut_leases own old.own_leases;
  connected = refl;
  sent = refl;
  requests = tt;
  begun = first_of-nil;
  paid = refl;
  choices = subst AreBare (sym (ap (λ (c : Connection). c.grants) (closed_connection (filter (ends_with (record { 0 = 0 }) told.leases) told.opens) told))) old.choices;
}

-- a connection is made
pub join_mirrors : (told own : Share) (waits : List ℕ) → Mirrors told own waits → Mirrors (after_join told) (after_join own) []
join_mirrors told own waits old = record {
  tree = old.tree;
  leases = old.leases;
  own_leases = old.own_leases;
  connected = refl;
  sent = refl;
  requests = tt;
  begun = first_of-nil;
  paid = refl;
  choices = old.choices;
}

-- bytes are given
pub got_mirrors : (told own : Share) (waits : List ℕ) (n : ℕ) → Mirrors told own waits
    → MayGet (take n waits) told × Mirrors (after_got (take n waits) told) own (drop n waits)
got_mirrors told own waits n old =
    let whole : told.held ++ waits ≡ (told.held ++ take n waits) ++ drop n waits =
    sym (append_assoc told.held (take n waits) (drop n waits) ∙ ap (λ (l : List ℕ). told.held ++ l) (take-append-drop n waits)) in
    let f : Front told.owed (told.held ++ take n waits) (drop n waits) =
    front told.owed (told.held ++ take n waits) (drop n waits) (subst (ArePayments told.owed) whole old.paid) in (
      record {
        paid = f.paid;
        sound = ap fault_of f.begun;
        held = may_be_held _ _ _ f.left;
      },
      record {
        tree = old.tree;
        leases = old.leases;
        own_leases = old.own_leases;
        connected = old.connected;
        sent = old.sent;
        requests = old.requests;
        begun = f.begun;
        paid = f.left;
        choices = old.choices;
      },
    )

-- another client makes a request
pub act_mirrors : (told own : Share) (waits : List ℕ) (who : ℕ) (r : Req) → (who == 0) ≡ false → is_built r ≡ true → Mirrors told own waits
    → MayAct who r (step_of None own (record { 0 = who }) r).0 told
    × Mirrors (act_of who r (step_of None own (record { 0 = who }) r).0 told).1 (step_of None own (record { 0 = who }) r).1 waits
act_mirrors told own waits who r another built old =
    let W : Who = record { 0 = who } in
    let reply : Rep = (step_of None own W r).0 in
    let same : bare_of (act_of who r reply told) ≡ bare_of (step_of None own W r) = step_same (grant_in reply.body) told own W r old.tree built in
    let leaves = step_connection (grant_in reply.body) told W r in
    let leaves' = step_connection None own W r in (
      record {
        another = another;
        built = built;
        needs = no_needs told W r old.leases;
        choice = bare_allowed (grant_in reply.body) told W r built (step_grants None own W r built);
        answered = ap (λ (d : Rep × Share). d.0) same;
      },
      record {
        tree = ap (λ (d : Rep × Share). d.1) same;
        leases = step_leases (grant_in reply.body) told W r built old.leases;
        own_leases = step_leases None own W r built old.own_leases;
        connected = ap (λ (c : Connection). c.connected) leaves ∙ old.connected ∙ sym (ap (λ (c : Connection). c.connected) leaves');
        sent = ap (λ (c : Connection). c.sent) leaves ∙ old.sent ∙ sym (ap (λ (c : Connection). c.sent) leaves');
        requests = subst (λ (c : Connection). AllByRecursion IsRequest c.sent) (sym leaves') old.requests;
        begun = subst (λ (c : Connection). first_of c.held ≡ Partial) (sym leaves) old.begun;
        paid = subst (λ (c : Connection). ArePayments c.owed (c.held ++ waits)) (sym leaves) old.paid;
        choices = subst (λ (c : Connection). AreBare c.grants) (sym leaves) old.choices;
      },
    )

-- a CREATE is not refused before
not_creating : (related creating : Bool) (refusal : Option ℕ) (status : ℕ) → (if related && not creating then refusal else None) ≡ Some status → creating ≡ false
not_creating true true refusal status is = absurd (cc is)
not_creating true false refusal status is = refl
not_creating false creating refusal status is = absurd (cc is)

-- a request that is taken waits no longer
abbrev without : Sent → Share → Share
without one own = record own { sent = sent_but one.mid own.sent }

-- a request is the one of its id, and the first of its frame
pub record IsTaken (one : Sent) (sent : List Sent) : Type 0 where
  pub found : sent_with one.mid sent ≡ Some one
  pub first : is_first_of_frame sent one ≡ true

left_requests : (one : Sent) (sent : List Sent) → AllByRecursion IsRequest sent → AllByRecursion IsRequest (sent_but one.mid sent)
left_requests one sent all = every-filter IsRequest (λ x. not (x.mid.0 == one.mid.0)) sent all

behind_request : (frame : Mid) (reply : Rep) (x : Sent) (t : Bool) → is_outcome (came_to reply reply.body) ≡ true → IsRequest x
    → IsRequest (if t then record x { last_create = came_to reply reply.body } else x)
behind_request frame reply x true outcome is = record { asks = is.asks; proper = record { own = is.proper.own; outcome = outcome } }
behind_request frame reply x false outcome is = is

behind_requests : (frame : Mid) (reply : Rep) (sent : List Sent) → is_outcome (came_to reply reply.body) ≡ true → AllByRecursion IsRequest sent
    → AllByRecursion IsRequest (map (behind_create frame (came_to reply reply.body)) sent)
behind_requests frame reply [] outcome all = tt
behind_requests frame reply (x ∷ xs) outcome all =
    (behind_request frame reply x (x.frame.0 == frame.0) outcome all.0, behind_requests frame reply xs outcome all.1)

created_requests : (creating : Bool) (frame : Mid) (reply : Rep) (sent : List Sent) → (creating ≡ true → is_outcome (came_to reply reply.body) ≡ true) → AllByRecursion IsRequest sent
    → AllByRecursion IsRequest (if creating then map (behind_create frame (came_to reply reply.body)) sent else sent)
created_requests true frame reply sent outcome all = behind_requests frame reply sent (outcome refl) all
created_requests false frame reply sent outcome all = all

left_bare : (choices : List (Option Grant)) → AreBare choices → AreBare (choices_left choices)
left_bare [] all = tt
left_bare (choice ∷ choices) all = all.1

now_bare : (choices : List (Option Grant)) → AreBare choices → IsBare (choice_now choices)
now_bare [] all = refl
now_bare (choice ∷ choices) all = all.0

-- a request is taken: one more frame waits
record Takes (told after own : Share) (o : Owed) : Type 0 where
  tree : bare after ≡ bare own
  leases : after.leases ≡ []
  own_leases : own.leases ≡ []
  connected : after.connected ≡ own.connected
  sent : after.sent ≡ own.sent
  requests : AllByRecursion IsRequest own.sent
  held : after.held ≡ told.held
  owed : after.owed ≡ told.owed ++ o ∷ []
  grants : after.grants ≡ choices_left told.grants

takes_mirrors : (told after own : Share) (o : Owed) (waits reply : List ℕ) → Takes told after own o → first_of told.held ≡ Partial
    → ArePayments told.owed (told.held ++ waits) → AreBare told.grants → IsPayment o reply → Mirrors after own (waits ++ reply)
takes_mirrors told after own o waits reply takes begun paid choices pays = record {
  tree = takes.tree;
  leases = takes.leases;
  own_leases = takes.own_leases;
  connected = takes.connected;
  sent = takes.sent;
  requests = takes.requests;
  begun = ap first_of takes.held ∙ begun;
  paid = subst (λ (h : List ℕ). ArePayments after.owed (h ++ (waits ++ reply))) (sym takes.held)
      (subst (λ (l : List Owed). ArePayments l (told.held ++ (waits ++ reply))) (sym takes.owed)
      (subst (ArePayments (told.owed ++ o ∷ [])) (append_assoc told.held waits reply)
      (one_more_payment told.owed o (told.held ++ waits) reply paid pays)));
  choices = subst AreBare (sym takes.grants) (left_bare told.grants choices);
}

aside_takes : (told own : Share) (waits : List ℕ) (one : Sent) → Mirrors told own waits → IsTaken one own.sent
    → Takes told (after_aside one told) (without one own) (owed.Aside one.mid one.message)
aside_takes told own waits one old is = record {
  tree = old.tree;
  leases = old.leases;
  own_leases = old.own_leases;
  connected = old.connected;
  sent = ap (sent_but one.mid) old.sent;
  requests = left_requests one own.sent old.requests;
  held = refl;
  owed = refl;
  grants = refl;
}

refused_takes : (told own : Share) (waits : List ℕ) (one : Sent) (r : Req) (status : ℕ) → Mirrors told own waits → IsTaken one own.sent
    → is_creating r ≡ false → Takes told (after_done one r (of_status status, told)) (without one own) (owed.Reply one.mid one.message (of_status status))
refused_takes told own waits one r status old is plain = record {
  tree = old.tree;
  leases = old.leases;
  own_leases = old.own_leases;
  connected = old.connected;
  sent = ap (λ (t : Bool). if t then map (behind_create one.frame (came_to (of_status status) (of_status status).body)) (sent_but one.mid told.sent) else sent_but one.mid told.sent) plain
      ∙ ap (sent_but one.mid) old.sent;
  requests = left_requests one own.sent old.requests;
  held = refl;
  owed = refl;
  grants = refl;
}

step_takes : (told own : Share) (waits : List ℕ) (one : Sent) (r r' : Req) → Mirrors told own waits → IsTaken one own.sent
    → is_creating r' ≡ is_creating r → is_built r' ≡ true
    → Takes told (after_done one r (step_of (choice_now told.grants) told us r'))
    (stepped one.frame r' (step_of None (without one own) us r')).1
    (owed.Reply one.mid one.message (step_of None (without one own) us r').0)
step_takes told own waits one r r' old is creating built =
    let done : Rep × Share = step_of (choice_now told.grants) told us r' in
    let done' : Rep × Share = step_of None (without one own) us r' in
    let same : bare_of done ≡ bare_of done' = step_same (choice_now told.grants) told (without one own) us r' old.tree built in
    let reply : done.0 ≡ done'.0 = ap (λ (d : Rep × Share). d.0) same in
    let leaves = step_connection (choice_now told.grants) told us r' in
    let leaves' = step_connection None (without one own) us r' in
    let sent : sent_but one.mid done.1.sent ≡ done'.1.sent =
    ap (λ (c : Connection). sent_but one.mid c.sent) leaves ∙ ap (sent_but one.mid) old.sent ∙ sym (ap (λ (c : Connection). c.sent) leaves') in
    record {
      tree = ap (λ (d : Rep × Share). d.1) same;
      leases = step_leases (choice_now told.grants) told us r' built old.leases;
      own_leases = step_leases None (without one own) us r' built old.own_leases;
      connected = ap (λ (c : Connection). c.connected) leaves ∙ old.connected ∙ sym (ap (λ (c : Connection). c.connected) leaves');
      sent = ap (λ (t : Bool). if t then map (behind_create one.frame (came_to done.0 done.0.body)) (sent_but one.mid done.1.sent) else sent_but one.mid done.1.sent) (sym creating)
          ∙ ap (λ (l : List Sent). after_create r' one.frame done.0 l) sent
          ∙ ap (λ (d : Rep). after_create r' one.frame d done'.1.sent) reply;
      requests = created_requests (is_creating r') one.frame done'.0 done'.1.sent (create_outcome (without one own) us r')
          (subst (λ (c : Connection). AllByRecursion IsRequest c.sent) (sym leaves') (left_requests one own.sent old.requests));
      held = ap (λ (c : Connection). c.held) leaves;
      owed = ap (λ (c : Connection). c.owed ++ owed.Reply one.mid one.message done.0 ∷ []) leaves
          ∙ ap (λ (d : Rep). told.owed ++ owed.Reply one.mid one.message d ∷ []) reply;
      grants = ap (λ (c : Connection). choices_left c.grants) leaves;
    }

-- a request to the share is taken, unless the CREATE before it refuses it
may_share : (told own : Share) (waits : List ℕ) (r : Req) (refusal : Option ℕ) → is_built r ≡ true → Mirrors told own waits
    → MayBeDone refusal (choice_now told.grants) told r
may_share told own waits r None built old =
    (no_needs told us r old.leases, bare_allowed (choice_now told.grants) told us r built (now_bare told.grants old.choices))
may_share told own waits r (Some status) built old = tt

may_be_taken : (told own : Share) (waits : List ℕ) (before : LastCreate) (a : Option WireRequest) → Mirrors told own waits → is_none a ≡ false → IsBuiltIn a
    → MayBeTakenAs a before told
may_be_taken told own waits before None old asks built = absurd (cc asks)
may_be_taken told own waits before (Some WireRequest.Aside) old asks built = tt
may_be_taken told own waits before (Some (WireRequest.Share related r)) old asks built =
    may_share told own waits (resolved related before r) (refused_before related before r) (resolved_built related before r built) old

-- the first request of a frame may be taken
pub may_take : (told own : Share) (waits : List ℕ) (one : Sent) → Mirrors told own waits → IsTaken one own.sent
    → MayHappen told (event.Took one.mid)
may_take told own waits one old is =
    let request : IsRequest one = found_holds IsRequest one.mid own.sent one old.requests is.found in
    subst (λ (found : Option Sent). MayTake found told) (sym (ap (sent_with one.mid) old.sent ∙ is.found))
    (ap (λ (l : List Sent). is_first_of_frame l one) old.sent ∙ is.first, may_be_taken told own waits one.last_create (wire_request one.message) old request.asks (asked_built one.message))

-- what comes of it
sharing : (told own : Share) (b : State) (one : Sent) (r r' : Req) (refusal : Option ℕ) → Mirrors told own b.waiting → IsTaken one own.sent
    → IsProper one → ((status : ℕ) → refusal ≡ Some status → is_creating r ≡ false) → is_creating r' ≡ is_creating r → is_built r' ≡ true
    → PaysAs (Some (plan_by refusal r')) one (record b { share = without one own })
    → Mirrors (after_done one r (unless_refused_before refusal told (step_of (choice_now told.grants) told us r')))
    (answered_as (Some (plan_by refusal r')) one (record b { share = without one own })).share
    (answered_as (Some (plan_by refusal r')) one (record b { share = without one own })).waiting
sharing told own b one r r' None old is proper plain creating built pays =
    takes_mirrors told _ _ _ b.waiting _ (step_takes told own b.waiting one r r' old is creating built) old.begun old.paid old.choices (pays proper)
sharing told own b one r r' (Some status) old is proper plain creating built pays =
    takes_mirrors told _ _ _ b.waiting _ (refused_takes told own b.waiting one r status old is (plain status refl)) old.begun old.paid old.choices (pays proper)

taking : (told own : Share) (b : State) (one : Sent) (a : Option WireRequest) → Mirrors told own b.waiting → IsTaken one own.sent
    → IsProper one → is_none a ≡ false → IsBuiltIn a → PaysAs (planned one.last_create a) one (record b { share = without one own })
    → Mirrors (after_taking a one told) (answered_as (planned one.last_create a) one (record b { share = without one own })).share
    (answered_as (planned one.last_create a) one (record b { share = without one own })).waiting
taking told own b one None old is proper asks built pays = absurd (cc asks)
taking told own b one (Some WireRequest.Aside) old is proper asks built pays =
    takes_mirrors told _ _ _ b.waiting _ (aside_takes told own b.waiting one old is) old.begun old.paid old.choices (pays proper)
taking told own b one (Some (WireRequest.Share related r)) old is proper asks built pays =
    let alike : IsAlike (resolved related one.last_create r) r = resolved_alike related one.last_create r in
    sharing told own b one r (resolved related one.last_create r) (refused_before related one.last_create r) old is proper
    (not_creating related (is_creating r) (refusal_before one.last_create)) alike.0 (alike.1 ∙ built) pays

-- the first request of a frame is taken
pub took_mirrors : (told own : Share) (b : State) (one : Sent) → Mirrors told own b.waiting → IsTaken one own.sent
    → PaysAs (plan_of one) one (record b { share = without one own })
    → Mirrors (happens told (event.Took one.mid)) (answered_as (plan_of one) one (record b { share = without one own })).share
    (answered_as (plan_of one) one (record b { share = without one own })).waiting
unfolding plan_of
took_mirrors told own b one old is pays =
    let request : IsRequest one = found_holds IsRequest one.mid own.sent one old.requests is.found in
    subst (λ (found : Option Sent). Mirrors (after_took_of found told) (answered_as (planned one.last_create (wire_request one.message)) one (record b { share = without one own })).share
    (answered_as (planned one.last_create (wire_request one.message)) one (record b { share = without one own })).waiting)
    (sym (ap (sent_with one.mid) old.sent ∙ is.found))
    (taking told own b one (wire_request one.message) old is request.proper request.asks (asked_built one.message) pays)

-- a request is put off
off_request : (mid : Mid) (x : Sent) → IsRequest x → IsRequest (put_off mid x)
off_request mid x is = by (x.mid.0 == mid.0)
  where
    by : (t : Bool) → IsRequest (if t then record x { pended = true } else x)
    by true = record { asks = is.asks; proper = record { own = is.proper.own; outcome = is.proper.outcome } }
    by false = is

off_requests : (mid : Mid) (sent : List Sent) → AllByRecursion IsRequest sent → AllByRecursion IsRequest (map (put_off mid) sent)
off_requests mid [] all = tt
off_requests mid (x ∷ xs) all = (off_request mid x all.0, off_requests mid xs all.1)

-- once its interim reply is owed, and waits
abbrev off : Mid → Sent → Share → Share
off mid one told = record told { sent = map (put_off mid) told.sent; owed = told.owed ++ owed.Interim mid one.message ∷ [] }

off_mirrors : (told own : Share) (waits : List ℕ) (mid : Mid) (one : Sent) (frame : List ℕ) → IsPayment (owed.Interim mid one.message) frame → Mirrors told own waits
    → Mirrors (off mid one told) (record own { sent = map (put_off mid) own.sent }) (waits ++ frame)
off_mirrors told own waits mid one frame pays old = record {
  tree = old.tree;
  leases = old.leases;
  own_leases = old.own_leases;
  connected = old.connected;
  sent = ap (map (put_off mid)) old.sent;
  requests = off_requests mid own.sent old.requests;
  begun = old.begun;
  paid = subst (ArePayments (told.owed ++ owed.Interim mid one.message ∷ [])) (append_assoc told.held waits frame)
      (one_more_payment told.owed (owed.Interim mid one.message) (told.held ++ waits) frame old.paid pays);
  choices = old.choices;
}

pub pend_mirrors : (told own : Share) (waits : List ℕ) (mid : Mid) (one : Sent) (frame : List ℕ) → sent_with mid own.sent ≡ Some one → one.pended ≡ false
    → (is_none (wire_request one.message) ≡ false → IsProper one → IsPayment (owed.Interim one.mid one.message) frame) → Mirrors told own waits
    → MayHappen told (event.Pend mid) × Mirrors (happens told (event.Pend mid)) (record own { sent = map (put_off mid) own.sent }) (waits ++ frame)
pend_mirrors told own waits mid one frame found fresh pays old =
    let request : IsRequest one = found_holds IsRequest mid own.sent one old.requests found in
    let there : sent_with mid told.sent ≡ Some one = ap (sent_with mid) old.sent ∙ found in
    let payment : IsPayment (owed.Interim mid one.message) frame =
    subst (λ (m : Mid). IsPayment (owed.Interim m one.message) frame) (found_own mid own.sent one found) (pays request.asks request.proper) in (
      subst MayPend (sym there) fresh,
      subst (λ (o : Option Sent). Mirrors (after_pend_of o mid told) (record own { sent = map (put_off mid) own.sent }) (waits ++ frame)) (sym there)
          (off_mirrors told own waits mid one frame payment old),
    )
