-- What the share does of itself, or for another client, makes no difference, and what is related stays so.
use Rattle.std.proofs.Common.{arith, ◌≡◌, ◌∙◌, refl, sym, ap, subst, ℕ, ◌==◌, ◌≤◌, Bool, true, false, if◌then◌else◌, not, List, [], ◌∷◌, ◌++◌, Option, Some, None, append-nil}
use Rattle.std.specs.Prelude.{IsSomeAnd, map, option_map, filter, ◌&&◌, ◌||◌}
use Rattle.std.specs.List.{list_all}
use Rattle.std.proofs.lemmas.Bool.{false≢true}
use Rattle.smb_base.specs.declared.names.Key.{Key}
use Rattle.smb_base.specs.declared.names.Mid.{Mid}
use Rattle.share_state.specs.declared.connection.Grant.{Grant}
use Rattle.share_state.specs.declared.connection.Owed.{Owed}
use Rattle.share_state.specs.declared.connection.Owed.TheVariants as owed
use Rattle.share_state.specs.declared.connection.Sent.{Sent}
use Rattle.share_state.specs.declared.lease.Lease.{Lease}
use Rattle.share_state.specs.declared.opens.Open.{Open}
use Rattle.share_state.specs.declared.request.Who.{Who}
use Rattle.share_state.specs.declared.request.Req.{Req}
use Rattle.share_state.specs.declared.request.Req.TheVariants as req
use Rattle.share_state.specs.declared.request.Rep.{Rep}
use Rattle.share_state.specs.declared.share.Share.{Share}
use Rattle.share_state.specs.Built.{is_built}
use Rattle.share_state.specs.Reply.{map_fid}
use Rattle.share_state.specs.Close.{closed, is_key_of}
use Rattle.share_state.specs.Cut.{all_closed, after_drop}
use Rattle.smb_link.specs.declared.event.Event.{Event}
use Rattle.smb_link.specs.declared.event.Event.TheVariants as event
use Rattle.smb_link.specs.Story.{is_of_share}
use Rattle.share_state.specs.Sent.{sent_with, put_off}
use Rattle.fs_plain.specs.World.{after_pend_of, act_of, grant_in, is_breakable, breakable, asked_of_first, notices, after_break, happens}
use Rattle.fs_plain.specs.Honest.{MayPend, MayAct, MayHappen}
use Rattle.fs_plain.specs.Run.{Run}
use Rattle.fs_plain.specs.Same.{same_reply}
use Rattle.fs_plain.specs.Divergence.{is_passed_over, ended_between, fid_carried, act_on_side, side_after_act, judged_act, side_after_ends, side_after, judged_event}
use Rattle.fs_plain.specs.PlainSide.{PlainSide}
use Rattle.fs_plain.specs.Alike.{Alike, HasNoLeaseOfOurs}
use Rattle.fs_plain.proofs.Deeds.{Connection, connection}
use Rattle.fs_plain.proofs.Steps.{step_connection}
use Rattle.fs_plain.proofs.AlikeLaws.{alike_beside, carried_step, stepped, alike_step, alike_act, alike_drop, close_ours}
use Rattle.fs_plain.proofs.ShareLaws.{step_ours}
use Rattle.fs_client.specs.View.{View}
use Rattle.fs_client.specs.Owing.{taken}
use Rattle.fs_client.proofs.Lists.{found_map}
use Rattle.fs_refine.specs.Related.{calm, Related}
use Rattle.fs_refine.proofs.CallLists.{calls_more}
use Rattle.fs_refine.proofs.Holding.{act_holds, ends_hold}
use Rattle.fs_refine.proofs.Growing.{no_less, made_more, IsLater, call_later}
use Rattle.fs_refine.proofs.Changing.{owing, beside}
use Rattle.fs_refine.proofs.Took.{took_related}

-- a request is put off: an interim reply is owed, and nothing else changes
off_calm : (mid : Mid) (xs : List Sent) → map calm (map (put_off mid) xs) ≡ map calm xs
off_calm mid [] = refl
off_calm mid (x ∷ xs) = ap (λ (y : Sent). y ∷ map calm (map (put_off mid) xs)) (by (x.mid.0 == mid.0)) ∙ ap (λ (l : List Sent). calm x ∷ l) (off_calm mid xs)
  where
    by : (t : Bool) → calm (if t then record x { pended = true } else x) ≡ calm x
    by true = refl
    by false = refl

pub pend_related : (s : Share) (p : PlainSide) (v : View) (mid : Mid) → Related s p v → MayPend (sent_with mid s.sent) → Related (after_pend_of (sent_with mid s.sent) mid s) p v
pend_related s p v mid old may = by (sent_with mid s.sent) refl may
  where
    by : (o : Option Sent) → sent_with mid s.sent ≡ o → MayPend o → Related (after_pend_of o mid s) p v
    by None is may = absurd may
    by (Some x) is may =
        let s' : Share = after_pend_of (Some x) mid s in
        let there : sent_with mid (taken s.owed v).flights ≡ Some (calm x) =
        ap (sent_with mid) (sym old.sent) ∙ found_map mid calm s.sent (λ y. refl) ∙ ap (option_map calm) is in
        owing s s' p p v (owed.Interim mid x.message) old
        (record {
          alike = alike_beside s s' p refl old.alike;
          ours = old.ours;
          told = refl;
          connected = refl;
          held = refl;
          described = refl;
          more = no_less s.opens_made;
          holders = old.holders;
        }) (subst (λ (o : Option Sent). IsSomeAnd o (λ (y : Sent). y.message ≡ x.message)) (sym there) refl) refl (off_calm mid s.sent ∙ old.sent) old.running

-- another client's request
not_passed_over : (r : Req) → is_built r ≡ true → is_passed_over r ≡ false
not_passed_over (req.Ack key state) built = absurd (false≢true built)
not_passed_over (req.Reclaim fid key) built = absurd (false≢true built)
not_passed_over other built = refl

or_true : (a b : Bool) → b ≡ true → (a || b) ≡ true
or_true true b is = refl
or_true false b is = is

acted : (p : PlainSide) (who : ℕ) (r : Req) (reply : Rep) → is_passed_over r ≡ false → stepped p [] (act_on_side p who r) reply ≡ side_after_act p who r reply
acted p who r reply passed = sym (ap (λ (b : Bool). if b then p else stepped p [] (act_on_side p who r) reply) passed)

judged : (run : Run) (p : PlainSide) (who : ℕ) (r : Req) (reply : Rep) → (is_passed_over r || same_reply (act_on_side p who r).0 reply) ≡ true → judged_act run p who r reply ≡ None
judged run p who r reply right = rw right refl

pub act_related : (run : Run) (s : Share) (p : PlainSide) (v : View) (who : ℕ) (r : Req) (reply : Rep) → Related s p v → MayAct who r reply s
    → (judged_act run p who r reply ≡ None) × Related (act_of who r reply s).1 (side_after_act p who r reply) v
act_related run s p v who r reply old may =
    let W : Who = record { 0 = who } in
    let choice : Option Grant = grant_in reply.body in
    let done : Rep × Share = act_of who r reply s in
    let p' : PlainSide = stepped p [] (carried_step p W r) reply in
    let alike : Alike done.1 p' = subst (λ (a : Rep). Alike done.1 (stepped p [] (carried_step p W r) a)) may.answered (alike_step choice s p W r [] may.built old.alike).1 in
    let leaves : connection done.1 ≡ connection s = step_connection choice s W r in
    let later : IsLater s done.1 p p' = record { before = old.alike; after = alike; more = made_more choice s W r } in (
      judged run p who r reply (or_true (is_passed_over r) (same_reply (act_on_side p who r).0 reply)
          (ap (same_reply (carried_step p W r).0) (sym may.answered) ∙ alike_act choice s p W r may.built old.alike)),
      subst (λ (q : PlainSide). Related done.1 q v) (acted p who r reply (not_passed_over r may.built))
          (beside s done.1 p p' v old
          (record {
            alike = alike;
            ours = step_ours choice s W r may.built old.ours;
            told = refl;
            connected = ap (λ (k : Connection). k.connected) leaves;
            held = ap (λ (k : Connection). k.held) leaves;
            described = refl;
            more = made_more choice s W r;
            holders = act_holds p p' W (map_fid (fid_carried p.pairs) r) may.another refl refl refl old.holders;
          })
          (ap (λ (k : Connection). k.owed) leaves) (ap (λ (k : Connection). k.sent) leaves)
          (calls_more p.pairs p'.pairs s.opens_made done.1.opens_made (taken s.owed v).items p.running (call_later s done.1 p p' later) old.running)),
    )

-- a break is asked of another client's lease
abbrev is_others : Lease → Bool
is_others l = not (l.who.0 == 0)

both : (a b : Bool) → (a && b) ≡ true → (a ≡ true) × (b ≡ true)
both true true is = (refl, refl)
both true false is = absurd (false≢true is)
both false b is = absurd (false≢true is)

none_told : (opens : List Open) (key : Key) (state : ℕ) (leases : List Lease) → list_all is_others leases ≡ true → notices (breakable opens key leases) key state ≡ []
none_told opens key state [] none = refl
none_told opens key state (l ∷ ls) none = by (is_breakable opens key l) (none_told opens key state ls (both (is_others l) (list_all is_others ls) none).1)
  where
    other : (t : Bool) → not t ≡ true → (if t then owed.Notice key state true ∷ [] else []) ≡ []
    other true is = absurd (false≢true is)
    other false is = refl

    by : (t : Bool) → notices (breakable opens key ls) key state ≡ [] → notices (if t then Some l else breakable opens key ls) key state ≡ []
    by true deeper = other (l.who.0 == 0) (both (is_others l) (list_all is_others ls) none).0
    by false deeper = deeper

asked_others : (opens : List Open) (key : Key) (state : ℕ) (leases : List Lease) → list_all is_others leases ≡ true → list_all is_others (asked_of_first opens key state leases) ≡ true
asked_others opens key state [] none = refl
asked_others opens key state (l ∷ ls) none = by (is_breakable opens key l) (asked_others opens key state ls (both (is_others l) (list_all is_others ls) none).1)
  where
    by : (t : Bool) → list_all is_others (asked_of_first opens key state ls) ≡ true
        → list_all is_others (if t then record l { asked = Some state } ∷ ls else l ∷ asked_of_first opens key state ls) ≡ true
    by true deeper = none
    by false deeper = ap (λ (b : Bool). b && list_all is_others (asked_of_first opens key state ls)) (both (is_others l) (list_all is_others ls) none).0 ∙ deeper

pub break_related : (s : Share) (p : PlainSide) (v : View) (key : Key) (state : ℕ) → Related s p v → Related (after_break key state s) p v
break_related s p v key state old =
    let s' : Share = after_break key state s in
    beside s s' p p v old
    (record {
      alike = alike_beside s s' p refl old.alike;
      ours = asked_others s.opens key state s.leases old.ours;
      told = refl;
      connected = refl;
      held = refl;
      described = refl;
      more = no_less s.opens_made;
      holders = old.holders;
    })
    (ap (λ (l : List Owed). s.owed ++ l) (none_told s.opens key state s.leases old.ours) ∙ append-nil s.owed) refl old.running

-- opens end
pub ends_leave : (es : List Open) (s : Share) → connection (all_closed es s) ≡ connection s
ends_leave [] s = refl
ends_leave (e ∷ es) s = ends_leave es (closed e s)

pub ends_made : (es : List Open) (s : Share) → (all_closed es s).opens_made ≡ s.opens_made
ends_made [] s = refl
ends_made (e ∷ es) s = ends_made es (closed e s)

pub ends_ours : (es : List Open) (s : Share) → HasNoLeaseOfOurs s → HasNoLeaseOfOurs (all_closed es s)
ends_ours [] s none = none
ends_ours (e ∷ es) s none = ends_ours es (closed e s) (close_ours (Some e) s none)

pub same_made : (a b : ℕ) → b ≡ a → a ≤ b
same_made a b is = omega (arith, is)

pub dropped_related : (s : Share) (p : PlainSide) (v : View) (key : Key) → Related s p v → Related (after_drop key s) (side_after_ends s (event.Dropped key) p) v
dropped_related s p v key old =
    let es : List Open = filter (λ o. o.who.0 == 0 && not o.connected && is_key_of key o.key) s.opens in
    let s' : Share = after_drop key s in
    let p' : PlainSide = side_after_ends s (event.Dropped key) p in
    let leaves : connection s' ≡ connection s = ends_leave es s in
    let alike : Alike s' p' = alike_drop s p key old.alike in
    let more : s.opens_made ≤ s'.opens_made = same_made s.opens_made s'.opens_made (ends_made es s) in
    beside s s' p p' v old
    (record {
      alike = alike;
      ours = ends_ours es s old.ours;
      told = refl;
      connected = ap (λ (k : Connection). k.connected) leaves;
      held = ap (λ (k : Connection). k.held) leaves;
      described = refl;
      more = more;
      holders = ends_hold p p' (ended_between s.opens s'.opens) refl refl refl old.holders;
    })
    (ap (λ (k : Connection). k.owed) leaves) (ap (λ (k : Connection). k.sent) leaves)
    (calls_more p.pairs p'.pairs s.opens_made s'.opens_made (taken s.owed v).items p.running (call_later s s' p p' (record { before = old.alike; after = alike; more = more })) old.running)

-- each of them
pub share_related : (run : Run) (s : Share) (p : PlainSide) (v : View) (e : Event) → is_of_share e ≡ true → Related s p v → MayHappen s e
    → (judged_event run s p e ≡ None) × Related (happens s e) (side_after run s p e) v
share_related run s p v (event.Took mid) is old may = took_related s p v mid old may
share_related run s p v (event.Pend mid) is old may = (refl, pend_related s p v mid old may)
share_related run s p v (event.Act who request reply) is old may = act_related run s p v who request reply old may
share_related run s p v (event.Break key state) is old may = (refl, break_related s p v key state old)
share_related run s p v (event.Dropped key) is old may = (refl, dropped_related s p v key old)
share_related run s p v (event.Marked m) is old may = absurd (false≢true is)
share_related run s p v (event.Sent frame) is old may = absurd (false≢true is)
share_related run s p v (event.Got bytes) is old may = absurd (false≢true is)
share_related run s p v event.Quiet is old may = absurd (false≢true is)
share_related run s p v event.Joined is old may = absurd (false≢true is)
share_related run s p v event.NotJoined is old may = absurd (false≢true is)
share_related run s p v event.Cut is old may = absurd (false≢true is)
