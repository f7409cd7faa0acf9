-- Requests that wait stay proper: each under the id in its message, and with what a CREATE before it can come to.
use Rattle.std.proofs.Common.{◌≡◌, ◌∙◌, ℕ, Bool, true, false, List, [], ◌∷◌, ◌++◌, Option, Some, None, Result, Ok, Err, OnOk, map, refl, sym, ap, subst, take}
use Rattle.std.specs.Prelude.{◌+◌, ◌==◌, not, if◌then◌else◌, filter, is_none, slice_get}
use Rattle.std.specs.List.{list_all}
use Rattle.smb_base.specs.declared.names.Mid.{Mid}
use Rattle.smb_chain.specs.declared.parts.BadNext.{BadNext}
use Rattle.smb_head.specs.Stream.{first_of}
use Rattle.share_state.specs.declared.connection.Sent.{Sent}
use Rattle.share_state.specs.declared.wanted.Wanted.{Wanted}
use Rattle.share_state.specs.declared.opens.Open.{Open}
use Rattle.share_state.specs.declared.place.Place.{Place}
use Rattle.share_state.specs.declared.place.Place.TheVariants.{NoPath, Missing, There}
use Rattle.share_state.specs.declared.request.Who.{Who}
use Rattle.share_state.specs.declared.request.Rep.{Rep}
use Rattle.share_state.specs.declared.request.Req.{Req}
use Rattle.share_state.specs.declared.request.Req.TheVariants as req
use Rattle.share_state.specs.declared.share.Share.{Share}
use Rattle.share_state.specs.Names.{is_name, components}
use Rattle.share_state.specs.State.{emptied}
use Rattle.share_state.specs.Place.{place_of}
use Rattle.share_state.specs.Leases.{granting_of}
use Rattle.share_state.specs.Reply.{unless, refused}
use Rattle.share_state.specs.Sent.{behind_create, put_off, sent_but, sent_with}
use Rattle.share_state.specs.Create.{is_disposition, overwrites, made, opened, create_at, create_of}
use Rattle.share_state.specs.Close.{open_of, close_open}
use Rattle.share_state.specs.Query.{query_open}
use Rattle.share_state.specs.Step.{step_of}
use Rattle.fs_plain.specs.Requests.{wire_request}
use Rattle.fs_plain.specs.World.{us, is_creating, came_to, waiting, messages_of, first_mid, requests_among, requests_in}
use Rattle.share_box.specs.declared.serving.Plan.{Plan}
use Rattle.share_box.specs.declared.serving.Plan.TheVariants as plan
use Rattle.share_box.specs.declared.state.State.{State}
use Rattle.share_box.specs.Serving.{plan_of}
use Rattle.share_box.specs.Paid.{is_outcome, IsProper, AreProper}
use Rattle.share_box.specs.Order.{waiting_ids}
use Rattle.share_box.specs.Turns.{share_after_act, served_as, served_found, interim_to, delayed_by, delayed, all_delayed, served_with, served}
use Rattle.fs_plain.proofs.Deeds.{Connection}
use Rattle.fs_plain.proofs.Steps.{step_connection}
use Rattle.share_box.proofs.Grants.{create_outcome}

by_test : (t : Bool) (xs ys : List Sent) → AreProper xs → AreProper ys → AreProper (if t then xs else ys)
by_test true xs ys p q = p
by_test false xs ys p q = q

proper_more : (t : Bool) (x : Sent) (xs : List Sent) → IsProper x → AreProper xs → AreProper (if t then x ∷ xs else xs)
proper_more true x xs p q = (p, q)
proper_more false x xs p q = q

proper_filter : (keeps : Sent → Bool) (xs : List Sent) → AreProper xs → AreProper (filter keeps xs)
proper_filter keeps [] all = tt
proper_filter keeps (x ∷ xs) all = proper_more (keeps x) x (filter keeps xs) all.0 (proper_filter keeps xs all.1)

proper_append : (xs ys : List Sent) → AreProper xs → AreProper ys → AreProper (xs ++ ys)
proper_append [] ys p q = q
proper_append (x ∷ xs) ys p q = (p.0, proper_append xs ys p.1 q)

-- the requests of a frame
among : (frame : Mid) (parts : List (Result (List ℕ) BadNext)) → AreProper (requests_among frame parts)
among frame [] = tt
among frame (Err bad ∷ parts) = among frame parts
among frame (Ok message ∷ parts) = by (is_none (wire_request message)) (requests_among frame parts) (among frame parts)
  where
    by : (t : Bool) (others : List Sent) → AreProper others → AreProper (if t then others else waiting frame message ∷ others)
    by true others all = all
    by false others all = (record { own = refl; outcome = refl }, all)

told_proper : (frame : Mid) (reply : Rep) (x : Sent) → is_outcome (came_to reply reply.body) ≡ true → IsProper x → IsProper (behind_create frame (came_to reply reply.body) x)
told_proper frame reply x outcome proper = by (x.frame.0 == frame.0)
  where
    by : (t : Bool) → IsProper (if t then record x { last_create = came_to reply reply.body } else x)
    by true = record { own = proper.own; outcome = outcome }
    by false = proper

all_told : (frame : Mid) (reply : Rep) (xs : List Sent) → is_outcome (came_to reply reply.body) ≡ true → AreProper xs → AreProper (map (behind_create frame (came_to reply reply.body)) xs)
all_told frame reply [] outcome all = tt
all_told frame reply (x ∷ xs) outcome all = (told_proper frame reply x outcome all.0, all_told frame reply xs outcome all.1)

after_proper : (t : Bool) (frame : Mid) (reply : Rep) (xs : List Sent) → (t ≡ true → is_outcome (came_to reply reply.body) ≡ true) → AreProper xs
    → AreProper (if t then map (behind_create frame (came_to reply reply.body)) xs else xs)
after_proper true frame reply xs outcome all = all_told frame reply xs (outcome refl) all
after_proper false frame reply xs outcome all = all

-- a request to the share leaves those that wait
step_sent : (s : Share) (who : Who) (r : Req) → (step_of None s who r).1.sent ≡ s.sent
step_sent s who r = ap (λ (k : Connection). k.sent) (step_connection None s who r)

does_proper : (p : Plan) (one : Sent) (b : State) → AreProper b.share.sent → AreProper (served_as (Some p) one b).share.sent
does_proper plan.Aside one b all = all
does_proper (plan.Refuse status) one b all = all
does_proper (plan.Do r) one b all =
    after_proper (is_creating r) one.frame (step_of None b.share us r).0 (step_of None b.share us r).1.sent (λ creating. create_outcome b.share us r creating)
    (subst AreProper (sym (step_sent b.share us r)) all)

serves_proper : (o : Option Plan) (one : Sent) (b : State) → AreProper b.share.sent → AreProper (served_as o one b).share.sent
serves_proper None one b all = all
serves_proper (Some p) one b all = does_proper p one b all

found_proper : (o : Option Sent) (b : State) → AreProper b.share.sent → AreProper (served_found o b).share.sent
found_proper None b all = all
found_proper (Some one) b all =
    serves_proper (plan_of one) one (record b { share = record b.share { sent = sent_but one.mid b.share.sent } })
    (proper_filter (λ x. not (x.mid.0 == one.mid.0)) b.share.sent all)

with_proper : (o : Option Mid) (b : State) → AreProper b.share.sent → AreProper (served_with o b).share.sent
with_proper None b all = all
with_proper (Some mid) b all = found_proper (sent_with mid b.share.sent) b all

-- requests that are put off stay proper
off_proper : (mid : Mid) (xs : List Sent) → AreProper xs → AreProper (map (put_off mid) xs)
off_proper mid [] all = tt
off_proper mid (x ∷ xs) all = (by (x.mid.0 == mid.0), off_proper mid xs all.1)
  where
    by : (t : Bool) → IsProper (if t then record x { pended = true } else x)
    by true = record { own = all.0.own; outcome = all.0.outcome }
    by false = all.0

delayed_proper : (reply : Option (List ℕ)) (mid : Mid) (b : State) → AreProper b.share.sent → AreProper (delayed_by reply mid b).share.sent
delayed_proper None mid b all = all
delayed_proper (Some frame) mid b all = off_proper mid b.share.sent all

all_delayed_proper : (mids : List Mid) (b : State) → AreProper b.share.sent → AreProper (all_delayed mids b).share.sent
all_delayed_proper [] b all = all
all_delayed_proper (mid ∷ mids) b all = all_delayed_proper mids (delayed mid b) (delayed_proper (interim_to (sent_with mid b.share.sent)) mid b all)

served_proper : (n : ℕ) (b : State) → AreProper b.share.sent → AreProper (served n b).share.sent
unfolding served
served_proper n b all =
    with_proper (slice_get (waiting_ids b.share.sent) n) (all_delayed (take n (waiting_ids b.share.sent)) b)
    (all_delayed_proper (take n (waiting_ids b.share.sent)) b all)

-- code that serves a request leaves proper what waits
pub serve_keeps : {A E : Type 0} (r : Result A E) (n : ℕ) (old new : State) → OnOk r (new ≡ served n old)
    → OnOk r (AreProper old.share.sent → AreProper new.share.sent)
serve_keeps (Ok done) n old new is = λ all. subst (λ (b : State). AreProper b.share.sent) (sym is) (served_proper n old all)
serve_keeps (Err e) n old new is = tt

-- so does code that does a request of another client
pub act_keeps : {A E : Type 0} (r : Result A E) (old new : Share) (who : ℕ) (q : Req) (more : Type 0) → OnOk r ((new ≡ share_after_act old who q) × more)
    → OnOk r (AreProper old.sent → AreProper new.sent)
act_keeps (Ok done) old new who q more is =
    λ all. subst AreProper (sym (ap (λ (s : Share). s.sent) is.0 ∙ step_sent old (record { 0 = who }) q)) all
act_keeps (Err e) old new who q more is = tt

-- and code that takes a frame
pub accept_keeps : {A E : Type 0} (r : Result A E) (frame : List ℕ) (sent new : List Sent) → new ≡ sent ++ requests_in frame
    → OnOk r (AreProper sent → AreProper new)
accept_keeps (Ok done) frame sent new is = λ all.
    subst AreProper (sym is) (proper_append sent (requests_in frame) all (among (first_mid (messages_of (first_of frame))) (messages_of (first_of frame))))
accept_keeps (Err e) frame sent new is = tt
