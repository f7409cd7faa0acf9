-- What stays of the order in which requests may be served while some of them are put off.
use Rattle.std.proofs.Common.{◌≡◌, ◌∙◌, ◌<◌, ℕ, zero, suc, Bool, true, false, List, [], ◌∷◌, Option, Some, None, map, length, get_or, take, drop, Result, Ok, Err, OnOk, refl, sym, ap, subst, arith}
use Rattle.std.specs.Prelude.{◌==◌, ◌&&◌, if◌then◌else◌, option_map, slice_get}
use Rattle.std.specs.List.{AllByRecursion}
use Rattle.std.proofs.lemmas.Bool.{false≢true}
use Rattle.smb_base.specs.declared.names.Mid.{Mid}
use Rattle.share_state.specs.declared.connection.Sent.{Sent}
use Rattle.share_state.specs.declared.share.Share.{Share}
use Rattle.share_state.specs.Sent.{put_off, sent_but, sent_with}
use Rattle.share_state.proofs.SentLaws.{found_mid}
use Rattle.fs_plain.specs.World.{is_first_of_frame}
use Rattle.share_box.specs.declared.state.State.{State}
use Rattle.share_box.specs.Order.{waiting_ids, is_next}
use Rattle.share_box.specs.Serving.{can_do, can_take, can_serve, is_servable, plan_of}
use Rattle.share_box.specs.Turns.{served_as, served_found, served_at, interim_to, delayed_by, delayed, all_delayed, served_with, served}

-- a request that is found by an id has it
pub found_own : (mid : Mid) (sent : List Sent) (one : Sent) → sent_with mid sent ≡ Some one → one.mid ≡ mid
found_own mid sent one is = ap (λ (n : ℕ). the_mid n) (found_mid mid sent one is)
  where
    the_mid : ℕ → Mid
    the_mid n = record { 0 = n }

-- what holds of each holds of the one that is found
pub found_holds : (P : Sent → Type 0) (mid : Mid) (sent : List Sent) (one : Sent) → AllByRecursion P sent → sent_with mid sent ≡ Some one → P one
found_holds P mid [] one all is = absurd (cc is)
found_holds P mid (x ∷ xs) one all is = by (x.mid.0 == mid.0) is (found_holds P mid xs one all.1)
  where
    by : (t : Bool) → (if t then Some x else sent_with mid xs) ≡ Some one → (sent_with mid xs ≡ Some one → P one) → P one
    by true found later = let same : x ≡ one = cc in subst P same all.0
    by false found later = later found

-- one that is put off keeps its id and its frame
off_mid : (m : Mid) (x : Sent) → (put_off m x).mid ≡ x.mid
off_mid m x = by (x.mid.0 == m.0)
  where
    by : (t : Bool) → (if t then record x { pended = true } else x).mid ≡ x.mid
    by true = refl
    by false = refl

off_frame : (m : Mid) (x : Sent) → (put_off m x).frame ≡ x.frame
off_frame m x = by (x.mid.0 == m.0)
  where
    by : (t : Bool) → (if t then record x { pended = true } else x).frame ≡ x.frame
    by true = refl
    by false = refl

found_off : (m mid : Mid) (sent : List Sent) → sent_with mid (map (put_off m) sent) ≡ option_map (put_off m) (sent_with mid sent)
found_off m mid [] = refl
found_off m mid (x ∷ xs) =
    ap (λ (y : Mid). if y.0 == mid.0 then Some (put_off m x) else sent_with mid (map (put_off m) xs)) (off_mid m x)
    ∙ ap (λ (o : Option Sent). if x.mid.0 == mid.0 then Some (put_off m x) else o) (found_off m mid xs)
    ∙ by (x.mid.0 == mid.0)
  where
    by : (t : Bool) → (if t then Some (put_off m x) else option_map (put_off m) (sent_with mid xs)) ≡ option_map (put_off m) (if t then Some x else sent_with mid xs)
    by true = refl
    by false = refl

-- whether a request of this frame and id is the first
abbrev first_by : List Sent → Mid → Mid → Bool
first_by [] frame mid = false
first_by (y ∷ ys) frame mid = if y.frame.0 == frame.0 then y.mid.0 == mid.0 else first_by ys frame mid

by_parts : (sent : List Sent) (x : Sent) → is_first_of_frame sent x ≡ first_by sent x.frame x.mid
by_parts [] x = refl
by_parts (y ∷ ys) x = ap (λ (t : Bool). if y.frame.0 == x.frame.0 then y.mid.0 == x.mid.0 else t) (by_parts ys x)

first_off : (m : Mid) (sent : List Sent) (frame mid : Mid) → first_by (map (put_off m) sent) frame mid ≡ first_by sent frame mid
first_off m [] frame mid = refl
first_off m (y ∷ ys) frame mid =
    ap (λ (f : Mid). if f.0 == frame.0 then (put_off m y).mid.0 == mid.0 else first_by (map (put_off m) ys) frame mid) (off_frame m y)
    ∙ ap (λ (n : Mid). if y.frame.0 == frame.0 then n.0 == mid.0 else first_by (map (put_off m) ys) frame mid) (off_mid m y)
    ∙ ap (λ (t : Bool). if y.frame.0 == frame.0 then y.mid.0 == mid.0 else t) (first_off m ys frame mid)

-- a request stays the first of its frame
stays_first : (m : Mid) (sent : List Sent) (x : Sent) → is_first_of_frame (map (put_off m) sent) (put_off m x) ≡ is_first_of_frame sent x
stays_first m sent x =
    by_parts (map (put_off m) sent) (put_off m x)
    ∙ ap (λ (f : Mid). first_by (map (put_off m) sent) f (put_off m x).mid) (off_frame m x)
    ∙ ap (λ (n : Mid). first_by (map (put_off m) sent) x.frame n) (off_mid m x)
    ∙ first_off m sent x.frame x.mid
    ∙ sym (by_parts sent x)

next_off : (m mid : Mid) (sent : List Sent) → is_next (sent_with mid (map (put_off m) sent)) (map (put_off m) sent) ≡ is_next (sent_with mid sent) sent
next_off m mid sent =
    ap (λ (o : Option Sent). is_next o (map (put_off m) sent)) (found_off m mid sent) ∙ by (sent_with mid sent)
  where
    by : (o : Option Sent) → is_next (option_map (put_off m) o) (map (put_off m) sent) ≡ is_next o sent
    by None = refl
    by (Some x) = stays_first m sent x

-- a request may be served as before once others were put off
next_delayed : (m mid : Mid) (b : State) (reply : Option (List ℕ))
    → is_next (sent_with mid (delayed_by reply m b).share.sent) (delayed_by reply m b).share.sent ≡ is_next (sent_with mid b.share.sent) b.share.sent
next_delayed m mid b None = refl
next_delayed m mid b (Some frame) = next_off m mid b.share.sent

pub next_kept : (mids : List Mid) (mid : Mid) (b : State)
    → is_next (sent_with mid (all_delayed mids b).share.sent) (all_delayed mids b).share.sent ≡ is_next (sent_with mid b.share.sent) b.share.sent
next_kept [] mid b = refl
next_kept (m ∷ mids) mid b = next_kept mids mid (delayed m b) ∙ next_delayed m mid b (interim_to (sent_with m b.share.sent))

-- one that can be served may be
pub can_next : (found : Option Sent) (s : Share) → can_take found s ≡ true → is_next found s.sent ≡ true
can_next None s is = absurd (cc is)
can_next (Some one) s is = by (is_first_of_frame s.sent one) (can_do s (plan_of one)) is
  where
    by : (a b : Bool) → (a && b) ≡ true → a ≡ true
    by true b is = refl
    by false b is = is

-- one more request is put off
pub one_more_delayed : (mids : List Mid) (i : ℕ) (b new : State) → i < length mids → new ≡ delayed (get_or mids i (record { 0 = 0 })) b
    → all_delayed (drop (suc i) mids) new ≡ all_delayed (drop i mids) b
one_more_delayed [] i b new inside is = absurd (omega arith)
one_more_delayed (m ∷ mids) zero b new inside is = ap (all_delayed mids) is
one_more_delayed (m ∷ mids) (suc i) b new inside is = one_more_delayed mids i b new (omega arith) is

-- a number with which a request can be served names one that may be
pub servable_next : (s : Share) (n : ℕ) (mid : Mid) → slice_get (waiting_ids s.sent) n ≡ Some mid → is_servable s n ≡ true → is_next (sent_with mid s.sent) s.sent ≡ true
unfolding is_servable
servable_next s n mid is may = can_next (sent_with mid s.sent) s (subst (λ (o : Option Mid). can_serve o s ≡ true) is may)

-- and it names one
pub servable_one : (s : Share) (n : ℕ) → slice_get (waiting_ids s.sent) n ≡ None → is_servable s n ≡ true → ⊥
unfolding is_servable
servable_one s n is may = false≢true (subst (λ (o : Option Mid). can_serve o s ≡ true) is may)

-- the request with this number is served once those before it were put off
pub served_is : (b : State) (n : ℕ) (mid : Mid) → slice_get (waiting_ids b.share.sent) n ≡ Some mid
    → served n b ≡ served_at mid (all_delayed (take n (waiting_ids b.share.sent)) b)
unfolding served
served_is b n mid is = ap (λ (o : Option Mid). served_with o (all_delayed (take n (waiting_ids b.share.sent)) b)) is

-- code that serves the request with an id
pub serves_found : {A E : Type 0} (result : Result A E) (old new : State) (mid : Mid) (one : Sent) (rest : List Sent) → sent_with mid old.share.sent ≡ Some one
    → rest ≡ sent_but mid old.share.sent → OnOk result (new ≡ served_as (plan_of one) one (record old { share = record old.share { sent = rest } }))
    → OnOk result (new ≡ served_at mid old)
serves_found (Ok x) old new mid one rest found left ok =
    let own : rest ≡ sent_but one.mid old.share.sent = left ∙ ap (λ (m : Mid). sent_but m old.share.sent) (sym (found_own mid old.share.sent one found)) in
    let is : new ≡ served_found (Some one) old = rw own at ok in
    subst (λ (o : Option Sent). new ≡ served_found o old) (sym found) is
serves_found (Err e) old new mid one rest found left ok = tt
