-- In the frames of an honest share a client finds no fault, and reads each reply.
use Rattle.std.proofs.Common.{rules, arith, ◌≡◌, ◌∙◌, refl, sym, ap, subst, ℕ, zero, suc, ◌+◌, ◌%◌, ◌==◌, ◌<◌, ◌≤◌, Bool, true, false, cond, if◌then◌else◌, not, List, [], ◌∷◌, ◌++◌, length, take, drop, Option, Some, None, Result, Ok, Err, inl, inr, Less, Equal, Greater}
use Rattle.std.specs.Prelude.{IsSomeAnd, IfSome, IsOkAnd, IfOk, map, filter, option_map, nat_lt, is_some, is_none, is_ok, ◌&&◌, ◌||◌}
use Rattle.std.specs.List.{AllByRecursion}
use Rattle.std.specs.Ordering.{nat_cmp, is_eq}
use Rattle.std.specs.Cmp.{nat_cmp_is}
use Rattle.std.proofs.lemmas.Bool.{false≢true}
use Rattle.std.proofs.lemmas.Bool.Decides.{eqb_tells, nat_tests}
use Rattle.smb_base.specs.declared.names.Mid.{Mid}
use Rattle.smb_le.specs.Numbers.{number_at}
use Rattle.smb_le.proofs.NumberLaws.{number_at-take}
use Rattle.smb_chain.specs.declared.parts.BadNext.{BadNext}
use Rattle.smb_chain.specs.Parts.{Step, Only, Then, Bad, is_bad_next, step_of, with_rest, parts_within, parts_of}
use Rattle.smb_credit.specs.Window.{no_request}
use Rattle.smb_field.specs.declared.field.BodyFault.TheVariants as wrong
use Rattle.smb_head.specs.declared.command.TheConstants.{NEGOTIATE, SESSION_SETUP, LOGOFF, TREE_CONNECT, TREE_DISCONNECT, ECHO, QUERY_INFO}
use Rattle.smb_head.specs.declared.head.Head.{Head}
use Rattle.smb_head.specs.declared.head.HeadFault.{HeadFault}
use Rattle.smb_head.specs.declared.head.HeadFault.TheVariants.{Short, Magic, Size}
use Rattle.smb_head.specs.declared.head.TheConstants.{PROTOCOL}
use Rattle.smb_head.specs.Header.{head_of, head_at, is_reply, is_interim}
use Rattle.smb_head.specs.Stream.{frames_in}
use Rattle.smb_mux.specs.declared.fault.TakeFault.{TakeFault}
use Rattle.smb_mux.specs.declared.taken.Reply.{Reply}
use Rattle.smb_mux.specs.declared.taken.Taken.{Taken}
use Rattle.smb_mux.specs.declared.look.Look.{Look}
use Rattle.smb_mux.specs.declared.look.Look.TheVariants as look
use Rattle.smb_field.specs.Faults.{error_fault}
use Rattle.smb_mux.specs.Bodies.{reply_fault}
use Rattle.smb_mux.specs.Judged as mux
use Rattle.smb_mux.specs.Judged.{nothing, command_at, is_answered, awaited_command, if_sound, looked_for, look_with, look_of, added, on_with, judged_by, judged_within, judged_from, judged}
use Rattle.share_state.specs.declared.connection.Owed.{Owed}
use Rattle.share_state.specs.declared.connection.Owed.TheVariants as owed
use Rattle.share_state.specs.declared.connection.Sent.{Sent}
use Rattle.share_state.specs.declared.request.Rep.{Rep}
use Rattle.share_state.specs.declared.share.Share.{Share}
use Rattle.share_state.specs.Sent.{sent_but, sent_with}
use Rattle.fs_plain.specs.Masked.{Untold, untold, masked}
use Rattle.fs_plain.specs.Requests.{WireRequest, wire_request}
use Rattle.fs_plain.specs.Replies.{command_of, answers, is_error, reply_by_status, reply_with, reply_in, interim_with, is_interim_of, is_aside_by_status, aside_with, is_aside_reply, Pays}
use Rattle.fs_plain.specs.World.{messages_in}
use Rattle.fs_plain.specs.Honest.{ArePaid, MayGet}
use Rattle.fs_plain.specs.PlainSide.{PlainSide}
use Rattle.fs_client.specs.View.{View}
use Rattle.fs_client.specs.Asked.{behind_it, left_by}
use Rattle.fs_client.specs.Looks.{is_early, went, all_looked, landed_owed}
use Rattle.fs_client.specs.Owing.{IsShare, IsDueTo, IsDueAside, IsDue, AreDue}
use Rattle.fs_client.specs.Ready.{awaited, AreWhole}
use Rattle.fs_client.specs.Sane.{IsSent, Sane}
use Rattle.fs_client.proofs.Lists.{all_append, all_of, none_some, some_is, itself, same_number, turned, found, found_but, found_map}
use Rattle.fs_client.proofs.Flights.{it_mid, it_message, left_is}
use Rattle.fs_client.proofs.Landing.{InTurn}
use Rattle.fs_client.proofs.Commands.{share_command, aside_command}
use Rattle.fs_client.proofs.Readiness.{went_whole}
use Rattle.fs_client.proofs.Bodies.{error_is, create_agrees, close_agrees, query_read, asides_agree}
use Rattle.fs_client.proofs.Keeping.{done, reply_is, aside_is}
use Rattle.fs_refine.specs.Related.{Related}
use Rattle.fs_refine.specs.Faultless.{IsRead, AreFaultless}
use Rattle.fs_refine.proofs.Taking.{IsWell, look_keeps, well_looked}
use Rattle.fs_refine.proofs.Changing.{well}
use Rattle.fs_refine.proofs.Getting.{pays_looked, paid}

-- a request in flight is found among those that are awaited
test_is : (a b : ℕ) → is_eq (nat_cmp a b) ≡ (a == b)
test_is a b = elim (eqb_tells a b) [
  | inl told ↦ ap is_eq (sym (nat_cmp_is a b Equal told.1)) ∙ sym told.0
  | inr told ↦ other (nat_lt a b) (a == b) told.0 ∙ sym told.0
]
  where
    other : (t u : Bool) → u ≡ false → is_eq (cond t Less (cond u Equal Greater)) ≡ false
    other true u is = refl
    other false true is = absurd (false≢true (sym is))
    other false false is = refl

none_early : (v : View) → v.early ≡ [] → awaited v ≡ map (λ (x : Sent). (x.mid.0, command_of x.message)) v.flights
none_early v none =
    ap (λ (e : List (Mid × Rep)). map (λ (x : Sent). (x.mid.0, command_of x.message)) (filter (λ (x : Sent). not (is_early x.mid e)) v.flights)) none
    ∙ ap (map (λ (x : Sent). (x.mid.0, command_of x.message))) (all v.flights)
  where
    all : (xs : List Sent) → filter (λ (x : Sent). not (is_early x.mid [])) xs ≡ xs
    all [] = refl
    all (x ∷ xs) = ap (λ (l : List Sent). x ∷ l) (all xs)

command_found : (mid : Mid) (xs : List Sent) (x : Sent) → sent_with mid xs ≡ Some x → command_at (map (λ (y : Sent). (y.mid.0, command_of y.message)) xs) mid.0 ≡ Some (command_of x.message)
command_found mid [] x there = absurd (none_some x there)
command_found mid (y ∷ ys) x there = elim (eqb_tells y.mid.0 mid.0) [
  | inl told ↦
      ap (λ (b : Bool). cond b (Some (command_of y.message)) (command_at (map (λ (z : Sent). (z.mid.0, command_of z.message)) ys) mid.0)) (test_is mid.0 y.mid.0 ∙ swapped y.mid.0 mid.0 told.0)
      ∙ ap (λ (z : Sent). Some (command_of z.message)) (some_is y x (subst (λ (b : Bool). (if b then Some y else sent_with mid ys) ≡ Some x) told.0 there))
  | inr told ↦
      ap (λ (b : Bool). cond b (Some (command_of y.message)) (command_at (map (λ (z : Sent). (z.mid.0, command_of z.message)) ys) mid.0)) (test_is mid.0 y.mid.0 ∙ turned y.mid.0 mid.0 told.0)
      ∙ command_found mid ys x (subst (λ (b : Bool). (if b then Some y else sent_with mid ys) ≡ Some x) told.0 there)
]
  where
    swapped : (a b : ℕ) → (a == b) ≡ true → (b == a) ≡ true
    swapped a b is = search rules

-- a request in flight now was in flight when the frame came
record Was (v0 : View) (mid : Mid) (x : Sent) : Type 0 where
  before : Sent
  there : sent_with mid v0.flights ≡ Some before
  same : before.mid.0 ≡ mid.0
  message : before.message ≡ x.message

-- each request in flight now is awaited by the frame, and was not answered by it; and the replies so far can be read
record Awaits (v0 v : View) (t : Taken) : Type 0 where
  on : (mid : Mid) (x : Sent) → sent_with mid v.flights ≡ Some x → awaited_command (awaited v0) t mid.0 ≡ Some (command_of x.message)
  was : (mid : Mid) (x : Sent) → sent_with mid v.flights ≡ Some x → Was v0 mid x
  read : AllByRecursion (IsRead v0) t.replies

awaits_first : (v : View) → v.early ≡ [] → Awaits v v nothing
awaits_first v none = record {
  on = λ mid x there. ap (λ (l : List (ℕ × ℕ)). command_at l mid.0) (none_early v none) ∙ command_found mid v.flights x there;
  was = λ mid x there. record { before = x; there = there; same = its_mid mid x there; message = refl };
  read = tt;
}
  where
    its_mid : (mid : Mid) (x : Sent) → sent_with mid v.flights ≡ Some x → x.mid.0 ≡ mid.0
    its_mid mid x there = (found (λ (y : Sent). y ≡ y) mid v.flights x there (all_of (λ (y : Sent). y ≡ y) v.flights (λ y. refl))).1

-- one is answered: the others still wait
none_with : (mid m : Mid) (xs : List Sent) → (mid.0 == m.0) ≡ true → sent_with mid (sent_but m xs) ≡ None
none_with mid m [] same = refl
none_with mid m (x ∷ xs) same = by (x.mid.0 == m.0) refl (none_with mid m xs same)
  where
    apart : (a b c : ℕ) → (a == b) ≡ true → (c == b) ≡ false → (c == a) ≡ false
    apart a b c is far = grind (arith, nat_tests)

    by : (t : Bool) → (x.mid.0 == m.0) ≡ t → sent_with mid (sent_but m xs) ≡ None → sent_with mid (cond (not t) (x ∷ sent_but m xs) (sent_but m xs)) ≡ None
    by true is deeper = deeper
    by false is deeper = ap (λ (b : Bool). if b then Some x else sent_with mid (sent_but m xs)) (apart mid.0 m.0 x.mid.0 same is) ∙ deeper

record Left (mid : Mid) (x : Sent) (xs : List Sent) (y : Sent) : Type 0 where
  before : Sent
  there : sent_with mid xs ≡ Some before
  message : y.message ≡ before.message
  apart : (mid.0 == x.mid.0) ≡ false

left_found : (mid : Mid) (x : Sent) (reply : Rep) (xs : List Sent) (y : Sent) → sent_with mid (left_by x reply xs) ≡ Some y → Left mid x xs y
left_found mid x reply xs y there =
    let is : option_map (behind_it x reply) (sent_with mid (sent_but x.mid xs)) ≡ Some y =
    sym (ap (sent_with mid) (left_is x reply xs) ∙ found_map mid (behind_it x reply) (sent_but x.mid xs) (it_mid x reply)) ∙ there in
    by (mid.0 == x.mid.0) refl is
  where
    at : (o : Option Sent) → sent_with mid xs ≡ o → (mid.0 == x.mid.0) ≡ false → option_map (behind_it x reply) o ≡ Some y → Left mid x xs y
    at None there far is = absurd (none_some y is)
    at (Some z) there far is = record {
      before = z;
      there = there;
      message = ap (λ (s : Sent). s.message) (sym (some_is (behind_it x reply z) y is)) ∙ it_message x reply z;
      apart = far;
    }

    by : (t : Bool) → (mid.0 == x.mid.0) ≡ t → option_map (behind_it x reply) (sent_with mid (sent_but x.mid xs)) ≡ Some y → Left mid x xs y
    by true same is = absurd (none_some y (sym (ap (option_map (behind_it x reply)) (none_with mid x.mid xs same)) ∙ is))
    by false far is = at (sent_with mid xs) refl far (sym (ap (option_map (behind_it x reply)) (found_but mid x.mid xs far)) ∙ is)

any_append : (rs : List Reply) (r : Reply) (id : ℕ) → is_answered (rs ++ r ∷ []) id ≡ (is_answered rs id || r.mid.0 == id)
any_append [] r id = or_false (r.mid.0 == id)
  where
    or_false : (b : Bool) → (b || false) ≡ b
    or_false true = refl
    or_false false = refl
any_append (s ∷ rs) r id = ap (λ (b : Bool). s.mid.0 == id || b) (any_append rs r id) ∙ either (s.mid.0 == id) (is_answered rs id) (r.mid.0 == id)
  where
    either : (a b c : Bool) → (a || (b || c)) ≡ ((a || b) || c)
    either true b c = refl
    either false b c = refl

-- what came, with one reply more
abbrev answered_too : Taken → Mid → List ℕ → Taken
answered_too t mid part = record t { replies = t.replies ++ record { mid = mid; part = part } ∷ [] }

awaits_went : (v0 v : View) (t : Taken) (x : Sent) (reply : Rep) (mid : Mid) (part : List ℕ) → mid.0 ≡ x.mid.0 → Awaits v0 v t → IsRead v0 (record { mid = mid; part = part })
    → Awaits v0 (went x reply v) (answered_too t mid part)
awaits_went v0 v t x reply mid part is a readable = record {
  on = λ m y there.
      let l = left_found m x reply v.flights y there in
      ap (λ (b : Bool). if b then None else command_at (awaited v0) m.0)
      (any_append t.replies (record { mid = mid; part = part }) m.0
      ∙ ap (λ (b : Bool). is_answered t.replies m.0 || b) (ap (λ (n : ℕ). n == m.0) is ∙ turned m.0 x.mid.0 l.apart) ∙ or_false (is_answered t.replies m.0))
      ∙ a.on m l.before l.there ∙ ap (λ (q : List ℕ). Some (command_of q)) (sym l.message);
  was = λ m y there.
      let l = left_found m x reply v.flights y there in
      let w = a.was m l.before l.there in
      record { before = w.before; there = w.there; same = w.same; message = w.message ∙ sym l.message };
  read = all_append (IsRead v0) t.replies (record { mid = mid; part = part } ∷ []) a.read (readable, tt);
}
  where
    or_false : (b : Bool) → (b || false) ≡ b
    or_false true = refl
    or_false false = refl

-- what one message adds, where it has no fault
record One (v0 w : View) (part : List ℕ) (l : Result Taken TakeFault) : Type 0 where
  head : is_ok (head_of part) ≡ true
  t : Taken
  is : l ≡ Ok t
  awaits : Awaits v0 w t

-- the ids that were used are below the one of no request, and the replies to what is in flight leave nothing out
pub record IsFit (v : View) : Type 0 where
  pub next : v.next ≤ no_request
  pub whole : AreWhole v.flights

fit_went : (v : View) (x : Sent) (reply : Rep) → Sane v → InTurn v.flights x reply → IsFit v → IsFit (went x reply v)
fit_went v x reply sane turn fit = record {
  next = fit.next;
  whole = went_whole x reply v fit.whole;
}

paid_keeps : (os : List Owed) (messages : List (Result (List ℕ) BadNext)) (u : View) → ArePaid os messages → IsWell u → AreDue u os → IsFit u → IsFit (all_looked messages u)
paid_keeps os [] u pays w due fit = fit
paid_keeps [] (m ∷ messages) u pays w due fit = absurd pays
paid_keeps (o ∷ os) (Err bad ∷ messages) u pays w due fit = absurd pays
paid_keeps (o ∷ os) (Ok m ∷ messages) u pays w due fit =
    subst (λ (x : View). IsFit (all_looked messages x)) (sym (pays_looked o m u w.early due.0 pays.0))
    (paid_keeps os messages (landed_owed o u) pays.1 (well_looked o u w due.0) due.1 (look_keeps IsFit fit_went o u w.sane w.early due.0 fit))

not_true : (b : Bool) → not b ≡ true → b ≡ false
not_true false is = refl
not_true true is = absurd (false≢true is)

none_is : {X : Type 0} (o : Option X) → is_none o ≡ true → o ≡ None
none_is None is = refl
none_is (Some x) is = absurd (false≢true is)

parts_true : (a b c : Bool) → (a && b && c) ≡ true → (a ≡ true) × (b ≡ true) × (c ≡ true)
parts_true true true true is = (refl, refl, refl)
parts_true true true false is = absurd (false≢true is)
parts_true true false c is = absurd (false≢true is)
parts_true false b c is = absurd (false≢true is)

-- a message that answers a request in flight is looked at as a reply
record Awaited (v0 v : View) (t : Taken) (x : Sent) (head : Head) : Type 0 where
  there : sent_with x.mid v.flights ≡ Some x
  same : head.mid.0 ≡ x.mid.0
  replies : is_reply head ≡ true
  command : head.command ≡ command_of x.message
  low : x.mid.0 < v.next
  next : v.next ≤ no_request
  awaits : Awaits v0 v t

-- so it can be read where its request, as it is now, reads it
read_by : (v0 v : View) (t : Taken) (x : Sent) (head : Head) (part : List ℕ) → Awaited v0 v t x head → (command_of x.message ≡ QUERY_INFO → is_some (reply_in x.mid x.message part) ≡ true)
    → IsRead v0 (record { mid = head.mid; part = part })
read_by v0 v t x head part a reads =
    let w = a.awaits.was x.mid x a.there in
    subst (λ (o : Option Sent). IfSome o (λ (y : Sent). command_of y.message ≡ QUERY_INFO → is_some (reply_in y.mid y.message part) ≡ true))
    (sym (subst (λ (n : ℕ). sent_with (record { 0 = n }) v0.flights ≡ Some w.before) (sym a.same) w.there))
    (subst (λ (q : List ℕ). command_of q ≡ QUERY_INFO → is_some (reply_in w.before.mid q part) ≡ true) (sym w.message)
    (subst (λ (n : ℕ). command_of x.message ≡ QUERY_INFO → is_some (reply_in (record { 0 = n }) x.message part) ≡ true) (sym w.same) reads))

-- a request of the connection itself asks for nothing of a file
no_query : (q : List ℕ) → wire_request q ≡ Some WireRequest.Aside → command_of q ≡ QUERY_INFO → ⊥
no_query q aside = aside_command (λ (command : ℕ). command ≡ QUERY_INFO → ⊥) q
    (other NEGOTIATE refl, (other SESSION_SETUP refl, (other TREE_CONNECT refl, (other LOGOFF refl, (other TREE_DISCONNECT refl, (other ECHO refl, tt)))))) aside
  where
    other : (n : ℕ) → (n == QUERY_INFO) ≡ false → n ≡ QUERY_INFO → ⊥
    other n apart is = false≢true (sym apart ∙ ap (λ (m : ℕ). m == QUERY_INFO) is ∙ itself QUERY_INFO)

looked_at : (v0 v : View) (t : Taken) (x : Sent) (head : Head) (part : List ℕ) → Awaited v0 v t x head → head_of part ≡ Ok head → look_of (awaited v0) t part ≡ mux.looked_reply head part
looked_at v0 v t x head part a at =
    ap (λ (h : Result Head HeadFault). look_with h (awaited v0) t part) at
    ∙ ap (λ (b : Bool). if b then mux.looked_notice (mux.notice_in head part) else looked_for (awaited_command (awaited v0) t head.mid.0) head part) (below head.mid.0 x.mid.0 v.next no_request a.same a.low a.next)
    ∙ ap (λ (n : ℕ). looked_for (awaited_command (awaited v0) t n) head part) a.same
    ∙ ap (λ (o : Option ℕ). looked_for o head part) (a.awaits.on x.mid x a.there)
    ∙ ap (λ (n : ℕ). if n == command_of x.message && is_reply head then mux.looked_reply head part else mux.wrong wrong.Value) a.command
    ∙ ap (λ (b : Bool). if b && is_reply head then mux.looked_reply head part else mux.wrong wrong.Value) (itself (command_of x.message))
    ∙ ap (λ (b : Bool). if b then mux.looked_reply head part else mux.wrong wrong.Value) a.replies
  where
    below : (a b c d : ℕ) → a ≡ b → b < c → c ≤ d → (a == d) ≡ false
    below a b c d is less le = grind (arith, nat_tests)

final_added : (v0 v : View) (t : Taken) (x : Sent) (head : Head) (part : List ℕ) → Awaited v0 v t x head → head_of part ≡ Ok head → is_interim head ≡ false
    → is_none (reply_fault head.status.0 (command_of x.message) part) ≡ true → added (look_of (awaited v0) t part) part t ≡ Ok (answered_too t head.mid part)
final_added v0 v t x head part a at final sound =
    ap (λ (l : Look). added l part t) (looked_at v0 v t x head part a at
    ∙ ap (λ (b : Bool). if b then if_sound (look.Interim head.mid) (error_fault part) else if_sound (look.Final head.mid) (reply_fault head.status.0 head.command part)) final
    ∙ ap (λ (n : ℕ). if_sound (look.Final head.mid) (reply_fault head.status.0 n part)) a.command
    ∙ ap (if_sound (look.Final head.mid)) (none_is (reply_fault head.status.0 (command_of x.message) part) sound))

interim_added : (v0 v : View) (t : Taken) (x : Sent) (head : Head) (part : List ℕ) → Awaited v0 v t x head → head_of part ≡ Ok head → is_interim head ≡ true → is_error part ≡ true
    → added (look_of (awaited v0) t part) part t ≡ Ok (record t { interim = t.interim ++ head.mid ∷ [] })
interim_added v0 v t x head part a at interim error =
    ap (λ (l : Look). added l part t) (looked_at v0 v t x head part a at
    ∙ ap (λ (b : Bool). if b then if_sound (look.Interim head.mid) (error_fault part) else if_sound (look.Final head.mid) (reply_fault head.status.0 head.command part)) interim
    ∙ ap (if_sound (look.Interim head.mid)) (none_is (error_fault part) (error_is part ∙ error)))

-- what is known of a request in flight and of the head that answers it
awaited_by : (v0 v : View) (t : Taken) (mid : Mid) (q : List ℕ) (x : Sent) (head : Head) → IsWell v → IsFit v → Awaits v0 v t → sent_with mid v.flights ≡ Some x → x.message ≡ q
    → answers mid q head ≡ true → Awaited v0 v t x head
awaited_by v0 v t mid q x head w next awaits there message is =
    let parts = parts_true (is_reply head) (head.mid.0 == mid.0) (head.command == command_of q) is in
    let f = found (IsSent v.next) mid v.flights x there w.sane.sent in
    record {
      there = subst (λ (n : ℕ). sent_with (record { 0 = n }) v.flights ≡ Some x) (sym f.1) there;
      same = same_number head.mid.0 mid.0 parts.1 ∙ sym f.1;
      replies = parts.0;
      command = same_number head.command (command_of q) parts.2 ∙ ap command_of (sym message);
      low = f.0.0;
      next = next.next;
      awaits = awaits;
    }

head_ok : (part : List ℕ) (head : Head) → head_of part ≡ Ok head → is_ok (head_of part) ≡ true
head_ok part head at = ap (λ (h : Result Head HeadFault). is_ok h) at

-- what pays a reply to a request is read by the request itself
own_reply : (mid : Mid) (q : List ℕ) (paid : Rep) (x : Sent) (part : List ℕ) → x.mid.0 ≡ mid.0 → x.message ≡ q → reply_in mid q part ≡ Some paid → is_some (reply_in x.mid x.message part) ≡ true
own_reply mid q paid x part same message pays =
    subst (λ (l : List ℕ). is_some (reply_in x.mid l part) ≡ true) (sym message)
    (subst (λ (n : ℕ). is_some (reply_in (record { 0 = n }) q part) ≡ true) (sym same) (ap (λ (o : Option Rep). is_some o) pays))

-- a final reply that pays what is owed
reply_one : (v0 v : View) (t : Taken) (mid : Mid) (q : List ℕ) (reply paid : Rep) (x : Sent) (part : List ℕ) → IsWell v → IsFit v → Awaits v0 v t → sent_with mid v.flights ≡ Some x
    → IsDueTo v q reply x → reply_in mid q part ≡ Some paid → One v0 (landed_owed (owed.Reply mid q reply) v) part (added (look_of (awaited v0) t part) part t)
unfolding reply_in
reply_one v0 v t mid q reply paid x part w next awaits there due pays = by (head_of part) refl pays
  where
    whole : untold q ≡ Untold.Nothing
    whole = ap untold (sym due.message) ∙ (found (λ (y : Sent). untold y.message ≡ Untold.Nothing) mid v.flights x there next.whole).0

    sound : (status : ℕ) → is_some (reply_by_status (untold q) status (command_of q) part) ≡ true → is_none (reply_fault status (command_of q) part) ≡ true
    sound status = at (wire_request x.message) refl due.share
      where
        P : ℕ → Type 0
        P command = is_some (reply_by_status (untold q) status command part) ≡ true → is_none (reply_fault status command part) ≡ true

        at : (r : Option WireRequest) → wire_request x.message ≡ r → IsShare r → P (command_of q)
        at None is share = absurd share
        at (Some WireRequest.Aside) is share = absurd share
        at (Some (WireRequest.Share related r)) is share = share_command P q related r
            (λ some. sym (create_agrees (untold q) status part) ∙ some) (λ some. sym (close_agrees (untold q) status part) ∙ some)
            (λ some. query_read status part (ap (λ (u : Untold). is_some (reply_by_status u status QUERY_INFO part)) (sym whole) ∙ some)) (ap wire_request (sym due.message) ∙ is)

    go : (head : Head) → head_of part ≡ Ok head → (a : Bool) → answers mid q head ≡ a → (b : Bool) → is_interim head ≡ b
        → (if a && not b then reply_by_status (untold q) head.status.0 (command_of q) part else None) ≡ Some paid → One v0 (landed_owed (owed.Reply mid q reply) v) part (added (look_of (awaited v0) t part) part t)
    go head at false ans b int is = absurd (none_some paid is)
    go head at true ans true int is = absurd (none_some paid is)
    go head at true ans false int is =
        let a = awaited_by v0 v t mid q x head w next awaits there due.message ans in
        record {
          head = head_ok part head at;
          t = answered_too t head.mid part;
          is = final_added v0 v t x head part a at int
              (subst (λ (l : List ℕ). is_none (reply_fault head.status.0 (command_of l) part) ≡ true) (sym due.message) (sound head.status.0 (ap (λ (o : Option Rep). is_some o) is)));
          awaits = subst (λ (u : View). Awaits v0 u (answered_too t head.mid part)) (sym (reply_is v mid q reply x w.early there due.first))
              (awaits_went v0 v t x (masked q reply) head.mid part a.same awaits (read_by v0 v t x head part a (λ query. own_reply mid q paid x part (found (IsSent v.next) mid v.flights x there w.sane.sent).1 due.message pays)));
        }

    by : (h : Result Head HeadFault) → head_of part ≡ h → reply_with h mid q part ≡ Some paid → One v0 (landed_owed (owed.Reply mid q reply) v) part (added (look_of (awaited v0) t part) part t)
    by (Err fault) at is = absurd (none_some paid is)
    by (Ok head) at is = go head at (answers mid q head) refl (is_interim head) refl is

-- one to the connection itself
aside_one : (v0 v : View) (t : Taken) (mid : Mid) (q : List ℕ) (x : Sent) (part : List ℕ) → IsWell v → IsFit v → Awaits v0 v t → sent_with mid v.flights ≡ Some x
    → IsDueAside v q x → is_aside_reply mid q part ≡ true → One v0 (landed_owed (owed.Aside mid q) v) part (added (look_of (awaited v0) t part) part t)
unfolding is_aside_reply
aside_one v0 v t mid q x part w next awaits there due pays = by (head_of part) refl pays
  where
    sound : (status : ℕ) → is_aside_by_status status (command_of q) part ≡ true → is_none (reply_fault status (command_of q) part) ≡ true
    sound status is = sym (aside_command (λ (command : ℕ). (status : ℕ) (message : List ℕ) → is_aside_by_status status command message ≡ is_none (reply_fault status command message)) q asides_agree
        (ap wire_request (sym due.message) ∙ due.aside) status part) ∙ is

    go : (head : Head) → head_of part ≡ Ok head → (answers mid q head && not (is_interim head) && is_aside_by_status head.status.0 (command_of q) part) ≡ true
        → One v0 (landed_owed (owed.Aside mid q) v) part (added (look_of (awaited v0) t part) part t)
    go head at is =
        let parts = parts_true (answers mid q head) (not (is_interim head)) (is_aside_by_status head.status.0 (command_of q) part) is in
        let a = awaited_by v0 v t mid q x head w next awaits there due.message parts.0 in
        record {
          head = head_ok part head at;
          t = answered_too t head.mid part;
          is = final_added v0 v t x head part a at (not_true (is_interim head) parts.1)
              (subst (λ (l : List ℕ). is_none (reply_fault head.status.0 (command_of l) part) ≡ true) (sym due.message) (sound head.status.0 parts.2));
          awaits = subst (λ (u : View). Awaits v0 u (answered_too t head.mid part)) (sym (aside_is v mid q x w.early there due.aside due.nobodys))
              (awaits_went v0 v t x done head.mid part a.same awaits (read_by v0 v t x head part a (λ query. absurd (no_query x.message due.aside query))));
        }

    by : (h : Result Head HeadFault) → head_of part ≡ h → aside_with h mid q part ≡ true → One v0 (landed_owed (owed.Aside mid q) v) part (added (look_of (awaited v0) t part) part t)
    by (Err fault) at is = absurd (false≢true is)
    by (Ok head) at is = go head at is

-- an interim one
interim_one : (v0 v : View) (t : Taken) (mid : Mid) (q : List ℕ) (x : Sent) (part : List ℕ) → IsWell v → IsFit v → Awaits v0 v t → sent_with mid v.flights ≡ Some x → x.message ≡ q
    → is_interim_of mid q part ≡ true → One v0 v part (added (look_of (awaited v0) t part) part t)
unfolding is_interim_of
interim_one v0 v t mid q x part w next awaits there message pays = by (head_of part) refl pays
  where
    by : (h : Result Head HeadFault) → head_of part ≡ h → interim_with h mid q part ≡ true → One v0 v part (added (look_of (awaited v0) t part) part t)
    by (Err fault) at is = absurd (false≢true is)
    by (Ok head) at is =
        let parts = parts_true (answers mid q head) (is_interim head) (is_error part) is in
        let a = awaited_by v0 v t mid q x head w next awaits there message parts.0 in
        record {
          head = head_ok part head at;
          t = record t { interim = t.interim ++ head.mid ∷ [] };
          is = interim_added v0 v t x head part a at parts.1 parts.2;
          awaits = record { on = awaits.on; was = awaits.was; read = awaits.read };
        }

-- a message that pays what is owed has no fault
one_message : (v0 v : View) (t : Taken) (o : Owed) (part : List ℕ) → IsWell v → IsFit v → Awaits v0 v t → IsDue v o → Pays o part
    → One v0 (landed_owed o v) part (added (look_of (awaited v0) t part) part t)
one_message v0 v t (owed.Interim mid q) part w next awaits due pays = by (sent_with mid v.flights) refl due
  where
    by : (o : Option Sent) → sent_with mid v.flights ≡ o → IsSomeAnd o (λ (x : Sent). x.message ≡ q) → One v0 v part (added (look_of (awaited v0) t part) part t)
    by None there is = absurd is
    by (Some x) there is = interim_one v0 v t mid q x part w next awaits there is pays
one_message v0 v t (owed.Reply mid q reply) part w next awaits due pays = by (sent_with mid v.flights) refl due
  where
    by : (o : Option Sent) → sent_with mid v.flights ≡ o → IsSomeAnd o (IsDueTo v q reply) → One v0 (landed_owed (owed.Reply mid q reply) v) part (added (look_of (awaited v0) t part) part t)
    by None there is = absurd is
    by (Some x) there is = reply_one v0 v t mid q reply (masked q reply) x part w next awaits there is pays
one_message v0 v t (owed.Aside mid q) part w next awaits due pays = by (sent_with mid v.flights) refl due
  where
    by : (o : Option Sent) → sent_with mid v.flights ≡ o → IsSomeAnd o (IsDueAside v q) → One v0 (landed_owed (owed.Aside mid q) v) part (added (look_of (awaited v0) t part) part t)
    by None there is = absurd is
    by (Some x) there is = aside_one v0 v t mid q x part w next awaits there is pays
one_message v0 v t (owed.Notice key state wanted) part w next awaits due pays = absurd due

-- a header stands where the first message of the bytes has one
from_part : (n : ℕ) (bytes : List ℕ) → 64 ≤ n → nat_lt (length bytes) 64 ≡ false → is_ok (head_of (take n bytes)) ≡ true → is_ok (head_of bytes) ≡ true
unfolding head_of
from_part n bytes long whole is =
    ap (λ (a : Bool). is_ok (if a then Err Short else if number_at 4 0 bytes == PROTOCOL then (if number_at 2 4 bytes == 64 then Ok (head_at bytes) else Err Size) else Err Magic)) whole
    ∙ at (number_at 4 0 bytes == PROTOCOL) (number_at 2 4 bytes == 64)
    (by (nat_lt (length (take n bytes)) 64) (number_at 4 0 bytes == PROTOCOL) (number_at 2 4 bytes == 64)
    (subst (λ (a : ℕ). is_ok (if nat_lt (length (take n bytes)) 64 then Err Short else if a == PROTOCOL then (if number_at 2 4 bytes == 64 then Ok (head_at (take n bytes)) else Err Size) else Err Magic) ≡ true)
    (number_at-take 4 0 n bytes (far 4 0 long (omega arith)))
    (subst (λ (a : ℕ). is_ok (if nat_lt (length (take n bytes)) 64 then Err Short else if number_at 4 0 (take n bytes) == PROTOCOL then (if a == 64 then Ok (head_at (take n bytes)) else Err Size) else Err Magic) ≡ true)
    (number_at-take 2 4 n bytes (far 2 4 long (omega arith))) is)))
  where
    far : (w i : ℕ) → 64 ≤ n → i + w ≤ 64 → i + w ≤ n
    far w i le low = omega (arith, le, low)

    by : (a b c : Bool) → is_ok (if a then Err Short else if b then (if c then Ok (head_at (take n bytes)) else Err Size) else Err Magic) ≡ true → (b ≡ true) × (c ≡ true)
    by true b c is = absurd (false≢true is)
    by false true true is = (refl, refl)
    by false true false is = absurd (false≢true is)
    by false false c is = absurd (false≢true is)

    at : (b c : Bool) → (b ≡ true) × (c ≡ true) → is_ok (if b then (if c then Ok (head_at bytes) else Err Size) else Err Magic) ≡ true
    at true true is = refl
    at true false is = absurd (false≢true is.1)
    at false c is = absurd (false≢true is.0)

abbrev Begins : Step → List ℕ → Type 0
Begins (Only part) bytes = is_ok (head_of part) ≡ true → is_ok (head_of bytes) ≡ true
Begins (Then part rest) bytes = is_ok (head_of part) ≡ true → is_ok (head_of bytes) ≡ true
Begins Bad bytes = Unit {0}

begins : (bytes : List ℕ) → Begins (step_of bytes) bytes
unfolding step_of
begins bytes = by (nat_lt (length bytes) 64) refl (number_at 4 20 bytes == 0)
  where
    next : ℕ
    next = number_at 4 20 bytes

    long : (n : ℕ) → nat_lt n 64 ≡ false → 64 ≤ n
    long n is = grind (arith, nat_tests)

    at : nat_lt (length bytes) 64 ≡ false → (a b : Bool) → nat_lt next 64 ≡ a → Begins (if a || b then Bad else Then (take next bytes) (drop next bytes)) bytes
    at whole true b is = record {}
    at whole false true is = record {}
    at whole false false is = from_part next bytes (long next is) whole

    by : (a : Bool) → nat_lt (length bytes) 64 ≡ a → (b : Bool)
        → Begins (if a then Only bytes else (if b then Only bytes else (if is_bad_next next (length bytes) then Bad else Then (take next bytes) (drop next bytes)))) bytes
    by true whole b = λ is. is
    by false whole true = λ is. is
    by false whole false = at whole (nat_lt next 64) (not (next % 8 == 0) || nat_lt (length bytes) (next + 64)) refl

-- there is no fault, and the replies can be read
abbrev Sound : View → Result Taken TakeFault → Type 0
Sound v0 r = IsOkAnd r (λ (t : Taken). AllByRecursion (IsRead v0) t.replies)

-- the messages of a frame, one after another
walked : (n : ℕ) (bytes : List ℕ) (v0 v : View) (t : Taken) (os : List Owed) → IsWell v → IsFit v → AreDue v os → ArePaid os (parts_within n bytes) → Awaits v0 v t
    → Sound v0 (judged_within n (awaited v0) t bytes)
walked zero bytes v0 v t os w next due pays awaits = awaits.read
walked (suc n) bytes v0 v t os w next due pays awaits =
    by (step_of bytes) (begins bytes) os due pays
    (λ rest v' t' os' w' next' due' pays' awaits'. walked n rest v0 v' t' os' w' next' due' pays' awaits')
  where
    Others : Type 0
    Others = (rest : List ℕ) (v' : View) (t' : Taken) (os' : List Owed) → IsWell v' → IsFit v' → AreDue v' os' → ArePaid os' (parts_within n rest) → Awaits v0 v' t'
        → Sound v0 (judged_within n (awaited v0) t' rest)

    with_head : (st : Step) (h : Result Head HeadFault) → is_ok h ≡ true → ((head : Head) → Sound v0 (judged_by (Ok head) st (awaited v0) t (judged_within n (awaited v0))))
        → Sound v0 (judged_by h st (awaited v0) t (judged_within n (awaited v0)))
    with_head st (Err fault) is f = absurd (false≢true is)
    with_head st (Ok head) is f = f head

    still : (o : Owed) → IsDue v o → IsFit (landed_owed o v)
    still o is = look_keeps IsFit fit_went o v w.sane w.early is next

    by : (st : Step) → Begins st bytes → (os : List Owed) → AreDue v os → ArePaid os (with_rest st (parts_within n))
        → ((rest : List ℕ) (v' : View) (t' : Taken) (os' : List Owed) → IsWell v' → IsFit v' → AreDue v' os' → ArePaid os' (parts_within n rest) → Awaits v0 v' t'
        → Sound v0 (judged_within n (awaited v0) t' rest))
        → Sound v0 (judged_by (head_of bytes) st (awaited v0) t (judged_within n (awaited v0)))
    by (Only part) starts [] due pays others = absurd pays
    by (Only part) starts (o ∷ os) due pays others =
        let one = one_message v0 v t o part w next awaits due.0 pays.0 in
        with_head (Only part) (head_of bytes) (starts one.head) (λ head. subst (Sound v0) (sym one.is) one.awaits.read)
    by (Then part rest) starts [] due pays others = absurd pays
    by (Then part rest) starts (o ∷ os) due pays others =
        let one = one_message v0 v t o part w next awaits due.0 pays.0 in
        with_head (Then part rest) (head_of bytes) (starts one.head)
        (λ head. subst (λ (r : Result Taken TakeFault). Sound v0 (on_with r (λ now. judged_within n (awaited v0) now rest))) (sym one.is)
        (others rest (landed_owed o v) one.t os (well_looked o v w due.0) (still o due.0) due.1 pays.1 one.awaits))
    by Bad starts [] due pays others = absurd pays
    by Bad starts (o ∷ os) due pays others = absurd pays

-- one frame
frame_faultless : (frame : List ℕ) (v : View) (os : List Owed) → IsWell v → IsFit v → AreDue v os → ArePaid os (parts_of frame) → Sound v (judged (awaited v) frame)
unfolding parts_of judged_from
frame_faultless frame v os w next due pays = walked (suc (length frame)) frame v v nothing os w next due pays (awaits_first v w.early)

sound_ok : (v0 : View) (r : Result Taken TakeFault) → Sound v0 r → is_ok r ≡ true
sound_ok v0 (Ok t) sound = refl
sound_ok v0 (Err fault) sound = absurd sound

sound_read : (v0 : View) (r : Result Taken TakeFault) → Sound v0 r → IfOk r (λ (t : Taken). AllByRecursion (IsRead v0) t.replies)
sound_read v0 (Ok t) sound = sound
sound_read v0 (Err fault) sound = absurd sound

-- messages that are paid, and those behind them
paid_first : (os : List Owed) (xs ys : List (Result (List ℕ) BadNext)) → ArePaid os (xs ++ ys) → ArePaid os xs
paid_first os [] ys pays = record {}
paid_first [] (x ∷ xs) ys pays = absurd pays
paid_first (o ∷ os) (Err bad ∷ xs) ys pays = absurd pays
paid_first (o ∷ os) (Ok m ∷ xs) ys pays = (pays.0, paid_first os xs ys pays.1)

paid_then : (os : List Owed) (xs ys : List (Result (List ℕ) BadNext)) → ArePaid os (xs ++ ys) → ArePaid (drop (length xs) os) ys
paid_then os [] ys pays = pays
paid_then [] (x ∷ xs) ys pays = absurd pays
paid_then (o ∷ os) (Err bad ∷ xs) ys pays = absurd pays
paid_then (o ∷ os) (Ok m ∷ xs) ys pays = paid_then os xs ys pays.1

frames_faultless : (frames : List (List ℕ)) (v : View) (os : List Owed) → IsWell v → IsFit v → AreDue v os → ArePaid os (messages_in frames) → AreFaultless frames v
frames_faultless [] v os w next due pays = record {}
frames_faultless (frame ∷ frames) v os w next due pays =
    let first : ArePaid os (parts_of frame) = paid_first os (parts_of frame) (messages_in frames) pays in
    let sound : Sound v (judged (awaited v) frame) = frame_faultless frame v os w next due first in
    let g = paid os (parts_of frame) v first w due in (
      sound_ok v (judged (awaited v) frame) sound,
      sound_read v (judged (awaited v) frame) sound,
      frames_faultless frames (all_looked (parts_of frame) v) (drop (length (parts_of frame)) os) g.well (paid_keeps os (parts_of frame) v first w due next) g.due
          (paid_then os (parts_of frame) (messages_in frames) pays),
    )

-- the frames that bytes of an honest share make whole have no fault and can be read, where ids are left
pub never_foul : (s : Share) (p : PlainSide) (v : View) (bytes : List ℕ) → Related s p v → IsFit v → MayGet bytes s → AreFaultless (frames_in (v.held ++ bytes)) v
never_foul s p v bytes old next may =
    frames_faultless (frames_in (v.held ++ bytes)) v s.owed (well s p v old) next old.due
    (subst (λ (h : List ℕ). ArePaid s.owed (messages_in (frames_in (h ++ bytes)))) old.held may.paid)
