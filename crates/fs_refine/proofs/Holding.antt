-- Each open of the plain share has a holder, whatever the calls do.
use Rattle.std.proofs.Common.{rules, ◌≡◌, ℕ, zero, suc, true, false, [], ◌∷◌, ◌++◌, ◌+◌, refl, ap, sym, subst, ◌∙◌, inl, inr, None, Some, List, Option, Bool, ◌==◌, not, cond, if◌then◌else◌}
use Rattle.std.specs.Prelude.{map, length, unwrap_or, is_none, is_some}
use Rattle.std.specs.List.{AllByRecursion}
use Rattle.std.proofs.lemmas.List.{length-append}
use Rattle.std.proofs.lemmas.Bool.{false≢true}
use Rattle.fs_types.specs.declared.answer.Answer.{Answer}
use Rattle.share_state.specs.declared.opens.Open.{Open}
use Rattle.share_state.specs.declared.request.Who.{Who}
use Rattle.share_state.specs.declared.request.Req.{Req}
use Rattle.share_state.specs.declared.request.Rep.{Rep}
use Rattle.share_state.specs.declared.share.Share.{Share}
use Rattle.share_state.specs.Reply.{fid_of}
use Rattle.share_state.specs.Close.{open_of}
use Rattle.share_state.specs.declared.connection.Grant.{Grant}
use Rattle.share_state.specs.PlainShare.{plain_step, plain_request, shown}
use Rattle.smb_link.specs.Program.{File, Own, Named, Wish, Open as Opening, Query, Close, Known, Program, Ask, Look, Say, settled}
use Rattle.fs_plain.specs.World.{us}
use Rattle.fs_plain.specs.Wishes.{wish_of}
use Rattle.fs_plain.specs.Divergence.{with_number, closed_if, all_ended_with, spoken_for}
use Rattle.fs_plain.specs.Paired.{Pair, open_given, plain_of_real}
use Rattle.fs_plain.specs.PlainSide.{PlainCall, PlainSide, call_with, calls_but, with_call, nth_open, open_of_file, plain_file_id, wish_done_on, with_given}
use Rattle.fs_plain.specs.Tidy.{closes, WillClose, Tidies}
use Rattle.fs_plain.specs.Holders.{HoldsUntilItCloses, HeldByCall, HeldByFile, IsHeld, ClosesItsOwn, AllHeld}
use Rattle.fs_plain.specs.Alike.{AreStanding}
use Rattle.fs_plain.proofs.Opens.{IsOpened, Creates, close_every, query_every, IsGone, closed_gone, step_every}
use Rattle.fs_plain.proofs.ShareLaws.{gives, given_number, step_creates, step_gives}
use Rattle.fs_client.proofs.Lists.{none_some, some_is, all_more, all_map, all_filter, all_append}

-- what a program will close, and that it closes what it opens, by what is known
will_settled : (n : ℕ) (known : Known) (p : Program) → WillClose n p → WillClose n (settled known p)
will_settled n known (Ask wish rest) will = will
will_settled n known (Look rest) will = will_settled n known (rest known) (will known)
will_settled n known (Say answer) will = will

tidies_settled : (n : ℕ) (known : Known) (p : Program) → Tidies n p → Tidies n (settled known p)
tidies_settled n known (Ask wish rest) tidies = tidies
tidies_settled n known (Look rest) tidies = tidies_settled n known (rest known) (tidies known)
tidies_settled n known (Say answer) tidies = tidies

-- the opens are held where the calls hold what they held
held_more : (p q : PlainSide) (o : Open) → q.described ≡ p.described → (HeldByCall o p.running → HeldByCall o q.running) → IsHeld p o → IsHeld q o
held_more p q o same f (inl other) = inl other
held_more p q o same f (inr (inl call)) = inr (inl (f call))
held_more p q o same f (inr (inr file)) = inr (inr (subst (HeldByFile o) (sym same) file))

-- a call begins
held_append : (o : Open) (running : List PlainCall) (c : PlainCall) → HeldByCall o running → HeldByCall o (running ++ c ∷ [])
held_append o [] c held = absurd held
held_append o (d ∷ ds) c (inl this) = inl this
held_append o (d ∷ ds) c (inr later) = inr (held_append o ds c later)

pub begin_holds : (p q : PlainSide) (c : PlainCall) → q.plain ≡ p.plain → q.described ≡ p.described → q.running ≡ p.running ++ c ∷ [] → ClosesItsOwn c → AllHeld p → AllHeld q
begin_holds p q c plain described running is old = record {
  opens = subst (λ (s : Share). AllByRecursion (IsHeld q) s.opens) (sym plain)
      (all_more (IsHeld p) (IsHeld q) p.plain.opens (λ o. held_more p q o described (λ held. subst (HeldByCall o) (sym running) (held_append o p.running c held))) old.opens);
  calls = subst (AllByRecursion ClosesItsOwn) (sym running) (all_append ClosesItsOwn p.running (c ∷ []) old.calls (is, tt));
}

-- a frame is announced for a call
holds_spoken : (o : Open) (number : ℕ) (c : PlainCall) → HoldsUntilItCloses o c → HoldsUntilItCloses o (spoken_for number c)
holds_spoken o number c is = by (c.number == number)
  where
    by : (t : Bool) → HoldsUntilItCloses o (if t then record c { announced = true } else c)
    by true = is
    by false = is

closes_spoken : (number : ℕ) (c : PlainCall) → ClosesItsOwn c → ClosesItsOwn (spoken_for number c)
closes_spoken number c is = by (c.number == number)
  where
    by : (t : Bool) → ClosesItsOwn (if t then record c { announced = true } else c)
    by true = is
    by false = is

held_spoken : (o : Open) (number : ℕ) (running : List PlainCall) → HeldByCall o running → HeldByCall o (map (spoken_for number) running)
held_spoken o number [] held = absurd held
held_spoken o number (c ∷ cs) (inl this) = inl (holds_spoken o number c this)
held_spoken o number (c ∷ cs) (inr later) = inr (held_spoken o number cs later)

pub announce_holds : (p q : PlainSide) (number : ℕ) → q.plain ≡ p.plain → q.described ≡ p.described → q.running ≡ map (spoken_for number) p.running → AllHeld p → AllHeld q
announce_holds p q number plain described running old = record {
  opens = subst (λ (s : Share). AllByRecursion (IsHeld q) s.opens) (sym plain)
      (all_more (IsHeld p) (IsHeld q) p.plain.opens (λ o. held_more p q o described (λ held. subst (HeldByCall o) (sym running) (held_spoken o number p.running held))) old.opens);
  calls = subst (AllByRecursion ClosesItsOwn) (sym running) (all_map ClosesItsOwn ClosesItsOwn (spoken_for number) p.running (closes_spoken number) old.calls);
}

-- a call is answered that has come to its answer, or that opened nothing
abbrev pub HoldsNothing : PlainCall → Type 0
HoldsNothing c = (o : Open) → HoldsUntilItCloses o c → ⊥

pub at_answer : (known : Known) (c : PlainCall) (a : Answer) → settled known c.rest ≡ Say a → HoldsNothing c
at_answer known c a says o is = subst (WillClose is.0) says (will_settled is.0 known c.rest is.2)

pub never_opened : (c : PlainCall) → c.opened ≡ [] → HoldsNothing c
never_opened c none o is = none_some o.number (sym (ap (nth_open is.0) none) ∙ is.1)

held_without : (o : Open) (number : ℕ) (running : List PlainCall) → AllByRecursion (λ (c : PlainCall). (c.number == number) ≡ true → HoldsNothing c) running
    → HeldByCall o running → HeldByCall o (calls_but number running)
held_without o number [] none held = absurd held
held_without o number (c ∷ cs) none held = by (c.number == number) refl held (held_without o number cs none.1)
  where
    by : (t : Bool) → (c.number == number) ≡ t → HeldByCall o (c ∷ cs) → (HeldByCall o cs → HeldByCall o (calls_but number cs))
        → HeldByCall o (cond (not t) (c ∷ calls_but number cs) (calls_but number cs))
    by true is (inl this) deeper = absurd (none.0 is o this)
    by true is (inr later) deeper = deeper later
    by false is (inl this) deeper = inl this
    by false is (inr later) deeper = inr (deeper later)

pub answer_holds : (p q : PlainSide) (number : ℕ) → q.plain ≡ p.plain → q.described ≡ p.described → q.running ≡ calls_but number p.running
    → AllByRecursion (λ (c : PlainCall). (c.number == number) ≡ true → HoldsNothing c) p.running → AllHeld p → AllHeld q
answer_holds p q number plain described running none old = record {
  opens = subst (λ (s : Share). AllByRecursion (IsHeld q) s.opens) (sym plain)
      (all_more (IsHeld p) (IsHeld q) p.plain.opens (λ o. held_more p q o described (λ held. subst (HeldByCall o) (sym running) (held_without o number p.running none held))) old.opens);
  calls = subst (AllByRecursion ClosesItsOwn) (sym running) (all_filter ClosesItsOwn (λ (c : PlainCall). not (c.number == number)) p.running old.calls);
}

-- the same calls, and fewer opens or others' opens more
pub same_holds : (p q : PlainSide) → q.described ≡ p.described → q.running ≡ p.running → AllByRecursion (IsHeld p) q.plain.opens → AllHeld p → AllHeld q
same_holds p q described running opens old = record {
  opens = all_more (IsHeld p) (IsHeld q) q.plain.opens (λ o. held_more p q o described (λ held. subst (HeldByCall o) (sym running) held)) opens;
  calls = subst (AllByRecursion ClosesItsOwn) (sym running) old.calls;
}

-- opens end
ended_every : (P : Open → Type 0) (pairs : List Pair) (os : List Open) (plain : Share) → AllByRecursion P plain.opens → AllByRecursion P (all_ended_with pairs os plain).opens
ended_every P pairs [] plain all = all
ended_every P pairs (o ∷ os) plain all =
    ended_every P pairs os (closed_if (with_number (plain_of_real pairs o.number) plain.opens) plain) (by (with_number (plain_of_real pairs o.number) plain.opens))
  where
    by : (found : Option Open) → AllByRecursion P (closed_if found plain).opens
    by None = all
    by (Some q) = all_filter P (λ (r : Open). not (r.number == q.number)) plain.opens all

pub ends_hold : (p q : PlainSide) (os : List Open) → q.plain ≡ all_ended_with p.pairs os p.plain → q.described ≡ p.described → q.running ≡ p.running → AllHeld p → AllHeld q
ends_hold p q os plain described running old =
    same_holds p q described running (subst (λ (s : Share). AllByRecursion (IsHeld p) s.opens) (sym plain) (ended_every (IsHeld p) p.pairs os p.plain old.opens)) old

-- what the plain share chooses: it grants nothing
abbrev plainly : Option Grant
plainly = Some (record { lease = 0; durable = false })

-- another client's request is done
pub act_holds : (p q : PlainSide) (who : Who) (r : Req) → (who.0 == 0) ≡ false → q.plain ≡ (plain_step p.plain who r).1 → q.described ≡ p.described → q.running ≡ p.running → AllHeld p → AllHeld q
act_holds p q who r other plain described running old =
    same_holds p q described running (subst (λ (s : Share). AllByRecursion (IsHeld p) s.opens) (sym plain) (others p.plain r old.opens)) old
  where
    others : (s : Share) (r : Req) → AllByRecursion (IsHeld p) s.opens → AllByRecursion (IsHeld p) (plain_step s who r).1.opens
    others s r all = step_every (IsHeld p) plainly s who (plain_request r) (λ o own. inl (ap (λ (w : Who). w.0 == 0) own ∙ other))
        (λ o held. held) (λ o held. held) all

-- the n-th open
nth_more : (n : ℕ) (xs : List ℕ) (x y : ℕ) → nth_open n xs ≡ Some y → nth_open n (xs ++ x ∷ []) ≡ Some y
nth_more n [] x y is = absurd (none_some y is)
nth_more zero (z ∷ zs) x y is = is
nth_more (suc n) (z ∷ zs) x y is = nth_more n zs x y is

nth_last : (xs : List ℕ) (x : ℕ) → nth_open (length xs) (xs ++ x ∷ []) ≡ Some x
nth_last [] x = refl
nth_last (y ∷ ys) x = nth_last ys x

nth_given : (n : ℕ) (given : Option ℕ) (xs : List ℕ) (y : ℕ) → nth_open n xs ≡ Some y → nth_open n (with_given given xs) ≡ Some y
nth_given n None xs y is = is
nth_given n (Some x) xs y is = nth_more n xs x y is

-- the call once its next request is done
abbrev pub gone_on : PlainCall → (Rep → Program) → Rep → PlainCall
gone_on c rest reply = record c { rest = rest (shown reply); opened = with_given (open_given reply.body) c.opened }

-- it will close what it was going to close, unless this request closes it
still_holds : (o : Open) (c : PlainCall) (known : Known) (wish : Wish) (rest : Rep → Program) (reply : Rep) → settled known c.rest ≡ Ask wish rest
    → ((n : ℕ) → closes n wish ≡ true → nth_open n c.opened ≡ Some o.number → ⊥) → HoldsUntilItCloses o c → HoldsUntilItCloses o (gone_on c rest reply)
still_holds o c known wish rest reply asks not_this is =
    (is.0, nth_given is.0 (open_given reply.body) c.opened o.number is.1, later (subst (WillClose is.0) asks (will_settled is.0 known c.rest is.2)))
  where
    later : WillClose is.0 (Ask wish rest) → WillClose is.0 (rest (shown reply))
    later (inl this) = absurd (not_this is.0 this is.1)
    later (inr all) = all (shown reply)

-- one call in the place of another
held_with : (o : Open) (new c : PlainCall) (running : List PlainCall) → call_with new.number running ≡ Some c → (HoldsUntilItCloses o c → HoldsUntilItCloses o new)
    → HeldByCall o running → HeldByCall o (with_call new running)
held_with o new c [] found f held = absurd held
held_with o new c (d ∷ ds) found f held = by (d.number == new.number) found held (held_with o new c ds)
  where
    by : (t : Bool) → (if t then Some d else call_with new.number ds) ≡ Some c → HeldByCall o (d ∷ ds)
        → (call_with new.number ds ≡ Some c → (HoldsUntilItCloses o c → HoldsUntilItCloses o new) → HeldByCall o ds → HeldByCall o (with_call new ds))
        → HeldByCall o (if t then new ∷ ds else d ∷ with_call new ds)
    by true found (inl this) deeper = inl (f (subst (HoldsUntilItCloses o) (some_is d c found) this))
    by true found (inr later) deeper = inr later
    by false found (inl this) deeper = inl this
    by false found (inr later) deeper = inr (deeper found f later)

held_new : (o : Open) (new c : PlainCall) (running : List PlainCall) → call_with new.number running ≡ Some c → HoldsUntilItCloses o new → HeldByCall o (with_call new running)
held_new o new c [] found holds = absurd (none_some c found)
held_new o new c (d ∷ ds) found holds = by (d.number == new.number) found (held_new o new c ds)
  where
    by : (t : Bool) → (if t then Some d else call_with new.number ds) ≡ Some c → (call_with new.number ds ≡ Some c → HoldsUntilItCloses o new → HeldByCall o (with_call new ds))
        → HeldByCall o (if t then new ∷ ds else d ∷ with_call new ds)
    by true found deeper = inl holds
    by false found deeper = inr (deeper found holds)

closing_with : (new : PlainCall) (running : List PlainCall) → ClosesItsOwn new → AllByRecursion ClosesItsOwn running → AllByRecursion ClosesItsOwn (with_call new running)
closing_with new [] is all = tt
closing_with new (d ∷ ds) is all = by (d.number == new.number) (closing_with new ds is all.1)
  where
    by : (t : Bool) → AllByRecursion ClosesItsOwn (with_call new ds) → AllByRecursion ClosesItsOwn (if t then new ∷ ds else d ∷ with_call new ds)
    by true deeper = (is, all.1)
    by false deeper = (all.0, deeper)

-- what is found of all
call_holds : (P : PlainCall → Type 0) (n : ℕ) (running : List PlainCall) (c : PlainCall) → call_with n running ≡ Some c → AllByRecursion P running → P c
call_holds P n [] c found all = absurd (none_some c found)
call_holds P n (d ∷ ds) c found all = by (d.number == n) found (λ later. call_holds P n ds c later all.1)
  where
    by : (t : Bool) → (if t then Some d else call_with n ds) ≡ Some c → (call_with n ds ≡ Some c → P c) → P c
    by true found deeper = subst P (some_is d c found) all.0
    by false found deeper = deeper found

-- a request of a call that opens nothing: each open that is left was there, and no call was to close it by this
record Leaves (p : PlainSide) (c : PlainCall) (wish : Wish) (done : Rep × Share) : Type 0 where
  pub none : is_none (open_given done.0.body) ≡ true
  pub held : AllByRecursion (IsHeld p) done.1.opens
  pub others : AllByRecursion (λ (o : Open). (o.who.0 == 0) ≡ true → (n : ℕ) → closes n wish ≡ true → nth_open n c.opened ≡ Some o.number → ⊥) done.1.opens

given_none : (o : Option ℕ) (xs : List ℕ) → is_none o ≡ true → with_given o xs ≡ xs
given_none None xs is = refl
given_none (Some n) xs is = absurd (false≢true is)

on_leaving : (p q : PlainSide) (c : PlainCall) (known : Known) (wish : Wish) (rest : Rep → Program) (done : Rep × Share) → Leaves p c wish done
    → q.plain ≡ done.1 → q.described ≡ p.described → q.running ≡ with_call (gone_on c rest done.0) p.running → call_with c.number p.running ≡ Some c
    → settled known c.rest ≡ Ask wish rest → Tidies (length c.opened) (rest (shown done.0)) → AllHeld p → AllHeld q
on_leaving p q c known wish rest done leaves plain described running found asks tidies old = record {
  opens = subst (λ (s : Share). AllByRecursion (IsHeld q) s.opens) (sym plain) (both done.1.opens leaves.held leaves.others);
  calls = subst (AllByRecursion ClosesItsOwn) (sym running)
      (closing_with (gone_on c rest done.0) p.running (subst (λ (l : List ℕ). Tidies (length l) (rest (shown done.0))) (sym (given_none (open_given done.0.body) c.opened leaves.none)) tidies) old.calls);
}
  where
    goes : (o : Open) → (t : Bool) → (o.who.0 == 0) ≡ t → ((o.who.0 == 0) ≡ true → (n : ℕ) → closes n wish ≡ true → nth_open n c.opened ≡ Some o.number → ⊥) → IsHeld p o → IsHeld q o
    goes o false is other held = inl is
    goes o true is other held = held_more p q o described
        (λ h. subst (HeldByCall o) (sym running) (held_with o (gone_on c rest done.0) c p.running found (still_holds o c known wish rest done.0 asks (other is)) h)) held

    both : (os : List Open) → AllByRecursion (IsHeld p) os → AllByRecursion (λ (o : Open). (o.who.0 == 0) ≡ true → (n : ℕ) → closes n wish ≡ true → nth_open n c.opened ≡ Some o.number → ⊥) os
        → AllByRecursion (IsHeld q) os
    both [] held other = tt
    both (o ∷ os) held other = (goes o (o.who.0 == 0) refl other.0 held.0, both os held.1 other.1)

-- a request of a call is done on the plain share
none_closed : (c : PlainCall) (wish : Wish) (os : List Open) → ((n : ℕ) → closes n wish ≡ false)
    → AllByRecursion (λ (o : Open). (o.who.0 == 0) ≡ true → (n : ℕ) → closes n wish ≡ true → nth_open n c.opened ≡ Some o.number → ⊥) os
none_closed c wish [] never = tt
none_closed c wish (o ∷ os) never = ((λ own n closing is. false≢true (sym (never n) ∙ closing)), none_closed c wish os never)

gone_closed : (c : PlainCall) (described : List (ℕ × ℕ)) (file : File) (os : List Open) → AllByRecursion (IsGone (unwrap_or (open_of_file c described file) 0)) os
    → AllByRecursion (λ (o : Open). (o.who.0 == 0) ≡ true → (n : ℕ) → closes n (Close file) ≡ true → nth_open n c.opened ≡ Some o.number → ⊥) os
gone_closed c described file [] gone = tt
gone_closed c described file (o ∷ os) gone = ((λ own n closing is. at file gone.0 own n closing is), gone_closed c described file os gone.1)
  where
    same : (a b : ℕ) → (a == b) ≡ true → a ≡ b
    same a b is = search rules

    itself : (n : ℕ) → (n == n) ≡ true
    itself n = search rules

    at : (file : File) → IsGone (unwrap_or (open_of_file c described file) 0) o → (o.who.0 == 0) ≡ true → (n : ℕ) → closes n (Close file) ≡ true → nth_open n c.opened ≡ Some o.number → ⊥
    at (Own k) gone own n closing is =
        let there : nth_open k c.opened ≡ Some o.number = ap (λ (m : ℕ). nth_open m c.opened) (same k n closing) ∙ is in
        false≢true (sym (gone own) ∙ ap (λ (x : Option ℕ). o.number == unwrap_or x 0) there ∙ itself o.number)
    at Named gone own n closing is = false≢true closing

abbrev pub IsDone : PlainSide → PlainSide → PlainCall → (Rep → Program) → Rep × Share → Type 0
IsDone p q c rest done = (q.plain ≡ done.1) × (q.described ≡ p.described) × (q.running ≡ with_call (gone_on c rest done.0) p.running)

pub wish_holds : (p q : PlainSide) (c : PlainCall) (known : Known) (wish : Wish) (rest : Rep → Program) → AreStanding p.plain → IsDone p q c rest (wish_done_on p c wish)
    → call_with c.number p.running ≡ Some c → settled known c.rest ≡ Ask wish rest → AllHeld p → AllHeld q
wish_holds p q c known (Query file) rest stands is found asks old =
    let fid = plain_file_id c p.described file in
    let done : Rep × Share = wish_done_on p c (Query file) in
    on_leaving p q c known (Query file) rest done
    (record {
      none = step_gives plainly p.plain us (wish_of (plain_file_id c p.described) (Query file));
      held = query_every (IsHeld p) (open_of p.plain.opens us fid) p.plain old.opens;
      others = none_closed c (Query file) done.1.opens (λ n. refl);
    }) is.0 is.1 is.2 found asks (subst (Tidies (length c.opened)) asks (tidies_settled (length c.opened) known c.rest (call_holds ClosesItsOwn c.number p.running c found old.calls)) (shown done.0)) old
wish_holds p q c known (Close file) rest stands is found asks old =
    let n : ℕ = unwrap_or (open_of_file c p.described file) 0 in
    let done : Rep × Share = wish_done_on p c (Close file) in
    on_leaving p q c known (Close file) rest done
    (record {
      none = step_gives plainly p.plain us (wish_of (plain_file_id c p.described) (Close file));
      held = close_every (IsHeld p) (open_of p.plain.opens us (fid_of n)) p.plain old.opens;
      others = gone_closed c p.described file done.1.opens (closed_gone n p.plain stands.0);
    }) is.0 is.1 is.2 found asks (subst (Tidies (length c.opened)) asks (tidies_settled (length c.opened) known c.rest (call_holds ClosesItsOwn c.number p.running c found old.calls)) (shown done.0)) old
wish_holds p q c known (Opening path access disposition options) rest stands is found asks old =
    opening (step_creates plainly p.plain us (wish_of (plain_file_id c p.described) (Opening path access disposition options)) refl) (step_gives plainly p.plain us (wish_of (plain_file_id c p.described) (Opening path access disposition options)))
    (subst (Tidies (length c.opened)) asks (tidies_settled (length c.opened) known c.rest (call_holds ClosesItsOwn c.number p.running c found old.calls)) (shown (wish_done_on p c (Opening path access disposition options)).0))
  where
    done : Rep × Share
    done = wish_done_on p c (Opening path access disposition options)

    on_new : IsOpened p.plain us done → is_some (open_given done.0.body) ≡ true → WillClose (length c.opened) (rest (shown done.0)) → Tidies (length c.opened + 1) (rest (shown done.0)) → AllHeld q
    on_new one some will tidies =
        let more : with_given (open_given done.0.body) c.opened ≡ c.opened ++ one.new.number ∷ [] =
        ap (λ (o : Option ℕ). with_given o c.opened) (given_number done.0.body some) ∙ ap (λ (n : ℕ). c.opened ++ n ∷ []) one.gives in
        let new : HoldsUntilItCloses one.new (gone_on c rest done.0) =
        (length c.opened, ap (nth_open (length c.opened)) more ∙ nth_last c.opened one.new.number, will) in
        record {
          opens = subst (λ (s : Share). AllByRecursion (IsHeld q) s.opens) (sym is.0) (subst (AllByRecursion (IsHeld q)) (sym one.more)
              (all_append (IsHeld q) p.plain.opens (one.new ∷ [])
              (all_more (IsHeld p) (IsHeld q) p.plain.opens (λ o held. held_more p q o is.1
              (λ h. subst (HeldByCall o) (sym is.2) (held_with o (gone_on c rest done.0) c p.running found
              (still_holds o c known (Opening path access disposition options) rest done.0 asks (λ n closing at. false≢true closing)) h)) held) old.opens)
              (inr (inl (subst (HeldByCall one.new) (sym is.2) (held_new one.new (gone_on c rest done.0) c p.running found new))), tt)));
          calls = subst (AllByRecursion ClosesItsOwn) (sym is.2)
              (closing_with (gone_on c rest done.0) p.running
              (subst (λ (l : List ℕ). Tidies (length l) (rest (shown done.0))) (sym more) (subst (λ (n : ℕ). Tidies n (rest (shown done.0))) (sym (length-append c.opened (one.new.number ∷ []))) tidies)) old.calls);
        }

    opening : Creates p.plain us done → gives true done.0 ≡ true
        → ((done.0.status.0 == 0) ≡ true → WillClose (length c.opened) (rest (shown done.0)) × Tidies (length c.opened + 1) (rest (shown done.0)))
        × ((done.0.status.0 == 0) ≡ false → Tidies (length c.opened) (rest (shown done.0)))
        → AllHeld q
    opening (inl none) giving tidies = on_leaving p q c known (Opening path access disposition options) rest done
        (record {
          none = sym (ap (λ (b : Bool). if b then is_some (open_given done.0.body) else is_none (open_given done.0.body)) none.fails) ∙ giving;
          held = subst (AllByRecursion (IsHeld p)) (sym none.same) old.opens;
          others = none_closed c (Opening path access disposition options) done.1.opens (λ n. refl);
        }) is.0 is.1 is.2 found asks (tidies.1 none.fails) old
    opening (inr one) giving tidies =
        on_new one (sym (ap (λ (b : Bool). if b then is_some (open_given done.0.body) else is_none (open_given done.0.body)) one.succeeds) ∙ giving)
        (tidies.0 one.succeeds).0 (tidies.0 one.succeeds).1
