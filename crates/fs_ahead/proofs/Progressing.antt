-- A script is read, and what it asks for is taken, one after the other.
use Rattle.std.proofs.Common.{rules, ◌≡◌, inl, inr, ◌∙◌, refl, sym, ap, subst, ℕ, Bool, true, false, List, [], ◌∷◌, ◌++◌, append-nil, append_assoc}
use Rattle.std.proofs.Common.{Option, Some, None, Result, Ok, Err}
use Rattle.std.specs.Prelude.{MatchBool, IfSome, IsSome, OnOk, is_some, option_map}
use Rattle.smb_link.specs.Count.{counted}
use Rattle.fs_ahead.specs.declared.asked.Asked.{Asked}
use Rattle.fs_ahead.specs.declared.asked.Asked.TheVariants as asked
use Rattle.fs_ahead.specs.declared.asked.ScriptCall.{ScriptCall}
use Rattle.fs_ahead.specs.declared.asked.Over.{Over}
use Rattle.fs_ahead.specs.declared.asked.Over.TheVariants as over
use Rattle.fs_ahead.specs.Script.{Coming, Place, to_come, coming_ahead, asked_then, unless_over}
use Rattle.fs_ahead.specs.Steps.{is_failed_now, IsHeldOrOver, IsAhead, IsBetween}
use Rattle.fs_ahead.specs.Progress.{Reads, ReadsOn, all_then, IsFront, is_source, GoesOn, Failed, Progress, ReadTo, calls_of}
use Rattle.fs_ahead.proofs.Keeping.{keeps_none, keeps_then}

-- nothing is read
not_now : (o : Option Over) (n : ℕ) → n ≡ counted n (is_failed_now o o)
not_now None n = refl
not_now (Some over.End) n = refl
not_now (Some (over.Line k)) n = refl
not_now (Some over.Source) n = refl

pub reads_none : (r : Reads) → ReadsOn r r
reads_none r = record { stays = λ so. refl; keeps = keeps_none r.place r.left; faults = not_now r.place.over r.faults }

-- faults of two looks
two_faults : (x y z : Option Over) (n : ℕ) → (IsSome x → y ≡ x) → (IsSome y → z ≡ y)
    → counted (counted n (is_failed_now x y)) (is_failed_now y z) ≡ counted n (is_failed_now x z)
two_faults (Some why) y z n first second = ap (λ (o : Option Over). counted (counted n (is_failed_now (Some why) o)) (is_failed_now o z)) (first refl)
two_faults None None z n first second = refl
two_faults None (Some why) z n first second =
    ap (λ (o : Option Over). counted (counted n (is_failed_now None (Some why))) (is_failed_now (Some why) o)) (second refl)
    ∙ sym (not_now (Some why) (counted n (is_failed_now None (Some why))))
    ∙ ap (λ (o : Option Over). counted n (is_failed_now None o)) (sym (second refl))

pub reads_then : (a b c : Reads) → ReadsOn a b → ReadsOn b c → ReadsOn a c
reads_then a b c first last = record {
  stays = λ so. last.stays (subst IsHeldOrOver (sym (first.stays so)) so) ∙ first.stays so;
  keeps = keeps_then a.place b.place c.place a.left b.left c.left first.stays last.stays first.keeps last.keeps;
  faults = last.faults ∙ ap (λ (n : ℕ). counted n (is_failed_now b.place.over c.place.over)) first.faults
      ∙ two_faults a.place.over b.place.over c.place.over a.faults
      (λ some. ap (λ (x : Place). x.over) (first.stays (inr some))) (λ some. ap (λ (x : Place). x.over) (last.stays (inr some)));
}

pub reads_after : {X E : Type 0} (result : Result X E) (a b c : Reads) → ReadsOn a b → OnOk result (ReadsOn b c) → OnOk result (ReadsOn a c)
reads_after (Ok x) a b c first last = reads_then a b c first last
reads_after (Err e) a b c first last = tt

-- before anything is taken
behind_none : (coming : Option Coming) → coming ≡ option_map (all_then []) coming
behind_none None = refl
behind_none (Some c) = refl

pub progress_start : (script : Option Coming) (r : Reads) → r.place.over ≡ None → script ≡ to_come r.place r.left → Progress script r.faults [] r
progress_start script r none is = record {
  stands = subst (λ (t : Bool). MatchBool t (Failed script r.faults [] r) (GoesOn script r.faults [] r)) (sym (ap is_source none))
      (record { rest = is ∙ behind_none (to_come r.place r.left); faults_are = refl });
}

-- what was taken is what the script asks for first
front_of : (taken : List Asked) (later : Option Coming) → IfSome (option_map (all_then taken) later) (IsFront taken)
front_of taken None = tt
front_of taken (Some c) = (c.asked, refl)

goes_front : (script : Option Coming) (f : ℕ) (taken : List Asked) (r : Reads) → GoesOn script f taken r → IfSome script (IsFront taken)
goes_front script f taken r g = subst (λ (s : Option Coming). IfSome s (IsFront taken)) (sym g.rest) (front_of taken (to_come r.place r.left))

one_way : (t : Bool) (A B C : Type 0) → (A → C) → (B → C) → MatchBool t A B → C
one_way true A B C a b was = a was
one_way false A B C a b was = b was

pub progress_front : (script : Option Coming) (f : ℕ) (taken : List Asked) (r : Reads) → Progress script f taken r → IfSome script (IsFront taken)
progress_front script f taken r p =
    one_way (is_source r.place.over) (Failed script f taken r) (GoesOn script f taken r) (IfSome script (IsFront taken))
    (λ failed. failed.front) (goes_front script f taken r) p.stands

-- the script is read ahead
look_by : (x y : Option Over) (A B H S A' B' : Type 0) → (IsSome x → y ≡ x) → (A → IsSome x → A')
    → (B → H → is_failed_now x y ≡ true → A') → (B → S → is_failed_now x y ≡ false → B')
    → MatchBool (is_source x) A B → MatchBool (is_failed_now x y) H S → MatchBool (is_source y) A' B'
look_by None None A B H S A' B' first stays fails goes was is = goes was is refl
look_by None (Some over.Source) A B H S A' B' first stays fails goes was is = fails was is refl
look_by None (Some over.End) A B H S A' B' first stays fails goes was is = goes was is refl
look_by None (Some (over.Line n)) A B H S A' B' first stays fails goes was is = goes was is refl
look_by (Some over.Source) y A B H S A' B' first stays fails goes was is =
    subst (λ (o : Option Over). MatchBool (is_source o) A' B') (sym (first refl)) (stays was refl)
look_by (Some over.End) y A B H S A' B' first stays fails goes was is =
    subst (λ (o : Option Over). MatchBool (is_source o) A' B') (sym (first refl))
    (goes was (subst (λ (o : Option Over). MatchBool (is_failed_now (Some over.End) o) H S) (first refl) is) (ap (is_failed_now (Some over.End)) (first refl)))
look_by (Some (over.Line n)) y A B H S A' B' first stays fails goes was is =
    subst (λ (o : Option Over). MatchBool (is_source o) A' B') (sym (first refl))
    (goes was (subst (λ (o : Option Over). MatchBool (is_failed_now (Some (over.Line n)) o) H S) (first refl) is)
    (ap (is_failed_now (Some (over.Line n))) (first refl)))

no_some : false ≡ true → ⊥
no_some is = search rules

some_now : (x y : Option Over) → (IsSome x → y ≡ x) → IsSome x → (n : ℕ) → counted n (is_failed_now x y) ≡ n
some_now (Some why) y first some n = ap (λ (o : Option Over). counted n (is_failed_now (Some why) o)) (first refl) ∙ sym (not_now (Some why) n)
some_now None y first some n = absurd (no_some some)

pub progress_look : (script : Option Coming) (f : ℕ) (taken : List Asked) (r r' : Reads) → Progress script f taken r → ReadsOn r r' → Progress script f taken r'
progress_look script f taken r r' p on =
    let over_same : IsSome r.place.over → r'.place.over ≡ r.place.over = λ some. ap (λ (x : Place). x.over) (on.stays (inr some)) in
    record {
      stands = look_by r.place.over r'.place.over (Failed script f taken r) (GoesOn script f taken r)
          (r'.place.held ≡ None) (to_come r.place r.left ≡ to_come r'.place r'.left)
          (Failed script f taken r') (GoesOn script f taken r')
          over_same
          (λ failed some. record {
            none = ap (λ (x : Place). x.held) (on.stays (inr some)) ∙ failed.none;
            front = failed.front;
            faults_are = on.faults ∙ some_now r.place.over r'.place.over over_same some r.faults ∙ failed.faults_are;
          })
          (λ goes held now. record {
            none = held;
            front = goes_front script f taken r goes;
            faults_are = on.faults ∙ ap (counted r.faults) now ∙ ap (λ (n : ℕ). counted n true) goes.faults_are;
          })
          (λ goes same now. record {
            rest = goes.rest ∙ ap (option_map (all_then taken)) same;
            faults_are = on.faults ∙ ap (counted r.faults) now ∙ goes.faults_are;
          })
          p.stands on.keeps;
    }

-- what is held is taken
abbrev pub emptied : Reads → Reads
emptied r = record r { place = record r.place { held = None } }

behind_more : (taken : List Asked) (x : Asked) (later : Option Coming)
    → option_map (all_then taken) (option_map (asked_then (Some x)) later) ≡ option_map (all_then (taken ++ x ∷ [])) later
behind_more taken x None = refl
behind_more taken x (Some c) = ap (λ (l : List Asked). Some (record { asked = l; over = c.over })) (sym (append_assoc taken (x ∷ []) c.asked))

take_by : (t : Bool) (A B A' B' : Type 0) → (A → ⊥) → (B → B') → MatchBool t A B → MatchBool t A' B'
take_by true A B A' B' never on was = absurd (never was)
take_by false A B A' B' never on was = on was

never_none : (x : Asked) → Some x ≡ None → ⊥
never_none x is = search rules

pub progress_take : (script : Option Coming) (f : ℕ) (taken : List Asked) (x : Asked) (r : Reads) → r.place.held ≡ Some x
    → to_come r.place r.left ≡ option_map (asked_then (Some x)) (to_come (record r.place { held = None }) r.left) → Progress script f taken r
    → Progress script f (taken ++ x ∷ []) (emptied r)
progress_take script f taken x r held comes p = record {
  stands = take_by (is_source r.place.over) (Failed script f taken r) (GoesOn script f taken r)
      (Failed script f (taken ++ x ∷ []) (emptied r)) (GoesOn script f (taken ++ x ∷ []) (emptied r))
      (λ failed. never_none x (sym held ∙ failed.none))
      (λ goes. record {
        rest = goes.rest ∙ ap (option_map (all_then taken)) comes ∙ behind_more taken x (to_come (record r.place { held = None }) r.left);
        faults_are = goes.faults_are;
      })
      p.stands;
}

-- nothing more comes
nothing_held : (taken : List Asked) (why : Over) (left : Option (List ℕ)) (p : Place) → p.held ≡ None → p.over ≡ Some why
    → IfSome (option_map (all_then taken) (to_come p left)) (λ s. (s.asked ≡ taken) × (s.over ≡ why))
nothing_held taken why None p held over_is = tt
nothing_held taken why (Some bytes) p held over_is = (
  ap (λ (h : Option Asked). taken ++ (asked_then h (unless_over p.over (coming_ahead p.lines bytes))).asked) held
      ∙ ap (λ (o : Option Over). taken ++ (unless_over o (coming_ahead p.lines bytes)).asked) over_is ∙ append-nil taken,
  ap (λ (h : Option Asked). (asked_then h (unless_over p.over (coming_ahead p.lines bytes))).over) held
      ∙ ap (λ (o : Option Over). (unless_over o (coming_ahead p.lines bytes)).over) over_is,
)

stands_by : (script : Option Coming) (f : ℕ) (taken : List Asked) (r : Reads) (o : Option Over) → r.place.over ≡ o → Progress script f taken r
    → MatchBool (is_source o) (Failed script f taken r) (GoesOn script f taken r)
stands_by script f taken r o is p = subst (λ (o : Option Over). MatchBool (is_source o) (Failed script f taken r) (GoesOn script f taken r)) is p.stands

goes_end : (script : Option Coming) (f : ℕ) (taken : List Asked) (why : Over) (r : Reads)
    → r.place.held ≡ None → r.place.over ≡ Some why → GoesOn script f taken r
    → IfSome script (λ s. (s.asked ≡ taken) × (s.over ≡ why)) × (r.faults ≡ f)
goes_end script f taken why r held over_is goes = (
  subst (λ (s : Option Coming). IfSome s (λ s. (s.asked ≡ taken) × (s.over ≡ why))) (sym goes.rest)
      (nothing_held taken why r.left r.place held over_is),
  goes.faults_are,
)

pub progress_end : (script : Option Coming) (f : ℕ) (taken : List Asked) (why : Over) (r : Reads)
    → r.place.held ≡ None → r.place.over ≡ Some why → Progress script f taken r
    → ReadTo why script f r.faults taken
progress_end script f taken over.Source r held over_is p =
    let failed : Failed script f taken r = stands_by script f taken r (Some over.Source) over_is p in (failed.front, failed.faults_are)
progress_end script f taken over.End r held over_is p =
    goes_end script f taken over.End r held over_is (stands_by script f taken r (Some over.End) over_is p)
progress_end script f taken (over.Line n) r held over_is p =
    goes_end script f taken (over.Line n) r held over_is (stands_by script f taken r (Some (over.Line n)) over_is p)

-- what was taken to the end is what the script asks for first
all_front : (taken : List Asked) (why : Over) (script : Option Coming) → IfSome script (λ s. (s.asked ≡ taken) × (s.over ≡ why)) → IfSome script (IsFront taken)
all_front taken why None all = tt
all_front taken why (Some s) all = ([], all.0 ∙ sym (append-nil taken))

pub read_front : (why : Over) (script : Option Coming) (f f' : ℕ) (taken : List Asked) → ReadTo why script f f' taken → IfSome script (IsFront taken)
read_front over.End script f f' taken so = all_front taken over.End script so.0
read_front (over.Line number) script f f' taken so = all_front taken (over.Line number) script so.0
read_front over.Source script f f' taken so = so.0

-- nothing was taken where nothing is held
pub none_held : (h : Option Asked) → IsSome h → None ≡ h → ⊥
none_held h some none = no_some (ap is_some none ∙ some)

-- where nothing is held after a look, no more comes
pub none_more : (p : Place) → IsHeldOrOver p → None ≡ p.held → p.over ≡ None → ⊥
none_more p (inl some) none over_is = none_held p.held some none
none_more p (inr some) none over_is = no_some (ap is_some (sym over_is) ∙ some)

-- where something is held more may come
pub held_more : (last : ℕ) (p : Place) → IsAhead last p → IsSome p.held → p.over ≡ None
held_more last p ahead some = by p.held some ahead.more
  where
    by : (h : Option Asked) → IsSome h → IfSome h (λ (x : Asked). p.over ≡ None) → p.over ≡ None
    by None some more = absurd (no_some some)
    by (Some x) some more = more

-- a call that is held is above the last one
pub held_after : (last : ℕ) (p : Place) (x : ScriptCall) → IsAhead last p → p.held ≡ Some (asked.Call x) → IsBetween last p.lines.number (asked.Call x)
held_after last p x ahead is = subst (λ (h : Option Asked). IfSome h (IsBetween last p.lines.number)) is ahead.held

-- the calls of what was taken
pub calls_then : (xs ys : List Asked) → calls_of (xs ++ ys) ≡ calls_of xs ++ calls_of ys
calls_then [] ys = refl
calls_then (asked.Call x ∷ xs) ys = ap (λ (l : List ScriptCall). x ∷ l) (calls_then xs ys)
calls_then (asked.Wait ∷ xs) ys = calls_then xs ys

-- where something is what a script asks for first, its calls are the script's first calls
pub front_calls : (taken : List Asked) (c : Coming) → IsFront taken c → (later : List ScriptCall) × (calls_of c.asked ≡ calls_of taken ++ later)
front_calls taken c front = (calls_of front.0, ap calls_of front.1 ∙ calls_then taken front.0)
