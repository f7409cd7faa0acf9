-- The running calls of both sides, one for one: which is found under a number, and what changes with one, with each, and without one.
use Rattle.std.proofs.Common.{rules, ◌≡◌, ◌∙◌, refl, sym, ap, subst, ℕ, ◌==◌, Bool, true, false, cond, if◌then◌else◌, not, List, [], ◌∷◌, ◌++◌, Option, Some, inl, inr}
use Rattle.std.specs.Prelude.{map, ◌||◌}
use Rattle.std.specs.List.{list_any}
use Rattle.std.proofs.lemmas.Bool.{false≢true}
use Rattle.std.proofs.lemmas.Bool.Decides.{eqb_tells}
use Rattle.fs_types.specs.declared.call.Call.{Call}
use Rattle.fs_plain.specs.Paired.{Pair}
use Rattle.fs_plain.specs.PlainSide.{PlainCall, call_with, calls_but, with_call}
use Rattle.fs_client.specs.Item.{Item, item_with, on_item, items_but, parted}
use Rattle.fs_client.proofs.Lists.{none_some, some_is}
use Rattle.fs_refine.specs.Calls.{IsCall, AreCalls}

-- the plain call with a number, where the client has one
pub record FoundCall (pairs : List Pair) (made n : ℕ) (i : Item) (running : List PlainCall) : Type 0 where
  pub c : PlainCall
  pub there : call_with n running ≡ Some c
  pub number : c.number ≡ n
  pub is : IsCall pairs made i c

pub call_found : (pairs : List Pair) (made n : ℕ) (i : Item) (items : List Item) (running : List PlainCall) → AreCalls pairs made items running → item_with n items ≡ Some i
    → FoundCall pairs made n i running
call_found pairs made n i [] [] are there = absurd (none_some i there)
call_found pairs made n i [] (c ∷ cs) are there = absurd are
call_found pairs made n i (j ∷ js) [] are there = absurd are
call_found pairs made n i (j ∷ js) (c ∷ cs) are there = elim (eqb_tells j.number n) [
  | inl told ↦
      let is : j ≡ i = some_is j i (subst (λ (b : Bool). (if b then Some j else item_with n js) ≡ Some i) told.0 there) in
      record {
        c = c;
        there = ap (λ (m : ℕ). if m == n then Some c else call_with n cs) are.0.number ∙ ap (λ (b : Bool). if b then Some c else call_with n cs) told.0;
        number = are.0.number ∙ told.1;
        is = subst (λ (k : Item). IsCall pairs made k c) is are.0;
      }
  | inr told ↦
      let f = call_found pairs made n i js cs are.1 (subst (λ (b : Bool). (if b then Some j else item_with n js) ≡ Some i) told.0 there) in
      record {
        c = f.c;
        there = ap (λ (m : ℕ). if m == n then Some c else call_with n cs) are.0.number ∙ ap (λ (b : Bool). if b then Some c else call_with n cs) told.0 ∙ f.there;
        number = f.number;
        is = f.is;
      }
]

-- each call stands for another, and the numbers that were given are more
pub calls_more : (pairs pairs' : List Pair) (made made' : ℕ) (items : List Item) (running : List PlainCall)
    → ((i : Item) (c : PlainCall) → IsCall pairs made i c → IsCall pairs' made' i c) → AreCalls pairs made items running → AreCalls pairs' made' items running
calls_more pairs pairs' made made' [] [] f are = record {}
calls_more pairs pairs' made made' [] (c ∷ cs) f are = absurd are
calls_more pairs pairs' made made' (i ∷ is) [] f are = absurd are
calls_more pairs pairs' made made' (i ∷ is) (c ∷ cs) f are = (f i c are.0, calls_more pairs pairs' made made' is cs f are.1)

-- one call changes on both sides
pub calls_on : (pairs pairs' : List Pair) (made made' n : ℕ) (f : Item → Item) (new : PlainCall) (items : List Item) (running : List PlainCall) (i : Item) (c : PlainCall)
    → item_with n items ≡ Some i → call_with n running ≡ Some c → new.number ≡ n → (IsCall pairs made i c → IsCall pairs' made' (f i) new)
    → ((j : Item) (d : PlainCall) → IsCall pairs made j d → IsCall pairs' made' j d) → AreCalls pairs made items running
    → AreCalls pairs' made' (on_item n f items) (with_call new running)
calls_on pairs pairs' made made' n f new [] [] i c there there' number goes others are = record {}
calls_on pairs pairs' made made' n f new [] (d ∷ ds) i c there there' number goes others are = absurd are
calls_on pairs pairs' made made' n f new (j ∷ js) [] i c there there' number goes others are = absurd are
calls_on pairs pairs' made made' n f new (j ∷ js) (d ∷ ds) i c there there' number goes others are = elim (eqb_tells j.number n) [
  | inl told ↦
      let is : j ≡ i = some_is j i (subst (λ (b : Bool). (if b then Some j else item_with n js) ≡ Some i) told.0 there) in
      let at : (d.number == n) ≡ true = ap (λ (m : ℕ). m == n) are.0.number ∙ told.0 in
      let is' : d ≡ c = some_is d c (subst (λ (b : Bool). (if b then Some d else call_with n ds) ≡ Some c) at there') in
      subst (λ (b : Bool). AreCalls pairs' made' (if b then f j ∷ js else j ∷ on_item n f js) (with_call new (d ∷ ds))) (sym told.0)
      (subst (λ (m : ℕ). AreCalls pairs' made' (f j ∷ js) (if d.number == m then new ∷ ds else d ∷ with_call new ds)) (sym number)
      (subst (λ (b : Bool). AreCalls pairs' made' (f j ∷ js) (if b then new ∷ ds else d ∷ with_call new ds)) (sym at) (
        subst (λ (k : Item). IsCall pairs' made' (f k) new) (sym is)
            (goes (subst (λ (k : Item). IsCall pairs made k c) is (subst (λ (e : PlainCall). IsCall pairs made j e) is' are.0))),
        calls_more pairs pairs' made made' js ds others are.1,
      )))
  | inr told ↦
      let at : (d.number == n) ≡ false = ap (λ (m : ℕ). m == n) are.0.number ∙ told.0 in
      subst (λ (b : Bool). AreCalls pairs' made' (if b then f j ∷ js else j ∷ on_item n f js) (with_call new (d ∷ ds))) (sym told.0)
      (subst (λ (m : ℕ). AreCalls pairs' made' (j ∷ on_item n f js) (if d.number == m then new ∷ ds else d ∷ with_call new ds)) (sym number)
      (subst (λ (b : Bool). AreCalls pairs' made' (j ∷ on_item n f js) (if b then new ∷ ds else d ∷ with_call new ds)) (sym at) (
        others j d are.0,
        calls_on pairs pairs' made made' n f new js ds i c (subst (λ (b : Bool). (if b then Some j else item_with n js) ≡ Some i) told.0 there)
            (subst (λ (b : Bool). (if b then Some d else call_with n ds) ≡ Some c) at there') number goes others are.1,
      )))
]

-- the client's call changes alone
pub calls_sent : (pairs : List Pair) (made n : ℕ) (f : Item → Item) (items : List Item) (running : List PlainCall)
    → ((i : Item) (c : PlainCall) → item_with n items ≡ Some i → IsCall pairs made i c → IsCall pairs made (f i) c) → AreCalls pairs made items running
    → AreCalls pairs made (on_item n f items) running
calls_sent pairs made n f [] [] goes are = record {}
calls_sent pairs made n f [] (d ∷ ds) goes are = absurd are
calls_sent pairs made n f (j ∷ js) [] goes are = absurd are
calls_sent pairs made n f (j ∷ js) (d ∷ ds) goes are = by (j.number == n) refl (calls_sent pairs made n f js ds)
  where
    by : (t : Bool) → (j.number == n) ≡ t
        → (((i : Item) (c : PlainCall) → item_with n js ≡ Some i → IsCall pairs made i c → IsCall pairs made (f i) c) → AreCalls pairs made js ds → AreCalls pairs made (on_item n f js) ds)
        → AreCalls pairs made (if t then f j ∷ js else j ∷ on_item n f js) (d ∷ ds)
    by true is deeper = (goes j d (ap (λ (b : Bool). if b then Some j else item_with n js) is) are.0, are.1)
    by false is deeper = (are.0, deeper (λ i c there. goes i c (ap (λ (b : Bool). if b then Some j else item_with n js) is ∙ there)) are.1)

-- each changes
pub calls_map : (pairs : List Pair) (made : ℕ) (f : Item → Item) (g : PlainCall → PlainCall) (items : List Item) (running : List PlainCall)
    → ((i : Item) (c : PlainCall) → IsCall pairs made i c → IsCall pairs made (f i) (g c)) → AreCalls pairs made items running → AreCalls pairs made (map f items) (map g running)
calls_map pairs made f g [] [] goes are = record {}
calls_map pairs made f g [] (c ∷ cs) goes are = absurd are
calls_map pairs made f g (i ∷ is) [] goes are = absurd are
calls_map pairs made f g (i ∷ is) (c ∷ cs) goes are = (goes i c are.0, calls_map pairs made f g is cs goes are.1)

-- one begins
pub calls_append : (pairs : List Pair) (made : ℕ) (items : List Item) (running : List PlainCall) (i : Item) (c : PlainCall) → AreCalls pairs made items running → IsCall pairs made i c
    → AreCalls pairs made (items ++ i ∷ []) (running ++ c ∷ [])
calls_append pairs made [] [] i c are is = (is, record {})
calls_append pairs made [] (d ∷ ds) i c are is = absurd are
calls_append pairs made (j ∷ js) [] i c are is = absurd are
calls_append pairs made (j ∷ js) (d ∷ ds) i c are is = (are.0, calls_append pairs made js ds i c are.1 is)

-- one ends
pub calls_without : (pairs : List Pair) (made n : ℕ) (items : List Item) (running : List PlainCall) → AreCalls pairs made items running
    → AreCalls pairs made (items_but n items) (calls_but n running)
calls_without pairs made n [] [] are = record {}
calls_without pairs made n [] (d ∷ ds) are = absurd are
calls_without pairs made n (j ∷ js) [] are = absurd are
calls_without pairs made n (j ∷ js) (d ∷ ds) are =
    subst (λ (m : ℕ). AreCalls pairs made (items_but n (j ∷ js)) (cond (not (m == n)) (d ∷ calls_but n ds) (calls_but n ds))) (sym are.0.number)
    (by (j.number == n) (calls_without pairs made n js ds are.1))
  where
    by : (t : Bool) → AreCalls pairs made (items_but n js) (calls_but n ds)
        → AreCalls pairs made (cond (not t) (j ∷ items_but n js) (items_but n js)) (cond (not t) (d ∷ calls_but n ds) (calls_but n ds))
    by true deeper = deeper
    by false deeper = (are.0, deeper)

-- the lanes
pub lanes_same : (pairs : List Pair) (made lane : ℕ) (items : List Item) (running : List PlainCall) → AreCalls pairs made items running
    → list_any (λ (c : PlainCall). c.lane == lane) running ≡ list_any (λ (i : Item). i.lane == lane) items
lanes_same pairs made lane [] [] are = refl
lanes_same pairs made lane [] (c ∷ cs) are = absurd are
lanes_same pairs made lane (i ∷ is) [] are = absurd are
lanes_same pairs made lane (i ∷ is) (c ∷ cs) are =
    ap (λ (n : ℕ). n == lane || list_any (λ (d : PlainCall). d.lane == lane) cs) are.0.lane
    ∙ ap (λ (b : Bool). i.lane == lane || b) (lanes_same pairs made lane is cs are.1)

-- where there is none on one side, there is none on the other
pub none_runs : (pairs : List Pair) (made : ℕ) (items : List Item) (running : List PlainCall) → AreCalls pairs made items running → items ≡ [] → running ≡ []
none_runs pairs made [] [] are none = refl
none_runs pairs made [] (c ∷ cs) are none = absurd are
none_runs pairs made (i ∷ is) running are none = absurd (some_none none)
  where
    some_none : i ∷ is ≡ [] → ⊥
    some_none is = search rules

-- what a call keeps, whatever replies to it are looked at
abbrev pub stem : Item → (ℕ × ℕ) × (Call × (Bool × Option ℕ))
stem i = ((i.number, i.lane), (i.call, (i.announced, i.file)))

abbrev pub the_head : {X : Type 0} → X → List X → X
the_head x [] = x
the_head x (y ∷ ys) = y

abbrev pub the_tail : {X : Type 0} → List X → List X
the_tail [] = []
the_tail (y ∷ ys) = ys

-- the connection is lost: the client may have missed replies
pub calls_parted : (pairs pairs' : List Pair) (made made' : ℕ) (items items' : List Item) (running : List PlainCall) → map stem items' ≡ map stem items
    → AreCalls pairs made items running → AreCalls pairs' made' (map parted items') running
calls_parted pairs pairs' made made' [] [] [] same are = record {}
calls_parted pairs pairs' made made' [] (j ∷ js) [] same are = absurd (no same)
  where
    no : stem j ∷ map stem js ≡ [] → ⊥
    no is = search rules
calls_parted pairs pairs' made made' [] items' (c ∷ cs) same are = absurd are
calls_parted pairs pairs' made made' (i ∷ is) items' [] same are = absurd are
calls_parted pairs pairs' made made' (i ∷ is) [] (c ∷ cs) same are = absurd (no same)
  where
    no : [] ≡ stem i ∷ map stem is → ⊥
    no is = search rules
calls_parted pairs pairs' made made' (i ∷ is) (j ∷ js) (c ∷ cs) same are =
    let at : stem j ≡ stem i = ap (the_head (stem j)) same in (
      record {
        number = are.0.number ∙ sym (ap (λ (t : (ℕ × ℕ) × (Call × (Bool × Option ℕ))). t.0.0) at);
        lane = are.0.lane ∙ sym (ap (λ (t : (ℕ × ℕ) × (Call × (Bool × Option ℕ))). t.0.1) at);
        call = are.0.call ∙ sym (ap (λ (t : (ℕ × ℕ) × (Call × (Bool × Option ℕ))). t.1.0) at);
        announced = are.0.announced ∙ sym (ap (λ (t : (ℕ × ℕ) × (Call × (Bool × Option ℕ))). t.1.1.0) at);
        file = are.0.file ∙ sym (ap (λ (t : (ℕ × ℕ) × (Call × (Bool × Option ℕ))). t.1.1.1) at);
        along = λ whole. absurd (false≢true (sym whole));
        parted = λ broken. refl;
        unsent = λ none. refl;
        unopened = λ none. are.0.unopened (sym (ap (λ (t : (ℕ × ℕ) × (Call × (Bool × Option ℕ))). t.1.1.0) at) ∙ none);
      },
      calls_parted pairs pairs' made made' is js cs (ap the_tail same) are.1,
    )
