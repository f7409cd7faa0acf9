-- Lists of calls and of requests in flight: what holds of all, and what is found.
use Rattle.std.proofs.Common.{rules, ◌≡◌, ◌∙◌, refl, sym, ap, subst, ℕ, ◌==◌, Bool, true, false, cond, if◌then◌else◌, not, List, [], ◌∷◌, ◌++◌, Option, Some, None, inl, inr}
use Rattle.std.specs.Prelude.{IsSomeAnd, map, filter, option_map}
use Rattle.std.specs.List.{AllByRecursion}
use Rattle.std.proofs.lemmas.Bool.Decides.{eqb_tells}
use Rattle.smb_base.specs.declared.names.Mid.{Mid}
use Rattle.share_state.specs.declared.connection.Sent.{Sent}
use Rattle.share_state.specs.Sent.{sent_but, sent_with}
use Rattle.fs_client.specs.Item.{Item, item_with, on_item, items_but}

pub all_more : {X : Type 0} (P Q : X → Type 0) (xs : List X) → ((x : X) → P x → Q x) → AllByRecursion P xs → AllByRecursion Q xs
all_more P Q [] f all = tt
all_more P Q (x ∷ xs) f all = (f x all.0, all_more P Q xs f all.1)

pub all_both : {X : Type 0} (P Q R : X → Type 0) (xs : List X) → ((x : X) → P x → Q x → R x) → AllByRecursion P xs → AllByRecursion Q xs → AllByRecursion R xs
all_both P Q R [] f p q = tt
all_both P Q R (x ∷ xs) f p q = (f x p.0 q.0, all_both P Q R xs f p.1 q.1)

pub all_map : {X Y : Type 0} (P : X → Type 0) (Q : Y → Type 0) (h : X → Y) (xs : List X) → ((x : X) → P x → Q (h x)) → AllByRecursion P xs → AllByRecursion Q (map h xs)
all_map P Q h [] f all = tt
all_map P Q h (x ∷ xs) f all = (f x all.0, all_map P Q h xs f all.1)

pub all_filter : {X : Type 0} (P : X → Type 0) (test : X → Bool) (xs : List X) → AllByRecursion P xs → AllByRecursion P (filter test xs)
all_filter P test [] all = tt
all_filter P test (x ∷ xs) all = by (test x) (all_filter P test xs all.1)
  where
    by : (t : Bool) → AllByRecursion P (filter test xs) → AllByRecursion P (cond t (x ∷ filter test xs) (filter test xs))
    by true deeper = (all.0, deeper)
    by false deeper = deeper

-- what is left by a test passes it
pub all_passed : {X : Type 0} (P : X → Type 0) (test : X → Bool) (xs : List X) → AllByRecursion P xs → AllByRecursion (λ x. P x × (test x ≡ true)) (filter test xs)
all_passed P test [] all = tt
all_passed P test (x ∷ xs) all = by (test x) refl (all_passed P test xs all.1)
  where
    by : (t : Bool) → test x ≡ t → AllByRecursion (λ y. P y × (test y ≡ true)) (filter test xs)
        → AllByRecursion (λ y. P y × (test y ≡ true)) (cond t (x ∷ filter test xs) (filter test xs))
    by true is deeper = ((all.0, is), deeper)
    by false is deeper = deeper

pub all_append : {X : Type 0} (P : X → Type 0) (xs ys : List X) → AllByRecursion P xs → AllByRecursion P ys → AllByRecursion P (xs ++ ys)
all_append P [] ys left right = right
all_append P (x ∷ xs) ys left right = (left.0, all_append P xs ys left.1 right)

pub all_of : {X : Type 0} (P : X → Type 0) (xs : List X) → ((x : X) → P x) → AllByRecursion P xs
all_of P [] f = tt
all_of P (x ∷ xs) f = (f x, all_of P xs f)

pub all_on : (P : Item → Type 0) (n : ℕ) (f : Item → Item) (items : List Item) → ((i : Item) → P i → P (f i)) → AllByRecursion P items → AllByRecursion P (on_item n f items)
all_on P n f [] g all = tt
all_on P n f (i ∷ is) g all = by (i.number == n) (all_on P n f is g all.1)
  where
    by : (t : Bool) → AllByRecursion P (on_item n f is) → AllByRecursion P (if t then f i ∷ is else i ∷ on_item n f is)
    by true deeper = (g i all.0, all.1)
    by false deeper = (all.0, deeper)

-- a number is itself, and what is not itself is another
pub itself : (n : ℕ) → (n == n) ≡ true
itself n = search rules

pub equal : (a b : ℕ) → a ≡ b → (a == b) ≡ true
equal a b is = search rules

pub same_number : (a b : ℕ) → (a == b) ≡ true → a ≡ b
same_number a b is = search rules

pub turned : (a b : ℕ) → (a == b) ≡ false → (b == a) ≡ false
turned a b is = search rules

pub none_some : {X : Type 0} (x : X) → None ≡ Some x → ⊥
none_some x is = search rules

pub some_is : {X : Type 0} (x y : X) → Some x ≡ Some y → x ≡ y
some_is {X = X} x y is = ap (the x) is
  where
    the : X → Option X → X
    the x None = x
    the x (Some y) = y

-- the request that is found has the id, and what holds of all
pub found : (P : Sent → Type 0) (m : Mid) (xs : List Sent) (x : Sent) → sent_with m xs ≡ Some x → AllByRecursion P xs → P x × (x.mid.0 ≡ m.0)
found P m [] x there all = absurd (none_some x there)
found P m (y ∷ ys) x there all = elim (eqb_tells y.mid.0 m.0) [
  | inl told ↦
      let is : y ≡ x = some_is y x (subst (λ (b : Bool). (if b then Some y else sent_with m ys) ≡ Some x) told.0 there) in
      (subst P is all.0, sym (ap (λ (z : Sent). z.mid.0) is) ∙ told.1)
  | inr told ↦ found P m ys x (subst (λ (b : Bool). (if b then Some y else sent_with m ys) ≡ Some x) told.0 there) all.1
]

-- what holds of all holds of the one found, if one is
pub found_if : (P : Sent → Type 0) (m : Mid) (xs : List Sent) → IsSomeAnd (sent_with m xs) P → (x : Sent) → sent_with m xs ≡ Some x → P x
found_if P m xs holds x there = subst (λ (o : Option Sent). IsSomeAnd o P) there holds

-- the one with another id is found as before
pub found_but : (m n : Mid) (xs : List Sent) → (m.0 == n.0) ≡ false → sent_with m (sent_but n xs) ≡ sent_with m xs
found_but m n [] other = refl
found_but m n (x ∷ xs) other = elim (eqb_tells x.mid.0 n.0) [
  | inl told ↦
      ap (λ (b : Bool). sent_with m (cond (not b) (x ∷ sent_but n xs) (sent_but n xs))) told.0
      ∙ found_but m n xs other
      ∙ sym (ap (λ (b : Bool). if b then Some x else sent_with m xs) (ap (λ (k : ℕ). k == m.0) told.1 ∙ turned m.0 n.0 other))
  | inr told ↦
      ap (λ (b : Bool). sent_with m (cond (not b) (x ∷ sent_but n xs) (sent_but n xs))) told.0
      ∙ ap (λ (o : Option Sent). if x.mid.0 == m.0 then Some x else o) (found_but m n xs other)
]

-- a change that keeps ids
pub found_map : (m : Mid) (h : Sent → Sent) (xs : List Sent) → ((x : Sent) → (h x).mid ≡ x.mid) → sent_with m (map h xs) ≡ option_map h (sent_with m xs)
found_map m h [] same = refl
found_map m h (x ∷ xs) same =
    ap (λ (i : Mid). if i.0 == m.0 then Some (h x) else sent_with m (map h xs)) (same x) ∙ by (x.mid.0 == m.0) (found_map m h xs same)
  where
    by : (t : Bool) → sent_with m (map h xs) ≡ option_map h (sent_with m xs)
        → (if t then Some (h x) else sent_with m (map h xs)) ≡ option_map h (if t then Some x else sent_with m xs)
    by true deeper = refl
    by false deeper = deeper

pub found_append : (m : Mid) (xs ys : List Sent) (x : Sent) → sent_with m xs ≡ Some x → sent_with m (xs ++ ys) ≡ Some x
found_append m [] ys x there = absurd (none_some x there)
found_append m (y ∷ xs) ys x there = by (y.mid.0 == m.0) there (found_append m xs ys x)
  where
    by : (t : Bool) → (if t then Some y else sent_with m xs) ≡ Some x → (sent_with m xs ≡ Some x → sent_with m (xs ++ ys) ≡ Some x)
        → (if t then Some y else sent_with m (xs ++ ys)) ≡ Some x
    by true there deeper = there
    by false there deeper = deeper there

-- the call that is found
pub item_on : (n k : ℕ) (f : Item → Item) (items : List Item) → ((i : Item) → (f i).number ≡ i.number) → (n == k) ≡ false → item_with n (on_item k f items) ≡ item_with n items
item_on n k f [] same other = refl
item_on n k f (i ∷ is) same other = elim (eqb_tells i.number k) [
  | inl told ↦
      let far : (i.number == n) ≡ false = ap (λ (m : ℕ). m == n) told.1 ∙ turned n k other in
      ap (λ (b : Bool). item_with n (if b then f i ∷ is else i ∷ on_item k f is)) told.0
      ∙ ap (λ (m : ℕ). if m == n then Some (f i) else item_with n is) (same i)
      ∙ ap (λ (b : Bool). if b then Some (f i) else item_with n is) far
      ∙ sym (ap (λ (b : Bool). if b then Some i else item_with n is) far)
  | inr told ↦
      ap (λ (b : Bool). item_with n (if b then f i ∷ is else i ∷ on_item k f is)) told.0
      ∙ ap (λ (o : Option Item). if i.number == n then Some i else o) (item_on n k f is same other)
]

pub item_on_it : (n : ℕ) (f : Item → Item) (items : List Item) → ((i : Item) → (f i).number ≡ i.number) → item_with n (on_item n f items) ≡ option_map f (item_with n items)
item_on_it n f [] same = refl
item_on_it n f (i ∷ is) same = elim (eqb_tells i.number n) [
  | inl told ↦
      ap (λ (b : Bool). item_with n (if b then f i ∷ is else i ∷ on_item n f is)) told.0
      ∙ ap (λ (m : ℕ). if m == n then Some (f i) else item_with n is) (same i)
      ∙ ap (λ (b : Bool). if b then Some (f i) else item_with n is) told.0
      ∙ sym (ap (λ (b : Bool). option_map f (if b then Some i else item_with n is)) told.0)
  | inr told ↦
      ap (λ (b : Bool). item_with n (if b then f i ∷ is else i ∷ on_item n f is)) told.0
      ∙ ap (λ (b : Bool). if b then Some i else item_with n (on_item n f is)) told.0
      ∙ item_on_it n f is same
      ∙ sym (ap (λ (b : Bool). option_map f (if b then Some i else item_with n is)) told.0)
]

pub item_map : (n : ℕ) (h : Item → Item) (items : List Item) → ((i : Item) → (h i).number ≡ i.number) → item_with n (map h items) ≡ option_map h (item_with n items)
item_map n h [] same = refl
item_map n h (i ∷ is) same =
    ap (λ (k : ℕ). if k == n then Some (h i) else item_with n (map h is)) (same i) ∙ by (i.number == n) (item_map n h is same)
  where
    by : (t : Bool) → item_with n (map h is) ≡ option_map h (item_with n is)
        → (if t then Some (h i) else item_with n (map h is)) ≡ option_map h (if t then Some i else item_with n is)
    by true deeper = refl
    by false deeper = deeper

pub item_but : (n k : ℕ) (items : List Item) → (n == k) ≡ false → item_with n (items_but k items) ≡ item_with n items
item_but n k [] other = refl
item_but n k (i ∷ is) other = elim (eqb_tells i.number k) [
  | inl told ↦
      ap (λ (b : Bool). item_with n (cond (not b) (i ∷ items_but k is) (items_but k is))) told.0
      ∙ item_but n k is other
      ∙ sym (ap (λ (b : Bool). if b then Some i else item_with n is) (ap (λ (m : ℕ). m == n) told.1 ∙ turned n k other))
  | inr told ↦
      ap (λ (b : Bool). item_with n (cond (not b) (i ∷ items_but k is) (items_but k is))) told.0
      ∙ ap (λ (o : Option Item). if i.number == n then Some i else o) (item_but n k is other)
]

pub item_append : (n : ℕ) (items : List Item) (j : Item) (P : Item → Type 0) → IsSomeAnd (item_with n items) P → IsSomeAnd (item_with n (items ++ j ∷ [])) P
item_append n [] j P holds = absurd holds
item_append n (i ∷ is) j P holds = by (i.number == n) holds (item_append n is j P)
  where
    by : (t : Bool) → IsSomeAnd (if t then Some i else item_with n is) P → (IsSomeAnd (item_with n is) P → IsSomeAnd (item_with n (is ++ j ∷ [])) P)
        → IsSomeAnd (if t then Some i else item_with n (is ++ j ∷ [])) P
    by true holds deeper = holds
    by false holds deeper = deeper holds

-- what holds of the one found, if one is
pub some_more : {X : Type 0} (P Q : X → Type 0) (o : Option X) → ((x : X) → P x → Q x) → IsSomeAnd o P → IsSomeAnd o Q
some_more P Q None f holds = holds
some_more P Q (Some x) f holds = f x holds

pub some_map : {X Y : Type 0} (P : X → Type 0) (Q : Y → Type 0) (h : X → Y) (o : Option X) → ((x : X) → P x → Q (h x)) → IsSomeAnd o P → IsSomeAnd (option_map h o) Q
some_map P Q h None f holds = holds
some_map P Q h (Some x) f holds = f x holds

-- what holds of all calls holds of the one found
pub item_found : (P : Item → Type 0) (n : ℕ) (items : List Item) (i : Item) → item_with n items ≡ Some i → AllByRecursion P items → P i × (i.number ≡ n)
item_found P n [] i there all = absurd (none_some i there)
item_found P n (j ∷ js) i there all = elim (eqb_tells j.number n) [
  | inl told ↦
      let is : j ≡ i = some_is j i (subst (λ (b : Bool). (if b then Some j else item_with n js) ≡ Some i) told.0 there) in
      (subst P is all.0, sym (ap (λ (k : Item). k.number) is) ∙ told.1)
  | inr told ↦ item_found P n js i (subst (λ (b : Bool). (if b then Some j else item_with n js) ≡ Some i) told.0 there) all.1
]
