-- The client's own steps are kept by looking at what is owed: a call begins, a frame is announced, a call is answered, the clock is read,
-- the end is said, and a frame is sent.
use Rattle.std.proofs.Common.{◌≡◌, ◌∙◌, refl, sym, ap, subst, ℕ, ◌==◌, Bool, true, false, cond, if◌then◌else◌, not, List, [], ◌∷◌, ◌++◌, Option, Some, None, inl, inr}
use Rattle.std.specs.Prelude.{IsSomeAnd, map}
use Rattle.std.specs.List.{AllByRecursion}
use Rattle.std.proofs.lemmas.Bool.{false≢true}
use Rattle.std.proofs.lemmas.Bool.Decides.{eqb_tells}
use Rattle.smb_base.specs.declared.names.Mid.{Mid}
use Rattle.share_state.specs.declared.connection.Sent.{Sent}
use Rattle.share_state.specs.declared.request.Rep.{Rep}
use Rattle.share_state.specs.Sent.{sent_but, sent_with}
use Rattle.smb_link.specs.Program.{Known}
use Rattle.fs_plain.specs.Owners.{Owner, owner_of}
use Rattle.fs_plain.specs.Told.{Told, Announcement}
use Rattle.fs_plain.specs.World.{is_first_of_frame}
use Rattle.fs_client.specs.Item.{Item, item_with, on_item, items_but, spoken_for, flown, gone_on}
use Rattle.fs_client.specs.View.{View}
use Rattle.fs_client.specs.Asked.{is_refused, behind_it, left_by}
use Rattle.fs_client.specs.Looks.{early_but, advanced, went}
use Rattle.fs_client.specs.After.{items_sent}
use Rattle.fs_client.specs.Sane.{IsFrom, IsOwnedBy, IsOwned, Sane}
use Rattle.fs_client.proofs.Lists.{all_more, found, found_append}
use Rattle.fs_client.proofs.Flights.{it_frame, it_mid, it_elsewhere, left_is, none_but}
use Rattle.fs_client.proofs.Landing.{InTurn, moved, advanced_is, all_left}
use Rattle.fs_client.proofs.Answers.{IsNotOf, IsFree}
use Rattle.fs_client.proofs.Keeping.{IsKept}

-- calls change alike before and after a step, where the call that goes on does
same_advanced : (H : List Item → List Item) (o : Option Owner) (refused : Bool) (reply : Rep) (items : List Item)
    → ((a : Owner) → o ≡ Some a → on_item a.number (moved refused a.known reply) (H items) ≡ H (on_item a.number (moved refused a.known reply) items))
    → advanced o refused reply (H items) ≡ H (advanced o refused reply items)
same_advanced H None refused reply items same = refl
same_advanced H (Some a) refused reply items same = advanced_is a refused reply (H items) ∙ same a refl ∙ sym (ap H (advanced_is a refused reply items))

-- a step that changes the calls, and what is told beside owners
abbrev pub changed : (List Item → List Item) → Told → View → View
changed H t u = record u { items = H u.items; told = t }

pub record Changes (H : List Item → List Item) (C : View → Type 0) (t : Told) (u v : View) : Type 0 where
  pub is : v ≡ changed H t u
  pub owners : t.owners ≡ u.told.owners
  pub so : C u

changed_kept : (H : List Item → List Item) (C : View → Type 0) (t : Told)
    → ((u : View) (x : Sent) (reply : Rep) → Sane u → C u → InTurn u.flights x reply → C (went x reply u))
    → ((u : View) (x : Sent) (reply : Rep) → Sane u → C u → InTurn u.flights x reply → (a : Owner) → owner_of x.mid u.told.owners ≡ Some a
    → on_item a.number (moved (is_refused x) a.known reply) (H u.items) ≡ H (on_item a.number (moved (is_refused x) a.known reply) u.items))
    → IsKept (Changes H C t)
changed_kept H C t on same = record {
  on = λ u v x reply sane r turn. record {
    is = ap (went x reply) r.is
        ∙ ap (λ (os : List Owner). record (changed H t u) { items = advanced (owner_of x.mid os) (is_refused x) reply (H u.items); flights = left_by x reply u.flights; early = early_but x.mid u.early }) r.owners
        ∙ ap (λ (is : List Item). record (changed H t u) { items = is; flights = left_by x reply u.flights; early = early_but x.mid u.early })
        (same_advanced H (owner_of x.mid u.told.owners) (is_refused x) reply u.items (same u x reply sane r.so turn));
    owners = r.owners;
    so = on u x reply sane r.so turn;
  };
  turn = λ u v x reply sane r turn. subst (λ (w : View). InTurn w.flights x reply) (sym r.is) turn;
  owner = λ u v x reply sane r turn. ap (λ (w : View). owner_of x.mid w.told.owners) r.is ∙ ap (owner_of x.mid) r.owners;
  found = λ u v mid x r there. ap (λ (w : View). sent_with mid w.flights) r.is ∙ there;
}

-- no more is asked of the view
abbrev pub NoMore : View → Type 0
NoMore u = Unit {0}

-- what is told changes alone
pub told_kept : (t : Told) → IsKept (Changes (λ items. items) NoMore t)
told_kept t = changed_kept (λ items. items) NoMore t (λ u x reply sane c turn. record {}) (λ u x reply sane c turn a is. refl)

-- bytes are got that are not looked at yet, and what they tell of the server
abbrev pub gets : List ℕ → Told → View → View
gets bytes t u = record u { held = bytes; told = t }

pub record Gets (bytes : List ℕ) (t : Told) (u v : View) : Type 0 where
  pub is : v ≡ gets bytes t u
  pub owners : t.owners ≡ u.told.owners

pub got_kept : (bytes : List ℕ) (t : Told) → IsKept (Gets bytes t)
got_kept bytes t = record {
  on = λ u v x reply sane r turn. record {
    is = ap (went x reply) r.is
        ∙ ap (λ (os : List Owner). record (gets bytes t u) { items = advanced (owner_of x.mid os) (is_refused x) reply u.items; flights = left_by x reply u.flights; early = early_but x.mid u.early }) r.owners;
    owners = r.owners;
  };
  turn = λ u v x reply sane r turn. subst (λ (w : View). InTurn w.flights x reply) (sym r.is) turn;
  owner = λ u v x reply sane r turn. ap (λ (w : View). owner_of x.mid w.told.owners) r.is ∙ ap (owner_of x.mid) r.owners;
  found = λ u v mid x r there. ap (λ (w : View). sent_with mid w.flights) r.is ∙ there;
}

-- a call begins
on_append : (n : ℕ) (f : Item → Item) (items : List Item) (j : Item) (P : Item → Type 0) → IsSomeAnd (item_with n items) P → on_item n f (items ++ j ∷ []) ≡ on_item n f items ++ j ∷ []
on_append n f [] j P holds = absurd holds
on_append n f (i ∷ is) j P holds = by (i.number == n) holds (on_append n f is j P)
  where
    by : (t : Bool) → IsSomeAnd (if t then Some i else item_with n is) P → (IsSomeAnd (item_with n is) P → on_item n f (is ++ j ∷ []) ≡ on_item n f is ++ j ∷ [])
        → (if t then f i ∷ (is ++ j ∷ []) else i ∷ on_item n f (is ++ j ∷ [])) ≡ (if t then f i ∷ is else i ∷ on_item n f is) ++ j ∷ []
    by true holds deeper = refl
    by false holds deeper = ap (λ (l : List Item). i ∷ l) (deeper holds)

pub owned_here : (u : View) (x : Sent) (reply : Rep) → Sane u → InTurn u.flights x reply → (a : Owner) → owner_of x.mid u.told.owners ≡ Some a → IsSomeAnd (item_with a.number u.items) (IsFrom a x)
owned_here u x reply sane turn a is =
    subst (λ (o : Option Owner). IsOwnedBy o u.items x) is (found (IsOwned u.items u.told.owners) x.mid u.flights x turn.there sane.owned).0

pub begin_kept : (j : Item) (t : Told) → IsKept (Changes (λ items. items ++ j ∷ []) NoMore t)
begin_kept j t = changed_kept (λ items. items ++ j ∷ []) NoMore t (λ u x reply sane c turn. record {})
    (λ u x reply sane c turn a is. on_append a.number (moved (is_refused x) a.known reply) u.items j (IsFrom a x) (owned_here u x reply sane turn a is))

-- a frame is announced
on_map : (n : ℕ) (f h : Item → Item) (items : List Item) → ((i : Item) → (h i).number ≡ i.number) → ((i : Item) → f (h i) ≡ h (f i)) → on_item n f (map h items) ≡ map h (on_item n f items)
on_map n f h [] number same = refl
on_map n f h (i ∷ is) number same =
    ap (λ (m : ℕ). if m == n then f (h i) ∷ map h is else h i ∷ on_item n f (map h is)) (number i) ∙ by (i.number == n) (on_map n f h is number same)
  where
    by : (t : Bool) → on_item n f (map h is) ≡ map h (on_item n f is)
        → (if t then f (h i) ∷ map h is else h i ∷ on_item n f (map h is)) ≡ map h (if t then f i ∷ is else i ∷ on_item n f is)
    by true deeper = ap (λ (k : Item). k ∷ map h is) (same i)
    by false deeper = ap (λ (l : List Item). h i ∷ l) deeper

spoken_number : (n : ℕ) (i : Item) → (spoken_for n i).number ≡ i.number
spoken_number n i = by (i.number == n)
  where
    by : (t : Bool) → (if t then record i { announced = true } else i).number ≡ i.number
    by true = refl
    by false = refl

spoken_moved : (n : ℕ) (refused : Bool) (known : Known) (reply : Rep) (i : Item) → moved refused known reply (spoken_for n i) ≡ spoken_for n (moved refused known reply i)
spoken_moved n true known reply i = refl
spoken_moved n false known reply i = by (i.number == n)
  where
    by : (t : Bool) → gone_on known reply (if t then record i { announced = true } else i) ≡ (if t then record (gone_on known reply i) { announced = true } else gone_on known reply i)
    by true = refl
    by false = refl

pub announce_kept : (n : ℕ) (t : Told) → IsKept (Changes (map (spoken_for n)) NoMore t)
announce_kept n t = changed_kept (map (spoken_for n)) NoMore t (λ u x reply sane c turn. record {})
    (λ u x reply sane c turn a is. on_map a.number (moved (is_refused x) a.known reply) (spoken_for n) u.items (spoken_number n) (spoken_moved n (is_refused x) a.known reply))

-- a call is answered that has nothing in flight
abbrev pub HasNothing : ℕ → View → Type 0
HasNothing n u = AllByRecursion (IsFree n u.told.owners) u.flights

but_on : (k n : ℕ) (f : Item → Item) → ((i : Item) → (f i).number ≡ i.number) → (n == k) ≡ false → (items : List Item) → on_item n f (items_but k items) ≡ items_but k (on_item n f items)
but_on k n f number other [] = refl
but_on k n f number other (i ∷ is) = elim (eqb_tells i.number n) [
  | inl told ↦
      let far : (i.number == k) ≡ false = ap (λ (m : ℕ). m == k) told.1 ∙ other in
      ap (λ (b : Bool). on_item n f (cond (not b) (i ∷ items_but k is) (items_but k is))) far
      ∙ ap (λ (b : Bool). if b then f i ∷ items_but k is else i ∷ on_item n f (items_but k is)) told.0
      ∙ sym (ap (λ (b : Bool). items_but k (if b then f i ∷ is else i ∷ on_item n f is)) told.0
      ∙ ap (λ (m : ℕ). cond (not (m == k)) (f i ∷ items_but k is) (items_but k is)) (number i)
      ∙ ap (λ (b : Bool). cond (not b) (f i ∷ items_but k is) (items_but k is)) far)
  | inr told ↦
      by told.0 (i.number == k) (but_on k n f number other is) ∙ sym (ap (λ (b : Bool). items_but k (if b then f i ∷ is else i ∷ on_item n f is)) told.0)
]
  where
    by : (i.number == n) ≡ false → (t : Bool) → on_item n f (items_but k is) ≡ items_but k (on_item n f is)
        → on_item n f (cond (not t) (i ∷ items_but k is) (items_but k is)) ≡ cond (not t) (i ∷ items_but k (on_item n f is)) (items_but k (on_item n f is))
    by far true deeper = deeper
    by far false deeper = ap (λ (b : Bool). if b then f i ∷ items_but k is else i ∷ on_item n f (items_but k is)) far ∙ ap (λ (l : List Item). i ∷ l) deeper

moved_number : (refused : Bool) (known : Known) (reply : Rep) (i : Item) → (moved refused known reply i).number ≡ i.number
moved_number true known reply i = refl
moved_number false known reply i = refl

free_left : (n : ℕ) (owners : List Owner) (x : Sent) (reply : Rep) (xs : List Sent) → AllByRecursion (IsFree n owners) xs → AllByRecursion (IsFree n owners) (left_by x reply xs)
free_left n owners x reply xs all = all_left (IsFree n owners) x reply xs (λ y free. subst (λ (m : Mid). IsNotOf n (owner_of m owners)) (sym (it_mid x reply y)) free) all

free_here : (n : ℕ) (u : View) (x : Sent) (reply : Rep) → HasNothing n u → InTurn u.flights x reply → (a : Owner) → owner_of x.mid u.told.owners ≡ Some a → (a.number == n) ≡ false
free_here n u x reply free turn a is = subst (IsNotOf n) is (found (IsFree n u.told.owners) x.mid u.flights x turn.there free).0

pub answer_kept : (n : ℕ) (t : Told) → IsKept (Changes (items_but n) (HasNothing n) t)
answer_kept n t = changed_kept (items_but n) (HasNothing n) t (λ u x reply sane free turn. free_left n u.told.owners x reply u.flights free)
    (λ u x reply sane free turn a is. but_on n a.number (moved (is_refused x) a.known reply) (moved_number (is_refused x) a.known reply) (free_here n u x reply free turn a is) u.items)

-- a frame is sent
abbrev pub sends : List Announcement → Mid → List Sent → ℕ → Told → View → View
sends announced frame xs next t u = record u { items = items_sent announced frame u.items; flights = u.flights ++ xs; next = next; told = t }

-- a request in flight is none of these, is of no call that sends them, and keeps its owner
pub record IsFar (announced : List Announcement) (xs : List Sent) (before after : List Owner) (x : Sent) : Type 0 where
  pub mids : AllByRecursion (λ (y : Sent). (y.mid.0 == x.mid.0) ≡ false) xs
  pub frames : AllByRecursion (λ (y : Sent). (y.frame.0 == x.frame.0) ≡ false) xs
  pub owner : owner_of x.mid after ≡ owner_of x.mid before
  pub free : AllByRecursion (λ (a : Announcement). IsFree a.number before x) announced

pub record Sends (announced : List Announcement) (frame : Mid) (xs : List Sent) (next : ℕ) (t : Told) (u v : View) : Type 0 where
  pub is : v ≡ sends announced frame xs next t u
  pub far : AllByRecursion (IsFar announced xs u.told.owners t.owners) u.flights

far_left : (announced : List Announcement) (xs : List Sent) (before after : List Owner) (x : Sent) (reply : Rep) (ys : List Sent)
    → AllByRecursion (IsFar announced xs before after) ys → AllByRecursion (IsFar announced xs before after) (left_by x reply ys)
far_left announced xs before after x reply ys all = all_left (IsFar announced xs before after) x reply ys (λ y far. record {
  mids = all_more (λ (z : Sent). (z.mid.0 == y.mid.0) ≡ false) (λ (z : Sent). (z.mid.0 == (behind_it x reply y).mid.0) ≡ false) xs (λ z is. ap (λ (m : Mid). z.mid.0 == m.0) (it_mid x reply y) ∙ is) far.mids;
  frames = all_more (λ (z : Sent). (z.frame.0 == y.frame.0) ≡ false) (λ (z : Sent). (z.frame.0 == (behind_it x reply y).frame.0) ≡ false) xs (λ z is. ap (λ (m : Mid). z.frame.0 == m.0) (it_frame x reply y) ∙ is) far.frames;
  owner = ap (λ (m : Mid). owner_of m after) (it_mid x reply y) ∙ far.owner ∙ sym (ap (λ (m : Mid). owner_of m before) (it_mid x reply y));
  free = all_more (λ (a : Announcement). IsFree a.number before y) (λ (a : Announcement). IsFree a.number before (behind_it x reply y)) announced
      (λ a free. subst (λ (m : Mid). IsNotOf a.number (owner_of m before)) (sym (it_mid x reply y)) free) far.free;
}) all

on_on : (n k : ℕ) (f g : Item → Item) → ((i : Item) → (f i).number ≡ i.number) → ((i : Item) → (g i).number ≡ i.number) → (n == k) ≡ false → (items : List Item)
    → on_item n f (on_item k g items) ≡ on_item k g (on_item n f items)
on_on n k f g keeps keeps' other [] = refl
on_on n k f g keeps keeps' other (i ∷ is) = elim (eqb_tells i.number n) [
  | inl told ↦
      let far : (i.number == k) ≡ false = ap (λ (m : ℕ). m == k) told.1 ∙ other in
      ap (λ (b : Bool). on_item n f (if b then g i ∷ is else i ∷ on_item k g is)) far
      ∙ ap (λ (b : Bool). if b then f i ∷ on_item k g is else i ∷ on_item n f (on_item k g is)) told.0
      ∙ sym (ap (λ (b : Bool). on_item k g (if b then f i ∷ is else i ∷ on_item n f is)) told.0
      ∙ ap (λ (m : ℕ). if m == k then g (f i) ∷ is else f i ∷ on_item k g is) (keeps i)
      ∙ ap (λ (b : Bool). if b then g (f i) ∷ is else f i ∷ on_item k g is) far)
  | inr told ↦
      by told.0 (i.number == k) (on_on n k f g keeps keeps' other is) ∙ sym (ap (λ (b : Bool). on_item k g (if b then f i ∷ is else i ∷ on_item n f is)) told.0)
]
  where
    by : (i.number == n) ≡ false → (t : Bool) → on_item n f (on_item k g is) ≡ on_item k g (on_item n f is)
        → on_item n f (if t then g i ∷ is else i ∷ on_item k g is) ≡ (if t then g i ∷ on_item n f is else i ∷ on_item k g (on_item n f is))
    by far true deeper = ap (λ (m : ℕ). if m == n then f (g i) ∷ is else g i ∷ on_item n f is) (keeps' i) ∙ ap (λ (b : Bool). if b then f (g i) ∷ is else g i ∷ on_item n f is) far
    by far false deeper = ap (λ (b : Bool). if b then f i ∷ on_item k g is else i ∷ on_item n f (on_item k g is)) far ∙ ap (λ (l : List Item). i ∷ l) deeper

items_sent_on : (announced : List Announcement) (frame : Mid) (n : ℕ) (f : Item → Item) → ((i : Item) → (f i).number ≡ i.number) → AllByRecursion (λ (a : Announcement). (n == a.number) ≡ false) announced → (items : List Item)
    → on_item n f (items_sent announced frame items) ≡ items_sent announced frame (on_item n f items)
items_sent_on [] frame n f keeps others items = refl
items_sent_on (a ∷ announced) frame n f keeps others items =
    items_sent_on announced frame n f keeps others.1 (on_item a.number (flown frame a.known) items)
    ∙ ap (items_sent announced frame) (on_on n a.number f (flown frame a.known) keeps (λ i. refl) others.0 items)

but_append : (m : Mid) (xs ys : List Sent) → sent_but m (xs ++ ys) ≡ sent_but m xs ++ sent_but m ys
but_append m [] ys = refl
but_append m (x ∷ xs) ys = by (x.mid.0 == m.0) (but_append m xs ys)
  where
    by : (t : Bool) → sent_but m (xs ++ ys) ≡ sent_but m xs ++ sent_but m ys
        → cond (not t) (x ∷ sent_but m (xs ++ ys)) (sent_but m (xs ++ ys)) ≡ cond (not t) (x ∷ sent_but m xs) (sent_but m xs) ++ sent_but m ys
    by true deeper = deeper
    by false deeper = ap (λ (l : List Sent). x ∷ l) deeper

map_append : (h : Sent → Sent) (xs ys : List Sent) → map h (xs ++ ys) ≡ map h xs ++ map h ys
map_append h [] ys = refl
map_append h (x ∷ xs) ys = ap (λ (l : List Sent). h x ∷ l) (map_append h xs ys)

map_elsewhere : (x : Sent) (reply : Rep) (ys : List Sent) → AllByRecursion (λ (y : Sent). (y.frame.0 == x.frame.0) ≡ false) ys → map (behind_it x reply) ys ≡ ys
map_elsewhere x reply [] all = refl
map_elsewhere x reply (y ∷ ys) all = ap (λ (z : Sent). z ∷ map (behind_it x reply) ys) (it_elsewhere x reply y all.0) ∙ ap (λ (l : List Sent). y ∷ l) (map_elsewhere x reply ys all.1)

left_append : (x : Sent) (reply : Rep) (xs ys : List Sent) → AllByRecursion (λ (y : Sent). (y.mid.0 == x.mid.0) ≡ false) ys → AllByRecursion (λ (y : Sent). (y.frame.0 == x.frame.0) ≡ false) ys
    → left_by x reply (xs ++ ys) ≡ left_by x reply xs ++ ys
left_append x reply xs ys mids frames =
    left_is x reply (xs ++ ys) ∙ ap (map (behind_it x reply)) (but_append x.mid xs ys) ∙ map_append (behind_it x reply) (sent_but x.mid xs) (sent_but x.mid ys)
    ∙ ap (λ (l : List Sent). map (behind_it x reply) (sent_but x.mid xs) ++ map (behind_it x reply) l) (none_but x.mid ys mids)
    ∙ ap (λ (l : List Sent). map (behind_it x reply) (sent_but x.mid xs) ++ l) (map_elsewhere x reply ys frames)
    ∙ sym (ap (λ (l : List Sent). l ++ ys) (left_is x reply xs))

first_append : (xs ys : List Sent) (x : Sent) → is_first_of_frame xs x ≡ true → is_first_of_frame (xs ++ ys) x ≡ true
first_append [] ys x first = absurd (false≢true first)
first_append (y ∷ xs) ys x first = by (y.frame.0 == x.frame.0) first (first_append xs ys x)
  where
    by : (t : Bool) → (if t then y.mid.0 == x.mid.0 else is_first_of_frame xs x) ≡ true → (is_first_of_frame xs x ≡ true → is_first_of_frame (xs ++ ys) x ≡ true)
        → (if t then y.mid.0 == x.mid.0 else is_first_of_frame (xs ++ ys) x) ≡ true
    by true first deeper = first
    by false first deeper = deeper first

pub send_kept : (announced : List Announcement) (frame : Mid) (xs : List Sent) (next : ℕ) (t : Told) → IsKept (Sends announced frame xs next t)
send_kept announced frame xs next t = record {
  on = λ u v x reply sane r turn.
      let far : IsFar announced xs u.told.owners t.owners x = (found (IsFar announced xs u.told.owners t.owners) x.mid u.flights x turn.there r.far).0 in
      record {
        is = ap (went x reply) r.is
            ∙ ap (λ (o : Option Owner). record (sends announced frame xs next t u) { items = advanced o (is_refused x) reply (items_sent announced frame u.items); flights = left_by x reply (u.flights ++ xs); early = early_but x.mid u.early }) far.owner
            ∙ ap (λ (is : List Item). record (sends announced frame xs next t u) { items = is; flights = left_by x reply (u.flights ++ xs); early = early_but x.mid u.early })
            (same_advanced (items_sent announced frame) (owner_of x.mid u.told.owners) (is_refused x) reply u.items
            (λ a is. items_sent_on announced frame a.number (moved (is_refused x) a.known reply) (moved_number (is_refused x) a.known reply)
            (all_more (λ (b : Announcement). IsFree b.number u.told.owners x) (λ (b : Announcement). (a.number == b.number) ≡ false) announced (λ b free. subst (IsNotOf b.number) is free) far.free) u.items))
            ∙ ap (λ (l : List Sent). record (sends announced frame xs next t u) { items = items_sent announced frame (advanced (owner_of x.mid u.told.owners) (is_refused x) reply u.items); flights = l; early = early_but x.mid u.early })
            (left_append x reply u.flights xs far.mids far.frames);
        far = far_left announced xs u.told.owners t.owners x reply u.flights r.far;
      };
  turn = λ u v x reply sane r turn. subst (λ (w : View). InTurn w.flights x reply) (sym r.is) (record {
    there = found_append x.mid u.flights xs x turn.there;
    first = first_append u.flights xs x turn.first;
    fit = turn.fit;
  });
  owner = λ u v x reply sane r turn.
      ap (λ (w : View). owner_of x.mid w.told.owners) r.is ∙ (found (IsFar announced xs u.told.owners t.owners) x.mid u.flights x turn.there r.far).0.owner;
  found = λ u v mid x r there. ap (λ (w : View). sent_with mid w.flights) r.is ∙ found_append mid u.flights xs x there;
}
