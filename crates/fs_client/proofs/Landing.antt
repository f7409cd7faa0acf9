-- A reply is looked at: what holds of the client holds on.
use Rattle.std.proofs.Common.{arith, ◌≡◌, ◌∙◌, refl, sym, ap, subst, ℕ, zero, suc, ◌==◌, ◌<◌, Bool, true, false, cond, if◌then◌else◌, not, List, [], ◌∷◌, ◌++◌, length, Option, Some, None, Result, Ok, Err, inl, inr}
use Rattle.std.specs.Prelude.{MatchBool, IsSomeAnd, map, option_map, is_none, ◌&&◌, ◌||◌}
use Rattle.std.specs.List.{AllByRecursion}
use Rattle.std.proofs.lemmas.Bool.{false≢true}
use Rattle.std.proofs.lemmas.Bool.Decides.{eqb_tells}
use Rattle.smb_base.specs.declared.names.Mid.{Mid}
use Rattle.smb_chain.specs.declared.parts.BadNext.{BadNext}
use Rattle.share_state.specs.declared.connection.Sent.{Sent}
use Rattle.share_state.specs.declared.request.Rep.{Rep}
use Rattle.share_state.specs.declared.request.RepBody.TheVariants as body
use Rattle.share_state.specs.PlainShare.{shown}
use Rattle.share_state.specs.Reply.{of_status}
use Rattle.share_state.specs.Sent.{behind_create, sent_but, sent_with}
use Rattle.smb_link.specs.Program.{Program, Known, Ask, Look, Say, settled, replied}
use Rattle.fs_plain.specs.Requests.{WireRequest, wire_request}
use Rattle.fs_plain.specs.Replies.{reply_in, is_aside_reply}
use Rattle.fs_plain.specs.World.{mid_of, is_first_of_frame, came_to}
use Rattle.fs_plain.specs.Owners.{Owner, owner_of}
use Rattle.fs_client.specs.Item.{Item, Placed, item_with, on_item, gone_on, fids_after}
use Rattle.fs_client.specs.View.{View}
use Rattle.fs_client.specs.Asked.{is_refused, creates_as, fits, behind_it, left_by}
use Rattle.fs_client.specs.Flies.{AsksNext, FliesAs, files_of, FliesFrom}
use Rattle.fs_client.specs.Looks.{is_early, early_but, awaited_with, advanced, went, if_first, in_turn, drained_with, drained, landed_by, without, answers_aside, looked_reply, looked_as, looked_for, looked, all_looked}
use Rattle.fs_client.specs.Sane.{IsNotFrom, IsFrom, IsOwnedBy, IsOwned, IsUsed, IsApart, AreApart, IsSent, IsAbove, AreRising, IsEarly, IsBegun, FliesIn, Sane}
use Rattle.fs_client.proofs.Lists.{all_more, all_map, all_filter, all_passed, all_append, all_on, itself, turned, none_some, some_is, found, found_but, found_map, item_on, item_on_it, some_more, some_map}
use Rattle.fs_client.proofs.Flights.{flies_kept, flies_but, it_frame, it_mid, it_message, it_elsewhere, left_is, Lands, lands}

-- a reply goes to the settled program as to the program itself
pub replied_settled : (known : Known) (p : Program) (reply : Rep) → replied known p reply ≡ replied known (settled known p) reply
replied_settled known (Ask wish rest) reply = refl
replied_settled known (Look rest) reply = replied_settled known (rest known) reply
replied_settled known (Say answer) reply = refl

-- what a call keeps as it goes on
pub record GoesOn (f : Item → Item) : Type 0 where
  pub number : (i : Item) → (f i).number ≡ i.number
  pub frame : (i : Item) → (f i).frame ≡ i.frame
  pub known : (i : Item) → (f i).known ≡ i.known

-- a call goes on, or stays where its request was refused with the CREATE before it
abbrev pub moved : Bool → Known → Rep → Item → Item
moved refused known reply i = if refused then i else gone_on known reply i

pub moved_goes : (refused : Bool) (known : Known) (reply : Rep) → GoesOn (moved refused known reply)
moved_goes true known reply = record { number = λ i. refl; frame = λ i. refl; known = λ i. refl }
moved_goes false known reply = record { number = λ i. refl; frame = λ i. refl; known = λ i. refl }

on_same : (n : ℕ) (items : List Item) → on_item n (λ i. i) items ≡ items
on_same n [] = refl
on_same n (i ∷ is) = by (i.number == n) (on_same n is)
  where
    by : (t : Bool) → on_item n (λ j. j) is ≡ is → (if t then i ∷ is else i ∷ on_item n (λ j. j) is) ≡ i ∷ is
    by true deeper = refl
    by false deeper = ap (λ (l : List Item). i ∷ l) deeper

pub advanced_is : (o : Owner) (refused : Bool) (reply : Rep) (items : List Item) → advanced (Some o) refused reply items ≡ on_item o.number (moved refused o.known reply) items
advanced_is o true reply items = sym (on_same o.number items)
advanced_is o false reply items = refl

-- calls that are apart stay so
apart_left : (f : Item → Item) → GoesOn f → (i j : Item) → IsApart i j → IsApart (f i) j
apart_left f goes i j a = (
  ap (λ (m : ℕ). j.number == m) (goes.number i) ∙ a.0,
  λ frame here there. a.1 frame (sym (goes.frame i) ∙ here) there,
)

apart_right : (f : Item → Item) → GoesOn f → (i j : Item) → IsApart i j → IsApart i (f j)
apart_right f goes i j a = (
  ap (λ (m : ℕ). m == i.number) (goes.number j) ∙ a.0,
  λ frame here there. a.1 frame here (sym (goes.frame j) ∙ there),
)

apart_on : (f : Item → Item) → GoesOn f → (n : ℕ) (items : List Item) → AreApart items → AreApart (on_item n f items)
apart_on f goes n [] apart = record {}
apart_on f goes n (i ∷ is) apart = by (i.number == n) (apart_on f goes n is apart.1)
  where
    by : (t : Bool) → AreApart (on_item n f is) → AreApart (if t then f i ∷ is else i ∷ on_item n f is)
    by true deeper = (all_more (IsApart i) (IsApart (f i)) is (apart_left f goes i) apart.0, apart.1)
    by false deeper = (all_on (IsApart i) n f is (apart_right f goes i) apart.0, deeper)

-- ids rise on as requests go, and as those left are told what a CREATE came to
pub rising_but : (m : Mid) (xs : List Sent) → AreRising xs → AreRising (sent_but m xs)
rising_but m [] rising = record {}
rising_but m (x ∷ xs) rising = by (x.mid.0 == m.0) (rising_but m xs rising.1)
  where
    by : (t : Bool) → AreRising (sent_but m xs) → AreRising (cond (not t) (x ∷ sent_but m xs) (sent_but m xs))
    by true deeper = deeper
    by false deeper = (all_filter (IsAbove x) (λ (y : Sent). not (y.mid.0 == m.0)) xs rising.0, deeper)

pub rising_map : (h : Sent → Sent) (xs : List Sent) → ((x : Sent) → (h x).mid ≡ x.mid) → AreRising xs → AreRising (map h xs)
rising_map h [] same rising = record {}
rising_map h (x ∷ xs) same rising = (
  all_map (IsAbove x) (IsAbove (h x)) h xs (λ y above. subst (λ (m : Mid). m.0 < (h y).mid.0) (sym (same x)) (subst (λ (m : Mid). x.mid.0 < m.0) (sym (same y)) above)) rising.0,
  rising_map h xs same rising.1,
)

-- what holds of all requests and does not hang on what a CREATE came to holds of those left
pub all_left : (P : Sent → Type 0) (x : Sent) (reply : Rep) (xs : List Sent) → ((y : Sent) → P y → P (behind_it x reply y)) → AllByRecursion P xs → AllByRecursion P (left_by x reply xs)
all_left P x reply xs f all = subst (AllByRecursion P) (sym (left_is x reply xs))
    (all_map P P (behind_it x reply) (sent_but x.mid xs) f (all_filter P (λ (y : Sent). not (y.mid.0 == x.mid.0)) xs all))

pub sent_left : (next : ℕ) (x : Sent) (reply : Rep) (xs : List Sent) → AllByRecursion (IsSent next) xs → AllByRecursion (IsSent next) (left_by x reply xs)
sent_left next x reply xs all = all_left (IsSent next) x reply xs
    (λ y sent. (subst (λ (m : Mid). m.0 < next) (sym (it_mid x reply y)) sent.0, subst (λ (m : Mid). m.0 < next) (sym (it_frame x reply y)) sent.1)) all

pub rising_left : (x : Sent) (reply : Rep) (xs : List Sent) → AreRising xs → AreRising (left_by x reply xs)
rising_left x reply xs rising = subst AreRising (sym (left_is x reply xs)) (rising_map (behind_it x reply) (sent_but x.mid xs) (it_mid x reply) (rising_but x.mid xs rising))

-- a request that is owned stays so, where its id and frame stay
pub owned_same : (items : List Item) (owners : List Owner) (x y : Sent) → y.mid ≡ x.mid → y.frame ≡ x.frame → y.message ≡ x.message → IsOwned items owners x → IsOwned items owners y
owned_same items owners x y mid frame message own =
    subst (λ (m : Mid). IsOwnedBy (owner_of m owners) items y) (sym mid) (by (owner_of x.mid owners) own)
  where
    by : (o : Option Owner) → IsOwnedBy o items x → IsOwnedBy o items y
    by None own = record {
      aside = ap wire_request message ∙ own.aside;
      elsewhere = subst (λ (m : Mid). AllByRecursion (IsNotFrom m) items) (sym frame) own.elsewhere;
    }
    by (Some o) own = some_more (IsFrom o x) (IsFrom o y) (item_with o.number items)
        (λ i from. record { frame = from.frame ∙ ap (λ (m : Mid). Some m) (sym frame); known = from.known }) own

pub owned_on : (n : ℕ) (f : Item → Item) → GoesOn f → (items : List Item) (owners : List Owner) (x : Sent) → IsOwned items owners x → IsOwned (on_item n f items) owners x
owned_on n f goes items owners x own = by (owner_of x.mid owners) own
  where
    from : (o : Owner) (i : Item) → IsFrom o x i → IsFrom o x (f i)
    from o i is = record { frame = goes.frame i ∙ is.frame; known = goes.known i ∙ is.known }

    at : (o : Owner) → IsSomeAnd (item_with o.number items) (IsFrom o x) → IsSomeAnd (item_with o.number (on_item n f items)) (IsFrom o x)
    at o own = elim (eqb_tells o.number n) [
      | inl told ↦ subst (λ (k : ℕ). IsSomeAnd (item_with o.number (on_item k f items)) (IsFrom o x)) told.1
          (subst (λ (p : Option Item). IsSomeAnd p (IsFrom o x)) (sym (item_on_it o.number f items goes.number))
          (some_map (IsFrom o x) (IsFrom o x) f (item_with o.number items) (from o) own))
      | inr told ↦ subst (λ (p : Option Item). IsSomeAnd p (IsFrom o x)) (sym (item_on o.number n f items goes.number told.0)) own
    ]

    by : (o : Option Owner) → IsOwnedBy o items x → IsOwnedBy o (on_item n f items) x
    by None own = record { aside = own.aside; elsewhere = all_on (IsNotFrom x.frame) n f items (λ i not_from is. not_from (sym (goes.frame i) ∙ is)) own.elsewhere }
    by (Some o) own = at o own

pub owned_left : (items : List Item) (owners : List Owner) (x : Sent) (reply : Rep) (xs : List Sent) → AllByRecursion (IsOwned items owners) xs → AllByRecursion (IsOwned items owners) (left_by x reply xs)
owned_left items owners x reply xs all =
    all_left (IsOwned items owners) x reply xs (λ y own. owned_same items owners y (behind_it x reply y) (it_mid x reply y) (it_frame x reply y) (it_message x reply y) own) all

-- an early reply to another request
fits_same : (x y : Sent) (reply : Rep) → y.message ≡ x.message → fits x reply ≡ true → fits y reply ≡ true
fits_same x y reply same fit = subst (λ (m : List ℕ). fits (record x { message = m }) reply ≡ true) (sym same) fit

early_left : (x : Sent) (reply : Rep) (xs : List Sent) (entry : Mid × Rep) → (entry.0.0 == x.mid.0) ≡ false → IsEarly xs entry → IsEarly (left_by x reply xs) entry
early_left x reply xs entry other early =
    subst (λ (l : List Sent). IsEarly l entry) (sym (left_is x reply xs))
    (subst (λ (o : Option Sent). IsSomeAnd o (λ y. fits y entry.1 ≡ true))
    (sym (found_map entry.0 (behind_it x reply) (sent_but x.mid xs) (it_mid x reply) ∙ ap (option_map (behind_it x reply)) (found_but entry.0 x.mid xs other)))
    (some_map (λ y. fits y entry.1 ≡ true) (λ y. fits y entry.1 ≡ true) (behind_it x reply) (sent_with entry.0 xs)
    (λ y fit. fits_same y (behind_it x reply y) entry.1 (it_message x reply y) fit) early))

not_true : (b : Bool) → not b ≡ true → b ≡ false
not_true true is = absurd (false≢true is)
not_true false is = refl

all_early_left : (x : Sent) (reply : Rep) (xs : List Sent) (early : List (Mid × Rep)) → AllByRecursion (IsEarly xs) early → AllByRecursion (IsEarly (left_by x reply xs)) (early_but x.mid early)
all_early_left x reply xs early all =
    all_more (λ (e : Mid × Rep). IsEarly xs e × (not (e.0.0 == x.mid.0) ≡ true)) (IsEarly (left_by x reply xs)) (early_but x.mid early)
    (λ e h. early_left x reply xs e (not_true (e.0.0 == x.mid.0) h.1) h.0)
    (all_passed (IsEarly xs) (λ (e : Mid × Rep). not (e.0.0 == x.mid.0)) early all)

-- no other request in flight has its id
abbrev IsOnly : Sent → Mid → Sent → Type 0
IsOnly x frame y = (y.mid.0 == x.mid.0) ≡ true → (y.frame.0 == frame.0) ≡ false

only_one : (x : Sent) (frame : Mid) (xs : List Sent) → sent_with x.mid xs ≡ Some x → AreRising xs → (x.frame.0 == frame.0) ≡ false → AllByRecursion (IsOnly x frame) xs
only_one x frame [] there rising other = tt
only_one x frame (y ∷ ys) there rising other = elim (eqb_tells y.mid.0 x.mid.0) [
  | inl told ↦
      let is : y ≡ x = some_is y x (subst (λ (b : Bool). (if b then Some y else sent_with x.mid ys) ≡ Some x) told.0 there) in (
        λ same. subst (λ (z : Sent). (z.frame.0 == frame.0) ≡ false) (sym is) other,
        all_more (IsAbove y) (IsOnly x frame) ys (λ z above same. absurd (away y.mid.0 z.mid.0 x.mid.0 above told.1 same)) rising.0,
      )
  | inr told ↦ (
    λ same. absurd (false≢true (sym told.0 ∙ same)),
    only_one x frame ys (subst (λ (b : Bool). (if b then Some y else sent_with x.mid ys) ≡ Some x) told.0 there) rising.1 other,
  )
]
  where
    away : (a b c : ℕ) → a < b → a ≡ c → (b == c) ≡ true → ⊥
    away a b c less is same = elim (eqb_tells b c) [ inl told ↦ omega (arith, less, is, told.1) | inr told ↦ false≢true (sym told.0 ∙ same) ]

-- the calls but the request's own: nothing changes for them
pub others_fly : (x : Sent) (reply : Rep) (xs : List Sent) (placed : List Placed) (j : Item) → sent_with x.mid xs ≡ Some x → AreRising xs → IsNotFrom x.frame j
    → FliesFrom j.frame j placed xs → FliesFrom j.frame j placed (left_by x reply xs)
others_fly x reply xs placed j there rising other f = by j.frame refl f
  where
    differs : (frame : Mid) → j.frame ≡ Some frame → (x.frame.0 == frame.0) ≡ false
    differs frame is = elim (eqb_tells x.frame.0 frame.0) [
      | inl told ↦ absurd (other (is ∙ ap (λ (m : ℕ). Some (record { 0 = m })) (sym told.1)))
      | inr told ↦ told.0
    ]

    kept : (frame : Mid) → (x.frame.0 == frame.0) ≡ false → (y : Sent) → (y.frame.0 == frame.0) ≡ true → behind_it x reply y ≡ y
    kept frame far y at = it_elsewhere x reply y (apart y.frame.0 frame.0 x.frame.0 at far)
      where
        apart : (a b c : ℕ) → (a == b) ≡ true → (c == b) ≡ false → (a == c) ≡ false
        apart a b c is far = elim (eqb_tells a b) [ inl told ↦ ap (λ (n : ℕ). n == c) told.1 ∙ turned c b far | inr told ↦ absurd (false≢true (sym told.0 ∙ is)) ]

    by : (o : Option Mid) → j.frame ≡ o → FliesFrom o j placed xs → FliesFrom o j placed (left_by x reply xs)
    by None is f = record {}
    by (Some frame) is f =
        let far : (x.frame.0 == frame.0) ≡ false = differs frame is in
        subst (FliesAs (files_of j placed) j.known frame (λ y. y) j.rest j.fids) (sym (left_is x reply xs))
        (flies_kept (files_of j placed) j.known frame (λ y. y) (behind_it x reply) j.rest j.fids (sent_but x.mid xs) (it_frame x reply) (kept frame far)
        (flies_but (files_of j placed) j.known frame (λ y. y) x.mid j.rest j.fids xs (only_one x frame xs there rising far) f))

-- its own call goes on, unless the request was refused with the CREATE before it
pub owner_flies : (x : Sent) (reply : Rep) (xs : List Sent) (placed : List Placed) (known : Known) (i : Item) → sent_with x.mid xs ≡ Some x → is_first_of_frame xs x ≡ true → AreRising xs → fits x reply ≡ true
    → i.frame ≡ Some x.frame → i.known ≡ known → FliesFrom i.frame i placed xs
    → FliesFrom (moved (is_refused x) known reply i).frame (moved (is_refused x) known reply i) placed (left_by x reply xs)
owner_flies x reply xs placed known i there first rising fit here is f =
    by (is_refused x) (subst (λ (k : Known). Lands (files_of i placed) k x i.rest i.fids xs) is
    (lands (files_of i placed) i.known x i.rest i.fids xs there first rising (subst (λ (o : Option Mid). FliesFrom o i placed xs) here f)))
  where
    after : (p : Program) → AsksNext (files_of i placed) x i.fids p (λ rest r. FliesAs (files_of i placed) known x.frame (λ y. y) rest (fids_after r i.fids) (left_by x r xs))
        → FliesAs (files_of i placed) known x.frame (λ y. y) (replied known p (shown reply)) (fids_after reply i.fids) (left_by x reply xs)
    after (Ask wish rest) asks = asks.1 reply fit
    after (Look rest) asks = absurd asks
    after (Say answer) asks = absurd asks

    on : AsksNext (files_of i placed) x i.fids (settled known i.rest) (λ rest r. FliesAs (files_of i placed) known x.frame (λ y. y) rest (fids_after r i.fids) (left_by x r xs))
        → FliesFrom i.frame (gone_on known reply i) placed (left_by x reply xs)
    on asks = subst (λ (o : Option Mid). FliesFrom o (gone_on known reply i) placed (left_by x reply xs)) (sym here)
        (subst (λ (k : Known). FliesAs (files_of i placed) k x.frame (λ y. y) (replied known i.rest (shown reply)) (fids_after reply i.fids) (left_by x reply xs)) (sym is)
        (subst (λ (p : Program). FliesAs (files_of i placed) known x.frame (λ y. y) p (fids_after reply i.fids) (left_by x reply xs)) (sym (replied_settled known i.rest (shown reply)))
        (after (settled known i.rest) asks)))

    by : (t : Bool)
        → MatchBool t ((r : Rep) → FliesAs (files_of i placed) known x.frame (λ y. y) i.rest i.fids (left_by x r xs))
        (AsksNext (files_of i placed) x i.fids (settled known i.rest) (λ rest r. FliesAs (files_of i placed) known x.frame (λ y. y) rest (fids_after r i.fids) (left_by x r xs)))
        → FliesFrom (moved t known reply i).frame (moved t known reply i) placed (left_by x reply xs)
    by true f = subst (λ (o : Option Mid). FliesFrom o i placed (left_by x reply xs)) (sym here)
        (subst (λ (k : Known). FliesAs (files_of i placed) k x.frame (λ y. y) i.rest i.fids (left_by x reply xs)) (sym is) (f reply))
    by false asks = on asks

-- all calls
all_fly : (x : Sent) (reply : Rep) (xs : List Sent) (placed : List Placed) (n : ℕ) (f : Item → Item) (items : List Item)
    → ((i : Item) → i.frame ≡ Some x.frame → item_with n items ≡ Some i → FliesFrom i.frame i placed xs → FliesFrom (f i).frame (f i) placed (left_by x reply xs))
    → ((j : Item) → IsNotFrom x.frame j → FliesFrom j.frame j placed xs → FliesFrom j.frame j placed (left_by x reply xs))
    → IsSomeAnd (item_with n items) (λ i. i.frame ≡ Some x.frame) → AreApart items → AllByRecursion (λ (i : Item). FliesFrom i.frame i placed xs) items
    → AllByRecursion (λ (i : Item). FliesFrom i.frame i placed (left_by x reply xs)) (on_item n f items)
all_fly x reply xs placed n f [] mine other from apart all = tt
all_fly x reply xs placed n f (i ∷ is) mine other from apart all = elim (eqb_tells i.number n) [
  | inl told ↦
      let here : i.frame ≡ Some x.frame = subst (λ (b : Bool). IsSomeAnd (if b then Some i else item_with n is) (λ j. j.frame ≡ Some x.frame)) told.0 from in
      subst (λ (b : Bool). AllByRecursion (λ (j : Item). FliesFrom j.frame j placed (left_by x reply xs)) (if b then f i ∷ is else i ∷ on_item n f is)) (sym told.0) (
        mine i here (ap (λ (b : Bool). if b then Some i else item_with n is) told.0) all.0,
        all_more (λ (j : Item). IsApart i j × FliesFrom j.frame j placed xs) (λ (j : Item). FliesFrom j.frame j placed (left_by x reply xs)) is
            (λ j h. other j (λ there. h.0.1 x.frame here there) h.1) (both is apart.0 all.1),
      )
  | inr told ↦
      let from' : IsSomeAnd (item_with n is) (λ j. j.frame ≡ Some x.frame) = subst (λ (b : Bool). IsSomeAnd (if b then Some i else item_with n is) (λ j. j.frame ≡ Some x.frame)) told.0 from in
      let past : (j : Item) → item_with n is ≡ Some j → item_with n (i ∷ is) ≡ Some j = λ j there. ap (λ (b : Bool). if b then Some i else item_with n is) told.0 ∙ there in
      subst (λ (b : Bool). AllByRecursion (λ (j : Item). FliesFrom j.frame j placed (left_by x reply xs)) (if b then f i ∷ is else i ∷ on_item n f is)) (sym told.0) (
        other i (not_here is from' apart.0) all.0,
        all_fly x reply xs placed n f is (λ j here there. mine j here (past j there)) other from' apart.1 all.1,
      )
]
  where
    both : (js : List Item) → AllByRecursion (IsApart i) js → AllByRecursion (λ (j : Item). FliesFrom j.frame j placed xs) js → AllByRecursion (λ (j : Item). IsApart i j × FliesFrom j.frame j placed xs) js
    both [] apart all = tt
    both (j ∷ js) apart all = ((apart.0, all.0), both js apart.1 all.1)

    not_here : (js : List Item) → IsSomeAnd (item_with n js) (λ j. j.frame ≡ Some x.frame) → AllByRecursion (IsApart i) js → IsNotFrom x.frame i
    not_here [] from apart here = absurd from
    not_here (j ∷ js) from apart here = by (j.number == n) from (λ from'. not_here js from' apart.1 here)
      where
        by : (t : Bool) → IsSomeAnd (if t then Some j else item_with n js) (λ k. k.frame ≡ Some x.frame) → (IsSomeAnd (item_with n js) (λ k. k.frame ≡ Some x.frame) → ⊥) → ⊥
        by true from deeper = apart.0.1 x.frame here from
        by false from deeper = deeper from

-- a request that is no call's
nobodys_fly : (x : Sent) (reply : Rep) (v : View) → sent_with x.mid v.flights ≡ Some x → Sane v → AllByRecursion (IsNotFrom x.frame) v.items
    → AllByRecursion (λ (i : Item). FliesFrom i.frame i v.placed (left_by x reply v.flights)) v.items
nobodys_fly x reply v there sane not_from =
    all_more (λ (i : Item). IsNotFrom x.frame i × FliesIn v i) (λ (i : Item). FliesFrom i.frame i v.placed (left_by x reply v.flights)) v.items
    (λ i h. others_fly x reply v.flights v.placed i there sane.rising h.0 h.1) (both v.items not_from sane.flies)
  where
    both : (is : List Item) → AllByRecursion (IsNotFrom x.frame) is → AllByRecursion (FliesIn v) is → AllByRecursion (λ (i : Item). IsNotFrom x.frame i × FliesIn v i) is
    both [] n f = tt
    both (i ∷ is) n f = ((n.0, f.0), both is n.1 f.1)

-- what is left of the client with the reply to the first request of a frame
pub went_sane : (v : View) (x : Sent) (reply : Rep) → Sane v → sent_with x.mid v.flights ≡ Some x → is_first_of_frame v.flights x ≡ true → fits x reply ≡ true → Sane (went x reply v)
went_sane v x reply sane there first fit = by (owner_of x.mid v.told.owners) (found (IsOwned v.items v.told.owners) x.mid v.flights x there sane.owned).0
  where
    nobodys : AllByRecursion (IsNotFrom x.frame) v.items → Sane (record v { items = v.items; flights = left_by x reply v.flights; early = early_but x.mid v.early })
    nobodys not_from = record {
      flies = nobodys_fly x reply v there sane not_from;
      owned = owned_left v.items v.told.owners x reply v.flights sane.owned;
      apart = sane.apart;
      used = sane.used;
      begun = sane.begun;
      sent = sent_left v.next x reply v.flights sane.sent;
      rising = rising_left x reply v.flights sane.rising;
      early = all_early_left x reply v.flights v.early sane.early;
      no_place = sane.no_place;
      no_lease = sane.no_lease;
    }

    owners : (o : Owner) → IsSomeAnd (item_with o.number v.items) (IsFrom o x)
        → Sane (record v { items = on_item o.number (moved (is_refused x) o.known reply) v.items; flights = left_by x reply v.flights; early = early_but x.mid v.early })
    owners o from =
        let goes = moved_goes (is_refused x) o.known reply in
        record {
          flies = all_fly x reply v.flights v.placed o.number (moved (is_refused x) o.known reply) v.items
              (λ i here at f. owner_flies x reply v.flights v.placed o.known i there first sane.rising fit here
              (subst (λ (p : Option Item). IsSomeAnd p (IsFrom o x)) at from).known f)
              (λ j other f. others_fly x reply v.flights v.placed j there sane.rising other f)
              (some_more (IsFrom o x) (λ (i : Item). i.frame ≡ Some x.frame) (item_with o.number v.items) (λ i is. is.frame) from)
              sane.apart sane.flies;
          owned = all_more (IsOwned v.items v.told.owners) (IsOwned (on_item o.number (moved (is_refused x) o.known reply) v.items) v.told.owners) (left_by x reply v.flights)
              (λ y own. owned_on o.number (moved (is_refused x) o.known reply) goes v.items v.told.owners y own) (owned_left v.items v.told.owners x reply v.flights sane.owned);
          apart = apart_on (moved (is_refused x) o.known reply) goes o.number v.items sane.apart;
          used = all_on (λ (i : Item). IsUsed v.next i.frame) o.number (moved (is_refused x) o.known reply) v.items (λ i used. subst (IsUsed v.next) (sym (goes.frame i)) used) sane.used;
          begun = all_on (IsBegun v.told) o.number (moved (is_refused x) o.known reply) v.items (λ i begun. subst (λ (m : ℕ). IsBegun v.told (record i { number = m })) (sym (goes.number i)) begun) sane.begun;
          sent = sent_left v.next x reply v.flights sane.sent;
          rising = rising_left x reply v.flights sane.rising;
          early = all_early_left x reply v.flights v.early sane.early;
          no_place = sane.no_place;
          no_lease = sane.no_lease;
        }

    by : (o : Option Owner) → IsOwnedBy o v.items x → Sane (record v { items = advanced o (is_refused x) reply v.items; flights = left_by x reply v.flights; early = early_but x.mid v.early })
    by None own = nobodys own.elsewhere
    by (Some o) own =
        subst (λ (is : List Item). Sane (record v { items = is; flights = left_by x reply v.flights; early = early_but x.mid v.early })) (sym (advanced_is o (is_refused x) reply v.items))
        (owners o own)

-- an early reply that has come to its turn is one to the first request of its frame
pub record InTurn (flights : List Sent) (x : Sent) (reply : Rep) : Type 0 where
  pub there : sent_with x.mid flights ≡ Some x
  pub first : is_first_of_frame flights x ≡ true
  pub fit : fits x reply ≡ true

-- found under its own id
pub found_at : (m : Mid) (xs : List Sent) (x : Sent) → sent_with m xs ≡ Some x → sent_with x.mid xs ≡ Some x
found_at m [] x there = absurd (none_some x there)
found_at m (y ∷ ys) x there = elim (eqb_tells y.mid.0 m.0) [
  | inl told ↦
      let is : y ≡ x = some_is y x (subst (λ (b : Bool). (if b then Some y else sent_with m ys) ≡ Some x) told.0 there) in
      subst (λ (z : Sent). sent_with z.mid (y ∷ ys) ≡ Some z) is (ap (λ (b : Bool). if b then Some y else sent_with y.mid ys) (itself y.mid.0))
  | inr told ↦
      let there' : sent_with m ys ≡ Some x = subst (λ (b : Bool). (if b then Some y else sent_with m ys) ≡ Some x) told.0 there in
      let id : x.mid.0 ≡ m.0 = (found (λ (z : Sent). Unit {0}) m ys x there' (all_unit ys)).1 in
      ap (λ (b : Bool). if b then Some y else sent_with x.mid ys) (ap (λ (k : ℕ). y.mid.0 == k) id ∙ told.0) ∙ found_at m ys x there'
]
  where
    all_unit : (zs : List Sent) → AllByRecursion (λ (z : Sent). Unit {0}) zs
    all_unit [] = tt
    all_unit (z ∷ zs) = (record {}, all_unit zs)

abbrev IfTurn : List Sent → Option (Sent × Rep) → Type 0
IfTurn flights None = Unit {0}
IfTurn flights (Some next) = InTurn flights next.0 next.1

in_turn_is : (flights : List Sent) (early : List (Mid × Rep)) → AllByRecursion (IsEarly flights) early → IfTurn flights (in_turn flights early)
in_turn_is flights [] all = record {}
in_turn_is flights (entry ∷ early) all = by (sent_with entry.0 flights) refl all.0 (in_turn_is flights early all.1)
  where
    first : (x : Sent) → sent_with entry.0 flights ≡ Some x → fits x entry.1 ≡ true → IfTurn flights (in_turn flights early) → (t : Bool) → is_first_of_frame flights x ≡ t
        → IfTurn flights (if t then Some (x, entry.1) else in_turn flights early)
    first x there fit deeper true is = record { there = found_at entry.0 flights x there; first = is; fit = fit }
    first x there fit deeper false is = deeper

    by : (o : Option Sent) → sent_with entry.0 flights ≡ o → IsSomeAnd o (λ x. fits x entry.1 ≡ true) → IfTurn flights (in_turn flights early) → IfTurn flights (if_first o flights entry.1 (in_turn flights early))
    by None there holds deeper = absurd holds
    by (Some x) there holds deeper = first x there holds deeper (is_first_of_frame flights x) refl

pub drained_sane : (n : ℕ) (v : View) → Sane v → Sane (drained n v)
drained_sane zero v sane = sane
drained_sane (suc n) v sane = by (in_turn v.flights v.early) (in_turn_is v.flights v.early sane.early) (drained_sane n)
  where
    by : (o : Option (Sent × Rep)) → IfTurn v.flights o → ((u : View) → Sane u → Sane (drained n u)) → Sane (drained_with o (drained n) v)
    by None turn others = sane
    by (Some next) turn others = others (went next.0 next.1 v) (went_sane v next.0 next.1 sane turn.there turn.first turn.fit)

-- a reply is looked at in its turn, or is early
pub landed_sane : (v : View) (x : Sent) (reply : Rep) → Sane v → sent_with x.mid v.flights ≡ Some x → fits x reply ≡ true → Sane (landed_by (Some x) reply v)
landed_sane v x reply sane there fit = by (is_first_of_frame v.flights x) refl
  where
    by : (t : Bool) → is_first_of_frame v.flights x ≡ t
        → Sane (if t then drained (length v.early) (went x reply v) else record v { early = v.early ++ (x.mid, reply) ∷ [] })
    by true is = drained_sane (length v.early) (went x reply v) (went_sane v x reply sane there is fit)
    by false is = record {
      flies = sane.flies;
      owned = sane.owned;
      apart = sane.apart;
      used = sane.used;
      begun = sane.begun;
      sent = sane.sent;
      rising = sane.rising;
      early = all_append (IsEarly v.flights) v.early ((x.mid, reply) ∷ []) sane.early
          (subst (λ (o : Option Sent). IsSomeAnd o (λ y. fits y reply ≡ true)) (sym there) fit, tt);
      no_place = sane.no_place;
      no_lease = sane.no_lease;
    }

-- an awaited request is in flight, and none of its replies is early
pub record IsAwaited (m : Mid) (v : View) (x : Sent) : Type 0 where
  pub there : sent_with x.mid v.flights ≡ Some x
  pub mid : x.mid.0 ≡ m.0
  pub fresh : is_early m v.early ≡ false

pub awaited_is : (m : Mid) (v : View) (x : Sent) → awaited_with m v ≡ Some x → IsAwaited m v x
awaited_is m v x is = by (is_early m v.early) refl is
  where
    by : (t : Bool) → is_early m v.early ≡ t → (if t then None else sent_with m v.flights) ≡ Some x → IsAwaited m v x
    by true early is = absurd (none_some x is)
    by false early is = record {
      there = found_at m v.flights x is;
      mid = (found (λ (z : Sent). Unit {0}) m v.flights x is (all_unit v.flights)).1;
      fresh = early;
    }
      where
        all_unit : (zs : List Sent) → AllByRecursion (λ (z : Sent). Unit {0}) zs
        all_unit [] = tt
        all_unit (z ∷ zs) = (record {}, all_unit zs)

-- a request of the connection itself is answered
early_free : (xs : List Sent) (m : Mid) (early : List (Mid × Rep)) → is_early m early ≡ false → AllByRecursion (IsEarly xs) early → AllByRecursion (IsEarly (sent_but m xs)) early
early_free xs m [] fresh all = tt
early_free xs m (e ∷ early) fresh all = (
  subst (λ (o : Option Sent). IsSomeAnd o (λ x. fits x e.1 ≡ true)) (sym (found_but e.0 m xs (left (e.0.0 == m.0) (is_early m early) fresh))) all.0,
  early_free xs m early (right (e.0.0 == m.0) (is_early m early) fresh) all.1,
)
  where
    left : (a b : Bool) → (a || b) ≡ false → a ≡ false
    left true b is = absurd (false≢true (sym is))
    left false b is = refl

    right : (a b : Bool) → (a || b) ≡ false → b ≡ false
    right true b is = absurd (false≢true (sym is))
    right false b is = is

without_sane : (v : View) (m : Mid) (x : Sent) → Sane v → IsAwaited m v x → wire_request x.message ≡ Some WireRequest.Aside → owner_of x.mid v.told.owners ≡ None → Sane (without x.mid v)
without_sane v m x sane at aside nobody = record {
  flies = subst (λ (l : List Sent). AllByRecursion (λ (i : Item). FliesFrom i.frame i v.placed l) v.items)
      (ap (λ (b : Bool). if b then map (behind_create x.frame (came_to (of_status 0) body.None)) (sent_but x.mid v.flights) else sent_but x.mid v.flights) (ap creates_as aside))
      (nobodys_fly x (of_status 0) v at.there sane not_from);
  owned = all_filter (IsOwned v.items v.told.owners) (λ (y : Sent). not (y.mid.0 == x.mid.0)) v.flights sane.owned;
  apart = sane.apart;
  used = sane.used;
  begun = sane.begun;
  sent = all_filter (IsSent v.next) (λ (y : Sent). not (y.mid.0 == x.mid.0)) v.flights sane.sent;
  rising = rising_but x.mid v.flights sane.rising;
  early = early_free v.flights x.mid v.early (subst (λ (k : ℕ). is_early (record { 0 = k }) v.early ≡ false) (sym at.mid) at.fresh) sane.early;
  no_place = sane.no_place;
  no_lease = sane.no_lease;
}
  where
    not_from : AllByRecursion (IsNotFrom x.frame) v.items
    not_from = (subst (λ (o : Option Owner). IsOwnedBy o v.items x) nobody (found (IsOwned v.items v.told.owners) x.mid v.flights x at.there sane.owned).0).elsewhere

-- a message is looked at
pub looked_sane : (v : View) (message : List ℕ) → Sane v → Sane (looked message v)
looked_sane v message sane = by (awaited_with (mid_of message) v) refl
  where
    reply : (x : Sent) → IsAwaited (mid_of message) v x → (o : Option Rep) → Sane (looked_reply o x v)
    reply x at None = sane
    reply x at (Some r) = at_fit (fits x r) refl
      where
        at_fit : (t : Bool) → fits x r ≡ t → Sane (if t then landed_by (Some x) r v else v)
        at_fit true fit = landed_sane v x r sane at.there fit
        at_fit false fit = sane

    is_nobodys : (o : Option Owner) (b : Bool) → (is_none o && b) ≡ true → o ≡ None
    is_nobodys None b is = refl
    is_nobodys (Some o) b is = absurd (false≢true is)

    asked : (x : Sent) → IsAwaited (mid_of message) v x → (w : Option WireRequest) → wire_request x.message ≡ w → Sane (looked_as w x message v)
    asked x at None is = sane
    asked x at (Some WireRequest.Aside) is = at_answer (answers_aside x message v.told.owners) refl
      where
        at_answer : (t : Bool) → answers_aside x message v.told.owners ≡ t → Sane (if t then without x.mid v else v)
        at_answer true so = without_sane v (mid_of message) x sane at is (is_nobodys (owner_of x.mid v.told.owners) (is_aside_reply x.mid x.message message) so)
        at_answer false so = sane
    asked x at (Some (WireRequest.Share related request)) is = reply x at (reply_in x.mid x.message message)

    by : (o : Option Sent) → awaited_with (mid_of message) v ≡ o → Sane (looked_for o message v)
    by None is = sane
    by (Some x) is = asked x (awaited_is (mid_of message) v x is) (wire_request x.message) refl

pub all_looked_sane : (parts : List (Result (List ℕ) BadNext)) (v : View) → Sane v → Sane (all_looked parts v)
all_looked_sane [] v sane = sane
all_looked_sane (Err bad ∷ parts) v sane = all_looked_sane parts v sane
all_looked_sane (Ok message ∷ parts) v sane = all_looked_sane parts (looked message v) (looked_sane v message sane)
