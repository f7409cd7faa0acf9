-- The connection is lost: the opens of the client end on both shares.
use Rattle.std.proofs.Common.{rules, ◌≡◌, ℕ, true, false, [], ◌∷◌, refl, ap, sym, subst, ◌∙◌, Some, List, Option, Bool, ◌==◌, ◌&&◌, ◌||◌, not, if◌then◌else◌}
use Rattle.std.specs.Prelude.{map, filter}
use Rattle.std.specs.List.{AllByRecursion, list_any}
use Rattle.share_state.specs.declared.opens.Open.{Open}
use Rattle.share_state.specs.declared.share.Share.{Share}
use Rattle.share_state.specs.Close.{closed, opens_but}
use Rattle.share_state.specs.Cut.{all_closed, ends_with, is_broken, disconnected, after_cut}
use Rattle.fs_plain.specs.World.{us}
use Rattle.fs_plain.specs.Paired.{Pair, plain_of_real}
use Rattle.fs_plain.specs.Divergence.{with_number, closed_if, all_ended_with, ended_between}
use Rattle.fs_plain.specs.Alike.{bare, IsStanding, IsAnother, AreApart, AreStanding, AreSame}
use Rattle.fs_plain.proofs.Every.{every-filter, every-more, every-both, all_kept}
use Rattle.fs_plain.proofs.Steps.{apart_filter}

-- a list keeps the same elements where two tests agree on each
same_filter : {X : Type 0} (p q : X → Bool) (xs : List X) → AllByRecursion (λ x. p x ≡ q x) xs → filter p xs ≡ filter q xs
same_filter p q [] all = refl
same_filter p q (x ∷ xs) all =
    ap (λ (t : Bool). if t then x ∷ filter p xs else filter p xs) all.0
    ∙ ap (λ (l : List _). if q x then x ∷ l else l) (same_filter p q xs all.1)

same_map : {X : Type 0} (f : X → X) (xs : List X) → AllByRecursion (λ x. f x ≡ x) xs → map f xs ≡ xs
same_map f [] all = refl
same_map f (x ∷ xs) all = ap (λ (y : _). y ∷ map f xs) all.0 ∙ ap (λ (l : List _). x ∷ l) (same_map f xs all.1)

-- some open of a list has this number
abbrev pub has_number : ℕ → List Open → Bool
has_number n os = list_any (λ (q : Open). q.number == n) os

itself : (n : ℕ) → (n == n) ≡ true
itself n = search rules

turned : (a b : ℕ) → (a == b) ≡ false → (b == a) ≡ false
turned a b apart = search rules

none_with : (o : Open) (os : List Open) → AllByRecursion (IsAnother o) os → has_number o.number os ≡ false
none_with o [] all = refl
none_with o (q ∷ qs) all = ap (λ (t : Bool). t || has_number o.number qs) all.0 ∙ none_with o qs all.1

-- of opens with different numbers, one is among those that pass a test where it passes it itself
among : (p : Open → Bool) (os : List Open) → AreApart os → AllByRecursion (λ o. has_number o.number (filter p os) ≡ p o) os
among p [] apart = tt
among p (o ∷ os) apart = (here (p o), others os (among p os apart.1) apart.0)
  where
    here : (t : Bool) → has_number o.number (if t then o ∷ filter p os else filter p os) ≡ t
    here true = ap (λ (t : Bool). t || has_number o.number (filter p os)) (itself o.number)
    here false = none_with o (filter p os) (every-filter (IsAnother o) p os apart.0)

    there : (t : Bool) (q : Open) → IsAnother o q → has_number q.number (filter p os) ≡ p q → has_number q.number (if t then o ∷ filter p os else filter p os) ≡ p q
    there true q other is = ap (λ (t : Bool). t || has_number q.number (filter p os)) (turned q.number o.number other) ∙ is
    there false q other is = is

    others : (qs : List Open) → AllByRecursion (λ q. has_number q.number (filter p os) ≡ p q) qs → AllByRecursion (IsAnother o) qs
        → AllByRecursion (λ q. has_number q.number (filter p (o ∷ os)) ≡ p q) qs
    others [] all other = tt
    others (q ∷ qs) all other = (there (p o) q other.0 all.0, others qs all.1 other.1)

-- the opens that are left once these ended
left_opens : (es : List Open) (s : Share) → (all_closed es s).opens ≡ filter (λ q. not (has_number q.number es)) s.opens
left_opens [] s = sym (kept s.opens)
  where
    kept : (os : List Open) → filter (λ q. not (has_number q.number [])) os ≡ os
    kept [] = refl
    kept (o ∷ os) = ap (λ (l : List Open). o ∷ l) (kept os)
left_opens (e ∷ es) s = left_opens es (closed e s) ∙ both s.opens
  where
    step : (t u : Bool) (q : Open) (l : List Open) → (if not t then (if not u then q ∷ l else l) else l) ≡ (if not (t || u) then q ∷ l else l)
    step true u q l = refl
    step false u q l = refl

    kept : (t : Bool) (q : Open) (os : List Open)
        → filter (λ q. not (has_number q.number es)) (if not t then q ∷ opens_but e.number os else opens_but e.number os)
        ≡ (if not t then (if not (has_number q.number es) then q ∷ filter (λ q. not (has_number q.number es)) (opens_but e.number os)
        else filter (λ q. not (has_number q.number es)) (opens_but e.number os)) else filter (λ q. not (has_number q.number es)) (opens_but e.number os))
    kept true q os = refl
    kept false q os = refl

    as_one : (q : Open) (l : List Open) → (if not (q.number == e.number) then (if not (has_number q.number es) then q ∷ l else l) else l)
        ≡ (if not (has_number q.number (e ∷ es)) then q ∷ l else l)
    as_one q l = step (q.number == e.number) (has_number q.number es) q l
        ∙ ap (λ (t : Bool). if not (t || has_number q.number es) then q ∷ l else l) (swapped q.number e.number)
      where
        swapped : (a b : ℕ) → (a == b) ≡ (b == a)
        swapped a b = search rules

    both : (os : List Open) → filter (λ q. not (has_number q.number es)) (opens_but e.number os) ≡ filter (λ q. not (has_number q.number (e ∷ es))) os
    both [] = refl
    both (q ∷ qs) = kept (q.number == e.number) q qs
        ∙ as_one q (filter (λ q. not (has_number q.number es)) (opens_but e.number qs))
        ∙ ap (λ (l : List Open). if not (has_number q.number (e ∷ es)) then q ∷ l else l) (both qs)

-- of opens with different numbers each is the one with its number
found : (os : List Open) → AreApart os → AllByRecursion (λ o. with_number o.number os ≡ Some o) os
found [] apart = tt
found (o ∷ os) apart = (
  ap (λ (t : Bool). if t then Some o else with_number o.number os) (itself o.number),
  others os (found os apart.1) apart.0,
)
  where
    others : (qs : List Open) → AllByRecursion (λ q. with_number q.number os ≡ Some q) qs → AllByRecursion (IsAnother o) qs
        → AllByRecursion (λ q. with_number q.number (o ∷ os) ≡ Some q) qs
    others [] all other = tt
    others (q ∷ qs) all other = (
      ap (λ (t : Bool). if t then Some o else with_number q.number os) (turned q.number o.number other.0) ∙ all.0,
      others qs all.1 other.1,
    )

-- and is still found where another one ended
found_but : (n m : ℕ) (os : List Open) → (n == m) ≡ false → with_number n (opens_but m os) ≡ with_number n os
found_but n m [] apart = refl
found_but n m (o ∷ os) apart = by (found_but n m os apart)
  where
    apart_too : (k n m : ℕ) → (n == m) ≡ false → (k == n) ≡ true → (k == m) ≡ false
    apart_too k n m apart is = search rules

    kept : (t : Bool) → (o.number == m) ≡ t → with_number n (opens_but m os) ≡ with_number n os
        → with_number n (if not t then o ∷ opens_but m os else opens_but m os) ≡ (if o.number == n then Some o else with_number n os)
    kept false is later = ap (λ (w : Option Open). if o.number == n then Some o else w) later
    kept true is later = later ∙ sym (ap (λ (t : Bool). if t then Some o else with_number n os) (differs o.number n m apart is))
      where
        differs : (k n m : ℕ) → (n == m) ≡ false → (k == m) ≡ true → (k == n) ≡ false
        differs k n m apart is = search rules

    by : with_number n (opens_but m os) ≡ with_number n os → with_number n (opens_but m (o ∷ os)) ≡ with_number n (o ∷ os)
    by later = kept (o.number == m) refl later

-- the same opens end on the plain share
abbrev pub IsFound : List Pair → List Open → Open → Type 0
IsFound pairs opens o = (plain_of_real pairs o.number ≡ o.number) × (with_number o.number opens ≡ Some o)

ended_bare : (pairs : List Pair) (es : List Open) (s : Share) → AllByRecursion (IsFound pairs s.opens) es → AreApart es
    → all_ended_with pairs es (bare s) ≡ bare (all_closed es s)
ended_bare pairs [] s all apart = refl
ended_bare pairs (e ∷ es) s all apart =
    ap (λ (o : Option Open). all_ended_with pairs es (closed_if o (bare s))) (ap (λ (n : ℕ). with_number n s.opens) all.0.0 ∙ all.0.1)
    ∙ ended_bare pairs es (closed e s) (still es all.1 apart.0) apart.1
  where
    still : (qs : List Open) → AllByRecursion (IsFound pairs s.opens) qs → AllByRecursion (IsAnother e) qs → AllByRecursion (IsFound pairs (closed e s).opens) qs
    still [] all other = tt
    still (q ∷ qs) all other = ((all.0.0, found_but q.number e.number s.opens other.0 ∙ all.0.1), still qs all.1 other.1)

made_still : (es : List Open) (s : Share) → (all_closed es s).opens_made ≡ s.opens_made
made_still [] s = refl
made_still (e ∷ es) s = made_still es (closed e s)

-- the opens that end, and those that stay
abbrev pub ends : Share → Open → Bool
ends s o = ends_with us s.leases o

abbrev pub stays : Share → Open → Bool
stays s o = not (ends s o)

stay_all : (s : Share) → AreApart s.opens → (all_closed (filter (ends s) s.opens) s).opens ≡ filter (stays s) s.opens
stay_all s apart =
    left_opens (filter (ends s) s.opens) s
    ∙ same_filter (λ q. not (has_number q.number (filter (ends s) s.opens))) (stays s) s.opens
    (every-more (λ o. has_number o.number (filter (ends s) s.opens) ≡ ends s o) (λ o. not (has_number o.number (filter (ends s) s.opens)) ≡ stays s o)
    (λ o is. ap not is) s.opens (among (ends s) s.opens apart))

-- no open of the client stays, so none is disconnected
is_other : (made : ℕ) (s : Share) (o : Open) → IsStanding made o → stays s o ≡ true → disconnected us o ≡ o
is_other made s o stands stay = by (o.who.0 == 0)
    (ap (λ (d : Bool). not (o.who.0 == 0 && (not d || is_broken s.leases o))) (sym stands.3) ∙ stay)
  where
    by : (t : Bool) → not (t && (true || is_broken s.leases o)) ≡ true → (if t then record o { connected = false } else o) ≡ o
    by false is = refl
    by true is = absurd (false_is is)
      where
        false_is : false ≡ true → ⊥
        false_is is = search rules

none_disconnected : (made : ℕ) (s : Share) → AllByRecursion (IsStanding made) s.opens → map (disconnected us) (filter (stays s) s.opens) ≡ filter (stays s) s.opens
none_disconnected made s all = same_map (disconnected us) (filter (stays s) s.opens)
    (every-more (λ o. IsStanding made o × (stays s o ≡ true)) (λ o. disconnected us o ≡ o) (λ o is. is_other made s o is.0 is.1) (filter (stays s) s.opens)
    (every-both (IsStanding made) (λ o. stays s o ≡ true) (filter (stays s) s.opens) (every-filter (IsStanding made) (stays s) s.opens all) (all_kept (stays s) s.opens)))

opens_after : (s : Share) → AllByRecursion (IsStanding s.opens_made) s.opens → AreApart s.opens → (after_cut s).opens ≡ filter (stays s) s.opens
opens_after s all apart = ap (map (disconnected us)) (stay_all s apart) ∙ none_disconnected s.opens_made s all

all_ends : (s : Share) → AllByRecursion (IsStanding s.opens_made) s.opens → AreApart s.opens → ended_between s.opens (after_cut s).opens ≡ filter (ends s) s.opens
all_ends s all apart =
    ap (ended_between s.opens) (opens_after s all apart)
    ∙ same_filter (λ o. not (has_number o.number (filter (stays s) s.opens))) (ends s) s.opens
    (every-more (λ o. has_number o.number (filter (stays s) s.opens) ≡ stays s o) (λ o. not (has_number o.number (filter (stays s) s.opens)) ≡ ends s o)
    (λ o is. ap not is ∙ twice (ends s o)) s.opens (among (stays s) s.opens apart))
  where
    twice : (t : Bool) → not (not t) ≡ t
    twice true = refl
    twice false = refl

-- the plain share and the real one are still alike
pub cut_tree : (s : Share) (pairs : List Pair) → AllByRecursion (IsStanding s.opens_made) s.opens → AreApart s.opens → AreSame pairs s.opens_made
    → all_ended_with pairs (ended_between s.opens (after_cut s).opens) (bare s) ≡ bare (after_cut s)
cut_tree s pairs all apart same =
    ap (λ (l : List Open). all_ended_with pairs l (bare s)) (all_ends s all apart)
    ∙ ended_bare pairs (filter (ends s) s.opens) s
    (every-filter (IsFound pairs s.opens) (ends s) s.opens
    (every-both (λ o. plain_of_real pairs o.number ≡ o.number) (λ o. with_number o.number s.opens ≡ Some o) s.opens
    (every-more (IsStanding s.opens_made) (λ o. plain_of_real pairs o.number ≡ o.number) (λ o is. same.known o.number is.0 is.1) s.opens all)
    (found s.opens apart)))
    (apart_filter (ends s) s.opens apart)
    ∙ ap (λ (l : List Open). record (bare (all_closed (filter (ends s) s.opens) s)) { opens = l })
    (stay_all s apart ∙ sym (none_disconnected s.opens_made s all) ∙ sym (ap (map (disconnected us)) (stay_all s apart)))

pub cut_made : (s : Share) → (after_cut s).opens_made ≡ s.opens_made
cut_made s = made_still (filter (ends s) s.opens) s

-- the opens that are left stand
pub cut_standing : (s : Share) → AreStanding s → AreStanding (after_cut s)
cut_standing s old = subst (λ (l : List Open). AllByRecursion (IsStanding (after_cut s).opens_made) l × AreApart l) (sym (opens_after s old.0 old.1)) (
  subst (λ (n : ℕ). AllByRecursion (IsStanding n) (filter (stays s) s.opens)) (sym (cut_made s)) (every-filter (IsStanding s.opens_made) (stays s) s.opens old.0),
  apart_filter (stays s) s.opens old.1,
)
