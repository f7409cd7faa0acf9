-- Lists in which what comes twice in a row is told once.
use Rattle.std.proofs.Common.{◌≡◌, ◌∙◌, inl, inr, ℕ, ◌-◌, Bool, true, false, List, [], ◌∷◌, ◌++◌, length, Some, Result, Ok, Err, refl, ap, rules}
use Rattle.std.specs.Prelude.{nat_eq, bytes_eq, slice_get, if◌then◌else◌}
use native.Mathlib.Numerals.{unary_clauses}
use Rattle.smb_link.specs.declared.faults.LinkFail.{LinkFail}
use Rattle.smb_link.specs.declared.faults.LinkFail.TheVariants as fail
use Rattle.smb_link.specs.declared.places.Place.{Place}
use Rattle.smb_link.specs.Once.{is_last, told_once, all_told_once, same_place, went, WentAfterConnect, WentOnlyTo}

last_at : {A : Type 0} (same : A → A → Bool) (x y z : A) (zs : List A) → slice_get (z ∷ zs) (length zs) ≡ Some y → is_last same x (z ∷ zs) ≡ same y x
last_at same x y z [] got = ap (λ z'. same z' x) (cc (got))
last_at same x y z (w ∷ ws) got = last_at same x y w ws got

-- the last of a list, got by its number
pub is_last_got : {A : Type 0} (same : A → A → Bool) (x y : A) (xs : List A) → slice_get xs (length xs - 1) ≡ Some y → is_last same x xs ≡ same y x
is_last_got same x y [] got = absurd (cc (got))
is_last_got same x y (z ∷ zs) got = last_at same x y z zs (simp unary_clauses at got)

is_last-append : {A : Type 0} (same : A → A → Bool) (x y : A) (xs : List A) → is_last same x (xs ++ y ∷ []) ≡ same y x
is_last-append same x y [] = refl
is_last-append same x y (z ∷ []) = refl
is_last-append same x y (z ∷ w ∷ ws) = is_last-append same x y (w ∷ ws)

one_more : {A : Type 0} (same : A → A → Bool) → ((x : A) → same x x ≡ true) → (x : A) (told : List A) (b : Bool) → is_last same x told ≡ b
    → is_last same x (if b then told else told ++ x ∷ []) ≡ true
one_more same itself x told true is = is
one_more same itself x told false is = is_last-append same x x told ∙ itself x

-- what is told twice in a row is told once
pub told_once_twice : {A : Type 0} (same : A → A → Bool) → ((x : A) → same x x ≡ true) → (x : A) (told : List A) → told_once same x (told_once same x told) ≡ told_once same x told
told_once_twice same itself x told = rw (one_more same itself x told (is_last same x told) refl) refl

-- all but the last are told, and then the last
pub all_told_once-append : {A : Type 0} (same : A → A → Bool) (x : A) (xs told : List A) → all_told_once same (xs ++ x ∷ []) told ≡ told_once same x (all_told_once same xs told)
all_told_once-append same x [] told = refl
all_told_once-append same x (y ∷ ys) told = all_told_once-append same x ys (told_once same y told)

pub same_number : (n : ℕ) → nat_eq n n ≡ true
same_number n = search rules

same_bytes : (xs : List ℕ) → bytes_eq xs xs ≡ true
same_bytes xs = search rules

same_place_itself : (p : Place) → same_place p p ≡ true
same_place_itself p = rw (same_bytes p.host, same_number p.port) refl

-- no connect goes nowhere else
pub went_none : (place : Place) (places : List Place) → WentOnlyTo place places places
went_none place places = inl refl

-- nor do connects to a place and then more of them
pub went_then : (place : Place) (a b c : List Place) → WentOnlyTo place a b → WentOnlyTo place b c → WentOnlyTo place a c
went_then place a b c (inl first) (inl last) = inl (last ∙ first)
went_then place a b c (inl first) (inr last) = inr (last ∙ ap (went place) first)
went_then place a b c (inr first) (inl last) = inr (last ∙ first)
went_then place a b c (inr first) (inr last) = inr (last ∙ ap (went place) first ∙ told_once_twice same_place same_place_itself place a)

-- nor does one
pub went_connect : (place : Place) (result : Result (Unit {0}) LinkFail) (old new : List Place) → WentAfterConnect place result old new → WentOnlyTo place old new
went_connect place (Ok x) old new went = inr went
went_connect place (Err fail.Failed) old new went = inr went
went_connect place (Err fail.NoMemory) old new went = went
