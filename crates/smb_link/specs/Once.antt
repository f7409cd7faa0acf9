-- What a side of the outside tells of its calls without growing at each of them: what comes twice in a row is told once.
use Rattle.std.specs.Prelude.{◌≡◌, ◌⊎◌, ℕ, ◌==◌, Bool, false, ◌&&◌, if◌then◌else◌, List, [], ◌∷◌, ◌++◌, Option, option_map, Result, Ok, Err, bytes_eq, nat_eq}
use Rattle.smb_link.specs.declared.faults.LinkFail.{LinkFail}
use Rattle.smb_link.specs.declared.faults.LinkFail.TheVariants as fail
use Rattle.smb_link.specs.declared.places.Place.{Place}

-- the last one is the same as this
abbrev pub is_last : {A : Type 0} → (A → A → Bool) → A → List A → Bool
is_last same x [] = false
is_last same x (y ∷ []) = same y x
is_last same x (y ∷ z ∷ zs) = is_last same x (z ∷ zs)

-- one more at the end, unless it is the last already
abbrev pub told_once : {A : Type 0} → (A → A → Bool) → A → List A → List A
told_once same x told = if is_last same x told then told else told ++ x ∷ []

-- more at the end, one after another
abbrev pub all_told_once : {A : Type 0} → (A → A → Bool) → List A → List A → List A
all_told_once same [] told = told
all_told_once same (x ∷ xs) told = all_told_once same xs (told_once same x told)

-- two places have the same host and port
abbrev pub same_place : Place → Place → Bool
same_place p q = bytes_eq p.host q.host && p.port == q.port

-- the places that a link connected to, after a connect to this one
abbrev pub went : Place → List Place → List Place
went = told_once same_place

-- the places after a connect with this answer: for want of memory it may have come to nothing
abbrev pub WentAfterConnect : Place → Result (Unit {0}) LinkFail → List Place → List Place → Type 0
WentAfterConnect place (Ok x) old new = new ≡ went place old
WentAfterConnect place (Err fail.Failed) old new = new ≡ went place old
WentAfterConnect place (Err fail.NoMemory) old new = (new ≡ old) ⊎ (new ≡ went place old)

-- connects to this place alone, or none
abbrev pub WentOnlyTo : Place → List Place → List Place → Type 0
WentOnlyTo place old new = (new ≡ old) ⊎ (new ≡ went place old)

-- what a clock told, after one more reading
abbrev pub told_reading : ℕ → Option (List ℕ) → Option (List ℕ)
told_reading reading told = option_map (told_once nat_eq reading) told
