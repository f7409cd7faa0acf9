-- A message that was sent, found by its id and taken off.
use Rattle.std.proofs.Common.{◌≡◌, ◌∙◌, ◌<◌, ℕ, zero, suc, Bool, true, false, List, [], ◌∷◌, Some, length, get_or, drop, refl, sym, ap, inl, inr, arith, eq-eqb}
use Rattle.std.specs.Prelude.{◌==◌, not, if◌then◌else◌, slice_get}
use Rattle.std.specs.List.{remove}
use Rattle.std.proofs.lemmas.Bool.Decides.{eqb_tells}
use Rattle.smb_base.specs.declared.names.Mid.{Mid}
use Rattle.share_state.specs.declared.connection.Sent.{Sent}
use Rattle.share_state.specs.Sent.{sent_with, sent_but}

is_number : (a b : ℕ) → (a == b) ≡ true → a ≡ b
is_number a b is = elim (eqb_tells a b) [
  | inl told ↦ told.1
  | inr told ↦ absurd (cc (is, told.0))
]

-- what is found by an id has it
pub found_mid : (mid : Mid) (sent : List Sent) (x : Sent) → sent_with mid sent ≡ Some x → x.mid.0 ≡ mid.0
found_mid mid [] x is = absurd (cc is)
found_mid mid (y ∷ ys) x is = by (y.mid.0 == mid.0) refl (found_mid mid ys x) is
  where
    by : (t : Bool) → (y.mid.0 == mid.0) ≡ t → (sent_with mid ys ≡ Some x → x.mid.0 ≡ mid.0) → (if t then Some y else sent_with mid ys) ≡ Some x → x.mid.0 ≡ mid.0
    by true test later found = let same : y ≡ x = cc in ap (λ (s : Sent). s.mid.0) (sym same) ∙ is_number y.mid.0 mid.0 test
    by false test later found = later found

-- a message that has an id is found by it from its place on
pub found_at : (mid : Mid) (sent : List Sent) (i : ℕ) (x : Sent) → i < length sent → x ≡ get_or sent i x → x.mid.0 ≡ mid.0
    → sent_with mid (drop i sent) ≡ slice_get sent i
found_at mid [] i x inside is own = absurd (omega arith)
found_at mid (y ∷ ys) zero x inside is own =
    ap (λ (t : Bool). if t then Some y else sent_with mid ys) (eq-eqb y.mid.0 mid.0 (ap (λ (s : Sent). s.mid.0) (sym is) ∙ own))
found_at mid (y ∷ ys) (suc i) x inside is own = found_at mid ys i x (omega arith) is own

-- the others are those that are left once it was taken off
pub left_others : (mid : Mid) (sent : List Sent) (i : ℕ) (x : Sent) → i < length sent → x ≡ get_or sent i x → x.mid.0 ≡ mid.0
    → sent_but mid (remove sent i) ≡ sent_but mid sent
left_others mid [] i x inside is own = absurd (omega arith)
left_others mid (y ∷ ys) zero x inside is own =
    sym (ap (λ (t : Bool). if not t then y ∷ sent_but mid ys else sent_but mid ys) (eq-eqb y.mid.0 mid.0 (ap (λ (s : Sent). s.mid.0) (sym is) ∙ own)))
left_others mid (y ∷ ys) (suc i) x inside is own =
    ap (λ (l : List Sent). if not (y.mid.0 == mid.0) then y ∷ l else l) (left_others mid ys i x (omega arith) is own)
