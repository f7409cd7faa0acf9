-- A request with its file id carried over to the plain share does there what it does on the real one.
use Rattle.std.proofs.Common.{rules, ◌≡◌, ℕ, true, false, [], ◌∷◌, ◌≤◌, refl, ap, sym, ◌∙◌, inl, inr, Some, List, Option, Bool, ◌==◌, ◌&&◌, if◌then◌else◌}
use Rattle.std.specs.List.{AllByRecursion}
use Rattle.std.proofs.lemmas.Bool.Decides.{eqb_tells}
use Rattle.smb_base.specs.declared.names.Fid.{Fid}
use Rattle.share_state.specs.declared.connection.Grant.{Grant}
use Rattle.share_state.specs.declared.opens.Open.{Open}
use Rattle.share_state.specs.declared.request.Who.{Who}
use Rattle.share_state.specs.declared.request.Req.{Req}
use Rattle.share_state.specs.declared.request.Req.TheVariants as req
use Rattle.share_state.specs.declared.share.Share.{Share}
use Rattle.share_state.specs.Built.{is_built}
use Rattle.share_state.specs.Reply.{fid_of, map_fid}
use Rattle.share_state.specs.Close.{open_of, is_open_of, close_open}
use Rattle.share_state.specs.Step.{step_of}
use Rattle.share_state.specs.PlainShare.{plain_step}
use Rattle.fs_plain.specs.Paired.{Pair, plain_of_real}
use Rattle.fs_plain.specs.Divergence.{fid_carried}
use Rattle.fs_plain.specs.Alike.{bare, IsStanding, AreStanding, AreSame}
use Rattle.fs_plain.proofs.Deeds.{bare_of, fid_in, deed_of, deed_is, deed_carried, deed_bare}
use Rattle.fs_plain.proofs.PlainTree.{step_bare}
use Rattle.fs_plain.proofs.Identity.{same_test}

-- a number is not two numbers
not_both : (o p v : ℕ) → (p ≡ v → ⊥) → (o == p && o == v) ≡ false
not_both o p v other = elim (eqb_tells o p) [
  | inl told ↦ ap (λ (t : Bool). t && o == v) told.0 ∙ elim (eqb_tells o v) [
    | inl told' ↦ absurd (other (sym told.1 ∙ told'.1))
    | inr told' ↦ told'.0
  ]
  | inr told ↦ ap (λ (t : Bool). t && o == v) told.0
]

not_zero : (o : ℕ) → 1 ≤ o → (o == 0 && o == 0) ≡ false
not_zero o low = ap (λ (t : Bool). t && t) (no o low)
  where
    no : (o : ℕ) → 1 ≤ o → (o == 0) ≡ false
    no o low = search rules

number_test : (pairs : List Pair) (made o p v : ℕ) → AreSame pairs made → 1 ≤ o → o ≤ made
    → (o == (if p == v then fid_of (plain_of_real pairs p) else fid_of 0).persistent
    && o == (if p == v then fid_of (plain_of_real pairs p) else fid_of 0).volatile)
    ≡ (o == p && o == v)
number_test pairs made o p v same low high = elim (eqb_tells p v) [
  | inl told ↦ ap (λ (t : Bool). o == (if t then fid_of (plain_of_real pairs p) else fid_of 0).persistent && o == (if t then fid_of (plain_of_real pairs p) else fid_of 0).volatile) told.0
      ∙ ap (λ (t : Bool). t && t) (same_test pairs made o p same low high)
      ∙ ap (λ (q : ℕ). o == p && o == q) told.1
  | inr told ↦ ap (λ (t : Bool). o == (if t then fid_of (plain_of_real pairs p) else fid_of 0).persistent && o == (if t then fid_of (plain_of_real pairs p) else fid_of 0).volatile) told.0
      ∙ not_zero o low ∙ sym (not_both o p v told.1)
]

found_as : (who : Who) (fid fid' : Fid) (opens : List Open) → AllByRecursion (λ o. is_open_of who fid' o ≡ is_open_of who fid o) opens
    → open_of opens who fid' ≡ open_of opens who fid
found_as who fid fid' [] all = refl
found_as who fid fid' (o ∷ os) all =
    ap (λ (t : Bool). if t then Some o else open_of os who fid') all.0
    ∙ ap (λ (found : Option Open). if is_open_of who fid o then Some o else found) (found_as who fid fid' os all.1)

each_test : (pairs : List Pair) (made : ℕ) (who : Who) (fid : Fid) → AreSame pairs made → (opens : List Open)
    → AllByRecursion (IsStanding made) opens
    → AllByRecursion (λ o. is_open_of who (fid_carried pairs fid) o ≡ is_open_of who fid o) opens
each_test pairs made who fid same [] all = tt
each_test pairs made who fid same (o ∷ os) all = (
  ap (λ (t : Bool). t && o.who.0 == who.0 && o.connected) (number_test pairs made o.number fid.persistent fid.volatile same all.0.0 all.0.1),
  each_test pairs made who fid same os all.1,
)

pub open_of_carried : (pairs : List Pair) (s : Share) (who : Who) (fid : Fid) → AreSame pairs s.opens_made → AreStanding s
    → open_of s.opens who (fid_carried pairs fid) ≡ open_of s.opens who fid
open_of_carried pairs s who fid same numbered =
    found_as who fid (fid_carried pairs fid) s.opens (each_test pairs s.opens_made who fid same s.opens numbered.0)

-- another client's request on the plain share
pub act_same : (pairs : List Pair) (choice : Option Grant) (s : Share) (who : Who) (r : Req)
    → AreSame pairs s.opens_made → AreStanding s → is_built r ≡ true
    → plain_step (bare s) who (map_fid (fid_carried pairs) r) ≡ bare_of (step_of choice s who r)
act_same pairs choice s who (req.Create path access share disposition options attributes lease durable) same numbered built =
    step_bare choice (Some (record { lease = 0; durable = false })) s who (req.Create path access share disposition options attributes lease durable) built
act_same pairs choice s who (req.Close fid) same numbered built =
    ap (λ (o : Option Open). close_open o (bare s)) (open_of_carried pairs s who fid same numbered)
    ∙ step_bare choice (Some (record { lease = 0; durable = false })) s who (req.Close fid) built
act_same pairs choice s who other same numbered built =
    deed_is (Some (record { lease = 0; durable = false })) (bare s) who (map_fid (fid_carried pairs) other) refl
    ∙ deed_carried (fid_carried pairs) (bare s) who other (open_of s.opens who (fid_carried pairs (fid_in other)))
    (each_test pairs s.opens_made who (fid_in other) same s.opens numbered.0)
    ∙ ap (deed_of (bare s) who other) (open_of_carried pairs s who (fid_in other) same numbered)
    ∙ deed_bare s who other (open_of s.opens who (fid_in other))
    ∙ ap bare_of (sym (deed_is choice s who other refl))
