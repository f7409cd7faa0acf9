-- Requests that are to be one frame: what they cost, how long they are, and the others behind one.
use Rattle.std.proofs.Common.{◌≡◌, ◌∙◌, refl, sym, ap, ℕ, suc, ◌+◌, ◌-◌, ◌*◌, ◌≤◌, ◌<◌, Bool, true, false, nat_eq, List, [], ◌∷◌, ◌++◌, length, drop, replicate, arith, append_assoc, length-append, length-drop}
use Rattle.std.proofs.lemmas.List.{length-replicate}
use Rattle.smb_head.specs.declared.request.Request.{Request}
use Rattle.smb_head.specs.Header.{header}
use Rattle.smb_head.proofs.HeadLaws.{length-header}
use Rattle.smb_chain.specs.declared.builder.Message.{Message}
use Rattle.smb_chain.specs.Chain.{padded, linked, part_for, chain}
use Rattle.smb_chain.proofs.ChainLaws.{chain-nil, chain-step}
use Rattle.smb_credit.specs.Window.{Ids, least, cost, after_use}
use Rattle.smb_mux.specs.Sending.{costs, ids_after, message_for, placed, flights_of, room_of, part_room}

-- the first one and the others
pub room-step : (r : Request) (rs : List Request) → room_of (r ∷ rs) ≡ part_room (length r.body) (nat_eq (length rs) 0) + room_of rs
room-step r [] = omega arith
room-step r (next ∷ rs) =
    let more : nat_eq (suc (length rs)) 0 ≡ false = grind arith in
    ap (λ (b : Bool). part_room (length r.body) b + room_of (next ∷ rs)) (sym more)

pub room-least : (r : Request) (rs : List Request) → 64 + length r.body ≤ room_of (r ∷ rs)
room-least r [] = omega arith
room-least r (next ∷ rs) = omega arith

pub room-many : (rs : List Request) → 64 * length rs ≤ room_of rs
room-many [] = omega arith
room-many (r ∷ []) = omega arith
room-many (r ∷ next ∷ rs) = let others = room-many (next ∷ rs) in omega arith

pub same-last : {A : Type 0} (rs : List A) (i : ℕ) → i < length rs → nat_eq (length (drop (i + 1) rs)) 0 ≡ nat_eq (i + 1) (length rs)
same-last rs i within = ap (λ (n : ℕ). nat_eq n 0) (length-drop (i + 1) rs) ∙ same_test (i + 1) (length rs) (omega arith)
  where
    same_test : (a b : ℕ) → a ≤ b → nat_eq (b - a) 0 ≡ nat_eq a b
    same_test a b h = grind arith

pub length-placed : (ids : Ids) (rs : List Request) → length (placed ids rs) ≡ length rs
length-placed ids [] = refl
length-placed ids (r ∷ rs) = ap suc (length-placed (after_use (cost r.charge) ids) rs)

pub length-flights : (ids : Ids) (rs : List Request) → length (flights_of ids rs) ≡ length rs
length-flights ids [] = refl
length-flights ids (r ∷ rs) = ap suc (length-flights (after_use (cost r.charge) ids) rs)

length-part : (m : Message) (last : Bool) → length (part_for m last) ≡ part_room (length m.body) last
length-part m true = omega (arith, length-append (header (linked m.head 0)) m.body, length-header (linked m.head 0))
length-part m false =
    let size = 64 + length m.body in
    omega (arith, length-append (header (linked m.head (padded size))) (m.body ++ replicate (padded size - size) 0), length-append m.body (replicate (padded size - size) 0), length-replicate {A = ℕ} (padded size - size) 0, length-header (linked m.head (padded size)))

-- the frame is as long as the requests need
pub length-frame : (ids : Ids) (rs : List Request) → length (chain (placed ids rs)) ≡ room_of rs
length-frame ids [] = ap length chain-nil
length-frame ids (r ∷ rs) =
    let m = message_for (least ids) r in
    let others = placed (after_use (cost r.charge) ids) rs in
    ap length (chain-step m others)
    ∙ length-append (part_for m (nat_eq (length others) 0)) (chain others)
    ∙ ap (λ (n : ℕ). n + length (chain others)) (length-part m (nat_eq (length others) 0))
    ∙ ap (λ (n : ℕ). part_room (length r.body) (nat_eq n 0) + length (chain others)) (length-placed (after_use (cost r.charge) ids) rs)
    ∙ ap (λ (n : ℕ). part_room (length r.body) (nat_eq (length rs) 0) + n) (length-frame (after_use (cost r.charge) ids) rs)
    ∙ sym (room-step r rs)

-- a request more is written
pub written-more : (ids now : Ids) (mid : ℕ) (rs : List Request) (i : ℕ) (r : Request) (out new goal : List ℕ) → i < length rs → drop i rs ≡ r ∷ drop (i + 1) rs
    → mid ≡ least ids → now ≡ after_use (cost r.charge) ids → out ++ chain (placed ids (drop i rs)) ≡ goal
    → new ≡ out ++ part_for (message_for mid r) (nat_eq (i + 1) (length rs)) → new ++ chain (placed now (drop (i + 1) rs)) ≡ goal
written-more ids now mid rs i r out new goal within front is_mid is_now told is_new =
    let rest = drop (i + 1) rs in
    let others = placed (after_use (cost r.charge) ids) rest in
    ap (λ (k : Ids). new ++ chain (placed k rest)) is_now
    ∙ ap (λ (l : List ℕ). l ++ chain others) is_new
    ∙ append_assoc out (part_for (message_for mid r) (nat_eq (i + 1) (length rs))) (chain others)
    ∙ ap (λ (b : Bool). out ++ (part_for (message_for mid r) b ++ chain others)) (sym (ap (λ (n : ℕ). nat_eq n 0) (length-placed (after_use (cost r.charge) ids) rest) ∙ same-last rs i within))
    ∙ ap (λ (n : ℕ). out ++ (part_for (message_for n r) (nat_eq (length others) 0) ++ chain others)) is_mid
    ∙ ap (λ (l : List ℕ). out ++ l) (sym (chain-step (message_for (least ids) r) others))
    ∙ ap (λ (l : List Request). out ++ chain (placed ids l)) (sym front)
    ∙ told

-- what is left of the ids
pub ids_after-more : (ids now after : Ids) (rs rest : List Request) (r : Request) → rs ≡ r ∷ rest → now ≡ after_use (cost r.charge) ids
    → ids_after ids rs ≡ after → ids_after now rest ≡ after
ids_after-more ids now after rs rest r front is told =
    ap (λ (k : Ids). ids_after k rest) is ∙ ap (ids_after ids) (sym front) ∙ told

-- each costs one id at least
pub costs-some : (rs : List Request) → 0 < length rs → 1 ≤ costs rs
costs-some [] some = absurd (omega arith)
costs-some (r ∷ rs) some = omega arith
