-- Requests in flight, in the order of their ids.
use Rattle.std.proofs.Common.{◌≡◌, ◌∙◌, refl, sym, ap, subst, ℕ, ◌+◌, ◌≤◌, ◌<◌, cond, Bool, true, false, List, [], ◌∷◌, ◌++◌, length, take, arith, append_assoc, length-append, Ordering, Greater}
use Rattle.std.proofs.lemmas.List.{take-append-le, take_at}
use Rattle.std.specs.Ordering.{nat_cmp, match_ordering}
use Rattle.std.specs.Cmp.{nat_cmp_is}
use Rattle.std.specs.BTreeMap.{insert_entry, is_at}
use Rattle.smb_head.specs.declared.request.Request.{Request}
use Rattle.smb_credit.specs.Window.{Ids, least, cost, after_use}
use Rattle.smb_mux.specs.declared.taken.Reply.{Reply}
use Rattle.smb_mux.specs.Sending.{flights_of}
use Rattle.smb_mux.specs.InFlight.{AreBelow, but, without}

-- an id above all goes to the end
inserted_last : (es : List (ℕ × ℕ)) (k v : ℕ) → AreBelow k es → insert_entry nat_cmp es k v ≡ es ++ (k, v) ∷ []
inserted_last [] k v below = refl
inserted_last (e ∷ es) k v below =
    ap (λ (o : Ordering). match_ordering o ((k, v) ∷ e ∷ es) ((e.0, v) ∷ es) (e ∷ insert_entry nat_cmp es k v)) (sym (nat_cmp_is k e.0 Greater below.0))
    ∙ ap (λ (l : List (ℕ × ℕ)). e ∷ l) (inserted_last es k v below.1)

below-more : (n k : ℕ) (es : List (ℕ × ℕ)) → n ≤ k → AreBelow n es → AreBelow k es
below-more n k [] le below = tt
below-more n k (e ∷ es) le below = (omega (arith, below.0), below-more n k es le below.1)

below-append : (n : ℕ) (es : List (ℕ × ℕ)) (e : ℕ × ℕ) → AreBelow n es → e.0 < n → AreBelow n (es ++ e ∷ [])
below-append n [] e below is = (is, tt)
below-append n (f ∷ es) e below is = (below.0, below-append n es e below.1 is)

-- a request more is in flight
pub flown : (ids now : Ids) (mid command : ℕ) (rs rest : List Request) (r : Request) (es new goal : List (ℕ × ℕ)) → rs ≡ r ∷ rest → mid ≡ least ids → command ≡ r.command
    → now ≡ after_use (cost r.charge) ids → AreBelow mid es → es ++ flights_of ids rs ≡ goal → new ≡ insert_entry nat_cmp es mid command
    → new ++ flights_of now rest ≡ goal
flown ids now mid command rs rest r es new goal front is_mid is_command is_now below told is_new =
    ap (λ (k : Ids). new ++ flights_of k rest) is_now
    ∙ ap (λ (l : List (ℕ × ℕ)). l ++ flights_of (after_use (cost r.charge) ids) rest) (is_new ∙ inserted_last es mid command below)
    ∙ append_assoc es ((mid, command) ∷ []) (flights_of (after_use (cost r.charge) ids) rest)
    ∙ ap (λ (n : ℕ). es ++ ((n, command) ∷ flights_of (after_use (cost r.charge) ids) rest)) is_mid
    ∙ ap (λ (n : ℕ). es ++ ((least ids, n) ∷ flights_of (after_use (cost r.charge) ids) rest)) is_command
    ∙ ap (λ (l : List Request). es ++ flights_of ids l) (sym front)
    ∙ told

pub flown_below : (mid command used more : ℕ) (es new : List (ℕ × ℕ)) → mid ≡ used → used < more → AreBelow used es → new ≡ insert_entry nat_cmp es mid command → AreBelow more new
flown_below mid command used more es new is lower below is_new =
    let under : AreBelow mid es = subst (λ (n : ℕ). AreBelow n es) (sym is) below in
    subst (AreBelow more) (sym (is_new ∙ inserted_last es mid command under))
    (below-append more es (mid, command) (below-more used more es (omega arith) below) (omega arith))

pub flown_long : (mid command : ℕ) (es new : List (ℕ × ℕ)) → AreBelow mid es → new ≡ insert_entry nat_cmp es mid command → length new ≡ length es + 1
flown_long mid command es new below is = ap length (is ∙ inserted_last es mid command below) ∙ length-append es ((mid, command) ∷ [])

-- those that were in flight before are the first ones
pub first_ones : (old es more all : List (ℕ × ℕ)) → es ++ more ≡ old ++ all → length old ≤ length es → take (length old) es ≡ old
first_ones old es more all is le =
    sym (take-append-le (length old) es more le) ∙ ap (take (length old)) is ∙ take_at old all (length old) refl

pub cut_one : (many : ℕ) (es rest : List (ℕ × ℕ)) (e : ℕ × ℕ) → es ≡ rest ++ e ∷ [] → many < length es → take many rest ≡ take many es
cut_one many es rest e is long =
    let len : length es ≡ length rest + 1 = ap length is ∙ length-append rest (e ∷ []) in
    sym (ap (take many) is ∙ take-append-le many rest (e ∷ []) (omega arith))

-- fewer are below what all are below
one_of : (t : Bool) (n : ℕ) (e : ℕ × ℕ) (es rest : List (ℕ × ℕ)) → e.0 < n → AreBelow n es → AreBelow n rest → AreBelow n (cond t es (e ∷ rest))
one_of true n e es rest is below others = below
one_of false n e es rest is below others = (is, others)

below-but : (n id : ℕ) (es : List (ℕ × ℕ)) → AreBelow n es → AreBelow n (but id es)
below-but n id [] below = tt
below-but n id (e ∷ es) below = one_of (is_at (nat_cmp id) e.0) n e es (but id es) below.0 below.1 (below-but n id es below.1)

pub below-without : (n : ℕ) (replies : List Reply) (es : List (ℕ × ℕ)) → AreBelow n es → AreBelow n (without replies es)
below-without n [] es below = below
below-without n (r ∷ replies) es below = below-without n replies (but r.mid.0 es) (below-but n r.mid.0 es below)
