-- A set of contexts that was written is read again.
use Rattle.std.proofs.Common.{◌≡◌, ℕ, zero, suc, ◌+◌, ◌^◌, ◌<◌, ◌≤◌, Bool, true, false, ◌||◌, if◌then◌else◌, List, [], ◌∷◌, ◌++◌, length, drop, replicate, refl, ap, sym, subst, ◌∙◌, arith, append_assoc, length-append, Option, Some, None, Ok, Err, option_map, nat_lt}
use Rattle.std.specs.Prelude.{◌==◌, codes, find, slice_range, is_some, ⊤}
use Rattle.std.specs.List.{list_any}
use Rattle.std.proofs.lemmas.List.{append-nil, drop_at}
use Rattle.std.proofs.lemmas.Bool.Decides.{nat_tests}
use Rattle.smb_base.specs.declared.names.Key.{Key}
use Rattle.smb_base.specs.declared.names.Fid.{Fid}
use Rattle.smb_le.specs.Numbers.{number_at}
use Rattle.smb_field.specs.declared.field.BodyFault.TheVariants.{Short}
use Rattle.smb_field.specs.Fields.{spelled, AllFit}
use Rattle.smb_field.specs.Structure.{places_in, spelling_in, IsStructure, IsReadAgainIn}
use Rattle.smb_field.proofs.Reading.{length-spelled}
use Rattle.smb_field.proofs.ReadingIn.{read_again_in}
use Rattle.smb_body_b.specs.declared.contexts.ContextSet.{ContextSet}
use Rattle.smb_body_b.specs.Contexts.{Context, entry, piece, both, context_of, chained, chain_of, contexts_of, is_named, is_short, lease_of, fid_of, set_of, context_fields, spelled_context, is_some_left, spelled_contexts, lease_content, fid_content, leases, durables, reclaims, contexts_in, AreReadAgain, FitsLease, FitsFid, spelled_some}
use Rattle.smb_body_b.proofs.Chain.{chained-wide, read_of-chain}
use Rattle.smb_body_b.proofs.Content.{length-lease_content, length-fid_content, lease_of-content, fid_of-content}

-- a context that is written: a name of four bytes, and some data but not many
pub record IsProper (c : Context) : Type 0 where
  pub name : length c.name ≡ 4
  pub some : 0 < length c.content
  pub small : length c.content < 256

-- each one is
pub AreProper : List Context → Type 0
AreProper [] = ⊤
AreProper (c ∷ cs) = IsProper c × AreProper cs

next_place : Bool → Context → ℕ
next_place more c = if more then 24 + length c.content else 0

next_place-lt : (more : Bool) (c : Context) → IsProper c → next_place more c < 2 ^ 32
unfolding next_place
next_place-lt true c proper = let small = proper.small in omega arith
next_place-lt false c proper = omega arith

fields-fit : (more : Bool) (c : Context) → IsProper c → AllFit (context_fields (if more then 24 + length c.content else 0) c)
unfolding next_place
fields-fit more c proper =
    let small = proper.small in
    (next_place-lt more c proper, (omega arith, (omega arith, (omega arith, (omega arith, (omega arith, (proper.name, (omega arith, (tt, tt)))))))))

length-spelled_context : (more : Bool) (c : Context) → IsProper c → length (spelled_context more c) ≡ 24 + length c.content
unfolding spelling_in
length-spelled_context more c proper =
    let fields = context_fields (if more then 24 + length c.content else 0) c in
    let front = spelled (places_in fields c.content) fields in
    omega (arith, length-append front c.content, length-spelled (places_in fields c.content) fields (fields-fit more c proper))

structure-stands : (more : Bool) (c : Context) (rest : List ℕ) → IsProper c
    → IsStructure (context_fields (if more then 24 + length c.content else 0) c) c.content (spelled_context more c ++ rest)
unfolding IsReadAgainIn
structure-stands more c rest proper =
    read_again_in (context_fields (if more then 24 + length c.content else 0) c) c.content (omega arith) (fields-fit more c proper) rest

-- a piece that lies within a list
piece-within : (list : List ℕ) (place size : ℕ) → 0 < size → place + size ≤ length list
    → piece list place size ≡ Some (slice_range list place (place + size))
piece-within list place size some within =
    let not_zero : (size == 0) ≡ false = grind (arith, nat_tests) in
    let long : nat_lt (length list) (place + size) ≡ false = grind (arith, nat_tests) in
    ap (λ (t : Bool). if t then Some [] else if nat_lt (length list) (place + size) then None else Some (slice_range list place (place + size))) not_zero
    ∙ ap (λ (t : Bool). if t then None else Some (slice_range list place (place + size))) long

context_of-parts : (list name content : List ℕ) → 16 ≤ length list → piece list (number_at 2 4 list) (number_at 2 6 list) ≡ Some name
    → piece list (number_at 2 10 list) (number_at 4 12 list) ≡ Some content → context_of list ≡ Some (entry name content)
unfolding context_of
context_of-parts list name content long named held =
    let enough : nat_lt (length list) 16 ≡ false = grind (arith, nat_tests) in
    ap (λ (t : Bool). if t then None else both (piece list (number_at 2 4 list) (number_at 2 6 list)) (piece list (number_at 2 10 list) (number_at 4 12 list))) enough
    ∙ ap (λ (o : Option (List ℕ)). both o (piece list (number_at 2 10 list) (number_at 4 12 list))) named
    ∙ ap (λ (o : Option (List ℕ)). both (Some name) o) held

-- what stands at the start of a list that begins with the spelling of a context
context-stands : (next : ℕ) (c : Context) (list : List ℕ) → IsProper c → IsStructure (context_fields next c) c.content list
    → (number_at 4 0 list ≡ next) × (context_of list ≡ Some c)
context-stands next c list proper stands =
    let holds = stands.1 in
    let some = proper.some in
    let held = holds.1.1.1.1.1.1.1.1.0 some in
    let name_place : number_at 2 4 list ≡ 16 = holds.1.0 in
    let name_size : number_at 2 6 list ≡ 4 = holds.1.1.0 in
    let place : number_at 2 10 list ≡ 24 = holds.1.1.1.1.0 in
    let size : number_at 4 12 list ≡ length c.content = holds.1.1.1.1.1.0 in
    let name_is : slice_range list 16 20 ≡ c.name = holds.1.1.1.1.1.1.0 in
    let within : 24 + length c.content ≤ length list = held.1 in
    let named : piece list (number_at 2 4 list) (number_at 2 6 list) ≡ Some c.name =
    ap (λ (n : ℕ). piece list n (number_at 2 6 list)) name_place
    ∙ ap (piece list 16) name_size
    ∙ piece-within list 16 4 (omega arith) (omega arith)
    ∙ ap (λ (xs : List ℕ). Some xs) name_is in
    let content : piece list (number_at 2 10 list) (number_at 4 12 list) ≡ Some c.content =
    ap (λ (n : ℕ). piece list n (number_at 4 12 list)) place
    ∙ ap (piece list 24) size
    ∙ piece-within list 24 (length c.content) some within
    ∙ ap (λ (xs : List ℕ). Some xs) held.2 in
    (holds.0, context_of-parts list c.name c.content (omega arith) named content)

-- the chain of contexts that were written is these contexts
chain-spelled : (most : ℕ) (c : Context) (cs : List Context) (rest : List ℕ) → length (c ∷ cs) ≤ most → AreProper (c ∷ cs)
    → chain_of most (spelled_contexts (c ∷ cs) ++ rest) ≡ Some (c ∷ cs)
unfolding chain_of spelled_contexts AreProper
chain-spelled zero c cs rest few proper = absurd (omega arith)
chain-spelled (suc most) c [] rest few proper =
    let list = spelled_contexts (c ∷ []) ++ rest in
    let is : list ≡ spelled_context false c ++ ([] ++ rest) = append_assoc (spelled_context false c) [] rest in
    let stands = context-stands 0 c list proper.0 (subst (IsStructure (context_fields 0 c) c.content) (sym is) (structure-stands false c ([] ++ rest) proper.0)) in
    ap (λ (o : Option Context). chained (number_at 4 0 list) o (chain_of most (drop (number_at 4 0 list) list))) stands.1
    ∙ ap (λ (n : ℕ). chained n (Some c) (chain_of most (drop n list))) stands.0
chain-spelled (suc most) c (d ∷ ds) rest few proper =
    let list = spelled_contexts (c ∷ (d ∷ ds)) ++ rest in
    let others = spelled_contexts (d ∷ ds) ++ rest in
    let next = 24 + length c.content in
    let is : list ≡ spelled_context true c ++ others = append_assoc (spelled_context true c) (spelled_contexts (d ∷ ds)) rest in
    let stands = context-stands next c list proper.0 (subst (IsStructure (context_fields next c) c.content) (sym is) (structure-stands true c others proper.0)) in
    let behind : drop next list ≡ others = ap (drop next) is ∙ drop_at (spelled_context true c) others next (length-spelled_context true c proper.0) in
    ap (λ (o : Option Context). chained (number_at 4 0 list) o (chain_of most (drop (number_at 4 0 list) list))) stands.1
    ∙ ap (λ (n : ℕ). chained n (Some c) (chain_of most (drop n list))) stands.0
    ∙ chained-wide next c (chain_of most (drop next list)) (omega arith)
    ∙ ap (λ (xs : List ℕ). option_map (λ cs. c ∷ cs) (chain_of most xs)) behind
    ∙ ap (option_map (λ cs. c ∷ cs)) (chain-spelled most d ds rest (omega arith) proper.1)

-- there are no more contexts than their spelling has bytes
count-le : (cs : List Context) → AreProper cs → length cs ≤ length (spelled_contexts cs)
unfolding spelled_contexts AreProper
count-le [] proper = omega arith
count-le (c ∷ cs) proper =
    omega (arith, length-append (spelled_context (is_some_left cs) c) (spelled_contexts cs), length-spelled_context (is_some_left cs) c proper.0, count-le cs proper.1)

-- and so are those of the list
contexts-spelled : (cs : List Context) (rest : List ℕ) → AreProper cs → (cs ≡ [] → rest ≡ []) → contexts_of (spelled_contexts cs ++ rest) ≡ Some cs
unfolding contexts_of spelled_contexts
contexts-spelled [] rest proper alone = ap contexts_of (alone refl)
contexts-spelled (c ∷ cs) rest proper alone =
    let list = spelled_contexts (c ∷ cs) ++ rest in
    let long : length (spelled_contexts (c ∷ cs)) + length rest ≡ length list = sym (length-append (spelled_contexts (c ∷ cs)) rest) in
    let few = count-le (c ∷ cs) proper in
    let some : 0 < length list = omega arith in
    let not_empty : (length list == 0) ≡ false = grind (arith, nat_tests) in
    ap (λ (t : Bool). if t then Some [] else chain_of (length list) list) not_empty
    ∙ chain-spelled (length list) c cs rest (omega arith) proper

lease-proper : (lease : Key × ℕ) → FitsLease (Some lease) → IsProper (entry (codes "RqLs") (lease_content lease))
lease-proper lease fits =
    let long = length-lease_content lease fits.0 in
    record { name = refl; some = omega arith; small = omega arith }

fid-proper : (fid : Fid) → IsProper (entry (codes "DHnC") (fid_content fid))
fid-proper fid =
    let long = length-fid_content fid in
    record { name = refl; some = omega arith; small = omega arith }

durable-proper : (reply : Bool) → IsProper (entry (codes "DHnQ") (replicate (if reply then 8 else 16) 0))
durable-proper true = record { name = refl; some = omega arith; small = omega arith }
durable-proper false = record { name = refl; some = omega arith; small = omega arith }

-- the contexts of a set are proper
proper-in : (reply : Bool) (lease : Option (Key × ℕ)) (durable : Bool) (reclaim : Option Fid) → FitsLease lease
    → AreProper (leases lease ++ (durables reply durable ++ reclaims reclaim))
unfolding AreProper
proper-in reply None false None fits = tt
proper-in reply None false (Some fid) fits = (fid-proper fid, tt)
proper-in reply None true None fits = (durable-proper reply, tt)
proper-in reply None true (Some fid) fits = (durable-proper reply, (fid-proper fid, tt))
proper-in reply (Some lease) false None fits = (lease-proper lease fits, tt)
proper-in reply (Some lease) false (Some fid) fits = (lease-proper lease fits, (fid-proper fid, tt))
proper-in reply (Some lease) true None fits = (lease-proper lease fits, (durable-proper reply, tt))
proper-in reply (Some lease) true (Some fid) fits = (lease-proper lease fits, (durable-proper reply, (fid-proper fid, tt)))

lease-long : (reply : Bool) (lease : Key × ℕ) → FitsLease (Some lease) → is_short reply (entry (codes "RqLs") (lease_content lease)) ≡ false
unfolding is_short
lease-long reply lease fits =
    let long = length-lease_content lease fits.0 in
    ap (λ (n : ℕ). (nat_lt n 32 || false) || false) long

fid-long : (reply : Bool) (fid : Fid) → is_short reply (entry (codes "DHnC") (fid_content fid)) ≡ false
unfolding is_short
fid-long reply fid = ap (λ (n : ℕ). (false || false) || nat_lt n 16) (length-fid_content fid)

durable-long : (reply : Bool) → is_short reply (entry (codes "DHnQ") (replicate (if reply then 8 else 16) 0)) ≡ false
unfolding is_short
durable-long true = refl
durable-long false = refl

-- none of them is short
long-in : (reply : Bool) (lease : Option (Key × ℕ)) (durable : Bool) (reclaim : Option Fid) → FitsLease lease
    → list_any (is_short reply) (leases lease ++ (durables reply durable ++ reclaims reclaim)) ≡ false
long-in reply None false None fits = refl
long-in reply None false (Some fid) fits = ap (λ (t : Bool). t || false) (fid-long reply fid)
long-in reply None true None fits = ap (λ (t : Bool). t || false) (durable-long reply)
long-in reply None true (Some fid) fits =
    ap (λ (t : Bool). t || (is_short reply (entry (codes "DHnC") (fid_content fid)) || false)) (durable-long reply) ∙ ap (λ (t : Bool). t || false) (fid-long reply fid)
long-in reply (Some lease) false None fits = ap (λ (t : Bool). t || false) (lease-long reply lease fits)
long-in reply (Some lease) false (Some fid) fits =
    ap (λ (t : Bool). t || (is_short reply (entry (codes "DHnC") (fid_content fid)) || false)) (lease-long reply lease fits) ∙ ap (λ (t : Bool). t || false) (fid-long reply fid)
long-in reply (Some lease) true None fits =
    ap (λ (t : Bool). t || (is_short reply (entry (codes "DHnQ") (replicate (if reply then 8 else 16) 0)) || false)) (lease-long reply lease fits)
    ∙ ap (λ (t : Bool). t || false) (durable-long reply)
long-in reply (Some lease) true (Some fid) fits =
    ap (λ (t : Bool). t || (is_short reply (entry (codes "DHnQ") (replicate (if reply then 8 else 16) 0)) || (is_short reply (entry (codes "DHnC") (fid_content fid)) || false))) (lease-long reply lease fits)
    ∙ ap (λ (t : Bool). t || (is_short reply (entry (codes "DHnC") (fid_content fid)) || false)) (durable-long reply)
    ∙ ap (λ (t : Bool). t || false) (fid-long reply fid)

lease-again : (reply : Bool) (lease : Option (Key × ℕ)) (durable : Bool) (reclaim : Option Fid) → FitsLease lease
    → option_map lease_of (find (is_named (codes "RqLs")) (leases lease ++ (durables reply durable ++ reclaims reclaim))) ≡ lease
lease-again reply None false None fits = refl
lease-again reply None false (Some fid) fits = refl
lease-again reply None true None fits = refl
lease-again reply None true (Some fid) fits = refl
lease-again reply (Some lease) durable reclaim fits = ap (λ (l : Key × ℕ). Some l) (lease_of-content (codes "RqLs") lease fits.0 fits.1)

durable-again : (reply : Bool) (lease : Option (Key × ℕ)) (durable : Bool) (reclaim : Option Fid)
    → list_any (is_named (codes "DHnQ")) (leases lease ++ (durables reply durable ++ reclaims reclaim)) ≡ durable
durable-again reply None false None = refl
durable-again reply None false (Some fid) = refl
durable-again reply None true reclaim = refl
durable-again reply (Some lease) false None = refl
durable-again reply (Some lease) false (Some fid) = refl
durable-again reply (Some lease) true reclaim = refl

reclaim-again : (reply : Bool) (lease : Option (Key × ℕ)) (durable : Bool) (reclaim : Option Fid) → FitsFid reclaim
    → option_map fid_of (find (is_named (codes "DHnC")) (leases lease ++ (durables reply durable ++ reclaims reclaim))) ≡ reclaim
reclaim-again reply None false None fits = refl
reclaim-again reply None true None fits = refl
reclaim-again reply (Some lease) false None fits = refl
reclaim-again reply (Some lease) true None fits = refl
reclaim-again reply None false (Some fid) fits = ap (λ (f : Fid). Some f) (fid_of-content (codes "DHnC") fid fits.0 fits.1)
reclaim-again reply None true (Some fid) fits = ap (λ (f : Fid). Some f) (fid_of-content (codes "DHnC") fid fits.0 fits.1)
reclaim-again reply (Some lease) false (Some fid) fits = ap (λ (f : Fid). Some f) (fid_of-content (codes "DHnC") fid fits.0 fits.1)
reclaim-again reply (Some lease) true (Some fid) fits = ap (λ (f : Fid). Some f) (fid_of-content (codes "DHnC") fid fits.0 fits.1)

-- and they say what the set says
set-again : (reply : Bool) (set : ContextSet) → FitsLease set.lease → FitsFid set.reclaim → set_of (contexts_in reply set) ≡ set
unfolding set_of
set-again reply set fits_lease fits_fid =
    let lease = lease-again reply set.lease set.durable set.reclaim fits_lease in
    let durable = durable-again reply set.lease set.durable set.reclaim in
    let reclaim = reclaim-again reply set.lease set.durable set.reclaim fits_fid in
    ap (λ (l : Option (Key × ℕ)). record { lease = l; durable = list_any (is_named (codes "DHnQ")) (contexts_in reply set); reclaim = option_map fid_of (find (is_named (codes "DHnC")) (contexts_in reply set)) }) lease
    ∙ ap (λ (t : Bool). record { lease = set.lease; durable = t; reclaim = option_map fid_of (find (is_named (codes "DHnC")) (contexts_in reply set)) }) durable
    ∙ ap (λ (f : Option Fid). record { lease = set.lease; durable = set.durable; reclaim = f }) reclaim

-- a set that was written is read, whatever follows; where it has no context, nothing may follow
pub read_again : (reply : Bool) (set : ContextSet) → FitsLease set.lease → FitsFid set.reclaim → AreReadAgain reply set
unfolding AreReadAgain
read_again reply set fits_lease fits_fid rest alone =
    read_of-chain reply (spelled_contexts (contexts_in reply set) ++ rest) (Some (contexts_in reply set))
    (contexts-spelled (contexts_in reply set) rest (proper-in reply set.lease set.durable set.reclaim fits_lease) alone)
    ∙ ap (λ (t : Bool). if t then Err Short else Ok (set_of (contexts_in reply set))) (long-in reply set.lease set.durable set.reclaim fits_lease)
    ∙ ap (λ (s : ContextSet). Ok s) (set-again reply set fits_lease fits_fid)

-- the spellings of the parts of a set, one after another, are the spelling of the set
pub parts_spelled : (reply : Bool) (lease : Option (Key × ℕ)) (durable : Bool) (reclaim : Option Fid)
    → spelled_some (durable || is_some reclaim) (leases lease) ++ (spelled_some (is_some reclaim) (durables reply durable) ++ spelled_some false (reclaims reclaim))
    ≡ spelled_contexts (leases lease ++ (durables reply durable ++ reclaims reclaim))
unfolding spelled_contexts
parts_spelled reply None false None = refl
parts_spelled reply None true None = refl
parts_spelled reply (Some lease) false None = refl
parts_spelled reply (Some lease) true None = refl
parts_spelled reply None false (Some fid) = sym (append-nil (spelled_some false (reclaims (Some fid))))
parts_spelled reply None true (Some fid) =
    ap (λ (xs : List ℕ). spelled_some true (durables reply true) ++ xs) (sym (append-nil (spelled_some false (reclaims (Some fid)))))
parts_spelled reply (Some lease) false (Some fid) =
    ap (λ (xs : List ℕ). spelled_some true (leases (Some lease)) ++ xs) (sym (append-nil (spelled_some false (reclaims (Some fid)))))
parts_spelled reply (Some lease) true (Some fid) =
    ap (λ (xs : List ℕ). spelled_some true (leases (Some lease)) ++ (spelled_some true (durables reply true) ++ xs)) (sym (append-nil (spelled_some false (reclaims (Some fid)))))
