-- A walk along a chain of create contexts.
use Rattle.std.proofs.Common.{◌≡◌, ℕ, zero, suc, ◌<◌, ◌≤◌, ◌≢◌, Bool, true, false, ◌||◌, if◌then◌else◌, List, [], ◌∷◌, ◌++◌, length, drop, refl, ap, sym, ◌∙◌, arith, append_assoc, Option, Some, None, Ok, Err, option_map, ok_or, nat_lt, length-drop}
use Rattle.std.specs.Prelude.{◌==◌, codes, find}
use Rattle.std.specs.List.{list_any}
use Rattle.std.specs.Option.{option_or}
use Rattle.std.proofs.lemmas.List.{drop_all}
use Rattle.std.proofs.lemmas.List.Folds.{list_any-append, find-append}
use Rattle.std.proofs.lemmas.Bool.Decides.{nat_tests}
use Rattle.smb_le.specs.Numbers.{number_at}
use Rattle.smb_field.specs.declared.field.BodyFault.TheVariants.{Short, Offset}
use Rattle.smb_body_b.specs.declared.contexts.ContextSet.{ContextSet}
use Rattle.smb_body_b.specs.Contexts.{Context, context_of, chained, chain_of, contexts_of, is_named, is_short, lease_of, fid_of, set_of, answer, read_of, joined, extended}

-- what contexts say, none where one of them is short
pub gathered : Bool → List Context → Option ContextSet
gathered reply contexts = if list_any (is_short reply) contexts then None else Some (set_of contexts)

-- contexts in front of a chain
abbrev pub in_front : List Context → Option (List Context) → Option (List Context)
in_front before others = option_map (λ cs. before ++ cs) others

-- the walk has come to a rest of the list: the contexts before it, and what they say
pub record Walked (reply : Bool) (list rest : List ℕ) (so_far : Option ContextSet) : Type 0 where
  pub most : ℕ
  pub before : List Context
  pub enough : length rest ≤ most
  pub chain : contexts_of list ≡ in_front before (chain_of most rest)
  pub held : so_far ≡ gathered reply before

map-or : {A B : Type 0} (f : A → B) (a b : Option A) → option_map f (option_or a b) ≡ option_or (option_map f a) (option_map f b)
map-or f None b = refl
map-or f (Some a) b = refl

map-find : {B : Type 0} (f : Context → B) (p : Context → Bool) (c : Context)
    → option_map f (find p (c ∷ [])) ≡ (if p c then Some (f c) else None)
map-find f p c = elim (p c) as (λ t. option_map f (if t then Some c else None) ≡ (if t then Some (f c) else None)) [ true ↦ refl | false ↦ refl ]

any-one : (p : Context → Bool) (c : Context) → list_any p (c ∷ []) ≡ p c
any-one p c = elim (p c) as (λ t. (t || false) ≡ t) [ true ↦ refl | false ↦ refl ]

-- one more context behind others
set_of-append : (contexts : List Context) (c : Context) → set_of (contexts ++ c ∷ []) ≡ joined (set_of contexts) c
unfolding set_of joined
set_of-append contexts c =
    let lease : option_map lease_of (find (is_named (codes "RqLs")) (contexts ++ c ∷ []))
    ≡ option_or (option_map lease_of (find (is_named (codes "RqLs")) contexts)) (if is_named (codes "RqLs") c then Some (lease_of c) else None) =
    ap (option_map lease_of) (find-append (is_named (codes "RqLs")) contexts (c ∷ []))
    ∙ map-or lease_of (find (is_named (codes "RqLs")) contexts) (find (is_named (codes "RqLs")) (c ∷ []))
    ∙ ap (option_or (option_map lease_of (find (is_named (codes "RqLs")) contexts))) (map-find lease_of (is_named (codes "RqLs")) c) in
    let durable : list_any (is_named (codes "DHnQ")) (contexts ++ c ∷ []) ≡ (list_any (is_named (codes "DHnQ")) contexts || is_named (codes "DHnQ") c) =
    list_any-append (is_named (codes "DHnQ")) contexts (c ∷ [])
    ∙ ap (λ (t : Bool). list_any (is_named (codes "DHnQ")) contexts || t) (any-one (is_named (codes "DHnQ")) c) in
    let reclaim : option_map fid_of (find (is_named (codes "DHnC")) (contexts ++ c ∷ []))
    ≡ option_or (option_map fid_of (find (is_named (codes "DHnC")) contexts)) (if is_named (codes "DHnC") c then Some (fid_of c) else None) =
    ap (option_map fid_of) (find-append (is_named (codes "DHnC")) contexts (c ∷ []))
    ∙ map-or fid_of (find (is_named (codes "DHnC")) contexts) (find (is_named (codes "DHnC")) (c ∷ []))
    ∙ ap (option_or (option_map fid_of (find (is_named (codes "DHnC")) contexts))) (map-find fid_of (is_named (codes "DHnC")) c) in
    cc

-- what they say then
gathered-append : (reply : Bool) (contexts : List Context) (c : Context) → gathered reply (contexts ++ c ∷ []) ≡ extended reply (gathered reply contexts) c
unfolding gathered extended
gathered-append reply contexts c =
    let any : list_any (is_short reply) (contexts ++ c ∷ []) ≡ (list_any (is_short reply) contexts || is_short reply c) =
    list_any-append (is_short reply) contexts (c ∷ [])
    ∙ ap (λ (t : Bool). list_any (is_short reply) contexts || t) (any-one (is_short reply) c) in
    let both : gathered reply (contexts ++ c ∷ []) ≡ (if (list_any (is_short reply) contexts || is_short reply c) then None else Some (joined (set_of contexts) c)) =
    ap (λ (t : Bool). if t then None else Some (set_of (contexts ++ c ∷ []))) any
    ∙ ap (λ (set : ContextSet). if (list_any (is_short reply) contexts || is_short reply c) then None else Some set) (set_of-append contexts c) in
    both
    ∙ elim (list_any (is_short reply) contexts) as (λ t.
    (if (t || is_short reply c) then None else Some (joined (set_of contexts) c))
    ≡ extended reply (if t then None else Some (set_of contexts)) c) [ true ↦ refl | false ↦ refl ]

in_front-none : (before : List Context) (o : Option (List Context)) → o ≡ None → in_front before o ≡ None
in_front-none before o none = ap (in_front before) none

in_front-nothing : (o : Option (List Context)) → in_front [] o ≡ o
in_front-nothing None = refl
in_front-nothing (Some cs) = refl

-- one context more goes in front of a chain
in_front-more : (before : List Context) (c : Context) (o : Option (List Context))
    → in_front before (option_map (λ cs. c ∷ cs) o) ≡ in_front (before ++ c ∷ []) o
in_front-more before c None = refl
in_front-more before c (Some cs) = ap (λ (xs : List Context). Some xs) (sym (append_assoc before (c ∷ []) cs))

pub walked_start : (reply : Bool) (list : List ℕ) (so_far : Option ContextSet) → 0 < length list → so_far ≡ gathered reply [] → Walked reply list list so_far
unfolding contexts_of
walked_start reply list so_far some held =
    let long : (length list == 0) ≡ false = grind (arith, nat_tests) in
    record {
      most = length list;
      before = [];
      enough = omega arith;
      chain = ap (λ (t : Bool). if t then Some [] else chain_of (length list) list) long ∙ sym (in_front-nothing (chain_of (length list) list));
      held = held;
    }

-- the chain at a context that leaves the list
chain-lost : (most : ℕ) (rest : List ℕ) → context_of rest ≡ None → chain_of most rest ≡ None
unfolding chain_of
chain-lost zero rest lost = refl
chain-lost (suc most) rest lost = ap (λ (o : Option Context). chained (number_at 4 0 rest) o (chain_of most (drop (number_at 4 0 rest) rest))) lost

-- the chain at a context that is there
chain-found : (most : ℕ) (rest : List ℕ) (c : Context) → 0 < most → context_of rest ≡ Some c
    → (others : ℕ) × (suc others ≡ most) × (chain_of most rest ≡ chained (number_at 4 0 rest) (Some c) (chain_of others (drop (number_at 4 0 rest) rest)))
unfolding chain_of
chain-found zero rest c some found = absurd (omega arith)
chain-found (suc most) rest c some found =
    (most, refl, ap (λ (o : Option Context). chained (number_at 4 0 rest) o (chain_of most (drop (number_at 4 0 rest) rest))) found)

pub read_of-chain : (reply : Bool) (list : List ℕ) (o : Option (List Context)) → contexts_of list ≡ o → read_of reply list ≡ answer reply o
unfolding read_of
read_of-chain reply list o is = ap (answer reply) is

-- a context leaves the list
pub walked_lost : (reply : Bool) (list rest : List ℕ) (so_far : Option ContextSet) → Walked reply list rest so_far → context_of rest ≡ None
    → Err Offset ≡ read_of reply list
walked_lost reply list rest so_far walked lost =
    sym (read_of-chain reply list None (walked.chain ∙ in_front-none walked.before (chain_of walked.most rest) (chain-lost walked.most rest lost)))

-- the place of the next context is 0: this one is the last
pub walked_end : (reply : Bool) (list rest : List ℕ) (so_far : Option ContextSet) (c : Context) (next : ℕ) → Walked reply list rest so_far
    → context_of rest ≡ Some c → 16 ≤ length rest → next ≡ number_at 4 0 rest → next ≡ 0
    → ok_or (extended reply so_far c) Short ≡ read_of reply list
unfolding gathered
walked_end reply list rest so_far c next walked found long is last =
    let enough = walked.enough in
    let f = chain-found walked.most rest c (omega arith) found in
    let zero_next : number_at 4 0 rest ≡ 0 = sym is ∙ last in
    let ends : contexts_of list ≡ Some (walked.before ++ c ∷ []) =
    walked.chain ∙ ap (in_front walked.before) (f.2 ∙ ap (λ (n : ℕ). chained n (Some c) (chain_of f.0 (drop (number_at 4 0 rest) rest))) zero_next) in
    let said : extended reply so_far c ≡ gathered reply (walked.before ++ c ∷ []) =
    ap (λ (o : Option ContextSet). extended reply o c) walked.held ∙ sym (gathered-append reply walked.before c) in
    ap (λ (o : Option ContextSet). ok_or o Short) said
    ∙ elim (list_any (is_short reply) (walked.before ++ c ∷ [])) as (λ t.
    ok_or (if t then None else Some (set_of (walked.before ++ c ∷ []))) Short
    ≡ (if t then Err Short else Ok (set_of (walked.before ++ c ∷ [])))) [ true ↦ refl | false ↦ refl ]
    ∙ sym (read_of-chain reply list (Some (walked.before ++ c ∷ [])) ends)

-- at a context that is there
walked-at : (reply : Bool) (list rest : List ℕ) (so_far : Option ContextSet) (c : Context) (next : ℕ) → (walked : Walked reply list rest so_far)
    → context_of rest ≡ Some c → 16 ≤ length rest → next ≡ number_at 4 0 rest
    → (others : ℕ) × (suc others ≡ walked.most) × (contexts_of list ≡ in_front walked.before (chained next (Some c) (chain_of others (drop next rest))))
walked-at reply list rest so_far c next walked found long is =
    let enough = walked.enough in
    let f = chain-found walked.most rest c (omega arith) found in
    (f.0, f.1, walked.chain ∙ ap (in_front walked.before) (f.2 ∙ ap (λ (n : ℕ). chained n (Some c) (chain_of f.0 (drop n rest))) (sym is)))

chained-small : (next : ℕ) (c : Context) (o : Option (List Context)) → next ≢ 0 → next < 16 → chained next (Some c) o ≡ None
chained-small next c o some small =
    let not_zero : (next == 0) ≡ false = grind (arith, nat_tests) in
    let low : nat_lt next 16 ≡ true = grind (arith, nat_tests) in
    ap (λ (t : Bool). if t then Some (c ∷ []) else if nat_lt next 16 then None else option_map (λ cs. c ∷ cs) o) not_zero
    ∙ ap (λ (t : Bool). if t then None else option_map (λ cs. c ∷ cs) o) low

pub chained-wide : (next : ℕ) (c : Context) (o : Option (List Context)) → 16 ≤ next → chained next (Some c) o ≡ option_map (λ cs. c ∷ cs) o
chained-wide next c o wide =
    let not_zero : (next == 0) ≡ false = grind (arith, nat_tests) in
    let high : nat_lt next 16 ≡ false = grind (arith, nat_tests) in
    ap (λ (t : Bool). if t then Some (c ∷ []) else if nat_lt next 16 then None else option_map (λ cs. c ∷ cs) o) not_zero
    ∙ ap (λ (t : Bool). if t then None else option_map (λ cs. c ∷ cs) o) high

context_of-empty : context_of [] ≡ None
unfolding context_of
context_of-empty = refl

-- the next context would begin in this one's 16 bytes
pub walked_small : (reply : Bool) (list rest : List ℕ) (so_far : Option ContextSet) (c : Context) (next : ℕ) → Walked reply list rest so_far
    → context_of rest ≡ Some c → 16 ≤ length rest → next ≡ number_at 4 0 rest → next ≢ 0 → next < 16
    → Err Offset ≡ read_of reply list
walked_small reply list rest so_far c next walked found long is some small =
    let at = walked-at reply list rest so_far c next walked found long is in
    sym (read_of-chain reply list None (at.2 ∙ ap (in_front walked.before) (chained-small next c (chain_of at.0 (drop next rest)) some small)))

-- or behind the list
pub walked_past : (reply : Bool) (list rest : List ℕ) (so_far : Option ContextSet) (c : Context) (next : ℕ) → Walked reply list rest so_far
    → context_of rest ≡ Some c → 16 ≤ length rest → next ≡ number_at 4 0 rest → length rest < next
    → Err Offset ≡ read_of reply list
walked_past reply list rest so_far c next walked found long is past =
    let at = walked-at reply list rest so_far c next walked found long is in
    let none : drop next rest ≡ [] = drop_all next rest (omega arith) in
    let lost : chain_of at.0 (drop next rest) ≡ None = chain-lost at.0 (drop next rest) (ap context_of none ∙ context_of-empty) in
    sym (read_of-chain reply list None (at.2 ∙ ap (in_front walked.before)
    (chained-wide next c (chain_of at.0 (drop next rest)) (omega arith) ∙ ap (option_map (λ cs. c ∷ cs)) lost)))

-- the walk goes on at the next context
pub walked_more : (reply : Bool) (list rest others : List ℕ) (so_far : Option ContextSet) (c : Context) (next : ℕ) → Walked reply list rest so_far
    → context_of rest ≡ Some c → 16 ≤ length rest → next ≡ number_at 4 0 rest → 16 ≤ next → others ≡ drop next rest
    → Walked reply list others (extended reply so_far c)
walked_more reply list rest others so_far c next walked found long is wide at_next =
    let at = walked-at reply list rest so_far c next walked found long is in
    let enough = walked.enough in
    let one_less = at.1 in
    record {
      most = at.0;
      before = walked.before ++ c ∷ [];
      enough = omega (arith, ap length at_next, length-drop next rest);
      chain =
          at.2
          ∙ ap (in_front walked.before) (chained-wide next c (chain_of at.0 (drop next rest)) wide)
          ∙ in_front-more walked.before c (chain_of at.0 (drop next rest))
          ∙ ap (λ (xs : List ℕ). in_front (walked.before ++ c ∷ []) (chain_of at.0 xs)) (sym at_next);
      held = ap (λ (o : Option ContextSet). extended reply o c) walked.held ∙ sym (gathered-append reply walked.before c);
    }

-- no context says nothing
pub gathered-none : (reply : Bool) → Some (record { lease = None; durable = false; reclaim = None }) ≡ gathered reply []
unfolding gathered set_of
gathered-none reply = refl

-- and so does the empty list
pub read_of-empty : (reply : Bool) (list : List ℕ) → (length list == 0) ≡ true → Ok (record { lease = None; durable = false; reclaim = None }) ≡ read_of reply list
unfolding read_of contexts_of set_of
read_of-empty reply list empty = sym (ap (λ (t : Bool). answer reply (if t then Some [] else chain_of (length list) list)) empty)

-- a length that is not 0 is more
pub positive : (n : ℕ) → (n == 0) ≡ false → 0 < n
positive zero none = cc
positive (suc n) none = omega arith
