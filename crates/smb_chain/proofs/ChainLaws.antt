-- Chains: their lengths, one message more, and that they are split into what was added.
use Rattle.std.proofs.Common.{◌≡◌, ◌∙◌, refl, sym, ap, ℕ, zero, suc, ◌+◌, ◌-◌, ◌%◌, ◌^◌, ◌<◌, ◌≤◌, Bool, false, nat_eq, List, [], ◌∷◌, ◌++◌, length, take, drop, map, replicate, All, Result, Ok, arith, append_assoc, length-append, length-drop}
use Rattle.std.proofs.lemmas.List.{append-nil, take_at, drop_at, length-replicate}
use Rattle.std.proofs.lemmas.List.Elements.{All-append}
use Rattle.smb_le.specs.Numbers.{number_at}
use Rattle.smb_head.specs.declared.head.Head.{Head}
use Rattle.smb_head.specs.Header.{FitsHeader, IsRouted, header}
use Rattle.smb_head.proofs.HeadLaws.{length-header, next-read}
use Rattle.smb_chain.specs.declared.builder.Message.{Message}
use Rattle.smb_chain.specs.declared.parts.BadNext.{BadNext}
use Rattle.smb_chain.specs.Chain.{padded, linked, size_of, last_part, linked_part, part_for, parts_for, chain}
use Rattle.smb_chain.specs.Parts.{Step, Only, Then, step_of, with_rest, parts_of}
use Rattle.smb_chain.proofs.PartLaws.{parts_of-step}

-- ---- how long

padded-bounds : (n : ℕ) → (n ≤ padded n) × (padded n < n + 8)
padded-bounds n = (omega arith, omega arith)

padded-of : (n : ℕ) → padded n % 8 ≡ 0
padded-of n = omega arith

padded-add : (a b : ℕ) → padded (padded a + b) ≡ padded a + padded b
padded-add a b = omega arith

length-last_part : (m : Message) → length (last_part m) ≡ size_of m
length-last_part m = omega (arith, length-append (header (linked m.head 0)) m.body, length-header (linked m.head 0))

length-linked_part : (m : Message) → length (linked_part m) ≡ padded (size_of m)
length-linked_part m =
    let more = padded-bounds (size_of m) in
    omega (arith, more.0, length-append (header (linked m.head (padded (size_of m)))) (m.body ++ replicate (padded (size_of m) - size_of m) 0), length-append m.body (replicate (padded (size_of m) - size_of m) 0), length-replicate {A = ℕ} (padded (size_of m) - size_of m) 0, length-header (linked m.head (padded (size_of m))))

pub chain-nil : chain [] ≡ []
unfolding chain
chain-nil = refl

chain-last : (m : Message) → chain (m ∷ []) ≡ last_part m
unfolding chain
chain-last m = append-nil (last_part m)

chain-linked : (m next : Message) (others : List Message) → chain (m ∷ next ∷ others) ≡ linked_part m ++ chain (next ∷ others)
unfolding chain
chain-linked m next others = refl

-- a message and the others
pub chain-step : (m : Message) (others : List Message) → chain (m ∷ others) ≡ part_for m (nat_eq (length others) 0) ++ chain others
chain-step m [] = chain-last m ∙ sym (append-nil (last_part m)) ∙ ap (λ (l : List ℕ). last_part m ++ l) (sym chain-nil)
chain-step m (next ∷ others) =
    let more : nat_eq (suc (length others)) 0 ≡ false = grind arith in
    rw more (chain-linked m next others)

-- each message is one of a header at least
length-chain-cons : (m : Message) (others : List Message) → size_of m ≤ length (chain (m ∷ others))
length-chain-cons m [] = omega (arith, ap length (chain-last m), length-last_part m)
length-chain-cons m (next ∷ others) =
    let more = padded-bounds (size_of m) in
    omega (arith, more.0, ap length (chain-linked m next others), length-append (linked_part m) (chain (next ∷ others)), length-linked_part m)

-- one message more
pub length-chain-more : (ms : List Message) (m : Message) → length (chain (ms ++ m ∷ [])) ≡ padded (length (chain ms)) + size_of m
length-chain-more [] m = omega (arith, ap length (chain-last m), length-last_part m, ap length chain-nil)
length-chain-more (a ∷ []) m =
    omega (arith, ap length (chain-linked a m []), length-append (linked_part a) (chain (m ∷ [])), length-linked_part a, ap length (chain-last m), length-last_part m, ap (λ (l : List ℕ). padded (length l)) (chain-last a), ap padded (length-last_part a))
length-chain-more (a ∷ b ∷ ms) m =
    let others = length-chain-more (b ∷ ms) m in
    omega (
      arith,
      others,
      ap length (chain-linked a b (ms ++ m ∷ [])),
      length-append (linked_part a) (chain (b ∷ (ms ++ m ∷ []))),
      length-linked_part a,
      ap (λ (l : List ℕ). padded (length l)) (chain-linked a b ms),
      ap padded (length-append (linked_part a) (chain (b ∷ ms))),
      ap (λ (n : ℕ). padded (n + length (chain (b ∷ ms)))) (length-linked_part a),
      padded-add (size_of a) (length (chain (b ∷ ms))),
    )

-- a chain that is written from the front: what is left is no longer than the whole
pub length-part_for : (m : Message) (others : List Message) → length (chain others) ≤ length (chain (m ∷ others))
length-part_for m others =
    omega (arith, ap length (chain-step m others), length-append (part_for m (nat_eq (length others) 0)) (chain others))

pub size-le-chain : (m : Message) (others : List Message) → 64 + length m.body ≤ length (chain (m ∷ others))
size-le-chain m others = length-chain-cons m others

same-test : (a b : ℕ) → a ≤ b → nat_eq (b - a) 0 ≡ nat_eq a b
same-test a b h = grind arith

-- a chain that is written message by message, one on
pub written-more : (ms : List Message) (i : ℕ) (m : Message) (out new goal : List ℕ) → i < length ms → drop i ms ≡ m ∷ drop (i + 1) ms
    → out ++ chain (drop i ms) ≡ goal → new ≡ out ++ part_for m (nat_eq (i + 1) (length ms)) → new ++ chain (drop (i + 1) ms) ≡ goal
written-more ms i m out new goal within front told is_new =
    let last : nat_eq (length (drop (i + 1) ms)) 0 ≡ nat_eq (i + 1) (length ms) =
    ap (λ (n : ℕ). nat_eq n 0) (length-drop (i + 1) ms) ∙ same-test (i + 1) (length ms) (omega arith) in
    let rest = drop (i + 1) ms in
    ap (λ (l : List ℕ). l ++ chain rest) is_new
    ∙ append_assoc out (part_for m (nat_eq (i + 1) (length ms))) (chain rest)
    ∙ ap (λ (b : Bool). out ++ (part_for m b ++ chain rest)) (sym last)
    ∙ ap (λ (l : List ℕ). out ++ l) (sym (chain-step m rest))
    ∙ ap (λ (l : List Message). out ++ chain l) (sym front)
    ∙ told

-- ---- what is split

step_of-last : (m : Message) → step_of (last_part m) ≡ Only (last_part m)
unfolding step_of
step_of-last m =
    let next : number_at 4 20 (last_part m) ≡ 0 = next-read (linked m.head 0) m.body (omega arith) in
    let long = length-last_part m in
    rw next (grind arith)

step_of-linked : (m : Message) (rest : List ℕ) → padded (size_of m) < 2 ^ 32 → 64 ≤ length rest → step_of (linked_part m ++ rest) ≡ Then (linked_part m) rest
unfolding step_of
step_of-linked m rest small long =
    let n = padded (size_of m) in
    let next : number_at 4 20 (linked_part m ++ rest) ≡ n =
    ap (number_at 4 20) (append_assoc (header (linked m.head n)) (m.body ++ replicate (n - size_of m) 0) rest)
    ∙ next-read (linked m.head n) ((m.body ++ replicate (n - size_of m) 0) ++ rest) small in
    let its = length-linked_part m in
    let whole = length-append (linked_part m) rest in
    let more = padded-bounds (size_of m) in
    let even = padded-of (size_of m) in
    let front : take n (linked_part m ++ rest) ≡ linked_part m = take_at (linked_part m) rest n its in
    let back : drop n (linked_part m ++ rest) ≡ rest = drop_at (linked_part m) rest n its in
    rw (next, front, back) (grind arith)

pub parts_of-chain : (ms : List Message) → length (chain ms) < 2 ^ 32 → 0 < length ms → parts_of (chain ms) ≡ map (λ (part : List ℕ). Ok part) (parts_for ms)
parts_of-chain [] small some = absurd (omega arith)
parts_of-chain (m ∷ []) small some =
    rw (chain-last m) (parts_of-step (last_part m) ∙ ap (λ (s : Step). with_rest s parts_of) (step_of-last m))
parts_of-chain (m ∷ next ∷ others) small some =
    let joined = ap length (chain-linked m next others) ∙ length-append (linked_part m) (chain (next ∷ others)) in
    let its = length-linked_part m in
    let room = length-chain-cons next others in
    let step = step_of-linked m (chain (next ∷ others)) (omega arith) (omega arith) in
    let rest = parts_of-chain (next ∷ others) (omega arith) (omega arith) in
    ap parts_of (chain-linked m next others)
    ∙ parts_of-step (linked_part m ++ chain (next ∷ others))
    ∙ ap (λ (s : Step). with_rest s parts_of) step
    ∙ ap (λ (l : List (Result (List ℕ) BadNext)). Ok (linked_part m) ∷ l) rest

-- another place of the next message fits as well
pub fits-linked : (head : Head) (n : ℕ) → n < 2 ^ 32 → FitsHeader head → FitsHeader (linked head n)
fits-linked head n small fits = record {
  charge = fits.charge;
  status = fits.status;
  command = fits.command;
  credits = fits.credits;
  flags = fits.flags;
  next = small;
  mid = fits.mid;
  route = fits.route;
  session = fits.session;
}

-- a message more whose route agrees with its flags
pub routed-more : (ms : List Message) (m : Message) → All (λ (m : Message). IsRouted m.head) ms → IsRouted m.head → All (λ (m : Message). IsRouted m.head) (ms ++ m ∷ [])
routed-more ms m each one = All-append (λ (m : Message). IsRouted m.head) ms (m ∷ []) each (single m one)
  where
    single : (m : Message) → IsRouted m.head → All (λ (m : Message). IsRouted m.head) (m ∷ [])
    single m one zero d within = one
    single m one (suc k) d within = absurd (omega arith)
