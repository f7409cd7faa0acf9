-- Pairs of opens that have the same numbers on both shares.
use Rattle.std.proofs.Common.{rules, ◌≡◌, ℕ, true, false, [], ◌∷◌, ◌++◌, ◌+◌, ◌≤◌, ◌<◌, refl, ap, sym, ◌∙◌, inl, inr, List, Bool, ◌==◌, if◌then◌else◌}
use Rattle.std.proofs.lemmas.Bool.{cases_lt}
use Rattle.std.proofs.lemmas.Bool.Decides.{eqb_tells}
use Rattle.share_state.specs.declared.request.RepBody.{RepBody}
use Rattle.share_state.specs.declared.request.RepBody.TheVariants as body
use Rattle.share_state.specs.declared.request.Rep.{Rep}
use Rattle.share_state.specs.declared.share.Share.{Share}
use Rattle.fs_plain.specs.Paired.{Pair, plain_of_real, opened_number, open_given, paired, pair_given, NamesIn, Names}
use Rattle.fs_plain.specs.Alike.{AreSame}
use Rattle.fs_plain.proofs.Steps.{Counts}

-- an open that has one number on both shares
abbrev pub twice : List ℕ → ℕ → Pair
twice path n = record { plain = n; real = n; path = path }

-- before the first open
pub none_made : AreSame [] 0
none_made = record { known = λ n low high. search rules; unknown = λ n more. refl; none = refl }

at_head : (path : List ℕ) (n m : ℕ) (pairs : List Pair) → m ≡ n → plain_of_real (twice path m ∷ pairs) n ≡ m
at_head path n m pairs is = rw (equal m n is) refl
  where
    equal : (m n : ℕ) → m ≡ n → (m == n) ≡ true
    equal m n is = search rules

behind_head : (path : List ℕ) (n m : ℕ) (pairs : List Pair) → (m == n) ≡ false → plain_of_real (twice path m ∷ pairs) n ≡ plain_of_real pairs n
behind_head path n m pairs other = rw other refl

-- with the next open, which has the next number on both
pub one_more_same : (path : List ℕ) (pairs : List Pair) (made : ℕ) → AreSame pairs made → AreSame (twice path (made + 1) ∷ pairs) (made + 1)
one_more_same path pairs made same = record {
  known = λ n low high. elim (eqb_tells (made + 1) n) [
    | inl told ↦ at_head path n (made + 1) pairs told.1 ∙ told.1
    | inr told ↦ behind_head path n (made + 1) pairs told.0 ∙ same.known n low (lower n made high told.1)
  ];
  unknown = λ n more. elim (eqb_tells (made + 1) n) [
    | inl told ↦ absurd (above n made more told.1)
    | inr told ↦ behind_head path n (made + 1) pairs told.0 ∙ same.unknown n (search rules)
  ];
  none = behind_head path 0 (made + 1) pairs (search rules) ∙ same.none;
}
  where
    lower : (n made : ℕ) → n ≤ made + 1 → (made + 1 ≡ n → ⊥) → n ≤ made
    lower n made high other = search rules

    above : (n made : ℕ) → made + 1 < n → made + 1 ≡ n → ⊥
    above n made more is = search rules

-- an open's number is the one that stands for a number exactly where it is that number
pub same_test : (pairs : List Pair) (made o p : ℕ) → AreSame pairs made → 1 ≤ o → o ≤ made → (o == plain_of_real pairs p) ≡ (o == p)
same_test pairs made o p same low high = elim (cases_lt made p) [
  | inl more ↦ ap (λ (q : ℕ). o == q) (same.unknown p more) ∙ too_great o made p low high more
  | inr less ↦ elim (cases_lt 0 p) [
    | inl some ↦ ap (λ (q : ℕ). o == q) (same.known p some less)
    | inr none ↦ ap (λ (q : ℕ). o == plain_of_real pairs q) (is_zero p none) ∙ ap (λ (q : ℕ). o == q) same.none ∙ ap (λ (q : ℕ). o == q) (sym (is_zero p none))
  ]
]
  where
    is_zero : (p : ℕ) → p ≤ 0 → p ≡ 0
    is_zero p none = search rules

    not_that : (o p : ℕ) → o < p → (o == p) ≡ false
    not_that o p less = search rules

    not_zero : (o : ℕ) → 1 ≤ o → (o == 0) ≡ false
    not_zero o low = search rules

    too_great : (o made p : ℕ) → 1 ≤ o → o ≤ made → made < p → (o == 0) ≡ (o == p)
    too_great o made p low high more = not_zero o low ∙ sym (not_that o p (search rules))

-- the pair that a reply gives which names its open in both halves
pair_named : (path : List ℕ) (b : RepBody) → NamesIn b
    → paired path (open_given b) (open_given b) ≡ (if opened_number b == 0 then [] else twice path (opened_number b) ∷ [])
pair_named path (body.Opened fid action size attributes lease durable) names =
    sym (ap (λ (t : Bool). if t then [] else twice path fid.persistent ∷ []) names.1)
pair_named path body.None names = refl
pair_named path (body.Bytes a) names = refl
pair_named path (body.Count a) names = refl
pair_named path (body.Info a b c d e f) names = refl
pair_named path (body.Names a) names = refl
pair_named path (body.Room a b) names = refl

-- the pairs with the one that a request made, which has the next number on both
abbrev pub pairs_with : List ℕ → ℕ → List Pair → List Pair
pairs_with path n pairs = (if n == 0 then [] else twice path n ∷ []) ++ pairs

none_new : (path : List ℕ) (pairs : List Pair) (n : ℕ) → n ≡ 0 → pairs_with path n pairs ≡ pairs
none_new path pairs n none = ap (λ (m : ℕ). pairs_with path m pairs) none

one_new : (path : List ℕ) (pairs : List Pair) (n made : ℕ) → n ≡ made + 1 → pairs_with path n pairs ≡ twice path (made + 1) ∷ pairs
one_new path pairs n made is = ap (λ (m : ℕ). pairs_with path m pairs) is
    ∙ ap (λ (t : Bool). (if t then [] else twice path (made + 1) ∷ []) ++ pairs) (some made)
  where
    some : (made : ℕ) → (made + 1 == 0) ≡ false
    some made = search rules

same_at : (pairs pairs' : List Pair) (made made' : ℕ) → pairs' ≡ pairs → made' ≡ made → AreSame pairs made → AreSame pairs' made'
same_at pairs pairs' made made' is is' same = rw is (rw is' same)

pub pairs_counted : (path : List ℕ) (pairs : List Pair) (s : Share) (done : Rep × Share) → Names done.0 → Counts s done → AreSame pairs s.opens_made
    → AreSame (pair_given path done.0 done.0 ++ pairs) done.1.opens_made
pairs_counted path pairs s done names (inl none) same =
    same_at pairs (pair_given path done.0 done.0 ++ pairs) s.opens_made done.1.opens_made
    (ap (λ (l : List Pair). l ++ pairs) (pair_named path done.0.body names) ∙ none_new path pairs (opened_number done.0.body) none.0) none.1 same
pairs_counted path pairs s done names (inr one) same =
    same_at (twice path (s.opens_made + 1) ∷ pairs) (pair_given path done.0 done.0 ++ pairs) (s.opens_made + 1) done.1.opens_made
    (ap (λ (l : List Pair). l ++ pairs) (pair_named path done.0.body names) ∙ one_new path pairs (opened_number done.0.body) s.opens_made one.0) one.1
    (one_more_same path pairs s.opens_made same)
