-- An index of the nodes so far, with those that are to come.
use Rattle.std.proofs.Common.{◌≡◌, ℕ, Bool, true, false, cond, ◌||◌, ◌&&◌, ◌==◌, List, [], ◌∷◌, length, Option, Some, None, refl, sym, ap, subst, ◌∙◌, ⊎_elim, nat_lt, Less, Equal, Greater, is_eq}
use Rattle.std.specs.Ordering.{nat_cmp}
use Rattle.std.proofs.lemmas.Bool.{cases_eq, eq-eqb, ne_eqb}
use Rattle.share_state.specs.declared.node.Node.{Node}
use Rattle.share_state.specs.State.{is_directory, is_read_only, size_of}
use Rattle.share_list.specs.declared.index.Facts.{Facts}
use Rattle.share_list.specs.Index.{facts_in, facts_of, with_node}

-- what is known of a number together with what further nodes say of it
abbrev pub facts_with : Option Facts → List Node → ℕ → Facts
facts_with None nodes n = facts_in nodes n
facts_with (Some facts) nodes n =
    record { dir = facts.dir || is_directory nodes n; size = facts.size; read_only = facts.read_only || is_read_only nodes n }

or_false : (a : Bool) → a || false ≡ a
or_false true = refl
or_false false = refl

pub facts_with_none : (known : Option Facts) (n : ℕ) → facts_with known [] n ≡ facts_of known
facts_with_none None n = refl
facts_with_none (Some facts) n = λ i. record { dir = or_false facts.dir i; size = facts.size; read_only = or_false facts.read_only i }

or_or : (a b c : Bool) → (a || b) || c ≡ a || (b || c)
or_or true b c = refl
or_or false b c = refl

-- the next node has the number
pub facts_with_here : (known : Option Facts) (x : Node) (nodes : List Node) (n : ℕ) → (x.number == n) ≡ true
    → facts_with (Some (with_node known x)) nodes n ≡ facts_with known (x ∷ nodes) n
facts_with_here None x nodes n e = λ i. record {
  dir = (sym e i && x.dir) || is_directory nodes n;
  size = cond (sym e i) (length x.bytes) (size_of nodes n);
  read_only = (sym e i && x.read_only) || is_read_only nodes n;
}
facts_with_here (Some facts) x nodes n e =
    (λ i. record {
      dir = or_or facts.dir x.dir (is_directory nodes n) i;
      size = facts.size;
      read_only = or_or facts.read_only x.read_only (is_read_only nodes n) i;
    })
    ∙ (λ i. record {
      dir = facts.dir || ((sym e i && x.dir) || is_directory nodes n);
      size = facts.size;
      read_only = facts.read_only || ((sym e i && x.read_only) || is_read_only nodes n);
    })

-- the next node has another number
pub facts_with_other : (known : Option Facts) (x : Node) (nodes : List Node) (n : ℕ) → (x.number == n) ≡ false
    → facts_with known nodes n ≡ facts_with known (x ∷ nodes) n
facts_with_other None x nodes n e i = record {
  dir = (sym e i && x.dir) || is_directory nodes n;
  size = cond (sym e i) (length x.bytes) (size_of nodes n);
  read_only = (sym e i && x.read_only) || is_read_only nodes n;
}
facts_with_other (Some facts) x nodes n e i = record {
  dir = facts.dir || ((sym e i && x.dir) || is_directory nodes n);
  size = facts.size;
  read_only = facts.read_only || ((sym e i && x.read_only) || is_read_only nodes n);
}

-- no order is level where two numbers differ
not_level : (a b : Bool) → b ≡ false → is_eq (cond a Less (cond b Equal Greater)) ≡ false
not_level true b e = refl
not_level false b e = ap (λ d. is_eq (cond d Equal Greater)) e

-- one more node, put into an index
pub facts_with_more : (old new : ℕ → Option Facts) (x : Node) (nodes : List Node) → new x.number ≡ Some (with_node (old x.number) x)
    → ((q : ℕ) → is_eq (nat_cmp x.number q) ≡ false → new q ≡ old q) → (n : ℕ) → facts_with (new n) nodes n ≡ facts_with (old n) (x ∷ nodes) n
facts_with_more old new x nodes here others n = ⊎_elim at_it elsewhere (cases_eq x.number n)
  where
    at_it : x.number ≡ n → facts_with (new n) nodes n ≡ facts_with (old n) (x ∷ nodes) n
    at_it e = subst (λ k. facts_with (new k) nodes k ≡ facts_with (old k) (x ∷ nodes) k) e
        (ap (λ f. facts_with f nodes x.number) here ∙ facts_with_here (old x.number) x nodes x.number (eq-eqb x.number x.number refl))

    elsewhere : (x.number ≡ n → ⊥) → facts_with (new n) nodes n ≡ facts_with (old n) (x ∷ nodes) n
    elsewhere ne = let apart : (x.number == n) ≡ false = ne_eqb x.number n ne in
        ap (λ f. facts_with f nodes n) (others n (not_level (nat_lt x.number n) (x.number == n) apart)) ∙ facts_with_other (old n) x nodes n apart
