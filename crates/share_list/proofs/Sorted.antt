-- A stable sort by the units of the names gives the names in order.
use Rattle.std.proofs.Common.{◌≡◌, ℕ, zero, suc, ◌<◌, ◌≤◌, Bool, true, false, cond, not, ◌&&◌, ◌||◌, ◌==◌, List, [], ◌∷◌, length, get_or, filter, refl, sym, ap, ◌∙◌, subst, Ordering, Less, Equal, Greater, is_lt, true≢false, IsSortedBy, nat_lt, suc-le-suc, zero-le, ◌⊎◌, inl, inr}
use Rattle.std.specs.Cmp.{IsStrictWeakOrder}
use Rattle.std.specs.Cmp.Lexicographic.{slice_cmp, nat_list_cmp_total}
use Rattle.std.specs.Ordering.{nat_cmp, ordering_then}
use Rattle.std.specs.List.Sorted.{ties, IsStableBy}
use Rattle.std.proofs.lemmas.List.Sorted.{ranks_by, sorted_far}
use Rattle.share_state.specs.declared.listing.ShareName.{ShareName}
use Rattle.share_state.specs.Listing.{comes_before, put_in_order, in_order}

-- the name of one comes before that of another
abbrev pub before : ShareName → ShareName → Bool
before x y = comes_before x.name y.name

-- the first unit decides, and else the others do
first_decides : (a b c : Bool) (o : Ordering) → is_lt o ≡ c → is_lt (ordering_then (cond a Less (cond b Equal Greater)) o) ≡ a || b && c
first_decides true b c o e = refl
first_decides false true c o e = e
first_decides false false c o e = refl

pub comes_before-is : (xs ys : List ℕ) → is_lt (slice_cmp nat_cmp xs ys) ≡ comes_before xs ys
comes_before-is [] [] = refl
comes_before-is [] (y ∷ ys) = refl
comes_before-is (x ∷ xs) [] = refl
comes_before-is (x ∷ xs) (y ∷ ys) = first_decides (nat_lt x y) (x == y) (comes_before xs ys) (slice_cmp nat_cmp xs ys) (comes_before-is xs ys)

pub before_ranks : IsStrictWeakOrder before
before_ranks = subst IsStrictWeakOrder (λ i x y. comes_before-is x.name y.name i) (ranks_by nat_list_cmp_total (λ (n : ShareName). n.name))

-- none of these comes before n
abbrev AreFrom : ShareName → List ShareName → Type 0
AreFrom n [] = Unit {0}
AreFrom n (m ∷ ms) = (before m n ≡ false) × AreFrom n ms

abbrev Rises : List ShareName → Type 0
Rises [] = Unit {0}
Rises (n ∷ ns) = AreFrom n ns × Rises ns

AreFrom-at : (n : ShareName) (ms : List ShareName) → ((j : ℕ) → j < length ms → before (get_or ms j n) n ≡ false) → AreFrom n ms
AreFrom-at n [] h = tt
AreFrom-at n (m ∷ ms) h = (h zero (suc-le-suc zero-le), AreFrom-at n ms (λ j lt. h (suc j) (suc-le-suc lt)))

AreFrom-before : (n m : ShareName) (ms : List ShareName) → before m n ≡ false → AreFrom m ms → AreFrom n ms
AreFrom-before n m [] le h = tt
AreFrom-before n m (x ∷ xs) le h = (before_ranks.chain x m n h.0 le, AreFrom-before n m xs le h.1)

Rises-at : (ns : List ShareName) → ((i j : ℕ) (d : ShareName) → i ≤ j → j < length ns → before (get_or ns j d) (get_or ns i d) ≡ false) → Rises ns
Rises-at [] h = tt
Rises-at (n ∷ ns) h = (
  AreFrom-at n ns (λ j lt. h zero (suc j) n zero-le (suc-le-suc lt)),
  Rises-at ns (λ i j d le lt. h (suc i) (suc j) d (suc-le-suc le) (suc-le-suc lt)),
)

cases : (b : Bool) → (b ≡ true) ⊎ (b ≡ false)
cases true = inl refl
cases false = inr refl

-- a name put at its place stands among those that are from it on
AreFrom-put : (x n : ShareName) (ms : List ShareName) → before n x ≡ false → AreFrom x ms → AreFrom x (put_in_order n ms)
AreFrom-put x n [] one h = (one, tt)
AreFrom-put x n (m ∷ ms) one h = by (before m n) (AreFrom-put x n ms one h.1)
  where
    by : (b : Bool) → AreFrom x (put_in_order n ms) → AreFrom x (cond b (m ∷ put_in_order n ms) (n ∷ m ∷ ms))
    by true rest = (h.0, rest)
    by false rest = (one, h)

Rises-put : (n : ShareName) (ms : List ShareName) → Rises ms → Rises (put_in_order n ms)
Rises-put n [] h = (tt, tt)
Rises-put n (m ∷ ms) h = by (before m n) refl (Rises-put n ms h.1)
  where
    by : (b : Bool) → before m n ≡ b → Rises (put_in_order n ms) → Rises (cond b (m ∷ put_in_order n ms) (n ∷ m ∷ ms))
    by true e rest = (AreFrom-put m n ms (before_ranks.one_way m n e) h.0, rest)
    by false e rest = ((e, AreFrom-before n m ms e h.0), h)

Rises-in_order : (ns : List ShareName) → Rises (in_order ns)
Rises-in_order [] = tt
Rises-in_order (n ∷ ns) = Rises-put n (in_order ns) (Rises-in_order ns)

-- two names of which one comes before the other are not both level with a third
not_level : (x m n : ShareName) → before m n ≡ true → ties before x m ≡ true → ties before x n ≡ true → ⊥
not_level x m n e p q = by (before x m) (before m x) (before x n) (before n x) refl refl refl refl p q
  where
    by : (a b c d : Bool) → before x m ≡ a → before m x ≡ b → before x n ≡ c → before n x ≡ d → not a && not b ≡ true → not c && not d ≡ true → ⊥
    by false false false false p1 p2 p3 p4 l r = true≢false (sym e ∙ before_ranks.chain m x n p2 p3)
    by true b c d p1 p2 p3 p4 l r = true≢false (sym l)
    by false true c d p1 p2 p3 p4 l r = true≢false (sym l)
    by false false true d p1 p2 p3 p4 l r = true≢false (sym r)
    by false false false true p1 p2 p3 p4 l r = true≢false (sym r)

swapped : (m n : ShareName) (l : List ShareName) (a b : Bool) → (a ≡ true → b ≡ true → ⊥) → cond a (m ∷ cond b (n ∷ l) l) (cond b (n ∷ l) l) ≡ cond b (n ∷ cond a (m ∷ l) l) (cond a (m ∷ l) l)
swapped m n l true true h = absurd (h refl refl)
swapped m n l true false h = refl
swapped m n l false true h = refl
swapped m n l false false h = refl

-- a name put at its place passes only names that it is not level with
filter-put : (x n : ShareName) (ms : List ShareName) → filter (ties before x) (put_in_order n ms) ≡ filter (ties before x) (n ∷ ms)
filter-put x n [] = refl
filter-put x n (m ∷ ms) = by (before m n) refl (filter-put x n ms)
  where
    level : ShareName → Bool
    level = ties before x

    by : (b : Bool) → before m n ≡ b → filter (ties before x) (put_in_order n ms) ≡ filter (ties before x) (n ∷ ms)
        → filter (ties before x) (cond b (m ∷ put_in_order n ms) (n ∷ m ∷ ms)) ≡ filter (ties before x) (n ∷ m ∷ ms)
    by true e same = ap (λ l. cond (ties before x m) (m ∷ l) l) same ∙ swapped m n (filter (ties before x) ms) (ties before x m) (ties before x n) (not_level x m n e)
    by false e same = refl

filter-in_order : (x : ShareName) (ns : List ShareName) → filter (ties before x) (in_order ns) ≡ filter (ties before x) ns
filter-in_order x [] = refl
filter-in_order x (n ∷ ns) = filter-put x n (in_order ns) ∙ ap (λ l. cond (ties before x n) (n ∷ l) l) (filter-in_order x ns)

never_before : (x : ShareName) → before x x ≡ false
never_before x = by (before x x) refl
  where
    by : (b : Bool) → before x x ≡ b → before x x ≡ false
    by true e = before_ranks.one_way x x e
    by false e = e

level_itself : (x : ShareName) → ties before x x ≡ true
level_itself x = ap (λ a. not a && not a) (never_before x)

kept : (x n : ShareName) (ns : List ShareName) → ties before x n ≡ true → filter (ties before x) (n ∷ ns) ≡ n ∷ filter (ties before x) ns
kept x n ns e = ap (λ b. cond b (n ∷ filter (ties before x) ns) (filter (ties before x) ns)) e

dropped : (x n : ShareName) (ns : List ShareName) → ties before x n ≡ false → filter (ties before x) (n ∷ ns) ≡ filter (ties before x) ns
dropped x n ns e = ap (λ b. cond b (n ∷ filter (ties before x) ns) (filter (ties before x) ns)) e

tie_parts : (x y : ShareName) → ties before x y ≡ true → (before x y ≡ false) × (before y x ≡ false)
tie_parts x y h = by (before x y) (before y x) h
  where
    by : (a b : Bool) → not a && not b ≡ true → (a ≡ false) × (b ≡ false)
    by false false e = (refl, refl)
    by true b e = absurd (true≢false (sym e))
    by false true e = absurd (true≢false (sym e))

-- where a name level with x is among names that are from n on, x is no earlier than n
AreFrom-found : (n x : ShareName) (ns : List ShareName) (w : ShareName) (ws : List ShareName) → AreFrom n ns → filter (ties before x) ns ≡ w ∷ ws → before x n ≡ false
AreFrom-found n x [] w ws h e = cc
AreFrom-found n x (m ∷ ms) w ws h e =
    elim (cases (ties before x m)) [
      | inl with ↦ before_ranks.chain x m n (tie_parts x m with).0 h.0
      | inr without ↦ AreFrom-found n x ms w ws h.1 (sym (dropped x m ms without) ∙ e)
    ]

same_from_levels : (ys zs : List ShareName) → Rises ys → Rises zs → ((x : ShareName) → filter (ties before x) ys ≡ filter (ties before x) zs) → ys ≡ zs
same_from_levels [] [] left right same = refl
same_from_levels [] (z ∷ zs) left right same = let clash = same z ∙ kept z z zs (level_itself z) in cc
same_from_levels (y ∷ ys) [] left right same = let clash = sym (same y) ∙ kept y y ys (level_itself y) in cc
same_from_levels (y ∷ ys) (z ∷ zs) left right same =
    let at_y = kept y y ys (level_itself y) in
    let at_z = kept z z zs (level_itself z) in
    let up = AreFrom-found z y (z ∷ zs) y _ (never_before z, right.0) (sym (same y) ∙ at_y) in
    let down = AreFrom-found y z (y ∷ ys) z _ (never_before y, left.0) (same z ∙ at_z) in
    let level : ties before y z ≡ true = ap (λ a. not a && not (before z y)) up ∙ ap (λ a. not false && not a) down in
    let heads = sym at_y ∙ same y ∙ kept y z zs level in
    let head : y ≡ z = cc in
    let tails : (x : ShareName) → filter (ties before x) ys ≡ filter (ties before x) zs =
    λ x. elim (cases (ties before x y)) [
      | inl with ↦ let both = sym (kept x y ys with) ∙ same x ∙ kept x z zs (ap (ties before x) (sym head) ∙ with) in cc
      | inr without ↦ sym (dropped x y ys without) ∙ same x ∙ dropped x z zs (ap (ties before x) (sym head) ∙ without)
    ] in
    ap (λ w. w ∷ ys) head ∙ ap (λ l. z ∷ l) (same_from_levels ys zs left.1 right.1 tails)

pub in_order-from_sort : (xs ys : List ShareName) → IsSortedBy before ys → IsStableBy before xs ys → ys ≡ in_order xs
in_order-from_sort xs ys sorted stable =
    same_from_levels ys (in_order xs) (Rises-at ys (sorted_far before before_ranks ys sorted)) (Rises-in_order xs)
    (λ x. stable x ∙ sym (filter-in_order x xs))
