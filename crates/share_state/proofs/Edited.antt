-- A list whose first item of a kind is changed or taken off, by the place of that item.
use Rattle.std.proofs.Common.{◌≡◌, ℕ, ◌+◌, ◌<◌, ◌≤◌, Bool, true, false, not, if◌then◌else◌, List, [], ◌∷◌, length, get_or, refl, sym, ap, subst, suc, arith, Some, None}
use Rattle.std.specs.Prelude.{cond, nat_lt, slice_set}
use Rattle.std.specs.List.{position, position_or_len, remove}
use Rattle.share_state.specs.declared.lock.Lock.{Lock}
use Rattle.share_state.specs.Locking.{is_exactly, unlocked}
use Rattle.share_state.specs.State.{edited}

-- no item is of the kind
pub missing : {X : Type 0} (is : X → Bool) (xs : List X) → position is xs ≡ None → length xs ≤ position_or_len is xs
missing is xs none = by (nat_lt (position_or_len is xs) (length xs)) refl none
  where
    by : (b : Bool) → nat_lt (position_or_len is xs) (length xs) ≡ b → cond b (Some (position_or_len is xs)) None ≡ None → length xs ≤ position_or_len is xs
    by true e none = absurd (cc none)
    by false e none = grind arith

-- the first item of the kind has this place
pub placed : {X : Type 0} (is : X → Bool) (xs : List X) (i : ℕ) → position is xs ≡ Some i → (i ≡ position_or_len is xs) × (i < length xs)
placed is xs i some = by (nat_lt (position_or_len is xs) (length xs)) refl some
  where
    by : (b : Bool) → nat_lt (position_or_len is xs) (length xs) ≡ b → cond b (Some (position_or_len is xs)) None ≡ Some i → (i ≡ position_or_len is xs) × (i < length xs)
    by true e some = let k : position_or_len is xs ≡ i = cc some in (sym k, grind arith)
    by false e some = absurd (cc some)

unedited : {X : Type 0} (is : X → Bool) (change : X → X) (xs : List X) → length xs ≤ position_or_len is xs → edited is change xs ≡ xs
unedited is change [] h = refl
unedited is change (x ∷ xs) h = by (is x) h (unedited is change xs)
  where
    by : (b : Bool) → length (x ∷ xs) ≤ cond (not b) (1 + position_or_len is xs) 0 → (length xs ≤ position_or_len is xs → edited is change xs ≡ xs)
        → (if b then change x ∷ xs else x ∷ edited is change xs) ≡ x ∷ xs
    by true h more = absurd (omega arith)
    by false h more = ap (◌∷◌ x) (more (omega arith))

edited_first : {X : Type 0} (is : X → Bool) (change : X → X) (xs : List X) (d : X) → position_or_len is xs < length xs
    → slice_set xs (position_or_len is xs) (change (get_or xs (position_or_len is xs) d)) ≡ edited is change xs
edited_first is change [] d h = absurd (omega arith)
edited_first is change (x ∷ xs) d h = by (is x) h (edited_first is change xs d)
  where
    by : (b : Bool) → cond (not b) (1 + position_or_len is xs) 0 < length (x ∷ xs)
        → (position_or_len is xs < length xs → slice_set xs (position_or_len is xs) (change (get_or xs (position_or_len is xs) d)) ≡ edited is change xs)
        → slice_set (x ∷ xs) (cond (not b) (1 + position_or_len is xs) 0) (change (get_or (x ∷ xs) (cond (not b) (1 + position_or_len is xs) 0) d))
        ≡ (if b then change x ∷ xs else x ∷ edited is change xs)
    by true h more = refl
    by false h more = let next : 1 + position_or_len is xs ≡ suc (position_or_len is xs) = omega arith in rw next (ap (◌∷◌ x) (more (omega arith)))

-- where no item is of the kind, nothing changes
pub edited_none : {X : Type 0} (is : X → Bool) (change : X → X) (xs : List X) → position is xs ≡ None → xs ≡ edited is change xs
edited_none is change xs none = sym (unedited is change xs (missing is xs none))

-- the first item of the kind is written over with what it is changed to
pub edited_at : {X : Type 0} (is : X → Bool) (change : X → X) (xs : List X) (i : ℕ) (x y : X) → position is xs ≡ Some i → x ≡ get_or xs i x → y ≡ change x
    → slice_set xs i y ≡ edited is change xs
edited_at is change xs i x y some at new = let p = placed is xs i some in
    rw (new, at, p.0) (edited_first is change xs x (subst (λ (n : ℕ). n < length xs) p.0 p.1))

still_locked : (holder offset size : ℕ) (ls : List Lock) → length ls ≤ position_or_len (is_exactly holder offset size) ls → unlocked holder offset size ls ≡ ls
still_locked holder offset size [] h = refl
still_locked holder offset size (l ∷ ls) h = by (is_exactly holder offset size l) h (still_locked holder offset size ls)
  where
    by : (b : Bool) → length (l ∷ ls) ≤ cond (not b) (1 + position_or_len (is_exactly holder offset size) ls) 0
        → (length ls ≤ position_or_len (is_exactly holder offset size) ls → unlocked holder offset size ls ≡ ls)
        → (if b then ls else l ∷ unlocked holder offset size ls) ≡ l ∷ ls
    by true h more = absurd (omega arith)
    by false h more = ap (◌∷◌ l) (more (omega arith))

unlocked_first : (holder offset size : ℕ) (ls : List Lock) → position_or_len (is_exactly holder offset size) ls < length ls
    → remove ls (position_or_len (is_exactly holder offset size) ls) ≡ unlocked holder offset size ls
unlocked_first holder offset size [] h = absurd (omega arith)
unlocked_first holder offset size (l ∷ ls) h = by (is_exactly holder offset size l) h (unlocked_first holder offset size ls)
  where
    by : (b : Bool) → cond (not b) (1 + position_or_len (is_exactly holder offset size) ls) 0 < length (l ∷ ls)
        → (position_or_len (is_exactly holder offset size) ls < length ls
        → remove ls (position_or_len (is_exactly holder offset size) ls) ≡ unlocked holder offset size ls)
        → remove (l ∷ ls) (cond (not b) (1 + position_or_len (is_exactly holder offset size) ls) 0) ≡ (if b then ls else l ∷ unlocked holder offset size ls)
    by true h more = refl
    by false h more =
        let next : 1 + position_or_len (is_exactly holder offset size) ls ≡ suc (position_or_len (is_exactly holder offset size) ls) = omega arith in
        rw next (ap (◌∷◌ l) (more (omega arith)))

-- where no lock is exactly this one, nothing is taken off
pub unlocked_none : (holder offset size : ℕ) (ls : List Lock) → position (is_exactly holder offset size) ls ≡ None → ls ≡ unlocked holder offset size ls
unlocked_none holder offset size ls none = sym (still_locked holder offset size ls (missing (is_exactly holder offset size) ls none))

-- the first lock that is exactly this one is taken off
pub unlocked_at : (holder offset size : ℕ) (ls : List Lock) (i : ℕ) → position (is_exactly holder offset size) ls ≡ Some i
    → remove ls i ≡ unlocked holder offset size ls
unlocked_at holder offset size ls i some = let p = placed (is_exactly holder offset size) ls i some in
    rw p.0 (unlocked_first holder offset size ls (subst (λ (n : ℕ). n < length ls) p.0 p.1))
