-- The first line of a list of bytes.
use Rattle.std.proofs.Common.{◌≡◌, ◌≢◌, ◌∙◌, ◌⊎◌, refl, sym, ap, ℕ, suc, ◌+◌, ◌<◌, ◌≤◌, ◌==◌, List, [], ◌∷◌, ◌++◌, length, take, drop, get_or, Bool, true, false, cond, Some, None, inl, inr, arith, length-append, take-append-drop, length-drop}
use Rattle.std.proofs.lemmas.List.{append-nil, take_more, drop_more, drop-drop, drop-take, take-take}
use Rattle.std.proofs.lemmas.Bool.{ne_eqb, eqb-true, eqb-false}
use Rattle.std.specs.List.{AllByRecursion}
use Rattle.fs_lines.specs.Line.{first_line, behind, EndsAt}

more_at : (b : Bool) (x : ℕ) (xs ys : List ℕ) → cond b [] (x ∷ first_line xs) ≡ x ∷ xs
    → (first_line xs ≡ xs → first_line (xs ++ ys) ≡ xs ++ first_line ys)
    → cond b [] (x ∷ first_line (xs ++ ys)) ≡ x ∷ (xs ++ first_line ys)
more_at true x xs ys h others = cc
more_at false x xs ys h others = ap (λ (l : List ℕ). x ∷ l) (others cc)

-- bytes with no LF stand in front of the first line of those behind them
pub first_line-more : (xs ys : List ℕ) → first_line xs ≡ xs → first_line (xs ++ ys) ≡ xs ++ first_line ys
first_line-more [] ys h = refl
first_line-more (x ∷ xs) ys h = more_at (x == 10) x xs ys h (first_line-more xs ys)

behind_at : (b : Bool) (x : ℕ) (xs ys : List ℕ) → cond b [] (x ∷ first_line xs) ≡ x ∷ xs
    → (first_line xs ≡ xs → behind (xs ++ ys) ≡ behind ys)
    → cond b (xs ++ ys) (behind (xs ++ ys)) ≡ behind ys
behind_at true x xs ys h others = cc
behind_at false x xs ys h others = others cc

pub behind-more : (xs ys : List ℕ) → first_line xs ≡ xs → behind (xs ++ ys) ≡ behind ys
behind-more [] ys h = refl
behind-more (x ∷ xs) ys h = behind_at (x == 10) x xs ys h (behind-more xs ys)

pub behind-none : (xs : List ℕ) → first_line xs ≡ xs → behind xs ≡ []
behind-none xs h = ap behind (sym (append-nil xs)) ∙ behind-more xs [] h

pub first_line-before : (line rest : List ℕ) → first_line line ≡ line → first_line (line ++ 10 ∷ rest) ≡ line
first_line-before line rest h = first_line-more line (10 ∷ rest) h ∙ append-nil line

pub behind-before : (line rest : List ℕ) → first_line line ≡ line → behind (line ++ 10 ∷ rest) ≡ rest
behind-before line rest h = behind-more line (10 ∷ rest) h

-- bytes with an LF: more behind them changes nothing before it
pub record IsWhole (xs : List ℕ) : Type 0 where
  pub shorter : length (first_line xs) < length xs
  pub same : (ys : List ℕ) → first_line (xs ++ ys) ≡ first_line xs
  pub goes_on : (ys : List ℕ) → behind (xs ++ ys) ≡ behind xs ++ ys

whole_at : (b : Bool) (x : ℕ) (xs : List ℕ) → (x == 10) ≡ b
    → (first_line xs ≡ xs) ⊎ IsWhole xs
    → (cond b [] (x ∷ first_line xs) ≡ x ∷ xs)
    ⊎ ((length (cond b [] (x ∷ first_line xs)) < suc (length xs))
    × ((ys : List ℕ) → cond b [] (x ∷ first_line (xs ++ ys)) ≡ cond b [] (x ∷ first_line xs))
    × ((ys : List ℕ) → cond b (xs ++ ys) (behind (xs ++ ys)) ≡ cond b xs (behind xs) ++ ys))
whole_at true x xs is others = inr (omega arith, λ ys. refl, λ ys. refl)
whole_at false x xs is (inl none) = inl (ap (λ (l : List ℕ). x ∷ l) none)
whole_at false x xs is (inr w) =
    inr (let short = w.shorter in omega arith, λ ys. ap (λ (l : List ℕ). x ∷ l) (w.same ys), λ ys. w.goes_on ys)

pub whole_or_not : (xs : List ℕ) → (first_line xs ≡ xs) ⊎ IsWhole xs
whole_or_not [] = inl refl
whole_or_not (x ∷ xs) = elim (whole_at (x == 10) x xs refl (whole_or_not xs)) [
  | inl none ↦ inl none
  | inr w ↦ inr record { shorter = w.0; same = w.1; goes_on = w.2 }
]

-- a line that is too long stays so, whatever comes behind it
pub longer : (xs ys : List ℕ) → length (first_line xs) ≤ length (first_line (xs ++ ys))
longer xs ys = elim (whole_or_not xs) [
  | inl none ↦ rw (first_line-more xs ys none, none, length-append) (omega arith)
  | inr w ↦ rw (w.same ys) (omega arith)
]

-- an LF at a place before which there is none
pub ends_at : (xs : List ℕ) (i : ℕ) → i < length xs → first_line (take i xs) ≡ take i xs → get_or xs i 0 ≡ 10 → EndsAt xs (Some i)
ends_at xs i within none is =
    let parts : take i xs ++ 10 ∷ drop (i + 1) xs ≡ xs =
    ap (λ (b : ℕ). take i xs ++ b ∷ drop (i + 1) xs) (sym is)
    ∙ ap (λ (l : List ℕ). take i xs ++ l) (sym (drop_more xs i 0 within)) ∙ take-append-drop i xs in (
      within,
      ap first_line (sym parts) ∙ first_line-before (take i xs) (drop (i + 1) xs) none,
      ap behind (sym parts) ∙ behind-before (take i xs) (drop (i + 1) xs) none,
    )

one_at : (x : ℕ) → x ≢ 10 → first_line (x ∷ []) ≡ x ∷ []
one_at x not = rw (ne_eqb x 10 not) refl

-- one more byte that is no LF
pub none_more : (xs : List ℕ) (i : ℕ) → i < length xs → first_line (take i xs) ≡ take i xs → get_or xs i 0 ≢ 10
    → first_line (take (i + 1) xs) ≡ take (i + 1) xs
none_more xs i within none not =
    rw (take_more xs i 0 within)
    (first_line-more (take i xs) (get_or xs i 0 ∷ []) none
    ∙ ap (λ (l : List ℕ). take i xs ++ l) (one_at (get_or xs i 0) not))

-- what is so behind a front with no LF is so of the whole
pub ends-from : (s : ℕ) (xs : List ℕ) (n : ℕ) → s ≤ length xs → first_line (take s xs) ≡ take s xs
    → EndsAt (drop s xs) (Some n) → EndsAt xs (Some (s + n))
ends-from s xs n within none ends =
    let parts = take-append-drop s xs in
    let len = length-drop s xs in
    let short = ends.0 in (
      omega arith,
      ap first_line (sym parts) ∙ first_line-more (take s xs) (drop s xs) none
          ∙ ap (λ (l : List ℕ). take s xs ++ l) (ends.1 ∙ sym (drop-take s n xs))
          ∙ ap (λ (l : List ℕ). l ++ drop s (take (s + n) xs)) (sym (take-take s (s + n) xs (omega arith)))
          ∙ take-append-drop s (take (s + n) xs),
      ap behind (sym parts) ∙ behind-more (take s xs) (drop s xs) none ∙ ends.2 ∙ drop-drop (n + 1) s xs
          ∙ ap (λ (k : ℕ). drop k xs) (omega arith),
    )

pub none-from : (s : ℕ) (xs : List ℕ) → first_line (take s xs) ≡ take s xs → EndsAt (drop s xs) None → EndsAt xs None
none-from s xs none ends =
    let parts = take-append-drop s xs in
    let all : first_line xs ≡ xs = ap first_line (sym parts) ∙ first_line-more (take s xs) (drop s xs) none
    ∙ ap (λ (l : List ℕ). take s xs ++ l) ends.0 ∙ parts in
    (all, behind-none xs all)

parts_at : (b : Bool) (x : ℕ) (xs : List ℕ) → (x == 10) ≡ b
    → (xs ≡ first_line xs ++ 10 ∷ behind xs) ⊎ ((xs ≡ first_line xs) × (behind xs ≡ []))
    → (x ∷ xs ≡ cond b [] (x ∷ first_line xs) ++ 10 ∷ cond b xs (behind xs))
    ⊎ ((x ∷ xs ≡ cond b [] (x ∷ first_line xs)) × (cond b xs (behind xs) ≡ []))
parts_at true x xs is others = inl (ap (λ (n : ℕ). n ∷ xs) (eqb-true x 10 is))
parts_at false x xs is (inl parts) = inl (ap (λ (l : List ℕ). x ∷ l) parts)
parts_at false x xs is (inr alone) = inr (ap (λ (l : List ℕ). x ∷ l) alone.0, alone.1)

pub parts : (bytes : List ℕ) → (bytes ≡ first_line bytes ++ 10 ∷ behind bytes) ⊎ ((bytes ≡ first_line bytes) × (behind bytes ≡ []))
parts [] = inr (refl, refl)
parts (x ∷ xs) = parts_at (x == 10) x xs refl (parts xs)

no_end_at : (b : Bool) (x : ℕ) (xs : List ℕ) → (x == 10) ≡ b → AllByRecursion (λ (n : ℕ). n ≢ 10) (first_line xs)
    → AllByRecursion (λ (n : ℕ). n ≢ 10) (cond b [] (x ∷ first_line xs))
no_end_at true x xs is others = tt
no_end_at false x xs is others = (eqb-false x 10 is, others)

pub no_end : (bytes : List ℕ) → AllByRecursion (λ (n : ℕ). n ≢ 10) (first_line bytes)
no_end [] = tt
no_end (x ∷ xs) = no_end_at (x == 10) x xs refl (no_end xs)

pub none_from_all : (line : List ℕ) → AllByRecursion (λ (n : ℕ). n ≢ 10) line → first_line line ≡ line
none_from_all [] all = refl
none_from_all (x ∷ xs) all = rw (ne_eqb x 10 all.0) (ap (λ (l : List ℕ). x ∷ l) (none_from_all xs all.1))
