-- Writing fields one after another.
use Rattle.std.proofs.Common.{◌≡◌, ℕ, suc, ◌+◌, ◌<◌, ◌≤◌, List, [], ◌∷◌, ◌++◌, length, take, drop, get_or, refl, ap, sym, subst, ◌∙◌, append_assoc, add-one, drop-cons}
use Rattle.std.proofs.lemmas.List.{append-nil, take_at, drop_all}
use Rattle.smb_field.specs.declared.field.Field.{Field}
use Rattle.smb_field.specs.declared.field.Places.{Places}
use Rattle.smb_field.specs.Fields.{Fits, AllFit, spelled_field, spelled}

-- the first i fields are appended, and fit
pub record Written (places : Places) (fields : List Field) (i : ℕ) (old new : List ℕ) : Type 0 where
  pub added : List ℕ
  pub grown : new ≡ old ++ added
  pub left : added ++ spelled places (drop i fields) ≡ spelled places fields
  pub fit : AllFit (drop i fields) → AllFit fields

pub written_none : (places : Places) (fields : List Field) (old : List ℕ) → Written places fields 0 old old
written_none places fields old = record { added = []; grown = sym (append-nil old); left = refl; fit = λ fit. fit }

pub written_more : (places : Places) (fields : List Field) (i : ℕ) (d : Field) (old mid new : List ℕ) → i < length fields
    → Written places fields i old mid → Fits (get_or fields i d) → new ≡ mid ++ spelled_field places (get_or fields i d)
    → Written places fields (i + 1) old new
unfolding spelled
written_more places fields i d old mid new below so_far fits put =
    let next : drop i fields ≡ get_or fields i d ∷ drop (suc i) fields = drop-cons fields i d below in
    record {
      added = so_far.added ++ spelled_field places (get_or fields i d);
      grown = put ∙ ap (λ (xs : List ℕ). xs ++ spelled_field places (get_or fields i d)) so_far.grown ∙ append_assoc old so_far.added (spelled_field places (get_or fields i d));
      left = rw (add-one i) (append_assoc so_far.added (spelled_field places (get_or fields i d)) (spelled places (drop (suc i) fields)) ∙ ap (λ (fs : List Field). so_far.added ++ spelled places fs) (sym next) ∙ so_far.left);
      fit = λ rest. so_far.fit (rw next (fits, subst (λ (k : ℕ). AllFit (drop k fields)) (add-one i) rest));
    }

pub written_all : (places : Places) (fields : List Field) (i : ℕ) (old new : List ℕ) → length fields ≤ i
    → Written places fields i old new → (new ≡ old ++ spelled places fields) × AllFit fields
unfolding spelled
written_all places fields i old new all so_far =
    let none : drop i fields ≡ [] = drop_all i fields all in
    let left : so_far.added ≡ spelled places fields =
    sym (append-nil so_far.added) ∙ ap (λ (fs : List Field). so_far.added ++ spelled places fs) (sym none) ∙ so_far.left in
    (so_far.grown ∙ ap (λ (xs : List ℕ). old ++ xs) left, so_far.fit (rw none tt))

pub written_kept : (places : Places) (fields : List Field) (i : ℕ) (old new : List ℕ)
    → Written places fields i old new → take (length old) new ≡ old
written_kept places fields i old new so_far = ap (take (length old)) so_far.grown ∙ take_at old so_far.added (length old) refl
