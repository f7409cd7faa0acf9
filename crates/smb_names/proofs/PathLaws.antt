-- The components of a path, and the path of components.
use Rattle.std.proofs.Common.{◌≡◌, ◌≢◌, ℕ, ◌-◌, ◌==◌, Bool, true, false, cond, List, [], ◌∷◌, ◌++◌, length, take, refl, sym, ap, ◌∙◌, append-nil, append_assoc, All}
use Rattle.std.specs.List.{fold, slice_split, onto_first}
use Rattle.std.proofs.lemmas.List.Elements.{All-nil, All-cons, All-head, All-tail, All-push, All-take, All-weaker}
use Rattle.std.proofs.lemmas.List.Splits.{slice_split_at, slice_split_none}
use borrow.Author.Tests.{eqb-false, apart_eqb}
use Rattle.smb_names.specs.Path.{parts, is_here, is_above, after_part, components, IsComponent, path_text}

-- no slash in it
abbrev IsWhole : List ℕ → Type 0
IsWhole part = All (λ b. b ≢ 0x2F) part

onto : (x : ℕ) (ps : List (List ℕ)) → (x ≡ 0x2F → ⊥) → All IsWhole ps → All IsWhole (onto_first x ps)
onto x [] other all = All-cons IsWhole (x ∷ []) [] (All-cons (λ b. b ≢ 0x2F) x [] other (All-nil (λ b. b ≢ 0x2F))) all
onto x (p ∷ ps) other all = All-cons IsWhole (x ∷ p) ps (All-cons (λ b. b ≢ 0x2F) x p other (All-head IsWhole p ps all)) (All-tail IsWhole p ps all)

one_byte : (x : ℕ) (ps : List (List ℕ)) (t : Bool) → (x == 0x2F) ≡ t → All IsWhole ps → All IsWhole (cond t ([] ∷ ps) (onto_first x ps))
one_byte x ps true e all = All-cons IsWhole [] ps (All-nil (λ b. b ≢ 0x2F)) all
one_byte x ps false e all = onto x ps (eqb-false x 0x2F e) all

parts-whole : (path : List ℕ) → All IsWhole (parts path)
parts-whole [] = All-cons IsWhole [] [] (All-nil (λ b. b ≢ 0x2F)) (All-nil IsWhole)
parts-whole (x ∷ xs) = one_byte x (parts xs) (x == 0x2F) refl (parts-whole xs)

one_part : (found : List (List ℕ)) (part : List ℕ) (here above : Bool) → is_here part ≡ here → is_above part ≡ above → All IsComponent found → IsWhole part
    → All IsComponent (cond here found (cond above (take (length found - 1) found) (found ++ part ∷ [])))
one_part found part true above e k all whole = all
one_part found part false true e k all whole = All-take IsComponent (length found - 1) found all
one_part found part false false e k all whole = All-push IsComponent found part all (record { not_here = e; not_above = k; whole = whole })

after_part-proper : (found : List (List ℕ)) (part : List ℕ) → All IsComponent found → IsWhole part → All IsComponent (after_part found part)
unfolding after_part
after_part-proper found part all whole = one_part found part (is_here part) (is_above part) refl refl all whole

fold-proper : (found ps : List (List ℕ)) → All IsComponent found → All IsWhole ps → All IsComponent (fold after_part found ps)
fold-proper found [] all whole = all
fold-proper found (p ∷ ps) all whole = fold-proper (after_part found p) ps (after_part-proper found p all (All-head IsWhole p ps whole)) (All-tail IsWhole p ps whole)

-- each component of a path is one
pub components-proper : (path : List ℕ) → All IsComponent (components path)
unfolding components
components-proper path = fold-proper [] (parts path) (All-nil IsComponent) (parts-whole path)

after_part-component : (found : List (List ℕ)) (name : List ℕ) → IsComponent name → after_part found name ≡ found ++ name ∷ []
unfolding after_part
after_part-component found name h = rw (h.not_here, h.not_above) refl

fold-components : (found names : List (List ℕ)) → All IsComponent names → fold after_part found names ≡ found ++ names
fold-components found [] all = sym (append-nil found)
fold-components found (name ∷ names) all =
    ap (λ more. fold after_part more names) (after_part-component found name (All-head IsComponent name names all))
    ∙ fold-components (found ++ name ∷ []) names (All-tail IsComponent name names all) ∙ append_assoc found (name ∷ []) names

not_cut : (name : List ℕ) → IsComponent name → All (λ b. (b == 0x2F) ≡ false) name
not_cut name h = All-weaker (λ b. b ≢ 0x2F) (λ b. (b == 0x2F) ≡ false) (λ b other. apart_eqb b 0x2F other) name h.whole

parts_of_names : (name : List ℕ) (names : List (List ℕ)) → All IsComponent (name ∷ names) → slice_split (λ b. b == 0x2F) (name ++ path_text names) ≡ name ∷ names
parts_of_names name [] all = rw (append-nil name) (slice_split_none (λ b. b == 0x2F) name (not_cut name (All-head IsComponent name [] all)))
parts_of_names name (next ∷ names) all =
    slice_split_at (λ b. b == 0x2F) name 0x2F (next ++ path_text names) (not_cut name (All-head IsComponent name (next ∷ names) all)) refl
    ∙ ap (λ rest. name ∷ rest) (parts_of_names next names (All-tail IsComponent name (next ∷ names) all))

-- the path of components has these components
pub components-path_text : (names : List (List ℕ)) → All IsComponent names → components (path_text names) ≡ names
unfolding components after_part
components-path_text [] all = refl
components-path_text (name ∷ names) all =
    ap (fold after_part []) (parts_of_names name names all) ∙ fold-components [] (name ∷ names) all
