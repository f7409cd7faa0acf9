-- A wire name has only units that a file name may have, so a path is cut again at its backslashes.
use Rattle.std.proofs.Common.{◌≡◌, ℕ, ◌+◌, ◌-◌, ◌/◌, ◌%◌, ◌≤◌, ◌==◌, Bool, true, false, not, ◌&&◌, ◌||◌, nat_le, List, [], ◌∷◌, ◌++◌, length, refl, sym, ap, subst, ◌∙◌, arith, inl, inr, append-nil, IsTrue, All}
use Rattle.std.proofs.Common.{Option, Some, None}
use Rattle.std.proofs.Common.{map as each}
use Rattle.std.specs.List.{flat_map, slice_split}
use Rattle.std.specs.Option.{option_or}
use Rattle.std.specs.Str.{chars}
use Rattle.std.specs.Char.Escape.{encode_utf16}
use Rattle.std.proofs.lemmas.Bool.{cases_lt}
use Rattle.std.proofs.lemmas.List.Elements.{All-nil, All-cons, All-append}
use Rattle.std.proofs.lemmas.List.Splits.{slice_split_at, slice_split_none}
use Rattle.std.proofs.str.Utf16.{one_unit, two_units}
use borrow.Author.Tests.{eqb-true, eqb-false, apart_eqb, le-leb}
use Rattle.smb_names.specs.declared.map.NameMap.{NameMap}
use Rattle.smb_names.specs.declared.map.NameMap.TheVariants.{Sfm, Plain}
use Rattle.smb_names.specs.declared.fault.NameFault.{NameFault}
use Rattle.smb_names.specs.WireName.{utf16, sfm_end_table, sfm_char, on_wire, is_never_sent, holds_reserved, fault_of, spelling, is_allowed}
use Rattle.smb_names.specs.WireSteps.{sfm_char_at, wire_char, is_refused}
use Rattle.smb_names.specs.Path.{first_fault, joined, IsCutInto}
use Rattle.smb_names.proofs.Steps.{holds_reserved-cons, on_wire-cons, on_wire-nil}
use Rattle.smb_names.proofs.Laws.{GoesBack, look_up-cases, end_table_goes_back, sfm_char-cases, sfm_char_at-cases, either_false, spelling-is, fault_of-none}

-- what is far above is none of the disallowed
allowed_above : (w : ℕ) → 0x7D ≤ w → is_allowed w ≡ true
unfolding is_allowed
allowed_above w high = rw (
  le-leb 0x20 w (omega arith),
  apart_eqb 0x22 w (λ e. absurd (omega arith)),
  apart_eqb 0x2A w (λ e. absurd (omega arith)),
  apart_eqb 0x2F w (λ e. absurd (omega arith)),
  apart_eqb 0x3A w (λ e. absurd (omega arith)),
  apart_eqb 0x3C w (λ e. absurd (omega arith)),
  apart_eqb 0x3E w (λ e. absurd (omega arith)),
  apart_eqb 0x3F w (λ e. absurd (omega arith)),
  apart_eqb 0x5C w (λ e. absurd (omega arith)),
  apart_eqb 0x7C w (λ e. absurd (omega arith)),
) refl

control_is_changed : (c : ℕ) → 1 ≤ c → c ≤ 0x1F → sfm_char c ≡ 0xF000 + c
control_is_changed c low high = rw (le-leb 1 c low, le-leb c 0x1F high) refl

unlike : (r c : ℕ) → (sfm_char r ≡ r → ⊥) → sfm_char c ≡ c → (r == c) ≡ false
unlike r c changed kept = apart_eqb r c (λ e. changed (let P : ℕ → Type 0 = λ x. sfm_char x ≡ x in subst P (sym e) kept))

not_control : (c : ℕ) → sfm_char c ≡ c → (c ≡ 0 → ⊥) → 0x20 ≤ c
not_control c kept some = elim (cases_lt c 0x20) [
  | inl below ↦ elim (cases_lt 0 c) [
    | inl above ↦ absurd (omega (arith, control_is_changed c above (omega arith), kept))
    | inr none ↦ absurd (some (omega arith))
  ]
  | inr from ↦ from
]

-- what the map keeps is allowed
allowed_kept : (c : ℕ) → sfm_char c ≡ c → (c ≡ 0 → ⊥) → (c ≡ 0x2F → ⊥) → is_allowed c ≡ true
unfolding is_allowed
allowed_kept c kept some slash = rw (
  le-leb 0x20 c (not_control c kept some),
  unlike 0x22 c (λ e. absurd (omega arith)) kept,
  unlike 0x2A c (λ e. absurd (omega arith)) kept,
  apart_eqb 0x2F c (λ e. slash (sym e)),
  unlike 0x3A c (λ e. absurd (omega arith)) kept,
  unlike 0x3C c (λ e. absurd (omega arith)) kept,
  unlike 0x3E c (λ e. absurd (omega arith)) kept,
  unlike 0x3F c (λ e. absurd (omega arith)) kept,
  unlike 0x5C c (λ e. absurd (omega arith)) kept,
  unlike 0x7C c (λ e. absurd (omega arith)) kept,
) refl

-- what is kept at the end is kept before another too
kept_within : (is_last : Bool) (c : ℕ) → sfm_char_at is_last c ≡ c → sfm_char c ≡ c
unfolding sfm_char_at
kept_within true c e = elim (sfm_char-cases c) [
  | inl kept ↦ kept
  | inr back ↦ elim (look_up-cases GoesBack sfm_end_table (sfm_char c) end_table_goes_back) [
    | inl same ↦ absurd (omega (arith, back.0, back.1.0, sym same ∙ e))
    | inr more ↦ absurd (omega (arith, back.1.0, more.0))
  ]
]
kept_within false c e = e

sent_from : (c : ℕ) → is_never_sent c ≡ false → (c ≡ 0 → ⊥) × (c ≡ 0x2F → ⊥)
sent_from c e =
    let parts = either_false (c == 0) (c == 0x2F) (either_false (c == 0 || c == 0x2F) (nat_le 0xF001 c && nat_le c 0xF029) e).0 in
    (eqb-false c 0 parts.0, eqb-false c 0x2F parts.1)

keeps : (a b : Bool) (w c : ℕ) → (a || not b) ≡ false → (w == c) ≡ b → w ≡ c
keeps true b w c e is = absurd (cc)
keeps false true w c e is = eqb-true w c is
keeps false false w c e is = absurd (cc)

-- what stands for a character that is not refused
allowed_on_wire : (map : NameMap) (is_last : Bool) (c : ℕ) → is_refused map is_last c ≡ false → is_allowed (wire_char map is_last c) ≡ true
unfolding wire_char is_refused
allowed_on_wire Sfm is_last c e = elim (sfm_char_at-cases is_last c) [
  | inl kept ↦ let sent = sent_from c e in rw kept (allowed_kept c (kept_within is_last c kept) sent.0 sent.1)
  | inr back ↦ allowed_above (sfm_char_at is_last c) (omega (arith, back.1.0))
]
allowed_on_wire Plain is_last c e =
    let sent = sent_from c (either_false (is_never_sent c) (not (sfm_char_at is_last c == c)) e).0 in
    allowed_kept c (kept_within is_last c (keeps (is_never_sent c) (sfm_char_at is_last c == c) (sfm_char_at is_last c) c e refl)) sent.0 sent.1

abbrev AllAllowed : List ℕ → Type 0
AllAllowed us = All (λ unit. IsTrue (is_allowed unit)) us

one_more : (u : ℕ) (us : List ℕ) → is_allowed u ≡ true → AllAllowed us → AllAllowed (u ∷ us)
one_more u us here rest = All-cons (λ unit. IsTrue (is_allowed unit)) u us here rest

none_yet : AllAllowed []
none_yet = All-nil (λ unit. IsTrue (is_allowed unit))

allowed_units : (w : ℕ) → is_allowed w ≡ true → AllAllowed (encode_utf16 w)
allowed_units w e = elim (cases_lt w 0x1_0000) [
  | inl below ↦ rw (one_unit w below) (one_more w [] e none_yet)
  | inr from ↦ rw (two_units w from) (one_more (0xD800 + (w - 0x1_0000) / 0x400) ((0xDC00 + (w - 0x1_0000) % 0x400) ∷ []) (allowed_above _ (omega arith)) (one_more (0xDC00 + (w - 0x1_0000) % 0x400) [] (allowed_above _ (omega arith)) none_yet))
]

allowed_chars : (map : NameMap) (cs : List ℕ) → holds_reserved map cs ≡ false → AllAllowed (utf16 (on_wire map cs))
allowed_chars map [] e = rw (on_wire-nil map) none_yet
allowed_chars map (c ∷ cs) e =
    let parts = either_false (is_refused map (length cs == 0) c) (holds_reserved map cs) (sym (holds_reserved-cons map c cs) ∙ e) in
    rw (on_wire-cons map c cs) (All-append (λ unit. IsTrue (is_allowed unit)) (encode_utf16 (wire_char map (length cs == 0) c)) (utf16 (on_wire map cs))
    (allowed_units (wire_char map (length cs == 0) c) (allowed_on_wire map (length cs == 0) c parts.0)) (allowed_chars map cs parts.1))

pub spelling-allowed : (map : NameMap) (name : List ℕ) → fault_of map name ≡ None → All (λ unit. IsTrue (is_allowed unit)) (spelling map name)
spelling-allowed map name e = rw (spelling-is map name) (allowed_chars map (chars name) (fault_of-none map name e).free)

-- no unit of a wire name is the backslash
no_backslash : (u : ℕ) → is_allowed u ≡ true → (u == 0x5C) ≡ false
unfolding is_allowed
no_backslash u e = apart_eqb u 0x5C (λ is. let P : ℕ → Type 0 = λ x. is_allowed x ≡ true in let k : is_allowed 0x5C ≡ true = subst P is e in absurd (cc))

not_cut : (map : NameMap) (name : List ℕ) → fault_of map name ≡ None → All (λ unit. (unit == 0x5C) ≡ false) (spelling map name)
not_cut map name e = λ k d h. no_backslash _ (spelling-allowed map name e k d h)

first_none : (found more : Option NameFault) → option_or found more ≡ None → (found ≡ None) × (more ≡ None)
first_none None more e = (refl, e)
first_none (Some fault) more e = absurd (cc)

cut_at : (map : NameMap) (name : List ℕ) (names : List (List ℕ)) → fault_of map name ≡ None → first_fault map names ≡ None
    → slice_split (λ unit. unit == 0x5C) (spelling map name ++ flat_map (λ other. (0x5C ∷ []) ++ spelling map other) names) ≡ spelling map name ∷ each (spelling map) names
cut_at map name [] e f = rw (append-nil (spelling map name)) (slice_split_none (λ unit. unit == 0x5C) (spelling map name) (not_cut map name e))
cut_at map name (next ∷ names) e f =
    let parts = first_none (fault_of map next) (first_fault map names) f in
    slice_split_at (λ unit. unit == 0x5C) (spelling map name) 0x5C (spelling map next ++ flat_map (λ other. (0x5C ∷ []) ++ spelling map other) names) (not_cut map name e) refl
    ∙ ap (λ xss. spelling map name ∷ xss) (cut_at map next names parts.0 parts.1)

pub joined-cut : (map : NameMap) (names : List (List ℕ)) → first_fault map names ≡ None → IsCutInto map names (joined map names)
joined-cut map [] e = λ some. absurd (some refl)
joined-cut map (name ∷ names) e = λ _. let parts = first_none (fault_of map name) (first_fault map names) e in cut_at map name names parts.0 parts.1
