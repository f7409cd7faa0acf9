-- How each definition goes one character on.
use Rattle.std.proofs.Common.{◌≡◌, ℕ, ◌==◌, Bool, true, false, not, ◌&&◌, ◌||◌, List, [], ◌∷◌, ◌++◌, length, refl, sym, ap, ◌∙◌, arith, if◌then◌else◌, append_assoc, append-nil}
use Rattle.std.proofs.Common.{Option, Some, None, take, ◌-◌, length-append}
use Rattle.std.proofs.Math.Seq.{take-append_seam}
use Rattle.std.specs.Option.{MatchOption}
use Rattle.std.specs.Option.{option_map}
use Rattle.std.specs.Str.{chars, bytes_eq, IsUtf8}
use Rattle.std.specs.Char.{encode_utf8}
use Rattle.std.specs.Char.Escape.{encode_utf16}
use Rattle.std.proofs.lemmas.Str.{chars_past_char, IsUtf8-past_char, encodes-chars, chars-nil, chars_from_encodes, encodes-append}
use lib.Utf8.{encodes}
use Rattle.std.proofs.lemmas.Bool.Decides.{nat_tests}
use Rattle.smb_names.specs.declared.map.NameMap.{NameMap}
use Rattle.smb_names.specs.declared.map.NameMap.TheVariants.{Sfm, Plain}
use Rattle.std.specs.List.{list_any}
use Rattle.smb_names.specs.WireName.{utf16, sfm, on_wire, is_never_sent, holds_reserved, spelling}
use Rattle.smb_names.specs.WireSteps.{sfm_char_at, wire_char, is_refused, original_char, stands_for, original_chars}

regroup : (a b c d : Bool) → ((a || b) || not (c && d)) ≡ ((a || not c) || (b || not d))
regroup true b c d = refl
regroup false true true d = refl
regroup false false true d = refl
regroup false true false d = refl
regroup false false false d = refl

pub holds_reserved-cons : (map : NameMap) (c : ℕ) (cs : List ℕ) → holds_reserved map (c ∷ cs) ≡ (is_refused map (length cs == 0) c || holds_reserved map cs)
unfolding is_refused sfm_char_at
holds_reserved-cons Sfm c cs = refl
holds_reserved-cons Plain c cs = regroup (is_never_sent c) (list_any is_never_sent cs) (sfm_char_at (length cs == 0) c == c) (bytes_eq (sfm cs) cs)

pub on_wire-cons : (map : NameMap) (c : ℕ) (cs : List ℕ) → on_wire map (c ∷ cs) ≡ wire_char map (length cs == 0) c ∷ on_wire map cs
unfolding wire_char sfm_char_at
on_wire-cons Sfm c cs = refl
on_wire-cons Plain c cs = refl

pub on_wire-nil : (map : NameMap) → on_wire map [] ≡ []
on_wire-nil Sfm = refl
on_wire-nil Plain = refl

pub holds_reserved-nil : (map : NameMap) → holds_reserved map [] ≡ false
holds_reserved-nil Sfm = refl
holds_reserved-nil Plain = refl

not_empty : (c : ℕ) (cs : List ℕ) → (length (c ∷ cs) == 0) ≡ false
not_empty c cs = grind (arith, nat_tests)

-- a text without bytes has no characters, and the other way round
same_emptiness : (bs cs : List ℕ) → encodes cs ≡ bs → (cs ≡ [] → bs ≡ []) → (bs ≡ [] → cs ≡ []) → (length cs == 0) ≡ (length bs == 0)
same_emptiness [] [] e there back = refl
same_emptiness [] (c ∷ cs) e there back = let k = back refl in cc
same_emptiness (b ∷ bs) [] e there back = let k = there refl in cc
same_emptiness (b ∷ bs) (c ∷ cs) e there back = not_empty c cs ∙ sym (not_empty b bs)

pub length-chars-eq_zero : (bs : List ℕ) → IsUtf8 bs → (length (chars bs) == 0) ≡ (length bs == 0)
length-chars-eq_zero bs u =
    same_emptiness bs (chars bs) (encodes-chars bs u) (λ e. sym (encodes-chars bs u) ∙ ap encodes e) (λ e. ap chars e ∙ chars-nil)

-- a text that begins with the character c, which ends it or not
module _ (map : NameMap) (bs rest : List ℕ) (c : ℕ) (is_last : Bool) (text : IsUtf8 bs) (begins : bs ≡ encode_utf8 c ++ rest) (ends : is_last ≡ (length rest == 0)) where
  rest_is_text : IsUtf8 rest
  rest_is_text = IsUtf8-past_char bs rest c text begins

  chars-step : chars bs ≡ c ∷ chars rest
  chars-step = chars_past_char bs rest c text begins

  last : (length (chars rest) == 0) ≡ is_last
  last = length-chars-eq_zero rest rest_is_text ∙ sym ends

  pub holds_reserved-step : holds_reserved map (chars bs) ≡ (is_refused map is_last c || holds_reserved map (chars rest))
  holds_reserved-step = ap (holds_reserved map) chars-step ∙ holds_reserved-cons map c (chars rest) ∙ ap (λ b. is_refused map b c || holds_reserved map (chars rest)) last

  pub spelling-step : spelling map bs ≡ encode_utf16 (wire_char map is_last c) ++ spelling map rest
  unfolding spelling
  spelling-step = ap (λ cs. utf16 (on_wire map cs)) chars-step ∙ ap utf16 (on_wire-cons map c (chars rest))
      ∙ ap (λ b. encode_utf16 (wire_char map b c) ++ utf16 (on_wire map (chars rest))) last

  pub original_chars-step : original_chars map (chars bs) ≡ (if stands_for map is_last c (original_char map c)
      then option_map (λ cs. original_char map c ∷ cs) (original_chars map (chars rest)) else None)
  unfolding original_chars
  original_chars-step = ap (original_chars map) chars-step
      ∙ ap (λ b. if stands_for map b c (original_char map c) then option_map (λ cs. original_char map c ∷ cs) (original_chars map (chars rest)) else None) last

pub spelling-nil : (map : NameMap) (bs : List ℕ) → length bs ≡ 0 → spelling map bs ≡ []
unfolding spelling
spelling-nil map [] e = ap (λ cs. utf16 (on_wire map cs)) chars-nil ∙ ap utf16 (on_wire-nil map)
spelling-nil map (b ∷ bs) e = absurd (omega arith)

pub chars-empty : (bs : List ℕ) → length bs ≡ 0 → chars bs ≡ []
chars-empty [] e = chars-nil
chars-empty (b ∷ bs) e = absurd (omega arith)

pub original_chars-nil : (map : NameMap) → original_chars map [] ≡ Some []
unfolding original_chars
original_chars-nil map = refl

-- a character more at the end of a text
pub chars-push : (bs : List ℕ) (c : ℕ) → IsUtf8 bs → IsUtf8 (bs ++ encode_utf8 c) → chars (bs ++ encode_utf8 c) ≡ chars bs ++ c ∷ []
chars-push bs c text longer =
    sym (chars_from_encodes (chars bs ++ c ∷ []) (bs ++ encode_utf8 c) longer (encodes-append (chars bs) (c ∷ []) ∙ ap (λ xs. xs ++ encodes (c ∷ [])) (encodes-chars bs text) ∙ ap (λ xs. bs ++ xs) (append-nil (encode_utf8 c))))

-- what is written so far and what is left, one piece on
pub one_piece_on : (whole done more piece left rest : List ℕ) → done ++ left ≡ whole → left ≡ piece ++ rest → more ≡ done ++ piece → more ++ rest ≡ whole
one_piece_on whole done more piece left rest e step is = ap (λ xs. xs ++ rest) is ∙ append_assoc done piece rest ∙ ap (λ xs. done ++ xs) (sym step) ∙ e

-- what is read so far and what is left: at the start, at a character that stands for none, and at one that stands for c
pub read_begin : (found : Option (List ℕ)) (bs : List ℕ) → bs ≡ [] → found ≡ option_map (λ cs. chars bs ++ cs) found
read_begin None bs e = refl
read_begin (Some cs) bs e = ap (λ xs. Some (xs ++ cs)) {x = []} {y = chars bs} (sym (ap chars e ∙ chars-nil))

pub read_stop : (whole left more : Option (List ℕ)) (done : List ℕ) (t : Bool) → whole ≡ option_map (λ cs. done ++ cs) left → left ≡ (if t then more else None) → t ≡ false → whole ≡ None
read_stop whole left more done true e step refused = absurd (cc)
read_stop whole left more done false e step refused = e ∙ ap (option_map (λ cs. done ++ cs)) step

read_more : (done longer : List ℕ) (c : ℕ) (rest : Option (List ℕ)) → longer ≡ done ++ c ∷ [] → option_map (λ cs. done ++ cs) (option_map (λ cs. c ∷ cs) rest) ≡ option_map (λ cs. longer ++ cs) rest
read_more done longer c None is = refl
read_more done longer c (Some cs) is = ap Some (sym (ap (λ xs. xs ++ cs) is ∙ append_assoc done (c ∷ []) cs))

pub read_on : (whole left rest : Option (List ℕ)) (done longer : List ℕ) (c : ℕ) (t : Bool) → whole ≡ option_map (λ cs. done ++ cs) left
    → left ≡ (if t then option_map (λ cs. c ∷ cs) rest else None) → t ≡ true → longer ≡ done ++ c ∷ [] → whole ≡ option_map (λ cs. longer ++ cs) rest
read_on whole left rest done longer c true e step stands is = e ∙ ap (option_map (λ cs. done ++ cs)) step ∙ read_more done longer c rest is
read_on whole left rest done longer c false e step stands is = absurd (cc)

-- a list without its last item
pub popped : (old new : List (List ℕ)) (r : Option (List ℕ)) → MatchOption r ((old ≡ []) × (new ≡ [])) (λ t. old ≡ new ++ t ∷ []) → new ≡ take (length old - 1) old
popped old new None h = rw (h.0, h.1) refl
popped old new (Some t) h =
    let short : length old - 1 ≡ length new = omega (arith, ap length h, length-append new (t ∷ [])) in
    rw short (sym (ap (take (length new)) h ∙ take-append_seam new (t ∷ [])))
