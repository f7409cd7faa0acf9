-- What a name and its wire name know of one another.
use Rattle.std.proofs.Common.{◌≡◌, ℕ, ◌+◌, ◌<◌, ◌≤◌, ◌==◌, Bool, true, false, not, ◌&&◌, ◌||◌, nat_le, nat_lt, suc, List, [], ◌∷◌, length, refl, sym, ap, subst, ◌∙◌, arith, if◌then◌else◌, cond, ◌⊎◌, inl, inr, length-append}
use Rattle.std.specs.Prelude.{⊤}
use Rattle.std.proofs.Common.{Option, Some, None, Result, Ok, Err}
use Rattle.std.specs.Option.{option_map, option_or}
use Rattle.std.specs.Str.{chars, IsUtf8}
use Rattle.std.specs.String.{IsUtf16Of}
use Rattle.std.specs.Char.Escape.{encode_utf16}
use Rattle.std.specs.Char.Utf16.{has_unpaired_surrogate}
use Rattle.std.proofs.lemmas.Bool.Decides.{nat_tests}
use Rattle.std.proofs.lemmas.Str.{encodes-chars, scalars-chars, chars-nil, chars_from_encodes}
use lib.Utf8.{encodes, scalar, scalars}
use borrow.Author.Tests.{eqb-true, apart_eqb, eq-eqb, ltb-false, leb-true, leb-false, le-leb, lt-leb, lt-ltb, le-ltb}
use Rattle.smb_names.specs.declared.map.NameMap.{NameMap}
use Rattle.smb_names.specs.declared.map.NameMap.TheVariants.{Sfm, Plain}
use Rattle.smb_names.specs.declared.fault.NameFault.{NameFault}
use Rattle.smb_names.specs.declared.fault.NameFault.TheVariants.{Empty, TooLong, Reserved, Surrogate, NoMemory}
use Rattle.smb_names.specs.WireName.{utf16, look_up, sfm_table, sfm_end_table, sfm_char, sfm_end_char, on_wire, is_never_sent, holds_reserved, fault_of, spelling, unless_fault, wire_of, Gives, Reads, NeverShareAWireName}
use Rattle.smb_names.specs.Path.{first_fault}
use Rattle.smb_names.specs.WireSteps.{sfm_char_at, wire_char, is_refused, original_table, sfm_original, original_char, stands_for, original_chars, GivesOriginal}
use Rattle.smb_names.proofs.Steps.{holds_reserved-cons, on_wire-cons, on_wire-nil, holds_reserved-nil}
use Rattle.smb_names.proofs.Units.{both_true, length-encode_utf16, utf16_same, utf16-paired}

-- the rows of a table
abbrev pub AllRows : (ℕ → ℕ → Type 0) → List (ℕ × ℕ) → Type 0
AllRows P [] = ⊤
AllRows P (row ∷ rows) = P row.0 row.1 × AllRows P rows

at_test : (P : ℕ → ℕ → Type 0) (k v w c : ℕ) (t : Bool) → (c == k) ≡ t → P k v → (w ≡ c) ⊎ P c w → (cond t v w ≡ c) ⊎ P c (cond t v w)
at_test P k v w c true e here more = inr (subst (λ x. P x v) (sym (eqb-true c k e)) here)
at_test P k v w c false e here more = more

-- what is looked up is the number itself, or stands in its row
pub look_up-cases : (P : ℕ → ℕ → Type 0) (rows : List (ℕ × ℕ)) (c : ℕ) → AllRows P rows → (look_up rows c ≡ c) ⊎ P c (look_up rows c)
look_up-cases P [] c all = inl refl
look_up-cases P (row ∷ rows) c all = at_test P row.0 row.1 (look_up rows c) c (c == row.0) refl all.0 (look_up-cases P rows c all.1)

-- a private character, and a character of ASCII, as the rows have them
abbrev pub IsPrivate : ℕ → Type 0
IsPrivate w = (0xF001 ≤ w) × (w ≤ 0xF029)

abbrev pub GoesBack : ℕ → ℕ → Type 0
GoesBack c w = (c < 0x80) × IsPrivate w × (sfm_original w ≡ c)

table_goes_back : AllRows GoesBack sfm_table
unfolding sfm_original
table_goes_back = (
  (omega arith, (omega arith, omega arith), refl),
  (
    (omega arith, (omega arith, omega arith), refl),
    (
      (omega arith, (omega arith, omega arith), refl),
      (
        (omega arith, (omega arith, omega arith), refl),
        (
          (omega arith, (omega arith, omega arith), refl),
          (
            (omega arith, (omega arith, omega arith), refl),
            ((omega arith, (omega arith, omega arith), refl), ((omega arith, (omega arith, omega arith), refl), tt)),
          ),
        ),
      ),
    ),
  ),
)

pub end_table_goes_back : AllRows GoesBack sfm_end_table
unfolding sfm_original
end_table_goes_back = ((omega arith, (omega arith, omega arith), refl), ((omega arith, (omega arith, omega arith), refl), tt))

-- a control character comes back
control_goes_back : (c : ℕ) → 1 ≤ c → c ≤ 0x1F → sfm_original (0xF000 + c) ≡ c
unfolding sfm_original
control_goes_back c low high = rw (le-leb 0xF001 (0xF000 + c) (omega arith), le-leb (0xF000 + c) 0xF01F (omega arith)) (omega arith)

by_control : (c w : ℕ) (a b : Bool) → nat_le 1 c ≡ a → nat_le c 0x1F ≡ b → (w ≡ c) ⊎ GoesBack c w → (cond (a && b) (0xF000 + c) w ≡ c) ⊎ GoesBack c (cond (a && b) (0xF000 + c) w)
by_control c w true true x y other =
    let low : 1 ≤ c = leb-true 1 c x in
    let high : c ≤ 0x1F = leb-true c 0x1F y in
    inr (omega arith, (omega arith, omega arith), control_goes_back c low high)
by_control c w true false x y other = other
by_control c w false b x y other = other

pub sfm_char-cases : (c : ℕ) → (sfm_char c ≡ c) ⊎ GoesBack c (sfm_char c)
sfm_char-cases c = by_control c (look_up sfm_table c) (nat_le 1 c) (nat_le c 0x1F) refl refl (look_up-cases GoesBack sfm_table c table_goes_back)

-- the end table takes the space and the full stop, which nothing else becomes
at_end : (c d w : ℕ) → (d ≡ c) ⊎ GoesBack c d → (w ≡ d) ⊎ GoesBack d w → (w ≡ c) ⊎ GoesBack c w
at_end c d w (inl same) (inl kept) = inl (kept ∙ same)
at_end c d w (inl same) (inr back) = inr (let P : ℕ → Type 0 = λ x. GoesBack x w in subst P same back)
at_end c d w (inr back) (inl kept) = inr (let P : ℕ → Type 0 = λ x. GoesBack c x in subst P (sym kept) back)
at_end c d w (inr back) (inr more) = absurd (omega (arith, back.1.0, more.0))

-- a character is kept, or becomes a private one that gives it back
pub sfm_char_at-cases : (is_last : Bool) (c : ℕ) → (sfm_char_at is_last c ≡ c) ⊎ GoesBack c (sfm_char_at is_last c)
unfolding sfm_char_at
sfm_char_at-cases true c = at_end c (sfm_char c) (sfm_end_char c) (sfm_char-cases c) (look_up-cases GoesBack sfm_end_table (sfm_char c) end_table_goes_back)
sfm_char_at-cases false c = sfm_char-cases c

-- outside of the private range the map read backwards changes nothing
other_row : (rows : List (ℕ × ℕ)) (c : ℕ) → AllRows (λ k _. 0xF001 ≤ k × (k ≤ 0xF029)) rows → (c < 0xF001) ⊎ (0xF029 < c) → look_up rows c ≡ c
other_row [] c all out = refl
other_row (row ∷ rows) c all out =
    let unlike : (c == row.0) ≡ false = elim out [ inl below ↦ apart_eqb c row.0 (λ e. absurd (omega (arith, all.0, below, e))) | inr above ↦ apart_eqb c row.0 (λ e. absurd (omega (arith, all.0, above, e))) ] in
    rw unlike (other_row rows c all.1 out)

back_rows : AllRows (λ k _. 0xF001 ≤ k × (k ≤ 0xF029)) original_table
back_rows = ((omega arith, omega arith), ((omega arith, omega arith), ((omega arith, omega arith), ((omega arith, omega arith), ((omega arith, omega arith), ((omega arith, omega arith), ((omega arith, omega arith), ((omega arith, omega arith), ((omega arith, omega arith), ((omega arith, omega arith), tt))))))))))

sfm_original-other : (c : ℕ) → (c < 0xF001) ⊎ (0xF029 < c) → sfm_original c ≡ c
unfolding sfm_original
sfm_original-other c (inl below) = rw (lt-leb 0xF001 c below) (other_row original_table c back_rows (inl below))
sfm_original-other c (inr above) = rw (le-leb 0xF001 c (omega arith), lt-leb c 0xF01F (omega arith)) (other_row original_table c back_rows (inr above))

pub either_false : (a b : Bool) → (a || b) ≡ false → (a ≡ false) × (b ≡ false)
either_false true b e = absurd (cc)
either_false false b e = (refl, e)

not_both : (c : ℕ) (a b : Bool) → nat_le 0xF001 c ≡ a → nat_le c 0xF029 ≡ b → (a && b) ≡ false → (c < 0xF001) ⊎ (0xF029 < c)
not_both c true true x y e = absurd (cc)
not_both c true false x y e = inr (leb-false c 0xF029 y)
not_both c false b x y e = inl (leb-false 0xF001 c x)

sent_is_not_private : (c : ℕ) → is_never_sent c ≡ false → (c < 0xF001) ⊎ (0xF029 < c)
sent_is_not_private c e =
    let parts = either_false (c == 0 || c == 0x2F) (nat_le 0xF001 c && nat_le c 0xF029) e in
    not_both c (nat_le 0xF001 c) (nat_le c 0xF029) refl refl parts.1

sfm_original-sfm_char_at : (is_last : Bool) (c : ℕ) → is_never_sent c ≡ false → sfm_original (sfm_char_at is_last c) ≡ c
sfm_original-sfm_char_at is_last c sent = elim (sfm_char_at-cases is_last c) [
  | inl kept ↦ rw kept (sfm_original-other c (sent_is_not_private c sent))
  | inr back ↦ back.2
]

pub refused_is_never_sent : (map : NameMap) (is_last : Bool) (c : ℕ) → is_refused map is_last c ≡ false → is_never_sent c ≡ false
unfolding is_refused
refused_is_never_sent Sfm is_last c e = e
refused_is_never_sent Plain is_last c e = (either_false (is_never_sent c) (not (sfm_char_at is_last c == c)) e).0

-- what stands for a character gives it back
original_char-wire_char : (map : NameMap) (is_last : Bool) (c : ℕ) → is_refused map is_last c ≡ false → original_char map (wire_char map is_last c) ≡ c
unfolding original_char wire_char
original_char-wire_char Sfm is_last c e = sfm_original-sfm_char_at is_last c (refused_is_never_sent Sfm is_last c e)
original_char-wire_char Plain is_last c e = refl

stands_for-wire_char : (map : NameMap) (is_last : Bool) (c : ℕ) → is_refused map is_last c ≡ false → stands_for map is_last (wire_char map is_last c) c ≡ true
unfolding stands_for
stands_for-wire_char map is_last c e = rw e (eq-eqb (wire_char map is_last c) (wire_char map is_last c) refl)

not_false : (t : Bool) → not t ≡ true → t ≡ false
not_false true e = absurd (cc)
not_false false e = refl

stands_for-true : (map : NameMap) (is_last : Bool) (w c : ℕ) → stands_for map is_last w c ≡ true → (is_refused map is_last c ≡ false) × (wire_char map is_last c ≡ w)
unfolding stands_for
stands_for-true map is_last w c e =
    let parts = both_true (not (is_refused map is_last c)) (wire_char map is_last c == w) e in
    (not_false (is_refused map is_last c) parts.0, eqb-true (wire_char map is_last c) w parts.1)

length-on_wire : (map : NameMap) (cs : List ℕ) → length (on_wire map cs) ≡ length cs
length-on_wire Sfm [] = refl
length-on_wire Sfm (c ∷ cs) = ap suc (length-on_wire Sfm cs)
length-on_wire Plain cs = refl

-- the characters of a name without a reserved one are read from what stands for them
pub original_chars-on_wire : (map : NameMap) (cs : List ℕ) → holds_reserved map cs ≡ false → original_chars map (on_wire map cs) ≡ Some cs
unfolding original_chars
original_chars-on_wire map [] e = ap (original_chars map) (on_wire-nil map)
original_chars-on_wire map (c ∷ cs) e =
    let parts = either_false (is_refused map (length cs == 0) c) (holds_reserved map cs) (sym (holds_reserved-cons map c cs) ∙ e) in
    let rest = original_chars-on_wire map cs parts.1 in
    let back = original_char-wire_char map (length cs == 0) c parts.0 in
    let stands = stands_for-wire_char map (length cs == 0) c parts.0 in
    rw (on_wire-cons map c cs, length-on_wire map cs, back, stands, rest)

-- and what is read is a name without a reserved character, for which they stand
module _ (map : NameMap) (w : ℕ) (ws : List ℕ) where
  step_some : (t : Bool) (found : Option (List ℕ)) (cs : List ℕ) → stands_for map (length ws == 0) w (original_char map w) ≡ t → original_chars map ws ≡ found
      → ((ds : List ℕ) → found ≡ Some ds → (holds_reserved map ds ≡ false) × (on_wire map ds ≡ ws))
      → (if t then option_map (λ ds. original_char map w ∷ ds) found else None) ≡ Some cs → (holds_reserved map cs ≡ false) × (on_wire map cs ≡ w ∷ ws)
  step_some false found cs stands is rest e = absurd (cc)
  step_some true None cs stands is rest e = absurd (cc)
  step_some true (Some ds) cs stands is rest e =
      let c = original_char map w in
      let more = rest ds refl in
      let whole : c ∷ ds ≡ cs = cc in
      let long : length ds ≡ length ws = sym (length-on_wire map ds) ∙ ap length more.1 in
      let here = stands_for-true map (length ws == 0) w c stands in
      let sent : is_refused map (length ds == 0) c ≡ false = rw long here.0 in
      let wire : wire_char map (length ds == 0) c ≡ w = rw long here.1 in
      rw (← whole) (holds_reserved-cons map c ds ∙ ap (λ b. b || holds_reserved map ds) sent ∙ more.0, on_wire-cons map c ds ∙ ap (λ x. x ∷ on_wire map ds) wire ∙ ap (λ xs. w ∷ xs) more.1)

pub original_chars-some : (map : NameMap) (ws cs : List ℕ) → original_chars map ws ≡ Some cs → (holds_reserved map cs ≡ false) × (on_wire map cs ≡ ws)
unfolding original_chars
original_chars-some map [] cs e =
    let none : [] ≡ cs = cc in
    rw (← none) (holds_reserved-nil map, on_wire-nil map)
original_chars-some map (w ∷ ws) cs e =
    step_some map w ws (stands_for map (length ws == 0) w (original_char map w)) (original_chars map ws) cs refl refl (λ ds k. original_chars-some map ws ds k) e

-- what stands for a character has as many units, and is a character
length-wire_char : (map : NameMap) (is_last : Bool) (c : ℕ) → length (encode_utf16 (wire_char map is_last c)) ≡ length (encode_utf16 c)
unfolding wire_char
length-wire_char Sfm is_last c = elim (sfm_char_at-cases is_last c) [
  | inl kept ↦ ap (λ x. length (encode_utf16 x)) kept
  | inr back ↦ length-encode_utf16 (sfm_char_at is_last c) 1 (λ _. refl) (λ h. absurd (omega (arith, back.1.1, h)))
      ∙ sym (length-encode_utf16 c 1 (λ _. refl) (λ h. absurd (omega (arith, back.0, h))))
]
length-wire_char Plain is_last c = refl

length-utf16-on_wire : (map : NameMap) (cs : List ℕ) → length (utf16 (on_wire map cs)) ≡ length (utf16 cs)
length-utf16-on_wire map [] = ap (λ xs. length (utf16 xs)) (on_wire-nil map)
length-utf16-on_wire map (c ∷ cs) =
    let here = length-wire_char map (length cs == 0) c in
    let rest = length-utf16-on_wire map cs in
    rw (on_wire-cons map c cs) (omega (arith, here, rest, length-append (encode_utf16 (wire_char map (length cs == 0) c)) (utf16 (on_wire map cs)), length-append (encode_utf16 c) (utf16 cs)))

private_scalar : (w : ℕ) → IsPrivate w → scalar w ≡ true
private_scalar w h = rw (le-ltb w 0xD800 (omega arith), le-leb 0xE000 w (omega arith), lt-ltb w 0x11_0000 (omega arith)) refl

scalar-wire_char : (map : NameMap) (is_last : Bool) (c : ℕ) → scalar c ≡ true → scalar (wire_char map is_last c) ≡ true
unfolding wire_char
scalar-wire_char Sfm is_last c s = elim (sfm_char_at-cases is_last c) [ inl kept ↦ ap scalar kept ∙ s | inr back ↦ private_scalar (sfm_char_at is_last c) back.1 ]
scalar-wire_char Plain is_last c s = s

scalars-on_wire : (map : NameMap) (cs : List ℕ) → scalars cs ≡ true → scalars (on_wire map cs) ≡ true
scalars-on_wire map [] s = ap scalars (on_wire-nil map)
scalars-on_wire map (c ∷ cs) s =
    let parts = both_true (scalar c) (scalars cs) s in
    rw (on_wire-cons map c cs, scalar-wire_char map (length cs == 0) c parts.0) (scalars-on_wire map cs parts.1)

-- a name without a fault
pub record IsFaultless (map : NameMap) (name : List ℕ) : Type 0 where
  pub some : 0 < length name
  pub short : length (utf16 (chars name)) ≤ 255
  pub free : holds_reserved map (chars name) ≡ false

faultless_from : (a b c : Bool) → (if a then Some Empty else if b then Some TooLong else if c then Some Reserved else None) ≡ None → (a ≡ false) × (b ≡ false) × (c ≡ false)
faultless_from true b c e = absurd (cc)
faultless_from false true c e = absurd (cc)
faultless_from false false true e = absurd (cc)
faultless_from false false false e = (refl, refl, refl)

pub fault_of-none : (map : NameMap) (name : List ℕ) → fault_of map name ≡ None → IsFaultless map name
unfolding fault_of
fault_of-none map name e =
    let parts = faultless_from (length name == 0) (nat_lt 255 (length (utf16 (chars name)))) (holds_reserved map (chars name)) e in
    record { some = grind (arith, nat_tests, parts.0); short = ltb-false 255 (length (utf16 (chars name))) parts.1; free = parts.2 }

pub fault_of-faultless : (map : NameMap) (name : List ℕ) → IsFaultless map name → fault_of map name ≡ None
unfolding fault_of
fault_of-faultless map name h =
    let some : (length name == 0) ≡ false = apart_eqb (length name) 0 (λ e. absurd (omega (arith, h.some, e))) in
    rw (some, le-ltb 255 (length (utf16 (chars name))) h.short, h.free) refl

never_memory : (a b c : Bool) → (if a then Some Empty else if b then Some TooLong else if c then Some Reserved else None) ≡ Some NoMemory → ⊥
never_memory true b c e = cc
never_memory false true c e = cc
never_memory false false true e = cc
never_memory false false false e = cc

pub no_memory_fault : (map : NameMap) (name : List ℕ) → fault_of map name ≡ Some NoMemory → ⊥
unfolding fault_of
no_memory_fault map name e = never_memory (length name == 0) (nat_lt 255 (length (utf16 (chars name)))) (holds_reserved map (chars name)) e

-- a fault that is not want of memory is given as it is
pub gives_fault : (found : Option NameFault) (units : List ℕ) (fault : NameFault) → found ≡ Some fault → (fault ≡ NoMemory → ⊥) → Gives (unless_fault found units) (Err fault)
gives_fault found units Empty e other = ap (λ o. unless_fault o units) e
gives_fault found units TooLong e other = ap (λ o. unless_fault o units) e
gives_fault found units Reserved e other = ap (λ o. unless_fault o units) e
gives_fault found units Surrogate e other = ap (λ o. unless_fault o units) e
gives_fault found units NoMemory e other = absurd (other refl)

unless_fault-ok : (found : Option NameFault) (spelt units : List ℕ) → unless_fault found spelt ≡ Ok units → (found ≡ None) × (spelt ≡ units)
unless_fault-ok None spelt units e = (refl, cc)
unless_fault-ok (Some fault) spelt units e = absurd (cc)

-- a name that has a wire name
pub record IsSpelt (map : NameMap) (name units : List ℕ) : Type 0 where
  pub faultless : IsFaultless map name
  pub spelt : spelling map name ≡ units

pub wire_of-ok : (map : NameMap) (name units : List ℕ) → wire_of map name ≡ Ok units → IsSpelt map name units
wire_of-ok map name units e =
    let parts = unless_fault-ok (fault_of map name) (spelling map name) units e in
    record { faultless = fault_of-none map name parts.0; spelt = parts.1 }

pub wire_of-spelt : (map : NameMap) (name units : List ℕ) → IsSpelt map name units → wire_of map name ≡ Ok units
wire_of-spelt map name units h = ap (λ o. unless_fault o (spelling map name)) (fault_of-faultless map name h.faultless) ∙ ap Ok h.spelt

pub spelling-is : (map : NameMap) (name : List ℕ) → spelling map name ≡ utf16 (on_wire map (chars name))
unfolding spelling
spelling-is map name = refl

some_unit : (c : ℕ) → 1 ≤ length (encode_utf16 c)
some_unit c = grind arith

some_units : (cs bs : List ℕ) → encodes cs ≡ bs → 0 < length bs → 0 < length (utf16 cs)
some_units [] bs e some = absurd (omega (arith, ap length e, some))
some_units (c ∷ cs) bs e some = omega (arith, some_unit c, length-append (encode_utf16 c) (utf16 cs))

-- a wire name has 1 to 255 units
pub wire_of-length : (map : NameMap) (name units : List ℕ) → IsUtf8 name → wire_of map name ≡ Ok units → (0 < length units) × (length units ≤ 255)
wire_of-length map name units text e =
    let h = wire_of-ok map name units e in
    let as_long : length units ≡ length (utf16 (chars name)) = ap length (sym h.spelt ∙ spelling-is map name) ∙ length-utf16-on_wire map (chars name) in
    (omega (arith, as_long, some_units (chars name) name (encodes-chars name text) h.faultless.some), omega (arith, as_long, h.faultless.short))

-- the name is read from its wire name
pub reads_back : (map : NameMap) (name units ws : List ℕ) → IsUtf8 name → wire_of map name ≡ Ok units → scalars ws ≡ true → units ≡ utf16 ws → original_chars map ws ≡ Some (chars name)
reads_back map name units ws text e s is =
    let h = wire_of-ok map name units e in
    let same : on_wire map (chars name) ≡ ws = utf16_same (on_wire map (chars name)) ws (scalars-on_wire map (chars name) (scalars-chars name text)) s (sym (spelling-is map name) ∙ h.spelt ∙ is) in
    rw (← same) (original_chars-on_wire map (chars name) h.faultless.free)

same_text : (one two : List ℕ) → IsUtf8 one → IsUtf8 two → chars one ≡ chars two → one ≡ two
same_text one two a b e = sym (encodes-chars one a) ∙ ap encodes e ∙ encodes-chars two b

some_same : (xs ys : List ℕ) (found : Option (List ℕ)) → found ≡ Some xs → found ≡ Some ys → xs ≡ ys
some_same xs ys found e k = cc

pub never_share : NeverShareAWireName
never_share map one two units a b e k =
    let h = wire_of-ok map one units e in
    let s = scalars-on_wire map (chars one) (scalars-chars one a) in
    let is : units ≡ utf16 (on_wire map (chars one)) = sym h.spelt ∙ spelling-is map one in
    same_text one two a b (some_same _ _ _ (reads_back map one units (on_wire map (chars one)) a e s is) (reads_back map two units (on_wire map (chars one)) b k s is))

-- the units of a wire name are well formed
pub wire_of-paired : (map : NameMap) (name units : List ℕ) → IsUtf8 name → wire_of map name ≡ Ok units → has_unpaired_surrogate units ≡ false
wire_of-paired map name units text e =
    let h = wire_of-ok map name units e in
    rw (← h.spelt, spelling-is map name) (utf16-paired (on_wire map (chars name)) (scalars-on_wire map (chars name) (scalars-chars name text)))

-- units that are well formed, and what was read from their characters
module _ (map : NameMap) (units wire : List ℕ) (text : IsUtf8 wire) (spelt : units ≡ utf16 (chars wire)) where
  pub only_from : (r : Result (List ℕ) NameFault) → GivesOriginal (original_chars map (chars wire)) r → (name : List ℕ) → IsUtf8 name → wire_of map name ≡ Ok units → Gives (Ok name) r
  only_from (Ok n) h name t e = ap Ok (same_text name n t h.0 (some_same _ _ _ (reads_back map name units (chars wire) t e (scalars-chars wire text) spelt) h.1))
  only_from (Err Empty) h name t e = absurd (cc)
  only_from (Err TooLong) h name t e = absurd (cc)
  only_from (Err Reserved) h name t e = let k = reads_back map name units (chars wire) t e (scalars-chars wire text) spelt in absurd (cc)
  only_from (Err Surrogate) h name t e = absurd (cc)
  only_from (Err NoMemory) h name t e = refl

  nonempty_name : (n : List ℕ) → on_wire map (chars n) ≡ chars wire → 0 < length units → 0 < length n
  nonempty_name [] same some = let none : units ≡ [] = spelt ∙ ap utf16 (sym same ∙ ap (on_wire map) chars-nil ∙ on_wire-nil map) in absurd (omega (arith, some, ap length none))
  nonempty_name (b ∷ bs) same some = omega arith

  pub reads_from : (r : Result (List ℕ) NameFault) → 0 < length units → length units ≤ 255 → GivesOriginal (original_chars map (chars wire)) r → Reads map units r
  reads_from (Ok n) some short h =
      let read = original_chars-some map (chars wire) (chars n) h.1 in
      let as_long : length (utf16 (chars n)) ≡ length units = sym (length-utf16-on_wire map (chars n)) ∙ ap (λ cs. length (utf16 cs)) read.1 ∙ ap length (sym spelt) in (
        h.0,
        wire_of-spelt map n units (record {
          faultless = record { some = nonempty_name n read.1 some; short = omega (arith, as_long, short); free = read.0 };
          spelt = spelling-is map n ∙ ap utf16 read.1 ∙ sym spelt;
        }),
      )
  reads_from (Err Empty) some short h = absurd (cc)
  reads_from (Err TooLong) some short h = absurd (cc)
  reads_from (Err Reserved) some short h = (
    some,
    short,
    ap has_unpaired_surrogate spelt ∙ utf16-paired (chars wire) (scalars-chars wire text),
    λ name t e. let k = reads_back map name units (chars wire) t e (scalars-chars wire text) spelt in absurd (cc),
  )
  reads_from (Err Surrogate) some short h = absurd (cc)
  reads_from (Err NoMemory) some short h = (some, short)

-- the units of a text are those of its characters
pub spelt_by_text : (units bytes : List ℕ) → IsUtf8 bytes → IsUtf16Of units bytes → units ≡ utf16 (chars bytes)
spelt_by_text units bytes text h = h.1 ∙ ap utf16 (chars_from_encodes h.0 bytes text (sym h.2))

-- want of memory is no fault of a path
later_memory : (found more : Option NameFault) → (found ≡ Some NoMemory → ⊥) → (more ≡ Some NoMemory → ⊥) → option_or found more ≡ Some NoMemory → ⊥
later_memory None more here rest e = rest e
later_memory (Some fault) more here rest e = here e

pub no_memory_path : (map : NameMap) (names : List (List ℕ)) → first_fault map names ≡ Some NoMemory → ⊥
no_memory_path map [] e = cc
no_memory_path map (name ∷ names) e = later_memory (fault_of map name) (first_fault map names) (no_memory_fault map name) (no_memory_path map names) e
