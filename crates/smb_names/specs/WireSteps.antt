-- The steps by which the code goes through a name and through a wire name, character by character.
use Rattle.std.specs.Prelude.{◌≡◌, ℕ, ◌-◌, ◌==◌, Bool, not, ◌&&◌, ◌||◌, nat_le, if◌then◌else◌, List, [], ◌∷◌, length, ⊤}
use Rattle.std.specs.Prelude.{Option, Some, None, Result, Ok, Err}
use Rattle.std.specs.Option.{option_map}
use Rattle.std.specs.Str.{chars, IsUtf8}
use Rattle.smb_names.specs.declared.map.NameMap.{NameMap}
use Rattle.smb_names.specs.declared.map.NameMap.TheVariants.{Sfm, Plain}
use Rattle.smb_names.specs.declared.fault.NameFault.{NameFault}
use Rattle.smb_names.specs.declared.fault.NameFault.TheVariants.{Reserved, NoMemory}
use Rattle.smb_names.specs.WireName.{look_up, sfm_char, sfm_end_char, is_never_sent}

-- what stands for c, which ends the name or not
unfoldable pub sfm_char_at : Bool → ℕ → ℕ
sfm_char_at is_last c = if is_last then sfm_end_char c else sfm_char c

-- the same under either map
unfoldable pub wire_char : NameMap → Bool → ℕ → ℕ
wire_char Sfm is_last c = sfm_char_at is_last c
wire_char Plain is_last c = c

-- c may not stand there
unfoldable pub is_refused : NameMap → Bool → ℕ → Bool
is_refused Sfm is_last c = is_never_sent c
is_refused Plain is_last c = is_never_sent c || not (sfm_char_at is_last c == c)

-- the map of reserved characters, read backwards
abbrev pub original_table : List (ℕ × ℕ)
original_table =
    (0xF020, 0x22) ∷ (0xF021, 0x2A) ∷ (0xF022, 0x3A) ∷ (0xF023, 0x3C) ∷ (0xF024, 0x3E)
    ∷ (0xF025, 0x3F) ∷ (0xF026, 0x5C) ∷ (0xF027, 0x7C) ∷ (0xF028, 0x20) ∷ (0xF029, 0x2E) ∷ []

-- the character for which w stands, if it stands for any
unfoldable pub sfm_original : ℕ → ℕ
sfm_original w = if nat_le 0xF001 w && nat_le w 0xF01F then w - 0xF000 else look_up original_table w

-- the same under either map
unfoldable pub original_char : NameMap → ℕ → ℕ
original_char Sfm w = sfm_original w
original_char Plain w = w

-- w is what stands for c there
unfoldable pub stands_for : NameMap → Bool → ℕ → ℕ → Bool
stands_for map is_last w c = not (is_refused map is_last c) && wire_char map is_last c == w

-- the characters of the name that has these on the wire, if there is one
unfoldable pub original_chars : NameMap → List ℕ → Option (List ℕ)
original_chars map [] = Some []
original_chars map (w ∷ ws) = if stands_for map (length ws == 0) w (original_char map w)
    then option_map (λ cs. original_char map w ∷ cs) (original_chars map ws)
    else None

-- the text of these characters, or Reserved where there are none, or want of memory
abbrev pub GivesOriginal : Option (List ℕ) → Result (List ℕ) NameFault → Type 0
GivesOriginal found (Ok name) = IsUtf8 name × (found ≡ Some (chars name))
GivesOriginal found (Err Reserved) = found ≡ None
GivesOriginal found (Err NoMemory) = ⊤
GivesOriginal found (Err fault) = Reserved ≡ fault
