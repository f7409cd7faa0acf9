-- The name of a file on the wire: its characters, those that a file name may not have there (MS-FSCC 2.1.5) as characters of the
-- private range U+F001 to U+F029, in UTF-16. The map is that of mount.cifs(8) under `mapposix`; that the backslash has a place in
-- it is this project's own.
use Rattle.std.specs.Prelude.{◌≡◌, ◌≢◌, ℕ, ◌+◌, ◌<◌, ◌≤◌, ◌==◌, Bool, true, false, not, ◌&&◌, ◌||◌, nat_le, nat_lt, if◌then◌else◌, List, [], ◌∷◌, length, IsOk}
use Rattle.std.specs.Prelude.{Option, Some, None, Result, Ok, Err}
use Rattle.std.specs.List.{flat_map, list_any}
use Rattle.std.specs.Str.{chars, bytes_eq, IsUtf8}
use Rattle.std.specs.Char.Escape.{encode_utf16}
use Rattle.std.specs.Char.Utf16.{has_unpaired_surrogate}
use Rattle.smb_names.specs.declared.map.NameMap.{NameMap}
use Rattle.smb_names.specs.declared.map.NameMap.TheVariants.{Sfm, Plain}
use Rattle.smb_names.specs.declared.fault.NameFault.{NameFault}
use Rattle.smb_names.specs.declared.fault.NameFault.TheVariants.{Empty, TooLong, Reserved, Surrogate, NoMemory}

-- characters in UTF-16
abbrev pub utf16 : List ℕ → List ℕ
utf16 cs = flat_map encode_utf16 cs

-- the characters that have no form of their own on the wire, each with the one that stands for it
abbrev pub sfm_table : List (ℕ × ℕ)
sfm_table =
    (0x22, 0xF020)  -- the double quote
    ∷ (0x2A, 0xF021)  -- the asterisk
    ∷ (0x3A, 0xF022)  -- the colon
    ∷ (0x3C, 0xF023)  -- less than
    ∷ (0x3E, 0xF024)  -- greater than
    ∷ (0x3F, 0xF025)  -- the question mark
    ∷ (0x5C, 0xF026)  -- the backslash
    ∷ (0x7C, 0xF027)  -- the vertical bar
    ∷ []

-- the characters that have none as the last one of a name
abbrev pub sfm_end_table : List (ℕ × ℕ)
sfm_end_table =
    (0x20, 0xF028)  -- the space
    ∷ (0x2E, 0xF029)  -- the full stop
    ∷ []

-- the second number of the row that begins with c, or c where no row does
abbrev pub look_up : List (ℕ × ℕ) → ℕ → ℕ
look_up [] c = c
look_up (row ∷ rows) c = if c == row.0 then row.1 else look_up rows c

-- what stands for the character c where another follows it: for U+0001 to U+001F the one that is 0xF000 higher, else by the table
abbrev pub sfm_char : ℕ → ℕ
sfm_char c = if nat_le 1 c && nat_le c 0x1F then 0xF000 + c else look_up sfm_table c

-- the same where it ends the name
abbrev pub sfm_end_char : ℕ → ℕ
sfm_end_char c = look_up sfm_end_table (sfm_char c)

-- what stands for the characters of a name, one for one
abbrev pub sfm : List ℕ → List ℕ
sfm [] = []
sfm (c ∷ cs) = (if length cs == 0 then sfm_end_char c else sfm_char c) ∷ sfm cs

-- the same under either map
abbrev pub on_wire : NameMap → List ℕ → List ℕ
on_wire Sfm cs = sfm cs
on_wire Plain cs = cs

-- the characters that no name may have: U+0000, the slash, and those that stand for others
abbrev pub is_never_sent : ℕ → Bool
is_never_sent c = c == 0 || c == 0x2F || (nat_le 0xF001 c && nat_le c 0xF029)

-- a name has such a character, or, where it is to be sent as it is, one that Sfm would change
abbrev pub holds_reserved : NameMap → List ℕ → Bool
holds_reserved Sfm cs = list_any is_never_sent cs
holds_reserved Plain cs = list_any is_never_sent cs || not (bytes_eq (sfm cs) cs)

-- the first fault of a name
unfoldable pub fault_of : NameMap → List ℕ → Option NameFault
fault_of map name = if length name == 0 then Some Empty
    else if nat_lt 255 (length (utf16 (chars name))) then Some TooLong
    else if holds_reserved map (chars name) then Some Reserved
    else None

-- the units of a name
unfoldable pub spelling : NameMap → List ℕ → List ℕ
spelling map name = utf16 (on_wire map (chars name))

-- these units, or the fault if there is one
abbrev pub unless_fault : Option NameFault → List ℕ → Result (List ℕ) NameFault
unless_fault None units = Ok units
unless_fault (Some fault) units = Err fault

-- the wire name of a name, or the first fault of the name
abbrev pub wire_of : NameMap → List ℕ → Result (List ℕ) NameFault
wire_of map name = unless_fault (fault_of map name) (spelling map name)

-- the units below 0x20 aside, those that a file name may not have (MS-FSCC 2.1.5.2)
abbrev pub disallowed_units : List ℕ
disallowed_units =
    0x22  -- the double quote
    ∷ 0x2A  -- the asterisk
    ∷ 0x2F  -- the slash
    ∷ 0x3A  -- the colon
    ∷ 0x3C  -- less than
    ∷ 0x3E  -- greater than
    ∷ 0x3F  -- the question mark
    ∷ 0x5C  -- the backslash
    ∷ 0x7C  -- the vertical bar
    ∷ []

-- a file name may have this unit
unfoldable pub is_allowed : ℕ → Bool
is_allowed unit = nat_le 0x20 unit && not (list_any (λ other. other == unit) disallowed_units)

-- a call gives this answer, or want of memory where the answer is no fault
abbrev pub Gives : Result (List ℕ) NameFault → Result (List ℕ) NameFault → Type 0
Gives answer (Ok units) = answer ≡ Ok units
Gives answer (Err NoMemory) = IsOk answer
Gives answer (Err fault) = answer ≡ Err fault

-- what these units may be read as: a name that has them as its wire name, or the first fault that they have, want of memory aside
abbrev pub Reads : NameMap → List ℕ → Result (List ℕ) NameFault → Type 0
Reads map units (Ok name) = IsUtf8 name × (wire_of map name ≡ Ok units)
Reads map units (Err Empty) = length units ≡ 0
Reads map units (Err TooLong) = 255 < length units
Reads map units (Err Surrogate) = (0 < length units) × (length units ≤ 255) × (has_unpaired_surrogate units ≡ true)
Reads map units (Err Reserved) = (0 < length units) × (length units ≤ 255) × (has_unpaired_surrogate units ≡ false)
    × ((name : List ℕ) → IsUtf8 name → wire_of map name ≢ Ok units)
Reads map units (Err NoMemory) = (0 < length units) × (length units ≤ 255)

-- two names with the same wire name are the same
abbrev pub NeverShareAWireName : Type 0
NeverShareAWireName = (map : NameMap) (one two units : List ℕ) → IsUtf8 one → IsUtf8 two
    → wire_of map one ≡ Ok units → wire_of map two ≡ Ok units → one ≡ two
