-- The lines that are printed of a vector.
use Rattle.std.specs.Prelude.{ℕ, ◌==◌, if◌then◌else◌, List, [], ◌++◌, length, codes, bytes_eq}
use Rattle.std.specs.Fmt.{decimal}
use Rattle.std.specs.List.{flat_map}
use Rattle.hex.specs.Hex.{encode_lower}
use Rattle.smb_field.specs.declared.field.BodyFault.{BodyFault}
use Rattle.smb_field.specs.declared.field.BodyFault.TheVariants.{Short, Size, Value, Offset}
use Rattle.test_text.specs.declared.page.Item.{Item}
use Rattle.test_text.specs.declared.page.Item.TheVariants.{Number, Bytes}

-- bytes in hex, and `-` where there is none
abbrev pub hex_text : List ℕ → List ℕ
hex_text bytes = if length bytes == 0 then codes "-" else encode_lower bytes

-- the line of a name and what stands behind it
abbrev pub named : List ℕ → List ℕ → List ℕ
named name value = codes "  " ++ (name ++ (codes " " ++ (value ++ codes "\n")))

-- a field: its name, and its number or its bytes
abbrev pub item_line : Item → List ℕ
item_line (Number name value) = named name.now (decimal value)
item_line (Bytes name value) = named name.now (hex_text value.now)

-- the fields of a message, in order
unfoldable pub item_lines : List Item → List ℕ
item_lines items = flat_map item_line items

-- what a reader refused
unfoldable pub fault_line : List ℕ → List ℕ
fault_line name = codes "  fault " ++ (name ++ codes "\n")

-- the name of what a reader of a body refused
unfoldable pub body_fault_name : BodyFault → List ℕ
body_fault_name Short = codes "Short"
body_fault_name Size = codes "Size"
body_fault_name Value = codes "Value"
body_fault_name Offset = codes "Offset"

-- that a message is written again byte for byte
unfoldable pub again_line : List ℕ → List ℕ → List ℕ
again_line written read = if bytes_eq written read then codes "  spelled again\n" else []
