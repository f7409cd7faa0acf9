-- A structure inside a variable part, as a create context or a class of information: fields from its own start on, and bytes behind
-- them. It has no structure size, and its offsets count from its start.
use Rattle.std.specs.Prelude.{◌≡◌, ℕ, ◌+◌, ◌≤◌, List, ◌++◌, length, ⊤, Result, Ok, Err}
use Rattle.smb_field.specs.declared.field.Field.{Field}
use Rattle.smb_field.specs.declared.field.Places.{Places}
use Rattle.smb_field.specs.Fields.{width_of, Holds, spelled}
use Rattle.smb_field.specs.Body.{Lends, named}

-- the offsets that a structure names for the bytes behind its fields
abbrev pub places_in : List Field → List ℕ → Places
places_in fields part = record { behind = width_of fields; first = named part (width_of fields); second = 0 }

-- the one spelling of a structure
unfoldable pub spelling_in : List Field → List ℕ → List ℕ
spelling_in fields part = spelled (places_in fields part) fields ++ part

-- a structure with these fields, and with these bytes behind them, stands at the start of some bytes
abbrev pub IsStructure : List Field → List ℕ → List ℕ → Type 0
IsStructure fields part bytes =
    (width_of fields ≤ length bytes) × Holds (Lends (width_of fields) part bytes) (λ (offset : ℕ). ⊤) (width_of fields) 0 fields bytes

-- whatever follows it, the spelling is read as that structure
unfoldable pub IsReadAgainIn : List Field → List ℕ → Type 0
IsReadAgainIn fields part = (rest : List ℕ) → IsStructure fields part (spelling_in fields part ++ rest)

-- a writer appends the spelling, which is read again and is as long as the fields and the bytes behind them, and for want of memory
-- changes nothing
abbrev pub WritesStructure : {A E : Type 0} → List Field → List ℕ → List ℕ → List ℕ → Result A E → Type 0
WritesStructure fields part old new (Ok done) =
    (new ≡ old ++ spelling_in fields part)
    × IsReadAgainIn fields part
    × (length (spelling_in fields part) ≡ width_of fields + length part)
WritesStructure fields part old new (Err fault) = new ≡ old
