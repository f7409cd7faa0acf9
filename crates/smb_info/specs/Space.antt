-- What a file system is asked for (MS-FSCC 2.5): each field of a class, in the order of the table there.
use Rattle.std.specs.Prelude.{ℕ, List, [], ◌∷◌, Result}
use Rattle.smb_field.specs.declared.field.Field.{Field}
use Rattle.smb_field.specs.declared.field.Field.TheVariants.{U32, U64}
use Rattle.smb_field.specs.Structure.{IsStructure}
use Rattle.smb_field.specs.Rows.{number, value, structure}
use Rattle.smb_info.specs.declared.fault.InfoFault.{InfoFault}
use Rattle.smb_info.specs.declared.fault.InfoFault.TheVariants.{Short}
use Rattle.smb_info.specs.declared.space.FsFullSize.{FsFullSize}

-- FileFsFullSizeInformation: all units, those free for the caller, those free, sectors in a unit, bytes in a sector
abbrev pub fs_full_size : FsFullSize → List Field
fs_full_size x = U64 x.total ∷ U64 x.caller_free ∷ U64 x.actual_free ∷ U32 x.sectors_per_unit ∷ U32 x.bytes_per_sector ∷ []

-- the information is this
abbrev pub IsFsFullSize : FsFullSize → List ℕ → Type 0
IsFsFullSize x info = IsStructure (fs_full_size x) [] info

-- the class, read by the same table
unfoldable pub fs_full_size_of : List ℕ → Result FsFullSize InfoFault
fs_full_size_of =
    structure Short 32 (number 8 (λ total. number 8 (λ caller. number 8 (λ actual. number 4 (λ sectors. number 4 (λ bytes.
    value (record { total = total; caller_free = caller; actual_free = actual; sectors_per_unit = sectors; bytes_per_sector = bytes })))))))
