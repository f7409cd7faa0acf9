-- What a file is told to become (MS-FSCC 2.4): each field of a class, in the order of the table there.
use Rattle.std.specs.Prelude.{ℕ, List, [], ◌∷◌, length, Result}
use Rattle.smb_field.specs.declared.field.Field.{Field}
use Rattle.smb_field.specs.declared.field.Field.TheVariants.{U8, U32, U64, Any8, Any16, Any32, Any64, Follows}
use Rattle.smb_field.specs.Structure.{IsStructure}
use Rattle.smb_field.specs.Rows.{byte, number, skip, part_in, with_part, value, structure}
use Rattle.smb_info.specs.declared.fault.InfoFault.{InfoFault}
use Rattle.smb_info.specs.declared.fault.InfoFault.TheVariants.{Short}
use Rattle.smb_info.specs.declared.change.EndOfFile.{EndOfFile}
use Rattle.smb_info.specs.declared.change.Disposition.{Disposition}
use Rattle.smb_info.specs.declared.change.Rename.{Rename}
use Rattle.smb_info.specs.declared.change.Link.{Link}

-- FileEndOfFileInformation: the end of the file
abbrev pub end_of_file : EndOfFile → List Field
end_of_file x = U64 x.end_of_file ∷ []

-- the information is this
abbrev pub IsEndOfFile : EndOfFile → List ℕ → Type 0
IsEndOfFile x info = IsStructure (end_of_file x) [] info

-- FileDispositionInformation: whether the file is to be deleted
abbrev pub disposition : Disposition → List Field
disposition x = U8 x.delete_pending ∷ []

-- the information is this
abbrev pub IsDisposition : Disposition → List ℕ → Type 0
IsDisposition x info = IsStructure (disposition x) [] info

-- FileRenameInformation: whether a file of that name is replaced, seven reserved bytes, the root directory, the name's length, and
-- the name behind it
abbrev pub rename : Rename → List Field
rename x = U8 x.replace ∷ Any8 0 ∷ Any16 0 ∷ Any32 0 ∷ Any64 0 ∷ U32 (length x.name.now) ∷ Follows ∷ []

-- the information is this
abbrev pub IsRename : Rename → List ℕ → Type 0
IsRename x info = IsStructure (rename x) x.name.now info

-- FileLinkInformation: the same fields
abbrev pub link : Link → List Field
link x = U8 x.replace ∷ Any8 0 ∷ Any16 0 ∷ Any32 0 ∷ Any64 0 ∷ U32 (length x.name.now) ∷ Follows ∷ []

-- the information is this
abbrev pub IsLink : Link → List ℕ → Type 0
IsLink x info = IsStructure (link x) x.name.now info

-- a new name as a value, and whether a file that has it is replaced
pub record NewName : Type 0 where
  pub replace : ℕ
  pub name : List ℕ

-- the value of what was lent
abbrev pub seen_rename : Rename → NewName
seen_rename x = record { replace = x.replace; name = x.name.now }

abbrev pub seen_link : Link → NewName
seen_link x = record { replace = x.replace; name = x.name.now }

-- each class, read by the same table
unfoldable pub end_of_file_of : List ℕ → Result EndOfFile InfoFault
end_of_file_of = structure Short 8 (number 8 (λ size. value (record { end_of_file = size })))

unfoldable pub disposition_of : List ℕ → Result Disposition InfoFault
disposition_of = structure Short 1 (byte (λ pending. value (record { delete_pending = pending })))

-- the name, whose bytes follow the fields
abbrev pub name_behind : ℕ → (List ℕ → ℕ → List ℕ → Result NewName InfoFault) → ℕ → List ℕ → Result NewName InfoFault
name_behind size rest at info = with_part Short (part_in at at size info) (λ name. rest name at info)

unfoldable pub new_name_of : List ℕ → Result NewName InfoFault
new_name_of =
    structure Short 20 (byte (λ replace. skip 1 (skip 2 (skip 4 (skip 8 (number 4 (λ size. name_behind size (λ name.
    value (record { replace = replace; name = name })))))))))
