-- What a file is asked for (MS-FSCC 2.4): each field of a class, in the order of the table there.
use Rattle.std.specs.Prelude.{ℕ, List, [], ◌∷◌, ◌++◌, slice_index, Result}
use Rattle.smb_field.specs.declared.field.Field.{Field}
use Rattle.smb_field.specs.declared.field.Field.TheVariants.{U8, U32, U64, Any16, Any32}
use Rattle.smb_field.specs.Structure.{IsStructure}
use Rattle.smb_field.specs.Rows.{byte, number, skip, times, value, structure}
use Rattle.smb_info.specs.declared.fault.InfoFault.{InfoFault}
use Rattle.smb_info.specs.declared.fault.InfoFault.TheVariants.{Short}
use Rattle.smb_info.specs.declared.attributes.Basic.{Basic}
use Rattle.smb_info.specs.declared.attributes.Standard.{Standard}
use Rattle.smb_info.specs.declared.attributes.Internal.{Internal}
use Rattle.smb_info.specs.declared.attributes.All.{All}

-- FileBasicInformation: four times, attributes, reserved
abbrev pub basic : Basic → List Field
basic x =
    U64 (slice_index x.times 0) ∷ U64 (slice_index x.times 1) ∷ U64 (slice_index x.times 2) ∷ U64 (slice_index x.times 3)
    ∷ U32 x.attributes ∷ Any32 0 ∷ []

-- the information is this
abbrev pub IsBasic : Basic → List ℕ → Type 0
IsBasic x info = IsStructure (basic x) [] info

-- FileStandardInformation: allocation size, end of file, links, whether its deletion is pending, whether it is a directory, reserved
abbrev pub standard : Standard → List Field
standard x =
    U64 x.allocation_size ∷ U64 x.end_of_file ∷ U32 x.links ∷ U8 x.delete_pending ∷ U8 x.directory ∷ Any16 0 ∷ []

-- the information is this
abbrev pub IsStandard : Standard → List ℕ → Type 0
IsStandard x info = IsStructure (standard x) [] info

-- FileInternalInformation: the file's number
abbrev pub internal : Internal → List Field
internal x = U64 x.number ∷ []

-- the information is this
abbrev pub IsInternal : Internal → List ℕ → Type 0
IsInternal x info = IsStructure (internal x) [] info

-- FileAllInformation: the three above, size of extended attributes, access, position, mode, alignment, and the length of a name
-- that is not read
abbrev pub all : All → List Field
all x =
    basic x.basic ++ (standard x.standard ++ (internal x.internal
    ++ U32 x.ea_size ∷ U32 x.access ∷ U64 x.position ∷ U32 x.mode ∷ U32 x.alignment ∷ Any32 0 ∷ []))

-- the information begins with this
abbrev pub IsAll : All → List ℕ → Type 0
IsAll x info = IsStructure (all x) [] info

-- each class, read by the same table
unfoldable pub basic_of : List ℕ → Result Basic InfoFault
basic_of = structure Short 40 (times (λ times. number 4 (λ attributes. skip 4 (value (record { times = times; attributes = attributes })))))

unfoldable pub standard_of : List ℕ → Result Standard InfoFault
standard_of =
    structure Short 24 (number 8 (λ allocation. number 8 (λ size. number 4 (λ links. byte (λ pending. byte (λ directory. skip 2
    (value (record { allocation_size = allocation; end_of_file = size; links = links; delete_pending = pending; directory = directory }))))))))

unfoldable pub internal_of : List ℕ → Result Internal InfoFault
internal_of = structure Short 8 (number 8 (λ number. value (record { number = number })))

unfoldable pub all_of : List ℕ → Result All InfoFault
all_of =
    structure Short 100 (times (λ times. number 4 (λ attributes. skip 4 (number 8 (λ allocation. number 8 (λ size. number 4 (λ links.
    byte (λ pending. byte (λ directory. skip 2 (number 8 (λ file. number 4 (λ ea_size. number 4 (λ access. number 8 (λ position.
    number 4 (λ mode. number 4 (λ alignment. skip 4
    (value (record {
      basic = record { times = times; attributes = attributes };
      standard = record { allocation_size = allocation; end_of_file = size; links = links; delete_pending = pending; directory = directory };
      internal = record { number = file };
      ea_size = ea_size;
      access = access;
      position = position;
      mode = mode;
      alignment = alignment;
    }))))))))))))))))))
