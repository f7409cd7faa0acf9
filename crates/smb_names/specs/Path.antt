-- The text of a path, its components and its wire form.
use Rattle.std.specs.Prelude.{◌≡◌, ◌≢◌, ℕ, ◌-◌, ◌==◌, Bool, false, ◌||◌, if◌then◌else◌, List, [], ◌∷◌, ◌++◌, length, take, map}
use Rattle.std.specs.Prelude.{Option, None, Result}
use Rattle.std.specs.List.{All, fold, flat_map, slice_split, join_by}
use Rattle.std.specs.Option.{option_or}
use Rattle.std.specs.Str.{bytes_eq}
use Rattle.smb_names.specs.declared.map.NameMap.{NameMap}
use Rattle.smb_names.specs.declared.fault.NameFault.{NameFault}
use Rattle.smb_names.specs.WireName.{fault_of, spelling, unless_fault}

-- the parts of a path between its slashes
abbrev pub parts : List ℕ → List (List ℕ)
parts path = slice_split (λ b. b == 0x2F) path

-- a part is empty or a full stop: it names the directory where it stands
abbrev pub is_here : List ℕ → Bool
is_here part = length part == 0 || bytes_eq part (0x2E ∷ [])

-- a part is two full stops: it names the directory above
abbrev pub is_above : List ℕ → Bool
is_above part = bytes_eq part (0x2E ∷ 0x2E ∷ [])

-- the components up to a part, given those before it: the same, one less (none at the root), or one more
unfoldable pub after_part : List (List ℕ) → List ℕ → List (List ℕ)
after_part found part = if is_here part then found
    else if is_above part then take (length found - 1) found
    else found ++ part ∷ []

-- the components of a path, part by part from the root
unfoldable pub components : List ℕ → List (List ℕ)
components path = fold after_part [] (parts path)

-- what stands between two slashes and is no name of the directory there or above
pub record IsComponent (name : List ℕ) : Type 0 where
  pub not_here : is_here name ≡ false
  pub not_above : is_above name ≡ false
  pub whole : All (λ b. b ≢ 0x2F) name

-- the text of a path of these components: each behind a slash
abbrev pub path_text : List (List ℕ) → List ℕ
path_text names = flat_map (λ name. 0x2F ∷ name) names

-- the fault of the first component that has one
abbrev pub first_fault : NameMap → List (List ℕ) → Option NameFault
first_fault map [] = None
first_fault map (name ∷ names) = option_or (fault_of map name) (first_fault map names)

-- the units of the components, with a backslash between two of them
abbrev pub joined : NameMap → List (List ℕ) → List ℕ
joined map names = join_by (spelling map) (0x5C ∷ []) names

-- the wire form of a path, or the fault of the first component that has one
abbrev pub path_of : NameMap → List (List ℕ) → Result (List ℕ) NameFault
path_of map names = unless_fault (first_fault map names) (joined map names)

-- these units, cut at each backslash, are those of the components, where there is one
abbrev pub IsCutInto : NameMap → List (List ℕ) → List ℕ → Type 0
IsCutInto wire_map names units = names ≢ [] → slice_split (λ unit. unit == 0x5C) units ≡ map (spelling wire_map) names
