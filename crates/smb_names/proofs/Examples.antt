-- The definitions at names and paths whose answers are known.
use Rattle.std.proofs.Common.{◌≡◌, [], ◌∷◌, refl, Ok, Err}
use Rattle.std.specs.Prelude.{codes}
use Rattle.std.specs.Str.{chars}
use Rattle.smb_names.specs.declared.map.NameMap.TheVariants.{Sfm, Plain}
use Rattle.smb_names.specs.declared.fault.NameFault.TheVariants.{Empty, Reserved}
use Rattle.smb_names.specs.WireName.{fault_of, spelling, wire_of}
use Rattle.smb_names.specs.Path.{after_part, components, path_of}

-- `a*b:`
reserved_within : wire_of Sfm (codes "a*b:") ≡ Ok (0x61 ∷ 0xF021 ∷ 0x62 ∷ 0xF022 ∷ [])
unfolding chars fault_of spelling
reserved_within = refl

-- `end.`
full_stop_at_the_end : wire_of Sfm (codes "end.") ≡ Ok (0x65 ∷ 0x6E ∷ 0x64 ∷ 0xF029 ∷ [])
unfolding chars fault_of spelling
full_stop_at_the_end = refl

-- U+1F600
two_units : wire_of Plain (0xF0 ∷ 0x9F ∷ 0x98 ∷ 0x80 ∷ []) ≡ Ok (0xD83D ∷ 0xDE00 ∷ [])
unfolding chars fault_of spelling
two_units = refl

-- U+F021
private : wire_of Sfm (0xEF ∷ 0x80 ∷ 0xA1 ∷ []) ≡ Err Reserved
unfolding chars fault_of spelling
private = refl

plain_full_stop : wire_of Plain (codes "end.") ≡ Err Reserved
unfolding chars fault_of spelling
plain_full_stop = refl

parts_of_a_path : components (codes "//a/./b/../.c/") ≡ codes "a" ∷ codes ".c" ∷ []
unfolding after_part components
parts_of_a_path = refl

above_the_root : components (codes "/../a") ≡ codes "a" ∷ []
unfolding after_part components
above_the_root = refl

wire_form_of_a_path : path_of Sfm (codes "a" ∷ codes "b " ∷ []) ≡ Ok (0x61 ∷ 0x5C ∷ 0x62 ∷ 0xF028 ∷ [])
unfolding chars fault_of spelling
wire_form_of_a_path = refl

first_refused : path_of Sfm (codes "a" ∷ [] ∷ codes "b/" ∷ []) ≡ Err Empty
unfolding chars fault_of spelling
first_refused = refl
