-- The definitions at examples.
use Rattle.std.proofs.Common.{◌≡◌, refl, ℕ, List, [], ◌∷◌, ◌++◌, replicate, map, Ok, Err, Result}
use Rattle.smb_le.specs.Numbers.{number_at, bytes_of}
use Rattle.smb_info.specs.declared.fault.InfoFault.{InfoFault}
use Rattle.smb_info.specs.declared.fault.InfoFault.TheVariants.{Short, Next}
use Rattle.smb_info.specs.Directory.{Entry, step_of, Refused, chain_of, entries_of, padded}

-- an entry with this offset of the next one and this many bytes of a name, and so many bytes behind its fields
bytes_with : ℕ → ℕ → ℕ → List ℕ
bytes_with next size n = bytes_of 4 next ++ (replicate 56 0 ++ (bytes_of 4 size ++ (replicate 16 0 ++ replicate n 97)))

-- the name of each entry, or the fault
names : List (Result Entry InfoFault) → List (Result (List ℕ) InfoFault)
names [] = []
names (Ok e ∷ entries) = Ok e.name ∷ names entries
names (Err fault ∷ entries) = Err fault ∷ names entries

of-padded : map padded ([] ∷ replicate 1 97 ∷ replicate 8 97 ∷ replicate 9 97 ∷ []) ≡ 80 ∷ 88 ∷ 88 ∷ 96 ∷ []
of-padded = refl

nothing : entries_of [] ≡ []
nothing = refl

too-few : step_of (replicate 79 0) ≡ Refused Short
unfolding step_of
too-few = refl

within-the-fields : step_of (bytes_with 72 2 2) ≡ Refused Next
unfolding step_of bytes_with bytes_of number_at
within-the-fields = refl

past-the-end : step_of (bytes_with 83 2 2) ≡ Refused Next
unfolding step_of bytes_with bytes_of number_at
past-the-end = refl

name-past-the-end : step_of (bytes_with 0 3 2) ≡ Refused Short
unfolding step_of bytes_with bytes_of number_at
name-past-the-end = refl

next-at-the-end : names (entries_of (bytes_with 82 2 2)) ≡ Ok (97 ∷ 97 ∷ []) ∷ Err Short ∷ []
unfolding chain_of step_of names bytes_with bytes_of number_at
next-at-the-end = refl

two-entries : names (entries_of (bytes_with 88 2 8 ++ bytes_with 0 1 1)) ≡ Ok (97 ∷ 97 ∷ []) ∷ Ok (97 ∷ []) ∷ []
unfolding chain_of step_of names bytes_with bytes_of number_at
two-entries = refl
