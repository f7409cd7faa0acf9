-- The definitions at examples.
use Rattle.std.proofs.Common.{◌≡◌, refl, List, [], ◌∷◌, ◌++◌, ℕ, replicate, map, Ok}
use Rattle.smb_le.specs.Numbers.{number_at, bytes_of}
use Rattle.smb_chain.specs.Chain.{padded}
use Rattle.smb_chain.specs.Parts.{Only, Then, Bad, step_of, parts_of}

-- so many bytes, with this place of the next message
bytes_with : ℕ → ℕ → List ℕ
bytes_with next n = replicate 20 0 ++ (bytes_of 4 next ++ replicate n 0)

of_padded : map padded (0 ∷ 64 ∷ 65 ∷ 73 ∷ []) ≡ 0 ∷ 64 ∷ 72 ∷ 80 ∷ []
of_padded = refl

no_multiple : step_of (bytes_with 68 176) ≡ Bad
unfolding step_of bytes_with bytes_of number_at
no_multiple = refl

under_a_header : step_of (bytes_with 56 176) ≡ Bad
unfolding step_of bytes_with bytes_of number_at
under_a_header = refl

one_too_few : step_of (bytes_with 64 103) ≡ Bad
unfolding step_of bytes_with bytes_of number_at
one_too_few = refl

just_enough : step_of (bytes_with 64 104) ≡ Then (bytes_with 64 40) (replicate 64 0)
unfolding step_of bytes_with bytes_of number_at
just_enough = refl

no_header : step_of (bytes_with 60 39) ≡ Only (bytes_with 60 39)
unfolding step_of bytes_with bytes_of number_at
no_header = refl

nothing : parts_of [] ≡ Ok [] ∷ []
unfolding parts_of step_of
nothing = refl

two_parts : parts_of (bytes_with 64 104) ≡ Ok (bytes_with 64 40) ∷ Ok (replicate 64 0) ∷ []
unfolding parts_of step_of bytes_with bytes_of number_at
two_parts = refl
