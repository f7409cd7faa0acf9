-- The first part of a frame that has a header.
use Rattle.std.proofs.Common.{◌≡◌, ◌≤◌, ℕ, List, false, nat_lt, length, Option, Some, None, refl, ◌∙◌, arith}
use Rattle.std.proofs.lemmas.Bool.Decides.{nat_tests}
use Rattle.std.proofs.lemmas.List.{length-take-le}
use Rattle.smb_le.specs.Numbers.{number_at}
use Rattle.smb_chain.specs.Parts.{step_of, step_at, step_from}
use denote.Ref.{Bor}

long_at : (next : ℕ) (m part : List ℕ) (rest : Option (Bor (List ℕ))) → 64 ≤ length m → step_from part rest ≡ step_at next m → 64 ≤ length part
long_at next m part None long e = grind arith
long_at next m part (Some rest) long e = grind (arith, length-take-le)

-- it has no fewer bytes than a header
pub part_long : (m part : List ℕ) (rest : Option (Bor (List ℕ))) → 64 ≤ length m → step_from part rest ≡ step_of m → 64 ≤ length part
unfolding step_of
part_long m part rest long e =
    let whole : nat_lt (length m) 64 ≡ false = grind (arith, nat_tests) in
    long_at (number_at 4 20 m) m part rest long (e ∙ rw whole refl)
