-- Numbers in bytes, computed.
use Rattle.std.proofs.Common.{◌≡◌, ℕ, List, [], ◌∷◌, refl}
use Rattle.smb_le.specs.Numbers.{number_at, bytes_of, overwritten}

-- the lowest byte is first
reads : number_at 2 1 (0xFF ∷ 0x10 ∷ 0x02 ∷ 0xFF ∷ []) ≡ 0x0210
unfolding number_at
reads = refl

abbrev eight : List ℕ
eight = 0xFF ∷ 1 ∷ 2 ∷ 3 ∷ 4 ∷ 5 ∷ 6 ∷ 7 ∷ 8 ∷ 0xFF ∷ []

two_at_1 : number_at 2 1 eight ≡ 0x0201
unfolding number_at
two_at_1 = refl

four_at_1 : number_at 4 1 eight ≡ 0x04030201
unfolding number_at
four_at_1 = refl

eight_at_1 : number_at 8 1 eight ≡ 0x0807060504030201
unfolding number_at
eight_at_1 = refl

writes : bytes_of 4 0x00010203 ≡ 0x03 ∷ 0x02 ∷ 0x01 ∷ 0x00 ∷ []
unfolding bytes_of
writes = refl

-- a number goes over its own bytes alone
writes_over : overwritten 1 (7 ∷ 8 ∷ []) (1 ∷ 2 ∷ 3 ∷ 4 ∷ []) ≡ 1 ∷ 7 ∷ 8 ∷ 4 ∷ []
unfolding overwritten
writes_over = refl

abbrev with_two : List ℕ
with_two = 0xEE ∷ 1 ∷ 2 ∷ 3 ∷ 4 ∷ 0xEE ∷ 0xEE ∷ 0xEE ∷ 0xB2 ∷ 0xA1 ∷ []

abbrev blank : List ℕ
blank = 0xEE ∷ 0xEE ∷ 0xEE ∷ 0xEE ∷ 0xEE ∷ 0xEE ∷ 0xEE ∷ 0xEE ∷ 0xEE ∷ 0xEE ∷ []

two_numbers : overwritten 1 (bytes_of 4 0x04030201) (overwritten 8 (bytes_of 2 0xA1B2) blank) ≡ with_two
unfolding overwritten bytes_of
two_numbers = refl

over_one_of_them : overwritten 2 (bytes_of 8 0x8877665544332211) with_two
    ≡ 0xEE ∷ 1 ∷ 0x11 ∷ 0x22 ∷ 0x33 ∷ 0x44 ∷ 0x55 ∷ 0x66 ∷ 0x77 ∷ 0x88 ∷ []
unfolding overwritten bytes_of
over_one_of_them = refl
