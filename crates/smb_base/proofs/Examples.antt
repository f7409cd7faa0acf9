-- The error table computes.
use Rattle.std.proofs.Common.{◌≡◌, ℕ, [], ◌∷◌, map, refl}
use Rattle.smb_base.specs.ErrorTable.{error_table, error_number}

-- each row is looked up as it stands, so that no row hides another
each_row : map (λ (row : ℕ × ℕ). error_number row.0) error_table ≡ map (λ (row : ℕ × ℕ). row.1) error_table
each_row = refl

-- a status outside the table, success among them, is a remote error
success : error_number 0 ≡ 121
success = refl

another : error_number 0xC000000D ≡ 121
another = refl

too_small_a_buffer : error_number 0xC0000023 ≡ 121
too_small_a_buffer = refl

the_greatest : error_number 0xFFFFFFFF ≡ 121
the_greatest = refl

-- the numbers of Linux's errno.h for the fifteen statuses that have one of their own
each_number : map error_number (0xC0000022 ∷ 0xC0000033 ∷ 0xC0000034 ∷ 0xC0000035 ∷ 0xC000003A ∷ 0xC0000043 ∷ 0xC0000054 ∷ 0xC0000055
    ∷ 0xC0000056 ∷ 0xC000007F ∷ 0xC00000BA ∷ 0xC00000BB ∷ 0xC0000101 ∷ 0xC0000103 ∷ 0xC0000121 ∷ [])
    ≡ 13 ∷ 2 ∷ 2 ∷ 17 ∷ 2 ∷ 16 ∷ 13 ∷ 13 ∷ 16 ∷ 28 ∷ 21 ∷ 95 ∷ 39 ∷ 20 ∷ 13 ∷ []
each_number = refl
