-- Examples that compute.
use Rattle.std.proofs.Common.{◌≡◌, inl, inr, ℕ, List, [], ◌∷◌, ◌++◌, refl, arith, replicate, map}
use Rattle.smb_le.specs.Numbers.{number_at, bytes_of}
use Rattle.smb_field.specs.declared.field.Field.TheVariants.{U8, U16, U32, U64, Block, Name, Any8, Any16, Any32, Any64, Place8, Offset16, Offset32, Second32, Follows}
use Rattle.smb_field.specs.Fields.{spelled}
use Rattle.smb_field.specs.Body.{spelling, IsBody, Lends, Strays}
use Rattle.smb_field.specs.TwoParts.{spelling_of_two}
use Rattle.smb_field.specs.Structure.{spelling_in}

-- a body of size 4 with a reserved field
empty : spelling 4 (Any16 0 ∷ []) [] ≡ 4 ∷ 0 ∷ 0 ∷ 0 ∷ []
unfolding spelling spelled bytes_of
empty = refl

-- a path of 2 bytes that stands at 72, and none
path : spelling 9 (Any16 0 ∷ Offset16 ∷ U16 2 ∷ []) (0x61 ∷ 0 ∷ []) ≡ 9 ∷ 0 ∷ 0 ∷ 0 ∷ 72 ∷ 0 ∷ 2 ∷ 0 ∷ 0x61 ∷ 0 ∷ []
unfolding spelling spelled bytes_of
path = refl

no-path : spelling 9 (Any16 0 ∷ Offset16 ∷ U16 0 ∷ []) [] ≡ 9 ∷ 0 ∷ 0 ∷ 0 ∷ 0 ∷ 0 ∷ 0 ∷ 0 ∷ 0 ∷ []
unfolding spelling spelled bytes_of
no-path = refl

-- a second part at the next multiple of 8
two : spelling_of_two 9 (Offset16 ∷ Second32 ∷ []) (1 ∷ []) (2 ∷ [])
    ≡ 9 ∷ 0 ∷ 72 ∷ 0 ∷ 80 ∷ 0 ∷ 0 ∷ 0 ∷ 1 ∷ 0 ∷ 0 ∷ 0 ∷ 0 ∷ 0 ∷ 0 ∷ 0 ∷ 2 ∷ []
unfolding spelling_of_two spelled bytes_of
two = refl

-- a structure with a byte behind it
inner : spelling_in (U16 7 ∷ Follows ∷ []) (1 ∷ []) ≡ 7 ∷ 0 ∷ 1 ∷ []
unfolding spelling_in spelled bytes_of
inner = refl

-- a reader takes another offset too: the part stands at 73
elsewhere : IsBody 9 (Any16 0 ∷ Offset16 ∷ U16 1 ∷ []) (0x61 ∷ []) (replicate 64 0 ++ (9 ∷ 0 ∷ 7 ∷ 7 ∷ 73 ∷ 0 ∷ 1 ∷ 0 ∷ 0 ∷ 0x61 ∷ []))
unfolding number_at
elsewhere = (omega arith, refl, (tt, ((λ some. (omega arith, omega arith, refl)), (refl, tt))))

-- each kind of field as its bytes: a number has its lowest byte first
abbrev sixteen : List ℕ
sixteen = 0 ∷ 1 ∷ 2 ∷ 3 ∷ 4 ∷ 5 ∷ 6 ∷ 7 ∷ 8 ∷ 9 ∷ 10 ∷ 11 ∷ 12 ∷ 13 ∷ 14 ∷ 15 ∷ []

each_kind : spelling 57
    (U8 0x11 ∷ Any8 0x12 ∷ U16 0x2221 ∷ Any16 0x2423 ∷ U32 0x34333231 ∷ Any32 0x38373635 ∷ U64 0x4847464544434241
    ∷ Any64 0x5857565554535251 ∷ Block sixteen ∷ Name (0x61 ∷ 0x62 ∷ 0x63 ∷ 0x64 ∷ []) ∷ Place8 ∷ Any8 0 ∷ Offset16 ∷ [])
    (0xAA ∷ [])
    ≡ 57 ∷ 0 ∷ 0x11 ∷ 0x12 ∷ 0x21 ∷ 0x22 ∷ 0x23 ∷ 0x24 ∷ 0x31 ∷ 0x32 ∷ 0x33 ∷ 0x34 ∷ 0x35 ∷ 0x36 ∷ 0x37 ∷ 0x38
    ∷ 0x41 ∷ 0x42 ∷ 0x43 ∷ 0x44 ∷ 0x45 ∷ 0x46 ∷ 0x47 ∷ 0x48 ∷ 0x51 ∷ 0x52 ∷ 0x53 ∷ 0x54 ∷ 0x55 ∷ 0x56 ∷ 0x57 ∷ 0x58
    ∷ 0 ∷ 1 ∷ 2 ∷ 3 ∷ 4 ∷ 5 ∷ 6 ∷ 7 ∷ 8 ∷ 9 ∷ 10 ∷ 11 ∷ 12 ∷ 13 ∷ 14 ∷ 15 ∷ 0x61 ∷ 0x62 ∷ 0x63 ∷ 0x64
    ∷ 120 ∷ 0 ∷ 120 ∷ 0 ∷ 0xAA ∷ []
unfolding spelling spelled bytes_of
each_kind = refl

-- an empty part: its place is that of the end of the fixed part, its offset 0, and a zero byte stands for it
no_part : spelling 9 (Place8 ∷ Any8 0 ∷ Offset32 ∷ []) [] ≡ 9 ∷ 0 ∷ 72 ∷ 0 ∷ 0 ∷ 0 ∷ 0 ∷ 0 ∷ 0 ∷ []
unfolding spelling spelled bytes_of
no_part = refl

-- a structure of four bytes with two behind it
outer : spelling_in (U32 7 ∷ Follows ∷ []) (1 ∷ 2 ∷ []) ≡ 7 ∷ 0 ∷ 0 ∷ 0 ∷ 1 ∷ 2 ∷ []
unfolding spelling_in spelled bytes_of
outer = refl

-- the first part, the second, and the body of size 9 that names their offsets
abbrev pairs : List ((List ℕ × List ℕ) × List ℕ)
pairs =
    (([], []), 9 ∷ 0 ∷ 0 ∷ 0 ∷ 0 ∷ 0 ∷ 0 ∷ 0 ∷ 0 ∷ [])
    ∷ ((1 ∷ [], []), 9 ∷ 0 ∷ 72 ∷ 0 ∷ 0 ∷ 0 ∷ 0 ∷ 0 ∷ 1 ∷ [])
    ∷ (([], 2 ∷ []), 9 ∷ 0 ∷ 0 ∷ 0 ∷ 72 ∷ 0 ∷ 0 ∷ 0 ∷ 2 ∷ [])
    ∷ ((replicate 8 1, 2 ∷ []), 9 ∷ 0 ∷ 72 ∷ 0 ∷ 80 ∷ 0 ∷ 0 ∷ 0 ∷ 1 ∷ 1 ∷ 1 ∷ 1 ∷ 1 ∷ 1 ∷ 1 ∷ 1 ∷ 2 ∷ [])
    ∷ []

each_pair : map (λ (row : (List ℕ × List ℕ) × List ℕ). spelling_of_two 9 (Offset16 ∷ Second32 ∷ []) row.0.0 row.0.1) pairs
    ≡ map (λ (row : (List ℕ × List ℕ) × List ℕ). row.1) pairs
unfolding spelling_of_two spelled bytes_of
each_pair = refl

-- four bytes behind a header and a fixed part of 64 bytes: what they lend, and what strays
abbrev message : List ℕ
message = replicate 128 0 ++ (1 ∷ 2 ∷ 3 ∷ 4 ∷ [])

all_of_them : Lends 128 (1 ∷ 2 ∷ 3 ∷ 4 ∷ []) message 128
all_of_them = λ some. (omega arith, omega arith, refl)

in_the_middle : Lends 128 (2 ∷ 3 ∷ []) message 129
in_the_middle = λ some. (omega arith, omega arith, refl)

the_last : Lends 128 (4 ∷ []) message 131
the_last = λ some. (omega arith, omega arith, refl)

before_the_end_of_the_fixed_part : Strays 128 127 1 message
before_the_end_of_the_fixed_part = (omega arith, inl (omega arith))

at_the_start : Strays 128 0 1 message
at_the_start = (omega arith, inl (omega arith))

over_the_end : Strays 128 129 4 message
over_the_end = (omega arith, inr (omega arith))

at_the_end : Strays 128 132 1 message
at_the_end = (omega arith, inr (omega arith))

far_behind : Strays 128 0xFFFF 1 message
far_behind = (omega arith, inr (omega arith))

the_greatest : Strays 128 0xFFFFFFFF 0xFFFFFFFF message
the_greatest = (omega arith, inr (omega arith))

too_long : Strays 128 128 0xFFFFFFFF message
too_long = (omega arith, inr (omega arith))

-- an empty part has any offset
empty_at_the_end : Lends 128 [] message 132
empty_at_the_end = λ some. absurd (omega arith)

empty_at_the_start : Lends 128 [] message 0
empty_at_the_start = λ some. absurd (omega arith)

empty_far_behind : Lends 128 [] message 0xFFFFFFFF
empty_far_behind = λ some. absurd (omega arith)
