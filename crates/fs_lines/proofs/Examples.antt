-- The definitions at examples.
use Rattle.std.proofs.Common.{◌≡◌, ℕ, zero, suc, ◌==◌, if◌then◌else◌, length, List, refl, [], ◌∷◌, true, false, codes}
use Rattle.fs_lines.specs.Line.{first_line, behind}
use Rattle.fs_lines.specs.Told.{ahead}

two_lines : first_line (104 ∷ 105 ∷ 10 ∷ 120 ∷ []) ≡ 104 ∷ 105 ∷ []
two_lines = refl

behind_one : behind (104 ∷ 105 ∷ 10 ∷ 120 ∷ []) ≡ 120 ∷ []
behind_one = refl

empty_line : first_line (10 ∷ 10 ∷ []) ≡ []
empty_line = refl

carriage_return : first_line (120 ∷ 13 ∷ 10 ∷ []) ≡ 120 ∷ 13 ∷ []
carriage_return = refl

last_line : behind (120 ∷ []) ≡ []
last_line = refl

still_to_come : ahead (record { held = 1 ∷ []; ended = false; number = 0 }) (2 ∷ []) ≡ 1 ∷ 2 ∷ []
still_to_come = refl

at_the_end : ahead (record { held = 1 ∷ []; ended = true; number = 0 }) (2 ∷ []) ≡ 1 ∷ []
at_the_end = refl

-- all lines of some bytes, as long as there are some; at most so many
abbrev lines : ℕ → List ℕ → List (List ℕ)
lines zero bytes = []
lines (suc n) bytes = if length bytes == 0 then [] else first_line bytes ∷ lines n (behind bytes)

no_line : lines 9 [] ≡ []
no_line = refl

one_empty_line : lines 9 (codes "\n") ≡ [] ∷ []
one_empty_line = refl

five_lines : lines 9 (codes "one\ntwo\r\n\n\nlast") ≡ codes "one" ∷ codes "two\r" ∷ [] ∷ [] ∷ codes "last" ∷ []
five_lines = refl

one_line : lines 9 (codes "one\n") ≡ codes "one" ∷ []
one_line = refl

a_carriage_return_alone : lines 9 (codes "\r") ≡ codes "\r" ∷ []
a_carriage_return_alone = refl

-- letters that are not ASCII, and bytes that are no text
green : lines 9 (0x67 ∷ 0x72 ∷ 0xC3 ∷ 0xBC ∷ 0x6E ∷ 10 ∷ 0xE2 ∷ 0x82 ∷ 0xAC ∷ [])
    ≡ (0x67 ∷ 0x72 ∷ 0xC3 ∷ 0xBC ∷ 0x6E ∷ []) ∷ (0xE2 ∷ 0x82 ∷ 0xAC ∷ []) ∷ []
green = refl

not_text : lines 9 (0x61 ∷ 10 ∷ 0xFF ∷ 0xFE ∷ 10 ∷ 0x62 ∷ 10 ∷ 0xC3 ∷ []) ≡ codes "a" ∷ (0xFF ∷ 0xFE ∷ []) ∷ codes "b" ∷ (0xC3 ∷ []) ∷ []
not_text = refl
