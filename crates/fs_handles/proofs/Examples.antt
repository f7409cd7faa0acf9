-- The definitions at examples.
use Rattle.std.proofs.Common.{◌≡◌, refl, ◌∷◌, [], List, count_by, Some, None, arith}
use Rattle.fs_handles.specs.declared.number.Number.{Number}
use Rattle.fs_handles.specs.declared.number.Number.TheVariants.{Free, Reserved, Bound}
use Rattle.fs_handles.specs.Numbers.{number_at, held, is_bound_to, description_of, IsLeastFree}

-- 0 and 3 are bound to the description 7, 1 is reserved, 4 is bound to another one
table : List Number
table = Bound 7 ∷ Reserved ∷ Free ∷ Bound 7 ∷ Bound 8 ∷ []

four_held : held table ≡ 4
unfolding table
four_held = refl

two_bound : count_by (is_bound_to 7) table ≡ 2
unfolding table
two_bound = refl

-- a number past the list is free
past : number_at table 5 ≡ Free
unfolding table
past = refl

named : description_of (number_at table 3) ≡ Some 7
unfolding table
named = refl

not_named : description_of (number_at table 1) ≡ None
unfolding table
not_named = refl

-- the first number is the least free one where it is free, whatever the others are
first : (others : List Number) → IsLeastFree (Free ∷ others) 0
first others = record { one = omega arith; free = refl; least = λ n low high. absurd (omega arith) }
