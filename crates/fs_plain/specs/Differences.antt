-- How a story differs from what the plain client does.
use Rattle.std.specs.Prelude.{ℕ, Bool, if◌then◌else◌, Option, Some, None}
use Rattle.fs_types.specs.declared.answer.Answer.{Answer}
use Rattle.fs_types.specs.declared.answer.Answer.TheVariants as answer

-- what is expected, and what was found
pub record Difference : Type 0 where
  pub expected : Answer
  pub found : Answer

-- a difference that is none of answers or replies, as of a request that its call does not make: a fixed one stands for all
abbrev pub odd : Difference
odd = record { expected = answer.Done; found = answer.Err (record { 0 = 5 }) None }

-- that difference, unless something is right
abbrev pub odd_unless : Bool → Option Difference
odd_unless right = if right then None else Some odd

-- this difference, or the first of those after it, with the number of its event
abbrev pub first_of_two : ℕ → Option Difference → Option (ℕ × Difference) → Option (ℕ × Difference)
first_of_two n (Some d) later = Some (n, d)
first_of_two n None later = later
