-- The numbers of descriptors: what each of them is, which one is the least free, and how many of them are bound to an open description.
use Rattle.std.specs.Prelude.{◌≡◌, ℕ, ◌<◌, ◌≤◌, ◌==◌, Bool, true, false, ◌||◌, List, length, Option, Some, None, is_some, slice_index_or, count_by}
use Rattle.fs_handles.specs.declared.number.Number.{Number}
use Rattle.fs_handles.specs.declared.number.Number.TheVariants.{Free, Reserved, Bound}

-- how many numbers there are
abbrev pub many : ℕ
many = 1024

-- what a number is, in the list that has it of each number from 0 on; what is no number of the list is free
abbrev pub number_at : List Number → ℕ → Number
number_at numbers n = slice_index_or numbers n Free

-- it is reserved
abbrev pub is_reserved : Number → Bool
is_reserved Free = false
is_reserved Reserved = true
is_reserved (Bound d) = false

-- the description that it is bound to, if it is bound
abbrev pub description_of : Number → Option ℕ
description_of Free = None
description_of Reserved = None
description_of (Bound d) = Some d

-- it is bound or reserved
abbrev pub is_held : Number → Bool
is_held number = is_reserved number || is_some (description_of number)

-- it is bound to this description
abbrev pub is_bound_to : ℕ → Number → Bool
is_bound_to d Free = false
is_bound_to d Reserved = false
is_bound_to d (Bound e) = e == d

-- how many are bound or reserved
abbrev pub held : List Number → ℕ
held numbers = count_by is_held numbers

-- each number from one up to another is bound or reserved
abbrev pub AreHeld : List Number → ℕ → ℕ → Type 0
AreHeld numbers low high = (n : ℕ) → low ≤ n → n < high → is_held (number_at numbers n) ≡ true

-- it is neither bound nor reserved, and each lesser number is
pub record IsLeastFree (numbers : List Number) (n : ℕ) : Type 0 where
  pub one : n < length numbers
  pub free : number_at numbers n ≡ Free
  pub least : AreHeld numbers 0 n
