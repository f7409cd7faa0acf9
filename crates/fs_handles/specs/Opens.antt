-- Opens that are kept, each at a number of its own: what stands at a number, and what one call changes.
use Rattle.std.specs.Prelude.{◌≡◌, ◌≢◌, ℕ, List, Option, None, slice_index_or}
use Rattle.fs_handles.specs.declared.open.KeptOpen.{KeptOpen}

-- the open at a number, if one stands there
abbrev pub open_at : List (Option KeptOpen) → ℕ → Option KeptOpen
open_at opens n = slice_index_or opens n None

-- this stands at the number now, and at every other one what stood there
pub record Changes (old new : List (Option KeptOpen)) (n : ℕ) (slot : Option KeptOpen) : Type 0 where
  pub here : open_at new n ≡ slot
  pub elsewhere : (other : ℕ) → other ≢ n → open_at new other ≡ open_at old other
