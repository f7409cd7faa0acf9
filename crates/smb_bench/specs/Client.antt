-- When a client of the measurements may begin its next call.
use Rattle.std.specs.Prelude.{◌≡◌, ℕ, true, false}
use Rattle.fs_core.specs.Event.{IsAfter, is_connected}
use Rattle.fs_core.specs.Kept.{Kept}

-- a connection stands, the end was not said, and no call has this number or a higher one
pub record MayBegin (number : ℕ) (k : Kept) : Type 0 where
  pub connected : is_connected k.phase ≡ true
  pub going : k.ended ≡ false
  pub after : IsAfter k.last number
