-- What is read of a source, and what of it is held.
use Rattle.std.specs.Prelude.{◌≡◌, ℕ, List, [], ◌++◌, ◌≤◌, ◌⊎◌, length, Option, option_map, IfSome, Bool, true, false, if◌then◌else◌}
use Rattle.fs_lines.specs.declared.search.TheConstants.{MAX_LINE}
use Rattle.fs_lines.specs.declared.next.NextLine.{NextLine}
use Rattle.fs_lines.specs.Line.{first_line, Gives, NeedsEnd}

-- the bytes that were read and not yet given, whether the end was met, and the number of the last line
pub record Reading : Type 0 where
  pub held : List ℕ
  pub ended : Bool
  pub number : ℕ

-- the reads of a source took these bytes off its front, where it tells what is left
abbrev pub Took : List ℕ → Option (List ℕ) → Option (List ℕ) → Type 0
Took got before after = before ≡ option_map (λ rest. got ++ rest) after

-- the source is at its end, where it tells what is left
abbrev pub AtEnd : Option (List ℕ) → Type 0
AtEnd left = IfSome left (λ rest. rest ≡ [])

-- the bytes ahead: those held, and behind them what is left of the source, as long as its end was not met
abbrev pub ahead : Reading → List ℕ → List ℕ
ahead r left = if r.ended then r.held else r.held ++ left

-- Bytes are got only where the end was not met, and those held are neither a whole line nor too many for one.
abbrev pub Needed : Reading → List ℕ → Type 0
Needed old got =
    (got ≡ []) ⊎ ((first_line old.held ≡ old.held) × (length old.held ≤ MAX_LINE) × (old.ended ≡ false))

-- what one call did, which got these bytes, over what was left of the source before it and after it
pub record Gave (before after : Option (List ℕ)) (old new : Reading) (answer : NextLine) (got : List ℕ) : Type 0 where
  -- the bytes got are those that the source lost
  pub took : Took got before after
  -- nothing more is read than is needed
  pub needed : Needed old got
  -- the answer is that of the bytes held and got, and the bytes behind it are held
  pub gives : Gives answer (old.held ++ got) new.held
  -- a line with no LF is given, and the end told, only where the end was met
  pub end : NeedsEnd answer (old.held ++ got) → new.ended ≡ true
  -- the end is met where nothing is left, and the last bytes have no LF
  pub met : new.ended ≡ true → (old.ended ≡ true) ⊎ (AtEnd after × (first_line (old.held ++ got) ≡ old.held ++ got))
  -- and for good
  pub stays : old.ended ≡ true → new.ended ≡ true
