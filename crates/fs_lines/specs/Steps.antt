-- What each step leads to by which a reader of lines finds and gives the next one.
use Rattle.std.specs.Prelude.{◌≡◌, ◌<◌, ◌≤◌, ◌++◌, ◌⊎◌, ℕ, List, [], length, Option, Some, None, Bool, true, false, IsUtf8}
use Rattle.fs_lines.specs.declared.search.TheConstants.{MAX_LINE}
use Rattle.fs_lines.specs.declared.next.NextLine.{NextLine}
use Rattle.fs_lines.specs.declared.next.NextLine.TheVariants.{Line, NotText, TooLong, End, Failed, NoMemory}
use Rattle.fs_lines.specs.declared.lines.Fill.{Fill}
use Rattle.fs_lines.specs.declared.lines.Fill.TheVariants as fill
use Rattle.fs_lines.specs.declared.lines.LineSearch.{LineSearch}
use Rattle.fs_lines.specs.declared.lines.LineSearch.TheVariants as found
use Rattle.fs_lines.specs.Line.{first_line, EndsAt}
use Rattle.fs_lines.specs.Told.{Reading, Took, AtEnd, Needed}

-- a read that failed
abbrev pub is_fill_failed : Fill → Bool
is_fill_failed fill.More = false
is_fill_failed fill.Ended = false
is_fill_failed fill.Failed = true
is_fill_failed fill.NoMemory = false

-- the reads ended with one that failed
abbrev pub is_found_failed : LineSearch → Bool
is_found_failed (found.Whole n) = false
is_found_failed found.Last = false
is_found_failed found.Long = false
is_found_failed found.Failed = true
is_found_failed found.NoMemory = false

-- what a read brought: bytes, or none, and the end
abbrev pub Brought : Fill → List ℕ → Bool → Bool → Option (List ℕ) → Type 0
Brought fill.More got was is after = (0 < length got) × (is ≡ was)
Brought fill.Ended got was is after = (got ≡ []) × (is ≡ true) × AtEnd after
Brought fill.Failed got was is after = (got ≡ []) × (is ≡ was)
Brought fill.NoMemory got was is after = (got ≡ []) × (is ≡ was)

-- one read
pub record Filled (before after : Option (List ℕ)) (old new : Reading) (fill : Fill) (got : List ℕ) : Type 0 where
  pub took : Took got before after
  pub held : new.held ≡ old.held ++ got
  pub number : new.number ≡ old.number
  pub brought : Brought fill got old.ended new.ended after

-- no LF yet, and more may come
abbrev pub IsOpen : List ℕ → Bool → Type 0
IsOpen bytes ended = (length bytes ≤ MAX_LINE) × EndsAt bytes None × (ended ≡ false)

-- how bytes begin, where the end was met or not
abbrev pub Begins : LineSearch → List ℕ → Bool → Type 0
Begins (found.Whole n) bytes ended = (n ≤ MAX_LINE) × EndsAt bytes (Some n)
Begins found.Last bytes ended = (length bytes ≤ MAX_LINE) × EndsAt bytes None × (ended ≡ true)
Begins found.Long bytes ended = MAX_LINE < length (first_line bytes)
Begins found.Failed bytes ended = ⊥
Begins found.NoMemory bytes ended = ⊥

-- what the bytes held begin with after the reads of a call
abbrev pub FoundBy : LineSearch → List ℕ → Bool → Bool → Option (List ℕ) → Type 0
FoundBy (found.Whole n) bytes was is after = (n ≤ MAX_LINE) × EndsAt bytes (Some n) × (is ≡ was)
FoundBy found.Last bytes was is after =
    (length bytes ≤ MAX_LINE) × EndsAt bytes None × (is ≡ true) × ((was ≡ true) ⊎ AtEnd after)
FoundBy found.Long bytes was is after = (MAX_LINE < length (first_line bytes)) × (is ≡ was)
FoundBy found.Failed bytes was is after = is ≡ was
FoundBy found.NoMemory bytes was is after = is ≡ was

-- the reads of a call
pub record Looked (before after : Option (List ℕ)) (old new : Reading) (found : LineSearch) (got : List ℕ) : Type 0 where
  pub took : Took got before after
  pub held : new.held ≡ old.held ++ got
  pub number : new.number ≡ old.number
  pub needed : Needed old got
  pub found_by : FoundBy found new.held old.ended new.ended after

-- these bytes as a line
abbrev pub Copied : List ℕ → NextLine → Type 0
Copied bytes (Line t) = (bytes ≡ t) × IsUtf8 bytes
Copied bytes NotText = ¬ (IsUtf8 bytes)
Copied bytes TooLong = ⊥
Copied bytes End = ⊥
Copied bytes Failed = ⊥
Copied bytes NoMemory = Unit {0}
