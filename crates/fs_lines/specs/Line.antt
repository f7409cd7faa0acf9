-- Lines of bytes. A line ends with LF (10), which is not part of it, or at the end of the bytes where some are left.
use Rattle.std.specs.Prelude.{◌≡◌, ◌==◌, ◌<◌, ◌≤◌, ℕ, List, [], ◌∷◌, length, take, drop, ◌+◌, Option, MatchOption, if◌then◌else◌, IsUtf8, Bool, true, false}
use Rattle.fs_lines.specs.declared.search.TheConstants.{MAX_LINE}
use Rattle.fs_lines.specs.declared.next.NextLine.{NextLine}
use Rattle.fs_lines.specs.declared.next.NextLine.TheVariants.{Line, NotText, TooLong, End, Failed, NoMemory}

-- the bytes before the first LF; all of them where there is none
abbrev pub first_line : List ℕ → List ℕ
first_line [] = []
first_line (b ∷ bs) = if b == 10 then [] else b ∷ first_line bs

-- the bytes behind the first LF; none where there is none
abbrev pub behind : List ℕ → List ℕ
behind [] = []
behind (b ∷ bs) = if b == 10 then bs else behind bs

-- the place of the first LF, or none where there is none
abbrev pub EndsAt : List ℕ → Option ℕ → Type 0
EndsAt bytes place =
    MatchOption place
    ((first_line bytes ≡ bytes) × (behind bytes ≡ []))
    (λ n. (n < length bytes) × (first_line bytes ≡ take n bytes) × (behind bytes ≡ drop (n + 1) bytes))

-- the next line of these bytes, and the bytes that are still ahead then. A line that is too long stays where it is.
abbrev pub Gives : NextLine → List ℕ → List ℕ → Type 0
Gives (Line t) bytes rest =
    (0 < length bytes) × (first_line bytes ≡ t) × (length t ≤ MAX_LINE) × IsUtf8 t × (behind bytes ≡ rest)
Gives NotText bytes rest =
    (0 < length bytes) × (length (first_line bytes) ≤ MAX_LINE) × ¬ (IsUtf8 (first_line bytes)) × (behind bytes ≡ rest)
Gives TooLong bytes rest = (MAX_LINE < length (first_line bytes)) × (bytes ≡ rest)
Gives End bytes rest = (bytes ≡ []) × (rest ≡ [])
Gives Failed bytes rest = bytes ≡ rest
Gives NoMemory bytes rest = bytes ≡ rest

-- the answer rests on the end of the input: a line that no LF ends, or the end itself
abbrev pub NeedsEnd : NextLine → List ℕ → Type 0
NeedsEnd (Line t) bytes = first_line bytes ≡ bytes
NeedsEnd NotText bytes = first_line bytes ≡ bytes
NeedsEnd TooLong bytes = ⊥
NeedsEnd End bytes = Unit {0}
NeedsEnd Failed bytes = ⊥
NeedsEnd NoMemory bytes = ⊥

-- a line was given or refused
abbrev pub is_line : NextLine → Bool
is_line (Line t) = true
is_line NotText = true
is_line TooLong = true
is_line End = false
is_line Failed = false
is_line NoMemory = false

-- a read failed
abbrev pub is_failed : NextLine → Bool
is_failed (Line t) = false
is_failed NotText = false
is_failed TooLong = false
is_failed End = false
is_failed Failed = true
is_failed NoMemory = false
