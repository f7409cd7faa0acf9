-- The words of a line, and how they are read one after the other.
use Rattle.std.specs.Prelude.{◌≡◌, ◌≢◌, ℕ, ◌==◌, if◌then◌else◌, List, [], ◌∷◌, Option, Some, None, Result, Ok, Err, MatchResult}
use Rattle.std.specs.List.{slice_split, slice_get}
use Rattle.std.specs.Str.{bytes_eq}
use Rattle.fs_script.specs.declared.line.LineFault.{LineFault}
use Rattle.fs_script.specs.declared.line.LineFault.TheVariants.{Word, NoMemory}

-- what stands between the spaces of a line
abbrev pub words_of : List ℕ → List (List ℕ)
words_of bytes = slice_split (λ b. b == 0x20) bytes

-- one thing after the other: the first fault is that of all
infixl 10 ◌>>=◌
abbrev pub ◌>>=◌ : {X Y : Type 0} → Result X LineFault → (X → Result Y LineFault) → Result Y LineFault
Ok x >>= next = next x
Err fault >>= next = Err fault

-- a word that is missing is a wrong word
abbrev pub read_word : {X : Type 0} → (List ℕ → Result X LineFault) → Option (List ℕ) → Result X LineFault
read_word read None = Err Word
read_word read (Some word) = read word

-- the word with this number, from 0 on, read so
abbrev pub word_at : {X : Type 0} → ℕ → (List ℕ → Result X LineFault) → List (List ℕ) → Result X LineFault
word_at n read words = read_word read (slice_get words n)

-- there are no more words than so many
abbrev pub ended : {X : Type 0} → X → Option (List ℕ) → Result X LineFault
ended x None = Ok x
ended x (Some word) = Err Word

abbrev pub only : {X : Type 0} → ℕ → X → List (List ℕ) → Result X LineFault
only n x words = ended x (slice_get words n)

-- the value that a table of words has for a word
abbrev pub value_in : {X : Type 0} → List (List ℕ × X) → List ℕ → Option X
value_in [] word = None
value_in (row ∷ rows) word = if bytes_eq word row.0 then Some row.1 else value_in rows word

-- a word that the table does not have is a wrong word
abbrev pub known : {X : Type 0} → Option X → Result X LineFault
known None = Err Word
known (Some x) = Ok x

-- this was read where that is said, unless memory ran out
abbrev pub IsRead : {X : Type 0} → Result X LineFault → Result X LineFault → Type 0
IsRead said result = MatchResult result (λ x. said ≡ Ok x) (λ fault. fault ≢ NoMemory → said ≡ Err fault)
