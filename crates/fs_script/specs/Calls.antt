-- The words of each call.
use Rattle.std.specs.Prelude.{ℕ, List, [], ◌∷◌, codes, Result, Ok}
use Rattle.fs_types.specs.declared.call.Fd.{Fd}
use Rattle.fs_types.specs.declared.call.Call.{Call}
use Rattle.fs_types.specs.declared.call.Call.TheVariants as call
use Rattle.fs_script.specs.declared.line.LineFault.{LineFault}
use Rattle.fs_script.specs.declared.call_name.CallName.{CallName}
use Rattle.fs_script.specs.declared.call_name.CallName.TheVariants as name
use Rattle.fs_script.specs.Words.{◌>>=◌, word_at, only, value_in, known}
use Rattle.fs_script.specs.Numbers.{number_of, most_descriptor, most, mode_of}
use Rattle.fs_script.specs.Texts.{path_of, target_of}
use Rattle.fs_script.specs.Data.{data_of}
use Rattle.fs_script.specs.Choices.{flags_of, exclusive_of}

-- the names of the calls
abbrev pub call_names : List (List ℕ × CallName)
call_names =
    (codes "open", name.Open) ∷ (codes "dup", name.Dup) ∷ (codes "close", name.Close) ∷ (codes "fsync", name.Fsync)
    ∷ (codes "ftruncate", name.Ftruncate) ∷ (codes "pread", name.Pread) ∷ (codes "read", name.Read) ∷ (codes "pwrite", name.Pwrite)
    ∷ (codes "write", name.Write) ∷ (codes "append", name.Append) ∷ (codes "seek", name.Seek) ∷ (codes "fstat", name.Fstat)
    ∷ (codes "stat", name.Stat) ∷ (codes "lstat", name.Lstat) ∷ (codes "unlink", name.Unlink) ∷ (codes "rmdir", name.Rmdir)
    ∷ (codes "mkdir", name.Mkdir) ∷ (codes "rename", name.Rename) ∷ (codes "link", name.Link) ∷ (codes "symlink", name.Symlink)
    ∷ (codes "readlink", name.Readlink) ∷ (codes "list", name.List) ∷ (codes "chmod", name.Chmod) ∷ (codes "lock", name.Lock)
    ∷ (codes "unlock", name.Unlock) ∷ (codes "statfs", name.Statfs) ∷ []

abbrev pub name_of : List ℕ → Result CallName LineFault
name_of word = known (value_in call_names word)

-- the number of a descriptor
abbrev pub fd_of : List ℕ → Result Fd LineFault
fd_of word = number_of most_descriptor word >>= (λ n. Ok (record { 0 = n }))

-- an offset, a length or a size
abbrev pub offset_of : List ℕ → Result ℕ LineFault
offset_of word = number_of most word

-- Word 0 of a line is the lane, word 1 the name of the call, and its arguments begin with word 2: so many of them, and no more words.
abbrev pub none : {Y : Type 0} → Y → List (List ℕ) → Result Y LineFault
none y words = only 2 y words

abbrev pub one : {A Y : Type 0} → (List ℕ → Result A LineFault) → (A → Y) → List (List ℕ) → Result Y LineFault
one first make words = do
  a ← word_at 2 first words
  only 3 (make a) words

abbrev pub two : {A B Y : Type 0} → (List ℕ → Result A LineFault) → (List ℕ → Result B LineFault) → (A → B → Y)
    → List (List ℕ) → Result Y LineFault
two first second make words = do
  a ← word_at 2 first words
  b ← word_at 3 second words
  only 4 (make a b) words

abbrev pub three : {A B C Y : Type 0} → (List ℕ → Result A LineFault) → (List ℕ → Result B LineFault) → (List ℕ → Result C LineFault)
    → (A → B → C → Y) → List (List ℕ) → Result Y LineFault
three first second third make words = do
  a ← word_at 2 first words
  b ← word_at 3 second words
  c ← word_at 4 third words
  only 5 (make a b c) words

abbrev pub four : {A B C D Y : Type 0} → (List ℕ → Result A LineFault) → (List ℕ → Result B LineFault) → (List ℕ → Result C LineFault)
    → (List ℕ → Result D LineFault) → (A → B → C → D → Y) → List (List ℕ) → Result Y LineFault
four first second third fourth make words = do
  a ← word_at 2 first words
  b ← word_at 3 second words
  c ← word_at 4 third words
  d ← word_at 5 fourth words
  only 6 (make a b c d) words

-- the call with this name that the words of a line make
abbrev pub call_of : CallName → List (List ℕ) → Result Call LineFault
call_of name.Open words = two path_of flags_of call.Open words
call_of name.Dup words = one fd_of call.Dup words
call_of name.Close words = one fd_of call.Close words
call_of name.Fsync words = one fd_of call.Fsync words
call_of name.Ftruncate words = two fd_of offset_of call.Ftruncate words
call_of name.Pread words = three fd_of offset_of offset_of call.Pread words
call_of name.Read words = two fd_of offset_of call.Read words
call_of name.Pwrite words = three fd_of offset_of data_of call.Pwrite words
call_of name.Write words = two fd_of data_of call.Write words
call_of name.Append words = two fd_of data_of call.Append words
call_of name.Seek words = two fd_of offset_of call.Seek words
call_of name.Fstat words = one fd_of call.Fstat words
call_of name.Stat words = one path_of call.Stat words
call_of name.Lstat words = one path_of call.Lstat words
call_of name.Unlink words = one path_of call.Unlink words
call_of name.Rmdir words = one path_of call.Rmdir words
call_of name.Mkdir words = one path_of call.Mkdir words
call_of name.Rename words = two path_of path_of call.Rename words
call_of name.Link words = two path_of path_of call.Link words
call_of name.Symlink words = two target_of path_of call.Symlink words
call_of name.Readlink words = one path_of call.Readlink words
call_of name.List words = one path_of call.List words
call_of name.Chmod words = two path_of mode_of call.Chmod words
call_of name.Lock words = four fd_of offset_of offset_of exclusive_of call.Lock words
call_of name.Unlock words = three fd_of offset_of offset_of call.Unlock words
call_of name.Statfs words = none call.Statfs words
