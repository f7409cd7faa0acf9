-- What a line of a script says, or the first fault that it has. A line is given without its line feed.
use Rattle.std.specs.Prelude.{ℕ, ◌+◌, ◌==◌, Bool, ◌&&◌, ◌||◌, not, nat_lt, if◌then◌else◌, List, [], ◌∷◌, length, slice_index, codes, Result, Ok, Err, is_ok}
use Rattle.std.specs.Str.{bytes_eq}
use Rattle.fs_script.specs.declared.line.Line.{Line}
use Rattle.fs_script.specs.declared.line.Line.TheVariants as line
use Rattle.fs_script.specs.declared.line.LineFault.{LineFault}
use Rattle.fs_script.specs.declared.line.LineFault.TheVariants.{TooLong, Lane}
use Rattle.fs_script.specs.Words.{◌>>=◌, words_of, word_at}
use Rattle.fs_script.specs.Calls.{name_of, call_of}

-- the most bytes that a line has
abbrev pub longest : ℕ
longest = 540000

-- an empty line, or a comment: its first byte is `#`
abbrev pub is_skip : List ℕ → Bool
is_skip line = length line == 0 || slice_index line 0 == 0x23

-- the line `wait`
abbrev pub is_wait : List ℕ → Bool
is_wait line = bytes_eq line (codes "wait")

-- the names of the lanes in their order: the numbers from 0 to 15 in decimal
abbrev pub lane_names : List (List ℕ)
lane_names =
    codes "0" ∷ codes "1" ∷ codes "2" ∷ codes "3" ∷ codes "4" ∷ codes "5" ∷ codes "6" ∷ codes "7" ∷ codes "8" ∷ codes "9"
    ∷ codes "10" ∷ codes "11" ∷ codes "12" ∷ codes "13" ∷ codes "14" ∷ codes "15" ∷ []

-- the lane that a word names, where the lanes from this one on have these names
abbrev pub lane_from : ℕ → List (List ℕ) → List ℕ → Result ℕ LineFault
lane_from lane [] word = Err Lane
lane_from lane (name ∷ names) word = if bytes_eq word name then Ok lane else lane_from (lane + 1) names word

-- the lane that a word names
abbrev pub lane_of : List ℕ → Result ℕ LineFault
lane_of word = lane_from 0 lane_names word

-- the words of a line: a lane, the name of a call, and its arguments
abbrev pub words_say : List (List ℕ) → Result Line LineFault
words_say words = do
  lane ← word_at 0 lane_of words
  name ← word_at 1 name_of words
  call ← call_of name words
  Ok (line.Call lane call)

-- what a line says
abbrev pub said_by : List ℕ → Result Line LineFault
said_by bytes =
    if nat_lt longest (length bytes) then Err TooLong
    else if is_skip bytes then Ok line.Skip
    else if is_wait bytes then Ok line.Wait
    else words_say (words_of bytes)

-- a line that has a lane and the name of a call
abbrev pub has_call : List ℕ → Bool
has_call bytes =
    not (nat_lt longest (length bytes)) && not (is_skip bytes) && not (is_wait bytes)
    && is_ok (word_at 0 lane_of (words_of bytes)) && is_ok (word_at 1 name_of (words_of bytes))
