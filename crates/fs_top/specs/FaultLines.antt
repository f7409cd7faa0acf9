-- The lines of the faults that a ping and a run of a script both have.
use Rattle.std.specs.Prelude.{ℕ, ◌/◌, ◌%◌, List, [], ◌∷◌, ◌++◌, codes}
use Rattle.std.specs.Fmt.{decimal}
use Rattle.hex.specs.Hex.{encode_upper}

-- the end of a line
abbrev pub line_end : List ℕ
line_end = 10 ∷ []

-- the line of want of memory
abbrev pub memory_line : List ℕ
memory_line = codes "fault 3 memory" ++ line_end

-- the line of a server that took another dialect, in four upper-case hex digits
abbrev pub dialect_line : ℕ → List ℕ
dialect_line dialect = codes "fault 4 mount dialect 0x" ++ (encode_upper (dialect / 256 ∷ dialect % 256 ∷ []) ++ line_end)

-- the line of a wrong frame: its number in decimal digits, and the word for what is wrong with it
abbrev pub frame_line : ℕ → List ℕ → List ℕ
frame_line number word = codes "fault 5 frame " ++ (decimal number ++ (codes " " ++ (word ++ line_end)))

-- the line of so many connects that failed in a row
abbrev pub connects_line : ℕ → List ℕ
connects_line number = codes "fault 6 connects " ++ (decimal number ++ line_end)

-- the line of a connection that was lost, or silent for too long
abbrev pub cuts_line : List ℕ
cuts_line = codes "fault 6 cuts 1" ++ line_end
