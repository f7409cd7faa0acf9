-- The status and the printed line of each ending of a ping.
use Rattle.std.specs.Prelude.{ℕ, List, ◌++◌, codes}
use Rattle.std.specs.Fmt.{decimal}
use Rattle.hex.specs.Hex.{encode_lower}
use Rattle.fs_top.specs.declared.ping.ending.Ending.{Ending}
use Rattle.fs_top.specs.declared.ping.ending.Ending.TheVariants.{Greeted, Words, Memory, Dialect, Frame, Connects, Cuts}
use Rattle.fs_top.specs.declared.ping.ending.FirstFrameFault.{FirstFrameFault}
use Rattle.fs_top.specs.declared.ping.ending.FirstFrameFault.TheVariants.{Length, Head, Chain, Stranger, Body}
use Rattle.fs_top.specs.FaultLines.{line_end, memory_line, dialect_line, frame_line, connects_line, cuts_line}

-- the exit status of each ending
abbrev pub status_of : Ending → ℕ
status_of (Greeted greeting) = 0
status_of Words = 1
status_of Memory = 3
status_of (Dialect dialect) = 4
status_of (Frame kind) = 5
status_of Connects = 6
status_of Cuts = 6

-- the word for what is wrong with the first frame
abbrev pub kind_text : FirstFrameFault → List ℕ
kind_text Length = codes "length"
kind_text Head = codes "head"
kind_text Chain = codes "chain"
kind_text Stranger = codes "stranger"
kind_text Body = codes "body"

-- the line that is printed, with numbers in decimal digits and the server's id in 32 lower-case hex digits
abbrev pub text_of : Ending → List ℕ
text_of (Greeted greeting) =
    codes "smb 0x0210 caps " ++ (decimal greeting.caps
    ++ (codes " transact " ++ (decimal greeting.transact
    ++ (codes " read " ++ (decimal greeting.read
    ++ (codes " write " ++ (decimal greeting.write
    ++ (codes " guid " ++ (encode_lower greeting.guid ++ line_end)))))))))
text_of Words = codes "fault 1 words" ++ line_end
text_of Memory = memory_line
text_of (Dialect dialect) = dialect_line dialect
text_of (Frame kind) = frame_line 1 (kind_text kind)
text_of Connects = connects_line 1
text_of Cuts = cuts_line
