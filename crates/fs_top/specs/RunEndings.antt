-- How a run of a script ends: the status of each end, and the line that is printed last.
use Rattle.std.specs.Prelude.{◌≡◌, ◌⊎◌, ℕ, List, [], ◌++◌, codes}
use Rattle.std.specs.Fmt.{decimal}
use Rattle.fs_core.specs.declared.fault.Protocol.TheVariants as protocol
use Rattle.smb_mount.specs.declared.fault.MountFault.{MountFault}
use Rattle.smb_mount.specs.declared.fault.MountFault.TheVariants as fault
use Rattle.fs_script.specs.Answers.{status_text}
use Rattle.fs_top.specs.declared.run_end.End.{End}
use Rattle.fs_top.specs.declared.run_end.End.TheVariants as end
use Rattle.fs_top.specs.declared.run_end.Wrong.{Wrong}
use Rattle.fs_top.specs.declared.run_end.Wrong.TheVariants as wrong
use Rattle.fs_top.specs.FaultLines.{line_end, memory_line, dialect_line, frame_line, connects_line, cuts_line}
use Rattle.fs_top.specs.Printing.{Held, TookAll, PrintedAs}

-- the exit status of each end
abbrev pub status_of : End → ℕ
status_of end.Done = 0
status_of (end.Line number) = 2
status_of end.Memory = 3
status_of (end.Mount fault) = 4
status_of (end.Frame number wrong) = 5
status_of (end.Connects number) = 6
status_of end.Cuts = 6
status_of end.Source = 7
status_of end.Sink = 8
status_of end.Frames = 10

-- the word for what is wrong with a frame
abbrev pub word_of : Wrong → List ℕ
word_of wrong.Length = codes "length"
word_of (wrong.Protocol (protocol.Head why)) = codes "head"
word_of (wrong.Protocol (protocol.Body why)) = codes "body"
word_of (wrong.Protocol (protocol.Info why)) = codes "info"
word_of (wrong.Protocol protocol.Chain) = codes "chain"
word_of (wrong.Protocol (protocol.Stranger mid)) = codes "stranger"
word_of (wrong.Protocol protocol.NoCredit) = codes "credit"

-- the line of a step of the mount that the server refused with a status, in eight upper-case hex digits
abbrev pub refused_text : List ℕ → ℕ → List ℕ
refused_text word status = codes "fault 4 mount " ++ (word ++ (codes " " ++ (status_text status ++ line_end)))

-- the line of a refused mount. The last two faults are none of a refused mount: the one has no line, and for the other none is made
abbrev pub mount_text : MountFault → List ℕ
mount_text (fault.Dialect dialect) = dialect_line dialect
mount_text fault.SigningRequired = codes "fault 4 mount signing" ++ line_end
mount_text (fault.Session status) = refused_text (codes "session") status.0
mount_text fault.NotGuest = codes "fault 4 mount guest" ++ line_end
mount_text (fault.Tree status) = refused_text (codes "tree") status.0
mount_text (fault.NotDisk kind) = codes "fault 4 mount disk " ++ (decimal kind ++ line_end)
mount_text (fault.Malformed why) = []
mount_text fault.NoMemory = []

-- the line that is printed last, with numbers in decimal digits; none where all was done, and none where the sink refuses what is printed
abbrev pub text_of : End → List ℕ
text_of end.Done = []
text_of (end.Line number) = codes "fault 2 line " ++ (decimal number ++ line_end)
text_of end.Memory = memory_line
text_of (end.Mount why) = mount_text why
text_of (end.Frame number what) = frame_line number (word_of what)
text_of (end.Connects number) = connects_line number
text_of end.Cuts = cuts_line
text_of end.Source = codes "fault 7 source" ++ line_end
text_of end.Sink = []
text_of end.Frames = codes "fault 10 frames" ++ line_end

-- the line of this end was printed, and the status is the end's; or the sink refused a part of it, and the status is 8
abbrev pub PrintedLine : End → Held → Held → ℕ → Type 0
PrintedLine e old new status = PrintedAs (text_of e) (status_of e) old new status

-- The line of the end was printed; or, where no memory was left to make it, the line of want of memory. Where the sink refused what was
-- printed before, nothing more is printed.
abbrev pub PrintedEnd : End → Held → Held → ℕ → Type 0
PrintedEnd end.Sink old new status = (status ≡ 8) × TookAll [] old new
PrintedEnd e old new status = PrintedLine e old new status ⊎ PrintedLine end.Memory old new status
