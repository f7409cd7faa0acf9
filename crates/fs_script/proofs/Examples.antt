-- Texts and lines, computed.
use Rattle.std.proofs.Common.{◌≡◌, ℕ, ◌++◌, List, [], ◌∷◌, None, Some, true, false, Result, Ok, Err, codes, refl, map}
use Rattle.std.specs.Fmt.{decimal, digits}
use Rattle.std.specs.Char.{encode_utf8}
use Rattle.std.specs.Str.{is_utf8, chars}
use Rattle.hex.specs.Hex.{encode_with, decode_pairs}
use Rattle.fs_types.specs.declared.answer.Answer.{Answer}
use Rattle.fs_types.specs.declared.answer.Answer.TheVariants as answer
use Rattle.fs_types.specs.declared.call.Call.{Call}
use Rattle.fs_types.specs.declared.call.Call.TheVariants as call
use Rattle.fs_types.specs.declared.call.Fd.{Fd}
use Rattle.fs_types.specs.declared.names.Kind.{Kind}
use Rattle.fs_types.specs.declared.names.Kind.TheVariants as kind
use Rattle.fs_script.specs.declared.line.Line.TheVariants as line
use Rattle.fs_script.specs.declared.line.LineFault.{LineFault}
use Rattle.fs_script.specs.declared.line.LineFault.TheVariants.{Lane, Word, Number, Path, Hex}
use Rattle.fs_script.specs.Answers.{text_of, line_of}
use Rattle.fs_script.specs.Lines.{lane_names, lane_of, said_by}
use Rattle.fs_script.specs.declared.line.Line.{Line}

abbrev stat : Kind → ℕ → ℕ → ℕ → ℕ → Answer
stat kind size mode links number =
    answer.Stat (record { kind = kind; size = size; mode = mode; links = links; number = number })

-- what a file is known as: modes 0755, 0100644 and 07777
abbrev stats : List (Answer × List ℕ)
stats =
    (stat kind.Dir 0 0x1ED 1 1, codes "stat dir 0 0755 1 1")
    ∷ (stat kind.File 1234 0x81A4 2 77, codes "stat file 1234 0644 2 77")
    ∷ (stat kind.Link 5 0xFFF 1 9, codes "stat link 5 7777 1 9")
    ∷ []

each_stat : map (λ (row : Answer × List ℕ). text_of row.0) stats ≡ map (λ (row : Answer × List ℕ). row.1) stats
unfolding digits
each_stat = refl

-- an answer that is a number or a word
abbrev numbers : List (Answer × List ℕ)
numbers =
    (answer.Done, codes "ok")
    ∷ (answer.Descriptor (record { 0 = 0 }), codes "fd 0")
    ∷ (answer.Count 4096, codes "count 4096")
    ∷ (answer.At 18446744073709551615, codes "at 18446744073709551615")
    ∷ (answer.Room 340282366920938463463374607431768211455 10, codes "room 340282366920938463463374607431768211455 10")
    ∷ (answer.Err (record { 0 = 2 }) None, codes "err 2")
    ∷ []

each_number : map (λ (row : Answer × List ℕ). text_of row.0) numbers ≡ map (λ (row : Answer × List ℕ). row.1) numbers
unfolding digits
each_number = refl

-- bytes and statuses are in hex, the one in lower and the other in upper case
abbrev in_hex : List (Answer × List ℕ)
in_hex =
    (answer.Bytes (0 ∷ 0xAB ∷ 0x7F ∷ []), codes "data 00ab7f")
    ∷ (answer.Bytes [], codes "data -")
    ∷ (answer.Err (record { 0 = 121 }) (Some (record { 0 = 0xC0000022 })), codes "err 121 C0000022")
    ∷ (answer.Err (record { 0 = 5 }) (Some (record { 0 = 0x1A })), codes "err 5 0000001A")
    ∷ []

each_in_hex : map (λ (row : Answer × List ℕ). text_of row.0) in_hex ≡ map (λ (row : Answer × List ℕ). row.1) in_hex
unfolding digits encode_with
each_in_hex = refl

-- names: a space, a percent sign, a control character and each byte of a letter that is not ASCII is escaped
abbrev names : List (Answer × List ℕ)
names =
    (answer.Target (codes "/a b%"), codes "link /a%20b%25")
    ∷ (answer.Target (0x7E ∷ 0x7F ∷ 0xC3 ∷ 0xA9 ∷ 0x21 ∷ []), codes "link ~%7F%C3%A9!")
    ∷ (answer.Names (record { names = []; bad = 0 }), codes "list 0 0")
    ∷ (
      answer.Names (record { names = (codes "50 %", kind.File) ∷ (codes "src", kind.Dir) ∷ (codes "l", kind.Link) ∷ []; bad = 2 }),
      codes "list 3 2 f 50%20%25 d src f l",
    )
    ∷ []

each_name : map (λ (row : Answer × List ℕ). text_of row.0) names ≡ map (λ (row : Answer × List ℕ). row.1) names
unfolding digits
each_name = refl

-- the number of the line stands before the answer
a_first_line : line_of 1 answer.Done ≡ codes "1 ok\n"
unfolding digits
a_first_line = refl

a_refusal : line_of 12 (answer.Err (record { 0 = 2 }) None) ≡ codes "12 err 2\n"
unfolding digits
a_refusal = refl

a_last_line : line_of 18446744073709551615 (answer.Target (10 ∷ [])) ≡ codes "18446744073709551615 link %0A\n"
unfolding digits
a_last_line = refl

-- the lanes are named by their numbers
abbrev lanes : List ℕ
lanes = 0 ∷ 1 ∷ 2 ∷ 3 ∷ 4 ∷ 5 ∷ 6 ∷ 7 ∷ 8 ∷ 9 ∷ 10 ∷ 11 ∷ 12 ∷ 13 ∷ 14 ∷ 15 ∷ []

each_name_of_a_lane : lane_names ≡ map decimal lanes
unfolding digits
each_name_of_a_lane = refl

each_lane : map lane_of lane_names ≡ map (λ (lane : ℕ). Ok lane) lanes
each_lane = refl

abbrev in_lane : ℕ → Call → Result Line LineFault
in_lane lane call = Ok (line.Call lane call)

abbrev fd : ℕ → Fd
fd n = record { 0 = n }

abbrev bad : LineFault → Result Line LineFault
bad fault = Err fault

-- each call, and what its arguments may be
abbrev calls : List (List ℕ × Result Line LineFault)
calls =
    (codes "0 open / r", in_lane 0 (call.Open (codes "/") 1))
    ∷ (codes "15 open /a.b rwcxt", in_lane 15 (call.Open (codes "/a.b") 31))
    ∷ (codes "1 open /%20%2F%25~ wc", in_lane 1 (call.Open (codes "/ /%~") 6))
    ∷ (codes "1 open %2Fa rwt", in_lane 1 (call.Open (codes "/a") 19))
    ∷ (codes "1 open /a wcx", in_lane 1 (call.Open (codes "/a") 14))
    ∷ (codes "0 dup 4294967295", in_lane 0 (call.Dup (fd 4294967295)))
    ∷ (codes "0 close 0", in_lane 0 (call.Close (fd 0)))
    ∷ (codes "0 fsync 1", in_lane 0 (call.Fsync (fd 1)))
    ∷ (codes "0 ftruncate 2 9223372036854775807", in_lane 0 (call.Ftruncate (fd 2) 9223372036854775807))
    ∷ (codes "0 pread 3 10 20", in_lane 0 (call.Pread (fd 3) 10 20))
    ∷ (codes "0 read 3 0", in_lane 0 (call.Read (fd 3) 0))
    ∷ (codes "0 pwrite 3 7 00ff1a", in_lane 0 (call.Pwrite (fd 3) 7 (0 ∷ 255 ∷ 26 ∷ [])))
    ∷ (codes "0 write 3 -", in_lane 0 (call.Write (fd 3) []))
    ∷ (codes "0 append 3 68656c6c6f", in_lane 0 (call.Append (fd 3) (codes "hello")))
    ∷ (codes "0 seek 3 5", in_lane 0 (call.Seek (fd 3) 5))
    ∷ (codes "0 fstat 3", in_lane 0 (call.Fstat (fd 3)))
    ∷ (codes "0 stat /" ++ (0xC3 ∷ 0xA9 ∷ 0x0D ∷ []), in_lane 0 (call.Stat (0x2F ∷ 0xC3 ∷ 0xA9 ∷ 0x0D ∷ [])))
    ∷ (codes "0 lstat /%C3%A9", in_lane 0 (call.Lstat (0x2F ∷ 0xC3 ∷ 0xA9 ∷ [])))
    ∷ (codes "0 unlink /a", in_lane 0 (call.Unlink (codes "/a")))
    ∷ (codes "0 rmdir /a", in_lane 0 (call.Rmdir (codes "/a")))
    ∷ (codes "0 mkdir /a", in_lane 0 (call.Mkdir (codes "/a")))
    ∷ (codes "0 rename /a /b", in_lane 0 (call.Rename (codes "/a") (codes "/b")))
    ∷ (codes "0 link /a /b", in_lane 0 (call.Link (codes "/a") (codes "/b")))
    ∷ (codes "0 symlink ../x%0A /b", in_lane 0 (call.Symlink (codes "../x\n") (codes "/b")))
    ∷ (codes "0 symlink  /b", in_lane 0 (call.Symlink [] (codes "/b")))
    ∷ (codes "0 readlink /b", in_lane 0 (call.Readlink (codes "/b")))
    ∷ (codes "0 list /", in_lane 0 (call.List (codes "/")))
    ∷ (codes "0 chmod /a 0777", in_lane 0 (call.Chmod (codes "/a") 511))
    ∷ (codes "0 chmod /a 0000", in_lane 0 (call.Chmod (codes "/a") 0))
    ∷ (codes "0 lock 1 2 3 s", in_lane 0 (call.Lock (fd 1) 2 3 false))
    ∷ (codes "0 lock 1 2 3 x", in_lane 0 (call.Lock (fd 1) 2 3 true))
    ∷ (codes "0 unlock 1 2 3", in_lane 0 (call.Unlock (fd 1) 2 3))
    ∷ (codes "0 statfs", in_lane 0 call.Statfs)
    ∷ []

each_call : map (λ (row : List ℕ × Result Line LineFault). said_by row.0) calls ≡ map (λ (row : List ℕ × Result Line LineFault). row.1) calls
unfolding is_utf8 chars encode_utf8 decode_pairs
each_call = refl

-- a line that asks for nothing or for a pause, and the first fault of each other: the first wrong word from the left decides
abbrev others : List (List ℕ × Result Line LineFault)
others =
    (codes "", Ok line.Skip)
    ∷ (codes "#", Ok line.Skip)
    ∷ (codes "# 0 stat /a", Ok line.Skip)
    ∷ (codes "#wait", Ok line.Skip)
    ∷ (codes "wait", Ok line.Wait)
    ∷ (codes " #", bad Lane)
    ∷ (codes " 0 stat /a", bad Lane)
    ∷ (codes "00 stat /a", bad Lane)
    ∷ (codes "+1 stat /a", bad Lane)
    ∷ (codes "16 stat /a", bad Lane)
    ∷ (codes "18446744073709551616 stat /a", bad Lane)
    ∷ (codes "stat /a", bad Lane)
    ∷ (codes "wait ", bad Lane)
    ∷ (codes "Wait", bad Lane)
    ∷ (codes "wait\r", bad Lane)
    ∷ (codes "16 fly a", bad Lane)
    ∷ (codes "0", bad Word)
    ∷ (codes "0 ", bad Word)
    ∷ (codes "0 wait", bad Word)
    ∷ (codes "0 fly /a", bad Word)
    ∷ (codes "0  stat /a", bad Word)
    ∷ (codes "0 STAT /a", bad Word)
    ∷ (codes "0 stat", bad Word)
    ∷ (codes "0 stat /a ", bad Word)
    ∷ (codes "0 stat /a /b", bad Word)
    ∷ (codes "0 statfs /", bad Word)
    ∷ (codes "0 statfs\r", bad Word)
    ∷ (codes "0 open /a", bad Word)
    ∷ (codes "0 open /a ", bad Word)
    ∷ (codes "0 open /a wr", bad Word)
    ∷ (codes "0 open /a c", bad Word)
    ∷ (codes "0 open /a rx", bad Word)
    ∷ (codes "0 open /a rtc", bad Word)
    ∷ (codes "0 lock 0 1 2", bad Word)
    ∷ (codes "0 lock 0 1 2 X", bad Word)
    ∷ (codes "0 rename /a", bad Word)
    ∷ (codes "0 symlink ", bad Word)
    ∷ (codes "0 dup 4294967296", bad Number)
    ∷ (codes "0 dup ", bad Number)
    ∷ (codes "0 dup 00", bad Number)
    ∷ (codes "0 dup 01", bad Number)
    ∷ (codes "0 dup +1", bad Number)
    ∷ (codes "0 dup -1", bad Number)
    ∷ (codes "0 dup 1a", bad Number)
    ∷ (codes "0 dup x 1", bad Number)
    ∷ (codes "0 seek 0 9223372036854775808", bad Number)
    ∷ (codes "0 seek 0 18446744073709551616", bad Number)
    ∷ (codes "0 pread 0 x", bad Number)
    ∷ (codes "0 chmod /a 777", bad Number)
    ∷ (codes "0 chmod /a 1777", bad Number)
    ∷ (codes "0 chmod /a 0778", bad Number)
    ∷ (codes "0 chmod /a 00777", bad Number)
    ∷ (codes "0 stat ", bad Path)
    ∷ (codes "0 stat  /a", bad Path)
    ∷ (codes "0 stat a", bad Path)
    ∷ (codes "0 stat a /b", bad Path)
    ∷ (codes "0 stat /%", bad Path)
    ∷ (codes "0 stat /%2", bad Path)
    ∷ (codes "0 stat /%2f", bad Path)
    ∷ (codes "0 stat /%00", bad Path)
    ∷ (codes "0 stat /%C3", bad Path)
    ∷ (codes "0 symlink %ED%A0%80 /l", bad Path)
    ∷ (codes "0 symlink /l ", bad Path)
    ∷ (codes "0 rename a", bad Path)
    ∷ (codes "0 chmod a 9", bad Path)
    ∷ (codes "0 write 0 ", bad Hex)
    ∷ (codes "0 write 0 6", bad Hex)
    ∷ (codes "0 write 0 6A", bad Hex)
    ∷ (codes "0 write 0 --", bad Hex)
    ∷ (codes "0 pwrite 0 0 g0 x", bad Hex)
    ∷ []

each_other : map (λ (row : List ℕ × Result Line LineFault). said_by row.0) others ≡ map (λ (row : List ℕ × Result Line LineFault). row.1) others
unfolding is_utf8 chars encode_utf8 decode_pairs
each_other = refl
