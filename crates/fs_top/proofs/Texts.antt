-- Last lines of runs, computed.
use Rattle.std.proofs.Common.{◌≡◌, ◌++◌, ℕ, map, List, [], ◌∷◌, codes, refl}
use Rattle.std.specs.Fmt.{digits}
use Rattle.hex.proofs.OnLiterals.{hex_on_literals}
use Rattle.smb_head.specs.declared.head.HeadFault.TheVariants as head
use Rattle.smb_field.specs.declared.field.BodyFault.TheVariants as body
use Rattle.smb_info.specs.declared.fault.InfoFault.TheVariants as info
use Rattle.smb_mount.specs.declared.fault.MountFault.TheVariants as fault
use Rattle.fs_core.specs.declared.fault.Protocol.TheVariants as protocol
use Rattle.fs_top.specs.declared.run_end.End.{End}
use Rattle.fs_top.specs.declared.run_end.End.TheVariants as end
use Rattle.fs_top.specs.declared.run_end.Wrong.TheVariants as wrong
use Rattle.fs_top.specs.RunEndings.{text_of}

a_refused_session : text_of (end.Mount (fault.Session (record { 0 = 0xC000_006D }))) ≡ codes "fault 4 mount session C000006D" ++ 10 ∷ []
unfolding hex_on_literals
a_refused_session = refl

another_dialect : text_of (end.Mount (fault.Dialect 0x0202)) ≡ codes "fault 4 mount dialect 0x0202" ++ 10 ∷ []
unfolding hex_on_literals
another_dialect = refl

-- the last line of a run at each of its ends; two have none
ends : List End
ends =
    end.Done ∷
    end.Line 7 ∷
    end.Line 18_446_744_073_709_551_615 ∷
    end.Memory ∷
    end.Mount (fault.Dialect 0) ∷
    end.Mount fault.SigningRequired ∷
    end.Mount fault.NotGuest ∷
    end.Mount (fault.Tree (record { 0 = 0xC000_00CC })) ∷
    end.Mount (fault.NotDisk 3) ∷
    end.Frame 1 wrong.Length ∷
    end.Frame 2 (wrong.Protocol (protocol.Head head.Short)) ∷
    end.Frame 3 (wrong.Protocol protocol.Chain) ∷
    end.Frame 12 (wrong.Protocol (protocol.Stranger (record { 0 = 9 }))) ∷
    end.Frame 4 (wrong.Protocol (protocol.Body body.Size)) ∷
    end.Frame 5 (wrong.Protocol (protocol.Info info.Short)) ∷
    end.Frame 6 (wrong.Protocol protocol.NoCredit) ∷
    end.Connects 4 ∷
    end.Cuts ∷
    end.Source ∷
    end.Sink ∷
    end.Frames ∷
    []

last_lines : List (List ℕ)
last_lines =
    [] ∷
    (codes "fault 2 line 7" ++ 10 ∷ []) ∷
    (codes "fault 2 line 18446744073709551615" ++ 10 ∷ []) ∷
    (codes "fault 3 memory" ++ 10 ∷ []) ∷
    (codes "fault 4 mount dialect 0x0000" ++ 10 ∷ []) ∷
    (codes "fault 4 mount signing" ++ 10 ∷ []) ∷
    (codes "fault 4 mount guest" ++ 10 ∷ []) ∷
    (codes "fault 4 mount tree C00000CC" ++ 10 ∷ []) ∷
    (codes "fault 4 mount disk 3" ++ 10 ∷ []) ∷
    (codes "fault 5 frame 1 length" ++ 10 ∷ []) ∷
    (codes "fault 5 frame 2 head" ++ 10 ∷ []) ∷
    (codes "fault 5 frame 3 chain" ++ 10 ∷ []) ∷
    (codes "fault 5 frame 12 stranger" ++ 10 ∷ []) ∷
    (codes "fault 5 frame 4 body" ++ 10 ∷ []) ∷
    (codes "fault 5 frame 5 info" ++ 10 ∷ []) ∷
    (codes "fault 5 frame 6 credit" ++ 10 ∷ []) ∷
    (codes "fault 6 connects 4" ++ 10 ∷ []) ∷
    (codes "fault 6 cuts 1" ++ 10 ∷ []) ∷
    (codes "fault 7 source" ++ 10 ∷ []) ∷
    [] ∷
    (codes "fault 10 frames" ++ 10 ∷ []) ∷
    []

each_last_line : map text_of ends ≡ last_lines
unfolding ends last_lines hex_on_literals digits
each_last_line = refl
