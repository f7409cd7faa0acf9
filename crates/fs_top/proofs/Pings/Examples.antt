-- Lines, frames and tales of pings, computed.
use Rattle.fs_top.specs.Ping.Tale.{bytes_got, quiets_at_end}
use Rattle.std.proofs.Common.{◌≡◌, ◌++◌, List, [], ◌∷◌, length, replicate, codes, refl}
use Rattle.std.specs.Fmt.{digits}
use Rattle.smb_link.specs.declared.event.Event.{Event}
use Rattle.smb_link.specs.declared.event.Event.TheVariants.{Got, Quiet}
use Rattle.fs_top.specs.declared.ping.ending.Ending.TheVariants as ending
use Rattle.fs_top.specs.declared.ping.ending.FirstFrameFault.TheVariants as kind
use Rattle.smb_link.specs.Came.{counted_all, is_silence}
use Rattle.fs_top.specs.Ping.Endings.{text_of}
use Rattle.fs_top.specs.Ping.Request.{ping_frame}

-- the frame has 106 bytes
frame_length : length (ping_frame (replicate 16 7)) ≡ 106
frame_length = refl

a_bad_frame : text_of (ending.Frame kind.Stranger) ≡ codes "fault 5 frame 1 stranger" ++ 10 ∷ []
unfolding digits
a_bad_frame = refl

-- two silences, three bytes in two pieces, and a silence
tale : List Event
tale = Quiet ∷ Quiet ∷ Got (1 ∷ 2 ∷ []) ∷ Got (3 ∷ []) ∷ Quiet ∷ []

tale_bytes : bytes_got tale ≡ 1 ∷ 2 ∷ 3 ∷ []
unfolding tale
tale_bytes = refl

tale_quiets : quiets_at_end 0 tale ≡ 1
unfolding tale
tale_quiets = refl

tale_counts : counted_all 40 is_silence tale ≡ 43
unfolding tale
tale_counts = refl
