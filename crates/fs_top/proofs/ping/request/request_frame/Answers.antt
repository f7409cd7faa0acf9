use Rattle.std.proofs.Common.{append_assoc, refl}
use Rattle.smb_le.specs.Numbers.{bytes_of}
use Rattle.smb_head.specs.Header.{header}
use Rattle.smb_field.specs.Fields.{spelled}
use Rattle.smb_field.specs.Body.{spelling}
use Rattle.fs_top.proofs.ping.request.request_frame.Goals as goal

pub returns : goal.returns
unfolding bytes_of header spelled spelling
returns c =
    rw (c.in_ok-write_negotiate_request.ensures.0, c.in_ok-write_head.ensures.ok, c.in_ok-frame.ensures.items, c.frame_start.ensures.value)
    (rw (append_assoc c.args.seed) refl)
