-- The requests that a call wishes for, and which requests to the real share are those.
use Rattle.std.specs.Prelude.{ℕ, ◌==◌, Bool, true, false, ◌&&◌, if◌then◌else◌, None}
use Rattle.std.specs.Str.{bytes_eq}
use Rattle.smb_base.specs.declared.names.Fid.{Fid}
use Rattle.share_state.specs.declared.request.Req.{Req}
use Rattle.share_state.specs.declared.request.Req.TheVariants as req
use Rattle.share_state.specs.State.{has}
use Rattle.smb_link.specs.Program.{File, Wish, Open as Opening, Query, Close, Program, Ask, Look, Say}
use Rattle.fs_plain.specs.Masked.{Untold, is_whole}

-- the attributes of a CREATE: none for a directory, else NORMAL
abbrev pub wished_attributes : ℕ → ℕ
wished_attributes options = if has options 1 then 0 else 0x80

-- a request of a call, with the file ids of its files
abbrev pub wish_of : (File → Fid) → Wish → Req
wish_of fid (Opening path access disposition options) =
    req.Create path access 7 disposition options (wished_attributes options) None false
wish_of fid (Query file) = req.Query (fid file)
wish_of fid (Close file) = req.Close (fid file)

-- a request to the real share is the one of the call, apart from the file id, the lease and the durable wish
abbrev pub is_wished : Wish → Req → Bool
is_wished (Opening path access disposition options) (req.Create path' access' share' disposition' options' attributes' lease durable) =
    bytes_eq path path' && access == access' && share' == 7 && disposition == disposition' && options == options'
    && attributes' == wished_attributes options
is_wished (Query file) (req.Query fid) = true
is_wished (Close file) (req.Close fid) = true
is_wished wish r = false

-- the request is the next one of the call's program, and asks to be told as much as the program does: everything
abbrev pub is_next : Program → Untold → Req → Bool
is_next (Ask wish rest) u request = is_whole u && is_wished wish request
is_next (Look rest) u request = false
is_next (Say answer) u request = false
