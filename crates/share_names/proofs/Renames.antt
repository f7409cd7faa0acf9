-- A Rename that nothing refuses.
use Rattle.std.proofs.Common.{◌≡◌, ℕ, Bool, List, Some, None, refl}
use Rattle.smb_base.specs.declared.names.Fid.{Fid}
use Rattle.share_state.specs.declared.opens.Open.{Open}
use Rattle.share_state.specs.declared.request.Who.{Who}
use Rattle.share_state.specs.declared.share.Share.{Share}
use Rattle.share_state.specs.Names.{components}
use Rattle.share_state.specs.Place.{place_of}
use Rattle.share_state.specs.Reply.{of_status}
use Rattle.share_state.specs.Close.{open_of}
use Rattle.share_state.specs.NewNames.{last_name, directory_at, entry_at, refusal_of_rename, renamed, rename_of}

pub rename_done : (s : Share) (who : Who) (fid : Fid) (replace : Bool) (path : List ℕ) (o : Open)
    → open_of s.opens who fid ≡ Some o → refusal_of_rename s o replace (components path) ≡ None
    → rename_of s who fid replace path
    ≡ (
      of_status 0,
      renamed s o.entry (directory_at s (place_of s (components path))) (last_name (components path))
          (entry_at (place_of s (components path))),
    )
rename_done s who fid replace path o found free = rw (found, free) refl
