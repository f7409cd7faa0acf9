-- A call's requests in flight are what its program asks, one after another, whatever the replies to those before are. A chain of
-- requests is no special case.
use Rattle.std.specs.Prelude.{◌≡◌, ◌==◌, true, false, MatchBool, List, [], ◌∷◌, Option, Some, None}
use Rattle.std.specs.List.{AllByRecursion}
use Rattle.smb_base.specs.declared.names.Fid.{Fid}
use Rattle.smb_base.specs.declared.names.Mid.{Mid}
use Rattle.share_state.specs.declared.connection.Sent.{Sent}
use Rattle.share_state.specs.declared.request.Rep.{Rep}
use Rattle.share_state.specs.PlainShare.{shown}
use Rattle.smb_link.specs.Program.{File, Program, Known, Ask, Look, Say, settled}
use Rattle.fs_plain.specs.Wishes.{wish_of}
use Rattle.fs_client.specs.Item.{Item, Placed, fids_after, fid_named, file_id}
use Rattle.fs_client.specs.Asked.{is_refused, Asks, fits, behind_it}

-- a request is what a program asks next, with these opens; and then, whatever its reply is, something holds of what is left
abbrev pub AsksNext : (List Fid → File → Fid) → Sent → List Fid → Program → (Program → Rep → Type 0) → Type 0
AsksNext files x fids (Ask wish rest) Then =
    Asks x (wish_of (files fids) wish) × ((reply : Rep) → fits x reply ≡ true → Then (rest (shown reply)) reply)
AsksNext files x fids (Look rest) Then = ⊥
AsksNext files x fids (Say answer) Then = ⊥

-- of the requests in flight those of one frame are so; `seen` is what the replies so far would make of a request. One that is refused
-- with the CREATE before it is passed over.
unfoldable pub FliesAs : (List Fid → File → Fid) → Known → Mid → (Sent → Sent) → Program → List Fid → List Sent → Type 0
FliesAs files known frame seen program fids [] = Unit {0}
FliesAs files known frame seen program fids (x ∷ xs) =
    MatchBool (x.frame.0 == frame.0)
    (MatchBool (is_refused (seen x)) (FliesAs files known frame seen program fids xs)
    (AsksNext files (seen x) fids (settled known program) (λ rest reply.
    FliesAs files known frame (λ y. behind_it (seen x) reply (seen y)) rest (fids_after reply fids) xs)))
    (FliesAs files known frame seen program fids xs)

-- the files of a call, with the opens that it made
abbrev pub files_of : Item → List Placed → List Fid → File → Fid
files_of i placed fids file = file_id (fid_named i.file placed) fids file

-- those of a call's last frame are so
abbrev pub FliesFrom : Option Mid → Item → List Placed → List Sent → Type 0
FliesFrom None i placed flights = Unit {0}
FliesFrom (Some frame) i placed flights = FliesAs (files_of i placed) i.known frame (λ x. x) i.rest i.fids flights

-- no request of this frame is in flight
abbrev pub IsElsewhere : Mid → Sent → Type 0
IsElsewhere frame x = (x.frame.0 == frame.0) ≡ false

abbrev pub IsIdle : Option Mid → List Sent → Type 0
IsIdle None flights = Unit {0}
IsIdle (Some frame) flights = AllByRecursion (IsElsewhere frame) flights
