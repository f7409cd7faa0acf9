-- Frames in which a client finds no fault, by what it awaits.
use Rattle.std.specs.Prelude.{◌≡◌, ℕ, true, is_some, is_ok, IfSome, IfOk, List, [], ◌∷◌}
use Rattle.std.specs.List.{AllByRecursion}
use Rattle.smb_chain.specs.Parts.{parts_of}
use Rattle.smb_head.specs.declared.command.TheConstants.{QUERY_INFO}
use Rattle.smb_mux.specs.declared.taken.Reply.{Reply}
use Rattle.smb_mux.specs.declared.taken.Taken.{Taken}
use Rattle.smb_mux.specs.Judged.{judged}
use Rattle.share_state.specs.declared.connection.Sent.{Sent}
use Rattle.share_state.specs.Sent.{sent_with}
use Rattle.fs_plain.specs.Replies.{command_of, reply_in}
use Rattle.fs_client.specs.View.{View}
use Rattle.fs_client.specs.Looks.{all_looked}
use Rattle.fs_client.specs.Ready.{awaited}

-- a reply to a request in flight that asks for what is known of a file can be read
abbrev pub IsRead : View → Reply → Type 0
IsRead v reply = IfSome (sent_with reply.mid v.flights) (λ (x : Sent).
    command_of x.message ≡ QUERY_INFO → is_some (reply_in x.mid x.message reply.part) ≡ true)

-- so can each such reply that a frame brings
abbrev pub IsReadable : View → List ℕ → Type 0
IsReadable v frame = IfOk (judged (awaited v) frame) (λ (taken : Taken). AllByRecursion (IsRead v) taken.replies)

-- frames that come one after another have no fault and can be read, each by a client that has looked at those before
abbrev pub AreFaultless : List (List ℕ) → View → Type 0
AreFaultless [] v = Unit {0}
AreFaultless (frame ∷ frames) v =
    (is_ok (judged (awaited v) frame) ≡ true) × IsReadable v frame × AreFaultless frames (all_looked (parts_of frame) v)
