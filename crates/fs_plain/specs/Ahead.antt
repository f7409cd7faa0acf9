-- What the share chose at each request that it took, read from the replies that come later.
use Rattle.std.specs.Prelude.{ℕ, ◌==◌, Bool, false, not, ◌&&◌, if◌then◌else◌, List, [], ◌∷◌, ◌++◌, Option, Some, None, Result, Ok, Err}
use Rattle.smb_base.specs.declared.names.Mid.{Mid}
use Rattle.smb_head.specs.declared.command.TheConstants.{CREATE}
use Rattle.smb_head.specs.declared.head.Head.{Head}
use Rattle.smb_head.specs.declared.head.HeadFault.{HeadFault}
use Rattle.smb_head.specs.Header.{head_of, is_interim}
use Rattle.smb_head.specs.Stream.{frames_in, rest_in}
use Rattle.smb_chain.specs.declared.parts.BadNext.{BadNext}
use Rattle.share_state.specs.declared.connection.Grant.{Grant}
use Rattle.share_state.specs.declared.request.RepBody.{RepBody}
use Rattle.share_state.specs.State.{has}
use Rattle.smb_link.specs.declared.event.Event.{Event}
use Rattle.smb_link.specs.declared.event.Event.TheVariants as event
use Rattle.fs_plain.specs.Masked.{Nothing}
use Rattle.fs_plain.specs.Replies.{opened_in}
use Rattle.fs_plain.specs.World.{messages_in, grant_in}

-- the bytes that come before the connection ends
abbrev pub still_to_come : List Event → List ℕ
still_to_come [] = []
still_to_come (event.Got bytes ∷ events) = bytes ++ still_to_come events
still_to_come (event.Cut ∷ events) = []
still_to_come (event.Joined ∷ events) = []
still_to_come (e ∷ events) = still_to_come events

-- a message is the final reply to the request with an id
abbrev pub is_final : Mid → Result Head HeadFault → Bool
is_final mid (Err fault) = false
is_final mid (Ok head) = has head.flags.0 1 && head.mid.0 == mid.0 && not (is_interim head)

-- the choice that a CREATE reply tells
abbrev pub choice_of : Option RepBody → Option Grant
choice_of None = None
choice_of (Some b) = grant_in b

abbrev pub is_opened : Result Head HeadFault → Bool
is_opened (Err fault) = false
is_opened (Ok head) = head.command == CREATE && head.status.0 == 0

-- the choice that the first final reply to a request tells: that of a CREATE that succeeded; of every other none is told
abbrev pub choice_among : Mid → List (Result (List ℕ) BadNext) → Option Grant
choice_among mid [] = None
choice_among mid (Err bad ∷ messages) = choice_among mid messages
choice_among mid (Ok message ∷ messages) =
    if is_final mid (head_of message)
    then (if is_opened (head_of message) then choice_of (opened_in Nothing message) else None)
    else choice_among mid messages

-- the choices at the requests that are taken in these events, where these bytes of a frame are held
abbrev pub ahead : List ℕ → List Event → List (Option Grant)
ahead held [] = []
ahead held (event.Took mid ∷ events) =
    choice_among mid (messages_in (frames_in (held ++ still_to_come events))) ∷ ahead held events
ahead held (event.Got bytes ∷ events) = ahead (rest_in (held ++ bytes)) events
ahead held (event.Cut ∷ events) = ahead [] events
ahead held (event.Joined ∷ events) = ahead [] events
ahead held (e ∷ events) = ahead held events
