-- Messages that were sent on the connection and not taken by the share yet.
use Rattle.std.specs.Prelude.{◌==◌, true, not, if◌then◌else◌, List, [], ◌∷◌, filter, Option, Some, None}
use Rattle.smb_base.specs.declared.names.Mid.{Mid}
use Rattle.share_state.specs.declared.connection.LastCreate.{LastCreate}
use Rattle.share_state.specs.declared.connection.Sent.{Sent}

-- a message once a CREATE of this frame was taken: one that came in the frame knows what it came to
abbrev pub behind_create : Mid → LastCreate → Sent → Sent
behind_create frame last one = if one.frame.0 == frame.0 then record one { last_create = last } else one

-- the first message with an id
abbrev pub sent_with : Mid → List Sent → Option Sent
sent_with mid [] = None
sent_with mid (one ∷ others) = if one.mid.0 == mid.0 then Some one else sent_with mid others

-- a message, to which an interim reply was owed where it has this id
abbrev pub put_off : Mid → Sent → Sent
put_off mid one = if one.mid.0 == mid.0 then record one { pended = true } else one

-- the messages but those with this id
abbrev pub sent_but : Mid → List Sent → List Sent
sent_but mid sent = filter (λ one. not (one.mid.0 == mid.0)) sent
