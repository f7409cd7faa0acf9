-- Which of the requests that wait may be served: of each frame the oldest one.
use Rattle.std.specs.Prelude.{Bool, false, List, map, filter, Option, Some, None}
use Rattle.smb_base.specs.declared.names.Mid.{Mid}
use Rattle.share_state.specs.declared.connection.Sent.{Sent}
use Rattle.fs_plain.specs.World.{is_first_of_frame}

-- their ids, in the order of their frames
unfoldable pub waiting_ids : List Sent → List Mid
waiting_ids sent = map (λ one. one.mid) (filter (λ one. is_first_of_frame sent one) sent)

-- a request that was found may be served: it is the first of its frame
abbrev pub is_next : Option Sent → List Sent → Bool
is_next None sent = false
is_next (Some one) sent = is_first_of_frame sent one
