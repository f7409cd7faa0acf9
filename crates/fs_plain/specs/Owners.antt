-- The ids of the requests in a frame, and whose those are that were sent under marks.
use Rattle.std.specs.Prelude.{ℕ, ◌==◌, if◌then◌else◌, List, [], ◌∷◌, Option, Some, None, Result, Ok, Err}
use Rattle.smb_base.specs.declared.names.Mid.{Mid}
use Rattle.smb_head.specs.Stream.{first_of}
use Rattle.smb_chain.specs.declared.parts.BadNext.{BadNext}
use Rattle.smb_link.specs.Program.{Known}
use Rattle.fs_plain.specs.World.{mid_of, messages_of}

-- the ids of these messages of a frame, in order
abbrev pub mids_among : List (Result (List ℕ) BadNext) → List Mid
mids_among [] = []
mids_among (Err bad ∷ parts) = mids_among parts
mids_among (Ok message ∷ parts) = mid_of message ∷ mids_among parts

-- the ids of the messages of a frame
abbrev pub mids_in : List ℕ → List Mid
mids_in frame = mids_among (messages_of (first_of frame))

-- these ids from a first one on
abbrev pub from : Mid → List Mid → List Mid
from first [] = []
from first (mid ∷ mids) = if mid.0 == first.0 then mid ∷ mids else from first mids

-- a request that was sent under a mark which speaks of its frame: its id, the call, and what the client knew at the mark
pub record Owner : Type 0 where
  pub mid : Mid
  pub number : ℕ
  pub known : Known

-- the owner of a request, if it was sent under a mark
abbrev pub owner_of : Mid → List Owner → Option Owner
owner_of mid [] = None
owner_of mid (o ∷ os) = if o.mid.0 == mid.0 then Some o else owner_of mid os
