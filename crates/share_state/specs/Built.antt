-- The requests that the step takes.
use Rattle.std.specs.Prelude.{Bool, true, false, not, ◌&&◌, is_none}
use Rattle.share_state.specs.declared.request.Req.{Req}
use Rattle.share_state.specs.declared.request.Req.TheVariants as req

-- all but a Create that wants a lease or a durable open, the acknowledgement of a break, and the reclaim of a durable open
abbrev pub is_built : Req → Bool
is_built (req.Create path access share disposition options attributes lease durable) = is_none lease && not durable
is_built (req.Ack key state) = false
is_built (req.Reclaim fid key) = false
is_built r = true
