-- What a share may choose at a request: the lease and the durable open that it grants.
use Rattle.std.specs.Prelude.{ℕ, ◌==◌, ◌+◌, Bool, true, not, ◌&&◌, ◌||◌, if◌then◌else◌, Option, Some, None, bit_and}
use Rattle.smb_base.specs.declared.names.Key.{Key}
use Rattle.share_state.specs.declared.connection.Grant.{Grant}
use Rattle.share_state.specs.declared.place.Place.{Place}
use Rattle.share_state.specs.declared.place.Place.TheVariants.{NoPath, Missing, There}
use Rattle.share_state.specs.declared.request.Who.{Who}
use Rattle.share_state.specs.declared.request.Req.{Req}
use Rattle.share_state.specs.declared.request.Req.TheVariants as req
use Rattle.share_state.specs.declared.share.Share.{Share}
use Rattle.share_state.specs.Names.{components}
use Rattle.share_state.specs.State.{has}
use Rattle.share_state.specs.Place.{place_of}
use Rattle.share_state.specs.Leases.{lowered, lease_of, is_taken, standing_state, greatest_on}

-- neither a lease nor a durable open
abbrev pub grants_nothing : Grant → Bool
grants_nothing grant = grant.lease == 0 && not grant.durable

-- each bit of the one number is a bit of the other
abbrev pub is_part : ℕ → ℕ → Bool
is_part part whole = bit_and part whole == part

-- a state of a lease between two others: none, R, RH, RW or RWH, with all bits of the one and none but those of the other
abbrev pub is_between : ℕ → ℕ → ℕ → Bool
is_between least most state = is_part least state && is_part state most && lowered state 0 == state

-- a durable open is granted with H alone, and where it is wanted
abbrev pub is_durable_with : Bool → Grant → Bool
is_durable_with wanted grant = not grant.durable || wanted && has grant.lease 2

-- what may be granted of this wish on a node
abbrev pub may_grant : Grant → Share → Who → Option (Key × ℕ) → Bool → ℕ → Bool
may_grant grant s who None durable node = grants_nothing grant
may_grant grant s who (Some wish) durable node =
    if is_taken s.leases who wish.0 then grants_nothing grant
    else is_between (standing_state (lease_of s.leases who wish.0)) (greatest_on s who wish node) grant.lease && is_durable_with durable grant

-- the node at a place, or the one that is made there
abbrev pub node_at : Share → Place → ℕ
node_at s NoPath = 0
node_at s (Missing d name) = s.nodes_made + 1
node_at s (There f) = f.node

-- of a Create as much as is wanted may be granted, as far as what others have open and the lease that stands allow, or less, but not less
-- than what stands; of any other request nothing. To grant as much as may be is always allowed
abbrev pub is_allowed : Option Grant → Share → Who → Req → Bool
is_allowed None s who r = true
is_allowed (Some grant) s who (req.Create path access share disposition options attributes lease durable) =
    may_grant grant s who lease durable (node_at s (place_of s (components path)))
is_allowed (Some grant) s who r = grants_nothing grant
