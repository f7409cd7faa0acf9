-- What a message asks for, as the box keeps it.
use Rattle.std.specs.Prelude.{ℕ, Bool, true, false, not, ◌&&◌, is_none, Result, Ok, Err}
use Rattle.smb_field.specs.declared.field.BodyFault.{BodyFault}
use Rattle.smb_body_b.specs.declared.contexts.ContextSet.{ContextSet}
use Rattle.share_state.specs.Built.{is_built}
use Rattle.fs_plain.specs.Requests.{WireRequest, asked_lease}
use Rattle.share_box.specs.declared.requests.ParsedRequest.{ParsedRequest}
use Rattle.share_box.specs.declared.requests.ParsedRequest.TheVariants.{Aside, Share}

-- the same in the words of the wire
abbrev pub wire_request_of : ParsedRequest → WireRequest
wire_request_of Aside = WireRequest.Aside
wire_request_of (Share related r) = WireRequest.Share related r

-- the share takes what is asked for
abbrev pub is_taken : ParsedRequest → Bool
is_taken Aside = true
is_taken (Share related r) = is_built r

-- contexts that read, and that want neither a lease, at this oplock level, nor a durable open, new or old
abbrev pub is_plain : ℕ → ContextSet → Bool
is_plain level set = is_none (asked_lease level set.lease) && not set.durable && is_none set.reclaim

abbrev pub are_plain : ℕ → Result ContextSet BodyFault → Bool
are_plain level (Ok set) = is_plain level set
are_plain level (Err fault) = false
