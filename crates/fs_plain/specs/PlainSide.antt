-- A client without caches at a share of its own, which does what the story's client was asked to do. Beside what it keeps stands what the
-- client's own events tell.
use Rattle.std.specs.Prelude.{ℕ, zero, suc, unwrap_or, ◌==◌, Bool, false, not, if◌then◌else◌, List, [], ◌∷◌, ◌++◌, length, filter, Option, Some, None, ◌+◌}
use Rattle.smb_base.specs.declared.names.Fid.{Fid}
use Rattle.fs_types.specs.declared.call.Call.{Call}
use Rattle.fs_types.specs.declared.call.Call.TheVariants as call
use Rattle.share_state.specs.declared.request.Rep.{Rep}
use Rattle.share_state.specs.declared.share.Share.{Share}
use Rattle.share_state.specs.State.{Making, fresh_share}
use Rattle.share_state.specs.Reply.{fid_of}
use Rattle.share_state.specs.PlainShare.{plain_share, plain_step}
use Rattle.smb_link.specs.declared.event.Event.{Event}
use Rattle.smb_link.specs.declared.event.Event.TheVariants as event
use Rattle.smb_link.specs.declared.mark.Mark.TheVariants as mark
use Rattle.smb_link.specs.Locals.{Locals}
use Rattle.smb_link.specs.Program.{File, Own, Named, Wish, Open as Opening, Query, Close, Program}
use Rattle.smb_link.specs.Story.{is_of_share}
use Rattle.fs_plain.specs.World.{us}
use Rattle.fs_plain.specs.Wishes.{wish_of}
use Rattle.fs_plain.specs.Paired.{Pair, KeptOpen}
use Rattle.fs_plain.specs.Told.{Told, nothing_told}

-- a call that was begun and not answered: its line, its lane, what it is, whether a frame was announced for it, what is left of its
-- program, the opens that it made on the plain share, in order, and the open file that its descriptor named when it began
pub record PlainCall : Type 0 where
  pub number : ℕ
  pub lane : ℕ
  pub call : Call
  pub announced : Bool
  pub rest : Program
  pub opened : List ℕ
  pub file : Option ℕ

-- the plain share; which open there stands for which of the real share, the newest first; the opens that are kept; the calls that run;
-- which plain open each open file stands for; what the client's events tell; how many calls are still to begin; and how many events
-- of the client are still to come that are no answers
pub record PlainSide : Type 0 where
  pub plain : Share
  pub pairs : List Pair
  pub kept : List KeptOpen
  pub running : List PlainCall
  pub described : List (ℕ × ℕ)
  pub told : Told
  pub to_begin : ℕ
  pub to_do : ℕ

-- an event is the client's own and no answer
abbrev pub is_deed : Event → Bool
is_deed (event.Marked (mark.Answer number a)) = false
is_deed e = not (is_of_share e)

-- the number of those
abbrev pub deeds_in : List Event → ℕ
deeds_in events = length (filter is_deed events)

-- how many calls begin in these events
abbrev pub begins_in : List Event → ℕ
begins_in [] = 0
begins_in (event.Marked (mark.Begin number lane call) ∷ events) = 1 + begins_in events
begins_in (e ∷ events) = begins_in events

-- before the first event
abbrev pub plain_side : Making → List Event → PlainSide
plain_side made story = record {
  plain = plain_share (fresh_share made.room made.fold);
  pairs = [];
  kept = [];
  running = [];
  described = [];
  told = nothing_told;
  to_begin = begins_in story;
  to_do = deeds_in story;
}

-- the n-th of these, from 0
abbrev pub nth_open : ℕ → List ℕ → Option ℕ
nth_open n [] = None
nth_open zero (x ∷ xs) = Some x
nth_open (suc n) (x ∷ xs) = nth_open n xs

-- what a list of pairs of numbers says of the first
abbrev pub looked_up : ℕ → List (ℕ × ℕ) → Option ℕ
looked_up n [] = None
looked_up n (entry ∷ entries) = if entry.0 == n then Some entry.1 else looked_up n entries

abbrev pub open_described : Option ℕ → List (ℕ × ℕ) → Option ℕ
open_described None described = None
open_described (Some file) described = looked_up file described

-- the plain open that a file of a call is, where it is one: the one that its own n-th successful CREATE made, or the one of the open
-- file that its descriptor named
abbrev pub open_of_file : PlainCall → List (ℕ × ℕ) → File → Option ℕ
open_of_file c described (Own n) = nth_open n c.opened
open_of_file c described Named = open_described c.file described

-- the descriptor that a call names
abbrev pub descriptor_of : Call → Option ℕ
descriptor_of (call.Dup fd) = Some fd.0
descriptor_of (call.Close fd) = Some fd.0
descriptor_of (call.Fsync fd) = Some fd.0
descriptor_of (call.Ftruncate fd size) = Some fd.0
descriptor_of (call.Pread fd offset size) = Some fd.0
descriptor_of (call.Read fd size) = Some fd.0
descriptor_of (call.Pwrite fd offset bytes) = Some fd.0
descriptor_of (call.Write fd bytes) = Some fd.0
descriptor_of (call.Append fd bytes) = Some fd.0
descriptor_of (call.Seek fd offset) = Some fd.0
descriptor_of (call.Fstat fd) = Some fd.0
descriptor_of (call.Lock fd offset size exclusive) = Some fd.0
descriptor_of (call.Unlock fd offset size) = Some fd.0
descriptor_of other = None

abbrev pub named_by : Option ℕ → Locals → Option ℕ
named_by None locals = None
named_by (Some descriptor) locals = looked_up descriptor locals.descriptors

-- the open file that a call's descriptor names
abbrev pub file_named : Call → Locals → Option ℕ
file_named c locals = named_by (descriptor_of c) locals

-- the call with a number, if it runs; the calls but that one; and the calls with this one in the place of the one with its number
abbrev pub call_with : ℕ → List PlainCall → Option PlainCall
call_with number [] = None
call_with number (c ∷ cs) = if c.number == number then Some c else call_with number cs

abbrev pub calls_but : ℕ → List PlainCall → List PlainCall
calls_but number running = filter (λ c. not (c.number == number)) running

abbrev pub with_call : PlainCall → List PlainCall → List PlainCall
with_call new [] = []
with_call new (c ∷ cs) = if c.number == new.number then new ∷ cs else c ∷ with_call new cs

-- its file id there; that of no open, 0, where it is none, so that the share refuses a request of it as FILE_CLOSED
abbrev pub plain_file_id : PlainCall → List (ℕ × ℕ) → File → Fid
plain_file_id c described file = fid_of (unwrap_or (open_of_file c described file) 0)

-- a request of a call, done on the plain share
abbrev pub wish_done_on : PlainSide → PlainCall → Wish → Rep × Share
wish_done_on p c wish = plain_step p.plain us (wish_of (plain_file_id c p.described) wish)

-- the path that a request opens
abbrev pub path_opened : Wish → List ℕ
path_opened (Opening path access disposition options) = path
path_opened (Query file) = []
path_opened (Close file) = []

-- the opens of a call, with the one that a reply gave
abbrev pub with_given : Option ℕ → List ℕ → List ℕ
with_given None opened = opened
with_given (Some n) opened = opened ++ n ∷ []
