-- A call that was begun and not answered, as its client has it by its own events; and the opens and leases that are no running call's.
use Rattle.std.specs.Prelude.{ℕ, get_or, unwrap_or, ◌==◌, Bool, true, false, not, if◌then◌else◌, List, [], ◌∷◌, ◌++◌, filter, Option, Some, None}
use Rattle.smb_base.specs.declared.names.Fid.{Fid}
use Rattle.smb_base.specs.declared.names.Key.{Key}
use Rattle.smb_base.specs.declared.names.Mid.{Mid}
use Rattle.fs_types.specs.declared.call.Call.{Call}
use Rattle.share_state.specs.declared.request.Rep.{Rep}
use Rattle.share_state.specs.declared.request.RepBody.{RepBody}
use Rattle.share_state.specs.declared.request.RepBody.TheVariants as body
use Rattle.share_state.specs.Reply.{fid_of}
use Rattle.share_state.specs.PlainShare.{shown}
use Rattle.smb_link.specs.Program.{File, Own, Named, Program, Known, replied}

-- a call: its line, its lane, what it is, whether a frame was announced for it, whether a connection was lost while it ran, what is left
-- of its program by the replies that were looked at (no look at what is known is taken before its next mark), the file ids of the opens
-- that it made, the open file that its descriptor named when it began, the frame that it sent last on this connection, and what was
-- known at the mark of that frame
pub record Item : Type 0 where
  pub number : ℕ
  pub lane : ℕ
  pub call : Call
  pub announced : Bool
  pub broken : Bool
  pub rest : Program
  pub fids : List Fid
  pub file : Option ℕ
  pub frame : Option Mid
  pub known : Known

-- where an open of the client stands that no running call has: an open file of the user has it, or it is kept since it was closed for
-- its call. Today there is none.
pub data Place : Type 0 where
  OfFile : ℕ → Place
  KeptSince : ℕ → Place

pub record Placed : Type 0 where
  pub fid : Fid
  pub path : List ℕ
  pub place : Place

-- a lease may be asked back: not asked, asked to be lowered to a state, or that acknowledged by a request in flight
pub data Asking : Type 0 where
  NotAsked : Asking
  Asked : ℕ → Asking
  Acknowledging : Mid → ℕ → Asking

-- a lease of the client: its key, its path, the state that the client counts on, how many breaks of it were told, and what is asked.
-- Today there is none.
pub record Leased : Type 0 where
  pub key : Key
  pub path : List ℕ
  pub believed : ℕ
  pub breaks : ℕ
  pub asking : Asking

-- the call with a number; what is done to that one; and the calls but that one
abbrev pub item_with : ℕ → List Item → Option Item
item_with number [] = None
item_with number (i ∷ is) = if i.number == number then Some i else item_with number is

abbrev pub on_item : ℕ → (Item → Item) → List Item → List Item
on_item number f [] = []
on_item number f (i ∷ is) = if i.number == number then f i ∷ is else i ∷ on_item number f is

abbrev pub items_but : ℕ → List Item → List Item
items_but number items = filter (λ (i : Item). not (i.number == number)) items

-- a call, with the word that a frame was announced for it where it has this number
abbrev pub spoken_for : ℕ → Item → Item
spoken_for number i = if i.number == number then record i { announced = true } else i

-- a call sends this frame, with what was known at its mark
abbrev pub flown : Mid → Known → Item → Item
flown frame known i = record i { frame = Some frame; known = known }

-- with a connection the frames go that were sent on it, and the calls that run are broken off
abbrev pub parted : Item → Item
parted i = record i { broken = true; frame = None }

-- the file ids of a call's opens, with the one that a reply gave
abbrev pub fids_with : RepBody → List Fid → List Fid
fids_with (body.Opened fid action size attributes lease durable) fids = fids ++ fid ∷ []
fids_with other fids = fids

abbrev pub fids_after : Rep → List Fid → List Fid
fids_after reply fids = fids_with reply.body fids

-- the reply to a call's next request is looked at: the call goes on, by what was known at the mark of that request
abbrev pub gone_on : Known → Rep → Item → Item
gone_on known reply i = record i { rest = replied known i.rest (shown reply); fids = fids_after reply i.fids }

-- the file id of an open file of the user
abbrev pub is_of_file : ℕ → Place → Bool
is_of_file file (OfFile n) = n == file
is_of_file file (KeptSince time) = false

abbrev pub fid_placed : ℕ → List Placed → Option Fid
fid_placed file [] = None
fid_placed file (p ∷ ps) = if is_of_file file p.place then Some p.fid else fid_placed file ps

abbrev pub fid_named : Option ℕ → List Placed → Option Fid
fid_named None placed = None
fid_named (Some file) placed = fid_placed file placed

-- the file id of a file of a call: of the n-th open that it made, or of the open file that its descriptor named; that of no open, 0,
-- where there is none
abbrev pub file_id : Option Fid → List Fid → File → Fid
file_id named fids (Own n) = get_or fids n (fid_of 0)
file_id named fids Named = unwrap_or named (fid_of 0)
