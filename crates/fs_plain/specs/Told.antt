-- What the client's own events tell, for the plain side and for the client's own view alike. Nothing here looks at a share.
use Rattle.std.specs.Prelude.{ℕ, ◌==◌, Bool, true, false, not, if◌then◌else◌, List, [], ◌∷◌, ◌++◌, take, map, filter, Result}
use Rattle.std.specs.List.{list_any}
use Rattle.smb_base.specs.declared.names.Mid.{Mid}
use Rattle.smb_chain.specs.declared.parts.BadNext.{BadNext}
use Rattle.fs_types.specs.declared.call.Call.{Call}
use Rattle.fs_types.specs.declared.answer.Answer.{Answer}
use Rattle.smb_link.specs.declared.event.Event.{Event}
use Rattle.smb_link.specs.declared.event.Event.TheVariants as event
use Rattle.smb_link.specs.declared.mark.Mark.{Mark}
use Rattle.smb_link.specs.declared.mark.Mark.TheVariants as mark
use Rattle.smb_link.specs.Locals.{Locals, begun, answered}
use Rattle.smb_link.specs.Program.{Known}
use Rattle.fs_plain.specs.Owners.{Owner, mids_in, from}
use Rattle.fs_plain.specs.Facts.{facts_after, nothing_known}

-- a mark that speaks of the next frame: the call, the id of its first request there, how many it has there, and what the client knew at
-- the mark
pub record Announcement : Type 0 where
  pub number : ℕ
  pub first : Mid
  pub count : ℕ
  pub known : Known

-- the owners of the requests that were sent under marks; the marks that speak of the next frame; the lines that were begun, each with
-- its call, the newest first; what the client knows; its clock; and whether it told that no further call begins
pub record Told : Type 0 where
  pub owners : List Owner
  pub announced : List Announcement
  pub begun : List (ℕ × Call)
  pub known : Known
  pub now : ℕ
  pub ended : Bool

-- before the first event
abbrev pub nothing_told : Told
nothing_told = record { owners = []; announced = []; begun = []; known = nothing_known; now = 0; ended = false }

-- a line was begun
abbrev pub was_begun : ℕ → List (ℕ × Call) → Bool
was_begun number lines = list_any (λ line. line.0 == number) lines

-- the ids of a frame that a mark speaks of
abbrev pub ids_of : List Mid → Announcement → List Mid
ids_of mids a = take a.count (from a.first mids)

-- the requests of a frame that a mark speaks of belong to its call, with what was known at the mark
abbrev pub owned_by : List Mid → Announcement → List Owner
owned_by mids a = map (λ mid. record { mid = mid; number = a.number; known = a.known }) (ids_of mids a)

abbrev pub owned_in : List Mid → List Announcement → List Owner
owned_in mids [] = []
owned_in mids (a ∷ announced) = owned_by mids a ++ owned_in mids announced

-- a request is not in a frame
abbrev pub is_outside : List Mid → Owner → Bool
is_outside mids o = not (list_any (λ mid. mid.0 == o.mid.0) mids)

-- a frame is sent: the marks before it say whose its requests are, and every other id in it is nobody's, also where an earlier
-- request had it
abbrev pub told_by_frame : List Mid → Told → Told
told_by_frame mids t = record t { owners = owned_in mids t.announced ++ filter (is_outside mids) t.owners; announced = [] }

-- the answer of a call changes what the client knows by itself
abbrev pub locals_answered : ℕ → Answer → List (ℕ × Call) → Locals → Locals
locals_answered number a [] locals = locals
locals_answered number a (line ∷ lines) locals =
    if line.0 == number then answered number line.1 a locals else locals_answered number a lines locals

abbrev pub told_by_mark : Mark → Told → Told
told_by_mark (mark.Begin number lane call) t =
    record t { begun = (number, call) ∷ t.begun; known = record t.known { locals = begun number call t.known.locals } }
told_by_mark (mark.For number first count) t =
    record t { announced = t.announced ++ record { number = number; first = first; count = count; known = t.known } ∷ [] }
told_by_mark (mark.Answer number a) t =
    record t { known = record t.known { locals = locals_answered number a t.begun t.known.locals } }
told_by_mark (mark.Now time) t = record t { now = time }
told_by_mark mark.End t = record t { ended = true }

-- with the connection what was sent on it goes, and what was to be sent on it
abbrev pub told_by_loss : Told → Told
told_by_loss t = record t { owners = []; announced = [] }

-- what is told once an event happened, where it made these messages whole; the share's own events tell nothing
abbrev pub told_after : Event → List (Result (List ℕ) BadNext) → Told → Told
told_after (event.Marked m) messages t = told_by_mark m t
told_after (event.Sent frame) messages t = told_by_frame (mids_in frame) t
told_after (event.Got bytes) messages t = record t { known = record t.known { facts = facts_after messages t.known.facts } }
told_after event.Joined messages t = told_by_loss t
told_after event.Cut messages t = told_by_loss t
told_after other messages t = t
