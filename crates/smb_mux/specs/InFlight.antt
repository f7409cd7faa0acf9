-- A connection with requests in flight.
use Rattle.std.specs.Prelude.{ℕ, ◌<◌, ◌≤◌, List, [], ◌∷◌, ◌++◌, Result, Ok, Err}
use Rattle.std.specs.List.{AllByRecursion}
use Rattle.std.specs.Map.{remove_entry}
use Rattle.std.specs.BTreeMap.{is_at}
use Rattle.std.specs.Ordering.{nat_cmp}
use Rattle.smb_head.specs.declared.head.Head.{Head}
use Rattle.smb_head.specs.declared.head.HeadFault.{HeadFault}
use Rattle.smb_head.specs.declared.request.Request.{Request}
use Rattle.smb_head.specs.Header.{head_of}
use Rattle.smb_chain.specs.declared.parts.BadNext.{BadNext}
use Rattle.smb_chain.specs.Parts.{parts_of}
use Rattle.smb_credit.specs.Window.{Ids, granted_more}
use Rattle.smb_mux.specs.declared.fault.SubmitFault.{SubmitFault}
use Rattle.smb_mux.specs.declared.fault.SubmitFault.TheVariants as starve
use Rattle.smb_mux.specs.declared.taken.Reply.{Reply}
use Rattle.smb_mux.specs.declared.taken.Taken.{Taken}
use Rattle.smb_mux.specs.Sending.{ids_after, flights_of}

-- the ids of the connection, and the requests that are not answered, each by its id and its command, in the order of sending
pub record InFlight : Type 0 where
  pub ids : Ids
  pub awaited : List (ℕ × ℕ)

-- a new connection: id 0 may be used
abbrev pub start : InFlight
start = record { ids = record { granted = 0 ∷ []; used = [] }; awaited = [] }

-- all ids in flight are below a number
abbrev pub AreBelow : ℕ → List (ℕ × ℕ) → Type 0
AreBelow n awaited = AllByRecursion (λ (f : ℕ × ℕ). f.0 < n) awaited

-- requests are sent
abbrev pub after_sending : List Request → InFlight → InFlight
after_sending requests s = record { ids = ids_after s.ids requests; awaited = s.awaited ++ flights_of s.ids requests }

-- a request is answered
abbrev pub but : ℕ → List (ℕ × ℕ) → List (ℕ × ℕ)
but id awaited = remove_entry (is_at (nat_cmp id)) awaited

abbrev pub without : List Reply → List (ℕ × ℕ) → List (ℕ × ℕ)
without [] awaited = awaited
without (r ∷ replies) awaited = without replies (but r.mid.0 awaited)

-- the credits that a message grants, whatever it is
abbrev pub granted_by : Result Head HeadFault → Ids → Ids
granted_by (Ok head) ids = granted_more head.credits ids
granted_by (Err fault) ids = ids

abbrev pub granted_in_part : Result (List ℕ) BadNext → Ids → Ids
granted_in_part (Ok message) ids = granted_by (head_of message) ids
granted_in_part (Err bad) ids = ids

abbrev pub granted_among : List (Result (List ℕ) BadNext) → Ids → Ids
granted_among [] ids = ids
granted_among (part ∷ parts) ids = granted_among parts (granted_in_part part ids)

-- those of all messages of a frame
abbrev pub granted_in : List ℕ → Ids → Ids
granted_in frame ids = granted_among (parts_of frame) ids

-- a frame is taken that brings this
abbrev pub after_taking : List ℕ → Taken → InFlight → InFlight
after_taking frame taken s = record { ids = granted_in frame s.ids; awaited = without taken.replies s.awaited }

-- requests are refused as starved exactly where they cost more ids than may be used
abbrev pub IsStarved : {A : Type 0} → ℕ → ℕ → Result A SubmitFault → Type 0
IsStarved free costs (Ok ticket) = costs ≤ free
IsStarved free costs (Err starve.NoMemory) = costs ≤ free
IsStarved free costs (Err starve.Starved) = free < costs
