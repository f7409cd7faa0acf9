-- What the client does and gets at the link in one ping, and which ending that has.
use Rattle.std.specs.Prelude.{◌≡◌, ◌<◌, ℕ, ◌+◌, List, [], ◌∷◌, ◌++◌}
use Rattle.smb_link.specs.declared.event.Event.{Event}
use Rattle.smb_link.specs.declared.event.Event.TheVariants.{Got, Quiet, Cut}
use Rattle.smb_head.specs.Stream.{First, Partial, Whole, Bad, first_of}
use Rattle.fs_top.specs.declared.ping.ending.Ending.{Ending}
use Rattle.fs_top.specs.declared.ping.ending.Ending.TheVariants.{Memory, Frame, Cuts}
use Rattle.fs_top.specs.declared.ping.ending.FirstFrameFault.TheVariants.{Length}
use Rattle.smb_link.specs.Came.{Seen, Came}
use Rattle.fs_top.specs.Ping.Verdict.{MessageEnds}

-- the bytes that came, one after another
abbrev pub bytes_got : List Event → List ℕ
bytes_got [] = []
bytes_got (Got bytes ∷ events) = bytes ++ bytes_got events
bytes_got (e ∷ events) = bytes_got events

-- how many waits in vain stand in a row at the end, after so many before
abbrev pub quiets_at_end : ℕ → List Event → ℕ
quiets_at_end n [] = n
quiets_at_end n (Quiet ∷ events) = quiets_at_end (n + 1) events
quiets_at_end n (Got bytes ∷ events) = quiets_at_end 0 events
quiets_at_end n (e ∷ events) = quiets_at_end n events

-- bytes come, or nothing comes, but never 300 times in a row, after so many before; and nothing else happens
abbrev pub Listens : ℕ → List Event → Type 0
Listens n [] = n < 300
Listens n (Quiet ∷ events) = (n < 300) × Listens (n + 1) events
Listens n (Got bytes ∷ events) = (n < 300) × Listens 0 events
Listens n (event ∷ events) = ⊥

-- the wait for the first frame goes on: what came is less than a frame
pub record GoesOn (heard : List Event) : Type 0 where
  pub listens : Listens 0 heard
  pub undecided : first_of (bytes_got heard) ≡ Partial

-- what the bytes say of the first frame: nothing yet, that it is none, or what its messages say
abbrev pub FirstEnds : First → Ending → Type 0
FirstEnds Partial ending = ⊥
FirstEnds (Bad fault) ending = ending ≡ Frame Length
FirstEnds (Whole message rest) ending = MessageEnds message ending

-- the event that ends the wait, and the ending: bytes that decide, the 300th wait in vain in a row, or the end of the connection
abbrev pub LastEnds : List Event → Event → Ending → Type 0
LastEnds heard (Got bytes) ending = FirstEnds (first_of (bytes_got heard ++ bytes)) ending
LastEnds heard Quiet ending = (quiets_at_end 0 heard ≡ 299) × (ending ≡ Cuts)
LastEnds heard Cut ending = ending ≡ Cuts
LastEnds heard event ending = ⊥

-- the wait for the first frame, up to its end
pub record WaitEnds (events : List Event) (ending : Ending) : Type 0 where
  pub heard : List Event
  pub last : Event
  pub events_are : events ≡ heard ++ last ∷ []
  pub went_on : GoesOn heard
  pub ends : LastEnds heard last ending

-- the events that came in the wait for the first frame, up to its end; where memory ran out it broke off
abbrev pub HeardBy : List Event → Ending → Type 0
HeardBy events Memory = Unit {0}
HeardBy events ending = WaitEnds events ending

abbrev pub Heard : Seen → Seen → Ending → Type 0
Heard old new ending = (events : List Event) × Came events old new × HeardBy events ending
