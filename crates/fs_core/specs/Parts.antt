-- Lists of what runs and of what is in flight.
use Rattle.std.specs.Prelude.{ℕ, ◌==◌, Bool, true, false, not, ◌&&◌, if◌then◌else◌, List, [], ◌∷◌, filter, Option, Some, None}
use Rattle.std.specs.List.{list_any}
use Rattle.smb_base.specs.declared.names.Mid.{Mid}
use Rattle.share_state.specs.declared.request.Rep.{Rep}
use Rattle.fs_core.specs.declared.flight.Flight.{Flight}
use Rattle.fs_core.specs.declared.slot.Slot.{Slot}

-- the call with a number; what is done to that one; the calls but that one
abbrev pub slot_with : ℕ → List Slot → Option Slot
slot_with number [] = None
slot_with number (s ∷ ss) = if s.number == number then Some s else slot_with number ss

abbrev pub on_slot : ℕ → (Slot → Slot) → List Slot → List Slot
on_slot number f [] = []
on_slot number f (s ∷ ss) = if s.number == number then f s ∷ ss else s ∷ on_slot number f ss

abbrev pub slots_but : ℕ → List Slot → List Slot
slots_but number slots = filter (λ (s : Slot). not (s.number == number)) slots

-- no call runs in a lane
abbrev pub is_lane_free : ℕ → List Slot → Bool
is_lane_free lane slots = not (list_any (λ (s : Slot). s.lane == lane) slots)

-- the request in flight with an id; the requests but that one
abbrev pub flight_with : Mid → List Flight → Option Flight
flight_with mid [] = None
flight_with mid (f ∷ fs) = if f.mid.0 == mid.0 then Some f else flight_with mid fs

abbrev pub flights_but : Mid → List Flight → List Flight
flights_but mid flights = filter (λ (f : Flight). not (f.mid.0 == mid.0)) flights

-- a request is the first one in flight of its frame
abbrev pub is_first : List Flight → Flight → Bool
is_first [] f = false
is_first (g ∷ gs) f = if g.frame.0 == f.frame.0 then g.mid.0 == f.mid.0 else is_first gs f

-- a request is of the call with a number; nothing of that call is in flight
abbrev pub is_number : ℕ → Option ℕ → Bool
is_number number None = false
is_number number (Some n) = n == number

abbrev pub is_idle : ℕ → List Flight → Bool
is_idle number flights = not (list_any (λ (f : Flight). is_number number f.owner) flights)

-- the requests once the CREATE of a frame was refused, or had success: those that are related to it are refused with it, or not
abbrev pub behind : Mid → Bool → Flight → Flight
behind frame refused f = if f.frame.0 == frame.0 && f.related then record f { refused = refused } else f

-- a reply that came before its turn is one to this request; the replies but that one
abbrev pub is_held : Mid → List (Mid × Rep) → Bool
is_held mid early = list_any (λ (e : Mid × Rep). e.0.0 == mid.0) early

abbrev pub held_but : Mid → List (Mid × Rep) → List (Mid × Rep)
held_but mid early = filter (λ (e : Mid × Rep). not (e.0.0 == mid.0)) early

-- whether anything is in flight
abbrev pub has_flight : List Flight → Bool
has_flight [] = false
has_flight (f ∷ fs) = true
