-- Parts of an event, one behind the other: what is so of their ends.
use Rattle.std.proofs.Common.{rules, arith, ◌≡◌, ◌∙◌, refl, ap, subst, ℕ, zero, suc, ◌+◌, ◌<◌, ◌≤◌, ◌==◌, Bool, true, false, not, if◌then◌else◌, List, [], ◌∷◌, ◌++◌, length, Option, Some, None, Result, Ok, Err}
use Rattle.std.specs.Prelude.{IfErr, filter, option_map, slice_get}
use Rattle.smb_head.specs.declared.request.Request.{Request}
use Rattle.smb_head.specs.declared.first.TheConstants.{MAX_FRAME}
use Rattle.smb_mount.specs.Requests.{tree_disconnect, logoff}
use Rattle.smb_mux.specs.Sending.{room_of}
use Rattle.fs_client.proofs.Lists.{none_some, some_is}
use Rattle.fs_core.specs.declared.flight.Flight.{Flight}
use Rattle.fs_core.specs.declared.phase.Phase.{Phase}
use Rattle.fs_core.specs.declared.phase.Phase.TheVariants as phase
use Rattle.fs_core.specs.declared.slot.Slot.{Slot}
use Rattle.fs_core.specs.declared.stat.Outcome.{Outcome}
use Rattle.fs_core.specs.declared.stat.Progress.{Progress}
use Rattle.fs_core.specs.declared.stat.Progress.TheVariants as progress
use Rattle.fs_core.specs.Asks.{leave_asks, progress_with, asking_with, asking_by, said_by, said_if, first_said}
use Rattle.fs_core.specs.Going.{IsWaiting, LooksAt, IsNoAsker, Sends, with_kept, greeting_of}
use Rattle.fs_core.specs.Kept.{Kept, CoreValue}
use Rattle.fs_core.specs.Parts.{slot_with, slots_but, is_idle, has_flight}
use Rattle.smb_mux.specs.InFlight.{start}
use Rattle.fs_core.specs.declared.input.Input.TheVariants as input
use Rattle.fs_core.specs.Event.{Comes, is_apart}
use Rattle.fs_core.proofs.MarkingGoing.{no_call_left}
use Rattle.fs_core.proofs.MarkingJoined.{comes_joined}
use Rattle.fs_core.proofs.SendingAsides.{disconnect_room, logoff_room}

-- a fault that has one cause has another that follows from it
pub if_err : {T E : Type 0} {P Q : E → Type 0} (r : Result T E) → ((e : E) → P e → Q e) → IfErr r P → IfErr r Q
if_err (Ok x) weaker holds = record {}
if_err (Err e) weaker holds = weaker e holds

-- something is in flight behind a list of requests
pub flies_behind : (fs : List Flight) (g : Flight) (gs : List Flight) → has_flight (fs ++ g ∷ gs) ≡ true
flies_behind [] g gs = refl
flies_behind (f ∷ fs) g gs = refl

-- what leaves the share is short
pub leave_room : (ended : Bool) (p : Phase) (r : Request) → leave_asks ended p ≡ Some r → room_of (r ∷ []) ≤ MAX_FRAME
leave_room true (phase.On facts) r asks = subst (λ (q : Request). room_of (q ∷ []) ≤ MAX_FRAME) (some_is (tree_disconnect facts) r asks) (disconnect_room facts)
leave_room false (phase.On facts) r asks = absurd (none_some r asks)
leave_room ended (phase.LeavingTree facts) r asks = subst (λ (q : Request). room_of (q ∷ []) ≤ MAX_FRAME) (some_is (logoff facts) r asks) (logoff_room facts)
leave_room ended other r asks = absurd (none_some r asks)

pub sends_fly : (old new : CoreValue) (number : ℕ) (rs : List Request) → 0 < length rs → Sends number rs old new → has_flight new.kept.flights ≡ true
sends_fly old new number [] some so = absurd (omega (arith, some))
sends_fly old new number (r ∷ rs) some so = ap (λ (k : Kept). has_flight k.flights) so.kept ∙ flies_behind old.kept.flights _ _

-- a list without some of its elements is no longer
filter_short : (test : Slot → Bool) (slots : List Slot) → length (filter test slots) ≤ length slots
filter_short test [] = omega arith
filter_short test (s ∷ slots) = by (test s) (filter_short test slots)
  where
    by : (t : Bool) → length (filter test slots) ≤ length slots → length (if t then s ∷ filter test slots else filter test slots) ≤ suc (length slots)
    by true le = omega (arith, le)
    by false le = omega (arith, le)

-- of the calls the one that is answered goes
pub said_fewer : (flights : List Flight) (slots : List Slot) (number : ℕ) (o : Outcome) → first_said flights slots ≡ Some (number, o)
    → length (slots_but number slots) < length slots
said_fewer flights [] number o said = absurd (none_some (number, o) said)
said_fewer flights (s ∷ slots) number o said = by (is_idle s.number flights) (said_by s.stat.progress) (said_fewer flights slots number o) said
  where
    short : (t : Bool) → (s.number == number) ≡ t → (t ≡ false → length (slots_but number slots) < length slots)
        → length (if not t then s ∷ slots_but number slots else slots_but number slots) < suc (length slots)
    short true is later = omega (arith, filter_short (λ (t : Slot). not (t.number == number)) slots)
    short false is later = omega (arith, later refl)

    away : length (slots_but number slots) < length slots → length (slots_but number (s ∷ slots)) < suc (length slots)
    away later = short (s.number == number) refl (λ is. later)

    differ : (a b : ℕ) → a ≡ b → (a == b) ≡ false → ⊥
    differ a b is other = search rules

    here : s.number ≡ number → length (slots_but number (s ∷ slots)) < suc (length slots)
    here is = short (s.number == number) refl (λ (other : (s.number == number) ≡ false). absurd (differ s.number number is other))

    by : (idle : Bool) (p : Option Outcome) → (first_said flights slots ≡ Some (number, o) → length (slots_but number slots) < length slots)
        → said_if idle s.number p (first_said flights slots) ≡ Some (number, o) → length (slots_but number (s ∷ slots)) < suc (length slots)
    by true (Some q) behind is = here (ap (λ (x : ℕ × Outcome). x.0) (some_is (s.number, q) (number, o) is))
    by true None behind is = away (behind is)
    by false p behind is = away (behind is)

-- what a call that is asked for its next request has to ask
asked_if : (idle : Bool) (p : Option Progress) (first : Bool) → (if idle then asking_by p else None) ≡ Some first
    → (idle ≡ true) × (asking_by p ≡ Some first)
asked_if true p first is = (refl, is)
asked_if false p first is = absurd (none_some first is)

unsaid : (p : Progress) (first : Bool) → asking_by (Some p) ≡ Some first → said_by p ≡ None
unsaid progress.Opening first asks = refl
unsaid (progress.Querying fid) first asks = refl
unsaid (progress.Closing fid o) first asks = refl
unsaid (progress.Said o) first asks = absurd (none_some first asks)

pub asking_waits : (number : ℕ) (k : Kept) (first : Bool) → asking_with number k.flights k.slots ≡ Some first → IsWaiting number k
asking_waits number k first asks =
    let both = asked_if (is_idle number k.flights) (progress_with number k.slots) first asks in
    by (slot_with number k.slots) refl both.0 both.1
  where
    by : (o : Option Slot) → slot_with number k.slots ≡ o → is_idle number k.flights ≡ true
        → asking_by (option_map (λ (s : Slot). s.stat.progress) o) ≡ Some first → IsWaiting number k
    by None found idle is = absurd (none_some first is)
    by (Some s) found idle is = record { slot = s; found = found; idle = idle; asks = unsaid s.stat.progress first is }

-- once the first call was looked at, what was looked at and sent nothing did nothing
abbrev pub IsUntouched : ℕ → CoreValue → CoreValue → Type 0
IsUntouched index first now =
    now.kept.flights ≡ [] → (now ≡ first) × (0 < index → (s : Slot) → slice_get first.kept.slots 0 ≡ Some s → IsNoAsker s.number first.kept)

pub looked_on : (index : ℕ) (first old new : CoreValue) → IsUntouched index first old → LooksAt index old new → IsUntouched (index + 1) first new
looked_on zero first old new before looks = λ empty.
    let here = looks empty in
    let is : old ≡ first = (before (subst (λ (v : CoreValue). v.kept.flights ≡ []) here.0 empty)).0 in
    (here.0 ∙ is, λ some. subst (λ (v : CoreValue). (s : Slot) → slice_get v.kept.slots 0 ≡ Some s → IsNoAsker s.number v.kept) is here.1)
looked_on (suc index) first old new before looks = λ empty.
    let here = looks empty in
    let rest = before (subst (λ (v : CoreValue). v.kept.flights ≡ []) here.0 empty) in
    (here.0 ∙ rest.0, λ some. rest.1 (omega arith))

pub all_looked : (index : ℕ) (first now : CoreValue) → length first.kept.slots ≤ index → first_said first.kept.flights first.kept.slots ≡ None
    → IsUntouched index first now → now.kept.flights ≡ [] → now.kept.slots ≡ []
all_looked index first now all answered before = λ empty.
    let here = before empty in
    let none : first.kept.flights ≡ [] = subst (λ (v : CoreValue). v.kept.flights ≡ []) here.0 empty in
    ap (λ (v : CoreValue). v.kept.slots) here.0
    ∙ no_call_left first.kept.flights first.kept.slots none answered (λ s at. here.1 (within s first.kept.slots at all) s at)
  where
    within : (s : Slot) (slots : List Slot) → slice_get slots 0 ≡ Some s → length slots ≤ index → 0 < index
    within s [] at le = absurd (none_some s at)
    within s (t ∷ slots) at le = omega (arith, le)

-- a connection is made where one was to be
pub comes_greeting : (old new : CoreValue) → is_apart old.kept.phase ≡ true
    → new ≡ with_kept (record old.kept { mux = start; phase = greeting_of old.kept.phase }) old → Comes input.Joined old new
comes_greeting old new apart is = by old.kept.phase refl apart
  where
    by : (p : Phase) → old.kept.phase ≡ p → is_apart p ≡ true → Comes input.Joined old new
    by (phase.Apart mount) at apart =
        comes_joined mount old new (ap (λ (v : CoreValue). v.setting) is) (ap (λ (v : CoreValue). v.outs) is) at
        (ap (λ (v : CoreValue). v.kept) is ∙ ap (λ (p : Phase). record old.kept { mux = start; phase = greeting_of p }) at)
    by other at apart = absurd (cc apart)
