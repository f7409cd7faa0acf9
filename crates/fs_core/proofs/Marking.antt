-- What the core tells of itself, and its answers: each is what a client may do that it fits, and it fits that client then.
use Rattle.std.proofs.Common.{arith, ◌≡◌, ◌∙◌, refl, sym, ap, subst, ℕ, ◌+◌, ◌<◌, ◌≤◌, max, Bool, true, false, not, List, [], ◌∷◌, Option, Some, None, inl, inr}
use Rattle.std.specs.Prelude.{IsSomeAnd, nat_lt, ◌&&◌}
use Rattle.std.specs.List.{AllByRecursion, list_all}
use Rattle.std.proofs.Math.Nat.{le-max_left}
use Rattle.std.proofs.lemmas.Bool.{false≢true}
use Rattle.std.proofs.lemmas.Bool.Decides.{nat_tests}
use Rattle.fs_types.specs.declared.call.Call.{Call}
use Rattle.share_state.specs.declared.connection.Sent.{Sent}
use Rattle.smb_head.specs.declared.command.TheConstants.{NEGOTIATE, SESSION_SETUP, TREE_CONNECT, TREE_DISCONNECT, LOGOFF}
use Rattle.smb_mount.specs.declared.facts.Facts.{Facts}
use Rattle.smb_link.specs.declared.event.Event.TheVariants as event
use Rattle.smb_link.specs.declared.mark.Mark.TheVariants as mark
use Rattle.smb_link.specs.Calls.{program_of, is_there}
use Rattle.smb_link.specs.Program.{settled}
use Rattle.fs_plain.specs.Replies.{command_of}
use Rattle.fs_client.specs.Item.{Item, Leased, items_but}
use Rattle.fs_client.specs.View.{Setting, Exchange, Client}
use Rattle.fs_client.specs.After.{new_item, after}
use Rattle.fs_client.specs.May.{IsAcknowledged, MayAnswerFor, May, is_stat, was_answered}
use Rattle.fs_client.specs.Mount.{Stage, Unmounted, Agreed, Challenging, InSession, Mounted, LeadTo, at_first}
use Rattle.fs_client.proofs.Readiness.{ready_keeps}
use Rattle.fs_core.specs.declared.output.Output.TheVariants as output
use Rattle.fs_core.specs.declared.input.Input.TheVariants as input
use Rattle.fs_core.specs.declared.slot.Slot.{Slot}
use Rattle.fs_core.specs.declared.stat.Stat.{Stat}
use Rattle.fs_core.specs.declared.stat.Progress.{Progress}
use Rattle.fs_core.specs.declared.stat.Progress.TheVariants as progress
use Rattle.fs_core.specs.declared.stat.Outcome.{Outcome}
use Rattle.fs_core.specs.declared.phase.Phase.{Phase}
use Rattle.fs_core.specs.declared.phase.Phase.TheVariants as phase
use Rattle.fs_core.specs.Kept.{Kept}
use Rattle.fs_core.specs.Parts.{slot_with, is_idle}
use Rattle.fs_core.specs.Fits.{IsNoLeave, answer_of, rest_by, rest_of, HasOpened, IsFirst, IsAlone, IsAtMost, IsStaying, Mounts, IsMounted, IsOver, IsAsked, IsAt, AreUpTo}
use Rattle.fs_core.specs.Event.{is_mounted, Does, IsAfter, MayTake}
use Rattle.fs_core.specs.Steps.{begun, answered, timed, over}
use Rattle.fs_core.proofs.MarkingLists.{shown_append, shown_but, lane_shown, idle_is}

-- what a client may do, and what it does not change of how far the connection has come
pub record StaysAt (c c' : Client) : Type 0 where
  pub connected : c'.view.connected ≡ c.view.connected
  pub exchanges : c'.tally.exchanges ≡ c.tally.exchanges
  pub flights : c'.view.flights ≡ c.view.flights
  pub items : c.view.items ≡ [] → c'.view.items ≡ []
  pub ended : c.view.told.ended ≡ true → c'.view.told.ended ≡ true

mounted_stays : (st : Setting) (facts : Facts) (c c' : Client) → StaysAt c c' → IsMounted st facts c → IsMounted st facts c'
mounted_stays st facts c c' stays at = record {
  connected = stays.connected ∙ at.connected;
  come = subst (λ (xs : List Exchange). LeadTo (at_first st) xs (Mounted facts)) (sym stays.exchanges) at.come;
}

over_stays : (st : Setting) (facts : Facts) (c c' : Client) → StaysAt c c' → IsOver st facts c → IsOver st facts c'
over_stays st facts c c' stays at = record {
  mounted = mounted_stays st facts c c' stays at.mounted;
  no_call = stays.items at.no_call;
  ended = stays.ended at.ended;
}

answered_stays : (command : ℕ) (b : Bool) (c c' : Client) → StaysAt c c' → was_answered command c.tally.exchanges ≡ b
    → was_answered command c'.tally.exchanges ≡ b
answered_stays command b c c' stays was = ap (was_answered command) stays.exchanges ∙ was

staying_stays : (c c' : Client) → StaysAt c c' → IsStaying c → IsStaying c'
staying_stays c c' stays at = (answered_stays TREE_DISCONNECT false c c' stays at.0, answered_stays LOGOFF false c c' stays at.1)

mounts_stays : (st : Setting) (s : Stage) (command : ℕ) (c c' : Client) → StaysAt c c' → Mounts st s command c → Mounts st s command c'
mounts_stays st s command c c' stays at = record {
  connected = stays.connected ∙ at.connected;
  come = subst (λ (xs : List Exchange). LeadTo (at_first st) xs s) (sym stays.exchanges) at.come;
  no_call = stays.items at.no_call;
  asked = subst (IsAtMost command) (sym stays.flights) at.asked;
  staying = staying_stays c c' stays at.staying;
}

asked_stays : (command : ℕ) (c c' : Client) → StaysAt c c' → IsAsked command c → IsAsked command c'
asked_stays command c c' stays (inl asked) = inl (answered_stays command false c c' stays asked.0, subst (IsAlone command) (sym stays.flights) asked.1)
asked_stays command c c' stays (inr asked) = inr (answered_stays command true c c' stays asked.0, stays.flights ∙ asked.1)

pub at_stays : (st : Setting) (p : Phase) (c c' : Client) → StaysAt c c' → IsAt st p c → IsAt st p c'
at_stays st (phase.Apart start) c c' stays at = record {
  connected = stays.connected ∙ at.connected;
  start = at.start;
  no_call = stays.items at.no_call;
  no_flight = stays.flights ∙ at.no_flight;
}
at_stays st (phase.Greeting k) c c' stays at = mounts_stays st (Unmounted k) NEGOTIATE c c' stays at
at_stays st (phase.SettingUp k) c c' stays at = mounts_stays st (Agreed k) SESSION_SETUP c c' stays at
at_stays st (phase.Answering k) c c' stays at = mounts_stays st (Challenging k) SESSION_SETUP c c' stays at
at_stays st (phase.Joining k) c c' stays at = mounts_stays st (InSession k) TREE_CONNECT c c' stays at
at_stays st (phase.On facts) c c' stays at = (
  mounted_stays st facts c c' stays at.0,
  staying_stays c c' stays at.1,
  subst (AllByRecursion (λ (x : Sent). IsNoLeave (command_of x.message))) (sym stays.flights) at.2,
)
at_stays st (phase.LeavingTree facts) c c' stays at =
    (over_stays st facts c c' stays at.0, asked_stays TREE_DISCONNECT c c' stays at.1, answered_stays LOGOFF false c c' stays at.2)
at_stays st (phase.LeavingSession facts) c c' stays at =
    (over_stays st facts c c' stays at.0, answered_stays TREE_DISCONNECT true c c' stays at.1, asked_stays LOGOFF c c' stays at.2)
at_stays st phase.Left c c' stays at = (
  stays.items at.0,
  stays.ended at.1,
  stays.flights ∙ at.2,
  answered_stays TREE_DISCONNECT true c c' stays at.3,
  answered_stays LOGOFF true c c' stays at.4,
)
at_stays st phase.Lost c c' stays at = absurd at

-- the end is said
pub end_does : (st : Setting) (k : Kept) → k.ended ≡ false → Does st k (output.Marked mark.End ∷ []) (over k)
end_does st k going = λ c sane fits.
    let may : May st c (event.Marked mark.End) = sym fits.ended ∙ going in
    let c' : Client = after st c (event.Marked mark.End) in (
      (may, record {}),
      record {
        slots = fits.slots;
        flights = fits.flights;
        early = fits.early;
        ids = fits.ids;
        awaited = fits.awaited;
        phase = at_stays st k.phase c c' (record { connected = refl; exchanges = refl; flights = refl; items = λ none. none; ended = λ was. refl }) fits.phase;
        last = fits.last;
        now = fits.now;
        ended = refl;
        idle = fits.idle;
        ready = ready_keeps st c (event.Marked mark.End) may fits.ready;
      },
    )

-- the clock is read
pub now_does : (st : Setting) (k : Kept) (time : ℕ) → Does st k (output.Marked (mark.Now (max k.now time)) ∷ []) (timed time k)
now_does st k time = λ c sane fits.
    let e = event.Marked (mark.Now (max k.now time)) in
    let may : May st c e = subst (λ (n : ℕ). n ≤ max k.now time) fits.now (le-max_left k.now time) in (
      (may, record {}),
      record {
        slots = fits.slots;
        flights = fits.flights;
        early = fits.early;
        ids = fits.ids;
        awaited = fits.awaited;
        phase = at_stays st k.phase c (after st c e)
            (record { connected = refl; exchanges = refl; flights = refl; items = λ none. none; ended = λ was. was }) fits.phase;
        last = fits.last;
        now = refl;
        ended = fits.ended;
        idle = fits.idle;
        ready = ready_keeps st c e may fits.ready;
      },
    )

-- a call is answered
pub answer_does : (st : Setting) (k : Kept) (number : ℕ) (s : Slot) (o : Outcome) → slot_with number k.slots ≡ Some s → is_idle number k.flights ≡ true
    → s.stat.progress ≡ progress.Said o
    → Does st k (output.Answer number (answer_of o) ∷ []) (answered number k)
answer_does st k number s o there idle said = λ c sane fits.
    let e = event.Marked (mark.Answer number (answer_of o)) in
    let i = idle_is st.options number s k c.view sane fits.slots fits.flights there idle in
    let may : May st c e = subst (λ (f : Option Item). IsSomeAnd f (MayAnswerFor c (answer_of o))) (sym i.runs)
    (record { idle = i.idle; says = inl (i.shows.whole, ap (settled c.view.told.known) (i.shows.rest ∙ ap (rest_by st.options s.stat.path) said)) }) in (
      (may, record {}),
      record {
        slots = shown_but st.options number k.slots c.view.items fits.slots;
        flights = fits.flights;
        early = fits.early;
        ids = fits.ids;
        awaited = fits.awaited;
        phase = at_stays st k.phase c (after st c e)
            (record { connected = refl; exchanges = refl; flights = refl; items = λ none. ap (items_but number) none; ended = λ was. was }) fits.phase;
        last = fits.last;
        now = fits.now;
        ended = fits.ended;
        idle = fits.idle;
        ready = ready_keeps st c e may fits.ready;
      },
    )

-- lines that were begun go up to a number, and up to each greater one
less_too : (n a b : ℕ) → a ≤ b → nat_lt n a ≡ true → nat_lt n b ≡ true
less_too n a b le less = grind (arith, nat_tests)

lines_below : (a b : ℕ) (lines : List (ℕ × Call)) → a ≤ b → list_all (λ line. nat_lt line.0 a) lines ≡ true → list_all (λ line. nat_lt line.0 b) lines ≡ true
lines_below a b [] le all = refl
lines_below a b (line ∷ lines) le all =
    let both = parts (nat_lt line.0 a) (list_all (λ l. nat_lt l.0 a) lines) all in
    ap (λ (t : Bool). t && list_all (λ l. nat_lt l.0 b) lines) (less_too line.0 a b le both.0) ∙ lines_below a b lines le both.1
  where
    parts : (t u : Bool) → (t && u) ≡ true → (t ≡ true) × (u ≡ true)
    parts true true is = (refl, refl)
    parts true false is = absurd (false≢true is)
    parts false u is = absurd (false≢true is)

all_below : (last : Option ℕ) (number : ℕ) (begun : List (ℕ × Call)) → IsAfter last number → AreUpTo last begun
    → list_all (λ line. nat_lt line.0 number) begun ≡ true
all_below None number begun next none = ap (list_all (λ line. nat_lt line.0 number)) none
all_below (Some n) number begun next all = lines_below (n + 1) number begun (above n number next) all
  where
    above : (a b : ℕ) → a < b → a + 1 ≤ b
    above a b less = omega (arith, less)

all_up_to : (number : ℕ) (call : Call) (begun : List (ℕ × Call)) → list_all (λ line. nat_lt line.0 number) begun ≡ true
    → AreUpTo (Some number) ((number, call) ∷ begun)
all_up_to number call begun all =
    ap (λ (t : Bool). t && list_all (λ line. nat_lt line.0 (number + 1)) begun) (less_next number) ∙ lines_below number (number + 1) begun (next number) all
  where
    less_next : (n : ℕ) → nat_lt n (n + 1) ≡ true
    less_next n = grind (arith, nat_tests)

    next : (n : ℕ) → n ≤ n + 1
    next n = omega arith

-- a share that is mounted and not being left: more calls may run there
record Stands (st : Setting) (p : Phase) (c c' : Client) : Type 0 where
  facts : Facts
  mounted : IsMounted st facts c
  at : IsAt st p c'

-- a stat has no open before its first request
none_opened : (p : Progress) → IsFirst p → HasOpened p []
none_opened progress.Opening first = refl
none_opened (progress.Querying fid) first = absurd first
none_opened (progress.Closing fid o) first = absurd first
none_opened (progress.Said o) first = record {}

stands : (st : Setting) (p : Phase) (c : Client) → is_mounted p ≡ true → c.view.told.ended ≡ false → IsAt st p c → (number lane : ℕ) (call : Call)
    → Stands st p c (after st c (event.Marked (mark.Begin number lane call)))
stands st (phase.Apart start) c mounted going at number lane call = absurd (false≢true mounted)
stands st (phase.Greeting k) c mounted going at number lane call = absurd (false≢true mounted)
stands st (phase.SettingUp k) c mounted going at number lane call = absurd (false≢true mounted)
stands st (phase.Answering k) c mounted going at number lane call = absurd (false≢true mounted)
stands st (phase.Joining k) c mounted going at number lane call = absurd (false≢true mounted)
stands st (phase.On facts) c mounted going at number lane call =
    record { facts = facts; mounted = at.0; at = (record { connected = at.0.connected; come = at.0.come }, at.1, at.2) }
stands st (phase.LeavingTree facts) c mounted going at number lane call = absurd (false≢true (sym going ∙ at.0.ended))
stands st (phase.LeavingSession facts) c mounted going at number lane call = absurd (false≢true (sym going ∙ at.0.ended))
stands st phase.Left c mounted going at number lane call = absurd (false≢true (sym going ∙ at.1))
stands st phase.Lost c mounted going at number lane call = absurd at

-- a call begins
pub begin_does : (st : Setting) (k : Kept) (number lane : ℕ) (call : Call) (stat : Stat) → MayTake (input.Begin number lane call) k
    → rest_of st.options stat ≡ program_of st.options st.seed call → IsFirst stat.progress
    → Does st k (output.Marked (mark.Begin number lane call) ∷ []) (begun number lane stat k)
begin_does st k number lane call stat take rest first = λ c sane fits.
    let e = event.Marked (mark.Begin number lane call) in
    let going : c.view.told.ended ≡ false = sym fits.ended ∙ take.3 in
    let s = stands st k.phase c take.0 going fits.phase number lane call in
    let above : list_all (λ line. nat_lt line.0 number) c.view.told.begun ≡ true = all_below k.last number c.view.told.begun take.2 fits.last in
    let may : May st c e = record {
      facts = s.facts;
      mounted = s.mounted.come;
      connected = s.mounted.connected;
      there = there call take.4;
      above = above;
      lane_free = ap not (sym (lane_shown st.options lane k.slots c.view.items fits.slots)) ∙ take.1;
      going = going;
      prompt = subst (AllByRecursion (λ (l : Leased). IsAcknowledged l.asking)) (sym sane.no_lease) tt;
    } in (
      (may, record {}),
      record {
        slots = shown_append st.options k.slots c.view.items (record { number = number; lane = lane; announced = false; stat = stat })
            (new_item st number lane call c.view) fits.slots (record {
              number = refl;
              lane = refl;
              announced = refl;
              whole = refl;
              stat = take.4;
              rest = sym rest;
              opened = none_opened stat.progress first;
              first = λ unsent. first;
              unsent = λ unsent. refl;
            });
        flights = fits.flights;
        early = fits.early;
        ids = fits.ids;
        awaited = fits.awaited;
        phase = s.at;
        last = all_up_to number call c.view.told.begun above;
        now = fits.now;
        ended = fits.ended;
        idle = fits.idle;
        ready = ready_keeps st c e may fits.ready;
      },
    )
  where
    there : (call : Call) → is_stat call ≡ true → is_there call ≡ true
    there call is = is
