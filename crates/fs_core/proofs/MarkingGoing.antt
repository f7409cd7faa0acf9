-- What an input has the core tell, and what follows it, part by part: calls are answered, what waits is sent or stops for want of ids, and
-- in the end nobody waits for nothing.
use Rattle.std.proofs.Common.{arith, ◌≡◌, ◌∙◌, refl, sym, ap, subst, ℕ, ◌==◌, ◌<◌, ◌≤◌, max, Bool, true, false, if◌then◌else◌, List, [], ◌∷◌, ◌++◌, length, Option, Some, None}
use Rattle.std.specs.Prelude.{slice_get, ◌||◌}
use Rattle.smb_credit.specs.Window.{usable}
use Rattle.smb_head.specs.declared.request.Request.{Request}
use Rattle.smb_mount.specs.declared.facts.Facts.{Facts}
use Rattle.smb_mount.specs.Requests.{negotiate, session_setup, tree_connect, tree_disconnect, logoff}
use Rattle.smb_mount.specs.Tokens.{negotiate_token, authenticate_token}
use Rattle.smb_mux.specs.Sending.{costs}
use Rattle.smb_link.specs.declared.mark.Mark.{Mark}
use Rattle.smb_link.specs.declared.mark.Mark.TheVariants as mark
use Rattle.smb_link.specs.Calls.{program_of}
use Rattle.fs_types.specs.declared.call.Call.{Call}
use Rattle.fs_types.specs.declared.options.Options.{Options}
use Rattle.fs_client.specs.Item.{Item}
use Rattle.fs_client.specs.View.{Setting}
use Rattle.fs_client.specs.Sane.{IsApart, AreApart}
use Rattle.fs_client.proofs.Lists.{none_some, some_is, itself, turned, item_found}
use Rattle.fs_core.specs.declared.fault.CoreFault.{CoreFault}
use Rattle.fs_core.specs.declared.fault.CoreFault.TheVariants as fault
use Rattle.fs_core.specs.declared.fault.Protocol.TheVariants as protocol
use Rattle.fs_core.specs.declared.flight.Flight.{Flight}
use Rattle.fs_core.specs.declared.input.Input.{Input}
use Rattle.fs_core.specs.declared.input.Input.TheVariants as input
use Rattle.fs_core.specs.declared.output.Output.{Output}
use Rattle.fs_core.specs.declared.output.Output.TheVariants as output
use Rattle.fs_core.specs.declared.slot.Slot.{Slot}
use Rattle.fs_core.specs.declared.stat.Stat.{Stat}
use Rattle.fs_core.specs.declared.stat.Outcome.{Outcome}
use Rattle.fs_core.specs.declared.stat.Progress.{Progress}
use Rattle.fs_core.specs.declared.stat.Progress.TheVariants as progress
use Rattle.fs_core.specs.declared.phase.Phase.{Phase}
use Rattle.fs_core.specs.declared.phase.Phase.TheVariants as phase
use Rattle.fs_core.specs.Kept.{Kept, CoreValue}
use Rattle.fs_core.specs.Parts.{slot_with, is_idle}
use Rattle.fs_core.specs.Fits.{answer_of, rest_of, IsFirst, AllShow}
use Rattle.fs_core.specs.Asks.{said_by, said_if, first_said, facts_of, mount_asks, leave_asks}
use Rattle.fs_core.specs.Event.{rank_of, rank, tellings, told_by, has_left, is_left, Stays, Holds, Does, Puts, Tells, IsAtPeace, Lives, MayTake, IsFaultOf, Stops}
use Rattle.fs_core.specs.Going.{IsWaiting, FailsToSend, IsStill}
use Rattle.fs_core.specs.Steps.{begun, answered, timed, over}
use Rattle.fs_core.proofs.Putting.{not_left, puts_one}
use Rattle.fs_core.proofs.Marking.{begin_does, end_does, now_does, answer_does}
use Rattle.fs_core.proofs.MarkingLists.{slot_shown}
use Rattle.fs_core.proofs.MarkingStarved.{call_starved, call_has_facts, mount_starved, tree_starved, session_starved}

-- a call's answer, by its number
abbrev pair : ℕ → Outcome → ℕ × Outcome
pair number o = (number, o)

-- a call that has its answer, of a client whose calls have different numbers
record IsSaid (number : ℕ) (o : Outcome) (flights : List Flight) (slots : List Slot) : Type 0 where
  slot : Slot
  found : slot_with number slots ≡ Some slot
  idle : is_idle number flights ≡ true
  said : slot.stat.progress ≡ progress.Said o

said_is : (p : Progress) (o : Outcome) → said_by p ≡ Some o → p ≡ progress.Said o
said_is progress.Opening o is = absurd (none_some o is)
said_is (progress.Querying fid) o is = absurd (none_some o is)
said_is (progress.Closing fid a) o is = absurd (none_some o is)
said_is (progress.Said a) o is = ap (λ (b : Outcome). progress.Said b) (some_is a o is)

said_found : (options : Options) (flights : List Flight) (slots : List Slot) (items : List Item) (number : ℕ) (o : Outcome) → AllShow options slots items
    → AreApart items
    → first_said flights slots ≡ Some (number, o) → IsSaid number o flights slots
said_found options flights [] items number o all apart is = absurd (none_some (number, o) is)
said_found options flights (s ∷ ss) [] number o all apart is = absurd all
said_found options flights (s ∷ ss) (i ∷ items) number o all apart is =
    by (is_idle s.number flights) refl (said_by s.stat.progress) refl is (λ is. said_found options flights ss items number o all.1 apart.1 is)
  where
    there : (n : ℕ) → s.number ≡ n → slot_with n (s ∷ ss) ≡ Some s
    there n same = ap (λ (b : Bool). if b then Some s else slot_with n ss) (ap (λ (m : ℕ). m == n) same ∙ itself n)

    here : (idle : is_idle s.number flights ≡ true) (a : Outcome) → said_by s.stat.progress ≡ Some a → pair s.number a ≡ pair number o
        → IsSaid number o flights (s ∷ ss)
    here idle a says same =
        let at : s.number ≡ number = ap (λ (p : ℕ × Outcome). p.0) same in
        record {
          slot = s;
          found = there number at;
          idle = subst (λ (n : ℕ). is_idle n flights ≡ true) at idle;
          said = said_is s.stat.progress o (says ∙ ap (λ (p : ℕ × Outcome). Some p.1) same);
        }

    far : (slot : Slot) → slot_with number ss ≡ Some slot → (s.number == number) ≡ false
    far slot found =
        let shown = slot_shown options number ss items slot all.1 found in
        let f = item_found (IsApart i) number items shown.item shown.runs apart.0 in
        ap (λ (n : ℕ). n == number) all.0.number ∙ turned number i.number (sym (ap (λ (n : ℕ). n == i.number) f.1) ∙ f.0.0)

    later : IsSaid number o flights ss → IsSaid number o flights (s ∷ ss)
    later d = record {
      slot = d.slot;
      found = ap (λ (b : Bool). if b then Some s else slot_with number ss) (far d.slot d.found) ∙ d.found;
      idle = d.idle;
      said = d.said;
    }

    by : (b : Bool) → is_idle s.number flights ≡ b → (a : Option Outcome) → said_by s.stat.progress ≡ a
        → said_if b s.number a (first_said flights ss) ≡ Some (pair number o)
        → (first_said flights ss ≡ Some (pair number o) → IsSaid number o flights ss) → IsSaid number o flights (s ∷ ss)
    by false idle a says is deeper = later (deeper is)
    by true idle None says is deeper = later (deeper is)
    by true idle (Some a) says is deeper = here idle a says (some_is (pair s.number a) (pair number o) is)

pub said_does : (st : Setting) (k : Kept) (number : ℕ) (o : Outcome) → first_said k.flights k.slots ≡ Some (number, o)
    → Does st k (output.Answer number (answer_of o) ∷ []) (answered number k)
said_does st k number o is = λ c sane fits.
    let d = said_found st.options k.flights k.slots c.view.items number o fits.slots sane.apart is in
    answer_does st k number d.slot o d.found d.idle d.said c sane fits

-- a part that adds one output, by what the core is then
abbrev pub added : Output → Kept → CoreValue → CoreValue
added o k v = record v { kept = k; outs = v.outs ++ o ∷ [] }

puts_added : (old new : CoreValue) (o : Output) (k : Kept) → new ≡ added o k old → is_left k.phase ≡ (is_left old.kept.phase || has_left (o ∷ [])) → Holds old.kept k
    → Does old.setting old.kept (o ∷ []) k → Puts (rank o) (rank o) old new
puts_added old new o k is left holds does =
    puts_one old new o k (ap (λ (v : CoreValue). v.setting) is) (ap (λ (v : CoreValue). v.outs) is) (ap (λ (v : CoreValue). v.kept) is) left holds does

-- an input has the core tell one thing of itself
told_added : (e : Input) (old new : CoreValue) (m : Mark) (k : Kept) → new ≡ added (output.Marked m) k old → rank_of m ≡ 1
    → tellings (output.Marked m ∷ []) ≡ told_by e old.kept → k.phase ≡ old.kept.phase → Stays e old.kept k
    → Does old.setting old.kept (output.Marked m ∷ []) k → Tells e old new
told_added e old new m k is first tells same stays does =
    let kept : new.kept ≡ k = ap (λ (v : CoreValue). v.kept) is in
    record {
      more = output.Marked m ∷ [];
      setting = ap (λ (v : CoreValue). v.setting) is;
      outs = ap (λ (v : CoreValue). v.outs) is;
      order = (one (rank_of m) first, no_more (rank_of m) first, record {});
      tells = tells;
      left = ap (λ (j : Kept). is_left j.phase) kept ∙ ap is_left same ∙ not_left (is_left old.kept.phase);
      stays = subst (Stays e old.kept) (sym kept) stays;
      does = subst (Does old.setting old.kept (output.Marked m ∷ [])) (sym kept) does;
    }
  where
    one : (n : ℕ) → n ≡ 1 → 1 ≤ n
    one n is = omega (arith, is)

    no_more : (n : ℕ) → n ≡ 1 → n ≤ 1
    no_more n is = omega (arith, is)

pub said_puts : (old new : CoreValue) (number : ℕ) (o : Outcome) → first_said old.kept.flights old.kept.slots ≡ Some (number, o)
    → new ≡ added (output.Answer number (answer_of o)) (answered number old.kept) old → Puts 2 2 old new
said_puts old new number o said is =
    puts_added old new (output.Answer number (answer_of o)) (answered number old.kept) is (not_left (is_left old.kept.phase))
    (record { last = refl; now = refl; ended = refl; connected = refl })
    (said_does old.setting old.kept number o said)

pub begin_tells : (old new : CoreValue) (number lane : ℕ) (call : Call) (stat : Stat) → MayTake (input.Begin number lane call) old.kept
    → rest_of old.setting.options stat ≡ program_of old.setting.options old.setting.seed call → IsFirst stat.progress
    → new ≡ added (output.Marked (mark.Begin number lane call)) (begun number lane stat old.kept) old → Tells (input.Begin number lane call) old new
begin_tells old new number lane call stat may rest first is =
    told_added (input.Begin number lane call) old new (mark.Begin number lane call) (begun number lane stat old.kept) is refl refl refl
    (record { last = refl; now = refl; ended = refl; connected = refl }) (begin_does old.setting old.kept number lane call stat may rest first)

pub now_tells : (old new : CoreValue) (time : ℕ) → new ≡ added (output.Marked (mark.Now (max old.kept.now time))) (timed time old.kept) old → Tells (input.Now time) old new
now_tells old new time is =
    told_added (input.Now time) old new (mark.Now (max old.kept.now time)) (timed time old.kept) is refl refl refl
    (record { last = refl; now = refl; ended = refl; connected = refl }) (now_does old.setting old.kept time)

pub end_tells : (old new : CoreValue) → old.kept.ended ≡ false → new ≡ added (output.Marked mark.End) (over old.kept) old → Tells input.End old new
end_tells old new going is =
    told_added input.End old new mark.End (over old.kept) is refl refl refl (record { last = refl; now = refl; ended = refl; connected = refl }) (end_does old.setting old.kept going)

-- where nothing is in flight and no call asks, none that has its answer is left either
pub no_call_left : (flights : List Flight) (slots : List Slot) → flights ≡ [] → first_said flights slots ≡ None
    → ((s : Slot) → slice_get slots 0 ≡ Some s → (slot : Slot) → slot_with s.number slots ≡ Some slot → said_by slot.stat.progress ≡ None → ⊥) → slots ≡ []
no_call_left flights [] quiet none asks = refl
no_call_left flights (s ∷ ss) quiet none asks =
    absurd (by (said_by s.stat.progress) refl (sym (ap (λ (fs : List Flight). first_said fs (s ∷ ss)) quiet) ∙ none))
  where
    found : slot_with s.number (s ∷ ss) ≡ Some s
    found = ap (λ (b : Bool). if b then Some s else slot_with s.number ss) (itself s.number)

    by : (a : Option Outcome) → said_by s.stat.progress ≡ a → said_if true s.number a (first_said [] ss) ≡ None → ⊥
    by None says none = asks s refl s found says
    by (Some o) says none = none_some (s.number, o) (sym none)

-- a call waits for ids
pub waiting_starved : (old : CoreValue) (number : ℕ) (requests : List Request) → IsWaiting number old.kept → old.kept.flights ≡ []
    → length (usable old.kept.mux.ids) < costs requests → costs requests ≤ 1 → Stops old (fault.Protocol protocol.NoCredit)
waiting_starved old number requests w quiet few one =
    call_starved old number w.slot requests quiet w.found (λ o said. none_some o (sym w.asks ∙ ap said_by said)) few one

pub waiting_has_facts : (old : CoreValue) (number : ℕ) → IsWaiting number old.kept → facts_of old.kept.phase ≡ None
    → Stops old (fault.Protocol protocol.NoCredit)
waiting_has_facts old number w none = call_has_facts old number w.slot w.found none

-- so do the mount, and what leaves the share
pub mount_fails : (old : CoreValue) (request : Request) (f : CoreFault) → old.kept.flights ≡ [] → mount_asks old.kept.phase ≡ Some request
    → FailsToSend request old f → Stops old f
mount_fails old request fault.NoMemory quiet asks fails = record {}
mount_fails old request (fault.Protocol protocol.NoCredit) quiet asks fails = mount_starved old request quiet asks fails
mount_fails old request (fault.Protocol (protocol.Head f)) quiet asks fails = absurd fails
mount_fails old request (fault.Protocol (protocol.Body f)) quiet asks fails = absurd fails
mount_fails old request (fault.Protocol (protocol.Info f)) quiet asks fails = absurd fails
mount_fails old request (fault.Protocol protocol.Chain) quiet asks fails = absurd fails
mount_fails old request (fault.Protocol (protocol.Stranger m)) quiet asks fails = absurd fails
mount_fails old request (fault.Refused f) quiet asks fails = absurd fails

leave_starved : (old : CoreValue) (request : Request) → old.kept.flights ≡ [] → old.kept.slots ≡ [] → leave_asks old.kept.ended old.kept.phase ≡ Some request
    → length (usable old.kept.mux.ids) < costs (request ∷ []) → Stops old (fault.Protocol protocol.NoCredit)
leave_starved old request quiet none asks few = by old.kept.phase refl old.kept.ended refl asks
  where
    fewer : (r : Request) → Some r ≡ Some request → length (usable old.kept.mux.ids) < costs (r ∷ [])
    fewer r is = subst (λ (q : Request). length (usable old.kept.mux.ids) < costs (q ∷ [])) (sym (some_is r request is)) few

    by : (p : Phase) → old.kept.phase ≡ p → (e : Bool) → old.kept.ended ≡ e → leave_asks e p ≡ Some request → Stops old (fault.Protocol protocol.NoCredit)
    by (phase.Apart start) at e ended asks = absurd (none_some request asks)
    by (phase.Greeting k) at e ended asks = absurd (none_some request asks)
    by (phase.SettingUp k) at e ended asks = absurd (none_some request asks)
    by (phase.Answering k) at e ended asks = absurd (none_some request asks)
    by (phase.Joining k) at e ended asks = absurd (none_some request asks)
    by (phase.On facts) at true ended asks = tree_starved old facts quiet none ended at (fewer (tree_disconnect facts) asks)
    by (phase.On facts) at false ended asks = absurd (none_some request asks)
    by (phase.LeavingTree facts) at e ended asks = session_starved old facts quiet at (fewer (logoff facts) asks)
    by (phase.LeavingSession facts) at e ended asks = absurd (none_some request asks)
    by phase.Left at e ended asks = absurd (none_some request asks)
    by phase.Lost at e ended asks = absurd (none_some request asks)

pub leave_fails : (old : CoreValue) (request : Request) (f : CoreFault) → old.kept.flights ≡ [] → old.kept.slots ≡ []
    → leave_asks old.kept.ended old.kept.phase ≡ Some request
    → FailsToSend request old f → Stops old f
leave_fails old request fault.NoMemory quiet none asks fails = record {}
leave_fails old request (fault.Protocol protocol.NoCredit) quiet none asks fails = leave_starved old request quiet none asks fails
leave_fails old request (fault.Protocol (protocol.Head f)) quiet none asks fails = absurd fails
leave_fails old request (fault.Protocol (protocol.Body f)) quiet none asks fails = absurd fails
leave_fails old request (fault.Protocol (protocol.Info f)) quiet none asks fails = absurd fails
leave_fails old request (fault.Protocol protocol.Chain) quiet none asks fails = absurd fails
leave_fails old request (fault.Protocol (protocol.Stranger m)) quiet none asks fails = absurd fails
leave_fails old request (fault.Refused f) quiet none asks fails = absurd fails

-- want of memory needs no cause
pub memory_fault : (e : Input) (old : CoreValue) (f : CoreFault) → f ≡ fault.NoMemory → IsFaultOf e old f
memory_fault e old f is = subst (IsFaultOf e old) (sym is) (λ c c' sane fits brought. record {})

-- nobody waits for nothing, where neither the mount nor what leaves the share asks for anything
pub last_lives : (k : Kept) → IsStill k → k.flights ≡ [] → leave_asks k.ended k.phase ≡ None → ((facts : Facts) → k.phase ≡ phase.LeavingSession facts → ⊥)
    → Lives k
last_lives k still quiet none over = λ q. (peace k.phase k.ended (still quiet).1 none over, λ stands. (still quiet).0)
  where
    going : (facts : Facts) (e : Bool) → (if e then Some (tree_disconnect facts) else None) ≡ None → e ≡ false
    going facts false none = refl
    going facts true none = absurd (none_some (tree_disconnect facts) (sym none))

    peace : (p : Phase) (e : Bool) → mount_asks p ≡ None → leave_asks e p ≡ None → ((facts : Facts) → p ≡ phase.LeavingSession facts → ⊥) → IsAtPeace p e
    peace (phase.Apart start) e mounts leaves over = record {}
    peace (phase.Greeting k) e mounts leaves over = absurd (none_some (negotiate k.guid) (sym mounts))
    peace (phase.SettingUp k) e mounts leaves over = absurd (none_some (session_setup k.server.caps 0 k.previous negotiate_token) (sym mounts))
    peace (phase.Answering k) e mounts leaves over = absurd (none_some (session_setup k.server.caps k.session k.previous authenticate_token) (sym mounts))
    peace (phase.Joining k) e mounts leaves over = absurd (none_some (tree_connect k.server.caps k.session k.path) (sym mounts))
    peace (phase.On facts) e mounts leaves over = going facts e leaves
    peace (phase.LeavingTree facts) e mounts leaves over = absurd (none_some (logoff facts) (sym leaves))
    peace (phase.LeavingSession facts) e mounts leaves over = absurd (over facts refl)
    peace phase.Left e mounts leaves over = record {}
    peace phase.Lost e mounts leaves over = record {}
