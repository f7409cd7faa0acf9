-- A request waits, nothing is in flight, and the ids do not suffice: then none is free, and each client that the core fits is starved.
use Rattle.std.proofs.Common.{arith, ◌≡◌, ◌∙◌, refl, sym, ap, subst, ℕ, ◌+◌, ◌==◌, ◌<◌, ◌≤◌, max, Bool, true, false, if◌then◌else◌, List, [], ◌∷◌, length, Some, None}
use Rattle.std.specs.Prelude.{bit_and}
use Rattle.smb_le.specs.declared.flags.ServerCaps.{ServerCaps}
use Rattle.smb_credit.specs.Window.{Ids, usable}
use Rattle.smb_credit.proofs.WindowLaws.{length-usable}
use Rattle.smb_head.specs.declared.command.TheConstants.{LOGOFF}
use Rattle.smb_head.specs.declared.request.Request.{Request}
use Rattle.smb_mount.specs.declared.facts.Facts.{Facts}
use Rattle.smb_mount.specs.Requests.{charge_of, negotiate, session_setup, tree_connect, tree_disconnect, logoff}
use Rattle.smb_mount.specs.Tokens.{negotiate_token, authenticate_token}
use Rattle.smb_mux.specs.Sending.{costs}
use Rattle.smb_link.specs.Program.{Known, Program, settled}
use Rattle.fs_types.specs.declared.options.Options.{Options}
use Rattle.fs_client.specs.Item.{Item, item_with}
use Rattle.fs_client.specs.View.{Setting, Client}
use Rattle.fs_client.specs.May.{IsAsking, was_answered}
use Rattle.fs_client.specs.Mount.{Stage, Unmounted, Agreed, Challenging, InSession, Mounted, asked_at}
use Rattle.fs_client.specs.Sane.{Sane}
use Rattle.fs_client.specs.Spelled.{free_ids}
use Rattle.fs_client.proofs.Lists.{none_some, some_is, all_of, item_found}
use Rattle.fs_core.specs.declared.fault.CoreFault.TheVariants as fault
use Rattle.fs_core.specs.declared.fault.Protocol.TheVariants as protocol
use Rattle.fs_core.specs.declared.slot.Slot.{Slot}
use Rattle.fs_core.specs.declared.stat.Outcome.{Outcome}
use Rattle.fs_core.specs.declared.stat.Progress.{Progress}
use Rattle.fs_core.specs.declared.stat.Progress.TheVariants as progress
use Rattle.fs_core.specs.declared.phase.Phase.{Phase}
use Rattle.fs_core.specs.declared.phase.Phase.TheVariants as phase
use Rattle.fs_core.specs.Kept.{Kept, CoreValue}
use Rattle.fs_core.specs.Parts.{slot_with}
use Rattle.fs_core.specs.Fits.{rest_by, Mounts, IsMounted, IsAt, Fits}
use Rattle.fs_core.specs.Asks.{alone_by, facts_of, mount_asks}
use Rattle.fs_core.specs.Event.{Waits, CallWaits, MountWaits, LeaveWaits, Stops}
use Rattle.fs_core.proofs.MarkingLists.{no_call, no_sent, slot_shown}

-- each request of this client costs one id
charge_one : (caps : ServerCaps) → charge_of caps ≤ 1
charge_one caps = by (bit_and caps.0 4 == 4)
  where
    by : (t : Bool) → (if t then 1 else 0) ≤ 1
    by true = omega arith
    by false = omega arith

cost_one : (charge : ℕ) → charge ≤ 1 → max 1 charge + 0 ≤ 1
cost_one charge small = omega (arith, small)

pub alone_cost : (facts : Facts) (path : List ℕ) (p : Progress) → costs (alone_by facts path p) ≤ 1
alone_cost facts path progress.Opening = cost_one (charge_of facts.caps) (charge_one facts.caps)
alone_cost facts path (progress.Querying fid) = cost_one (charge_of facts.caps) (charge_one facts.caps)
alone_cost facts path (progress.Closing fid o) = cost_one (charge_of facts.caps) (charge_one facts.caps)
alone_cost facts path (progress.Said o) = omega arith

stage_cost : (stage : Stage) (request : Request) → asked_at stage ≡ Some request → costs (request ∷ []) ≤ 1
stage_cost (Unmounted k) request is = subst (λ (r : Request). costs (r ∷ []) ≤ 1) (some_is (negotiate k.guid) request is) (cost_one 0 (omega arith))
stage_cost (Agreed k) request is =
    subst (λ (r : Request). costs (r ∷ []) ≤ 1) (some_is (session_setup k.server.caps 0 k.previous negotiate_token) request is)
    (cost_one (charge_of k.server.caps) (charge_one k.server.caps))
stage_cost (Challenging k) request is =
    subst (λ (r : Request). costs (r ∷ []) ≤ 1) (some_is (session_setup k.server.caps k.session k.previous authenticate_token) request is)
    (cost_one (charge_of k.server.caps) (charge_one k.server.caps))
stage_cost (InSession k) request is =
    subst (λ (r : Request). costs (r ∷ []) ≤ 1) (some_is (tree_connect k.server.caps k.session k.path) request is)
    (cost_one (charge_of k.server.caps) (charge_one k.server.caps))
stage_cost (Mounted facts) request is = absurd (none_some request is)

-- so where the ids do not suffice for one, none is free
none_free : (st : Setting) (k : Kept) (c : Client) (requests : List Request) → Fits st k c → c.view.connected ≡ true
    → length (usable k.mux.ids) < costs requests → costs requests ≤ 1
    → free_ids c ≡ 0
none_free st k c requests fits stands few one =
    none (length (usable k.mux.ids)) (costs requests) (free_ids c) few one
    (ap (λ (ids : Ids). length (usable ids)) (fits.ids stands) ∙ length-usable c.view.next c.tally.granted fits.ready.used)
  where
    none : (long cost free : ℕ) → long < cost → cost ≤ 1 → long ≡ free → free ≡ 0
    none long cost free few one same = omega (arith, few, one, same)

-- what the core says of itself where it stops for want of ids
record Short (old : CoreValue) (requests : List Request) : Type 0 where
  quiet : old.kept.flights ≡ []
  few : length (usable old.kept.mux.ids) < costs requests
  one : costs requests ≤ 1

starved : (old : CoreValue) (requests : List Request) → Short old requests
    → ((c : Client) → Sane c.view → Fits old.setting old.kept c → (c.view.connected ≡ true) × Waits old.setting c)
    → Stops old (fault.Protocol protocol.NoCredit)
starved old requests short waits = λ c sane fits.
    let w = waits c sane fits in (
      [],
      record {},
      record {
        quiet = no_sent c.view.told.owners old.kept.flights c.view.flights fits.flights short.quiet;
        none = none_free old.setting old.kept c requests fits w.0 short.few short.one;
        waits = w.1;
      },
    )

-- a call runs on a share that is mounted, and that no one is leaving
record IsOnMount (st : Setting) (p : Phase) (c : Client) : Type 0 where
  facts : Facts
  is : p ≡ phase.On facts
  mounted : IsMounted st facts c

runs_mounted : (st : Setting) (p : Phase) (c : Client) → IsAt st p c → (c.view.items ≡ [] → ⊥) → IsOnMount st p c
runs_mounted st (phase.Apart start) c at runs = absurd (runs at.no_call)
runs_mounted st (phase.Greeting k) c at runs = absurd (runs at.no_call)
runs_mounted st (phase.SettingUp k) c at runs = absurd (runs at.no_call)
runs_mounted st (phase.Answering k) c at runs = absurd (runs at.no_call)
runs_mounted st (phase.Joining k) c at runs = absurd (runs at.no_call)
runs_mounted st (phase.On facts) c at runs = record { facts = facts; is = refl; mounted = at.0 }
runs_mounted st (phase.LeavingTree facts) c at runs = absurd (runs at.0.no_call)
runs_mounted st (phase.LeavingSession facts) c at runs = absurd (runs at.0.no_call)
runs_mounted st phase.Left c at runs = absurd (runs at.0)
runs_mounted st phase.Lost c at runs = absurd at

some_runs : (number : ℕ) (items : List Item) (i : Item) → item_with number items ≡ Some i → items ≡ [] → ⊥
some_runs number items i runs none = none_some i (sym (ap (item_with number) none) ∙ runs)

call_mounted : (st : Setting) (k : Kept) (c : Client) (number : ℕ) (s : Slot) → Fits st k c → slot_with number k.slots ≡ Some s → IsOnMount st k.phase c
call_mounted st k c number s fits there =
    let shown = slot_shown st.options number k.slots c.view.items s fits.slots there in
    runs_mounted st k.phase c fits.phase (some_runs number c.view.items shown.item shown.runs)

-- a call that has no answer yet asks for something
asks_on : (options : Options) (path : List ℕ) (known : Known) (p : Progress) → ((o : Outcome) → p ≡ progress.Said o → ⊥)
    → IsAsking (settled known (rest_by options path p))
asks_on options path known progress.Opening unsaid = record {}
asks_on options path known (progress.Querying fid) unsaid = record {}
asks_on options path known (progress.Closing fid o) unsaid = record {}
asks_on options path known (progress.Said o) unsaid = absurd (unsaid o refl)

call_waits : (st : Setting) (c : Client) (number : ℕ) (s : Slot) (i : Item) → item_with number c.view.items ≡ Some i
    → IsAsking (settled c.view.told.known i.rest) → Waits st c
call_waits st c number s i runs asks =
    let found = item_found (λ (j : Item). Unit {0}) number c.view.items i runs (all_of (λ (j : Item). Unit {0}) c.view.items (λ j. record {})) in
    CallWaits i (subst (λ (n : ℕ). item_with n c.view.items ≡ Some i) (sym found.1) runs) asks

pub call_starved : (old : CoreValue) (number : ℕ) (s : Slot) (requests : List Request) → old.kept.flights ≡ [] → slot_with number old.kept.slots ≡ Some s
    → ((o : Outcome) → s.stat.progress ≡ progress.Said o → ⊥) → length (usable old.kept.mux.ids) < costs requests → costs requests ≤ 1
    → Stops old (fault.Protocol protocol.NoCredit)
call_starved old number s requests quiet there unsaid few one = starved old requests (record { quiet = quiet; few = few; one = one }) (λ c sane fits.
    let shown = slot_shown old.setting.options number old.kept.slots c.view.items s fits.slots there in
    let m = call_mounted old.setting old.kept c number s fits there in (
      m.mounted.connected,
      call_waits old.setting c number s shown.item shown.runs
          (subst (λ (p : Program). IsAsking (settled c.view.told.known p)) (sym shown.shows.rest)
          (asks_on old.setting.options s.stat.path c.view.told.known s.stat.progress unsaid)),
    ))

-- no call runs where no share is mounted
pub call_has_facts : (old : CoreValue) (number : ℕ) (s : Slot) → slot_with number old.kept.slots ≡ Some s → facts_of old.kept.phase ≡ None
    → Stops old (fault.Protocol protocol.NoCredit)
call_has_facts old number s there none = λ c sane fits.
    let m = call_mounted old.setting old.kept c number s fits there in
    absurd (none_some m.facts (sym none ∙ ap facts_of m.is))

-- the mount's next request waits
record IsMountWaiting (st : Setting) (p : Phase) (request : Request) : Type 0 where
  stage : Stage
  command : ℕ
  asks : asked_at stage ≡ Some request
  at : (c : Client) → IsAt st p c → Mounts st stage command c

mount_waiting : (st : Setting) (p : Phase) (request : Request) → mount_asks p ≡ Some request → IsMountWaiting st p request
mount_waiting st (phase.Apart start) request is = absurd (none_some request is)
mount_waiting st (phase.Greeting k) request is = record { stage = Unmounted k; command = _; asks = is; at = λ c at. at }
mount_waiting st (phase.SettingUp k) request is = record { stage = Agreed k; command = _; asks = is; at = λ c at. at }
mount_waiting st (phase.Answering k) request is = record { stage = Challenging k; command = _; asks = is; at = λ c at. at }
mount_waiting st (phase.Joining k) request is = record { stage = InSession k; command = _; asks = is; at = λ c at. at }
mount_waiting st (phase.On facts) request is = absurd (none_some request is)
mount_waiting st (phase.LeavingTree facts) request is = absurd (none_some request is)
mount_waiting st (phase.LeavingSession facts) request is = absurd (none_some request is)
mount_waiting st phase.Left request is = absurd (none_some request is)
mount_waiting st phase.Lost request is = absurd (none_some request is)

pub mount_starved : (old : CoreValue) (request : Request) → old.kept.flights ≡ [] → mount_asks old.kept.phase ≡ Some request
    → length (usable old.kept.mux.ids) < costs (request ∷ [])
    → Stops old (fault.Protocol protocol.NoCredit)
mount_starved old request quiet asks few =
    let w = mount_waiting old.setting old.kept.phase request asks in
    starved old (request ∷ []) (record { quiet = quiet; few = few; one = stage_cost w.stage request w.asks }) (λ c sane fits.
    let at = w.at c fits.phase in (at.connected, MountWaits w.stage at.come request w.asks))

-- what leaves the share waits
leave_waits : (st : Setting) (c : Client) (facts : Facts) → Sane c.view → IsMounted st facts c → c.view.told.ended ≡ true → c.view.items ≡ []
    → c.view.flights ≡ []
    → was_answered LOGOFF c.tally.exchanges ≡ false → Waits st c
leave_waits st c facts sane mounted ended none quiet here =
    LeaveWaits facts (record { mounted = mounted.come; over = ended; no_call = none; no_open = sane.no_place; quiet = quiet }) here

pub tree_starved : (old : CoreValue) (facts : Facts) → old.kept.flights ≡ [] → old.kept.slots ≡ [] → old.kept.ended ≡ true → old.kept.phase ≡ phase.On facts
    → length (usable old.kept.mux.ids) < costs (tree_disconnect facts ∷ []) → Stops old (fault.Protocol protocol.NoCredit)
tree_starved old facts quiet none ended is few =
    starved old (tree_disconnect facts ∷ [])
    (record { quiet = quiet; few = few; one = cost_one (charge_of facts.caps) (charge_one facts.caps) }) (λ c sane fits.
    let at : IsAt old.setting (phase.On facts) c = subst (λ (p : Phase). IsAt old.setting p c) is fits.phase in (
      at.0.connected,
      leave_waits old.setting c facts sane at.0 (sym fits.ended ∙ ended) (no_call old.setting.options old.kept.slots c.view.items fits.slots none)
          (no_sent c.view.told.owners old.kept.flights c.view.flights fits.flights quiet) at.1.1,
    ))

pub session_starved : (old : CoreValue) (facts : Facts) → old.kept.flights ≡ [] → old.kept.phase ≡ phase.LeavingTree facts
    → length (usable old.kept.mux.ids) < costs (logoff facts ∷ []) → Stops old (fault.Protocol protocol.NoCredit)
session_starved old facts quiet is few =
    starved old (logoff facts ∷ [])
    (record { quiet = quiet; few = few; one = cost_one (charge_of facts.caps) (charge_one facts.caps) }) (λ c sane fits.
    let at : IsAt old.setting (phase.LeavingTree facts) c = subst (λ (p : Phase). IsAt old.setting p c) is fits.phase in (
      at.0.mounted.connected,
      leave_waits old.setting c facts sane at.0.mounted at.0.ended at.0.no_call
          (no_sent c.view.told.owners old.kept.flights c.view.flights fits.flights quiet) at.2,
    ))
