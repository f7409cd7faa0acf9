-- The parts of an event that send: their outputs are what the client may do.
use Rattle.std.proofs.Common.{arith, ◌≡◌, ◌∙◌, refl, sym, ap, subst, ℕ, ◌<◌, ◌≤◌, Bool, true, false, if◌then◌else◌, List, [], ◌∷◌, ◌++◌, length, Some, None}
use Rattle.std.specs.Prelude.{option_map}
use Rattle.smb_base.specs.declared.names.Mid.{Mid}
use Rattle.smb_head.specs.declared.request.Request.{Request}
use Rattle.smb_head.specs.Stream as stream
use Rattle.smb_chain.specs.Chain.{chain}
use Rattle.smb_credit.specs.Window.{usable, least}
use Rattle.smb_link.specs.declared.mark.Mark.TheVariants as mark
use Rattle.smb_mount.specs.declared.facts.Facts.{Facts}
use Rattle.smb_mount.specs.Requests.{tree_disconnect, logoff}
use Rattle.smb_mux.specs.Sending.{costs, placed}
use Rattle.fs_client.specs.View.{Setting, Client}
use Rattle.fs_client.proofs.Lists.{none_some, some_is}
use Rattle.fs_core.specs.declared.output.Output.{Output}
use Rattle.fs_core.specs.declared.output.Output.TheVariants as output
use Rattle.fs_core.specs.declared.phase.Phase.{Phase}
use Rattle.fs_core.specs.declared.phase.Phase.TheVariants as phase
use Rattle.fs_core.specs.declared.slot.Slot.{Slot}
use Rattle.fs_core.specs.declared.stat.Progress.{Progress}
use Rattle.fs_core.specs.declared.stat.Progress.TheVariants as progress
use Rattle.fs_core.specs.Asks.{alone_by, alone_of, chain_of, said_by, progress_with, facts_of, mount_asks, leave_asks, kinds_of}
use Rattle.fs_core.specs.Event.{is_left, is_connected, Holds, Does, Puts}
use Rattle.fs_core.specs.Fits.{IsAt, Fits}
use Rattle.fs_core.specs.Going.{IsWaiting, AreFew, Sends, SendsAside, left_of, with_phase}
use Rattle.fs_core.specs.Kept.{Kept, CoreValue}
use Rattle.fs_core.specs.Parts.{slot_with}
use Rattle.fs_core.specs.Steps.{sent_for, sent_aside}
use Rattle.fs_core.specs.Written.{IsPath, IsWritable, IsWrittenIn}
use Rattle.fs_core.proofs.Putting.{not_left}
use Rattle.fs_core.proofs.MarkingLists.{no_slot}
use Rattle.fs_core.proofs.SendingCalls.{alone_does, chain_does}
use Rattle.fs_core.proofs.SendingAsides.{mount_does, leave_tree_does, leave_session_does}

-- a call runs on a mounted share alone: while the share is left, none does
does_on : (st : Setting) (k k' : Kept) (number : ℕ) (s : Slot) (facts : Facts) (more : List Output) → facts_of k.phase ≡ Some facts → slot_with number k.slots ≡ Some s
    → (k.phase ≡ phase.On facts → Does st k more k') → Does st k more k'
does_on st k k' number s facts more known found on = by k.phase refl known
  where
    never : (c : Client) → Fits st k c → c.view.items ≡ [] → ⊥
    never c fits none = none_some s (subst (λ (l : List Slot). slot_with number l ≡ Some s) (no_slot st.options k.slots c.view.items fits.slots none) found)

    by : (p : Phase) → k.phase ≡ p → facts_of p ≡ Some facts → Does st k more k'
    by (phase.On f) is known = on (is ∙ ap phase.On (some_is f facts known))
    by (phase.LeavingTree f) is known = λ c sane fits. absurd (never c fits (subst (λ (p : Phase). IsAt st p c) is fits.phase).0.no_call)
    by (phase.LeavingSession f) is known = λ c sane fits. absurd (never c fits (subst (λ (p : Phase). IsAt st p c) is fits.phase).0.no_call)
    by other is known = absurd (none_some facts known)

-- the call that waits has something to ask
pub waiting_asks : (facts : Facts) (s : Slot) → said_by s.stat.progress ≡ None → 0 < length (alone_of facts s.stat)
waiting_asks facts s asks = by s.stat.progress asks
  where
    by : (p : Progress) → said_by p ≡ None → 0 < length (alone_by facts s.stat.path p)
    by progress.Opening asks = omega arith
    by (progress.Querying fid) asks = omega arith
    by (progress.Closing fid o) asks = omega arith
    by (progress.Said o) asks = absurd (none_some o (sym asks))

-- a call's frame, behind the mark that speaks of it
sends_puts : (old new : CoreValue) (number : ℕ) (rs : List Request) → (so : Sends number rs old new)
    → Does old.setting old.kept (output.Marked (mark.For number so.first (length rs)) ∷ output.Send so.frame ∷ []) (sent_for number so.first (kinds_of rs) rs old.kept) → Puts 3 3 old new
sends_puts old new number rs so does = record {
  more = output.Marked (mark.For number so.first (length rs)) ∷ output.Send so.frame ∷ [];
  setting = so.setting;
  outs = so.outs;
  order = (omega arith, omega arith, (omega arith, omega arith, record {}));
  left = ap (λ (k : Kept). is_left k.phase) so.kept ∙ not_left (is_left old.kept.phase);
  holds = subst (Holds old.kept) (sym so.kept) (record { last = refl; now = refl; ended = refl; connected = refl });
  does = subst (Does old.setting old.kept (output.Marked (mark.For number so.first (length rs)) ∷ output.Send so.frame ∷ [])) (sym so.kept) does;
}

pub alone_puts : (old new : CoreValue) (number : ℕ) (s : Slot) (facts : Facts) (rs : List Request) → facts_of old.kept.phase ≡ Some facts → slot_with number old.kept.slots ≡ Some s
    → IsWaiting number old.kept → AreFew number old.kept → IsWritable s.stat.path s.stat.progress → rs ≡ alone_of facts s.stat → Sends number rs old new → Puts 3 3 old new
alone_puts old new number s facts rs known found waits few writable is so =
    let same : waits.slot ≡ s = some_is waits.slot s (sym waits.found ∙ found) in
    let asks : said_by s.stat.progress ≡ None = subst (λ (t : Slot). said_by t.stat.progress ≡ None) same waits.asks in
    sends_puts old new number rs so (does_on old.setting old.kept (sent_for number so.first (kinds_of rs) rs old.kept) number s facts
    (output.Marked (mark.For number so.first (length rs)) ∷ output.Send so.frame ∷ []) known found
    (λ on. alone_does old.setting old.kept number s facts so.first rs so.frame on found waits.idle writable
    (λ opening. few (ap (option_map (λ (t : Slot). t.stat.progress)) found ∙ ap (λ (p : Progress). Some p) opening))
    is (subst (λ (l : List Request). 0 < length l) (sym is) (waiting_asks facts s asks)) so.enough so.spelled so.id))

pub chain_puts : (old new : CoreValue) (number : ℕ) (s : Slot) (facts : Facts) (rs : List Request) → facts_of old.kept.phase ≡ Some facts → slot_with number old.kept.slots ≡ Some s
    → IsWaiting number old.kept → progress_with number old.kept.slots ≡ Some progress.Opening → IsPath s.stat.path → rs ≡ chain_of facts s.stat.path → Sends number rs old new → Puts 3 3 old new
chain_puts old new number s facts rs known found waits first path is so =
    let opening : s.stat.progress ≡ progress.Opening =
    some_is s.stat.progress progress.Opening (sym (ap (option_map (λ (t : Slot). t.stat.progress)) found) ∙ first) in
    sends_puts old new number rs so (does_on old.setting old.kept (sent_for number so.first (kinds_of rs) rs old.kept) number s facts
    (output.Marked (mark.For number so.first (length rs)) ∷ output.Send so.frame ∷ []) known found
    (λ on. chain_does old.setting old.kept number s facts so.first rs so.frame on found waits.idle opening path is so.enough so.spelled so.id))

-- a phase in which a connection stands, and is left, where it does and is in another
record IsBeside (p q : Phase) : Type 0 where
  left : is_left p ≡ is_left q
  connected : is_connected p ≡ is_connected q

beside_leaving : (ended : Bool) (p : Phase) (r : Request) → leave_asks ended p ≡ Some r → IsBeside (left_of p) p
beside_leaving ended (phase.On facts) r asks = record { left = refl; connected = refl }
beside_leaving ended (phase.LeavingTree facts) r asks = record { left = refl; connected = refl }
beside_leaving ended other r asks = absurd (none_some r asks)

-- a request of the connection itself, and how far it has come then
own_puts : (old new : CoreValue) (p : Phase) (r : Request) (first : Mid) (frame : List ℕ) → new.setting ≡ old.setting → new.outs ≡ old.outs ++ output.Send frame ∷ []
    → new.kept ≡ sent_aside p first r old.kept → IsBeside p old.kept.phase → Does old.setting old.kept (output.Send frame ∷ []) (sent_aside p first r old.kept)
    → Puts 3 3 old new
own_puts old new p r first frame setting outs kept beside does = record {
  more = output.Send frame ∷ [];
  setting = setting;
  outs = outs;
  order = (omega arith, omega arith, record {});
  left = ap (λ (k : Kept). is_left k.phase) kept ∙ beside.left ∙ not_left (is_left old.kept.phase);
  holds = subst (Holds old.kept) (sym kept) (record { last = refl; now = refl; ended = refl; connected = beside.connected });
  does = subst (Does old.setting old.kept (output.Send frame ∷ [])) (sym kept) does;
}

pub mount_puts : (old new : CoreValue) (r : Request) → mount_asks old.kept.phase ≡ Some r → IsWrittenIn old.kept.phase r → old.kept.flights ≡ [] → SendsAside r old new → Puts 3 3 old new
mount_puts old new r asks written none so =
    own_puts old new old.kept.phase r so.first so.frame so.setting so.outs so.kept (record { left = refl; connected = refl })
    (mount_does old.setting old.kept r so.first so.frame asks written none so.enough so.spelled so.id)

-- what leaves the share
leave_does : (st : Setting) (k : Kept) (r : Request) (first : Mid) (frame : List ℕ) → leave_asks k.ended k.phase ≡ Some r → k.slots ≡ [] → k.flights ≡ []
    → costs (r ∷ []) ≤ length (usable k.mux.ids) → frame ≡ stream.frame (chain (placed k.mux.ids (r ∷ []))) → first.0 ≡ least k.mux.ids
    → Does st k (output.Send frame ∷ []) (sent_aside (left_of k.phase) first r k)
leave_does st k r first frame asks empty none enough spelled id = by k.phase refl asks
  where
    tree : (facts : Facts) → k.phase ≡ phase.On facts → (b : Bool) → k.ended ≡ b → (if b then Some (tree_disconnect facts) else None) ≡ Some r
        → Does st k (output.Send frame ∷ []) (sent_aside (phase.LeavingTree facts) first r k)
    tree facts is false ended asks = absurd (none_some r asks)
    tree facts is true ended asks =
        subst (λ (q : Request). costs (q ∷ []) ≤ length (usable k.mux.ids) → frame ≡ stream.frame (chain (placed k.mux.ids (q ∷ [])))
        → Does st k (output.Send frame ∷ []) (sent_aside (phase.LeavingTree facts) first q k))
        (some_is (tree_disconnect facts) r asks) (λ enough spelled. leave_tree_does st k facts first frame is ended empty none enough spelled id) enough spelled

    session : (facts : Facts) → k.phase ≡ phase.LeavingTree facts → Some (logoff facts) ≡ Some r → Does st k (output.Send frame ∷ []) (sent_aside (phase.LeavingSession facts) first r k)
    session facts is asks =
        subst (λ (q : Request). costs (q ∷ []) ≤ length (usable k.mux.ids) → frame ≡ stream.frame (chain (placed k.mux.ids (q ∷ [])))
        → Does st k (output.Send frame ∷ []) (sent_aside (phase.LeavingSession facts) first q k))
        (some_is (logoff facts) r asks) (λ enough spelled. leave_session_does st k facts first frame is none enough spelled id) enough spelled

    by : (p : Phase) → k.phase ≡ p → leave_asks k.ended p ≡ Some r → Does st k (output.Send frame ∷ []) (sent_aside (left_of p) first r k)
    by (phase.On facts) is asks = tree facts is k.ended refl asks
    by (phase.LeavingTree facts) is asks = session facts is asks
    by other is asks = absurd (none_some r asks)

pub leave_puts : (old between new : CoreValue) (r : Request) → leave_asks old.kept.ended old.kept.phase ≡ Some r → old.kept.slots ≡ [] → old.kept.flights ≡ []
    → SendsAside r old between → new ≡ with_phase (left_of between.kept.phase) between → Puts 3 3 old new
leave_puts old between new r asks empty none so is =
    own_puts old new (left_of old.kept.phase) r so.first so.frame (ap (λ (v : CoreValue). v.setting) is ∙ so.setting) (ap (λ (v : CoreValue). v.outs) is ∙ so.outs)
    (ap (λ (v : CoreValue). v.kept) is ∙ ap (λ (k : Kept). record k { phase = left_of k.phase }) so.kept)
    (beside_leaving old.kept.ended old.kept.phase r asks)
    (leave_does old.setting old.kept r so.first so.frame asks empty none so.enough so.spelled so.id)
