-- The causes of the ends of a run, for its client.
use Rattle.std.proofs.Common.{◌≡◌, ◌∙◌, refl, sym, ap, subst, ℕ, ◌+◌, true, false, List, [], ◌∷◌, inl, inr, ◌⊎◌}
use Rattle.smb_head.specs.Stream.{first_of}
use Rattle.smb_link.specs.declared.event.Event.{Event}
use Rattle.smb_link.specs.declared.event.Event.TheVariants as event
use Rattle.fs_client.specs.View.{Setting, Client}
use Rattle.fs_client.specs.After.{after, all_after}
use Rattle.fs_core.specs.declared.fault.CoreFault.{CoreFault}
use Rattle.fs_core.specs.declared.fault.CoreFault.TheVariants as fault
use Rattle.fs_core.specs.Kept.{Kept}
use Rattle.fs_core.specs.Fits.{Fits}
use Rattle.fs_client.specs.Sane.{Sane}
use Rattle.fs_core.specs.declared.input.Input.{Input}
use Rattle.fs_core.specs.declared.input.Input.TheVariants as input
use Rattle.fs_core.specs.Event.{Brought, CausedBy, IsFaultOf, MayTake, is_connected, connected_after}
use Rattle.fs_core.proofs.Putting.{all_after_append}
use Rattle.fs_top.specs.declared.run_end.End.{End}
use Rattle.fs_top.specs.declared.run_end.End.TheVariants as end
use Rattle.fs_top.specs.declared.run_end.Wrong.TheVariants as wrong
use Rattle.fs_top.specs.Turns.{Turn, State, pending_of, after_turns, AreTurns, events_in}
use Rattle.fs_top.specs.Ends.{StopsAt, EndsAt}
use Rattle.fs_top.specs.Clients.{Holds}
use Rattle.fs_top.specs.Endings.{IsUnheard}
use Rattle.fs_top.specs.Causing.{ComesLast, IsStopped, IsLost, ByLink, BySilence, CauseOf}
use Rattle.fs_top.proofs.Clients.{joined_apart, brought, turns_along}
use Rattle.fs_top.proofs.ClientsEnds.{GotFrame, by_frame, by_cut, by_silence, silent_nothing}

-- a fault of the core is one of each client that it fits
caused : (st was : Setting) (i : Input) (k : Kept) (why : CoreFault) (d d' : Client) → was ≡ st
    → ((d d' : Client) → Sane d.view → Fits was k d → Brought was i d d' → CausedBy was i d d' why)
    → Sane d.view → Fits st k d → Brought st i d d' → CausedBy st i d d' why
caused st was i k why d d' is faults =
    (subst (λ (w : Setting). (d d' : Client) → Sane d.view → Fits w k d → Brought w i d d' → CausedBy w i d d' why) is faults) d d'

-- a frame at which the client stops came in the last event
stopped_by : (st : Setting) (s : State) (c : Client) (events : List Event) (frame : List ℕ) (why : CoreFault) → s.core.setting ≡ st → s.core.outs ≡ [] → IsFaultOf (input.Frame frame) s.core why
    → GotFrame st s c events frame → IsStopped st c events why
stopped_by st s c events frame why set none faults got =
    let d : Client = all_after st c got.by.before in
    let goes : all_after st c events ≡ after st d (event.Got got.by.bytes) =
    ap (all_after st c) got.by.are ∙ all_after_append st got.by.before (event.Got got.by.bytes ∷ []) c in
    let brings : Brought st (input.Frame frame) d (all_after st c events) = (got.by.bytes, got.up, got.by.whole, goes) in
    record {
      before = d;
      input = input.Frame frame;
      comes = record { by = got.by; is = refl };
      brought = brings;
      caused = caused st s.core.setting (input.Frame frame) s.core.kept why d (all_after st c events) set faults got.sane (got.fits none) brings;
    }

-- an input at which the client stops, and that is no frame, came from elsewhere
stopped_at : (st : Setting) (s : State) (c : Client) (events : List Event) (i : Input) (why : CoreFault) → Holds st s (all_after st c events) → s.core.outs ≡ [] → s.connected ≡ true
    → MayTake i s.core.kept → connected_after i (is_connected s.core.kept.phase) ≡ true → s.pending ≡ pending_of i → IsFaultOf i s.core why
    → ((before : Client) → ComesLast st c events i before) → IsStopped st c events why
stopped_at st s c events i why holds none up may connects given faults comes =
    let b = holds.behind none up in
    let brings = brought st s.core.kept.phase i s.pending b.before (all_after st c events) given (joined_apart i s.core.kept may) connects b.given in
    record {
      before = b.before;
      input = i;
      comes = comes b.before;
      brought = brings;
      caused = caused st s.core.setting i s.core.kept why b.before (all_after st c events) holds.setting faults b.sane b.fits brings;
    }

-- a stop of the core behind turns is one of the client
stopped : (st : Setting) (s0 : State) (c : Client) (turns : List Turn) (why : CoreFault) → AreTurns s0 turns → Holds st s0 c → s0.pending ≡ [] → StopsAt (after_turns turns s0) why
    → IsStopped st c (events_in turns) why
stopped st s0 c turns why are holds first stops = by stops.input stops.may stops.connects stops.given stops.is
  where
    s : State
    s = after_turns turns s0

    holds' : Holds st s (all_after st c (events_in turns))
    holds' = (turns_along st turns s0 c are holds).holds

    by : (i : Input) → MayTake i s.core.kept → connected_after i (is_connected s.core.kept.phase) ≡ true → s.pending ≡ pending_of i → IsFaultOf i s.core why → IsStopped st c (events_in turns) why
    by (input.Frame frame) may connects given faults =
        stopped_by st s c (events_in turns) frame why holds'.setting stops.nothing_left faults (by_frame st s0 c turns frame are holds first given)
    by other may connects given faults =
        stopped_at st s c (events_in turns) other why holds' stops.nothing_left stops.stands may connects given faults (λ before. tt)

-- the end of turns, from what the engine has at first
pub ends_caused : (st : Setting) (patience : ℕ) (s : State) (c : Client) (turns : List Turn) (e : End) → AreTurns s turns → Holds st s c → s.connected ≡ true → s.silences ≡ 0 → s.pending ≡ []
    → EndsAt patience e (after_turns turns s) → CauseOf st patience c (events_in turns) e
ends_caused st patience s c turns e are holds up none first ends = by e ends
  where
    s' : State
    s' = after_turns turns s

    c' : Client
    c' = all_after st c (events_in turns)

    holds' : Holds st s' c'
    holds' = (turns_along st turns s c are holds).holds

    lost : (s'.connected ≡ false) ⊎ (s'.silences ≡ patience) → IsLost st patience c (events_in turns)
    lost (inl gone) = let cut = by_cut s turns are up gone in ByLink cut.0 cut.1
    lost (inr silent) = BySilence (subst (λ (n : ℕ). IsUnheard st c n (events_in turns)) silent
        (by_silence st turns s c c [] refl are holds (subst (λ (n : ℕ). IsUnheard st c n []) (sym none) (silent_nothing st c []))))

    by : (e : End) → EndsAt patience e s' → CauseOf st patience c (events_in turns) e
    by end.Done ends = holds'.gone ends
    by (end.Line number) ends = holds'.gone ends
    by end.Source ends = holds'.gone ends
    by (end.Mount why) ends = stopped st s c turns (fault.Refused why) are holds first ends
    by (end.Frame n wrong.Length) ends = (
      ends.0 ∙ ap (λ (m : ℕ). m + 1) (sym holds'.frames),
      record { fault = ends.1.fault; bad = ap first_of (holds'.held ends.2) ∙ ends.1.bad },
    )
    by (end.Frame n (wrong.Protocol why)) ends = (ends.0 ∙ sym holds'.frames, stopped st s c turns (fault.Protocol why) are holds first ends.1)
    by end.Cuts ends = lost ends
    by end.Frames ends = holds'.frames ∙ ends
    by end.Memory ends = tt
    by end.Sink ends = tt
    by (end.Connects n) ends = ends
