-- How a run begins for the client, and how its turns end: by a frame, by a lost connection, in silence.
use Rattle.std.proofs.Common.{rules, arith, ◌≡◌, ◌∙◌, refl, sym, ap, subst, ℕ, suc, ◌+◌, Bool, true, false, if◌then◌else◌, List, [], ◌∷◌, ◌++◌}
use Rattle.std.proofs.lemmas.Bool.{false≢true}
use Rattle.std.proofs.lemmas.List.{append-nil, append_assoc}
use Rattle.smb_head.specs.Stream.{frames_in}
use Rattle.smb_mount.specs.Kept.{Start}
use Rattle.smb_link.specs.declared.event.Event.{Event}
use Rattle.smb_link.specs.declared.event.Event.TheVariants as event
use Rattle.smb_link.specs.declared.mark.Mark.TheVariants as mark
use Rattle.share_state.specs.declared.connection.Sent.{Sent}
use Rattle.fs_plain.specs.Owners.{Owner}
use Rattle.fs_client.specs.View.{Setting, Client, no_client}
use Rattle.fs_client.specs.After.{after, all_after}
use Rattle.fs_client.specs.Mount.{Unmounted, at_first}
use Rattle.fs_client.specs.Sane.{Sane}
use Rattle.fs_client.proofs.Stays.{sane_at_first}
use Rattle.fs_core.specs.declared.flight.Flight.{Flight}
use Rattle.fs_core.specs.declared.output.Output.{Output}
use Rattle.fs_core.specs.declared.output.Output.TheVariants as output
use Rattle.fs_core.specs.Kept.{CoreValue}
use Rattle.fs_core.specs.Start.{kept_at_start}
use Rattle.fs_core.specs.Parts.{has_flight}
use Rattle.fs_core.specs.Fits.{AllFly, Fits}
use Rattle.fs_core.specs.Event.{events_of}
use Rattle.fs_core.proofs.Putting.{all_after_append}
use Rattle.fs_core.proofs.MarkingJoined.{fits_first}
use Rattle.fs_top.specs.Turns.{Turn, State, heard_by, core_after, carried, after_turn, after_turns, IsOne, Hears, Silently, Listened, Lost, IsTurn, AreTurns, events_at, events_in}
use Rattle.fs_top.specs.Clients.{Holds}
use Rattle.fs_top.specs.Endings.{IsBy, AreUnheard, IsUnheard}
use Rattle.fs_top.proofs.Clients.{Did, did, carried_holds, turn_goes, turns_along}

-- what the engine has when the first connection was made
abbrev pub joined_state : Setting → Start → State
joined_state st mount = record {
  core = record { setting = st; kept = kept_at_start mount; outs = [] };
  running = [];
  held = [];
  received = 0;
  silences = 0;
  pending = [];
  connected = true;
  over = false;
}

pub joined_holds : (st : Setting) (mount : Start) → Unmounted mount ≡ at_first st → Holds st (joined_state st mount) (after st no_client event.Joined)
joined_holds st mount first = record {
  setting = refl;
  behind = λ none up. record { before = no_client; sane = sane_at_first; fits = fits_first st mount first; given = (refl, refl) };
  connected = λ up. refl;
  held = λ up. refl;
  frames = refl;
  running = refl;
  on = λ none over. refl;
  gone = λ over. absurd (false≢true over);
}

-- turns have a last one, unless there is none
record HasLast (s : State) (turns : List Turn) : Type 0 where
  front : List Turn
  last : Turn
  are : turns ≡ front ++ last ∷ []
  before : AreTurns s front
  is : IsTurn (after_turns front s) last
  ends : after_turns turns s ≡ after_turn last (after_turns front s)
  events : events_in turns ≡ events_in front ++ events_at last

has_last : (s : State) (t : Turn) (ts : List Turn) → AreTurns s (t ∷ ts) → HasLast s (t ∷ ts)
has_last s t [] are = record { front = []; last = t; are = refl; before = record {}; is = are.0; ends = refl; events = append-nil (events_at t) }
has_last s t (u ∷ us) are =
    let deeper = has_last (after_turn t s) u us are.1 in
    record {
      front = t ∷ deeper.front;
      last = deeper.last;
      are = ap (λ (l : List Turn). t ∷ l) deeper.are;
      before = (are.0, deeper.before);
      is = deeper.is;
      ends = deeper.ends;
      events = ap (λ (es : List Event). events_at t ++ es) deeper.events ∙ sym (append_assoc (events_at t) (events_in deeper.front) (events_at deeper.last));
    }

-- a turn behind which a frame came and was not given
record HeardFrame (c : Client) (t : Turn) (frame : List ℕ) : Type 0 where
  bytes : List ℕ
  heard : t.heard ≡ event.Got bytes ∷ []
  whole : frames_in (c.view.held ++ bytes) ≡ frame ∷ []

no_frame : (frame : List ℕ) → [] ≡ frame ∷ [] → ⊥
no_frame frame e = search rules

heard_frame : (st : Setting) (s : State) (t : Turn) (c : Client) (frame : List ℕ) → IsTurn s t → Holds st (carried t s) c
    → (after_turn t s).pending ≡ frame ∷ [] → HeardFrame c t frame
heard_frame st s t c frame is holds pending = by is.hears
  where
    un : Bool
    un = has_flight t.mid.kept.flights

    so : (heard : List Event) → t.heard ≡ heard → (heard_by un heard (carried t s)).pending ≡ frame ∷ []
    so heard same = ap (λ (l : List Event). (heard_by un l (carried t s)).pending) (sym same) ∙ pending

    one : (heard : List Event) → IsOne heard → t.heard ≡ heard → HeardFrame c t frame
    one [] single same = absurd (no_frame frame (so [] same))
    one (event.Got bytes ∷ []) single same = record {
      bytes = bytes;
      heard = same;
      whole = ap (λ (h : List ℕ). frames_in (h ++ bytes)) (holds.held is.stands) ∙ so (event.Got bytes ∷ []) same;
    }
    one (event.Quiet ∷ []) single same = absurd (no_frame frame (so (event.Quiet ∷ []) same))
    one (event.Cut ∷ []) single same = absurd (no_frame frame (so (event.Cut ∷ []) same))
    one other single same = absurd single

    by : Hears t → HeardFrame c t frame
    by (Silently same) = absurd (no_frame frame (so [] same))
    by (Listened now none on single) = one t.heard single refl
    by (Lost send same) = absurd (no_frame frame (so (event.Cut ∷ []) same))

-- what is known of the client before the receive that made a frame whole
pub record GotFrame (st : Setting) (s : State) (c : Client) (events : List Event) (frame : List ℕ) : Type 0 where
  pub by : IsBy st c events frame
  pub up : (all_after st c by.before).view.connected ≡ true
  pub sane : Sane (all_after st c by.before).view
  pub fits : s.core.outs ≡ [] → Fits st s.core.kept (all_after st c by.before)

-- a frame that came and was not given is one that the last receive made whole
pub by_frame : (st : Setting) (s : State) (c : Client) (turns : List Turn) (frame : List ℕ) → AreTurns s turns → Holds st s c → s.pending ≡ []
    → (after_turns turns s).pending ≡ frame ∷ [] → GotFrame st (after_turns turns s) c (events_in turns) frame
by_frame st s c [] frame are holds none is = absurd (no_frame frame (sym none ∙ is))
by_frame st s c (t ∷ ts) frame are holds none is =
    let l = has_last s t ts are in
    let front = turns_along st l.front s c l.before holds in
    let sl : State = after_turns l.front s in
    let cl : Client = all_after st c (events_in l.front) in
    let d = did st sl l.last cl l.is front.holds in
    let h = carried_holds st sl l.last cl l.is front.holds d in
    let f = heard_frame st sl l.last (all_after st cl (events_of l.last.outs)) frame l.is h (sym (ap (λ (q : State). q.pending) l.ends) ∙ is) in
    let at : all_after st c (events_in l.front ++ events_of l.last.outs) ≡ all_after st cl (events_of l.last.outs) = all_after_append st (events_in l.front) (events_of l.last.outs) c in
    let core : (after_turns (t ∷ ts) s).core ≡ core_after l.last =
    ap (λ (q : State). q.core) l.ends ∙ ap (λ (heard : List Event). (heard_by (has_flight l.last.mid.kept.flights) heard (carried l.last sl)).core) f.heard in
    record {
      by = record {
        before = events_in l.front ++ events_of l.last.outs;
        bytes = f.bytes;
        are = l.events ∙ ap (λ (heard : List Event). events_in l.front ++ (events_of l.last.outs ++ heard)) f.heard
            ∙ sym (append_assoc (events_in l.front) (events_of l.last.outs) (event.Got f.bytes ∷ []));
        whole = ap (λ (q : Client). frames_in (q.view.held ++ f.bytes)) at ∙ f.whole;
      };
      up = ap (λ (q : Client). q.view.connected) at ∙ h.connected l.is.stands;
      sane = subst (λ (q : Client). Sane q.view) (sym at) d.sane;
      fits = λ none. subst (λ (k : CoreValue). Fits st k.kept (all_after st c (events_in l.front ++ events_of l.last.outs))) (sym core)
          (subst (Fits st l.last.mid.kept) (sym at) (d.fits (sym (ap (λ (k : CoreValue). k.outs) core) ∙ none)));
    }

-- a turn behind which the connection is lost
record HeardCut (t : Turn) : Type 0 where
  heard : t.heard ≡ event.Cut ∷ []

heard_cut : (s : State) (t : Turn) → IsTurn s t → (after_turn t s).connected ≡ false → HeardCut t
heard_cut s t is lost = by is.hears
  where
    un : Bool
    un = has_flight t.mid.kept.flights

    so : (heard : List Event) → t.heard ≡ heard → (heard_by un heard (carried t s)).connected ≡ false
    so heard same = ap (λ (l : List Event). (heard_by un l (carried t s)).connected) (sym same) ∙ lost

    stands : (b : Bool) → b ≡ true → b ≡ false → HeardCut t
    stands b up down = absurd (false≢true (sym down ∙ up))

    one : (heard : List Event) → IsOne heard → t.heard ≡ heard → HeardCut t
    one [] single same = stands s.connected is.stands (so [] same)
    one (event.Got bytes ∷ []) single same = stands s.connected is.stands (so (event.Got bytes ∷ []) same)
    one (event.Quiet ∷ []) single same = stands s.connected is.stands (so (event.Quiet ∷ []) same)
    one (event.Cut ∷ []) single same = record { heard = same }
    one other single same = absurd single

    by : Hears t → HeardCut t
    by (Silently same) = stands s.connected is.stands (so [] same)
    by (Listened now none on single) = one t.heard single refl
    by (Lost send same) = record { heard = same }

-- a connection that was lost in these turns is the last that was heard
pub by_cut : (s : State) (turns : List Turn) → AreTurns s turns → s.connected ≡ true → (after_turns turns s).connected ≡ false
    → (before : List Event) × (events_in turns ≡ before ++ event.Cut ∷ [])
by_cut s [] are up lost = absurd (false≢true (sym lost ∙ up))
by_cut s (t ∷ ts) are up lost =
    let l = has_last s t ts are in
    let h = heard_cut (after_turns l.front s) l.last l.is (sym (ap (λ (q : State). q.connected) l.ends) ∙ lost) in (
      events_in l.front ++ events_of l.last.outs,
      l.events ∙ ap (λ (heard : List Event). events_in l.front ++ (events_of l.last.outs ++ heard)) h.heard
          ∙ sym (append_assoc (events_in l.front) (events_of l.last.outs) (event.Cut ∷ [])),
    )

-- outputs are no silence, and bring nothing
unheard_outs : (st : Setting) (os : List Output) (c : Client) → AreUnheard st c 0 (events_of os)
unheard_outs st [] c = refl
unheard_outs st (output.Send frame ∷ os) c = unheard_outs st os (after st c (event.Sent frame))
unheard_outs st (output.Marked m ∷ os) c = unheard_outs st os (after st c (event.Marked m))
unheard_outs st (output.Answer number a ∷ os) c = unheard_outs st os (after st c (event.Marked (mark.Answer number a)))
unheard_outs st (output.Reconnect ∷ os) c = unheard_outs st os c
unheard_outs st (output.Left ∷ os) c = unheard_outs st os c

unheard_then : (st : Setting) (xs ys : List Event) (n m : ℕ) (c : Client) → AreUnheard st c n xs → AreUnheard st (all_after st c xs) m ys → AreUnheard st c (n + m) (xs ++ ys)
unheard_then st [] ys n m c none more = subst (λ (k : ℕ). AreUnheard st c k ys) (same n m none) more
  where
    same : (n m : ℕ) → n ≡ 0 → m ≡ n + m
    same n m none = omega (arith, none)
unheard_then st (event.Quiet ∷ xs) ys n m c one more =
    (one.0, (one.1.0 + m, one_more n one.1.0 m one.1.1, unheard_then st xs ys one.1.0 m (after st c event.Quiet) one.1.2 more))
  where
    one_more : (n k m : ℕ) → n ≡ suc k → n + m ≡ suc (k + m)
    one_more n k m is = omega (arith, is)
unheard_then st (event.Got bytes ∷ xs) ys n m c one more = absurd one
unheard_then st (event.Marked k ∷ xs) ys n m c one more = unheard_then st xs ys n m (after st c (event.Marked k)) one more
unheard_then st (event.Sent frame ∷ xs) ys n m c one more = unheard_then st xs ys n m (after st c (event.Sent frame)) one more
unheard_then st (event.Joined ∷ xs) ys n m c one more = unheard_then st xs ys n m (after st c event.Joined) one more
unheard_then st (event.NotJoined ∷ xs) ys n m c one more = unheard_then st xs ys n m (after st c event.NotJoined) one more
unheard_then st (event.Cut ∷ xs) ys n m c one more = unheard_then st xs ys n m (after st c event.Cut) one more
unheard_then st (event.Took mid ∷ xs) ys n m c one more = unheard_then st xs ys n m (after st c (event.Took mid)) one more
unheard_then st (event.Pend mid ∷ xs) ys n m c one more = unheard_then st xs ys n m (after st c (event.Pend mid)) one more
unheard_then st (event.Act who request reply ∷ xs) ys n m c one more = unheard_then st xs ys n m (after st c (event.Act who request reply)) one more
unheard_then st (event.Break key state ∷ xs) ys n m c one more = unheard_then st xs ys n m (after st c (event.Break key state)) one more
unheard_then st (event.Dropped key ∷ xs) ys n m c one more = unheard_then st xs ys n m (after st c (event.Dropped key)) one more

-- the events so far end in the silences that the engine counts; and one turn more
pub silent_nothing : (st : Setting) (c : Client) (events : List Event) → IsUnheard st c 0 events
silent_nothing st c events = record { before = events; later = []; are = sym (append-nil events); silent = refl }

silent_more : (st : Setting) (c : Client) (n m : ℕ) (events more : List Event) → IsUnheard st c n events → AreUnheard st (all_after st c events) m more → IsUnheard st c (n + m) (events ++ more)
silent_more st c n m events more u silent = record {
  before = u.before;
  later = u.later ++ more;
  are = ap (λ (es : List Event). es ++ more) u.are ∙ append_assoc u.before u.later more;
  silent = unheard_then st u.later more n m (all_after st c u.before) u.silent
      (subst (λ (d : Client). AreUnheard st d m more) (ap (all_after st c) u.are ∙ all_after_append st u.before u.later c) silent);
}

-- a request that the core has in flight is one of the client
some_flight : (owners : List Owner) (fs : List Flight) (xs : List Sent) → AllFly owners fs xs → has_flight fs ≡ true → xs ≡ [] → ⊥
some_flight owners [] xs fly some none = false≢true some
some_flight owners (f ∷ fs) [] fly some none = fly
some_flight owners (f ∷ fs) (x ∷ xs) fly some none = search rules

turn_silent : (st : Setting) (s : State) (t : Turn) (c c0 : Client) (events : List Event) → all_after st c0 events ≡ c → IsTurn s t → Holds st s c → IsUnheard st c0 s.silences events
    → IsUnheard st c0 (after_turn t s).silences (events ++ events_at t)
turn_silent st s t c c0 events at is holds u = by is.hears
  where
    d : Did st t c
    d = did st s t c is holds

    un : Bool
    un = has_flight t.mid.kept.flights

    c1 : Client
    c1 = all_after st c (events_of t.outs)

    plus : (n : ℕ) → n + 0 ≡ n
    plus n = omega arith

    outs : IsUnheard st c0 s.silences (events ++ events_of t.outs)
    outs = subst (λ (n : ℕ). IsUnheard st c0 n (events ++ events_of t.outs)) (plus s.silences)
        (silent_more st c0 s.silences 0 events (events_of t.outs) u (subst (λ (e : Client). AreUnheard st e 0 (events_of t.outs)) (sym at) (unheard_outs st t.outs c)))

    then_at : all_after st c0 (events ++ events_of t.outs) ≡ c1
    then_at = all_after_append st events (events_of t.outs) c0 ∙ ap (λ (e : Client). all_after st e (events_of t.outs)) at

    place : (heard : List Event) (n : ℕ) → t.heard ≡ heard → n ≡ (heard_by un heard (carried t s)).silences → IsUnheard st c0 n ((events ++ events_of t.outs) ++ heard)
        → IsUnheard st c0 (after_turn t s).silences (events ++ events_at t)
    place heard n same count silent =
        subst (λ (h : List Event). IsUnheard st c0 (heard_by un h (carried t s)).silences (events ++ (events_of t.outs ++ h))) (sym same)
        (subst (λ (k : ℕ). IsUnheard st c0 k (events ++ (events_of t.outs ++ heard))) count
        (subst (IsUnheard st c0 n) (append_assoc events (events_of t.outs) heard) silent))

    quiet : (b : Bool) → un ≡ b → t.left ≡ [] → t.heard ≡ event.Quiet ∷ [] → IsUnheard st c0 (after_turn t s).silences (events ++ events_at t)
    quiet true waits none same = place (event.Quiet ∷ []) (s.silences + 1) same (sym (ap (λ (b : Bool). if b then s.silences + 1 else 0) waits))
        (silent_more st c0 s.silences 1 (events ++ events_of t.outs) (event.Quiet ∷ []) outs
        (subst (λ (e : Client). AreUnheard st e 1 (event.Quiet ∷ [])) (sym then_at)
        (some_flight c1.view.told.owners t.mid.kept.flights c1.view.flights (d.fits none).flights waits, (0, refl, refl))))
    quiet false waits none same = place (event.Quiet ∷ []) 0 same (sym (ap (λ (b : Bool). if b then s.silences + 1 else 0) waits)) (silent_nothing st c0 ((events ++ events_of t.outs) ++ event.Quiet ∷ []))

    nothing : t.heard ≡ [] → IsUnheard st c0 (after_turn t s).silences (events ++ events_at t)
    nothing same = place [] s.silences same refl (subst (IsUnheard st c0 s.silences) (sym (append-nil (events ++ events_of t.outs))) outs)

    cut : t.heard ≡ event.Cut ∷ [] → IsUnheard st c0 (after_turn t s).silences (events ++ events_at t)
    cut same = place (event.Cut ∷ []) s.silences same refl
        (subst (λ (n : ℕ). IsUnheard st c0 n ((events ++ events_of t.outs) ++ event.Cut ∷ [])) (plus s.silences)
        (silent_more st c0 s.silences 0 (events ++ events_of t.outs) (event.Cut ∷ []) outs refl))

    one : (heard : List Event) → IsOne heard → t.left ≡ [] → t.heard ≡ heard → IsUnheard st c0 (after_turn t s).silences (events ++ events_at t)
    one [] single none same = nothing same
    one (event.Got bytes ∷ []) single none same = place (event.Got bytes ∷ []) 0 same refl (silent_nothing st c0 ((events ++ events_of t.outs) ++ event.Got bytes ∷ []))
    one (event.Quiet ∷ []) single none same = quiet un refl none same
    one (event.Cut ∷ []) single none same = cut same
    one other single none same = absurd single

    by : Hears t → IsUnheard st c0 (after_turn t s).silences (events ++ events_at t)
    by (Silently same) = nothing same
    by (Listened now none on single) = one t.heard single none refl
    by (Lost send same) = cut same

-- the silences that the engine counts are those in which the events of its turns end
pub by_silence : (st : Setting) (turns : List Turn) (s : State) (c c0 : Client) (events : List Event) → all_after st c0 events ≡ c → AreTurns s turns → Holds st s c → IsUnheard st c0 s.silences events
    → IsUnheard st c0 (after_turns turns s).silences (events ++ events_in turns)
by_silence st [] s c c0 events at are holds u = subst (IsUnheard st c0 s.silences) (sym (append-nil events)) u
by_silence st (t ∷ ts) s c c0 events at are holds u =
    let one = turn_goes st s t c are.0 holds in
    subst (IsUnheard st c0 (after_turns ts (after_turn t s)).silences) (append_assoc events (events_at t) (events_in ts))
    (by_silence st ts (after_turn t s) (all_after st c (events_at t)) c0 (events ++ events_at t)
    (all_after_append st events (events_at t) c0 ∙ ap (λ (e : Client). all_after st e (events_at t)) at) are.1 one.holds
    (turn_silent st s t c c0 events at are.0 holds u))
