-- A run that left the share left it clean.
use Rattle.std.proofs.Common.{◌≡◌, ◌∙◌, refl, sym, ap, subst, ℕ, true, false, List, [], ◌++◌, Option, Some, None, Err, inl, inr, ◌⊎◌}
use Rattle.std.proofs.lemmas.Bool.{false≢true}
use Rattle.std.proofs.lemmas.List.{append-nil}
use Rattle.smb_link.specs.Came.{Seen}
use Rattle.smb_link.specs.declared.event.Event.{Event}
use Rattle.fs_plain.specs.World.{share_after}
use Rattle.fs_plain.specs.Divergence.{side_at}
use Rattle.fs_plain.specs.Honest.{start, IsHonest}
use Rattle.fs_plain.specs.PlainSide.{plain_side}
use Rattle.fs_client.specs.View.{Setting, Client}
use Rattle.fs_client.specs.After.{all_after}
use Rattle.fs_core.specs.Kept.{CoreValue}
use Rattle.fs_refine.specs.Ends.{IsLeft}
use Rattle.fs_refine.proofs.Ends.{ends_clean}
use Rattle.fs_ahead.specs.Script.{Coming}
use Rattle.fs_top.specs.declared.run_end.End.{End}
use Rattle.fs_top.specs.declared.run_end.End.TheVariants as end
use Rattle.fs_top.specs.Causing.{CauseOf}
use Rattle.fs_top.specs.Closing.{errno_by}
use Rattle.fs_top.specs.Headline.{run_of, is_left, CleanEnds}
use Rattle.fs_top.specs.Printing.{Held}
use Rattle.fs_top.specs.Run.{joined_client, ClosedSo, closings_of, Unjoined, Turned, RunIs}
use Rattle.fs_top.specs.RunEndings.{status_of, PrintedEnd}
use Rattle.fs_top.specs.Running.{JoinsSo}
use Rattle.fs_top.specs.Turns.{events_in}
use Rattle.fs_top.proofs.Plain.{status_by, last_by, ends_so, IsTold, is_told}

-- no other end has a status of those that leave the share
not_left : (n status : ℕ) → is_left n ≡ false → (status ≡ n) ⊎ ((status ≡ 3) ⊎ (status ≡ 8)) → is_left status ≡ true → ⊥
not_left n status other (inl is) left = false≢true (sym (ap is_left is ∙ other) ∙ left)
not_left n status other (inr (inl is)) left = false≢true (sym (ap is_left is) ∙ left)
not_left n status other (inr (inr is)) left = false≢true (sym (ap is_left is) ∙ left)

-- a run that left the share closes no call, and no call runs
abbrev IsGone : Option ℕ → Client → Type 0
IsGone errno c = (errno ≡ None) × (c.view.items ≡ [])

other_end : (n : ℕ) (why last : End) (errno : Option ℕ) (all closed : List ℕ) (h k : Held) (status : ℕ) → status_of why ≡ n → is_left n ≡ false → ClosedSo errno why last all closed
    → PrintedEnd last h k status → is_left status ≡ true → ⊥
other_end n why last errno all closed h k status is other closes printed left =
    not_left n status other (ends_so n why last h k status is (last_by why last errno all closed closes) printed) left

gone_by : (st : Setting) (patience : ℕ) (c : Client) (events : List Event) (why last : End) (all closed : List ℕ) (h k : Held) (status : ℕ) → CauseOf st patience c events why
    → ClosedSo (errno_by why) why last all closed → PrintedEnd last h k status → is_left status ≡ true → IsGone (errno_by why) (all_after st c events)
gone_by st patience c events end.Done last all closed h k status cause closes printed left = (refl, cause.no_call)
gone_by st patience c events (end.Line n) last all closed h k status cause closes printed left = (refl, cause.no_call)
gone_by st patience c events end.Source last all closed h k status cause closes printed left = (refl, cause.no_call)
gone_by st patience c events end.Memory last all closed h k status cause closes printed left =
    absurd (other_end 3 end.Memory last None all closed h k status refl refl closes printed left)
gone_by st patience c events (end.Mount why) last all closed h k status cause closes printed left =
    absurd (other_end 4 (end.Mount why) last None all closed h k status refl refl closes printed left)
gone_by st patience c events (end.Frame n what) last all closed h k status cause closes printed left =
    absurd (other_end 5 (end.Frame n what) last (Some 71) all closed h k status refl refl closes printed left)
gone_by st patience c events (end.Connects n) last all closed h k status cause closes printed left =
    absurd (other_end 6 (end.Connects n) last None all closed h k status refl refl closes printed left)
gone_by st patience c events end.Cuts last all closed h k status cause closes printed left =
    absurd (other_end 6 end.Cuts last (Some 112) all closed h k status refl refl closes printed left)
gone_by st patience c events end.Sink last all closed h k status cause closes printed left =
    absurd (other_end 8 end.Sink last None all closed h k status refl refl closes printed left)
gone_by st patience c events end.Frames last all closed h k status cause closes printed left =
    absurd (other_end 10 end.Frames last None all closed h k status refl refl closes printed left)

-- a run that made no connection has none of these statuses
never_left : (tries : ℕ) (why last : End) (events : List Event) (h k : Held) (status : ℕ) → JoinsSo tries false (Err why) events → last ≡ why → PrintedEnd last h k status → is_left status ≡ true → ⊥
never_left tries (end.Connects n) last events h k status so is printed left = not_left 6 status refl (status_by last 6 h k status (ap status_of is) printed) left
never_left tries end.Memory last events h k status so is printed left = not_left 3 status refl (status_by last 3 h k status (ap status_of is) printed) left
never_left tries end.Done last events h k status so is printed left = absurd so
never_left tries (end.Line n) last events h k status so is printed left = absurd so
never_left tries (end.Mount what) last events h k status so is printed left = absurd so
never_left tries (end.Frame n what) last events h k status so is printed left = absurd so
never_left tries end.Cuts last events h k status so is printed left = absurd so
never_left tries end.Source last events h k status so is printed left = absurd so
never_left tries end.Sink last events h k status so is printed left = absurd so
never_left tries end.Frames last events h k status so is printed left = absurd so

turned_clean : (core : CoreValue) (tries patience : ℕ) (script : Option Coming) (faults faults' : ℕ) (told told' : Option (List ℕ)) (why last : End) (link link' : Seen) (out between out' : Held) (status : ℕ)
    (t : Turned core tries patience script faults faults' told told' false why last link link' out between) → link.story ≡ Some [] → PrintedEnd last between out' status
    → CleanEnds core.setting status link'.story
turned_clean core tries patience script faults faults' told told' why last link link' out between out' status t none printed left came all made honest =
    subst (λ (story : List Event). IsLeft (share_after (start made.room made.fold story) story) (side_at (run_of core.setting status) (start made.room made.fold story) (plain_side made story) story))
    (sym story_is)
    (ends_clean (run_of core.setting status) core.setting made x.is.story (record { options = refl; seed = refl }) (subst (IsHonest made.room made.fold) story_is honest) x.allowed
    (ap (λ (c : Client). c.view.items) x.client ∙ gone.1))
  where
    x : IsTold core tries patience script faults faults' told told' why last link link' out between t came
    x = is_told core tries patience script faults faults' told told' why last link link' out between t came none all

    gone : IsGone (errno_by why) (all_after core.setting (joined_client core.setting) (events_in t.turns))
    gone = gone_by core.setting patience (joined_client core.setting) (events_in t.turns) why last _ t.closed between out' status t.cause t.closes printed left

    story_is : came ≡ x.is.story
    story_is = x.is.are ∙ ap (λ (e : Option ℕ). x.is.story ++ closings_of e t.closed) gone.0 ∙ append-nil x.is.story

pub run_clean : (core : CoreValue) (tries patience : ℕ) (script : Option Coming) (faults faults' : ℕ) (told told' : Option (List ℕ)) (link link' : Seen) (out out' : Held) (status : ℕ)
    → RunIs core tries patience script faults faults' told told' false link link' out out' status → link.story ≡ Some [] → CleanEnds core.setting status link'.story
run_clean core tries patience script faults faults' told told' link link' out out' status r none = by r.went
  where
    by : Unjoined tries false faults faults' told told' r.why r.last link link' out r.between
        ⊎ Turned core tries patience script faults faults' told told' false r.why r.last link link' out r.between → CleanEnds core.setting status link'.story
    by (inl u) left came all made honest = absurd (never_left tries r.why r.last u.joins.events r.between out' status u.joins.so u.ends r.printed left)
    by (inr t) left came all made honest =
        turned_clean core tries patience script faults faults' told told' r.why r.last link link' out r.between out' status t none r.printed left came all made honest
