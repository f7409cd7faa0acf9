-- The answers of a run are the plain client's.
use Rattle.std.proofs.Common.{◌≡◌, ◌∙◌, refl, sym, ap, subst, ℕ, true, false, List, [], ◌++◌, Option, Some, None, Err, inl, inr, ◌⊎◌}
use Rattle.std.specs.Prelude.{map}
use Rattle.std.proofs.lemmas.List.{append-nil}
use Rattle.smb_link.specs.Came.{Seen, own}
use Rattle.smb_link.specs.declared.event.Event.{Event}
use Rattle.smb_link.specs.Program.{of_errno}
use Rattle.fs_plain.specs.Run.{ended_by}
use Rattle.fs_plain.specs.Honest.{IsHonest}
use Rattle.fs_plain.specs.Divergence.{divergence}
use Rattle.fs_client.specs.Item.{Item}
use Rattle.fs_client.specs.Sane.{AreApart}
use Rattle.fs_client.specs.View.{Setting, Client, no_client}
use Rattle.fs_client.specs.After.{all_after}
use Rattle.fs_client.specs.May.{Allowed}
use Rattle.fs_client.proofs.Stays.{sane_at_first, stays_along}
use Rattle.fs_core.specs.Kept.{CoreValue}
use Rattle.fs_core.specs.Event.{events_of}
use Rattle.fs_refine.specs.Ends.{BreaksOff, AreClosings}
use Rattle.fs_refine.proofs.Kept.{no_divergence}
use Rattle.fs_refine.proofs.Whole.{closings_close, closings_front, broken_whole}
use Rattle.fs_ahead.specs.Script.{Coming}
use Rattle.fs_top.specs.declared.run_end.End.{End}
use Rattle.fs_top.specs.declared.run_end.End.TheVariants as end
use Rattle.fs_top.specs.Closing.{errno_by, answers_of}
use Rattle.fs_top.specs.Headline.{run_of, PlainAnswers}
use Rattle.fs_top.specs.Printing.{Held}
use Rattle.fs_top.specs.Run.{joined_client, unanswered, ClosedSo, closings_of, Unjoined, Turned, RunIs}
use Rattle.fs_top.specs.RunEndings.{status_of, PrintedLine, PrintedEnd}
use Rattle.fs_top.specs.Running.{JoinsSo}
use Rattle.fs_top.specs.Turns.{events_in}
use Rattle.fs_top.proofs.Stories.{IsStory, begun_story, whole_story, joined_allowed, joined_after, unjoined_allowed, memory_allowed, closings_are, answers_append}

-- the status of a run by how it ended: the end's own, or that of want of memory or of a full output
pub status_by : (e : End) (n : ℕ) (h k : Held) (status : ℕ) → status_of e ≡ n → PrintedEnd e h k status → (status ≡ n) ⊎ ((status ≡ 3) ⊎ (status ≡ 8))
status_by e n h k status is printed = by e is printed
  where
    line : (e : End) → status_of e ≡ n → PrintedLine e h k status ⊎ PrintedLine end.Memory h k status → (status ≡ n) ⊎ ((status ≡ 3) ⊎ (status ≡ 8))
    line e is (inl (inl own)) = inl (own.0 ∙ is)
    line e is (inl (inr full)) = inr (inr full.0)
    line e is (inr (inl memory)) = inr (inl memory.0)
    line e is (inr (inr full)) = inr (inr full.0)

    by : (e : End) → status_of e ≡ n → PrintedEnd e h k status → (status ≡ n) ⊎ ((status ≡ 3) ⊎ (status ≡ 8))
    by end.Sink is printed = inr (inr printed.0)
    by end.Done is printed = line end.Done is printed
    by (end.Line number) is printed = line (end.Line number) is printed
    by end.Memory is printed = line end.Memory is printed
    by (end.Mount why) is printed = line (end.Mount why) is printed
    by (end.Frame number what) is printed = line (end.Frame number what) is printed
    by (end.Connects number) is printed = line (end.Connects number) is printed
    by end.Cuts is printed = line end.Cuts is printed
    by end.Source is printed = line end.Source is printed
    by end.Frames is printed = line end.Frames is printed

-- a run that ended by a cause ended so in the end too, or by want of memory or a full output
pub last_by : (why last : End) (errno : Option ℕ) (all closed : List ℕ) → ClosedSo errno why last all closed → (last ≡ why) ⊎ ((last ≡ end.Memory) ⊎ (last ≡ end.Sink))
last_by why last errno all closed (inl same) = inl same.0
last_by why last errno all closed (inr other) = inr other.0

pub ends_so : (n : ℕ) (why last : End) (h k : Held) (status : ℕ) → status_of why ≡ n → (last ≡ why) ⊎ ((last ≡ end.Memory) ⊎ (last ≡ end.Sink)) → PrintedEnd last h k status
    → (status ≡ n) ⊎ ((status ≡ 3) ⊎ (status ≡ 8))
ends_so n why last h k status is (inl same) printed = status_by last n h k status (ap status_of same ∙ is) printed
ends_so n why last h k status is (inr (inl memory)) printed = by (status_by last 3 h k status (ap status_of memory) printed)
  where
    by : (status ≡ 3) ⊎ ((status ≡ 3) ⊎ (status ≡ 8)) → (status ≡ n) ⊎ ((status ≡ 3) ⊎ (status ≡ 8))
    by (inl three) = inr (inl three)
    by (inr other) = inr other
ends_so n why last h k status is (inr (inr sink)) printed = by (status_by last 8 h k status (ap status_of sink) printed)
  where
    by : (status ≡ 8) ⊎ ((status ≡ 3) ⊎ (status ≡ 8)) → (status ≡ n) ⊎ ((status ≡ 3) ⊎ (status ≡ 8))
    by (inl eight) = inr (inr eight)
    by (inr other) = inr other

broken_by : (n status : ℕ) → ended_by n n ≡ true → (status ≡ n) ⊎ ((status ≡ 3) ⊎ (status ≡ 8)) → ended_by n 3 ≡ true → ended_by n 8 ≡ true → ended_by n status ≡ true
broken_by n status own (inl is) three eight = ap (ended_by n) is ∙ own
broken_by n status own (inr (inl is)) three eight = ap (ended_by n) is ∙ three
broken_by n status own (inr (inr is)) three eight = ap (ended_by n) is ∙ eight

-- the answers that close a run are closings of the calls that run
closed_front : (st : Setting) (status errno : ℕ) (items : List Item) (closed later : List ℕ) → AreApart items → BreaksOff (run_of st status) (of_errno errno)
    → map (λ (i : Item). i.number) items ≡ closed ++ later → AreClosings (run_of st status) items (events_of (answers_of errno closed))
closed_front st status errno items closed later apart breaks are =
    closings_front (run_of st status) (events_of (answers_of errno closed)) (events_of (answers_of errno later)) items
    (subst (AreClosings (run_of st status) items)
    (sym (closings_are errno items) ∙ ap (λ (l : List ℕ). events_of (answers_of errno l)) are ∙ answers_append errno closed later)
    (closings_close (run_of st status) errno items apart breaks))

closed_whole : (st : Setting) (status errno : ℕ) (items : List Item) (why last : End) (closed : List ℕ) → AreApart items → BreaksOff (run_of st status) (of_errno errno)
    → ClosedSo (Some errno) why last (map (λ (i : Item). i.number) items) closed → AreClosings (run_of st status) items (events_of (answers_of errno closed))
closed_whole st status errno items why last closed apart breaks (inl all) = closed_front st status errno items closed [] apart breaks (sym all.1 ∙ sym (append-nil closed))
closed_whole st status errno items why last closed apart breaks (inr some) = closed_front st status errno items closed some.1.0 apart breaks some.1.1

closes_right : (st : Setting) (status : ℕ) (items : List Item) (why last : End) (closed : List ℕ) (h k : Held) → AreApart items
    → ClosedSo (errno_by why) why last (map (λ (i : Item). i.number) items) closed → PrintedEnd last h k status → AreClosings (run_of st status) items (closings_of (errno_by why) closed)
closes_right st status items (end.Frame n what) last closed h k apart closes printed =
    closed_whole st status 71 items (end.Frame n what) last closed apart
    (inl (broken_by 5 status refl (ends_so 5 (end.Frame n what) last h k status refl (last_by (end.Frame n what) last (Some 71) (map (λ (i : Item). i.number) items) closed closes) printed) refl refl, refl)) closes
closes_right st status items end.Cuts last closed h k apart closes printed =
    closed_whole st status 112 items end.Cuts last closed apart
    (inr (broken_by 6 status refl (ends_so 6 end.Cuts last h k status refl (last_by end.Cuts last (Some 112) (map (λ (i : Item). i.number) items) closed closes) printed) refl refl, refl)) closes
closes_right st status items end.Done last closed h k apart closes printed = record {}
closes_right st status items (end.Line n) last closed h k apart closes printed = record {}
closes_right st status items end.Memory last closed h k apart closes printed = record {}
closes_right st status items (end.Mount what) last closed h k apart closes printed = record {}
closes_right st status items (end.Connects n) last closed h k apart closes printed = record {}
closes_right st status items end.Source last closed h k apart closes printed = record {}
closes_right st status items end.Sink last closed h k apart closes printed = record {}
closes_right st status items end.Frames last closed h k apart closes printed = record {}

-- the story of a run that took turns
pub record IsTold (core : CoreValue) (tries patience : ℕ) (script : Option Coming) (faults faults' : ℕ) (told told' : Option (List ℕ)) (why last : End) (link link' : Seen) (out out' : Held)
    (t : Turned core tries patience script faults faults' told told' false why last link link' out out') (came : List Event) : Type 0 where
  pub is : IsStory (t.joining ++ events_in t.turns) (closings_of (errno_by why) t.closed) came
  pub allowed : Allowed core.setting no_client (own is.story)
  pub client : all_after core.setting no_client (own is.story) ≡ all_after core.setting (joined_client core.setting) (events_in t.turns)

pub is_told : (core : CoreValue) (tries patience : ℕ) (script : Option Coming) (faults faults' : ℕ) (told told' : Option (List ℕ)) (why last : End) (link link' : Seen) (out out' : Held)
    (t : Turned core tries patience script faults faults' told told' false why last link link' out out') (came : List Event) → link.story ≡ Some [] → link'.story ≡ Some came
    → IsTold core tries patience script faults faults' told told' why last link link' out out' t came
is_told core tries patience script faults faults' told told' why last link link' out out' t came none all =
    let is = whole_story (t.joining ++ events_in t.turns) (closings_of (errno_by why) t.closed) came link t.middle link' none t.came t.came_last all in
    record {
      is = is;
      allowed = subst (Allowed core.setting no_client) (sym is.own) (joined_allowed core.setting tries t.joining (events_in t.turns) t.joined t.allowed);
      client = ap (all_after core.setting no_client) is.own ∙ joined_after core.setting tries t.joining (events_in t.turns) t.joined;
    }

turned_plain : (core : CoreValue) (tries patience : ℕ) (script : Option Coming) (faults faults' : ℕ) (told told' : Option (List ℕ)) (why last : End) (link link' : Seen) (out between out' : Held) (status : ℕ)
    (t : Turned core tries patience script faults faults' told told' false why last link link' out between) → link.story ≡ Some [] → PrintedEnd last between out' status
    → PlainAnswers core.setting status link'.story
turned_plain core tries patience script faults faults' told told' why last link link' out between out' status t none printed came all made honest =
    subst (λ (story : List Event). divergence (run_of core.setting status) made story ≡ None) (sym x.is.are)
    (broken_whole (run_of core.setting status) core.setting made x.is.story (closings_of (errno_by why) t.closed) (record { options = refl; seed = refl }) x.allowed closes
    (subst (IsHonest made.room made.fold) x.is.are honest))
  where
    x : IsTold core tries patience script faults faults' told told' why last link link' out between t came
    x = is_told core tries patience script faults faults' told told' why last link link' out between t came none all

    c : Client
    c = all_after core.setting no_client (own x.is.story)

    closes : AreClosings (run_of core.setting status) c.view.items (closings_of (errno_by why) t.closed)
    closes = closes_right core.setting status c.view.items why last t.closed between out' (stays_along core.setting (own x.is.story) no_client sane_at_first x.allowed).apart
        (subst (λ (d : Client). ClosedSo (errno_by why) why last (unanswered d) t.closed) (sym x.client) t.closes) printed

-- connects that came to nothing are what a client may do
never_allowed : (st : Setting) (tries : ℕ) (why : End) (events : List Event) → JoinsSo tries false (Err why) events → Allowed st no_client events
never_allowed st tries (end.Connects n) events so = unjoined_allowed st tries n events so
never_allowed st tries end.Memory events so = memory_allowed st tries events so
never_allowed st tries end.Done events so = absurd so
never_allowed st tries (end.Line n) events so = absurd so
never_allowed st tries (end.Mount what) events so = absurd so
never_allowed st tries (end.Frame n what) events so = absurd so
never_allowed st tries end.Cuts events so = absurd so
never_allowed st tries end.Source events so = absurd so
never_allowed st tries end.Sink events so = absurd so
never_allowed st tries end.Frames events so = absurd so

pub never_told : (st : Setting) (tries faults faults' : ℕ) (told told' : Option (List ℕ)) (why last : End) (link link' : Seen) (out out' : Held) (came : List Event)
    → Unjoined tries false faults faults' told told' why last link link' out out' → link.story ≡ Some [] → link'.story ≡ Some came → Allowed st no_client (own came)
never_told st tries faults faults' told told' why last link link' out out' came u none all =
    subst (Allowed st no_client) (sym (begun_story u.joins.events came link link' none u.joins.came all)) (never_allowed st tries why u.joins.events u.joins.so)

pub run_plain : (core : CoreValue) (tries patience : ℕ) (script : Option Coming) (faults faults' : ℕ) (told told' : Option (List ℕ)) (link link' : Seen) (out out' : Held) (status : ℕ)
    → RunIs core tries patience script faults faults' told told' false link link' out out' status → link.story ≡ Some [] → PlainAnswers core.setting status link'.story
run_plain core tries patience script faults faults' told told' link link' out out' status r none = by r.went
  where
    by : Unjoined tries false faults faults' told told' r.why r.last link link' out r.between
        ⊎ Turned core tries patience script faults faults' told told' false r.why r.last link link' out r.between → PlainAnswers core.setting status link'.story
    by (inl u) came all made honest =
        no_divergence (run_of core.setting status) core.setting made came (record { options = refl; seed = refl }) honest
        (never_told core.setting tries faults faults' told told' r.why r.last link link' out r.between came u none all)
    by (inr t) came all made honest =
        turned_plain core tries patience script faults faults' told told' r.why r.last link link' out r.between out' status t none r.printed came all made honest
