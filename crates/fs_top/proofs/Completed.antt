-- A valid script is carried out on a connection that favours its run, with a sink and a source that do not fail.
use Rattle.std.proofs.Common.{rules, arith, ◌≡◌, ◌∙◌, ◌⊎◌, inl, inr, refl, sym, ap, subst, ℕ, ◌-◌, ◌^◌, ◌<◌, ◌≤◌, Bool, true, false, ◌||◌, List, [], ◌∷◌, ◌++◌, Option, Some, None, Err}
use Rattle.std.specs.List.{AllByRecursion, list_all}
use Rattle.std.proofs.lemmas.Bool.{false≢true}
use Rattle.std.proofs.lemmas.List.{append-nil}
use Rattle.smb_link.specs.Came.{Seen, Came, own}
use Rattle.smb_link.specs.Count.{counted}
use Rattle.smb_link.specs.Story.{story_with}
use Rattle.smb_link.specs.declared.event.Event.{Event}
use Rattle.smb_link.specs.declared.event.Event.TheVariants as event
use Rattle.smb_link.specs.declared.mark.Mark.TheVariants as mark
use Rattle.smb_link.proofs.CameLaws.{came_then}
use Rattle.fs_types.specs.declared.answer.Answer.TheVariants as answer
use Rattle.fs_ahead.specs.declared.asked.ScriptCall.{ScriptCall}
use Rattle.fs_ahead.specs.declared.asked.Over.{Over}
use Rattle.fs_ahead.specs.declared.asked.Over.TheVariants as over
use Rattle.fs_ahead.specs.Script.{Coming}
use Rattle.fs_ahead.specs.Progress.{ReadTo, calls_of}
use Rattle.fs_client.specs.View.{Setting, Client, no_client}
use Rattle.fs_client.specs.After.{after, all_after}
use Rattle.fs_client.specs.Sane.{Sane}
use Rattle.fs_client.proofs.Stays.{sane_at_first, stays}
use Rattle.fs_core.specs.Kept.{CoreValue}
use Rattle.fs_core.proofs.Putting.{all_after_append}
use Rattle.fs_top.specs.declared.hear.TheConstants.{MAX_FRAMES}
use Rattle.fs_top.specs.declared.run_end.End.{End}
use Rattle.fs_top.specs.declared.run_end.End.TheVariants as end
use Rattle.fs_top.specs.Causes.{end_by}
use Rattle.fs_top.specs.Causing.{CauseOf}
use Rattle.fs_top.specs.Clients.{IsLeft}
use Rattle.fs_top.specs.Closing.{errno_by}
use Rattle.fs_top.specs.Ends.{PrintedSo}
use Rattle.fs_top.specs.Given.{has_ended, is_through}
use Rattle.fs_top.specs.Printing.{Held, TookAll, Refused}
use Rattle.fs_top.specs.RunEndings.{PrintedEnd, PrintedLine, status_of, text_of}
use Rattle.fs_top.specs.Turns.{events_in, lines_at}
use Rattle.fs_top.specs.Run.{joined_client, begun_in, IsRead, is_foul, ClosedSo, closings_of, closing_lines, Unjoined, Turned, RunIs, PrintedClosing}
use Rattle.fs_top.specs.Completeness.{Favours, IsValid, IsSame, AreSound, IsCarriedOut, Completes, times_answered, is_steady}
use Rattle.fs_top.proofs.Answered.{answered_once}
use Rattle.fs_top.proofs.Printing.{took_nothing}
use Rattle.fs_top.proofs.Favoured.{IsFavoured, favoured_ends, steady_first, steady_last, joined_first, unjoined, silent_all, not_more}

-- a count that rose, and is none too great
record Rises (a b : ℕ) : Type 0 where
  more : a < b
  small : b ≤ 2 ^ 64 - 1

rises_once : (a b c : ℕ) → a < 2 ^ 64 - 1 → b ≡ a → c ≡ counted b true → Rises a c
rises_once a b c room same one = record { more = up a b c room same one; small = under a b c one }
  where
    up : (a b c : ℕ) → a < 2 ^ 64 - 1 → b ≡ a → c ≡ counted b true → a < c
    up a b c room same one = grind arith

    under : (a b c : ℕ) → c ≡ counted b true → c ≤ 2 ^ 64 - 1
    under a b c one = grind arith

rises_more : (a b c : ℕ) → Rises a b → c ≡ counted b true → Rises a c
rises_more a b c rises one = record { more = up a b c rises.more rises.small one; small = under b c one }
  where
    up : (a b c : ℕ) → a < b → b ≤ 2 ^ 64 - 1 → c ≡ counted b true → a < c
    up a b c more small one = grind arith

    under : (b c : ℕ) → c ≡ counted b true → c ≤ 2 ^ 64 - 1
    under b c one = grind arith

rises_on : (a b c : ℕ) → Rises a b → c ≡ b → Rises a c
rises_on a b c rises same = subst (Rises a) (sym same) rises

-- a sink with the same counts, one that refused since, and what a write leaves
abbrev Same : Held → Held → Type 0
Same old new = (new.faults ≡ old.faults) × (new.stalls ≡ old.stalls)

abbrev Sank : Held → Held → Type 0
Sank old new = Rises old.faults new.faults ⊎ Rises old.stalls new.stalls

abbrev Wrote : Held → Held → Type 0
Wrote old new = Same old new ⊎ Refused old new

record HasRoom (out : Held) : Type 0 where
  faults : out.faults < 2 ^ 64 - 1
  stalls : out.stalls < 2 ^ 64 - 1

-- where it refused once, it is seen in the counts ever after
sank_now : (out x y : Held) → HasRoom out → Same out x → Refused x y → Sank out y
sank_now out x y room same (inl writes) = inl (rises_once out.faults x.faults y.faults room.faults same.0 writes.0)
sank_now out x y room same (inr stopped) = inr (rises_once out.stalls x.stalls y.stalls room.stalls same.1 stopped.1)

sank_on : (out x y : Held) → Sank out x → Wrote x y → Sank out y
sank_on out x y (inl rises) (inl same) = inl (rises_on out.faults x.faults y.faults rises same.0)
sank_on out x y (inr rises) (inl same) = inr (rises_on out.stalls x.stalls y.stalls rises same.1)
sank_on out x y (inl rises) (inr (inl writes)) = inl (rises_more out.faults x.faults y.faults rises writes.0)
sank_on out x y (inl rises) (inr (inr stopped)) = inl (rises_on out.faults x.faults y.faults rises stopped.0)
sank_on out x y (inr rises) (inr (inl writes)) = inr (rises_on out.stalls x.stalls y.stalls rises writes.1)
sank_on out x y (inr rises) (inr (inr stopped)) = inr (rises_more out.stalls x.stalls y.stalls rises stopped.1)

abbrev Stood : Held → Held → Type 0
Stood out x = Same out x ⊎ Sank out x

stood_on : (out x y : Held) → HasRoom out → Stood out x → Wrote x y → Stood out y
stood_on out x y room (inl same) (inl more) = inl (more.0 ∙ same.0, more.1 ∙ same.1)
stood_on out x y room (inl same) (inr refused) = inr (sank_now out x y room same refused)
stood_on out x y room (inr sank) wrote = inr (sank_on out x y sank wrote)

refused_then : (out x y : Held) → HasRoom out → Stood out x → Refused x y → Sank out y
refused_then out x y room (inl same) refused = sank_now out x y room same refused
refused_then out x y room (inr sank) refused = sank_on out x y sank (inr refused)

never_sank : (out out' : Held) → IsSame out.faults out'.faults → IsSame out.stalls out'.stalls → Sank out out' → ⊥
never_sank out out' faults stalls (inl rises) = less out.faults out'.faults rises.more faults.same
  where
    less : (a b : ℕ) → a < b → b ≡ a → ⊥
    less a b more same = omega (arith, more, same)
never_sank out out' faults stalls (inr rises) = less out.stalls out'.stalls rises.more stalls.same
  where
    less : (a b : ℕ) → a < b → b ≡ a → ⊥
    less a b more same = omega (arith, more, same)

-- what is printed of answers, and the last line
took_all : (text : List ℕ) (x y : Held) → TookAll text x y → Wrote x y
took_all text x y took = inl (took.same_faults, took.same_stalls)

printed_wrote : (e : End) (text : List ℕ) (x y : Held) → PrintedSo (Err e) text x y → Wrote x y
printed_wrote end.Sink text x y printed = inr printed.refused
printed_wrote end.Done text x y printed = took_all text x y printed
printed_wrote (end.Line number) text x y printed = took_all text x y printed
printed_wrote end.Memory text x y printed = took_all text x y printed
printed_wrote (end.Mount why) text x y printed = took_all text x y printed
printed_wrote (end.Frame number what) text x y printed = took_all text x y printed
printed_wrote (end.Connects number) text x y printed = took_all text x y printed
printed_wrote end.Cuts text x y printed = took_all text x y printed
printed_wrote end.Source text x y printed = took_all text x y printed
printed_wrote end.Frames text x y printed = took_all text x y printed

sink_refused : (e : End) (text : List ℕ) (x y : Held) → e ≡ end.Sink → PrintedSo (Err e) text x y → Refused x y
sink_refused e text x y is printed = (subst (λ (why : End). PrintedSo (Err why) text x y) is printed).refused

-- the last line is taken whole: the status is its end's
line_wrote : (e : End) (x y : Held) (status : ℕ) → PrintedLine e x y status → Wrote x y
line_wrote e x y status (inl took) = took_all (text_of e) x y took.1
line_wrote e x y status (inr front) = inr front.1.refused

line_status : (e : End) (x y : Held) (status : ℕ) → (Refused x y → ⊥) → PrintedLine e x y status → status ≡ status_of e
line_status e x y status sound (inl took) = took.0
line_status e x y status sound (inr front) = absurd (sound front.1.refused)

abbrev Lines : End → Held → Held → ℕ → Type 0
Lines e x y status = PrintedLine e x y status ⊎ PrintedLine end.Memory x y status

lines_wrote : (e : End) (x y : Held) (status : ℕ) → Lines e x y status → Wrote x y
lines_wrote e x y status (inl line) = line_wrote e x y status line
lines_wrote e x y status (inr line) = line_wrote end.Memory x y status line

lines_status : (e : End) (x y : Held) (status : ℕ) → (Refused x y → ⊥) → Lines e x y status → (status ≡ status_of e) ⊎ (status ≡ 3)
lines_status e x y status sound (inl line) = inl (line_status e x y status sound line)
lines_status e x y status sound (inr line) = inr (line_status end.Memory x y status sound line)

end_wrote : (e : End) (x y : Held) (status : ℕ) → PrintedEnd e x y status → Wrote x y
end_wrote end.Sink x y status printed = took_all [] x y printed.1
end_wrote end.Done x y status printed = lines_wrote end.Done x y status printed
end_wrote (end.Line number) x y status printed = lines_wrote (end.Line number) x y status printed
end_wrote end.Memory x y status printed = lines_wrote end.Memory x y status printed
end_wrote (end.Mount why) x y status printed = lines_wrote (end.Mount why) x y status printed
end_wrote (end.Frame number what) x y status printed = lines_wrote (end.Frame number what) x y status printed
end_wrote (end.Connects number) x y status printed = lines_wrote (end.Connects number) x y status printed
end_wrote end.Cuts x y status printed = lines_wrote end.Cuts x y status printed
end_wrote end.Source x y status printed = lines_wrote end.Source x y status printed
end_wrote end.Frames x y status printed = lines_wrote end.Frames x y status printed

closing_wrote : (why last : End) (text : List ℕ) (x y : Held) → PrintedClosing why last text x y → Wrote x y
closing_wrote why last text x y (inl all) = took_all text x y all.1
closing_wrote why last text x y (inr (inl memory)) = took_all text x y memory.1
closing_wrote why last text x y (inr (inr sink)) = inr sink.1.refused

-- a run that printed all that it had to, and a sink that has the same counts in the end
record IsPrinted (why last : End) (out out' : Held) (status : ℕ) : Type 0 where
  room : HasRoom out
  faults : IsSame out.faults out'.faults
  stalls : IsSame out.stalls out'.stalls
  between : Held
  closed : Held
  text : List ℕ
  closing : List ℕ
  first : PrintedSo (Err why) text out between
  second : PrintedClosing why last closing between closed
  third : PrintedEnd last closed out' status

-- the sink refused nothing
why_sound : (why last : End) (out out' : Held) (status : ℕ) → IsPrinted why last out out' status → why ≡ end.Sink → ⊥
why_sound why last out out' status p is =
    never_sank out out' p.faults p.stalls
    (sank_on out p.closed out' (sank_on out p.between p.closed
    (sank_now out out p.between p.room (refl, refl) (sink_refused why p.text out p.between is p.first))
    (closing_wrote why last p.closing p.between p.closed p.second))
    (end_wrote last p.closed out' status p.third))

last_sound : (why last : End) (out out' : Held) (status : ℕ) → IsPrinted why last out out' status → last ≡ end.Sink → ⊥
last_sound why last out out' status p is = by p.second
  where
    by : PrintedClosing why last p.closing p.between p.closed → ⊥
    by (inl all) = why_sound why last out out' status p (sym all.0 ∙ is)
    by (inr (inl memory)) = apart (sym memory.0 ∙ is)
      where
        apart : end.Memory ≡ end.Sink → ⊥
        apart same = cc
    by (inr (inr sink)) =
        never_sank out out' p.faults p.stalls
        (sank_on out p.closed out'
        (refused_then out p.between p.closed p.room (stood_on out out p.between p.room (inl (refl, refl)) (printed_wrote why p.text out p.between p.first)) sink.1.refused)
        (end_wrote last p.closed out' status p.third))

line_sound : (why last : End) (out out' : Held) (status : ℕ) → (p : IsPrinted why last out out' status) → Refused p.closed out' → ⊥
line_sound why last out out' status p refused =
    never_sank out out' p.faults p.stalls
    (refused_then out p.closed out' p.room
    (stood_on out p.between p.closed p.room (stood_on out out p.between p.room (inl (refl, refl)) (printed_wrote why p.text out p.between p.first))
    (closing_wrote why last p.closing p.between p.closed p.second))
    refused)

memory_status : (why : End) (out out' : Held) (status : ℕ) → IsPrinted why end.Memory out out' status → status ≡ 3
memory_status why out out' status p = three (lines_status end.Memory p.closed out' status (line_sound why end.Memory out out' status p) p.third)
  where
    three : (status ≡ 3) ⊎ (status ≡ 3) → status ≡ 3
    three (inl is) = is
    three (inr is) = is

done_status : (why : End) (out out' : Held) (status : ℕ) → IsPrinted why end.Done out out' status → (status ≡ 0) ⊎ (status ≡ 3)
done_status why out out' status p = lines_status end.Done p.closed out' status (line_sound why end.Done out out' status p) p.third

-- a run that ended with its script, or for want of memory, ends so too once its calls are closed
last_ends : (errno : Option ℕ) (why last : End) (all closed : List ℕ) → (last ≡ end.Sink → ⊥) → ClosedSo errno why last all closed → (last ≡ why) ⊎ (last ≡ end.Memory)
last_ends errno why last all closed sound (inl same) = inl same.0
last_ends errno why last all closed sound (inr some) = by some.0
  where
    by : (last ≡ end.Memory) ⊎ (last ≡ end.Sink) → (last ≡ why) ⊎ (last ≡ end.Memory)
    by (inl memory) = inr memory
    by (inr sink) = absurd (sound sink)

-- the closing answers bring no frame
same_frames : (st : Setting) (errno : Option ℕ) (closed : List ℕ) (c : Client) → (all_after st c (closings_of errno closed)).tally.frames ≡ c.tally.frames
same_frames st None closed c = refl
same_frames st (Some errno) [] c = refl
same_frames st (Some errno) (n ∷ closed) c =
    same_frames st (Some errno) closed (after st c (event.Marked (mark.Answer n (answer.Err (record { 0 = errno }) None))))

some_is : {X : Type 0} (x y : X) → Some x ≡ Some y → x ≡ y
some_is x y is = search rules

-- the whole story is told: its own events are these
told_own : (events : List Event) (a b : Seen) (came : List Event) → a.story ≡ Some [] → b.story ≡ Some came → Came events a b → own came ≡ events
told_own events a b came begins told c =
    ap own (some_is came c.gained (sym told ∙ c.story ∙ ap (λ (s : Option (List Event)). story_with s c.gained) begins)) ∙ c.clients

joined_sane : (st : Setting) → Sane (joined_client st).view
joined_sane st = stays st no_client event.Joined sane_at_first refl

-- what holds where a run took turns on a connection that favours it
record IsTold (st : Setting) (patience : ℕ) (room : ℕ) (fold : Bool) (came events closings : List Event) : Type 0 where
  favours : Favours st patience room fold came
  own_is : own came ≡ event.Joined ∷ (events ++ closings)

-- a run that ended with its script did not end for want of memory
no_memory : (why : End) → is_through why ≡ true → why ≡ end.Memory → ⊥
no_memory why through is = false≢true (sym (ap is_through is) ∙ through)

favoured_by : (core : CoreValue) (tries patience : ℕ) (coming : Coming) (faults faults' : ℕ) (told told' : Option (List ℕ)) (why last : End) (link link' : Seen) (out out' : Held)
    → (room : ℕ) (fold : Bool) (came : List Event)
    → (t : Turned core tries patience (Some coming) faults faults' told told' false why last link link' out out')
    → IsTold core.setting patience room fold came (events_in t.turns) (closings_of (errno_by why) t.closed)
    → is_foul why ≡ false → (why ≡ end.Sink → ⊥) → coming.over ≡ over.End → IsSame faults faults'
    → IsFavoured core.setting patience (events_in t.turns) why coming faults faults' t.taken
favoured_by core tries patience coming faults faults' told told' why last link link' out out' room fold came t i fair sinks whole source = record {
  cause = t.cause;
  steady = steady_first events closings (steady_last (event.Joined ∷ []) (events ++ closings) (ap (list_all is_steady) (sym i.own_is) ∙ i.favours.steady));
  accepted = i.favours.accepted (event.Joined ∷ events) closings i.own_is;
  credit = i.favours.granted (event.Joined ∷ events) closings i.own_is;
  lively = λ unheard. i.favours.lively (event.Joined ∷ events) closings i.own_is (silent_all st patience events unheard);
  few = subst (λ (n : ℕ). n < MAX_FRAMES) frames i.favours.few;
  fair = fair;
  sinks = sinks;
  whole = whole;
  source = source;
  read = λ through. (t.read (no_memory why through) (ap (λ (b : Bool). b || has_ended t.turns) through)).1;
}
  where
    st : Setting
    st = core.setting

    events : List Event
    events = events_in t.turns

    closings : List Event
    closings = closings_of (errno_by why) t.closed

    frames : (all_after st no_client (own came)).tally.frames ≡ (all_after st (joined_client st) events).tally.frames
    frames =
        ap (λ (l : List Event). (all_after st no_client l).tally.frames) i.own_is
        ∙ ap (λ (c : Client). c.tally.frames) (all_after_append st events closings (joined_client st))
        ∙ same_frames st (errno_by why) t.closed (all_after st (joined_client st) events)

-- the calls of a script that was read to its end were begun, and each was answered once
carried_out : (core : CoreValue) (tries patience : ℕ) (coming : Coming) (faults faults' : ℕ) (told told' : Option (List ℕ)) (why last : End) (link link' : Seen) (out out' : Held) (came : List Event)
    → (t : Turned core tries patience (Some coming) faults faults' told told' false why last link link' out out')
    → own came ≡ event.Joined ∷ (events_in t.turns ++ closings_of (errno_by why) t.closed) → why ≡ end.Done → IsSame faults faults' → IsCarriedOut coming (own came)
carried_out core tries patience coming faults faults' told told' why last link link' out out' came t own_is is source = record {
  begun = ap begun_in alone ∙ all;
  answered = subst (λ (l : List Event). AllByRecursion (λ (x : ScriptCall). times_answered x.number l ≡ 1) (calls_of coming.asked)) (sym alone)
      (subst (AllByRecursion (λ (x : ScriptCall). times_answered x.number events ≡ 1)) all
      (answered_once core.setting events (joined_client core.setting) (joined_sane core.setting) t.allowed refl refl left.no_call));
}
  where
    events : List Event
    events = events_in t.turns

    alone : own came ≡ event.Joined ∷ events
    alone =
        own_is ∙ ap (λ (e : End). event.Joined ∷ (events ++ closings_of (errno_by e) t.closed)) is
        ∙ ap (λ (l : List Event). event.Joined ∷ l) (append-nil events)

    left : IsLeft (all_after core.setting (joined_client core.setting) events)
    left = subst (CauseOf core.setting patience (joined_client core.setting) events) is t.cause

    through : is_through why ≡ true
    through = ap is_through is

    read : IsRead why (Some coming) faults faults' t.taken
    read = (t.read (no_memory why through) (ap (λ (b : Bool). b || has_ended t.turns) through)).1

    to_end : (o : Over) → end.Done ≡ end_by (Some o) → ReadTo o (Some coming) faults faults' t.taken → coming.asked ≡ t.taken
    to_end over.End ends read = read.0.0
    to_end (over.Line number) ends read = read.0.0
    to_end over.Source ends read = absurd (not_more faults faults' source read.1)

    all : begun_in events ≡ calls_of coming.asked
    all = t.calls.1 through ∙ ap calls_of (sym (to_end read.over (sym is ∙ read.ends through) read.to))

-- a run of a connection that favours it does all that its script asks for, or memory ran out
turned_completes : (core : CoreValue) (tries patience : ℕ) (coming : Coming) (faults faults' : ℕ) (told told' : Option (List ℕ)) (why last : End) (link link' : Seen) (out between out' : Held)
    (status : ℕ) → (room : ℕ) (fold : Bool) (came : List Event) → link.story ≡ Some [] → link'.story ≡ Some came
    → (t : Turned core tries patience (Some coming) faults faults' told told' false why last link link' out between)
    → Favours core.setting patience room fold came → is_foul why ≡ false → coming.over ≡ over.End → AreSound faults faults' out out' → PrintedEnd last between out' status
    → ((status ≡ 0) × IsCarriedOut coming (own came)) ⊎ (status ≡ 3)
turned_completes core tries patience coming faults faults' told told' why last link link' out between out' status room fold came begins ends t favours fair whole sound printed =
    by why_ends
  where
    events : List Event
    events = events_in t.turns

    closings : List Event
    closings = closings_of (errno_by why) t.closed

    p : IsPrinted why last out out' status
    p = record {
      room = record { faults = sound.writes.room; stalls = sound.stalls.room };
      faults = sound.writes;
      stalls = sound.stalls;
      between = t.between;
      closed = between;
      text = lines_at t.turns;
      closing = closing_lines (errno_by why) t.closed;
      first = t.printed;
      second = t.printed_last;
      third = printed;
    }

    all : own came ≡ (t.joining ++ events) ++ closings
    all = told_own ((t.joining ++ events) ++ closings) link link' came begins ends (came_then (t.joining ++ events) closings link t.middle link' t.came t.came_last.came)

    first : t.joining ≡ event.Joined ∷ []
    first = joined_first tries t.joining t.joined
        (steady_first t.joining events (steady_first (t.joining ++ events) closings (ap (list_all is_steady) (sym all) ∙ favours.steady)))

    own_is : own came ≡ event.Joined ∷ (events ++ closings)
    own_is = all ∙ ap (λ (l : List Event). (l ++ events) ++ closings) first

    why_ends : (why ≡ end.Done) ⊎ (why ≡ end.Memory)
    why_ends = favoured_ends core.setting patience events why coming faults faults' t.taken
        (favoured_by core tries patience coming faults faults' told told' why last link link' out between room fold came t (record { favours = favours; own_is = own_is })
        fair (why_sound why last out out' status p) whole sound.source)

    memory : last ≡ end.Memory → ((status ≡ 0) × IsCarriedOut coming (own came)) ⊎ (status ≡ 3)
    memory is = inr (memory_status why out out' status (subst (λ (e : End). IsPrinted why e out out' status) is p))

    done : why ≡ end.Done → last ≡ why → ((status ≡ 0) × IsCarriedOut coming (own came)) ⊎ (status ≡ 3)
    done is same = so (done_status why out out' status (subst (λ (e : End). IsPrinted why e out out' status) (same ∙ is) p))
      where
        carried : IsCarriedOut coming (own came)
        carried = carried_out core tries patience coming faults faults' told told' why last link link' out between came t own_is is sound.source

        so : (status ≡ 0) ⊎ (status ≡ 3) → ((status ≡ 0) × IsCarriedOut coming (own came)) ⊎ (status ≡ 3)
        so (inl zero) = inl (zero, carried)
        so (inr three) = inr three

    by : (why ≡ end.Done) ⊎ (why ≡ end.Memory) → ((status ≡ 0) × IsCarriedOut coming (own came)) ⊎ (status ≡ 3)
    by (inl is) = then (last_ends (errno_by why) why last _ t.closed (last_sound why last out out' status p) t.closes)
      where
        then : (last ≡ why) ⊎ (last ≡ end.Memory) → ((status ≡ 0) × IsCarriedOut coming (own came)) ⊎ (status ≡ 3)
        then (inl same) = done is same
        then (inr none) = memory none
    by (inr is) = then (last_ends (errno_by why) why last _ t.closed (last_sound why last out out' status p) t.closes)
      where
        then : (last ≡ why) ⊎ (last ≡ end.Memory) → ((status ≡ 0) × IsCarriedOut coming (own came)) ⊎ (status ≡ 3)
        then (inl same) = memory (same ∙ is)
        then (inr none) = memory none

-- a run that made no connection made none for want of memory
unjoined_completes : (tries : ℕ) (faults faults' : ℕ) (told told' : Option (List ℕ)) (why last : End) (link link' : Seen) (out between out' : Held) (status : ℕ) (came : List Event) → 0 < tries
    → link.story ≡ Some [] → link'.story ≡ Some came → Unjoined tries false faults faults' told told' why last link link' out between → list_all is_steady (own came) ≡ true
    → AreSound faults faults' out out' → PrintedEnd last between out' status → status ≡ 3
unjoined_completes tries faults faults' told told' why last link link' out between out' status came some begins ends u steady sound printed =
    memory_status end.Memory out out' status (subst (λ (e : End). IsPrinted end.Memory e out out' status) is p)
  where
    own_is : own came ≡ u.joins.events
    own_is = told_own u.joins.events link link' came begins ends u.joins.came

    is : last ≡ end.Memory
    is = u.ends ∙ unjoined tries why u.joins.events some u.joins.so (ap (list_all is_steady) (sym own_is) ∙ steady)

    p : IsPrinted end.Memory last out out' status
    p = record {
      room = record { faults = sound.writes.room; stalls = sound.stalls.room };
      faults = sound.writes;
      stalls = sound.stalls;
      between = between;
      closed = between;
      text = [];
      closing = [];
      first = u.printed;
      second = inl (is, took_nothing between);
      third = printed;
    }

-- A run that may connect at all, on a link that tells its whole story and where no connection stood before, is complete.
pub completes : (core : CoreValue) (tries patience : ℕ) (script : Option Coming) (faults faults' : ℕ) (told told' : Option (List ℕ)) (link link' : Seen) (out out' : Held) (status : ℕ)
    → 0 < tries → RunIs core tries patience script faults faults' told told' false link link' out out' status → link.story ≡ Some []
    → Completes core.setting patience script faults faults' out out' link'.story status
completes core tries patience script faults faults' told told' link link' out out' status some ran begins = λ came ends room fold favours coming valid sound.
    by came ends room fold favours coming valid sound ran.went
  where
    by : (came : List Event) → link'.story ≡ Some came → (room : ℕ) (fold : Bool) → Favours core.setting patience room fold came → (coming : Coming) → IsValid script coming
        → AreSound faults faults' out out'
        → Unjoined tries false faults faults' told told' ran.why ran.last link link' out ran.between
        ⊎ Turned core tries patience script faults faults' told told' false ran.why ran.last link link' out ran.between
        → ((status ≡ 0) × IsCarriedOut coming (own came)) ⊎ (status ≡ 3)
    by came ends room fold favours coming valid sound (inl u) =
        inr (unjoined_completes tries faults faults' told told' ran.why ran.last link link' out ran.between out' status came some begins ends u favours.steady sound ran.printed)
    by came ends room fold favours coming valid sound (inr t) =
        turned_completes core tries patience coming faults faults' told told' ran.why ran.last link link' out ran.between out' status room fold came begins ends
        (subst (λ (s : Option Coming). Turned core tries patience s faults faults' told told' false ran.why ran.last link link' out ran.between) valid.told t)
        favours (ran.fair refl begins came ends room fold favours.honest) valid.whole sound ran.printed

-- the same of a link where it may be that a connection stood
pub run_completes : (core : CoreValue) (tries patience : ℕ) (script : Option Coming) (faults faults' : ℕ) (told told' : Option (List ℕ)) (stood : Bool) (link link' : Seen) (out out' : Held) (status : ℕ)
    → 0 < tries → RunIs core tries patience script faults faults' told told' stood link link' out out' status → stood ≡ false → link.story ≡ Some []
    → Completes core.setting patience script faults faults' out out' link'.story status
run_completes core tries patience script faults faults' told told' stood link link' out out' status some ran none begins =
    completes core tries patience script faults faults' told told' link link' out out' status some
    (subst (λ (b : Bool). RunIs core tries patience script faults faults' told told' b link link' out out' status) none ran) begins
