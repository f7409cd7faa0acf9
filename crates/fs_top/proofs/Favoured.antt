-- On a connection that favours a run no end has its cause but that of its script, and want of memory.
use Rattle.std.proofs.Common.{rules, arith, ◌≡◌, ◌∙◌, ◌⊎◌, inl, inr, refl, sym, ap, ℕ, zero, suc, ◌-◌, ◌^◌, ◌<◌, Bool, true, false, if◌then◌else◌, ◌&&◌, List, [], ◌∷◌, ◌++◌, length, Option, Some, None, Result, Ok, Err}
use Rattle.std.specs.Prelude.{IsSomeAnd, is_none}
use Rattle.std.specs.List.{list_all}
use Rattle.std.proofs.lemmas.Bool.{false≢true}
use Rattle.std.proofs.lemmas.List.Folds.{list_all-append}
use Rattle.smb_base.specs.declared.names.Mid.{Mid}
use Rattle.smb_chain.specs.declared.parts.BadNext.{BadNext}
use Rattle.smb_head.specs.declared.request.Request.{Request}
use Rattle.smb_head.specs.Stream.{rest_in}
use Rattle.smb_mount.specs.declared.fault.MountFault.{MountFault}
use Rattle.share_state.specs.declared.connection.Sent.{Sent}
use Rattle.smb_link.specs.Count.{counted}
use Rattle.smb_link.specs.declared.event.Event.{Event}
use Rattle.smb_link.specs.declared.event.Event.TheVariants as event
use Rattle.smb_link.specs.declared.mark.Mark.TheVariants as mark
use Rattle.fs_plain.specs.Requests.{wire_request}
use Rattle.fs_plain.specs.Told.{Announcement, told_after}
use Rattle.fs_plain.specs.World.{waiting, requests_in, requests_among}
use Rattle.fs_client.specs.Item.{Item, item_with}
use Rattle.fs_client.specs.View.{Setting, Client, no_client}
use Rattle.fs_client.specs.After.{parts_sent, made_whole, after, all_after}
use Rattle.fs_client.specs.May.{MaySendFor, MaySendUnder, Mounting, Echo, LeavingTree, LeavingSession, Allowed}
use Rattle.fs_client.specs.Spelled.{AreNext, IsFrameOf, free_ids}
use Rattle.fs_core.specs.declared.fault.CoreFault.TheVariants as fault
use Rattle.fs_core.specs.declared.fault.Protocol.TheVariants as protocol
use Rattle.fs_core.specs.declared.input.Input.{Input}
use Rattle.fs_core.specs.declared.input.Input.TheVariants as input
use Rattle.fs_core.specs.declared.output.Output.{Output}
use Rattle.fs_core.specs.declared.output.Output.TheVariants as output
use Rattle.fs_core.specs.Event.{events_of, CausedBy, IsRefused, IsStarved}
use Rattle.fs_ahead.specs.declared.asked.Asked.{Asked}
use Rattle.fs_ahead.specs.declared.asked.Over.{Over}
use Rattle.fs_ahead.specs.declared.asked.Over.TheVariants as over
use Rattle.fs_ahead.specs.Script.{Coming}
use Rattle.fs_ahead.specs.Progress.{ReadTo}
use Rattle.fs_top.specs.declared.hear.TheConstants.{MAX_FRAMES}
use Rattle.fs_top.specs.declared.run_end.End.{End}
use Rattle.fs_top.specs.declared.run_end.End.TheVariants as end
use Rattle.fs_top.specs.declared.run_end.Wrong.TheVariants as wrong
use Rattle.fs_top.specs.Causes.{end_by}
use Rattle.fs_top.specs.Causing.{IsStopped, IsLost, ByLink, BySilence, CauseOf}
use Rattle.fs_top.specs.Endings.{IsUnheard}
use Rattle.fs_top.specs.Given.{is_through}
use Rattle.fs_top.specs.Connects.{refusals}
use Rattle.fs_top.specs.Running.{JoinsSo}
use Rattle.fs_top.specs.Run.{joined_client, IsRead, is_foul}
use Rattle.fs_top.specs.Completeness.{IsAccepted, HasCredit, is_steady, IsSame}
use Rattle.fs_top.proofs.Clients.{same_looked}

-- what holds of all events holds of each part of them
pub steady_first : (xs ys : List Event) → list_all is_steady (xs ++ ys) ≡ true → list_all is_steady xs ≡ true
steady_first xs ys all = left (list_all is_steady xs) (list_all is_steady ys) (sym (list_all-append is_steady xs ys) ∙ all)
  where
    left : (a b : Bool) → (a && b) ≡ true → a ≡ true
    left true b is = refl
    left false b is = absurd (false≢true is)

pub steady_last : (xs ys : List Event) → list_all is_steady (xs ++ ys) ≡ true → list_all is_steady ys ≡ true
steady_last xs ys all = right (list_all is_steady xs) (list_all is_steady ys) (sym (list_all-append is_steady xs ys) ∙ all)
  where
    right : (a b : Bool) → (a && b) ≡ true → b ≡ true
    right true b is = is
    right false b is = absurd (false≢true is)

-- where no connect is refused, the first one joins
pub joined_first : (tries : ℕ) (joining : List Event) → JoinsSo tries false (Ok tt) joining → list_all is_steady joining ≡ true → joining ≡ event.Joined ∷ []
joined_first tries joining joins steady = by joins.0 joins.2
  where
    by : (n : ℕ) → joining ≡ refusals n ++ event.Joined ∷ [] → joining ≡ event.Joined ∷ []
    by zero are = are
    by (suc n) are = absurd (false≢true (ap (list_all is_steady) (sym are) ∙ steady))

-- and no run ends for want of a connection
pub unjoined : (tries : ℕ) (why : End) (events : List Event) → 0 < tries → JoinsSo tries false (Err why) events → list_all is_steady events ≡ true → why ≡ end.Memory
unjoined tries (end.Connects number) events some joins steady = by tries some joins.1
  where
    by : (n : ℕ) → 0 < n → events ≡ refusals n → end.Connects number ≡ end.Memory
    by zero some are = absurd (omega (arith, some))
    by (suc n) some are = absurd (false≢true (ap (list_all is_steady) (sym are) ∙ steady))
unjoined tries end.Memory events some joins steady = refl
unjoined tries end.Done events some joins steady = absurd joins
unjoined tries (end.Line number) events some joins steady = absurd joins
unjoined tries (end.Mount why) events some joins steady = absurd joins
unjoined tries (end.Frame number what) events some joins steady = absurd joins
unjoined tries end.Cuts events some joins steady = absurd joins
unjoined tries end.Source events some joins steady = absurd joins
unjoined tries end.Sink events some joins steady = absurd joins
unjoined tries end.Frames events some joins steady = absurd joins

-- a connection that is not ended stands
stands_once : (st : Setting) (c : Client) (e : Event) → is_steady e ≡ true → c.view.connected ≡ true → (after st c e).view.connected ≡ true
stands_once st c (event.Got bytes) steady up =
    (same_looked (made_whole bytes c.view) (record c.view {
      held = rest_in (c.view.held ++ bytes);
      told = told_after (event.Got bytes) (made_whole bytes c.view) c.view.told;
    })).connected ∙ up
stands_once st c event.Joined steady up = refl
stands_once st c event.Cut steady up = absurd (false≢true steady)
stands_once st c e steady up = up

pub stands : (st : Setting) (events : List Event) (c : Client) → list_all is_steady events ≡ true → c.view.connected ≡ true → (all_after st c events).view.connected ≡ true
stands st [] c steady up = up
stands st (e ∷ es) c steady up =
    stands st es (after st c e) (steady_last (e ∷ []) es steady) (stands_once st c e (one (is_steady e) (steady_first (e ∷ []) es steady)) up)
  where
    one : (b : Bool) → (b && true) ≡ true → b ≡ true
    one true is = refl
    one false is = absurd (false≢true is)

-- a frame that is sent has a request
some_requests : (frame : Mid) (next : ℕ) (parts : List (Result (List ℕ) BadNext)) → AreNext next parts → 0 < length parts → requests_among frame parts ≡ [] → ⊥
some_requests frame next [] are some none = omega (arith, some)
some_requests frame next (Err bad ∷ parts) are some none = absurd are
some_requests frame next (Ok message ∷ parts) are some none = by (is_none (wire_request message)) are.1 none
  where
    by : (t : Bool) → t ≡ false → (if t then requests_among frame parts else waiting frame message ∷ requests_among frame parts) ≡ [] → ⊥
    by true asks none = false≢true (sym asks)
    by false asks none = search rules

frame_requests : (requests : List Request) (c : Client) (frame : List ℕ) → IsFrameOf requests c frame → requests_in frame ≡ [] → ⊥
frame_requests requests c frame is none = some_requests _ c.view.next (parts_sent frame) is.next is.some none

sent_requests : (st : Setting) (c : Client) (frame : List ℕ) (announced : List Announcement) → MaySendUnder announced st c frame → requests_in frame ≡ [] → ⊥
sent_requests st c frame [] (Mounting m) none = frame_requests (m.request ∷ []) c frame m.frame_is none
sent_requests st c frame [] (Echo m) none = frame_requests _ c frame m.frame_is none
sent_requests st c frame [] (LeavingTree m) none = frame_requests _ c frame m.frame_is none
sent_requests st c frame [] (LeavingSession m) none = frame_requests _ c frame m.frame_is none
sent_requests st c frame (a ∷ []) may none = by (item_with a.number c.view.items) may
  where
    by : (o : Option Item) → IsSomeAnd o (MaySendFor st c a frame) → ⊥
    by None may = may
    by (Some i) may = frame_requests _ c frame may.frame_is none
sent_requests st c frame (a ∷ b ∷ others) may none = may

front_none : (xs ys : List Sent) → xs ++ ys ≡ [] → xs ≡ []
front_none [] ys none = refl
front_none (x ∷ xs) ys none = absurd (search rules)

back_none : (xs ys : List Sent) → xs ++ ys ≡ [] → ys ≡ []
back_none [] ys none = none
back_none (x ∷ xs) ys none = absurd (search rules)

-- what the client does takes no request from those in flight
flights_before : (st : Setting) (os : List Output) (c : Client) → (all_after st c (events_of os)).view.flights ≡ [] → c.view.flights ≡ []
flights_before st [] c none = none
flights_before st (output.Send frame ∷ os) c none = front_none c.view.flights (requests_in frame) (flights_before st os (after st c (event.Sent frame)) none)
flights_before st (output.Marked m ∷ os) c none = flights_before st os (after st c (event.Marked m)) none
flights_before st (output.Answer number a ∷ os) c none = flights_before st os (after st c (event.Marked (mark.Answer number a))) none
flights_before st (output.Reconnect ∷ os) c none = flights_before st os c none
flights_before st (output.Left ∷ os) c none = flights_before st os c none

-- where ids are granted, no client starves: where nothing is in flight it has sent nothing since they were
pub never_starved : (st : Setting) (os : List Output) (c : Client) → c.view.connected ≡ true → HasCredit c → Allowed st c (events_of os)
    → IsStarved st (all_after st c (events_of os)) → ⊥
never_starved st [] c up credit allowed starved = none (free_ids c) (credit up starved.quiet) starved.none
  where
    none : (n : ℕ) → 0 < n → n ≡ 0 → ⊥
    none n some is = omega (arith, some, is)
never_starved st (output.Send frame ∷ os) c up credit allowed starved =
    sent_requests st c frame c.view.told.announced allowed.0
    (back_none c.view.flights (requests_in frame) (flights_before st os (after st c (event.Sent frame)) starved.quiet))
never_starved st (output.Marked m ∷ os) c up credit allowed starved = never_starved st os (after st c (event.Marked m)) up credit allowed.1 starved
never_starved st (output.Answer number a ∷ os) c up credit allowed starved =
    never_starved st os (after st c (event.Marked (mark.Answer number a))) up credit allowed.1 starved
never_starved st (output.Reconnect ∷ os) c up credit allowed starved = never_starved st os c up credit allowed starved
never_starved st (output.Left ∷ os) c up credit allowed starved = never_starved st os c up credit allowed starved

-- a client that stops because the mount is refused was told a reply that refuses it
pub stopped_refused : (st : Setting) (c : Client) (events : List Event) (why : MountFault) → IsStopped st c events (fault.Refused why) → IsRefused st (all_after st c events) why
stopped_refused st c events why stopped = by stopped.input stopped.caused
  where
    by : (i : Input) → CausedBy st i stopped.before (all_after st c events) (fault.Refused why) → IsRefused st (all_after st c events) why
    by (input.Frame frame) caused = caused
    by (input.Begin number lane call) caused = absurd caused
    by (input.Now time) caused = absurd caused
    by input.End caused = absurd caused
    by input.Joined caused = absurd caused
    by input.Cut caused = absurd caused

-- nor does it end by a lost connection, or in silence
never_lost : (st : Setting) (patience : ℕ) (c : Client) (events : List Event) → list_all is_steady events ≡ true → (IsUnheard st c patience events → ⊥)
    → IsLost st patience c events → ⊥
never_lost st patience c events steady lively (ByLink before are) =
    false≢true (steady_last before (event.Cut ∷ []) (ap (list_all is_steady) (sym are) ∙ steady))
never_lost st patience c events steady lively (BySilence unheard) = lively unheard

-- silence behind the connect is silence of the whole story
pub silent_all : (st : Setting) (patience : ℕ) (events : List Event) → IsUnheard st (joined_client st) patience events
    → IsUnheard st no_client patience (event.Joined ∷ events)
silent_all st patience events u = record {
  before = event.Joined ∷ u.before;
  later = u.later;
  are = ap (λ (l : List Event). event.Joined ∷ l) u.are;
  silent = u.silent;
}

-- a count that did not rise is not one more
pub not_more : (a b : ℕ) → IsSame a b → b ≡ counted a true → ⊥
not_more a b same more = by a b same.same same.room more
  where
    by : (a b : ℕ) → b ≡ a → a < 2 ^ 64 - 1 → b ≡ counted a true → ⊥
    by a b same room more = grind arith

-- a script of which each line is one, with a source that does not fail, is read to its end
read_end : (coming : Coming) (faults faults' : ℕ) (taken : List Asked) (o : Over) → coming.over ≡ over.End → IsSame faults faults' → ReadTo o (Some coming) faults faults' taken → o ≡ over.End
read_end coming faults faults' taken over.End whole same read = refl
read_end coming faults faults' taken (over.Line number) whole same read = sym read.0.1 ∙ whole
read_end coming faults faults' taken over.Source whole same read = absurd (not_more faults faults' same read.1)

through_done : (coming : Coming) (faults faults' : ℕ) (taken : List Asked) (why : End) → coming.over ≡ over.End → IsSame faults faults' → is_through why ≡ true
    → IsRead why (Some coming) faults faults' taken → why ≡ end.Done
through_done coming faults faults' taken why whole same through read =
    read.ends through ∙ ap (λ (o : Over). end_by (Some o)) (read_end coming faults faults' taken read.over whole same read.to)

-- what is known of a run whose connection favours it: the events behind the connect, the end, and what was read of the script
pub record IsFavoured (st : Setting) (patience : ℕ) (events : List Event) (why : End) (coming : Coming) (faults faults' : ℕ) (taken : List Asked) : Type 0 where
  pub cause : CauseOf st patience (joined_client st) events why
  pub steady : list_all is_steady events ≡ true
  pub accepted : IsAccepted st (all_after st (joined_client st) events)
  pub credit : HasCredit (all_after st (joined_client st) events)
  pub lively : IsUnheard st (joined_client st) patience events → ⊥
  pub few : (all_after st (joined_client st) events).tally.frames < MAX_FRAMES
  pub fair : is_foul why ≡ false
  pub sinks : why ≡ end.Sink → ⊥
  pub whole : coming.over ≡ over.End
  pub source : IsSame faults faults'
  pub read : is_through why ≡ true → IsRead why (Some coming) faults faults' taken

-- such a run ends with its script, or for want of memory
pub favoured_ends : (st : Setting) (patience : ℕ) (events : List Event) (why : End) (coming : Coming) (faults faults' : ℕ) (taken : List Asked)
    → IsFavoured st patience events why coming faults faults' taken → (why ≡ end.Done) ⊎ (why ≡ end.Memory)
favoured_ends st patience events end.Done coming faults faults' taken f = inl refl
favoured_ends st patience events end.Memory coming faults faults' taken f = inr refl
favoured_ends st patience events (end.Line number) coming faults faults' taken f =
    inl (through_done coming faults faults' taken (end.Line number) f.whole f.source refl (f.read refl))
favoured_ends st patience events end.Source coming faults faults' taken f =
    inl (through_done coming faults faults' taken end.Source f.whole f.source refl (f.read refl))
favoured_ends st patience events (end.Mount why) coming faults faults' taken f =
    absurd (f.accepted why (stopped_refused st (joined_client st) events why f.cause))
favoured_ends st patience events (end.Frame number wrong.Length) coming faults faults' taken f = absurd (false≢true (sym f.fair))
favoured_ends st patience events (end.Frame number (wrong.Protocol protocol.NoCredit)) coming faults faults' taken f =
    let stopped = f.cause.1.caused in
    absurd (never_starved st stopped.0 (all_after st (joined_client st) events) (stands st events (joined_client st) f.steady refl) f.credit stopped.1 stopped.2)
favoured_ends st patience events (end.Frame number (wrong.Protocol (protocol.Head why))) coming faults faults' taken f = absurd (false≢true (sym f.fair))
favoured_ends st patience events (end.Frame number (wrong.Protocol (protocol.Body why))) coming faults faults' taken f = absurd (false≢true (sym f.fair))
favoured_ends st patience events (end.Frame number (wrong.Protocol (protocol.Info why))) coming faults faults' taken f = absurd (false≢true (sym f.fair))
favoured_ends st patience events (end.Frame number (wrong.Protocol protocol.Chain)) coming faults faults' taken f = absurd (false≢true (sym f.fair))
favoured_ends st patience events (end.Frame number (wrong.Protocol (protocol.Stranger mid))) coming faults faults' taken f = absurd (false≢true (sym f.fair))
favoured_ends st patience events (end.Connects number) coming faults faults' taken f = absurd f.cause
favoured_ends st patience events end.Cuts coming faults faults' taken f = absurd (never_lost st patience (joined_client st) events f.steady f.lively f.cause)
favoured_ends st patience events end.Sink coming faults faults' taken f = absurd (f.sinks refl)
favoured_ends st patience events end.Frames coming faults faults' taken f =
    absurd (same_less (all_after st (joined_client st) events).tally.frames f.cause f.few)
  where
    same_less : (n : ℕ) → n ≡ MAX_FRAMES → n < MAX_FRAMES → ⊥
    same_less n is less = omega (arith, is, less)
