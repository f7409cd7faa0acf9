-- Turns of the engine are what the client may do, and between two of them the client has what the engine has.
use Rattle.std.proofs.Common.{rules, arith, ◌≡◌, ◌∙◌, refl, sym, ap, subst, ℕ, zero, suc, ◌+◌, ◌==◌, ◌≤◌, Bool, true, false, cond, if◌then◌else◌, not, List, [], ◌∷◌, ◌++◌, length, Option, Some, None, Result, Ok, Err}
use Rattle.std.specs.Prelude.{map, filter}
use Rattle.std.specs.List.{AllByRecursion}
use Rattle.std.proofs.lemmas.Bool.{false≢true}
use Rattle.std.proofs.lemmas.List.{append-nil}
use Rattle.smb_base.specs.declared.names.Mid.{Mid}
use Rattle.smb_chain.specs.declared.parts.BadNext.{BadNext}
use Rattle.smb_credit.specs.Window.{up_to, no_request}
use Rattle.smb_head.specs.Stream.{frames_in, rest_in}
use Rattle.share_state.specs.declared.connection.Sent.{Sent}
use Rattle.share_state.specs.declared.request.Rep.{Rep}
use Rattle.smb_link.specs.declared.event.Event.{Event}
use Rattle.smb_link.specs.declared.event.Event.TheVariants as event
use Rattle.smb_link.specs.declared.mark.Mark.TheVariants as mark
use Rattle.fs_plain.specs.Owners.{Owner, owner_of}
use Rattle.fs_plain.specs.Replies.{command_of, reply_in}
use Rattle.fs_plain.specs.Requests.{WireRequest, wire_request}
use Rattle.fs_plain.specs.Told.{Announcement, told_after}
use Rattle.fs_plain.specs.World.{mid_of, messages_in, is_first_of_frame}
use Rattle.fs_client.specs.View.{Setting, View, Exchange, Client}
use Rattle.fs_client.specs.Item.{Item, Leased, on_item, items_but, spoken_for, flown, gone_on, parted}
use Rattle.fs_client.specs.After.{new_item, frame_of, items_sent, made_whole, granted_among, exchanges_among, after, all_after}
use Rattle.fs_client.specs.Asked.{is_refused, fits}
use Rattle.fs_client.specs.Looks.{is_early, advanced, awaited_with, answers_aside, went, in_turn, drained_with, drained, landed_by, without, looked_reply, looked_as, looked_for, looked, all_looked}
use Rattle.fs_client.specs.May.{IsAcknowledged, IsPrompt, May, Allowed}
use Rattle.fs_client.specs.Ready.{AreWhole}
use Rattle.fs_client.specs.Sane.{Sane}
use Rattle.fs_client.proofs.Stays.{stays, stays_along}
use Rattle.fs_core.specs.declared.input.Input.{Input}
use Rattle.fs_core.specs.declared.input.Input.TheVariants as input
use Rattle.fs_core.specs.declared.output.Output.{Output}
use Rattle.fs_core.specs.declared.output.Output.TheVariants as output
use Rattle.fs_core.specs.declared.phase.Phase.{Phase}
use Rattle.fs_core.specs.declared.phase.Phase.TheVariants as phase
use Rattle.fs_core.specs.Kept.{Kept, CoreValue}
use Rattle.fs_core.specs.Parts.{has_flight}
use Rattle.fs_core.specs.Fits.{AllShow, AllFly, IsAt, AreUpTo, Fits}
use Rattle.fs_core.specs.Event.{events_by, events_of, rank_of, rank, AreInOrder, has_left, is_apart, is_connected, is_left, connected_after, MayTake, Brought, Moves, Goes}
use Rattle.fs_core.proofs.Putting.{events_append, allowed_append, all_after_append}
use Rattle.fs_core.proofs.Marking.{at_stays}
use Rattle.fs_top.specs.Turns.{Turn, State, calls_but, running_by, running_after, heard_one, heard_by, carried, after_turn, after_turns, pending_of, IsOne, ends_in_send, Hears, Silently, Listened, Lost, IsTurn, AreTurns, events_at, events_in}
use Rattle.fs_top.specs.Clients.{IsGiven, IsBehind, IsLeft, Holds}

-- the numbers of calls
abbrev pub numbers : List Item → List ℕ
numbers items = map (λ (i : Item). i.number) items

pub numbers_on : (n : ℕ) (f : Item → Item) (items : List Item) → ((i : Item) → (f i).number ≡ i.number) → numbers (on_item n f items) ≡ numbers items
numbers_on n f [] same = refl
numbers_on n f (i ∷ is) same = by (i.number == n) (numbers_on n f is same)
  where
    by : (t : Bool) → numbers (on_item n f is) ≡ numbers is → numbers (if t then f i ∷ is else i ∷ on_item n f is) ≡ i.number ∷ numbers is
    by true deeper = ap (λ (m : ℕ). m ∷ numbers is) (same i)
    by false deeper = ap (λ (l : List ℕ). i.number ∷ l) deeper

pub numbers_spoken : (n : ℕ) (items : List Item) → numbers (map (spoken_for n) items) ≡ numbers items
numbers_spoken n [] = refl
numbers_spoken n (i ∷ is) = by (i.number == n) (numbers_spoken n is)
  where
    by : (t : Bool) → numbers (map (spoken_for n) is) ≡ numbers is → (if t then record i { announced = true } else i).number ∷ numbers (map (spoken_for n) is) ≡ i.number ∷ numbers is
    by true deeper = ap (λ (l : List ℕ). i.number ∷ l) deeper
    by false deeper = ap (λ (l : List ℕ). i.number ∷ l) deeper

pub numbers_but : (n : ℕ) (items : List Item) → numbers (items_but n items) ≡ calls_but n (numbers items)
numbers_but n [] = refl
numbers_but n (i ∷ is) = by (not (i.number == n)) (numbers_but n is)
  where
    by : (t : Bool) → numbers (items_but n is) ≡ calls_but n (numbers is) → numbers (cond t (i ∷ items_but n is) (items_but n is)) ≡ cond t (i.number ∷ calls_but n (numbers is)) (calls_but n (numbers is))
    by true deeper = ap (λ (l : List ℕ). i.number ∷ l) deeper
    by false deeper = deeper

pub numbers_append : (items more : List Item) → numbers (items ++ more) ≡ numbers items ++ numbers more
numbers_append [] more = refl
numbers_append (i ∷ is) more = ap (λ (l : List ℕ). i.number ∷ l) (numbers_append is more)

pub numbers_sent : (announced : List Announcement) (frame : Mid) (items : List Item) → numbers (items_sent announced frame items) ≡ numbers items
numbers_sent [] frame items = refl
numbers_sent (a ∷ announced) frame items =
    numbers_sent announced frame (on_item a.number (flown frame a.known) items) ∙ numbers_on a.number (flown frame a.known) items (λ i. refl)

numbers_advanced : (o : Option Owner) (refused : Bool) (reply : Rep) (items : List Item) → numbers (advanced o refused reply items) ≡ numbers items
numbers_advanced None refused reply items = refl
numbers_advanced (Some o) true reply items = refl
numbers_advanced (Some o) false reply items = numbers_on o.number (gone_on o.known reply) items (λ i. refl)

-- what an output that is carried out leaves of a client, and which calls run then
record Keeps (o : Output) (c c' : Client) : Type 0 where
  held : c'.view.held ≡ c.view.held
  connected : c'.view.connected ≡ c.view.connected
  frames : c'.tally.frames ≡ c.tally.frames
  running : numbers c'.view.items ≡ running_by o (numbers c.view.items)

keeps : (st : Setting) (o : Output) (c : Client) → rank o ≤ 4 → Keeps o c (all_after st c (events_by o))
keeps st (output.Send frame) c low = record {
  held = refl;
  connected = refl;
  frames = refl;
  running = numbers_sent c.view.told.announced (frame_of frame) c.view.items;
}
keeps st (output.Marked (mark.Begin number lane call)) c low = record {
  held = refl;
  connected = refl;
  frames = refl;
  running = numbers_append c.view.items (new_item st number lane call c.view ∷ []);
}
keeps st (output.Marked (mark.For number first count)) c low = record {
  held = refl;
  connected = refl;
  frames = refl;
  running = numbers_spoken number c.view.items;
}
keeps st (output.Marked (mark.Answer number a)) c low = absurd (omega (arith, low))
keeps st (output.Marked (mark.Now time)) c low = record { held = refl; connected = refl; frames = refl; running = refl }
keeps st (output.Marked mark.End) c low = record { held = refl; connected = refl; frames = refl; running = refl }
keeps st (output.Answer number a) c low = record {
  held = refl;
  connected = refl;
  frames = refl;
  running = numbers_but number c.view.items;
}
keeps st output.Reconnect c low = record { held = refl; connected = refl; frames = refl; running = refl }
keeps st output.Left c low = record { held = refl; connected = refl; frames = refl; running = refl }

-- the same of outputs, one after another
pub record KeepsAll (os : List Output) (c c' : Client) : Type 0 where
  pub held : c'.view.held ≡ c.view.held
  pub connected : c'.view.connected ≡ c.view.connected
  pub frames : c'.tally.frames ≡ c.tally.frames
  pub running : numbers c'.view.items ≡ running_after os (numbers c.view.items)

keeps_all : (st : Setting) (low : ℕ) (os : List Output) (c : Client) → AreInOrder low 4 os → KeepsAll os c (all_after st c (events_of os))
keeps_all st low [] c order = record { held = refl; connected = refl; frames = refl; running = refl }
keeps_all st low (o ∷ os) c order =
    let one = keeps st o c order.1 in
    let c1 : Client = all_after st c (events_by o) in
    let rest = keeps_all st (rank o) os c1 order.2 in
    let same : all_after st c (events_of (o ∷ os)) ≡ all_after st c1 (events_of os) = all_after_append st (events_by o) (events_of os) c in
    record {
      held = ap (λ (d : Client). d.view.held) same ∙ rest.held ∙ one.held;
      connected = ap (λ (d : Client). d.view.connected) same ∙ rest.connected ∙ one.connected;
      frames = ap (λ (d : Client). d.tally.frames) same ∙ rest.frames ∙ one.frames;
      running = ap (λ (d : Client). numbers d.view.items) same ∙ rest.running ∙ ap (running_after os) one.running;
    }

-- looking at what came leaves which calls run, what is held, the connection, and what is told
pub record IsSame (v u : View) : Type 0 where
  pub running : numbers u.items ≡ numbers v.items
  pub held : u.held ≡ v.held
  pub connected : u.connected ≡ v.connected
  pub told : u.told ≡ v.told

itself : (v : View) → IsSame v v
itself v = record { running = refl; held = refl; connected = refl; told = refl }

same_then : (v u w : View) → IsSame v u → IsSame u w → IsSame v w
same_then v u w one two = record {
  running = two.running ∙ one.running;
  held = two.held ∙ one.held;
  connected = two.connected ∙ one.connected;
  told = two.told ∙ one.told;
}

same_went : (x : Sent) (reply : Rep) (v : View) → IsSame v (went x reply v)
same_went x reply v = record {
  running = numbers_advanced (owner_of x.mid v.told.owners) (is_refused x) reply v.items;
  held = refl;
  connected = refl;
  told = refl;
}

same_drained : (n : ℕ) (v : View) → IsSame v (drained n v)
same_drained zero v = itself v
same_drained (suc n) v = by (in_turn v.flights v.early) (λ u. same_drained n u)
  where
    by : (o : Option (Sent × Rep)) → ((u : View) → IsSame u (drained n u)) → IsSame v (drained_with o (drained n) v)
    by None deeper = itself v
    by (Some next) deeper = same_then v (went next.0 next.1 v) (drained n (went next.0 next.1 v)) (same_went next.0 next.1 v) (deeper (went next.0 next.1 v))

same_landed : (x : Sent) (reply : Rep) (v : View) → IsSame v (landed_by (Some x) reply v)
same_landed x reply v = by (is_first_of_frame v.flights x)
  where
    by : (t : Bool) → IsSame v (if t then drained (length v.early) (went x reply v) else record v { early = v.early ++ (x.mid, reply) ∷ [] })
    by true = same_then v (went x reply v) (drained (length v.early) (went x reply v)) (same_went x reply v) (same_drained (length v.early) (went x reply v))
    by false = record { running = refl; held = refl; connected = refl; told = refl }

same_final : (o : Option Rep) (x : Sent) (v : View) → IsSame v (looked_reply o x v)
same_final None x v = itself v
same_final (Some reply) x v = by (fits x reply)
  where
    by : (t : Bool) → IsSame v (if t then landed_by (Some x) reply v else v)
    by true = same_landed x reply v
    by false = itself v

same_aside : (x : Sent) (t : Bool) (v : View) → IsSame v (if t then without x.mid v else v)
same_aside x true v = record { running = refl; held = refl; connected = refl; told = refl }
same_aside x false v = itself v

same_as : (o : Option WireRequest) (x : Sent) (message : List ℕ) (v : View) → IsSame v (looked_as o x message v)
same_as None x message v = itself v
same_as (Some WireRequest.Aside) x message v = same_aside x (answers_aside x message v.told.owners) v
same_as (Some (WireRequest.Share related request)) x message v = same_final (reply_in x.mid x.message message) x v

same_for : (o : Option Sent) (message : List ℕ) (v : View) → IsSame v (looked_for o message v)
same_for None message v = itself v
same_for (Some x) message v = same_as (wire_request x.message) x message v

pub same_looked : (parts : List (Result (List ℕ) BadNext)) (v : View) → IsSame v (all_looked parts v)
same_looked [] v = itself v
same_looked (Err bad ∷ parts) v = same_looked parts v
same_looked (Ok message ∷ parts) v =
    same_then v (looked message v) (all_looked parts (looked message v)) (same_for (awaited_with (mid_of message) v) message v) (same_looked parts (looked message v))

-- what came is what the input of the turn brings
apart_or_on : (p : Phase) → is_connected p ≡ true → is_apart p ≡ false
apart_or_on (phase.Apart start) on = absurd (false≢true on)
apart_or_on (phase.Greeting k) on = refl
apart_or_on (phase.SettingUp k) on = refl
apart_or_on (phase.Answering k) on = refl
apart_or_on (phase.Joining k) on = refl
apart_or_on (phase.On k) on = refl
apart_or_on (phase.LeavingTree k) on = refl
apart_or_on (phase.LeavingSession k) on = refl
apart_or_on phase.Left on = refl
apart_or_on phase.Lost on = refl

pub brought : (st : Setting) (p : Phase) (i : Input) (pending : List (List ℕ)) (c c' : Client) → pending ≡ pending_of i → (i ≡ input.Joined → is_apart p ≡ true) → connected_after i (is_connected p) ≡ true
    → IsGiven st (is_apart p) c c' pending → Brought st i c c'
brought st p (input.Frame frame) pending c c' is may on given =
    subst (λ (b : Bool). IsGiven st b c c' (frame ∷ [])) (apart_or_on p on) (subst (IsGiven st (is_apart p) c c') is given)
brought st p (input.Begin number lane call) pending c c' is may on given =
    subst (λ (b : Bool). IsGiven st b c c' []) (apart_or_on p on) (subst (IsGiven st (is_apart p) c c') is given)
brought st p (input.Now time) pending c c' is may on given =
    subst (λ (b : Bool). IsGiven st b c c' []) (apart_or_on p on) (subst (IsGiven st (is_apart p) c c') is given)
brought st p input.End pending c c' is may on given =
    subst (λ (b : Bool). IsGiven st b c c' []) (apart_or_on p on) (subst (IsGiven st (is_apart p) c c') is given)
brought st p input.Joined pending c c' is may on given =
    subst (λ (b : Bool). IsGiven st b c c' []) (may refl) (subst (IsGiven st (is_apart p) c c') is given)
brought st p input.Cut pending c c' is may on given = absurd (false≢true on)

-- what the core's event tells of a turn on a connection: the outputs that it adds
pub moves : (i : Input) (old new : CoreValue) (p : Phase) → connected_after i (is_connected p) ≡ true → Goes i old new → Moves i old new
moves (input.Frame frame) old new p on goes = goes
moves (input.Begin number lane call) old new p on goes = goes
moves (input.Now time) old new p on goes = goes
moves input.End old new p on goes = goes
moves input.Joined old new p on goes = goes
moves input.Cut old new p on goes = absurd (false≢true on)

pub joined_apart : (i : Input) (k : Kept) → MayTake i k → i ≡ input.Joined → is_apart k.phase ≡ true
joined_apart i k may is = subst (λ (j : Input). MayTake j k) is may

-- outputs that are carried out are a front of those that were added
pub order_front : (low : ℕ) (os more : List Output) → AreInOrder low 4 (os ++ more) → AreInOrder low 4 os
order_front low [] more order = record {}
order_front low (o ∷ os) more order = (order.0, order.1, order_front (rank o) os more order.2)

allowed_front : (st : Setting) (events later : List Event) (c : Client) → Allowed st c (events ++ later) → Allowed st c events
allowed_front st [] later c allowed = record {}
allowed_front st (e ∷ events) later c allowed = (allowed.0, allowed_front st events later (after st c e) allowed.1)

-- the client after a turn's outputs
pub record Did (st : Setting) (t : Turn) (c : Client) : Type 0 where
  pub setting : t.mid.setting ≡ st
  pub order : AreInOrder 1 4 t.outs
  pub allowed : Allowed st c (events_of t.outs)
  pub sane : Sane (all_after st c (events_of t.outs)).view
  pub keeps : KeepsAll t.outs c (all_after st c (events_of t.outs))
  pub fits : t.left ≡ [] → Fits st t.mid.kept (all_after st c (events_of t.outs))
  pub left : is_left t.before.kept.phase ≡ false → has_left t.outs ≡ true → IsLeft (all_after st c (events_of t.outs))
  pub stays : is_left t.before.kept.phase ≡ false → t.left ≡ [] → has_left t.outs ≡ false → is_left t.mid.kept.phase ≡ false

-- behind the word that the share is left no output makes an event
pub left_last : (low : ℕ) (os more : List Output) → AreInOrder low 4 (os ++ more) → has_left os ≡ true → events_of more ≡ []
left_last low [] more order is = absurd (false≢true is)
left_last low (o ∷ os) more order is = by o is order (λ low' order' is'. left_last low' os more order' is')
  where
    none_behind : (os : List Output) → AreInOrder 4 4 os → events_of os ≡ []
    none_behind [] order = refl
    none_behind (output.Send frame ∷ os) order = absurd (omega (arith, order.0))
    none_behind (output.Marked (mark.Begin number lane call) ∷ os) order = absurd (omega (arith, order.0))
    none_behind (output.Marked (mark.For number first count) ∷ os) order = absurd (omega (arith, order.0))
    none_behind (output.Marked (mark.Answer number a) ∷ os) order = absurd (omega (arith, order.1))
    none_behind (output.Marked (mark.Now time) ∷ os) order = absurd (omega (arith, order.0))
    none_behind (output.Marked mark.End ∷ os) order = absurd (omega (arith, order.0))
    none_behind (output.Answer number a ∷ os) order = absurd (omega (arith, order.0))
    none_behind (output.Reconnect ∷ os) order = absurd (omega (arith, order.0))
    none_behind (output.Left ∷ os) order = none_behind os order.2

    behind_all : (os more : List Output) → AreInOrder 4 4 (os ++ more) → AreInOrder 4 4 more
    behind_all [] more order = order
    behind_all (o ∷ os) more order = behind_all os more (subst (λ (n : ℕ). AreInOrder n 4 (os ++ more)) (four (rank o) order.0 order.1) order.2)
      where
        four : (n : ℕ) → 4 ≤ n → n ≤ 4 → n ≡ 4
        four n over under = omega (arith, over, under)

    by : (p : Output) → has_left (p ∷ os) ≡ true → AreInOrder low 4 (p ∷ os ++ more) → ((low' : ℕ) → AreInOrder low' 4 (os ++ more) → has_left os ≡ true → events_of more ≡ [])
        → events_of more ≡ []
    by (output.Send frame) is order deeper = deeper 3 order.2 is
    by (output.Marked m) is order deeper = deeper (rank_of m) order.2 is
    by (output.Answer number a) is order deeper = deeper 2 order.2 is
    by output.Reconnect is order deeper = deeper 0 order.2 is
    by output.Left is order deeper = none_behind more (behind_all os more order.2)

has_left_front : (os more : List Output) → has_left os ≡ true → has_left (os ++ more) ≡ true
has_left_front [] more is = absurd (false≢true is)
has_left_front (output.Left ∷ os) more is = refl
has_left_front (output.Send frame ∷ os) more is = has_left_front os more is
has_left_front (output.Marked m ∷ os) more is = has_left_front os more is
has_left_front (output.Answer number a ∷ os) more is = has_left_front os more is
has_left_front (output.Reconnect ∷ os) more is = has_left_front os more is

-- where a frame is the last output, the share is not left
send_last : (low : ℕ) (os : List Output) → AreInOrder low 4 os → ends_in_send os ≡ true → has_left os ≡ false
send_last low [] order is = refl
send_last low (output.Send frame ∷ []) order is = refl
send_last low (output.Send frame ∷ o ∷ os) order is = send_last 3 (o ∷ os) order.2 is
send_last low (output.Marked m ∷ os) order is = send_last (rank_of m) os order.2 is
send_last low (output.Answer number a ∷ os) order is = send_last 2 os order.2 is
send_last low (output.Reconnect ∷ os) order is = send_last 0 os order.2 is
send_last low (output.Left ∷ os) order is = absurd (by os order.2 is)
  where
    by : (os : List Output) → AreInOrder 4 4 os → ends_in_send os ≡ true → ⊥
    by [] order is = false≢true is
    by (output.Send frame ∷ os) order is = omega (arith, order.0)
    by (output.Marked (mark.Begin number lane call) ∷ os) order is = omega (arith, order.0)
    by (output.Marked (mark.For number first count) ∷ os) order is = omega (arith, order.0)
    by (output.Marked (mark.Answer number a) ∷ os) order is = omega (arith, order.1)
    by (output.Marked (mark.Now time) ∷ os) order is = omega (arith, order.0)
    by (output.Marked mark.End ∷ os) order is = omega (arith, order.0)
    by (output.Answer number a ∷ os) order is = omega (arith, order.0)
    by (output.Reconnect ∷ os) order is = omega (arith, order.0)
    by (output.Left ∷ os) order is = by os order.2 is

-- the client is sane once something came
sane_brought : (st : Setting) (i : Input) (c c' : Client) → Sane c.view → Brought st i c c' → Sane c'.view
sane_brought st (input.Frame frame) c c' sane is = subst (λ (d : Client). Sane d.view) (sym is.3) (stays st c (event.Got is.0) sane is.1)
sane_brought st (input.Begin number lane call) c c' sane is = subst (λ (d : Client). Sane d.view) (sym is) sane
sane_brought st (input.Now time) c c' sane is = subst (λ (d : Client). Sane d.view) (sym is) sane
sane_brought st input.End c c' sane is = subst (λ (d : Client). Sane d.view) (sym is) sane
sane_brought st input.Joined c c' sane is = subst (λ (d : Client). Sane d.view) (sym is.1) (stays st c event.Joined sane is.0)
sane_brought st input.Cut c c' sane is = subst (λ (d : Client). Sane d.view) (sym is.1) (stays st c event.Cut sane is.0)

phase_left : (p : Phase) → is_left p ≡ true → p ≡ phase.Left
phase_left (phase.Apart start) is = absurd (false≢true is)
phase_left (phase.Greeting k) is = absurd (false≢true is)
phase_left (phase.SettingUp k) is = absurd (false≢true is)
phase_left (phase.Answering k) is = absurd (false≢true is)
phase_left (phase.Joining k) is = absurd (false≢true is)
phase_left (phase.On k) is = absurd (false≢true is)
phase_left (phase.LeavingTree k) is = absurd (false≢true is)
phase_left (phase.LeavingSession k) is = absurd (false≢true is)
phase_left phase.Left is = refl
phase_left phase.Lost is = absurd (false≢true is)

left_is : (st : Setting) (k : Kept) (c : Client) → Fits st k c → is_left k.phase ≡ true → IsLeft c
left_is st k c fits is =
    let at : IsAt st phase.Left c = subst (λ (p : Phase). IsAt st p c) (phase_left k.phase is) fits.phase in
    record { ended = at.1; no_call = at.0; tree = at.3; session = at.4 }

pub did : (st : Setting) (s : State) (t : Turn) (c : Client) → IsTurn s t → Holds st s c → Did st t c
did st s t c is holds =
    let from : t.before ≡ s.core = is.before in
    let set : t.before.setting ≡ st = ap (λ (k : CoreValue). k.setting) from ∙ holds.setting in
    let b = holds.behind (sym (ap (λ (k : CoreValue). k.outs) from) ∙ is.nothing_left) is.stands in
    let m = moves t.input t.before t.mid t.before.kept.phase is.connects is.goes in
    let more : m.more ≡ t.outs ++ t.left = sym (m.outs ∙ ap (λ (os : List Output). os ++ m.more) is.nothing_left) ∙ is.popped in
    let kept : t.before.kept ≡ s.core.kept = ap (λ (k : CoreValue). k.kept) from in
    let brings : Brought st t.input b.before c = brought st t.before.kept.phase t.input s.pending b.before c is.given (joined_apart t.input t.before.kept is.may) is.connects
    (subst (λ (k : Kept). IsGiven st (is_apart k.phase) b.before c s.pending) (sym kept) b.given) in
    let fits : Fits st t.before.kept b.before = subst (λ (k : Kept). Fits st k b.before) (sym kept) b.fits in
    let all = does_so st t.input t.before t.mid m.more (t.outs ++ t.left) b.before c set more m.does b.sane fits brings in
    let sane : Sane c.view = sane_brought st t.input b.before c b.sane brings in
    let order : AreInOrder 1 4 (t.outs ++ t.left) = subst (AreInOrder 1 4) more m.order in
    let allowed : Allowed st c (events_of t.outs) = allowed_front st (events_of t.outs) (events_of t.left) c (subst (Allowed st c) (events_append t.outs t.left) all.0) in
    record {
      setting = m.setting ∙ set;
      order = order_front 1 t.outs t.left order;
      allowed = allowed;
      sane = stays_along st (events_of t.outs) c sane allowed;
      keeps = keeps_all st 1 t.outs c (order_front 1 t.outs t.left order);
      fits = λ none. subst (λ (os : List Output). Fits st t.mid.kept (all_after st c (events_of os))) (ap (λ (l : List Output). t.outs ++ l) none ∙ append-nil t.outs) all.1;
      left = λ on has.
          let gone : is_left t.mid.kept.phase ≡ true = sym (m.left on) ∙ ap has_left more ∙ has_left_front t.outs t.left has in
          subst IsLeft (all_after_append st (events_of t.outs) (events_of t.left) c ∙ ap (all_after st (all_after st c (events_of t.outs))) (left_last 1 t.outs t.left order has))
          (subst (λ (events : List Event). IsLeft (all_after st c events)) (events_append t.outs t.left) (left_is st t.mid.kept (all_after st c (events_of (t.outs ++ t.left))) all.1 gone));
      stays = λ on none hasnt. sym (m.left on) ∙ ap has_left (more ∙ ap (λ (l : List Output). t.outs ++ l) none ∙ append-nil t.outs) ∙ hasnt;
    }
  where
    does_so : (st : Setting) (i : Input) (old new : CoreValue) (more outs : List Output) (c c' : Client) → old.setting ≡ st → more ≡ outs
        → ((d d' : Client) → Sane d.view → Fits old.setting old.kept d → Brought old.setting i d d' → Allowed old.setting d' (events_of more) × Fits old.setting new.kept (all_after old.setting d' (events_of more)))
        → Sane c.view → Fits st old.kept c → Brought st i c c' → Allowed st c' (events_of outs) × Fits st new.kept (all_after st c' (events_of outs))
    does_so st i old new more outs c c' set is does sane fits brings =
        subst (λ (os : List Output). Allowed st c' (events_of os) × Fits st new.kept (all_after st c' (events_of os))) is
        (by old.setting set does)
      where
        by : (was : Setting) → was ≡ st
            → ((d d' : Client) → Sane d.view → Fits was old.kept d → Brought was i d d' → Allowed was d' (events_of more) × Fits was new.kept (all_after was d' (events_of more)))
            → Allowed st c' (events_of more) × Fits st new.kept (all_after st c' (events_of more))
        by was is does =
            (subst (λ (w : Setting). (d d' : Client) → Sane d.view → Fits w old.kept d → Brought w i d d' → Allowed w d' (events_of more) × Fits w new.kept (all_after w d' (events_of more))) is does)
            c c' sane fits brings

-- what is heard leaves a client as the core has it: less than a frame, or a silence
nothing_more : (xs : List Exchange) → xs ++ [] ≡ xs
nothing_more [] = refl
nothing_more (x ∷ xs) = ap (λ (l : List Exchange). x ∷ l) (nothing_more xs)

-- a client that differs in what the core does not have
record IsAlike (c c' : Client) : Type 0 where
  items : c'.view.items ≡ c.view.items
  flights : c'.view.flights ≡ c.view.flights
  early : c'.view.early ≡ c.view.early
  next : c'.view.next ≡ c.view.next
  connected : c'.view.connected ≡ c.view.connected
  granted : c'.tally.granted ≡ c.tally.granted
  exchanges : c'.tally.exchanges ≡ c.tally.exchanges
  owners : c'.view.told.owners ≡ c.view.told.owners
  announced : c'.view.told.announced ≡ c.view.told.announced
  begun : c'.view.told.begun ≡ c.view.told.begun
  now : c'.view.told.now ≡ c.view.told.now
  ended : c'.view.told.ended ≡ c.view.told.ended

alike_fits : (st : Setting) (k : Kept) (c c' : Client) → IsAlike c c' → Fits st k c → Fits st k c'
alike_fits st k c c' a f = record {
  slots = subst (AllShow st.options k.slots) (sym a.items) f.slots;
  flights = subst (λ (xs : List Sent). AllFly c'.view.told.owners k.flights xs) (sym a.flights)
      (subst (λ (os : List Owner). AllFly os k.flights c.view.flights) (sym a.owners) f.flights);
  early = f.early ∙ sym a.early;
  ids = λ on. f.ids (sym a.connected ∙ on) ∙ sym (ap (λ (n : ℕ). up_to n c'.tally.granted) a.next ∙ ap (λ (n : ℕ). up_to c.view.next n) a.granted);
  awaited = f.awaited ∙ sym (ap (λ (early : List (Mid × Rep)). awaited_in c'.view.flights early) a.early ∙ ap (λ (xs : List Sent). awaited_in xs c.view.early) a.flights);
  phase = at_stays st k.phase c c' (record {
    connected = a.connected;
    exchanges = a.exchanges;
    flights = a.flights;
    items = λ none. a.items ∙ none;
    ended = λ said. a.ended ∙ said;
  }) f.phase;
  last = subst (AreUpTo k.last) (sym a.begun) f.last;
  now = f.now ∙ sym a.now;
  ended = f.ended ∙ sym a.ended;
  idle = a.announced ∙ f.idle;
  ready = record {
    used = subst (λ (n : ℕ). n ≤ c'.tally.granted) (sym a.next) (subst (λ (n : ℕ). c.view.next ≤ n) (sym a.granted) f.ready.used);
    granted = subst (λ (n : ℕ). n ≤ no_request) (sym a.granted) f.ready.granted;
    whole = subst AreWhole (sym a.flights) f.ready.whole;
  };
}
  where
    awaited_in : List Sent → List (Mid × Rep) → List (ℕ × ℕ)
    awaited_in xs early = map (λ (x : Sent). (x.mid.0, command_of x.message)) (filter (λ (x : Sent). not (is_early x.mid early)) xs)

got_less : (st : Setting) (c : Client) (bytes : List ℕ) → frames_in (c.view.held ++ bytes) ≡ [] → IsAlike c (after st c (event.Got bytes))
got_less st c bytes none = by (frames_in (c.view.held ++ bytes)) none
  where
    got : List (List ℕ) → Client
    got frames = record {
      view = all_looked (messages_in frames) (record c.view { held = rest_in (c.view.held ++ bytes); told = told_after (event.Got bytes) (messages_in frames) c.view.told });
      tally = record {
        frames = c.tally.frames + length frames;
        granted = granted_among (messages_in frames) c.tally.granted;
        silences = 0;
        exchanges = c.tally.exchanges ++ exchanges_among (messages_in frames) c.view;
      };
    }

    by : (frames : List (List ℕ)) → frames ≡ [] → IsAlike c (got frames)
    by [] is = record {
      items = refl;
      flights = refl;
      early = refl;
      next = refl;
      connected = refl;
      granted = refl;
      exchanges = nothing_more c.tally.exchanges;
      owners = refl;
      announced = refl;
      begun = refl;
      now = refl;
      ended = refl;
    }
    by (frame ∷ frames) is = absurd (some_none frame frames is)
      where
        some_none : (f : List ℕ) (fs : List (List ℕ)) → f ∷ fs ≡ [] → ⊥
        some_none f fs e = search rules

-- what the engine has once the outputs of a turn were carried out
pub carried_holds : (st : Setting) (s : State) (t : Turn) (c : Client) → IsTurn s t → Holds st s c → Did st t c → Holds st (carried t s) (all_after st c (events_of t.outs))
carried_holds st s t c is holds d =
    let kept : t.before.kept ≡ s.core.kept = ap (λ (k : CoreValue). k.kept) is.before in
    let outs : s.core.outs ≡ [] = sym (ap (λ (k : CoreValue). k.outs) is.before) ∙ is.nothing_left in
    let on : is_left t.before.kept.phase ≡ false = ap (λ (k : Kept). is_left k.phase) kept ∙ holds.on outs is.goes_on in
    let stands : is_connected t.mid.kept.phase ≡ true = is.stays.connected ∙ is.connects in
    record {
      setting = d.setting;
      behind = λ none up. record {
        before = all_after st c (events_of t.outs);
        sane = d.sane;
        fits = d.fits none;
        given = subst (λ (b : Bool). IsGiven st b (all_after st c (events_of t.outs)) (all_after st c (events_of t.outs)) []) (sym (apart_or_on t.mid.kept.phase stands)) refl;
      };
      connected = λ up. d.keeps.connected ∙ holds.connected up;
      held = λ up. d.keeps.held ∙ holds.held up;
      frames = d.keeps.frames ∙ holds.frames;
      running = d.keeps.running ∙ ap (running_after t.outs) holds.running;
      on = λ none more. d.stays on none more;
      gone = λ over. d.left on over;
    }

-- one thing that is heard
record HearsOne (st : Setting) (unanswered : Bool) (e : Event) (s : State) (c : Client) : Type 0 where
  may : May st c e
  holds : Holds st (heard_one unanswered e s) (after st c e)

hears_got : (st : Setting) (unanswered : Bool) (bytes : List ℕ) (s : State) (c : Client) → s.core.outs ≡ [] → s.connected ≡ true → s.over ≡ false → s.pending ≡ []
    → is_apart s.core.kept.phase ≡ false → Holds st s c → HearsOne st unanswered (event.Got bytes) s c
hears_got st unanswered bytes s c none up on nothing apart holds =
    let b = holds.behind none up in
    let same : c ≡ b.before = subst (λ (pending : List (List ℕ)). IsGiven st false b.before c pending) nothing (subst (λ (a : Bool). IsGiven st a b.before c s.pending) apart b.given) in
    let sane : Sane c.view = subst (λ (d : Client). Sane d.view) (sym same) b.sane in
    let fits : Fits st s.core.kept c = subst (Fits st s.core.kept) (sym same) b.fits in
    let held : c.view.held ≡ s.held = holds.held up in
    let parts = made_whole bytes c.view in
    let u : View = record c.view { held = rest_in (c.view.held ++ bytes); told = told_after (event.Got bytes) parts c.view.told } in
    let looks = same_looked parts u in
    record {
      may = holds.connected up;
      holds = record {
        setting = holds.setting;
        behind = λ none' up'. given (frames_in (s.held ++ bytes)) (ap (λ (h : List ℕ). frames_in (h ++ bytes)) held) sane fits;
        connected = λ up'. looks.connected ∙ holds.connected up;
        held = λ up'. looks.held ∙ ap (λ (h : List ℕ). rest_in (h ++ bytes)) held;
        frames = ap (λ (n : ℕ). n + length (frames_in (c.view.held ++ bytes))) holds.frames ∙ ap (λ (h : List ℕ). s.received + length (frames_in (h ++ bytes))) held;
        running = looks.running ∙ holds.running;
        on = λ none' over. holds.on none over;
        gone = λ over. absurd (false≢true (sym on ∙ over));
      };
    }
  where
    c' : Client
    c' = after st c (event.Got bytes)

    given : (frames : List (List ℕ)) → frames_in (c.view.held ++ bytes) ≡ frames → Sane c.view → Fits st s.core.kept c
        → IsBehind st (record s { held = rest_in (s.held ++ bytes); received = s.received + length (frames_in (s.held ++ bytes)); silences = 0; pending = frames }) c'
    given [] are sane fits = record {
      before = c';
      sane = stays st c (event.Got bytes) sane (holds.connected up);
      fits = alike_fits st s.core.kept c c' (got_less st c bytes are) fits;
      given = subst (λ (a : Bool). IsGiven st a c' c' []) (sym apart) refl;
    }
    given (frame ∷ []) are sane fits = record {
      before = c;
      sane = sane;
      fits = fits;
      given = subst (λ (a : Bool). IsGiven st a c c' (frame ∷ [])) (sym apart) (bytes, holds.connected up, are, refl);
    }
    given (frame ∷ next ∷ frames) are sane fits = record {
      before = c;
      sane = sane;
      fits = fits;
      given = subst (λ (a : Bool). IsGiven st a c c' (frame ∷ next ∷ frames)) (sym apart) tt;
    }

quiet_alike : (st : Setting) (c : Client) → IsAlike c (after st c event.Quiet)
quiet_alike st c = record {
  items = refl;
  flights = refl;
  early = refl;
  next = refl;
  connected = refl;
  granted = refl;
  exchanges = refl;
  owners = refl;
  announced = refl;
  begun = refl;
  now = refl;
  ended = refl;
}

none_asked : (c : Client) → Sane c.view → IsPrompt c
none_asked c sane = subst (λ (ls : List Leased). AllByRecursion (λ (l : Leased). IsAcknowledged l.asking) ls) (sym sane.no_lease) tt

hears_quiet : (st : Setting) (unanswered : Bool) (s : State) (c : Client) → s.core.outs ≡ [] → s.connected ≡ true → s.over ≡ false → s.pending ≡ []
    → is_apart s.core.kept.phase ≡ false → Holds st s c → HearsOne st unanswered event.Quiet s c
hears_quiet st unanswered s c none up on nothing apart holds =
    let b = holds.behind none up in
    let same : c ≡ b.before = subst (λ (pending : List (List ℕ)). IsGiven st false b.before c pending) nothing (subst (λ (a : Bool). IsGiven st a b.before c s.pending) apart b.given) in
    let sane : Sane c.view = subst (λ (d : Client). Sane d.view) (sym same) b.sane in
    let fits : Fits st s.core.kept c = subst (Fits st s.core.kept) (sym same) b.fits in
    record {
      may = (holds.connected up, none_asked c sane);
      holds = record {
        setting = holds.setting;
        behind = λ none' up'. record {
          before = after st c event.Quiet;
          sane = sane;
          fits = alike_fits st s.core.kept c (after st c event.Quiet) (quiet_alike st c) fits;
          given = subst (λ (a : Bool). IsGiven st a (after st c event.Quiet) (after st c event.Quiet) s.pending) (sym apart)
              (subst (IsGiven st false (after st c event.Quiet) (after st c event.Quiet)) (sym nothing) refl);
        };
        connected = holds.connected;
        held = holds.held;
        frames = holds.frames;
        running = holds.running;
        on = holds.on;
        gone = λ over. absurd (false≢true (sym on ∙ over));
      };
    }

numbers_parted : (items : List Item) → numbers (map parted items) ≡ numbers items
numbers_parted [] = refl
numbers_parted (i ∷ is) = ap (λ (l : List ℕ). i.number ∷ l) (numbers_parted is)

hears_cut : (st : Setting) (unanswered : Bool) (s : State) (c : Client) → s.connected ≡ true → s.over ≡ false → Holds st s c → HearsOne st unanswered event.Cut s c
hears_cut st unanswered s c up on holds = record {
  may = holds.connected up;
  holds = record {
    setting = holds.setting;
    behind = λ none gone. absurd (false≢true gone);
    connected = λ gone. absurd (false≢true gone);
    held = λ gone. absurd (false≢true gone);
    frames = holds.frames;
    running = numbers_parted c.view.items ∙ holds.running;
    on = holds.on;
    gone = λ over. absurd (false≢true (sym on ∙ over));
  };
}

-- what is heard in a turn
record HearsAll (st : Setting) (unanswered : Bool) (heard : List Event) (s : State) (c : Client) : Type 0 where
  allowed : Allowed st c heard
  holds : Holds st (heard_by unanswered heard s) (all_after st c heard)

hears_nothing : (st : Setting) (unanswered : Bool) (s : State) (c : Client) → Holds st s c → HearsAll st unanswered [] s c
hears_nothing st unanswered s c holds = record { allowed = record {}; holds = holds }

hears_it : (st : Setting) (unanswered : Bool) (e : Event) (s : State) (c : Client) → HearsOne st unanswered e s c → HearsAll st unanswered (e ∷ []) s c
hears_it st unanswered e s c one = record { allowed = (one.may, record {}); holds = one.holds }

-- a turn is what the client may do, and the client has what the engine has after it
pub record TurnGoes (st : Setting) (t : Turn) (s : State) (c : Client) : Type 0 where
  pub allowed : Allowed st c (events_at t)
  pub holds : Holds st (after_turn t s) (all_after st c (events_at t))

pub turn_goes : (st : Setting) (s : State) (t : Turn) (c : Client) → IsTurn s t → Holds st s c → TurnGoes st t s c
turn_goes st s t c is holds =
    let d = did st s t c is holds in
    let h = carried_holds st s t c is holds d in
    let c1 : Client = all_after st c (events_of t.outs) in
    let heard = hearing is.hears c1 h d.order (apart_or_on t.mid.kept.phase (is.stays.connected ∙ is.connects)) in
    record {
      allowed = allowed_append st (events_of t.outs) t.heard c d.allowed heard.allowed;
      holds = subst (Holds st (after_turn t s)) (sym (all_after_append st (events_of t.outs) t.heard c)) heard.holds;
    }
  where
    un : Bool
    un = has_flight t.mid.kept.flights

    hearing : Hears t → (c1 : Client) → Holds st (carried t s) c1 → AreInOrder 1 4 t.outs → is_apart t.mid.kept.phase ≡ false → HearsAll st un t.heard (carried t s) c1
    hearing (Silently is) c1 h order apart = subst (λ (heard : List Event). HearsAll st un heard (carried t s) c1) (sym is) (hears_nothing st un (carried t s) c1 h)
    hearing (Listened now none on one) c1 h order apart = by t.heard one
      where
        by : (heard : List Event) → IsOne heard → HearsAll st un heard (carried t s) c1
        by [] one = hears_nothing st un (carried t s) c1 h
        by (event.Got bytes ∷ []) one = hears_it st un (event.Got bytes) (carried t s) c1 (hears_got st un bytes (carried t s) c1 none is.stands on refl apart h)
        by (event.Quiet ∷ []) one = hears_it st un event.Quiet (carried t s) c1 (hears_quiet st un (carried t s) c1 none is.stands on refl apart h)
        by (event.Cut ∷ []) one = hears_it st un event.Cut (carried t s) c1 (hears_cut st un (carried t s) c1 is.stands on h)
        by other one = absurd one
    hearing (Lost send heard) c1 h order apart =
        subst (λ (heard : List Event). HearsAll st un heard (carried t s) c1) (sym heard)
        (hears_it st un event.Cut (carried t s) c1 (hears_cut st un (carried t s) c1 is.stands (send_last 1 t.outs order send) h))

-- turns, one after another
pub record Along (st : Setting) (turns : List Turn) (s : State) (c : Client) : Type 0 where
  pub allowed : Allowed st c (events_in turns)
  pub holds : Holds st (after_turns turns s) (all_after st c (events_in turns))

pub turns_along : (st : Setting) (turns : List Turn) (s : State) (c : Client) → AreTurns s turns → Holds st s c → Along st turns s c
turns_along st [] s c are holds = record { allowed = record {}; holds = holds }
turns_along st (t ∷ ts) s c are holds =
    let one = turn_goes st s t c are.0 holds in
    let rest = turns_along st ts (after_turn t s) (all_after st c (events_at t)) are.1 one.holds in
    record {
      allowed = allowed_append st (events_at t) (events_in ts) c one.allowed rest.allowed;
      holds = subst (Holds st (after_turns ts (after_turn t s))) (sym (all_after_append st (events_at t) (events_in ts) c)) rest.holds;
    }
