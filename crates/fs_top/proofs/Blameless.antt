-- A run at an honest share does not end by what the server sent.
use Rattle.std.proofs.Common.{rules, ◌≡◌, ◌∙◌, refl, sym, ap, subst, ℕ, Bool, true, false, cond, not, List, [], ◌∷◌, ◌++◌, Option, Some, Result, Ok, Err, inl, inr, ◌⊎◌}
use Rattle.std.specs.Prelude.{IfSome, IfOk, is_some, is_ok}
use Rattle.std.specs.List.{AllByRecursion}
use Rattle.std.proofs.lemmas.Bool.{false≢true}
use Rattle.std.proofs.lemmas.List.{append_assoc}
use Rattle.smb_head.specs.declared.command.TheConstants.{QUERY_INFO}
use Rattle.smb_head.specs.Stream.{frames_in}
use Rattle.smb_mux.specs.declared.fault.TakeFault.{TakeFault}
use Rattle.smb_mux.specs.declared.taken.Taken.{Taken}
use Rattle.smb_mux.specs.Judged.{judged}
use Rattle.share_state.specs.declared.connection.Sent.{Sent}
use Rattle.share_state.specs.declared.request.Rep.{Rep}
use Rattle.smb_link.specs.Came.{Seen}
use Rattle.smb_link.specs.Story.{is_of_share}
use Rattle.smb_link.specs.declared.event.Event.{Event}
use Rattle.smb_link.specs.declared.event.Event.TheVariants as event
use Rattle.fs_plain.specs.Honest.{IsHonest}
use Rattle.fs_plain.specs.Replies.{command_of, reply_in}
use Rattle.fs_client.specs.View.{Setting, View, Client, no_client}
use Rattle.fs_client.specs.After.{all_after, own}
use Rattle.fs_client.specs.May.{Allowed}
use Rattle.fs_client.specs.Ready.{awaited}
use Rattle.fs_core.specs.declared.fault.CoreFault.TheVariants as fault
use Rattle.fs_core.specs.declared.fault.Protocol.{Protocol}
use Rattle.fs_core.specs.declared.fault.Protocol.TheVariants as protocol
use Rattle.fs_core.specs.declared.input.Input.{Input}
use Rattle.fs_core.specs.declared.input.Input.TheVariants as input
use Rattle.fs_core.specs.Event.{IsUnreadable, CausedBy}
use Rattle.fs_core.specs.Kept.{CoreValue}
use Rattle.fs_refine.specs.Faultless.{IsRead, IsReadable, AreFaultless}
use Rattle.fs_refine.proofs.Begun.{BeginsWell, begins_well}
use Rattle.fs_refine.proofs.Fair.{client_at, allowed_before, fair_at}
use Rattle.fs_ahead.specs.Script.{Coming}
use Rattle.fs_top.specs.declared.run_end.End.{End}
use Rattle.fs_top.specs.declared.run_end.End.TheVariants as end
use Rattle.fs_top.specs.declared.run_end.Wrong.TheVariants as wrong
use Rattle.fs_top.specs.Causing.{IsJustBefore, ComesLast, CauseOf}
use Rattle.fs_top.specs.Closing.{errno_by}
use Rattle.fs_top.specs.Printing.{Held}
use Rattle.fs_top.specs.Run.{joined_client, closings_of, is_foul, IsFair, Unjoined, Turned}
use Rattle.fs_top.specs.Running.{JoinsSo}
use Rattle.fs_top.specs.Turns.{events_in}
use Rattle.fs_top.proofs.Plain.{IsTold, is_told}
use Rattle.fs_top.proofs.Stories.{joined_after}

-- a frame that can be read is not one that cannot
one_of : {X : Type 0} (P : X → Type 0) (before : List X) (x : X) (later : List X) → AllByRecursion P (before ++ x ∷ later) → P x
one_of P [] x later all = all.0
one_of P (b ∷ before) x later all = one_of P before x later all.1

readable_not : (v : View) (frame : List ℕ) → IsReadable v frame → IsUnreadable v frame → ⊥
readable_not v frame readable u = false≢true (sym (ap (λ (o : Option Rep). is_some o) u.unread) ∙ read u.query)
  where
    all : AllByRecursion (IsRead v) u.taken.replies
    all = subst (λ (r : Result Taken TakeFault). IfOk r (λ (t : Taken). AllByRecursion (IsRead v) t.replies)) u.sound readable

    reads : IsRead v u.reply
    reads = one_of (IsRead v) u.before u.reply u.later (subst (AllByRecursion (IsRead v)) u.told all)

    read : command_of u.request.message ≡ QUERY_INFO → is_some (reply_in u.request.mid u.request.message u.reply.part) ≡ true
    read = subst (λ (o : Option Sent). IfSome o (λ (x : Sent). command_of x.message ≡ QUERY_INFO → is_some (reply_in x.mid x.message u.reply.part) ≡ true)) u.sent reads

faultless_not : (v : View) (frame : List ℕ) (f : TakeFault) → is_ok (judged (awaited v) frame) ≡ true → judged (awaited v) frame ≡ Err f → ⊥
faultless_not v frame f sound faulty = false≢true (sym (ap (λ (r : Result Taken TakeFault). is_ok r) faulty) ∙ sound)

-- a frame has no fault for a client, and can be read
abbrev IsClear : View → List ℕ → Type 0
IsClear v frame = (is_ok (judged (awaited v) frame) ≡ true) × IsReadable v frame

-- a client stops at no frame that is clear, but for want of credits
stops_not : (st : Setting) (i : Input) (d d' : Client) (n : ℕ) (why : Protocol) → CausedBy st i d d' (fault.Protocol why) → ((frame : List ℕ) → i ≡ input.Frame frame → IsClear d.view frame)
    → is_foul (end.Frame n (wrong.Protocol why)) ≡ false
stops_not st i d d' n protocol.NoCredit caused clear = refl
stops_not st (input.Frame frame) d d' n (protocol.Head f) caused clear = absurd (faultless_not d.view frame _ (clear frame refl).0 caused)
stops_not st (input.Frame frame) d d' n (protocol.Body f) caused clear = absurd (faultless_not d.view frame _ (clear frame refl).0 caused)
stops_not st (input.Frame frame) d d' n protocol.Chain caused clear = absurd (faultless_not d.view frame _ (clear frame refl).0 caused)
stops_not st (input.Frame frame) d d' n (protocol.Stranger mid) caused clear = absurd (faultless_not d.view frame _ (clear frame refl).0 caused)
stops_not st (input.Frame frame) d d' n (protocol.Info f) caused clear = absurd (readable_not d.view frame (clear frame refl).1 caused)
stops_not st other d d' n why caused clear = absurd caused

-- so a client at which each frame is clear, and whose bytes begin well, does not end by what the server sent
not_foul : (st : Setting) (patience : ℕ) (c : Client) (events : List Event) (why : End) → CauseOf st patience c events why → BeginsWell (all_after st c events).view.held
    → ((frame : List ℕ) (before : Client) → IsJustBefore st c events frame before → IsClear before.view frame) → is_foul why ≡ false
not_foul st patience c events (end.Frame n wrong.Length) cause well clear = absurd (well cause.1.fault cause.1.bad)
not_foul st patience c events (end.Frame n (wrong.Protocol why)) cause well clear =
    stops_not st cause.1.input cause.1.before (all_after st c events) n why cause.1.caused (comes cause.1.input cause.1.comes)
  where
    comes : (i : Input) → ComesLast st c events i cause.1.before → (frame : List ℕ) → i ≡ input.Frame frame → IsClear cause.1.before.view frame
    comes i last frame is = clear frame cause.1.before (subst (λ (j : Input). ComesLast st c events j cause.1.before) is last)
not_foul st patience c events other cause well clear = refl

-- a story whose client's own events end in a receive is told up to there, and from there
record IsCut (story events : List Event) (bytes : List ℕ) : Type 0 where
  before : List Event
  later : List Event
  are : story ≡ before ++ event.Got bytes ∷ later
  mine : own before ≡ events

no_last : (xs : List Event) (e : Event) → [] ≡ xs ++ e ∷ [] → ⊥
no_last [] e is = search rules
no_last (x ∷ xs) e is = search rules

same_parts : (x y : Event) (xs ys : List Event) → x ∷ xs ≡ y ∷ ys → (x ≡ y) × (xs ≡ ys)
same_parts x y xs ys is = (ap (first x) is, ap rest is)
  where
    first : Event → List Event → Event
    first x [] = x
    first x (e ∷ es) = e

    rest : List Event → List Event
    rest [] = []
    rest (e ∷ es) = es

cut_story : (story events : List Event) (bytes : List ℕ) → own story ≡ events ++ event.Got bytes ∷ [] → IsCut story events bytes
cut_story [] events bytes is = absurd (no_last events (event.Got bytes) is)
cut_story (e ∷ story) events bytes is = by (is_of_share e) refl events is (cut_story story)
  where
    kept : (b : Bool) (before : List Event) → is_of_share e ≡ b → own (e ∷ before) ≡ cond (not b) (e ∷ own before) (own before)
    kept b before of = ap (λ (t : Bool). cond (not t) (e ∷ own before) (own before)) of

    by : (b : Bool) → is_of_share e ≡ b → (events : List Event) → cond (not b) (e ∷ own story) (own story) ≡ events ++ event.Got bytes ∷ []
        → ((events : List Event) (bytes : List ℕ) → own story ≡ events ++ event.Got bytes ∷ [] → IsCut story events bytes) → IsCut (e ∷ story) events bytes
    by true of events is deeper =
        let d = deeper events bytes is in
        record { before = e ∷ d.before; later = d.later; are = ap (λ (l : List Event). e ∷ l) d.are; mine = kept true d.before of ∙ d.mine }
    by false of [] is deeper =
        let p = same_parts e (event.Got bytes) (own story) [] is in
        record { before = []; later = story; are = ap (λ (x : Event). x ∷ story) p.0; mine = refl }
    by false of (x ∷ events) is deeper =
        let p = same_parts e x (own story) (events ++ event.Got bytes ∷ []) is in
        let d = deeper events bytes p.1 in
        record {
          before = e ∷ d.before;
          later = d.later;
          are = ap (λ (l : List Event). e ∷ l) d.are;
          mine = kept false d.before of ∙ ap (λ (l : List Event). e ∷ l) d.mine ∙ ap (λ (y : Event). y ∷ events) p.0;
        }

-- At an honest share a frame that comes last is clear to the client before it.
clear_at : (st : Setting) (tries : ℕ) (joining events story closing : List Event) (room : ℕ) (fold : Bool) → JoinsSo tries false (Ok tt) joining → own story ≡ joining ++ events
    → Allowed st no_client (own story) → IsHonest room fold (story ++ closing) → (frame : List ℕ) (before : Client) → IsJustBefore st (joined_client st) events frame before
    → IsClear before.view frame
clear_at st tries joining events story closing room fold joins mine allowed honest frame before j = (faultless.0, faultless.1)
  where
    bytes : List ℕ
    bytes = j.by.bytes

    s : IsCut story (joining ++ j.by.before) bytes
    s = cut_story story (joining ++ j.by.before) bytes
        (mine ∙ ap (λ (l : List Event). joining ++ l) j.by.are ∙ sym (append_assoc joining j.by.before (event.Got bytes ∷ [])))

    whole : story ++ closing ≡ s.before ++ event.Got bytes ∷ (s.later ++ closing)
    whole = ap (λ (l : List Event). l ++ closing) s.are ∙ append_assoc s.before (event.Got bytes ∷ s.later) closing

    here : client_at st s.before ≡ before
    here = ap (all_after st no_client) s.mine ∙ joined_after st tries joining j.by.before joins ∙ sym j.is

    found : AreFaultless (frames_in ((client_at st s.before).view.held ++ bytes)) (client_at st s.before).view
    found = fair_at st (record { room = room; fold = fold }) s.before bytes (s.later ++ closing) (subst (IsHonest room fold) whole honest)
        (allowed_before st s.before (event.Got bytes ∷ s.later) no_client (subst (λ (l : List Event). Allowed st no_client (own l)) s.are allowed))

    faultless : AreFaultless (frame ∷ []) before.view
    faultless = subst (λ (l : List (List ℕ)). AreFaultless l before.view) (ap (λ (c : Client). frames_in (c.view.held ++ bytes)) j.is ∙ j.by.whole)
        (subst (λ (c : Client). AreFaultless (frames_in (c.view.held ++ bytes)) c.view) here found)

turned_fair : (core : CoreValue) (tries patience : ℕ) (script : Option Coming) (faults faults' : ℕ) (told told' : Option (List ℕ)) (why last : End) (link link' : Seen) (out out' : Held)
    (t : Turned core tries patience script faults faults' told told' false why last link link' out out') → link.story ≡ Some [] → (came : List Event) → link'.story ≡ Some came
    → (room : ℕ) (fold : Bool) → IsHonest room fold came → is_foul why ≡ false
turned_fair core tries patience script faults faults' told told' why last link link' out out' t none came all room fold honest =
    not_foul core.setting patience (joined_client core.setting) (events_in t.turns) why t.cause
    (subst (λ (c : Client). BeginsWell c.view.held) x.client
    (begins_well core.setting (record { room = room; fold = fold }) x.is.story closing told_honest x.allowed))
    (clear_at core.setting tries t.joining (events_in t.turns) x.is.story closing room fold t.joined x.is.own x.allowed told_honest)
  where
    x : IsTold core tries patience script faults faults' told told' why last link link' out out' t came
    x = is_told core tries patience script faults faults' told told' why last link link' out out' t came none all

    closing : List Event
    closing = closings_of (errno_by why) t.closed

    told_honest : IsHonest room fold (x.is.story ++ closing)
    told_honest = subst (IsHonest room fold) x.is.are honest

-- connects that came to nothing were sent nothing
unjoined_fair : (tries : ℕ) (stood : Bool) (why : End) (events : List Event) → JoinsSo tries stood (Err why) events → is_foul why ≡ false
unjoined_fair tries stood (end.Frame n what) events so = absurd so
unjoined_fair tries stood other events so = refl

-- A run whose whole story is told, and is one that an honest share tells, does not end by what the server sent.
pub is_fair : (core : CoreValue) (tries patience : ℕ) (script : Option Coming) (faults faults' : ℕ) (told told' : Option (List ℕ)) (stood : Bool) (why last : End) (link link' : Seen) (out out' : Held)
    → Unjoined tries stood faults faults' told told' why last link link' out out'
    ⊎ Turned core tries patience script faults faults' told told' stood why last link link' out out' → IsFair stood link link' why
is_fair core tries patience script faults faults' told told' true why last link link' out out' went is none came all room fold honest = absurd (false≢true (sym is))
is_fair core tries patience script faults faults' told told' false why last link link' out out' (inl u) is none came all room fold honest = unjoined_fair tries false why u.joins.events u.joins.so
is_fair core tries patience script faults faults' told told' false why last link link' out out' (inr t) is none came all room fold honest =
    turned_fair core tries patience script faults faults' told told' why last link link' out out' t none came all room fold honest
