-- A frame that stops the core has a cause: what is judged of it, a refusal of the mount, or an information that cannot be read.
use Rattle.std.proofs.Common.{◌≡◌, ◌∙◌, refl, sym, ap, subst, ℕ, ◌==◌, Bool, true, false, if◌then◌else◌, ◌&&◌, ◌||◌, List, [], ◌∷◌, ◌++◌, Some, None, Result, Ok, Err, append_assoc, is_some, is_none}
use Rattle.std.specs.Prelude.{is_ok}
use Rattle.std.proofs.lemmas.Bool.{false≢true}
use Rattle.smb_base.specs.declared.names.Mid.{Mid}
use Rattle.smb_head.specs.declared.command.TheConstants.{NEGOTIATE, SESSION_SETUP, TREE_CONNECT, CREATE, CLOSE, QUERY_INFO}
use Rattle.smb_head.specs.declared.head.Head.{Head}
use Rattle.smb_head.specs.declared.head.HeadFault.{HeadFault}
use Rattle.smb_head.specs.Header.{head_of}
use Rattle.smb_field.specs.declared.field.BodyFault.{BodyFault}
use Rattle.smb_field.specs.Faults.{error_fault}
use Rattle.smb_body_c.specs.Directory.{buffer_reply_of}
use Rattle.smb_mount.specs.declared.fault.MountFault.{MountFault}
use Rattle.smb_mount.specs.declared.fault.MountFault.TheVariants as mount_fault
use Rattle.smb_mux.specs.declared.taken.Reply.{Reply}
use Rattle.smb_mux.specs.declared.taken.Taken.{Taken}
use Rattle.smb_mux.specs.Answers.{IsAnswerTo, AreAnswers}
use Rattle.smb_mux.specs.Bodies as mux
use Rattle.smb_mux.specs.Judged.{judged}
use Rattle.share_state.specs.declared.connection.Sent.{Sent}
use Rattle.share_state.specs.declared.request.RepBody.TheVariants as body
use Rattle.share_state.specs.Sent.{sent_with}
use Rattle.fs_plain.specs.Masked.{Untold, untold}
use Rattle.fs_plain.specs.Replies.{command_of, is_error, info_of, info_in, reply_of, reply_by_status}
use Rattle.fs_plain.specs.Requests.{WireRequest, wire_request}
use Rattle.fs_client.specs.View.{Setting, Exchange, Client}
use Rattle.fs_client.specs.After.{exchanges_among}
use Rattle.fs_client.specs.Mount.{Stage, Unmounted, Agreed, Challenging, InSession, LeadTo, at_first}
use Rattle.fs_client.specs.Ready.{awaited}
use Rattle.fs_client.specs.Sane.{Sane}
use Rattle.fs_client.proofs.Bodies.{error_is, query_agrees}
use Rattle.fs_client.proofs.Judging.{parts_in}
use Rattle.fs_client.proofs.Lists.{some_is, found}
use Rattle.fs_core.specs.declared.fault.CoreFault.{CoreFault}
use Rattle.fs_core.specs.declared.fault.CoreFault.TheVariants as fault
use Rattle.fs_core.specs.declared.fault.Protocol.TheVariants as protocol
use Rattle.fs_core.specs.declared.flight.Flight.{Flight}
use Rattle.fs_core.specs.declared.flight.Kind.{Kind}
use Rattle.fs_core.specs.declared.flight.Kind.TheVariants as kind
use Rattle.fs_core.specs.declared.input.Input.TheVariants as input
use Rattle.fs_core.specs.declared.phase.Phase.{Phase}
use Rattle.fs_core.specs.declared.phase.Phase.TheVariants as phase
use Rattle.fs_core.specs.Kept.{Kept, CoreValue}
use Rattle.fs_core.specs.Event.{FailsAt, IsRefused, IsUnreadable, CausedBy, IsFaultOf}
use Rattle.fs_core.specs.Fits.{IsOfKind, IsAt, Fits}
use Rattle.fs_core.specs.Going.{mount_fault_for, HasNoBody, StopsSaid, StopsAs, StopsWith, StopsAmong}
use Rattle.fs_core.specs.Seen.{is_done}
use Rattle.fs_core.specs.Steps.{with_frame, FailsIn, said_by, said_in, LandAll}
use Rattle.fs_core.proofs.Landing.{bytes_follow, bytes_answer, bytes_heard}
use Rattle.fs_core.proofs.LandingAwaited.{awaited_found, answers_left}
use Rattle.fs_core.proofs.LandingHeard.{heard, all_heard, all_heard_is, at_bytes, replies_append}
use Rattle.fs_core.proofs.LandingMounts.{HasBodyWith, HasBody, negotiate_sound, setup_sound, session_sound, tree_sound}
use Rattle.fs_core.proofs.LandingPhases.{at_most_gone}
use Rattle.fs_core.proofs.LandingSaid.{IsFinal, said_is, aside_body, create_speaks, close_speaks}
use Rattle.fs_core.proofs.LandingSteps.{Follows, Meets, meets, heard_aside, steps}

-- the replies before one have landed
record Reached (st : Setting) (k : Kept) (r : Reply) (c : Client) : Type 0 where
  follows : Follows st k c
  answer : IsAnswerTo (awaited c.view) r

walk_to : (st : Setting) (before : List Reply) (r : Reply) (later : List Reply) (k k' : Kept) (c : Client) → Follows st k c
    → AreAnswers (awaited c.view) (before ++ r ∷ later) → LandAll st.options before k k'
    → Reached st k' r (all_heard (parts_in before) c)
walk_to st [] r later k k' c follows answers land = record { follows = subst (λ (l : Kept). Follows st l c) (sym land) follows; answer = answers.0 }
walk_to st (b ∷ before) r later k k' c follows answers land =
    let one = steps st k land.0 b c follows answers.0 land.1 in
    walk_to st before r later land.0 k' (heard b.part c) one.follows
    (subst (λ (l : List (ℕ × ℕ)). AreAnswers l (before ++ r ∷ later)) (sym one.awaits)
    (answers_left b.mid.0 (awaited c.view) (before ++ r ∷ later) answers.1 answers.2)) land.2

answer_of : (es : List (ℕ × ℕ)) (before : List Reply) (r : Reply) (later : List Reply) → AreAnswers es (before ++ r ∷ later) → IsAnswerTo es r
answer_of es [] r later answers = answers.0
answer_of es (b ∷ before) r later answers = answer_of es before r later answers.2

-- an accepted reply to a QUERY_INFO has its body
query_done : (status : ℕ) → mux.is_done status QUERY_INFO ≡ is_done status QUERY_INFO
query_done status = by (status == 0) (status == 0x80000005) (status == 0xC0000016)
  where
    by : (a b c : Bool) → (a || (b && true) || (c && false)) ≡ (a || (b && true))
    by true b c = refl
    by false true c = refl
    by false false true = refl
    by false false false = refl

query_speaks : (status : ℕ) (part : List ℕ) → mux.reply_fault status QUERY_INFO part ≡ None → reply_by_status Untold.Nothing status QUERY_INFO part ≡ None
    → (is_done status QUERY_INFO ≡ true → is_ok (buffer_reply_of part) ≡ false) → ⊥
query_speaks status part sound unsaid unread = by (is_done status QUERY_INFO) refl
  where
    informs : is_ok (buffer_reply_of part) ≡ false → (info : List ℕ) → buffer_reply_of part ≡ Ok info → is_some (info_of Untold.Nothing info) ≡ true
    informs none info is = absurd (false≢true (sym none ∙ ap is_ok is))

    errors : (t : Bool) → (if t then reply_of status (Some body.None) else None) ≡ None → t ≡ true → ⊥
    errors true none is = cc
    errors false none is = false≢true is

    by : (t : Bool) → is_done status QUERY_INFO ≡ t → ⊥
    by true is = false≢true (ap is_some (sym unsaid) ∙ query_agrees status part (informs (unread is)) ∙ ap is_none sound)
    by false is = errors (is_error part)
        (sym (ap (λ (b : Bool). if b then reply_of 0 (info_in Untold.Nothing part) else if is_error part then reply_of status (Some body.None) else None) is)
        ∙ unsaid)
        (sym (error_is part)
        ∙ sym (ap (λ (b : Bool). is_none (if b then mux.done_fault QUERY_INFO part else error_fault part)) (query_done status ∙ is)) ∙ ap is_none sound)

-- no accepted reply to a request of a call has a fault of its header or of its body
no_head : {A : Type 0} (x : Sent) (part : List ℕ) (f : IsFinal x part) (e : HeadFault) → head_of part ≡ Err e → A
no_head x part f e is = absurd (never (sym f.headed ∙ is))
  where
    never : ◌≡◌ {A = Result Head HeadFault} (Ok f.head) (Err e) → ⊥
    never is = cc

query_body : (x : Sent) (part : List ℕ) (f : IsFinal x part) → command_of x.message ≡ QUERY_INFO → HasNoBody QUERY_INFO part (head_of part) → ⊥
query_body x part f is none =
    let n = subst (HasNoBody QUERY_INFO part) f.headed none in
    query_speaks f.head.status.0 part (ap (λ (n : ℕ). mux.reply_fault f.head.status.0 n part) (sym (f.command ∙ is)) ∙ f.body)
    (sym (ap (λ (h : Result Head HeadFault). said_by h QUERY_INFO part) f.headed) ∙ n.0) (λ done. n.1 done refl)

-- what the client has once an exchange ended the mount
record Ended (d c' : Client) (e : Exchange) : Type 0 where
  later : List Exchange
  told : c'.tally.exchanges ≡ d.tally.exchanges ++ e ∷ later

ended : (k : Kept) (d c' : Client) (r : Reply) (later : List Reply) (m : Meets k d.view r) → Sane d.view
    → wire_request m.request.message ≡ Some WireRequest.Aside → c' ≡ all_heard (parts_in (r ∷ later)) d
    → Ended d c' (record { request = m.request.message; reply = r.part })
ended k d c' r later m sane aside is = record {
  later = exchanges_among (parts_in later) (heard r.part d).view;
  told = ap (λ (e : Client). e.tally.exchanges) (is ∙ sym (all_heard_is (parts_in later) (heard r.part d)))
      ∙ ap (λ (e : Client). e.tally.exchanges ++ exchanges_among (parts_in later) (heard r.part d).view) (heard_aside k d r m sane aside)
      ∙ append_assoc d.tally.exchanges (record { request = m.request.message; reply = r.part } ∷ []) (exchanges_among (parts_in later) (heard r.part d).view);
}

-- the mount fails in a phase: at the stage to which the exchanges so far lead, and with no malformed body
record FailsSo (st : Setting) (d : Client) (part : List ℕ) (why : MountFault) : Type 0 where
  stage : Stage
  come : LeadTo (at_first st) d.tally.exchanges stage
  fails : FailsAt stage part why
  well : (b : BodyFault) → why ≡ mount_fault.Malformed b → ⊥

fails_so : (st : Setting) (p : Phase) (d : Client) (x : Sent) (part : List ℕ) (why : MountFault) → sent_with x.mid d.view.flights ≡ Some x
    → HasBody (command_of x.message) part → IsAt st p d
    → FailsIn p part why → FailsSo st d part why
fails_so st (phase.Apart start) d x part why there body at fails = absurd fails
fails_so st (phase.Greeting k) d x part why there body at fails = record {
  stage = Unmounted k;
  come = at.come;
  fails = fails;
  well = λ b is. negotiate_sound k part why b (subst (λ (n : ℕ). HasBody n part) (at_most_gone NEGOTIATE d.view.flights x at.asked there).1 body) fails is;
}
fails_so st (phase.SettingUp k) d x part why there body at fails = record {
  stage = Agreed k;
  come = at.come;
  fails = fails;
  well = λ b is. setup_sound k part why b (subst (λ (n : ℕ). HasBody n part) (at_most_gone SESSION_SETUP d.view.flights x at.asked there).1 body) fails is;
}
fails_so st (phase.Answering k) d x part why there body at fails = record {
  stage = Challenging k;
  come = at.come;
  fails = fails;
  well = λ b is. session_sound k part why b (subst (λ (n : ℕ). HasBody n part) (at_most_gone SESSION_SETUP d.view.flights x at.asked there).1 body) fails is;
}
fails_so st (phase.Joining k) d x part why there body at fails = record {
  stage = InSession k;
  come = at.come;
  fails = fails;
  well = λ b is. tree_sound k part why b (subst (λ (n : ℕ). HasBody n part) (at_most_gone TREE_CONNECT d.view.flights x at.asked there).1 body) fails is;
}
fails_so st (phase.On facts) d x part why there body at fails = absurd fails
fails_so st (phase.LeavingTree facts) d x part why there body at fails = absurd fails
fails_so st (phase.LeavingSession facts) d x part why there body at fails = absurd fails
fails_so st phase.Left d x part why there body at fails = absurd fails
fails_so st phase.Lost d x part why there body at fails = absurd fails

refused_by : (st : Setting) (frame : List ℕ) (c c' : Client) (why : MountFault) → IsRefused st c' why → ((b : BodyFault) → why ≡ mount_fault.Malformed b → ⊥)
    → CausedBy st (input.Frame frame) c c' (mount_fault_for why)
refused_by st frame c c' (mount_fault.Malformed b) refused well = absurd (well b refl)
refused_by st frame c c' mount_fault.NoMemory refused well = record {}
refused_by st frame c c' (mount_fault.Dialect dialect) refused well = refused
refused_by st frame c c' mount_fault.SigningRequired refused well = refused
refused_by st frame c c' (mount_fault.Session status) refused well = refused
refused_by st frame c c' mount_fault.NotGuest refused well = refused
refused_by st frame c c' (mount_fault.Tree status) refused well = refused
refused_by st frame c c' (mount_fault.NotDisk share) refused well = refused

-- a reply that is accepted stops the core
record Stopping (st : Setting) (frame : List ℕ) (c c' : Client) (k : Kept) (d : Client) (r : Reply) : Type 0 where
  meet : Meets k d.view r
  follows : Follows st k d
  refuses : wire_request meet.request.message ≡ Some WireRequest.Aside → Ended d c' (record { request = meet.request.message; reply = r.part })
  unread : command_of meet.request.message ≡ QUERY_INFO → said_in QUERY_INFO r.part ≡ None → IsUnreadable c.view frame

stopped_said : (st : Setting) (frame : List ℕ) (c c' d : Client) (k : Kept) (r : Reply) (s : Stopping st frame c c' k d r) (command : ℕ) (f : CoreFault)
    → (HasNoBody command r.part (head_of r.part) → ⊥) → (command ≡ QUERY_INFO → said_in command r.part ≡ None → IsUnreadable c.view frame)
    → StopsSaid command r.part f → CausedBy st (input.Frame frame) c c' f
stopped_said st frame c c' d k r s command fault.NoMemory body info stops = record {}
stopped_said st frame c c' d k r s command (fault.Protocol (protocol.Head e)) body info stops = no_head s.meet.request r.part s.meet.final e stops
stopped_said st frame c c' d k r s command (fault.Protocol (protocol.Body e)) body info stops = absurd (body stops)
stopped_said st frame c c' d k r s command (fault.Protocol (protocol.Info e)) body info stops = info stops.0 stops.1
stopped_said st frame c c' d k r s command (fault.Protocol protocol.Chain) body info stops = absurd stops
stopped_said st frame c c' d k r s command (fault.Protocol (protocol.Stranger mid)) body info stops = absurd stops
stopped_said st frame c c' d k r s command (fault.Protocol protocol.NoCredit) body info stops = absurd stops
stopped_said st frame c c' d k r s command (fault.Refused why) body info stops = absurd stops

no_body : (command : ℕ) (part : List ℕ) (h : Result Head HeadFault) → HasNoBody command part h → said_in command part ≡ None
no_body command part (Err e) none = absurd none
no_body command part (Ok head) none = none.0

stopped : (st : Setting) (frame : List ℕ) (c c' d : Client) (k : Kept) (r : Reply) (s : Stopping st frame c c' k d r) (a : Kind)
    (related : Bool) (f : CoreFault) → IsOfKind a related s.meet.request
    → StopsAs a r.part k f → CausedBy st (input.Frame frame) c c' f
stopped st frame c c' d k r s kind.Open related f of stops =
    stopped_said st frame c c' d k r s CREATE f (λ none. create_speaks s.meet.request r.part s.meet.final of.2 (no_body CREATE r.part (head_of r.part) none))
    (λ is none. absurd (create_speaks s.meet.request r.part s.meet.final of.2 none)) stops
stopped st frame c c' d k r s kind.Query related f of stops =
    stopped_said st frame c c' d k r s QUERY_INFO f (query_body s.meet.request r.part s.meet.final of.1) (λ is none. s.unread of.1 none) stops
stopped st frame c c' d k r s kind.Close related f of stops =
    stopped_said st frame c c' d k r s CLOSE f (λ none. close_speaks s.meet.request r.part s.meet.final of.1 (no_body CLOSE r.part (head_of r.part) none))
    (λ is none. absurd (close_speaks s.meet.request r.part s.meet.final of.1 none)) stops
stopped st frame c c' d k r s kind.Aside related f of stops =
    let e = s.refuses of.1 in
    let so = fails_so st k.phase d s.meet.request r.part stops.0 s.meet.there
    (subst (λ (h : Result Head HeadFault). HasBodyWith h (command_of s.meet.request.message) r.part) (sym s.meet.final.headed)
    (aside_body s.meet.request r.part s.meet.final of.1))
    s.follows.phase stops.1 in
    subst (CausedBy st (input.Frame frame) c c') (sym stops.2)
    (refused_by st frame c c' stops.0 (record {
      before = d.tally.exchanges;
      exchange = record { request = s.meet.request.message; reply = r.part };
      later = e.later;
      told = e.told;
      stage = so.stage;
      come = so.come;
      fails = so.fails;
    }) so.well)

-- an information that cannot be read
unreadable : (frame : List ℕ) (taken : Taken) (k : Kept) (c : Client) (st : Setting) (before : List Reply) (r : Reply) (later : List Reply) → Fits st k c
    → judged k.mux.awaited frame ≡ Ok taken
    → taken.replies ≡ before ++ r ∷ later → (answer : IsAnswerTo (awaited c.view) r) → answer.head.command ≡ QUERY_INFO → said_in QUERY_INFO r.part ≡ None
    → IsUnreadable c.view frame
unreadable frame taken k c st before r later fit sound told answer query none =
    let a = awaited_found r.mid answer.head.command c.view answer.command in
    let f = found (λ (y : Sent). untold y.message ≡ Untold.Nothing) r.mid c.view.flights a.request a.there fit.ready.whole in
    record {
      taken = taken;
      sound = ap (λ (l : List (ℕ × ℕ)). judged l frame) (sym fit.awaited) ∙ sound;
      before = before;
      reply = r;
      later = later;
      told = told;
      request = a.request;
      sent = a.there;
      query = a.command_is ∙ query;
      unread = said_is a.request r.part QUERY_INFO (record {
        head = answer.head;
        headed = answer.headed;
        mid = ap (λ (m : Mid). m.0) answer.mid ∙ sym f.1;
        command = sym a.command_is;
        flagged = answer.flagged;
        final = answer.final;
        body = answer.body;
      }) f.0 (a.command_is ∙ query) ∙ none;
    }

same_head : (a b : Head) (h : Result Head HeadFault) → h ≡ Ok a → h ≡ Ok b → a ≡ b
same_head a b h is is' = the (sym is ∙ is')
  where
    the : ◌≡◌ {A = Result Head HeadFault} (Ok a) (Ok b) → a ≡ b
    the is = cc

-- a frame that is accepted, and of whose replies one stops the core
pub frame_stops : (frame : List ℕ) (taken : Taken) (old : CoreValue) (f : CoreFault) → judged old.kept.mux.awaited frame ≡ Ok taken
    → StopsAmong old.setting.options taken.replies (with_frame frame taken old.kept) f → IsFaultOf (input.Frame frame) old f
frame_stops frame taken old f sound s = λ c c' sane fit brought.
    let st : Setting = old.setting in
    let bytes : List ℕ = brought.0 in
    let c0 : Client = at_bytes st bytes c in
    let d : Client = all_heard (parts_in s.before) c0 in
    let answers = subst (AreAnswers (awaited c.view)) s.told (bytes_answer st bytes frame taken old.kept c fit sound) in
    let reached = walk_to st s.before s.reply s.later (with_frame frame taken old.kept) s.between c0
    (bytes_follow st bytes frame taken old.kept c sane fit) answers s.land in
    let m = meets st.options s.between d.view s.reply reached.follows.walks reached.answer in
    let answer = answer_of (awaited c.view) s.before s.reply s.later answers in
    let is : c' ≡ all_heard (parts_in (s.reply ∷ s.later)) d =
    brought.3 ∙ bytes_heard st bytes frame taken old.kept c sane fit sound brought.2
    ∙ ap (λ (rs : List Reply). all_heard (parts_in rs) c0) s.told ∙ replies_append s.before (s.reply ∷ s.later) c0 in
    stopped st frame c c' d s.between s.reply (record {
      meet = m;
      follows = reached.follows;
      refuses = λ aside. ended s.between d c' s.reply s.later m reached.follows.sane aside is;
      unread = λ query none. unreadable frame taken old.kept c st s.before s.reply s.later fit sound s.told answer
          (ap (λ (h : Head). h.command) (same_head answer.head m.final.head (head_of s.reply.part) answer.headed m.final.headed) ∙ m.final.command
          ∙ query) none;
    }) m.flight.kind m.flight.related f m.flies.kind
    (subst (λ (g : Flight). StopsWith g s.reply.part s.between f) (some_is s.stops.flight m.flight (sym s.stops.waits ∙ m.waits)) s.stops.stops)
