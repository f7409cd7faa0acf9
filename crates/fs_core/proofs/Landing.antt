-- A frame lands: where the core has what a client has, it has what the client has once the bytes came that made the frame whole.
use Rattle.std.proofs.Common.{arith, ◌≡◌, ◌∙◌, refl, sym, ap, subst, ℕ, ◌≤◌, zero, suc, Bool, true, false, if◌then◌else◌, List, [], ◌∷◌, ◌++◌, length, Option, Some, None, Result, Ok, Err, append-nil}
use Rattle.smb_chain.specs.declared.parts.BadNext.{BadNext}
use Rattle.smb_chain.specs.Parts.{parts_of}
use Rattle.smb_credit.specs.Window.{no_request, up_to}
use Rattle.smb_head.specs.Stream.{frames_in}
use Rattle.smb_link.specs.declared.event.Event.TheVariants as event
use Rattle.smb_mux.specs.declared.taken.Reply.{Reply}
use Rattle.smb_mux.specs.declared.taken.Taken.{Taken}
use Rattle.smb_mux.specs.InFlight as mux
use Rattle.smb_mux.specs.Answers.{AreAnswers}
use Rattle.smb_mux.specs.Judged.{judged}
use Rattle.smb_mux.proofs.AnswerLaws.{answers_given}
use Rattle.fs_types.specs.declared.call.Call.{Call}
use Rattle.fs_types.specs.declared.options.Options.{Options}
use Rattle.share_state.specs.declared.connection.Sent.{Sent}
use Rattle.share_state.specs.declared.request.Rep.{Rep}
use Rattle.fs_plain.specs.Replies.{reply_in}
use Rattle.fs_plain.specs.Requests.{WireRequest, wire_request}
use Rattle.fs_plain.specs.Told.{Told}
use Rattle.fs_plain.specs.World.{mid_of, messages_in}
use Rattle.fs_client.specs.View.{Setting, View, Client}
use Rattle.fs_client.specs.After.{made_whole, granted_among, after}
use Rattle.fs_client.specs.Asked.{fits}
use Rattle.fs_client.specs.Looks as looks
use Rattle.fs_client.specs.Looks.{awaited_with, answers_aside, landed_by, looked_reply, looked_as, looked_for, looked, all_looked}
use Rattle.fs_client.specs.Ready.{awaited}
use Rattle.fs_client.specs.Sane.{Sane}
use Rattle.fs_client.specs.Spelled.{ids_of}
use Rattle.fs_client.proofs.Ids.{ids_granted}
use Rattle.fs_client.proofs.Judging.{parts_in}
use Rattle.fs_client.proofs.Readiness.{all_looked_next, got_ready}
use Rattle.fs_core.specs.declared.flight.Flight.{Flight}
use Rattle.fs_core.specs.declared.flight.Kind.{Kind}
use Rattle.fs_core.specs.declared.flight.Kind.TheVariants as kind
use Rattle.fs_core.specs.declared.input.Input.TheVariants as input
use Rattle.fs_core.specs.Kept.{Kept, CoreValue}
use Rattle.fs_core.specs.Event.{Comes}
use Rattle.fs_core.specs.Fits.{IsAt, AreUpTo, Fits}
use Rattle.fs_core.specs.Parts.{is_first}
use Rattle.fs_core.specs.Steps.{gone, next_turn, turned_with, turned, landed, aside_gone, with_frame, LandsAs, LandsFor, waiting_with, Lands, LandAll}
use Rattle.fs_core.proofs.LandingHeard.{all_heard, at_bytes, frame_heard, judged_heard}
use Rattle.fs_core.proofs.LandingPhases.{landed_leaves}
use Rattle.fs_core.proofs.LandingSteps.{Follows, walk_all}
use Rattle.fs_core.proofs.Marking.{at_stays}
use Rattle.fs_core.proofs.MarkingLanded.{comes_landed}

-- looking leaves alone what is told
looked_told : (message : List ℕ) (v : View) → (looked message v).told ≡ v.told
looked_told message v = by (awaited_with (mid_of message) v)
  where
    fit : (x : Sent) (reply : Rep) (t : Bool) → (if t then landed_by (Some x) reply v else v).told ≡ v.told
    fit x reply true = (landed_leaves x reply v).told
    fit x reply false = refl

    at_reply : (x : Sent) (o : Option Rep) → (looked_reply o x v).told ≡ v.told
    at_reply x None = refl
    at_reply x (Some reply) = fit x reply (fits x reply)

    gone : (x : Sent) (t : Bool) → (if t then looks.without x.mid v else v).told ≡ v.told
    gone x true = refl
    gone x false = refl

    asked : (x : Sent) (w : Option WireRequest) → (looked_as w x message v).told ≡ v.told
    asked x None = refl
    asked x (Some WireRequest.Aside) = gone x (answers_aside x message v.told.owners)
    asked x (Some (WireRequest.Share related request)) = at_reply x (reply_in x.mid x.message message)

    by : (o : Option Sent) → (looked_for o message v).told ≡ v.told
    by None = refl
    by (Some x) = asked x (wire_request x.message)

all_looked_told : (parts : List (Result (List ℕ) BadNext)) (v : View) → (all_looked parts v).told ≡ v.told
all_looked_told [] v = refl
all_looked_told (Err bad ∷ parts) v = all_looked_told parts v
all_looked_told (Ok message ∷ parts) v = all_looked_told parts (looked message v) ∙ looked_told message v

-- landing replies leaves alone what the core keeps beside calls, requests and the phase
record Keeps (k l : Kept) : Type 0 where
  mux : l.mux ≡ k.mux
  last : l.last ≡ k.last
  now : l.now ≡ k.now
  ended : l.ended ≡ k.ended

keeps_same : (k l : Kept) → l ≡ k → Keeps k l
keeps_same k l is =
    record { mux = ap (λ (m : Kept). m.mux) is; last = ap (λ (m : Kept). m.last) is; now = ap (λ (m : Kept). m.now) is; ended = ap (λ (m : Kept). m.ended) is }

keeps_then : (k l m : Kept) → Keeps k l → Keeps l m → Keeps k m
keeps_then k l m a b = record { mux = b.mux ∙ a.mux; last = b.last ∙ a.last; now = b.now ∙ a.now; ended = b.ended ∙ a.ended }

turned_keeps : (options : Options) (n : ℕ) (k : Kept) → Keeps k (turned options n k)
turned_keeps options zero k = record { mux = refl; last = refl; now = refl; ended = refl }
turned_keeps options (suc n) k = by (next_turn k.flights k.early) (turned_keeps options n)
  where
    by : (o : Option (Flight × Rep)) → ((l : Kept) → Keeps l (turned options n l)) → Keeps k (turned_with options o (turned options n) k)
    by None others = record { mux = refl; last = refl; now = refl; ended = refl }
    by (Some next) others =
        let h = others (gone options next.0 next.1 k) in
        record { mux = h.mux; last = h.last; now = h.now; ended = h.ended }

landed_keeps : (options : Options) (f : Flight) (reply : Rep) (k : Kept) → Keeps k (landed options f reply k)
landed_keeps options f reply k = by (is_first k.flights f)
  where
    by : (t : Bool) → Keeps k (if t then turned options (length k.early) (gone options f reply k) else record k { early = k.early ++ (f.mid, reply) ∷ [] })
    by true =
        let h = turned_keeps options (length k.early) (gone options f reply k) in
        record { mux = h.mux; last = h.last; now = h.now; ended = h.ended }
    by false = record { mux = refl; last = refl; now = refl; ended = refl }

lands_keeps : (options : Options) (r : Reply) (k l : Kept) → Lands options r k l → Keeps k l
lands_keeps options r k l lands = by (waiting_with r.mid k) lands
  where
    said : (f : Flight) (reply : Rep) → l ≡ landed options f reply k → Keeps k l
    said f reply is = keeps_then k (landed options f reply k) l (landed_keeps options f reply k) (keeps_same (landed options f reply k) l is)

    of_kind : (f : Flight) (a : Kind) → LandsAs options a f r.part k l → Keeps k l
    of_kind f kind.Open lands = said f lands.0 lands.2
    of_kind f kind.Query lands = said f lands.0 lands.2
    of_kind f kind.Close lands = said f lands.0 lands.2
    of_kind f kind.Aside lands =
        keeps_then k (aside_gone f l.phase k) l (record { mux = refl; last = refl; now = refl; ended = refl }) (keeps_same (aside_gone f l.phase k) l lands.1)

    by : (o : Option Flight) → LandsFor options o r.part k l → Keeps k l
    by None is = keeps_same k l is
    by (Some f) lands = of_kind f f.kind lands

land_keeps : (options : Options) (rs : List Reply) (k l : Kept) → LandAll options rs k l → Keeps k l
land_keeps options [] k l is = keeps_same k l is
land_keeps options (r ∷ rs) k l land = keeps_then k land.0 l (lands_keeps options r k land.0 land.1) (land_keeps options rs land.0 l land.2)

-- the bytes came, and what they make whole is not looked at yet
pub bytes_sane : (st : Setting) (bytes : List ℕ) (c : Client) → Sane c.view → Sane (at_bytes st bytes c).view
bytes_sane st bytes c sane = record {
  flies = sane.flies;
  owned = sane.owned;
  apart = sane.apart;
  used = sane.used;
  begun = sane.begun;
  sent = sane.sent;
  rising = sane.rising;
  early = sane.early;
  no_place = sane.no_place;
  no_lease = sane.no_lease;
}

bytes_at : (st : Setting) (bytes : List ℕ) (k : Kept) (c : Client) → IsAt st k.phase c → IsAt st k.phase (at_bytes st bytes c)
bytes_at st bytes k c at = at_stays st k.phase c (at_bytes st bytes c)
    (record { connected = refl; exchanges = refl; flights = refl; items = λ none. none; ended = λ over. over }) at

pub bytes_follow : (st : Setting) (bytes frame : List ℕ) (taken : Taken) (k : Kept) (c : Client) → Sane c.view → Fits st k c
    → Follows st (with_frame frame taken k) (at_bytes st bytes c)
bytes_follow st bytes frame taken k c sane fit = record {
  walks = record { slots = fit.slots; flights = fit.flights; early = fit.early };
  phase = bytes_at st bytes k c fit.phase;
  whole = fit.ready.whole;
  sane = bytes_sane st bytes c sane;
}

-- the replies of a frame are answers to what the client awaits
pub bytes_answer : (st : Setting) (bytes frame : List ℕ) (taken : Taken) (k : Kept) (c : Client) → Fits st k c → judged k.mux.awaited frame ≡ Ok taken
    → AreAnswers (awaited (at_bytes st bytes c).view) taken.replies
bytes_answer st bytes frame taken k c fit sound =
    subst (λ (l : List (ℕ × ℕ)). AreAnswers l taken.replies) fit.awaited (answers_given k.mux.awaited frame taken sound).0

-- and hearing the frame is hearing them
pub bytes_heard : (st : Setting) (bytes frame : List ℕ) (taken : Taken) (k : Kept) (c : Client) → Sane c.view → Fits st k c
    → judged k.mux.awaited frame ≡ Ok taken
    → frames_in (c.view.held ++ bytes) ≡ frame ∷ [] → after st c (event.Got bytes) ≡ all_heard (parts_in taken.replies) (at_bytes st bytes c)
bytes_heard st bytes frame taken k c sane fit sound whole =
    frame_heard st bytes frame c whole
    ∙ judged_heard k.mux.awaited frame taken (at_bytes st bytes c) (bytes_sane st bytes c sane)
    (below c.view.next c.tally.granted no_request fit.ready.used fit.ready.granted) sound
  where
    below : (a b d : ℕ) → a ≤ b → b ≤ d → a ≤ d
    below a b d p q = omega (arith, p, q)

-- the ids that may be used then
ids_grow : (st : Setting) (bytes frame : List ℕ) (k : Kept) (c : Client) → Fits st k c → frames_in (c.view.held ++ bytes) ≡ frame ∷ [] → c.view.connected ≡ true
    → mux.granted_in frame k.mux.ids ≡ ids_of (after st c (event.Got bytes))
ids_grow st bytes frame k c fit whole stands =
    ap (mux.granted_in frame) (fit.ids stands)
    ∙ (ids_granted (parts_of frame) c.view.next c.tally.granted fit.ready.granted).0
    ∙ ap (λ (parts : List (Result (List ℕ) BadNext)). up_to c.view.next (granted_among parts c.tally.granted))
    (sym (ap messages_in whole ∙ append-nil (parts_of frame)))
    ∙ ap (λ (n : ℕ). up_to n (after st c (event.Got bytes)).tally.granted)
    (sym (all_looked_next (made_whole bytes c.view) (at_bytes st bytes c).view))

-- what is told, beside what is known of the server
record TellsAs (t u : Told) : Type 0 where
  begun : u.begun ≡ t.begun
  now : u.now ≡ t.now
  ended : u.ended ≡ t.ended
  announced : u.announced ≡ t.announced

got_tells : (st : Setting) (bytes : List ℕ) (c : Client) → TellsAs c.view.told (after st c (event.Got bytes)).view.told
got_tells st bytes c =
    let is = all_looked_told (made_whole bytes c.view) (at_bytes st bytes c).view in
    record {
      begun = ap (λ (t : Told). t.begun) is;
      now = ap (λ (t : Told). t.now) is;
      ended = ap (λ (t : Told). t.ended) is;
      announced = ap (λ (t : Told). t.announced) is;
    }

pub frame_fits : (st : Setting) (bytes frame : List ℕ) (taken : Taken) (k k' : Kept) (c : Client) → judged k.mux.awaited frame ≡ Ok taken
    → LandAll st.options taken.replies (with_frame frame taken k) k'
    → Sane c.view → Fits st k c → c.view.connected ≡ true → frames_in (c.view.held ++ bytes) ≡ frame ∷ [] → Fits st k' (after st c (event.Got bytes))
frame_fits st bytes frame taken k k' c sound land sane fit stands whole =
    let walked = walk_all st taken.replies (with_frame frame taken k) k' (at_bytes st bytes c)
    (bytes_follow st bytes frame taken k c sane fit) (bytes_answer st bytes frame taken k c fit sound) land in
    let is : after st c (event.Got bytes) ≡ all_heard (parts_in taken.replies) (at_bytes st bytes c) =
    bytes_heard st bytes frame taken k c sane fit sound whole in
    let follows = subst (Follows st k') (sym is) walked.follows in
    let keeps = land_keeps st.options taken.replies (with_frame frame taken k) k' land in
    let tells = got_tells st bytes c in
    record {
      slots = follows.walks.slots;
      flights = follows.walks.flights;
      early = follows.walks.early;
      ids = λ stands'. ap (λ (m : mux.InFlight). m.ids) keeps.mux ∙ ids_grow st bytes frame k c fit whole stands;
      awaited =
          ap (λ (m : mux.InFlight). m.awaited) keeps.mux ∙ ap (mux.without taken.replies) fit.awaited ∙ sym walked.awaits
          ∙ ap (λ (d : Client). awaited d.view) (sym is);
      phase = follows.phase;
      last =
          subst (λ (l : List (ℕ × Call)). AreUpTo k'.last l) (sym tells.begun)
          (subst (λ (n : Option ℕ). AreUpTo n c.view.told.begun) (sym keeps.last) fit.last);
      now = keeps.now ∙ fit.now ∙ sym tells.now;
      ended = keeps.ended ∙ fit.ended ∙ sym tells.ended;
      idle = tells.announced ∙ fit.idle;
      ready = got_ready st c bytes fit.ready;
    }

-- the clause of the core's function that takes a frame in
pub frame_comes : (frame : List ℕ) (taken : Taken) (old new : CoreValue) → judged old.kept.mux.awaited frame ≡ Ok taken
    → LandAll old.setting.options taken.replies (with_frame frame taken old.kept) new.kept → new.setting ≡ old.setting → new.outs ≡ old.outs
    → Comes (input.Frame frame) old new
frame_comes frame taken old new sound land setting outs = comes_landed frame taken old new setting outs land
    (λ c c' sane fit brought. subst (Fits old.setting new.kept) (sym brought.3)
    (frame_fits old.setting brought.0 frame taken old.kept new.kept c sound land sane fit brought.1 brought.2))
