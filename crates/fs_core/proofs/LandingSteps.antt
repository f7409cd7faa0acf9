-- A reply that is accepted lands: where the core has what the client has, it has that once the client heard the reply.
use Rattle.std.proofs.Common.{◌≡◌, ◌∙◌, refl, sym, ap, subst, ℕ, zero, suc, length, ◌==◌, Bool, true, false, if◌then◌else◌, not, ◌&&◌, List, [], ◌∷◌, ◌++◌, Option, Some, None, append-nil, is_none}
use Rattle.smb_base.specs.declared.names.Mid.{Mid}
use Rattle.smb_head.specs.declared.command.TheConstants.{CREATE, CLOSE, QUERY_INFO}
use Rattle.smb_mux.specs.declared.taken.Reply.{Reply}
use Rattle.smb_mux.specs.Answers.{IsAnswerTo, AreAnswers}
use Rattle.smb_mux.specs.InFlight.{without}
use Rattle.share_state.specs.declared.connection.Sent.{Sent}
use Rattle.share_state.specs.declared.request.Rep.{Rep}
use Rattle.share_state.specs.declared.request.Req.{Req}
use Rattle.share_state.specs.Sent.{sent_but, sent_with}
use Rattle.fs_types.specs.declared.options.Options.{Options}
use Rattle.fs_plain.specs.Masked.{Untold, untold}
use Rattle.fs_plain.specs.Requests.{WireRequest, wire_request}
use Rattle.fs_plain.specs.Owners.{Owner}
use Rattle.fs_plain.specs.Replies.{command_of, reply_in, is_aside_reply}
use Rattle.fs_plain.specs.World.{mid_of}
use Rattle.fs_client.specs.View.{Setting, Exchange, View, Client}
use Rattle.fs_client.specs.Asked.{creates, fits}
use Rattle.fs_client.specs.After.{exchange_as, exchange_by}
use Rattle.fs_client.specs.Looks as looks
use Rattle.fs_client.specs.Looks.{is_early, awaited_with, landed_by, looked_reply, looked_as, looked_for}
use Rattle.fs_client.specs.Ready.{awaited, AreWhole}
use Rattle.fs_client.specs.Sane.{Sane}
use Rattle.fs_client.proofs.Lists.{all_filter, all_of, found}
use Rattle.fs_client.proofs.Judging.{parts_in}
use Rattle.fs_client.proofs.Landing.{found_at, looked_sane}
use Rattle.fs_core.specs.declared.flight.Flight.{Flight}
use Rattle.fs_core.specs.declared.flight.Kind.{Kind}
use Rattle.fs_core.specs.declared.flight.Kind.TheVariants as kind
use Rattle.fs_core.specs.declared.phase.Phase.{Phase}
use Rattle.fs_core.specs.Kept.{Kept}
use Rattle.fs_core.specs.Fits.{IsOfShare, IsOfKind, Flies, AllFly, IsAt}
use Rattle.fs_core.specs.Parts.{flight_with, flights_but, is_first, is_held}
use Rattle.fs_core.specs.Steps.{is_open, gone, next_turn, turned_with, turned, landed, said_in, LandsSaid, LandsAs, LandsFor, waiting_with, Lands, LandAll}
use Rattle.fs_core.proofs.LandingLists.{flight_found, but_fly, creates_is}
use Rattle.fs_core.proofs.LandingTurns.{Walks, landed_walks}
use Rattle.fs_core.proofs.LandingAwaited.{awaited_but, landed_awaits, without_awaits, awaited_without, awaited_found, answers_left}
use Rattle.fs_core.proofs.LandingHeard.{hears, heard, all_heard}
use Rattle.fs_core.proofs.LandingSaid.{IsFinal, mid_is, said_is, aside_said, create_said, query_said, close_said}
use Rattle.fs_core.proofs.LandingPhases.{aside_nobodys, asided, aside_phase, landed_all, landed_at, landed_phase}

-- what replies leave true of the core and of the client
pub record Follows (st : Setting) (k : Kept) (c : Client) : Type 0 where
  pub walks : Walks st.options k c.view
  pub phase : IsAt st k.phase c
  pub whole : AreWhole c.view.flights
  pub sane : Sane c.view

-- the request that a reply answers, on both sides
pub record Meets (k : Kept) (v : View) (r : Reply) : Type 0 where
  pub request : Sent
  pub flight : Flight
  pub there : sent_with request.mid v.flights ≡ Some request
  pub id : request.mid.0 ≡ r.mid.0
  pub fresh : is_early request.mid v.early ≡ false
  pub flies : Flies v.told.owners flight request
  pub waits : waiting_with r.mid k ≡ Some flight
  pub final : IsFinal request r.part
  pub heard_as : awaited_with (mid_of r.part) v ≡ Some request

pub meets : (options : Options) (k : Kept) (v : View) (r : Reply) → Walks options k v → IsAnswerTo (awaited v) r → Meets k v r
meets options k v r walks answer =
    let a = awaited_found r.mid answer.head.command v answer.command in
    let f = flight_found v.told.owners r.mid k.flights v.flights a.request walks.flights a.there in
    let id : a.request.mid.0 ≡ r.mid.0 = (found (λ (z : Sent). Unit {0}) r.mid v.flights a.request a.there
    (all_of (λ (z : Sent). Unit {0}) v.flights (λ z. record {}))).1 in
    record {
      request = a.request;
      flight = f.flight;
      there = found_at r.mid v.flights a.request a.there;
      id = id;
      fresh = ap (λ (n : ℕ). is_early (record { 0 = n }) v.early) id ∙ a.fresh;
      flies = f.flies;
      waits = ap (λ (early : List (Mid × Rep)). if is_held r.mid early then None else flight_with r.mid k.flights) walks.early
          ∙ ap (λ (b : Bool). if b then None else flight_with r.mid k.flights) a.fresh ∙ f.there;
      final = record {
        head = answer.head;
        headed = answer.headed;
        mid = ap (λ (m : Mid). m.0) answer.mid ∙ sym id;
        command = sym a.command_is;
        flagged = answer.flagged;
        final = answer.final;
        body = answer.body;
      };
      heard_as = ap (λ (n : ℕ). awaited_with (record { 0 = n }) v) (mid_is r.part answer.head answer.headed ∙ ap (λ (m : Mid). m.0) answer.mid)
          ∙ ap (λ (b : Bool). if b then None else sent_with r.mid v.flights) a.fresh ∙ a.there;
    }

-- what the client has once it heard the reply
heard_for : (c : Client) (r : Reply) (x : Sent) → awaited_with (mid_of r.part) c.view ≡ Some x
    → heard r.part c ≡ hears c (looked_as (wire_request x.message) x r.part c.view) (exchange_as (wire_request x.message) x r.part c.view)
heard_for c r x is =
    ap (λ (o : Option Sent). hears c (looked_for o r.part c.view) (exchange_by o r.part c.view)) is

pub heard_aside : (k : Kept) (c : Client) (r : Reply) (m : Meets k c.view r) → Sane c.view → wire_request m.request.message ≡ Some WireRequest.Aside
    → heard r.part c ≡ asided m.request r.part c
heard_aside k c r m sane aside =
    heard_for c r m.request m.heard_as
    ∙ ap (λ (w : Option WireRequest). hears c (looked_as w m.request r.part c.view) (exchange_as w m.request r.part c.view)) aside
    ∙ by (looks.answers_aside m.request r.part c.view.told.owners) answers
  where
    answers : looks.answers_aside m.request r.part c.view.told.owners ≡ true
    answers =
        ap (λ (o : Option Owner). is_none o && is_aside_reply m.request.mid m.request.message r.part) (aside_nobodys c.view m.request sane m.there aside)
        ∙ aside_said m.request r.part m.final aside

    ended : Exchange
    ended = record { request = m.request.message; reply = r.part }

    by : (t : Bool) → t ≡ true
        → hears c (if t then looks.without m.request.mid c.view else c.view) (if t then ended ∷ [] else []) ≡ asided m.request r.part c
    by t is =
        ap (λ (b : Bool). hears c (if b then looks.without m.request.mid c.view else c.view) (if b then ended ∷ [] else [])) is

heard_share : (k : Kept) (c : Client) (r : Reply) (m : Meets k c.view r) (related : Bool) (request : Req) (reply : Rep)
    → wire_request m.request.message ≡ Some (WireRequest.Share related request)
    → reply_in m.request.mid m.request.message r.part ≡ Some reply → fits m.request reply ≡ true → heard r.part c ≡ landed_at m.request reply c
heard_share k c r m related request reply share said fit =
    heard_for c r m.request m.heard_as
    ∙ ap (λ (w : Option WireRequest). hears c (looked_as w m.request r.part c.view) (exchange_as w m.request r.part c.view)) share
    ∙ ap (λ (o : Option Rep). hears c (looked_reply o m.request c.view) []) said
    ∙ ap (λ (b : Bool). hears c (if b then landed_by (Some m.request) reply c.view else c.view) []) fit
    ∙ ap (λ (l : List Exchange). record { view = landed_by (Some m.request) reply c.view; tally = record c.tally { exchanges = l } })
    (append-nil c.tally.exchanges)

-- one step of both
pub record Steps (st : Setting) (k' : Kept) (r : Reply) (c : Client) : Type 0 where
  pub follows : Follows st k' (heard r.part c)
  pub awaits : awaited (heard r.part c).view ≡ awaited_but r.mid.0 (awaited c.view)

aside_steps : (st : Setting) (k k' : Kept) (r : Reply) (c : Client) (m : Meets k c.view r) → Follows st k c
    → wire_request m.request.message ≡ Some WireRequest.Aside
    → LandsAs st.options kind.Aside m.flight r.part k k' → Steps st k' r c
aside_steps st k k' r c m follows aside lands =
    let is : heard r.part c ≡ asided m.request r.part c = heard_aside k c r m follows.sane aside in
    record {
      follows = subst (Follows st k') (sym is) (record {
        walks = subst (λ (l : Kept). Walks st.options l (looks.without m.request.mid c.view)) (sym lands.1) (record {
          slots = follows.walks.slots;
          flights =
              subst (λ (n : Mid). AllFly c.view.told.owners (flights_but n k.flights) (sent_but m.request.mid c.view.flights)) (sym m.flies.mid)
              (but_fly c.view.told.owners m.request.mid k.flights c.view.flights follows.walks.flights);
          early = follows.walks.early;
        });
        phase = aside_phase st m.request r.part c k.phase k'.phase m.there follows.phase lands.0;
        whole = all_filter (λ (y : Sent). untold y.message ≡ Untold.Nothing) (λ (y : Sent). not (y.mid.0 == m.request.mid.0)) c.view.flights follows.whole;
        sane = subst (λ (d : Client). Sane d.view) is (looked_sane c.view r.part follows.sane);
      });
      awaits = ap (λ (d : Client). awaited d.view) is ∙ without_awaits m.request c.view m.fresh ∙ ap (λ (n : ℕ). awaited_but n (awaited c.view)) m.id;
    }

-- landing a reply to a call leaves the phase alone
turned_phase : (options : Options) (n : ℕ) (k : Kept) → (turned options n k).phase ≡ k.phase
turned_phase options zero k = refl
turned_phase options (suc n) k = by (next_turn k.flights k.early) (turned_phase options n)
  where
    by : (o : Option (Flight × Rep)) → ((l : Kept) → (turned options n l).phase ≡ l.phase) → (turned_with options o (turned options n) k).phase ≡ k.phase
    by None others = refl
    by (Some next) others = others (gone options next.0 next.1 k)

pub landed_phase_is : (options : Options) (f : Flight) (reply : Rep) (k : Kept) → (landed options f reply k).phase ≡ k.phase
landed_phase_is options f reply k = by (is_first k.flights f)
  where
    by : (t : Bool)
        → (if t then turned options (length k.early) (gone options f reply k) else record k { early = k.early ++ (f.mid, reply) ∷ [] }).phase ≡ k.phase
    by true = turned_phase options (length k.early) (gone options f reply k)
    by false = refl

share_steps : (st : Setting) (k k' : Kept) (r : Reply) (c : Client) (m : Meets k c.view r) (related : Bool) (request : Req) (command : ℕ) → Follows st k c
    → wire_request m.request.message ≡ Some (WireRequest.Share related request) → command_of m.request.message ≡ command
    → ((reply : Rep) → said_in command r.part ≡ Some reply → fits m.request reply ≡ true)
    → LandsSaid st.options command m.flight r.part k k' → Steps st k' r c
share_steps st k k' r c m related request command follows share is_command fit lands =
    let reply : Rep = lands.0 in
    let fits_it : fits m.request reply ≡ true = fit reply lands.1 in
    let whole : untold m.request.message ≡ Untold.Nothing =
    (found (λ (y : Sent). untold y.message ≡ Untold.Nothing) m.request.mid c.view.flights m.request m.there
    follows.whole).0 in
    let is : heard r.part c ≡ landed_at m.request reply c =
    heard_share k c r m related request reply share (said_is m.request r.part command m.final whole is_command ∙ lands.1) fits_it in
    record {
      follows = subst (Follows st k') (sym is) (record {
        walks = subst (λ (l : Kept). Walks st.options l (landed_by (Some m.request) reply c.view)) (sym lands.2)
            (landed_walks st.options k c.view m.flight m.request reply follows.sane follows.walks m.flies m.there fits_it);
        phase =
            subst (λ (p : Phase). IsAt st p (landed_at m.request reply c))
            (sym (ap (λ (l : Kept). l.phase) lands.2 ∙ landed_phase_is st.options m.flight reply k))
            (landed_phase st m.request reply c k.phase (WireRequest.Share related request) follows.sane m.there share (λ same. never same) follows.phase);
        whole = landed_all (λ (q : List ℕ). untold q ≡ Untold.Nothing) m.request reply c.view follows.whole;
        sane = subst (λ (d : Client). Sane d.view) is (looked_sane c.view r.part follows.sane);
      });
      awaits = ap (λ (d : Client). awaited d.view) is ∙ landed_awaits m.request reply c.view ∙ ap (λ (n : ℕ). awaited_but n (awaited c.view)) m.id;
    }
  where
    never : WireRequest.Share related request ≡ WireRequest.Aside → ⊥
    never same = cc

-- by what the request asks for
of_share_steps : (st : Setting) (k k' : Kept) (r : Reply) (c : Client) (m : Meets k c.view r) (creating related : Bool) (command : ℕ) → Follows st k c
    → IsOfShare creating related (wire_request m.request.message) → command_of m.request.message ≡ command
    → ((reply : Rep) → said_in command r.part ≡ Some reply → fits m.request reply ≡ true)
    → LandsSaid st.options command m.flight r.part k k' → Steps st k' r c
of_share_steps st k k' r c m creating related command follows of is_command fit lands = by (wire_request m.request.message) refl of
  where
    by : (w : Option WireRequest) → wire_request m.request.message ≡ w → IsOfShare creating related w → Steps st k' r c
    by None is of = absurd of
    by (Some WireRequest.Aside) is of = absurd of
    by (Some (WireRequest.Share rel request)) is of = share_steps st k k' r c m rel request command follows is is_command fit lands

by_kind : (st : Setting) (k k' : Kept) (r : Reply) (c : Client) (m : Meets k c.view r) (a : Kind) (related : Bool) → Follows st k c
    → IsOfKind a related m.request → creates m.request ≡ is_open a
    → LandsAs st.options a m.flight r.part k k' → Steps st k' r c
by_kind st k k' r c m kind.Open related follows of creating lands =
    of_share_steps st k k' r c m true related CREATE follows of.1 of.2 (λ reply said. create_said m.request r.part reply m.final creating said) lands
by_kind st k k' r c m kind.Query related follows of creating lands =
    of_share_steps st k k' r c m false related QUERY_INFO follows of.0 of.1 (λ reply said. query_said m.request r.part reply m.final creating said) lands
by_kind st k k' r c m kind.Close related follows of creating lands =
    of_share_steps st k k' r c m false related CLOSE follows of.0 of.1 (λ reply said. close_said m.request r.part reply m.final creating said) lands
by_kind st k k' r c m kind.Aside related follows of creating lands = aside_steps st k k' r c m follows of.1 lands

pub steps : (st : Setting) (k k' : Kept) (r : Reply) (c : Client) → Follows st k c → IsAnswerTo (awaited c.view) r → Lands st.options r k k' → Steps st k' r c
steps st k k' r c follows answer lands =
    let m = meets st.options k c.view r follows.walks answer in
    by_kind st k k' r c m m.flight.kind m.flight.related follows m.flies.kind (creates_is m.flight.kind m.flight.related m.request m.flies.kind)
    (subst (λ (o : Option Flight). LandsFor st.options o r.part k k') m.waits lands)

-- one reply after another
pub record Walked (st : Setting) (k' : Kept) (rs : List Reply) (c : Client) : Type 0 where
  pub follows : Follows st k' (all_heard (parts_in rs) c)
  pub awaits : awaited (all_heard (parts_in rs) c).view ≡ without rs (awaited c.view)

pub walk_all : (st : Setting) (rs : List Reply) (k k' : Kept) (c : Client) → Follows st k c → AreAnswers (awaited c.view) rs → LandAll st.options rs k k'
    → Walked st k' rs c
walk_all st [] k k' c follows answers land = record { follows = subst (λ (l : Kept). Follows st l c) (sym land) follows; awaits = refl }
walk_all st (r ∷ rs) k k' c follows answers land =
    let one = steps st k land.0 r c follows answers.0 land.1 in
    let rest = walk_all st rs land.0 k' (heard r.part c) one.follows
    (subst (λ (l : List (ℕ × ℕ)). AreAnswers l rs) (sym one.awaits) (answers_left r.mid.0 (awaited c.view) rs answers.1 answers.2)) land.2 in
    record {
      follows = rest.follows;
      awaits = rest.awaits ∙ ap (without rs) (one.awaits ∙ sym (awaited_without r.mid.0 c.view follows.sane.rising));
    }
