-- A frame of requests is sent: the core has then what its client has.
use Rattle.std.proofs.Common.{arith, ◌≡◌, ◌∙◌, refl, sym, ap, ap₂, subst, ℕ, ◌+◌, ◌==◌, ◌≤◌, Bool, true, false, if◌then◌else◌, List, [], ◌∷◌, ◌++◌, length, Option, Some, None, Result, Ok}
use Rattle.std.specs.Prelude.{IsSomeAnd, map, option_map}
use Rattle.std.specs.List.{AllByRecursion}
use Rattle.smb_base.specs.declared.names.Mid.{Mid}
use Rattle.smb_head.specs.declared.request.Request.{Request}
use Rattle.smb_chain.specs.declared.parts.BadNext.{BadNext}
use Rattle.smb_credit.specs.Window.{Ids, no_request, up_to}
use Rattle.smb_mux.specs.Sending.{costs, ids_after, flights_of}
use Rattle.smb_link.specs.declared.event.Event.TheVariants as event
use Rattle.smb_link.specs.declared.mark.Mark.TheVariants as mark
use Rattle.smb_link.specs.Program.{Wish, settled}
use Rattle.smb_mount.specs.declared.facts.Facts.{Facts}
use Rattle.share_state.specs.declared.connection.Sent.{Sent}
use Rattle.fs_plain.specs.Owners.{mids_in, Owner, owner_of}
use Rattle.fs_plain.specs.Replies.{command_of}
use Rattle.fs_plain.specs.Told.{Announcement}
use Rattle.fs_plain.specs.World.{requests_in}
use Rattle.fs_client.specs.Item.{Item, item_with, spoken_for}
use Rattle.fs_client.specs.View.{Setting, Client}
use Rattle.fs_client.specs.After.{parts_sent, frame_of, costs_among, after, all_after}
use Rattle.fs_client.specs.Flies.{FliesAs, files_of, IsIdle}
use Rattle.fs_client.specs.Looks.{is_early}
use Rattle.fs_client.specs.May.{IsAsking, MayAnnounceFor, MayAnnounce, MaySendFor, MaySend, MaySendUnder, Allowed, requests_for, is_stat}
use Rattle.fs_client.specs.Mount.{Mounted, HasCome}
use Rattle.fs_client.specs.Ready.{IsReady, awaited}
use Rattle.fs_client.specs.Sane.{IsSent, Sane}
use Rattle.fs_client.specs.Spelled.{next_mid, free_ids, AreNext, IsFrameOf}
use Rattle.fs_client.proofs.Lists.{all_of, all_more, all_append, equal, item_map, item_found}
use Rattle.fs_client.proofs.Frames.{IsOf, are_of, is_in, not_in, are_in, owner_behind, owner_outside, owner_by, IsBy, owner_marked, others_of}
use Rattle.fs_client.proofs.Ids.{ids_sent}
use Rattle.fs_client.proofs.Readiness.{ready_along}
use Rattle.fs_client.proofs.Sends.{sent_as, owners_left, owners_are}
use Rattle.fs_core.specs.declared.flight.Kind.{Kind}
use Rattle.fs_core.specs.declared.phase.Phase.{Phase}
use Rattle.fs_core.specs.declared.phase.Phase.TheVariants as phase
use Rattle.fs_core.specs.Kept.{Kept}
use Rattle.fs_core.specs.Fits.{IsNoLeave, AllFly, IsAt, Fits}
use Rattle.fs_core.specs.Steps.{flights_from, sent_for}
use Rattle.fs_core.proofs.FlyingFrames.{messages_for, CanSend, IsOfRequests}
use Rattle.fs_core.proofs.FlyingLists.{slots_sent, flights_kept, flights_append, AreParts, flights_new, none_early, awaited_append}

-- the ids that are left, and what is awaited
pub ids_left : (st : Setting) (k : Kept) (c : Client) (rs : List Request) (frame : List ℕ) → Fits st k c → CanSend c rs → IsOfRequests c rs frame
    → ids_after k.mux.ids rs ≡ up_to (c.view.next + costs_among (parts_sent frame)) c.tally.granted
ids_left st k c rs frame fits can of =
    ap (λ (i : Ids). ids_after i rs) (fits.ids can.connected)
    ∙ ids_sent rs c.view.next c.tally.granted can.within
    ∙ ap (λ (n : ℕ). up_to (c.view.next + n) c.tally.granted) (sym of.costs_are)

-- the requests of the frame have ids from the next one on
from_next : (c : Client) (rs : List Request) (frame : List ℕ) → IsOfRequests c rs frame
    → AllByRecursion (λ (y : Sent). c.view.next ≤ y.mid.0) (requests_in frame)
from_next c rs frame of =
    all_more (IsOf (frame_of frame) c.view.next (c.view.next + costs_among (parts_sent frame))) (λ (y : Sent). c.view.next ≤ y.mid.0) (requests_in frame)
    (λ y is. is.low)
    (are_of (frame_of frame) c.view.next (parts_sent frame) of.frame_is.next)

pub awaited_more : (st : Setting) (k : Kept) (c : Client) (rs : List Request) (frame : List ℕ) → Sane c.view → Fits st k c → CanSend c rs
    → IsOfRequests c rs frame
    → k.mux.awaited ++ flights_of k.mux.ids rs ≡ awaited (record c.view { flights = c.view.flights ++ requests_in frame })
awaited_more st k c rs frame sane fits can of =
    ap₂ (λ (l : List (ℕ × ℕ)) (i : Ids). l ++ flights_of i rs) fits.awaited (fits.ids can.connected)
    ∙ ap (λ (l : List (ℕ × ℕ)). awaited c.view ++ l) (sym of.awaits)
    ∙ sym (awaited_append c.view.early c.view.flights (requests_in frame)
    (all_more (λ (y : Sent). c.view.next ≤ y.mid.0) (λ (y : Sent). is_early y.mid c.view.early ≡ false) (requests_in frame)
    (λ y le. none_early c.view.next c.view.flights c.view.early sane.sent sane.early y.mid le) (from_next c rs frame of)))

-- the requests that were in flight keep their owners, however the frame's are owned
pub outside : (c : Client) (rs : List Request) (frame : List ℕ) → Sane c.view → IsOfRequests c rs frame
    → AllByRecursion (λ (x : Sent). is_in x.mid.0 (mids_in frame) ≡ false) c.view.flights
outside c rs frame sane of = all_more (IsSent c.view.next) (λ (x : Sent). is_in x.mid.0 (mids_in frame) ≡ false) c.view.flights
    (λ x sent. not_in x.mid.0 c.view.next (parts_sent frame) of.frame_is.next sent.0) sane.sent

-- those of the frame are new
pub new_flights : (c : Client) (rs : List Request) (frame : List ℕ) (owners : List Owner) (owner : Option ℕ) (first : Mid) (kinds : List (Kind × Bool))
    → CanSend c rs → IsOfRequests c rs frame
    → first ≡ next_mid c → AreParts kinds (messages_for c rs)
    → AllByRecursion (λ (x : Sent). option_map (λ (o : Owner). o.number) (owner_of x.mid owners) ≡ owner) (requests_in frame)
    → AllFly owners (flights_from owner first first.0 kinds) (requests_in frame)
new_flights c rs frame owners owner first kinds can of is parts owned =
    subst (λ (m : Mid). AllFly owners (flights_from owner m m.0 kinds) (requests_in frame)) (of.first ∙ sym is)
    (subst (AllFly owners (flights_from owner (frame_of frame) (frame_of frame).0 kinds)) (sym of.requests)
    (flights_new owners owner (frame_of frame) kinds (messages_for c rs) (frame_of frame).0 parts
    (subst (λ (n : ℕ). ids n) (sym (ap (λ (m : Mid). m.0) of.first)) (subst (λ (l : List (Result (List ℕ) BadNext)). at l) of.parts of.frame_is.next))
    (room (frame_of frame).0 c.view.next (length (messages_for c rs)) (costs rs) c.tally.granted (ap (λ (m : Mid). m.0) of.first) of.few can.within can.below)
    (subst (AllByRecursion (λ (x : Sent). option_map (λ (o : Owner). o.number) (owner_of x.mid owners) ≡ owner)) of.requests owned)))
  where
    at : List (Result (List ℕ) BadNext) → Type 0
    at l = AreNext c.view.next l

    ids : ℕ → Type 0
    ids n = AreNext n (map {B = Result (List ℕ) BadNext} (λ (part : List ℕ). Ok part) (messages_for c rs))

    room : (a b n m top : ℕ) → a ≡ b → n ≤ m → b + m ≤ top → top ≤ no_request → a + n ≤ no_request
    room a b n m top is le within below = omega (arith, is, le, within, below)

-- what a frame of a call is
pub record IsCalls (st : Setting) (c : Client) (number : ℕ) (facts : Facts) (kinds : List (Kind × Bool)) (rs : List Request) (frame : List ℕ) : Type 0 where
  pub item : Item
  pub runs : item_with number c.view.items ≡ Some item
  pub whole : item.broken ≡ false
  pub idle : IsIdle item.frame c.view.flights
  pub asking : IsAsking (settled c.view.told.known item.rest)
  pub chained : is_stat item.call ≡ true → item.announced ≡ false → st.options.mfsymlinks ≡ false → 3 ≤ free_ids c → length rs ≡ 3
  pub wishes : List (Bool × Wish)
  pub wished : rs ≡ requests_for facts item c wishes
  pub can : CanSend c rs
  pub of : IsOfRequests c rs frame
  pub parts : AreParts kinds (messages_for c rs)
  pub staying : AllByRecursion (λ (x : Sent). IsNoLeave (command_of x.message)) (requests_in frame)
  pub asks : FliesAs (files_of item c.view.placed) c.view.told.known (frame_of frame) (λ x. x) item.rest item.fids (requests_in frame)

-- the mark that speaks of it, and the client then
abbrev marking : ℕ → Mid → ℕ → Client → Announcement
marking number first count c = record { number = number; first = first; count = count; known = c.view.told.known }

abbrev marked : Setting → ℕ → Mid → ℕ → Client → Client
marked st number first count c = after st c (event.Marked (mark.For number first count))

spoken_number : (n : ℕ) (i : Item) → (spoken_for n i).number ≡ i.number
spoken_number n i = by (i.number == n)
  where
    by : (t : Bool) → (if t then record i { announced = true } else i).number ≡ i.number
    by true = refl
    by false = refl

-- the call is found again, with the word that a frame was announced for it
found_spoken : (number : ℕ) (items : List Item) (i : Item) → item_with number items ≡ Some i
    → item_with number (map (spoken_for number) items) ≡ Some (record i { announced = true })
found_spoken number items i runs =
    item_map number (spoken_for number) items (spoken_number number)
    ∙ ap (option_map (spoken_for number)) runs
    ∙ ap (λ (b : Bool). Some (if b then record i { announced = true } else i))
    (equal i.number number (item_found (λ (j : Item). Unit {0}) number items i runs (all_of (λ (j : Item). Unit {0}) items (λ j. record {}))).1)

may_announce : (st : Setting) (c : Client) (number : ℕ) (facts : Facts) (first : Mid) (kinds : List (Kind × Bool)) (rs : List Request) (frame : List ℕ)
    → c.view.told.announced ≡ []
    → first ≡ next_mid c → (calls : IsCalls st c number facts kinds rs frame) → MayAnnounce st c number first (length rs)
may_announce st c number facts first kinds rs frame alone is calls =
    subst (λ (o : Option Item). IsSomeAnd o (MayAnnounceFor st c first (length rs))) (sym calls.runs) (record {
      whole = calls.whole;
      idle = calls.idle;
      asking = calls.asking;
      alone = alone;
      next = is;
      some = calls.can.some;
      chained = calls.chained;
    })

may_send : (st : Setting) (c : Client) (number : ℕ) (facts : Facts) (first : Mid) (kinds : List (Kind × Bool)) (rs : List Request) (frame : List ℕ)
    → HasCome st c (Mounted facts)
    → first ≡ next_mid c → (calls : IsCalls st c number facts kinds rs frame)
    → MaySend st (marked st number first (length rs) c) (marking number first (length rs) c) frame
may_send st c number facts first kinds rs frame come is calls =
    subst (λ (o : Option Item). IsSomeAnd o (MaySendFor st (marked st number first (length rs) c) (marking number first (length rs) c) frame))
    (sym (found_spoken number c.view.items calls.item calls.runs)) (record {
      facts = facts;
      mounted = come;
      whole = calls.whole;
      announced = refl;
      idle = calls.idle;
      wishes = calls.wishes;
      frame_is = again (requests_for facts calls.item c calls.wishes) (subst (λ (l : List Request). IsFrameOf l c frame) calls.wished calls.of.frame_is);
      count = sym calls.of.count;
      first = is;
      asks = calls.asks;
    })
  where
    again : (l : List Request) → IsFrameOf l c frame → IsFrameOf l (marked st number first (length rs) c) frame
    again l f = record { connected = f.connected; spelled = f.spelled; granted = f.granted; room = f.room; some = f.some; next = f.next }

-- the frame's requests are the call's, and those before it keep their owners
owners_before : (c : Client) (rs : List Request) (frame : List ℕ) (a : Announcement) → Sane c.view → IsOfRequests c rs frame
    → AllByRecursion (λ (x : Sent). owner_of x.mid (map (owner_by a) (mids_in frame) ++ owners_left frame c.view) ≡ owner_of x.mid c.view.told.owners)
    c.view.flights
owners_before c rs frame a sane of =
    all_more (λ (x : Sent). is_in x.mid.0 (mids_in frame) ≡ false)
    (λ (x : Sent). owner_of x.mid (map (owner_by a) (mids_in frame) ++ owners_left frame c.view) ≡ owner_of x.mid c.view.told.owners) c.view.flights
    (λ x out. owner_behind x.mid (map (owner_by a) (mids_in frame)) (owners_left frame c.view) (others_of a x.mid (mids_in frame) out)
    ∙ owner_outside x.mid (mids_in frame) c.view.told.owners out)
    (outside c rs frame sane of)

owners_new : (c : Client) (rs : List Request) (frame : List ℕ) (a : Announcement) (rest : List Owner) → IsOfRequests c rs frame
    → AllByRecursion (λ (x : Sent). option_map (λ (o : Owner). o.number) (owner_of x.mid (map (owner_by a) (mids_in frame) ++ rest)) ≡ Some a.number)
    (requests_in frame)
owners_new c rs frame a rest of =
    all_more (λ (x : Sent). is_in x.mid.0 (mids_in frame) ≡ true)
    (λ (x : Sent). option_map (λ (o : Owner). o.number) (owner_of x.mid (map (owner_by a) (mids_in frame) ++ rest)) ≡ Some a.number) (requests_in frame)
    (λ x is. by (owner_of x.mid (map (owner_by a) (mids_in frame) ++ rest)) (owner_marked a x.mid (mids_in frame) rest is))
    (are_in (frame_of frame) c.view.next (parts_sent frame) of.frame_is.next)
  where
    by : (o : Option Owner) → IsSomeAnd o (IsBy a) → option_map (λ (o : Owner). o.number) o ≡ Some a.number
    by None is = absurd is
    by (Some o) is = ap (λ (n : ℕ). Some n) is.number

-- the client once a frame was sent of which these marks speak
abbrev pub sent : List Announcement → List ℕ → Client → Client
sent announced frame c = record { view = sent_as announced frame c.view; tally = c.tally }

call_fits : (st : Setting) (k : Kept) (c : Client) (number : ℕ) (facts : Facts) (first : Mid) (kinds : List (Kind × Bool)) (rs : List Request) (frame : List ℕ)
    → Sane c.view → Fits st k c
    → k.phase ≡ phase.On facts → first ≡ next_mid c → IsCalls st c number facts kinds rs frame
    → IsReady (sent (marking number first (length rs) c ∷ []) frame (marked st number first (length rs) c))
    → Fits st (sent_for number first kinds rs k) (sent (marking number first (length rs) c ∷ []) frame (marked st number first (length rs) c))
call_fits st k c number facts first kinds rs frame sane fits on is calls ready =
    let a : Announcement = marking number first (length rs) c in
    let of = calls.of in
    let at : IsAt st (phase.On facts) c = subst (λ (p : Phase). IsAt st p c) on fits.phase in
    record {
      slots = slots_sent st.options number (frame_of frame) c.view.told.known k.slots c.view.items sane.apart fits.slots;
      flights = subst (λ (os : List Owner). AllFly os (k.flights ++ flights_from (Some number) first first.0 kinds) (c.view.flights ++ requests_in frame))
          (sym (owners_are a frame c.view (record { count = sym of.count; first = ap (λ (m : Mid). m.0) is }) of.frame_is.next))
          (flights_append (map (owner_by a) (mids_in frame) ++ owners_left frame c.view) k.flights (flights_from (Some number) first first.0 kinds)
          c.view.flights (requests_in frame)
          (flights_kept c.view.told.owners (map (owner_by a) (mids_in frame) ++ owners_left frame c.view) k.flights c.view.flights
          (owners_before c rs frame a sane of) fits.flights)
          (new_flights c rs frame (map (owner_by a) (mids_in frame) ++ owners_left frame c.view) (Some number) first kinds calls.can of is calls.parts
          (owners_new c rs frame a (owners_left frame c.view) of)));
      early = fits.early;
      ids = λ stands. ids_left st k c rs frame fits calls.can of;
      awaited = awaited_more st k c rs frame sane fits calls.can of;
      phase = subst (λ (p : Phase). IsAt st p (sent (a ∷ []) frame (marked st number first (length rs) c))) (sym on) (
        record { connected = at.0.connected; come = at.0.come },
        at.1,
        all_append (λ (x : Sent). IsNoLeave (command_of x.message)) c.view.flights (requests_in frame) at.2 calls.staying,
      );
      last = fits.last;
      now = fits.now;
      ended = fits.ended;
      idle = refl;
      ready = ready;
    }

-- a call sends a frame
pub call_sent : (st : Setting) (k : Kept) (c : Client) (number : ℕ) (facts : Facts) (first : Mid) (kinds : List (Kind × Bool)) (rs : List Request)
    (frame : List ℕ) → Sane c.view → Fits st k c
    → k.phase ≡ phase.On facts → first ≡ next_mid c → IsCalls st c number facts kinds rs frame
    → Allowed st c (event.Marked (mark.For number first (length rs)) ∷ event.Sent frame ∷ [])
    × Fits st (sent_for number first kinds rs k) (all_after st c (event.Marked (mark.For number first (length rs)) ∷ event.Sent frame ∷ []))
call_sent st k c number facts first kinds rs frame sane fits on is calls = (
  allowed,
  subst (λ (l : List Announcement). Fits st (sent_for number first kinds rs k) (sent l frame c1)) (sym told)
      (call_fits st k c number facts first kinds rs frame sane fits on is calls (record { used = ready.used; granted = ready.granted; whole = ready.whole })),
)
  where
    c1 : Client
    c1 = marked st number first (length rs) c

    told : c1.view.told.announced ≡ marking number first (length rs) c ∷ []
    told = ap (λ (l : List Announcement). l ++ marking number first (length rs) c ∷ []) fits.idle

    come : HasCome st c (Mounted facts)
    come = (subst (λ (p : Phase). IsAt st p c) on fits.phase).0.come

    allowed : Allowed st c (event.Marked (mark.For number first (length rs)) ∷ event.Sent frame ∷ [])
    allowed = (
      may_announce st c number facts first kinds rs frame fits.idle is calls,
      (subst (λ (l : List Announcement). MaySendUnder l st c1 frame) (sym told) (may_send st c number facts first kinds rs frame come is calls), record {}),
    )

    ready : IsReady (all_after st c (event.Marked (mark.For number first (length rs)) ∷ event.Sent frame ∷ []))
    ready = ready_along st (event.Marked (mark.For number first (length rs)) ∷ event.Sent frame ∷ []) c allowed fits.ready
