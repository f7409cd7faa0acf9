-- A frame of requests that a connection may send: its messages, their ids, and what is in flight then.
use Rattle.std.proofs.Common.{arith, ◌≡◌, ◌∙◌, refl, sym, ap, subst, ℕ, suc, ◌+◌, ◌<◌, ◌≤◌, ◌^◌, max, true, List, [], ◌∷◌, length, Result, Ok}
use Rattle.std.specs.Prelude.{map}
use Rattle.std.specs.List.{AllByRecursion}
use Rattle.smb_base.specs.declared.names.Mid.{Mid}
use Rattle.smb_head.specs.declared.first.TheConstants.{MAX_FRAME}
use Rattle.smb_head.specs.declared.request.Request.{Request}
use Rattle.smb_head.specs.Stream as stream
use Rattle.smb_chain.specs.declared.parts.BadNext.{BadNext}
use Rattle.smb_chain.specs.Chain.{linked, parts_for, chain}
use Rattle.smb_credit.specs.Window.{Ids, no_request, cost, after_use}
use Rattle.smb_mux.specs.Sending.{costs, head_for, placed, room_of, flights_of}
use Rattle.share_state.specs.declared.connection.Sent.{Sent}
use Rattle.fs_plain.specs.Owners.{mids_among, mids_in}
use Rattle.fs_plain.specs.World.{waiting, requests_among, requests_in}
use Rattle.fs_client.specs.View.{Client}
use Rattle.fs_client.specs.After.{parts_sent, frame_of, cost_of, costs_among}
use Rattle.fs_client.specs.Spelled.{ids_of, next_mid, IsFrameOf}
use Rattle.fs_client.proofs.Lists.{all_more}
use Rattle.fs_client.proofs.Frames.{requests_are, first_next}
use Rattle.fs_client.proofs.SpelledLaws.{AsksSomething, spelled_parts, charge_read, frame_of_requests}
use Rattle.fs_client.proofs.Ids.{flight_of, costs_spelled, flights_spelled}
use Rattle.fs_core.proofs.SpellingHeads.{behind_header}

-- the messages of requests
abbrev pub messages_for : Client → List Request → List (List ℕ)
messages_for c rs = parts_for (placed (ids_of c) rs)

-- a frame of these requests may be sent: a connection stands, there are ids for them, there is room, each costs one id, and each asks
-- for something
pub record CanSend (c : Client) (rs : List Request) : Type 0 where
  pub connected : c.view.connected ≡ true
  pub within : c.view.next + costs rs ≤ c.tally.granted
  pub below : c.tally.granted ≤ no_request
  pub some : 0 < length rs
  pub room : room_of rs ≤ MAX_FRAME
  pub charges : AllByRecursion (λ (r : Request). r.charge ≤ 1) rs
  pub commands : AllByRecursion (λ (r : Request). r.command < 2 ^ 16) rs
  pub asks : AllByRecursion AsksSomething (messages_for c rs)

-- what is so of such a frame
pub record IsOfRequests (c : Client) (rs : List Request) (frame : List ℕ) : Type 0 where
  pub frame_is : IsFrameOf rs c frame
  pub parts : parts_sent frame ≡ map (λ (part : List ℕ). Ok part) (messages_for c rs)
  pub requests : requests_in frame ≡ map (waiting (frame_of frame)) (messages_for c rs)
  pub first : frame_of frame ≡ next_mid c
  pub count : length (mids_in frame) ≡ length rs
  pub awaits : map flight_of (requests_in frame) ≡ flights_of (ids_of c) rs
  pub costs_are : costs_among (parts_sent frame) ≡ costs rs
  pub few : length (messages_for c rs) ≤ costs rs

-- the messages that ask for something are in flight
requests_of : (frame : Mid) (parts : List (List ℕ)) → AllByRecursion AsksSomething parts
    → requests_among frame (map (λ (part : List ℕ). Ok part) parts) ≡ map (waiting frame) parts
requests_of frame [] asks = refl
requests_of frame (m ∷ parts) asks =
    requests_are frame m (map (λ (part : List ℕ). Ok part) parts) asks.0 ∙ ap (λ (l : List Sent). waiting frame m ∷ l) (requests_of frame parts asks.1)

mids_of : (parts : List (List ℕ)) → length (mids_among (map {B = Result (List ℕ) BadNext} (λ (part : List ℕ). Ok part) parts)) ≡ length parts
mids_of [] = refl
mids_of (m ∷ parts) = ap suc (mids_of parts)

parts_many : (rs : List Request) (ids : Ids) → length (parts_for (placed ids rs)) ≡ length rs
parts_many [] ids = refl
parts_many (r ∷ []) ids = refl
parts_many (r ∷ second ∷ rs) ids = ap suc (parts_many (second ∷ rs) (after_use (cost r.charge) ids))

-- each costs one id at least
costs_many : (rs : List Request) → length rs ≤ costs rs
costs_many [] = omega arith
costs_many (r ∷ rs) = more (length rs) (costs rs) r.charge (costs_many rs)
  where
    more : (a b n : ℕ) → a ≤ b → suc a ≤ max 1 n + b
    more a b n le = omega (arith, le)

-- a request that costs one id says so
pub cost_there : (mid : ℕ) (r : Request) (place : ℕ) (rest : List ℕ) → r.charge ≤ 1 → cost_of (behind_header mid r place rest) ≡ 1
cost_there mid r place rest small = ap cost (charge_read (linked (head_for mid r) place) rest (under r.charge small)) ∙ one r.charge small
  where
    under : (n : ℕ) → n ≤ 1 → n < 2 ^ 16
    under n le = omega (arith, le)

    one : (n : ℕ) → n ≤ 1 → max 1 n ≡ 1
    one n le = omega (arith, le)

small_charges : (rs : List Request) → AllByRecursion (λ (r : Request). r.charge ≤ 1) rs → AllByRecursion (λ (r : Request). r.charge < 2 ^ 16) rs
small_charges rs all = all_more (λ (r : Request). r.charge ≤ 1) (λ (r : Request). r.charge < 2 ^ 16) rs (λ r le. under r.charge le) all
  where
    under : (n : ℕ) → n ≤ 1 → n < 2 ^ 16
    under n le = omega (arith, le)

pub of_requests : (c : Client) (rs : List Request) (frame : List ℕ) → CanSend c rs → frame ≡ stream.frame (chain (placed (ids_of c) rs))
    → IsOfRequests c rs frame
of_requests c rs frame can is = subst (IsOfRequests c rs) (sym is) (there (stream.frame (chain (placed (ids_of c) rs))) refl)
  where
    there : (f : List ℕ) → f ≡ stream.frame (chain (placed (ids_of c) rs)) → IsOfRequests c rs f
    there f so =
        let frame_is : IsFrameOf rs c f =
        subst (IsFrameOf rs c) (sym so) (frame_of_requests rs c can.connected can.within can.below can.some can.room (small_charges rs can.charges) can.asks) in
        let parts : parts_sent f ≡ map (λ (part : List ℕ). Ok part) (messages_for c rs) =
        ap parts_sent so ∙ spelled_parts (ids_of c) rs can.some can.room in
        record {
          frame_is = frame_is;
          parts = parts;
          requests = ap (requests_among (frame_of f)) parts ∙ requests_of (frame_of f) (messages_for c rs) can.asks;
          first = ap (λ (n : ℕ). the n) (first_next c.view.next (parts_sent f) frame_is.next frame_is.some);
          count = ap (λ (l : List (Result (List ℕ) BadNext)). length (mids_among l)) parts ∙ mids_of (messages_for c rs) ∙ parts_many rs (ids_of c);
          awaits = ap (λ (l : List (Result (List ℕ) BadNext)). map flight_of (requests_among (frame_of f) l)) parts
              ∙ flights_spelled rs c.view.next c.tally.granted (frame_of f) can.within can.below can.commands can.asks;
          costs_are = ap costs_among parts ∙ costs_spelled rs (ids_of c) (small_charges rs can.charges);
          few = subst (λ (n : ℕ). n ≤ costs rs) (sym (parts_many rs (ids_of c))) (costs_many rs);
        }
      where
        the : ℕ → Mid
        the n = record { 0 = n }
