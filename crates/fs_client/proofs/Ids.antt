-- The ids and the requests in flight of a client are those that smb_mux keeps: as frames are sent, and as frames come.
use Rattle.std.proofs.Common.{arith, ◌≡◌, ◌∙◌, refl, sym, ap, ap₂, subst, ℕ, suc, length, ◌+◌, ◌^◌, ◌<◌, ◌≤◌, min, List, [], ◌∷◌, ◌++◌, Result, Ok, Err}
use Rattle.std.specs.Prelude.{map}
use Rattle.std.specs.List.{AllByRecursion}
use Rattle.std.proofs.lemmas.Bool.{false≢true}
use Rattle.smb_base.specs.declared.names.Mid.{Mid}
use Rattle.smb_le.specs.Numbers.{number_at, bytes_of}
use Rattle.smb_le.proofs.NumberLaws.{number_at-bytes_of}
use Rattle.smb_head.specs.declared.head.Head.{Head}
use Rattle.smb_head.specs.declared.head.HeadFault.{HeadFault}
use Rattle.smb_head.specs.declared.request.Request.{Request}
use Rattle.smb_head.specs.Header.{head_of, header}
use Rattle.smb_head.specs.Stream.{first_of}
use Rattle.smb_head.specs.Stream as stream
use Rattle.smb_chain.specs.declared.parts.BadNext.{BadNext}
use Rattle.smb_chain.specs.Chain.{padded, linked, size_of, parts_for, chain}
use Rattle.smb_chain.specs.Parts.{step_of, parts_of}
use Rattle.smb_credit.specs.Window.{Ids, no_request, least, cost, after_use, up_to}
use Rattle.smb_credit.proofs.WindowLaws.{after_use-up_to, granted_more-up_to}
use Rattle.smb_mux.specs.Sending.{costs, ids_after, head_for, message_for, placed, flights_of}
use Rattle.smb_mux.specs.InFlight as mux
use Rattle.share_state.specs.declared.connection.Sent.{Sent}
use Rattle.smb_link.specs.declared.event.Event.{Event}
use Rattle.smb_link.specs.declared.event.Event.TheVariants as event
use Rattle.fs_plain.specs.Replies.{command_of}
use Rattle.fs_plain.specs.Requests.{wire_request}
use Rattle.fs_plain.specs.World.{requests_among}
use Rattle.fs_client.specs.View.{Setting, Client}
use Rattle.fs_client.specs.After.{parts_sent, costs_among, granted_by, granted_among, made_whole, tally_after, after, all_after}
use Rattle.fs_client.specs.Spelled.{ids_of, AreNext, IsFrameOf}
use Rattle.fs_client.proofs.Frames.{requests_are}
use Rattle.fs_client.proofs.SpelledLaws.{AsksSomething, spelled_parts, least_is, mid_read, charge_read}

-- requests are sent: as many ids more are used as they cost
pub ids_sent : (rs : List Request) (next top : ℕ) → next + costs rs ≤ top → ids_after (up_to next top) rs ≡ up_to (next + costs rs) top
ids_sent [] next top within = ap (λ (n : ℕ). up_to n top) (same next)
  where
    same : (n : ℕ) → n ≡ n + 0
    same n = omega arith
ids_sent (r ∷ rs) next top within =
    ap (λ (ids : Ids). ids_after ids rs) (sym (after_use-up_to (cost r.charge) next top (fits next (cost r.charge) (costs rs) top within)))
    ∙ ids_sent rs (next + cost r.charge) top (further next (cost r.charge) (costs rs) top within)
    ∙ ap (λ (n : ℕ). up_to n top) (joined next (cost r.charge) (costs rs))
  where
    fits : (a b c d : ℕ) → a + (b + c) ≤ d → a + b ≤ d
    fits a b c d le = omega (arith, le)

    further : (a b c d : ℕ) → a + (b + c) ≤ d → a + b + c ≤ d
    further a b c d le = omega (arith, le)

    joined : (a b c : ℕ) → a + b + c ≡ a + (b + c)
    joined a b c = omega arith

-- which is what their messages say
pub costs_spelled : (rs : List Request) (ids : Ids) → AllByRecursion (λ (r : Request). r.charge < 2 ^ 16) rs → costs_among (map (λ (part : List ℕ). Ok part) (parts_for (placed ids rs))) ≡ costs rs
costs_spelled [] ids charges = refl
costs_spelled (r ∷ []) ids charges =
    ap (λ (n : ℕ). cost n + 0) (charge_read (linked (head_for (least ids) r) 0) r.body charges.0)
costs_spelled (r ∷ second ∷ rs) ids charges =
    ap₂ (λ (a b : ℕ). cost a + b) (charge_read (linked (head_for (least ids) r) (padded (size_of (message_for (least ids) r)))) _ charges.0)
    (costs_spelled (second ∷ rs) (after_use (cost r.charge) ids) charges.1)

-- no request is no frame
none_spelled : (next : ℕ) (ids : Ids) → AreNext next (parts_sent (stream.frame (chain (placed ids [])))) → ⊥
unfolding first_of step_of parts_of chain wire_request head_of
none_spelled next ids are = false≢true (sym are.1)

pub costs_sent : (rs : List Request) (c : Client) (frame : List ℕ) → IsFrameOf rs c frame → AllByRecursion (λ (r : Request). r.charge < 2 ^ 16) rs → costs_among (parts_sent frame) ≡ costs rs
costs_sent [] c frame is charges = absurd (none_spelled c.view.next (ids_of c) (subst (λ (l : List ℕ). AreNext c.view.next (parts_sent l)) is.spelled is.next))
costs_sent (r ∷ rs) c frame is charges =
    ap (λ (l : List ℕ). costs_among (parts_sent l)) is.spelled
    ∙ ap costs_among (spelled_parts (ids_of c) (r ∷ rs) (many (length rs)) is.room)
    ∙ costs_spelled (r ∷ rs) (ids_of c) charges
  where
    many : (n : ℕ) → 0 < suc n
    many n = omega arith

-- messages come: as many ids more may be used as they grant, never the one of what answers no request
grown_below : (n more : ℕ) → min (n + more) no_request ≤ no_request
grown_below n more = omega arith

granted_part : (head : Result Head HeadFault) (next top : ℕ) → top ≤ no_request → (mux.granted_by head (up_to next top) ≡ up_to next (granted_by head top)) × (granted_by head top ≤ no_request)
granted_part (Err fault) next top below = (refl, below)
granted_part (Ok head) next top below = (sym (granted_more-up_to head.credits next top below), grown_below top head.credits)

pub ids_granted : (parts : List (Result (List ℕ) BadNext)) (next top : ℕ) → top ≤ no_request
    → (mux.granted_among parts (up_to next top) ≡ up_to next (granted_among parts top)) × (granted_among parts top ≤ no_request)
ids_granted [] next top below = (refl, below)
ids_granted (Err bad ∷ parts) next top below = ids_granted parts next top below
ids_granted (Ok message ∷ parts) next top below =
    let one = granted_part (head_of message) next top below in
    let rest = ids_granted parts next (granted_by (head_of message) top) one.1 in
    (ap (mux.granted_among parts) one.0 ∙ rest.0, rest.1)

-- along all that the client does no more ids are granted than there are
pub granted_below : (s : Setting) (events : List Event) (c : Client) → c.tally.granted ≤ no_request → (all_after s c events).tally.granted ≤ no_request
granted_below s [] c below = below
granted_below s (e ∷ events) c below = granted_below s events (after s c e) (one e)
  where
    one : (e : Event) → (tally_after c.view c.tally e).granted ≤ no_request
    one (event.Marked m) = below
    one (event.Sent frame) = below
    one (event.Got bytes) = (ids_granted (made_whole bytes c.view) c.view.next c.tally.granted below).1
    one event.Quiet = below
    one event.Joined = omega arith
    one event.NotJoined = below
    one event.Cut = omega arith
    one (event.Took mid) = below
    one (event.Pend mid) = below
    one (event.Act who request reply) = below
    one (event.Break key state) = below
    one (event.Dropped key) = below

-- the requests in flight, each by its id and its command
abbrev pub flight_of : Sent → ℕ × ℕ
flight_of x = (x.mid.0, command_of x.message)

command_read : (head : Head) (rest : List ℕ) → head.command < 2 ^ 16 → number_at 2 12 (header head ++ rest) ≡ head.command
unfolding number_at bytes_of header
command_read head rest fits = number_at-bytes_of 2 head.command [] fits

-- a frame adds those of its messages
one_flight : (next top : ℕ) (r : Request) (place : ℕ) (rest : List ℕ) (frame : Mid) (parts : List (Result (List ℕ) BadNext)) (others : List (ℕ × ℕ)) → next < top → top ≤ no_request → r.command < 2 ^ 16
    → AsksSomething (header (linked (head_for (least (up_to next top)) r) place) ++ rest) → map flight_of (requests_among frame parts) ≡ others
    → map flight_of (requests_among frame (Ok (header (linked (head_for (least (up_to next top)) r) place) ++ rest) ∷ parts)) ≡ (least (up_to next top), r.command) ∷ others
one_flight next top r place rest frame parts others less below fits asks later =
    let head : Head = linked (head_for (least (up_to next top)) r) place in
    ap (map flight_of) (requests_are frame (header head ++ rest) parts asks)
    ∙ ap₂ (λ (a b : ℕ). (a, b) ∷ map flight_of (requests_among frame parts)) (mid_read head rest (subst (λ (n : ℕ). n < 2 ^ 64) (sym (least_is next top less)) (small less below))) (command_read head rest fits)
    ∙ ap (λ (l : List (ℕ × ℕ)). (least (up_to next top), r.command) ∷ l) later
  where
    small : next < top → top ≤ no_request → next < 2 ^ 64
    small less below = omega (arith, less, below)

pub flights_spelled : (rs : List Request) (next top : ℕ) (frame : Mid) → next + costs rs ≤ top → top ≤ no_request → AllByRecursion (λ (r : Request). r.command < 2 ^ 16) rs
    → AllByRecursion AsksSomething (parts_for (placed (up_to next top) rs))
    → map flight_of (requests_among frame (map (λ (part : List ℕ). Ok part) (parts_for (placed (up_to next top) rs)))) ≡ flights_of (up_to next top) rs
flights_spelled [] next top frame within below fits asks = refl
flights_spelled (r ∷ []) next top frame within below fits asks =
    one_flight next top r 0 r.body frame [] [] (room next (cost r.charge) top (one r.charge) within) below fits.0 asks.0 refl
  where
    one : (n : ℕ) → 1 ≤ cost n
    one n = omega arith

    room : (a b c : ℕ) → 1 ≤ b → a + (b + 0) ≤ c → a < c
    room a b c one le = omega (arith, one, le)
flights_spelled (r ∷ second ∷ rs) next top frame within below fits asks =
    let ids : up_to (next + cost r.charge) top ≡ after_use (cost r.charge) (up_to next top) = after_use-up_to (cost r.charge) next top (within_first next (cost r.charge) (costs (second ∷ rs)) top within) in
    one_flight next top r (padded (size_of (message_for (least (up_to next top)) r))) _ frame (map (λ (part : List ℕ). Ok part) (parts_for (placed (after_use (cost r.charge) (up_to next top)) (second ∷ rs))))
    (flights_of (after_use (cost r.charge) (up_to next top)) (second ∷ rs))
    (room next (cost r.charge) (costs (second ∷ rs)) top (one r.charge) within) below fits.0 asks.0
    (subst (λ (i : Ids). map flight_of (requests_among frame (map (λ (part : List ℕ). Ok part) (parts_for (placed i (second ∷ rs))))) ≡ flights_of i (second ∷ rs)) ids
    (flights_spelled (second ∷ rs) (next + cost r.charge) top frame (further next (cost r.charge) (costs (second ∷ rs)) top within) below fits.1
    (subst (λ (i : Ids). AllByRecursion AsksSomething (parts_for (placed i (second ∷ rs)))) (sym ids) asks.1)))
  where
    one : (n : ℕ) → 1 ≤ cost n
    one n = omega arith

    within_first : (a b c d : ℕ) → a + (b + c) ≤ d → a + b ≤ d
    within_first a b c d le = omega (arith, le)

    further : (a b c d : ℕ) → a + (b + c) ≤ d → a + b + c ≤ d
    further a b c d le = omega (arith, le)

    room : (a b c d : ℕ) → 1 ≤ b → a + (b + c) ≤ d → a < d
    room a b c d one le = omega (arith, one, le)
