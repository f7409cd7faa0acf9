-- A frame that is spelled is these messages, one after another, each under the next ids: what is left to know of each is that it asks for
-- something.
use Rattle.std.proofs.Common.{arith, ◌≡◌, ◌∙◌, refl, sym, ap, subst, ℕ, zero, suc, ◌+◌, ◌-◌, ◌^◌, ◌<◌, ◌≤◌, true, false, List, [], ◌∷◌, ◌++◌, length, replicate, Result, Ok, append-nil}
use Rattle.std.specs.Prelude.{map, slice_index, is_none}
use Rattle.std.specs.List.{AllByRecursion}
use Rattle.smb_le.specs.Numbers.{number_at, bytes_of}
use Rattle.smb_le.proofs.NumberLaws.{number_at-bytes_of}
use Rattle.smb_head.specs.declared.first.TheConstants.{MAX_FRAME}
use Rattle.smb_head.specs.declared.head.Head.{Head}
use Rattle.smb_head.specs.declared.request.Request.{Request}
use Rattle.smb_head.specs.Header.{header}
use Rattle.smb_head.specs.Stream.{First, first_of}
use Rattle.smb_head.specs.Stream as stream
use Rattle.smb_head.proofs.FrameLaws.{first_of-frame}
use Rattle.smb_chain.specs.declared.builder.Message.{Message}
use Rattle.smb_chain.specs.declared.parts.BadNext.{BadNext}
use Rattle.smb_chain.specs.Chain.{padded, linked, size_of, parts_for, chain}
use Rattle.smb_chain.proofs.ChainLaws.{parts_of-chain}
use Rattle.smb_credit.specs.Window.{Ids, no_request, numbers, least, cost, after_use, up_to}
use Rattle.smb_credit.proofs.WindowLaws.{usable-up_to, after_use-up_to}
use Rattle.smb_mux.specs.Sending.{costs, head_for, message_for, placed, room_of}
use Rattle.smb_mux.proofs.SendLaws.{length-placed, length-frame}
use Rattle.fs_plain.specs.Requests.{wire_request}
use Rattle.fs_plain.specs.World.{messages_of}
use Rattle.fs_client.specs.View.{Client}
use Rattle.fs_client.specs.After.{parts_sent}
use Rattle.fs_client.specs.Spelled.{ids_of, AreNext, IsFrameOf}

-- the frame of a chain has its messages
pub spelled_parts : (ids : Ids) (rs : List Request) → 0 < length rs → room_of rs ≤ MAX_FRAME
    → parts_sent (stream.frame (chain (placed ids rs))) ≡ map (λ (part : List ℕ). Ok part) (parts_for (placed ids rs))
spelled_parts ids rs some room =
    let bytes : List ℕ = chain (placed ids rs) in
    let long : length bytes ≤ MAX_FRAME = at_most (length bytes) (room_of rs) (length-frame ids rs) room in
    ap (λ (l : List ℕ). messages_of (first_of (stream.prefix (length bytes) ++ l))) (sym (append-nil bytes))
    ∙ ap messages_of (first_of-frame (length bytes) bytes [] long refl)
    ∙ parts_of-chain (placed ids rs) (under (length bytes) long) (subst (λ (n : ℕ). 0 < n) (sym (length-placed ids rs)) some)
  where
    at_most : (a b : ℕ) → a ≡ b → b ≤ MAX_FRAME → a ≤ MAX_FRAME
    at_most a b is le = omega (arith, is, le)

    under : (a : ℕ) → a ≤ MAX_FRAME → a < 2 ^ 32
    under a le = omega (arith, le)

-- the least id that may be used
first_number : (next n : ℕ) → 0 < n → slice_index (numbers next n) 0 ≡ next
unfolding numbers
first_number next zero less = absurd (none less)
  where
    none : 0 < 0 → ⊥
    none less = omega (arith, less)
first_number next (suc n) less = refl

pub least_is : (next top : ℕ) → next < top → least (up_to next top) ≡ next
least_is next top less = ap (λ (l : List ℕ). slice_index l 0) (usable-up_to next top (weaker less)) ∙ first_number next (top - next) (some less)
  where
    weaker : next < top → next ≤ top
    weaker less = omega (arith, less)

    some : next < top → 0 < top - next
    some less = omega (arith, less)

-- id and charge stand in a header
pub mid_read : (head : Head) (rest : List ℕ) → head.mid.0 < 2 ^ 64 → number_at 8 24 (header head ++ rest) ≡ head.mid.0
unfolding number_at bytes_of header
mid_read head rest fits = number_at-bytes_of 8 head.mid.0 [] fits

pub charge_read : (head : Head) (rest : List ℕ) → head.charge < 2 ^ 16 → number_at 2 6 (header head ++ rest) ≡ head.charge
unfolding number_at bytes_of header
charge_read head rest fits = number_at-bytes_of 2 head.charge [] fits

-- a message asks for something
abbrev pub AsksSomething : List ℕ → Type 0
AsksSomething part = is_none (wire_request part) ≡ false

-- the bytes of a message behind its header, where another follows
abbrev behind : Message → List ℕ
behind m = m.body ++ replicate (padded (size_of m) - size_of m) 0

-- one of them, wherever the next one stands
one_next : (next top : ℕ) (r : Request) (place : ℕ) (rest : List ℕ) (others : List (Result (List ℕ) BadNext)) → next < top → top ≤ no_request → r.charge < 2 ^ 16
    → AsksSomething (header (linked (head_for (least (up_to next top)) r) place) ++ rest) → AreNext (next + cost r.charge) others
    → AreNext next (Ok (header (linked (head_for (least (up_to next top)) r) place) ++ rest) ∷ others)
one_next next top r place rest others less below charge asks later =
    let head : Head = linked (head_for (least (up_to next top)) r) place in (
      mid_read head rest (subst (λ (n : ℕ). n < 2 ^ 64) (sym (least_is next top less)) (small less below)) ∙ least_is next top less,
      asks,
      subst (λ (n : ℕ). AreNext (next + cost n) others) (sym (charge_read head rest charge)) later,
    )
  where
    small : next < top → top ≤ no_request → next < 2 ^ 64
    small less below = omega (arith, less, below)

-- their ids follow one another
pub spelled_next : (rs : List Request) (next top : ℕ) → next + costs rs ≤ top → top ≤ no_request → AllByRecursion (λ (r : Request). r.charge < 2 ^ 16) rs
    → AllByRecursion AsksSomething (parts_for (placed (up_to next top) rs)) → AreNext next (map (λ (part : List ℕ). Ok part) (parts_for (placed (up_to next top) rs)))
spelled_next [] next top within below charges asks = record {}
spelled_next (r ∷ []) next top within below charges asks =
    one_next next top r 0 r.body [] (room next (cost r.charge) top (one r.charge) within) below charges.0 asks.0 (record {})
  where
    one : (n : ℕ) → 1 ≤ cost n
    one n = omega arith

    room : (a b c : ℕ) → 1 ≤ b → a + (b + 0) ≤ c → a < c
    room a b c one le = omega (arith, one, le)
spelled_next (r ∷ second ∷ rs) next top within below charges asks =
    let ids : up_to (next + cost r.charge) top ≡ after_use (cost r.charge) (up_to next top) = after_use-up_to (cost r.charge) next top (fits next (cost r.charge) (costs (second ∷ rs)) top within) in
    one_next next top r (padded (size_of (message_for (least (up_to next top)) r))) (behind (message_for (least (up_to next top)) r)) _
    (room next (cost r.charge) (costs (second ∷ rs)) top (one r.charge) within) below charges.0 asks.0
    (subst (λ (i : Ids). AreNext (next + cost r.charge) (map (λ (part : List ℕ). Ok part) (parts_for (placed i (second ∷ rs))))) ids
    (spelled_next (second ∷ rs) (next + cost r.charge) top (further next (cost r.charge) (costs (second ∷ rs)) top within) below charges.1
    (subst (λ (i : Ids). AllByRecursion AsksSomething (parts_for (placed i (second ∷ rs)))) (sym ids) asks.1)))
  where
    one : (n : ℕ) → 1 ≤ cost n
    one n = omega arith

    fits : (a b c d : ℕ) → a + (b + c) ≤ d → a + b ≤ d
    fits a b c d le = omega (arith, le)

    further : (a b c d : ℕ) → a + (b + c) ≤ d → a + b + c ≤ d
    further a b c d le = omega (arith, le)

    room : (a b c d : ℕ) → 1 ≤ b → a + (b + c) ≤ d → a < d
    room a b c d one le = omega (arith, one, le)

-- what a connection that stands may send as these requests is a frame of them
pub frame_of_requests : (rs : List Request) (c : Client) → c.view.connected ≡ true → c.view.next + costs rs ≤ c.tally.granted → c.tally.granted ≤ no_request → 0 < length rs → room_of rs ≤ MAX_FRAME
    → AllByRecursion (λ (r : Request). r.charge < 2 ^ 16) rs → AllByRecursion AsksSomething (parts_for (placed (ids_of c) rs)) → IsFrameOf rs c (stream.frame (chain (placed (ids_of c) rs)))
frame_of_requests rs c connected granted below some room charges asks =
    let parts = spelled_parts (ids_of c) rs some room in
    record {
      connected = connected;
      spelled = refl;
      granted = granted;
      room = room;
      some = subst (λ (l : List (Result (List ℕ) BadNext)). 0 < length l) (sym parts) (many rs some);
      next = subst (AreNext c.view.next) (sym parts) (spelled_next rs c.view.next c.tally.granted granted below charges asks);
    }
  where
    many : (qs : List Request) → 0 < length qs → 0 < length (map {B = Result (List ℕ) BadNext} (λ (part : List ℕ). Ok part) (parts_for (placed (ids_of c) qs)))
    many [] some = some
    many (q ∷ []) some = omega arith
    many (q ∷ second ∷ qs) some = omega arith
