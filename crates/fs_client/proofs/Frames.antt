-- A frame of requests under the next ids: which requests are in flight then, and whose they are.
use Rattle.std.proofs.Common.{arith, ◌≡◌, ◌∙◌, refl, sym, ap, subst, ℕ, ◌+◌, ◌==◌, ◌<◌, ◌≤◌, max, Bool, true, false, cond, if◌then◌else◌, not, List, [], ◌∷◌, ◌++◌, length, take, Some, None, Result, Ok, Err, inl, inr}
use Rattle.std.specs.Prelude.{IsSomeAnd, map, filter, is_none, ◌||◌}
use Rattle.std.specs.List.{AllByRecursion, list_any}
use Rattle.std.proofs.lemmas.Bool.{false≢true}
use Rattle.std.proofs.lemmas.Bool.Decides.{eqb_tells, nat_tests}
use Rattle.smb_base.specs.declared.names.Mid.{Mid}
use Rattle.smb_le.specs.Numbers.{number_at}
use Rattle.smb_chain.specs.declared.parts.BadNext.{BadNext}
use Rattle.share_state.specs.declared.connection.Sent.{Sent}
use Rattle.fs_plain.specs.Owners.{mids_among, from, Owner, owner_of}
use Rattle.fs_plain.specs.Requests.{wire_request}
use Rattle.fs_plain.specs.World.{mid_of, waiting, requests_among, first_mid}
use Rattle.fs_plain.specs.Told.{Announcement, is_outside}
use Rattle.fs_client.specs.After.{cost_of, costs_among}
use Rattle.fs_client.specs.Spelled.{AreNext}
use Rattle.fs_client.specs.Sane.{IsSent, IsAbove, AreRising}
use Rattle.fs_client.proofs.Lists.{all_more, all_append, itself, equal}

-- a message costs one id at least
pub costs_one : (message : List ℕ) → 1 ≤ cost_of message
costs_one message = least (number_at 2 6 message)
  where
    least : (n : ℕ) → 1 ≤ max 1 n
    least n = omega arith

-- the messages of such a frame are all requests
pub requests_are : (frame : Mid) (message : List ℕ) (parts : List (Result (List ℕ) BadNext)) → is_none (wire_request message) ≡ false
    → requests_among frame (Ok message ∷ parts) ≡ waiting frame message ∷ requests_among frame parts
requests_are frame message parts is =
    ap (λ (b : Bool). if b then requests_among frame parts else waiting frame message ∷ requests_among frame parts) is

-- the id of the first is the next one
pub first_next : (next : ℕ) (parts : List (Result (List ℕ) BadNext)) → AreNext next parts → 0 < length parts → (first_mid parts).0 ≡ next
first_next next [] ids some = absurd (none some)
  where
    none : 0 < 0 → ⊥
    none less = omega (arith, less)
first_next next (Err bad ∷ parts) ids some = absurd ids
first_next next (Ok message ∷ parts) ids some = ids.0

-- and the frame uses one at least
pub some_used : (next : ℕ) (parts : List (Result (List ℕ) BadNext)) → AreNext next parts → 0 < length parts → next < next + costs_among parts
some_used next [] ids some = absurd (none some)
  where
    none : 0 < 0 → ⊥
    none less = omega (arith, less)
some_used next (Err bad ∷ parts) ids some = absurd ids
some_used next (Ok message ∷ parts) ids some = more next (cost_of message) (costs_among parts) (costs_one message)
  where
    more : (n a b : ℕ) → 1 ≤ a → n < n + (a + b)
    more n a b one = omega (arith, one)

-- each request has the frame's id as its frame's, and an id from the next one on
pub record IsOf (frame : Mid) (next top : ℕ) (x : Sent) : Type 0 where
  pub frame_is : x.frame ≡ frame
  pub low : next ≤ x.mid.0
  pub high : x.mid.0 < top

pub are_of : (frame : Mid) (next : ℕ) (parts : List (Result (List ℕ) BadNext)) → AreNext next parts
    → AllByRecursion (IsOf frame next (next + costs_among parts)) (requests_among frame parts)
are_of frame next [] ids = tt
are_of frame next (Err bad ∷ parts) ids = absurd ids
are_of frame next (Ok message ∷ parts) ids =
    subst (AllByRecursion (IsOf frame next (next + (cost_of message + costs_among parts)))) (sym (requests_are frame message parts ids.1)) (
      record {
        frame_is = refl;
        low = low (mid_of message).0 ids.0;
        high = high (mid_of message).0 ids.0 (cost_of message) (costs_among parts) (costs_one message);
      },
      all_more (IsOf frame (next + cost_of message) (next + cost_of message + costs_among parts)) (IsOf frame next (next + (cost_of message + costs_among parts))) (requests_among frame parts)
          (λ x of. record { frame_is = of.frame_is; low = further (cost_of message) x.mid.0 of.low; high = same x.mid.0 (cost_of message) (costs_among parts) of.high })
          (are_of frame (next + cost_of message) parts ids.2),
    )
  where
    low : (m : ℕ) → m ≡ next → next ≤ m
    low m is = omega (arith, is)

    high : (m : ℕ) → m ≡ next → (a b : ℕ) → 1 ≤ a → m < next + (a + b)
    high m is a b one = omega (arith, is, one)

    further : (a m : ℕ) → next + a ≤ m → next ≤ m
    further a m le = omega (arith, le)

    same : (m a b : ℕ) → m < next + a + b → m < next + (a + b)
    same m a b less = omega (arith, less)

-- their ids rise
pub rise : (frame : Mid) (next : ℕ) (parts : List (Result (List ℕ) BadNext)) → AreNext next parts → AreRising (requests_among frame parts)
rise frame next [] ids = record {}
rise frame next (Err bad ∷ parts) ids = absurd ids
rise frame next (Ok message ∷ parts) ids =
    subst AreRising (sym (requests_are frame message parts ids.1)) (
      all_more (IsOf frame (next + cost_of message) (next + cost_of message + costs_among parts)) (IsAbove (waiting frame message)) (requests_among frame parts)
          (λ x of. above (mid_of message).0 x.mid.0 (cost_of message) ids.0 (costs_one message) of.low) (are_of frame (next + cost_of message) parts ids.2),
      rise frame (next + cost_of message) parts ids.2,
    )
  where
    above : (a b c : ℕ) → a ≡ next → 1 ≤ c → next + c ≤ b → a < b
    above a b c is one le = omega (arith, is, one, le)

-- behind requests with lower ids
pub rising_append : (next : ℕ) (xs ys : List Sent) → AreRising xs → AreRising ys → AllByRecursion (IsSent next) xs → AllByRecursion (λ (y : Sent). next ≤ y.mid.0) ys → AreRising (xs ++ ys)
rising_append next [] ys left right below above = right
rising_append next (x ∷ xs) ys left right below above = (
  all_append (IsAbove x) xs ys left.0 (all_more (λ (y : Sent). next ≤ y.mid.0) (IsAbove x) ys (λ y le. more x.mid.0 y.mid.0 below.0.0 le) above),
  rising_append next xs ys left.1 right below.1 above,
)
  where
    more : (a b : ℕ) → a < next → next ≤ b → a < b
    more a b less le = omega (arith, less, le)

-- an id is one of these
abbrev pub is_in : ℕ → List Mid → Bool
is_in m mids = list_any (λ (mid : Mid). mid.0 == m) mids

-- an id below the next one is none of the frame's
pub not_in : (m next : ℕ) (parts : List (Result (List ℕ) BadNext)) → AreNext next parts → m < next → is_in m (mids_among parts) ≡ false
not_in m next [] ids less = refl
not_in m next (Err bad ∷ parts) ids less = absurd ids
not_in m next (Ok message ∷ parts) ids less =
    ap (λ (b : Bool). b || is_in m (mids_among parts)) (apart (mid_of message).0 ids.0)
    ∙ not_in m (next + cost_of message) parts ids.2 (omega (arith, less))
  where
    apart : (a : ℕ) → a ≡ next → (a == m) ≡ false
    apart a is = grind (arith, nat_tests)

-- each request's id is one
pub are_in : (frame : Mid) (next : ℕ) (parts : List (Result (List ℕ) BadNext)) → AreNext next parts → AllByRecursion (λ (x : Sent). is_in x.mid.0 (mids_among parts) ≡ true) (requests_among frame parts)
are_in frame next [] ids = tt
are_in frame next (Err bad ∷ parts) ids = absurd ids
are_in frame next (Ok message ∷ parts) ids =
    subst (AllByRecursion (λ (x : Sent). is_in x.mid.0 (mids_among (Ok message ∷ parts)) ≡ true)) (sym (requests_are frame message parts ids.1)) (
      ap (λ (b : Bool). b || is_in (mid_of message).0 (mids_among parts)) (itself (mid_of message).0),
      all_more (λ (x : Sent). is_in x.mid.0 (mids_among parts) ≡ true) (λ (x : Sent). is_in x.mid.0 (mids_among (Ok message ∷ parts)) ≡ true) (requests_among frame parts)
          (λ x is. or_true ((mid_of message).0 == x.mid.0) (is_in x.mid.0 (mids_among parts)) is) (are_in frame (next + cost_of message) parts ids.2),
    )
  where
    or_true : (a b : Bool) → b ≡ true → (a || b) ≡ true
    or_true true b is = refl
    or_true false b is = is

-- owners of other ids are passed over
abbrev pub IsOther : Mid → Owner → Type 0
IsOther m o = (o.mid.0 == m.0) ≡ false

pub owner_behind : (m : Mid) (os rest : List Owner) → AllByRecursion (IsOther m) os → owner_of m (os ++ rest) ≡ owner_of m rest
owner_behind m [] rest all = refl
owner_behind m (o ∷ os) rest all = ap (λ (b : Bool). if b then Some o else owner_of m (os ++ rest)) all.0 ∙ owner_behind m os rest all.1

-- the owner of an id outside a frame stays
pub owner_outside : (m : Mid) (mids : List Mid) (os : List Owner) → is_in m.0 mids ≡ false → owner_of m (filter (is_outside mids) os) ≡ owner_of m os
owner_outside m mids [] out = refl
owner_outside m mids (o ∷ os) out = elim (eqb_tells o.mid.0 m.0) [
  | inl told ↦
      ap (λ (b : Bool). owner_of m (cond (not b) (o ∷ filter (is_outside mids) os) (filter (is_outside mids) os))) (ap (λ (n : ℕ). is_in n mids) told.1 ∙ out)
      ∙ ap (λ (b : Bool). if b then Some o else owner_of m (filter (is_outside mids) os)) told.0
      ∙ sym (ap (λ (b : Bool). if b then Some o else owner_of m os) told.0)
  | inr told ↦ by told.0 (is_in o.mid.0 mids) ∙ owner_outside m mids os out ∙ sym (ap (λ (b : Bool). if b then Some o else owner_of m os) told.0)
]
  where
    by : (o.mid.0 == m.0) ≡ false → (t : Bool) → owner_of m (cond (not t) (o ∷ filter (is_outside mids) os) (filter (is_outside mids) os)) ≡ owner_of m (filter (is_outside mids) os)
    by other true = refl
    by other false = ap (λ (b : Bool). if b then Some o else owner_of m (filter (is_outside mids) os)) other

-- that of an id in it goes
pub owner_gone : (m : Mid) (mids : List Mid) (os : List Owner) → is_in m.0 mids ≡ true → owner_of m (filter (is_outside mids) os) ≡ None
owner_gone m mids [] is = refl
owner_gone m mids (o ∷ os) is = by (is_in o.mid.0 mids) refl (owner_gone m mids os is)
  where
    far : is_in o.mid.0 mids ≡ false → (o.mid.0 == m.0) ≡ false
    far out = elim (eqb_tells o.mid.0 m.0) [
      | inl told ↦ absurd (false≢true (sym out ∙ ap (λ (n : ℕ). is_in n mids) told.1 ∙ is))
      | inr told ↦ told.0
    ]

    by : (t : Bool) → is_in o.mid.0 mids ≡ t → owner_of m (filter (is_outside mids) os) ≡ None → owner_of m (cond (not t) (o ∷ filter (is_outside mids) os) (filter (is_outside mids) os)) ≡ None
    by true among deeper = deeper
    by false out deeper = ap (λ (b : Bool). if b then Some o else owner_of m (filter (is_outside mids) os)) (far out) ∙ deeper

-- these ids begin with this one
abbrev pub IsFirst : Mid → List Mid → Type 0
IsFirst first [] = Unit {0}
IsFirst first (m ∷ mids) = m.0 ≡ first.0

-- a mark that speaks of a whole frame makes each of its requests its call's
pub whole_from : (first : Mid) (mids : List Mid) → IsFirst first mids → from first mids ≡ mids
whole_from first [] is = refl
whole_from first (m ∷ mids) is = ap (λ (b : Bool). if b then m ∷ mids else from first mids) (equal m.0 first.0 is)

pub whole_take : (mids : List Mid) → take (length mids) mids ≡ mids
whole_take [] = refl
whole_take (m ∷ mids) = ap (λ (l : List Mid). m ∷ l) (whole_take mids)

-- the owner that a mark makes of an id
abbrev pub owner_by : Announcement → Mid → Owner
owner_by a mid = record { mid = mid; number = a.number; known = a.known }

pub record IsBy (a : Announcement) (o : Owner) : Type 0 where
  pub number : o.number ≡ a.number
  pub known : o.known ≡ a.known

pub owner_marked : (a : Announcement) (m : Mid) (mids : List Mid) (rest : List Owner) → is_in m.0 mids ≡ true → IsSomeAnd (owner_of m (map (owner_by a) mids ++ rest)) (IsBy a)
owner_marked a m [] rest is = absurd (false≢true is)
owner_marked a m (n ∷ mids) rest is = by (n.0 == m.0) is (owner_marked a m mids rest)
  where
    by : (t : Bool) → (t || is_in m.0 mids) ≡ true → (is_in m.0 mids ≡ true → IsSomeAnd (owner_of m (map (owner_by a) mids ++ rest)) (IsBy a))
        → IsSomeAnd (if t then Some (owner_by a n) else owner_of m (map (owner_by a) mids ++ rest)) (IsBy a)
    by true is deeper = record { number = refl; known = refl }
    by false is deeper = deeper is

pub others_of : (a : Announcement) (m : Mid) (mids : List Mid) → is_in m.0 mids ≡ false → AllByRecursion (IsOther m) (map (owner_by a) mids)
others_of a m [] out = tt
others_of a m (n ∷ mids) out = (left (n.0 == m.0) (is_in m.0 mids) out, others_of a m mids (right (n.0 == m.0) (is_in m.0 mids) out))
  where
    left : (a b : Bool) → (a || b) ≡ false → a ≡ false
    left true b is = absurd (false≢true (sym is))
    left false b is = refl

    right : (a b : Bool) → (a || b) ≡ false → b ≡ false
    right true b is = absurd (false≢true (sym is))
    right false b is = is
