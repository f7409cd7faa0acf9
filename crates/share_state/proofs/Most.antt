-- As much as may be granted of a lease and a durable open is a choice that is allowed, where what stands is a state of a lease.
use Rattle.std.proofs.Common.{◌≡◌, ℕ, ◌==◌, Bool, true, false, not, ◌&&◌, if◌then◌else◌, refl, sym, subst, Option, Some, None}
use Rattle.std.specs.Prelude.{◌||◌, is_some}
use Rattle.smb_base.specs.declared.names.Key.{Key}
use Rattle.share_state.specs.declared.connection.Grant.{Grant}
use Rattle.share_state.specs.declared.granting.Granting.{Granting}
use Rattle.share_state.specs.declared.lease.Lease.{Lease}
use Rattle.share_state.specs.declared.request.Who.{Who}
use Rattle.share_state.specs.declared.share.Share.{Share}
use Rattle.share_state.specs.State.{has}
use Rattle.share_state.specs.Leases.{bits, lowered, lease_of, is_taken, standing_state, raised, greatest, greatest_on, no_granting, granted, granting_with}
use Rattle.share_state.specs.Grants.{grants_nothing, is_part, is_between, is_durable_with, may_grant}

-- the state with these bits, which is none without R
abbrev form : Bool → Bool → Bool → ℕ
form r h w = if r && true then bits true (h && true) (w && true) else 0

-- a number is a state of a lease
abbrev pub IsState : ℕ → Type 0
IsState state = lowered state 0 ≡ state

both : (a b : Bool) → a ≡ true → b ≡ true → (a && b) ≡ true
both a b one other = rw (one, other) refl

either_way : (b : Bool) → (not b || b) ≡ true
either_way true = refl
either_way false = refl

form_of : (r h w : Bool) → lowered (bits r h w) 0 ≡ form r h w
form_of true true true = refl
form_of true true false = refl
form_of true false true = refl
form_of true false false = refl
form_of false true true = refl
form_of false true false = refl
form_of false false true = refl
form_of false false false = refl

-- a state is a state between itself and itself
itself : (r h w : Bool) → is_between (form r h w) (form r h w) (form r h w) ≡ true
itself false h w = refl
itself true true true = refl
itself true true false = refl
itself true false true = refl
itself true false false = refl

-- one with more bits has those that it had
grown : (r h w r' h' w' : Bool) → is_part (form r h w) (form (r || r') (h || h') (w || w')) ≡ true
grown true true true r' h' w' = refl
grown true true false r' h' true = refl
grown true true false r' h' false = refl
grown true false true r' true w' = refl
grown true false false r' true true = refl
grown true false false r' true false = refl
grown true false true r' false w' = refl
grown true false false r' false true = refl
grown true false false r' false false = refl
grown false h w false h' w' = refl
grown false true true true h' w' = refl
grown false true false true h' true = refl
grown false true false true h' false = refl
grown false false true true true w' = refl
grown false false false true true true = refl
grown false false false true true false = refl
grown false false true true false w' = refl
grown false false false true false true = refl
grown false false false true false false = refl

-- what stands is a state: as much as may be granted over it lies between it and itself
most_is_between : (standing most : ℕ) → is_part standing most ≡ true → is_between most most most ≡ true → is_between standing most most ≡ true
most_is_between standing most more own = by (is_part standing most) (is_part most most) (lowered most 0 == most) more own
  where
    by : (a b c : Bool) → a ≡ true → (b && b && c) ≡ true → (a && b && c) ≡ true
    by a true c more own = rw more own
    by a false c more own = absurd (cc own)

state_itself : (state : ℕ) → IsState state → is_between state state state ≡ true
state_itself state is = subst (λ (n : ℕ). is_between n n n ≡ true) is (itself (has state 1) (has state 2) (has state 4))

raised_between : (standing wanted free : ℕ) → IsState standing → is_between standing (raised standing wanted free) (raised standing wanted free) ≡ true
raised_between standing wanted free is =
    let r : Bool = has wanted 1 && has free 1 in
    let h : Bool = has wanted 2 && has free 2 in
    let w : Bool = has wanted 4 && has free 4 in
    let formed : raised standing wanted free ≡ form (has standing 1 || r) (has standing 2 || h) (has standing 4 || w) =
    form_of (has standing 1 || r) (has standing 2 || h) (has standing 4 || w) in
    subst (λ (n : ℕ). is_between standing n n ≡ true) (sym formed)
    (most_is_between standing (form (has standing 1 || r) (has standing 2 || h) (has standing 4 || w))
    (subst (λ (n : ℕ). is_part n (form (has standing 1 || r) (has standing 2 || h) (has standing 4 || w)) ≡ true) is
    (grown (has standing 1) (has standing 2) (has standing 4) r h w))
    (itself (has standing 1 || r) (has standing 2 || h) (has standing 4 || w)))

greatest_between : (lease : Option Lease) (wanted free : ℕ) → IsState (standing_state lease)
    → is_between (standing_state lease) (greatest lease wanted free) (greatest lease wanted free) ≡ true
greatest_between None wanted free is = raised_between 0 wanted free refl
greatest_between (Some l) wanted free is = by (is_some l.asked)
  where
    by : (t : Bool) → is_between l.state (if t then l.state else raised l.state wanted free) (if t then l.state else raised l.state wanted free) ≡ true
    by true = state_itself l.state is
    by false = raised_between l.state wanted free is

-- the choice that grants so much
abbrev pub told : Granting → Grant
told g = record { lease = g.state; durable = g.durable }

pub most_is_allowed : (s : Share) (who : Who) (wish : Key × ℕ) (durable : Bool) (node : ℕ) → IsState (standing_state (lease_of s.leases who wish.0))
    → may_grant (told (granting_with None s who (Some wish) durable node)) s who (Some wish) durable node ≡ true
most_is_allowed s who wish durable node is = by (is_taken s.leases who wish.0)
  where
    by : (t : Bool)
        → (if t then grants_nothing (told (if t then no_granting else granted None wish.0 (greatest_on s who wish node) durable))
        else is_between (standing_state (lease_of s.leases who wish.0)) (greatest_on s who wish node) (told (if t then no_granting else granted None wish.0 (greatest_on s who wish node) durable)).lease
        && is_durable_with durable (told (if t then no_granting else granted None wish.0 (greatest_on s who wish node) durable))) ≡ true
    by true = refl
    by false = both _ _ (greatest_between (lease_of s.leases who wish.0) wish.1 _ is) (either_way (durable && has (greatest_on s who wish node) 2))
