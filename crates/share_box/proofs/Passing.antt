-- Turns that are passed over, and turns at a connect.
use Rattle.std.proofs.Common.{◌≡◌, ◌<◌, Bool, true, false, List, [], ◌∷◌, length, refl, arith}
use Rattle.std.specs.Prelude.{not, if◌then◌else◌}
use Rattle.smb_link.specs.declared.event.Event.{Event}
use Rattle.share_state.specs.declared.share.Share.{Share}
use Rattle.share_box.specs.declared.schedule.Turn.{Turn}
use Rattle.share_box.specs.declared.schedule.Turn.TheVariants as turn
use Rattle.share_box.specs.declared.turns.NextTurn.TheVariants as ahead
use Rattle.share_box.specs.Schedule.{turns_behind}
use Rattle.share_box.specs.Turns.{is_possible, must_pass, from_possible, ahead_in, at_connect, reached}

if_not : {A : Type 0} (b : Bool) (x y : A) → not b ≡ true → y ≡ (if b then x else y)
if_not true x y h = absurd (cc h)
if_not false x y h = refl

if_so : {A : Type 0} (b : Bool) (x y : A) → not b ≡ false → (if b then x else y) ≡ x
if_so true x y h = refl
if_so false x y h = absurd (cc h)

-- one that is not possible is passed over
pub pass_more : (s : Share) (ts : List Turn) → must_pass s ts ≡ true → from_possible s (turns_behind ts) ≡ from_possible s ts
pass_more s [] h = absurd (cc h)
pass_more s (t ∷ ts) h = if_not (is_possible s t) (t ∷ ts) (from_possible s ts) h

pub pass_fewer : (s : Share) (ts : List Turn) → must_pass s ts ≡ true → length (turns_behind ts) < length ts
pass_fewer s [] h = absurd (cc h)
pass_fewer s (t ∷ ts) h = omega arith

pub pass_done : (s : Share) (ts : List Turn) → must_pass s ts ≡ false → from_possible s ts ≡ ts
pass_done s [] h = refl
pass_done s (t ∷ ts) h = if_so (is_possible s t) (t ∷ ts) (from_possible s ts) h

first_is : (s : Share) (t : Turn) (ts more : List Turn) (first : Turn) (rest : List Turn) (b : Bool) → b ≡ is_possible s t
    → (more ≡ first ∷ rest → is_possible s first ≡ true)
    → (if b then t ∷ ts else more) ≡ first ∷ rest → is_possible s first ≡ true
first_is s t ts more first rest true is others h = cc
first_is s t ts more first rest false is others h = others h

-- the next one is possible
pub next_possible : (s : Share) (ts : List Turn) (first : Turn) (rest : List Turn) → from_possible s ts ≡ first ∷ rest → is_possible s first ≡ true
next_possible s [] first rest h = absurd (cc h)
next_possible s (t ∷ ts) first rest h = first_is s t ts (from_possible s ts) first rest (is_possible s t) refl (next_possible s ts first rest) h

-- at a refusal a connect is refused, and at the rest it is not
pub at_refusal : (ts : List Turn) (s : Share) (story : List Event) → ahead_in ts ≡ ahead.Refusal → at_connect ts s story ≡ reached s story (turns_behind ts) true
at_refusal [] s story h = absurd (cc h)
at_refusal (turn.Serve n ∷ ts) s story h = absurd (cc h)
at_refusal (turn.Act who r ∷ ts) s story h = absurd (cc h)
at_refusal (turn.Cut ∷ ts) s story h = absurd (cc h)
at_refusal (turn.Quiet ∷ ts) s story h = absurd (cc h)
at_refusal (turn.DropAll ∷ ts) s story h = absurd (cc h)
at_refusal (turn.RefuseConnect ∷ ts) s story h = refl

pub at_rest : (ts : List Turn) (s : Share) (story : List Event) → ahead_in ts ≡ ahead.Rest → at_connect ts s story ≡ reached s story ts false
at_rest [] s story h = refl
at_rest (turn.Serve n ∷ ts) s story h = refl
at_rest (turn.Act who r ∷ ts) s story h = absurd (cc h)
at_rest (turn.Cut ∷ ts) s story h = refl
at_rest (turn.Quiet ∷ ts) s story h = refl
at_rest (turn.DropAll ∷ ts) s story h = absurd (cc h)
at_rest (turn.RefuseConnect ∷ ts) s story h = absurd (cc h)
