-- The calls that turns begin are those that were taken of the script for them.
use Rattle.std.proofs.Common.{◌≡◌, ◌∙◌, refl, sym, ap, subst, ℕ, Bool, true, false, List, [], ◌∷◌, ◌++◌}
use Rattle.std.proofs.lemmas.List.{append-nil, append_assoc}
use Rattle.smb_link.specs.declared.event.Event.{Event}
use Rattle.smb_link.specs.declared.event.Event.TheVariants as event
use Rattle.smb_link.specs.declared.mark.Mark.TheVariants as mark
use Rattle.fs_ahead.specs.declared.asked.Asked.{Asked}
use Rattle.fs_ahead.specs.declared.asked.Asked.TheVariants as asked
use Rattle.fs_ahead.specs.declared.asked.ScriptCall.{ScriptCall}
use Rattle.fs_ahead.specs.Progress.{calls_of}
use Rattle.fs_ahead.proofs.Progressing.{calls_then}
use Rattle.fs_core.specs.declared.input.Input.{Input}
use Rattle.fs_core.specs.declared.input.Input.TheVariants as input
use Rattle.fs_core.specs.declared.output.Output.{Output}
use Rattle.fs_core.specs.Kept.{CoreValue}
use Rattle.fs_core.specs.Event.{events_by, events_of, AreInOrder, has_left, Moves}
use Rattle.fs_top.specs.Turns.{Turn, State, heard_one, heard_by, carried, after_turn, after_turns, IsOne, Hears, Silently, Listened, Lost, IsTurn, AreTurns, events_at, events_in}
use Rattle.fs_top.specs.Given.{ArePassed, Takes, Follows}
use Rattle.fs_top.specs.Run.{begun_in, AreFirst}
use Rattle.fs_top.proofs.Clients.{left_last, moves}

pub begun_append : (xs ys : List Event) → begun_in (xs ++ ys) ≡ begun_in xs ++ begun_in ys
begun_append [] ys = refl
begun_append (event.Marked (mark.Begin number lane call) ∷ xs) ys =
    ap (λ (l : List ScriptCall). record { number = number; lane = lane; call = call } ∷ l) (begun_append xs ys)
begun_append (event.Marked (mark.For number first count) ∷ xs) ys = begun_append xs ys
begun_append (event.Marked (mark.Answer number a) ∷ xs) ys = begun_append xs ys
begun_append (event.Marked (mark.Now time) ∷ xs) ys = begun_append xs ys
begun_append (event.Marked mark.End ∷ xs) ys = begun_append xs ys
begun_append (event.Sent frame ∷ xs) ys = begun_append xs ys
begun_append (event.Got bytes ∷ xs) ys = begun_append xs ys
begun_append (e ∷ xs) ys = begun_append xs ys

events_append : (xs ys : List Output) → events_of (xs ++ ys) ≡ events_of xs ++ events_of ys
events_append [] ys = refl
events_append (o ∷ xs) ys = ap (λ (l : List Event). events_by o ++ l) (events_append xs ys) ∙ sym (append_assoc (events_by o) (events_of xs) (events_of ys))

-- what is heard begins nothing
heard_none : (heard : List Event) → IsOne heard → begun_in heard ≡ []
heard_none [] one = refl
heard_none (event.Got bytes ∷ []) one = refl
heard_none (event.Quiet ∷ []) one = refl
heard_none (event.Cut ∷ []) one = refl
heard_none other one = absurd one

hears_none : (t : Turn) → Hears t → begun_in t.heard ≡ []
hears_none t (Silently is) = ap begun_in is
hears_none t (Listened now none on one) = heard_none t.heard one
hears_none t (Lost send is) = ap begun_in is

-- the calls that an input begins
abbrev pub begun_by : Input → List ScriptCall
begun_by (input.Begin number lane call) = record { number = number; lane = lane; call = call } ∷ []
begun_by other = []

abbrev pub inputs_begun : List Turn → List ScriptCall
inputs_begun [] = []
inputs_begun (t ∷ ts) = begun_by t.input ++ inputs_begun ts

-- the outputs of a turn, carried out or not, tell the beginning that its input is
abbrev pub TellsBegun : Turn → Type 0
TellsBegun t = begun_in (events_of (t.outs ++ t.left)) ≡ begun_by t.input

abbrev pub AllTell : List Turn → Type 0
AllTell [] = Unit {0}
AllTell (t ∷ ts) = TellsBegun t × AllTell ts

-- a turn that left nothing, or that left the share, has begun what its input begins
begun_at : (t : Turn) → Hears t → begun_in (events_at t) ≡ begun_in (events_of t.outs)
begun_at t hears =
    begun_append (events_of t.outs) t.heard ∙ ap (λ (l : List ScriptCall). begun_in (events_of t.outs) ++ l) (hears_none t hears) ∙ append-nil (begun_in (events_of t.outs))

begun_split : (t : Turn) → TellsBegun t → begun_by t.input ≡ begun_in (events_of t.outs) ++ begun_in (events_of t.left)
begun_split t tells = sym tells ∙ ap begun_in (events_append t.outs t.left) ∙ begun_append (events_of t.outs) (events_of t.left)

begun_first : (t : Turn) → Hears t → TellsBegun t → AreFirst (begun_in (events_at t)) (begun_by t.input)
begun_first t hears tells =
    (begun_in (events_of t.left), begun_split t tells ∙ ap (λ (l : List ScriptCall). l ++ begun_in (events_of t.left)) (sym (begun_at t hears)))

begun_whole : (t : Turn) → Hears t → TellsBegun t → begun_in (events_of t.left) ≡ [] → begun_in (events_at t) ≡ begun_by t.input
begun_whole t hears tells none =
    begun_at t hears ∙ sym (append-nil (begun_in (events_of t.outs))) ∙ ap (λ (l : List ScriptCall). begun_in (events_of t.outs) ++ l) (sym none) ∙ sym (begun_split t tells)

-- what is heard leaves the core
core_one : (un : Bool) (e : Event) (s : State) → (heard_one un e s).core ≡ s.core
core_one un (event.Got bytes) s = refl
core_one un event.Quiet s = refl
core_one un event.Cut s = refl
core_one un other s = refl

core_heard : (un : Bool) (heard : List Event) (s : State) → (heard_by un heard s).core ≡ s.core
core_heard un [] s = refl
core_heard un (e ∷ heard) s = core_heard un heard (heard_one un e s) ∙ core_one un e s

over_one : (un : Bool) (e : Event) (s : State) → (heard_one un e s).over ≡ s.over
over_one un (event.Got bytes) s = refl
over_one un event.Quiet s = refl
over_one un event.Cut s = refl
over_one un other s = refl

over_heard : (un : Bool) (heard : List Event) (s : State) → (heard_by un heard s).over ≡ s.over
over_heard un [] s = refl
over_heard un (e ∷ heard) s = over_heard un heard (heard_one un e s) ∙ over_one un e s

-- the turn before another one has left nothing
left_nothing : (s : State) (t u : Turn) → IsTurn (after_turn t s) u → t.left ≡ []
left_nothing s t u is = ap (λ (c : CoreValue). c.outs) (sym (is.before ∙ core_heard _ t.heard (carried t s))) ∙ is.nothing_left

-- where the share was left in a turn, nothing that is left begins a call
left_none : (s : State) (t : Turn) → IsTurn s t → has_left t.outs ≡ true → begun_in (events_of t.left) ≡ []
left_none s t is has =
    let m = moves t.input t.before t.mid t.before.kept.phase is.connects is.goes in
    ap begun_in (left_last 1 t.outs t.left (subst (AreInOrder 1 4) (sym (more_is m)) m.order) has)
  where
    more_is : (m : Moves t.input t.before t.mid) → t.outs ++ t.left ≡ m.more
    more_is m = sym is.popped ∙ m.outs ∙ ap (λ (l : List Output). l ++ m.more) is.nothing_left

-- all that turns begin are the first of what their inputs begin; all of it, where the last turn left the share
pub record AreBegun (turns : List Turn) (s : State) : Type 0 where
  pub first : AreFirst (begun_in (events_in turns)) (inputs_begun turns)
  pub whole : (after_turns turns s).over ≡ true → begun_in (events_in turns) ≡ inputs_begun turns

first_then : (x y : List Event) (a b : List ScriptCall) → begun_in x ≡ a → AreFirst (begun_in y) b → AreFirst (begun_in (x ++ y)) (a ++ b)
first_then x y a b is first = (
  first.0,
  ap (λ (l : List ScriptCall). a ++ l) first.1 ∙ sym (append_assoc a (begun_in y) first.0)
      ∙ ap (λ (l : List ScriptCall). l ++ first.0) (ap (λ (l : List ScriptCall). l ++ begun_in y) (sym is) ∙ sym (begun_append x y)),
)

whole_then : (x y : List Event) (a b : List ScriptCall) → begun_in x ≡ a → begun_in y ≡ b → begun_in (x ++ y) ≡ a ++ b
whole_then x y a b is are = begun_append x y ∙ ap (λ (l : List ScriptCall). l ++ begun_in y) is ∙ ap (λ (l : List ScriptCall). a ++ l) are

one_first : (t : Turn) (l : List ScriptCall) → l ≡ begun_in (events_at t) → AreFirst (begun_in (events_at t)) (begun_by t.input) → AreFirst (begun_in (events_at t ++ [])) (begun_by t.input ++ [])
one_first t l is first = (
  first.0,
  append-nil (begun_by t.input) ∙ first.1 ∙ ap (λ (x : List ScriptCall). x ++ first.0) (ap begun_in (sym (append-nil (events_at t)))),
)

pub turns_begun : (turns : List Turn) (s : State) → s.over ≡ false → AreTurns s turns → AllTell turns → AreBegun turns s
turns_begun [] s on are tell = record { first = ([], refl); whole = λ over. refl }
turns_begun (t ∷ []) s on are tell = record {
  first = one_first t (begun_in (events_at t)) refl (begun_first t are.0.hears tell.0);
  whole = λ over. whole_then (events_at t) [] (begun_by t.input) []
      (begun_whole t are.0.hears tell.0 (left_none s t are.0 (sym (over_heard _ t.heard (carried t s)) ∙ over))) refl;
}
turns_begun (t ∷ u ∷ us) s on are tell =
    let left : t.left ≡ [] = left_nothing s t u are.1.0 in
    let one = begun_whole t are.0.hears tell.0 (ap (λ (os : List Output). begun_in (events_of os)) left) in
    let rest = turns_begun (u ∷ us) (after_turn t s) are.1.0.goes_on are.1 tell.1 in
    record {
      first = first_then (events_at t) (events_in (u ∷ us)) (begun_by t.input) (inputs_begun (u ∷ us)) one rest.first;
      whole = λ over. whole_then (events_at t) (events_in (u ∷ us)) (begun_by t.input) (inputs_begun (u ∷ us)) one (rest.whole over);
    }

-- pauses ask for no call
passed_none : (taken : List Asked) (running : List ℕ) → ArePassed taken running → calls_of taken ≡ []
passed_none [] running passed = refl
passed_none (asked.Wait ∷ more) running passed = passed_none more running passed.1
passed_none (asked.Call x ∷ more) running passed = absurd passed

takes_calls : (i : Input) (running : List ℕ) (now : List Asked) → Takes i running now → calls_of now ≡ begun_by i
takes_calls (input.Begin number lane call) running now takes =
    ap calls_of takes.1 ∙ calls_then takes.0 (asked.Call (record { number = number; lane = lane; call = call }) ∷ [])
    ∙ ap (λ (l : List ScriptCall). l ++ record { number = number; lane = lane; call = call } ∷ []) (passed_none takes.0 running takes.2)
takes_calls (input.Frame frame) running now takes = passed_none now running takes
takes_calls input.Cut running now takes = passed_none now running takes
takes_calls input.Joined running now takes = passed_none now running takes
takes_calls (input.Now time) running now takes = passed_none now running takes
takes_calls input.End running now takes = passed_none now running takes

pub follows_calls : (turns : List Turn) (s : State) (taken : List Asked) → Follows taken s turns → calls_of taken ≡ inputs_begun turns
follows_calls [] s taken follows = passed_none taken s.running follows
follows_calls (t ∷ ts) s taken follows =
    ap calls_of follows.2 ∙ calls_then follows.0 follows.1
    ∙ ap (λ (l : List ScriptCall). l ++ calls_of follows.1) (takes_calls t.input s.running follows.0 follows.3)
    ∙ ap (λ (l : List ScriptCall). begun_by t.input ++ l) (follows_calls ts (after_turn t s) follows.1 follows.4)
