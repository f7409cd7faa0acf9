-- The connects of a run, event by event.
use Rattle.std.proofs.Common.{◌≡◌, ◌⊎◌, inl, inr, ◌<◌, ◌≤◌, ℕ, zero, suc, ◌+◌, Bool, true, false, List, [], ◌∷◌, ◌++◌, refl, ap, sym, ◌∙◌, subst, append_assoc, append-nil, Result, Ok, Err, arith, rules}
use Rattle.smb_link.specs.declared.event.Event.{Event}
use Rattle.smb_link.specs.declared.event.Event.TheVariants as event
use Rattle.smb_link.specs.declared.faults.LinkFail.{LinkFail}
use Rattle.smb_link.specs.declared.faults.LinkFail.TheVariants as fail
use Rattle.smb_link.specs.Count.{counted}
use Rattle.smb_link.specs.Story.{connect_events, connect_cuts}
use Rattle.smb_link.specs.Came.{Seen, Came}
use Rattle.smb_link.proofs.CameLaws.{came_none, came_then}
use Rattle.fs_top.specs.declared.run_end.End.TheVariants as end
use Rattle.fs_top.specs.Connects.{opening, refusals}
use Rattle.fs_top.specs.Connects.{CutsOnce}
use Rattle.fs_top.specs.Running.{Joins}

refusals-last : (n : ℕ) → refusals n ++ event.NotJoined ∷ [] ≡ refusals (n + 1)
refusals-last zero = refl
refusals-last (suc n) = ap (λ (l : List Event). event.NotJoined ∷ l) (refusals-last n) ∙ ap refusals (one_more n)
  where
    one_more : (k : ℕ) → suc (k + 1) ≡ suc k + 1
    one_more k = omega arith

-- what so many failed connects made come: before the first one the connection is as it was, behind it there is none
abbrev pub IsTried : Bool → Bool → ℕ → List Event → Type 0
IsTried stood stands n events = ((n ≡ 0) × (events ≡ []) × (stands ≡ stood)) ⊎ ((events ≡ opening stood ++ refusals n) × (stands ≡ false))

pub record Tried (stood stands : Bool) (n : ℕ) (old now : Seen) : Type 0 where
  pub events : List Event
  pub came : Came events old now
  pub so : IsTried stood stands n events

pub tried_none : (stood : Bool) (seen : Seen) → Tried stood stood 0 seen seen
tried_none stood seen = record { events = []; came = came_none seen; so = inl (refl, refl, refl) }

behind_none : (stood stands : Bool) (last events : List Event) (n : ℕ) → IsTried stood stands n events → events ++ (opening stands ++ last) ≡ opening stood ++ (refusals n ++ last)
behind_none stood stands last events n (inl first) =
    ap (λ (l : List Event). l ++ (opening stands ++ last)) first.1 ∙ ap (λ (b : Bool). opening b ++ last) first.2 ∙ ap (λ (k : ℕ). opening stood ++ (refusals k ++ last)) (sym first.0)
behind_none stood stands last events n (inr later) =
    ap (λ (l : List Event). l ++ (opening stands ++ last)) later.0 ∙ ap (λ (b : Bool). (opening stood ++ refusals n) ++ (opening b ++ last)) later.1 ∙ append_assoc (opening stood) (refusals n) last

pub tried_more : (stood stands stands' : Bool) (n : ℕ) (old now new : Seen) → Tried stood stands n old now → Came (connect_events stands stands' (Err fail.Failed)) now new → stands' ≡ false
    → Tried stood stands' (n + 1) old new
tried_more stood stands stands' n old now new t came none = record {
  events = t.events ++ connect_events stands stands' (Err fail.Failed);
  came = came_then t.events (connect_events stands stands' (Err fail.Failed)) old now new t.came came;
  so = inr (behind_none stood stands (event.NotJoined ∷ []) t.events n t.so ∙ ap (λ (l : List Event). opening stood ++ l) (refusals-last n), none);
}

pub tried_joined : (tries : ℕ) (stood stands stands' : Bool) (n : ℕ) (old now new : Seen) → Tried stood stands n old now → n < tries → Came (connect_events stands stands' (Ok tt)) now new
    → Joins tries stood (Ok tt) old new
tried_joined tries stood stands stands' n old now new t few came = record {
  events = t.events ++ connect_events stands stands' (Ok tt);
  came = came_then t.events (connect_events stands stands' (Ok tt)) old now new t.came came;
  so = (n, few, behind_none stood stands (event.Joined ∷ []) t.events n t.so);
}

-- memory ran out: the connection that stood before may have been ended
memory_so : (stood stands stands' : Bool) (n : ℕ) (events : List Event) → IsTried stood stands n events
    → (events ++ connect_events stands stands' (Err fail.NoMemory) ≡ []) ⊎ ((m : ℕ) × (events ++ connect_events stands stands' (Err fail.NoMemory) ≡ opening stood ++ refusals m))
memory_so stood true true n events (inl first) = inl (append-nil events ∙ first.1)
memory_so stood true false n events (inl first) = inr (0, ap (λ (l : List Event). l ++ event.Cut ∷ []) first.1 ∙ ap (λ (b : Bool). opening b ++ []) first.2)
memory_so stood false true n events (inl first) = inl (append-nil events ∙ first.1)
memory_so stood false false n events (inl first) = inl (append-nil events ∙ first.1)
memory_so stood true stands' n events (inr later) = absurd (cc)
memory_so stood false true n events (inr later) = inr (n, append-nil events ∙ later.0)
memory_so stood false false n events (inr later) = inr (n, append-nil events ∙ later.0)

pub tried_memory : (tries : ℕ) (stood stands stands' : Bool) (n : ℕ) (old now new : Seen) → Tried stood stands n old now → Came (connect_events stands stands' (Err fail.NoMemory)) now new
    → Joins tries stood (Err end.Memory) old new
tried_memory tries stood stands stands' n old now new t came = record {
  events = t.events ++ connect_events stands stands' (Err fail.NoMemory);
  came = came_then t.events (connect_events stands stands' (Err fail.NoMemory)) old now new t.came came;
  so = memory_so stood stands stands' n t.events t.so;
}

all_tried : (tries : ℕ) (stood stands : Bool) (n : ℕ) (events : List Event) → IsTried stood stands n events → n ≡ tries → 1 ≤ tries → events ≡ opening stood ++ refusals tries
all_tried tries stood stands n events (inl first) is some = absurd (no first.0)
  where
    no : n ≡ 0 → ⊥
    no none = omega arith
all_tried tries stood stands n events (inr later) is some = later.0 ∙ ap (λ (k : ℕ). opening stood ++ refusals k) is

pub tried_all : (tries : ℕ) (stood stands : Bool) (n : ℕ) (old now : Seen) → Tried stood stands n old now → n ≡ tries → 1 ≤ tries → Joins tries stood (Err (end.Connects tries)) old now
tried_all tries stood stands n old now t is some = record { events = t.events; came = t.came; so = (refl, all_tried tries stood stands n t.events t.so is some) }

-- how often connects that failed ended a connection themselves: before the first one never, behind it once at most
abbrev pub IsCutOnce : Bool → Bool → ℕ → ℕ → Type 0
IsCutOnce stood stands old now = ((stands ≡ stood) × (now ≡ old)) ⊎ ((stands ≡ false) × CutsOnce stood old now)

cut_stood : (stood stands : Bool) (r : Result (Unit {0}) LinkFail) → connect_cuts stood stands r ≡ true → stood ≡ true
cut_stood stood stands (Ok done) is = is
cut_stood stood stands (Err fail.Failed) is = is
cut_stood true stands (Err fail.NoMemory) is = refl
cut_stood false stands (Err fail.NoMemory) is = is

no_true : false ≡ true → ⊥
no_true is = search rules

cut_once : (stood stands cut : Bool) (old now new : ℕ) → IsCutOnce stood stands old now → (cut ≡ true → stands ≡ true) → new ≡ counted now cut → CutsOnce stood old new
cut_once stood stands false old now new (inl first) on is = inl (is ∙ first.1)
cut_once stood stands false old now new (inr later) on is = subst (CutsOnce stood old) (sym is) later.1
cut_once stood stands true old now new (inl first) on is = inr (sym first.0 ∙ on refl, is ∙ ap (λ (n : ℕ). counted n true) first.1)
cut_once stood stands true old now new (inr later) on is = absurd (no_true (sym later.0 ∙ on refl))

pub cut_by : (stood stands stands' : Bool) (r : Result (Unit {0}) LinkFail) (old now new : ℕ) → IsCutOnce stood stands old now → new ≡ counted now (connect_cuts stands stands' r)
    → CutsOnce stood old new
cut_by stood stands stands' r old now new so is = cut_once stood stands (connect_cuts stands stands' r) old now new so (cut_stood stands stands' r) is

pub cut_all : (stood stands : Bool) (old now : ℕ) → IsCutOnce stood stands old now → CutsOnce stood old now
cut_all stood stands old now (inl first) = inl first.1
cut_all stood stands old now (inr later) = later.1
