-- A run from its connects on.
use Rattle.std.specs.Prelude.{◌≡◌, ◌⊎◌, ◌<◌, ℕ, Bool, false, List, [], ◌∷◌, ◌++◌, Option, None, Result, Ok, Err, OnOk, IfErr}
use Rattle.smb_link.specs.Came.{Seen, Came}
use Rattle.smb_link.specs.declared.event.Event.{Event}
use Rattle.smb_link.specs.declared.event.Event.TheVariants as event
use Rattle.fs_top.specs.declared.run_end.End.{End}
use Rattle.fs_top.specs.declared.run_end.End.TheVariants as end
use Rattle.fs_top.specs.Connects.{opening, refusals}
use Rattle.fs_top.specs.Printing.{Held, TookAll}
use Rattle.fs_ahead.specs.declared.asked.Over.{Over}
use Rattle.fs_ahead.specs.Script.{Place}
use Rattle.fs_core.specs.declared.input.Input.TheVariants as input
use Rattle.fs_top.specs.Turns.{State}
use Rattle.fs_top.specs.Steps.{RanBy, Gave, EndsOver}
use Rattle.fs_top.specs.Going.{Outside, Goes}
use Rattle.fs_top.specs.Closing.{Closes}

-- what comes of connects, of which so many are tried: one is made behind fewer that failed; all failed; or memory ran out
abbrev pub JoinsSo : ℕ → Bool → Result (Unit {0}) End → List Event → Type 0
JoinsSo tries stood (Ok done) events = (n : ℕ) × (n < tries) × (events ≡ opening stood ++ (refusals n ++ event.Joined ∷ []))
JoinsSo tries stood (Err (end.Connects number)) events = (number ≡ tries) × (events ≡ opening stood ++ refusals tries)
JoinsSo tries stood (Err end.Memory) events = (events ≡ []) ⊎ ((n : ℕ) × (events ≡ opening stood ++ refusals n))
JoinsSo tries stood (Err other) events = ⊥

pub record Joins (tries : ℕ) (stood : Bool) (result : Result (Unit {0}) End) (old new : Seen) : Type 0 where
  pub events : List Event
  pub came : Came events old new
  pub so : JoinsSo tries stood result events

-- no connection was made, and the run ends
pub record NeverJoined (tries : ℕ) (stood : Bool) (result : Result (Unit {0}) End) (old new : Seen) (out out' : Held) : Type 0 where
  pub why : End
  pub is : result ≡ Err why
  pub joins : Joins tries stood (Err why) old new
  pub printed : TookAll [] out out'

-- one was made, and was given to the client
pub record StartsJoined (tries patience : ℕ) (stood : Bool) (s : State) (result : Result (Unit {0}) End) (s' : State) (old new : Seen) (out out' : Held) : Type 0 where
  pub between : Seen
  pub joins : Joins tries stood (Ok tt) old between
  pub gave : OnOk result (Gave input.Joined s s' between new out out')
  pub ends : IfErr result (λ e. RanBy input.Joined patience s (Err e) s' between new out out')
  pub over : EndsOver result None

abbrev pub Begins : ℕ → ℕ → Bool → State → Result (Unit {0}) End → State → Seen → Seen → Held → Held → Type 0
Begins tries patience stood s result s' old new out out' =
    NeverJoined tries stood result old new out out' ⊎ StartsJoined tries patience stood s result s' old new out out'

-- a whole run but for the calls that it leaves unanswered: no connection was made, and nothing else was done
pub record NeverWent (tries : ℕ) (stood : Bool) (e : End) (old new : Outside) : Type 0 where
  pub joins : Joins tries stood (Err e) old.link new.link
  pub sink : TookAll [] old.sink new.sink
  pub reads : new.reads ≡ old.reads
  pub told : new.told ≡ old.told

-- or one was made, and turns were taken on it
pub record Went (tries patience : ℕ) (stood : Bool) (s : State) (e : End) (s' : State) (over : Option Over) (old new : Outside) : Type 0 where
  pub between : Seen
  pub joins : Joins tries stood (Ok tt) old.link between
  pub goes : Goes patience s None (Err e) s' over (record old { link = between }) new

abbrev pub RanThrough : ℕ → ℕ → Bool → State → End → State → Option Over → Outside → Outside → Type 0
RanThrough tries patience stood s e s' over old new = NeverWent tries stood e old new ⊎ Went tries patience stood s e s' over old new

-- the place before the first line of a script
abbrev pub first_place : Place
first_place = record { lines = record { held = []; ended = false; number = 0 }; held = None; over = None }

-- a whole run: it ended so, and then the calls that were unanswered were closed, at which it may have ended otherwise
pub record RanScript (tries patience : ℕ) (stood : Bool) (s : State) (last : End) (old new : Outside) : Type 0 where
  pub why : End
  pub middle : Outside
  pub s' : State
  pub over : Option Over
  pub through : RanThrough tries patience stood s why s' over old middle
  pub closes : Closes s'.running why last middle.link new.link middle.sink new.sink
  pub reads : new.reads ≡ middle.reads
  pub told : new.told ≡ middle.told
