-- What each step of the reading does.
use Rattle.std.specs.Prelude.{◌≡◌, ◌⊎◌, ◌<◌, ◌≤◌, ℕ, Bool, true, false, MatchBool, IsSome, IfSome, List}
use Rattle.std.specs.Prelude.{Option, Some, None, option_map, Result, Ok, Err}
use Rattle.smb_link.specs.Calls.{is_there}
use Rattle.fs_ahead.specs.declared.asked.Asked.{Asked}
use Rattle.fs_ahead.specs.declared.asked.Asked.TheVariants as asked
use Rattle.fs_ahead.specs.declared.asked.Over.{Over}
use Rattle.fs_ahead.specs.declared.asked.Over.TheVariants as over
use Rattle.fs_ahead.specs.declared.next.Found.{Found}
use Rattle.fs_ahead.specs.declared.next.Found.TheVariants as found
use Rattle.fs_ahead.specs.Script.{LineWants, Nothing, Pause, Called, Refused, Coming, Place, to_come, asked_then, unless_over}

-- no more lines are read from now on, since the source failed
abbrev pub is_failed_now : Option Over → Option Over → Bool
is_failed_now None (Some over.Source) = true
is_failed_now was is = false

-- What is to come stays the same, unless the source failed now: then nothing is held.
abbrev pub Keeps : Place → Option (List ℕ) → Place → Option (List ℕ) → Type 0
Keeps old before new after = MatchBool (is_failed_now old.over new.over) (new.held ≡ None) (to_come old before ≡ to_come new after)

-- something is held, or no more lines are read
abbrev pub IsHeldOrOver : Place → Type 0
IsHeldOrOver p = IsSome p.held ⊎ IsSome p.over

-- a call is of a line between these two, the second one included, and is one that the client has
abbrev pub IsBetween : ℕ → ℕ → Asked → Type 0
IsBetween last upto (asked.Call x) = (last < x.number) × (x.number ≤ upto) × (is_there x.call ≡ true)
IsBetween last upto asked.Wait = Unit {0}

-- the lines that were read go up to the one with this number at least; a call that is held is of a later line, and more may come behind it
pub record IsAhead (last : ℕ) (p : Place) : Type 0 where
  pub read_on : last ≤ p.lines.number
  pub held : IfSome p.held (IsBetween last p.lines.number)
  pub more : IfSome p.held (λ x. p.over ≡ None)

-- what was taken behind the line with this number: a call is of a later line, and the reader is ahead of that line
abbrev pub IsNext : ℕ → Option Asked → Place → Type 0
IsNext last (Some (asked.Call x)) new = (last < x.number) × (is_there x.call ≡ true) × IsAhead x.number new
IsNext last (Some asked.Wait) new = IsAhead last new
IsNext last None new = IsAhead last new

-- what a line with this number brings, by what it asks for
abbrev pub brought : LineWants → ℕ → Option Found
brought Nothing number = None
brought Pause number = Some (found.Asked asked.Wait)
brought (Called lane call) number = Some (found.Asked (asked.Call (record { number = number; lane = lane; call = call })))
brought Refused number = Some (found.Over (over.Line number))

-- What lines brought is what was to come first, unless the source failed.
abbrev pub Brings : Found → Option Coming → Option Coming → Type 0
Brings (found.Over over.Source) before after = Unit {0}
Brings (found.Over why) before after = before ≡ option_map (unless_over (Some why)) after
Brings (found.Asked x) before after = before ≡ option_map (asked_then (Some x)) after

-- a line that asks for nothing leaves what is to come
abbrev pub LineBrings : Option Found → Option Coming → Option Coming → Type 0
LineBrings None before after = before ≡ after
LineBrings (Some x) before after = Brings x before after

-- what a line with this number brings: its call has that number, and is one that the client has
abbrev pub IsToldAt : ℕ → Found → Type 0
IsToldAt number (found.Asked (asked.Call x)) = (x.number ≡ number) × (is_there x.call ≡ true)
IsToldAt number (found.Asked asked.Wait) = Unit {0}
IsToldAt number (found.Over over) = Unit {0}

-- what lines bring: what is asked for is of the last line that was read
abbrev pub IsFound : ℕ → ℕ → Found → Type 0
IsFound before after (found.Asked x) = (before < after) × IsToldAt after (found.Asked x)
IsFound before after (found.Over over) = Unit {0}

-- what one line brings; where it brings nothing one line more was read
abbrev pub IsFoundLine : ℕ → ℕ → Option Found → Type 0
IsFoundLine before after None = before < after
IsFoundLine before after (Some x) = IsFound before after x

-- the source failed
abbrev pub is_source : Found → Bool
is_source (found.Over over.Source) = true
is_source other = false

abbrev pub is_source_line : Option Found → Bool
is_source_line None = false
is_source_line (Some x) = is_source x

abbrev pub is_source_by : {X E : Type 0} → (X → Bool) → Result X E → Bool
is_source_by test (Ok x) = test x
is_source_by test (Err e) = false
