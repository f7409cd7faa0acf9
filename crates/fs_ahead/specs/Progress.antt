-- How far a script was read, and what of it was taken.
use Rattle.std.specs.Prelude.{◌≡◌, ℕ, Bool, true, false, MatchBool, IfSome, List, [], ◌∷◌, ◌++◌, Option, Some, None, option_map}
use Rattle.smb_link.specs.Count.{counted}
use Rattle.fs_ahead.specs.declared.asked.Asked.{Asked}
use Rattle.fs_ahead.specs.declared.asked.Asked.TheVariants as asked
use Rattle.fs_ahead.specs.declared.asked.ScriptCall.{ScriptCall}
use Rattle.fs_ahead.specs.declared.asked.Over.{Over}
use Rattle.fs_ahead.specs.declared.asked.Over.TheVariants as over
use Rattle.fs_ahead.specs.Script.{Coming, Place, to_come}
use Rattle.fs_ahead.specs.Steps.{is_failed_now, Keeps, IsHeldOrOver}

-- a place in a script, what its source has left, and how often it failed
pub record Reads : Type 0 where
  pub place : Place
  pub left : Option (List ℕ)
  pub faults : ℕ

abbrev pub reads_by : {S : Type 0} → (S → Option (List ℕ)) → (S → ℕ) → Place → S → Reads
reads_by left faults place source = record { place = place; left = left source; faults = faults source }

-- the script is read ahead, and nothing is taken: what is to come stays the same, unless the source fails
pub record ReadsOn (old new : Reads) : Type 0 where
  pub stays : IsHeldOrOver old.place → new.place ≡ old.place
  pub keeps : Keeps old.place old.left new.place new.left
  pub faults : new.faults ≡ counted old.faults (is_failed_now old.place.over new.place.over)

-- all this, and then what is to come behind it
abbrev pub all_then : List Asked → Coming → Coming
all_then taken later = record later { asked = taken ++ later.asked }

-- this is what the script asks for first
abbrev pub IsFront : List Asked → Coming → Type 0
IsFront taken coming = (later : List Asked) × (coming.asked ≡ taken ++ later)

abbrev pub is_source : Option Over → Bool
is_source (Some over.Source) = true
is_source reason = false

-- this was taken of a script, of which that was to come, where its source tells: the rest is still to come
pub record GoesOn (script : Option Coming) (faults : ℕ) (taken : List Asked) (now : Reads) : Type 0 where
  pub rest : script ≡ option_map (all_then taken) (to_come now.place now.left)
  pub faults_are : now.faults ≡ faults

-- this was taken of it, and then the source failed
pub record Failed (script : Option Coming) (faults : ℕ) (taken : List Asked) (now : Reads) : Type 0 where
  pub none : now.place.held ≡ None
  pub front : IfSome script (IsFront taken)
  pub faults_are : now.faults ≡ counted faults true

-- how far a script was taken: it goes on, or its source failed
pub record Progress (script : Option Coming) (faults : ℕ) (taken : List Asked) (now : Reads) : Type 0 where
  pub stands : MatchBool (is_source now.place.over) (Failed script faults taken now) (GoesOn script faults taken now)

-- a script was taken whole, up to its end or to the first line that is refused; or the source failed behind what was taken
abbrev pub ReadTo : Over → Option Coming → ℕ → ℕ → List Asked → Type 0
ReadTo over.Source script faults faults' taken = IfSome script (IsFront taken) × (faults' ≡ counted faults true)
ReadTo why script faults faults' taken = IfSome script (λ s. (s.asked ≡ taken) × (s.over ≡ why)) × (faults' ≡ faults)

-- the calls of what was taken
abbrev pub calls_of : List Asked → List ScriptCall
calls_of [] = []
calls_of (asked.Call x ∷ more) = x ∷ calls_of more
calls_of (asked.Wait ∷ more) = calls_of more
