-- The events of connects that did not join, of a ping and of a run.
use Rattle.std.specs.Prelude.{◌≡◌, ◌⊎◌, ℕ, zero, suc, Bool, true, List, [], ◌∷◌, if◌then◌else◌}
use Rattle.smb_link.specs.Count.{counted}
use Rattle.smb_link.specs.declared.event.Event.{Event}
use Rattle.smb_link.specs.declared.event.Event.TheVariants as event

-- a connection that stood ends before the first connect
abbrev pub opening : Bool → List Event
opening stood = if stood then event.Cut ∷ [] else []

-- so many connects that failed
abbrev pub refusals : ℕ → List Event
refusals zero = []
refusals (suc n) = event.NotJoined ∷ refusals n

-- connects end a connection themselves once at most, the one that stood before
abbrev pub CutsOnce : Bool → ℕ → ℕ → Type 0
CutsOnce stood old new = (new ≡ old) ⊎ ((stood ≡ true) × (new ≡ counted old true))
