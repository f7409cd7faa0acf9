-- Causes of endings.
use Rattle.std.proofs.Common.{◌≡◌, ◌⊎◌, inl, inr, ℕ, Bool, List, refl}
use Rattle.smb_link.specs.declared.event.Event.{Event}
use Rattle.fs_top.specs.declared.ping.ending.Ending.{Ending}
use Rattle.fs_top.specs.declared.ping.ending.Ending.TheVariants as ending
use Rattle.smb_link.specs.Came.{Seen, Came}
use Rattle.fs_top.specs.Printing.{Held}
use Rattle.fs_top.specs.Ping.Run.{Causes, Printed, Ran}
use Rattle.fs_top.proofs.Pings.Once.{causes_once}

-- the ending that came is the only one with a cause, where it has one
only_one : (words : List (List ℕ)) (stood : Bool) (seed : List ℕ) (events : List Event) (e : Ending) → (e ≡ ending.Memory) ⊎ Causes words stood seed events e
    → (other : Ending) → Causes words stood seed events other → (e ≡ ending.Memory) ⊎ (other ≡ e)
only_one words stood seed events e (inl memory) other cause = inl memory
only_one words stood seed events e (inr cause) other too = inr (causes_once words stood seed events other e too cause)

-- a run that was printed, or of which want of memory was printed
pub ran_printed : (words : List (List ℕ)) (stood : Bool) (seed : List ℕ) (link link' : Seen) (sink sink' : Held) (status : ℕ) (events : List Event) (e : Ending)
    → Came events link link' → (e ≡ ending.Memory) ⊎ Causes words stood seed events e → Printed e sink sink' status ⊎ Printed ending.Memory sink sink' status
    → Ran words stood seed link link' sink sink' status
ran_printed words stood seed link link' sink sink' status events e came cause (inl printed) =
    record { events = events; came = came; ending = e; cause = cause; only = only_one words stood seed events e cause; printed = printed }
ran_printed words stood seed link link' sink sink' status events e came cause (inr printed) =
    record { events = events; came = came; ending = ending.Memory; cause = inl refl; only = λ other too. inl refl; printed = printed }
