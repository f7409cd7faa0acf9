-- A run on a link on which no connection stood.
use Rattle.std.proofs.Common.{◌≡◌, subst, ℕ, Bool, false, List, Option}
use Rattle.smb_link.specs.Came.{Seen}
use Rattle.fs_core.specs.Kept.{CoreValue}
use Rattle.fs_ahead.specs.Script.{Coming}
use Rattle.fs_top.specs.Printing.{Held}
use Rattle.fs_top.specs.Run.{RunIs}

pub at_rest : (core : CoreValue) (tries patience : ℕ) (script : Option Coming) (faults faults' : ℕ) (told told' : Option (List ℕ)) (stood : Bool) (link link' : Seen) (out out' : Held) (status : ℕ) → stood ≡ false
    → RunIs core tries patience script faults faults' told told' stood link link' out out' status → RunIs core tries patience script faults faults' told told' false link link' out out' status
at_rest core tries patience script faults faults' told told' stood link link' out out' status none r =
    subst (λ (b : Bool). RunIs core tries patience script faults faults' told told' b link link' out out' status) none r
