-- Where a ping connects, and the cuts that its connect makes.
use Rattle.std.proofs.Common.{◌≡◌, refl, sym, subst, ℕ, Bool, true, false, List, Result, Ok, Err, inl, inr}
use Rattle.smb_link.specs.Count.{counted}
use Rattle.smb_link.specs.Once.{WentOnlyTo}
use Rattle.smb_link.specs.Story.{connect_cuts}
use Rattle.smb_link.specs.declared.faults.LinkFail.{LinkFail}
use Rattle.smb_link.specs.declared.faults.LinkFail.TheVariants as fail
use Rattle.smb_link.specs.declared.places.Place.{Place}
use Rattle.fs_top.specs.Connects.{CutsOnce}

-- one connect ends a connection that stood before, or none
pub cut_once : (stood stands : Bool) (result : Result (Unit {0}) LinkFail) (old new : ℕ) → new ≡ counted old (connect_cuts stood stands result) → CutsOnce stood old new
cut_once false stands (Ok x) old new is = inl is
cut_once true stands (Ok x) old new is = inr (refl, is)
cut_once false stands (Err fail.Failed) old new is = inl is
cut_once true stands (Err fail.Failed) old new is = inr (refl, is)
cut_once false stands (Err fail.NoMemory) old new is = inl is
cut_once true true (Err fail.NoMemory) old new is = inl is
cut_once true false (Err fail.NoMemory) old new is = inr (refl, is)

-- what comes behind it changes neither
pub stays_gone : (place : Place) (a b c : List Place) → WentOnlyTo place a b → c ≡ b → WentOnlyTo place a c
stays_gone place a b c went same = subst (WentOnlyTo place a) (sym same) went

pub stays_cut : (stood : Bool) (a b c : ℕ) → CutsOnce stood a b → c ≡ b → CutsOnce stood a c
stays_cut stood a b c cuts same = subst (CutsOnce stood a) (sym same) cuts
