-- What a reader of a class of information answers.
use Rattle.std.specs.Prelude.{ℕ, ◌<◌, ◌⊎◌, List, length, Result, Ok, Err}
use Rattle.smb_info.specs.declared.fault.InfoFault.{InfoFault}
use Rattle.smb_info.specs.declared.fault.InfoFault.TheVariants.{Short, Next}

-- a value that stands in the information; or it has fewer bytes than the fields, or the variable part strays
abbrev pub ReadsInfo : {X : Type 0} → ℕ → (X → Type 0) → Type 0 → List ℕ → Result X InfoFault → Type 0
ReadsInfo width stands strays info (Ok x) = stands x
ReadsInfo width stands strays info (Err Short) = (length info < width) ⊎ strays
ReadsInfo width stands strays info (Err Next) = ⊥
