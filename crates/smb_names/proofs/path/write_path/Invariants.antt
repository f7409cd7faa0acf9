use Rattle.std.proofs.Common.{◌≡◌, ◌++◌, ◌∷◌, [], take}
use Rattle.std.specs.List.{flat_map}
use Rattle.smb_names.specs.WireName.{spelling}
use Rattle.smb_names.proofs.path.write_path.Given as goal

abbrev pub invariant-loop-component : goal.invariant-loop-component
invariant-loop-component l = l.units ≡ l.initial.units ++ flat_map (λ name. (0x5C ∷ []) ++ spelling l.map name) (take l.component-index l.others)
