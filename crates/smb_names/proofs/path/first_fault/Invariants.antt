use Rattle.std.proofs.Common.{◌≡◌, drop}
use Rattle.smb_names.specs.Path.{first_fault}
use Rattle.smb_names.proofs.path.first_fault.Given as goal

abbrev pub invariant-loop-component : goal.invariant-loop-component
invariant-loop-component l = first_fault l.map l.components ≡ first_fault l.map (drop l.component-index l.components)
