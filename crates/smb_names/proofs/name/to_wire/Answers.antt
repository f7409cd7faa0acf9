use Rattle.std.proofs.Common.{rules, ◌≡◌, ◌∙◌, ◌++◌, sym, ap, Some, None}
use Rattle.smb_names.specs.WireName.{fault_of, spelling}
use Rattle.smb_names.proofs.Laws.{gives_fault, no_memory_fault}
use Rattle.smb_names.proofs.Allowed.{spelling-allowed}
use Rattle.smb_names.proofs.name.to_wire.Goals as goal

pub returns-in-Some-clause-wire : goal.returns-in-Some-clause-wire
returns-in-Some-clause-wire c =
    let found = sym c.fault_of.ensures ∙ c.in-Some.is in
    gives_fault _ (spelling c.args.map c.args.name.now) c.in-Some.fault found (λ memory. no_memory_fault c.args.map c.args.name.now (found ∙ ap Some memory))

pub returns-clause-allowed : goal.returns-clause-allowed
returns-clause-allowed c =
    let none : fault_of c.args.map c.args.name.now ≡ None = search rules in
    let units : c.write_name.new.units ≡ spelling c.args.map c.args.name.now = c.in_ok-write_name.ensures ∙ ap (λ us. us ++ spelling c.args.map c.args.name.now) c.new-units.ensures in
    rw units (spelling-allowed c.args.map c.args.name.now none)
