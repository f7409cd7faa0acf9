use Rattle.std.proofs.Common.{rules, ◌≡◌, ◌∙◌, ◌++◌, sym, ap, Some, None}
use Rattle.smb_names.specs.Path.{first_fault, joined}
use Rattle.smb_names.proofs.Laws.{gives_fault, no_memory_path}
use Rattle.smb_names.proofs.Allowed.{joined-cut}
use Rattle.smb_names.proofs.path.wire_path.Goals as goal

pub returns-in-Some-clause-wire : goal.returns-in-Some-clause-wire
returns-in-Some-clause-wire c =
    let found = sym c.first_fault.ensures ∙ c.in-Some.is in
    gives_fault _ (joined c.args.map c.args.components.now) c.in-Some.fault found (λ memory. no_memory_path c.args.map c.args.components.now (found ∙ ap Some memory))

pub returns-clause-cut : goal.returns-clause-cut
returns-clause-cut c =
    let none : first_fault c.args.map c.args.components.now ≡ None = search rules in
    let units : c.write_path.new.units ≡ joined c.args.map c.args.components.now = c.in_ok-write_path.ensures ∙ ap (λ us. us ++ joined c.args.map c.args.components.now) c.new-units.ensures in
    rw units (joined-cut c.args.map c.args.components.now none)
