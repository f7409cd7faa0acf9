use Rattle.std.proofs.Common.{◌∙◌, ◌<◌, ap, arith, length, string_bytes, is_err}
use Rattle.std.proofs.lemmas.Bool.Decides.{nat_tests}
use Rattle.std.proofs.lemmas.Str.{IsUtf8-string_bytes}
use Rattle.smb_names.proofs.Laws.{wire_of-length, wire_of-paired, reads_from, only_from, spelt_by_text}
use Rattle.smb_names.proofs.name.from_wire.Goals as goal

pub returns-then-is_empty-clause-only : goal.returns-then-is_empty-clause-only
returns-then-is_empty-clause-only c = λ name text e.
    let bounds = wire_of-length c.args.map name c.args.units.now text e in
    absurd (grind (arith, nat_tests))

pub returns-then-units-gt-LONGEST-clause-only : goal.returns-then-units-gt-LONGEST-clause-only
returns-then-units-gt-LONGEST-clause-only c = λ name text e.
    let bounds = wire_of-length c.args.map name c.args.units.now text e in
    absurd (omega arith)

pub returns-in-Ok-clause-reads : goal.returns-in-Ok-clause-reads
returns-in-Ok-clause-reads c =
    let spelt = spelt_by_text c.args.units.now (string_bytes c.in-Ok.wire) (IsUtf8-string_bytes c.in-Ok.wire) (rw c.in-Ok.is at c.in_ok-wire.ensures.ok) in
    let some : 0 < length c.args.units.now = grind (arith, nat_tests) in
    reads_from c.args.map c.args.units.now (string_bytes c.in-Ok.wire) (IsUtf8-string_bytes c.in-Ok.wire) spelt c.original_name.result some (omega arith) (rw c.as_str.ensures.value at c.original_name.ensures)

pub returns-in-Ok-clause-only : goal.returns-in-Ok-clause-only
returns-in-Ok-clause-only c =
    let spelt = spelt_by_text c.args.units.now (string_bytes c.in-Ok.wire) (IsUtf8-string_bytes c.in-Ok.wire) (rw c.in-Ok.is at c.in_ok-wire.ensures.ok) in
    only_from c.args.map c.args.units.now (string_bytes c.in-Ok.wire) (IsUtf8-string_bytes c.in-Ok.wire) spelt c.original_name.result (rw c.as_str.ensures.value at c.original_name.ensures)

pub returns-in-Err-clause-only : goal.returns-in-Err-clause-only
returns-in-Err-clause-only c = λ name text e.
    let paired = wire_of-paired c.args.map name c.args.units.now text e in
    let k = c.in_ok-wire.ensures.unpaired ∙ paired in
    let m = ap is_err c.in-Err.is in
    absurd (cc (k, m))
