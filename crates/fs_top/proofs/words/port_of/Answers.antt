use Rattle.std.proofs.Common.{◌≡◌, true}
use Rattle.fs_top.proofs.Ports.{port_found, port_read, port_begins}
use Rattle.fs_top.proofs.words.port_of.Goals as goal

pub returns-then-not-begins_with_digit-clause-none : goal.returns-then-not-begins_with_digit-clause-none
returns-then-not-begins_with_digit-clause-none c = λ port text low high.
    let begins : c.begins_with_digit.result ≡ true = c.begins_with_digit.ensures.1 (port_begins c.args.text.now port text low high) in
    cc (begins, c.if-not-begins_with_digit.true)

pub returns-clause-found : goal.returns-clause-found
returns-clause-found c =
    let begins = c.begins_with_digit.ensures.0 c.if-not-begins_with_digit.false in
    rw c.ok.ensures.value (port_found c.args.text.now c.parse.result c.parse.ensures.value.0 begins.0 begins.1)

pub returns-clause-none : goal.returns-clause-none
returns-clause-none c = rw c.ok.ensures.value (port_read c.args.text.now c.parse.result c.parse.ensures.value.0)
