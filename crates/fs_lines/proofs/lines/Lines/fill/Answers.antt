use Rattle.std.proofs.Common.{◌≡◌, ◌≤◌, ◌∙◌, ap, List, ℕ, ◌++◌, take, drop, length, arith, rules}
use Rattle.std.proofs.lemmas.List.{drop-append-le, length-take-le}
use Rattle.fs_lines.specs.Told.{Reading}
use Rattle.fs_lines.proofs.ReadLaws.{took-read}
use Rattle.fs_lines.proofs.lines.Lines.fill.Goals as goal

pub returns-else-n-eq0-clause-filled : goal.returns-else-n-eq0-clause-filled
returns-else-n-eq0-clause-filled g c =
    let piece : List ℕ = take c.in-Ok.n c.read.new.buf in
    let same = c.self.view_is ∙ c.close_up.ensures in
    let within : c.self.inside.start ≤ length c.self.inside.bytes.items = (let i = c.self.invariant in search rules) in
    let size : length c.read.new.buf ≡ 8192 = c.read.auto.buf in
    let most : c.in-Ok.n ≤ 8192 = c.in-Ok.ensures.count in (
      piece,
      record {
        took = took-read _ _ c.in-Ok.n c.read.new.buf c.in-Ok.ensures.bytes c.in-Ok.ensures.left;
        held = ap (drop c.self.inside.start) (c.put.ensures ∙ ap (λ (l : List ℕ). l ++ piece) c.reserve.ensures.items)
            ∙ drop-append-le c.self.inside.start c.self.inside.bytes.items piece within
            ∙ ap (λ (r : Reading). r.held ++ piece) same;
        number = ap (λ (r : Reading). r.number) same;
        brought = (
          let long = length-take-le c.in-Ok.n c.read.new.buf (omega arith) in let some = c.if-n-eq0.false in omega arith,
          ap (λ (r : Reading). r.ended) same,
        );
      },
    )
