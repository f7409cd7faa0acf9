use Rattle.std.proofs.Common.{◌∙◌, ap, lit<, []}
use Rattle.std.specs.List.{fold}
use Rattle.std.specs.Str.Iter.{split_text, split_has_more, split_pattern}
use Rattle.std.proofs.lemmas.Iterator.Consumers.{YieldsList-end}
use Rattle.std.proofs.lemmas.Iterator.Splits.{YieldsList-from_str_split}
use Rattle.smb_names.specs.Path.{components, after_part}
use Rattle.smb_names.proofs.PathLaws.{components-proper, components-path_text}
use Rattle.smb_names.proofs.path.split_path.Goals as goal

pub returns-clause-split : goal.returns-clause-split
unfolding components
returns-clause-split c =
    let same = c.into_iter-part-iterator.ensures.into_iter_gives in
    let road = YieldsList-from_str_split {s = c.into_iter-part-iterator.result} 0x2F c.args.path.now (lit< tt) (ap split_text same ∙ c.split-part-items.ensures.text) (ap split_has_more same ∙ c.split-part-items.ensures.has_more) (ap split_pattern same ∙ c.split-part-items.ensures.pattern) in
    let end = YieldsList-end road c.loop-part.yielded c.loop-part.part-iterator c.loop-part.yielded_by c.next.result c.next.new.self c.in-None.is c.next.ensures.steps in
    c.loop-part.invariant ∙ ap (fold after_part []) end.0

pub returns-clause-proper : goal.returns-clause-proper
returns-clause-proper c = rw (returns-clause-split c) (components-proper c.args.path.now)

pub returns-clause-again : goal.returns-clause-again
returns-clause-again c = rw (returns-clause-split c) (components-path_text (components c.args.path.now) (components-proper c.args.path.now))
