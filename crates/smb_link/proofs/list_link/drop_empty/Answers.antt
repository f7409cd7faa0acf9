use Rattle.std.proofs.Common.{rules}
use Rattle.std.proofs.lemmas.List.Elements.{filter_from_retain}
use Rattle.smb_link.specs.Given.{gives}
use Rattle.smb_link.proofs.list_link.drop_empty.Goals as goal

pub returns : goal.returns
returns c = filter_from_retain _ gives (λ p x b q r. search rules) _ _ _ c.retain.ensures.filtered
