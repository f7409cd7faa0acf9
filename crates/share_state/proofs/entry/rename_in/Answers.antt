-- the first entry with the number stands at the place that was found
use Rattle.std.proofs.Common.{rules, ◌==◌, sym}
use Rattle.share_state.proofs.Renaming.{edited_at_first}
use Rattle.share_state.proofs.entry.rename_in.Goals as goal

pub returns-in-Some : goal.returns-in-Some
returns-in-Some c = rw (c.rename_one.ensures)
    (sym (edited_at_first (λ e. e.number == c.args.number) (λ e. record e { directory = c.args.directory; name = c.args.name }) c.args.entries.now c.in-Some.at c.index-entries-at.result (search rules)))
