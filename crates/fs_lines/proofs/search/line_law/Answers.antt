use Rattle.fs_lines.proofs.LineLaws.{parts, no_end, none_from_all, first_line-before, behind-before, behind-none}
use Rattle.fs_lines.proofs.search.line_law.Goals as goal

pub returns-clause-parts : goal.returns-clause-parts
returns-clause-parts c = parts

pub returns-clause-no_end : goal.returns-clause-no_end
returns-clause-no_end c = no_end

pub returns-clause-before : goal.returns-clause-before
returns-clause-before c = λ line rest all.
    let none = none_from_all line all in (first_line-before line rest none, behind-before line rest none)

pub returns-clause-alone : goal.returns-clause-alone
returns-clause-alone c = λ line all. let none = none_from_all line all in (none, behind-none line none)
