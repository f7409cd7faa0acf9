use Rattle.fs_top.proofs.Pings.ByCountsLaws.{ran_counts}
use Rattle.fs_top.proofs.Pings.Caused.{ran_printed}
use Rattle.fs_top.proofs.top.run_ping.Goals as goal

pub returns-clause-ran : goal.returns-clause-ran
returns-clause-ran g c =
    let r = c.run-ending.ensures.ends in
    ran_printed _ _ _ _ _ _ _ _ r.0 c.run-ending.result r.1 r.2 c.finish.ensures

pub returns-clause-counts : goal.returns-clause-counts
returns-clause-counts g c = ran_counts _ _ _ _ _ _ _ _ (returns-clause-ran g c)
