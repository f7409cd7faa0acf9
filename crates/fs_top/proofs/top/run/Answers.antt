use Rattle.std.proofs.Common.{ℕ, List}
use Rattle.smb_link.specs.Once.{WentOnlyTo}
use Rattle.fs_top.proofs.RunWords.{along_ping}
use Rattle.fs_top.proofs.top.run.Goals as goal

pub returns-in-Some-clause-places : goal.returns-in-Some-clause-places
returns-in-Some-clause-places g c host port is =
    along_ping (λ (h : List ℕ) (p : ℕ). WentOnlyTo (record { host = h; port = p }) (g.L.Link.places c.args.link.now) (g.L.Link.places c.ping.new.link))
    _ c.in-Some.host.now host c.in-Some.port port c.in-Some.ensures.found is c.ping.ensures.places
