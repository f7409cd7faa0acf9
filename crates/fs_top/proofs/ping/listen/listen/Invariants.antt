use Rattle.std.proofs.Common.{◌≡◌, ◌+◌, ◌-◌, ◌*◌, length}
use Rattle.smb_link.specs.Came.{seen_by}
use Rattle.fs_top.proofs.Pings.Waiting.{Waiting}
use Rattle.fs_top.proofs.ping.listen.listen.Given as goal

-- what came decides nothing, and the bytes of it are held; no place was told
abbrev pub invariant-loop-n : goal.invariant-loop-n
invariant-loop-n g l =
    let seen = seen_by g.L.Link.story g.L.Link.connect_faults g.L.Link.cuts g.L.Link.quiets in
    record {
      waiting : Waiting (seen l.fn.link) (seen l.link) l.frames l.quiets;
      places : (g.L.Link.places l.link ≡ g.L.Link.places l.fn.link) × (g.L.Link.own_cuts l.link ≡ g.L.Link.own_cuts l.fn.link);
    }

-- bytes of the first frame, of which it has 1,114,116 at most, and then waits in vain
abbrev pub decreases-loop-n : goal.decreases-loop-n
decreases-loop-n g l = (1114117 - length l.frames) * 301 + (300 - l.quiets)
