-- a connection stands
use Rattle.std.proofs.Common.{◌≡◌, true}
use Rattle.fs_core.specs.Event.{is_connected}
use Rattle.smb_bench.proofs.client.Client.finish.Given as goal

abbrev pub invariant-loop : goal.invariant-loop
invariant-loop l = is_connected l.self.core.kept.phase ≡ true
