-- from here on the same is reached; the share goes on
use Rattle.std.proofs.Common.{◌≡◌, length}
use Rattle.share_box.specs.Turns.{at_connect}
use Rattle.share_box.specs.Calls.{GoesOn}
use Rattle.share_box.specs.Truth.{GoesInStep}
use Rattle.share_box.proofs.turns.turns_at_connect.Given as goal

abbrev pub invariant-loop-b : goal.invariant-loop-b
invariant-loop-b l = record {
  reaches : at_connect l.b.turns l.b.share l.b.story ≡ at_connect l.fn.b.turns l.fn.b.share l.fn.b.story;
  rest : l.b ≡ record l.fn.b { share = l.b.share; story = l.b.story; turns = l.b.turns };
  goes : GoesOn l.fn.b l.b;
  keeps : GoesInStep l.fn.b l.b;
}

abbrev pub decreases-loop-b : goal.decreases-loop-b
decreases-loop-b l = length l.b.turns
