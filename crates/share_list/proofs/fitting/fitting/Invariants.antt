-- the names up to the index fit, and were counted
use Rattle.std.proofs.Common.{◌≡◌, ◌+◌, ◌<◌, ◌^◌, drop}
use Rattle.share_state.specs.Listing.{fitting}
use Rattle.share_list.proofs.fitting.fitting.Given as goal

abbrev pub invariant-loop-name : goal.invariant-loop-name
invariant-loop-name l = record {
  counted : l.count ≡ l.name-index;
  bound : l.used < 2 ^ 70;
  so_far : fitting l.room l.before l.names ≡ l.count + fitting l.room l.used (drop l.name-index l.names);
}
