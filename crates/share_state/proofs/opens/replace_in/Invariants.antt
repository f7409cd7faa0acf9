-- no open up to the index is named, and none is changed
use Rattle.std.proofs.Common.{◌≡◌, ◌++◌, take, drop}
use Rattle.share_state.specs.Close.{open_of}
use Rattle.share_state.specs.Listing.{with_snapshot}
use Rattle.share_state.proofs.opens.replace_in.Given as goal

abbrev pub invariant-loop-open : goal.invariant-loop-open
invariant-loop-open l = record {
  same : l.opens ≡ l.fn.opens;
  named : open_of l.fn.opens l.who l.fid ≡ open_of (drop l.open-index l.fn.opens) l.who l.fid;
  after : with_snapshot l.who l.fid l.snapshot l.fn.opens ≡ take l.open-index l.fn.opens ++ with_snapshot l.who l.fid l.snapshot (drop l.open-index l.fn.opens);
}
