use Rattle.std.proofs.Common.{◌<◌, ◌^◌, ℕ, List, subst, slice_index}
use Rattle.fs_core.proofs.request.open_body.Goals as goal

pub returns-clause-path : goal.returns-clause-path
returns-clause-path c = record {
  short = c.requires;
  units = λ k. subst (λ (l : List ℕ). slice_index l k < 2 ^ 16) c.as_slice.ensures (c.fit.ensures k);
}
