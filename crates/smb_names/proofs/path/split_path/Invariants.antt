use Rattle.std.proofs.Common.{◌≡◌, [], map}
use Rattle.std.specs.List.{fold}
use Rattle.smb_names.specs.Path.{after_part}
use Rattle.smb_names.proofs.path.split_path.Given as goal

abbrev pub invariant-loop-part : goal.invariant-loop-part
invariant-loop-part l = l.found ≡ fold after_part [] (map (λ part. part.now) l.yielded)
