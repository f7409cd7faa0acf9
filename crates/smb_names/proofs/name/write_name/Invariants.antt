use Rattle.std.proofs.Common.{◌≡◌, ◌++◌}
use Rattle.std.specs.Str.{IsUtf8}
use Rattle.std.specs.Str.Iter.{chars_rest}
use Rattle.smb_names.specs.WireName.{spelling}
use Rattle.smb_names.proofs.name.write_name.Given as goal

abbrev pub invariant-loop-c : goal.invariant-loop-c
invariant-loop-c l = record {
  can_next : (goal.iterator-loop-c).can_next l.left;
  is_finite : (goal.iterator-loop-c).is_finite l.left;
  text : IsUtf8 (chars_rest l.left);
  rest : l.units ++ spelling l.map (chars_rest l.left) ≡ l.initial.units ++ spelling l.map l.name;
}
