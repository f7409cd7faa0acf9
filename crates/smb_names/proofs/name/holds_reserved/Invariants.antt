use Rattle.std.proofs.Common.{◌≡◌}
use Rattle.std.specs.Str.{chars, IsUtf8}
use Rattle.std.specs.Str.Iter.{chars_rest}
use Rattle.smb_names.specs.WireName.{holds_reserved}
use Rattle.smb_names.proofs.name.holds_reserved.Given as goal

abbrev pub invariant-loop-c : goal.invariant-loop-c
invariant-loop-c l = record {
  can_next : (goal.iterator-loop-c).can_next l.left;
  is_finite : (goal.iterator-loop-c).is_finite l.left;
  text : IsUtf8 (chars_rest l.left);
  rest : holds_reserved l.map (chars l.name) ≡ holds_reserved l.map (chars (chars_rest l.left));
}
