use Rattle.std.proofs.Common.{◌≡◌, ◌++◌}
use Rattle.std.specs.Str.{chars, IsUtf8}
use Rattle.std.specs.Str.Iter.{chars_rest}
use Rattle.smb_names.specs.WireName.{utf16}
use Rattle.fs_core.proofs.path.put_text.Given as goal

abbrev pub invariant-loop-c : goal.invariant-loop-c
invariant-loop-c l = record {
  can_next : (goal.iterator-loop-c).can_next l.c-iterator;
  is_finite : (goal.iterator-loop-c).is_finite l.c-iterator;
  text : IsUtf8 (chars_rest l.c-iterator);
  rest : l.units ++ utf16 (chars (chars_rest l.c-iterator)) ≡ l.initial.units ++ utf16 (chars l.text);
}
