use Rattle.std.proofs.Common.{◌≡◌, ◌+◌, length}
use Rattle.std.specs.Str.{chars, IsUtf8}
use Rattle.std.specs.Str.Iter.{chars_rest}
use Rattle.smb_names.specs.WireName.{utf16}
use Rattle.smb_names.proofs.name.utf16_len.Given as goal

abbrev pub invariant-loop-c : goal.invariant-loop-c
invariant-loop-c l = record {
  can_next : (goal.iterator-loop-c).can_next l.c-iterator;
  is_finite : (goal.iterator-loop-c).is_finite l.c-iterator;
  text : IsUtf8 (chars_rest l.c-iterator);
  rest : l.len + length (utf16 (chars (chars_rest l.c-iterator))) ≡ length (utf16 (chars l.text));
}
