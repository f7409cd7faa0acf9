use Rattle.std.proofs.Common.{◌≡◌, ◌++◌, string_bytes}
use Rattle.std.specs.Option.{option_map}
use Rattle.std.specs.Str.{chars, IsUtf8}
use Rattle.std.specs.Str.Iter.{chars_rest}
use Rattle.smb_names.specs.WireSteps.{original_chars}
use Rattle.smb_names.proofs.name.original_name.Given as goal

abbrev pub invariant-loop-w : goal.invariant-loop-w
invariant-loop-w l = record {
  can_next : (goal.iterator-loop-w).can_next l.left;
  is_finite : (goal.iterator-loop-w).is_finite l.left;
  text : IsUtf8 (chars_rest l.left);
  rest : original_chars l.map (chars l.wire) ≡ option_map (λ cs. chars (string_bytes l.name) ++ cs) (original_chars l.map (chars (chars_rest l.left)));
}
