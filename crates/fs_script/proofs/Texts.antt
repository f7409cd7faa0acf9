-- Which bytes are a text.
use Rattle.std.proofs.Common.{◌≡◌, ◌==◌, ℕ, true, false, List, String, string_bytes, subst}
use Rattle.std.specs.List.{list_any}
use Rattle.std.specs.Str.{IsUtf8, is_utf8}
use Rattle.std.proofs.lemmas.Bool.{false_from_ne_true}
use Rattle.std.proofs.lemmas.Str.{IsUtf8-string_bytes, IsUtf8-from_is_utf8, is_utf8-from_IsUtf8}
use Rattle.fs_script.specs.Texts.{is_text}

pub text_is : {Z : Type 0} (text : String Z) (bytes : List ℕ) → string_bytes text ≡ bytes → list_any (λ b. b == 0) bytes ≡ false → is_text bytes ≡ true
text_is text bytes is clear = rw clear (is_utf8-from_IsUtf8 bytes (subst IsUtf8 is (IsUtf8-string_bytes text)))

pub no_text : (bytes : List ℕ) → (IsUtf8 bytes → ⊥) → list_any (λ b. b == 0) bytes ≡ false → is_text bytes ≡ false
no_text bytes bad clear = rw clear (false_from_ne_true (is_utf8 bytes) (λ is. bad (IsUtf8-from_is_utf8 bytes is)))
