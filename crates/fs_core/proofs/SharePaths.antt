-- The path of a share, part by part, and how long it is.
use Rattle.std.proofs.Common.{◌≡◌, ◌∙◌, ap, sym, append_assoc, ℕ, ◌≤◌, List, [], ◌∷◌, ◌++◌, codes, length, refl, arith, length-append}
use Rattle.std.specs.Str.{chars, is_utf8, IsUtf8}
use Rattle.std.specs.Char.{encode_utf8}
use Rattle.std.specs.Char.Escape.{encode_utf16}
use Rattle.std.proofs.lemmas.Str.{chars-append, IsUtf8-append, IsUtf8-from_is_utf8}
use Rattle.std.proofs.lemmas.Grind.{flat_map-append}
use Rattle.smb_names.specs.WireName.{utf16}
use Rattle.smb_names.proofs.Units.{length-utf16-le}
use Rattle.fs_core.specs.Path.{share_path}

-- a backslash is a text, and so are two
backslash : IsUtf8 (codes "\\")
unfolding is_utf8 chars encode_utf8
backslash = IsUtf8-from_is_utf8 (codes "\\") refl

backslashes : IsUtf8 (codes "\\\\")
unfolding is_utf8 chars encode_utf8
backslashes = IsUtf8-from_is_utf8 (codes "\\\\") refl

-- the units of a text are those of its parts, one after the other
utf16-append : (xs ys : List ℕ) → IsUtf8 xs → utf16 (chars (xs ++ ys)) ≡ utf16 (chars xs) ++ utf16 (chars ys)
utf16-append xs ys text = ap utf16 (chars-append xs ys text) ∙ flat_map-append encode_utf16 (chars xs) (chars ys)

-- two backslashes, the host, a backslash and the share
share_path-parts : (host share : List ℕ) → IsUtf8 host → share_path host share ≡ (0x5C ∷ 0x5C ∷ []) ++ (utf16 (chars host) ++ (0x5C ∷ utf16 (chars share)))
unfolding chars
share_path-parts host share text =
    utf16-append (codes "\\\\") (host ++ (codes "\\" ++ share)) backslashes
    ∙ ap (λ xs. (0x5C ∷ 0x5C ∷ []) ++ xs)
    (utf16-append host (codes "\\" ++ share) text
    ∙ ap (λ xs. utf16 (chars host) ++ xs) (utf16-append (codes "\\") share backslash))

-- a path of two short names is short
pub share_path-short : (host share : List ℕ) → IsUtf8 host → IsUtf8 share → length host ≤ 255 → length share ≤ 255 → length (share_path host share) ≤ 32767
share_path-short host share text text' short short' =
    omega (
      arith,
      length-utf16-le (codes "\\\\" ++ (host ++ (codes "\\" ++ share))) (IsUtf8-append (codes "\\\\") (host ++ (codes "\\" ++ share)) backslashes (IsUtf8-append host (codes "\\" ++ share) text (IsUtf8-append (codes "\\") share backslash text'))),
      length-append host (codes "\\" ++ share),
    )

-- the parts, put down one after another, are the path
pub share_path-written : (host share : List ℕ) (a b c d : List ℕ) → IsUtf8 host → a ≡ 0x5C ∷ 0x5C ∷ [] → b ≡ a ++ utf16 (chars host) → c ≡ b ++ 0x5C ∷ [] → d ≡ c ++ utf16 (chars share)
    → d ≡ share_path host share
share_path-written host share a b c d text first second third fourth =
    rw fourth (rw third (rw second (rw first (
    append_assoc ((0x5C ∷ 0x5C ∷ []) ++ utf16 (chars host)) (0x5C ∷ []) (utf16 (chars share))
    ∙ append_assoc (0x5C ∷ 0x5C ∷ []) (utf16 (chars host)) (0x5C ∷ utf16 (chars share))
    ∙ sym (share_path-parts host share text)))))
