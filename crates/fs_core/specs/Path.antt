-- The path of a share, as the TREE_CONNECT request names it.
use Rattle.std.specs.Prelude.{ℕ, List, ◌++◌, codes}
use Rattle.std.specs.Str.{chars}
use Rattle.smb_names.specs.WireName.{utf16}

-- the path `\\HOST\SHARE` in units of UTF-16 (MS-SMB2 2.2.9)
abbrev pub share_path : List ℕ → List ℕ → List ℕ
share_path host share = utf16 (chars (codes "\\\\" ++ (host ++ (codes "\\" ++ share))))
