-- Numbers in a list of bytes, the lowest byte first, as every field of MS-SMB2 stands.
use Rattle.std.specs.Prelude.{ℕ, ◌+◌, List, ◌++◌, length, take, drop}
use Rattle.byteorder.specs.Endian.{little_from, little_bytes}

-- the number of w bytes at offset i: byte i, and 256 times the number of the bytes after it
unfoldable pub number_at : ℕ → ℕ → List ℕ → ℕ
number_at w i bytes = little_from i w bytes

-- the w bytes of a number
unfoldable pub bytes_of : ℕ → ℕ → List ℕ
bytes_of w n = little_bytes w n

-- bytes with a piece written over those at offset i
unfoldable pub overwritten : ℕ → List ℕ → List ℕ → List ℕ
overwritten i piece bytes = take i bytes ++ (piece ++ drop (i + length piece) bytes)
