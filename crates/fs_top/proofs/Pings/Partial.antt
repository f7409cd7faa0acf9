-- Bytes that are less than a frame.
use Rattle.std.proofs.Common.{◌≡◌, ◌<◌, ◌+◌, ℕ, List, [], length, refl, arith}
use Rattle.smb_head.specs.declared.first.TheConstants.{MAX_FRAME}
use Rattle.smb_head.specs.Stream.{Partial, first_of, lack, lack_of}

pub first_of-nothing : first_of [] ≡ Partial
unfolding first_of
first_of-nothing = refl

-- they are fewer than the longest frame has, and something is missing
pub partial_short : (bytes : List ℕ) → first_of bytes ≡ Partial → length bytes < 4 + MAX_FRAME
unfolding first_of
partial_short bytes h = grind arith

lacks_some : (bytes : List ℕ) → first_of bytes ≡ Partial → 0 < lack Partial bytes
unfolding first_of
lacks_some bytes h = grind arith

pub partial_lacks : (bytes : List ℕ) → first_of bytes ≡ Partial → 0 < lack_of bytes
partial_lacks bytes h = rw h (lacks_some bytes h)
