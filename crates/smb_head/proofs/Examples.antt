-- The definitions at examples.
use Rattle.std.proofs.Common.{◌≡◌, refl, [], ◌∷◌, Some, Ok, Err}
use Rattle.smb_le.specs.Numbers.{number_at, bytes_of}
use Rattle.smb_head.specs.declared.head.Head.{Head}
use Rattle.smb_head.specs.declared.head.Route.TheVariants.{Sync}
use Rattle.smb_head.specs.declared.head.HeadFault.TheVariants.{Short}
use Rattle.smb_head.specs.declared.first.FrameFault.TheVariants.{NotZero, TooLarge}
use Rattle.smb_head.specs.Header.{header, head_of, head_at}
use Rattle.smb_head.specs.Stream.{Partial, Whole, Bad, first_of, lack_of, frames_in, rest_in, fault_in}

-- the header of a first request, of which 32 credits are asked
asking : Head
asking = record {
  charge = 0;
  status = record { 0 = 0 };
  command = 0;
  credits = 32;
  flags = record { 0 = 0 };
  next = 0;
  mid = record { 0 = 0 };
  route = Sync 0;
  session = 0;
}

asking-is_read : head_of (header asking) ≡ Ok asking
unfolding head_of head_at header number_at bytes_of asking
asking-is_read = refl

nothing-is_short : head_of [] ≡ Err Short
unfolding head_of
nothing-is_short = refl

three_bytes : first_of (0 ∷ 0 ∷ 0 ∷ []) ≡ Partial
unfolding first_of
three_bytes = refl

one_frame : first_of (0 ∷ 0 ∷ 0 ∷ 1 ∷ 7 ∷ 9 ∷ []) ≡ Whole (7 ∷ []) (9 ∷ [])
unfolding first_of
one_frame = refl

at_once : first_of (5 ∷ []) ≡ Bad (NotZero 5)
unfolding first_of
at_once = refl

above_the_limit : first_of (0 ∷ 17 ∷ 0 ∷ 1 ∷ []) ≡ Bad (TooLarge 1114113)
unfolding first_of
above_the_limit = refl

at_the_limit : lack_of (0 ∷ 17 ∷ 0 ∷ 0 ∷ 7 ∷ []) ≡ 1114111
unfolding first_of
at_the_limit = refl

two_frames : frames_in (0 ∷ 0 ∷ 0 ∷ 0 ∷ 0 ∷ 0 ∷ 0 ∷ 1 ∷ 7 ∷ 3 ∷ []) ≡ [] ∷ (7 ∷ []) ∷ []
unfolding frames_in first_of
two_frames = refl

left_behind : rest_in (0 ∷ 0 ∷ 0 ∷ 0 ∷ 0 ∷ 0 ∷ 0 ∷ 1 ∷ 7 ∷ 3 ∷ []) ≡ 3 ∷ []
unfolding rest_in first_of
left_behind = refl

fault_behind : fault_in (0 ∷ 0 ∷ 0 ∷ 0 ∷ 3 ∷ []) ≡ Some (NotZero 3)
unfolding rest_in first_of
fault_behind = refl
