-- Which requests of two frames may be served, and what is done once one of them is.
use Rattle.std.proofs.Common.{◌≡◌, ℕ, false, List, [], ◌∷◌, None, map, refl}
use Rattle.smb_base.specs.declared.names.Mid.{Mid}
use Rattle.share_state.specs.declared.connection.LastCreate.TheVariants as last
use Rattle.share_state.specs.declared.connection.Sent.{Sent}
use Rattle.share_state.specs.Sent.{put_off, sent_but, sent_with}
use Rattle.share_box.specs.Order.{waiting_ids, is_next}
use Rattle.share_box.specs.Turns.{interim_to}

abbrev mid : ℕ → Mid
mid n = record { 0 = n }

-- a request with this id in the frame whose first request has that one
abbrev request : ℕ → ℕ → Sent
request id first = record { mid = mid id; frame = mid first; message = []; pended = false; last_create = last.Nothing }

-- three requests of one frame, and then one of another
abbrev sent : List Sent
sent = request 10 10 ∷ request 11 10 ∷ request 12 10 ∷ request 20 20 ∷ []

-- the first of each frame may be served
the_first_of_each : waiting_ids sent ≡ mid 10 ∷ mid 20 ∷ []
unfolding waiting_ids
the_first_of_each = refl

-- and no other
no_other : is_next (sent_with (mid 11) sent) sent ≡ false
no_other = refl

-- once it was taken, the next one of its frame stands first
then_the_next : waiting_ids (sent_but (mid 10) sent) ≡ mid 11 ∷ mid 20 ∷ []
unfolding waiting_ids
then_the_next = refl

-- where the other frame's goes first, this one gets an interim reply, and waits as before; a second one does not come
it_still_waits : waiting_ids (map (put_off (mid 10)) sent) ≡ mid 10 ∷ mid 20 ∷ []
unfolding waiting_ids
it_still_waits = refl

once : interim_to (sent_with (mid 10) (map (put_off (mid 10)) sent)) ≡ None
once = refl
