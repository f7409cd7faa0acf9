-- What is left of a listing, put into an open again.
use Rattle.std.proofs.Common.{◌≡◌, Bool, true, false, cond, List, [], ◌∷◌, Option, Some, refl, ap, ◌∙◌}
use Rattle.smb_base.specs.declared.names.Fid.{Fid}
use Rattle.share_state.specs.declared.listing.ShareName.{ShareName}
use Rattle.share_state.specs.declared.opens.Open.{Open}
use Rattle.share_state.specs.declared.request.Who.{Who}
use Rattle.share_state.specs.Close.{is_open_of, open_of}
use Rattle.share_state.specs.Listing.{snapshot_in, with_snapshot}

-- of two listings put into the same open the later one stays
pub with_snapshot_again : (who : Who) (fid : Fid) (x y : Option (List ShareName)) (opens : List Open)
    → with_snapshot who fid x (with_snapshot who fid y opens) ≡ with_snapshot who fid x opens
with_snapshot_again who fid x y [] = refl
with_snapshot_again who fid x y (o ∷ os) = by (is_open_of who fid o) refl (with_snapshot_again who fid x y os)
  where
    by : (b : Bool) → is_open_of who fid o ≡ b → with_snapshot who fid x (with_snapshot who fid y os) ≡ with_snapshot who fid x os
        → with_snapshot who fid x (cond b (record o { snapshot = y } ∷ os) (o ∷ with_snapshot who fid y os)) ≡ cond b (record o { snapshot = x } ∷ os) (o ∷ with_snapshot who fid x os)
    by true e rest = ap (λ b. cond b (record o { snapshot = x } ∷ os) (record o { snapshot = y } ∷ with_snapshot who fid x os)) e
    by false e rest = ap (λ b. cond b (record o { snapshot = x } ∷ with_snapshot who fid y os) (o ∷ with_snapshot who fid x (with_snapshot who fid y os))) e ∙ ap (λ l. o ∷ l) rest

-- its own listing put into an open changes nothing
pub with_snapshot_own : (who : Who) (fid : Fid) (opens : List Open) → with_snapshot who fid (snapshot_in (open_of opens who fid)) opens ≡ opens
with_snapshot_own who fid [] = refl
with_snapshot_own who fid (o ∷ os) = by (is_open_of who fid o) (with_snapshot_own who fid os)
  where
    by : (b : Bool) → with_snapshot who fid (snapshot_in (open_of os who fid)) os ≡ os
        → cond b (record o { snapshot = snapshot_in (cond b (Some o) (open_of os who fid)) } ∷ os) (o ∷ with_snapshot who fid (snapshot_in (cond b (Some o) (open_of os who fid))) os) ≡ o ∷ os
    by true rest = refl
    by false rest = ap (λ l. o ∷ l) rest

pub with_snapshot_back : (who : Who) (fid : Fid) (x y : Option (List ShareName)) (opens : List Open) → x ≡ snapshot_in (open_of opens who fid)
    → with_snapshot who fid x (with_snapshot who fid y opens) ≡ opens
with_snapshot_back who fid x y opens is =
    with_snapshot_again who fid x y opens ∙ ap (λ w. with_snapshot who fid w opens) is ∙ with_snapshot_own who fid opens
