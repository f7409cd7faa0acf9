-- What the counts of a link alone tell of a run, also where it tells no story.
use Rattle.std.specs.Prelude.{◌≡◌, ◌≢◌, ◌≤◌, ◌<◌, ◌⊎◌, ℕ, ◌+◌, ◌-◌, ◌^◌, Bool, min}
use Rattle.smb_link.specs.Count.{counted, Rose}
use Rattle.smb_link.specs.Came.{Seen}

-- the status of a lost connection, or one that goes before it: memory ran out, or the sink refused the line
abbrev pub IsLost : ℕ → Type 0
IsLost status = (status ≡ 6) ⊎ (status ≡ 3) ⊎ (status ≡ 8)

-- Status 6 comes only where a connect failed, a connection ended beside the one that the connect itself ends, or 300 receives waited in
-- vain; and always where one of the first two happened.
pub record ByCounts (stood : Bool) (link link' : Seen) (status : ℕ) : Type 0 where
  pub lost_only : status ≡ 6 →
      Rose link.connect_faults link'.connect_faults
      ⊎ Rose (counted link.cuts stood) link'.cuts
      ⊎ (min (link.quiets + 300) (2 ^ 64 - 1) ≤ link'.quiets)
  pub refused : link'.connect_faults ≢ link.connect_faults → IsLost status
  pub cut : link.cuts < link'.cuts → link'.cuts ≢ counted link.cuts stood → IsLost status
