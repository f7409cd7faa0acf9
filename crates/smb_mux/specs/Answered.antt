-- An index of the requests that replies answer.
use Rattle.std.specs.Prelude.{◌≡◌, ℕ, Bool, List, is_some}
use Rattle.std.specs.Map.{lookup}
use Rattle.std.specs.BTreeMap.{is_at}
use Rattle.std.specs.Ordering.{nat_cmp}
use Rattle.smb_mux.specs.declared.taken.Reply.{Reply}
use Rattle.smb_mux.specs.Judged.{is_answered}

-- exactly their ids have an entry
pub record IsIndex (replies : List Reply) (entries : List (ℕ × Bool)) : Type 0 where
  pub has : (id : ℕ) → is_some (lookup (is_at (nat_cmp id)) entries) ≡ is_answered replies id
