-- The words of the command line.
use Rattle.std.specs.Prelude.{◌≡◌, ◌≢◌, ◌≤◌, ℕ, List, [], ◌∷◌, length, slice_index, codes}
use Rattle.std.specs.Fmt.{decimal}

-- a word that is no option: it does not begin with `-`
abbrev pub IsPlain : List ℕ → Type 0
IsPlain word = slice_index word 0 ≢ 45

-- a host's name, as it is given to the system
pub record IsHost (host : List ℕ) : Type 0 where
  pub some : 1 ≤ length host
  pub short : length host ≤ 255
  pub plain : IsPlain host

-- the words are `ping HOST PORT`; PORT is 1 to 65535 in decimal digits
pub record IsPing (words : List (List ℕ)) (host : List ℕ) (port : ℕ) : Type 0 where
  pub words_are : words ≡ codes "ping" ∷ host ∷ decimal port ∷ []
  pub host_is : IsHost host
  pub port_some : 1 ≤ port
  pub port_small : port ≤ 65535

-- the words are `run HOST PORT SHARE`, with a share that may be any word that a host may be
pub record IsRun (words : List (List ℕ)) (host : List ℕ) (port : ℕ) (share : List ℕ) : Type 0 where
  pub words_are : words ≡ codes "run" ∷ host ∷ decimal port ∷ share ∷ []
  pub host_is : IsHost host
  pub share_is : IsHost share
  pub port_some : 1 ≤ port
  pub port_small : port ≤ 65535

abbrev pub AreRun : List (List ℕ) → Type 0
AreRun words = (host : List ℕ) × (port : ℕ) × (share : List ℕ) × IsRun words host port share
