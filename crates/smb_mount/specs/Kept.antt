-- What each state of a mount keeps. A mounted share keeps its facts.
use Rattle.std.specs.Prelude.{ℕ, List}
use Rattle.smb_mount.specs.declared.facts.Server.{Server}

-- before NEGOTIATE: the client's id, the path of the share in units of UTF-16, and the session before this one
pub record Start : Type 0 where
  pub guid : List ℕ
  pub path : List ℕ
  pub previous : ℕ

-- after it, what the server said of itself too
pub record Greeted : Type 0 where
  pub path : List ℕ
  pub previous : ℕ
  pub server : Server

-- after a challenge, the id of the session too
pub record Challenge : Type 0 where
  pub path : List ℕ
  pub previous : ℕ
  pub server : Server
  pub session : ℕ

-- after the last session reply
pub record Session : Type 0 where
  pub path : List ℕ
  pub server : Server
  pub session : ℕ
