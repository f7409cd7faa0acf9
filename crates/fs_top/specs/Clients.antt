-- The engine's turns as what a client did: what the client knows between two turns, and why a run ends, told by what it knows.
use Rattle.std.specs.Prelude.{◌≡◌, ℕ, Bool, true, false, List, [], ◌∷◌, ◌++◌, map}
use Rattle.smb_head.specs.declared.command.TheConstants.{TREE_DISCONNECT, LOGOFF}
use Rattle.smb_head.specs.Stream.{frames_in}
use Rattle.smb_link.specs.declared.event.Event.TheVariants as event
use Rattle.fs_client.specs.View.{Setting, Client}
use Rattle.fs_client.specs.Item.{Item}
use Rattle.fs_client.specs.After.{after}
use Rattle.fs_client.specs.May.{was_answered}
use Rattle.fs_client.specs.Sane.{Sane}
use Rattle.fs_core.specs.Event.{is_apart, is_left}
use Rattle.fs_core.specs.Fits.{Fits}
use Rattle.fs_top.specs.Turns.{State}

-- what came and was not given to the core yet: a connection, where it asked for one; else a whole frame, or nothing
abbrev pub IsGiven : Setting → Bool → Client → Client → List (List ℕ) → Type 0
IsGiven st true c c' [] = (c.view.connected ≡ false) × (c' ≡ after st c event.Joined)
IsGiven st false c c' [] = c' ≡ c
IsGiven st false c c' (frame ∷ []) =
    (bytes : List ℕ) × (c.view.connected ≡ true) × (frames_in (c.view.held ++ bytes) ≡ frame ∷ []) × (c' ≡ after st c (event.Got bytes))
IsGiven st false c c' (frame ∷ next ∷ frames) = Unit {0}
IsGiven st true c c' (frame ∷ frames) = ⊥

-- this client was there before what came and was not given yet
pub record IsBehind (st : Setting) (s : State) (c : Client) : Type 0 where
  pub before : Client
  pub sane : Sane before.view
  pub fits : Fits st s.core.kept before
  pub given : IsGiven st (is_apart s.core.kept.phase) before c s.pending

-- the share was left: the end was said, no call runs, and TREE_DISCONNECT and LOGOFF were answered
pub record IsLeft (c : Client) : Type 0 where
  pub ended : c.view.told.ended ≡ true
  pub no_call : c.view.items ≡ []
  pub tree : was_answered TREE_DISCONNECT c.tally.exchanges ≡ true
  pub session : was_answered LOGOFF c.tally.exchanges ≡ true

-- what the engine has is what this client has; on a connection that stands, where no output is left to be carried out, the core too
pub record Holds (st : Setting) (s : State) (c : Client) : Type 0 where
  pub setting : s.core.setting ≡ st
  pub behind : s.core.outs ≡ [] → s.connected ≡ true → IsBehind st s c
  pub connected : s.connected ≡ true → c.view.connected ≡ true
  pub held : s.connected ≡ true → c.view.held ≡ s.held
  pub frames : c.tally.frames ≡ s.received
  pub running : map (λ (i : Item). i.number) c.view.items ≡ s.running
  pub on : s.core.outs ≡ [] → s.over ≡ false → is_left s.core.kept.phase ≡ false
  pub gone : s.over ≡ true → IsLeft c
