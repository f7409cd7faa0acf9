-- How the events of a run end, told of the client.
use Rattle.std.specs.Prelude.{◌≡◌, ℕ, suc, List, [], ◌∷◌, ◌++◌}
use Rattle.smb_head.specs.Stream.{frames_in}
use Rattle.smb_link.specs.declared.event.Event.{Event}
use Rattle.smb_link.specs.declared.event.Event.TheVariants as event
use Rattle.fs_client.specs.View.{Setting, Client}
use Rattle.fs_client.specs.After.{after, all_after}

-- events of this client end in a receive whose bytes made this frame whole
pub record IsBy (st : Setting) (c : Client) (events : List Event) (frame : List ℕ) : Type 0 where
  pub before : List Event
  pub bytes : List ℕ
  pub are : events ≡ before ++ event.Got bytes ∷ []
  pub whole : frames_in ((all_after st c before).view.held ++ bytes) ≡ frame ∷ []

-- so many silences among events, no byte got, and at each a request in flight
abbrev pub AreUnheard : Setting → Client → ℕ → List Event → Type 0
AreUnheard st c n [] = n ≡ 0
AreUnheard st c n (event.Quiet ∷ events) =
    ((c.view.flights ≡ []) → ⊥) × ((others : ℕ) × (n ≡ suc others) × AreUnheard st (after st c event.Quiet) others events)
AreUnheard st c n (event.Got bytes ∷ events) = ⊥
AreUnheard st c n (e ∷ events) = AreUnheard st (after st c e) n events

-- events of this client end in so many silences
pub record IsUnheard (st : Setting) (c : Client) (n : ℕ) (events : List Event) : Type 0 where
  pub before : List Event
  pub later : List Event
  pub are : events ≡ before ++ later
  pub silent : AreUnheard st (all_after st c before) n later
