-- What a run promises of a story that is told whole.
use Rattle.std.specs.Prelude.{◌≡◌, ℕ, List, Option, Some, None}
use Rattle.fs_types.specs.declared.options.Options.{Options}
use Rattle.share_state.specs.State.{Making}
use Rattle.smb_link.specs.declared.event.Event.{Event}
use Rattle.fs_plain.specs.Honest.{IsHonest}
use Rattle.fs_plain.specs.Run.{run_of}
use Rattle.fs_plain.specs.Divergence.{divergence}

-- every answer is that of the plain client: where the whole story is told, and is one that an honest share tells which was made with any
-- room and folding, it diverges nowhere from what the plain client does at a share made with the same
abbrev pub PlainAnswers : Options → List ℕ → ℕ → Option (List Event) → Type 0
PlainAnswers options seed status story =
    (came : List Event) → story ≡ Some came → (made : Making) → IsHonest made.room made.fold came
    → divergence (run_of options seed status) made came ≡ None
