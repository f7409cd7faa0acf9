-- What a run is for its user and for the others on the share.
use Rattle.std.specs.Prelude.{◌≡◌, ℕ, Bool, true, ◌==◌, ◌||◌, List, Option, Some}
use Rattle.share_state.specs.State.{Making}
use Rattle.smb_link.specs.declared.event.Event.{Event}
use Rattle.fs_plain.specs.Honest.{start, IsHonest}
use Rattle.fs_plain.specs.Headline as plain
use Rattle.fs_plain.specs.World.{share_after}
use Rattle.fs_plain.specs.Run.{Run}
use Rattle.fs_plain.specs.Divergence.{side_at}
use Rattle.fs_plain.specs.PlainSide.{plain_side}
use Rattle.fs_client.specs.View.{Setting, no_client}
use Rattle.fs_client.specs.After.{own}
use Rattle.fs_refine.specs.Ends.{IsLeft, AreThrifty}

-- a run of this client that ended with this status
abbrev pub run_of : Setting → ℕ → Run
run_of st status = record { options = st.options; seed = st.seed; status = status }

-- every answer is that of the plain client, and so are the answers of the others
abbrev pub PlainAnswers : Setting → ℕ → Option (List Event) → Type 0
PlainAnswers st status story = plain.PlainAnswers st.options st.seed status story

-- a run that ends by one of these statuses leaves the share: 0 after its last call, 2 at a line that is no call, 7 where the script
-- cannot be read
abbrev pub is_left : ℕ → Bool
is_left status = status == 0 || status == 2 || status == 7

-- such a run leaves the share clean, where the whole story is told and is one that an honest share tells: its files and names are as the plain
-- client leaves them, and no open of its own stands
abbrev pub CleanEnds : Setting → ℕ → Option (List Event) → Type 0
CleanEnds st status story =
    is_left status ≡ true → (came : List Event) → story ≡ Some came → (made : Making) → IsHonest made.room made.fold came
    → IsLeft (share_after (start made.room made.fold came) came) (side_at (run_of st status) (start made.room made.fold came) (plain_side made came) came)

-- no frame is sent in vain: wherever three ids are free the first frame of a stat has all its three requests
abbrev pub SendsFew : Setting → Option (List Event) → Type 0
SendsFew st story = (came : List Event) → story ≡ Some came → AreThrifty st no_client (own came)
