-- A Create that wants neither a lease nor a durable open: nothing is granted of it, no key refuses it, and no choice counts.
use Rattle.std.proofs.Common.{◌≡◌, ℕ, refl, Option, None}
use Rattle.share_state.specs.declared.connection.Grant.{Grant}
use Rattle.share_state.specs.declared.wanted.Wanted.{Wanted}
use Rattle.share_state.specs.declared.place.Place.{Place}
use Rattle.share_state.specs.declared.place.Place.TheVariants.{NoPath, Missing, There}
use Rattle.share_state.specs.declared.request.Who.{Who}
use Rattle.share_state.specs.declared.share.Share.{Share}
use Rattle.share_state.specs.PlainShare.{plain_wanted}
use Rattle.share_state.specs.Leases.{no_granting, granting_of}
use Rattle.share_state.specs.Create.{refusal_of_key, create_at}

pub nothing_granted : (choice : Option Grant) (s : Share) (who : Who) (w : Wanted) (node : ℕ) → granting_of choice s who (plain_wanted w) node ≡ no_granting
nothing_granted choice s who w node = refl

pub no_key_refuses : (s : Share) (who : Who) (w : Wanted) (node : ℕ) → refusal_of_key s who (plain_wanted w) node ≡ None
no_key_refuses s who w node = refl

pub no_choice_counts : (choice : Option Grant) (s : Share) (who : Who) (w : Wanted) (at : Place)
    → create_at choice s who (plain_wanted w) at ≡ create_at None s who (plain_wanted w) at
no_choice_counts choice s who w NoPath = refl
no_choice_counts choice s who w (Missing d name) = refl
no_choice_counts choice s who w (There f) = refl
