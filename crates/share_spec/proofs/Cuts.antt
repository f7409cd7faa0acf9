-- Opens that end with a connection.
use Rattle.std.proofs.Common.{◌≡◌, List, [], ◌∷◌, map, refl}
use Rattle.share_state.specs.declared.opens.Open.{Open}
use Rattle.share_state.specs.declared.share.Share.{Share}
use Rattle.share_state.specs.Close.{closed}
use Rattle.share_state.specs.Cut.{all_closed}
use Rattle.share_spec.specs.Endings.{all_ended, ending_of}

-- what the ends go by says the same as the opens
pub all_ended_closes : (opens : List Open) (s : Share) → all_ended (map ending_of opens) s ≡ all_closed opens s
all_ended_closes [] s = refl
all_ended_closes (o ∷ os) s = all_ended_closes os (closed o s)
