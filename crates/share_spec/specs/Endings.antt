-- The end of opens, by what their ends go by.
use Rattle.std.specs.Prelude.{List, [], ◌∷◌}
use Rattle.share_state.specs.declared.opens.Open.{Open}
use Rattle.share_state.specs.declared.share.Share.{Share}
use Rattle.share_state.specs.Close.{ended}
use Rattle.share_spec.specs.declared.lost.OpenEnding.{OpenEnding}

-- what the end of an open goes by
abbrev pub ending_of : Open → OpenEnding
ending_of o = record { number = o.number; node = o.node; entry = o.entry; delete = o.delete_on_close }

-- the share once opens end, one after the other, given what their ends go by
abbrev pub all_ended : List OpenEnding → Share → Share
all_ended [] s = s
all_ended (e ∷ es) s = all_ended es (ended e.number e.node e.entry e.delete s)
