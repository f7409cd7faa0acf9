use Rattle.std.proofs.Common.{◌∙◌, ap, slice_set}
use Rattle.std.proofs.lemmas.List.Edits.{map_over_more}
use Rattle.fs_core.specs.declared.flight.Flight.{Flight}
use Rattle.fs_core.specs.Parts.{behind}
use Rattle.fs_core.proofs.Edits.{same_there}
use Rattle.fs_core.proofs.flight.refuse_behind.Goals as goal

pub loop-flight-preserved : goal.loop-flight-preserved
loop-flight-preserved c =
    ap (λ (f : Flight). slice_set c.loop-flight.flights c.loop-flight.flight-index f) c.refuse.ensures
    ∙ map_over_more (behind c.args.frame c.args.refused) c.args.flights.now c.loop-flight.flights c.loop-flight.flight-index _
    c.loop-flight-test.true c.loop-flight.invariant (same_there c.loop-flight.flights c.loop-flight.flight-index _)
