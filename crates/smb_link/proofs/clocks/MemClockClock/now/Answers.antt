use Rattle.std.proofs.Common.{ap, Some}
use Rattle.std.proofs.lemmas.List.{take_rest}
use Rattle.smb_link.proofs.Readings.{reads_last, reads_next}
use Rattle.smb_link.proofs.clocks.MemClockClock.now.Goals as goal

pub returns-in-len1-clause-told : goal.returns-in-len1-clause-told
returns-in-len1-clause-told c =
    ap Some (rw (c.as_slice.ensures, take_rest c.self.inside.readings c.self.inside.at, ← c.self.view_is)
    (reads_last c.self.inside.at c.self.inside.read c.self.inside.readings (rw (c.as_slice.ensures, take_rest c.self.inside.readings c.self.inside.at) at c.in-len1.len_at_least)))

pub returns-in-len1-up-clause-told : goal.returns-in-len1-up-clause-told
returns-in-len1-up-clause-told c =
    ap Some (rw (c.as_slice.ensures, take_rest c.self.inside.readings c.self.inside.at, ← c.self.view_is)
    (reads_next c.self.inside.at c.self.inside.read c.self.inside.readings c.self.invariant.1 (rw (c.as_slice.ensures, take_rest c.self.inside.readings c.self.inside.at) at c.in-len1-up.len_at_least)))
