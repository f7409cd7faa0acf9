use Rattle.std.proofs.Common.{◌∙◌, sym}
use Rattle.smb_link.specs.Once.{same_place}
use Rattle.smb_link.proofs.OnceLaws.{is_last_got}
use Rattle.smb_link.proofs.places.PlaceList.is_last.Goals as goal

pub returns-in-Some : goal.returns-in-Some
returns-in-Some c =
    rw (← c.self.view_is, ← c.deref.ensures.value) (c.is.ensures ∙ sym (is_last_got same_place _ c.in-Some.place.now c.deref.result.now (sym c.in-Some.ensures.value)))
