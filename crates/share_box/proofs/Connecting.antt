-- What a connect comes to as a link.
use Rattle.std.proofs.Common.{◌≡◌, ◌∙◌, Bool, true, false, List, [], ◌∷◌, ◌++◌, Some, Result, Ok, Err, refl, sym, ap}
use Rattle.std.specs.Prelude.{◌&&◌, not, if◌then◌else◌}
use Rattle.smb_link.specs.declared.event.Event.{Event}
use Rattle.smb_link.specs.declared.event.Event.TheVariants as event
use Rattle.smb_link.specs.declared.faults.LinkFail.{LinkFail}
use Rattle.smb_link.specs.declared.faults.LinkFail.TheVariants as fail
use Rattle.smb_link.specs.Story.{Gains}
use Rattle.share_box.specs.declared.state.State.{State}
use Rattle.share_box.proofs.Going.{nothing_more}
use Rattle.share_box.specs.Calls.{ended, left, GoesOn, GoesToJoin, GoesToConnect}

-- a story gains nothing
gains_none : (story : List Event) → Gains [] (Some story) (Some story)
gains_none story = ([], refl, ap (λ (l : List Event). Some l) (sym (nothing_more story)))

not_both : (stood stands : Bool) → stands ≡ stood → (stood && not stands) ≡ false
not_both true stands same = ap not same
not_both false stands same = refl

after_want : (stood stands : Bool) → stands ≡ stood → stands ≡ true → stood ≡ true
after_want stood stands same h = sym same ∙ h

-- memory ran out before the connection was ended
pub want_before : (old new : State) → GoesOn old new → GoesToConnect (Err fail.NoMemory) old new
want_before old new goes =
    let none : (old.share.connected && not new.share.connected) ≡ false = not_both old.share.connected new.share.connected goes.connected in
    record {
      story = rw none (Some old.story, gains_none old.story, (goes.share, goes.theirs, ap (λ (l : List Event). Some l) goes.story));
      stands = after_want old.share.connected new.share.connected goes.connected;
      dead = goes.dead;
      connect_faults = goes.connect_faults;
      cuts = rw none goes.cuts;
      quiets = goes.quiets;
    }

-- where none stood
pub joins_fresh : (result : Result (Unit {0}) LinkFail) (old new : State) → old.share.connected ≡ false → GoesToJoin result old new → GoesToConnect result old new
joins_fresh (Ok x) old new none goes = record {
  story = rw none (Some old.story, gains_none old.story, goes.story);
  stands = goes.connected;
  dead = goes.dead;
  connect_faults = goes.connect_faults;
  cuts = rw none goes.cuts;
  quiets = goes.quiets;
}
joins_fresh (Err fail.Failed) old new none goes = record {
  story = rw none (Some old.story, gains_none old.story, goes.story);
  stands = goes.connected;
  dead = goes.dead;
  connect_faults = goes.connect_faults;
  cuts = rw none goes.cuts;
  quiets = goes.quiets;
}
joins_fresh (Err fail.NoMemory) old new none goes = record {
  story = rw none (Some old.story, gains_none old.story, goes.story);
  stands = λ h. absurd (cc (h, goes.connected));
  dead = goes.dead;
  connect_faults = goes.connect_faults;
  cuts = rw none goes.cuts;
  quiets = goes.quiets;
}

-- where one stood, which was ended
pub joins_anew : (result : Result (Unit {0}) LinkFail) (old new : State) → old.share.connected ≡ true → GoesToJoin result (ended [] old) new → GoesToConnect result old new
joins_anew (Ok x) old new one goes = record {
  story = rw one (Some (old.story ++ event.Cut ∷ []), ([], refl, refl), goes.story);
  stands = goes.connected;
  dead = goes.dead;
  connect_faults = goes.connect_faults;
  cuts = rw one goes.cuts;
  quiets = goes.quiets;
}
joins_anew (Err fail.Failed) old new one goes = record {
  story = rw one (Some (old.story ++ event.Cut ∷ []), ([], refl, refl), goes.story);
  stands = goes.connected;
  dead = goes.dead;
  connect_faults = goes.connect_faults;
  cuts = rw one goes.cuts;
  quiets = goes.quiets;
}
joins_anew (Err fail.NoMemory) old new one goes = record {
  story = rw (one, goes.connected) (Some (old.story ++ event.Cut ∷ []), ([], refl, refl), goes.story);
  stands = λ h. one;
  dead = goes.dead;
  connect_faults = goes.connect_faults;
  cuts = rw (one, goes.connected) goes.cuts;
  quiets = goes.quiets;
}

by_left : (b : Bool) (result : Result (Unit {0}) LinkFail) (old new : State) → old.share.connected ≡ b
    → GoesToJoin result (if b then ended [] old else old) new → GoesToConnect result old new
by_left true result old new is goes = joins_anew result old new is goes
by_left false result old new is goes = joins_fresh result old new is goes

pub joins_after : (result : Result (Unit {0}) LinkFail) (old mid new : State) → mid ≡ left old → GoesToJoin result mid new → GoesToConnect result old new
joins_after result old mid new is goes = by_left old.share.connected result old new refl (rw is at goes)
