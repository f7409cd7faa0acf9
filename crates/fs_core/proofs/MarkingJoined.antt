-- The core before its first input fits a client before its first event, and a core that fits a client fits it once a connection is made.
use Rattle.std.proofs.Common.{◌≡◌, ◌∙◌, refl, sym, ap, subst, false, List, [], ◌∷◌, inr}
use Rattle.std.specs.Prelude.{map}
use Rattle.std.specs.List.{AllByRecursion}
use Rattle.std.proofs.lemmas.Bool.{false≢true}
use Rattle.smb_base.specs.declared.names.Mid.{Mid}
use Rattle.smb_credit.specs.Window.{numbers, up_to}
use Rattle.smb_mount.specs.Kept.{Start}
use Rattle.smb_mux.specs.InFlight.{start}
use Rattle.share_state.specs.declared.connection.Sent.{Sent}
use Rattle.share_state.specs.declared.request.Rep.{Rep}
use Rattle.smb_link.specs.declared.event.Event.TheVariants as event
use Rattle.fs_client.specs.Item.{Item, parted}
use Rattle.fs_client.specs.View.{Setting, Client, no_client}
use Rattle.fs_client.specs.After.{after}
use Rattle.fs_client.specs.Mount.{Unmounted, at_first}
use Rattle.fs_client.specs.Sane.{IsEarly, Sane}
use Rattle.fs_client.proofs.Readiness.{ready_first, ready_keeps}
use Rattle.fs_core.specs.declared.flight.Flight.{Flight}
use Rattle.fs_core.specs.declared.input.Input.TheVariants as input
use Rattle.fs_core.specs.declared.phase.Phase.{Phase}
use Rattle.fs_core.specs.declared.phase.Phase.TheVariants as phase
use Rattle.fs_core.specs.Kept.{Kept, CoreValue}
use Rattle.fs_core.specs.Fits.{AllShow, AllFly, IsApart, IsAt, Fits}
use Rattle.fs_core.specs.Start.{kept_at_start}
use Rattle.fs_core.specs.Event.{is_left, is_connected, Comes}
use Rattle.fs_core.proofs.MarkingLists.{no_flight}

-- before the first input
pub fits_first : (st : Setting) (mount : Start) → Unmounted mount ≡ at_first st
    → Fits st (kept_at_start mount) no_client
fits_first st mount is = record {
  slots = record {};
  flights = record {};
  early = refl;
  ids = λ stands. absurd (false≢true stands);
  awaited = refl;
  phase = record { connected = refl; start = is; no_call = refl; no_flight = refl };
  last = refl;
  now = refl;
  ended = refl;
  idle = refl;
  ready = ready_first;
}

-- an early reply is one to a request in flight
none_early : (flights : List Sent) (early : List (Mid × Rep)) → flights ≡ [] → AllByRecursion (IsEarly flights) early → early ≡ []
none_early flights [] none all = refl
none_early flights (e ∷ early) none all = absurd (subst (λ (xs : List Sent). IsEarly xs e) none all.0)

-- id 0 may be used on a new connection
first_id : start.ids ≡ up_to 0 1
unfolding up_to numbers
first_id = refl

-- a connection is made
pub joined_fits : (st : Setting) (k : Kept) (mount : Start) (c : Client) → Sane c.view → Fits st k c → k.phase ≡ phase.Apart mount → c.view.connected ≡ false
    → Fits st (record k { mux = start; phase = phase.Greeting mount }) (after st c event.Joined)
joined_fits st k mount c sane fits is apart =
    let at : IsApart st mount c = subst (λ (p : Phase). IsAt st p c) is fits.phase in
    record {
      slots = subst (λ (items : List Item). AllShow st.options k.slots (map parted items)) (sym at.no_call)
          (subst (AllShow st.options k.slots) at.no_call fits.slots);
      flights = subst (λ (fs : List Flight). AllFly [] fs [])
          (sym (no_flight c.view.told.owners k.flights c.view.flights fits.flights at.no_flight)) (record {});
      early = fits.early ∙ none_early c.view.flights c.view.early at.no_flight sane.early;
      ids = λ stands. first_id;
      awaited = refl;
      phase = record { connected = refl; come = sym at.start; no_call = ap (map parted) at.no_call; asked = inr refl; staying = (refl, refl) };
      last = fits.last;
      now = fits.now;
      ended = fits.ended;
      idle = refl;
      ready = ready_keeps st c event.Joined apart fits.ready;
    }

pub comes_joined : (mount : Start) (old new : CoreValue) → new.setting ≡ old.setting → new.outs ≡ old.outs → old.kept.phase ≡ phase.Apart mount
    → new.kept ≡ record old.kept { mux = start; phase = phase.Greeting mount } → Comes input.Joined old new
comes_joined mount old new setting outs is kept = record {
  setting = setting;
  outs = outs;
  left = ap (λ (k : Kept). is_left k.phase) kept ∙ sym (ap is_left is);
  stays = record {
    last = ap (λ (k : Kept). k.last) kept;
    now = ap (λ (k : Kept). k.now) kept;
    ended = ap (λ (k : Kept). k.ended) kept;
    connected = ap (λ (k : Kept). is_connected k.phase) kept;
  };
  fits = λ c c' sane fits brought. subst (Fits old.setting new.kept) (sym brought.1)
      (subst (λ (k : Kept). Fits old.setting k (after old.setting c event.Joined)) (sym kept)
      (joined_fits old.setting old.kept mount c sane fits is brought.0));
}
