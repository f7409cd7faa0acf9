-- The share changes beside the client: what is related stays so, where the shares are alike again and one more is owed, or no more.
use Rattle.std.proofs.Common.{◌≡◌, ◌∙◌, sym, ap, subst, ◌≤◌, List, [], ◌∷◌, ◌++◌}
use Rattle.std.specs.Prelude.{map}
use Rattle.share_state.specs.declared.connection.Owed.{Owed}
use Rattle.share_state.specs.declared.share.Share.{Share}
use Rattle.fs_plain.specs.Alike.{Alike, HasNoLeaseOfOurs}
use Rattle.fs_plain.specs.Holders.{AllHeld}
use Rattle.fs_plain.specs.PlainSide.{PlainSide}
use Rattle.fs_client.specs.View.{View}
use Rattle.fs_client.specs.Looks.{landed_owed}
use Rattle.fs_client.specs.Owing.{taken, IsDue, AreDue}
use Rattle.fs_refine.specs.Calls.{AreCalls}
use Rattle.fs_refine.specs.Related.{calm, Related}
use Rattle.fs_refine.proofs.Growing.{IsLater, described_still, placed_later}
use Rattle.fs_refine.proofs.Taking.{IsWell, taken_more, due_more, cached_along}

-- what holds of the client between two events
pub well : (s : Share) (p : PlainSide) (v : View) → Related s p v → IsWell v
well s p v old = record { sane = old.sane; early = old.early }

-- what changes on both sides, and what does not
pub record Changed (s s' : Share) (p p' : PlainSide) : Type 0 where
  pub alike : Alike s' p'
  pub ours : HasNoLeaseOfOurs s'
  pub told : p'.told ≡ p.told
  pub connected : s'.connected ≡ s.connected
  pub held : s'.held ≡ s.held
  pub described : p'.described ≡ p.described
  pub more : s.opens_made ≤ s'.opens_made
  pub holders : AllHeld p'

pub later : (s s' : Share) (p p' : PlainSide) (v : View) → Related s p v → Changed s s' p p' → IsLater s s' p p'
later s s' p p' v old changed = record { before = old.alike; after = changed.alike; more = changed.more }

-- one more is owed
pub owing : (s s' : Share) (p p' : PlainSide) (v : View) (o : Owed) → Related s p v → Changed s s' p p' → IsDue (taken s.owed v) o → s'.owed ≡ s.owed ++ o ∷ []
    → map calm s'.sent ≡ (landed_owed o (taken s.owed v)).flights → AreCalls p'.pairs s'.opens_made (landed_owed o (taken s.owed v)).items p'.running → Related s' p' v
owing s s' p p' v o old changed due owed sent running =
    let more : AreDue v (s.owed ++ o ∷ []) = due_more s.owed o v old.due due in
    record {
      alike = changed.alike;
      ours = changed.ours;
      sane = old.sane;
      due = subst (AreDue v) (sym owed) more;
      early = old.early;
      sent = sent ∙ sym (ap (λ (os : List Owed). (taken os v).flights) owed ∙ ap (λ (u : View). u.flights) (taken_more s.owed o v));
      running = subst (λ (os : List Owed). AreCalls p'.pairs s'.opens_made (taken os v).items p'.running) (sym owed)
          (subst (λ (u : View). AreCalls p'.pairs s'.opens_made u.items p'.running) (sym (taken_more s.owed o v)) running);
      told = changed.told ∙ old.told;
      connected = changed.connected ∙ old.connected;
      held = changed.held ∙ old.held;
      described = changed.described ∙ old.described ∙ sym (described_still s s' p p' v.placed (later s s' p p' v old changed) old.placed);
      placed = placed_later s.opens_made s'.opens_made v.placed changed.more old.placed;
      holders = changed.holders;
      cached = cached_along s' p' s'.owed v (well s p v old) (subst (AreDue v) (sym owed) more);
    }

-- no more is owed
pub beside : (s s' : Share) (p p' : PlainSide) (v : View) → Related s p v → Changed s s' p p' → s'.owed ≡ s.owed → s'.sent ≡ s.sent
    → AreCalls p'.pairs s'.opens_made (taken s.owed v).items p'.running → Related s' p' v
beside s s' p p' v old changed owed sent running = record {
  alike = changed.alike;
  ours = changed.ours;
  sane = old.sane;
  due = subst (AreDue v) (sym owed) old.due;
  early = old.early;
  sent = ap (map calm) sent ∙ old.sent ∙ sym (ap (λ (os : List Owed). (taken os v).flights) owed);
  running = subst (λ (os : List Owed). AreCalls p'.pairs s'.opens_made (taken os v).items p'.running) (sym owed) running;
  told = changed.told ∙ old.told;
  connected = changed.connected ∙ old.connected;
  held = changed.held ∙ old.held;
  described = changed.described ∙ old.described ∙ sym (described_still s s' p p' v.placed (later s s' p p' v old changed) old.placed);
  placed = placed_later s.opens_made s'.opens_made v.placed changed.more old.placed;
  holders = changed.holders;
  cached = cached_along s' p' s'.owed v (well s p v old) (subst (AreDue v) (sym owed) old.due);
}
