-- An open that is disconnected may be dropped: where all are connected none is.
use Rattle.std.proofs.Common.{rules, ◌≡◌, ℕ, true, false, [], ◌∷◌, refl, ap, ◌∙◌, List, Bool, ◌==◌, not, ◌&&◌, if◌then◌else◌}
use Rattle.std.specs.Prelude.{filter, ◌||◌}
use Rattle.std.specs.List.{list_any}
use Rattle.fs_plain.proofs.Every.{every-more}
use Rattle.std.specs.List.{AllByRecursion}
use Rattle.smb_base.specs.declared.names.Key.{Key}
use Rattle.share_state.specs.declared.opens.Open.{Open}
use Rattle.share_state.specs.declared.share.Share.{Share}
use Rattle.share_state.specs.Close.{is_key_of}
use Rattle.share_state.specs.Cut.{all_closed}
use Rattle.smb_link.specs.declared.event.Event.TheVariants as event
use Rattle.fs_plain.specs.World.{happens}
use Rattle.fs_plain.specs.Divergence.{ended_between}
use Rattle.fs_plain.specs.Alike.{IsStanding, AreStanding}

-- no open of the client is disconnected, so none is dropped
none_dropped : (made : ℕ) (key : Key) (opens : List Open) → AllByRecursion (IsStanding made) opens
    → filter (λ o. o.who.0 == 0 && not o.connected && is_key_of key o.key) opens ≡ []
none_dropped made key [] all = refl
none_dropped made key (o ∷ os) all =
    ap (λ (t : Bool). if t then o ∷ filter (λ q. q.who.0 == 0 && not q.connected && is_key_of key q.key) os else filter (λ q. q.who.0 == 0 && not q.connected && is_key_of key q.key) os)
    (ap (λ (t : Bool). o.who.0 == 0 && not t && is_key_of key o.key) all.0.2 ∙ no (o.who.0 == 0) (is_key_of key o.key))
    ∙ none_dropped made key os all.1
  where
    no : (a b : Bool) → (a && false && b) ≡ false
    no true b = refl
    no false b = refl

-- so nothing happens
pub none_drops : (s : Share) (key : Key) → AreStanding s → happens s (event.Dropped key) ≡ s
none_drops s key standing = ap (λ (l : List Open). all_closed l s) (none_dropped s.opens_made key s.opens standing.0)

-- an open that stands in a list did not end
pub stands_there : (os : List Open) → AllByRecursion (λ o. list_any (λ q. q.number == o.number) os ≡ true) os
stands_there [] = tt
stands_there (o ∷ os) = (
  ap (λ (t : Bool). t || list_any (λ q. q.number == o.number) os) (itself o.number),
  every-more (λ p. list_any (λ q. q.number == p.number) os ≡ true) (λ p. (o.number == p.number || list_any (λ q. q.number == p.number) os) ≡ true)
      (λ p is. later (o.number == p.number) (list_any (λ q. q.number == p.number) os) is) os (stands_there os),
)
  where
    itself : (n : ℕ) → (n == n) ≡ true
    itself n = search rules

    later : (a b : Bool) → b ≡ true → (a || b) ≡ true
    later true b is = refl
    later false b is = is

pub none_of : (after before : List Open) → AllByRecursion (λ o. list_any (λ q. q.number == o.number) after ≡ true) before → ended_between before after ≡ []
none_of after [] all = refl
none_of after (o ∷ os) all =
    ap (λ (t : Bool). if not t then o ∷ ended_between os after else ended_between os after) all.0 ∙ none_of after os all.1
