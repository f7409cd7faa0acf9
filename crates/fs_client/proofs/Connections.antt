-- A connection is made, or ends: nothing is in flight on it, and what holds of the client holds on.
use Rattle.std.proofs.Common.{Bool, List, [], ◌∷◌}
use Rattle.std.specs.Prelude.{map}
use Rattle.fs_plain.specs.Told.{told_by_loss}
use Rattle.fs_client.specs.Item.{Item, parted}
use Rattle.fs_client.specs.View.{View}
use Rattle.fs_client.specs.After.{on_connection}
use Rattle.fs_client.specs.Sane.{IsUsed, IsApart, AreApart, IsBegun, FliesIn, Sane}
use Rattle.fs_client.proofs.Lists.{none_some, all_map}

apart_parted : (items : List Item) → AreApart items → AreApart (map parted items)
apart_parted [] apart = record {}
apart_parted (i ∷ is) apart = (
  all_map (IsApart i) (IsApart (parted i)) parted is (λ j a. (a.0, λ frame here there. none_some frame here)) apart.0,
  apart_parted is apart.1,
)

pub connection_sane : (stands : Bool) (v : View) → Sane v → Sane (record (on_connection stands v) { told = told_by_loss v.told })
connection_sane stands v sane = record {
  flies = all_map (FliesIn v) (FliesIn (record (on_connection stands v) { told = told_by_loss v.told })) parted v.items (λ i f. record {}) sane.flies;
  owned = tt;
  apart = apart_parted v.items sane.apart;
  used = all_map (λ (i : Item). IsUsed v.next i.frame) (λ (i : Item). IsUsed 0 i.frame) parted v.items (λ i used. record {}) sane.used;
  begun = all_map (IsBegun v.told) (IsBegun v.told) parted v.items (λ i begun. begun) sane.begun;
  sent = tt;
  rising = record {};
  early = tt;
  no_place = sane.no_place;
  no_lease = sane.no_lease;
}
