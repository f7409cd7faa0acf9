-- A connection is made, could not be made, is silent or ends: it makes no difference, and what is related stays so.
use Rattle.std.proofs.Common.{◌≡◌, ◌∙◌, refl, sym, ap, subst, ℕ}
use Rattle.std.specs.Prelude.{filter}
use Rattle.std.specs.List.{AllByRecursion}
use Rattle.share_state.specs.declared.share.Share.{Share}
use Rattle.share_state.specs.Cut.{ends_with, after_cut, after_join}
use Rattle.smb_link.specs.declared.event.Event.TheVariants as event
use Rattle.fs_plain.specs.World.{us}
use Rattle.fs_plain.specs.Run.{Run}
use Rattle.fs_plain.specs.Divergence.{ended_between, side_after_ends, side_after}
use Rattle.fs_plain.specs.Holders.{IsHeld}
use Rattle.fs_plain.specs.Told.{told_by_loss}
use Rattle.fs_plain.specs.PlainSide.{PlainSide}
use Rattle.fs_plain.proofs.AlikeLaws.{alike_beside, alike_calls, alike_cut}
use Rattle.fs_client.specs.Item.{Placed}
use Rattle.fs_client.specs.View.{Setting, View, Client}
use Rattle.fs_client.specs.May.{May}
use Rattle.fs_client.specs.Owing.{taken}
use Rattle.fs_client.proofs.Stays.{stays}
use Rattle.fs_refine.specs.Calls.{IsGiven, AreCalls, all_described}
use Rattle.fs_refine.specs.Related.{Related}
use Rattle.fs_refine.proofs.CallLists.{calls_parted}
use Rattle.fs_refine.proofs.Holding.{same_holds, ends_hold}
use Rattle.fs_refine.proofs.Taking.{IsSame, same_taken}
use Rattle.fs_refine.proofs.Changing.{well}
use Rattle.fs_refine.proofs.ShareEvents.{ends_made, ends_ours}
use Rattle.fs_refine.proofs.Marks.{Keeps}

-- the plain side alone counts one event of the client less
counted_related : (s : Share) (p p' : PlainSide) (v : View) → Related s p v → p'.plain ≡ p.plain → p'.pairs ≡ p.pairs → p'.kept ≡ p.kept → p'.described ≡ p.described → p'.told ≡ p.told
    → p'.running ≡ p.running → Related s p' v
counted_related s p p' v old plain pairs kept described told running = record {
  alike = alike_calls s p p' plain pairs kept old.alike;
  ours = old.ours;
  sane = old.sane;
  due = old.due;
  early = old.early;
  sent = old.sent;
  running = subst (λ (l : _). AreCalls l s.opens_made (taken s.owed v).items p'.running) (sym pairs)
      (subst (AreCalls p.pairs s.opens_made (taken s.owed v).items) (sym running) old.running);
  told = told ∙ old.told;
  connected = old.connected;
  held = old.held;
  described = described ∙ old.described ∙ ap (λ (l : _). all_described l v.placed) (sym pairs);
  placed = old.placed;
  holders = same_holds p p' described running (subst (λ (t : Share). AllByRecursion (IsHeld p) t.opens) (sym plain) old.holders.opens) old.holders;
  cached = old.cached;
}

pub quiet_keeps : (run : Run) (st : Setting) (s : Share) (p : PlainSide) (v : View) → Related s p v → Keeps run st s p v event.Quiet
quiet_keeps run st s p v old = (refl, counted_related s p (side_after run s p event.Quiet) v old refl refl refl refl refl refl)

pub not_joined_keeps : (run : Run) (st : Setting) (s : Share) (p : PlainSide) (v : View) → Related s p v → Keeps run st s p v event.NotJoined
not_joined_keeps run st s p v old = (refl, counted_related s p (side_after run s p event.NotJoined) v old refl refl refl refl refl refl)

-- a new connection: nothing of it was sent, is owed or held
pub join_keeps : (run : Run) (st : Setting) (s : Share) (p : PlainSide) (c : Client) → Related s p c.view → May st c event.Joined → Keeps run st s p c.view event.Joined
join_keeps run st s p c old may =
    let v : View = c.view in
    let s' : Share = after_join s in
    let p' : PlainSide = side_after run s p event.Joined in
    let same : IsSame v (taken s.owed v) = same_taken s.owed v (well s p v old) old.due in
    let sane = stays st c event.Joined old.sane may in (
      refl,
      record {
        alike = alike_beside s s' p' refl (alike_calls s p p' refl refl refl old.alike);
        ours = old.ours;
        sane = sane;
        due = record {};
        early = refl;
        sent = refl;
        running = calls_parted p.pairs p.pairs s.opens_made s.opens_made (taken s.owed v).items v.items p.running (sym same.stems) old.running;
        told = ap told_by_loss old.told;
        connected = refl;
        held = refl;
        described = old.described;
        placed = old.placed;
        holders = same_holds p p' refl refl old.holders.opens old.holders;
        cached = sane.no_lease;
      },
    )

-- the connection ends: the opens of this client end on both shares, and its calls are broken off
pub cut_keeps : (run : Run) (st : Setting) (s : Share) (p : PlainSide) (c : Client) → Related s p c.view → May st c event.Cut → Keeps run st s p c.view event.Cut
cut_keeps run st s p c old may =
    let v : View = c.view in
    let s' : Share = after_cut s in
    let q : PlainSide = side_after_ends s event.Cut p in
    let p' : PlainSide = side_after run s p event.Cut in
    let same : IsSame v (taken s.owed v) = same_taken s.owed v (well s p v old) old.due in
    let made : s'.opens_made ≡ s.opens_made = ends_made (filter (ends_with us s.leases) s.opens) s in
    let sane = stays st c event.Cut old.sane may in (
      refl,
      record {
        alike = alike_calls s' q p' refl refl refl (alike_cut s p old.alike);
        ours = ends_ours (filter (ends_with us s.leases) s.opens) s old.ours;
        sane = sane;
        due = record {};
        early = refl;
        sent = refl;
        running = calls_parted p.pairs p.pairs s.opens_made s'.opens_made (taken s.owed v).items v.items p.running (sym same.stems) old.running;
        told = ap told_by_loss old.told;
        connected = refl;
        held = refl;
        described = old.described;
        placed = subst (λ (n : ℕ). AllByRecursion (λ (x : Placed). IsGiven n x.fid) v.placed) (sym made) old.placed;
        holders = ends_hold p p' (ended_between s.opens s'.opens) refl refl refl old.holders;
        cached = sane.no_lease;
      },
    )
