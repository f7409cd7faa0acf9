-- The laws of shares that are alike: all that proofs about runs may use of it.
use Rattle.std.proofs.Common.{◌≡◌, ◌≤◌, ℕ, true, false, [], ◌∷◌, ◌++◌, refl, ap, sym, subst, ◌∙◌, None, Some, List, Option, Bool, ◌==◌, not, ◌&&◌, if◌then◌else◌}
use Rattle.std.specs.List.{list_all}
use Rattle.std.proofs.lemmas.Bool.{false≢true}
use Rattle.smb_base.specs.declared.names.Key.{Key}
use Rattle.share_state.specs.declared.connection.Grant.{Grant}
use Rattle.share_state.specs.declared.lease.Lease.{Lease}
use Rattle.share_state.specs.declared.opens.Open.{Open}
use Rattle.share_state.specs.declared.request.Who.{Who}
use Rattle.share_state.specs.declared.request.Req.{Req}
use Rattle.share_state.specs.declared.request.Rep.{Rep}
use Rattle.share_state.specs.declared.share.Share.{Share}
use Rattle.share_state.specs.Built.{is_built}
use Rattle.share_state.specs.Close.{has_open_of_key, kept_leases, closed, close_open}
use Rattle.share_state.specs.Cut.{after_cut}
use Rattle.share_state.specs.Reply.{map_fid}
use Rattle.share_state.specs.State.{Making}
use Rattle.share_state.specs.Step.{step_of}
use Rattle.share_state.specs.PlainShare.{plain_step, shown}
use Rattle.smb_link.specs.declared.event.Event.{Event}
use Rattle.smb_link.specs.declared.event.Event.TheVariants as event
use Rattle.fs_plain.specs.World.{happens}
use Rattle.fs_plain.specs.Honest.{start}
use Rattle.fs_plain.specs.Same.{same_reply}
use Rattle.fs_plain.specs.Alike.{bare, AreStanding, AreSame, IsIdentical, Alike, HasNoLeaseOfOurs}
use Rattle.fs_plain.specs.Paired.{Pair, plain_of_real, pair_given}
use Rattle.fs_plain.specs.PlainSide.{PlainSide, plain_side}
use Rattle.fs_plain.specs.Divergence.{ended_between, fid_carried, all_ended_with, side_after_ends}
use Rattle.fs_plain.proofs.Deeds.{bare_of}
use Rattle.fs_plain.proofs.Steps.{step_counts, step_numbers, step_names}
use Rattle.fs_plain.proofs.Identity.{none_made, pairs_counted}
use Rattle.fs_plain.proofs.Carried.{act_same}
use Rattle.fs_plain.proofs.Cutting.{cut_tree, cut_standing, cut_made}
use Rattle.fs_plain.proofs.SameLaws.{reply_itself}
use Rattle.fs_plain.proofs.Dropping.{none_drops, stands_there, none_of}

-- at the start of a story they are
pub alike_start : (made : Making) (story : List Event) → Alike (start made.room made.fold story) (plain_side made story)
unfolding Alike
alike_start made story = record { tree = refl; standing = (tt, record {}); pairs = none_made; kept = refl }

-- what changes the connection alone keeps them so
pub alike_beside : (s s' : Share) (p : PlainSide) → bare s' ≡ bare s → Alike s p → Alike s' p
unfolding Alike
alike_beside s s' p same old = record {
  tree = old.tree ∙ sym same;
  standing = subst (λ (t : Share). AreStanding t) (sym same) old.standing;
  pairs = subst (λ (t : Share). AreSame p.pairs t.opens_made) (sym same) old.pairs;
  kept = old.kept;
}

-- what a request comes to on the plain share, with its file id carried over
abbrev pub carried_step : PlainSide → Who → Req → Rep × Share
carried_step p who r = plain_step p.plain who (map_fid (fid_carried p.pairs) r)

-- the plain side once it was done there, beside the real share's reply
abbrev pub stepped : PlainSide → List ℕ → Rep × Share → Rep → PlainSide
stepped p path done real = record p { plain = done.1; pairs = pair_given path done.0 real ++ p.pairs }

carried_same : (choice : Option Grant) (s : Share) (p : PlainSide) (who : Who) (r : Req) → is_built r ≡ true → IsIdentical s p
    → carried_step p who r ≡ bare_of (step_of choice s who r)
carried_same choice s p who r built old =
    ap (λ (t : Share). plain_step t who (map_fid (fid_carried p.pairs) r)) old.tree
    ∙ act_same p.pairs choice s who r old.pairs old.standing built

-- the same request, of this client or another, has the same reply on both shares, apart from file ids and grants, whatever was
-- chosen; and they stay alike, with the pair of opens that came of it
pub alike_step : (choice : Option Grant) (s : Share) (p : PlainSide) (who : Who) (r : Req) (path : List ℕ) → is_built r ≡ true → Alike s p
    → (shown (carried_step p who r).0 ≡ shown (step_of choice s who r).0)
    × Alike (step_of choice s who r).1 (stepped p path (carried_step p who r) (step_of choice s who r).0)
unfolding Alike
alike_step choice s p who r path built old =
    let done : Rep × Share = step_of choice s who r in
    subst (λ (d : Rep × Share). (shown d.0 ≡ shown done.0) × IsIdentical done.1 (stepped p path d done.0)) (sym (carried_same choice s p who r built old)) (
      refl,
      record {
        tree = refl;
        standing = step_numbers choice s who r built old.standing;
        pairs = pairs_counted path p.pairs s done (step_names choice s who r) (step_counts choice s who r) old.pairs;
        kept = old.kept;
      },
    )

-- and so it is the same reply to another client
pub alike_act : (choice : Option Grant) (s : Share) (p : PlainSide) (who : Who) (r : Req) → is_built r ≡ true → Alike s p
    → same_reply (carried_step p who r).0 (step_of choice s who r).0 ≡ true
unfolding Alike
alike_act choice s p who r built old =
    ap (λ (d : Rep × Share). same_reply d.0 (step_of choice s who r).0) (carried_same choice s p who r built old)
    ∙ reply_itself (step_of choice s who r).0

-- an open that this client was given has its pair, and the plain open stands where the real one does
pub alike_knows : (s : Share) (p : PlainSide) (n : ℕ) → 1 ≤ n → n ≤ s.opens_made → Alike s p → plain_of_real p.pairs n ≡ n
unfolding Alike
alike_knows s p n low high old = old.pairs.known n low high

-- where no open of this client stands the share is left as the plain client leaves it
pub alike_clear : (s : Share) (p : PlainSide) → Alike s p → (s.nodes ≡ p.plain.nodes) × (s.entries ≡ p.plain.entries)
unfolding Alike
alike_clear s p old = (sym (ap (λ (t : Share). t.nodes) old.tree), sym (ap (λ (t : Share). t.entries) old.tree))

-- the opens that end with a connection, or are dropped, end on both
pub alike_cut : (s : Share) (p : PlainSide) → Alike s p → Alike (after_cut s) (side_after_ends s event.Cut p)
unfolding Alike
alike_cut s p old =
    let ended : List Open = ended_between s.opens (after_cut s).opens in
    record {
      tree = ap (all_ended_with p.pairs ended) old.tree
          ∙ cut_tree s p.pairs old.standing.0 old.standing.1 old.pairs;
      standing = cut_standing s old.standing;
      pairs = subst (AreSame p.pairs) (sym (cut_made s)) old.pairs;
      kept = old.kept;
    }

pub alike_drop : (s : Share) (p : PlainSide) (key : Key) → Alike s p
    → Alike (happens s (event.Dropped key)) (side_after_ends s (event.Dropped key) p)
unfolding Alike
alike_drop s p key old =
    let same : happens s (event.Dropped key) ≡ s = none_drops s key old.standing in
    subst (λ (t : Share). IsIdentical t (record p { plain = all_ended_with p.pairs (ended_between s.opens t.opens) p.plain })) (sym same)
    (subst (λ (l : List Open). IsIdentical s (record p { plain = all_ended_with p.pairs l p.plain })) (sym (none_of s.opens s.opens (stands_there s.opens))) old)

-- no lease of ours comes from what the machine does today, whoever asks; those of others may go
ours_kept : (opens : List Open) (leases : List Lease) → list_all (λ (l : Lease). not (l.who.0 == 0)) leases ≡ true
    → list_all (λ (l : Lease). not (l.who.0 == 0)) (kept_leases opens leases) ≡ true
ours_kept opens [] none = refl
ours_kept opens (l ∷ ls) none =
    by (has_open_of_key opens l.who l.key) (first (not (l.who.0 == 0)) (list_all (λ (m : Lease). not (m.who.0 == 0)) ls) none)
    (ours_kept opens ls (second (not (l.who.0 == 0)) (list_all (λ (m : Lease). not (m.who.0 == 0)) ls) none))
  where
    first : (a b : Bool) → (a && b) ≡ true → a ≡ true
    first true b is = refl
    first false b is = is

    second : (a b : Bool) → (a && b) ≡ true → b ≡ true
    second true b is = is
    second false b is = absurd (false≢true is)

    by : (t : Bool) → not (l.who.0 == 0) ≡ true → list_all (λ (m : Lease). not (m.who.0 == 0)) (kept_leases opens ls) ≡ true
        → list_all (λ (m : Lease). not (m.who.0 == 0)) (if t then l ∷ kept_leases opens ls else kept_leases opens ls) ≡ true
    by true other rest = ap (λ (t : Bool). t && list_all (λ (m : Lease). not (m.who.0 == 0)) (kept_leases opens ls)) other ∙ rest
    by false other rest = rest

pub close_ours : (found : Option Open) (s : Share) → HasNoLeaseOfOurs s → HasNoLeaseOfOurs (close_open found s).1
close_ours None s none = none
close_ours (Some o) s none = ours_kept (closed o s).opens s.leases none

-- what is alike hangs on the plain share, the pairs and the opens that are kept, and on nothing else of the plain side
pub alike_calls : (s : Share) (p q : PlainSide) → q.plain ≡ p.plain → q.pairs ≡ p.pairs → q.kept ≡ p.kept → Alike s p → Alike s q
unfolding Alike
alike_calls s p q plain pairs kept old = record {
  tree = plain ∙ old.tree;
  standing = old.standing;
  pairs = subst (λ (l : List Pair). AreSame l s.opens_made) (sym pairs) old.pairs;
  kept = kept ∙ old.kept;
}

-- the number 0 names no open, on either share
pub alike_none : (s : Share) (p : PlainSide) → Alike s p → plain_of_real p.pairs 0 ≡ 0
unfolding Alike
alike_none s p old = old.pairs.none

-- each open of the plain share has a number of its own that was given, and is connected
pub alike_stands : (s : Share) (p : PlainSide) → Alike s p → AreStanding p.plain
unfolding Alike
alike_stands s p old = subst AreStanding (sym old.tree) old.standing

-- where no open of this client stands on the plain share, none does on the real one
pub alike_closed : (s : Share) (p : PlainSide) → Alike s p → list_all (λ (o : Open). not (o.who.0 == 0)) p.plain.opens ≡ true
    → list_all (λ (o : Open). not (o.who.0 == 0)) s.opens ≡ true
unfolding Alike
alike_closed s p old none = sym (ap (λ (t : Share). list_all (λ (o : Open). not (o.who.0 == 0)) t.opens) old.tree) ∙ none
