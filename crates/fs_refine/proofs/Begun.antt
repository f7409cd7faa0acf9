-- What a client holds of the bytes of an honest share begins a frame.
use Rattle.std.proofs.Common.{rules, ◌≡◌, ◌∙◌, refl, sym, ap, subst, ℕ, Bool, true, false, cond, not, List, [], ◌∷◌, ◌++◌, Some, None}
use Rattle.smb_head.specs.declared.first.FrameFault.{FrameFault}
use Rattle.smb_head.specs.Stream.{Partial, Bad, first_of, rest_in, fault_of, fault_in}
use Rattle.share_state.specs.declared.share.Share.{Share}
use Rattle.share_state.specs.State.{Making}
use Rattle.smb_link.specs.declared.event.Event.{Event}
use Rattle.smb_link.specs.declared.event.Event.TheVariants as event
use Rattle.smb_link.specs.Story.{is_of_share}
use Rattle.fs_plain.specs.World.{happens}
use Rattle.fs_plain.specs.Honest.{MayHappen, HonestFrom, start, IsHonest}
use Rattle.fs_plain.specs.Run.{Run}
use Rattle.fs_plain.specs.PlainSide.{PlainSide, plain_side}
use Rattle.fs_plain.specs.Divergence.{side_after}
use Rattle.fs_client.specs.View.{Setting, Client, no_client}
use Rattle.fs_client.specs.After.{after, all_after, own}
use Rattle.fs_client.specs.May.{Allowed}
use Rattle.fs_refine.specs.Related.{IsOfRun, Related}
use Rattle.fs_refine.proofs.Fair.{client_at}
use Rattle.fs_refine.proofs.Kept.{own_keeps, related_first}
use Rattle.fs_refine.proofs.ShareEvents.{share_related}
use Rattle.fs_refine.proofs.Whole.{honest_first}

-- bytes begin with no fault
abbrev pub BeginsWell : List ℕ → Type 0
BeginsWell bytes = (fault : FrameFault) → first_of bytes ≡ Bad fault → ⊥

well_empty : BeginsWell []
unfolding first_of
well_empty fault is = absurd (no fault is)
  where
    no : (fault : FrameFault) → Partial ≡ Bad fault → ⊥
    no fault is = search rules

well_left : (bytes : List ℕ) → fault_in bytes ≡ None → BeginsWell (rest_in bytes)
well_left bytes none fault bad = no fault (sym none ∙ ap fault_of bad)
  where
    no : (fault : FrameFault) → None ≡ Some fault → ⊥
    no fault is = search rules

-- one event of the client more
begins_still : (st : Setting) (s : Share) (p p' : PlainSide) (c : Client) (e : Event) → Related s p c.view → MayHappen s e → Related (happens s e) p' (after st c e).view
    → BeginsWell c.view.held → BeginsWell (after st c e).view.held
begins_still st s p p' c (event.Got bytes) old may new well = subst BeginsWell new.held (well_left (s.held ++ bytes) may.sound)
begins_still st s p p' c event.Joined old may new well = well_empty
begins_still st s p p' c event.Cut old may new well = well_empty
begins_still st s p p' c other old may new well = well

begins_along : (run : Run) (st : Setting) (events : List Event) (s : Share) (p : PlainSide) (c : Client) → IsOfRun run st → Related s p c.view → HonestFrom s events → Allowed st c (own events)
    → BeginsWell c.view.held → BeginsWell (all_after st c (own events)).view.held
begins_along run st [] s p c of old honest allowed well = well
begins_along run st (e ∷ events) s p c of old honest allowed well =
    by (is_of_share e) refl allowed (λ s' p' c' old' honest' allowed' well'. begins_along run st events s' p' c' of old' honest' allowed' well')
  where
    by : (t : Bool) → is_of_share e ≡ t → Allowed st c (cond (not t) (e ∷ own events) (own events))
        → ((s' : Share) (p' : PlainSide) (c' : Client) → Related s' p' c'.view → HonestFrom s' events → Allowed st c' (own events) → BeginsWell c'.view.held
        → BeginsWell (all_after st c' (own events)).view.held)
        → BeginsWell (all_after st c (cond (not (is_of_share e)) (e ∷ own events) (own events))).view.held
    by true is allowed deeper =
        subst (λ (b : Bool). BeginsWell (all_after st c (cond (not b) (e ∷ own events) (own events))).view.held) (sym is)
        (deeper (happens s e) (side_after run s p e) c (share_related run s p c.view e is old honest.0).1 honest.1 allowed well)
    by false is allowed deeper =
        let new = (own_keeps run st s p c e of old honest.0 allowed.0).1 in
        subst (λ (b : Bool). BeginsWell (all_after st c (cond (not b) (e ∷ own events) (own events))).view.held) (sym is)
        (deeper (happens s e) (side_after run s p e) (after st c e) new honest.1 allowed.1
        (begins_still st s p (side_after run s p e) c e old honest.0 new well))

-- At each place of a story that an honest share tells, and up to which the client does what it may, what it holds begins with no fault.
pub begins_well : (st : Setting) (made : Making) (before later : List Event) → IsHonest made.room made.fold (before ++ later) → Allowed st no_client (own before)
    → BeginsWell (client_at st before).view.held
begins_well st made before later honest mine =
    let run : Run = record { options = st.options; seed = st.seed; status = 0 } in
    let story : List Event = before ++ later in
    let s : Share = start made.room made.fold story in
    begins_along run st before s (plain_side made story) no_client (record { options = refl; seed = refl }) (related_first made story) (honest_first s before later honest) mine well_empty
