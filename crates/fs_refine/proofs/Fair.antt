-- A client that does what it may finds no fault in the frames of an honest share: that it is fit for them is no premise.
use Rattle.std.proofs.Common.{arith, refl, ℕ, ◌≤◌, Bool, true, false, cond, not, List, [], ◌∷◌, ◌++◌}
use Rattle.smb_credit.specs.Window.{no_request}
use Rattle.smb_head.specs.Stream.{frames_in}
use Rattle.share_state.specs.declared.share.Share.{Share}
use Rattle.share_state.specs.State.{Making}
use Rattle.smb_link.specs.declared.event.Event.{Event}
use Rattle.smb_link.specs.declared.event.Event.TheVariants as event
use Rattle.smb_link.specs.Story.{is_of_share}
use Rattle.fs_plain.specs.World.{happens, share_after}
use Rattle.fs_plain.specs.Honest.{MayHappen, HonestFrom, start, IsHonest}
use Rattle.fs_plain.specs.Run.{Run}
use Rattle.fs_plain.specs.PlainSide.{plain_side}
use Rattle.fs_plain.specs.Divergence.{side_at}
use Rattle.fs_client.specs.View.{Setting, Client, no_client}
use Rattle.fs_client.specs.After.{after, all_after, own}
use Rattle.fs_client.specs.May.{Allowed}
use Rattle.fs_client.specs.Ready.{IsReady}
use Rattle.fs_client.proofs.Readiness.{ready_first, ready_along}
use Rattle.fs_refine.specs.Faultless.{AreFaultless}
use Rattle.fs_refine.proofs.Faultless.{IsFit, never_foul}
use Rattle.fs_refine.proofs.Kept.{kept, related_first}

-- a place of a story: what is so of the whole is so of the events before it, and of the event there
honest_at : (before : List Event) (s : Share) (e : Event) (later : List Event) → HonestFrom s (before ++ e ∷ later) → HonestFrom s before × MayHappen (share_after s before) e
honest_at [] s e later honest = (record {}, honest.0)
honest_at (b ∷ before) s e later honest =
    let rest = honest_at before (happens s b) e later honest.1 in ((honest.0, rest.0), rest.1)

pub allowed_before : (st : Setting) (before later : List Event) (c : Client) → Allowed st c (own (before ++ later)) → Allowed st c (own before)
allowed_before st [] later c allowed = record {}
allowed_before st (b ∷ before) later c allowed = by (is_of_share b) allowed (λ c'. allowed_before st before later c')
  where
    by : (t : Bool) → Allowed st c (cond (not t) (b ∷ own (before ++ later)) (own (before ++ later)))
        → ((c' : Client) → Allowed st c' (own (before ++ later)) → Allowed st c' (own before))
        → Allowed st c (cond (not t) (b ∷ own before) (own before))
    by true allowed deeper = deeper c allowed
    by false allowed deeper = (allowed.0, deeper (after st c b) allowed.1)

-- the client at a place of a story
abbrev pub client_at : Setting → List Event → Client
client_at st before = all_after st no_client (own before)

-- At each place of a story that an honest share tells, and up to which the client does what it may, the frames that the next bytes make
-- whole have no fault for what the client awaits there, and can be read.
pub fair_at : (st : Setting) (made : Making) (before : List Event) (bytes : List ℕ) (later : List Event) → IsHonest made.room made.fold (before ++ event.Got bytes ∷ later)
    → Allowed st no_client (own before) → AreFaultless (frames_in ((client_at st before).view.held ++ bytes)) (client_at st before).view
fair_at st made before bytes later honest mine =
    let run : Run = record { options = st.options; seed = st.seed; status = 0 } in
    let story : List Event = before ++ event.Got bytes ∷ later in
    let s : Share = start made.room made.fold story in
    let h = honest_at before s (event.Got bytes) later honest in
    let ready : IsReady (client_at st before) = ready_along st (own before) no_client mine ready_first in
    let k = kept run st before 1 s (plain_side made story) no_client (record { options = refl; seed = refl }) (related_first made story) h.0 mine in
    never_foul (share_after s before) (side_at run s (plain_side made story) before) (client_at st before).view bytes k.related (fit ready) h.1
  where
    below : (a b c : ℕ) → a ≤ b → b ≤ c → a ≤ c
    below a b c ab bc = omega (arith, ab, bc)

    fit : {c : Client} → IsReady c → IsFit c.view
    fit {c} ready = record { next = below c.view.next c.tally.granted no_request ready.used ready.granted; whole = ready.whole }

-- so at each place of a story whose client does what it may
pub fair : (st : Setting) (made : Making) (before : List Event) (bytes : List ℕ) (later : List Event) → IsHonest made.room made.fold (before ++ event.Got bytes ∷ later)
    → Allowed st no_client (own (before ++ event.Got bytes ∷ later)) → AreFaultless (frames_in ((client_at st before).view.held ++ bytes)) (client_at st before).view
fair st made before bytes later honest allowed = fair_at st made before bytes later honest (allowed_before st before (event.Got bytes ∷ later) no_client allowed)
