-- A ping that was sent.
use Rattle.std.proofs.Common.{◌≡◌, ◌⊎◌, inl, inr, ℕ, Bool, List, [], ◌∷◌, ◌++◌, refl, ap, ◌∙◌, append_assoc, arith}
use Rattle.smb_link.specs.declared.event.Event.{Event}
use Rattle.smb_link.specs.declared.event.Event.TheVariants.{Sent, Joined, Cut}
use Rattle.fs_top.specs.declared.ping.ending.Ending.{Ending}
use Rattle.fs_top.specs.declared.ping.ending.Ending.TheVariants as ending
use Rattle.smb_link.specs.Came.{Seen, Came}
use Rattle.fs_top.specs.Ping.Request.{ping_frame}
use Rattle.fs_top.specs.Connects.{opening}
use Rattle.fs_top.specs.Ping.Run.{PingEnds}
use Rattle.fs_top.specs.Ping.Tale.{WaitEnds, HeardBy, Heard}
use Rattle.fs_top.specs.Ping.Verdict.{EndsWait}
use Rattle.smb_link.proofs.CameLaws.{came_then}
use Rattle.fs_top.proofs.Pings.Partial.{first_of-nothing}

joined : (start : List Event) (frame : List ℕ) (waited : List Event) → (start ++ Joined ∷ []) ++ ((Sent frame ∷ []) ++ waited) ≡ start ++ Joined ∷ Sent frame ∷ waited
joined start frame waited = append_assoc start (Joined ∷ []) ((Sent frame ∷ []) ++ waited)

-- the ending of the wait is that of the ping
waited_ends : (stood : Bool) (seed : List ℕ) (waited events : List Event) (e : Ending) → events ≡ opening stood ++ Joined ∷ Sent (ping_frame seed) ∷ waited
    → EndsWait e → HeardBy waited e → (e ≡ ending.Memory) ⊎ PingEnds stood seed events e
waited_ends stood seed waited events (ending.Greeted greeting) is kind w = inr (waited, is, w)
waited_ends stood seed waited events ending.Words is kind w = absurd kind
waited_ends stood seed waited events ending.Memory is kind w = inl refl
waited_ends stood seed waited events (ending.Dialect dialect) is kind w = inr (waited, is, w)
waited_ends stood seed waited events (ending.Frame k) is kind w = inr (waited, is, w)
waited_ends stood seed waited events ending.Connects is kind w = absurd kind
waited_ends stood seed waited events ending.Cuts is kind w = inr (waited, is, w)

-- a connection is made, the request is sent, and the first frame is waited for
pub asked_heard : (stood : Bool) (seed frame : List ℕ) (a b c d : Seen) (e : Ending) → frame ≡ ping_frame seed → Came (opening stood ++ Joined ∷ []) a b → Came (Sent frame ∷ []) b c
    → Heard c d e → EndsWait e → (events : List Event) × Came events a d × ((e ≡ ending.Memory) ⊎ PingEnds stood seed events e)
asked_heard stood seed frame a b c d e is join send heard kind =
    let waited : List Event = heard.0 in
    let events : List Event = (opening stood ++ Joined ∷ []) ++ ((Sent frame ∷ []) ++ waited) in (
      events,
      came_then (opening stood ++ Joined ∷ []) ((Sent frame ∷ []) ++ waited) a b d join (came_then (Sent frame ∷ []) waited b c d send heard.1),
      waited_ends stood seed waited events e (joined (opening stood) frame waited ∙ ap (λ (f : List ℕ). opening stood ++ Joined ∷ Sent f ∷ waited) is) kind heard.2,
    )

-- the connection ends at the send
pub asked_cut : (stood : Bool) (seed frame : List ℕ) (a b c : Seen) → frame ≡ ping_frame seed → Came (opening stood ++ Joined ∷ []) a b → Came (Sent frame ∷ Cut ∷ []) b c
    → (events : List Event) × Came events a c × ((ending.Cuts ≡ ending.Memory) ⊎ PingEnds stood seed events ending.Cuts)
asked_cut stood seed frame a b c is join send =
    let waits : WaitEnds (Cut ∷ []) ending.Cuts = record {
      heard = [];
      last = Cut;
      events_are = refl;
      went_on = record { listens = omega arith; undecided = first_of-nothing };
      ends = refl;
    } in (
      (opening stood ++ Joined ∷ []) ++ (Sent frame ∷ Cut ∷ []),
      came_then (opening stood ++ Joined ∷ []) (Sent frame ∷ Cut ∷ []) a b c join send,
      inr (Cut ∷ [], joined (opening stood) frame (Cut ∷ []) ∙ ap (λ (f : List ℕ). opening stood ++ Joined ∷ Sent f ∷ Cut ∷ []) is, waits),
    )
