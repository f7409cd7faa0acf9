-- The wait for the first frame, event by event.
use Rattle.std.proofs.Common.{◌≡◌, ◌<◌, ℕ, ◌+◌, List, [], ◌∷◌, ◌++◌, refl, ap, sym, ◌∙◌, subst, arith}
use Rattle.std.proofs.lemmas.List.{append-nil, append_assoc}
use Rattle.smb_link.specs.declared.event.Event.{Event}
use Rattle.smb_link.specs.declared.event.Event.TheVariants.{Got, Quiet, Cut}
use Rattle.smb_head.specs.Stream.{Partial, first_of}
use Rattle.fs_top.specs.declared.ping.ending.Ending.{Ending}
use Rattle.fs_top.specs.declared.ping.ending.Ending.TheVariants as ending
use Rattle.smb_link.specs.Came.{Seen, Came}
use Rattle.fs_top.specs.Ping.Tale.{bytes_got, quiets_at_end, Listens, GoesOn, FirstEnds, LastEnds, WaitEnds, HeardBy, Heard}
use Rattle.smb_link.proofs.CameLaws.{came_none, came_then}

-- a call waits: these events came since the start and decide nothing, the bytes of them are held, and so many waits in vain stand at their end
pub record Waiting (old new : Seen) (held : List ℕ) (quiets : ℕ) : Type 0 where
  pub heard : List Event
  pub came : Came heard old new
  pub went_on : GoesOn heard
  pub held_is : held ≡ bytes_got heard
  pub quiets_are : quiets ≡ quiets_at_end 0 heard

bytes_got-append : (xs ys : List Event) → bytes_got (xs ++ ys) ≡ bytes_got xs ++ bytes_got ys
bytes_got-append [] ys = refl
bytes_got-append (Got bytes ∷ xs) ys = ap (λ (b : List ℕ). bytes ++ b) (bytes_got-append xs ys) ∙ sym (append_assoc bytes (bytes_got xs) (bytes_got ys))
bytes_got-append (e ∷ xs) ys = bytes_got-append xs ys

quiets_at_end-got : (n : ℕ) (events : List Event) (bytes : List ℕ) → quiets_at_end n (events ++ Got bytes ∷ []) ≡ 0
quiets_at_end-got n [] bytes = refl
quiets_at_end-got n (Got b ∷ events) bytes = quiets_at_end-got 0 events bytes
quiets_at_end-got n (Quiet ∷ events) bytes = quiets_at_end-got (n + 1) events bytes
quiets_at_end-got n (e ∷ events) bytes = quiets_at_end-got n events bytes

quiets_at_end-silence : (n : ℕ) (events : List Event) → quiets_at_end n (events ++ Quiet ∷ []) ≡ quiets_at_end n events + 1
quiets_at_end-silence n [] = refl
quiets_at_end-silence n (Got b ∷ events) = quiets_at_end-silence 0 events
quiets_at_end-silence n (Quiet ∷ events) = quiets_at_end-silence (n + 1) events
quiets_at_end-silence n (e ∷ events) = quiets_at_end-silence n events

bytes_got-push : (events : List Event) (bytes : List ℕ) → bytes_got (events ++ Got bytes ∷ []) ≡ bytes_got events ++ bytes
bytes_got-push events bytes = bytes_got-append events (Got bytes ∷ []) ∙ ap (λ (b : List ℕ). bytes_got events ++ b) (append-nil bytes)

bytes_got-silence : (events : List Event) → bytes_got (events ++ Quiet ∷ []) ≡ bytes_got events
bytes_got-silence events = bytes_got-append events (Quiet ∷ []) ∙ append-nil (bytes_got events)

listens_got : (n : ℕ) (events : List Event) (bytes : List ℕ) → Listens n events → Listens n (events ++ Got bytes ∷ [])
listens_got n [] bytes h = (h, omega arith)
listens_got n (Got b ∷ events) bytes h = (h.0, listens_got 0 events bytes h.1)
listens_got n (Quiet ∷ events) bytes h = (h.0, listens_got (n + 1) events bytes h.1)
listens_got n (event ∷ events) bytes h = absurd h

listens_silence : (n : ℕ) (events : List Event) → Listens n events → quiets_at_end n events + 1 < 300 → Listens n (events ++ Quiet ∷ [])
listens_silence n [] h few = (h, few)
listens_silence n (Got b ∷ events) h few = (h.0, listens_silence 0 events h.1 few)
listens_silence n (Quiet ∷ events) h few = (h.0, listens_silence (n + 1) events h.1 few)
listens_silence n (event ∷ events) h few = absurd h

-- fewer than 300 waits in vain stand at the end
quiets_few : (n : ℕ) (events : List Event) → Listens n events → quiets_at_end n events < 300
quiets_few n [] h = h
quiets_few n (Got b ∷ events) h = quiets_few 0 events h.1
quiets_few n (Quiet ∷ events) h = quiets_few (n + 1) events h.1
quiets_few n (event ∷ events) h = absurd h

pub waiting_few : (old new : Seen) (held : List ℕ) (quiets : ℕ) → Waiting old new held quiets → quiets < 300
waiting_few old new held quiets w = rw w.quiets_are (quiets_few 0 w.heard w.went_on.listens)

pub waiting_undecided : (old new : Seen) (held : List ℕ) (quiets : ℕ) → Waiting old new held quiets → first_of held ≡ Partial
waiting_undecided old new held quiets w = ap first_of w.held_is ∙ w.went_on.undecided

-- at the start nothing came
pub waiting_none : (seen : Seen) → first_of [] ≡ Partial → Waiting seen seen [] 0
waiting_none seen undecided = record {
  heard = [];
  came = came_none seen;
  went_on = record { listens = omega arith; undecided = undecided };
  held_is = refl;
  quiets_are = refl;
}

-- bytes come that decide nothing
pub waiting_got : (old mid new : Seen) (held : List ℕ) (quiets : ℕ) (bytes : List ℕ) → Waiting old mid held quiets → Came (Got bytes ∷ []) mid new
    → first_of (held ++ bytes) ≡ Partial → Waiting old new (held ++ bytes) 0
waiting_got old mid new held quiets bytes w came undecided =
    let all : held ++ bytes ≡ bytes_got (w.heard ++ Got bytes ∷ []) = ap (λ (b : List ℕ). b ++ bytes) w.held_is ∙ sym (bytes_got-push w.heard bytes) in
    record {
      heard = w.heard ++ Got bytes ∷ [];
      came = came_then w.heard (Got bytes ∷ []) old mid new w.came came;
      went_on = record { listens = listens_got 0 w.heard bytes w.went_on.listens; undecided = ap first_of (sym all) ∙ undecided };
      held_is = all;
      quiets_are = sym (quiets_at_end-got 0 w.heard bytes);
    }

-- nothing comes, but not for the 300th time
pub waiting_silence : (old mid new : Seen) (held : List ℕ) (quiets : ℕ) → Waiting old mid held quiets → Came (Quiet ∷ []) mid new → quiets + 1 < 300
    → Waiting old new held (quiets + 1)
waiting_silence old mid new held quiets w came few = record {
  heard = w.heard ++ Quiet ∷ [];
  came = came_then w.heard (Quiet ∷ []) old mid new w.came came;
  went_on = record {
    listens = listens_silence 0 w.heard w.went_on.listens (subst (λ (n : ℕ). n + 1 < 300) w.quiets_are few);
    undecided = ap first_of (bytes_got-silence w.heard) ∙ w.went_on.undecided;
  };
  held_is = w.held_is ∙ sym (bytes_got-silence w.heard);
  quiets_are = ap (λ (n : ℕ). n + 1) w.quiets_are ∙ sym (quiets_at_end-silence 0 w.heard);
}

heard_by : (events : List Event) (e : Ending) → WaitEnds events e → HeardBy events e
heard_by events (ending.Greeted greeting) w = w
heard_by events ending.Words w = w
heard_by events ending.Memory w = tt
heard_by events (ending.Dialect dialect) w = w
heard_by events (ending.Frame kind) w = w
heard_by events ending.Connects w = w
heard_by events ending.Cuts w = w

-- the event that ends the wait
pub heard_last : (old mid new : Seen) (held : List ℕ) (quiets : ℕ) (last : Event) (e : Ending) → (w : Waiting old mid held quiets) → Came (last ∷ []) mid new
    → LastEnds w.heard last e → Heard old new e
heard_last old mid new held quiets last e w came ends = (
  w.heard ++ last ∷ [],
  came_then w.heard (last ∷ []) old mid new w.came came,
  heard_by (w.heard ++ last ∷ []) e (record { heard = w.heard; last = last; events_are = refl; went_on = w.went_on; ends = ends }),
)

pub heard_got : (old mid new : Seen) (held : List ℕ) (quiets : ℕ) (bytes : List ℕ) (e : Ending) → Waiting old mid held quiets → Came (Got bytes ∷ []) mid new
    → FirstEnds (first_of (held ++ bytes)) e → Heard old new e
heard_got old mid new held quiets bytes e w came ends =
    heard_last old mid new held quiets (Got bytes) e w came (subst (λ (b : List ℕ). FirstEnds (first_of (b ++ bytes)) e) w.held_is ends)

pub heard_silence : (old mid new : Seen) (held : List ℕ) (quiets : ℕ) → Waiting old mid held quiets → Came (Quiet ∷ []) mid new → quiets + 1 ≡ 300 → Heard old new ending.Cuts
heard_silence old mid new held quiets w came all =
    let last : quiets_at_end 0 w.heard ≡ 299 = omega (arith, w.quiets_are) in
    heard_last old mid new held quiets Quiet ending.Cuts w came (last, refl)

pub heard_cut : (old mid new : Seen) (held : List ℕ) (quiets : ℕ) → Waiting old mid held quiets → Came (Cut ∷ []) mid new → Heard old new ending.Cuts
heard_cut old mid new held quiets w came = heard_last old mid new held quiets Cut ending.Cuts w came refl

-- want of memory breaks the wait off
pub heard_memory : (old mid new : Seen) (held : List ℕ) (quiets : ℕ) (events : List Event) → Waiting old mid held quiets → Came events mid new → Heard old new ending.Memory
heard_memory old mid new held quiets events w came = (w.heard ++ events, came_then w.heard events old mid new w.came came, tt)
