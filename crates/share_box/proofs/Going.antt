-- A box that goes on, and then goes on further.
use Rattle.std.proofs.Common.{◌≡◌, ◌∙◌, ℕ, Bool, true, false, List, [], ◌∷◌, ◌++◌, Some, Result, Ok, Err, OnOk, OnErr, refl, sym, ap, append_assoc, rules}
use Rattle.std.specs.Prelude.{◌&&◌, if◌then◌else◌}
use Rattle.std.specs.List.{list_all}
use Rattle.smb_base.specs.declared.names.Mid.{Mid}
use Rattle.smb_link.specs.declared.event.Event.{Event}
use Rattle.smb_link.specs.declared.event.Event.TheVariants as event
use Rattle.smb_link.specs.Count.{counted}
use Rattle.smb_link.specs.Story.{is_of_share}
use Rattle.share_box.specs.declared.state.State.{State}
use Rattle.share_box.specs.Turns.{delayed_by}
use Rattle.share_box.specs.Calls.{Goes, GoesOn, Tells}

all_one : (b some more : Bool) → (b && some) ≡ true → (some ≡ true → more ≡ true) → (b && more) ≡ true
all_one true some more h go = go h
all_one false some more h go = h

all_both : (xs ys : List Event) → list_all is_of_share xs ≡ true → list_all is_of_share ys ≡ true → list_all is_of_share (xs ++ ys) ≡ true
all_both [] ys hx hy = hy
all_both (x ∷ xs) ys hx hy = all_one (is_of_share x) (list_all is_of_share xs) (list_all is_of_share (xs ++ ys)) hx (λ h. all_both xs ys h hy)

pub nothing_more : (xs : List Event) → xs ++ [] ≡ xs
nothing_more xs = search rules

-- these events of the share were told
pub goes_told : (old new : State) (events : List Event) → list_all is_of_share events ≡ true → new.story ≡ old.story ++ events
    → new.share.connected ≡ old.share.connected → new.dead ≡ old.dead → new.connect_faults ≡ old.connect_faults → new.cuts ≡ old.cuts
    → new.quiets ≡ old.quiets → GoesOn old new
goes_told old new events theirs story connected dead faults cuts quiets = record {
  share = events;
  theirs = theirs;
  story = rw (nothing_more events) story;
  connected = connected;
  dead = dead;
  connect_faults = faults;
  cuts = cuts;
  quiets = quiets;
}

pub goes_same : (old new : State) → new ≡ old → GoesOn old new
goes_same old new same = rw same (goes_told old old [] refl (sym (nothing_more old.story)) refl refl refl refl refl)

if_same : (closed : Bool) (a b c : Bool) → a ≡ (if closed then false else b) → b ≡ c → a ≡ (if closed then false else c)
if_same closed a b c h same = rw (← same) h

pub goes_further : (own : List Event) (closed quiet : Bool) (old mid new : State) → GoesOn old mid → Goes own closed quiet mid new → Goes own closed quiet old new
goes_further own closed quiet old mid new first later = record {
  share = first.share ++ later.share;
  theirs = all_both first.share later.share first.theirs later.theirs;
  story = later.story ∙ ap (λ (l : List Event). l ++ (later.share ++ own)) (first.story ∙ ap (λ (l : List Event). old.story ++ l) (nothing_more first.share))
      ∙ append_assoc old.story first.share (later.share ++ own) ∙ ap (λ (l : List Event). old.story ++ l) (sym (append_assoc first.share later.share own));
  connected = if_same closed new.share.connected mid.share.connected old.share.connected later.connected first.connected;
  dead = later.dead ∙ first.dead;
  connect_faults = later.connect_faults ∙ first.connect_faults;
  cuts = later.cuts ∙ ap (λ (n : ℕ). counted n closed) first.cuts;
  quiets = later.quiets ∙ ap (λ (n : ℕ). counted n quiet) first.quiets;
}

-- a call tells these events or none
pub tells_by : {A E : Type 0} (result : Result A E) (old new events : List Event) → list_all is_of_share events ≡ true → OnOk result (new ≡ old ++ events)
    → OnErr result (new ≡ old) → Tells old new
tells_by (Ok done) old new events theirs ok err = record { share = events; theirs = theirs; story = ok }
tells_by (Err e) old new events theirs ok err = record { share = []; theirs = refl; story = err ∙ sym (nothing_more old) }

pub tells_none : (old new : List Event) → new ≡ old → Tells old new
tells_none old new same = record { share = []; theirs = refl; story = same ∙ sym (nothing_more old) }

-- a box goes on by what is told where all else that a client sees stays
pub goes_by : (old new : State) → Tells old.story new.story → new.share.connected ≡ old.share.connected → new.dead ≡ old.dead
    → new.connect_faults ≡ old.connect_faults → new.cuts ≡ old.cuts → new.quiets ≡ old.quiets → GoesOn old new
goes_by old new told connected dead faults cuts quiets = goes_told old new told.share told.theirs told.story connected dead faults cuts quiets

-- a request is put off, or memory runs out before that is told
pub delay_goes : {A E : Type 0} (result : Result A E) (old new : State) (mid : Mid) (frame : List ℕ)
    → OnOk result (new ≡ delayed_by (Some frame) mid old) → OnErr result (new ≡ record old { waiting = new.waiting }) → GoesOn old new
delay_goes (Ok x) old new mid frame ok err =
    rw ok (goes_told old (delayed_by (Some frame) mid old) (event.Pend mid ∷ []) refl refl refl refl refl refl refl)
delay_goes (Err e) old new mid frame ok err =
    goes_told old new [] refl (ap (λ (b : State). b.story) err ∙ sym (nothing_more old.story)) (ap (λ (b : State). b.share.connected) err)
    (ap (λ (b : State). b.dead) err) (ap (λ (b : State). b.connect_faults) err) (ap (λ (b : State). b.cuts) err) (ap (λ (b : State). b.quiets) err)
