-- Events at a link, one call after another.
use Rattle.std.proofs.Common.{◌≡◌, ℕ, Bool, true, false, if◌then◌else◌, not, List, [], ◌∷◌, ◌++◌, Option, Some, None, Result, Ok, Err, refl, ap, sym, ◌∙◌, append_assoc}
use Rattle.std.proofs.lemmas.List.{append-nil}
use Rattle.std.proofs.lemmas.List.Elements.{filter-append}
use Rattle.std.specs.List.{list_all}
use Rattle.smb_base.specs.declared.names.NoMemory.{NoMemory}
use Rattle.smb_link.specs.Came.{Seen, Came, own, counted_all, is_refusal, is_cut, is_silence}
use Rattle.smb_link.specs.Count.{counted}
use Rattle.smb_link.specs.Story.{story_with, is_of_share, Gains, GainsByConnect, is_failed, connect_cuts, join_events, ended_events, connect_events, mark_events, send_events, receive_events, is_closed, is_quiet}
use Rattle.smb_link.specs.declared.event.Event.{Event}
use Rattle.smb_link.specs.declared.event.Event.TheVariants as event
use Rattle.smb_link.specs.declared.mark.Mark.{Mark}
use Rattle.smb_link.specs.declared.faults.LinkFail.{LinkFail}
use Rattle.smb_link.specs.declared.faults.LinkFail.TheVariants as fail
use Rattle.smb_link.specs.declared.faults.Got as answer
use Rattle.smb_link.specs.declared.faults.Got.TheVariants as got

pub story_with-nothing : (story : Option (List Event)) → story_with story [] ≡ story
story_with-nothing None = refl
story_with-nothing (Some so_far) = ap Some (append-nil so_far)

pub story_with-twice : (story : Option (List Event)) (xs ys : List Event) → story_with (story_with story xs) ys ≡ story_with story (xs ++ ys)
story_with-twice None xs ys = refl
story_with-twice (Some so_far) xs ys = ap Some (append_assoc so_far xs ys)

pub counted_all-append : (n : ℕ) (such : Event → Bool) (xs ys : List Event) → counted_all (counted_all n such xs) such ys ≡ counted_all n such (xs ++ ys)
counted_all-append n such [] ys = refl
counted_all-append n such (x ∷ xs) ys = counted_all-append (counted n (such x)) such xs ys

-- the client's own events of two lists, one behind the other
pub own-append : (xs ys : List Event) → own (xs ++ ys) ≡ own xs ++ own ys
own-append xs ys = filter-append (λ e. not (is_of_share e)) xs ys

-- the share's events are none of the client's
pub own-share : (share : List Event) → list_all is_of_share share ≡ true → own share ≡ []
own-share [] all = refl
own-share (event.Marked mark ∷ events) all = absurd (cc)
own-share (event.Sent frame ∷ events) all = absurd (cc)
own-share (event.Got bytes ∷ events) all = absurd (cc)
own-share (event.Quiet ∷ events) all = absurd (cc)
own-share (event.Joined ∷ events) all = absurd (cc)
own-share (event.NotJoined ∷ events) all = absurd (cc)
own-share (event.Cut ∷ events) all = absurd (cc)
own-share (event.Took mid ∷ events) all = own-share events all
own-share (event.Pend mid ∷ events) all = own-share events all
own-share (event.Act who request reply ∷ events) all = own-share events all
own-share (event.Break key state ∷ events) all = own-share events all
own-share (event.Dropped key ∷ events) all = own-share events all

-- the share's events, and then the client's: these are the client's own
pub own-behind : (share mine : List Event) → list_all is_of_share share ≡ true → own mine ≡ mine → own (share ++ mine) ≡ mine
own-behind share mine all is = own-append share mine ∙ ap (λ (s : List Event). s ++ own mine) (own-share share all) ∙ is

-- a link with no events of the share gains the client's alone
pub gains_alone : (mine : List Event) (old new : Option (List Event)) → new ≡ story_with old mine → Gains mine old new
gains_alone mine old new is = ([], refl, is)

pub gains_by_connect_alone : (stood stands : Bool) (result : Result (Unit {0}) LinkFail) (old new : Option (List Event)) → new ≡ story_with old (connect_events stood stands result)
    → GainsByConnect stood stands result old new
gains_by_connect_alone stood stands result old new is =
    let ended : List Event = ended_events stood stands result in
    (story_with old ended, gains_alone ended old (story_with old ended) refl, gains_alone (join_events result) (story_with old ended) new (is ∙ sym (story_with-twice old ended (join_events result))))

-- nothing came
pub came_none : (seen : Seen) → Came [] seen seen
came_none seen = record {
  gained = [];
  story = sym (story_with-nothing seen.story);
  clients = refl;
  connect_faults = refl;
  cuts = refl;
  quiets = refl;
}

-- these events came, and then those
pub came_then : (xs ys : List Event) (a b c : Seen) → Came xs a b → Came ys b c → Came (xs ++ ys) a c
came_then xs ys a b c first last = record {
  gained = first.gained ++ last.gained;
  story = last.story ∙ ap (λ (s : Option (List Event)). story_with s last.gained) first.story ∙ story_with-twice a.story first.gained last.gained;
  clients = own-append first.gained last.gained ∙ ap (λ (e : List Event). e ++ own last.gained) first.clients ∙ ap (λ (e : List Event). xs ++ e) last.clients;
  connect_faults = last.connect_faults ∙ ap (λ (n : ℕ). counted_all n is_refusal ys) first.connect_faults ∙ counted_all-append a.connect_faults is_refusal xs ys;
  cuts = last.cuts ∙ ap (λ (n : ℕ). counted_all n is_cut ys) first.cuts ∙ counted_all-append a.cuts is_cut xs ys;
  quiets = last.quiets ∙ ap (λ (n : ℕ). counted_all n is_silence ys) first.quiets ∙ counted_all-append a.quiets is_silence xs ys;
}

-- what a story gains and what the counts count of events of the client is that they came
pub came_gained : (mine : List Event) (old new : Seen) → own mine ≡ mine → Gains mine old.story new.story
    → new.connect_faults ≡ counted_all old.connect_faults is_refusal mine → new.cuts ≡ counted_all old.cuts is_cut mine → new.quiets ≡ counted_all old.quiets is_silence mine
    → Came mine old new
came_gained mine old new is gains faults cuts quiets = record {
  gained = gains.0 ++ mine;
  story = gains.2;
  clients = own-behind gains.0 mine gains.1 is;
  connect_faults = faults;
  cuts = cuts;
  quiets = quiets;
}

-- what a mark says of the link is that its events came
pub came_mark : (old new : Seen) (mark : Mark) (result : Result (Unit {0}) NoMemory) → Gains (mark_events mark result) old.story new.story
    → new.connect_faults ≡ old.connect_faults → new.cuts ≡ old.cuts → new.quiets ≡ old.quiets
    → Came (mark_events mark result) old new
came_mark old new mark (Ok x) gains faults cuts quiets = came_gained (event.Marked mark ∷ []) old new refl gains faults cuts quiets
came_mark old new mark (Err e) gains faults cuts quiets = came_gained [] old new refl gains faults cuts quiets

-- what a receive says of the link is that its events came
pub came_receive : (old new : Seen) (buffer : List ℕ) (result : answer.Got) → Gains (receive_events buffer result) old.story new.story
    → new.connect_faults ≡ old.connect_faults → new.cuts ≡ counted old.cuts (is_closed result) → new.quiets ≡ counted old.quiets (is_quiet result)
    → Came (receive_events buffer result) old new
came_receive old new buffer (got.Bytes n) gains faults cuts quiets = came_gained (receive_events buffer (got.Bytes n)) old new refl gains faults cuts quiets
came_receive old new buffer got.Quiet gains faults cuts quiets = came_gained (event.Quiet ∷ []) old new refl gains faults cuts quiets
came_receive old new buffer got.Closed gains faults cuts quiets = came_gained (event.Cut ∷ []) old new refl gains faults cuts quiets
came_receive old new buffer got.NoMemory gains faults cuts quiets = came_gained [] old new refl gains faults cuts quiets

-- what a send says of the link is that its events came
pub came_send : (old new : Seen) (frame : List ℕ) (result : Result (Unit {0}) LinkFail) → Gains (send_events frame result) old.story new.story
    → new.connect_faults ≡ old.connect_faults → new.cuts ≡ counted old.cuts (is_failed result) → new.quiets ≡ old.quiets
    → Came (send_events frame result) old new
came_send old new frame (Ok x) gains faults cuts quiets = came_gained (event.Sent frame ∷ []) old new refl gains faults cuts quiets
came_send old new frame (Err fail.Failed) gains faults cuts quiets = came_gained (event.Sent frame ∷ event.Cut ∷ []) old new refl gains faults cuts quiets
came_send old new frame (Err fail.NoMemory) gains faults cuts quiets = came_gained [] old new refl gains faults cuts quiets

-- the end of a connection came where there was one
came_ended : (cut : Bool) (old new : Seen) → Gains (if cut then event.Cut ∷ [] else []) old.story new.story
    → new.connect_faults ≡ old.connect_faults → new.cuts ≡ counted old.cuts cut → new.quiets ≡ old.quiets
    → Came (if cut then event.Cut ∷ [] else []) old new
came_ended true old new gains faults cuts quiets = came_gained (event.Cut ∷ []) old new refl gains faults cuts quiets
came_ended false old new gains faults cuts quiets = came_gained [] old new refl gains faults cuts quiets

came_joined : (old new : Seen) (result : Result (Unit {0}) LinkFail) → Gains (join_events result) old.story new.story
    → new.connect_faults ≡ counted old.connect_faults (is_failed result) → new.cuts ≡ old.cuts → new.quiets ≡ old.quiets
    → Came (join_events result) old new
came_joined old new (Ok x) gains faults cuts quiets = came_gained (event.Joined ∷ []) old new refl gains faults cuts quiets
came_joined old new (Err fail.Failed) gains faults cuts quiets = came_gained (event.NotJoined ∷ []) old new refl gains faults cuts quiets
came_joined old new (Err fail.NoMemory) gains faults cuts quiets = came_gained [] old new refl gains faults cuts quiets

-- what a connect says of the link is that its events came
pub came_connect : (old new : Seen) (stood stands : Bool) (result : Result (Unit {0}) LinkFail) → GainsByConnect stood stands result old.story new.story
    → new.connect_faults ≡ counted old.connect_faults (is_failed result) → new.cuts ≡ counted old.cuts (connect_cuts stood stands result) → new.quiets ≡ old.quiets
    → Came (connect_events stood stands result) old new
came_connect old new stood stands result gains faults cuts quiets =
    let between : Seen = record {
      story = gains.0;
      connect_faults = old.connect_faults;
      cuts = counted old.cuts (connect_cuts stood stands result);
      quiets = old.quiets;
    } in
    came_then (ended_events stood stands result) (join_events result) old between new
    (came_ended (connect_cuts stood stands result) old between gains.1 refl refl refl)
    (came_joined between new result gains.2 faults cuts quiets)
