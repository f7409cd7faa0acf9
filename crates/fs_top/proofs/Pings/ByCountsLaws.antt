-- The counts of a link after the events of a run.
use Rattle.std.proofs.Common.{◌≡◌, ◌≢◌, ◌≤◌, ◌⊎◌, ◌==◌, ◌&&◌, inl, inr, ℕ, ◌+◌, ◌-◌, ◌^◌, Bool, true, false, if◌then◌else◌, MatchBool, List, [], ◌∷◌, ◌++◌, Option, Some, None, Result, Ok, Err, min, refl, ap, sym, ◌∙◌, arith}
use Rattle.smb_link.specs.Count.{counted, Rose}
use Rattle.smb_link.specs.declared.event.Event.{Event}
use Rattle.smb_link.specs.declared.event.Event.TheVariants.{Sent, Got, Quiet, Joined, NotJoined, Cut}
use Rattle.smb_head.specs.declared.command.TheConstants.{NEGOTIATE}
use Rattle.smb_head.specs.declared.head.Head.{Head}
use Rattle.smb_head.specs.declared.head.HeadFault.{HeadFault}
use Rattle.smb_head.specs.Header.{head_of}
use Rattle.smb_head.specs.Stream.{First, Partial, Whole, first_of}
use Rattle.smb_head.specs.Stream as stream
use Rattle.smb_chain.specs.Parts.{Step, Only, Then, step_of}
use Rattle.smb_chain.specs.Parts as parts
use Rattle.fs_top.specs.declared.ping.ending.Greeting.{Greeting}
use Rattle.fs_top.specs.declared.ping.ending.FirstFrameFault.{FirstFrameFault}
use Rattle.fs_top.specs.declared.ping.ending.FirstFrameFault.TheVariants as kind
use Rattle.fs_top.specs.declared.ping.ending.Ending.{Ending}
use Rattle.fs_top.specs.declared.ping.ending.Ending.TheVariants as ending
use Rattle.smb_link.specs.Came.{Seen, Came, counted_all, is_refusal, is_cut, is_silence}
use Rattle.fs_top.specs.Ping.Counts.{IsLost, ByCounts}
use Rattle.fs_top.specs.Ping.Endings.{status_of}
use Rattle.fs_top.specs.Printing.{Held}
use Rattle.fs_top.specs.Ping.Request.{ping_frame}
use Rattle.fs_top.specs.Connects.{opening}
use Rattle.fs_top.specs.Ping.Run.{Printed, Ran}
use Rattle.fs_top.specs.Ping.Tale.{bytes_got, quiets_at_end, Listens, FirstEnds, LastEnds, WaitEnds}
use Rattle.fs_top.specs.Ping.Verdict.{is_reply, greeting_of, answer_of, unless_more, GreetingEnds, RefusalEnds, ReplyEnds, PartEnds}
use Rattle.fs_top.proofs.Pings.Once.{Cause, by_words, by_refusal, by_wait, cause_of}
use Rattle.smb_link.proofs.CameLaws.{counted_all-append}

cuts_opening : (stood : Bool) (n : ℕ) (events : List Event) → counted_all n is_cut (opening stood ++ events) ≡ counted_all (counted n stood) is_cut events
cuts_opening true n events = refl
cuts_opening false n events = refl

refusals_opening : (stood : Bool) (n : ℕ) (events : List Event) → counted_all n is_refusal (opening stood ++ events) ≡ counted_all n is_refusal events
refusals_opening true n events = refl
refusals_opening false n events = refl

silences_opening : (stood : Bool) (n : ℕ) (events : List Event) → counted_all n is_silence (opening stood ++ events) ≡ counted_all n is_silence events
silences_opening true n events = refl
silences_opening false n events = refl

-- in a wait that goes on nothing is cut, and nothing refused
cuts_heard : (k n : ℕ) (events : List Event) → Listens k events → counted_all n is_cut events ≡ n
cuts_heard k n [] h = refl
cuts_heard k n (Got bytes ∷ events) h = cuts_heard 0 n events h.1
cuts_heard k n (Quiet ∷ events) h = cuts_heard (k + 1) n events h.1
cuts_heard k n (event ∷ events) h = absurd h

refusals_heard : (k n : ℕ) (events : List Event) → Listens k events → counted_all n is_refusal events ≡ n
refusals_heard k n [] h = refl
refusals_heard k n (Got bytes ∷ events) h = refusals_heard 0 n events h.1
refusals_heard k n (Quiet ∷ events) h = refusals_heard (k + 1) n events h.1
refusals_heard k n (event ∷ events) h = absurd h

-- one wait more before them makes at most one more at their end
quiets_step : (k : ℕ) (events : List Event) → quiets_at_end (k + 1) events ≤ quiets_at_end k events + 1
quiets_step k [] = omega arith
quiets_step k (Got bytes ∷ events) = omega arith
quiets_step k (Quiet ∷ events) = quiets_step (k + 1) events
quiets_step k (event ∷ events) = quiets_step k events

-- the waits in vain at the end are counted
silences_count : (k n : ℕ) (events : List Event) → min (n + quiets_at_end k events) (2 ^ 64 - 1) ≤ min (counted_all n is_silence events + k) (2 ^ 64 - 1)
silences_count k n [] = omega arith
silences_count k n (Got bytes ∷ events) = omega (arith, silences_count 0 n events)
silences_count k n (Quiet ∷ events) = omega (arith, silences_count k (min (n + 1) (2 ^ 64 - 1)) events, quiets_step k events)
silences_count k n (event ∷ events) = silences_count k n events

-- the counts after a ping that was asked: what the last event adds
record AskedCounts (stood : Bool) (link link' : Seen) (heard : List Event) (last : Event) : Type 0 where
  faults : link'.connect_faults ≡ counted link.connect_faults (is_refusal last)
  cuts : link'.cuts ≡ counted (counted link.cuts stood) (is_cut last)
  quiets : link'.quiets ≡ counted (counted_all link.quiets is_silence heard) (is_silence last)

asked_counts : (stood : Bool) (seed : List ℕ) (link link' : Seen) (events heard : List Event) (last : Event) → Came events link link'
    → events ≡ opening stood ++ Joined ∷ Sent (ping_frame seed) ∷ (heard ++ last ∷ []) → Listens 0 heard → AskedCounts stood link link' heard last
asked_counts stood seed link link' events heard last came is listens =
    let tail : List Event = Joined ∷ Sent (ping_frame seed) ∷ (heard ++ last ∷ []) in
    record {
      faults = came.connect_faults ∙ ap (counted_all link.connect_faults is_refusal) is ∙ refusals_opening stood link.connect_faults tail
          ∙ sym (counted_all-append link.connect_faults is_refusal heard (last ∷ []))
          ∙ ap (λ (n : ℕ). counted_all n is_refusal (last ∷ [])) (refusals_heard 0 link.connect_faults heard listens);
      cuts = came.cuts ∙ ap (counted_all link.cuts is_cut) is ∙ cuts_opening stood link.cuts tail
          ∙ sym (counted_all-append (counted link.cuts stood) is_cut heard (last ∷ []))
          ∙ ap (λ (n : ℕ). counted_all n is_cut (last ∷ [])) (cuts_heard 0 (counted link.cuts stood) heard listens);
      quiets = came.quiets ∙ ap (counted_all link.quiets is_silence) is ∙ silences_opening stood link.quiets tail
          ∙ sym (counted_all-append link.quiets is_silence heard (last ∷ []));
    }

-- what the counts say of a run with this status, whatever was printed
abbrev Lost : Bool → Seen → Seen → Type 0
Lost stood link link' =
    Rose link.connect_faults link'.connect_faults
    ⊎ Rose (counted link.cuts stood) link'.cuts
    ⊎ (min (link.quiets + 300) (2 ^ 64 - 1) ≤ link'.quiets)

-- one of two facts holds, by a test
of_either : (b : Bool) (P Q R : Type 0) → (P → R) → (Q → R) → MatchBool b P Q → R
of_either true P Q R p q x = p x
of_either false P Q R p q x = q x

unless_more-kept : (rest : Option (List ℕ)) (e : Ending) → status_of e ≢ 6 → status_of (unless_more rest e) ≢ 6
unless_more-kept None e h = h
unless_more-kept (Some more) e h = λ is. omega arith

answered : (b : Bool) (greeting : Greeting) (dialect : ℕ) → status_of (if b then ending.Greeted greeting else ending.Dialect dialect) ≢ 6
answered true greeting dialect = λ is. omega arith
answered false greeting dialect = λ is. omega arith

-- what the first frame says is no lost connection
greeting_kept : (part : List ℕ) (rest : Option (List ℕ)) (e : Ending) → GreetingEnds part rest e → status_of e ≢ 6
greeting_kept part rest e (inl x) = rw x.2 (unless_more-kept rest (answer_of x.0) (answered (x.0.dialect == 0x0210) (greeting_of x.0) x.0.dialect))
greeting_kept part rest e (inr none) = rw none.1 (λ is. omega arith)

refusal_kept : (part : List ℕ) (rest : Option (List ℕ)) (e : Ending) → RefusalEnds part rest e → status_of e ≢ 6
refusal_kept part rest e (inl x) = rw x.2 (unless_more-kept rest (ending.Dialect 0) (λ is. omega arith))
refusal_kept part rest e (inr none) = rw none.1 (λ is. omega arith)

frame_kept : (k : FirstFrameFault) (e : Ending) → e ≡ ending.Frame k → status_of e ≢ 6
frame_kept k e is = rw is (λ six. omega arith)

reply_kept : (head : Head) (part : List ℕ) (rest : Option (List ℕ)) (e : Ending) → ReplyEnds head part rest e → status_of e ≢ 6
reply_kept head part rest e =
    of_either (head.mid.0 == 0)
    (MatchBool (head.command == NEGOTIATE && is_reply head) (MatchBool (head.status.0 == 0) (GreetingEnds part rest e) (RefusalEnds part rest e)) (e ≡ ending.Frame kind.Body))
    (e ≡ ending.Frame kind.Stranger) (status_of e ≢ 6)
    (of_either (head.command == NEGOTIATE && is_reply head) (MatchBool (head.status.0 == 0) (GreetingEnds part rest e) (RefusalEnds part rest e)) (e ≡ ending.Frame kind.Body) (status_of e ≢ 6)
    (of_either (head.status.0 == 0) (GreetingEnds part rest e) (RefusalEnds part rest e) (status_of e ≢ 6) (greeting_kept part rest e) (refusal_kept part rest e))
    (frame_kept kind.Body e))
    (frame_kept kind.Stranger e)

part_kept : (head : Result Head HeadFault) (step : Step) (e : Ending) → PartEnds head step e → status_of e ≢ 6
part_kept (Err fault) step e x = frame_kept kind.Head e x
part_kept (Ok head) parts.Bad e x = frame_kept kind.Chain e x
part_kept (Ok head) (Only part) e x = reply_kept head part None e x
part_kept (Ok head) (Then part rest) e x = reply_kept head part (Some rest) e x

first_kept : (first : First) (e : Ending) → FirstEnds first e → status_of e ≢ 6
first_kept Partial e x = absurd x
first_kept (stream.Bad fault) e x = frame_kept kind.Length e x
first_kept (Whole message rest) e x = part_kept (head_of message) (step_of message) e x

-- how the wait ended: the connection is lost, or bytes decided and it stands
data Waited (stood : Bool) (link link' : Seen) (e : Ending) : Type 0 where
  lost : e ≡ ending.Cuts → Lost stood link link' → Waited stood link link' e
  decided : status_of e ≢ 6 → link'.cuts ≡ counted link.cuts stood → Waited stood link link' e

waited_last : (stood : Bool) (link link' : Seen) (heard : List Event) (last : Event) (e : Ending) → AskedCounts stood link link' heard last → LastEnds heard last e
    → (link'.connect_faults ≡ link.connect_faults) × Waited stood link link' e
waited_last stood link link' heard (Got bytes) e counts ends = (counts.faults, decided (first_kept (first_of (bytes_got heard ++ bytes)) e ends) counts.cuts)
waited_last stood link link' heard Quiet e counts ends =
    let many = silences_count 0 link.quiets heard in
    (counts.faults, lost ends.1 (inr (inr (omega (arith, counts.quiets, ends.0, many)))))
waited_last stood link link' heard Cut e counts ends = (counts.faults, lost ends (inr (inl (omega (arith, counts.cuts)))))
waited_last stood link link' heard event e counts ends = absurd ends

-- the status of a lost connection, or of the line that was refused
printed_lost : (e : Ending) (sink sink' : Held) (status : ℕ) → status_of e ≡ 6 ⊎ status_of e ≡ 3 → Printed e sink sink' status → IsLost status
printed_lost e sink sink' status (inl six) (inl p) = inl (p.0 ∙ six)
printed_lost e sink sink' status (inr three) (inl p) = inr (inl (p.0 ∙ three))
printed_lost e sink sink' status which (inr p) = inr (inr p.0)

printed_six : (e : Ending) (sink sink' : Held) (status : ℕ) → Printed e sink sink' status → status ≡ 6 → status_of e ≡ 6
printed_six e sink sink' status (inl p) six = sym p.0 ∙ six
printed_six e sink sink' status (inr p) six = absurd (omega (arith, p.0, six))

waited_counts : (stood : Bool) (link link' : Seen) (e : Ending) (sink sink' : Held) (status : ℕ) → link'.connect_faults ≡ link.connect_faults → Waited stood link link' e
    → Printed e sink sink' status → ByCounts stood link link' status
waited_counts stood link link' e sink sink' status faults (lost is how) printed = record {
  lost_only = λ six. how;
  refused = λ other. absurd (other faults);
  cut = λ more other. printed_lost e sink sink' status (inl (ap status_of is)) printed;
}
waited_counts stood link link' e sink sink' status faults (decided kept cuts) printed = record {
  lost_only = λ six. absurd (kept (printed_six e sink sink' status printed six));
  refused = λ other. absurd (other faults);
  cut = λ more other. absurd (other cuts);
}

caused_counts : (words : List (List ℕ)) (stood : Bool) (seed : List ℕ) (link link' : Seen) (events : List Event) (e : Ending) (sink sink' : Held) (status : ℕ) → Came events link link'
    → Cause words stood seed events e → Printed e sink sink' status → ByCounts stood link link' status
caused_counts words stood seed link link' events e sink sink' status came (by_words is never nothing) printed =
    let faults : link'.connect_faults ≡ link.connect_faults = came.connect_faults ∙ ap (counted_all link.connect_faults is_refusal) nothing in
    let cuts : link'.cuts ≡ link.cuts = came.cuts ∙ ap (counted_all link.cuts is_cut) nothing in
    record {
      lost_only = λ six. absurd (omega (arith, ap status_of is, printed_six e sink sink' status printed six));
      refused = λ other. absurd (other faults);
      cut = λ more other. absurd (omega (arith, cuts, more));
    }
caused_counts words stood seed link link' events e sink sink' status came (by_refusal is are how) printed =
    let faults : link'.connect_faults ≡ counted link.connect_faults true = came.connect_faults ∙ ap (counted_all link.connect_faults is_refusal) how ∙ refusals_opening stood link.connect_faults (NotJoined ∷ []) in
    record {
      lost_only = λ six. inl (omega (arith, faults));
      refused = λ other. printed_lost e sink sink' status (inl (ap status_of is)) printed;
      cut = λ more other. printed_lost e sink sink' status (inl (ap status_of is)) printed;
    }
caused_counts words stood seed link link' events e sink sink' status came (by_wait are asked) printed =
    let w : WaitEnds asked.0 e = asked.2 in
    let is : events ≡ opening stood ++ Joined ∷ Sent (ping_frame seed) ∷ (w.heard ++ w.last ∷ []) = asked.1 ∙ ap (λ (x : List Event). opening stood ++ Joined ∷ Sent (ping_frame seed) ∷ x) w.events_are in
    let counts = asked_counts stood seed link link' events w.heard w.last came is w.went_on.listens in
    let how = waited_last stood link link' w.heard w.last e counts w.ends in
    waited_counts stood link link' e sink sink' status how.0 how.1 printed

-- what the counts of a run tell
pub ran_counts : (words : List (List ℕ)) (stood : Bool) (seed : List ℕ) (link link' : Seen) (sink sink' : Held) (status : ℕ) → Ran words stood seed link link' sink sink' status
    → ByCounts stood link link' status
ran_counts words stood seed link link' sink sink' status r = elim r.cause [
  | inl memory ↦ record {
    lost_only = λ six. absurd (omega (arith, ap status_of memory, printed_six r.ending sink sink' status r.printed six));
    refused = λ other. printed_lost r.ending sink sink' status (inr (ap status_of memory)) r.printed;
    cut = λ more other. printed_lost r.ending sink sink' status (inr (ap status_of memory)) r.printed;
  }
  | inr caused ↦ caused_counts words stood seed link link' r.events r.ending sink sink' status r.came (cause_of words stood seed r.events r.ending caused) r.printed
]
