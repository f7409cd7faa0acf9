-- The bytes of a frame that is not whole, and a piece that is taken in.
use Rattle.std.proofs.Common.{rules, arith, get_or, inl, inr, length-append, length-drop, length-take, ◌≡◌, ℕ, ◌+◌, ◌≤◌, ◌<◌, Bool, true, false, [], ◌∷◌, ◌++◌, refl, sym, ap, subst, ◌∙◌, length, take, drop, List, Option, Some, None, Result, Ok, Err}
use Rattle.std.specs.Prelude.{IfOk, IfErr}
use Rattle.std.proofs.lemmas.Bool.{cases_lt}
use Rattle.std.proofs.lemmas.List.{get_or_append_left, take-append-le}
use Rattle.smb_head.specs.declared.first.TheConstants.{MAX_FRAME}
use Rattle.smb_head.specs.Stream.{Partial, Whole, first_of, frame_length, lack, lack_of, frames_in, rest_in}
use Rattle.smb_head.proofs.FrameLaws.{first_of-nil}
use Rattle.smb_head.proofs.StreamLaws.{IsSettled, settled-partial, settled-bad, frames_in-whole, rest_in-whole}
use Rattle.smb_link.specs.declared.event.Event.TheVariants as event
use Rattle.fs_core.specs.Kept.{CoreValue}
use Rattle.fs_top.specs.declared.engine.Engine.{Engine}
use Rattle.fs_top.specs.declared.hear.TheConstants.{MAX_FRAMES}
use Rattle.fs_top.specs.declared.run_end.End.{End}
use Rattle.fs_top.specs.declared.run_end.End.TheVariants as end
use Rattle.fs_top.specs.declared.run_end.Wrong.TheVariants as wrong
use Rattle.fs_top.specs.Turns.{State, heard_one}
use Rattle.fs_top.specs.Steps.{TakesIn, HeardTo, state_of}

-- the length that a frame names stands in its first four bytes
same_length : (held bytes : List ℕ) → 4 ≤ length held → frame_length (held ++ bytes) ≡ frame_length held
same_length held bytes four =
    let one : get_or (held ++ bytes) 1 0 ≡ get_or held 1 0 = get_or_append_left held bytes 0 1 (omega arith) in
    let two : get_or (held ++ bytes) 2 0 ≡ get_or held 2 0 = get_or_append_left held bytes 0 2 (omega arith) in
    let three : get_or (held ++ bytes) 3 0 ≡ get_or held 3 0 = get_or_append_left held bytes 0 3 (omega arith) in
    rw (one, two, three) refl

-- where a whole frame ends
record Ends (bytes message rest : List ℕ) : Type 0 where
  pub fits : 4 + frame_length bytes ≤ length bytes
  pub behind : rest ≡ drop (4 + frame_length bytes) bytes

ends : (bytes message rest : List ℕ) → first_of bytes ≡ Whole message rest → Ends bytes message rest
unfolding first_of
ends bytes message rest whole = record { fits = grind arith; behind = grind arith }

-- what is missing of less than a frame
missing_long : (held : List ℕ) → first_of held ≡ Partial → 4 ≤ length held → length held + lack_of held ≡ 4 + frame_length held
unfolding first_of
missing_long held partial four = rw partial (grind arith)

missing_short : (held : List ℕ) → first_of held ≡ Partial → length held < 4 → length held + lack_of held ≡ 4
missing_short held partial short = rw partial (grind arith)

no_more : (held bytes : List ℕ) → first_of held ≡ Partial → length bytes ≤ lack_of held → length (held ++ bytes) ≤ 4 + frame_length (held ++ bytes)
no_more held bytes partial few = elim (cases_lt (length held) 4) [
  | inl short ↦ let all = missing_short held partial short in let joined = length-append held bytes in omega arith
  | inr long ↦ let all = missing_long held partial long in let joined = length-append held bytes in let same = same_length held bytes long in omega arith
]

none_left : (rest : List ℕ) → length rest ≡ 0 → rest ≡ []
none_left [] none = refl
none_left (x ∷ xs) none = search rules

-- no byte comes behind the frame, since no more is asked for than it lacks
pub none_behind : (held bytes message rest : List ℕ) → first_of held ≡ Partial → first_of (held ++ bytes) ≡ Whole message rest → length bytes ≤ lack_of held → rest ≡ []
none_behind held bytes message rest partial whole few =
    let e = ends (held ++ bytes) message rest whole in
    let more = no_more held bytes partial few in
    let gone = length-drop (4 + frame_length (held ++ bytes)) (held ++ bytes) in
    none_left rest (ap length e.behind ∙ gone ∙ (omega arith))

-- less than a frame is fewer bytes than the longest frame has, and something is missing
pub partial_short : (bytes : List ℕ) → first_of bytes ≡ Partial → length bytes < 4 + MAX_FRAME
unfolding first_of
partial_short bytes h = grind arith

lacks_some : (bytes : List ℕ) → first_of bytes ≡ Partial → 0 < lack Partial bytes
unfolding first_of
lacks_some bytes h = grind arith

pub partial_lacks : (bytes : List ℕ) → first_of bytes ≡ Partial → 0 < lack_of bytes
partial_lacks bytes h = rw h (lacks_some bytes h)

-- a frame that is whole was counted
pub taken_whole : (result : Result (Option (List ℕ)) End) (bytes frame frames : List ℕ) (received received' : ℕ) → first_of bytes ≡ Whole frame frames → frames ≡ []
    → received' ≡ received + 1 → IfOk result (λ whole. (whole ≡ Some frame) × (received' < MAX_FRAMES)) → IfErr result (λ e. (e ≡ end.Frames) × (received' ≡ MAX_FRAMES))
    → TakesIn result bytes received frames received'
taken_whole (Ok None) bytes frame frames received received' whole none counted few many = absurd (cc)
taken_whole (Ok (Some f)) bytes frame frames received received' whole none counted few many = (whole ∙ ap (λ (r : List ℕ). Whole frame r) none ∙ ap (λ (x : List ℕ). Whole x []) (sym same), none, counted, few.1)
  where
    same : f ≡ frame
    same = cc
taken_whole (Err e) bytes frame frames received received' whole none counted few many =
    subst (λ (x : End). TakesIn (Err x) bytes received frames received') (sym many.0)
    (frame, whole ∙ ap (λ (r : List ℕ). Whole frame r) none, sym counted ∙ many.1)

-- what the engine has by its parts
abbrev pub parts : CoreValue → List ℕ → List ℕ → ℕ → ℕ → List (List ℕ) → State
parts core running held received silences pending = record {
  core = core;
  running = running;
  held = held;
  received = received;
  silences = silences;
  pending = pending;
  connected = true;
  over = false;
}

pub same_parts : (core core' : CoreValue) (running running' held held' : List ℕ) (received received' silences silences' : ℕ) (pending pending' : List (List ℕ)) → core ≡ core' → running ≡ running' → held ≡ held'
    → received ≡ received' → silences ≡ silences' → pending ≡ pending' → parts core running held received silences pending ≡ parts core' running' held' received' silences' pending'
same_parts core core' running running' held held' received received' silences silences' pending pending' a b c d e f =
    ap (λ (x : CoreValue). parts x running held received silences pending) a
    ∙ ap (λ (x : List ℕ). parts core' x held received silences pending) b
    ∙ ap (λ (x : List ℕ). parts core' running' x received silences pending) c
    ∙ ap (λ (x : ℕ). parts core' running' held' x silences pending) d
    ∙ ap (λ (x : ℕ). parts core' running' held' received' x pending) e
    ∙ ap (λ (x : List (List ℕ)). parts core' running' held' received' silences' x) f

more_none : (n : ℕ) (frames : List (List ℕ)) → frames ≡ [] → n + length frames ≡ n
more_none n frames none = ap (λ (f : List (List ℕ)). n + length f) none ∙ omega arith

more_one : (n : ℕ) (frame : List ℕ) (frames : List (List ℕ)) → frames ≡ frame ∷ [] → n + length frames ≡ n + 1
more_one n frame frames one = ap (λ (f : List (List ℕ)). n + length f) one ∙ omega arith

-- a whole frame and nothing behind it
one_frame : (bytes frame : List ℕ) → first_of bytes ≡ Whole frame [] → frames_in bytes ≡ frame ∷ []
one_frame bytes frame whole = frames_in-whole bytes frame [] whole ∙ ap (λ (l : List (List ℕ)). frame ∷ l) (settled-partial [] first_of-nil).no_frame

none_after : (bytes frame : List ℕ) → first_of bytes ≡ Whole frame [] → rest_in bytes ≡ []
none_after bytes frame whole = rest_in-whole bytes frame [] whole ∙ (settled-partial [] first_of-nil).all_left

-- what was heard of a piece
pub heard_bytes : (patience : ℕ) (waits : Bool) (result : Result (Option (List ℕ)) End) (e e' : Engine) (piece : List ℕ) → e.received < MAX_FRAMES → TakesIn result (e.frames ++ piece) e.received e'.frames e'.received
    → e'.core ≡ e.core → e'.running ≡ e.running → e'.silences ≡ 0 → HeardTo patience result e' (heard_one waits (event.Got piece) (state_of e []))
heard_bytes patience waits (Ok None) e e' piece few taken core running silences =
    let s = settled-partial (e.frames ++ piece) taken.0 in
    same_parts e'.core e.core e'.running e.running e'.frames (rest_in (e.frames ++ piece)) e'.received (e.received + length (frames_in (e.frames ++ piece))) e'.silences 0 [] (frames_in (e.frames ++ piece))
    core running (taken.1 ∙ sym s.all_left) (taken.2 ∙ sym (more_none e.received (frames_in (e.frames ++ piece)) s.no_frame)) silences (sym s.no_frame)
heard_bytes patience waits (Ok (Some frame)) e e' piece few taken core running silences =
    let one = one_frame (e.frames ++ piece) frame taken.0 in
    same_parts e'.core e.core e'.running e.running e'.frames (rest_in (e.frames ++ piece)) e'.received (e.received + length (frames_in (e.frames ++ piece))) e'.silences 0 (frame ∷ []) (frames_in (e.frames ++ piece))
    core running (taken.1 ∙ sym (none_after (e.frames ++ piece) frame taken.0)) (taken.2 ∙ sym (more_one e.received frame (frames_in (e.frames ++ piece)) one)) silences (sym one)
heard_bytes patience waits (Err end.Memory) e e' piece few taken core running silences = (tt, tt)
heard_bytes patience waits (Err end.Frames) e e' piece few taken core running silences =
    let all = more_one e.received taken.0 (frames_in (e.frames ++ piece)) (one_frame (e.frames ++ piece) taken.0 taken.1) ∙ taken.2 in (all, all)
heard_bytes patience waits (Err (end.Frame number wrong.Length)) e e' piece few taken core running silences =
    let s : IsSettled (e.frames ++ piece) = settled-bad (e.frames ++ piece) taken.1.fault taken.1.bad in
    let same : e.received + length (frames_in (e.frames ++ piece)) ≡ e.received = more_none e.received (frames_in (e.frames ++ piece)) s.no_frame in (
      (
        taken.0 ∙ ap (λ (n : ℕ). n + 1) (sym same),
        record { fault = taken.1.fault; bad = ap first_of s.all_left ∙ taken.1.bad },
        refl,
      ),
      subst (λ (n : ℕ). n < MAX_FRAMES) (sym same) few,
    )
heard_bytes patience waits (Err (end.Frame number (wrong.Protocol what))) e e' piece few taken core running silences = absurd taken
heard_bytes patience waits (Err end.Done) e e' piece few taken core running silences = absurd taken
heard_bytes patience waits (Err (end.Line number)) e e' piece few taken core running silences = absurd taken
heard_bytes patience waits (Err (end.Mount why)) e e' piece few taken core running silences = absurd taken
heard_bytes patience waits (Err (end.Connects number)) e e' piece few taken core running silences = absurd taken
heard_bytes patience waits (Err end.Cuts) e e' piece few taken core running silences = absurd taken
heard_bytes patience waits (Err end.Source) e e' piece few taken core running silences = absurd taken
heard_bytes patience waits (Err end.Sink) e e' piece few taken core running silences = absurd taken

-- a piece at the front of the room
pub heard_front : (patience n : ℕ) (waits : Bool) (result : Result (Option (List ℕ)) End) (e e' : Engine) (buf post : List ℕ) → e.received < MAX_FRAMES → n ≤ length buf
    → TakesIn result (e.frames ++ take n (buf ++ post)) e.received e'.frames e'.received → e'.core ≡ e.core → e'.running ≡ e.running → e'.silences ≡ 0
    → HeardTo patience result e' (heard_one waits (event.Got (take n buf)) (state_of e []))
heard_front patience n waits result e e' buf post few short taken core running silences =
    heard_bytes patience waits result e e' (take n buf) few
    (subst (λ (p : List ℕ). TakesIn result (e.frames ++ p) e.received e'.frames e'.received) (take-append-le n buf post short) taken) core running silences

pub front_short : (n most room : ℕ) (xs held : List ℕ) → n ≤ length (take most held) → most ≤ room → length (take n xs) ≤ room
front_short n most room xs held few less = omega (arith, length-take n xs, length-take most held)
