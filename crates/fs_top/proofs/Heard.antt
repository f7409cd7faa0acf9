-- What was heard leaves the engine ready for the next turn.
use Rattle.std.proofs.Common.{◌≡◌, inr, ◌<◌, ◌+◌, ℕ, Bool, if◌then◌else◌, List, [], ◌++◌, Option, Some, None, Result, Ok, Err, refl, ap, sym, ◌∙◌, subst, arith}
use Rattle.std.specs.Prelude.{IfOk, IfErr, is_some}
use Rattle.smb_head.specs.Stream.{Partial, first_of}
use Rattle.smb_head.proofs.FrameLaws.{first_of-nil}
use Rattle.smb_link.specs.declared.event.Event.TheVariants as event
use Rattle.fs_ahead.specs.declared.asked.Over.{Over}
use Rattle.fs_ahead.specs.Script.{Place}
use Rattle.fs_ahead.specs.Steps.{IsAhead}
use Rattle.fs_core.specs.Kept.{CoreValue}
use Rattle.fs_core.specs.Parts.{has_flight}
use Rattle.fs_core.specs.Event.{is_connected}
use Rattle.fs_top.specs.declared.engine.Engine.{Engine}
use Rattle.fs_top.specs.declared.hear.TheConstants.{MAX_FRAMES}
use Rattle.fs_top.specs.declared.run_end.End.{End}
use Rattle.fs_top.specs.declared.run_end.End.TheVariants as end
use Rattle.fs_top.specs.Given.{IsStopped}
use Rattle.fs_top.specs.Turns.{heard_one}
use Rattle.fs_top.specs.Steps.{TakesIn, HeardTo, IsReady, state_of, last_of}
use Rattle.fs_top.proofs.Bytes.{same_parts}

-- the engine with another frame that is not whole, and other counts
pub ready_again : (e e' : Engine) → IsReady e → e'.core ≡ e.core → e'.over ≡ e.over → e'.ahead ≡ e.ahead → first_of e'.frames ≡ Partial → e'.received < MAX_FRAMES
    → e'.silences < e'.patience → IsReady e'
ready_again e e' r core over ahead partial few patient = record {
  may = tt;
  outs = ap (λ (c : CoreValue). c.outs) core ∙ r.outs;
  partial = partial;
  few = few;
  patient = patient;
  ended = ap is_some over ∙ r.ended ∙ sym (ap (λ (c : CoreValue). c.kept.ended) core);
  stopped = subst (λ (o : Option Over). IsStopped o e'.ahead) (sym over) (subst (λ (p : Place). IsStopped e.over p) (sym ahead) r.stopped);
  ahead = subst (λ (c : CoreValue). IsAhead (last_of c.kept.last) e'.ahead) (sym core) (subst (λ (p : Place). IsAhead (last_of e.core.kept.last) p) (sym ahead) r.ahead);
  connected = ap (λ (c : CoreValue). is_connected c.kept.phase) core ∙ r.connected;
}

same_few : (n m most : ℕ) → n ≡ m → m < most → n < most
same_few n m most is less = omega arith

-- behind a piece
pub ready_bytes : (result : Result (Option (List ℕ)) End) (e e' : Engine) (piece : List ℕ) → IsReady e → TakesIn result (e.frames ++ piece) e.received e'.frames e'.received
    → e'.core ≡ e.core → e'.over ≡ e.over → e'.ahead ≡ e.ahead → e'.patience ≡ e.patience → e'.silences ≡ 0 → IfOk result (λ frame. IsReady e')
ready_bytes (Ok None) e e' piece r taken core over ahead patience silences =
    ready_again e e' r core over ahead (ap first_of taken.1 ∙ taken.0) (same_few e'.received e.received MAX_FRAMES taken.2 r.few)
    (borne e.silences e'.silences e.patience e'.patience r.patient patience silences)
  where
    borne : (n m p q : ℕ) → n < p → q ≡ p → m ≡ 0 → m < q
    borne n m p q less is none = omega arith
ready_bytes (Ok (Some frame)) e e' piece r taken core over ahead patience silences =
    ready_again e e' r core over ahead (ap first_of taken.1 ∙ first_of-nil) taken.3
    (borne e.silences e'.silences e.patience e'.patience r.patient patience silences)
  where
    borne : (n m p q : ℕ) → n < p → q ≡ p → m ≡ 0 → m < q
    borne n m p q less is none = omega arith
ready_bytes (Err e0) e e' piece r taken core over ahead patience silences = tt

-- a silence
pub heard_quiet : (result : Result (Option (List ℕ)) End) (e e' : Engine) (unanswered : Bool) → e.received < MAX_FRAMES → unanswered ≡ has_flight e.core.kept.flights
    → e'.silences ≡ (if unanswered then e.silences + 1 else 0) → IfOk result (λ frame. (frame ≡ None) × (e'.silences < e.patience)) → IfErr result (λ why. (why ≡ end.Cuts) × (e'.silences ≡ e.patience))
    → e'.core ≡ e.core → e'.running ≡ e.running → e'.frames ≡ e.frames → e'.received ≡ e.received
    → HeardTo e.patience result e' (heard_one (has_flight e.core.kept.flights) event.Quiet (state_of e []))
heard_quiet (Ok None) e e' unanswered few is silences borne ends core running frames received =
    same_parts e'.core e.core e'.running e.running e'.frames e.frames e'.received e.received e'.silences (if has_flight e.core.kept.flights then e.silences + 1 else 0) [] []
    core running frames received (silences ∙ ap (λ (b : Bool). if b then e.silences + 1 else 0) is) refl
heard_quiet (Ok (Some frame)) e e' unanswered few is silences borne ends core running frames received = absurd (none borne.0)
  where
    none : Some frame ≡ None → ⊥
    none no_frame = cc
heard_quiet (Err why) e e' unanswered few is silences borne ends core running frames received =
    subst (λ (x : End). HeardTo e.patience (Err x) e' (heard_one (has_flight e.core.kept.flights) event.Quiet (state_of e []))) (sym ends.0)
    (inr (sym (silences ∙ ap (λ (b : Bool). if b then e.silences + 1 else 0) is) ∙ ends.1), few)

pub ready_quiet : (result : Result (Option (List ℕ)) End) (e e' : Engine) → IsReady e → IfOk result (λ frame. (frame ≡ None) × (e'.silences < e.patience))
    → e'.core ≡ e.core → e'.over ≡ e.over → e'.ahead ≡ e.ahead → e'.patience ≡ e.patience → e'.frames ≡ e.frames → e'.received ≡ e.received → IfOk result (λ frame. IsReady e')
ready_quiet (Ok frame) e e' r borne core over ahead patience frames received =
    ready_again e e' r core over ahead (ap first_of frames ∙ r.partial) (same_few e'.received e.received MAX_FRAMES received r.few) (borne' e'.silences e.patience e'.patience borne.1 patience)
  where
    borne' : (n p q : ℕ) → n < p → q ≡ p → n < q
    borne' n p q less is = omega arith
ready_quiet (Err why) e e' r borne core over ahead patience frames received = tt
