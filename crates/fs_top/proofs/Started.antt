-- A run from its start: a connection is made, and turns are taken on it.
use Rattle.std.proofs.Common.{◌≡◌, inl, inr, ◌<◌, ℕ, Bool, true, false, List, [], ◌∷◌, Option, Some, None, Ok, Err, refl, ap, sym, ◌∙◌, subst, arith}
use Rattle.std.specs.Prelude.{IfSome, IfNone, is_some}
use Rattle.smb_head.specs.Stream.{first_of}
use Rattle.smb_head.proofs.FrameLaws.{first_of-nil}
use Rattle.smb_link.proofs.CameLaws.{came_none}
use Rattle.fs_ahead.specs.declared.asked.Over.{Over}
use Rattle.fs_ahead.specs.Steps.{IsAhead}
use Rattle.fs_core.specs.declared.input.Input.TheVariants as input
use Rattle.fs_core.specs.declared.output.Output.{Output}
use Rattle.fs_core.specs.declared.output.Output.TheVariants as output
use Rattle.fs_client.specs.View.{Setting}
use Rattle.fs_core.specs.Event.{is_apart}
use Rattle.fs_core.specs.Kept.{Kept, CoreValue}
use Rattle.fs_top.specs.declared.engine.Engine.{Engine}
use Rattle.fs_top.specs.declared.run_end.End.{End}
use Rattle.fs_top.specs.declared.run_end.End.TheVariants as end
use Rattle.fs_top.specs.Turns.{State}
use Rattle.fs_top.specs.declared.hear.TheConstants.{MAX_FRAMES}
use Rattle.fs_top.specs.Given.{IsStopped}
use Rattle.fs_top.specs.Steps.{state_of, last_of, IsReadyFor}
use Rattle.fs_top.specs.Going.{Outside, Goes}
use Rattle.fs_top.specs.Closing.{Closes}
use Rattle.fs_top.specs.Running.{Joins, Begins, RanThrough, RanScript}
use Rattle.fs_top.specs.Run.{joined_with}
use Rattle.fs_top.proofs.Bytes.{same_parts}
use Rattle.fs_top.proofs.Printing.{took_nothing}
use Rattle.fs_top.proofs.Goings.{goes_then, goes_joined, gave_by}
use Rattle.fs_top.proofs.Closed.{came_alone_none}

-- a connection was made, and turns were taken on it
pub through_on : (tries patience : ℕ) (stood : Bool) (s s1 s2 : State) (e : End) (over1 over2 : Option Over) (a b c : Outside)
    → Begins tries patience stood s (Ok tt) s1 a.link b.link a.sink b.sink → b.reads ≡ a.reads → b.told ≡ a.told → over1 ≡ None → Goes patience s1 over1 (Err e) s2 over2 b c
    → RanThrough tries patience stood s e s2 over2 a c
through_on tries patience stood s s1 s2 e over1 over2 a b c (inl never) reads told none goes = absurd (cc (never.is))
through_on tries patience stood s s1 s2 e over1 over2 a b c (inr starts) reads told none goes =
    let on : Outside = record a { link = starts.between } in
    inr (record {
      between = starts.between;
      joins = starts.joins;
      goes = goes_then patience (Err e) s s1 s2 None None over2 on b c
          (goes_joined patience (Ok tt) s s1 on b (gave_by input.Joined patience s s1 starts.between b.link a.sink b.sink starts.gave) reads told starts.over)
          (subst (λ (o : Option Over). Goes patience s1 o (Err e) s2 over2 b c) none goes);
    })

-- or none was made, or the run ended at the first turn
pub through_ended : (tries patience : ℕ) (stood : Bool) (s s1 : State) (e : End) (over1 : Option Over) (a b : Outside)
    → Begins tries patience stood s (Err e) s1 a.link b.link a.sink b.sink → b.reads ≡ a.reads → b.told ≡ a.told → over1 ≡ None → RanThrough tries patience stood s e s1 over1 a b
through_ended tries patience stood s s1 e over1 a b (inl never) reads told none =
    let same : never.why ≡ e = cc (never.is) in
    inl (record { joins = subst (λ (x : End). Joins tries stood (Err x) a.link b.link) same never.joins; sink = never.printed; reads = reads; told = told })
through_ended tries patience stood s s1 e over1 a b (inr starts) reads told none =
    subst (λ (o : Option Over). RanThrough tries patience stood s e s1 o a b) (sym none) (inr (record {
      between = starts.between;
      joins = starts.joins;
      goes = goes_joined patience (Err e) s s1 (record a { link = starts.between }) b starts.ends reads told starts.over;
    }))

-- nothing was done for want of memory
pub never_began : (tries patience : ℕ) (stood : Bool) (s : State) (a : Outside) → RanScript tries patience stood s end.Memory a a
never_began tries patience stood s a = record {
  why = end.Memory;
  middle = a;
  s' = s;
  over = None;
  through = inl (record { joins = record { events = []; came = came_none a.link; so = inl refl }; sink = took_nothing a.sink; reads = refl; told = refl });
  closes = (refl, came_alone_none a.link, took_nothing a.sink);
  reads = refl;
  told = refl;
}

-- the wish for a connection that a client begins with is taken
others : List Output → List Output
others [] = []
others (o ∷ os) = os

none_left : (r : Option Output) (old new : CoreValue) → old.outs ≡ output.Reconnect ∷ [] → IfSome r (λ o. old.outs ≡ o ∷ new.outs)
    → IfNone r ((old.outs ≡ []) × (new.outs ≡ [])) → new.outs ≡ []
unfolding others
none_left (Some o) old new is some none = ap others (sym some ∙ is)
none_left None old new is some none = none.1

pub wish_taken : (r : Option Output) (old new : CoreValue) → old.outs ≡ output.Reconnect ∷ [] → IfSome r (λ o. old.outs ≡ o ∷ new.outs)
    → IfNone r ((old.outs ≡ []) × (new.outs ≡ [])) → new.kept ≡ old.kept → new.setting ≡ old.setting → new ≡ record old { outs = [] }
wish_taken r old new is some none kept setting =
    ap (λ (x : Setting). record new { setting = x }) setting
    ∙ ap (λ (x : Kept). record new { setting = old.setting; kept = x }) kept
    ∙ ap (λ (x : List Output). record old { outs = x }) (none_left r old new is some none)

-- before the first input
pub started_state : (e : Engine) (core : CoreValue) → e.core ≡ core → e.running ≡ [] → e.frames ≡ [] → e.received ≡ 0 → e.silences ≡ 0 → state_of e [] ≡ joined_with core
started_state e core is running frames received silences =
    same_parts e.core core e.running [] e.frames [] e.received 0 e.silences 0 [] [] is running frames received silences refl

pub started_ready : (e : Engine) (core : CoreValue) → e.core ≡ core → e.over ≡ None → e.frames ≡ [] → e.received ≡ 0 → e.silences ≡ 0 → 0 < e.patience → IsAhead 0 e.ahead
    → is_apart core.kept.phase ≡ true → core.outs ≡ [] → core.kept.ended ≡ false → core.kept.last ≡ None → IsReadyFor input.Joined e
started_ready e core is none frames received silences patient ahead apart outs ended last = record {
  may = ap (λ (c : CoreValue). is_apart c.kept.phase) is ∙ apart;
  outs = ap (λ (c : CoreValue). c.outs) is ∙ outs;
  partial = ap first_of frames ∙ first_of-nil;
  few = subst (λ (n : ℕ). n < MAX_FRAMES) (sym received) (omega arith);
  patient = subst (λ (n : ℕ). n < e.patience) (sym silences) patient;
  ended = ap is_some none ∙ sym (ap (λ (c : CoreValue). c.kept.ended) is ∙ ended);
  stopped = subst (λ (o : Option Over). IsStopped o e.ahead) (sym none) tt;
  ahead = subst (λ (o : Option ℕ). IsAhead (last_of o) e.ahead) (sym (ap (λ (c : CoreValue). c.kept.last) is ∙ last)) ahead;
  connected = refl;
}

-- a whole run: what the engine has at its start, what it goes through, and the calls that are left
pub ran_script : (tries patience : ℕ) (stood : Bool) (s s1 s' : State) (why last : End) (over : Option Over) (a b c : Outside) → s1 ≡ s → RanThrough tries patience stood s1 why s' over a b
    → Closes s'.running why last b.link c.link b.sink c.sink → c.reads ≡ b.reads → c.told ≡ b.told → RanScript tries patience stood s last a c
ran_script tries patience stood s s1 s' why last over a b c same through closes reads told = record {
  why = why;
  middle = b;
  s' = s';
  over = over;
  through = subst (λ (x : State). RanThrough tries patience stood x why s' over a b) same through;
  closes = closes;
  reads = reads;
  told = told;
}
