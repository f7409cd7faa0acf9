-- The calls that a run leaves unanswered are answered, one after another.
use Rattle.std.proofs.Common.{◌≡◌, inl, inr, ℕ, List, [], ◌∷◌, ◌++◌, Option, Some, None, Ok, Err, refl, ap, sym, ◌∙◌, subst, append_assoc, append-nil}
use Rattle.std.proofs.lemmas.List.{map-append}
use Rattle.smb_link.specs.Came.{Seen, Came}
use Rattle.smb_link.specs.Story.{story_with}
use Rattle.smb_link.specs.declared.event.Event.{Event}
use Rattle.smb_link.proofs.CameLaws.{came_none, came_then, story_with-nothing, story_with-twice}
use Rattle.fs_types.specs.declared.answer.Answer.{Answer}
use Rattle.fs_types.specs.declared.answer.Answer.TheVariants as answer
use Rattle.fs_core.specs.declared.output.Output.TheVariants as output
use Rattle.fs_core.specs.Event.{events_by, events_of}
use Rattle.fs_top.specs.declared.run_end.End.{End}
use Rattle.fs_top.specs.declared.run_end.End.TheVariants as end
use Rattle.fs_top.specs.Printing.{Held, TookAll, TookFront}
use Rattle.fs_top.specs.Turns.{line_by, lines_by}
use Rattle.fs_top.specs.Ends.{PrintedSo}
use Rattle.fs_top.specs.Steps.{events_carried, line_carried, IsCarryEnd}
use Rattle.fs_top.specs.Closing.{errno_by, answers_of, CameAlone, ClosesSome, ClosesWith, ClosesBy, Closes}
use Rattle.fs_top.proofs.Printing.{took_nothing, took_then, printed_then}
use Rattle.fs_top.proofs.Outputs.{events_of-one, lines_by-one}

-- the answer that each of them gets
abbrev pub closing : ℕ → Answer
closing errno = answer.Err (record { 0 = errno }) None

-- the client's events alone
pub came_alone_none : (seen : Seen) → CameAlone [] seen seen
came_alone_none seen = record { came = came_none seen; alone = sym (story_with-nothing seen.story) }

came_alone_then : (xs ys : List Event) (a b c : Seen) → CameAlone xs a b → Came ys b c → c.story ≡ story_with b.story ys → CameAlone (xs ++ ys) a c
came_alone_then xs ys a b c first came alone = record {
  came = came_then xs ys a b c first.came came;
  alone = alone ∙ ap (λ (s : Option (List Event)). story_with s ys) first.alone ∙ story_with-twice a.story xs ys;
}

-- one more call
events_closed : (errno number : ℕ) (done : List ℕ)
    → events_of (answers_of errno (done ++ number ∷ [])) ≡ events_of (answers_of errno done) ++ events_by (output.Answer number (closing errno))
events_closed errno number done =
    ap events_of (map-append (λ (n : ℕ). output.Answer n (closing errno)) done (number ∷ [])) ∙ events_of-one (answers_of errno done) (output.Answer number (closing errno))

lines_closed : (errno number : ℕ) (done : List ℕ)
    → lines_by (answers_of errno (done ++ number ∷ [])) ≡ lines_by (answers_of errno done) ++ line_by (output.Answer number (closing errno))
lines_closed errno number done =
    ap lines_by (map-append (λ (n : ℕ). output.Answer n (closing errno)) done (number ∷ [])) ∙ lines_by-one (answers_of errno done) (output.Answer number (closing errno))

-- so many were answered so far
pub record Closing (errno : ℕ) (done : List ℕ) (old new : Seen) (out out' : Held) : Type 0 where
  pub came : CameAlone (events_of (answers_of errno done)) old new
  pub printed : TookAll (lines_by (answers_of errno done)) out out'

pub closing_none : (errno : ℕ) (seen : Seen) (h : Held) → Closing errno [] seen seen h h
closing_none errno seen h = record { came = came_alone_none seen; printed = took_nothing h }

pub closing_more : (errno number : ℕ) (done done' : List ℕ) (a b c : Seen) (h k l : Held) → done' ≡ done ++ number ∷ [] → Closing errno done a b h k
    → Came (events_carried (output.Answer number (closing errno)) (Ok tt)) b c
    → c.story ≡ story_with b.story (events_carried (output.Answer number (closing errno)) (Ok tt))
    → PrintedSo (Ok tt) (line_carried (output.Answer number (closing errno)) (Ok tt)) k l → Closing errno done' a c h l
closing_more errno number done done' a b c h k l is so came alone printed = subst (λ (d : List ℕ). Closing errno d a c h l) (sym is) (record {
  came = subst (λ (x : List Event). CameAlone x a c) (sym (events_closed errno number done))
      (came_alone_then (events_of (answers_of errno done)) (events_by (output.Answer number (closing errno))) a b c so.came came alone);
  printed = subst (λ (t : List ℕ). TookAll t h l) (sym (lines_closed errno number done))
      (took_then (lines_by (answers_of errno done)) (line_by (output.Answer number (closing errno))) h k l so.printed printed);
})

-- all of them
pub closing_all : (errno : ℕ) (running done : List ℕ) (e : End) (a b : Seen) (h k : Held) → done ≡ running → Closing errno done a b h k → ClosesWith errno running e e a b h k
closing_all errno running done e a b h k is so =
    subst (λ (d : List ℕ). ClosesWith errno d e e a b h k) is (inl (refl, record { came = so.came; printed = so.printed }))

-- or up to the one at which the run ends
pub closing_some : (errno number : ℕ) (running done rest : List ℕ) (e : End) (a b c : Seen) (h k l : Held) → running ≡ done ++ number ∷ rest → Closing errno done a b h k
    → IsCarryEnd (output.Answer number (closing errno)) e → Came (events_carried (output.Answer number (closing errno)) (Err e)) b c
    → c.story ≡ story_with b.story (events_carried (output.Answer number (closing errno)) (Err e))
    → PrintedSo (Err e) (line_carried (output.Answer number (closing errno)) (Err e)) k l → ClosesSome errno running e a c h l
closing_some errno number running done rest end.Memory a b c h k l is so why came alone printed = record {
  answered = done;
  left = number ∷ rest;
  parts = is;
  came = subst (λ (x : List Event). CameAlone x a c) (append-nil (events_of (answers_of errno done)))
      (came_alone_then (events_of (answers_of errno done)) [] a b c so.came came alone);
  ends = inl (
    refl,
    subst (λ (t : List ℕ). TookAll t h l) (append-nil (lines_by (answers_of errno done))) (took_then (lines_by (answers_of errno done)) [] h k l so.printed printed),
  );
}
closing_some errno number running done rest end.Sink a b c h k l is so why came alone printed = record {
  answered = done ++ number ∷ [];
  left = rest;
  parts = is ∙ sym (append_assoc done (number ∷ []) rest);
  came = subst (λ (x : List Event). CameAlone x a c) (sym (events_closed errno number done))
      (came_alone_then (events_of (answers_of errno done)) (events_by (output.Answer number (closing errno))) a b c so.came came alone);
  ends = inr (
    refl,
    subst (λ (t : List ℕ). TookFront t h l) (sym (lines_closed errno number done))
        (printed_then (Err end.Sink) (lines_by (answers_of errno done)) (line_by (output.Answer number (closing errno))) h k l so.printed printed),
  );
}
closing_some errno number running done rest end.Done a b c h k l is so why came alone printed = absurd why
closing_some errno number running done rest (end.Line n) a b c h k l is so why came alone printed = absurd why
closing_some errno number running done rest (end.Mount what) a b c h k l is so why came alone printed = absurd why
closing_some errno number running done rest (end.Frame n what) a b c h k l is so why came alone printed = absurd why
closing_some errno number running done rest (end.Connects n) a b c h k l is so why came alone printed = absurd why
closing_some errno number running done rest end.Cuts a b c h k l is so why came alone printed = absurd why
closing_some errno number running done rest end.Source a b c h k l is so why came alone printed = absurd why
closing_some errno number running done rest end.Frames a b c h k l is so why came alone printed = absurd why

-- by the error number of the end
pub closes_with : (errno : ℕ) (running : List ℕ) (e e' : End) (a b : Seen) (h k : Held) → Some errno ≡ errno_by e → ClosesWith errno running e e' a b h k → Closes running e e' a b h k
closes_with errno running e e' a b h k is closes = subst (λ (o : Option ℕ). ClosesBy o running e e' a b h k) is closes

pub closes_none : (running : List ℕ) (e : End) (a : Seen) (h : Held) → None ≡ errno_by e → Closes running e e a a h h
closes_none running e a h is = subst (λ (o : Option ℕ). ClosesBy o running e e a a h h) is (refl, came_alone_none a, took_nothing h)
