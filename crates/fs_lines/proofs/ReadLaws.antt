-- What the reads of one call took off a source.
use Rattle.std.proofs.Common.{◌≡◌, ◌∙◌, ◌⊎◌, refl, sym, ap, ℕ, ◌≤◌, List, [], ◌++◌, length, take, drop, Bool, true, false, cond, IfSome, Option, Some, None, Ok, inl, inr, arith, append_assoc, length-append, take-append-drop, subst}
use Rattle.std.proofs.lemmas.List.{append-nil}
use Rattle.std.proofs.lemmas.Bool.{false≢true}
use Rattle.smb_link.specs.Flow.{GaveFirst, left_after}
use Rattle.fs_lines.specs.declared.next.NextLine.{NextLine}
use Rattle.fs_lines.specs.declared.next.NextLine.TheVariants.{Line, NotText, TooLong, End, Failed, NoMemory}
use Rattle.fs_lines.specs.Line.{first_line, Gives, NeedsEnd}
use Rattle.fs_lines.specs.Told.{Reading, Took, Needed, Gave, ahead}
use Rattle.fs_lines.proofs.LineLaws.{whole_or_not, longer}

-- one read took what it put into the buffer
pub took-read : (before after : Option (List ℕ)) (n : ℕ) (buffer : List ℕ) → GaveFirst before (Ok n) buffer
    → after ≡ left_after before (Ok n) → Took (take n buffer) before after
took-read None after n buffer gave is = rw is refl
took-read (Some rest) after n buffer gave is =
    rw is (ap (λ (l : List ℕ). Some l) (sym (take-append-drop n rest) ∙ ap (λ (l : List ℕ). l ++ drop n rest) (sym gave.1)))

-- the reads so far: the bytes got are held, and the first of those held have no LF
pub record Searching (before now : Option (List ℕ)) (old new : Reading) (seen : ℕ) (got : List ℕ) : Type 0 where
  pub took : Took got before now
  pub held : new.held ≡ old.held ++ got
  pub ended : new.ended ≡ old.ended
  pub number : new.number ≡ old.number
  pub needed : Needed old got
  pub within : seen ≤ length new.held
  pub none : first_line (take seen new.held) ≡ take seen new.held

-- an answer that more bytes behind do not change
gives_more : (answer : NextLine) (bytes rest more : List ℕ) → Gives answer bytes rest → (NeedsEnd answer bytes → ⊥)
    → Gives answer (bytes ++ more) (rest ++ more)
gives_more (Line t) bytes rest more g still = elim (whole_or_not bytes) [
  | inl none ↦ absurd (still none)
  | inr w ↦ (
    let len = length-append bytes more in let some = g.0 in omega arith,
    w.same more ∙ g.1,
    g.2,
    g.3,
    w.goes_on more ∙ ap (λ (l : List ℕ). l ++ more) g.4,
  )
]
gives_more NotText bytes rest more g still = elim (whole_or_not bytes) [
  | inl none ↦ absurd (still none)
  | inr w ↦ (
    let len = length-append bytes more in let some = g.0 in omega arith,
    rw (w.same more) g.1,
    rw (w.same more) g.2,
    w.goes_on more ∙ ap (λ (l : List ℕ). l ++ more) g.3,
  )
]
gives_more TooLong bytes rest more g still =
    (let l = longer bytes more in let long = g.0 in omega arith, ap (λ (l : List ℕ). l ++ more) g.1)
gives_more End bytes rest more g still = absurd (still tt)
gives_more Failed bytes rest more g still = ap (λ (l : List ℕ). l ++ more) g
gives_more NoMemory bytes rest more g still = ap (λ (l : List ℕ). l ++ more) g

-- what is ahead, by whether the end was met before and after
ahead_by : (was is : Bool) (answer : NextLine) (old_held new_held got before after : List ℕ)
    → before ≡ got ++ after → Gives answer (old_held ++ got) new_held
    → (NeedsEnd answer (old_held ++ got) → is ≡ true)
    → (is ≡ true → (was ≡ true) ⊎ (after ≡ []))
    → (was ≡ true → is ≡ true) → (was ≡ true → got ≡ [])
    → Gives answer (cond was old_held (old_held ++ before)) (cond is new_held (new_held ++ after))
ahead_by true true answer old_held new_held got before after took gives end met stays none =
    subst (λ (l : List ℕ). Gives answer l new_held) (ap (λ (l : List ℕ). old_held ++ l) (none refl) ∙ append-nil old_held) gives
ahead_by true false answer old_held new_held got before after took gives end met stays none = absurd (false≢true (stays refl))
ahead_by false true answer old_held new_held got before after took gives end met stays none = elim (met refl) [
  | inl was ↦ absurd (false≢true was)
  | inr last ↦ subst (λ (l : List ℕ). Gives answer (old_held ++ l) new_held)
      (sym (took ∙ ap (λ (l : List ℕ). got ++ l) last ∙ append-nil got)) gives
]
ahead_by false false answer old_held new_held got before after took gives end met stays none =
    subst (λ (l : List ℕ). Gives answer l (new_held ++ after))
    (append_assoc old_held got after ∙ ap (λ (l : List ℕ). old_held ++ l) (sym took))
    (gives_more answer (old_held ++ got) new_held after gives (λ needs. false≢true (end needs)))

none_read : (old : Reading) (got : List ℕ) → Needed old got → old.ended ≡ true → got ≡ []
none_read old got (inl none) was = none
none_read old got (inr n) was = absurd (false≢true (sym n.2 ∙ was))

met_by : (was : Bool) (after : List ℕ) (P : Type 0) → (was ≡ true) ⊎ ((after ≡ []) × P) → (was ≡ true) ⊎ (after ≡ [])
met_by was after P (inl w) = inl w
met_by was after P (inr m) = inr m.0

-- the answer is that of all that is ahead, where the source tells what is left
pub told_ahead : (before after : Option (List ℕ)) (old new : Reading) (answer : NextLine) (got : List ℕ)
    → Gave before after old new answer got
    → IfSome before (λ b. IfSome after (λ a. Gives answer (ahead old b) (ahead new a)))
told_ahead None after old new answer got g = tt
told_ahead (Some b) None old new answer got g = tt
told_ahead (Some b) (Some a) old new answer got g =
    let took : b ≡ got ++ a = (let t = g.took in cc) in
    ahead_by old.ended new.ended answer old.held new.held got b a took g.gives g.end
    (λ is. met_by old.ended a _ (g.met is)) g.stays (none_read old got g.needed)
