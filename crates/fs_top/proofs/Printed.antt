-- A sink that takes a text piece by piece.
use Rattle.std.proofs.Common.{◌≡◌, ◌≢◌, ℕ, Ok, inl, inr, ◌+◌, List, ◌++◌, take, drop, Option, Some, None, refl, ap, sym, ◌∙◌, append_assoc}
use Rattle.std.proofs.Math.Seq.{take-add}
use Rattle.std.proofs.lemmas.Bool.Decides.{eqb_tells}
use Rattle.smb_link.specs.Count.{counted}
use Rattle.smb_link.specs.Flow.{stalled}
use Rattle.fs_top.specs.Printing.{Held, gained, TookAll}

pub gained_twice : (written : Option (List ℕ)) (xs ys : List ℕ) → gained (gained written xs) ys ≡ gained written (xs ++ ys)
gained_twice None xs ys = refl
gained_twice (Some w) xs ys = ap Some (append_assoc w xs ys)

-- a sink that took the text up to a place, and then n bytes more
pub took_more : (at n : ℕ) (text : List ℕ) (old mid new : Held) → TookAll (take at text) old mid
    → new.written ≡ gained mid.written (take n (drop at text)) → new.faults ≡ mid.faults → new.stalls ≡ mid.stalls
    → TookAll (take (at + n) text) old new
took_more at n text old mid new before written faults stalls = record {
  text_held = written
      ∙ ap (λ (w : Option (List ℕ)). gained w (take n (drop at text))) before.text_held
      ∙ gained_twice old.written (take at text) (take n (drop at text))
      ∙ ap (gained old.written) (sym (take-add at n text));
  same_faults = faults ∙ before.same_faults;
  same_stalls = stalls ∙ before.same_stalls;
}

-- a write that took some bytes did not stall
pub counted-stalled : (count n : ℕ) (bytes : List ℕ) → n ≢ 0 → counted count (stalled (Ok n) bytes) ≡ count
counted-stalled count n bytes some = elim (eqb_tells n 0) [
  | inl is ↦ absurd (some is.1)
  | inr not ↦ rw not.0 refl
]
