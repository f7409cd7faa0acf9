-- The spelling of an entry is read again, alone and as the first of a listing.
use Rattle.std.proofs.Common.{◌≡◌, ◌∙◌, refl, sym, ap, subst, ℕ, ◌+◌, ◌-◌, ◌≤◌, Bool, true, false, if◌then◌else◌, List, [], ◌∷◌, ◌++◌, length, drop, replicate, Ok, arith, inl, inr, length-append, append_assoc}
use Rattle.std.proofs.lemmas.List.{drop_at, length-replicate}
use Rattle.std.proofs.lemmas.Bool.Decides.{nat_tests}
use Rattle.std.specs.Prelude.{◌==◌}
use Rattle.smb_le.proofs.NumberLaws.{length-bytes_of}
use Rattle.smb_field.specs.Fields.{spelled}
use Rattle.smb_field.specs.Structure.{spelling_in, IsStructure, IsReadAgainIn}
use Rattle.smb_info.specs.declared.entries.DirEntry.{DirEntry}
use Rattle.smb_info.specs.Directory.{Entry, seen, dir_entry, IsBadNext, Last, Then, with_rest, chain_of, IsPlaced, entry_spelling, IsEntryReadAgain, IsListed}
use Rattle.smb_info.proofs.EntryLaws.{step-of_entry, chain_of-step}

-- the fields take 80 bytes, and the name follows
length-of_fields : (e : Entry) → length (spelling_in (dir_entry e) e.name) ≡ 80 + length e.name
unfolding spelling_in spelled
length-of_fields e = simp (length-append, length-bytes_of) refl

-- an entry reaches to the next one, where there is one
pub length-of_entry : (e : Entry) → 80 + length e.name ≤ e.next → length (entry_spelling e) ≡ e.next
unfolding entry_spelling
length-of_entry e placed =
    omega (
      arith,
      length-append (spelling_in (dir_entry e) e.name) (replicate (e.next - (80 + length e.name)) 0),
      length-of_fields e,
      length-replicate {A = ℕ} (e.next - (80 + length e.name)) 0,
    )

-- the last one ends with its name
pub length-of_last : (e : Entry) → e.next ≡ 0 → length (entry_spelling e) ≡ 80 + length e.name
unfolding entry_spelling
length-of_last e last =
    omega (
      arith,
      length-append (spelling_in (dir_entry e) e.name) (replicate (e.next - (80 + length e.name)) 0),
      length-of_fields e,
      length-replicate {A = ℕ} (e.next - (80 + length e.name)) 0,
    )

good-next : (e : Entry) (rest : List ℕ) → IsPlaced e → ¬ IsBadNext e.next (length (entry_spelling e ++ rest))
good-next e rest (inl none) bad = bad.0 none
good-next e rest (inr placed) (some, inl low) = omega (arith, placed, low)
good-next e rest (inr placed) (some, inr over) =
    omega (arith, over, length-append (entry_spelling e) rest, length-of_entry e placed)

pub entry-read_again : (e : Entry) → IsPlaced e → IsReadAgainIn (dir_entry e) e.name → IsEntryReadAgain e
unfolding IsEntryReadAgain IsReadAgainIn entry_spelling
entry-read_again e placed again rest =
    let zeros = replicate (e.next - (80 + length e.name)) 0 in (
      subst (λ (info : List ℕ). IsStructure (dir_entry e) e.name info) (sym (append_assoc (spelling_in (dir_entry e) e.name) zeros rest)) (again (zeros ++ rest)),
      good-next e rest placed,
    )

with-rest-by : (e : Entry) (b : Bool) (rest others : List ℕ) → (b ≡ false → rest ≡ others)
    → with_rest (if b then Last e else Then e rest) chain_of ≡ Ok e ∷ (if b then [] else chain_of others)
with-rest-by e true rest others same = refl
with-rest-by e false rest others same = ap (λ (xs : List ℕ). Ok e ∷ chain_of xs) (same refl)

behind : (e : Entry) (rest : List ℕ) → IsPlaced e → (e.next == 0) ≡ false → drop e.next (entry_spelling e ++ rest) ≡ rest
behind e rest (inl none) some = grind (arith, nat_tests)
behind e rest (inr placed) some = drop_at (entry_spelling e) rest e.next (length-of_entry e placed)

pub entry-listed : (x : DirEntry) → IsPlaced (seen x) → IsEntryReadAgain (seen x) → IsListed (seen x)
unfolding IsListed IsEntryReadAgain
entry-listed x placed again rest =
    let e = seen x in
    let info = entry_spelling e ++ rest in
    chain_of-step info
    ∙ ap (λ s. with_rest s chain_of) (step-of_entry x info (again rest))
    ∙ with-rest-by e (e.next == 0) (drop e.next info) rest (behind e rest placed)
