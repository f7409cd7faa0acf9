-- Entries that were written one after another are the entries of the whole, for who writes a listing entry by entry.
use Rattle.std.proofs.Common.{◌≡◌, ◌≢◌, ◌∙◌, refl, ap, ℕ, ◌<◌, Bool, true, false, if◌then◌else◌, List, [], ◌∷◌, ◌++◌, length, map, Result, Ok, arith, inl, inr, length-append}
use Rattle.std.proofs.lemmas.Bool.Decides.{nat_tests}
use Rattle.std.specs.Prelude.{◌==◌, ⊤}
use Rattle.smb_info.specs.declared.fault.InfoFault.{InfoFault}
use Rattle.smb_info.specs.Directory.{Entry, IsPlaced, entry_spelling, IsListed, chain_of, entries_of}
use Rattle.smb_info.proofs.EntryWriting.{length-of_entry, length-of_last}

-- the bytes of a listing
abbrev pub listing : List Entry → List ℕ
listing [] = []
listing (e ∷ entries) = entry_spelling e ++ listing entries

-- each entry but the last has one behind it, and the last has none
abbrev pub IsLinked : List Entry → Type 0
IsLinked [] = ⊤
IsLinked (e ∷ []) = e.next ≡ 0
IsLinked (e ∷ f ∷ entries) = (e.next ≢ 0) × IsLinked (f ∷ entries)

-- each was written
abbrev pub AllListed : List Entry → Type 0
AllListed [] = ⊤
AllListed (e ∷ entries) = IsPlaced e × IsListed e × AllListed entries

last-of : (e : Entry) → e.next ≡ 0 → IsListed e → chain_of (entry_spelling e ++ []) ≡ Ok e ∷ []
unfolding IsListed
last-of e last listed =
    let test : (e.next == 0) ≡ true = grind (arith, nat_tests) in
    listed [] ∙ ap (λ (b : Bool). Ok e ∷ (if b then [] else chain_of [])) test

before : (e : Entry) (rest : List ℕ) → e.next ≢ 0 → IsListed e → chain_of (entry_spelling e ++ rest) ≡ Ok e ∷ chain_of rest
unfolding IsListed
before e rest some listed =
    let test : (e.next == 0) ≡ false = grind (arith, nat_tests) in
    listed rest ∙ ap (λ (b : Bool). Ok e ∷ (if b then [] else chain_of rest)) test

chain-read : (e : Entry) (entries : List Entry) → IsLinked (e ∷ entries) → AllListed (e ∷ entries)
    → chain_of (listing (e ∷ entries)) ≡ map Ok (e ∷ entries)
chain-read e [] linked all = last-of e linked all.1
chain-read e (f ∷ entries) linked all =
    before e (listing (f ∷ entries)) linked.0 all.1
    ∙ ap (λ (l : List (Result Entry InfoFault)). Ok e ∷ l) (chain-read f entries linked.1 all.2)

not-empty : (e : Entry) (rest : List ℕ) → IsPlaced e → 0 < length (entry_spelling e ++ rest)
not-empty e rest (inl last) = omega (arith, length-append (entry_spelling e) rest, length-of_last e last)
not-empty e rest (inr placed) = omega (arith, length-append (entry_spelling e) rest, length-of_entry e placed, placed)

entries-some : (info : List ℕ) → 0 < length info → entries_of info ≡ chain_of info
entries-some [] some = absurd (omega arith)
entries-some (b ∷ info) some = refl

-- the entries of a listing are those that were written
pub listing-read : (entries : List Entry) → IsLinked entries → AllListed entries → entries_of (listing entries) ≡ map Ok entries
listing-read [] linked all = refl
listing-read (e ∷ entries) linked all =
    entries-some (listing (e ∷ entries)) (not-empty e (listing entries) all.0) ∙ chain-read e entries linked all
