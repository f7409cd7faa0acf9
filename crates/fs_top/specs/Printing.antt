-- What a sink took of a text.
use Rattle.std.specs.Prelude.{◌≡◌, ◌<◌, ℕ, ◌⊎◌, List, ◌++◌, length, Option, option_map, true}
use Rattle.smb_link.specs.Count.{counted}

-- a sink as contracts see it: the bytes that it holds, where it tells them, how many writes failed, and how many took nothing
pub record Held : Type 0 where
  pub written : Option (List ℕ)
  pub faults : ℕ
  pub stalls : ℕ

abbrev pub held_by : {K : Type 0} → (K → Option (List ℕ)) → (K → ℕ) → (K → ℕ) → K → Held
held_by written faults stalls sink = record { written = written sink; faults = faults sink; stalls = stalls sink }

-- bytes with more at their end; what is not told stays untold
abbrev pub gained : Option (List ℕ) → List ℕ → Option (List ℕ)
gained written text = option_map (λ so_far. so_far ++ text) written

-- the sink took the whole text
pub record TookAll (text : List ℕ) (old new : Held) : Type 0 where
  pub text_held : new.written ≡ gained old.written text
  pub same_faults : new.faults ≡ old.faults
  pub same_stalls : new.stalls ≡ old.stalls

-- one write failed, or took nothing of a piece that has bytes
abbrev pub Refused : Held → Held → Type 0
Refused old new =
    ((new.faults ≡ counted old.faults true) × (new.stalls ≡ old.stalls))
    ⊎ ((new.faults ≡ old.faults) × (new.stalls ≡ counted old.stalls true))

-- the sink took a front of the text, less than all of it, and then refused
pub record TookFront (text : List ℕ) (old new : Held) : Type 0 where
  pub front : List ℕ
  pub rest : List ℕ
  pub parts : front ++ rest ≡ text
  pub some_left : 0 < length rest
  pub front_held : new.written ≡ gained old.written front
  pub refused : Refused old new

-- the sink took the line, and the status is that of the line; or it refused a part of the line, and the status is 8
abbrev pub PrintedAs : List ℕ → ℕ → Held → Held → ℕ → Type 0
PrintedAs line of_line old new status =
    ((status ≡ of_line) × TookAll line old new)
    ⊎ ((status ≡ 8) × TookFront line old new)
