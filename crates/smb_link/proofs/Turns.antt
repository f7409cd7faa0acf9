-- Turns of a link in memory, none of which is an empty piece.
use Rattle.std.proofs.Common.{◌≡◌, ◌≤◌, ℕ, zero, suc, ◌+◌, List, [], ◌∷◌, drop, length, refl, ap, sym, ◌∙◌, add-one, arith}
use Rattle.std.proofs.lemmas.List.{drop_all}
use Rattle.std.specs.Prelude.{filter}
use Rattle.smb_link.specs.declared.list_link.Given.{Given}
use Rattle.smb_link.specs.declared.list_link.Given.TheVariants as given
use Rattle.smb_link.specs.Given.{gives, AllGive, IsWithinFirst, without_front, turns_behind}

-- what the filter keeps gives something
pub AllGive-filter : (turns : List Given) → AllGive (filter gives turns)
AllGive-filter [] = tt
AllGive-filter (given.Piece [] ∷ turns) = AllGive-filter turns
AllGive-filter (given.Piece (b ∷ bs) ∷ turns) = (refl, AllGive-filter turns)
AllGive-filter (given.Quiet ∷ turns) = (refl, AllGive-filter turns)
AllGive-filter (given.Closed ∷ turns) = (refl, AllGive-filter turns)

pub AllGive-drop : (n : ℕ) (turns : List Given) → AllGive turns → AllGive (drop n turns)
AllGive-drop zero turns all = all
AllGive-drop (suc n) [] all = tt
AllGive-drop (suc n) (turn ∷ turns) all = AllGive-drop n turns all.1

-- the start of the turns is within the first
pub within_start : (turns : List Given) → AllGive turns → IsWithinFirst 0 turns
within_start [] all = refl
within_start (given.Piece [] ∷ turns) all = absurd (cc (all.0))
within_start (given.Piece (b ∷ bs) ∷ turns) all = omega arith
within_start (given.Quiet ∷ turns) all = refl
within_start (given.Closed ∷ turns) all = refl

-- a turn less, whatever was given of the first
pub turns_behind-without_front : (n : ℕ) (turns : List Given) → turns_behind (without_front n turns) ≡ turns_behind turns
turns_behind-without_front n [] = refl
turns_behind-without_front n (given.Piece bytes ∷ turns) = refl
turns_behind-without_front n (given.Quiet ∷ turns) = refl
turns_behind-without_front n (given.Closed ∷ turns) = refl

pub turns_behind-drop : (n : ℕ) (turns : List Given) → turns_behind (drop n turns) ≡ drop (suc n) turns
turns_behind-drop zero [] = refl
turns_behind-drop zero (turn ∷ turns) = refl
turns_behind-drop (suc n) [] = refl
turns_behind-drop (suc n) (turn ∷ turns) = turns_behind-drop n turns

pub without_front-zero : (turns : List Given) → without_front 0 turns ≡ turns
without_front-zero [] = refl
without_front-zero (given.Piece bytes ∷ turns) = refl
without_front-zero (given.Quiet ∷ turns) = refl
without_front-zero (given.Closed ∷ turns) = refl

-- the next turn is reached, at its start
pub without_front-next : (at next : ℕ) (turns : List Given) → without_front 0 (drop (next + 1) turns) ≡ turns_behind (without_front at (drop next turns))
without_front-next at next turns =
    without_front-zero (drop (next + 1) turns)
    ∙ ap (λ (n : ℕ). drop n turns) (add-one next)
    ∙ sym (turns_behind-drop next turns)
    ∙ sym (turns_behind-without_front at (drop next turns))

-- at the end there is no turn to pass
pub without_front-end : (at next : ℕ) (turns : List Given) → length turns ≤ next → without_front at (drop next turns) ≡ turns_behind (without_front at (drop next turns))
without_front-end at next turns end = rw (drop_all next turns end) refl
