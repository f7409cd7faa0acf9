-- Replies that land, one more at a time.
use Rattle.std.proofs.Common.{add-one, arith, ◌≡◌, ◌∙◌, refl, sym, ap, subst, ℕ, suc, ◌+◌, ◌-◌, ◌<◌, true, List, [], ◌∷◌, ◌++◌, length, take, drop, get_or, Option, Some, None}
use Rattle.std.specs.Prelude.{is_some}
use Rattle.std.proofs.Math.Seq.{take-suc, drop-cons}
use Rattle.std.proofs.lemmas.List.{take-append-drop}
use Rattle.smb_mux.specs.Answers.{AreAnswers}
use Rattle.share_state.specs.declared.request.Rep.{Rep}
use Rattle.fs_core.specs.declared.flight.Flight.{Flight}
use Rattle.fs_core.specs.Going.{AreRead}
use Rattle.fs_types.specs.declared.options.Options.{Options}
use Rattle.smb_mux.specs.declared.taken.Reply.{Reply}
use Rattle.fs_core.specs.Kept.{Kept}
use Rattle.fs_core.specs.Steps.{Lands, LandAll, next_turn, turned, turned_with}

pub land_more : (options : Options) (replies : List Reply) (r : Reply) (k k' k'' : Kept) → LandAll options replies k k' → Lands options r k' k''
    → LandAll options (replies ++ r ∷ []) k k''
land_more options [] r k k' k'' is lands = (k'', subst (λ (x : Kept). Lands options r x k'') is lands, refl)
land_more options (q ∷ replies) r k k' k'' all lands = (all.0, all.1, land_more options replies r all.0 k' k'' all.2 lands)

-- the header of each reply that is an answer reads
pub answers_read : (waiting : List (ℕ × ℕ)) (replies : List Reply) → AreAnswers waiting replies → AreRead replies
answers_read waiting [] answers = record {}
answers_read waiting (r ∷ replies) answers = (rw answers.0.headed refl, answers_read waiting replies answers.2)

-- early replies come to their turn, one more at a time
pub turned_on : (options : Options) (n : ℕ) (k k' : Kept) → is_some (next_turn k.flights k.early) ≡ true
    → k' ≡ turned_with options (next_turn k.flights k.early) (λ x. x) k → turned options (suc n) k ≡ turned options n k'
turned_on options n k k' some is = by (next_turn k.flights k.early) some is
  where
    by : (o : Option (Flight × Rep)) → is_some o ≡ true → k' ≡ turned_with options o (λ x. x) k → turned_with options o (turned options n) k ≡ turned options n k'
    by None some is = absurd (cc some)
    by (Some x) some is = ap (turned options n) (sym is)

-- so many are left at most
pub turned_left : (options : Options) (most i : ℕ) (k k' : Kept) → i < most → is_some (next_turn k.flights k.early) ≡ true
    → k' ≡ turned_with options (next_turn k.flights k.early) (λ x. x) k → turned options (most - i) k ≡ turned options (most - (i + 1)) k'
turned_left options most i k k' within some is =
    let less : most - i ≡ suc (most - (i + 1)) = omega (arith, within) in
    ap (λ (n : ℕ). turned options n k) less ∙ turned_on options (most - (i + 1)) k k' some is

-- the replies up to one more, and around one
pub taken_more : (replies : List Reply) (i : ℕ) (r : Reply) → i < length replies → r ≡ get_or replies i r → take (i + 1) replies ≡ take i replies ++ r ∷ []
taken_more replies i r within is =
    ap (λ (n : ℕ). take n replies) (add-one i) ∙ take-suc replies i r within ∙ ap (λ (x : Reply). take i replies ++ x ∷ []) (sym is)

pub split_at : (replies : List Reply) (i : ℕ) (r : Reply) → i < length replies → r ≡ get_or replies i r → replies ≡ take i replies ++ r ∷ drop (i + 1) replies
split_at replies i r within is =
    sym (take-append-drop i replies)
    ∙ ap (λ (l : List Reply). take i replies ++ l)
    (drop-cons replies i r within ∙ ap (λ (x : Reply). x ∷ drop (suc i) replies) (sym is) ∙ ap (λ (n : ℕ). r ∷ drop n replies) (sym (add-one i)))
