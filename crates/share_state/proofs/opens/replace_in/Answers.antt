use Rattle.std.proofs.Common.{◌≡◌, ℕ, ◌+◌, ◌<◌, Bool, true, List, ◌∷◌, ◌++◌, length, take, drop, get_or, set, sym, ap, ◌∙◌, cond, arith, rules, length-take}
use Rattle.std.proofs.lemmas.List.{drop_more, set_at, take-append-drop}
use Rattle.share_state.specs.State.{edited}
use Rattle.share_state.specs.Close.{is_open_of}
use Rattle.share_state.proofs.opens.replace_in.Goals as goal

-- the first item of this kind is changed where it stands
set_edited : {X : Type 0} (is : X → Bool) (change : X → X) (xs : List X) (i : ℕ) (x : X) → i < length xs → is (get_or xs i x) ≡ true
    → edited is change xs ≡ take i xs ++ edited is change (drop i xs) → set xs i (change (get_or xs i x)) ≡ edited is change xs
set_edited is change xs i x lt found so_far =
    let long : length (take i xs) ≡ i = omega (arith, length-take i xs) in
    let rest = drop_more xs i x lt in
    let parts : xs ≡ take i xs ++ get_or xs i x ∷ drop (i + 1) xs = sym (take-append-drop i xs) ∙ ap (λ l. take i xs ++ l) rest in
    ap (λ l. set l i (change (get_or xs i x))) parts ∙ set_at (take i xs) _ _ (change (get_or xs i x)) i long
    ∙ sym (so_far ∙ ap (λ l. take i xs ++ edited is change l) rest
    ∙ ap (λ b. take i xs ++ cond b (change (get_or xs i x) ∷ drop (i + 1) xs) (get_or xs i x ∷ edited is change (drop (i + 1) xs))) found)

pub returns-then-is_open_of-clause-after : goal.returns-then-is_open_of-clause-after
returns-then-is_open_of-clause-after c = rw (c.replace.ensures.after, c.loop-open.invariant.same) (set_edited (is_open_of c.args.who c.args.fid) (λ o. record o { snapshot = c.args.snapshot }) c.args.opens.now c.loop-open.open-index c.open-item.result (search rules) (search rules) c.loop-open.invariant.after)
