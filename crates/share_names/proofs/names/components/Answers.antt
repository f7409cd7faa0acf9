use Rattle.std.proofs.Common.{rules, ◌≡◌, ◌==◌, ◌∙◌, ap, map, List, Option, None}
use Rattle.std.specs.Slice.Iter.{split_rest, split_done, split_callee}
use Rattle.std.specs.Iterator.{Yields}
use Rattle.std.proofs.lemmas.Iterator.Consumers.{YieldsList-end}
use Rattle.std.proofs.lemmas.Iterator.{YieldsList}
use Rattle.std.proofs.lemmas.Iterator.Splits.{YieldsList-from_slice_split}
use Rattle.share_state.specs.Names.{components}
use Rattle.share_names.proofs.names.components.Goals as goal

-- what an iterator gave once it gives nothing more
all_given : {S A B : Type 0} {steps : S → Option A → S → Type 0} {v : A → B} {s : S} {all : List B} (xs : List A) (t : S) (y : Yields steps s xs t) → (r : Option A) (u : S) → r ≡ None → steps t r u → YieldsList steps v s all → map v xs ≡ all
all_given xs t y r u none step road = (YieldsList-end road xs t y r u none step).0

pub returns : goal.returns
unfolding components
returns c =
    let same = c.into_iter-part-iterator.ensures.into_iter_gives in
    rw (← c.if-is_empty.ensures) (c.loop-part.invariant ∙ all_given c.loop-part.yielded c.loop-part.part-iterator c.loop-part.yielded_by c.next.result c.next.new.self c.in-None.is c.next.ensures.steps
    (YieldsList-from_slice_split {s = c.into_iter-part-iterator.result} _ (λ u. u == 0x5C) c.args.path.now (ap split_rest same ∙ c.split-part-items.ensures.rest) (ap split_done same ∙ c.split-part-items.ensures.done) (ap split_callee same ∙ c.split-part-items.ensures.closure) (λ x b q k. search rules)))
