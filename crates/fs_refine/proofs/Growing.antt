-- The share gives further numbers, and pairs become more: what stands for what was given stays.
use Rattle.std.proofs.Common.{arith, ◌≡◌, ◌∙◌, refl, sym, ap, ℕ, ◌+◌, ◌≤◌, List, [], ◌∷◌, ◌++◌, inl, inr, Option}
use Rattle.std.specs.Prelude.{map}
use Rattle.std.specs.List.{AllByRecursion}
use Rattle.smb_base.specs.declared.names.Fid.{Fid}
use Rattle.share_state.specs.declared.connection.Grant.{Grant}
use Rattle.share_state.specs.declared.request.Who.{Who}
use Rattle.share_state.specs.declared.request.Req.{Req}
use Rattle.share_state.specs.declared.share.Share.{Share}
use Rattle.share_state.specs.Step.{step_of}
use Rattle.fs_plain.specs.PlainSide.{PlainCall, PlainSide}
use Rattle.fs_plain.specs.Alike.{Alike}
use Rattle.fs_plain.proofs.Steps.{Counts, step_counts}
use Rattle.fs_plain.proofs.AlikeLaws.{alike_knows}
use Rattle.fs_client.specs.Item.{Item, Place, OfFile, KeptSince, Placed}
use Rattle.fs_client.proofs.Lists.{all_more}
use Rattle.fs_refine.specs.Calls.{plain_number, IsGiven, IsAlong, IsCall, described_as, all_described}

pub no_less : (n : ℕ) → n ≤ n
no_less n = omega arith

-- a request gives one number at most
pub made_more : (choice : Option Grant) (s : Share) (who : Who) (r : Req) → s.opens_made ≤ (step_of choice s who r).1.opens_made
made_more choice s who r = by (step_counts choice s who r)
  where
    same : (a b : ℕ) → b ≡ a → a ≤ b
    same a b is = omega (arith, is)

    more : (a b : ℕ) → b ≡ a + 1 → a ≤ b
    more a b is = omega (arith, is)

    by : Counts s (step_of choice s who r) → s.opens_made ≤ (step_of choice s who r).1.opens_made
    by (inl none) = same s.opens_made (step_of choice s who r).1.opens_made none.1
    by (inr one) = more s.opens_made (step_of choice s who r).1.opens_made one.1

pub given_later : (made made' : ℕ) (fid : Fid) → made ≤ made' → IsGiven made fid → IsGiven made' fid
given_later made made' fid more given = record { halves = given.halves; some = given.some; low = both fid.persistent given.low }
  where
    both : (n : ℕ) → n ≤ made → n ≤ made'
    both n low = omega (arith, low, more)

-- two moments, of which one comes later
pub record IsLater (s s' : Share) (p p' : PlainSide) : Type 0 where
  pub before : Alike s p
  pub after : Alike s' p'
  pub more : s.opens_made ≤ s'.opens_made

pub number_still : (s s' : Share) (p p' : PlainSide) (fid : Fid) → IsLater s s' p p' → IsGiven s.opens_made fid → plain_number p'.pairs fid ≡ plain_number p.pairs fid
number_still s s' p p' fid later given =
    alike_knows s' p' fid.persistent given.some (given_later s.opens_made s'.opens_made fid later.more given).low later.after
    ∙ sym (alike_knows s p fid.persistent given.some given.low later.before)

pub numbers_still : (s s' : Share) (p p' : PlainSide) (fids : List Fid) → IsLater s s' p p' → AllByRecursion (IsGiven s.opens_made) fids
    → map (plain_number p'.pairs) fids ≡ map (plain_number p.pairs) fids
numbers_still s s' p p' [] later all = refl
numbers_still s s' p p' (fid ∷ fids) later all =
    ap (λ (n : ℕ). n ∷ map (plain_number p'.pairs) fids) (number_still s s' p p' fid later all.0)
    ∙ ap (λ (l : List ℕ). plain_number p.pairs fid ∷ l) (numbers_still s s' p p' fids later all.1)

pub all_given_later : (made made' : ℕ) (fids : List Fid) → made ≤ made' → AllByRecursion (IsGiven made) fids → AllByRecursion (IsGiven made') fids
all_given_later made made' fids more all = all_more (IsGiven made) (IsGiven made') fids (λ fid given. given_later made made' fid more given) all

-- a call stands for its plain one
pub along_later : (s s' : Share) (p p' : PlainSide) (i : Item) (c : PlainCall) → IsLater s s' p p' → IsAlong p.pairs s.opens_made i c → IsAlong p'.pairs s'.opens_made i c
along_later s s' p p' i c later along = record {
  rest = along.rest;
  opened = along.opened ∙ sym (numbers_still s s' p p' i.fids later along.given);
  given = all_given_later s.opens_made s'.opens_made i.fids later.more along.given;
}

pub call_later : (s s' : Share) (p p' : PlainSide) → IsLater s s' p p' → (i : Item) (c : PlainCall) → IsCall p.pairs s.opens_made i c → IsCall p'.pairs s'.opens_made i c
call_later s s' p p' later i c is = record {
  number = is.number;
  lane = is.lane;
  call = is.call;
  announced = is.announced;
  file = is.file;
  along = λ whole. along_later s s' p p' i c later (is.along whole);
  parted = is.parted;
  unsent = is.unsent;
  unopened = is.unopened;
}

-- the open files
as_still : (s s' : Share) (p p' : PlainSide) (fid : Fid) (place : Place) → IsLater s s' p p' → IsGiven s.opens_made fid → described_as p'.pairs fid place ≡ described_as p.pairs fid place
as_still s s' p p' fid (OfFile file) later given = ap (λ (n : ℕ). (file, n) ∷ []) (number_still s s' p p' fid later given)
as_still s s' p p' fid (KeptSince time) later given = refl

pub described_still : (s s' : Share) (p p' : PlainSide) (placed : List Placed) → IsLater s s' p p' → AllByRecursion (λ (x : Placed). IsGiven s.opens_made x.fid) placed
    → all_described p'.pairs placed ≡ all_described p.pairs placed
described_still s s' p p' [] later all = refl
described_still s s' p p' (x ∷ xs) later all =
    ap (λ (l : List (ℕ × ℕ)). l ++ all_described p'.pairs xs) (as_still s s' p p' x.fid x.place later all.0)
    ∙ ap (λ (l : List (ℕ × ℕ)). described_as p.pairs x.fid x.place ++ l) (described_still s s' p p' xs later all.1)

pub placed_later : (made made' : ℕ) (placed : List Placed) → made ≤ made' → AllByRecursion (λ (x : Placed). IsGiven made x.fid) placed → AllByRecursion (λ (x : Placed). IsGiven made' x.fid) placed
placed_later made made' placed more all = all_more (λ (x : Placed). IsGiven made x.fid) (λ (x : Placed). IsGiven made' x.fid) placed (λ x given. given_later made made' x.fid more given) all
