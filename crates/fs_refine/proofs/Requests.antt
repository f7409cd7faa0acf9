-- A request of a call names on the plain share what it names on the real one, and has the same reply there.
use Rattle.std.proofs.Common.{rules, arith, ◌≡◌, ◌∙◌, refl, sym, ap, subst, ℕ, zero, suc, ◌==◌, ◌≤◌, Bool, true, false, if◌then◌else◌, get_or, List, [], ◌∷◌, ◌++◌, Option, Some, None}
use Rattle.std.specs.Prelude.{map, unwrap_or, option_map, is_some, ◌&&◌}
use Rattle.std.specs.List.{AllByRecursion}
use Rattle.std.specs.Str.{bytes_eq}
use Rattle.std.proofs.lemmas.Bool.{false≢true}
use Rattle.smb_base.specs.declared.names.Fid.{Fid}
use Rattle.share_state.specs.declared.request.Req.TheVariants as req
use Rattle.share_state.specs.declared.request.Rep.{Rep}
use Rattle.share_state.specs.declared.request.RepBody.{RepBody}
use Rattle.share_state.specs.declared.request.RepBody.TheVariants as body
use Rattle.share_state.specs.Built.{is_built}
use Rattle.share_state.specs.Reply.{fid_of, map_fid}
use Rattle.share_state.specs.PlainShare.{shown, shown_body}
use Rattle.smb_link.specs.Program.{File, Own, Named, Wish, Open as Opening, Query, Close}
use Rattle.fs_plain.specs.Wishes.{wish_of, is_wished}
use Rattle.fs_plain.specs.Paired.{opened_number, NamesIn, Pair, pair_of_real, open_given, paired, pair_given, plain_of_real}
use Rattle.fs_plain.specs.PlainSide.{PlainCall, PlainSide, looked_up, nth_open, open_described, plain_file_id, with_given}
use Rattle.fs_plain.specs.Divergence.{fid_carried}
use Rattle.fs_client.specs.Item.{Item, Place, OfFile, KeptSince, Placed, fid_placed, fid_named, is_of_file, fids_with}
use Rattle.fs_client.specs.Flies.{files_of}
use Rattle.fs_client.proofs.Lists.{itself}
use Rattle.fs_refine.specs.Calls.{plain_number, IsGiven, IsAlong, described_as, all_described}

-- a request of a wish is that wish, and the machine takes it
number_itself : (n : ℕ) → (n == n) ≡ true
number_itself n = search rules

bytes_itself : (xs : List ℕ) → bytes_eq xs xs ≡ true
bytes_itself xs = search rules

and_true : (a b : Bool) → a ≡ true → b ≡ true → (a && b) ≡ true
and_true a b x y = ap (λ (t : Bool). t && b) x ∙ y

pub wished_itself : (files : File → Fid) (wish : Wish) → is_wished wish (wish_of files wish) ≡ true
wished_itself files (Opening path access disposition options) =
    and_true _ _ (and_true _ _ (and_true _ _ (and_true _ _ (and_true _ _ (bytes_itself path) (number_itself access)) refl) (number_itself disposition)) (number_itself options)) (number_itself _)
wished_itself files (Query file) = refl
wished_itself files (Close file) = refl

pub wish_built : (files : File → Fid) (wish : Wish) → is_built (wish_of files wish) ≡ true
wish_built files (Opening path access disposition options) = refl
wish_built files (Query file) = refl
wish_built files (Close file) = refl

-- a file id that was given stands for the plain one
pub given_carried : (pairs : List Pair) (made : ℕ) (fid : Fid) → IsGiven made fid → fid_carried pairs fid ≡ fid_of (plain_number pairs fid)
given_carried pairs made fid given =
    ap (fid_carried pairs) given.halves ∙ ap (λ (b : Bool). if b then fid_of (plain_of_real pairs fid.persistent) else fid_of 0) (itself fid.persistent)

none_carried : (pairs : List Pair) → plain_of_real pairs 0 ≡ 0 → fid_carried pairs (fid_of 0) ≡ fid_of 0
none_carried pairs none = ap fid_of none

-- the opens that a call made
own_carried : (pairs : List Pair) (made n : ℕ) (fids : List Fid) → plain_of_real pairs 0 ≡ 0 → AllByRecursion (IsGiven made) fids
    → fid_carried pairs (get_or fids n (fid_of 0)) ≡ fid_of (unwrap_or (nth_open n (map (plain_number pairs) fids)) 0)
own_carried pairs made n [] none all = none_carried pairs none
own_carried pairs made zero (fid ∷ fids) none all = given_carried pairs made fid all.0
own_carried pairs made (suc n) (fid ∷ fids) none all = own_carried pairs made n fids none all.1

-- the open file that its descriptor named
placed_carried : (pairs : List Pair) (made file : ℕ) (placed : List Placed) → plain_of_real pairs 0 ≡ 0 → AllByRecursion (λ (x : Placed). IsGiven made x.fid) placed
    → fid_carried pairs (unwrap_or (fid_placed file placed) (fid_of 0)) ≡ fid_of (unwrap_or (looked_up file (all_described pairs placed)) 0)
placed_carried pairs made file [] none all = none_carried pairs none
placed_carried pairs made file (x ∷ xs) none all = by x.place (placed_carried pairs made file xs none all.1)
  where
    by : (place : Place) → fid_carried pairs (unwrap_or (fid_placed file xs) (fid_of 0)) ≡ fid_of (unwrap_or (looked_up file (all_described pairs xs)) 0)
        → fid_carried pairs (unwrap_or (if is_of_file file place then Some x.fid else fid_placed file xs) (fid_of 0)) ≡ fid_of (unwrap_or (looked_up file (described_as pairs x.fid place ++ all_described pairs xs)) 0)
    by (OfFile n) deeper = at (n == file)
      where
        at : (t : Bool) → fid_carried pairs (unwrap_or (if t then Some x.fid else fid_placed file xs) (fid_of 0))
            ≡ fid_of (unwrap_or (if t then Some (plain_number pairs x.fid) else looked_up file (all_described pairs xs)) 0)
        at true = given_carried pairs made x.fid all.0
        at false = deeper
    by (KeptSince time) deeper = deeper

named_carried : (pairs : List Pair) (made : ℕ) (file : Option ℕ) (placed : List Placed) → plain_of_real pairs 0 ≡ 0 → AllByRecursion (λ (x : Placed). IsGiven made x.fid) placed
    → fid_carried pairs (unwrap_or (fid_named file placed) (fid_of 0)) ≡ fid_of (unwrap_or (open_described file (all_described pairs placed)) 0)
named_carried pairs made None placed none all = none_carried pairs none
named_carried pairs made (Some file) placed none all = placed_carried pairs made file placed none all

-- what ties a call's files on both sides
pub record HasFiles (p : PlainSide) (made : ℕ) (placed : List Placed) (i : Item) (c : PlainCall) : Type 0 where
  pub none : plain_of_real p.pairs 0 ≡ 0
  pub described : p.described ≡ all_described p.pairs placed
  pub given : AllByRecursion (λ (x : Placed). IsGiven made x.fid) placed
  pub file : c.file ≡ i.file
  pub along : IsAlong p.pairs made i c

file_carried : (p : PlainSide) (made : ℕ) (placed : List Placed) (i : Item) (c : PlainCall) → HasFiles p made placed i c → (file : File)
    → fid_carried p.pairs (files_of i placed i.fids file) ≡ plain_file_id c p.described file
file_carried p made placed i c has (Own n) =
    own_carried p.pairs made n i.fids has.none has.along.given ∙ ap (λ (l : List ℕ). fid_of (unwrap_or (nth_open n l) 0)) (sym has.along.opened)
file_carried p made placed i c has Named =
    named_carried p.pairs made i.file placed has.none has.given
    ∙ ap (λ (l : List (ℕ × ℕ)). fid_of (unwrap_or (open_described i.file l) 0)) (sym has.described)
    ∙ ap (λ (f : Option ℕ). fid_of (unwrap_or (open_described f p.described) 0)) (sym has.file)

-- so its request is the same there
pub wish_carried : (p : PlainSide) (made : ℕ) (placed : List Placed) (i : Item) (c : PlainCall) → HasFiles p made placed i c → (wish : Wish)
    → map_fid (fid_carried p.pairs) (wish_of (files_of i placed i.fids) wish) ≡ wish_of (plain_file_id c p.described) wish
wish_carried p made placed i c has (Opening path access disposition options) = refl
wish_carried p made placed i c has (Query file) = ap (λ (fid : Fid). req.Query fid) (file_carried p made placed i c has file)
wish_carried p made placed i c has (Close file) = ap (λ (fid : Fid). req.Close fid) (file_carried p made placed i c has file)

-- replies that show the same give an open both, or none
shown_gives : (b : RepBody) → is_some (open_given (shown_body b)) ≡ is_some (open_given b)
shown_gives (body.Opened fid action size attributes lease durable) = refl
shown_gives other = refl

both_give : (a b : Rep) → shown a ≡ shown b → is_some (open_given a.body) ≡ is_some (open_given b.body)
both_give a b same = sym (shown_gives a.body) ∙ ap (λ (r : Rep). is_some (open_given r.body)) same ∙ shown_gives b.body

-- the file id that a reply gives, where the real share gave it
pub record GivesFid (made : ℕ) (b : RepBody) (fids : List Fid) : Type 0 where
  pub fid : Fid
  pub more : fids_with b fids ≡ fids ++ fid ∷ []
  pub gives : open_given b ≡ Some fid.persistent
  pub given : IsGiven made fid

some_at_least : (n : ℕ) → (n == 0) ≡ false → 1 ≤ n
some_at_least zero is = absurd (false≢true (sym is))
some_at_least (suc n) is = omega arith

gives_fid : (made : ℕ) (b : RepBody) (fids : List Fid) → NamesIn b → is_some (open_given b) ≡ true → opened_number b ≤ made → GivesFid made b fids
gives_fid made (body.Opened fid action size attributes lease durable) fids names some low = record {
  fid = fid;
  more = refl;
  gives = refl;
  given = record { halves = names.0; some = some_at_least fid.persistent names.1; low = low };
}
gives_fid made other fids names some low = absurd (false≢true some)

gives_none : (b : RepBody) (fids : List Fid) → is_some (open_given b) ≡ false → fids_with b fids ≡ fids
gives_none (body.Opened fid action size attributes lease durable) fids none = absurd (false≢true (sym none))
gives_none other fids none = refl

-- the opens of a call after its request was done on both shares
pub record Opens (pairs : List Pair) (made : ℕ) (fids : List Fid) (opened : List ℕ) : Type 0 where
  pub opened_is : opened ≡ map (plain_number pairs) fids
  pub given : AllByRecursion (IsGiven made) fids

map_append : (f : Fid → ℕ) (xs : List Fid) (x : Fid) → map f (xs ++ x ∷ []) ≡ map f xs ++ f x ∷ []
map_append f [] x = refl
map_append f (y ∷ ys) x = ap (λ (l : List ℕ). f y ∷ l) (map_append f ys x)

all_append : (made : ℕ) (xs : List Fid) (x : Fid) → AllByRecursion (IsGiven made) xs → IsGiven made x → AllByRecursion (IsGiven made) (xs ++ x ∷ [])
all_append made [] x all is = (is, tt)
all_append made (y ∷ ys) x all is = (all.0, all_append made ys x all.1 is)

-- the plain reply and the real one show the same; the new pair, if there is one, stands in front; and the older file ids stand for what
-- they stood for
pub opens_after : (path : List ℕ) (pairs : List Pair) (made : ℕ) (plain real : Rep) (fids : List Fid) (opened : List ℕ) → shown plain ≡ shown real → NamesIn real.body → opened_number real.body ≤ made
    → opened ≡ map (plain_number (pair_given path plain real ++ pairs)) fids → AllByRecursion (IsGiven made) fids
    → Opens (pair_given path plain real ++ pairs) made (fids_with real.body fids) (with_given (open_given plain.body) opened)
opens_after path pairs made plain real fids opened same names low opened_is given = by (open_given plain.body) refl (is_some (open_given real.body)) refl
  where
    none_is : (o : Option ℕ) → is_some o ≡ false → o ≡ None
    none_is None is = refl
    none_is (Some n) is = absurd (false≢true (sym is))

    by : (o : Option ℕ) → open_given plain.body ≡ o → (t : Bool) → is_some (open_given real.body) ≡ t
        → Opens (pair_given path plain real ++ pairs) made (fids_with real.body fids) (with_given (open_given plain.body) opened)
    by None is true some = absurd (false≢true (sym (ap (λ (o : Option ℕ). is_some o) is) ∙ both_give plain real same ∙ some))
    by (Some n) is false some = absurd (false≢true (sym (sym (ap (λ (o : Option ℕ). is_some o) is) ∙ both_give plain real same ∙ some)))
    by None is false some = record {
      opened_is = ap (λ (o : Option ℕ). with_given o opened) is ∙ opened_is ∙ ap (map (plain_number (pair_given path plain real ++ pairs))) (sym (gives_none real.body fids some));
      given = subst (AllByRecursion (IsGiven made)) (sym (gives_none real.body fids some)) given;
    }
    by (Some n) is true some =
        let g = gives_fid made real.body fids names some low in
        let front : pair_given path plain real ++ pairs ≡ record { plain = n; real = g.fid.persistent; path = path } ∷ pairs =
        ap (λ (o : Option ℕ). paired path o (open_given real.body) ++ pairs) is ∙ ap (λ (o : Option ℕ). paired path (Some n) o ++ pairs) g.gives in
        let new : plain_number (pair_given path plain real ++ pairs) g.fid ≡ n =
        ap (λ (l : List Pair). plain_number l g.fid) front
        ∙ ap (λ (b : Bool). unwrap_or (option_map (λ (pair : Pair). pair.plain) (if b then Some (record { plain = n; real = g.fid.persistent; path = path }) else pair_of_real g.fid.persistent pairs)) 0) (itself g.fid.persistent) in
        record {
          opened_is = ap (λ (o : Option ℕ). with_given o opened) is
              ∙ ap (λ (l : List ℕ). l ++ n ∷ []) opened_is
              ∙ ap (λ (m : ℕ). map (plain_number (pair_given path plain real ++ pairs)) fids ++ m ∷ []) (sym new)
              ∙ sym (map_append (plain_number (pair_given path plain real ++ pairs)) fids g.fid)
              ∙ ap (map (plain_number (pair_given path plain real ++ pairs))) (sym g.more);
          given = subst (AllByRecursion (IsGiven made)) (sym g.more) (all_append made fids g.fid given g.given);
        }
