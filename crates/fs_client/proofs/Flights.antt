-- The requests in flight of a call: as other requests come and go, and once one of them has its reply.
use Rattle.std.proofs.Common.{arith, ◌≡◌, ◌∙◌, refl, sym, ap, subst, ℕ, ◌==◌, ◌<◌, Bool, true, false, cond, if◌then◌else◌, not, List, [], ◌∷◌, ◌++◌, Option, Some, None, inl, inr, map-id}
use Rattle.std.specs.Prelude.{MatchBool, map, ◌&&◌, is_some}
use Rattle.std.specs.List.{AllByRecursion}
use Rattle.std.proofs.lemmas.Bool.{false≢true}
use Rattle.std.proofs.lemmas.Bool.Decides.{eqb_tells, nat_tests}
use Rattle.smb_base.specs.declared.names.Fid.{Fid}
use Rattle.smb_base.specs.declared.names.Mid.{Mid}
use Rattle.share_state.specs.declared.connection.LastCreate.{LastCreate}
use Rattle.share_state.specs.declared.connection.Sent.{Sent}
use Rattle.share_state.specs.declared.request.Rep.{Rep}
use Rattle.share_state.specs.PlainShare.{shown}
use Rattle.share_state.specs.Sent.{behind_create, sent_but, sent_with}
use Rattle.smb_link.specs.Program.{File, Program, Known, Ask, Look, Say, settled}
use Rattle.fs_plain.specs.Requests.{WireRequest, wire_request}
use Rattle.fs_plain.specs.World.{is_creating, refusal_before, came_to, is_first_of_frame}
use Rattle.fs_client.specs.Item.{fids_after}
use Rattle.fs_client.specs.Asked.{creates, creates_as, is_refused, refused_as, behind_it, left_by}
use Rattle.fs_client.specs.Flies.{AsksNext, FliesAs}
use Rattle.fs_client.specs.Sane.{IsAbove, AreRising}
use Rattle.fs_client.proofs.Lists.{some_is, itself, all_more}

pub either_more : (b : Bool) (P Q R S : Type 0) → (P → R) → (Q → S) → MatchBool b P Q → MatchBool b R S
either_more true P Q R S f g h = f h
either_more false P Q R S f g h = g h

pub asks_more : (files : List Fid → File → Fid) (x : Sent) (fids : List Fid) (p : Program) (T U : Program → Rep → Type 0)
    → ((rest : Program) (reply : Rep) → T rest reply → U rest reply) → AsksNext files x fids p T → AsksNext files x fids p U
asks_more files x fids (Ask wish rest) T U f h = (h.0, λ reply fit. f (rest (shown reply)) reply (h.1 reply fit))
asks_more files x fids (Look rest) T U f h = h
asks_more files x fids (Say answer) T U f h = h

-- the first of some requests, where it is of the frame
abbrev pub Here : (List Fid → File → Fid) → Known → Mid → (Sent → Sent) → Program → List Fid → Sent → List Sent → Type 0
Here files known frame seen p fids x xs =
    MatchBool (is_refused (seen x)) (FliesAs files known frame seen p fids xs)
    (AsksNext files (seen x) fids (settled known p) (λ rest reply. FliesAs files known frame (λ y. behind_it (seen x) reply (seen y)) rest (fids_after reply fids) xs))

pub flies_none : (files : List Fid → File → Fid) (known : Known) (frame : Mid) (seen : Sent → Sent) (p : Program) (fids : List Fid) → FliesAs files known frame seen p fids []
unfolding FliesAs
flies_none files known frame seen p fids = record {}

pub flies_in : (files : List Fid → File → Fid) (known : Known) (frame : Mid) (seen : Sent → Sent) (p : Program) (fids : List Fid) (x : Sent) (xs : List Sent)
    → (x.frame.0 == frame.0) ≡ true → Here files known frame seen p fids x xs → FliesAs files known frame seen p fids (x ∷ xs)
unfolding FliesAs
flies_in files known frame seen p fids x xs is here =
    subst (λ (b : Bool). MatchBool b (Here files known frame seen p fids x xs) (FliesAs files known frame seen p fids xs)) (sym is) here

pub in_flies : (files : List Fid → File → Fid) (known : Known) (frame : Mid) (seen : Sent → Sent) (p : Program) (fids : List Fid) (x : Sent) (xs : List Sent)
    → (x.frame.0 == frame.0) ≡ true → FliesAs files known frame seen p fids (x ∷ xs) → Here files known frame seen p fids x xs
unfolding FliesAs
in_flies files known frame seen p fids x xs is f =
    subst (λ (b : Bool). MatchBool b (Here files known frame seen p fids x xs) (FliesAs files known frame seen p fids xs)) is f

pub flies_out : (files : List Fid → File → Fid) (known : Known) (frame : Mid) (seen : Sent → Sent) (p : Program) (fids : List Fid) (x : Sent) (xs : List Sent)
    → (x.frame.0 == frame.0) ≡ false → FliesAs files known frame seen p fids xs → FliesAs files known frame seen p fids (x ∷ xs)
unfolding FliesAs
flies_out files known frame seen p fids x xs is f =
    subst (λ (b : Bool). MatchBool b (Here files known frame seen p fids x xs) (FliesAs files known frame seen p fids xs)) (sym is) f

pub out_flies : (files : List Fid → File → Fid) (known : Known) (frame : Mid) (seen : Sent → Sent) (p : Program) (fids : List Fid) (x : Sent) (xs : List Sent)
    → (x.frame.0 == frame.0) ≡ false → FliesAs files known frame seen p fids (x ∷ xs) → FliesAs files known frame seen p fids xs
unfolding FliesAs
out_flies files known frame seen p fids x xs is f =
    subst (λ (b : Bool). MatchBool b (Here files known frame seen p fids x xs) (FliesAs files known frame seen p fids xs)) is f

-- a frame with none of these
pub flies_elsewhere : (files : List Fid → File → Fid) (known : Known) (frame : Mid) (seen : Sent → Sent) (p : Program) (fids : List Fid) (xs : List Sent)
    → AllByRecursion (λ (x : Sent). (x.frame.0 == frame.0) ≡ false) xs → FliesAs files known frame seen p fids xs
flies_elsewhere files known frame seen p fids [] all = flies_none files known frame seen p fids
flies_elsewhere files known frame seen p fids (x ∷ xs) all =
    flies_out files known frame seen p fids x xs all.0 (flies_elsewhere files known frame seen p fids xs all.1)

-- the first one goes on as before, whatever becomes of those behind it
here_more : (files : List Fid → File → Fid) (known : Known) (frame : Mid) (seen seen' : Sent → Sent) (p : Program) (fids : List Fid) (x x' : Sent) (xs ys : List Sent)
    → seen' x' ≡ seen x
    → (FliesAs files known frame seen p fids xs → FliesAs files known frame seen' p fids ys)
    → ((rest : Program) (reply : Rep) → FliesAs files known frame (λ y. behind_it (seen x) reply (seen y)) rest (fids_after reply fids) xs
    → FliesAs files known frame (λ y. behind_it (seen x) reply (seen' y)) rest (fids_after reply fids) ys)
    → Here files known frame seen p fids x xs → Here files known frame seen' p fids x' ys
here_more files known frame seen seen' p fids x x' xs ys same past on here =
    subst (λ (z : Sent). MatchBool (is_refused z) (FliesAs files known frame seen' p fids ys)
    (AsksNext files z fids (settled known p) (λ rest reply. FliesAs files known frame (λ y. behind_it z reply (seen' y)) rest (fids_after reply fids) ys)))
    (sym same)
    (either_more (is_refused (seen x)) _ _ _ _ past
    (asks_more files (seen x) fids (settled known p) _ _ on) here)

-- requests that stay in their frames
pub flies_map : (files : List Fid → File → Fid) (known : Known) (frame : Mid) (seen h : Sent → Sent) (p : Program) (fids : List Fid) (xs : List Sent)
    → ((x : Sent) → (h x).frame ≡ x.frame) → FliesAs files known frame (λ y. seen (h y)) p fids xs → FliesAs files known frame seen p fids (map h xs)
flies_map files known frame seen h p fids [] same f = flies_none files known frame seen p fids
flies_map files known frame seen h p fids (x ∷ xs) same f = elim (eqb_tells x.frame.0 frame.0) [
  | inl told ↦ flies_in files known frame seen p fids (h x) (map h xs) (ap (λ (m : Mid). m.0 == frame.0) (same x) ∙ told.0)
      (here_more files known frame (λ y. seen (h y)) seen p fids x (h x) xs (map h xs) refl
      (flies_map files known frame seen h p fids xs same)
      (λ rest reply. flies_map files known frame (λ y. behind_it (seen (h x)) reply (seen y)) h rest (fids_after reply fids) xs same)
      (in_flies files known frame (λ y. seen (h y)) p fids x xs told.0 f))
  | inr told ↦ flies_out files known frame seen p fids (h x) (map h xs) (ap (λ (m : Mid). m.0 == frame.0) (same x) ∙ told.0)
      (flies_map files known frame seen h p fids xs same (out_flies files known frame (λ y. seen (h y)) p fids x xs told.0 f))
]

-- a change that keeps those of the frame as they are
pub flies_kept : (files : List Fid → File → Fid) (known : Known) (frame : Mid) (seen h : Sent → Sent) (p : Program) (fids : List Fid) (xs : List Sent)
    → ((x : Sent) → (h x).frame ≡ x.frame) → ((x : Sent) → (x.frame.0 == frame.0) ≡ true → h x ≡ x)
    → FliesAs files known frame seen p fids xs → FliesAs files known frame seen p fids (map h xs)
flies_kept files known frame seen h p fids [] same kept f = flies_none files known frame seen p fids
flies_kept files known frame seen h p fids (x ∷ xs) same kept f = elim (eqb_tells x.frame.0 frame.0) [
  | inl told ↦ flies_in files known frame seen p fids (h x) (map h xs) (ap (λ (m : Mid). m.0 == frame.0) (same x) ∙ told.0)
      (here_more files known frame seen seen p fids x (h x) xs (map h xs) (ap seen (kept x told.0))
      (flies_kept files known frame seen h p fids xs same kept)
      (λ rest reply. flies_kept files known frame (λ y. behind_it (seen x) reply (seen y)) h rest (fids_after reply fids) xs same kept)
      (in_flies files known frame seen p fids x xs told.0 f))
  | inr told ↦ flies_out files known frame seen p fids (h x) (map h xs) (ap (λ (m : Mid). m.0 == frame.0) (same x) ∙ told.0)
      (flies_kept files known frame seen h p fids xs same kept (out_flies files known frame seen p fids x xs told.0 f))
]

-- a request of another frame goes
pub flies_but : (files : List Fid → File → Fid) (known : Known) (frame : Mid) (seen : Sent → Sent) (m : Mid) (p : Program) (fids : List Fid) (xs : List Sent)
    → AllByRecursion (λ (x : Sent). (x.mid.0 == m.0) ≡ true → (x.frame.0 == frame.0) ≡ false) xs → FliesAs files known frame seen p fids xs → FliesAs files known frame seen p fids (sent_but m xs)
flies_but files known frame seen m p fids [] other f = f
flies_but files known frame seen m p fids (x ∷ xs) other f = elim (eqb_tells x.mid.0 m.0) [
  | inl told ↦
      subst (λ (b : Bool). FliesAs files known frame seen p fids (cond (not b) (x ∷ sent_but m xs) (sent_but m xs))) (sym told.0)
      (flies_but files known frame seen m p fids xs other.1 (out_flies files known frame seen p fids x xs (other.0 told.0) f))
  | inr told ↦
      subst (λ (b : Bool). FliesAs files known frame seen p fids (cond (not b) (x ∷ sent_but m xs) (sent_but m xs))) (sym told.0) (elim (eqb_tells x.frame.0 frame.0) [
        | inl at ↦ flies_in files known frame seen p fids x (sent_but m xs) at.0
            (here_more files known frame seen seen p fids x x xs (sent_but m xs) refl
            (flies_but files known frame seen m p fids xs other.1)
            (λ rest reply. flies_but files known frame (λ y. behind_it (seen x) reply (seen y)) m rest (fids_after reply fids) xs other.1)
            (in_flies files known frame seen p fids x xs at.0 f))
        | inr at ↦ flies_out files known frame seen p fids x (sent_but m xs) at.0
            (flies_but files known frame seen m p fids xs other.1 (out_flies files known frame seen p fids x xs at.0 f))
      ])
]

-- requests of another frame come
pub flies_append : (files : List Fid → File → Fid) (known : Known) (frame : Mid) (seen : Sent → Sent) (p : Program) (fids : List Fid) (xs ys : List Sent)
    → AllByRecursion (λ (y : Sent). (y.frame.0 == frame.0) ≡ false) ys → FliesAs files known frame seen p fids xs → FliesAs files known frame seen p fids (xs ++ ys)
flies_append files known frame seen p fids [] ys other f = flies_elsewhere files known frame seen p fids ys other
flies_append files known frame seen p fids (x ∷ xs) ys other f = elim (eqb_tells x.frame.0 frame.0) [
  | inl told ↦ flies_in files known frame seen p fids x (xs ++ ys) told.0
      (here_more files known frame seen seen p fids x x xs (xs ++ ys) refl
      (flies_append files known frame seen p fids xs ys other)
      (λ rest reply. flies_append files known frame (λ y. behind_it (seen x) reply (seen y)) rest (fids_after reply fids) xs ys other)
      (in_flies files known frame seen p fids x xs told.0 f))
  | inr told ↦ flies_out files known frame seen p fids x (xs ++ ys) told.0
      (flies_append files known frame seen p fids xs ys other (out_flies files known frame seen p fids x xs told.0 f))
]

-- behind requests of other frames
pub flies_behind : (files : List Fid → File → Fid) (known : Known) (frame : Mid) (seen : Sent → Sent) (p : Program) (fids : List Fid) (xs ys : List Sent)
    → AllByRecursion (λ (x : Sent). (x.frame.0 == frame.0) ≡ false) xs → FliesAs files known frame seen p fids ys → FliesAs files known frame seen p fids (xs ++ ys)
flies_behind files known frame seen p fids [] ys other f = f
flies_behind files known frame seen p fids (x ∷ xs) ys other f =
    flies_out files known frame seen p fids x (xs ++ ys) other.0 (flies_behind files known frame seen p fids xs ys other.1 f)

-- what a CREATE came to leaves of a request, and what it leaves alone
pub behind_frame : (at : Mid) (last : LastCreate) (y : Sent) → (behind_create at last y).frame ≡ y.frame
behind_frame at last y = by (y.frame.0 == at.0)
  where
    by : (t : Bool) → (if t then record y { last_create = last } else y).frame ≡ y.frame
    by true = refl
    by false = refl

pub behind_mid : (at : Mid) (last : LastCreate) (y : Sent) → (behind_create at last y).mid ≡ y.mid
behind_mid at last y = by (y.frame.0 == at.0)
  where
    by : (t : Bool) → (if t then record y { last_create = last } else y).mid ≡ y.mid
    by true = refl
    by false = refl

pub behind_message : (at : Mid) (last : LastCreate) (y : Sent) → (behind_create at last y).message ≡ y.message
behind_message at last y = by (y.frame.0 == at.0)
  where
    by : (t : Bool) → (if t then record y { last_create = last } else y).message ≡ y.message
    by true = refl
    by false = refl

pub it_frame : (x : Sent) (reply : Rep) (y : Sent) → (behind_it x reply y).frame ≡ y.frame
it_frame x reply y = by (creates x)
  where
    by : (t : Bool) → (if t then behind_create x.frame (came_to reply reply.body) y else y).frame ≡ y.frame
    by true = behind_frame x.frame (came_to reply reply.body) y
    by false = refl

pub it_mid : (x : Sent) (reply : Rep) (y : Sent) → (behind_it x reply y).mid ≡ y.mid
it_mid x reply y = by (creates x)
  where
    by : (t : Bool) → (if t then behind_create x.frame (came_to reply reply.body) y else y).mid ≡ y.mid
    by true = behind_mid x.frame (came_to reply reply.body) y
    by false = refl

pub it_message : (x : Sent) (reply : Rep) (y : Sent) → (behind_it x reply y).message ≡ y.message
it_message x reply y = by (creates x)
  where
    by : (t : Bool) → (if t then behind_create x.frame (came_to reply reply.body) y else y).message ≡ y.message
    by true = behind_message x.frame (came_to reply reply.body) y
    by false = refl

-- a request of another frame is left alone
pub it_elsewhere : (x : Sent) (reply : Rep) (y : Sent) → (y.frame.0 == x.frame.0) ≡ false → behind_it x reply y ≡ y
it_elsewhere x reply y other = by (creates x)
  where
    by : (t : Bool) → (if t then behind_create x.frame (came_to reply reply.body) y else y) ≡ y
    by true = ap (λ (b : Bool). if b then record y { last_create = came_to reply reply.body } else y) other
    by false = refl

-- what is left of requests
pub left_is : (x : Sent) (reply : Rep) (xs : List Sent) → left_by x reply xs ≡ map (behind_it x reply) (sent_but x.mid xs)
left_is x reply xs = by (creates x)
  where
    by : (t : Bool) → (if t then map (behind_create x.frame (came_to reply reply.body)) (sent_but x.mid xs) else sent_but x.mid xs)
        ≡ map (λ y. if t then behind_create x.frame (came_to reply reply.body) y else y) (sent_but x.mid xs)
    by true = refl
    by false = sym (map-id (sent_but x.mid xs))

-- no other request has the id of one below all others
pub none_but : (m : Mid) (xs : List Sent) → AllByRecursion (λ (x : Sent). (x.mid.0 == m.0) ≡ false) xs → sent_but m xs ≡ xs
none_but m [] all = refl
none_but m (x ∷ xs) all =
    ap (λ (b : Bool). cond (not b) (x ∷ sent_but m xs) (sent_but m xs)) all.0 ∙ ap (λ (l : List Sent). x ∷ l) (none_but m xs all.1)

pub above_apart : (x y : Sent) → IsAbove x y → (y.mid.0 == x.mid.0) ≡ false
above_apart x y above = apart x.mid.0 y.mid.0 above
  where
    apart : (a b : ℕ) → a < b → (b == a) ≡ false
    apart a b less = grind (arith, nat_tests)

-- a request that is refused with the CREATE before it is none itself
pub refused_creates : (x : Sent) → is_refused x ≡ true → creates x ≡ false
refused_creates x is = by (wire_request x.message) is
  where
    both : (related creating : Bool) (o : Option ℕ) → is_some (if related && not creating then o else None) ≡ true → creating ≡ false
    both true true o is = absurd (false≢true is)
    both true false o is = refl
    both false creating o is = absurd (false≢true is)

    by : (w : Option WireRequest) → refused_as w x.last_create ≡ true → creates_as w ≡ false
    by None is = refl
    by (Some WireRequest.Aside) is = refl
    by (Some (WireRequest.Share related request)) is = both related (is_creating request) (refusal_before x.last_create) is

-- what becomes of a call's requests in flight with the reply to the first of them
abbrev pub Lands : (List Fid → File → Fid) → Known → Sent → Program → List Fid → List Sent → Type 0
Lands files known x p fids xs =
    MatchBool (is_refused x) ((reply : Rep) → FliesAs files known x.frame (λ y. y) p fids (left_by x reply xs))
    (AsksNext files x fids (settled known p) (λ rest reply. FliesAs files known x.frame (λ y. y) rest (fids_after reply fids) (left_by x reply xs)))

-- the first of all of them
first_lands : (files : List Fid → File → Fid) (known : Known) (x : Sent) (p : Program) (fids : List Fid) (ys : List Sent) → AllByRecursion (IsAbove x) ys
    → Here files known x.frame (λ y. y) p fids x ys → Lands files known x p fids (x ∷ ys)
first_lands files known x p fids ys above here = by (is_refused x) refl here
  where
    gone : sent_but x.mid (x ∷ ys) ≡ ys
    gone = ap (λ (b : Bool). cond (not b) (x ∷ sent_but x.mid ys) (sent_but x.mid ys)) (itself x.mid.0)
        ∙ none_but x.mid ys (all_more (IsAbove x) (λ (y : Sent). (y.mid.0 == x.mid.0) ≡ false) ys (above_apart x) above)

    left : (reply : Rep) → left_by x reply (x ∷ ys) ≡ map (behind_it x reply) ys
    left reply = left_is x reply (x ∷ ys) ∙ ap (map (behind_it x reply)) gone

    on : (rest : Program) (reply : Rep) → FliesAs files known x.frame (λ y. behind_it x reply y) rest (fids_after reply fids) ys
        → FliesAs files known x.frame (λ y. y) rest (fids_after reply fids) (left_by x reply (x ∷ ys))
    on rest reply f = subst (λ (l : List Sent). FliesAs files known x.frame (λ y. y) rest (fids_after reply fids) l) (sym (left reply))
        (flies_map files known x.frame (λ y. y) (behind_it x reply) rest (fids_after reply fids) ys (it_frame x reply) f)

    plain : is_refused x ≡ true → (reply : Rep) → left_by x reply (x ∷ ys) ≡ ys
    plain is reply = ap (λ (b : Bool). if b then map (behind_create x.frame (came_to reply reply.body)) (sent_but x.mid (x ∷ ys)) else sent_but x.mid (x ∷ ys)) (refused_creates x is) ∙ gone

    by : (t : Bool) → is_refused x ≡ t
        → MatchBool t (FliesAs files known x.frame (λ y. y) p fids ys) (AsksNext files x fids (settled known p) (λ rest reply. FliesAs files known x.frame (λ y. behind_it x reply y) rest (fids_after reply fids) ys))
        → MatchBool t ((reply : Rep) → FliesAs files known x.frame (λ y. y) p fids (left_by x reply (x ∷ ys)))
        (AsksNext files x fids (settled known p) (λ rest reply. FliesAs files known x.frame (λ y. y) rest (fids_after reply fids) (left_by x reply (x ∷ ys))))
    by true is f = λ reply. subst (λ (l : List Sent). FliesAs files known x.frame (λ y. y) p fids l) (sym (plain is reply)) f
    by false is f = asks_more files x fids (settled known p) _ _ on f

pub lands : (files : List Fid → File → Fid) (known : Known) (x : Sent) (p : Program) (fids : List Fid) (xs : List Sent) → sent_with x.mid xs ≡ Some x → is_first_of_frame xs x ≡ true → AreRising xs
    → FliesAs files known x.frame (λ y. y) p fids xs → Lands files known x p fids xs
lands files known x p fids [] there first rising f = absurd (false≢true first)
lands files known x p fids (y ∷ ys) there first rising f = elim (eqb_tells y.frame.0 x.frame.0) [
  | inl told ↦
      let mid : (y.mid.0 == x.mid.0) ≡ true = subst (λ (b : Bool). (if b then y.mid.0 == x.mid.0 else is_first_of_frame ys x) ≡ true) told.0 first in
      let is : y ≡ x = some_is y x (subst (λ (b : Bool). (if b then Some y else sent_with x.mid ys) ≡ Some x) mid there) in
      subst (λ (z : Sent). Lands files known x p fids (z ∷ ys)) (sym is)
      (first_lands files known x p fids ys (subst (λ (z : Sent). AllByRecursion (IsAbove z) ys) is rising.0)
      (in_flies files known x.frame (λ z. z) p fids x ys (itself x.frame.0) (subst (λ (z : Sent). FliesAs files known x.frame (λ z. z) p fids (z ∷ ys)) is f)))
  | inr told ↦ later told.0 (λ there' first' f'. lands files known x p fids ys there' first' rising.1 f')
]
  where
    later : (y.frame.0 == x.frame.0) ≡ false
        → (sent_with x.mid ys ≡ Some x → is_first_of_frame ys x ≡ true → FliesAs files known x.frame (λ z. z) p fids ys → Lands files known x p fids ys)
        → Lands files known x p fids (y ∷ ys)
    later other deeper = elim (eqb_tells y.mid.0 x.mid.0) [
      | inl told ↦
          let is : y ≡ x = some_is y x (subst (λ (b : Bool). (if b then Some y else sent_with x.mid ys) ≡ Some x) told.0 there) in
          absurd (false≢true (sym (subst (λ (z : Sent). (z.frame.0 == x.frame.0) ≡ false) is other) ∙ itself x.frame.0))
      | inr told ↦
          let there' : sent_with x.mid ys ≡ Some x = subst (λ (b : Bool). (if b then Some y else sent_with x.mid ys) ≡ Some x) told.0 there in
          let first' : is_first_of_frame ys x ≡ true = subst (λ (b : Bool). (if b then y.mid.0 == x.mid.0 else is_first_of_frame ys x) ≡ true) other first in
          let kept : (reply : Rep) → left_by x reply (y ∷ ys) ≡ y ∷ left_by x reply ys = λ reply.
          left_is x reply (y ∷ ys) ∙ ap (λ (b : Bool). map (behind_it x reply) (cond (not b) (y ∷ sent_but x.mid ys) (sent_but x.mid ys))) told.0
          ∙ ap (λ (z : Sent). z ∷ map (behind_it x reply) (sent_but x.mid ys)) (it_elsewhere x reply y other)
          ∙ ap (λ (l : List Sent). y ∷ l) (sym (left_is x reply ys)) in
          let past : (p' : Program) (fids' : List Fid) (reply : Rep) → FliesAs files known x.frame (λ z. z) p' fids' (left_by x reply ys) → FliesAs files known x.frame (λ z. z) p' fids' (left_by x reply (y ∷ ys)) =
          λ p' fids' reply g. subst (λ (l : List Sent). FliesAs files known x.frame (λ z. z) p' fids' l) (sym (kept reply)) (flies_out files known x.frame (λ z. z) p' fids' y (left_by x reply ys) other g) in
          either_more (is_refused x) _ _ _ _ (λ g reply. past p fids reply (g reply))
          (asks_more files x fids (settled known p) _ _ (λ rest reply. past rest (fids_after reply fids) reply))
          (deeper there' first' (out_flies files known x.frame (λ z. z) p fids y ys other f))
    ]

-- A chain's first request is answered: the rest of the chain is what the program goes on with. A refused request of a chain is passed
-- over.
pub flies_drop_first : (files : List Fid → File → Fid) (known : Known) (x : Sent) (p : Program) (fids : List Fid) (xs : List Sent) → sent_with x.mid xs ≡ Some x → is_first_of_frame xs x ≡ true
    → AreRising xs → is_refused x ≡ false → FliesAs files known x.frame (λ y. y) p fids xs
    → AsksNext files x fids (settled known p) (λ rest reply. FliesAs files known x.frame (λ y. y) rest (fids_after reply fids) (left_by x reply xs))
flies_drop_first files known x p fids xs there first rising not_refused f =
    subst (λ (b : Bool). MatchBool b ((reply : Rep) → FliesAs files known x.frame (λ y. y) p fids (left_by x reply xs))
    (AsksNext files x fids (settled known p) (λ rest reply. FliesAs files known x.frame (λ y. y) rest (fids_after reply fids) (left_by x reply xs)))) not_refused
    (lands files known x p fids xs there first rising f)

pub flies_drop_refused : (files : List Fid → File → Fid) (known : Known) (x : Sent) (p : Program) (fids : List Fid) (xs : List Sent) → sent_with x.mid xs ≡ Some x → is_first_of_frame xs x ≡ true
    → AreRising xs → is_refused x ≡ true → FliesAs files known x.frame (λ y. y) p fids xs → (reply : Rep) → FliesAs files known x.frame (λ y. y) p fids (left_by x reply xs)
flies_drop_refused files known x p fids xs there first rising refused f =
    subst (λ (b : Bool). MatchBool b ((reply : Rep) → FliesAs files known x.frame (λ y. y) p fids (left_by x reply xs))
    (AsksNext files x fids (settled known p) (λ rest reply. FliesAs files known x.frame (λ y. y) rest (fids_after reply fids) (left_by x reply xs)))) refused
    (lands files known x p fids xs there first rising f)
