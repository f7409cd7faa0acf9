-- What a request does to the list of opens.
use Rattle.std.proofs.Common.{rules, ◌≡◌, ℕ, true, false, [], ◌∷◌, ◌++◌, ◌+◌, refl, ap, sym, subst, ◌∙◌, inl, inr, None, Some, List, Option, Bool, ◌==◌, not, ◌&&◌, if◌then◌else◌}
use Rattle.std.specs.Prelude.{map, ◌⊎◌, ◌||◌}
use Rattle.std.specs.List.{AllByRecursion, list_all}
use Rattle.std.proofs.lemmas.Bool.{false≢true}
use Rattle.share_state.specs.declared.connection.Grant.{Grant}
use Rattle.share_state.specs.declared.granting.Granting.{Granting}
use Rattle.share_state.specs.declared.opens.Open.{Open}
use Rattle.share_state.specs.declared.wanted.Wanted.{Wanted}
use Rattle.share_state.specs.declared.place.Found.{Found}
use Rattle.share_state.specs.declared.place.Place.{Place}
use Rattle.share_state.specs.declared.place.Place.TheVariants.{NoPath, Missing, There}
use Rattle.share_state.specs.declared.request.Who.{Who}
use Rattle.share_state.specs.declared.request.Req.{Req}
use Rattle.share_state.specs.declared.request.Req.TheVariants as req
use Rattle.share_state.specs.declared.request.Rep.{Rep}
use Rattle.share_state.specs.declared.share.Share.{Share}
use Rattle.share_state.specs.Names.{components, is_name}
use Rattle.share_state.specs.State.{has, is_directory, is_read_only, emptied, has_entries, is_pending, is_going}
use Rattle.share_state.specs.Reply.{unless, refused, fid_of}
use Rattle.share_state.specs.Place.{place_of}
use Rattle.share_state.specs.Leases.{is_elsewhere, granting_of}
use Rattle.share_state.specs.Create.{create_at, create_of, made, opened, open_with, overwrites, or_else, has_unshared, refusal_of_key, refusal_of_missing, refusal_of_kind, refusal_of_read_only, refusal_of_use, refusal_of_there, is_disposition}
use Rattle.share_state.specs.Close.{is_open_of, open_of, close_open}
use Rattle.share_state.specs.Query.{query_open}
use Rattle.share_state.specs.Step.{step_of}
use Rattle.fs_plain.specs.World.{us}
use Rattle.fs_plain.specs.Paired.{opened_number}
use Rattle.fs_plain.specs.Alike.{IsStanding}
use Rattle.fs_plain.proofs.Every.{every-snoc, every-filter, every-more, all_kept}
use Rattle.fs_plain.proofs.Deeds.{whole_listing, step_deed, every_listing}
use Rattle.fs_plain.proofs.Steps.{no_zero}

-- where a CREATE is refused, its status is one of failure
abbrev IsFailure : Option ℕ → Type 0
IsFailure None = Unit {0}
IsFailure (Some status) = (status == 0) ≡ false

failure_if : (t : Bool) (a b : Option ℕ) → IsFailure a → IsFailure b → IsFailure (if t then a else b)
failure_if true a b first second = first
failure_if false a b first second = second

failure_else : (a b : Option ℕ) → IsFailure a → IsFailure b → IsFailure (or_else a b)
failure_else None b first second = second
failure_else (Some status) b first second = first

key_fails : (s : Share) (who : Who) (w : Wanted) (node : ℕ) → IsFailure (refusal_of_key s who w node)
key_fails s who w node = failure_if (is_elsewhere s.leases who w.lease node) (Some 0xC000000D) None refl (record {})

missing_fails : (s : Share) (who : Who) (w : Wanted) (d : ℕ) → IsFailure (refusal_of_missing s who w d)
missing_fails s who w d =
    failure_if (w.disposition == 1 || w.disposition == 4) (Some 0xC0000034)
    (if is_going s.entries d then Some 0xC0000056 else refusal_of_key s who w 0) refl
    (failure_if (is_going s.entries d) (Some 0xC0000056) (refusal_of_key s who w 0) refl (key_fails s who w 0))

kind_fails : (s : Share) (w : Wanted) (node : ℕ) → IsFailure (refusal_of_kind s w node)
kind_fails s w node = by (has w.options 1 && not (is_directory s.nodes node)) (has w.options 0x40 && is_directory s.nodes node) (overwrites w.disposition && is_directory s.nodes node)
  where
    by : (t u v : Bool) → IsFailure (if t then Some 0xC0000103 else if u then Some 0xC00000BA else if v then Some 0xC000000D else None)
    by true u v = refl
    by false true v = refl
    by false false true = refl
    by false false false = record {}

read_only_fails : (s : Share) (w : Wanted) (node : ℕ) → IsFailure (refusal_of_read_only s w node)
read_only_fails s w node = by (is_read_only s.nodes node) (not (is_directory s.nodes node) && (has w.access 6 || overwrites w.disposition)) (has w.options 0x1000)
  where
    by : (t u v : Bool) → IsFailure (if not t then None else if u then Some 0xC0000022 else if v then Some 0xC0000121 else None)
    by false u v = record {}
    by true true v = refl
    by true false true = refl
    by true false false = record {}

use_fails : (s : Share) (w : Wanted) (node : ℕ) → IsFailure (refusal_of_use s w node)
use_fails s w node = by (has_unshared s.opens node w) (has w.options 0x1000 && is_directory s.nodes node && has_entries s.entries node)
  where
    by : (t u : Bool) → IsFailure (if t then Some 0xC0000043 else if u then Some 0xC0000101 else None)
    by true u = refl
    by false true = refl
    by false false = record {}

there_fails : (s : Share) (who : Who) (w : Wanted) (f : Found) → IsFailure (refusal_of_there s who w f)
there_fails s who w f = by (is_pending s.entries f.entry) (w.disposition == 2)
  where
    behind_read_only : Option ℕ
    behind_read_only = or_else (refusal_of_key s who w f.node) (refusal_of_use s w f.node)

    behind_kind : Option ℕ
    behind_kind = or_else (refusal_of_read_only s w f.node) behind_read_only

    by : (t u : Bool) → IsFailure (if t then Some 0xC0000056 else if u then Some 0xC0000035
        else or_else (refusal_of_kind s w f.node) behind_kind)
    by true u = refl
    by false true = refl
    by false false =
        failure_else (refusal_of_kind s w f.node) behind_kind (kind_fails s w f.node)
        (failure_else (refusal_of_read_only s w f.node) behind_read_only (read_only_fails s w f.node)
        (failure_else (refusal_of_key s who w f.node) (refusal_of_use s w f.node) (key_fails s who w f.node) (use_fails s w f.node)))

-- a CREATE is refused: it fails, gives no open and leaves the opens as they are
pub record IsRefused (s : Share) (done : Rep × Share) : Type 0 where
  pub fails : (done.0.status.0 == 0) ≡ false
  pub gives : opened_number done.0.body ≡ 0
  pub same : done.1.opens ≡ s.opens

-- it succeeds, and gives the one open that it makes
pub record IsOpened (s : Share) (who : Who) (done : Rep × Share) : Type 0 where
  pub succeeds : (done.0.status.0 == 0) ≡ true
  pub new : Open
  pub gives : opened_number done.0.body ≡ new.number
  pub numbered : (new.number == 0) ≡ false
  pub own : new.who ≡ who
  pub more : done.1.opens ≡ s.opens ++ new ∷ []

abbrev pub Creates : Share → Who → Rep × Share → Type 0
Creates s who done = IsRefused s done ⊎ IsOpened s who done

unless_creates : (refusal : Option ℕ) (s : Share) (who : Who) (done : Rep × Share) → IsFailure refusal → IsOpened s who done → Creates s who (unless refusal s done)
unless_creates None s who done fails opens = inr opens
unless_creates (Some status) s who done fails opens = inl (record { fails = fails; gives = refl; same = refl })

made_opens : (s : Share) (who : Who) (w : Wanted) (g : Granting) (d : ℕ) (name : List ℕ) → IsOpened s who (made s who w g d name)
made_opens s who w g d name = record {
  succeeds = refl;
  new = open_with (s.opens_made + 1) who w g (s.nodes_made + 1) (s.entries_made + 1);
  gives = refl;
  numbered = no_zero s.opens_made;
  own = refl;
  more = refl;
}

opened_opens : (s : Share) (who : Who) (w : Wanted) (g : Granting) (f : Found) → IsOpened s who (opened s who w g f)
opened_opens s who w g f = record {
  succeeds = refl;
  new = open_with (s.opens_made + 1) who w g f.node f.entry;
  gives = refl;
  numbered = no_zero s.opens_made;
  own = refl;
  more = by (overwrites w.disposition);
}
  where
    by : (t : Bool) → (if t then record s { nodes = map (emptied f.node) s.nodes } else s).opens ++ open_with (s.opens_made + 1) who w g f.node f.entry ∷ []
        ≡ s.opens ++ open_with (s.opens_made + 1) who w g f.node f.entry ∷ []
    by true = refl
    by false = refl

create_at_creates : (choice : Option Grant) (s : Share) (who : Who) (w : Wanted) (at : Place) → Creates s who (create_at choice s who w at)
create_at_creates choice s who w NoPath = inl (record { fails = refl; gives = refl; same = refl })
create_at_creates choice s who w (Missing d name) =
    let g : Granting = granting_of choice s who w (s.nodes_made + 1) in
    unless_creates (refusal_of_missing s who w d) s who (made s who w g d name) (missing_fails s who w d) (made_opens s who w g d name)
create_at_creates choice s who w (There f) =
    let g : Granting = granting_of choice s who w f.node in
    unless_creates (refusal_of_there s who w f) s who (opened s who w g f) (there_fails s who w f) (opened_opens s who w g f)

pub create_creates : (choice : Option Grant) (s : Share) (who : Who) (path : List ℕ) (w : Wanted) → Creates s who (create_of choice s who path w)
create_creates choice s who path w = by (is_disposition w.disposition) (list_all is_name (components path))
  where
    by : (t u : Bool) → Creates s who (if not t then refused 0xC000000D s else if not u then refused 0xC0000033 s else create_at choice s who w (place_of s (components path)))
    by false u = inl (record { fails = refl; gives = refl; same = refl })
    by true false = inl (record { fails = refl; gives = refl; same = refl })
    by true true = create_at_creates choice s who w (place_of s (components path))

-- what holds of each open still does after a request, where it holds of each open of the client whose request it is
created_every : (P : Open → Type 0) (s : Share) (who : Who) (done : Rep × Share) → ((o : Open) → o.who ≡ who → P o) → AllByRecursion P s.opens → Creates s who done
    → AllByRecursion P done.1.opens
created_every P s who done own all (inl none) = subst (AllByRecursion P) (sym none.same) all
created_every P s who done own all (inr one) = subst (AllByRecursion P) (sym one.more) (every-snoc P s.opens one.new all (own one.new one.own))

pub close_every : (P : Open → Type 0) (found : Option Open) (s : Share) → AllByRecursion P s.opens → AllByRecursion P (close_open found s).1.opens
close_every P None s all = all
close_every P (Some o) s all = every-filter P (λ q. not (q.number == o.number)) s.opens all

pub query_every : (P : Open → Type 0) (found : Option Open) (s : Share) → AllByRecursion P s.opens → AllByRecursion P (query_open found s).1.opens
query_every P None s all = all
query_every P (Some o) s all = all

-- where it does not hang on what is left of a listing
pub step_every : (P : Open → Type 0) (choice : Option Grant) (s : Share) (who : Who) (r : Req) → ((o : Open) → o.who ≡ who → P o)
    → ((o : Open) → P o → P (whole_listing o)) → ((o : Open) → P (whole_listing o) → P o) → AllByRecursion P s.opens
    → AllByRecursion P (step_of choice s who r).1.opens
step_every P choice s who (req.Create path access share disposition options attributes lease durable) own to from all =
    let w : Wanted = record {
      access = access;
      share = share;
      disposition = disposition;
      options = options;
      attributes = attributes;
      lease = lease;
      durable = durable;
    } in
    created_every P s who (create_of choice s who path w) own all (create_creates choice s who path w)
step_every P choice s who (req.Close fid) own to from all = close_every P (open_of s.opens who fid) s all
step_every P choice s who other own to from all =
    every_listing P to from (step_of choice s who other).1.opens s.opens (step_deed choice s who other refl).opens all

-- an open of this client has another number
abbrev pub IsGone : ℕ → Open → Type 0
IsGone n o = (o.who.0 == 0) ≡ true → (o.number == n) ≡ false

-- no open of this client has a number that names none
not_named : (n made : ℕ) (o : Open) → IsStanding made o → is_open_of us (fid_of n) o ≡ false → IsGone n o
not_named n made o stands none own = by (o.number == n) (o.who.0 == 0) o.connected none own stands.2
  where
    by : (a b c : Bool) → (a && a && b && c) ≡ false → b ≡ true → c ≡ true → a ≡ false
    by false b c none own connected = refl
    by true true true none own connected = none
    by true false c none own connected = absurd (false≢true own)
    by true true false none own connected = absurd (false≢true connected)

none_named : (n made : ℕ) (os : List Open) → AllByRecursion (IsStanding made) os → open_of os us (fid_of n) ≡ None → AllByRecursion (IsGone n) os
none_named n made [] all none = tt
none_named n made (o ∷ os) all none = by (is_open_of us (fid_of n) o) refl (λ later. none_named n made os all.1 later) none
  where
    some_none : Some o ≡ None → ⊥
    some_none is = search rules

    by : (t : Bool) → is_open_of us (fid_of n) o ≡ t → (open_of os us (fid_of n) ≡ None → AllByRecursion (IsGone n) os)
        → (if t then Some o else open_of os us (fid_of n)) ≡ None → AllByRecursion (IsGone n) (o ∷ os)
    by true is later none = absurd (some_none none)
    by false is later none = (not_named n made o all.0 is, later none)

-- the open that is found has the number
named_number : (n : ℕ) (os : List Open) (q : Open) → open_of os us (fid_of n) ≡ Some q → q.number ≡ n
named_number n [] q found = absurd (none_some found)
  where
    none_some : None ≡ Some q → ⊥
    none_some is = search rules
named_number n (o ∷ os) q found = by (is_open_of us (fid_of n) o) refl (λ later. named_number n os q later) found
  where
    the : Option Open → Open
    the None = q
    the (Some h) = h

    number_is : (a b c d : Bool) → (a && b && c && d) ≡ true → a ≡ true
    number_is true b c d is = refl
    number_is false b c d is = is

    same : (m : ℕ) → (m == n) ≡ true → m ≡ n
    same m is = search rules

    by : (t : Bool) → is_open_of us (fid_of n) o ≡ t → (open_of os us (fid_of n) ≡ Some q → q.number ≡ n)
        → (if t then Some o else open_of os us (fid_of n)) ≡ Some q → q.number ≡ n
    by true is later found =
        ap (λ (h : Open). h.number) (sym (ap the found)) ∙ same o.number (number_is (o.number == n) (o.number == n) (o.who.0 == 0) o.connected is)
    by false is later found = later found

-- once this client closed a number, none of its opens has it
pub closed_gone : (n : ℕ) (s : Share) → AllByRecursion (IsStanding s.opens_made) s.opens → AllByRecursion (IsGone n) (close_open (open_of s.opens us (fid_of n)) s).1.opens
closed_gone n s all = by (open_of s.opens us (fid_of n)) refl
  where
    but_false : (t : Bool) → not t ≡ true → t ≡ false
    but_false false is = refl
    but_false true is = absurd (false≢true is)

    by : (found : Option Open) → open_of s.opens us (fid_of n) ≡ found → AllByRecursion (IsGone n) (close_open found s).1.opens
    by None is = none_named n s.opens_made s.opens all is
    by (Some q) is = every-more (λ o. not (o.number == q.number) ≡ true) (IsGone n)
        (λ o other own. subst (λ (m : ℕ). (o.number == m) ≡ false) (named_number n s.opens q is) (but_false (o.number == q.number) other))
        (close_open (Some q) s).1.opens (all_kept (λ o. not (o.number == q.number)) s.opens)
