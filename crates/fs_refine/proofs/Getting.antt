-- Bytes that the client gets pay what it is owed: looking at them is looking at what is owed.
use Rattle.std.proofs.Common.{rules, ◌≡◌, ◌∙◌, refl, sym, ap, subst, ℕ, ◌==◌, Bool, true, false, if◌then◌else◌, not, List, [], ◌∷◌, ◌++◌, length, drop, Option, Some, None, Result, Ok, Err}
use Rattle.std.specs.Prelude.{IsSomeAnd, is_none, nat_lt, ◌&&◌}
use Rattle.std.specs.List.{AllByRecursion}
use Rattle.std.proofs.lemmas.Bool.{false≢true}
use Rattle.smb_base.specs.declared.names.Mid.{Mid}
use Rattle.smb_le.specs.Numbers.{number_at}
use Rattle.smb_chain.specs.declared.parts.BadNext.{BadNext}
use Rattle.smb_head.specs.declared.head.Head.{Head}
use Rattle.smb_head.specs.declared.head.HeadFault.{HeadFault}
use Rattle.smb_head.specs.declared.head.HeadFault.TheVariants.{Short, Magic, Size}
use Rattle.smb_head.specs.declared.head.TheConstants.{PROTOCOL}
use Rattle.smb_head.specs.Header.{head_of, head_at, is_interim}
use Rattle.smb_head.specs.Stream.{frames_in, rest_in}
use Rattle.share_state.specs.declared.connection.Owed.{Owed}
use Rattle.share_state.specs.declared.connection.Owed.TheVariants as owed
use Rattle.share_state.specs.declared.connection.Sent.{Sent}
use Rattle.share_state.specs.declared.request.Rep.{Rep}
use Rattle.share_state.specs.declared.share.Share.{Share}
use Rattle.share_state.specs.State.{has}
use Rattle.smb_link.specs.declared.event.Event.TheVariants as event
use Rattle.fs_plain.specs.Masked.{untold, masked}
use Rattle.fs_plain.specs.Requests.{WireRequest, wire_request}
use Rattle.fs_plain.specs.Replies.{command_of, answers, is_error, reply_by_status, reply_with, reply_in, interim_with, is_interim_of, is_aside_by_status, aside_with, is_aside_reply, Pays}
use Rattle.share_state.specs.Sent.{sent_with}
use Rattle.fs_plain.specs.World.{mid_of, messages_in, messages_got, after_got}
use Rattle.fs_plain.specs.Honest.{ArePaid, MayGet}
use Rattle.fs_plain.specs.Run.{Run}
use Rattle.fs_plain.specs.Owners.{Owner, owner_of}
use Rattle.fs_plain.specs.Told.{Told, told_after}
use Rattle.fs_plain.specs.PlainSide.{PlainSide}
use Rattle.fs_plain.specs.Divergence.{side_after}
use Rattle.fs_plain.proofs.AlikeLaws.{alike_beside, alike_calls}
use Rattle.fs_client.specs.Item.{Placed}
use Rattle.fs_client.specs.View.{Setting, View}
use Rattle.fs_client.specs.After.{made_whole}
use Rattle.fs_client.specs.Looks.{awaited_with, landed_by, without, looked_reply, looked_as, looked_for, looked, all_looked, answered_aside, landed_owed}
use Rattle.fs_client.specs.Owing.{taken, IsShare, IsDueTo, IsDueAside, IsDue, AreDue}
use Rattle.fs_client.proofs.Lists.{none_some, same_number, all_of, found}
use Rattle.fs_client.proofs.Steps.{gets}
use Rattle.fs_client.proofs.Taken.{got_commutes}
use Rattle.fs_refine.specs.Calls.{IsGiven, AreCalls, all_described}
use Rattle.fs_refine.specs.Related.{Related}
use Rattle.fs_refine.proofs.Holding.{same_holds}
use Rattle.fs_refine.proofs.Taking.{IsWell, well_looked, IsSame, same_taken, cached_along}
use Rattle.fs_refine.proofs.Marks.{Keeps}

-- a message that answers a request has its id
second : (a b c : Bool) → (a && b && c) ≡ true → b ≡ true
second true true c is = refl
second true false c is = absurd (false≢true is)
second false b c is = absurd (false≢true is)

first : (a b : Bool) → (a && b) ≡ true → a ≡ true
first true b is = refl
first false b is = absurd (false≢true is)

answers_mid : (mid : Mid) (q : List ℕ) (head : Head) → answers mid q head ≡ true → head.mid.0 ≡ mid.0
answers_mid mid q head is = same_number head.mid.0 mid.0 (second (has head.flags.0 1) (head.mid.0 == mid.0) (head.command == command_of q) is)

-- the id in the head is that of the message
record IsHead (m : List ℕ) (h : Result Head HeadFault) : Type 0 where
  is : (head : Head) → h ≡ Ok head → (mid_of m).0 ≡ head.mid.0

head_is : (m : List ℕ) → IsHead m (head_of m)
unfolding head_of head_at
head_is m = by (nat_lt (length m) 64) (number_at 4 0 m == PROTOCOL) (number_at 2 4 m == 64)
  where
    err_ok : (fault : HeadFault) (head : Head) → Err fault ≡ Ok head → ⊥
    err_ok fault head is = search rules

    the_mid : Head → Result Head HeadFault → ℕ
    the_mid other (Ok head) = head.mid.0
    the_mid other (Err fault) = other.mid.0

    by : (a b c : Bool) → IsHead m (if a then Err Short else if b then (if c then Ok (head_at m) else Err Size) else Err Magic)
    by true b c = record { is = λ head is. absurd (err_ok Short head is) }
    by false true true = record { is = λ head is. ap (the_mid head) is }
    by false true false = record { is = λ head is. absurd (err_ok Size head is) }
    by false false c = record { is = λ head is. absurd (err_ok Magic head is) }

reply_mid : (mid : Mid) (q m : List ℕ) (reply : Rep) → reply_in mid q m ≡ Some reply → (mid_of m).0 ≡ mid.0
unfolding reply_in
reply_mid mid q m reply is = by (head_of m) refl is
  where
    by : (h : Result Head HeadFault) → head_of m ≡ h → reply_with h mid q m ≡ Some reply → (mid_of m).0 ≡ mid.0
    by (Err fault) at is = absurd (none_some reply is)
    by (Ok head) at is = (head_is m).is head at ∙ go (answers mid q head) refl is
      where
        go : (t : Bool) → answers mid q head ≡ t → (if t && not (is_interim head) then reply_by_status (untold q) head.status.0 (command_of q) m else None) ≡ Some reply → head.mid.0 ≡ mid.0
        go true so is = answers_mid mid q head so
        go false so is = absurd (none_some reply is)

aside_mid : (mid : Mid) (q m : List ℕ) → is_aside_reply mid q m ≡ true → (mid_of m).0 ≡ mid.0
unfolding is_aside_reply
aside_mid mid q m is = by (head_of m) refl is
  where
    by : (h : Result Head HeadFault) → head_of m ≡ h → aside_with h mid q m ≡ true → (mid_of m).0 ≡ mid.0
    by (Err fault) at is = absurd (false≢true is)
    by (Ok head) at is = (head_is m).is head at ∙ go (answers mid q head) refl is
      where
        go : (t : Bool) → answers mid q head ≡ t → (t && not (is_interim head) && is_aside_by_status head.status.0 (command_of q) m) ≡ true → head.mid.0 ≡ mid.0
        go true so is = answers_mid mid q head so
        go false so is = absurd (false≢true is)

-- an interim reply is no final one, to whatever request
interim_no_reply : (mid mid' : Mid) (q q' m : List ℕ) → is_interim_of mid q m ≡ true → reply_in mid' q' m ≡ None
unfolding is_interim_of reply_in
interim_no_reply mid mid' q q' m is = by (head_of m) is
  where
    by : (h : Result Head HeadFault) → interim_with h mid q m ≡ true → reply_with h mid' q' m ≡ None
    by (Err fault) is = refl
    by (Ok head) is = go (answers mid' q' head) (is_interim head) (second (answers mid q head) (is_interim head) (is_error m) is)
      where
        go : (t u : Bool) → u ≡ true → (if t && not u then reply_by_status (untold q') head.status.0 (command_of q') m else None) ≡ None
        go true true so = refl
        go true false so = absurd (false≢true so)
        go false u so = refl

interim_no_aside : (mid mid' : Mid) (q q' m : List ℕ) → is_interim_of mid q m ≡ true → is_aside_reply mid' q' m ≡ false
unfolding is_interim_of is_aside_reply
interim_no_aside mid mid' q q' m is = by (head_of m) is
  where
    by : (h : Result Head HeadFault) → interim_with h mid q m ≡ true → aside_with h mid' q' m ≡ false
    by (Err fault) is = refl
    by (Ok head) is = go (answers mid' q' head) (is_interim head) (is_aside_by_status head.status.0 (command_of q') m) (second (answers mid q head) (is_interim head) (is_error m) is)
      where
        go : (t u w : Bool) → u ≡ true → (t && not u && w) ≡ false
        go true true w so = refl
        go true false w so = absurd (false≢true so)
        go false u w so = refl

interim_looked : (v : View) (mid : Mid) (q m : List ℕ) → is_interim_of mid q m ≡ true → looked m v ≡ v
interim_looked v mid q m is = by (awaited_with (mid_of m) v)
  where
    asked : (x : Sent) (w : Option WireRequest) → looked_as w x m v ≡ v
    asked x None = refl
    asked x (Some WireRequest.Aside) =
        ap (λ (b : Bool). if is_none (owner_of x.mid v.told.owners) && b then without x.mid v else v) (interim_no_aside mid x.mid q x.message m is) ∙ no (is_none (owner_of x.mid v.told.owners))
      where
        no : (t : Bool) → (if t && false then without x.mid v else v) ≡ v
        no true = refl
        no false = refl
    asked x (Some (WireRequest.Share related request)) = ap (λ (o : Option Rep). looked_reply o x v) (interim_no_reply mid x.mid q x.message m is)

    by : (o : Option Sent) → looked_for o m v ≡ v
    by None = refl
    by (Some x) = asked x (wire_request x.message)

-- the request that is found under the id of a message
awaited_under : (v : View) (mid : Mid) (m : List ℕ) (x : Sent) → v.early ≡ [] → (mid_of m).0 ≡ mid.0 → sent_with mid v.flights ≡ Some x → awaited_with (mid_of m) v ≡ Some x
awaited_under v mid m x none same there =
    ap (λ (n : ℕ). awaited_with (record { 0 = n }) v) same
    ∙ ap (λ (early : List (Mid × Rep)). awaited_with mid (record v { early = early })) none ∙ there

awaited_is : (v : View) (mid : Mid) (x : Sent) → v.early ≡ [] → sent_with mid v.flights ≡ Some x → awaited_with mid v ≡ Some x
awaited_is v mid x none there = ap (λ (early : List (Mid × Rep)). awaited_with mid (record v { early = early })) none ∙ there

found_mid : (mid : Mid) (xs : List Sent) (x : Sent) → sent_with mid xs ≡ Some x → x.mid.0 ≡ mid.0
found_mid mid xs x there = (found (λ (z : Sent). Unit {0}) mid xs x there (all_of (λ (z : Sent). Unit {0}) xs (λ z. record {}))).1

reply_looked : (v : View) (mid : Mid) (q m : List ℕ) (reply : Rep) (x : Sent) → v.early ≡ [] → sent_with mid v.flights ≡ Some x → IsDueTo v q reply x → reply_in mid q m ≡ Some (masked q reply)
    → looked m v ≡ landed_owed (owed.Reply mid q reply) v
reply_looked v mid q m reply x none there due paid =
    ap (λ (o : Option Sent). looked_for o m v) (awaited_under v mid m x none (reply_mid mid q m (masked q reply) paid) there)
    ∙ asked (wire_request x.message) refl due.share
    ∙ sym (ap (λ (o : Option Sent). landed_by o (masked q reply) v) (awaited_is v mid x none there))
  where
    read : reply_in x.mid x.message m ≡ Some (masked q reply)
    read = ap (λ (n : ℕ). reply_in (record { 0 = n }) x.message m) (found_mid mid v.flights x there) ∙ ap (λ (l : List ℕ). reply_in mid l m) due.message ∙ paid

    asked : (w : Option WireRequest) → wire_request x.message ≡ w → IsShare w → looked_as w x m v ≡ landed_by (Some x) (masked q reply) v
    asked None is share = absurd share
    asked (Some WireRequest.Aside) is share = absurd share
    asked (Some (WireRequest.Share related r)) is share =
        ap (λ (o : Option Rep). looked_reply o x v) read
        ∙ ap (λ (b : Bool). if b then landed_by (Some x) (masked q reply) v else v) due.fit

aside_looked : (v : View) (mid : Mid) (q m : List ℕ) (x : Sent) → v.early ≡ [] → sent_with mid v.flights ≡ Some x → IsDueAside v q x → is_aside_reply mid q m ≡ true
    → looked m v ≡ landed_owed (owed.Aside mid q) v
aside_looked v mid q m x none there due paid =
    ap (λ (o : Option Sent). looked_for o m v) (awaited_under v mid m x none (aside_mid mid q m paid) there)
    ∙ ap (λ (w : Option WireRequest). looked_as w x m v) due.aside
    ∙ ap (λ (o : Option Owner). if is_none o && is_aside_reply x.mid x.message m then without x.mid v else v) due.nobodys
    ∙ ap (λ (b : Bool). if b then without x.mid v else v) read
    ∙ sym (ap (λ (o : Option Sent). answered_aside o v) (awaited_is v mid x none there))
  where
    read : is_aside_reply x.mid x.message m ≡ true
    read = ap (λ (n : ℕ). is_aside_reply (record { 0 = n }) x.message m) (found_mid mid v.flights x there) ∙ ap (λ (l : List ℕ). is_aside_reply mid l m) due.message ∙ paid

-- a message pays what is owed: it is looked at as that is
pub pays_looked : (o : Owed) (m : List ℕ) (v : View) → v.early ≡ [] → IsDue v o → Pays o m → looked m v ≡ landed_owed o v
pays_looked (owed.Interim mid q) m v none due pays = interim_looked v mid q m pays
pays_looked (owed.Reply mid q reply) m v none due pays = by (sent_with mid v.flights) refl due
  where
    by : (o : Option Sent) → sent_with mid v.flights ≡ o → IsSomeAnd o (IsDueTo v q reply) → looked m v ≡ landed_owed (owed.Reply mid q reply) v
    by None is due = absurd due
    by (Some x) is due = reply_looked v mid q m reply x none is due pays
pays_looked (owed.Aside mid q) m v none due pays = by (sent_with mid v.flights) refl due
  where
    by : (o : Option Sent) → sent_with mid v.flights ≡ o → IsSomeAnd o (IsDueAside v q) → looked m v ≡ landed_owed (owed.Aside mid q) v
    by None is due = absurd due
    by (Some x) is due = aside_looked v mid q m x none is due pays
pays_looked (owed.Notice key state wanted) m v none due pays = absurd due

-- messages pay the first that are owed, one by one: what is left to come is the same
pub record Paid (os : List Owed) (messages : List (Result (List ℕ) BadNext)) (u : View) : Type 0 where
  pub well : IsWell (all_looked messages u)
  pub due : AreDue (all_looked messages u) (drop (length messages) os)
  pub same : IsSame u (all_looked messages u)
  pub is : taken (drop (length messages) os) (all_looked messages u) ≡ taken os u

pub paid : (os : List Owed) (messages : List (Result (List ℕ) BadNext)) (u : View) → ArePaid os messages → IsWell u → AreDue u os → Paid os messages u
paid os [] u pays w due = record {
  well = w;
  due = due;
  same = record { told = refl; held = refl; connected = refl; next = refl; placed = refl; stems = refl };
  is = refl;
}
paid [] (m ∷ messages) u pays w due = absurd pays
paid (o ∷ os) (Err bad ∷ messages) u pays w due = absurd pays
paid (o ∷ os) (Ok m ∷ messages) u pays w due =
    let is : looked m u ≡ landed_owed o u = pays_looked o m u w.early due.0 pays.0 in
    let rest = paid os messages (landed_owed o u) pays.1 (well_looked o u w due.0) due.1 in
    let one : IsSame u (landed_owed o u) = same_taken (o ∷ []) u w (due.0, record {}) in
    record {
      well = subst (λ (x : View). IsWell (all_looked messages x)) (sym is) rest.well;
      due = subst (λ (x : View). AreDue (all_looked messages x) (drop (length messages) os)) (sym is) rest.due;
      same = subst (λ (x : View). IsSame u (all_looked messages x)) (sym is) (record {
        told = rest.same.told ∙ one.told;
        held = rest.same.held ∙ one.held;
        connected = rest.same.connected ∙ one.connected;
        next = rest.same.next ∙ one.next;
        placed = rest.same.placed ∙ one.placed;
        stems = rest.same.stems ∙ one.stems;
      });
      is = ap (λ (x : View). taken (drop (length messages) os) (all_looked messages x)) is ∙ rest.is;
    }

-- bytes are got
pub got_keeps : (run : Run) (st : Setting) (s : Share) (p : PlainSide) (v : View) (bytes : List ℕ) → Related s p v → MayGet bytes s → Keeps run st s p v (event.Got bytes)
got_keeps run st s p v bytes old may =
    let messages : List (Result (List ℕ) BadNext) = made_whole bytes v in
    let same : messages_got bytes s ≡ messages = ap (λ (l : List ℕ). messages_in (frames_in (l ++ bytes))) old.held in
    let t : Told = told_after (event.Got bytes) messages v.told in
    let h : List ℕ = rest_in (v.held ++ bytes) in
    let u : View = record v { held = h; told = t } in
    let a = got_commutes s.owed v h t refl old.sane old.early old.due in
    let start : IsWell u = record {
      sane = record {
        flies = old.sane.flies;
        owned = old.sane.owned;
        apart = old.sane.apart;
        used = old.sane.used;
        begun = old.sane.begun;
        sent = old.sane.sent;
        rising = old.sane.rising;
        early = old.sane.early;
        no_place = old.sane.no_place;
        no_lease = old.sane.no_lease;
      };
      early = old.early;
    } in
    let g = paid s.owed messages u (subst (ArePaid s.owed) same may.paid) start a.due in
    let s' : Share = after_got bytes s in
    let p' : PlainSide = side_after run s p (event.Got bytes) in
    let owed_is : s'.owed ≡ drop (length messages) s.owed = ap (λ (l : List (Result (List ℕ) BadNext)). drop (length l) s.owed) same in
    let all : taken s'.owed (all_looked messages u) ≡ gets h t (taken s.owed v) =
    ap (λ (os : List Owed). taken os (all_looked messages u)) owed_is ∙ g.is ∙ a.is in
    let due : AreDue (all_looked messages u) s'.owed = subst (AreDue (all_looked messages u)) (sym owed_is) g.due in (
      refl,
      record {
        alike = alike_beside s s' p' refl (alike_calls s p p' refl refl refl old.alike);
        ours = old.ours;
        sane = g.well.sane;
        due = due;
        early = g.well.early;
        sent = old.sent ∙ sym (ap (λ (x : View). x.flights) all);
        running = subst (λ (x : View). AreCalls p.pairs s.opens_made x.items p.running) (sym all) old.running;
        told = ap (λ (l : List (Result (List ℕ) BadNext)). told_after (event.Got bytes) l p.told) same
            ∙ ap (told_after (event.Got bytes) messages) old.told ∙ sym g.same.told;
        connected = old.connected ∙ sym g.same.connected;
        held = ap (λ (l : List ℕ). rest_in (l ++ bytes)) old.held ∙ sym g.same.held;
        described = old.described ∙ ap (all_described p.pairs) (sym g.same.placed);
        placed = subst (AllByRecursion (λ (x : Placed). IsGiven s.opens_made x.fid)) (sym g.same.placed) old.placed;
        holders = same_holds p p' refl refl old.holders.opens old.holders;
        cached = cached_along s' p' s'.owed (all_looked messages u) g.well due;
      },
    )
