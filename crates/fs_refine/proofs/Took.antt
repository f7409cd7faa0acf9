-- The share takes a request: it is right on the plain side too, and what is related stays so.
use Rattle.std.proofs.Common.{arith, ◌≡◌, ◌∙◌, refl, sym, ap, subst, ℕ, ◌==◌, ◌≤◌, Bool, true, false, cond, if◌then◌else◌, not, List, [], ◌∷◌, ◌++◌, Option, Some, None, inl, inr}
use Rattle.std.specs.Prelude.{MatchBool, IsSomeAnd, map, option_map, is_some, is_none, ◌&&◌}
use Rattle.std.specs.List.{AllByRecursion}
use Rattle.std.proofs.lemmas.Bool.{false≢true}
use Rattle.smb_base.specs.declared.names.Mid.{Mid}
use Rattle.share_state.specs.declared.connection.Grant.{Grant}
use Rattle.share_state.specs.declared.connection.LastCreate.{LastCreate}
use Rattle.share_state.specs.declared.connection.Owed.TheVariants as owed
use Rattle.share_state.specs.declared.connection.Sent.{Sent}
use Rattle.share_state.specs.declared.request.Req.{Req}
use Rattle.share_state.specs.declared.request.Rep.{Rep}
use Rattle.share_state.specs.declared.share.Share.{Share}
use Rattle.share_state.specs.declared.connection.LastCreate.TheVariants as last
use Rattle.share_state.specs.declared.request.Req.TheVariants as req
use Rattle.share_state.specs.Reply.{of_status, map_fid}
use Rattle.share_state.specs.Sent.{behind_create, sent_but, sent_with}
use Rattle.share_state.specs.Step.{step_of}
use Rattle.share_state.specs.PlainShare.{plain_step, shown}
use Rattle.smb_link.specs.Program.{Wish, Program, Known, Ask, Look, Say, settled, replied}
use Rattle.fs_plain.specs.Requests.{WireRequest, wire_request}
use Rattle.fs_plain.specs.Masked.{Untold, Nothing, untold, masked}
use Rattle.fs_plain.specs.World.{us, is_first_of_frame, is_creating, refusal_before, refused_before, resolved, unless_refused_before, choice_now, came_to, after_create, after_done, after_aside, after_taking, after_took, after_took_of}
use Rattle.fs_plain.specs.Honest.{MayTake}
use Rattle.fs_plain.specs.Owners.{Owner, owner_of}
use Rattle.fs_plain.specs.Paired.{opened_number, NamesIn, Pair, open_given}
use Rattle.fs_plain.specs.Wishes.{wish_of, is_next}
use Rattle.fs_plain.specs.Differences.{odd_unless}
use Rattle.fs_plain.specs.PlainSide.{PlainCall, PlainSide, call_with, wish_done_on, path_opened, with_given}
use Rattle.fs_plain.specs.PlainTaken.{side_after_wish, side_after_next, side_after_owned, is_right_of_call, side_after_request, is_right_on_side, side_after_asked, is_right_asked_on_side, side_after_sent, is_right_sent_on_side, side_after_took, is_right_took}
use Rattle.fs_plain.specs.Alike.{Alike}
use Rattle.fs_plain.proofs.AlikeLaws.{alike_beside, carried_step, stepped, alike_step, alike_calls, alike_none, alike_stands}
use Rattle.fs_plain.proofs.ShareLaws.{gives, step_gives, step_ours}
use Rattle.fs_plain.proofs.Deeds.{Connection, connection}
use Rattle.fs_plain.proofs.Steps.{Counts, step_counts, step_connection, step_names}
use Rattle.fs_client.specs.Item.{Item, Placed, item_with, fids_with, fids_after, gone_on}
use Rattle.fs_client.specs.View.{View}
use Rattle.fs_client.specs.Asked.{creates, creates_as, is_refused, refused_as, AsksAs, left_by}
use Rattle.fs_client.specs.Flies.{AsksNext, FliesAs, files_of, FliesFrom}
use Rattle.fs_client.specs.Looks.{awaited_with, advanced, answered_aside, landed_owed}
use Rattle.fs_client.specs.Owing.{taken, IsDueTo, IsDueAside, IsDue, IsShare}
use Rattle.fs_client.specs.Sane.{IsFrom, IsOwnedBy, IsOwned, FliesIn, Sane}
use Rattle.fs_client.proofs.Lists.{none_some, found, found_map, item_found}
use Rattle.fs_client.proofs.Flights.{lands}
use Rattle.fs_client.proofs.Landing.{found_at, replied_settled}
use Rattle.fs_client.proofs.Keeping.{reply_is}
use Rattle.fs_refine.specs.Calls.{plain_number, IsGiven, IsAlong, IsCall, AreCalls, all_described}
use Rattle.fs_refine.specs.Related.{calm, Related}
use Rattle.fs_refine.proofs.CallLists.{call_found, calls_on}
use Rattle.fs_refine.proofs.Holding.{wish_holds}
use Rattle.fs_refine.proofs.Taking.{IsWell, well_taken, IsSame, same_taken}
use Rattle.fs_refine.proofs.Growing.{no_less, made_more, IsLater, along_later, call_later}
use Rattle.fs_refine.proofs.Changing.{well, owing}
use Rattle.fs_refine.proofs.Masks.{masked_came, masked_fits, masked_itself}
use Rattle.fs_refine.proofs.Requests.{wished_itself, wish_built, HasFiles, wish_carried, opens_after}

-- requests that wait, put off or not
first_calm : (xs : List Sent) (x : Sent) → is_first_of_frame (map calm xs) (calm x) ≡ is_first_of_frame xs x
first_calm [] x = refl
first_calm (y ∷ ys) x = ap (λ (b : Bool). if y.frame.0 == x.frame.0 then y.mid.0 == x.mid.0 else b) (first_calm ys x)

pub but_calm : (m : Mid) (xs : List Sent) → map calm (sent_but m xs) ≡ sent_but m (map calm xs)
but_calm m [] = refl
but_calm m (x ∷ xs) = by (x.mid.0 == m.0) (but_calm m xs)
  where
    by : (t : Bool) → map calm (sent_but m xs) ≡ sent_but m (map calm xs)
        → map calm (cond (not t) (x ∷ sent_but m xs) (sent_but m xs)) ≡ cond (not t) (calm x ∷ sent_but m (map calm xs)) (sent_but m (map calm xs))
    by true deeper = deeper
    by false deeper = ap (λ (l : List Sent). calm x ∷ l) deeper

behind_calm : (frame : Mid) (last : LastCreate) (xs : List Sent) → map calm (map (behind_create frame last) xs) ≡ map (behind_create frame last) (map calm xs)
behind_calm frame last [] = refl
behind_calm frame last (x ∷ xs) =
    ap (λ (y : Sent). y ∷ map calm (map (behind_create frame last) xs)) (by (x.frame.0 == frame.0))
    ∙ ap (λ (l : List Sent). behind_create frame last (calm x) ∷ l) (behind_calm frame last xs)
  where
    by : (t : Bool) → calm (if t then record x { last_create = last } else x) ≡ (if t then record (calm x) { last_create = last } else calm x)
    by true = refl
    by false = refl

-- a request waits that is the first of its frame to do so: it is in flight once all was looked at, and the first of its frame
pub record IsTurn (s : Share) (v : View) (x : Sent) : Type 0 where
  pub there : sent_with x.mid (taken s.owed v).flights ≡ Some (calm x)
  pub first : is_first_of_frame (taken s.owed v).flights (calm x) ≡ true

pub turn_of : (s : Share) (p : PlainSide) (v : View) (mid : Mid) (x : Sent) → Related s p v → sent_with mid s.sent ≡ Some x → is_first_of_frame s.sent x ≡ true → IsTurn s v x
turn_of s p v mid x old there first = record {
  there = found_at mid (taken s.owed v).flights (calm x)
      (ap (sent_with mid) (sym old.sent) ∙ found_map mid calm s.sent (λ y. refl) ∙ ap (option_map calm) there);
  first = ap (λ (l : List Sent). is_first_of_frame l (calm x)) (sym old.sent) ∙ first_calm s.sent x ∙ first;
}

-- what it is to be right, and related behind it
pub Took : Share → PlainSide → View → Sent → Option WireRequest → Type 0
Took s p v x w = (odd_unless (is_right_asked_on_side s p x w) ≡ None) × Related (after_taking w x s) (side_after_asked s p x w) v

-- a request of the connection itself
pub aside_took : (s : Share) (p : PlainSide) (v : View) (x : Sent) → Related s p v → IsTurn s v x → wire_request x.message ≡ Some WireRequest.Aside
    → owner_of x.mid (taken s.owed v).told.owners ≡ None → Took s p v x (Some WireRequest.Aside)
unfolding Took
aside_took s p v x old turn aside nobodys =
    let w : IsWell (taken s.owed v) = well_taken s.owed v (well s p v old) old.due in
    let same : IsSame v (taken s.owed v) = same_taken s.owed v (well s p v old) old.due in
    let owner : owner_of x.mid p.told.owners ≡ None = ap (λ (t : _). owner_of x.mid t.owners) (old.told ∙ sym same.told) ∙ nobodys in
    let gone : landed_owed (owed.Aside x.mid x.message) (taken s.owed v) ≡ record (taken s.owed v) { flights = sent_but x.mid (taken s.owed v).flights } =
    ap (λ (o : Option Sent). landed_as o) (awaited w.early turn.there) in (
      ap (λ (o : Option Owner). odd_unless (is_none o)) owner,
      owing s (after_aside x s) p p v (owed.Aside x.mid x.message) old
          (record {
            alike = alike_beside s (after_aside x s) p refl old.alike;
            ours = old.ours;
            told = refl;
            connected = refl;
            held = refl;
            described = refl;
            more = no_less s.opens_made;
            holders = old.holders;
          })
          (subst (λ (o : Option Sent). IsSomeAnd o (IsDueAside (taken s.owed v) x.message)) (sym turn.there)
          (record { message = refl; first = turn.first; aside = aside; nobodys = nobodys }))
          refl
          (but_calm x.mid s.sent ∙ ap (sent_but x.mid) old.sent ∙ sym (ap (λ (u : View). u.flights) gone))
          (subst (λ (u : View). AreCalls p.pairs s.opens_made u.items p.running) (sym gone) old.running),
    )
  where
    tv : View
    tv = taken s.owed v

    landed_as : Option Sent → View
    landed_as o = answered_aside o (taken s.owed v)

    awaited : (taken s.owed v).early ≡ [] → sent_with x.mid (taken s.owed v).flights ≡ Some (calm x) → awaited_with x.mid (taken s.owed v) ≡ Some (calm x)
    awaited none there = ap (λ (early : _). awaited_with x.mid (record (taken s.owed v) { early = early })) none ∙ there

-- the requests that are left once one was done
sent_after : (s : Share) (v : View) (x : Sent) (related : Bool) (r : Req) (reply : Rep) (sent : List Sent) → wire_request x.message ≡ Some (WireRequest.Share related r)
    → sent ≡ s.sent → map calm s.sent ≡ (taken s.owed v).flights
    → map calm (after_create r x.frame reply (sent_but x.mid sent)) ≡ left_by (calm x) (masked x.message reply) (taken s.owed v).flights
sent_after s v x related r reply sent asks is same =
    ap (λ (l : List Sent). map calm (after_create r x.frame reply (sent_but x.mid l))) is
    ∙ by (is_creating r)
    ∙ ap (λ (b : Bool). if b then map (behind_create x.frame (came_to reply reply.body)) (sent_but x.mid (taken s.owed v).flights) else sent_but x.mid (taken s.owed v).flights) (sym (ap creates_as asks))
    ∙ ap (λ (l : LastCreate). if creates (calm x) then map (behind_create x.frame l) (sent_but x.mid (taken s.owed v).flights) else sent_but x.mid (taken s.owed v).flights) (sym (masked_came x.message reply))
  where
    gone : map calm (sent_but x.mid s.sent) ≡ sent_but x.mid (taken s.owed v).flights
    gone = but_calm x.mid s.sent ∙ ap (sent_but x.mid) same

    by : (t : Bool) → map calm (if t then map (behind_create x.frame (came_to reply reply.body)) (sent_but x.mid s.sent) else sent_but x.mid s.sent)
        ≡ (if t then map (behind_create x.frame (came_to reply reply.body)) (sent_but x.mid (taken s.owed v).flights) else sent_but x.mid (taken s.owed v).flights)
    by true = behind_calm x.frame (came_to reply reply.body) (sent_but x.mid s.sent) ∙ ap (map (behind_create x.frame (came_to reply reply.body))) gone
    by false = gone

-- its reply is due
reply_due : (s : Share) (v : View) (x : Sent) (related : Bool) (r : Req) (reply : Rep) → IsTurn s v x → wire_request x.message ≡ Some (WireRequest.Share related r)
    → gives (is_creating r) reply ≡ true → IsDue (taken s.owed v) (owed.Reply x.mid x.message reply)
reply_due s v x related r reply turn asks fit =
    subst (λ (o : Option Sent). IsSomeAnd o (IsDueTo (taken s.owed v) x.message reply)) (sym turn.there) (record {
      message = refl;
      share = subst IsShare (sym asks) (record {});
      first = turn.first;
      fit = ap (λ (b : Bool). gives b (masked x.message reply)) (ap creates_as asks) ∙ masked_fits (is_creating r) x.message reply fit;
    })

-- the calls then
calls_after : (s : Share) (p : PlainSide) (v : View) (x : Sent) (o : Owner) (refused : Bool) (reply : Rep) → Related s p v → IsTurn s v x
    → owner_of x.mid (taken s.owed v).told.owners ≡ Some o → is_refused (calm x) ≡ refused
    → (landed_owed (owed.Reply x.mid x.message reply) (taken s.owed v)).items ≡ advanced (Some o) refused (masked x.message reply) (taken s.owed v).items
calls_after s p v x o refused reply old turn owner is =
    ap (λ (u : View). u.items) (reply_is (taken s.owed v) x.mid x.message reply (calm x) (well_taken s.owed v (well s p v old) old.due).early turn.there turn.first)
    ∙ ap (λ (a : Option Owner). advanced a (is_refused (calm x)) (masked x.message reply) (taken s.owed v).items) owner
    ∙ ap (λ (b : Bool). advanced (Some o) b (masked x.message reply) (taken s.owed v).items) is

flights_after : (s : Share) (p : PlainSide) (v : View) (x : Sent) (reply : Rep) → Related s p v → IsTurn s v x
    → (landed_owed (owed.Reply x.mid x.message reply) (taken s.owed v)).flights ≡ left_by (calm x) (masked x.message reply) (taken s.owed v).flights
flights_after s p v x reply old turn =
    ap (λ (u : View). u.flights) (reply_is (taken s.owed v) x.mid x.message reply (calm x) (well_taken s.owed v (well s p v old) old.due).early turn.there turn.first)

-- a call's request as both sides have it
pub record IsOf (s : Share) (p : PlainSide) (v : View) (x : Sent) (o : Owner) (i : Item) : Type 0 where
  pub turn : IsTurn s v x
  pub owner : owner_of x.mid (taken s.owed v).told.owners ≡ Some o
  pub runs : item_with o.number (taken s.owed v).items ≡ Some i
  pub from : IsFrom o (calm x) i

plain_owner : (s : Share) (p : PlainSide) (v : View) (x : Sent) (o : Owner) (i : Item) → Related s p v → IsOf s p v x o i → owner_of x.mid p.told.owners ≡ Some o
plain_owner s p v x o i old of =
    ap (λ (t : _). owner_of x.mid t.owners) (old.told ∙ sym (same_taken s.owed v (well s p v old) old.due).told) ∙ of.owner

-- it was refused with the CREATE before it: nothing is done on either share
refused_creates : (related : Bool) (before : LastCreate) (r : Req) (status : ℕ) → refused_before related before r ≡ Some status → is_creating r ≡ false
refused_creates related before r status is = by related (is_creating r) is
  where
    by : (a b : Bool) → (if a && not b then refusal_before before else None) ≡ Some status → b ≡ false
    by true true is = absurd (none_some status is)
    by true false is = refl
    by false b is = absurd (none_some status is)

Refused : Share → PlainSide → View → Sent → Req → Option ℕ → Req → Option Owner → Type 0
Refused s p v x r refusal wanted own =
    (odd_unless (is_right_on_side s p own (is_some refusal) (untold x.message) wanted) ≡ None)
    × Related (after_done x r (unless_refused_before refusal s (step_of (choice_now s.grants) s us wanted)))
    (side_after_request s p own (is_some refusal) (untold x.message) wanted (unless_refused_before refusal s (step_of (choice_now s.grants) s us wanted)).0) v

refused_took : (s : Share) (p : PlainSide) (v : View) (x : Sent) (o : Owner) (i : Item) (related : Bool) (r : Req) (wanted : Req) (status : ℕ) → Related s p v → IsOf s p v x o i
    → wire_request x.message ≡ Some (WireRequest.Share related r) → refused_before related x.last_create r ≡ Some status → Refused s p v x r (Some status) wanted (Some o)
unfolding Refused
refused_took s p v x o i related r wanted status old of asks refusal =
    let f = call_found p.pairs s.opens_made o.number i (taken s.owed v).items p.running old.running of.runs in
    let s' : Share = after_done x r (of_status status, s) in
    let refused : is_refused (calm x) ≡ true = ap (λ (w : Option WireRequest). refused_as w x.last_create) asks ∙ ap (λ (q : Option ℕ). is_some q) refusal in
    let plain : is_creating r ≡ false = refused_creates related x.last_create r status refusal in (
      ap (λ (c : Option PlainCall). odd_unless (is_right_of_call c o.known true (untold x.message) wanted)) f.there,
      subst (λ (c : Option PlainCall). Related s' (side_after_owned p c o.known true (untold x.message) (of_status status)) v) (sym f.there)
          (owing s s' p p v (owed.Reply x.mid x.message (of_status status)) old
          (record {
            alike = alike_beside s s' p refl old.alike;
            ours = old.ours;
            told = refl;
            connected = refl;
            held = refl;
            described = refl;
            more = no_less s.opens_made;
            holders = old.holders;
          })
          (reply_due s v x related r (of_status status) of.turn asks (ap (λ (b : Bool). gives b (of_status status)) plain))
          refl
          (sent_after s v x related r (of_status status) s.sent asks refl old.sent ∙ sym (flights_after s p v x (of_status status) old of.turn))
          (subst (λ (is : List Item). AreCalls p.pairs s.opens_made is p.running) (sym (calls_after s p v x o true (of_status status) old of.turn of.owner refused)) old.running)),
    )

-- the number that a reply gives was given
counted_low : (s : Share) (done : Rep × Share) → Counts s done → opened_number done.0.body ≤ done.1.opens_made
counted_low s done (inl none) = least (opened_number done.0.body) done.1.opens_made none.0
  where
    least : (a b : ℕ) → a ≡ 0 → a ≤ b
    least a b is = omega (arith, is)
counted_low s done (inr one) = equal (opened_number done.0.body) done.1.opens_made (one.0 ∙ sym one.1)
  where
    equal : (a b : ℕ) → a ≡ b → a ≤ b
    equal a b is = omega (arith, is)

-- it is what the call's program asks: it is done on both shares
abbrev pub plain_after : PlainSide → PlainCall → Wish → (Rep → Program) → Rep → PlainSide
plain_after p c wish rest real = side_after_wish p c wish rest Nothing (wish_done_on p c wish) real

-- what it does to the two shares
record Steps (s : Share) (p : PlainSide) (i : Item) (c : PlainCall) (wish : Wish) (rest : Rep → Program) (placed : List Placed) (done : Rep × Share) : Type 0 where
  same : shown (wish_done_on p c wish).0 ≡ shown done.0
  alike : Alike done.1 (plain_after p c wish rest done.0)

steps : (choice : Option Grant) (s : Share) (p : PlainSide) (i : Item) (c : PlainCall) (wish : Wish) (rest : Rep → Program) (placed : List Placed) → Alike s p → HasFiles p s.opens_made placed i c
    → Steps s p i c wish rest placed (step_of choice s us (wish_of (files_of i placed i.fids) wish))
steps choice s p i c wish rest placed alike has =
    let r : Req = wish_of (files_of i placed i.fids) wish in
    let done : Rep × Share = step_of choice s us r in
    let carried : carried_step p us r ≡ wish_done_on p c wish = ap (plain_step p.plain us) (wish_carried p s.opens_made placed i c has wish) in
    let both = subst (λ (d : Rep × Share). (shown d.0 ≡ shown done.0) × Alike done.1 (stepped p (path_opened wish) d done.0)) carried
    (alike_step choice s p us r (path_opened wish) (wish_built (files_of i placed i.fids) wish) alike) in
    record {
      same = both.0;
      alike = alike_calls done.1 (stepped p (path_opened wish) (wish_done_on p c wish) done.0) (plain_after p c wish rest done.0) refl refl refl both.1;
    }

-- the call goes on as its plain one does
goes_on : (s : Share) (p : PlainSide) (v : View) (x : Sent) (i : Item) (c : PlainCall) (known : Known) (wish : Wish) (rest : Rep → Program) (done : Rep × Share) (reply : Rep)
    → IsLater s done.1 p (plain_after p c wish rest done.0) → shown (wish_done_on p c wish).0 ≡ shown done.0 → reply ≡ done.0 → NamesIn done.0.body → opened_number done.0.body ≤ done.1.opens_made
    → settled known i.rest ≡ Ask wish rest → i.broken ≡ false → i.announced ≡ true → IsCall p.pairs s.opens_made i c
    → IsCall (plain_after p c wish rest done.0).pairs done.1.opens_made (gone_on known reply i)
    (record c { rest = rest (shown (wish_done_on p c wish).0); opened = with_given (open_given (wish_done_on p c wish).0.body) c.opened })
goes_on s p v x i c known wish rest done reply later same is names low settles whole announced call =
    let p' : PlainSide = plain_after p c wish rest done.0 in
    let along : IsAlong p'.pairs done.1.opens_made i c = along_later s done.1 p p' i c later (call.along whole) in
    let opens = opens_after (path_opened wish) p.pairs done.1.opens_made (wish_done_on p c wish).0 done.0 i.fids c.opened same names low along.opened along.given in
    record {
      number = call.number;
      lane = call.lane;
      call = call.call;
      announced = call.announced;
      file = call.file;
      along = λ unbroken. record {
        rest = ap rest same ∙ sym (ap (λ (a : Rep). replied known i.rest (shown a)) is ∙ replied_settled known i.rest (shown done.0) ∙ ap (λ (q : Program). replied known q (shown done.0)) settles);
        opened = opens.opened_is ∙ ap (λ (a : Rep). map (plain_number p'.pairs) (fids_with a.body i.fids)) (sym is);
        given = subst (λ (a : Rep). AllByRecursion (IsGiven done.1.opens_made) (fids_with a.body i.fids)) (sym is) opens.given;
      };
      parted = call.parted;
      unsent = call.unsent;
      unopened = λ none. absurd (false≢true (sym none ∙ announced));
    }

-- a call with a request in flight was broken off by no lost connection, and a frame was announced for it
is_whole : (pairs : List Pair) (made : ℕ) (i : Item) (c : PlainCall) (frame : Mid) → IsCall pairs made i c → i.frame ≡ Some frame → i.broken ≡ false
is_whole pairs made i c frame call at = by i.broken refl
  where
    by : (t : Bool) → i.broken ≡ t → i.broken ≡ false
    by true is = absurd (none_some frame (sym (call.parted is) ∙ at))
    by false is = is

is_announced : (pairs : List Pair) (made : ℕ) (i : Item) (c : PlainCall) (frame : Mid) → IsCall pairs made i c → i.frame ≡ Some frame → i.announced ≡ true
is_announced pairs made i c frame call at = by i.announced refl
  where
    by : (t : Bool) → i.announced ≡ t → i.announced ≡ true
    by true is = is
    by false is = absurd (none_some frame (sym (call.unsent is) ∙ at))

asked_took : (s : Share) (p : PlainSide) (v : View) (x : Sent) (o : Owner) (i : Item) (related : Bool) (r : Req) (wish : Wish) (rest : Rep → Program) → Related s p v → IsOf s p v x o i
    → wire_request x.message ≡ Some (WireRequest.Share related r) → refused_before related x.last_create r ≡ None
    → is_creating r ≡ is_creating (wish_of (files_of i (taken s.owed v).placed i.fids) wish) → untold x.message ≡ Nothing → settled o.known i.rest ≡ Ask wish rest
    → Refused s p v x r None (wish_of (files_of i (taken s.owed v).placed i.fids) wish) (Some o)
unfolding Refused
asked_took s p v x o i related r wish rest old of asks refusal creating told settles =
    let same : IsSame v (taken s.owed v) = same_taken s.owed v (well s p v old) old.due in
    let placed : List Placed = (taken s.owed v).placed in
    let wanted : Req = wish_of (files_of i placed i.fids) wish in
    let choice : Option Grant = choice_now s.grants in
    let done : Rep × Share = step_of choice s us wanted in
    let f = call_found p.pairs s.opens_made o.number i (taken s.owed v).items p.running old.running of.runs in
    let c : PlainCall = f.c in
    let whole : i.broken ≡ false = is_whole p.pairs s.opens_made i c x.frame f.is of.from.frame in
    let announced : i.announced ≡ true = is_announced p.pairs s.opens_made i c x.frame f.is of.from.frame in
    let along = f.is.along whole in
    let has : HasFiles p s.opens_made placed i c = record {
      none = alike_none s p old.alike;
      described = old.described ∙ ap (all_described p.pairs) (sym same.placed);
      given = subst (AllByRecursion (λ (y : Placed). IsGiven s.opens_made y.fid)) (sym same.placed) old.placed;
      file = f.is.file;
      along = along;
    } in
    let st = steps choice s p i c wish rest placed old.alike has in
    let p' : PlainSide = plain_after p c wish rest done.0 in
    let s' : Share = after_done x r done in
    let leaves : connection done.1 ≡ connection s = step_connection choice s us wanted in
    let asks_on : settled o.known c.rest ≡ Ask wish rest = ap (settled o.known) along.rest ∙ settles in
    let refused : is_refused (calm x) ≡ false = ap (λ (w : Option WireRequest). refused_as w x.last_create) asks ∙ ap (λ (q : Option ℕ). is_some q) refusal in
    let later : IsLater s done.1 p p' = record { before = old.alike; after = st.alike; more = made_more choice s us wanted } in
    let next_is : side_after_request s p (Some o) false (untold x.message) wanted done.0 ≡ p' =
    ap (λ (u : Untold). side_after_request s p (Some o) false u wanted done.0) told
    ∙ ap (λ (k : Option PlainCall). side_after_owned p k o.known false Nothing done.0) f.there ∙ ap (λ (q : Program). side_after_next p c Nothing q done.0) asks_on in (
      ap (λ (u : Untold). odd_unless (is_right_on_side s p (Some o) false u wanted)) told
          ∙ ap (λ (k : Option PlainCall). odd_unless (is_right_of_call k o.known false Nothing wanted)) f.there
          ∙ ap (λ (q : Program). odd_unless (is_next q Nothing wanted)) asks_on
          ∙ ap odd_unless (wished_itself (files_of i placed i.fids) wish),
      subst (λ (q : PlainSide). Related s' q v) (sym next_is)
          (owing s s' p p' v (owed.Reply x.mid x.message done.0) old
          (record {
            alike = alike_beside done.1 s' p' refl st.alike;
            ours = step_ours choice s us wanted (wish_built (files_of i placed i.fids) wish) old.ours;
            told = refl;
            connected = ap (λ (k : Connection). k.connected) leaves;
            held = ap (λ (k : Connection). k.held) leaves;
            described = refl;
            more = made_more choice s us wanted;
            holders = wish_holds p p' c o.known wish rest (alike_stands s p old.alike) (refl, refl, refl)
                (subst (λ (n : ℕ). call_with n p.running ≡ Some c) (sym f.number) f.there) asks_on old.holders;
          })
          (reply_due s v x related r done.0 of.turn asks (ap (λ (b : Bool). gives b done.0) creating ∙ step_gives choice s us wanted))
          (ap (λ (k : Connection). k.owed ++ owed.Reply x.mid x.message done.0 ∷ []) leaves)
          (sent_after s v x related r done.0 done.1.sent asks (ap (λ (k : Connection). k.sent) leaves) old.sent ∙ sym (flights_after s p v x done.0 old of.turn))
          (subst (λ (is : List Item). AreCalls p'.pairs s'.opens_made is p'.running) (sym (calls_after s p v x o false done.0 old of.turn of.owner refused))
          (calls_on p.pairs p'.pairs s.opens_made done.1.opens_made o.number (gone_on o.known (masked x.message done.0))
          (record c { rest = rest (shown (wish_done_on p c wish).0); opened = with_given (open_given (wish_done_on p c wish).0.body) c.opened })
          (taken s.owed v).items p.running i c of.runs f.there f.number
          (goes_on s p v x i c o.known wish rest done (masked x.message done.0) later st.same (masked_itself x.message done.0 told) (step_names choice s us wanted)
          (counted_low s done (step_counts choice s us wanted)) settles whole announced)
          (call_later s done.1 p p' later) old.running))),
    )

-- what is asked for, as both sides read it
same_creating : (related : Bool) (before : LastCreate) (r : Req) → is_creating (resolved related before r) ≡ is_creating r
same_creating false before r = refl
same_creating true (last.Opened fid) r = carried r
  where
    carried : (r : Req) → is_creating (map_fid (λ own. fid) r) ≡ is_creating r
    carried (req.Close own) = refl
    carried (req.Query own) = refl
    carried other = refl
same_creating true other r = refl

put_together : (s : Share) (p : PlainSide) (v : View) (x : Sent) (o : Owner) (i : Item) (related : Bool) (r : Req) (refusal : Option ℕ) (wanted : Req) → Related s p v → IsOf s p v x o i
    → refused_before related x.last_create r ≡ refusal → resolved related x.last_create r ≡ wanted → Refused s p v x r refusal wanted (Some o) → Took s p v x (Some (WireRequest.Share related r))
unfolding Took Refused
put_together s p v x o i related r refusal wanted old of refused asks done =
    subst (λ (own : Option Owner). Refused s p v x r (refused_before related x.last_create r) (resolved related x.last_create r) own) (sym (plain_owner s p v x o i old of))
    (subst (λ (q : Option ℕ). Refused s p v x r q (resolved related x.last_create r) (Some o)) (sym refused)
    (subst (λ (q : Req). Refused s p v x r refusal q (Some o)) (sym asks) done))

asked_as : (s : Share) (p : PlainSide) (v : View) (x : Sent) (o : Owner) (i : Item) (wish : Wish) (rest : Rep → Program) (w : Option WireRequest) → Related s p v → IsOf s p v x o i → wire_request x.message ≡ w
    → refused_as w x.last_create ≡ false → AsksAs w x.last_create (wish_of (files_of i (taken s.owed v).placed i.fids) wish) → untold x.message ≡ Nothing → settled o.known i.rest ≡ Ask wish rest → Took s p v x w
asked_as s p v x o i wish rest None old of is refused asks told settles = absurd asks
asked_as s p v x o i wish rest (Some WireRequest.Aside) old of is refused asks told settles = absurd asks
asked_as s p v x o i wish rest (Some (WireRequest.Share related r)) old of is refused asks told settles =
    let none : refused_before related x.last_create r ≡ None = none_is (refused_before related x.last_create r) refused in
    put_together s p v x o i related r None (wish_of (files_of i (taken s.owed v).placed i.fids) wish) old of none asks
    (asked_took s p v x o i related r wish rest old of is none (sym (same_creating related x.last_create r) ∙ ap is_creating asks) told settles)
  where
    none_is : (q : Option ℕ) → is_some q ≡ false → q ≡ None
    none_is None no_status = refl
    none_is (Some status) no_status = absurd (false≢true (sym no_status))

refused_to : (s : Share) (p : PlainSide) (v : View) (x : Sent) (o : Owner) (i : Item) (w : Option WireRequest) → Related s p v → IsOf s p v x o i → wire_request x.message ≡ w
    → refused_as w x.last_create ≡ true → Took s p v x w
refused_to s p v x o i None old of is refused = absurd (false≢true refused)
refused_to s p v x o i (Some WireRequest.Aside) old of is refused = absurd (false≢true refused)
refused_to s p v x o i (Some (WireRequest.Share related r)) old of is refused = by (refused_before related x.last_create r) refl refused
  where
    by : (q : Option ℕ) → refused_before related x.last_create r ≡ q → is_some q ≡ true → Took s p v x (Some (WireRequest.Share related r))
    by None none some = absurd (false≢true some)
    by (Some status) refusal some =
        put_together s p v x o i related r (Some status) (resolved related x.last_create r) old of refusal refl
        (refused_took s p v x o i related r (resolved related x.last_create r) status old of is refusal)

-- a call's request is refused, or what its program asks
call_took : (s : Share) (p : PlainSide) (v : View) (x : Sent) (o : Owner) (i : Item) → Related s p v → IsOf s p v x o i → Took s p v x (wire_request x.message)
call_took s p v x o i old of =
    let tv : View = taken s.owed v in
    let sane : Sane tv = (well_taken s.owed v (well s p v old) old.due).sane in
    let flies : FliesFrom i.frame i tv.placed tv.flights = (item_found (FliesIn tv) o.number tv.items i of.runs sane.flies).0 in
    at (is_refused (calm x)) refl
    (lands (files_of i tv.placed) i.known (calm x) i.rest i.fids tv.flights of.turn.there of.turn.first sane.rising (subst (λ (f : Option Mid). FliesFrom f i tv.placed tv.flights) of.from.frame flies))
  where
    asking : (q : Program) (T : Program → Rep → Type 0) → settled o.known i.rest ≡ q → is_refused (calm x) ≡ false → AsksNext (files_of i (taken s.owed v).placed) (calm x) i.fids q T
        → Took s p v x (wire_request x.message)
    asking (Ask wish rest) T settles refused asks = asked_as s p v x o i wish rest (wire_request x.message) old of refl refused asks.0.0 asks.0.1 settles
    asking (Look rest) T settles refused asks = absurd asks
    asking (Say answer) T settles refused asks = absurd asks

    at : (t : Bool) → is_refused (calm x) ≡ t
        → MatchBool t ((reply : Rep) → FliesAs (files_of i (taken s.owed v).placed) i.known x.frame (λ y. y) i.rest i.fids (left_by (calm x) reply (taken s.owed v).flights))
        (AsksNext (files_of i (taken s.owed v).placed) (calm x) i.fids (settled i.known i.rest)
        (λ rest reply. FliesAs (files_of i (taken s.owed v).placed) i.known x.frame (λ y. y) rest (fids_after reply i.fids) (left_by (calm x) reply (taken s.owed v).flights)))
        → Took s p v x (wire_request x.message)
    at true refused flies = refused_to s p v x o i (wire_request x.message) old of refl refused
    at false refused asks = asking (settled i.known i.rest) _ (ap (λ (k : Known). settled k i.rest) (sym of.from.known)) refused asks

-- a request that waits is taken
turn_took : (s : Share) (p : PlainSide) (v : View) (x : Sent) → Related s p v → IsTurn s v x → Took s p v x (wire_request x.message)
turn_took s p v x old turn =
    let tv : View = taken s.owed v in
    let sane : Sane tv = (well_taken s.owed v (well s p v old) old.due).sane in
    by (owner_of x.mid tv.told.owners) refl
    (found (IsOwned tv.items tv.told.owners) x.mid tv.flights (calm x) turn.there sane.owned).0
  where
    runs : (o : Owner) → owner_of x.mid (taken s.owed v).told.owners ≡ Some o → (m : Option Item) → item_with o.number (taken s.owed v).items ≡ m → IsSomeAnd m (IsFrom o (calm x)) → Took s p v x (wire_request x.message)
    runs o owner None is from = absurd from
    runs o owner (Some i) is from = call_took s p v x o i old (record { turn = turn; owner = owner; runs = is; from = from })

    by : (o : Option Owner) → owner_of x.mid (taken s.owed v).told.owners ≡ o → IsOwnedBy o (taken s.owed v).items (calm x) → Took s p v x (wire_request x.message)
    by None owner owned = subst (Took s p v x) (sym owned.aside) (aside_took s p v x old turn owned.aside owner)
    by (Some o) owner owned = runs o owner (item_with o.number (taken s.owed v).items) refl owned

pub took_related : (s : Share) (p : PlainSide) (v : View) (mid : Mid) → Related s p v → MayTake (sent_with mid s.sent) s
    → (odd_unless (is_right_took s p mid) ≡ None) × Related (after_took mid s) (side_after_took s p mid) v
unfolding Took
took_related s p v mid old may = by (sent_with mid s.sent) refl may
  where
    by : (o : Option Sent) → sent_with mid s.sent ≡ o → MayTake o s → (odd_unless (is_right_sent_on_side s p o) ≡ None) × Related (after_took_of o s) (side_after_sent s p o) v
    by None is may = absurd may
    by (Some x) is may = turn_took s p v x old (turn_of s p v mid x old is may.0)
