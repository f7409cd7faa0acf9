-- A call goes on with a reply that has come to its turn, in the core as in the client.
use Rattle.std.proofs.Common.{rules, ◌≡◌, ◌∙◌, refl, sym, ap, subst, ℕ, ◌==◌, Bool, true, false, if◌then◌else◌, ◌&&◌, List, [], ◌∷◌, ◌++◌, Option, Some, None}
use Rattle.std.specs.Prelude.{IsSomeAnd, option_map, is_some, is_none}
use Rattle.std.proofs.lemmas.Bool.{false≢true}
use Rattle.smb_base.specs.declared.names.Fid.{Fid}
use Rattle.smb_base.specs.declared.names.Mid.{Mid}
use Rattle.smb_base.specs.declared.names.Status.{Status}
use Rattle.smb_base.specs.ErrorTable.{error_number}
use Rattle.fs_types.specs.declared.answer.Answer.{Answer}
use Rattle.fs_types.specs.declared.options.Options.{Options}
use Rattle.share_state.specs.declared.connection.LastCreate.{LastCreate}
use Rattle.share_state.specs.declared.connection.LastCreate.TheVariants as last
use Rattle.share_state.specs.declared.connection.Sent.{Sent}
use Rattle.share_state.specs.declared.request.Rep.{Rep}
use Rattle.share_state.specs.declared.request.RepBody.{RepBody}
use Rattle.share_state.specs.declared.request.RepBody.TheVariants as body
use Rattle.share_state.specs.declared.request.Req.{Req}
use Rattle.share_state.specs.PlainShare.{shown, shown_body}
use Rattle.share_state.specs.Reply.{map_fid}
use Rattle.smb_link.specs.Program.{File, Own, Program, Known, Ask, Say, Query, Close, settled, replied, of_number, of_refusal}
use Rattle.smb_link.specs.Stat.{stat_of, stat_answer}
use Rattle.fs_plain.specs.Paired.{open_given}
use Rattle.fs_plain.specs.Requests.{WireRequest, wire_request}
use Rattle.fs_plain.specs.Owners.{Owner, owner_of}
use Rattle.fs_plain.specs.World.{is_creating, resolved}
use Rattle.fs_client.specs.Item.{Item, item_with, on_item, fids_with, fids_after, gone_on}
use Rattle.fs_client.specs.View.{View}
use Rattle.fs_client.specs.Asked.{creates_as, is_refused, AsksAs, fits, left_by}
use Rattle.fs_client.specs.Flies.{AsksNext, FliesAs, files_of, FliesFrom}
use Rattle.fs_client.specs.Looks.{advanced}
use Rattle.fs_client.specs.Sane.{IsFrom, IsOwnedBy, IsOwned, FliesIn, Sane}
use Rattle.fs_client.proofs.Lists.{none_some, found, item_found}
use Rattle.fs_client.proofs.Flights.{flies_drop_first}
use Rattle.fs_client.proofs.Landing.{InTurn}
use Rattle.fs_core.specs.declared.flight.Flight.{Flight}
use Rattle.fs_core.specs.declared.slot.Slot.{Slot}
use Rattle.fs_core.specs.declared.stat.Outcome.{Outcome}
use Rattle.fs_core.specs.declared.stat.Progress.{Progress}
use Rattle.fs_core.specs.declared.stat.Progress.TheVariants as progress
use Rattle.fs_core.specs.Parts.{on_slot}
use Rattle.fs_core.specs.Fits.{answer_of, rest_by, HasOpened, Shows, AllShow, Flies}
use Rattle.fs_core.specs.Steps.{outcome_of_body, failed_with, refused_with, outcome_of, opened_with, advanced_by, advanced_slot, slots_gone_on}
use Rattle.fs_core.proofs.LandingLists.{show_on}

-- a reply to the next request of a call that has come so far: a CREATE that has success gives an open, and nothing else does
abbrev pub Suits : Progress → Rep → Type 0
Suits progress.Opening reply = (reply.status.0 == 0) ≡ true → is_some (open_given reply.body) ≡ true
Suits (progress.Querying fid) reply = is_none (open_given reply.body) ≡ true
Suits (progress.Closing fid o) reply = Unit {0}
Suits (progress.Said o) reply = Unit {0}

-- what a refusal comes to
failed_is : (number : ℕ) (status : Status) → of_number number status ≡ answer_of (failed_with number status)
failed_is number status = by (number == 121)
  where
    by : (t : Bool) → (if t then Answer.Err (record { 0 = number }) (Some status) else Answer.Err (record { 0 = number }) None)
        ≡ answer_of (if t then Outcome.Failed (record { 0 = number }) (Some status) else Outcome.Failed (record { 0 = number }) None)
    by true = refl
    by false = refl

-- and what is known
known_is : (options : Options) (reply : Rep) → stat_answer options (shown reply) ≡ answer_of (outcome_of options reply)
known_is options reply = by (reply.status.0 == 0)
  where
    told : (b : RepBody) → stat_of options (shown_body b) ≡ answer_of (outcome_of_body options b)
    told b = search rules

    by : (t : Bool)
        → (if t then stat_of options (shown_body reply.body) else of_refusal reply.status)
        ≡ answer_of (if t then outcome_of_body options reply.body else refused_with reply.status)
    by true = told reply.body
    by false = failed_is (error_number reply.status.0) reply.status

-- what is left of the call
opened_rest : (options : Options) (path : List ℕ) (b : RepBody) → is_some (open_given b) ≡ true
    → Ask (Query (Own 0)) (λ info. Ask (Close (Own 0)) (λ closed. Say (stat_answer options info))) ≡ rest_by options path (opened_with b)
opened_rest options path (body.Opened fid action size attributes lease durable) is = refl
opened_rest options path body.None is = absurd (false≢true is)
opened_rest options path (body.Bytes bytes) is = absurd (false≢true is)
opened_rest options path (body.Count n) is = absurd (false≢true is)
opened_rest options path (body.Info dir size read_only links pending number) is = absurd (false≢true is)
opened_rest options path (body.Names names) is = absurd (false≢true is)
opened_rest options path (body.Room total free) is = absurd (false≢true is)

rest_goes : (options : Options) (path : List ℕ) (known : Known) (reply : Rep) (p : Progress) → Suits p reply
    → replied known (rest_by options path p) (shown reply) ≡ rest_by options path (advanced_by options reply p)
rest_goes options path known reply progress.Opening suits = by (reply.status.0 == 0) suits
  where
    by : (t : Bool) → (t ≡ true → is_some (open_given reply.body) ≡ true)
        → (if t then Ask (Query (Own 0)) (λ info. Ask (Close (Own 0)) (λ closed. Say (stat_answer options info))) else Say (of_refusal reply.status))
        ≡ rest_by options path (if t then opened_with reply.body else progress.Said (refused_with reply.status))
    by true suits = opened_rest options path reply.body (suits refl)
    by false suits = ap Say (failed_is (error_number reply.status.0) reply.status)
rest_goes options path known reply (progress.Querying fid) suits = ap (λ (a : Answer). Ask (Close (Own 0)) (λ closed. Say a)) (known_is options reply)
rest_goes options path known reply (progress.Closing fid o) suits = refl
rest_goes options path known reply (progress.Said o) suits = refl

-- the opens that it made
opened_fids : (b : RepBody) (fids : List Fid) → is_some (open_given b) ≡ true → fids ≡ [] → HasOpened (opened_with b) (fids_with b fids)
opened_fids (body.Opened fid action size attributes lease durable) fids is none = ap (λ (l : List Fid). l ++ fid ∷ []) none
opened_fids body.None fids is none = absurd (false≢true is)
opened_fids (body.Bytes bytes) fids is none = absurd (false≢true is)
opened_fids (body.Count n) fids is none = absurd (false≢true is)
opened_fids (body.Info dir size read_only links pending number) fids is none = absurd (false≢true is)
opened_fids (body.Names names) fids is none = absurd (false≢true is)
opened_fids (body.Room total free) fids is none = absurd (false≢true is)

same_fids : (b : RepBody) (fids : List Fid) → is_none (open_given b) ≡ true → fids_with b fids ≡ fids
same_fids (body.Opened fid action size attributes lease durable) fids is = absurd (false≢true is)
same_fids body.None fids is = refl
same_fids (body.Bytes bytes) fids is = refl
same_fids (body.Count n) fids is = refl
same_fids (body.Info dir size read_only links pending number) fids is = refl
same_fids (body.Names names) fids is = refl
same_fids (body.Room total free) fids is = refl

opens_go : (options : Options) (reply : Rep) (p : Progress) (fids : List Fid) → Suits p reply → HasOpened p fids
    → HasOpened (advanced_by options reply p) (fids_after reply fids)
opens_go options reply progress.Opening fids suits opened = by (reply.status.0 == 0) suits
  where
    by : (t : Bool) → (t ≡ true → is_some (open_given reply.body) ≡ true)
        → HasOpened (if t then opened_with reply.body else progress.Said (refused_with reply.status)) (fids_with reply.body fids)
    by true suits = opened_fids reply.body fids (suits refl) opened
    by false suits = record {}
opens_go options reply (progress.Querying fid) fids suits opened = same_fids reply.body fids suits ∙ opened
opens_go options reply (progress.Closing fid o) fids suits opened = record {}
opens_go options reply (progress.Said o) fids suits opened = record {}

-- the call itself, which has sent a frame
pub call_goes : (options : Options) (known : Known) (reply : Rep) (s : Slot) (i : Item) (frame : Mid) → i.frame ≡ Some frame → Suits s.stat.progress reply
    → Shows options s i
    → Shows options (advanced_slot options reply s) (gone_on known reply i)
call_goes options known reply s i frame sent suits shows = record {
  number = shows.number;
  lane = shows.lane;
  announced = shows.announced;
  whole = shows.whole;
  stat = shows.stat;
  rest = ap (λ (p : Program). replied known p (shown reply)) shows.rest ∙ rest_goes options s.stat.path known reply s.stat.progress suits;
  opened = opens_go options reply s.stat.progress i.fids suits shows.opened;
  first = λ quiet. absurd (none_some frame (sym (shows.unsent quiet) ∙ sent));
  unsent = shows.unsent;
}

-- a request that is a CREATE of a call is one as it was sent
map_creating : (g : Fid → Fid) (r : Req) → is_creating (map_fid g r) ≡ is_creating r
map_creating g r = search rules

resolved_creating : (related : Bool) (before : LastCreate) (r : Req) → is_creating (resolved related before r) ≡ is_creating r
resolved_creating true last.Nothing r = refl
resolved_creating true (last.Opened fid) r = map_creating (λ own. fid) r
resolved_creating true (last.Refused status) r = refl
resolved_creating false before r = refl

asked_creates : (w : Option WireRequest) (before : LastCreate) (wanted : Req) → AsksAs w before wanted → creates_as w ≡ is_creating wanted
asked_creates None before wanted asks = absurd asks
asked_creates (Some WireRequest.Aside) before wanted asks = absurd asks
asked_creates (Some (WireRequest.Share related request)) before wanted asks = sym (resolved_creating related before request) ∙ ap is_creating asks

-- a reply to what a call asks next suits it
pub suits : (options : Options) (path : List ℕ) (files : List Fid → File → Fid) (known : Known) (x : Sent) (fids : List Fid) (p : Progress)
    (reply : Rep) (Then : Program → Rep → Type 0)
    → fits x reply ≡ true → AsksNext files x fids (settled known (rest_by options path p)) Then → Suits p reply
suits options path files known x fids progress.Opening reply Then fit asks = λ success.
    subst (λ (b : Bool). (if b then is_some (open_given reply.body) else is_none (open_given reply.body)) ≡ true) success
    (subst (λ (b : Bool). (if b && reply.status.0 == 0 then is_some (open_given reply.body) else is_none (open_given reply.body)) ≡ true)
    (asked_creates (wire_request x.message) x.last_create _ asks.0.0) fit)
suits options path files known x fids (progress.Querying fid) reply Then fit asks =
    subst (λ (b : Bool). (if b && reply.status.0 == 0 then is_some (open_given reply.body) else is_none (open_given reply.body)) ≡ true)
    (asked_creates (wire_request x.message) x.last_create _ asks.0.0) fit
suits options path files known x fids (progress.Closing fid o) reply Then fit asks = record {}
suits options path files known x fids (progress.Said o) reply Then fit asks = record {}

-- all calls, once a reply came to its turn
pub slots_go : (options : Options) (v : View) (f : Flight) (x : Sent) (reply : Rep) (slots : List Slot) → Sane v → InTurn v.flights x reply
    → Flies v.told.owners f x → AllShow options slots v.items
    → AllShow options (slots_gone_on options f.owner f.refused reply slots) (advanced (owner_of x.mid v.told.owners) (is_refused x) reply v.items)
slots_go options v f x reply slots sane turn flies all =
    by (owner_of x.mid v.told.owners) flies.owner (found (IsOwned v.items v.told.owners) x.mid v.flights x turn.there sane.owned).0
  where
    one : (o : Owner) → is_refused x ≡ false → IsSomeAnd (item_with o.number v.items) (IsFrom o x) → (s : Slot) (i : Item) → item_with o.number v.items ≡ Some i
        → Shows options s i → Shows options (advanced_slot options reply s) (gone_on o.known reply i)
    one o not_refused own s i there shows =
        let from : IsFrom o x i = subst (λ (p : Option Item). IsSomeAnd p (IsFrom o x)) there own in
        let flown : FliesAs (files_of i v.placed) i.known x.frame (λ y. y) i.rest i.fids v.flights =
        subst (λ (m : Option Mid). FliesFrom m i v.placed v.flights) from.frame (item_found (FliesIn v) o.number v.items i there sane.flies).0 in
        call_goes options o.known reply s i x.frame from.frame
        (suits options s.stat.path (files_of i v.placed) i.known x i.fids s.stat.progress reply
        (λ rest r. FliesAs (files_of i v.placed) i.known x.frame (λ y. y) rest (fids_after r i.fids) (left_by x r v.flights)) turn.fit
        (subst (λ (p : Program). AsksNext (files_of i v.placed) x i.fids (settled i.known p)
        (λ rest r. FliesAs (files_of i v.placed) i.known x.frame (λ y. y) rest (fids_after r i.fids) (left_by x r v.flights))) shows.rest
        (flies_drop_first (files_of i v.placed) i.known x i.rest i.fids v.flights turn.there turn.first sane.rising not_refused flown))) shows

    at : (o : Owner) → IsSomeAnd (item_with o.number v.items) (IsFrom o x) → (t : Bool) → is_refused x ≡ t
        → AllShow options (if t then slots else on_slot o.number (advanced_slot options reply) slots)
        (if t then v.items else on_item o.number (gone_on o.known reply) v.items)
    at o own true is = all
    at o own false is = show_on options o.number (advanced_slot options reply) (gone_on o.known reply) slots v.items (one o is own) all

    by : (o : Option Owner) → option_map (λ (p : Owner). p.number) o ≡ f.owner → IsOwnedBy o v.items x
        → AllShow options (slots_gone_on options f.owner f.refused reply slots) (advanced o (is_refused x) reply v.items)
    by None is own = subst (λ (w : Option ℕ). AllShow options (slots_gone_on options w f.refused reply slots) v.items) is all
    by (Some o) is own =
        subst (λ (w : Option ℕ). AllShow options (slots_gone_on options w f.refused reply slots) (advanced (Some o) (is_refused x) reply v.items)) is
        (subst (λ (b : Bool). AllShow options (slots_gone_on options (Some o.number) b reply slots)
        (advanced (Some o) (is_refused x) reply v.items)) flies.refused
        (at o own (is_refused x) refl))
