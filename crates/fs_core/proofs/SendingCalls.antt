-- A stat sends its next request alone, or all three as one frame.
use Rattle.std.proofs.Common.{arith, ◌≡◌, ◌∙◌, refl, sym, ap, subst, ℕ, suc, ◌+◌, ◌-◌, ◌*◌, ◌<◌, ◌≤◌, Bool, true, false, List, [], ◌∷◌, length, Some, None}
use Rattle.std.specs.Prelude.{map}
use Rattle.std.specs.List.{AllByRecursion}
use Rattle.smb_base.specs.declared.names.Fid.{Fid}
use Rattle.smb_base.specs.declared.names.Mid.{Mid}
use Rattle.smb_head.specs.declared.first.TheConstants.{MAX_FRAME}
use Rattle.smb_head.specs.declared.request.Request.{Request}
use Rattle.smb_head.specs.Stream as stream
use Rattle.smb_chain.specs.Chain.{chain}
use Rattle.smb_credit.specs.Window.{Ids, usable, least}
use Rattle.smb_credit.proofs.WindowLaws.{length-usable}
use Rattle.smb_mux.specs.Sending.{costs, placed, room_of}
use Rattle.smb_mux.proofs.SendLaws.{costs-some}
use Rattle.smb_link.specs.declared.mark.Mark.TheVariants as mark
use Rattle.smb_link.specs.Program.{Own, File, Wish, Query, Close, Program, Known, Ask, Say, settled}
use Rattle.smb_link.specs.Stat.{stat_answer, stat_once_open}
use Rattle.smb_mount.specs.declared.facts.Facts.{Facts}
use Rattle.fs_types.specs.declared.options.Options.{Options}
use Rattle.share_state.specs.declared.connection.Sent.{Sent}
use Rattle.share_state.specs.declared.request.Req.{Req}
use Rattle.share_state.specs.declared.request.Req.TheVariants as req
use Rattle.fs_plain.specs.Replies.{command_of}
use Rattle.fs_plain.specs.Wishes.{wish_of}
use Rattle.fs_plain.specs.World.{waiting, requests_in, is_creating}
use Rattle.fs_client.specs.Item.{Item}
use Rattle.fs_client.specs.View.{Setting, Client}
use Rattle.fs_client.specs.After.{frame_of}
use Rattle.fs_client.specs.Asked.{creates_as}
use Rattle.fs_client.specs.Flies.{FliesAs, files_of}
use Rattle.fs_client.specs.May.{IsAsking, requests_for}
use Rattle.fs_client.specs.Spelled.{every_bit, fid_sent, request_for, ids_of, next_mid, free_ids}
use Rattle.fs_client.proofs.Lists.{itself, all_map}
use Rattle.fs_client.proofs.Chains.{Wants, flies_one, IsRelated, flies_three}
use Rattle.fs_client.proofs.StatChain.{stat_wants_three}
use Rattle.fs_client.proofs.SpelledLaws.{least_is}
use Rattle.fs_core.specs.declared.phase.Phase.{Phase}
use Rattle.fs_core.specs.declared.phase.Phase.TheVariants as phase
use Rattle.fs_core.specs.declared.slot.Slot.{Slot}
use Rattle.fs_core.specs.declared.stat.Progress.{Progress}
use Rattle.fs_core.specs.declared.stat.Progress.TheVariants as progress
use Rattle.fs_core.specs.declared.output.Output.TheVariants as output
use Rattle.fs_core.specs.Kept.{Kept}
use Rattle.fs_core.specs.Parts.{slot_with, is_idle}
use Rattle.fs_core.specs.Asks.{only, open_wish, chain_of, alone_by, alone_of, kinds_of}
use Rattle.fs_core.specs.Fits.{answer_of, rest_by, rest_of, HasOpened, IsFirst, IsNoLeave, IsAt, Fits}
use Rattle.fs_core.specs.Steps.{sent_for}
use Rattle.fs_core.specs.Event.{Does}
use Rattle.fs_core.specs.Written.{IsPath, IsWide, IsWritable}
use Rattle.fs_core.proofs.MarkingLists.{Idles, idle_is}
use Rattle.fs_core.proofs.FlyingFrames.{messages_for, CanSend, IsOfRequests, of_requests}
use Rattle.fs_core.proofs.FlyingLists.{fresh}
use Rattle.fs_core.proofs.SpellingWishes.{Says, AllSay, AllSayable, wished, wishes_say, all_ask, all_stay, are_parts, wishes_small, wishes_commanded, wishes_room, asks_wish}
use Rattle.fs_core.proofs.Sending.{IsCalls, call_sent}

-- the ids that may be used are those that the client has free
pub free_is : (st : Setting) (k : Kept) (c : Client) → Fits st k c → c.view.connected ≡ true → length (usable k.mux.ids) ≡ free_ids c
free_is st k c fits stands = ap (λ (i : Ids). length (usable i)) (fits.ids stands) ∙ length-usable c.view.next c.tally.granted fits.ready.used

-- what the core asks may be sent
pub can_send : (st : Setting) (k : Kept) (c : Client) (facts : Facts) (files : File → Fid) (wishes : List (Bool × Wish)) → Fits st k c → c.view.connected ≡ true
    → AllSayable files wishes
    → 0 < length wishes → length wishes ≤ 3 → costs (wished facts files wishes) ≤ length (usable k.mux.ids) → CanSend c (wished facts files wishes)
can_send st k c facts files wishes fits stands can some few enough = record {
  connected = stands;
  within = within c.view.next c.tally.granted (costs (wished facts files wishes)) (length (usable k.mux.ids)) enough (free_is st k c fits stands)
      fits.ready.used;
  below = fits.ready.granted;
  some = subst (λ (n : ℕ). 0 < n) (sym (many wishes)) some;
  room = small (room_of (wished facts files wishes)) (length wishes) (wishes_room facts files wishes can) few;
  charges = wishes_small facts files wishes;
  commands = wishes_commanded facts files wishes;
  asks = all_ask files wishes (messages_for c (wished facts files wishes)) (wishes_say facts files wishes (ids_of c) can);
}
  where
    within : (next top n free : ℕ) → n ≤ free → free ≡ top - next → next ≤ top → next + n ≤ top
    within next top n free le is used = omega (arith, le, is, used)

    small : (n many : ℕ) → n ≤ 66000 * many → many ≤ 3 → n ≤ MAX_FRAME
    small n many le few = omega (arith, le, few)

    many : (ws : List (Bool × Wish)) → length (wished facts files ws) ≡ length ws
    many [] = refl
    many (w ∷ ws) = ap suc (many ws)

-- the first id is the next one
pub first_is : (st : Setting) (k : Kept) (c : Client) (rs : List Request) (first : Mid) → Fits st k c → CanSend c rs → first.0 ≡ least k.mux.ids
    → first ≡ next_mid c
first_is st k c rs first fits can is =
    ap (λ (n : ℕ). the n) (is ∙ ap least (fits.ids can.connected)
    ∙ least_is c.view.next c.tally.granted (room c.view.next (costs rs) c.tally.granted (costs-some rs can.some) can.within))
  where
    the : ℕ → Mid
    the n = record { 0 = n }

    room : (a n b : ℕ) → 1 ≤ n → a + n ≤ b → a < b
    room a n b one le = omega (arith, one, le)

-- a request of a frame leaves nothing
pub staying_of : (c : Client) (facts : Facts) (files : File → Fid) (wishes : List (Bool × Wish)) (frame : List ℕ) → AllSayable files wishes
    → IsOfRequests c (wished facts files wishes) frame
    → AllByRecursion (λ (x : Sent). IsNoLeave (command_of x.message)) (requests_in frame)
staying_of c facts files wishes frame can of =
    let ms : List (List ℕ) = messages_for c (wished facts files wishes) in
    subst (AllByRecursion (λ (x : Sent). IsNoLeave (command_of x.message))) (sym of.requests)
    (all_map (λ (m : List ℕ). IsNoLeave (command_of m)) (λ (x : Sent). IsNoLeave (command_of x.message)) (waiting (frame_of frame)) ms (λ m stays. stays)
    (all_stay files wishes ms (wishes_say facts files wishes (ids_of c) can)))

-- what a stat asks next
abbrev pub wish_by : List ℕ → Progress → Wish
wish_by path progress.Opening = open_wish path
wish_by path (progress.Querying fid) = Query (Own 0)
wish_by path (progress.Closing fid o) = Close (Own 0)
wish_by path (progress.Said o) = Close (Own 0)

abbrev pub files_by : Progress → File → Fid
files_by progress.Opening = only every_bit
files_by (progress.Querying fid) = only fid
files_by (progress.Closing fid o) = only fid
files_by (progress.Said o) = only every_bit

abbrev pub IsToAsk : Progress → Type 0
IsToAsk progress.Opening = Unit {0}
IsToAsk (progress.Querying fid) = Unit {0}
IsToAsk (progress.Closing fid o) = Unit {0}
IsToAsk (progress.Said o) = ⊥

every_wide : IsWide every_bit
every_wide = record { persistent = omega arith; volatile = omega arith }

open_sayable : (files : File → Fid) (path : List ℕ) → IsPath path → AllSayable files ((false, open_wish path) ∷ [])
open_sayable files path p = ((refl, p, omega arith, omega arith, omega arith), tt)

alone_sayable : (path : List ℕ) (p : Progress) → IsToAsk p → IsWritable path p → AllSayable (files_by p) ((false, wish_by path p) ∷ [])
alone_sayable path progress.Opening to can = open_sayable (only every_bit) path can
alone_sayable path (progress.Querying fid) to can = (can, tt)
alone_sayable path (progress.Closing fid o) to can = (can, tt)
alone_sayable path (progress.Said o) to can = absurd to

pub chain_sayable : (path : List ℕ) → IsPath path → AllSayable (only every_bit) ((false, open_wish path) ∷ (true, Query (Own 0)) ∷ (true, Close (Own 0)) ∷ [])
chain_sayable path p = ((open_sayable (only every_bit) path p).0, (every_wide, (every_wide, tt)))

alone_wished : (facts : Facts) (path : List ℕ) (p : Progress) → IsToAsk p → alone_by facts path p ≡ wished facts (files_by p) ((false, wish_by path p) ∷ [])
alone_wished facts path progress.Opening to = refl
alone_wished facts path (progress.Querying fid) to = refl
alone_wished facts path (progress.Closing fid o) to = refl
alone_wished facts path (progress.Said o) to = absurd to

-- its requests have room
pub alone_room : (facts : Facts) (path : List ℕ) (p : Progress) → IsWritable path p → room_of (alone_by facts path p) ≤ MAX_FRAME
alone_room facts path p can = by p can
  where
    small : (q : Progress) → IsToAsk q → IsWritable path q → room_of (alone_by facts path q) ≤ MAX_FRAME
    small q to can =
        subst (λ (rs : List Request). room_of rs ≤ MAX_FRAME) (sym (alone_wished facts path q to))
        (under (room_of (wished facts (files_by q) ((false, wish_by path q) ∷ [])))
        (wishes_room facts (files_by q) ((false, wish_by path q) ∷ []) (alone_sayable path q to can)))
      where
        under : (n : ℕ) → n ≤ 66000 * 1 → n ≤ MAX_FRAME
        under n le = omega (arith, le)

    by : (q : Progress) → IsWritable path q → room_of (alone_by facts path q) ≤ MAX_FRAME
    by progress.Opening can = small progress.Opening (record {}) can
    by (progress.Querying fid) can = small (progress.Querying fid) (record {}) can
    by (progress.Closing fid o) can = small (progress.Closing fid o) (record {}) can
    by (progress.Said o) can = omega arith

pub chain_room : (facts : Facts) (path : List ℕ) → IsPath path → room_of (chain_of facts path) ≤ MAX_FRAME
chain_room facts path p =
    small (room_of (chain_of facts path))
    (wishes_room facts (only every_bit) ((false, open_wish path) ∷ (true, Query (Own 0)) ∷ (true, Close (Own 0)) ∷ []) (chain_sayable path p))
  where
    small : (n : ℕ) → n ≤ 66000 * 3 → n ≤ MAX_FRAME
    small n le = omega (arith, le)

-- what the client's call asks next is that
alone_as : (facts : Facts) (path : List ℕ) (p : Progress) (i : Item) (c : Client) → IsToAsk p → HasOpened p i.fids
    → alone_by facts path p ≡ requests_for facts i c ((false, wish_by path p) ∷ [])
alone_as facts path progress.Opening i c to opened = refl
alone_as facts path (progress.Querying fid) i c to opened =
    ap (λ (l : List Fid). request_for facts (files_of i c.view.placed l) (false, Query (Own 0)) ∷ []) (sym opened)
alone_as facts path (progress.Closing fid o) i c to opened =
    ap (λ (l : List Fid). request_for facts (files_of i c.view.placed l) (false, Close (Own 0)) ∷ []) (sym opened)
alone_as facts path (progress.Said o) i c to opened = absurd to

rest_asks : (options : Options) (path : List ℕ) (p : Progress) (known : Known) → IsToAsk p → IsAsking (settled known (rest_by options path p))
rest_asks options path progress.Opening known to = record {}
rest_asks options path (progress.Querying fid) known to = record {}
rest_asks options path (progress.Closing fid o) known to = record {}
rest_asks options path (progress.Said o) known to = absurd to

-- and the one that is in flight is the one that it wants
alone_wants : (options : Options) (path : List ℕ) (p : Progress) (i : Item) (c : Client) (known : Known) → IsToAsk p → HasOpened p i.fids
    → Wants (files_of i c.view.placed) known (rest_by options path p) i.fids (wish_of (files_by p) (wish_by path p)) (λ rest. Unit {0})
alone_wants options path progress.Opening i c known to opened =
    record { wish = open_wish path; rest = stat_once_open options; settles = refl; wished = refl; going = λ reply. record {} }
alone_wants options path (progress.Querying fid) i c known to opened = record {
  wish = Query (Own 0);
  rest = λ info. Ask (Close (Own 0)) (λ closed. Say (stat_answer options info));
  settles = refl;
  wished = ap (λ (l : List Fid). wish_of (files_of i c.view.placed l) (Query (Own 0))) (sym opened);
  going = λ reply. record {};
}
alone_wants options path (progress.Closing fid o) i c known to opened = record {
  wish = Close (Own 0);
  rest = λ closed. Say (answer_of o);
  settles = refl;
  wished = ap (λ (l : List Fid). wish_of (files_of i c.view.placed l) (Close (Own 0))) (sym opened);
  going = λ reply. record {};
}
alone_wants options path (progress.Said o) i c known to opened = absurd to

-- a stat that is to be announced first, and so has made no request, has no room for three
not_chained : (p : Progress) (free many : ℕ) → IsToAsk p → IsFirst p → (p ≡ progress.Opening → free < 3) → free ≡ many → 3 ≤ many → ⊥
not_chained progress.Opening free many to first short is enough = low (short refl) is enough
  where
    low : free < 3 → free ≡ many → 3 ≤ many → ⊥
    low less is le = omega (arith, less, is, le)
not_chained (progress.Querying fid) free many to first short is enough = first
not_chained (progress.Closing fid o) free many to first short is enough = first
not_chained (progress.Said o) free many to first short is enough = to

-- its next request alone
alone_calls : (st : Setting) (k : Kept) (c : Client) (number : ℕ) (s : Slot) (facts : Facts) (frame : List ℕ) → Fits st k c → c.view.connected ≡ true
    → Idles st.options number s c.view
    → IsToAsk s.stat.progress → IsWritable s.stat.path s.stat.progress → (s.stat.progress ≡ progress.Opening → length (usable k.mux.ids) < 3)
    → CanSend c (wished facts (files_by s.stat.progress) ((false, wish_by s.stat.path s.stat.progress) ∷ []))
    → IsOfRequests c (wished facts (files_by s.stat.progress) ((false, wish_by s.stat.path s.stat.progress) ∷ [])) frame
    → IsCalls st c number facts (kinds_of (wished facts (files_by s.stat.progress) ((false, wish_by s.stat.path s.stat.progress) ∷ [])))
    (wished facts (files_by s.stat.progress) ((false, wish_by s.stat.path s.stat.progress) ∷ [])) frame
alone_calls st k c number s facts frame fits stands idles to writable short can of = record {
  item = i;
  runs = idles.runs;
  whole = idles.shows.whole;
  idle = idles.idle;
  asking = subst (λ (q : Program). IsAsking (settled known q)) (sym idles.shows.rest) (rest_asks st.options s.stat.path p known to);
  chained = λ stat unannounced links enough. absurd
      (not_chained p (length (usable k.mux.ids)) (free_ids c) to (idles.shows.first unannounced) short (free_is st k c fits stands) enough);
  wishes = wishes;
  wished = sym (alone_wished facts s.stat.path p to) ∙ alone_as facts s.stat.path p i c to idles.shows.opened;
  can = can;
  of = of;
  parts = are_parts facts files wishes (messages_for c rs) sayable say;
  staying = staying_of c facts files wishes frame sayable of;
  asks = subst (FliesAs (files_of i c.view.placed) known (frame_of frame) (λ x. x) i.rest i.fids) (sym of.requests)
      (subst (λ (q : Program). FliesAs (files_of i c.view.placed) known (frame_of frame) (λ x. x) q i.fids (map (waiting (frame_of frame)) (messages_for c rs)))
      (sym idles.shows.rest)
      (flies (messages_for c rs) say));
}
  where
    i : Item
    i = idles.item

    p : Progress
    p = s.stat.progress

    known : Known
    known = c.view.told.known

    files : File → Fid
    files = files_by s.stat.progress

    wishes : List (Bool × Wish)
    wishes = (false, wish_by s.stat.path s.stat.progress) ∷ []

    rs : List Request
    rs = wished facts (files_by s.stat.progress) ((false, wish_by s.stat.path s.stat.progress) ∷ [])

    sayable : AllSayable files wishes
    sayable = alone_sayable s.stat.path s.stat.progress to writable

    say : AllSay files wishes (messages_for c rs)
    say = wishes_say facts files wishes (ids_of c) sayable

    flies : (ms : List (List ℕ)) → AllSay files wishes ms
        → FliesAs (files_of i c.view.placed) known (frame_of frame) (λ x. x) (rest_of st.options s.stat) i.fids (map (waiting (frame_of frame)) ms)
    flies [] all = absurd all
    flies (m ∷ n ∷ ms) all = absurd all.1
    flies (m ∷ []) all = flies_one (files_of i c.view.placed) known (frame_of frame) (rest_of st.options s.stat) i.fids (waiting (frame_of frame) m)
        (wish_of files (wish_by s.stat.path p))
        (itself (frame_of frame).0) (fresh (frame_of frame) m) (asks_wish (frame_of frame) files (wish_by s.stat.path p) m all.0)
        (alone_wants st.options s.stat.path p i c known to idles.shows.opened)

alone_as_wished : (st : Setting) (k : Kept) (number : ℕ) (s : Slot) (facts : Facts) (first : Mid) (frame : List ℕ) → k.phase ≡ phase.On facts
    → slot_with number k.slots ≡ Some s → is_idle number k.flights ≡ true → IsToAsk s.stat.progress → IsWritable s.stat.path s.stat.progress
    → (s.stat.progress ≡ progress.Opening → length (usable k.mux.ids) < 3)
    → (rs : List Request) → rs ≡ wished facts (files_by s.stat.progress) ((false, wish_by s.stat.path s.stat.progress) ∷ [])
    → costs rs ≤ length (usable k.mux.ids) → frame ≡ stream.frame (chain (placed k.mux.ids rs)) → first.0 ≡ least k.mux.ids
    → Does st k (output.Marked (mark.For number first (length rs)) ∷ output.Send frame ∷ []) (sent_for number first (kinds_of rs) rs k)
alone_as_wished st k number s facts first frame on there idle to writable short rs is enough frame_is first_at =
    subst (λ (l : List Request). costs l ≤ length (usable k.mux.ids) → frame ≡ stream.frame (chain (placed k.mux.ids l))
    → Does st k (output.Marked (mark.For number first (length l)) ∷ output.Send frame ∷ []) (sent_for number first (kinds_of l) l k))
    (sym is) so enough frame_is
  where
    wishes : List (Bool × Wish)
    wishes = (false, wish_by s.stat.path s.stat.progress) ∷ []

    all : List Request
    all = wished facts (files_by s.stat.progress) wishes

    so : costs all ≤ length (usable k.mux.ids) → frame ≡ stream.frame (chain (placed k.mux.ids all))
        → Does st k (output.Marked (mark.For number first (length all)) ∷ output.Send frame ∷ []) (sent_for number first (kinds_of all) all k)
    so enough frame_is = λ c sane fits.
        let stands : c.view.connected ≡ true = (subst (λ (q : Phase). IsAt st q c) on fits.phase).0.connected in
        let can : CanSend c all =
        can_send st k c facts (files_by s.stat.progress) wishes fits stands (alone_sayable s.stat.path s.stat.progress to writable) (omega arith) (omega arith)
        enough in
        let of : IsOfRequests c all frame =
        of_requests c all frame can (frame_is ∙ ap (λ (ids : Ids). stream.frame (chain (placed ids all))) (fits.ids stands)) in
        call_sent st k c number facts first (kinds_of all) all frame sane fits on (first_is st k c all first fits can first_at)
        (alone_calls st k c number s facts frame fits stands (idle_is st.options number s k c.view sane fits.slots fits.flights there idle)
        to writable short can of)

to_ask : (facts : Facts) (path : List ℕ) (p : Progress) → 0 < length (alone_by facts path p) → IsToAsk p
to_ask facts path progress.Opening some = record {}
to_ask facts path (progress.Querying fid) some = record {}
to_ask facts path (progress.Closing fid o) some = record {}
to_ask facts path (progress.Said o) some = absurd (none some)
  where
    none : 0 < 0 → ⊥
    none less = omega (arith, less)

pub alone_does : (st : Setting) (k : Kept) (number : ℕ) (s : Slot) (facts : Facts) (first : Mid) (rs : List Request) (frame : List ℕ) → k.phase ≡ phase.On facts
    → slot_with number k.slots ≡ Some s → is_idle number k.flights ≡ true → IsWritable s.stat.path s.stat.progress
    → (s.stat.progress ≡ progress.Opening → length (usable k.mux.ids) < 3)
    → rs ≡ alone_of facts s.stat → 0 < length rs → costs rs ≤ length (usable k.mux.ids) → frame ≡ stream.frame (chain (placed k.mux.ids rs))
    → first.0 ≡ least k.mux.ids
    → Does st k (output.Marked (mark.For number first (length rs)) ∷ output.Send frame ∷ []) (sent_for number first (kinds_of rs) rs k)
alone_does st k number s facts first rs frame on there idle writable short is some enough frame_is first_at =
    let to : IsToAsk s.stat.progress = to_ask facts s.stat.path s.stat.progress (subst (λ (l : List Request). 0 < length l) is some) in
    alone_as_wished st k number s facts first frame on there idle to writable short rs (is ∙ alone_wished facts s.stat.path s.stat.progress to)
    enough frame_is first_at

-- all three at once
abbrev three : List ℕ → List (Bool × Wish)
three path = (false, open_wish path) ∷ (true, Query (Own 0)) ∷ (true, Close (Own 0)) ∷ []

abbrev create : List ℕ → Req
create path = req.Create path 0x100080 7 1 0 0x80 None false

related_is : (frame : Mid) (wish : Wish) (m : List ℕ) → is_creating (wish_of (fid_sent true (only every_bit)) wish) ≡ false → Says (only every_bit) true wish m
    → IsRelated frame (waiting frame m) (wish_of (fid_sent true (only every_bit)) wish)
related_is frame wish m plain says = record { at = itself frame.0; asks = says.asks.asks; plain = plain; whole = says.asks.whole }

three_fly : (i : Item) (c : Client) (options : Options) (known : Known) (p : Program) (path : List ℕ) (frame : Mid) (ms : List (List ℕ))
    → settled known p ≡ Ask (open_wish path) (stat_once_open options) → AllSay (only every_bit) (three path) ms
    → FliesAs (files_of i c.view.placed) known frame (λ x. x) p [] (map (waiting frame) ms)
three_fly i c options known p path frame [] is all = absurd all
three_fly i c options known p path frame (m ∷ []) is all = absurd all.1
three_fly i c options known p path frame (m ∷ n ∷ []) is all = absurd all.1.1
three_fly i c options known p path frame (m ∷ n ∷ o ∷ q ∷ ms) is all = absurd all.1.1.1
three_fly i c options known p path frame (m ∷ n ∷ o ∷ []) is all =
    flies_three (files_of i c.view.placed) known frame p [] (waiting frame m) (waiting frame n) (waiting frame o) (create path) (req.Query every_bit)
    (req.Close every_bit)
    (itself frame.0) (ap creates_as all.0.asks.asks) (fresh frame m) (asks_wish frame (only every_bit) (open_wish path) m all.0)
    (related_is frame (Query (Own 0)) n refl all.1.0) (related_is frame (Close (Own 0)) o refl all.1.1.0)
    (stat_wants_three i c.view.placed options known p path every_bit every_bit is)

chain_calls : (st : Setting) (k : Kept) (c : Client) (number : ℕ) (s : Slot) (facts : Facts) (frame : List ℕ) → Idles st.options number s c.view
    → s.stat.progress ≡ progress.Opening → IsPath s.stat.path → CanSend c (chain_of facts s.stat.path) → IsOfRequests c (chain_of facts s.stat.path) frame
    → IsCalls st c number facts (kinds_of (chain_of facts s.stat.path)) (chain_of facts s.stat.path) frame
chain_calls st k c number s facts frame idles opening path can of = record {
  item = i;
  runs = idles.runs;
  whole = idles.shows.whole;
  idle = idles.idle;
  asking = subst (λ (q : Program). IsAsking (settled known q)) (sym rest_is) (record {});
  chained = λ stat unannounced links enough. refl;
  wishes = three s.stat.path;
  wished = refl;
  can = can;
  of = of;
  parts = are_parts facts (only every_bit) (three s.stat.path) (messages_for c (chain_of facts s.stat.path)) sayable say;
  staying = staying_of c facts (only every_bit) (three s.stat.path) frame sayable of;
  asks = subst (FliesAs (files_of i c.view.placed) known (frame_of frame) (λ x. x) i.rest i.fids) (sym of.requests)
      (subst (λ (l : List Fid). FliesAs (files_of i c.view.placed) known (frame_of frame) (λ x. x) i.rest l
      (map (waiting (frame_of frame)) (messages_for c (chain_of facts s.stat.path)))) (sym opened)
      (three_fly i c st.options known i.rest s.stat.path (frame_of frame) (messages_for c (chain_of facts s.stat.path)) (ap (settled known) rest_is) say));
}
  where
    i : Item
    i = idles.item

    known : Known
    known = c.view.told.known

    rest_is : i.rest ≡ Ask (open_wish s.stat.path) (stat_once_open st.options)
    rest_is = idles.shows.rest ∙ ap (rest_by st.options s.stat.path) opening

    opened : i.fids ≡ []
    opened = subst (λ (p : Progress). HasOpened p i.fids) opening idles.shows.opened

    sayable : AllSayable (only every_bit) (three s.stat.path)
    sayable = chain_sayable s.stat.path path

    say : AllSay (only every_bit) (three s.stat.path) (messages_for c (chain_of facts s.stat.path))
    say = wishes_say facts (only every_bit) (three s.stat.path) (ids_of c) sayable

pub chain_does : (st : Setting) (k : Kept) (number : ℕ) (s : Slot) (facts : Facts) (first : Mid) (rs : List Request) (frame : List ℕ) → k.phase ≡ phase.On facts
    → slot_with number k.slots ≡ Some s → is_idle number k.flights ≡ true → s.stat.progress ≡ progress.Opening → IsPath s.stat.path
    → rs ≡ chain_of facts s.stat.path → costs rs ≤ length (usable k.mux.ids) → frame ≡ stream.frame (chain (placed k.mux.ids rs)) → first.0 ≡ least k.mux.ids
    → Does st k (output.Marked (mark.For number first (length rs)) ∷ output.Send frame ∷ []) (sent_for number first (kinds_of rs) rs k)
chain_does st k number s facts first rs frame on there idle opening path is enough frame_is first_at =
    subst (λ (l : List Request). costs l ≤ length (usable k.mux.ids) → frame ≡ stream.frame (chain (placed k.mux.ids l))
    → Does st k (output.Marked (mark.For number first (length l)) ∷ output.Send frame ∷ []) (sent_for number first (kinds_of l) l k))
    (sym is) so enough frame_is
  where
    all : List Request
    all = chain_of facts s.stat.path

    so : costs all ≤ length (usable k.mux.ids) → frame ≡ stream.frame (chain (placed k.mux.ids all))
        → Does st k (output.Marked (mark.For number first (length all)) ∷ output.Send frame ∷ []) (sent_for number first (kinds_of all) all k)
    so enough frame_is = λ c sane fits.
        let stands : c.view.connected ≡ true = (subst (λ (q : Phase). IsAt st q c) on fits.phase).0.connected in
        let can : CanSend c all =
        can_send st k c facts (only every_bit) (three s.stat.path) fits stands (chain_sayable s.stat.path path) (omega arith) (omega arith) enough in
        let of : IsOfRequests c all frame =
        of_requests c all frame can (frame_is ∙ ap (λ (ids : Ids). stream.frame (chain (placed ids all))) (fits.ids stands)) in
        call_sent st k c number facts first (kinds_of all) all frame sane fits on (first_is st k c all first fits can first_at)
        (chain_calls st k c number s facts frame (idle_is st.options number s k c.view sane fits.slots fits.flights there idle) opening path can of)
