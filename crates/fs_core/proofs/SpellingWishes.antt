-- The requests of a call's wishes, as they stand in a frame, are read as these wishes.
use Rattle.std.proofs.Common.{arith, ◌≡◌, refl, sym, ap, subst, ℕ, suc, ◌+◌, ◌-◌, ◌*◌, ◌^◌, ◌==◌, ◌<◌, ◌≤◌, Bool, true, false, if◌then◌else◌, List, [], ◌∷◌, ◌++◌, length, replicate, Option, append-nil, bit_and}
use Rattle.std.specs.Prelude.{map, is_none}
use Rattle.std.specs.List.{AllByRecursion}
use Rattle.smb_base.specs.declared.names.Fid.{Fid}
use Rattle.smb_base.specs.declared.names.Mid.{Mid}
use Rattle.smb_le.specs.declared.flags.ServerCaps.{ServerCaps}
use Rattle.smb_head.specs.declared.request.Request.{Request}
use Rattle.smb_head.specs.Header.{header}
use Rattle.smb_chain.specs.Chain.{padded, linked, size_of, parts_for}
use Rattle.smb_credit.specs.Window.{Ids, least, cost, after_use}
use Rattle.smb_mount.specs.declared.facts.Facts.{Facts}
use Rattle.smb_mount.specs.Requests.{charge_of}
use Rattle.smb_mux.specs.Sending.{head_for, message_for, placed, room_of}
use Rattle.smb_link.specs.Program.{File, Wish, Open as Opening, Query, Close}
use Rattle.share_state.specs.declared.connection.LastCreate.TheVariants as last
use Rattle.fs_plain.specs.Replies.{command_of}
use Rattle.fs_plain.specs.Requests.{WireRequest}
use Rattle.fs_plain.specs.Wishes.{wish_of}
use Rattle.fs_plain.specs.World.{waiting}
use Rattle.fs_client.specs.After.{cost_of}
use Rattle.fs_client.specs.Asked.{AsksAs, Asks}
use Rattle.fs_client.specs.Spelled.{command_for, fid_sent, request_for}
use Rattle.fs_client.proofs.SpelledLaws.{AsksSomething}
use Rattle.fs_core.specs.Asks.{kind_of, kinds_of}
use Rattle.fs_core.specs.Fits.{IsNoLeave, IsOfShare}
use Rattle.fs_core.specs.Written.{IsPath, IsWide}
use Rattle.fs_core.proofs.SpellingHeads.{Everywhere}
use Rattle.fs_core.proofs.SpellingBodies.{AsksShare, create_short, create_speaks, query_short, query_speaks, close_short, close_speaks}
use Rattle.fs_core.proofs.FlyingFrames.{cost_there}
use Rattle.fs_core.proofs.FlyingLists.{IsPart, AreParts}

-- a wish that can be written, with the file ids of its files
abbrev pub IsSayable : (File → Fid) → Bool → Wish → Type 0
IsSayable files related (Opening path access disposition options) =
    (related ≡ false) × IsPath path × (access < 2 ^ 32) × (disposition ≤ 5) × (options < 2 ^ 32)
IsSayable files related (Query file) = IsWide (fid_sent related files file)
IsSayable files related (Close file) = IsWide (fid_sent related files file)

-- a message is a wish
pub record Says (files : File → Fid) (related : Bool) (wish : Wish) (m : List ℕ) : Type 0 where
  pub asks : AsksShare (command_for wish) related (wish_of (fid_sent related files) wish) m
  pub one : cost_of m ≡ 1

-- a request costs one id at most
pub charge_small : (caps : ServerCaps) → charge_of caps ≤ 1
charge_small caps = by (bit_and caps.0 4 == 4)
  where
    by : (t : Bool) → (if t then 1 else 0) ≤ 1
    by true = omega arith
    by false = omega arith

pub wish_says : (facts : Facts) (files : File → Fid) (related : Bool) (wish : Wish) → IsSayable files related wish
    → Everywhere (Says files related wish) (request_for facts files (related, wish))
wish_says facts files related (Opening path access disposition options) can mid place rest =
    let r : Request = request_for facts files (related, Opening path access disposition options) in
    record {
      asks = create_speaks facts files related path access disposition options can.1 can.2 can.3 can.4 mid place rest;
      one = cost_there mid r place
          (r.body ++ rest) (charge_small facts.caps);
    }
wish_says facts files related (Query file) can mid place rest =
    let r : Request = request_for facts files (related, Query file) in
    record { asks = query_speaks facts files related file can mid place rest; one = cost_there mid r place (r.body ++ rest) (charge_small facts.caps) }
wish_says facts files related (Close file) can mid place rest =
    let r : Request = request_for facts files (related, Close file) in
    record { asks = close_speaks facts files related file can mid place rest; one = cost_there mid r place (r.body ++ rest) (charge_small facts.caps) }

-- messages are wishes, one for one
abbrev pub AllSay : (File → Fid) → List (Bool × Wish) → List (List ℕ) → Type 0
AllSay files [] [] = Unit {0}
AllSay files [] (m ∷ ms) = ⊥
AllSay files (w ∷ ws) [] = ⊥
AllSay files (w ∷ ws) (m ∷ ms) = Says files w.0 w.1 m × AllSay files ws ms

abbrev pub AllSayable : (File → Fid) → List (Bool × Wish) → Type 0
AllSayable files wishes = AllByRecursion (λ (w : Bool × Wish). IsSayable files w.0 w.1) wishes

abbrev pub wished : Facts → (File → Fid) → List (Bool × Wish) → List Request
wished facts files wishes = map (request_for facts files) wishes

pub wishes_say : (facts : Facts) (files : File → Fid) (wishes : List (Bool × Wish)) (ids : Ids) → AllSayable files wishes
    → AllSay files wishes (parts_for (placed ids (wished facts files wishes)))
wishes_say facts files [] ids all = record {}
wishes_say facts files (w ∷ []) ids all =
    let r : Request = request_for facts files w in (
      subst (λ (b : List ℕ). Says files w.0 w.1 (header (linked (head_for (least ids) r) 0) ++ b)) (append-nil r.body)
          (wish_says facts files w.0 w.1 all.0 (least ids) 0 []),
      record {},
    )
wishes_say facts files (w ∷ v ∷ ws) ids all =
    let r : Request = request_for facts files w in
    let m = message_for (least ids) r in (
      wish_says facts files w.0 w.1 all.0 (least ids) (padded (size_of m)) (replicate (padded (size_of m) - size_of m) 0),
      wishes_say facts files (v ∷ ws) (after_use (cost r.charge) ids) all.1,
    )

-- each asks for something
pub all_ask : (files : File → Fid) (wishes : List (Bool × Wish)) (ms : List (List ℕ)) → AllSay files wishes ms → AllByRecursion AsksSomething ms
all_ask files [] [] all = tt
all_ask files [] (m ∷ ms) all = absurd all
all_ask files (w ∷ ws) [] all = absurd all
all_ask files (w ∷ ws) (m ∷ ms) all = (ap (λ (o : Option WireRequest). is_none o) all.0.asks.asks, all_ask files ws ms all.1)

-- and leaves nothing
pub all_stay : (files : File → Fid) (wishes : List (Bool × Wish)) (ms : List (List ℕ)) → AllSay files wishes ms
    → AllByRecursion (λ (m : List ℕ). IsNoLeave (command_of m)) ms
all_stay files [] [] all = tt
all_stay files [] (m ∷ ms) all = absurd all
all_stay files (w ∷ ws) [] all = absurd all
all_stay files (w ∷ ws) (m ∷ ms) all = (subst IsNoLeave (sym all.0.asks.command_is) (by w.1), all_stay files ws ms all.1)
  where
    by : (wish : Wish) → IsNoLeave (command_for wish)
    by (Opening path access disposition options) = (refl, refl)
    by (Query file) = (refl, refl)
    by (Close file) = (refl, refl)

-- their kinds
is_part : (files : File → Fid) (related : Bool) (wish : Wish) (m : List ℕ) → IsSayable files related wish → Says files related wish m
    → IsPart (kind_of (command_for wish), related) m
is_part files related (Opening path access disposition options) m can says = record {
  kind = λ frame. (can.0, subst (IsOfShare true related) (sym says.asks.asks) (refl, refl), says.asks.command_is);
  one = says.one;
}
is_part files related (Query file) m can says =
    record { kind = λ frame. (subst (IsOfShare false related) (sym says.asks.asks) (refl, refl), says.asks.command_is); one = says.one }
is_part files related (Close file) m can says =
    record { kind = λ frame. (subst (IsOfShare false related) (sym says.asks.asks) (refl, refl), says.asks.command_is); one = says.one }

pub are_parts : (facts : Facts) (files : File → Fid) (wishes : List (Bool × Wish)) (ms : List (List ℕ)) → AllSayable files wishes → AllSay files wishes ms
    → AreParts (kinds_of (wished facts files wishes)) ms
are_parts facts files [] [] can all = record {}
are_parts facts files [] (m ∷ ms) can all = absurd all
are_parts facts files (w ∷ ws) [] can all = absurd all
are_parts facts files (w ∷ ws) (m ∷ ms) can all = (is_part files w.0 w.1 m can.0 all.0, are_parts facts files ws ms can.1 all.1)

-- what they cost, and their commands
pub wishes_small : (facts : Facts) (files : File → Fid) (wishes : List (Bool × Wish))
    → AllByRecursion (λ (r : Request). r.charge ≤ 1) (wished facts files wishes)
wishes_small facts files [] = tt
wishes_small facts files (w ∷ ws) = (charge_small facts.caps, wishes_small facts files ws)

pub wishes_commanded : (facts : Facts) (files : File → Fid) (wishes : List (Bool × Wish))
    → AllByRecursion (λ (r : Request). r.command < 2 ^ 16) (wished facts files wishes)
wishes_commanded facts files [] = tt
wishes_commanded facts files (w ∷ ws) = (by w.1, wishes_commanded facts files ws)
  where
    by : (wish : Wish) → command_for wish < 2 ^ 16
    by (Opening path access disposition options) = omega arith
    by (Query file) = omega arith
    by (Close file) = omega arith

-- one that is not related asks for just this, and one that is related is so
pub asks_wish : (frame : Mid) (files : File → Fid) (wish : Wish) (m : List ℕ) → Says files false wish m → Asks (waiting frame m) (wish_of files wish)
asks_wish frame files wish m says = (subst (λ (o : Option WireRequest). AsksAs o last.Nothing (wish_of files wish)) (sym says.asks.asks) refl, says.asks.whole)

-- what is left of a frame's room
pub wish_short : (facts : Facts) (files : File → Fid) (related : Bool) (wish : Wish) → IsSayable files related wish
    → length (request_for facts files (related, wish)).body ≤ 65600
wish_short facts files related (Opening path access disposition options) can =
    create_short facts files related path access disposition options can.1 can.2 can.3 can.4
wish_short facts files related (Query file) can = query_short facts files related file can
wish_short facts files related (Close file) can = close_short facts files related file can

pub wishes_room : (facts : Facts) (files : File → Fid) (wishes : List (Bool × Wish)) → AllSayable files wishes
    → room_of (wished facts files wishes) ≤ 66000 * length wishes
wishes_room facts files [] can = omega arith
wishes_room facts files (w ∷ []) can = last (length (request_for facts files w).body) (wish_short facts files w.0 w.1 can.0)
  where
    last : (n : ℕ) → n ≤ 65600 → 64 + n ≤ 66000 * 1
    last n le = omega (arith, le)
wishes_room facts files (w ∷ v ∷ ws) can =
    more (length (request_for facts files w).body) (room_of (wished facts files (v ∷ ws))) (length (v ∷ ws)) (wish_short facts files w.0 w.1 can.0)
    (wishes_room facts files (v ∷ ws) can.1)
  where
    more : (n m many : ℕ) → n ≤ 65600 → m ≤ 66000 * many → padded (64 + n) + m ≤ 66000 * suc many
    more n m many le rest = omega (arith, le, rest)
