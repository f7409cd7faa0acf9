-- A request that the real share took, done on the plain share of the plain side.
use Rattle.std.specs.Prelude.{ℕ, ◌==◌, Bool, true, false, ◌&&◌, ◌||◌, if◌then◌else◌, List, ◌++◌, length, Option, Some, None, is_some, is_none}
use Rattle.std.specs.List.{list_any}
use Rattle.smb_base.specs.declared.names.Mid.{Mid}
use Rattle.share_state.specs.declared.connection.Sent.{Sent}
use Rattle.share_state.specs.declared.opens.Open.{Open}
use Rattle.share_state.specs.declared.request.Req.{Req}
use Rattle.share_state.specs.declared.request.Req.TheVariants as req
use Rattle.share_state.specs.declared.request.Rep.{Rep}
use Rattle.share_state.specs.declared.share.Share.{Share}
use Rattle.share_state.specs.Reply.{fid_of}
use Rattle.share_state.specs.Close.{open_of}
use Rattle.share_state.specs.PlainShare.{plain_step, shown}
use Rattle.share_state.specs.Sent.{sent_with}
use Rattle.smb_link.specs.Program.{Wish, Program, Known, Ask, Look, Say, settled}
use Rattle.fs_plain.specs.Masked.{Untold, untold, told_of}
use Rattle.fs_plain.specs.Requests.{WireRequest, wire_request}
use Rattle.fs_plain.specs.World.{us, resolved, refused_before, done_of, choice_now}
use Rattle.fs_plain.specs.Owners.{Owner, owner_of}
use Rattle.fs_plain.specs.Wishes.{is_next}
use Rattle.fs_plain.specs.Paired.{Pair, pair_of_real, pair_given, open_given}
use Rattle.fs_plain.specs.PlainSide.{PlainCall, PlainSide, call_with, with_call, wish_done_on, path_opened, with_given}

-- the call and the plain share once its next request was done there, and the pair of opens that came of it. The call's program sees
-- what the reply to the real request tells.
abbrev pub side_after_wish : PlainSide → PlainCall → Wish → (Rep → Program) → Untold → Rep × Share → Rep → PlainSide
side_after_wish p c wish rest u done real = record p {
  plain = done.1;
  pairs = pair_given (path_opened wish) done.0 real ++ p.pairs;
  running = with_call (record c { rest = rest (shown (told_of u done.0)); opened = with_given (open_given done.0.body) c.opened }) p.running;
}

abbrev pub side_after_next : PlainSide → PlainCall → Untold → Program → Rep → PlainSide
side_after_next p c u (Ask wish rest) real = side_after_wish p c wish rest u (wish_done_on p c wish) real
side_after_next p c u (Look rest) real = p
side_after_next p c u (Say answer) real = p

-- a call's request is taken: the next one of its program is done, by what was known at its mark; one that the CREATE before it refused
-- does nothing
abbrev pub side_after_owned : PlainSide → Option PlainCall → Known → Bool → Untold → Rep → PlainSide
side_after_owned p None known refused u real = p
side_after_owned p (Some c) known refused u real = if refused then p else side_after_next p c u (settled known c.rest) real

abbrev pub is_right_of_call : Option PlainCall → Known → Bool → Untold → Req → Bool
is_right_of_call None known refused u request = false
is_right_of_call (Some c) known refused u request = refused || is_next (settled known c.rest) u request

-- the pair of the open that a request without a mark ends, where it is a CLOSE that the share does; one that is related to a refused
-- CREATE ends nothing, on neither share
abbrev pub pair_of_open : Option Open → List Pair → Option Pair
pair_of_open None pairs = None
pair_of_open (Some o) pairs = pair_of_real o.number pairs

abbrev pub pair_ended : Share → List Pair → Bool → Req → Option Pair
pair_ended s pairs true request = None
pair_ended s pairs false (req.Close fid) = pair_of_open (open_of s.opens us fid) pairs
pair_ended s pairs false other = None

-- the plain open of such a pair still stands
abbrev pub still_stands : Option Pair → Share → Option ℕ
still_stands None plain = None
still_stands (Some pair) plain = if list_any (λ o. o.number == pair.plain) plain.opens then Some pair.plain else None

-- no call runs, and none is to begin
abbrev pub is_at_end : PlainSide → Bool
is_at_end p = length p.running == 0 && p.to_begin == 0

-- a request without a mark does nothing on the plain share, but a CLOSE of an open that still stands there, which is right where no call
-- runs and none is to begin
abbrev pub side_after_unowned : PlainSide → Option ℕ → PlainSide
side_after_unowned p None = p
side_after_unowned p (Some n) = if is_at_end p then record p { plain = (plain_step p.plain us (req.Close (fid_of n))).1 } else p

abbrev pub is_right_of_nobody : PlainSide → Option ℕ → Bool
is_right_of_nobody p ended = is_none ended || is_at_end p

abbrev pub side_after_request : Share → PlainSide → Option Owner → Bool → Untold → Req → Rep → PlainSide
side_after_request s p None refused u request real =
    side_after_unowned p (still_stands (pair_ended s p.pairs refused request) p.plain)
side_after_request s p (Some o) refused u request real = side_after_owned p (call_with o.number p.running) o.known refused u real

abbrev pub is_right_on_side : Share → PlainSide → Option Owner → Bool → Untold → Req → Bool
is_right_on_side s p None refused u request = is_right_of_nobody p (still_stands (pair_ended s p.pairs refused request) p.plain)
is_right_on_side s p (Some o) refused u request = is_right_of_call (call_with o.number p.running) o.known refused u request

-- what a waiting message asks for is taken
abbrev pub side_after_asked : Share → PlainSide → Sent → Option WireRequest → PlainSide
side_after_asked s p x None = p
side_after_asked s p x (Some WireRequest.Aside) = p
side_after_asked s p x (Some (WireRequest.Share related request)) =
    side_after_request s p (owner_of x.mid p.told.owners) (is_some (refused_before related x.last_create request)) (untold x.message)
    (resolved related x.last_create request) (done_of (choice_now s.grants) s related x.last_create request).0

-- a request of the connection itself belongs to no call
abbrev pub is_right_asked_on_side : Share → PlainSide → Sent → Option WireRequest → Bool
is_right_asked_on_side s p x None = true
is_right_asked_on_side s p x (Some WireRequest.Aside) = is_none (owner_of x.mid p.told.owners)
is_right_asked_on_side s p x (Some (WireRequest.Share related request)) =
    is_right_on_side s p (owner_of x.mid p.told.owners) (is_some (refused_before related x.last_create request)) (untold x.message)
    (resolved related x.last_create request)

abbrev pub side_after_sent : Share → PlainSide → Option Sent → PlainSide
side_after_sent s p None = p
side_after_sent s p (Some x) = side_after_asked s p x (wire_request x.message)

abbrev pub is_right_sent_on_side : Share → PlainSide → Option Sent → Bool
is_right_sent_on_side s p None = true
is_right_sent_on_side s p (Some x) = is_right_asked_on_side s p x (wire_request x.message)

-- the plain side once the request with an id is taken, and whether that is right
abbrev pub side_after_took : Share → PlainSide → Mid → PlainSide
side_after_took s p mid = side_after_sent s p (sent_with mid s.sent)

abbrev pub is_right_took : Share → PlainSide → Mid → Bool
is_right_took s p mid = is_right_sent_on_side s p (sent_with mid s.sent)
