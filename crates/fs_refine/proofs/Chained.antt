-- A chain of three at both shares, event by event: where the share is ahead of the client, looking at what is owed makes up for it.
use Rattle.std.proofs.Common.{◌≡◌, ℕ, true, false, [], ◌∷◌, ◌++◌, refl, None, Some, List, map}
use Rattle.std.specs.Prelude.{take, length}
use Rattle.fs_types.specs.declared.answer.Answer.TheVariants as answer
use Rattle.share_state.specs.declared.request.Req.TheVariants as req
use Rattle.share_state.specs.declared.request.RepBody.TheVariants as body
use Rattle.share_state.specs.declared.share.Share.{Share}
use Rattle.share_state.specs.Reply.{fid_of}
use Rattle.share_state.specs.Names.{components}
use Rattle.share_state.specs.State.{Making}
use Rattle.smb_link.specs.declared.event.Event.{Event}
use Rattle.smb_link.specs.declared.event.Event.TheVariants as event
use Rattle.smb_link.specs.declared.mark.Mark.TheVariants as mark
use Rattle.smb_link.specs.Program.{Program, Open as Opening, Query, Ask, Say, settled}
use Rattle.smb_le.specs.Numbers.{number_at}
use Rattle.smb_head.specs.Header.{head_of, head_at}
use Rattle.smb_head.specs.Stream.{first_of, frames_in, rest_in}
use Rattle.smb_chain.specs.Parts.{step_of, parts_of}
use Rattle.smb_body_b.specs.Contexts.{read_of, contexts_of, set_of}
use Rattle.smb_names.specs.Path as path
use Rattle.smb_names.specs.WireName as name
use Rattle.smb_field.specs.Rows.{part_in}
use Rattle.smb_body_b.specs.Close.{close_request_of, close_reply_of}
use Rattle.smb_body_b.specs.Create.{create_request_of, create_reply_of}
use Rattle.smb_body_c.specs.Directory.{buffer_reply_of}
use Rattle.smb_body_c.specs.Error.{error_reply_of}
use Rattle.smb_body_c.specs.Info.{query_info_request_of}
use Rattle.smb_info.specs.Attributes.{all_of}
use Rattle.fs_plain.specs.Masked.{untold}
use Rattle.fs_plain.specs.Requests.{wire_request}
use Rattle.fs_plain.specs.Replies.{reply_in, is_interim_of, is_aside_reply}
use Rattle.fs_plain.specs.Honest.{HonestFrom, start}
use Rattle.fs_plain.specs.Run.{Run}
use Rattle.fs_plain.specs.Facts.{nothing_known}
use Rattle.fs_plain.specs.World.{share_after}
use Rattle.fs_plain.specs.Divergence.{divergence_from, side_at}
use Rattle.fs_plain.specs.PlainSide.{PlainCall, PlainSide, plain_side}
use Rattle.fs_plain.proofs.AlikeLaws.{alike_beside}
use Rattle.fs_plain.proofs.Frames.{chain_frame, opened_frame, told_frame}
use Rattle.fs_client.specs.Item.{Item}
use Rattle.fs_client.specs.View.{View, Exchange}
use Rattle.fs_client.specs.After.{all_after, own}
use Rattle.fs_client.specs.May.{Allowed}
use Rattle.fs_client.specs.Owing.{taken}
use Rattle.fs_client.proofs.Stories.{mid, options, s, mounted_by, begins, announces, a_directory, of_a_chain}
use Rattle.fs_refine.specs.Related.{calm, Related}
use Rattle.fs_refine.proofs.Kept.{IsKept, kept, related_first}

-- another client opens the root, so that this client's open has the number 2
abbrev pub opens_root : Event
opens_root = event.Act 1 (req.Create [] 0x100080 7 1 0 0x80 None false)
    (record { status = record { 0 = 0 }; body = body.Opened (fid_of 1) 1 0 0x10 0 false })

-- the share takes all three before the client gets the first reply
abbrev pub chained : List Event
chained =
    opens_root ∷ begins ∷ announces ∷ event.Sent chain_frame ∷ event.Took (mid 0) ∷ event.Took (mid 1) ∷ event.Took (mid 2) ∷ event.Got opened_frame
    ∷ event.Got told_frame ∷ event.Marked (mark.Answer 1 a_directory) ∷ []

abbrev pub run : Run
run = record { options = options; seed = []; status = 0 }

abbrev pub made : Making
made = record { room = 1000; fold = false }

-- a share to which a connection stands, and on which nothing was sent; and the plain side then
abbrev pub share_at_first : Share
share_at_first = record (start made.room made.fold chained) { connected = true }

abbrev pub side_at_first : PlainSide
side_at_first = plain_side made chained

-- both shares and the client after so many events
abbrev pub share : ℕ → Share
share n = share_after share_at_first (take n chained)

abbrev pub side : ℕ → PlainSide
side n = side_at run share_at_first side_at_first (take n chained)

abbrev pub view : ℕ → View
view n = (all_after s (mounted_by []) (own (take n chained))).view

-- what is left of the calls, of the client's once it looked at all that it is owed, and of the plain ones
abbrev pub left_of : View → List Program
left_of v = map (λ (i : Item). settled nothing_known i.rest) v.items

abbrev pub plain_left_of : PlainSide → List Program
plain_left_of p = map (λ (c : PlainCall). settled nothing_known c.rest) p.running

-- the story differs nowhere from what the plain client does
nowhere : divergence_from run 1 share_at_first side_at_first chained ≡ None
unfolding components wire_request reply_in is_interim_of is_aside_reply head_of head_at number_at first_of frames_in rest_in step_of parts_of read_of contexts_of set_of path.components path.after_part name.fault_of name.spelling untold create_request_of close_request_of query_info_request_of part_in create_reply_of close_reply_of buffer_reply_of error_reply_of all_of
nowhere = refl

-- once two requests were taken the third waits, which is what is in flight once the two replies were looked at
two_taken : (length (share 6).owed ≡ 2) × (length (view 6).flights ≡ 3) × (map calm (share 6).sent ≡ (taken (share 6).owed (view 6)).flights)
unfolding components wire_request reply_in is_interim_of is_aside_reply head_of head_at number_at first_of frames_in rest_in step_of parts_of read_of contexts_of set_of path.components path.after_part name.fault_of name.spelling untold create_request_of close_request_of query_info_request_of part_in create_reply_of close_reply_of buffer_reply_of error_reply_of all_of
two_taken = (refl, refl, refl)

-- and the plain call is where the client's is then
same_left : plain_left_of (side 6) ≡ left_of (taken (share 6).owed (view 6))
unfolding components wire_request reply_in is_interim_of is_aside_reply head_of head_at number_at first_of frames_in rest_in step_of parts_of read_of contexts_of set_of path.components path.after_part name.fault_of name.spelling untold create_request_of close_request_of query_info_request_of part_in create_reply_of close_reply_of buffer_reply_of error_reply_of all_of
same_left = refl

-- with the last reply both have come to the answer
at_the_answer : (left_of (view 9) ≡ Say a_directory ∷ []) × (plain_left_of (side 9) ≡ Say a_directory ∷ [])
unfolding components wire_request reply_in is_interim_of is_aside_reply head_of head_at number_at first_of frames_in rest_in step_of parts_of read_of contexts_of set_of path.components path.after_part name.fault_of name.spelling untold create_request_of close_request_of query_info_request_of part_in create_reply_of close_reply_of buffer_reply_of error_reply_of all_of
at_the_answer = (refl, refl)

-- a connection that is lost behind the first request that was taken: the plain call has gone on, and the client's has not
abbrev pub lost : List Event
lost = take 5 chained ++ event.Cut ∷ []

abbrev pub asks_of : List Program → List ℕ
asks_of [] = []
asks_of (Ask (Opening path access disposition choices) rest ∷ ps) = 1 ∷ asks_of ps
asks_of (Ask (Query file) rest ∷ ps) = 2 ∷ asks_of ps
asks_of (p ∷ ps) = 0 ∷ asks_of ps

plain_is_ahead : (asks_of (plain_left_of (side_at run share_at_first side_at_first lost)) ≡ 2 ∷ []) × (asks_of (left_of (all_after s (mounted_by []) (own lost)).view) ≡ 1 ∷ [])
unfolding components wire_request reply_in is_interim_of is_aside_reply head_of head_at number_at first_of frames_in rest_in step_of parts_of read_of contexts_of set_of path.components path.after_part name.fault_of name.spelling untold create_request_of close_request_of query_info_request_of part_in create_reply_of close_reply_of buffer_reply_of error_reply_of all_of
plain_is_ahead = (refl, refl)

-- an answer of another size, and one before the third request is taken, are found
a_wrong_answer : divergence_from run 1 share_at_first side_at_first (take 9 chained ++ event.Marked (mark.Answer 1 answer.Done) ∷ []) ≡ Some (10, record { expected = a_directory; found = answer.Done })
unfolding components wire_request reply_in is_interim_of is_aside_reply head_of head_at number_at first_of frames_in rest_in step_of parts_of read_of contexts_of set_of path.components path.after_part name.fault_of name.spelling untold create_request_of close_request_of query_info_request_of part_in create_reply_of close_reply_of buffer_reply_of error_reply_of all_of
a_wrong_answer = refl

-- the start is related, an honest share tells the story, and its client does what it may: so it is kept
related : (exchanges : List Exchange) → Related share_at_first side_at_first (mounted_by exchanges).view
related exchanges =
    let first = related_first made chained in
    record {
      alike = alike_beside (start made.room made.fold chained) share_at_first side_at_first refl first.alike;
      ours = refl;
      sane = record { flies = tt; owned = tt; apart = record {}; used = tt; begun = tt; sent = tt; rising = record {}; early = tt; no_place = refl; no_lease = refl };
      due = record {};
      early = refl;
      sent = refl;
      running = record {};
      told = refl;
      connected = refl;
      held = refl;
      described = refl;
      placed = tt;
      holders = first.holders;
      cached = refl;
    }

nothing : Unit {0}
nothing = record {}

it_is_honest : HonestFrom share_at_first chained
unfolding components wire_request reply_in is_interim_of is_aside_reply head_of head_at number_at first_of frames_in rest_in step_of parts_of read_of contexts_of set_of path.components path.after_part name.fault_of name.spelling untold create_request_of close_request_of query_info_request_of part_in create_reply_of close_reply_of buffer_reply_of error_reply_of all_of
it_is_honest = (
  record { another = refl; built = refl; needs = refl; choice = refl; answered = refl },
  (
    nothing,
    (
      nothing,
      (
        nothing,
        (
          (refl, (refl, refl)),
          (
            (refl, (refl, refl)),
            (
              (refl, (refl, refl)),
              (
                record { paid = (refl, nothing); sound = refl; held = nothing },
                (
                  record { paid = (refl, (refl, nothing)); sound = refl; held = nothing },
                  (
                    nothing,
                    nothing,
                  ),
                ),
              ),
            ),
          ),
        ),
      ),
    ),
  ),
)

it_is_kept : (exchanges : List Exchange) → Allowed s (mounted_by exchanges) of_a_chain → IsKept run s 1 share_at_first side_at_first (mounted_by exchanges) chained
it_is_kept exchanges allowed =
    kept run s chained 1 share_at_first side_at_first (mounted_by exchanges) (record { options = refl; seed = refl }) (related exchanges) it_is_honest allowed
