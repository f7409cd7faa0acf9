-- A story that an honest share tells, and in which the client answers as one without caches.
use Rattle.std.proofs.Common.{◌≡◌, ℕ, Bool, true, false, [], ◌∷◌, ◌++◌, ◌==◌, refl, None, Some, List}
use Rattle.std.specs.List.{list_any}
use Rattle.std.specs.Prelude.{codes, take, drop}
use Rattle.smb_base.specs.declared.names.Mid.{Mid}
use Rattle.fs_types.specs.declared.names.Kind.TheVariants as kind
use Rattle.fs_types.specs.declared.answer.Answer.TheVariants as answer
use Rattle.fs_types.specs.declared.call.Call.TheVariants as call
use Rattle.fs_types.specs.declared.options.Options.{Options}
use Rattle.share_state.specs.declared.request.Req.TheVariants as req
use Rattle.share_state.specs.Reply.{of_status, fid_of, opened_reply}
use Rattle.share_state.specs.Names.{components}
use Rattle.share_state.specs.State.{Making}
use Rattle.share_state.specs.declared.share.Share.{Share}
use Rattle.share_state.specs.declared.opens.Open.{Open}
use Rattle.smb_link.specs.declared.event.Event.{Event}
use Rattle.smb_link.specs.declared.event.Event.TheVariants as event
use Rattle.smb_link.specs.declared.mark.Mark.TheVariants as mark
use Rattle.smb_le.specs.Numbers.{number_at}
use Rattle.smb_head.specs.Header.{head_of, head_at}
use Rattle.smb_head.specs.Stream.{first_of, frames_in, rest_in}
use Rattle.smb_chain.specs.Parts.{step_of, parts_of}
use Rattle.smb_body_b.specs.Contexts.{read_of, contexts_of, set_of}
use Rattle.smb_names.specs.Path as path
use Rattle.smb_names.specs.WireName.{fault_of, spelling}
use Rattle.smb_field.specs.Rows.{part_in}
use Rattle.smb_body_b.specs.Close.{close_request_of, close_reply_of}
use Rattle.smb_body_b.specs.Create.{create_request_of, create_reply_of}
use Rattle.smb_body_c.specs.Directory.{buffer_reply_of}
use Rattle.smb_body_c.specs.Error.{error_reply_of}
use Rattle.smb_body_c.specs.Info.{query_info_request_of}
use Rattle.smb_info.specs.Attributes.{all_of}
use Rattle.fs_plain.specs.Masked.{untold}
use Rattle.fs_plain.specs.Requests.{wire_request}
use Rattle.fs_plain.specs.Replies.{reply_in, is_interim_of}
use Rattle.fs_plain.specs.Honest.{IsHonest, start}
use Rattle.fs_plain.specs.Run.{Run}
use Rattle.fs_plain.specs.Differences.{odd}
use Rattle.fs_plain.specs.World.{share_after}
use Rattle.fs_plain.specs.PlainSide.{PlainSide, plain_side}
use Rattle.fs_plain.specs.Divergence.{divergence, side_at}
use Rattle.fs_plain.proofs.Frames.{create_frame, interim_frame, opened_frame, both_frame, told_frame}

abbrev pub mid : ℕ → Mid
mid n = record { 0 = n }

-- another client makes the file `a` and closes it
abbrev pub makes : Event
makes = event.Act 1 (req.Create (codes "a") 0x100086 7 2 0x40 0x80 None false) (opened_reply 1 2 0 0x80)

abbrev pub lets_go : Event
lets_go = event.Act 1 (req.Close (fid_of 1)) (of_status 0)

-- a stat of the root: its CREATE is put off and then taken, and its QUERY_INFO and its CLOSE go in one frame
abbrev pub story : List Event
story =
    event.Joined
    ∷ makes
    ∷ lets_go
    ∷ event.Marked (mark.Begin 1 0 (call.Stat (codes "/")))
    ∷ event.Marked (mark.For 1 (mid 0) 1)
    ∷ event.Sent create_frame
    ∷ event.Pend (mid 0)
    ∷ event.Quiet
    ∷ event.Took (mid 0)
    ∷ event.Got (take 50 interim_frame)
    ∷ event.Got (drop 50 interim_frame ++ opened_frame)
    ∷ event.Marked (mark.For 1 (mid 1) 2)
    ∷ event.Sent both_frame
    ∷ event.Took (mid 1)
    ∷ event.Took (mid 2)
    ∷ event.Got told_frame
    ∷ event.Marked (mark.Answer 1 (answer.Stat (record { kind = kind.Dir; size = 0; mode = 493; links = 1; number = 1 })))
    ∷ event.Marked mark.End
    ∷ []

abbrev pub options : Options
options = record {
  strict = true;
  mapposix = true;
  mfsymlinks = false;
  nobrl = false;
  ro = false;
  file_mode = 493;
  dir_mode = 493;
  rsize = 65536;
  wsize = 65536;
  closetimeo = 1;
  retries = 3;
  patience = 300;
}

abbrev nothing : Unit {0}
nothing = record {}

abbrev pub run : Run
run = record { options = options; seed = []; status = 0 }

abbrev pub made : Making
made = record { room = 1000; fold = false }

-- it is the plain client's
no_divergence : divergence run made story ≡ None
unfolding components wire_request reply_in is_interim_of head_of head_at number_at first_of frames_in rest_in step_of parts_of read_of contexts_of set_of path.components path.after_part fault_of spelling untold create_request_of close_request_of query_info_request_of part_in create_reply_of close_reply_of buffer_reply_of error_reply_of all_of
no_divergence = refl

-- with another answer it is not: the seventeenth event differs
abbrev pub with_answer : ℕ → List Event
with_answer links = take 16 story ++ event.Marked (mark.Answer 1 (answer.Stat (record { kind = kind.Dir; size = 0; mode = 493; links = links; number = 1 }))) ∷ []

a_wrong_answer : divergence run made (with_answer 2)
    ≡ Some (
      17,
      record {
        expected = answer.Stat (record { kind = kind.Dir; size = 0; mode = 493; links = 1; number = 1 });
        found = answer.Stat (record { kind = kind.Dir; size = 0; mode = 493; links = 2; number = 1 });
      },
    )
unfolding components wire_request reply_in is_interim_of head_of head_at number_at first_of frames_in rest_in step_of parts_of read_of contexts_of set_of path.components path.after_part fault_of spelling untold create_request_of close_request_of query_info_request_of part_in create_reply_of close_reply_of buffer_reply_of error_reply_of all_of
a_wrong_answer = refl

-- an answer before the second request of the three is taken
an_early_answer : divergence run made (take 13 story ++ event.Marked (mark.Answer 1 answer.Done) ∷ []) ≡ Some (14, odd)
unfolding components wire_request reply_in is_interim_of head_of head_at number_at first_of frames_in rest_in step_of parts_of read_of contexts_of set_of path.components path.after_part fault_of spelling untold create_request_of close_request_of query_info_request_of part_in create_reply_of close_reply_of buffer_reply_of error_reply_of all_of
an_early_answer = refl

-- a second answer
a_second_answer : divergence run made (take 17 story ++ event.Marked (mark.Answer 1 answer.Done) ∷ []) ≡ Some (18, odd)
unfolding components wire_request reply_in is_interim_of head_of head_at number_at first_of frames_in rest_in step_of parts_of read_of contexts_of set_of path.components path.after_part fault_of spelling untold create_request_of close_request_of query_info_request_of part_in create_reply_of close_reply_of buffer_reply_of error_reply_of all_of
a_second_answer = refl

-- a frame that does not hold the two requests that the mark before it names
a_short_frame : divergence run made (take 12 story ++ event.Sent create_frame ∷ []) ≡ Some (13, odd)
unfolding components wire_request reply_in is_interim_of head_of head_at number_at first_of frames_in rest_in step_of parts_of read_of contexts_of set_of path.components path.after_part fault_of spelling untold create_request_of close_request_of query_info_request_of part_in create_reply_of close_reply_of buffer_reply_of error_reply_of all_of
a_short_frame = refl

-- the real share and the plain side once these events happened
abbrev pub share_at_end : List Event → Share
share_at_end events = share_after (start 1000 false events) events

abbrev pub side_at_end : List Event → PlainSide
side_at_end events = side_at run (start 1000 false events) (plain_side made events) events

abbrev pub has_open_of_ours : Share → Bool
has_open_of_ours s = list_any (λ (o : Open). o.who.0 == 0) s.opens

-- it leaves the share as the plain client does, and no open of it stands
it_is_left : ((share_at_end story).nodes ≡ (side_at_end story).plain.nodes) × ((share_at_end story).entries ≡ (side_at_end story).plain.entries)
    × (has_open_of_ours (share_at_end story) ≡ false)
unfolding components wire_request reply_in is_interim_of head_of head_at number_at first_of frames_in rest_in step_of parts_of read_of contexts_of set_of path.components path.after_part fault_of spelling untold create_request_of close_request_of query_info_request_of part_in create_reply_of close_reply_of buffer_reply_of error_reply_of all_of
it_is_left = (refl, refl, refl)

-- as long as its CLOSE is not taken an open stands
it_is_not_left_before : has_open_of_ours (share_at_end (take 13 story)) ≡ true
unfolding components wire_request reply_in is_interim_of head_of head_at number_at first_of frames_in rest_in step_of parts_of read_of contexts_of set_of path.components path.after_part fault_of spelling untold create_request_of close_request_of query_info_request_of part_in create_reply_of close_reply_of buffer_reply_of error_reply_of all_of
it_is_not_left_before = refl

-- an honest share tells it
it_is_honest : IsHonest 1000 false story
unfolding components wire_request reply_in is_interim_of head_of head_at number_at first_of frames_in rest_in step_of parts_of read_of contexts_of set_of path.components path.after_part fault_of spelling untold create_request_of close_request_of query_info_request_of part_in create_reply_of close_reply_of buffer_reply_of error_reply_of all_of
it_is_honest = (
  nothing,
  (
    record { another = refl; built = refl; needs = refl; choice = refl; answered = refl },
    (
      record { another = refl; built = refl; needs = refl; choice = refl; answered = refl },
      (
        nothing,
        (
          nothing,
          (
            nothing,
            (
              refl,
              (
                nothing,
                (
                  (refl, (refl, refl)),
                  (
                    record { paid = nothing; sound = refl; held = nothing },
                    (
                      record { paid = (refl, (refl, nothing)); sound = refl; held = nothing },
                      (
                        nothing,
                        (
                          nothing,
                          (
                            (refl, (refl, refl)),
                            (
                              (refl, (refl, refl)),
                              (
                                record { paid = (refl, (refl, nothing)); sound = refl; held = nothing },
                                (
                                  nothing,
                                  (
                                    nothing,
                                    nothing,
                                  ),
                                ),
                              ),
                            ),
                          ),
                        ),
                      ),
                    ),
                  ),
                ),
              ),
            ),
          ),
        ),
      ),
    ),
  ),
)
