-- Stories, each of which a looser reading of the rules would judge wrongly.
use Rattle.std.proofs.Common.{◌≡◌, ℕ, true, false, [], ◌∷◌, ◌++◌, refl, ap, None, Some, List, Option, Bool}
use Rattle.std.proofs.lemmas.Bool.{false≢true}
use Rattle.std.specs.Prelude.{codes, take, drop, set}
use Rattle.std.specs.Str.{chars}
use Rattle.smb_base.specs.declared.names.Key.{Key}
use Rattle.fs_types.specs.declared.names.Kind.TheVariants as kind
use Rattle.fs_types.specs.declared.answer.Answer.{Answer}
use Rattle.fs_types.specs.declared.answer.Answer.TheVariants as answer
use Rattle.fs_types.specs.declared.call.Call.TheVariants as call
use Rattle.share_state.specs.declared.request.Req.{Req}
use Rattle.share_state.specs.declared.request.Rep.{Rep}
use Rattle.share_state.specs.declared.request.RepBody.{RepBody}
use Rattle.share_state.specs.declared.request.RepBody.TheVariants as body
use Rattle.share_state.specs.declared.connection.Owed.TheVariants as owed
use Rattle.share_state.specs.Reply.{fid_of}
use Rattle.share_state.specs.declared.share.Share.{Share}
use Rattle.share_state.specs.Names.{components}
use Rattle.smb_link.specs.declared.event.Event.{Event}
use Rattle.smb_link.specs.declared.event.Event.TheVariants as event
use Rattle.smb_link.specs.declared.mark.Mark.TheVariants as mark
use Rattle.smb_le.specs.Numbers.{number_at}
use Rattle.smb_head.specs.Header.{head_of, head_at}
use Rattle.smb_head.specs.Stream.{first_of, frames_in, rest_in}
use Rattle.smb_chain.specs.Parts.{step_of, parts_of}
use Rattle.smb_body_b.specs.Contexts.{read_of, contexts_of, set_of, chain_of, context_of, is_short}
use Rattle.smb_names.specs.Path as path
use Rattle.smb_names.specs.WireName.{fault_of, spelling}
use Rattle.smb_field.specs.Rows.{part_in}
use Rattle.smb_body_b.specs.Close.{close_request_of, close_reply_of}
use Rattle.smb_body_b.specs.Create.{create_request_of, create_reply_of}
use Rattle.smb_body_c.specs.Directory.{buffer_reply_of}
use Rattle.smb_body_c.specs.Error.{error_reply_of}
use Rattle.smb_body_c.specs.Info.{query_info_request_of}
use Rattle.smb_info.specs.Attributes.{all_of, standard_of}
use Rattle.fs_plain.specs.Requests.{wire_request, asked_lease, wanted_lease}
use Rattle.fs_plain.specs.Replies.{reply_in, is_interim_of, Pays}
use Rattle.fs_plain.specs.Honest.{IsHonest}
use Rattle.fs_plain.specs.Run.{Run}
use Rattle.fs_plain.specs.Differences.{odd}
use Rattle.fs_plain.specs.PlainSide.{PlainSide}
use Rattle.fs_plain.specs.PlainTaken.{side_after_request}
use Rattle.fs_plain.specs.Divergence.{divergence}
use Rattle.fs_plain.specs.Masked.{Untold, untold, masked}
use Rattle.fs_plain.proofs.Frames.{create_frame, opened_frame, both_frame, told_frame, chain_frame, missing_chain_frame, standard_frame, told_standard_frame, reclaim_message}
use Rattle.fs_plain.proofs.HonestStory.{mid, run, made, story, makes, lets_go}

-- a run that ended by what the server sent
abbrev pub broken : Run
broken = record run { status = 5 }

abbrev pub begins : Event
begins = event.Marked (mark.Begin 1 0 (call.Stat (codes "/")))

abbrev pub breaks_off : Event
breaks_off = event.Marked (mark.Answer 1 (answer.Err (record { 0 = 71 }) None))

-- EPROTO where the run ends is passed over
broken_off : divergence broken made (event.Joined ∷ begins ∷ breaks_off ∷ []) ≡ None
unfolding components path.components path.after_part fault_of spelling
broken_off = refl

-- and where the client goes on behind it, it is none of the plain client's answers
goes_on : divergence broken made (event.Joined ∷ begins ∷ breaks_off ∷ event.Marked mark.End ∷ []) ≡ Some (3, odd)
unfolding components path.components path.after_part fault_of spelling
goes_on = refl

-- a request without a mark that is related to a refused CREATE does nothing on the plain share, whatever it asks
refused_does_nothing : (s : Share) (p : PlainSide) (u : Untold) (request : Req) (real : Rep) → side_after_request s p None true u request real ≡ p
refused_does_nothing s p u request real = refl

-- a call that is not there may not begin
not_there : divergence run made (event.Joined ∷ event.Marked (mark.Begin 1 0 (call.Lstat (codes "/"))) ∷ []) ≡ Some (2, odd)
not_there = refl

-- a lease is asked for at the oplock level 0xFF alone
no_lease_at_level_0 : (lease : Key × ℕ) → asked_lease 0 (Some lease) ≡ None
no_lease_at_level_0 lease = refl

a_lease_at_level_255 : (lease : Key × ℕ) → asked_lease 255 (Some lease) ≡ Some (wanted_lease lease)
a_lease_at_level_255 lease = refl

-- the id of a call's request is used again by a request without a mark: it is nobody's, and the call is where it was
abbrev pub used_again : List Event
used_again = take 6 story ++ event.Took (mid 0) ∷ event.Sent create_frame ∷ event.Took (mid 0) ∷ []

nobodys : divergence run made used_again ≡ None
unfolding components wire_request reply_in is_interim_of head_of head_at number_at first_of frames_in rest_in step_of parts_of read_of contexts_of set_of path.components path.after_part fault_of spelling untold create_request_of close_request_of query_info_request_of part_in create_reply_of close_reply_of buffer_reply_of error_reply_of all_of
nobodys = refl

-- two marks speak of one frame, each of one of its requests
abbrev pub marked_twice : List Event
marked_twice =
    take 11 story ++ event.Marked (mark.For 1 (mid 1) 1) ∷ event.Marked (mark.For 1 (mid 2) 1) ∷ event.Sent both_frame ∷ event.Took (mid 1) ∷ event.Took (mid 2) ∷ []

both_speak : divergence run made marked_twice ≡ None
unfolding components wire_request reply_in is_interim_of head_of head_at number_at first_of frames_in rest_in step_of parts_of read_of contexts_of set_of path.components path.after_part fault_of spelling untold create_request_of close_request_of query_info_request_of part_in create_reply_of close_reply_of buffer_reply_of error_reply_of all_of
both_speak = refl

-- a stat whose three requests go in one frame, under one mark: the two later ones are related to its CREATE
abbrev pub chained : List ℕ → Answer → List Event
chained frame a =
    event.Joined ∷ begins ∷ event.Marked (mark.For 1 (mid 0) 3) ∷ event.Sent frame ∷ event.Took (mid 0) ∷ event.Took (mid 1) ∷ event.Took (mid 2)
    ∷ event.Marked (mark.Answer 1 a) ∷ []

in_one_frame : divergence run made (chained chain_frame (answer.Stat (record { kind = kind.Dir; size = 0; mode = 493; links = 1; number = 1 }))) ≡ None
unfolding components wire_request reply_in is_interim_of head_of head_at number_at first_of frames_in rest_in step_of parts_of read_of contexts_of set_of path.components path.after_part fault_of spelling untold create_request_of close_request_of query_info_request_of part_in create_reply_of close_reply_of buffer_reply_of error_reply_of all_of
in_one_frame = refl

-- where the CREATE is refused the two do nothing, and its refusal is the answer
abbrev pub begins_missing : Event
begins_missing = event.Marked (mark.Begin 1 0 (call.Stat (47 ∷ 98 ∷ [])))

abbrev pub missing : List Event
missing =
    event.Joined ∷ begins_missing ∷ event.Marked (mark.For 1 (mid 0) 3) ∷ event.Sent missing_chain_frame ∷ event.Took (mid 0) ∷ event.Took (mid 1)
    ∷ event.Took (mid 2) ∷ event.Marked (mark.Answer 1 (answer.Err (record { 0 = 2 }) None)) ∷ []

refused_in_one_frame : divergence run made missing ≡ None
unfolding chars components wire_request reply_in is_interim_of head_of head_at number_at first_of frames_in rest_in step_of parts_of read_of contexts_of set_of path.components path.after_part fault_of spelling untold create_request_of close_request_of query_info_request_of part_in create_reply_of close_reply_of buffer_reply_of error_reply_of all_of
refused_in_one_frame = refl

-- a file of five bytes, read-only and of number 9, as the share tells it, and as FileStandardInformation can
abbrev pub info : Bool → ℕ → Rep
info read_only number = record { status = record { 0 = 0 }; body = body.Info false 5 read_only 1 false number }

abbrev pub query : ℕ → List ℕ
query class = set (drop 4 both_frame) 67 class

standard_tells_less : masked (query 5) (info true 9) ≡ info false 0
unfolding number_at untold head_of head_at query_info_request_of
standard_tells_less = refl

all_tells_it_whole : masked (query 18) (info true 9) ≡ info true 9
unfolding number_at untold head_of head_at query_info_request_of
all_tells_it_whole = refl

abbrev nothing : Unit {0}
nothing = record {}

abbrev says_directory : RepBody → Bool
says_directory (body.Info dir size read_only links pending number) = dir
says_directory b = false

abbrev is_a_directory : Option Rep → Bool
is_a_directory None = false
is_a_directory (Some reply) = says_directory reply.body

-- FileStandardInformation is a question that the share takes; its reply tells neither the number of a file nor its read-only mark, and
-- pays all the same
abbrev pub asked_standard : List Event
asked_standard =
    event.Joined ∷ makes ∷ lets_go ∷ event.Sent create_frame ∷ event.Took (mid 0) ∷ event.Got opened_frame ∷ event.Sent standard_frame
    ∷ event.Took (mid 1) ∷ event.Took (mid 2) ∷ event.Got told_standard_frame ∷ []

standard_is_honest : IsHonest 1000 false asked_standard
unfolding components wire_request reply_in is_interim_of head_of head_at number_at first_of frames_in rest_in step_of parts_of read_of contexts_of set_of path.components path.after_part fault_of spelling untold create_request_of close_request_of query_info_request_of part_in create_reply_of close_reply_of buffer_reply_of error_reply_of all_of standard_of
standard_is_honest = (
  nothing,
  (
    record { another = refl; built = refl; needs = refl; choice = refl; answered = refl },
    (
      record { another = refl; built = refl; needs = refl; choice = refl; answered = refl },
      (
        nothing,
        (
          (refl, (refl, refl)),
          (
            record { paid = (refl, nothing); sound = refl; held = nothing },
            (
              nothing,
              (
                (refl, (refl, refl)),
                (
                  (refl, (refl, refl)),
                  (
                    record { paid = (refl, (refl, nothing)); sound = refl; held = nothing },
                    nothing,
                  ),
                ),
              ),
            ),
          ),
        ),
      ),
    ),
  ),
)

-- the reply to the question for everything does not pay for it
abbrev pub told_too_much : List Event
told_too_much = take 9 asked_standard ++ event.Got told_frame ∷ []

too_much_is_not_paid : IsHonest 1000 false told_too_much → ⊥
unfolding components wire_request reply_in is_interim_of head_of head_at number_at first_of frames_in rest_in step_of parts_of read_of contexts_of set_of path.components path.after_part fault_of spelling untold create_request_of close_request_of query_info_request_of part_in create_reply_of close_reply_of buffer_reply_of error_reply_of all_of standard_of
too_much_is_not_paid honest = false≢true (ap is_a_directory honest.1.1.1.1.1.1.1.1.1.0.paid.0)

-- a stat is told everything: one that asks for FileStandardInformation is not the plain client's
abbrev pub asks_less : List Event
asks_less = take 12 story ++ event.Sent standard_frame ∷ event.Took (mid 1) ∷ []

less_is_not_enough : divergence run made asks_less ≡ Some (14, odd)
unfolding components wire_request reply_in is_interim_of head_of head_at number_at first_of frames_in rest_in step_of parts_of read_of contexts_of set_of path.components path.after_part fault_of spelling untold create_request_of close_request_of query_info_request_of part_in create_reply_of close_reply_of buffer_reply_of error_reply_of all_of
less_is_not_enough = refl

-- a reclaim: the share's own reply says that the open is durable, and the message has no word for it
reclaim_is_paid : Pays (owed.Reply (mid 0) reclaim_message (record { status = record { 0 = 0 }; body = body.Opened (fid_of 2) 1 0 0x10 0 true }))
    (drop 4 opened_frame)
unfolding components wire_request reply_in is_interim_of head_of head_at number_at first_of frames_in rest_in step_of parts_of read_of contexts_of set_of path.components path.after_part fault_of spelling untold create_request_of close_request_of query_info_request_of part_in create_reply_of close_reply_of buffer_reply_of error_reply_of all_of chain_of context_of is_short
reclaim_is_paid = refl
