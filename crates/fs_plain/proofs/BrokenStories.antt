-- Stories that no honest share tells, each for one reason.
use Rattle.std.proofs.Common.{false, [], ◌∷◌, ap, None, Some, List, Option, Bool, ◌==◌}
use Rattle.std.specs.Prelude.{take}
use Rattle.std.proofs.lemmas.Bool.{true≢false, false≢true}
use Rattle.share_state.specs.declared.request.Req.TheVariants as req
use Rattle.share_state.specs.declared.request.Rep.{Rep}
use Rattle.share_state.specs.Reply.{opened_reply}
use Rattle.share_state.specs.Names.{components}
use Rattle.smb_link.specs.declared.event.Event.{Event}
use Rattle.smb_link.specs.declared.event.Event.TheVariants as event
use Rattle.smb_le.specs.Numbers.{number_at}
use Rattle.smb_head.specs.Header.{head_of, head_at}
use Rattle.smb_head.specs.Stream.{first_of, frames_in, rest_in}
use Rattle.smb_chain.specs.Parts.{step_of, parts_of}
use Rattle.smb_body_b.specs.Contexts.{read_of, contexts_of, set_of}
use Rattle.smb_field.specs.Rows.{part_in}
use Rattle.smb_body_b.specs.Close.{close_request_of, close_reply_of}
use Rattle.smb_body_b.specs.Create.{create_request_of, create_reply_of}
use Rattle.smb_body_c.specs.Directory.{buffer_reply_of}
use Rattle.smb_body_c.specs.Error.{error_reply_of}
use Rattle.smb_body_c.specs.Info.{query_info_request_of}
use Rattle.smb_info.specs.Attributes.{all_of}
use Rattle.fs_plain.specs.Masked.{untold}
use Rattle.fs_plain.specs.Requests.{wire_request}
use Rattle.fs_plain.specs.Replies.{reply_in, is_interim_of}
use Rattle.fs_plain.specs.Honest.{IsHonest}
use Rattle.fs_plain.proofs.Frames.{create_frame, opened_frame, refused_frame}
use Rattle.fs_plain.proofs.HonestStory.{mid}

-- a CREATE of another client makes open 1, so that the root's is open 2, as the reply says
abbrev pub before : List Event → List Event
before rest = event.Joined ∷ event.Act 1 (req.Create [] 0x80 7 1 0 0x80 None false) (opened_reply 1 1 0 0x10) ∷ event.Sent create_frame ∷ rest

-- the status of a reply, if there is one, is 0
abbrev pub is_good : Option Rep → Bool
is_good None = false
is_good (Some reply) = reply.status.0 == 0

-- the same reply comes twice
replies_twice : IsHonest 1000 false (before (event.Took (mid 0) ∷ event.Got opened_frame ∷ event.Got opened_frame ∷ [])) → ⊥
unfolding components wire_request reply_in is_interim_of head_of head_at number_at first_of frames_in rest_in step_of parts_of read_of contexts_of set_of untold create_request_of close_request_of query_info_request_of part_in create_reply_of close_reply_of buffer_reply_of error_reply_of all_of
replies_twice honest = honest.1.1.1.1.1.0.paid

-- the reply comes before the request is taken
replies_early : IsHonest 1000 false (before (event.Got opened_frame ∷ event.Took (mid 0) ∷ [])) → ⊥
unfolding components wire_request reply_in is_interim_of head_of head_at number_at first_of frames_in rest_in step_of parts_of read_of contexts_of set_of untold create_request_of close_request_of query_info_request_of part_in create_reply_of close_reply_of buffer_reply_of error_reply_of all_of
replies_early honest = honest.1.1.1.0.paid

-- bytes come that nobody owes, be it only the beginning of a frame
owes_nothing : IsHonest 1000 false (event.Joined ∷ event.Got (take 3 opened_frame) ∷ []) → ⊥
unfolding components wire_request reply_in is_interim_of head_of head_at number_at first_of frames_in rest_in step_of parts_of read_of contexts_of set_of untold create_request_of close_request_of query_info_request_of part_in create_reply_of close_reply_of buffer_reply_of error_reply_of all_of
owes_nothing honest = honest.1.0.held

-- a request is taken that was never sent
never_sent : IsHonest 1000 false (before (event.Took (mid 1) ∷ [])) → ⊥
unfolding components wire_request reply_in is_interim_of head_of head_at number_at first_of frames_in rest_in step_of parts_of read_of contexts_of set_of untold create_request_of close_request_of query_info_request_of part_in create_reply_of close_reply_of buffer_reply_of error_reply_of all_of
never_sent honest = honest.1.1.1.0

-- a request is taken twice
taken_twice : IsHonest 1000 false (before (event.Took (mid 0) ∷ event.Took (mid 0) ∷ [])) → ⊥
unfolding components wire_request reply_in is_interim_of head_of head_at number_at first_of frames_in rest_in step_of parts_of read_of contexts_of set_of untold create_request_of close_request_of query_info_request_of part_in create_reply_of close_reply_of buffer_reply_of error_reply_of all_of
taken_twice honest = honest.1.1.1.1.0

-- the reply has another status than the share gave
other_status : IsHonest 1000 false (before (event.Took (mid 0) ∷ event.Got refused_frame ∷ [])) → ⊥
unfolding components wire_request reply_in is_interim_of head_of head_at number_at first_of frames_in rest_in step_of parts_of read_of contexts_of set_of untold create_request_of close_request_of query_info_request_of part_in create_reply_of close_reply_of buffer_reply_of error_reply_of all_of
other_status honest = false≢true (ap is_good honest.1.1.1.1.0.paid.0)

-- an act of the client itself
acts_itself : IsHonest 1000 false (event.Joined ∷ event.Act 0 (req.Create [] 0x80 7 1 0 0x80 None false) (opened_reply 1 1 0 0x10) ∷ []) → ⊥
unfolding components wire_request reply_in is_interim_of head_of head_at number_at first_of frames_in rest_in step_of parts_of read_of contexts_of set_of untold create_request_of close_request_of query_info_request_of part_in create_reply_of close_reply_of buffer_reply_of error_reply_of all_of
acts_itself honest = true≢false honest.1.0.another

-- a request is taken after the connection on which it was sent was lost
taken_after_cut : IsHonest 1000 false (before (event.Cut ∷ event.Joined ∷ event.Took (mid 0) ∷ [])) → ⊥
unfolding components wire_request reply_in is_interim_of head_of head_at number_at first_of frames_in rest_in step_of parts_of read_of contexts_of set_of untold create_request_of close_request_of query_info_request_of part_in create_reply_of close_reply_of buffer_reply_of error_reply_of all_of
taken_after_cut honest = honest.1.1.1.1.1.0

-- a request that was sent while no connection stood
sent_on_none : IsHonest 1000 false (event.Sent create_frame ∷ event.Took (mid 0) ∷ []) → ⊥
unfolding components wire_request reply_in is_interim_of head_of head_at number_at first_of frames_in rest_in step_of parts_of read_of contexts_of set_of untold create_request_of close_request_of query_info_request_of part_in create_reply_of close_reply_of buffer_reply_of error_reply_of all_of
sent_on_none honest = honest.1.0
