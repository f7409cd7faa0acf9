-- What comes, and what the client makes of it: a refused CREATE with its two related requests, an interim reply, a reply in pieces while
-- the share takes requests, replies out of turn, and replies to other requests.
use Rattle.std.proofs.Common.{◌≡◌, [], ◌∷◌, ◌++◌, refl, List, map}
use Rattle.std.specs.Prelude.{codes, take, drop, set, length}
use Rattle.std.specs.Str.{chars}
use Rattle.fs_types.specs.declared.call.Call.TheVariants as call
use Rattle.share_state.specs.Names.{components}
use Rattle.smb_link.specs.Program.{Program, Say, settled}
use Rattle.smb_link.specs.declared.event.Event.{Event}
use Rattle.smb_link.specs.declared.event.Event.TheVariants as event
use Rattle.smb_link.specs.declared.mark.Mark.TheVariants as mark
use Rattle.smb_le.specs.Numbers.{number_at}
use Rattle.smb_head.specs.Header.{head_of, head_at}
use Rattle.smb_head.specs.Stream.{first_of, frames_in, rest_in}
use Rattle.smb_chain.specs.Parts.{step_of, parts_of}
use Rattle.smb_body_b.specs.Contexts.{read_of, contexts_of, set_of}
use Rattle.smb_names.specs.Path as path
use Rattle.smb_names.specs.WireName as name
use Rattle.smb_field.specs.Rows.{part_in}
use Rattle.smb_body_b.specs.Close.{close_request_of, close_reply_of}
use Rattle.smb_body_b.specs.Create.{create_request_of, create_reply_of}
use Rattle.smb_body_c.specs.Directory.{buffer_reply_of}
use Rattle.smb_body_c.specs.Error.{error_reply_of}
use Rattle.smb_body_c.specs.Info.{query_info_request_of}
use Rattle.smb_info.specs.Attributes.{all_of}
use Rattle.fs_plain.specs.Masked.{untold}
use Rattle.fs_plain.specs.Requests.{wire_request}
use Rattle.fs_plain.specs.Replies.{reply_in, is_aside_reply}
use Rattle.fs_plain.specs.Facts.{nothing_known}
use Rattle.fs_plain.proofs.Frames.{interim_frame, opened_frame, told_frame, missing_chain_frame, chain_frame}
use Rattle.fs_client.specs.Item.{Item, item_with}
use Rattle.fs_client.specs.View.{View, Client}
use Rattle.fs_client.specs.After.{all_after, own}
use Rattle.fs_client.proofs.Stories.{mid, s, mounted_by, begins, announces, a_directory, of_a_chain, refusals, not_there, crossed}

-- the client once these events happened
abbrev pub at : List Event → Client
at events = all_after s (mounted_by []) events

-- what is left of the calls, by what is known at first
abbrev pub left_of : View → List Program
left_of v = map (λ (i : Item). settled nothing_known i.rest) v.items

abbrev pub begins_missing : Event
begins_missing = event.Marked (mark.Begin 1 0 (call.Stat (codes "/b")))

-- a CREATE that is refused: its two related requests are refused with it, and the call's answer is that refusal
abbrev pub of_a_refusal : List Event
of_a_refusal = begins_missing ∷ announces ∷ event.Sent missing_chain_frame ∷ event.Got (refusals 0) ∷ []

refused_with_it : left_of (at of_a_refusal).view ≡ Say not_there ∷ []
unfolding chars components wire_request reply_in is_aside_reply head_of head_at number_at first_of frames_in rest_in step_of parts_of read_of contexts_of set_of path.components path.after_part name.fault_of name.spelling untold create_request_of close_request_of query_info_request_of part_in create_reply_of close_reply_of buffer_reply_of error_reply_of all_of
refused_with_it = refl

none_in_flight : (at of_a_refusal).view.flights ≡ []
unfolding chars components wire_request reply_in is_aside_reply head_of head_at number_at first_of frames_in rest_in step_of parts_of read_of contexts_of set_of path.components path.after_part name.fault_of name.spelling untold create_request_of close_request_of query_info_request_of part_in create_reply_of close_reply_of buffer_reply_of error_reply_of all_of
none_in_flight = refl

-- a chain is sent
abbrev pub sent : List Event
sent = begins ∷ announces ∷ event.Sent chain_frame ∷ []

-- an interim reply moves nothing
interim_moves_nothing : (at (sent ++ event.Got interim_frame ∷ [])).view ≡ (at sent).view
unfolding chars components wire_request reply_in is_aside_reply head_of head_at number_at first_of frames_in rest_in step_of parts_of read_of contexts_of set_of path.components path.after_part name.fault_of name.spelling untold create_request_of close_request_of query_info_request_of part_in create_reply_of close_reply_of buffer_reply_of error_reply_of all_of
interim_moves_nothing = refl

-- a reply that is got in pieces is looked at with its last byte, whatever the share takes meanwhile
abbrev pub in_pieces : List Event
in_pieces =
    begins ∷ announces ∷ event.Sent chain_frame ∷ event.Took (mid 0) ∷ event.Got (take 50 opened_frame) ∷ event.Took (mid 1)
    ∷ event.Got (drop 50 opened_frame) ∷ event.Took (mid 2) ∷ event.Got told_frame ∷ event.Marked (mark.Answer 1 a_directory) ∷ []

not_before : (at (take 5 in_pieces)).view.flights ≡ (at sent).view.flights
unfolding chars components wire_request reply_in is_aside_reply head_of head_at number_at first_of frames_in rest_in step_of parts_of read_of contexts_of set_of path.components path.after_part name.fault_of name.spelling untold create_request_of close_request_of query_info_request_of part_in create_reply_of close_reply_of buffer_reply_of error_reply_of all_of
not_before = refl

as_in_one : (at in_pieces).view ≡ (at of_a_chain).view
unfolding chars components wire_request reply_in is_aside_reply head_of head_at number_at first_of frames_in rest_in step_of parts_of read_of contexts_of set_of path.components path.after_part name.fault_of name.spelling untold create_request_of close_request_of query_info_request_of part_in create_reply_of close_reply_of buffer_reply_of error_reply_of all_of
as_in_one = refl

the_same_own : length (own in_pieces) ≡ 7
the_same_own = refl

-- replies out of turn wait for the one to the CREATE
abbrev pub out_of_turn : List Event
out_of_turn = sent ++ event.Got told_frame ∷ event.Got opened_frame ∷ []

two_early : length (at (take 4 out_of_turn)).view.early ≡ 2
unfolding chars components wire_request reply_in is_aside_reply head_of head_at number_at first_of frames_in rest_in step_of parts_of read_of contexts_of set_of path.components path.after_part name.fault_of name.spelling untold create_request_of close_request_of query_info_request_of part_in create_reply_of close_reply_of buffer_reply_of error_reply_of all_of
two_early = refl

in_turn_then : left_of (at out_of_turn).view ≡ Say a_directory ∷ []
unfolding chars components wire_request reply_in is_aside_reply head_of head_at number_at first_of frames_in rest_in step_of parts_of read_of contexts_of set_of path.components path.after_part name.fault_of name.spelling untold create_request_of close_request_of query_info_request_of part_in create_reply_of close_reply_of buffer_reply_of error_reply_of all_of
in_turn_then = refl

none_early_then : (at out_of_turn).view.early ≡ []
unfolding chars components wire_request reply_in is_aside_reply head_of head_at number_at first_of frames_in rest_in step_of parts_of read_of contexts_of set_of path.components path.after_part name.fault_of name.spelling untold create_request_of close_request_of query_info_request_of part_in create_reply_of close_reply_of buffer_reply_of error_reply_of all_of
none_early_then = refl

-- replies to another call's requests leave a call where it is
of_another_call : item_with 1 (at (take 7 crossed)).view.items ≡ item_with 1 (at (take 6 crossed)).view.items
unfolding chars components wire_request reply_in is_aside_reply head_of head_at number_at first_of frames_in rest_in step_of parts_of read_of contexts_of set_of path.components path.after_part name.fault_of name.spelling untold create_request_of close_request_of query_info_request_of part_in create_reply_of close_reply_of buffer_reply_of error_reply_of all_of
of_another_call = refl

-- a reply to no request moves nothing
a_strangers : (at (sent ++ event.Got (set opened_frame 28 9) ∷ [])).view ≡ (at sent).view
unfolding chars components wire_request reply_in is_aside_reply head_of head_at number_at first_of frames_in rest_in step_of parts_of read_of contexts_of set_of path.components path.after_part name.fault_of name.spelling untold create_request_of close_request_of query_info_request_of part_in create_reply_of close_reply_of buffer_reply_of error_reply_of all_of
a_strangers = refl

-- a second reply to one request moves nothing
a_second : (at (sent ++ event.Got opened_frame ∷ event.Got opened_frame ∷ [])).view ≡ (at (sent ++ event.Got opened_frame ∷ [])).view
unfolding chars components wire_request reply_in is_aside_reply head_of head_at number_at first_of frames_in rest_in step_of parts_of read_of contexts_of set_of path.components path.after_part name.fault_of name.spelling untold create_request_of close_request_of query_info_request_of part_in create_reply_of close_reply_of buffer_reply_of error_reply_of all_of
a_second = refl
