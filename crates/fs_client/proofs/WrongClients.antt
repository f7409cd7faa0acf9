-- Clients that do what they may not.
use Rattle.std.proofs.Common.{arith, ◌≡◌, ◌<◌, ◌≤◌, rules, refl, sym, ap, subst, ◌∙◌, ℕ, ◌==◌, max, bit_and, if◌then◌else◌, true, false, [], ◌∷◌, ◌++◌, List, Bool}
use Rattle.std.proofs.lemmas.Bool.{false≢true}
use Rattle.std.specs.Prelude.{codes, take, set, slice_index, map, None}
use Rattle.std.specs.Str.{chars}
use Rattle.share_state.specs.declared.request.Rep.{Rep}
use Rattle.share_state.specs.declared.request.RepBody.TheVariants as body
use Rattle.share_state.specs.Names.{components}
use Rattle.share_state.specs.Reply.{fid_of}
use Rattle.fs_types.specs.declared.answer.Answer.{Answer}
use Rattle.fs_types.specs.declared.call.Call.TheVariants as call
use Rattle.smb_base.specs.declared.names.Mid.{Mid}
use Rattle.smb_link.specs.declared.event.Event.{Event}
use Rattle.smb_link.specs.declared.event.Event.TheVariants as event
use Rattle.smb_link.specs.declared.mark.Mark.TheVariants as mark
use Rattle.smb_le.specs.Numbers.{number_at}
use Rattle.smb_head.specs.Header.{head_of, head_at}
use Rattle.smb_head.specs.Stream.{first_of, frames_in, rest_in}
use Rattle.smb_chain.specs.Parts.{step_of, parts_of}
use Rattle.smb_body_b.specs.Contexts.{read_of, contexts_of, set_of}
use Rattle.smb_names.specs.Path as path
use Rattle.smb_names.specs.WireName as name
use Rattle.smb_field.specs.Rows.{part_in}
use Rattle.smb_body_b.specs.Close.{close_request_of, close_reply_of}
use Rattle.smb_body_b.specs.Create.{create_request_of, create_reply_of}
use Rattle.smb_body_c.specs.Directory.{buffer_reply_of}
use Rattle.smb_body_c.specs.Error.{error_reply_of}
use Rattle.smb_body_c.specs.Info.{query_info_request_of}
use Rattle.smb_info.specs.Attributes.{all_of}
use Rattle.fs_plain.specs.Masked.{Untold, NumberAndMark, untold}
use Rattle.fs_plain.specs.Requests.{wire_request}
use Rattle.fs_plain.specs.Replies.{reply_in, is_aside_reply}
use Rattle.fs_plain.proofs.Frames.{opened_frame, both_frame, chain_frame}
use Rattle.smb_le.specs.Numbers.{bytes_of}
use Rattle.smb_head.specs.Header.{header}
use Rattle.smb_head.specs.Stream as stream
use Rattle.smb_chain.specs.Chain.{chain}
use Rattle.smb_credit.specs.Window.{numbers, usable, after_use, up_to}
use Rattle.smb_field.specs.Body.{spelling}
use Rattle.smb_field.specs.Fields.{spelled}
use Rattle.smb_field.specs.TwoParts.{spelling_of_two}
use Rattle.smb_mount.specs.declared.facts.Facts.{Facts}
use Rattle.smb_mount.specs.Requests.{unit_bytes}
use Rattle.smb_mux.specs.Sending.{placed}
use Rattle.smb_base.specs.declared.names.Fid.{Fid}
use Rattle.smb_link.specs.Program.{File, Wish}
use Rattle.fs_client.specs.Flies.{FliesAs}
use Rattle.fs_client.specs.Item.{file_id}
use Rattle.fs_client.specs.Spelled.{request_for}
use Rattle.fs_client.specs.Mount.{Mounted, LeadTo, at_first}
use Rattle.fs_client.proofs.Mounts.{one_share}
use Rattle.fs_client.proofs.Spellings.{facts}
use Rattle.fs_client.specs.View.{Exchange, Client}
use Rattle.fs_client.specs.After.{all_after}
use Rattle.fs_client.specs.May.{IsLeavingTree, Mounting, Echo, LeavingTree, LeavingSession, May}
use Rattle.fs_client.proofs.Stories.{mounted_by, mid, s, begins, begins_other, announces, crossed}
use Rattle.fs_client.proofs.Comings.{sent}

zero_three : ◌≡◌ {A = ℕ} 0 3 → ⊥
zero_three is = omega (arith, is)

three_two : ◌≡◌ {A = ℕ} 3 2 → ⊥
three_two is = omega (arith, is)

enough : (b : Bool) → 32 < max 1 (if b then 1 else 0) → ⊥
enough true less = omega (arith, less)
enough false less = omega (arith, less)

one_three : ◌≡◌ {A = ℕ} 1 3 → ⊥
one_three is = omega (arith, is)

three_free : 3 ≤ 32
three_free = omega arith

abbrev an_open : Rep
an_open = record { status = record { 0 = 0 }; body = body.Opened (fid_of 2) 1 0 0x10 0 false }

some_none : {X : Type 0} {x : X} {xs : List X} → x ∷ xs ≡ [] → ⊥
some_none is = search rules

two_one : ◌≡◌ {A = ℕ} 2 1 → ⊥
two_one is = omega (arith, is)

two_zero : ◌≡◌ {A = ℕ} 2 0 → ⊥
two_zero is = omega (arith, is)

-- the client once these events happened on a share that was mounted by these exchanges
abbrev pub done : List Exchange → List Event → Client
done exchanges events = all_after s (mounted_by exchanges) events

-- a second frame under an id that was used, also where the mark says otherwise
a_used_id : (exchanges : List Exchange) → May s (done exchanges (sent ++ begins_other ∷ event.Marked (mark.For 2 (mid 3) 3) ∷ [])) (event.Sent chain_frame) → ⊥
unfolding chars components wire_request reply_in is_aside_reply head_of head_at number_at first_of frames_in rest_in step_of parts_of read_of contexts_of set_of path.components path.after_part name.fault_of name.spelling untold create_request_of close_request_of query_info_request_of part_in create_reply_of close_reply_of buffer_reply_of error_reply_of all_of
a_used_id exchanges may = zero_three may.frame_is.next.0

-- nor may the mark say so
a_used_id_announced : (exchanges : List Exchange) → May s (done exchanges (sent ++ begins_other ∷ [])) (event.Marked (mark.For 2 (mid 0) 3)) → ⊥
unfolding chars components wire_request reply_in is_aside_reply head_of head_at number_at first_of frames_in rest_in step_of parts_of read_of contexts_of set_of path.components path.after_part name.fault_of name.spelling untold create_request_of close_request_of query_info_request_of part_in create_reply_of close_reply_of buffer_reply_of error_reply_of all_of
a_used_id_announced exchanges may = zero_three (ap (λ (m : Mid). m.0) may.next)

-- an answer before the last reply of the call, whatever it is
before_the_last_reply : (exchanges : List Exchange) (a : Answer) → May s (done exchanges (sent ++ event.Got opened_frame ∷ [])) (event.Marked (mark.Answer 1 a)) → ⊥
unfolding chars components wire_request reply_in is_aside_reply head_of head_at number_at first_of frames_in rest_in step_of parts_of read_of contexts_of set_of path.components path.after_part name.fault_of name.spelling untold create_request_of close_request_of query_info_request_of part_in create_reply_of close_reply_of buffer_reply_of error_reply_of all_of
before_the_last_reply exchanges a may = false≢true (sym may.idle.0)

-- also where another call's replies came
after_another_reply : (exchanges : List Exchange) (a : Answer) → May s (done exchanges (take 7 crossed)) (event.Marked (mark.Answer 1 a)) → ⊥
unfolding chars components wire_request reply_in is_aside_reply head_of head_at number_at first_of frames_in rest_in step_of parts_of read_of contexts_of set_of path.components path.after_part name.fault_of name.spelling untold create_request_of close_request_of query_info_request_of part_in create_reply_of close_reply_of buffer_reply_of error_reply_of all_of
after_another_reply exchanges a may = false≢true (sym may.idle.0)

-- a frame of two for a mark of three
a_frame_of_two : (exchanges : List Exchange) → May s (done exchanges (begins ∷ announces ∷ [])) (event.Sent both_frame) → ⊥
unfolding chars components wire_request reply_in is_aside_reply head_of head_at number_at first_of frames_in rest_in step_of parts_of read_of contexts_of set_of path.components path.after_part name.fault_of name.spelling untold create_request_of close_request_of query_info_request_of part_in create_reply_of close_reply_of buffer_reply_of error_reply_of all_of
a_frame_of_two exchanges may = three_two may.count

-- a stat's frame of one where three ids are free
one_by_one : (exchanges : List Exchange) → May s (done exchanges (begins ∷ [])) (event.Marked (mark.For 1 (mid 0) 1)) → ⊥
unfolding chars components wire_request reply_in is_aside_reply head_of head_at number_at first_of frames_in rest_in step_of parts_of read_of contexts_of set_of path.components path.after_part name.fault_of name.spelling untold create_request_of close_request_of query_info_request_of part_in create_reply_of close_reply_of buffer_reply_of error_reply_of all_of
one_by_one exchanges may = one_three (may.chained refl refl refl three_free)

-- a second mark before the frame of the first
two_marks : (exchanges : List Exchange) → May s (done exchanges (begins ∷ begins_other ∷ announces ∷ [])) (event.Marked (mark.For 2 (mid 0) 3)) → ⊥
unfolding chars components wire_request reply_in is_aside_reply head_of head_at number_at first_of frames_in rest_in step_of parts_of read_of contexts_of set_of path.components path.after_part name.fault_of name.spelling untold create_request_of close_request_of query_info_request_of part_in create_reply_of close_reply_of buffer_reply_of error_reply_of all_of
two_marks exchanges may = some_none may.alone

-- a frame for a call whose requests are in flight
a_second_frame : (exchanges : List Exchange) (first : Mid) (count : ℕ) → May s (done exchanges sent) (event.Marked (mark.For 1 first count)) → ⊥
unfolding chars components wire_request reply_in is_aside_reply head_of head_at number_at first_of frames_in rest_in step_of parts_of read_of contexts_of set_of path.components path.after_part name.fault_of name.spelling untold create_request_of close_request_of query_info_request_of part_in create_reply_of close_reply_of buffer_reply_of error_reply_of all_of
a_second_frame exchanges first count may = false≢true (sym may.idle.0)

-- a call in a lane in which one runs
a_taken_lane : (exchanges : List Exchange) → May s (done exchanges (begins ∷ [])) (event.Marked (mark.Begin 2 0 (call.Stat (codes "/b")))) → ⊥
unfolding chars components wire_request reply_in is_aside_reply head_of head_at number_at first_of frames_in rest_in step_of parts_of read_of contexts_of set_of path.components path.after_part name.fault_of name.spelling untold create_request_of close_request_of query_info_request_of part_in create_reply_of close_reply_of buffer_reply_of error_reply_of all_of
a_taken_lane exchanges may = false≢true may.lane_free

-- any frame without a mark while a call runs that waits for no id, a CLOSE among them
without_a_mark : (exchanges : List Exchange) (frame : List ℕ) → May s (done exchanges (begins ∷ [])) (event.Sent frame) → ⊥
unfolding chars components wire_request reply_in is_aside_reply head_of head_at number_at first_of frames_in rest_in step_of parts_of read_of contexts_of set_of path.components path.after_part name.fault_of name.spelling untold create_request_of close_request_of query_info_request_of part_in create_reply_of close_reply_of buffer_reply_of error_reply_of all_of
without_a_mark exchanges frame (Mounting m) = some_none m.no_call
without_a_mark exchanges frame (Echo m) = enough (bit_and m.facts.caps.0 4 == 4) m.short
without_a_mark exchanges frame (LeavingTree m) = some_none m.leaving.no_call
without_a_mark exchanges frame (LeavingSession m) = some_none m.leaving.no_call

-- a stat that asks for FileStandardInformation, whose reply leaves out the number and the read-only mark
abbrev pub standard_chain : List ℕ
standard_chain = set chain_frame 199 5

less_is_not_all : NumberAndMark ≡ Untold.Nothing → ⊥
less_is_not_all is = search rules

asks_for_less : (exchanges : List Exchange) → May s (done exchanges (begins ∷ announces ∷ [])) (event.Sent standard_chain) → ⊥
unfolding chars components wire_request reply_in is_aside_reply head_of head_at number_at first_of frames_in rest_in step_of parts_of read_of contexts_of set_of path.components path.after_part name.fault_of name.spelling untold create_request_of close_request_of query_info_request_of part_in create_reply_of close_reply_of buffer_reply_of error_reply_of all_of FliesAs
asks_for_less exchanges may = less_is_not_all ((may.asks.1 an_open refl).0.1)

-- to leave the share before the end was said
an_early_leave : (exchanges : List Exchange) (frame : List ℕ) → IsLeavingTree s (mounted_by exchanges) frame → ⊥
an_early_leave exchanges frame m = false≢true m.leaving.over

-- once its connection was lost a call neither asks nor answers by its program
after_a_loss : (exchanges : List Exchange) (first : Mid) (count : ℕ) → May s (done exchanges (begins ∷ event.Cut ∷ event.Joined ∷ [])) (event.Marked (mark.For 1 first count)) → ⊥
unfolding chars components wire_request reply_in is_aside_reply head_of head_at number_at first_of frames_in rest_in step_of parts_of read_of contexts_of set_of path.components path.after_part name.fault_of name.spelling untold create_request_of close_request_of query_info_request_of part_in create_reply_of close_reply_of buffer_reply_of error_reply_of all_of
after_a_loss exchanges first count may = false≢true (sym may.whole)

-- a frame into another tree, that a call's program asks all the same
tree_sent : (w : Bool × Wish) (ws : List (Bool × Wish)) (files : File → Fid) → slice_index (stream.frame (chain (placed (up_to 0 32) (map (request_for facts files) (w ∷ ws))))) 40 ≡ 1
unfolding header chain bytes_of spelling spelled spelling_of_two unit_bytes numbers usable after_use up_to
tree_sent w [] files = refl
tree_sent w (next ∷ others) files = refl

nothing_sent : slice_index (stream.frame (chain (placed (up_to 0 32) []))) 40 ≡ 0
unfolding chain
nothing_sent = refl

another_tree : (exchanges : List Exchange) → LeadTo (at_first s) exchanges (Mounted facts) → May s (done exchanges (begins ∷ announces ∷ [])) (event.Sent (set chain_frame 40 2)) → ⊥
unfolding chars components wire_request reply_in is_aside_reply head_of head_at number_at first_of frames_in rest_in step_of parts_of read_of contexts_of set_of path.components path.after_part name.fault_of name.spelling untold create_request_of close_request_of query_info_request_of part_in create_reply_of close_reply_of buffer_reply_of error_reply_of all_of
another_tree exchanges mounted may = by may.wishes (subst (λ (f : Facts). set chain_frame 40 2 ≡ stream.frame (chain (placed (up_to 0 32) (map (request_for f (file_id None [])) may.wishes)))) (one_share s (mounted_by exchanges) may.facts facts may.mounted mounted) may.frame_is.spelled)
  where
    by : (wishes : List (Bool × Wish)) → set chain_frame 40 2 ≡ stream.frame (chain (placed (up_to 0 32) (map (request_for facts (file_id None [])) wishes))) → ⊥
    by [] is = two_zero (ap (λ (bytes : List ℕ). slice_index bytes 40) is ∙ nothing_sent)
    by (w ∷ ws) is = two_one (ap (λ (bytes : List ℕ). slice_index bytes 40) is ∙ tree_sent w ws (file_id None []))
