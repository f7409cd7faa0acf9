-- Clients that do what they may, from a mounted share on: a chain of three; two lanes whose replies cross; a CREATE that is refused with
-- its two related requests; an interim reply; a reply that is got in pieces.
use Rattle.std.proofs.Common.{arith, ◌≡◌, ◌≤◌, ◌<◌, ◌+◌, ℕ, true, false, [], ◌∷◌, ◌++◌, refl, inl, None, List, replicate}
use Rattle.std.specs.Prelude.{codes, take, drop, set, nat_le}
use Rattle.std.proofs.lemmas.Bool.Decides.{nat_tests}
use Rattle.std.specs.Str.{chars}
use Rattle.smb_base.specs.declared.names.Mid.{Mid}
use Rattle.fs_types.specs.declared.names.Kind.TheVariants as kind
use Rattle.fs_types.specs.declared.answer.Answer.{Answer}
use Rattle.fs_types.specs.declared.answer.Answer.TheVariants as answer
use Rattle.fs_types.specs.declared.call.Call.TheVariants as call
use Rattle.fs_types.specs.declared.options.Options.{Options}
use Rattle.share_state.specs.declared.connection.Sent.{Sent}
use Rattle.share_state.specs.declared.request.Req.TheVariants as req
use Rattle.smb_link.specs.Calls.{program_of}
use Rattle.smb_link.specs.Program.{Known}
use Rattle.smb_link.specs.declared.event.Event.{Event}
use Rattle.smb_link.specs.declared.event.Event.TheVariants as event
use Rattle.smb_link.specs.declared.mark.Mark.TheVariants as mark
use Rattle.smb_le.specs.Numbers.{number_at, bytes_of}
use Rattle.smb_head.specs.declared.first.TheConstants.{MAX_FRAME}
use Rattle.smb_head.specs.Header.{head_of, head_at, header}
use Rattle.smb_head.specs.Stream.{first_of, frames_in, rest_in}
use Rattle.smb_chain.specs.Chain.{chain}
use Rattle.smb_chain.specs.Parts.{step_of, parts_of}
use Rattle.smb_credit.specs.Window.{numbers, usable, after_use, up_to}
use Rattle.smb_field.specs.Body.{spelling}
use Rattle.smb_field.specs.Fields.{spelled}
use Rattle.smb_field.specs.TwoParts.{spelling_of_two}
use Rattle.smb_mount.specs.Requests.{unit_bytes}
use Rattle.smb_body_b.specs.Contexts.{read_of, contexts_of, set_of}
use Rattle.smb_names.specs.Path as path
use Rattle.smb_names.specs.WireName as name
use Rattle.smb_field.specs.Rows.{part_in}
use Rattle.smb_body_b.specs.Close.{close_request_of, close_reply_of}
use Rattle.smb_body_b.specs.Create.{create_request_of, create_reply_of}
use Rattle.smb_body_c.specs.Directory.{buffer_reply_of}
use Rattle.smb_body_c.specs.Error.{error_reply_of}
use Rattle.smb_body_c.specs.Info.{query_info_request_of}
use Rattle.smb_info.specs.Attributes.{all_of}
use Rattle.fs_plain.specs.Masked.{untold}
use Rattle.fs_plain.specs.Requests.{wire_request}
use Rattle.fs_plain.specs.Replies.{reply_in, is_aside_reply}
use Rattle.fs_plain.specs.World.{waiting, requests_in}
use Rattle.fs_plain.proofs.Frames.{opened_frame, told_frame, refused_frame, chain_frame, missing_chain_frame}
use Rattle.fs_plain.specs.Facts.{nothing_known}
use Rattle.fs_client.specs.Item.{Item}
use Rattle.fs_client.specs.Flies.{FliesAs, files_of}
use Rattle.fs_client.specs.Spelled.{every_bit}
use Rattle.fs_client.specs.View.{Setting, Exchange, Client, no_view}
use Rattle.fs_client.specs.Mount.{Mounted, at_first, LeadTo}
use Rattle.fs_client.specs.May.{Allowed}
use Rattle.fs_client.proofs.Chains.{flies_three}
use Rattle.fs_client.proofs.StatChain.{stat_wants_three}
use Rattle.fs_client.proofs.Spellings.{facts, stat_wishes}

-- frames are short
pub short : (n : ℕ) → nat_le n MAX_FRAME ≡ true → n ≤ MAX_FRAME
short n is = grind (arith, nat_tests)

abbrev pub mid : ℕ → Mid
mid n = record { 0 = n }

abbrev pub options : Options
options = record {
  strict = true;
  mapposix = true;
  mfsymlinks = false;
  nobrl = false;
  ro = false;
  file_mode = 493;
  dir_mode = 493;
  rsize = 65536;
  wsize = 65536;
  closetimeo = 1;
  retries = 3;
  patience = 300;
}

abbrev pub s : Setting
s = record { options = options; seed = []; guid = replicate 16 0; path = [] }

-- a share that is mounted by these exchanges, with 32 ids from 0 on
abbrev pub mounted_by : List Exchange → Client
mounted_by exchanges = record {
  view = record no_view { connected = true };
  tally = record { frames = 4; granted = 32; silences = 0; exchanges = exchanges };
}

-- the requests of a chain in flight: its three parts, of 128 bytes, of 112, and the rest
abbrev pub waits : ℕ → List ℕ → Sent
waits first part = waiting (mid first) part

-- a stat's chain is what its program asks
of_stat : (i : Item) (known : Known) → FliesAs (files_of i []) known (mid 0) (λ x. x) (program_of options [] (call.Stat (codes "/"))) [] (requests_in chain_frame)
unfolding wire_request reply_in is_aside_reply head_of head_at number_at first_of frames_in rest_in step_of parts_of read_of contexts_of set_of path.components path.after_part name.fault_of name.spelling untold create_request_of close_request_of query_info_request_of part_in create_reply_of close_reply_of buffer_reply_of error_reply_of all_of
of_stat i known = flies_three (files_of i []) known (mid 0) (program_of options [] (call.Stat (codes "/"))) []
    (waits 0 (take 128 (drop 4 chain_frame))) (waits 0 (take 112 (drop 132 chain_frame))) (waits 0 (drop 244 chain_frame))
    (req.Create [] 0x100080 7 1 0 0x80 None false) (req.Query every_bit) (req.Close every_bit) refl refl refl (refl, refl)
    (record { at = refl; asks = refl; plain = refl; whole = refl }) (record { at = refl; asks = refl; plain = refl; whole = refl })
    (stat_wants_three i [] options known (program_of options [] (call.Stat (codes "/"))) [] every_bit every_bit refl)

-- a chain of three: a stat of the root in one frame, whose replies come in two
abbrev pub begins : Event
begins = event.Marked (mark.Begin 1 0 (call.Stat (codes "/")))

abbrev pub announces : Event
announces = event.Marked (mark.For 1 (mid 0) 3)

abbrev pub a_directory : Answer
a_directory = answer.Stat (record { kind = kind.Dir; size = 0; mode = 493; links = 1; number = 1 })

abbrev pub of_a_chain : List Event
of_a_chain = begins ∷ announces ∷ event.Sent chain_frame ∷ event.Got opened_frame ∷ event.Got told_frame ∷ event.Marked (mark.Answer 1 a_directory) ∷ []

some_less : 0 < 3
some_less = omega arith

three_granted : 3 ≤ 32
three_granted = omega arith

-- the call that runs, once its frame was announced
abbrev pub a_stat : Item
a_stat = record {
  number = 1;
  lane = 0;
  call = call.Stat (codes "/");
  announced = true;
  broken = false;
  rest = program_of options [] (call.Stat (codes "/"));
  fids = [];
  file = None;
  frame = None;
  known = nothing_known;
}

a_chain_of_three : (exchanges : List Exchange) → LeadTo (at_first s) exchanges (Mounted facts) → Allowed s (mounted_by exchanges) of_a_chain
unfolding wire_request reply_in is_aside_reply head_of head_at number_at first_of frames_in rest_in step_of parts_of read_of contexts_of set_of path.components path.after_part name.fault_of name.spelling untold create_request_of close_request_of query_info_request_of part_in create_reply_of close_reply_of buffer_reply_of error_reply_of all_of
    header chain bytes_of spelling spelled spelling_of_two unit_bytes numbers usable after_use up_to
a_chain_of_three exchanges mounted = (
  record { facts = facts; mounted = mounted; connected = refl; there = refl; above = refl; lane_free = refl; going = refl; prompt = tt },
  (
    record { whole = refl; idle = record {}; asking = record {}; alone = refl; next = refl; some = some_less; chained = λ stat first plain free. refl },
    (
      record {
        facts = facts;
        mounted = mounted;
        whole = refl;
        announced = refl;
        idle = record {};
        wishes = stat_wishes [];
        frame_is = record { connected = refl; spelled = refl; granted = three_granted; room = short _ refl; some = some_less; next = (refl, refl, (refl, refl, (refl, refl, record {}))) };
        count = refl;
        first = refl;
        asks = of_stat a_stat nothing_known;
      },
      (
        refl,
        (
          refl,
          (
            record { idle = record {}; says = inl (refl, refl) },
            record {},
          ),
        ),
      ),
    ),
  ),
)

-- two lanes: a stat of the file `b`, which is not there, in a chain of its own behind that; its replies come first
abbrev pub numbered : ℕ → List ℕ → List ℕ
numbered first frame = set (set (set frame 28 first) 156 (first + 1)) 268 (first + 2)

abbrev pub refusal : ℕ → ℕ → List ℕ
refusal command id = set (set refused_frame 28 id) 16 command

abbrev pub refusals : ℕ → List ℕ
refusals first = refusal 5 first ++ refusal 16 (first + 1) ++ refusal 6 (first + 2)

abbrev pub begins_other : Event
begins_other = event.Marked (mark.Begin 2 1 (call.Stat (codes "/b")))

abbrev pub not_there : Answer
not_there = answer.Err (record { 0 = 2 }) None

abbrev pub crossed : List Event
crossed =
    begins ∷ begins_other ∷ announces ∷ event.Sent chain_frame ∷ event.Marked (mark.For 2 (mid 3) 3) ∷ event.Sent (numbered 3 missing_chain_frame)
    ∷ event.Got (refusals 3) ∷ event.Marked (mark.Answer 2 not_there) ∷ event.Got opened_frame ∷ event.Got told_frame
    ∷ event.Marked (mark.Answer 1 a_directory) ∷ []

of_other : (i : Item) (known : Known) → FliesAs (files_of i []) known (mid 3) (λ x. x) (program_of options [] (call.Stat (codes "/b"))) [] (requests_in (numbered 3 missing_chain_frame))
unfolding chars wire_request reply_in is_aside_reply head_of head_at number_at first_of frames_in rest_in step_of parts_of read_of contexts_of set_of path.components path.after_part name.fault_of name.spelling untold create_request_of close_request_of query_info_request_of part_in create_reply_of close_reply_of buffer_reply_of error_reply_of all_of
of_other i known = flies_three (files_of i []) known (mid 3) (program_of options [] (call.Stat (codes "/b"))) []
    (waits 3 (take 128 (drop 4 (numbered 3 missing_chain_frame)))) (waits 3 (take 112 (drop 132 (numbered 3 missing_chain_frame)))) (waits 3 (drop 244 (numbered 3 missing_chain_frame)))
    (req.Create (codes "b") 0x100080 7 1 0 0x80 None false) (req.Query every_bit) (req.Close every_bit) refl refl refl (refl, refl)
    (record { at = refl; asks = refl; plain = refl; whole = refl }) (record { at = refl; asks = refl; plain = refl; whole = refl })
    (stat_wants_three i [] options known (program_of options [] (call.Stat (codes "/b"))) (codes "b") every_bit every_bit refl)

abbrev pub other_stat : Item
other_stat = record a_stat { number = 2; lane = 1; call = call.Stat (codes "/b"); rest = program_of options [] (call.Stat (codes "/b")) }

six_granted : 6 ≤ 32
six_granted = omega arith

two_lanes : (exchanges : List Exchange) → LeadTo (at_first s) exchanges (Mounted facts) → Allowed s (mounted_by exchanges) crossed
unfolding chars wire_request reply_in is_aside_reply head_of head_at number_at first_of frames_in rest_in step_of parts_of read_of contexts_of set_of path.components path.after_part name.fault_of name.spelling untold create_request_of close_request_of query_info_request_of part_in create_reply_of close_reply_of buffer_reply_of error_reply_of all_of
    header chain bytes_of spelling spelled spelling_of_two unit_bytes numbers usable after_use up_to
two_lanes exchanges mounted = (
  record { facts = facts; mounted = mounted; connected = refl; there = refl; above = refl; lane_free = refl; going = refl; prompt = tt },
  (
    record { facts = facts; mounted = mounted; connected = refl; there = refl; above = refl; lane_free = refl; going = refl; prompt = tt },
    (
      record { whole = refl; idle = record {}; asking = record {}; alone = refl; next = refl; some = some_less; chained = λ stat first plain free. refl },
      (
        record {
          facts = facts;
          mounted = mounted;
          whole = refl;
          announced = refl;
          idle = record {};
          wishes = stat_wishes [];
          frame_is = record { connected = refl; spelled = refl; granted = three_granted; room = short _ refl; some = some_less; next = (refl, refl, (refl, refl, (refl, refl, record {}))) };
          count = refl;
          first = refl;
          asks = of_stat a_stat nothing_known;
        },
        (
          record { whole = refl; idle = record {}; asking = record {}; alone = refl; next = refl; some = some_less; chained = λ stat first plain free. refl },
          (
            record {
              facts = facts;
              mounted = mounted;
              whole = refl;
              announced = refl;
              idle = record {};
              wishes = stat_wishes (codes "b");
              frame_is = record { connected = refl; spelled = refl; granted = six_granted; room = short _ refl; some = some_less; next = (refl, refl, (refl, refl, (refl, refl, record {}))) };
              count = refl;
              first = refl;
              asks = of_other other_stat nothing_known;
            },
            (
              refl,
              (
                record { idle = (refl, (refl, (refl, tt))); says = inl (refl, refl) },
                (
                  refl,
                  (
                    refl,
                    (
                      record { idle = record {}; says = inl (refl, refl) },
                      record {},
                    ),
                  ),
                ),
              ),
            ),
          ),
        ),
      ),
    ),
  ),
)
