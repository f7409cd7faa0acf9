-- The calls that tell what is known of a file.
use Rattle.std.specs.Prelude.{ℕ, ◌==◌, Bool, if◌then◌else◌, List, bit_and}
use Rattle.share_state.specs.declared.request.Rep.{Rep}
use Rattle.share_state.specs.declared.request.RepBody.{RepBody}
use Rattle.share_state.specs.declared.request.RepBody.TheVariants as body
use Rattle.fs_types.specs.declared.options.Options.{Options}
use Rattle.fs_types.specs.declared.names.Kind.{Kind}
use Rattle.fs_types.specs.declared.names.Kind.TheVariants as kind
use Rattle.fs_types.specs.declared.answer.Answer.{Answer}
use Rattle.fs_types.specs.declared.answer.Answer.TheVariants as answer
use Rattle.smb_link.specs.Program.{Own, Program, Open, Query, Close, Ask, Say, of_refusal, of_errno, at_path}

-- the mode that is shown: that of the options for files or for directories, without the three bits for writing (0222) where it is
-- read-only; those for set-user-id, set-group-id and sticky stay
abbrev pub shown_mode : Options → Bool → Bool → ℕ
shown_mode options dir read_only =
    let mode : ℕ = if dir then options.dir_mode else options.file_mode in
    if read_only then bit_and mode 0xF6D else mode

abbrev pub kind_of : Bool → Kind
kind_of dir = if dir then kind.Dir else kind.File

-- what a QUERY_INFO reply says of a file; EIO where it says nothing of one
abbrev pub stat_of : Options → RepBody → Answer
stat_of options (body.Info dir size read_only links pending number) = answer.Stat (record {
  kind = kind_of dir;
  size = size;
  mode = shown_mode options dir read_only;
  links = links;
  number = number;
})
stat_of options other = of_errno 5

abbrev pub stat_answer : Options → Rep → Answer
stat_answer options reply = if reply.status.0 == 0 then stat_of options reply.body else of_refusal reply.status

-- stat: a CREATE for reading attributes that opens what is there, whatever it is; a QUERY_INFO of it; and a CLOSE, whatever the two
-- later ones came to
abbrev pub stat_once_open : Options → Rep → Program
stat_once_open options opened =
    if opened.status.0 == 0
    then Ask (Query (Own 0)) (λ info. Ask (Close (Own 0)) (λ closed. Say (stat_answer options info)))
    else Say (of_refusal opened.status)

abbrev pub stat_program : Options → List ℕ → Program
stat_program options path = at_path options path (λ wire. Ask (Open wire 0x100080 1 0) (stat_once_open options))
