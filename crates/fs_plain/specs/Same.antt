-- When two answers are the same, and two replies; and a reply as an answer.
use Rattle.std.specs.Prelude.{ℕ, ◌==◌, Bool, true, false, not, ◌&&◌, if◌then◌else◌, List, [], ◌∷◌, Option, Some, None}
use Rattle.std.specs.Str.{bytes_eq}
use Rattle.smb_base.specs.declared.names.Status.{Status}
use Rattle.smb_base.specs.ErrorTable.{error_number}
use Rattle.fs_types.specs.declared.names.Kind.{Kind}
use Rattle.fs_types.specs.declared.names.Kind.TheVariants as kind
use Rattle.fs_types.specs.declared.answer.StatOf.{StatOf}
use Rattle.fs_types.specs.declared.answer.Answer.{Answer}
use Rattle.fs_types.specs.declared.answer.Answer.TheVariants as answer
use Rattle.fs_types.specs.declared.options.Options.{Options}
use Rattle.share_state.specs.declared.listing.ShareName.{ShareName}
use Rattle.share_state.specs.declared.request.Rep.{Rep}
use Rattle.share_state.specs.declared.request.RepBody.{RepBody}
use Rattle.share_state.specs.declared.request.RepBody.TheVariants as body
use Rattle.smb_link.specs.Stat.{stat_of}

abbrev pub same_bool : Bool → Bool → Bool
same_bool true b = b
same_bool false b = not b

abbrev pub is_file : Kind → Bool
is_file kind.File = true
is_file k = false

abbrev pub is_dir : Kind → Bool
is_dir kind.Dir = true
is_dir k = false

abbrev pub same_kind : Kind → Kind → Bool
same_kind a b = same_bool (is_file a) (is_file b) && same_bool (is_dir a) (is_dir b)

abbrev pub same_names : List (List ℕ × Kind) → List (List ℕ × Kind) → Bool
same_names [] [] = true
same_names [] (y ∷ ys) = false
same_names (x ∷ xs) [] = false
same_names (x ∷ xs) (y ∷ ys) = bytes_eq x.0 y.0 && same_kind x.1 y.1 && same_names xs ys

abbrev pub same_stat : StatOf → StatOf → Bool
same_stat a b = same_kind a.kind b.kind && a.size == b.size && a.mode == b.mode && a.links == b.links && a.number == b.number

abbrev pub same_status : Option Status → Option Status → Bool
same_status None None = true
same_status None (Some b) = false
same_status (Some a) None = false
same_status (Some a) (Some b) = a.0 == b.0

-- two answers are the same
abbrev pub same_answer : Answer → Answer → Bool
same_answer answer.Done answer.Done = true
same_answer (answer.Descriptor a) (answer.Descriptor b) = a.0 == b.0
same_answer (answer.Count a) (answer.Count b) = a == b
same_answer (answer.Bytes a) (answer.Bytes b) = bytes_eq a b
same_answer (answer.At a) (answer.At b) = a == b
same_answer (answer.Stat a) (answer.Stat b) = same_stat a b
same_answer (answer.Target a) (answer.Target b) = bytes_eq a b
same_answer (answer.Names a) (answer.Names b) = same_names a.names b.names && a.bad == b.bad
same_answer (answer.Room total free) (answer.Room total' free') = total == total' && free == free'
same_answer (answer.Err a s) (answer.Err b t) = a.0 == b.0 && same_status s t
same_answer a b = false

abbrev pub same_share_name : ShareName → ShareName → Bool
same_share_name a b =
    bytes_eq a.name b.name && same_bool a.dir b.dir && a.size == b.size && same_bool a.read_only b.read_only && a.number == b.number

abbrev pub same_share_names : List ShareName → List ShareName → Bool
same_share_names [] [] = true
same_share_names [] (y ∷ ys) = false
same_share_names (x ∷ xs) [] = false
same_share_names (x ∷ xs) (y ∷ ys) = same_share_name x y && same_share_names xs ys

-- two replies' bodies agree, apart from file ids, leases and durable grants
abbrev pub same_body : RepBody → RepBody → Bool
same_body body.None body.None = true
same_body (body.Opened fid action size attributes lease durable) (body.Opened fid' action' size' attributes' lease' durable') =
    action == action' && size == size' && attributes == attributes'
same_body (body.Bytes a) (body.Bytes b) = bytes_eq a b
same_body (body.Count a) (body.Count b) = a == b
same_body (body.Info dir size read_only links pending number) (body.Info dir' size' read_only' links' pending' number') =
    same_bool dir dir' && size == size' && same_bool read_only read_only' && links == links' && same_bool pending pending'
    && number == number'
same_body (body.Names a) (body.Names b) = same_share_names a b
same_body (body.Room total free) (body.Room total' free') = total == total' && free == free'
same_body a b = false

abbrev pub same_reply : Rep → Rep → Bool
same_reply a b = a.status.0 == b.status.0 && same_body a.body b.body

-- a reply's body as an answer: what was read or written, what is known of a file, the size of what was opened, or that it was done
abbrev pub answer_of_body : Options → RepBody → Answer
answer_of_body options body.None = answer.Done
answer_of_body options (body.Opened fid action size attributes lease durable) = answer.At size
answer_of_body options (body.Bytes bytes) = answer.Bytes bytes
answer_of_body options (body.Count count) = answer.Count count
answer_of_body options (body.Info dir size read_only links pending number) =
    stat_of options (body.Info dir size read_only links pending number)
answer_of_body options (body.Names names) = answer.Done
answer_of_body options (body.Room total free) = answer.Done

-- a reply as an answer: a refusal as its error number, with its status
abbrev pub answer_of_reply : Options → Rep → Answer
answer_of_reply options reply =
    if reply.status.0 == 0 then answer_of_body options reply.body
    else answer.Err (record { 0 = error_number reply.status.0 }) (Some reply.status)
