-- What a body that stands in a message is read as.
use Rattle.std.proofs.Common.{◌≡◌, ◌∙◌, ◌≤◌, ℕ, Bool, true, false, List, [], ◌∷◌, ◌++◌, length, Some, None, Result, Ok, refl, sym, ap, subst, arith}
use Rattle.std.specs.Prelude.{◌==◌, not, nat_lt, is_ok}
use Rattle.std.proofs.lemmas.Bool.Decides.{nat_tests}
use Rattle.std.proofs.lemmas.List.{append-nil}
use Rattle.smb_base.specs.declared.names.Fid.{Fid}
use Rattle.smb_le.specs.Numbers.{number_at}
use Rattle.smb_field.specs.declared.field.Field.{Field}
use Rattle.smb_field.specs.declared.field.BodyFault.{BodyFault}
use Rattle.smb_field.specs.Body.{IsBody, IsReadAgain, spelling}
use Rattle.smb_field.specs.Structure.{IsStructure, IsReadAgainIn, spelling_in}
use Rattle.smb_field.specs.Rows.{part_in, if_read}
use Rattle.smb_field.proofs.Parts.{part_read}
use Rattle.smb_body_a.specs.Empty.{empty_of}
use Rattle.smb_body_a.specs.Negotiate.{negotiate_reply_of}
use Rattle.smb_body_a.specs.Session.{session_setup_reply_of}
use Rattle.smb_body_a.specs.Tree.{tree_connect_reply_of}
use Rattle.smb_body_b.specs.declared.contexts.ContextSet.{ContextSet}
use Rattle.smb_body_b.specs.Close.{close_reply_of}
use Rattle.smb_body_b.specs.Create.{CreateReplyValue, create_reply_of}
use Rattle.smb_body_b.specs.Contexts.{contexts_of, set_of, read_of}
use Rattle.smb_body_c.specs.Directory.{buffer_reply_of}
use Rattle.smb_body_c.specs.Error.{error_reply_of}
use Rattle.smb_info.specs.declared.attributes.All.{All}
use Rattle.smb_info.specs.declared.attributes.Standard.{Standard}
use Rattle.smb_info.specs.Attributes.{all_of, standard_of}
use Rattle.share_state.specs.declared.request.RepBody.TheVariants as body
use Rattle.share_state.specs.State.{has}
use Rattle.share_state.specs.Reply.{attributes_of}
use Rattle.fs_plain.specs.Masked.{Untold, Nothing, NumberAndMark, Durability, without}
use Rattle.fs_plain.specs.Replies.{is_error, opened_with, opened_in, closed_in, known_whole, known_in_part, info_of, info_in, has_aside_body}
use Rattle.share_box.specs.Bodies.{negotiated, session, tree, empty, error, opened, closed, number_of, standard, all, in_part, information, information_size, buffer}
use Rattle.share_box.specs.Again.{IsInfoAgain}

-- a body that is read again stands behind a header
pub stands : (size : ℕ) (fields : List Field) (part header : List ℕ) → IsReadAgain size fields part → length header ≡ 64
    → IsBody size fields part (header ++ spelling size fields part)
unfolding IsReadAgain
stands size fields part header again long =
    subst (λ (b : List ℕ). IsBody size fields part (header ++ b)) (append-nil (spelling size fields part)) (again header [] long)

-- its fixed part is there, with its structure size
there : (n : ℕ) (m : List ℕ) → n ≤ length m → nat_lt (length m) n ≡ false
there n m long = grind (arith, nat_tests)

right : (n size : ℕ) → n ≡ size → (n == size) ≡ true
right n size is = grind (arith, nat_tests)

pub error_is : (m : List ℕ) → IsBody 9 error [] m → is_error m ≡ true
unfolding error_reply_of
error_is m is =
    let part : part_in 72 72 (number_at 4 68 m) m ≡ Some [] = part_read 72 [] m 72 (number_at 4 68 m) is.2.1.1.1.0 is.2.1.1.0 in
    rw (there 72 m is.0, right (number_at 2 64 m) 9 is.1, part) refl

pub closed_is : (m : List ℕ) → IsBody 60 closed [] m → closed_in m ≡ Some body.None
unfolding close_reply_of
closed_is m is = rw (there 124 m is.0, right (number_at 2 64 m) 60 is.1) refl

-- no contexts
abbrev plain : ContextSet
plain = record { lease = None; durable = false; reclaim = None }

no_contexts : read_of true [] ≡ Ok plain
unfolding read_of contexts_of set_of
no_contexts = refl

-- the CREATE reply that stands in a message
abbrev written : Fid → ℕ → ℕ → ℕ → CreateReplyValue
written fid action size attributes = record {
  oplock_level = 0;
  flags = 0;
  action = action;
  times = 0 ∷ 0 ∷ 0 ∷ 0 ∷ [];
  allocation_size = size;
  end_of_file = size;
  attributes = attributes;
  file_id = fid;
  contexts = [];
}

opened_read : (fid : Fid) (action size attributes : ℕ) (m : List ℕ) → IsBody 89 (opened fid action size attributes) [] m
    → create_reply_of m ≡ Ok (written fid action size attributes)
unfolding create_reply_of
opened_read fid action size attributes m is =
    let times = is.2.1.1.1 in
    let sizes = times.1.1.1.1 in
    let ids = sizes.1.1.1.1 in
    let part : part_in 152 (number_at 4 144 m) (number_at 4 148 m) m ≡ Some [] =
    part_read 152 [] m (number_at 4 144 m) (number_at 4 148 m) ids.1.1.0 ids.1.1.1.0 in
    rw (
      there 152 m is.0,
      right (number_at 2 64 m) 89 is.1,
      part,
      is.2.0,
      is.2.1.0,
      is.2.1.1.0,
      times.0,
      times.1.0,
      times.1.1.0,
      times.1.1.1.0,
      sizes.0,
      sizes.1.0,
      sizes.1.1.0,
      ids.0,
      ids.1.0,
    ) refl

pub opened_is : (u : Untold) (fid : Fid) (action size attributes : ℕ) (m : List ℕ) → IsBody 89 (opened fid action size attributes) [] m
    → opened_in u m ≡ Some (without u (body.Opened fid action size attributes 0 false))
opened_is u fid action size attributes m is =
    ap (λ (r : Result CreateReplyValue BodyFault). if_read r (λ (x : CreateReplyValue). opened_with u x (read_of true x.contexts)) None)
    (opened_read fid action size attributes m is)
    ∙ ap (λ (r : Result ContextSet BodyFault). opened_with u (written fid action size attributes) r) no_contexts

mark_read : (b : Bool) → not (number_of b == 0) ≡ b
mark_read true = refl
mark_read false = refl

attributes_read : (dir read_only : Bool) → has (attributes_of dir read_only) 1 ≡ read_only
attributes_read true true = refl
attributes_read true false = refl
attributes_read false true = refl
attributes_read false false = refl

known_is : (dir : Bool) (size : ℕ) (read_only : Bool) (links : ℕ) (pending : Bool) (number : ℕ) (info : List ℕ)
    → IsStructure (all dir size read_only links pending number) [] info
    → if_read (all_of info) (λ (x : All). Some (known_whole x)) None ≡ Some (body.Info dir size read_only links pending number)
unfolding all_of
known_is dir size read_only links pending number info is =
    let fields = is.1.1.1.1.1 in
    let sizes = fields.1.1.1 in
    let marks = sizes.1.1 in
    rw (there 100 info is.0, marks.1.0, marks.0, sizes.0, fields.0, sizes.1.0, marks.1.1.1.0, mark_read dir, mark_read pending, attributes_read dir read_only) refl

part_is : (dir : Bool) (size links : ℕ) (pending : Bool) (info : List ℕ) → IsStructure (standard dir size links pending) [] info
    → if_read (standard_of info) (λ (x : Standard). Some (known_in_part x)) None ≡ Some (body.Info dir size false links pending 0)
unfolding standard_of
part_is dir size links pending info is =
    let marks = is.1.1.1 in
    rw (there 24 info is.0, is.1.1.0, marks.0, marks.1.0, marks.1.1.0, mark_read dir, mark_read pending) refl

-- what the information says
information_is : (u : Untold) (dir : Bool) (size : ℕ) (read_only : Bool) (links : ℕ) (pending : Bool) (number : ℕ) (info : List ℕ)
    → IsStructure (information (in_part u) (body.Info dir size read_only links pending number)) [] info
    → info_of u info ≡ Some (without u (body.Info dir size read_only links pending number))
information_is Nothing dir size read_only links pending number info is = known_is dir size read_only links pending number info is
information_is NumberAndMark dir size read_only links pending number info is = part_is dir size links pending info is
information_is Durability dir size read_only links pending number info is = known_is dir size read_only links pending number info is

buffer_read : (size : ℕ) (info m : List ℕ) → length info ≡ size → IsBody 9 (buffer size) info m → buffer_reply_of m ≡ Ok info
unfolding buffer_reply_of
buffer_read size info m whole is =
    let part : part_in 72 (number_at 2 66 m) (number_at 4 68 m) m ≡ Some info =
    part_read 72 info m (number_at 2 66 m) (number_at 4 68 m) is.2.0 (is.2.1.0 ∙ sym whole) in
    rw (there 72 m is.0, right (number_at 2 64 m) 9 is.1, part) refl

-- what is known of a file stands in a message, and what its request is told of it is read from it
pub info_is : (u : Untold) (dir : Bool) (size : ℕ) (read_only : Bool) (links : ℕ) (pending : Bool) (number : ℕ) (m : List ℕ)
    → IsInfoAgain (information_size (in_part u)) (information (in_part u) (body.Info dir size read_only links pending number))
    → IsBody 9 (buffer (information_size (in_part u))) (spelling_in (information (in_part u) (body.Info dir size read_only links pending number)) []) m
    → info_in u m ≡ Some (without u (body.Info dir size read_only links pending number))
unfolding IsReadAgainIn
info_is u dir size read_only links pending number m again is =
    let fields : List Field = information (in_part u) (body.Info dir size read_only links pending number) in
    let info : List ℕ = spelling_in fields [] in
    let known : IsStructure fields [] info =
    subst (λ (b : List ℕ). IsStructure fields [] b) (append-nil info) (again.info []) in
    ap (λ (r : Result (List ℕ) BodyFault). if_read r (info_of u) None) (buffer_read (information_size (in_part u)) info m again.whole is)
    ∙ information_is u dir size read_only links pending number info known

pub negotiated_is : (m : List ℕ) → IsBody 65 negotiated [] m → has_aside_body 0 m ≡ true
unfolding negotiate_reply_of
negotiated_is m is =
    let fields = is.2.1.1.1.1.1.1.1.1.1 in
    let part : part_in 128 (number_at 2 120 m) (number_at 2 122 m) m ≡ Some [] =
    part_read 128 [] m (number_at 2 120 m) (number_at 2 122 m) fields.1.0 fields.1.1.0 in
    rw (there 128 m is.0, right (number_at 2 64 m) 65 is.1, part) refl

pub session_is : (flags : ℕ) (token m : List ℕ) → IsBody 9 (session flags (length token)) token m → has_aside_body 1 m ≡ true
unfolding session_setup_reply_of
session_is flags token m is =
    let part : part_in 72 (number_at 2 68 m) (number_at 2 70 m) m ≡ Some token =
    part_read 72 token m (number_at 2 68 m) (number_at 2 70 m) is.2.1.0 is.2.1.1.0 in
    rw (there 72 m is.0, right (number_at 2 64 m) 9 is.1, part) refl

pub tree_is : (m : List ℕ) → IsBody 16 tree [] m → is_ok (tree_connect_reply_of m) ≡ true
unfolding tree_connect_reply_of
tree_is m is = rw (there 80 m is.0, right (number_at 2 64 m) 16 is.1) refl

pub empty_is : (m : List ℕ) → IsBody 4 empty [] m → is_ok (empty_of m) ≡ true
unfolding empty_of
empty_is m is = rw (there 68 m is.0, right (number_at 2 64 m) 4 is.1) refl
