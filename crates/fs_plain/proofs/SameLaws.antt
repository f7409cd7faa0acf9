-- What is the same as itself.
use Rattle.std.proofs.Common.{rules, ◌≡◌, ℕ, true, false, [], ◌∷◌, refl, ap, ◌∙◌, None, Some, List, Option, Bool, ◌==◌, ◌&&◌}
use Rattle.std.specs.Str.{bytes_eq}
use Rattle.smb_base.specs.declared.names.Status.{Status}
use Rattle.fs_types.specs.declared.names.Kind.{Kind}
use Rattle.fs_types.specs.declared.names.Kind.TheVariants as kind
use Rattle.fs_types.specs.declared.answer.StatOf.{StatOf}
use Rattle.fs_types.specs.declared.answer.Answer.{Answer}
use Rattle.fs_types.specs.declared.answer.Answer.TheVariants as answer
use Rattle.share_state.specs.declared.listing.ShareName.{ShareName}
use Rattle.share_state.specs.declared.request.Rep.{Rep}
use Rattle.share_state.specs.declared.request.RepBody.{RepBody}
use Rattle.share_state.specs.declared.request.RepBody.TheVariants as body
use Rattle.fs_plain.specs.Same.{same_bool, same_kind, same_names, same_stat, same_status, same_answer, same_share_name, same_share_names, same_body, same_reply}

number_itself : (n : ℕ) → (n == n) ≡ true
number_itself n = search rules

bytes_itself : (xs : List ℕ) → bytes_eq xs xs ≡ true
bytes_itself xs = search rules

bool_itself : (b : Bool) → same_bool b b ≡ true
bool_itself true = refl
bool_itself false = refl

kind_itself : (k : Kind) → same_kind k k ≡ true
kind_itself kind.File = refl
kind_itself kind.Dir = refl
kind_itself kind.Link = refl

and_too : (a b : Bool) → a ≡ true → b ≡ true → (a && b) ≡ true
and_too a b x y = ap (λ (t : Bool). t && b) x ∙ y

names_itself : (xs : List (List ℕ × Kind)) → same_names xs xs ≡ true
names_itself [] = refl
names_itself (x ∷ xs) = and_too (bytes_eq x.0 x.0 && same_kind x.1 x.1) (same_names xs xs)
    (and_too (bytes_eq x.0 x.0) (same_kind x.1 x.1) (bytes_itself x.0) (kind_itself x.1)) (names_itself xs)

stat_itself : (s : StatOf) → same_stat s s ≡ true
stat_itself s = and_too _ _ (and_too _ _ (and_too _ _ (and_too _ _ (kind_itself s.kind) (number_itself s.size)) (number_itself s.mode)) (number_itself s.links)) (number_itself s.number)

status_itself : (s : Option Status) → same_status s s ≡ true
status_itself None = refl
status_itself (Some s) = number_itself s.0

pub answer_itself : (a : Answer) → same_answer a a ≡ true
answer_itself answer.Done = refl
answer_itself (answer.Descriptor fd) = number_itself fd.0
answer_itself (answer.Count n) = number_itself n
answer_itself (answer.Bytes bytes) = bytes_itself bytes
answer_itself (answer.At n) = number_itself n
answer_itself (answer.Stat s) = stat_itself s
answer_itself (answer.Target t) = bytes_itself t
answer_itself (answer.Names l) = and_too _ _ (names_itself l.names) (number_itself l.bad)
answer_itself (answer.Room total free) = and_too _ _ (number_itself total) (number_itself free)
answer_itself (answer.Err number status) = and_too _ _ (number_itself number.0) (status_itself status)

share_name_itself : (x : ShareName) → same_share_name x x ≡ true
share_name_itself x = and_too _ _ (and_too _ _ (and_too _ _ (and_too _ _ (bytes_itself x.name) (bool_itself x.dir)) (number_itself x.size)) (bool_itself x.read_only)) (number_itself x.number)

share_names_itself : (xs : List ShareName) → same_share_names xs xs ≡ true
share_names_itself [] = refl
share_names_itself (x ∷ xs) = and_too _ _ (share_name_itself x) (share_names_itself xs)

body_itself : (b : RepBody) → same_body b b ≡ true
body_itself body.None = refl
body_itself (body.Opened fid action size attributes lease durable) =
    and_too _ _ (and_too _ _ (number_itself action) (number_itself size)) (number_itself attributes)
body_itself (body.Bytes bytes) = bytes_itself bytes
body_itself (body.Count n) = number_itself n
body_itself (body.Info dir size read_only links pending number) =
    and_too _ _ (and_too _ _ (and_too _ _ (and_too _ _ (and_too _ _ (bool_itself dir) (number_itself size)) (bool_itself read_only)) (number_itself links)) (bool_itself pending)) (number_itself number)
body_itself (body.Names names) = share_names_itself names
body_itself (body.Room total free) = and_too _ _ (number_itself total) (number_itself free)

pub reply_itself : (reply : Rep) → same_reply reply reply ≡ true
reply_itself reply = and_too _ _ (number_itself reply.status.0) (body_itself reply.body)
