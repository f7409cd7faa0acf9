-- A request of the connection itself, as it stands in a frame, is read as one.
use Rattle.std.proofs.Common.{arith, ◌≡◌, ◌∙◌, refl, sym, ap, subst, ℕ, ◌*◌, ◌<◌, ◌^◌, Bool, true, false, if◌then◌else◌, List, [], ◌++◌, Some, None}
use Rattle.std.proofs.lemmas.Bool.{false≢true}
use Rattle.smb_le.specs.Numbers.{number_at}
use Rattle.smb_head.specs.declared.command.TheConstants.{NEGOTIATE, SESSION_SETUP, LOGOFF, TREE_CONNECT, TREE_DISCONNECT}
use Rattle.smb_head.specs.declared.request.Request.{Request}
use Rattle.smb_field.specs.declared.field.Field.{Field}
use Rattle.smb_field.specs.Body.{IsBody, IsReadAgain, spelling}
use Rattle.smb_field.specs.Rows.{part_in}
use Rattle.smb_field.proofs.Parts.{part_read}
use Rattle.smb_field.proofs.Reading.{read_again}
use Rattle.smb_body_a.specs.Empty.{empty_of}
use Rattle.smb_body_a.specs.Negotiate.{negotiate_request_of}
use Rattle.smb_body_a.specs.Session.{session_setup_request_of}
use Rattle.smb_body_a.specs.Tree.{tree_connect_request_of}
use Rattle.smb_mount.specs.declared.facts.Facts.{Facts}
use Rattle.smb_mount.specs.Requests.{negotiate_fields, dialects, session_fields, tree_fields, unit_bytes, no_fields, negotiate, session_setup, tree_connect, tree_disconnect, logoff}
use Rattle.smb_mount.specs.Tokens.{negotiate_token, authenticate_token}
use Rattle.fs_plain.specs.Replies.{command_of}
use Rattle.fs_plain.specs.Requests.{WireRequest, is_aside, by_command, wire_request}
use Rattle.fs_client.specs.Mount.{Stage, Unmounted, Agreed, Challenging, InSession, Mounted, asked_at}
use Rattle.fs_client.proofs.Lists.{none_some, some_is}
use Rattle.fs_core.specs.Written.{IsWrittenAt}
use Rattle.fs_core.proofs.SpellingHeads.{behind_header, command_there, asked_there, body_there, Everywhere}

-- a message asks something of the connection itself
pub record AsksAside (command : ℕ) (m : List ℕ) : Type 0 where
  pub asks : wire_request m ≡ Some WireRequest.Aside
  pub command_is : command_of m ≡ command

negotiate_is : (guid m : List ℕ) → IsBody 36 (negotiate_fields guid) dialects m → is_aside NEGOTIATE m ≡ true
unfolding negotiate_request_of
negotiate_is guid m is =
    let there : part_in 100 100 (2 * number_at 2 66 m) m ≡ Some dialects =
    part_read 100 dialects m 100 (2 * number_at 2 66 m) is.2.1.1.1.1.1.1.0 (ap (λ (n : ℕ). 2 * n) is.2.0) in
    grind (arith, is.0, is.1, there)

session_is : (previous : ℕ) (token m : List ℕ) → IsBody 25 (session_fields previous token) token m → is_aside SESSION_SETUP m ≡ true
unfolding session_setup_request_of
session_is previous token m is =
    let there : part_in 88 (number_at 2 76 m) (number_at 2 78 m) m ≡ Some token =
    part_read 88 token m (number_at 2 76 m) (number_at 2 78 m) is.2.1.1.1.1.0 is.2.1.1.1.1.1.0 in
    grind (arith, is.0, is.1, there)

tree_is : (path m : List ℕ) → IsBody 9 (tree_fields path) path m → is_aside TREE_CONNECT m ≡ true
unfolding tree_connect_request_of
tree_is path m is =
    let there : part_in 72 (number_at 2 68 m) (number_at 2 70 m) m ≡ Some path =
    part_read 72 path m (number_at 2 68 m) (number_at 2 70 m) is.2.1.0 is.2.1.1.0 in
    grind (arith, is.0, is.1, there)

disconnect_is : (m : List ℕ) → IsBody 4 no_fields [] m → is_aside TREE_DISCONNECT m ≡ true
unfolding empty_of
disconnect_is m is = grind (arith, is.0, is.1)

logoff_is : (m : List ℕ) → IsBody 4 no_fields [] m → is_aside LOGOFF m ≡ true
unfolding empty_of
logoff_is m is = grind (arith, is.0, is.1)

aside_if : (t : Bool) → t ≡ true → (if t then Some WireRequest.Aside else None) ≡ Some WireRequest.Aside
aside_if true is = refl
aside_if false is = absurd (false≢true is)

-- what is behind its header is read as what was written there
speaks : (command size : ℕ) (fields : List Field) (part : List ℕ) (r : Request) → r.command ≡ command → r.command < 2 ^ 16 → r.body ≡ spelling size fields part
    → IsReadAgain size fields part
    → ((m : List ℕ) → by_command command r.related m ≡ (if is_aside command m then Some WireRequest.Aside else None))
    → ((m : List ℕ) → IsBody size fields part m → is_aside command m ≡ true) → Everywhere (AsksAside command) r
speaks command size fields part r is small body again goes reads mid place rest = record {
  asks = asked_there mid r place (r.body ++ rest) small
      ∙ ap (λ (c : ℕ). by_command c r.related (behind_header mid r place (r.body ++ rest))) is
      ∙ goes (behind_header mid r place (r.body ++ rest))
      ∙ aside_if (is_aside command (behind_header mid r place (r.body ++ rest))) (reads (behind_header mid r place (r.body ++ rest)) there);
  command_is = command_there mid r place (r.body ++ rest) small ∙ is;
}
  where
    there : IsBody size fields part (behind_header mid r place (r.body ++ rest))
    there = subst (λ (b : List ℕ). IsBody size fields part (behind_header mid r place (b ++ rest))) (sym body)
        (body_there mid r place rest size fields part again)

-- those of a mount
pub stage_speaks : (stage : Stage) (r : Request) → asked_at stage ≡ Some r → IsWrittenAt stage r → Everywhere (AsksAside r.command) r
stage_speaks (Unmounted k) r is written =
    subst (λ (q : Request). IsWrittenAt (Unmounted k) q → Everywhere (AsksAside q.command) q) (some_is (negotiate k.guid) r is)
    (λ w. speaks NEGOTIATE 36 (negotiate_fields k.guid) dialects (negotiate k.guid) refl (omega arith) refl w.again (λ m. refl)
    (λ m body. negotiate_is k.guid m body)) written
stage_speaks (Agreed k) r is written =
    subst (λ (q : Request). IsWrittenAt (Agreed k) q → Everywhere (AsksAside q.command) q)
    (some_is (session_setup k.server.caps 0 k.previous negotiate_token) r is)
    (λ w. speaks SESSION_SETUP 25 (session_fields k.previous negotiate_token) negotiate_token (session_setup k.server.caps 0 k.previous negotiate_token) refl
    (omega arith) refl w.again (λ m. refl)
    (λ m body. session_is k.previous negotiate_token m body)) written
stage_speaks (Challenging k) r is written =
    subst (λ (q : Request). IsWrittenAt (Challenging k) q → Everywhere (AsksAside q.command) q)
    (some_is (session_setup k.server.caps k.session k.previous authenticate_token) r is)
    (λ w. speaks SESSION_SETUP 25 (session_fields k.previous authenticate_token) authenticate_token
    (session_setup k.server.caps k.session k.previous authenticate_token) refl (omega arith) refl w.again (λ m. refl)
    (λ m body. session_is k.previous authenticate_token m body)) written
stage_speaks (InSession k) r is written =
    subst (λ (q : Request). IsWrittenAt (InSession k) q → Everywhere (AsksAside q.command) q) (some_is (tree_connect k.server.caps k.session k.path) r is)
    (λ w. speaks TREE_CONNECT 9 (tree_fields (unit_bytes k.path)) (unit_bytes k.path) (tree_connect k.server.caps k.session k.path) refl (omega arith)
    refl w.again (λ m. refl)
    (λ m body. tree_is (unit_bytes k.path) m body)) written
stage_speaks (Mounted facts) r is written = absurd (none_some r is)

-- those without a field
empty_again : IsReadAgain 4 no_fields []
empty_again = read_again 4 no_fields [] (omega arith) refl (omega arith, tt)

pub disconnect_speaks : (facts : Facts) → Everywhere (AsksAside TREE_DISCONNECT) (tree_disconnect facts)
disconnect_speaks facts =
    speaks TREE_DISCONNECT 4 no_fields [] (tree_disconnect facts) refl (omega arith) refl empty_again (λ m. refl) (λ m body. disconnect_is m body)

pub logoff_speaks : (facts : Facts) → Everywhere (AsksAside LOGOFF) (logoff facts)
logoff_speaks facts = speaks LOGOFF 4 no_fields [] (logoff facts) refl (omega arith) refl empty_again (λ m. refl) (λ m body. logoff_is m body)
