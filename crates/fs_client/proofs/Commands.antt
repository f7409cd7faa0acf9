-- The commands of requests: those of the share, and those of the connection itself.
use Rattle.std.proofs.Common.{rules, ◌≡◌, ◌∙◌, refl, sym, ap, subst, ℕ, ◌==◌, Bool, true, false, if◌then◌else◌, List, [], ◌∷◌, length, Option, Some, None, Result, Ok, Err}
use Rattle.std.specs.Prelude.{nat_lt, is_some, is_ok, ◌&&◌, ◌||◌}
use Rattle.std.specs.List.{AllByRecursion}
use Rattle.smb_le.specs.Numbers.{number_at}
use Rattle.smb_head.specs.declared.command.TheConstants.{NEGOTIATE, SESSION_SETUP, LOGOFF, TREE_CONNECT, TREE_DISCONNECT, CREATE, CLOSE, ECHO, QUERY_INFO}
use Rattle.smb_head.specs.declared.head.HeadFault.TheVariants.{Short, Magic, Size}
use Rattle.smb_head.specs.declared.head.TheConstants.{PROTOCOL}
use Rattle.smb_head.specs.Header.{head_of, head_at}
use Rattle.smb_field.specs.declared.field.BodyFault.{BodyFault}
use Rattle.smb_field.specs.Rows.{if_read}
use Rattle.smb_body_a.specs.Empty.{empty_of}
use Rattle.smb_body_a.specs.Negotiate.{negotiate_request_of}
use Rattle.smb_body_a.specs.Session.{session_setup_request_of}
use Rattle.smb_body_a.specs.Tree.{tree_connect_request_of}
use Rattle.smb_body_b.specs.Close.{close_request_of}
use Rattle.smb_body_b.specs.Create.{CreateRequestValue, create_request_of}
use Rattle.smb_body_c.specs.declared.info.QueryInfoRequest.{QueryInfoRequest}
use Rattle.smb_body_c.specs.Info.{query_info_request_of}
use Rattle.smb_body_b.specs.declared.contexts.ContextSet.{ContextSet}
use Rattle.smb_body_b.specs.Contexts.{read_of}
use Rattle.share_state.specs.declared.request.Req.{Req}
use Rattle.share_state.specs.declared.request.Req.TheVariants as req
use Rattle.share_state.specs.Built.{is_built}
use Rattle.share_state.specs.State.{has}
use Rattle.fs_plain.specs.Wire.{units_in}
use Rattle.fs_plain.specs.Requests.{WireRequest, wire_request, share_request, asked_lease, create_with, create_asked, close_asked, is_query, query_asked, is_aside, by_command, asked_with}
use Rattle.fs_plain.specs.Replies.{command_of}
use Rattle.fs_client.proofs.Lists.{same_number}

none_some : (w : WireRequest) → None ≡ Some w → ⊥
none_some w is = search rules

-- it asks for something of the connection itself
abbrev asks_aside : Option WireRequest → Bool
asks_aside None = false
asks_aside (Some WireRequest.Aside) = true
asks_aside (Some (WireRequest.Share related r)) = false

-- the share's own requests do not
share_not : (related : Bool) (r : Req) → asks_aside (share_request related r) ≡ false
share_not related r = by (is_built r)
  where
    by : (t : Bool) → asks_aside (if t then Some (WireRequest.Share related r) else None) ≡ false
    by true = refl
    by false = refl

unless_not : (t : Bool) (o : Option WireRequest) → asks_aside o ≡ false → asks_aside (if t then None else o) ≡ false
unless_not true o not_aside = refl
unless_not false o not_aside = not_aside

read_not : {X : Type 0} (r : Result X BodyFault) (f : X → Option WireRequest) → ((x : X) → asks_aside (f x) ≡ false) → asks_aside (if_read r f None) ≡ false
read_not (Err fault) f not_aside = refl
read_not (Ok x) f not_aside = not_aside x

create_not : (related : Bool) (x : CreateRequestValue) → asks_aside (create_asked related x) ≡ false
create_not related x = by (read_of false x.contexts)
  where
    by : (c : Result ContextSet BodyFault) → asks_aside (create_with related x c) ≡ false
    by (Err fault) = refl
    by (Ok set) =
        let r : Req = req.Create (units_in x.name) x.access x.share x.disposition x.options x.attributes (asked_lease x.oplock_level set.lease) set.durable in
        unless_not (is_some set.reclaim) (share_request related r) (share_not related r)

query_not : (related : Bool) (x : QueryInfoRequest) → asks_aside (query_asked related x) ≡ false
query_not related x = by (is_query x)
  where
    by : (t : Bool) → asks_aside (if t then share_request related (req.Query x.file_id) else None) ≡ false
    by true = share_not related (req.Query x.file_id)
    by false = refl

-- a request of the share is a CREATE, a CLOSE or a QUERY_INFO
share_by : (P : ℕ → Type 0) (command : ℕ) (related : Bool) (q : List ℕ) (w : Bool) (r : Req) → P CREATE → P CLOSE → P QUERY_INFO → by_command command related q ≡ Some (WireRequest.Share w r) → P command
share_by P command related q w r create close query is = by (command == CREATE) refl (command == CLOSE) refl (command == QUERY_INFO) refl is
  where
    no : (t : Bool) → (if t then Some WireRequest.Aside else None) ≡ Some (WireRequest.Share w r) → ⊥
    no true is = aside_share is
      where
        aside_share : Some WireRequest.Aside ≡ Some (WireRequest.Share w r) → ⊥
        aside_share is = search rules
    no false is = none_some (WireRequest.Share w r) is

    by : (a : Bool) → (command == CREATE) ≡ a → (b : Bool) → (command == CLOSE) ≡ b → (c : Bool) → (command == QUERY_INFO) ≡ c
        → (if a then if_read (create_request_of q) (create_asked related) None else if b then if_read (close_request_of q) (close_asked related) None else if c then if_read (query_info_request_of q) (query_asked related) None else if is_aside command q then Some WireRequest.Aside else None) ≡ Some (WireRequest.Share w r) → P command
    by true at b bt c ct is = subst P (sym (same_number command CREATE at)) create
    by false at true bt c ct is = subst P (sym (same_number command CLOSE bt)) close
    by false at false bt true ct is = subst P (sym (same_number command QUERY_INFO ct)) query
    by false at false bt false ct is = absurd (no (is_aside command q) is)

-- one of the connection itself has one of these commands
abbrev pub Asides : List ℕ
Asides = NEGOTIATE ∷ SESSION_SETUP ∷ TREE_CONNECT ∷ LOGOFF ∷ TREE_DISCONNECT ∷ ECHO ∷ []

aside_is : (P : ℕ → Type 0) (command : ℕ) (q : List ℕ) → AllByRecursion P Asides → is_aside command q ≡ true → P command
aside_is P command q all is = by (command == NEGOTIATE) refl (command == SESSION_SETUP) refl (command == TREE_CONNECT) refl is
  where
    false_true : false ≡ true → ⊥
    false_true is = search rules

    last : (d e f g : Bool) → (command == LOGOFF) ≡ d → (command == TREE_DISCONNECT) ≡ e → (command == ECHO) ≡ f → ((d || e || f) && g) ≡ true → P command
    last true e f g dt et ft is = subst P (sym (same_number command LOGOFF dt)) all.1.1.1.0
    last false true f g dt et ft is = subst P (sym (same_number command TREE_DISCONNECT et)) all.1.1.1.1.0
    last false false true g dt et ft is = subst P (sym (same_number command ECHO ft)) all.1.1.1.1.1.0
    last false false false g dt et ft is = absurd (false_true is)

    by : (a : Bool) → (command == NEGOTIATE) ≡ a → (b : Bool) → (command == SESSION_SETUP) ≡ b → (c : Bool) → (command == TREE_CONNECT) ≡ c
        → (if a then is_ok (negotiate_request_of q) else if b then is_ok (session_setup_request_of q) else if c then is_ok (tree_connect_request_of q)
        else (command == LOGOFF || command == TREE_DISCONNECT || command == ECHO) && is_ok (empty_of q)) ≡ true → P command
    by true at b bt c ct is = subst P (sym (same_number command NEGOTIATE at)) all.0
    by false at true bt c ct is = subst P (sym (same_number command SESSION_SETUP bt)) all.1.0
    by false at false bt true ct is = subst P (sym (same_number command TREE_CONNECT ct)) all.1.1.0
    by false at false bt false ct is = last (command == LOGOFF) (command == TREE_DISCONNECT) (command == ECHO) (is_ok (empty_of q)) refl refl refl is

aside_by : (P : ℕ → Type 0) (command : ℕ) (related : Bool) (q : List ℕ) → AllByRecursion P Asides → asks_aside (by_command command related q) ≡ true → P command
aside_by P command related q all is = by (command == CREATE) (command == CLOSE) (command == QUERY_INFO) is
  where
    false_true : false ≡ true → ⊥
    false_true is = search rules

    at : (t : Bool) → is_aside command q ≡ t → asks_aside (if t then Some WireRequest.Aside else None) ≡ true → P command
    at true so is = aside_is P command q all so
    at false so is = absurd (false_true is)

    by : (a b c : Bool)
        → asks_aside (if a then if_read (create_request_of q) (create_asked related) None else if b then if_read (close_request_of q) (close_asked related) None else if c then if_read (query_info_request_of q) (query_asked related) None else if is_aside command q then Some WireRequest.Aside else None) ≡ true → P command
    by true b c is = absurd (false_true (sym (read_not (create_request_of q) (create_asked related) (create_not related)) ∙ is))
    by false true c is = absurd (false_true (sym (read_not (close_request_of q) (close_asked related) (λ x. share_not related (req.Close x.file_id))) ∙ is))
    by false false true is = absurd (false_true (sym (read_not (query_info_request_of q) (query_asked related) (query_not related)) ∙ is))
    by false false false is = at (is_aside command q) refl is

-- by the head of the message
pub share_command : (P : ℕ → Type 0) (q : List ℕ) (w : Bool) (r : Req) → P CREATE → P CLOSE → P QUERY_INFO → wire_request q ≡ Some (WireRequest.Share w r) → P (command_of q)
unfolding wire_request head_of head_at
share_command P q w r create close query is = head (nat_lt (length q) 64) (number_at 4 0 q == PROTOCOL) (number_at 2 4 q == 64) is
  where
    flags : (t : Bool) → (if t then None else by_command (command_of q) (has (number_at 4 16 q) 4) q) ≡ Some (WireRequest.Share w r) → P (command_of q)
    flags true is = absurd (none_some (WireRequest.Share w r) is)
    flags false is = share_by P (command_of q) (has (number_at 4 16 q) 4) q w r create close query is

    head : (a b c : Bool) → asked_with (if a then Err Short else if b then (if c then Ok (head_at q) else Err Size) else Err Magic) q ≡ Some (WireRequest.Share w r) → P (command_of q)
    head true b c is = absurd (none_some (WireRequest.Share w r) is)
    head false true true is = flags (has (number_at 4 16 q) 1) is
    head false true false is = absurd (none_some (WireRequest.Share w r) is)
    head false false c is = absurd (none_some (WireRequest.Share w r) is)

pub aside_command : (P : ℕ → Type 0) (q : List ℕ) → AllByRecursion P Asides → wire_request q ≡ Some WireRequest.Aside → P (command_of q)
unfolding wire_request head_of head_at
aside_command P q all is = head (nat_lt (length q) 64) (number_at 4 0 q == PROTOCOL) (number_at 2 4 q == 64) is
  where
    flags : (t : Bool) → (if t then None else by_command (command_of q) (has (number_at 4 16 q) 4) q) ≡ Some WireRequest.Aside → P (command_of q)
    flags true is = absurd (none_some WireRequest.Aside is)
    flags false is = aside_by P (command_of q) (has (number_at 4 16 q) 4) q all (ap asks_aside is)

    head : (a b c : Bool) → asked_with (if a then Err Short else if b then (if c then Ok (head_at q) else Err Size) else Err Magic) q ≡ Some WireRequest.Aside → P (command_of q)
    head true b c is = absurd (none_some WireRequest.Aside is)
    head false true true is = flags (has (number_at 4 16 q) 1) is
    head false true false is = absurd (none_some WireRequest.Aside is)
    head false false c is = absurd (none_some WireRequest.Aside is)
