-- A reply of a mount that is accepted has its body, and so none of its verdicts is a malformed body.
use Rattle.std.proofs.Common.{rules, arith, ◌≡◌, ◌∙◌, inl, inr, refl, sym, ap, ℕ, ◌+◌, ◌<◌, ◌≤◌, ◌⊎◌, ◌==◌, ◌&&◌, ◌||◌, Bool, true, false, if◌then◌else◌, List, length, Some, None, Result, Ok, Err}
use Rattle.std.specs.Prelude.{nat_le, nat_lt, is_ok, slice_range, MatchBool}
use Rattle.std.proofs.lemmas.Bool.Decides.{nat_tests}
use Rattle.smb_le.specs.Numbers.{number_at}
use Rattle.smb_head.specs.declared.command.TheConstants.{NEGOTIATE, SESSION_SETUP, TREE_CONNECT}
use Rattle.smb_head.specs.declared.head.Head.{Head}
use Rattle.smb_head.specs.declared.head.HeadFault.{HeadFault}
use Rattle.smb_head.specs.declared.head.Route.{Route}
use Rattle.smb_head.specs.Header.{head_of}
use Rattle.smb_base.specs.declared.names.Status.{Status}
use Rattle.smb_field.specs.declared.field.BodyFault.{BodyFault}
use Rattle.smb_field.specs.declared.field.BodyFault.TheVariants.{Short, Size, Value, Offset}
use Rattle.smb_field.specs.Body.{end_of_fixed, Strays, Reads}
use Rattle.smb_body_a.specs.declared.negotiate.NegotiateReply.{NegotiateReply}
use Rattle.smb_body_a.specs.Negotiate.{IsNegotiateReply}
use Rattle.smb_body_a.specs.declared.session.SessionSetupReply.{SessionSetupReply}
use Rattle.smb_body_a.specs.Session.{IsSessionSetupReply}
use Rattle.smb_body_a.specs.declared.tree.TreeConnectReply.{TreeConnectReply}
use Rattle.smb_body_a.specs.Tree.{IsTreeConnectReply}
use Rattle.smb_body_c.specs.declared.error.ErrorReply.{ErrorReply}
use Rattle.smb_body_c.specs.Error.{IsErrorReply}
use Rattle.smb_mount.specs.declared.fault.MountFault.{MountFault}
use Rattle.smb_mount.specs.declared.fault.MountFault.TheVariants as fault
use Rattle.smb_mount.specs.Kept as kept
use Rattle.smb_mount.specs.Replies.{ReadsNegotiate, ReadsSession, ReadsTree, ReadsError, Decides, refusal, Refuses}
use Rattle.smb_mount.specs.Verdicts.{by_body, greeted, NegotiateEnds, challenged, at_once, SetUpEnds, answered, challenged_again, SessionEnds, joined, TreeEnds}
use Rattle.smb_field.specs.Rows.{lies_behind, part_in, with_part}
use Rattle.smb_body_a.specs.Negotiate.{negotiate_reply_of}
use Rattle.smb_body_a.specs.Session.{session_setup_reply_of}
use Rattle.smb_body_a.specs.Tree.{tree_connect_reply_of}
use Rattle.smb_body_c.specs.Error.{error_reply_of}
use Rattle.fs_plain.specs.Replies.{is_error, has_aside_body, is_aside_by_status}

-- a message has the body of a reply to the connection itself, by its status and this command
abbrev pub HasBodyWith : Result Head HeadFault → ℕ → List ℕ → Type 0
HasBodyWith (Err fault) command part = ⊥
HasBodyWith (Ok head) command part = is_aside_by_status head.status.0 command part ≡ true

abbrev pub HasBody : ℕ → List ℕ → Type 0
HasBody command part = HasBodyWith (head_of part) command part

is_number : (a b : ℕ) → (a == b) ≡ true → a ≡ b
is_number a b is = search rules

le_is : (a b : ℕ) → nat_le a b ≡ true → a ≤ b
le_is a b is = search rules

not_lt : (a b : ℕ) → nat_lt a b ≡ false → b ≤ a
not_lt a b is = grind (arith, nat_tests)

never_true : {X : Type 0} → false ≡ true → X
never_true is = absurd (no is)
  where
    no : false ≡ true → ⊥
    no is = search rules

-- what is read as a body has its fixed part and its structure size, and its row reads
read_is : {X : Type 0} (size : ℕ) (part : List ℕ) (read : Result X BodyFault)
    → is_ok (if nat_lt (length part) (end_of_fixed size) then Err Short else if number_at 2 64 part == size then read else Err Size) ≡ true
    → (end_of_fixed size ≤ length part) × (number_at 2 64 part ≡ size) × (is_ok read ≡ true)
read_is size part read is = by (nat_lt (length part) (end_of_fixed size)) (number_at 2 64 part == size) refl refl is
  where
    by : (t u : Bool) → nat_lt (length part) (end_of_fixed size) ≡ t → (number_at 2 64 part == size) ≡ u
        → is_ok (if t then Err Short else if u then read else Err Size) ≡ true
        → (end_of_fixed size ≤ length part) × (number_at 2 64 part ≡ size) × (is_ok read ≡ true)
    by true u short same is = never_true is
    by false true short same is = (not_lt (length part) (end_of_fixed size) short, is_number (number_at 2 64 part) size same, is)
    by false false short same is = never_true is

-- and its variable part lies in the message
part_is : {X : Type 0} (behind offset many : ℕ) (part : List ℕ) (rest : List ℕ → Result X BodyFault)
    → is_ok (with_part Offset (part_in behind offset many part) rest) ≡ true
    → lies_behind behind offset many part ≡ true
unfolding part_in
part_is behind offset many part rest is = by (lies_behind behind offset many part) refl is
  where
    by : (t : Bool) → lies_behind behind offset many part ≡ t
        → is_ok (with_part Offset (if t then Some (slice_range part offset (offset + many)) else None) rest) ≡ true → lies_behind behind offset many part ≡ true
    by true lies is = lies
    by false lies is = never_true is

-- a body that is there, with its variable part in the message, has no fault
no_fault : {X : Type 0} (size : ℕ) (stands : X → Type 0) (strays : Type 0) (part : List ℕ) (b : BodyFault) → end_of_fixed size ≤ length part
    → number_at 2 64 part ≡ size → (strays → ⊥)
    → Reads size stands ⊥ strays part (Err b) → ⊥
no_fault size stands strays part Short long is never reads = absurd (omega (arith, long, reads))
no_fault size stands strays part Size long is never reads = reads.1 is
no_fault size stands strays part Value long is never reads = reads.2
no_fault size stands strays part Offset long is never reads = never reads.3

strays_by : (many behind offset fixed long : ℕ) (t u v : Bool) → (many == 0) ≡ t → nat_le fixed offset ≡ u → nat_le (offset + many) long ≡ v
    → (t || (u && v)) ≡ true → behind ≡ fixed
    → (0 < many) × ((offset < behind) ⊎ (long < offset + many)) → ⊥
strays_by many behind offset fixed long true u v none low high is same strays = let zero_is = is_number many 0 none in absurd (omega (arith, zero_is, strays.0))
strays_by many behind offset fixed long false true true none low high is same (some, inl before) =
    let from = le_is fixed offset low in absurd (omega (arith, from, before, same))
strays_by many behind offset fixed long false true true none low high is same (some, inr over) =
    let to = le_is (offset + many) long high in absurd (omega (arith, to, over))
strays_by many behind offset fixed long false true false none low high is same strays = no is
  where
    no : false ≡ true → ⊥
    no is = search rules
strays_by many behind offset fixed long false false v none low high is same strays = no is
  where
    no : false ≡ true → ⊥
    no is = search rules

not_strays : (behind offset many : ℕ) (part : List ℕ) → lies_behind behind offset many part ≡ true → Strays behind offset many part → ⊥
not_strays behind offset many part is strays =
    strays_by many behind offset behind (length part) (many == 0) (nat_le behind offset) (nat_le (offset + many) (length part)) refl refl refl is refl strays

negotiate_reads : (part : List ℕ) (b : BodyFault) → has_aside_body 0 part ≡ true → ReadsNegotiate part (Err b) → ⊥
unfolding negotiate_reply_of
negotiate_reads part b is reads =
    let t = read_is 65 part _ is in
    no_fault 65 (λ (x : NegotiateReply). IsNegotiateReply x part) (Strays 128 (number_at 2 120 part) (number_at 2 122 part) part) part b t.0 t.1
    (not_strays 128 (number_at 2 120 part) (number_at 2 122 part) part (part_is 128 (number_at 2 120 part) (number_at 2 122 part) part _ t.2)) reads

session_reads : (part : List ℕ) (b : BodyFault) → has_aside_body 1 part ≡ true → ReadsSession part (Err b) → ⊥
unfolding session_setup_reply_of
session_reads part b is reads =
    let t = read_is 9 part _ is in
    no_fault 9 (λ (x : SessionSetupReply). IsSessionSetupReply x part) (Strays 72 (number_at 2 68 part) (number_at 2 70 part) part) part b t.0 t.1
    (not_strays 72 (number_at 2 68 part) (number_at 2 70 part) part (part_is 72 (number_at 2 68 part) (number_at 2 70 part) part _ t.2)) reads

tree_reads : (part : List ℕ) (b : BodyFault) → has_aside_body 3 part ≡ true → ReadsTree part (Err b) → ⊥
unfolding tree_connect_reply_of
tree_reads part b is reads =
    let t = read_is 16 part _ is in
    no_fault 16 (λ (x : TreeConnectReply). IsTreeConnectReply x part) ⊥ part b t.0 t.1 (λ never. never) reads

error_reads : (part : List ℕ) (b : BodyFault) → is_error part ≡ true → ReadsError part (Err b) → ⊥
unfolding error_reply_of
error_reads part b is reads =
    let t = read_is 9 part _ is in
    no_fault 9 (λ (x : ErrorReply). IsErrorReply x part) (Strays 72 72 (number_at 4 68 part) part) part b t.0 t.1
    (not_strays 72 72 (number_at 4 68 part) part (part_is 72 72 (number_at 4 68 part) part _ t.2)) reads

-- so what is decided by it is no malformed body
decides_well : {X A : Type 0} (reads : Result X BodyFault → Type 0) (verdict : X → Result A MountFault) (why : MountFault) (b : BodyFault)
    → ((c : BodyFault) → reads (Err c) → ⊥)
    → ((x : X) → verdict x ≡ Err (fault.Malformed b) → ⊥) → Decides reads (by_body verdict) (Err why) → why ≡ fault.Malformed b → ⊥
decides_well {X = X} {A = A} reads verdict why b never well decides is = by decides.some_body.0 decides.some_body.1 decides.some_body.2
  where
    by : (body : Result X BodyFault) → reads body → Err why ≡ by_body verdict body → ⊥
    by (Ok x) read answer = well x (sym answer ∙ ap (λ (w : MountFault). Err w) is)
    by (Err c) read answer = never c read

refuses_well : (part : List ℕ) (why other : MountFault) (b : BodyFault) → is_error part ≡ true → (other ≡ fault.Malformed b → ⊥) → Refuses part other why
    → why ≡ fault.Malformed b → ⊥
refuses_well part why other b error well decides is = by decides.some_body.0 decides.some_body.1 decides.some_body.2
  where
    by : (body : Result ErrorReply BodyFault) → ReadsError part body → why ≡ refusal other body → ⊥
    by (Ok x) read answer = well (sym answer ∙ is)
    by (Err c) read answer = error_reads part c error read

greeted_well : (k : kept.Start) (x : NegotiateReply) (b : BodyFault) → greeted k x ≡ Err (fault.Malformed b) → ⊥
greeted_well k x b is = grind arith

challenged_well : (k : kept.Greeted) (session : ℕ) (x : SessionSetupReply) (b : BodyFault) → challenged k session x ≡ Err (fault.Malformed b) → ⊥
challenged_well k session x b is = grind arith

at_once_well : (k : kept.Greeted) (session : ℕ) (x : SessionSetupReply) (b : BodyFault) → at_once k session x ≡ Err (fault.Malformed b) → ⊥
at_once_well k session x b is = grind arith

answered_well : (k : kept.Challenge) (x : SessionSetupReply) (b : BodyFault) → answered k x ≡ Err (fault.Malformed b) → ⊥
answered_well k x b is = grind arith

again_well : (status : Status) (x : SessionSetupReply) (b : BodyFault) → challenged_again status x ≡ Err (fault.Malformed b) → ⊥
again_well status x b is = grind arith

joined_well : (k : kept.Session) (route : Route) (x : TreeConnectReply) (b : BodyFault) → joined k route x ≡ Err (fault.Malformed b) → ⊥
joined_well k route x b is = grind arith

dialect_well : (dialect : ℕ) (b : BodyFault) → fault.Dialect dialect ≡ fault.Malformed b → ⊥
dialect_well dialect b is = search rules

session_well : (status : Status) (b : BodyFault) → fault.Session status ≡ fault.Malformed b → ⊥
session_well status b is = search rules

tree_well : (status : Status) (b : BodyFault) → fault.Tree status ≡ fault.Malformed b → ⊥
tree_well status b is = search rules

-- NEGOTIATE
negotiate_by : (k : kept.Start) (part : List ℕ) (why : MountFault) (b : BodyFault) (t u : Bool)
    → (if t || (u && (0 == 1)) then has_aside_body 0 part else is_error part) ≡ true
    → MatchBool t (Decides (ReadsNegotiate part) (by_body (greeted k)) (Err why)) (Refuses part (fault.Dialect 0) why) → why ≡ fault.Malformed b → ⊥
negotiate_by k part why b true u body ends =
    decides_well (ReadsNegotiate part) (greeted k) why b (λ c. negotiate_reads part c body) (λ x. greeted_well k x b) ends
negotiate_by k part why b false true body ends = refuses_well part why (fault.Dialect 0) b body (dialect_well 0 b) ends
negotiate_by k part why b false false body ends = refuses_well part why (fault.Dialect 0) b body (dialect_well 0 b) ends

negotiate_head : (k : kept.Start) (part : List ℕ) (why : MountFault) (b : BodyFault) (head : Result Head HeadFault) → HasBodyWith head 0 part
    → NegotiateEnds k head part (Err why)
    → why ≡ fault.Malformed b → ⊥
negotiate_head k part why b (Err f) body ends is = body
negotiate_head k part why b (Ok head) body ends is = negotiate_by k part why b (head.status.0 == 0) (head.status.0 == 0xC0000016) body ends is

pub negotiate_sound : (k : kept.Start) (part : List ℕ) (why : MountFault) (b : BodyFault) → HasBody NEGOTIATE part
    → NegotiateEnds k (head_of part) part (Err why) → why ≡ fault.Malformed b → ⊥
negotiate_sound k part why b body ends is = negotiate_head k part why b (head_of part) body ends is

-- the first SESSION_SETUP
setup_by : (k : kept.Greeted) (session : ℕ) (status : Status) (part : List ℕ) (why : MountFault) (b : BodyFault) (t u : Bool)
    → (if t || (u && (1 == 1)) then has_aside_body 1 part else is_error part) ≡ true
    → MatchBool u (Decides (ReadsSession part) (by_body (challenged k session)) (Err why))
    (MatchBool t (Decides (ReadsSession part) (by_body (at_once k session)) (Err why)) (Refuses part (fault.Session status) why)) → why ≡ fault.Malformed b → ⊥
setup_by k session status part why b true true body ends =
    decides_well (ReadsSession part) (challenged k session) why b (λ c. session_reads part c body) (λ x. challenged_well k session x b) ends
setup_by k session status part why b false true body ends =
    decides_well (ReadsSession part) (challenged k session) why b (λ c. session_reads part c body) (λ x. challenged_well k session x b) ends
setup_by k session status part why b true false body ends =
    decides_well (ReadsSession part) (at_once k session) why b (λ c. session_reads part c body) (λ x. at_once_well k session x b) ends
setup_by k session status part why b false false body ends = refuses_well part why (fault.Session status) b body (session_well status b) ends

setup_head : (k : kept.Greeted) (part : List ℕ) (why : MountFault) (b : BodyFault) (head : Result Head HeadFault) → HasBodyWith head 1 part
    → SetUpEnds k head part (Err why)
    → why ≡ fault.Malformed b → ⊥
setup_head k part why b (Err f) body ends is = body
setup_head k part why b (Ok head) body ends is = setup_by k head.session head.status part why b (head.status.0 == 0) (head.status.0 == 0xC0000016) body ends is

pub setup_sound : (k : kept.Greeted) (part : List ℕ) (why : MountFault) (b : BodyFault) → HasBody SESSION_SETUP part → SetUpEnds k (head_of part) part (Err why)
    → why ≡ fault.Malformed b → ⊥
setup_sound k part why b body ends is = setup_head k part why b (head_of part) body ends is

-- the second one
session_by : (k : kept.Challenge) (status : Status) (part : List ℕ) (why : MountFault) (b : BodyFault) (t u : Bool)
    → (if t || (u && (1 == 1)) then has_aside_body 1 part else is_error part) ≡ true
    → MatchBool t (Decides (ReadsSession part) (by_body (answered k)) (Err why))
    (MatchBool u (Decides (ReadsSession part) (by_body (challenged_again status)) (Err why))
    (Refuses part (fault.Session status) why)) → why ≡ fault.Malformed b → ⊥
session_by k status part why b true u body ends =
    decides_well (ReadsSession part) (answered k) why b (λ c. session_reads part c body) (λ x. answered_well k x b) ends
session_by k status part why b false true body ends =
    decides_well (ReadsSession part) (challenged_again status) why b (λ c. session_reads part c body) (λ x. again_well status x b) ends
session_by k status part why b false false body ends = refuses_well part why (fault.Session status) b body (session_well status b) ends

session_head : (k : kept.Challenge) (part : List ℕ) (why : MountFault) (b : BodyFault) (head : Result Head HeadFault) → HasBodyWith head 1 part
    → SessionEnds k head part (Err why)
    → why ≡ fault.Malformed b → ⊥
session_head k part why b (Err f) body ends is = body
session_head k part why b (Ok head) body ends is = session_by k head.status part why b (head.status.0 == 0) (head.status.0 == 0xC0000016) body ends is

pub session_sound : (k : kept.Challenge) (part : List ℕ) (why : MountFault) (b : BodyFault) → HasBody SESSION_SETUP part
    → SessionEnds k (head_of part) part (Err why) → why ≡ fault.Malformed b → ⊥
session_sound k part why b body ends is = session_head k part why b (head_of part) body ends is

-- TREE_CONNECT
tree_by : (k : kept.Session) (route : Route) (status : Status) (part : List ℕ) (why : MountFault) (b : BodyFault) (t u : Bool)
    → (if t || (u && (3 == 1)) then has_aside_body 3 part else is_error part) ≡ true
    → MatchBool t (Decides (ReadsTree part) (by_body (joined k route)) (Err why)) (Refuses part (fault.Tree status) why) → why ≡ fault.Malformed b → ⊥
tree_by k route status part why b true u body ends =
    decides_well (ReadsTree part) (joined k route) why b (λ c. tree_reads part c body) (λ x. joined_well k route x b) ends
tree_by k route status part why b false true body ends = refuses_well part why (fault.Tree status) b body (tree_well status b) ends
tree_by k route status part why b false false body ends = refuses_well part why (fault.Tree status) b body (tree_well status b) ends

tree_head : (k : kept.Session) (part : List ℕ) (why : MountFault) (b : BodyFault) (head : Result Head HeadFault) → HasBodyWith head 3 part
    → TreeEnds k head part (Err why)
    → why ≡ fault.Malformed b → ⊥
tree_head k part why b (Err f) body ends is = body
tree_head k part why b (Ok head) body ends is = tree_by k head.route head.status part why b (head.status.0 == 0) (head.status.0 == 0xC0000016) body ends is

pub tree_sound : (k : kept.Session) (part : List ℕ) (why : MountFault) (b : BodyFault) → HasBody TREE_CONNECT part → TreeEnds k (head_of part) part (Err why)
    → why ≡ fault.Malformed b → ⊥
tree_sound k part why b body ends is = tree_head k part why b (head_of part) body ends is
