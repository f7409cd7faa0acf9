-- What the share answers, request by request, at a share whose lists stand here. Statuses are those of MS-ERREF 2.3.1.
use Rattle.std.proofs.Common.{◌≡◌, ℕ, Bool, true, false, List, [], ◌∷◌, map, refl, Option, Some, None}
use Rattle.std.specs.Prelude.{codes}
use Rattle.smb_base.specs.declared.names.Key.{Key}
use Rattle.share_state.specs.declared.entry.Entry.{Entry}
use Rattle.share_state.specs.declared.node.Node.{Node}
use Rattle.share_state.specs.declared.connection.Grant.{Grant}
use Rattle.share_state.specs.declared.lease.Lease.{Lease}
use Rattle.share_state.specs.declared.opens.Open.{Open}
use Rattle.share_state.specs.declared.request.Who.{Who}
use Rattle.share_state.specs.declared.request.Rep.{Rep}
use Rattle.share_state.specs.declared.request.RepBody.TheVariants as body
use Rattle.share_state.specs.declared.request.Req.{Req}
use Rattle.share_state.specs.declared.request.Req.TheVariants as req
use Rattle.share_state.specs.declared.share.Share.{Share}
use Rattle.share_state.specs.declared.connection.LastCreate.{LastCreate}
use Rattle.share_state.specs.declared.connection.LastCreate.TheVariants as last
use Rattle.share_state.specs.declared.connection.Sent.{Sent}
use Rattle.share_state.specs.Sent.{behind_create, sent_but}
use Rattle.share_state.specs.Names.{components}
use Rattle.share_state.specs.State.{fresh_share}
use Rattle.share_state.specs.Reply.{of_status, fid_of, granted_reply, opened_reply}
use Rattle.share_state.specs.Grants.{is_allowed}
use Rattle.share_state.specs.Step.{step_of}
use Rattle.share_state.specs.Cut.{after_cut}
use Rattle.share_state.specs.Breaks.{needs_of}

abbrev us : Who
us = record { 0 = 0 }

abbrev other : Who
other = record { 0 = 7 }

abbrev node : ℕ → Bool → List ℕ → Bool → Node
node number dir bytes read_only = record { number = number; dir = dir; bytes = bytes; read_only = read_only }

abbrev entry : ℕ → ℕ → List ℕ → ℕ → Entry
entry number directory name of = record { number = number; directory = directory; name = name; node = of; pending = false }

-- a file `f` of three bytes, a directory `d` with an empty file `g`, an empty directory `e`, an empty read-only file `r` and an empty
-- read-only directory `q`; six opens were made and closed
abbrev start : Bool → Share
start fold = record (fresh_share 100 fold) {
  nodes = node 1 true [] false ∷ node 2 false (1 ∷ 2 ∷ 3 ∷ []) false ∷ node 3 true [] false ∷ node 4 false [] false
      ∷ node 5 true [] false ∷ node 6 false [] true ∷ node 7 true [] true ∷ [];
  nodes_made = 7;
  entries = entry 1 1 (codes "f") 2 ∷ entry 2 1 (codes "d") 3 ∷ entry 3 3 (codes "g") 4 ∷ entry 4 1 (codes "e") 5
      ∷ entry 5 1 (codes "r") 6 ∷ entry 6 1 (codes "q") 7 ∷ [];
  entries_made = 6;
  opens_made = 6;
}

-- a Create by its path, access, sharing, disposition and options, whose attributes are NORMAL
abbrev shared : List ℕ → ℕ → ℕ → ℕ → ℕ → Req
shared path access share disposition options = req.Create path access share disposition options 0x80 None false

-- the same, where all is shared
abbrev create : List ℕ → ℕ → ℕ → ℕ → Req
create path access disposition options = shared path access 7 disposition options

-- requests one after the other, each with whose it is and with its answer
abbrev Told : Type 0
Told = List (Who × Req × Rep)

-- what the requests are answered, one after the other, and the share after them
abbrev answers : Share → Told → List Rep
answers s [] = []
answers s ((who, r, rep) ∷ rows) = (step_of None s who r).0 ∷ answers (step_of None s who r).1 rows

abbrev after : Share → Told → Share
after s [] = s
after s ((who, r, rep) ∷ rows) = after (step_of None s who r).1 rows

abbrev replies : Told → List Rep
replies rows = map (λ (row : Who × Req × Rep). row.2) rows

-- each of these rows is asked at the share as it begins
abbrev alone : Share → List (Req × Rep) → List Rep
alone s rows = map (λ (row : Req × Rep). (step_of None s us row.0).0) rows

abbrev wanted : List (Req × Rep) → List Rep
wanted rows = map (λ (row : Req × Rep). row.1) rows

-- a Create of a file that is there: OPEN 1, CREATE 2, OPEN_IF 3, OVERWRITE 4, OVERWRITE_IF 5, and two numbers that are none of these
abbrev of_a_file : List (Req × Rep)
of_a_file =
    (create (codes "f") 1 1 0, opened_reply 7 1 3 0x80)
    ∷ (create (codes "f") 1 2 0, of_status 0xC0000035)
    ∷ (create (codes "f") 1 3 0, opened_reply 7 1 3 0x80)
    ∷ (create (codes "f") 1 4 0, opened_reply 7 3 0 0x80)
    ∷ (create (codes "f") 1 5 0, opened_reply 7 3 0 0x80)
    ∷ (create (codes "f") 1 0 0, of_status 0xC000000D)
    ∷ (create (codes "f") 1 6 0, of_status 0xC000000D)
    ∷ (create (codes "f") 1 1 1, of_status 0xC0000103)
    ∷ (create (codes "f") 1 1 0x40, opened_reply 7 1 3 0x80)
    ∷ (create (codes "d\\g") 1 1 0, opened_reply 7 1 0 0x80)
    ∷ []

each_of_a_file : alone (start false) of_a_file ≡ wanted of_a_file
unfolding components
each_of_a_file = refl

-- a Create of a directory that is there, the root among them; of one that has entries, and is to go with its close
abbrev of_a_directory : List (Req × Rep)
of_a_directory =
    (create (codes "d") 1 1 0, opened_reply 7 1 0 0x10)
    ∷ (create (codes "d") 1 2 0x40, of_status 0xC0000035)
    ∷ (create (codes "d") 1 1 0x40, of_status 0xC00000BA)
    ∷ (create (codes "d") 1 4 0, of_status 0xC000000D)
    ∷ (create (codes "d") 0x10000 1 0x1000, of_status 0xC0000101)
    ∷ (create (codes "") 1 1 0, opened_reply 7 1 0 0x10)
    ∷ (create (codes "") 1 2 0, of_status 0xC0000035)
    ∷ []

each_of_a_directory : alone (start false) of_a_directory ≡ wanted of_a_directory
unfolding components
each_of_a_directory = refl

-- a Create of what is not there: it is made, or not; with READONLY among its attributes it is read-only
abbrev of_what_is_missing : List (Req × Rep)
of_what_is_missing =
    (create (codes "x") 1 1 0, of_status 0xC0000034)
    ∷ (create (codes "x") 1 4 0, of_status 0xC0000034)
    ∷ (create (codes "x") 1 2 0, opened_reply 7 2 0 0x80)
    ∷ (create (codes "y") 1 3 1, opened_reply 7 2 0 0x10)
    ∷ (create (codes "z") 1 5 0, opened_reply 7 2 0 0x80)
    ∷ (req.Create (codes "ro") 1 7 2 0 1 None false, opened_reply 7 2 0 1)
    ∷ []

each_of_what_is_missing : alone (start false) of_what_is_missing ≡ wanted of_what_is_missing
unfolding components
each_of_what_is_missing = refl

-- a path that leads through what is missing or through a file; one with a component that is no name, wherever it stands
abbrev of_a_path : List (Req × Rep)
of_a_path =
    (create (codes "x\\y") 1 2 0, of_status 0xC000003A)
    ∷ (create (codes "f\\y") 1 2 0, of_status 0xC000003A)
    ∷ (create (codes "n\\y\\z") 1 1 0, of_status 0xC000003A)
    ∷ (create (codes "n\\y*\\z") 1 1 0, of_status 0xC0000033)
    ∷ (create (codes "n\\\\z") 1 1 0, of_status 0xC0000033)
    ∷ (create (0x61 ∷ 0x1F ∷ []) 1 3 0, of_status 0xC0000033)
    ∷ []

each_of_a_path : alone (start false) of_a_path ≡ wanted of_a_path
unfolding components
each_of_a_path = refl

-- a Create of what is read-only: a file may be read, and is neither written, appended to, overwritten nor to go; a directory may be
-- opened for writing
abbrev of_what_is_read_only : List (Req × Rep)
of_what_is_read_only =
    (create (codes "r") 1 1 0, opened_reply 7 1 0 1)
    ∷ (create (codes "r") 2 1 0, of_status 0xC0000022)
    ∷ (create (codes "r") 4 1 0, of_status 0xC0000022)
    ∷ (create (codes "r") 1 4 0, of_status 0xC0000022)
    ∷ (create (codes "r") 0x10000 1 0x1000, of_status 0xC0000121)
    ∷ (create (codes "q") 2 1 0, opened_reply 7 1 0 0x11)
    ∷ []

each_of_what_is_read_only : alone (start false) of_what_is_read_only ≡ wanted of_what_is_read_only
unfolding components
each_of_what_is_read_only = refl

-- names that differ in case: other names, or the same ones on a folding share; `{` and `[` are two names on each
abbrev by_units : Told
by_units =
    (us, create (codes "F") 1 1 0, of_status 0xC0000034)
    ∷ (us, create (codes "D\\G") 1 1 0, of_status 0xC000003A)
    ∷ (us, create (codes "d\\G") 1 1 0, of_status 0xC0000034)
    ∷ (us, create (codes "{") 1 2 0, opened_reply 7 2 0 0x80)
    ∷ (us, create (codes "[") 1 1 0, of_status 0xC0000034)
    ∷ []

each_by_units : answers (start false) by_units ≡ replies by_units
unfolding components
each_by_units = refl

abbrev folded : Told
folded =
    (us, create (codes "F") 1 1 0, opened_reply 7 1 3 0x80)
    ∷ (us, create (codes "D\\G") 1 1 0, opened_reply 8 1 0 0x80)
    ∷ (us, create (codes "d\\G") 1 1 0, opened_reply 9 1 0 0x80)
    ∷ (us, create (codes "{") 1 2 0, opened_reply 10 2 0 0x80)
    ∷ (us, create (codes "[") 1 1 0, of_status 0xC0000034)
    ∷ []

each_folded : answers (start true) folded ≡ replies folded
unfolding components
each_folded = refl

-- two opens of one file: access and sharing of the one that stands, of the next one, and what that is answered. READ_DATA 1, WRITE_DATA
-- 2, APPEND_DATA 4, READ_ATTRIBUTES 0x80, DELETE 0x10000; sharing 1 reading, 2 writing, 4 deleting
abbrev Pair : Type 0
Pair = (ℕ × ℕ) × (ℕ × ℕ) × Rep

abbrev second : Pair → Rep
second ((access, share), (next_access, next_share), rep) =
    (step_of None (step_of None (start false) other (shared (codes "f") access share 1 0)).1 us (shared (codes "f") next_access next_share 1 0)).0

abbrev pairs : List Pair
pairs =
    ((1, 7), (1, 7), opened_reply 8 1 3 0x80)
    ∷ ((1, 1), (1, 1), opened_reply 8 1 3 0x80)
    ∷ ((1, 0), (1, 7), of_status 0xC0000043)
    ∷ ((1, 7), (1, 0), of_status 0xC0000043)
    ∷ ((1, 1), (2, 7), of_status 0xC0000043)
    ∷ ((1, 2), (2, 1), opened_reply 8 1 3 0x80)
    ∷ ((1, 2), (4, 1), opened_reply 8 1 3 0x80)
    ∷ ((1, 1), (4, 7), of_status 0xC0000043)
    ∷ ((1, 3), (0x10000, 7), of_status 0xC0000043)
    ∷ ((1, 0), (0x80, 0), opened_reply 8 1 3 0x80)
    ∷ ((0x10000, 7), (1, 3), of_status 0xC0000043)
    ∷ []

each_pair : map second pairs ≡ map (λ (row : Pair). row.2) pairs
unfolding components
each_pair = refl

-- an open of another file is not in the way
elsewhere : (step_of None (step_of None (start false) other (shared (codes "f") 1 0 1 0)).1 us (shared (codes "d\\g") 1 0 1 0)).0
    ≡ opened_reply 8 1 0 0x80
unfolding components
elsewhere = refl

-- a file that is to go takes no further open, and goes with its last one; only whose open it is closes it, and once
abbrev going_file : Told
going_file =
    (us, create (codes "f") 1 1 0, opened_reply 7 1 3 0x80)
    ∷ (other, create (codes "f") 0x10000 1 0x1000, opened_reply 8 1 3 0x80)
    ∷ (us, req.Close (fid_of 8), of_status 0xC0000128)
    ∷ (other, req.Close (fid_of 8), of_status 0)
    ∷ (other, req.Close (fid_of 8), of_status 0xC0000128)
    ∷ (us, create (codes "f") 1 3 0, of_status 0xC0000056)
    ∷ (us, req.Close (fid_of 7), of_status 0)
    ∷ []

each_of_a_going_file : answers (start false) going_file ≡ replies going_file
unfolding components
each_of_a_going_file = refl

entries_left : map (λ (e : Entry). e.number) (after (start false) going_file).entries ≡ 2 ∷ 3 ∷ 4 ∷ 5 ∷ 6 ∷ []
unfolding components
entries_left = refl

nodes_left : map (λ (n : Node). n.number) (after (start false) going_file).nodes ≡ 1 ∷ 3 ∷ 4 ∷ 5 ∷ 6 ∷ 7 ∷ []
unfolding components
nodes_left = refl

-- and its name is free again
made_again : (step_of None (after (start false) going_file) us (create (codes "f") 1 3 0)).0 ≡ opened_reply 9 2 0 0x80
unfolding components
made_again = refl

-- a directory that is to go takes no new name, and goes with its last open
abbrev going_directory : Told
going_directory =
    (us, create (codes "e") 0x10000 1 0x1000, opened_reply 7 1 0 0x10)
    ∷ (us, create (codes "e") 0x10000 1 0, opened_reply 8 1 0 0x10)
    ∷ (us, req.Close (fid_of 7), of_status 0)
    ∷ (us, create (codes "e\\x") 1 2 0, of_status 0xC0000056)
    ∷ (us, req.Close (fid_of 8), of_status 0)
    ∷ (other, create (codes "e") 0x80 2 1, opened_reply 9 2 0 0x10)
    ∷ []

each_of_a_going_directory : answers (start false) going_directory ≡ replies going_directory
unfolding components
each_of_a_going_directory = refl

-- one that got a name before its close stays
abbrev filled_directory : Told
filled_directory =
    (us, create (codes "e") 0x10000 1 0x1000, opened_reply 7 1 0 0x10)
    ∷ (other, create (codes "e\\x") 0x80 2 0, opened_reply 8 2 0 0x80)
    ∷ (other, req.Close (fid_of 8), of_status 0)
    ∷ (us, req.Close (fid_of 7), of_status 0)
    ∷ (us, create (codes "e\\x") 1 1 0, opened_reply 9 1 0 0x80)
    ∷ []

each_of_a_filled_directory : answers (start false) filled_directory ≡ replies filled_directory
unfolding components
each_of_a_filled_directory = refl

-- what a Query tells: directory, size, read-only, links, pending, number
abbrev info : Bool → ℕ → Bool → ℕ → Rep
info dir size read_only number = record { status = record { 0 = 0 }; body = body.Info dir size read_only 1 false number }

abbrev query : Share → List ℕ → Who → Rep
query s path who = (step_of None (step_of None s us (create path 0x80 1 0)).1 who (req.Query (fid_of 7))).0

abbrev queries : List (List ℕ × Rep)
queries =
    (codes "", info true 0 false 1)
    ∷ (codes "f", info false 3 false 2)
    ∷ (codes "d\\g", info false 0 false 4)
    ∷ (codes "r", info false 0 true 6)
    ∷ (codes "q", info true 0 true 7)
    ∷ []

each_query : map (λ (row : List ℕ × Rep). query (start false) row.0 us) queries ≡ map (λ (row : List ℕ × Rep). row.1) queries
unfolding components
each_query = refl

-- the open of one client is none of another's
a_foreign_query : query (start false) (codes "f") other ≡ of_status 0xC0000128
unfolding components
a_foreign_query = refl

-- a lease that may read, keep handles and write: R 1, H 2, W 4
abbrev lease : Key → ℕ → Lease
lease key of = record { who = record { 0 = 0 }; key = key; node = of; state = 7; asked = None }

-- `f` is open for reading, and there are leases on `f` and on `d\g`
abbrev leased : Key → Key → Share
leased on_f on_g = record (step_of None (start false) (record { 0 = 0 }) (create (codes "f") 1 1 0)).1 {
  leases = lease on_f 2 ∷ lease on_g 4 ∷ [];
}

-- what another client's request has to wait for: reading, overwriting, an open that does not go together, one that is to delete,
-- each for what stands in its way; a refusal, and a Create of what is missing, for nothing
abbrev breaks : Key → Key → List (Req × List (Key × ℕ))
breaks on_f on_g =
    (create (codes "f") 1 1 0, (on_f, 3) ∷ [])
    ∷ (create (codes "f") 0x80 1 0, [])
    ∷ (create (codes "f") 0x80 4 0, (on_f, 0) ∷ [])
    ∷ (shared (codes "f") 1 0 1 0, (on_f, 1) ∷ [])
    ∷ (create (codes "f") 0x10000 1 0x1000, (on_f, 5) ∷ [])
    ∷ (create (codes "f") 1 1 1, [])
    ∷ (create (codes "f") 1 2 0, [])
    ∷ (create (codes "d") 0x10000 1 0x1000, (on_g, 5) ∷ [])
    ∷ (create (codes "d\\g") 2 1 0, (on_g, 3) ∷ [])
    ∷ (create (codes "x") 1 3 0, [])
    ∷ (req.Close (fid_of 7), [])
    ∷ []

each_break : (on_f on_g : Key) → map (λ (row : Req × List (Key × ℕ)). needs_of (leased on_f on_g) other row.0) (breaks on_f on_g)
    ≡ map (λ (row : Req × List (Key × ℕ)). row.1) (breaks on_f on_g)
unfolding components
each_break on_f on_g = refl

-- leases on the directory `d`, on the file `d\g`, on a directory `d\s` and on a file `d\s\t` in that one
abbrev nested : Key → Key → Key → Key → Share
nested on_d on_g on_s on_t = record (start false) {
  nodes = node 1 true [] false ∷ node 3 true [] false ∷ node 4 false [] false ∷ node 8 true [] false ∷ node 9 false [] false ∷ [];
  entries = entry 2 1 (codes "d") 3 ∷ entry 3 3 (codes "g") 4 ∷ entry 7 3 (codes "s") 8 ∷ entry 8 8 (codes "t") 9 ∷ [];
  leases = lease on_d 3 ∷ lease on_g 4 ∷ lease on_s 8 ∷ lease on_t 9 ∷ [];
}

-- a Create that is to delete the directory takes H from its own lease and from those on files beneath it, however deep, and leaves the
-- lease on the directory beneath it as it is
a_directory_is_to_go : (on_d on_g on_s on_t : Key) → needs_of (nested on_d on_g on_s on_t) other (create (codes "d") 0x10000 1 0x1000)
    ≡ (on_d, 5) ∷ (on_g, 5) ∷ (on_t, 5) ∷ []
unfolding components
a_directory_is_to_go on_d on_g on_s on_t = refl

-- one that opens it takes nothing from what lies beneath
a_directory_is_opened : (on_d on_g on_s on_t : Key) → needs_of (nested on_d on_g on_s on_t) other (create (codes "d") 1 1 0)
    ≡ (on_d, 3) ∷ []
unfolding components
a_directory_is_opened on_d on_g on_s on_t = refl

-- a cut ends the opens of its client, with the file that is to go, and none of another's
abbrev before_cut : Told
before_cut =
    (us, create (codes "f") 0x10000 1 0x1000, opened_reply 7 1 3 0x80)
    ∷ (other, create (codes "e") 0x80 1 0, opened_reply 8 1 0 0x10)
    ∷ []

opens_left : map (λ (o : Open). o.number) (after_cut (after (start false) before_cut)).opens ≡ 8 ∷ []
unfolding components
opens_left = refl

-- with the last open of its file a lease ends
leases_left : (on_f on_g : Key) → (after_cut (leased on_f on_g)).leases ≡ []
unfolding components
leases_left on_f on_g = refl

abbrev behind_cut : Told
behind_cut =
    (us, req.Close (fid_of 7), of_status 0xC0000128)
    ∷ (us, create (codes "f") 0x80 1 0, of_status 0xC0000034)
    ∷ (other, req.Close (fid_of 8), of_status 0)
    ∷ []

each_behind_a_cut : answers (after_cut (after (start false) before_cut)) behind_cut ≡ replies behind_cut
unfolding components
each_behind_a_cut = refl

-- two messages of one frame and one of another; what the CREATE of the first frame came to is told to its messages alone
abbrev message : ℕ → ℕ → LastCreate → Sent
message mid frame came =
    record { mid = record { 0 = mid }; frame = record { 0 = frame }; message = []; pended = false; last_create = came }

abbrev sent : List Sent
sent = message 1 1 last.Nothing ∷ message 2 1 last.Nothing ∷ message 3 3 last.Nothing ∷ []

told_to_its_frame : map (behind_create (record { 0 = 1 }) (last.Refused (record { 0 = 7 }))) sent
    ≡ message 1 1 (last.Refused (record { 0 = 7 })) ∷ message 2 1 (last.Refused (record { 0 = 7 })) ∷ message 3 3 last.Nothing ∷ []
told_to_its_frame = refl

one_removed : sent_but (record { 0 = 2 }) sent ≡ message 1 1 last.Nothing ∷ message 3 3 last.Nothing ∷ []
one_removed = refl

-- leases and durable opens. Keys that differ, each by its number
abbrev key : ℕ → Key
key n = record { 0 = n ∷ n ∷ [] }

-- a Create that shares everything and wants a lease in a state under a key, and perhaps a durable open
abbrev leasing : List ℕ → ℕ → ℕ → ℕ → ℕ → Bool → Req
leasing path access disposition n state durable = req.Create path access 7 disposition 0 0x80 (Some (key n, state)) durable

-- an Opened that tells of a lease state and of a durable open
abbrev gives : ℕ → Bool → ℕ → ℕ → ℕ → ℕ → Rep
gives state durable number action size attributes =
    granted_reply (record { key = None; state = state; durable = durable }) number action size attributes

abbrev lease_of_us : ℕ → ℕ → ℕ → Lease
lease_of_us n of state = record { who = us; key = key n; node = of; state = state; asked = None }

-- a lease is granted as wanted, and a durable open with H alone; without a lease none is
abbrev granted_alone : List (Req × Rep)
granted_alone =
    (leasing (codes "f") 1 1 1 7 true, gives 7 true 7 1 3 0x80)
    ∷ (leasing (codes "f") 1 1 1 7 false, gives 7 false 7 1 3 0x80)
    ∷ (leasing (codes "f") 1 1 1 3 true, gives 3 true 7 1 3 0x80)
    ∷ (leasing (codes "f") 1 1 1 5 true, gives 5 false 7 1 3 0x80)
    ∷ (leasing (codes "f") 1 1 1 6 true, gives 0 false 7 1 3 0x80)
    ∷ (leasing (codes "f") 1 1 1 0 true, gives 0 false 7 1 3 0x80)
    ∷ (leasing (codes "x") 2 2 1 7 true, gives 7 true 7 2 0 0x80)
    ∷ (req.Create (codes "f") 1 7 1 0 0x80 None true, opened_reply 7 1 3 0x80)
    ∷ []

each_granted_alone : alone (start false) granted_alone ≡ wanted granted_alone
unfolding components
each_granted_alone = refl

-- what others have open bounds it: one that reads takes W from it, one that is to delete H, a locked range R and with it all; one that
-- looks at attributes nothing
abbrev beside : ℕ → ℕ → Rep
beside access options =
    (step_of None (step_of None (start false) other (create (codes "f") access 1 options)).1 us (leasing (codes "f") 1 1 1 7 true)).0

granted_beside : beside 1 0 ∷ beside 2 0 ∷ beside 0x10000 0x1000 ∷ beside 0x80 0 ∷ []
    ≡ gives 3 true 8 1 3 0x80 ∷ gives 3 true 8 1 3 0x80 ∷ gives 5 false 8 1 3 0x80 ∷ gives 7 true 8 1 3 0x80 ∷ []
unfolding components
granted_beside = refl

abbrev locked : Share
locked = record (step_of None (start false) other (create (codes "f") 0x80 1 0)).1 {
  locks = record { holder = 7; offset = 0; length = 1; exclusive = false } ∷ [];
}

granted_beside_a_lock : (step_of None locked us (leasing (codes "f") 1 1 1 7 true)).0 ≡ gives 0 false 8 1 3 0x80
unfolding components
granted_beside_a_lock = refl

-- the share once a lease RH on `f` was granted, or as much less as it chose
abbrev holding : Option Grant → ℕ → Share
holding choice state = (step_of choice (start false) us (leasing (codes "f") 1 1 1 state true)).1

abbrev chosen : ℕ → Bool → Option Grant
chosen state durable = Some (record { lease = state; durable = durable })

granted_less : (holding (chosen 1 false) 7).leases ≡ lease_of_us 1 2 1 ∷ []
unfolding components
granted_less = refl

-- a lease of the state none is one
granted_none : (holding (chosen 0 false) 7).leases ≡ lease_of_us 1 2 0 ∷ []
unfolding components
granted_none = refl

keys_left : map (λ (o : Open). o.key) (holding (chosen 0 false) 7).opens ≡ Some (key 1) ∷ []
unfolding components
keys_left = refl

-- what may be chosen where RH and a durable open are wanted: none, R or RH, and a durable open with H alone
abbrev allowed : Share → ℕ → Bool → List (ℕ × Bool) → List Bool
allowed s state durable choices =
    map (λ (c : ℕ × Bool). is_allowed (chosen c.0 c.1) s us (leasing (codes "f") 1 1 1 state durable)) choices

allowed_alone : allowed (start false) 3 true ((0, false) ∷ (1, false) ∷ (3, false) ∷ (3, true) ∷ (1, true) ∷ (2, false) ∷ (5, false) ∷ (7, true) ∷ [])
    ≡ true ∷ true ∷ true ∷ true ∷ false ∷ false ∷ false ∷ false ∷ []
unfolding components
allowed_alone = refl

-- where no durable open is wanted none; where R stands not less
allowed_over_one : allowed (holding (chosen 1 false) 7) 3 false ((0, false) ∷ (1, false) ∷ (3, false) ∷ (3, true) ∷ (5, false) ∷ [])
    ≡ false ∷ true ∷ true ∷ false ∷ false ∷ []
unfolding components
allowed_over_one = refl

-- the same key again on the same file: the lease is raised by what is wanted more, and not lowered by what is wanted less
abbrev leases_after : Share → Req → List Lease
leases_after s r = (step_of None s us r).1.leases

raised_again : leases_after (holding (chosen 1 false) 7) (leasing (codes "f") 1 1 1 5 false) ≡ lease_of_us 1 2 5 ∷ []
unfolding components
raised_again = refl

not_lowered : leases_after (holding None 7) (leasing (codes "f") 1 1 1 1 false) ≡ lease_of_us 1 2 7 ∷ []
unfolding components
not_lowered = refl

-- its own opens do not stand in its way: another key has the file to read, which takes W
under_another_key : (step_of None (holding None 3) us (leasing (codes "f") 1 1 2 7 true)).0 ≡ gives 3 true 8 1 3 0x80
unfolding components
under_another_key = refl

-- while a break of it is asked it stays as it is
abbrev asked_for_none : Share
asked_for_none = record (holding None 1) { leases = record (lease_of_us 1 2 1) { asked = Some 0 } ∷ [] }

not_raised_while_asked : leases_after asked_for_none (leasing (codes "f") 1 1 1 7 true) ≡ record (lease_of_us 1 2 1) { asked = Some 0 } ∷ []
unfolding components
not_raised_while_asked = refl

-- a key that stands on another file is refused, behind what refuses the file itself and before what others have open there
abbrev elsewhere_rows : List (Req × Rep)
elsewhere_rows =
    (leasing (codes "d\\g") 1 1 1 7 true, of_status 0xC000000D)
    ∷ (leasing (codes "d\\g") 1 1 2 7 true, gives 7 true 8 1 0 0x80)
    ∷ (leasing (codes "x") 1 3 1 7 true, of_status 0xC000000D)
    ∷ (leasing (codes "x") 1 1 1 7 true, of_status 0xC0000034)
    ∷ (leasing (codes "r") 2 1 1 7 true, of_status 0xC0000022)
    ∷ (leasing (codes "d\\g") 1 2 1 7 true, of_status 0xC0000035)
    ∷ []

each_elsewhere : alone (holding None 7) elsewhere_rows ≡ wanted elsewhere_rows
unfolding components
each_elsewhere = refl

before_sharing : (step_of None (step_of None (holding None 7) other (shared (codes "d\\g") 1 0 1 0)).1 us (leasing (codes "d\\g") 1 1 1 7 true)).0
    ≡ of_status 0xC000000D
unfolding components
before_sharing = refl

-- under a key of another client's lease nothing is granted, and the open has no key
abbrev foreign_key : Rep × Share
foreign_key = step_of None (holding None 3) other (leasing (codes "d\\g") 1 1 1 7 true)

nothing_under_a_foreign_key : foreign_key.0 ≡ opened_reply 8 1 0 0x80
unfolding components
nothing_under_a_foreign_key = refl

keys_under_a_foreign_key : map (λ (o : Open). o.key) foreign_key.1.opens ≡ Some (key 1) ∷ None ∷ []
unfolding components
keys_under_a_foreign_key = refl

leases_under_a_foreign_key : foreign_key.1.leases ≡ lease_of_us 1 2 3 ∷ []
unfolding components
leases_under_a_foreign_key = refl

-- a Create that wants nothing beside a lease of another: it is granted nothing, and leaves the lease
abbrev beside_a_lease : Rep × Share
beside_a_lease = step_of None (holding None 3) other (create (codes "f") 1 1 0)

nothing_beside_a_lease : beside_a_lease.0 ≡ opened_reply 8 1 3 0x80
unfolding components
nothing_beside_a_lease = refl

leases_beside_a_lease : beside_a_lease.1.leases ≡ lease_of_us 1 2 3 ∷ []
unfolding components
leases_beside_a_lease = refl

-- a Create waits for the leases under other keys alone, and one that is refused for its key for none
abbrev needs : Req → List (Key × ℕ)
needs r = needs_of (holding None 7) us r

needs_of_keys : needs (leasing (codes "f") 2 1 1 7 true) ∷ needs (leasing (codes "f") 2 1 2 7 true) ∷ needs (leasing (codes "d\\g") 2 1 1 7 true) ∷ []
    ≡ [] ∷ ((key 1, 3) ∷ []) ∷ [] ∷ []
unfolding components
needs_of_keys = refl

-- the lease ends with the last open that has its key, and at a cut with one that is not durable; a durable one is disconnected
leases_behind_a_close : (step_of None (holding None 7) us (req.Close (fid_of 7))).1.leases ≡ []
unfolding components
leases_behind_a_close = refl

leases_behind_a_cut : (after_cut (holding None 7)).leases ≡ lease_of_us 1 2 7 ∷ []
unfolding components
leases_behind_a_cut = refl

connected_behind_a_cut : map (λ (o : Open). o.connected) (after_cut (holding None 7)).opens ≡ false ∷ []
unfolding components
connected_behind_a_cut = refl

none_behind_a_cut : (after_cut (holding None 5)).leases ≡ []
unfolding components
none_behind_a_cut = refl
