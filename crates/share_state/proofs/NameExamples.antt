-- Rename, LinkTo and SetPending on a small share whose answers are known: each refusal in its order, each success, and their breaks.
use Rattle.std.proofs.Common.{◌≡◌, ℕ, Bool, true, false, List, [], ◌∷◌, ◌++◌, Option, None, Some, refl}
use Rattle.std.specs.Prelude.{codes}
use Rattle.smb_base.specs.declared.names.Key.{Key}
use Rattle.share_state.specs.declared.entry.Entry.{Entry}
use Rattle.share_state.specs.declared.lease.Lease.{Lease}
use Rattle.share_state.specs.declared.node.Node.{Node}
use Rattle.share_state.specs.declared.opens.Open.{Open}
use Rattle.share_state.specs.declared.request.Rep.{Rep}
use Rattle.share_state.specs.declared.request.Req.TheVariants as req
use Rattle.share_state.specs.declared.share.Share.{Share}
use Rattle.share_state.specs.Names.{components}
use Rattle.share_state.specs.State.{fresh_share}
use Rattle.share_state.specs.Reply.{of_status, refused, fid_of}
use Rattle.share_state.specs.NewNames.{rename_of, link_of}
use Rattle.share_state.specs.Marks.{mark_of}
use Rattle.share_state.specs.Breaks.{needs_of}

-- what the share holds: `d`, with `f` and the directory `g` in it; the file `a`, which is `l` too; the files `b` and `r`, which is
-- read-only; the directory `e`; and `q` and `p`, a directory and a file that are to go

abbrev a_node : ℕ → Bool → Bool → Node
a_node number dir read_only = record { number = number; dir = dir; bytes = []; read_only = read_only }

abbrev an_entry : ℕ → ℕ → List ℕ → ℕ → Bool → Entry
an_entry number directory name node pending =
    record { number = number; directory = directory; name = name; node = node; pending = pending }

abbrev nodes_but_b : List Node
nodes_but_b = a_node 1 true false ∷ a_node 2 true false ∷ a_node 3 false false ∷ a_node 4 false false ∷ a_node 6 false true
    ∷ a_node 7 true false ∷ a_node 8 true false ∷ a_node 9 false false ∷ a_node 10 true false ∷ []

abbrev entry_d : Entry
entry_d = an_entry 1 1 (codes "d") 2 false

abbrev entry_f : Entry
entry_f = an_entry 2 2 (codes "f") 3 false

abbrev entry_a : Entry
entry_a = an_entry 3 1 (codes "a") 4 false

abbrev entry_b : Entry
entry_b = an_entry 4 1 (codes "b") 5 false

abbrev entry_l : Entry
entry_l = an_entry 10 1 (codes "l") 4 false

abbrev other_entries : List Entry
other_entries = an_entry 5 1 (codes "r") 6 false ∷ an_entry 6 1 (codes "e") 7 false ∷ an_entry 7 1 (codes "q") 8 true
    ∷ an_entry 8 1 (codes "p") 9 true ∷ an_entry 9 2 (codes "g") 10 false ∷ []

-- the share with these opens and leases; its names are equal whether in capitals or not
abbrev the_share : List Open → List Lease → Share
the_share opens leases = record (fresh_share 100 true) {
  nodes = a_node 5 false false ∷ nodes_but_b;
  entries = entry_d ∷ entry_f ∷ entry_a ∷ entry_b ∷ entry_l ∷ other_entries;
  opens = opens;
  leases = leases;
  nodes_made = 10;
  entries_made = 10;
}

abbrev an_open : ℕ → ℕ → ℕ → ℕ → ℕ → Option Key → Open
an_open number who node entry access key = record {
  number = number;
  who = record { 0 = who };
  node = node;
  entry = entry;
  access = access;
  share = 7;
  key = key;
  durable = false;
  connected = true;
  delete_on_close = false;
  snapshot = None;
}

-- open 1, of client 0, by this entry of a node, with DELETE
abbrev own : ℕ → ℕ → Open
own node entry = an_open 1 0 node entry 0x10000 None

-- the same, for reading alone
abbrev reading : ℕ → ℕ → Open
reading node entry = an_open 1 0 node entry 1 None

-- open 2, of client 1, by this entry of a node, for reading
abbrev other : ℕ → ℕ → Open
other node entry = an_open 2 1 node entry 1 None

abbrev quiet : List Open → Share
quiet opens = the_share opens []

abbrev rename : List Open → Bool → List ℕ → Rep × Share
rename opens replace path = rename_of (quiet opens) (record { 0 = 0 }) (fid_of 1) replace path

abbrev link : List Open → Bool → List ℕ → Rep × Share
link opens replace path = link_of (quiet opens) (record { 0 = 0 }) (fid_of 1) replace path

abbrev mark : List Open → Bool → Rep × Share
mark opens on = mark_of (quiet opens) (record { 0 = 0 }) (fid_of 1) on

-- ---- Rename, refused

-- no open of the client has this file id: FILE_CLOSED
rename_by_no_open : rename (other 4 3 ∷ []) true (codes "x") ≡ refused 0xC0000128 (quiet (other 4 3 ∷ []))
unfolding components
rename_by_no_open = refl

-- without DELETE: ACCESS_DENIED
rename_without_delete : rename (reading 4 3 ∷ []) true (codes "x") ≡ refused 0xC0000022 (quiet (reading 4 3 ∷ []))
unfolding components
rename_without_delete = refl

-- the root
rename_of_the_root : rename (own 1 0 ∷ []) true (codes "x") ≡ refused 0xC0000022 (quiet (own 1 0 ∷ []))
unfolding components
rename_of_the_root = refl

-- what is to go, whatever the new name: DELETE_PENDING
rename_of_what_goes : rename (own 9 8 ∷ []) true (codes "*") ≡ refused 0xC0000056 (quiet (own 9 8 ∷ []))
unfolding components
rename_of_what_goes = refl

-- `*` is no name, wherever it would be: OBJECT_NAME_INVALID
rename_to_no_name : rename (own 4 3 ∷ []) true (codes "n\\*") ≡ refused 0xC0000033 (quiet (own 4 3 ∷ []))
unfolding components
rename_to_no_name = refl

-- the directory is missing, or a file: OBJECT_PATH_NOT_FOUND
rename_to_no_path : rename (own 4 3 ∷ []) true (codes "n\\x") ≡ refused 0xC000003A (quiet (own 4 3 ∷ []))
unfolding components
rename_to_no_path = refl

rename_below_a_file : rename (own 4 3 ∷ []) true (codes "b\\x") ≡ refused 0xC000003A (quiet (own 4 3 ∷ []))
unfolding components
rename_below_a_file = refl

-- the root's path: OBJECT_NAME_COLLISION
rename_to_the_root : rename (own 4 3 ∷ []) true [] ≡ refused 0xC0000035 (quiet (own 4 3 ∷ []))
unfolding components
rename_to_the_root = refl

-- the new directory is to go: DELETE_PENDING
rename_into_what_goes : rename (own 4 3 ∷ []) true (codes "q\\x") ≡ refused 0xC0000056 (quiet (own 4 3 ∷ []))
unfolding components
rename_into_what_goes = refl

-- into the directory itself, or further down: INVALID_PARAMETER
rename_into_itself : rename (own 2 1 ∷ []) true (codes "d\\x") ≡ refused 0xC000000D (quiet (own 2 1 ∷ []))
unfolding components
rename_into_itself = refl

rename_into_its_own : rename (own 2 1 ∷ []) true (codes "d\\g\\x") ≡ refused 0xC000000D (quiet (own 2 1 ∷ []))
unfolding components
rename_into_its_own = refl

-- onto what is in the directory itself
rename_onto_its_own : rename (own 2 1 ∷ []) false (codes "d\\f") ≡ refused 0xC000000D (quiet (own 2 1 ∷ []))
unfolding components
rename_onto_its_own = refl

-- onto another entry: OBJECT_NAME_COLLISION without replacing, also where that one is to go
rename_onto_another : rename (own 4 3 ∷ []) false (codes "b") ≡ refused 0xC0000035 (quiet (own 4 3 ∷ []))
unfolding components
rename_onto_another = refl

rename_onto_what_goes_unasked : rename (own 4 3 ∷ []) false (codes "p") ≡ refused 0xC0000035 (quiet (own 4 3 ∷ []))
unfolding components
rename_onto_what_goes_unasked = refl

-- with replacing onto what is to go: DELETE_PENDING, though it is open
rename_onto_what_goes : rename (own 4 3 ∷ other 9 8 ∷ []) true (codes "p")
    ≡ refused 0xC0000056 (quiet (own 4 3 ∷ other 9 8 ∷ []))
unfolding components
rename_onto_what_goes = refl

-- onto a directory, what is read-only, what is open: ACCESS_DENIED
rename_onto_a_directory : rename (own 4 3 ∷ []) true (codes "e") ≡ refused 0xC0000022 (quiet (own 4 3 ∷ []))
unfolding components
rename_onto_a_directory = refl

rename_onto_read_only : rename (own 4 3 ∷ []) true (codes "r") ≡ refused 0xC0000022 (quiet (own 4 3 ∷ []))
unfolding components
rename_onto_read_only = refl

rename_onto_what_is_open : rename (own 4 3 ∷ other 5 4 ∷ []) true (codes "B")
    ≡ refused 0xC0000022 (quiet (own 4 3 ∷ other 5 4 ∷ []))
unfolding components
rename_onto_what_is_open = refl

-- a directory with something open beneath it, to a free name or onto another entry: ACCESS_DENIED
rename_with_an_open_beneath : rename (own 2 1 ∷ other 3 2 ∷ []) true (codes "x")
    ≡ refused 0xC0000022 (quiet (own 2 1 ∷ other 3 2 ∷ []))
unfolding components
rename_with_an_open_beneath = refl

rename_onto_another_with_an_open_beneath : rename (own 2 1 ∷ other 3 2 ∷ []) true (codes "b")
    ≡ refused 0xC0000022 (quiet (own 2 1 ∷ other 3 2 ∷ []))
unfolding components
rename_onto_another_with_an_open_beneath = refl

-- ---- Rename, done

-- `a` goes into `d` as `x`
rename_moves : rename (own 4 3 ∷ []) false (codes "d\\x")
    ≡ (
      of_status 0,
      record (quiet (own 4 3 ∷ [])) {
        entries = entry_d ∷ entry_f ∷ an_entry 3 2 (codes "x") 4 false ∷ entry_b ∷ entry_l ∷ other_entries;
      },
    )
unfolding components
rename_moves = refl

-- `d` goes into `e`, and what is in it with it
rename_of_a_directory : rename (own 2 1 ∷ []) false (codes "e\\x")
    ≡ (
      of_status 0,
      record (quiet (own 2 1 ∷ [])) {
        entries = an_entry 1 7 (codes "x") 2 false ∷ entry_f ∷ entry_a ∷ entry_b ∷ entry_l ∷ other_entries;
      },
    )
unfolding components
rename_of_a_directory = refl

-- `d` is spelled `D`, also with something open beneath it, and with no replacing
rename_spells_anew : rename (own 2 1 ∷ other 3 2 ∷ []) false (codes "D")
    ≡ (
      of_status 0,
      record (quiet (own 2 1 ∷ other 3 2 ∷ [])) {
        entries = an_entry 1 1 (codes "D") 2 false ∷ entry_f ∷ entry_a ∷ entry_b ∷ entry_l ∷ other_entries;
      },
    )
unfolding components
rename_spells_anew = refl

-- `a` takes the name of `b`, and the file that was `b` is gone
rename_replaces : rename (own 4 3 ∷ []) true (codes "b")
    ≡ (
      of_status 0,
      record (quiet (own 4 3 ∷ [])) {
        entries = entry_d ∷ entry_f ∷ an_entry 3 1 (codes "b") 4 false ∷ entry_l ∷ other_entries;
        nodes = nodes_but_b;
      },
    )
unfolding components
rename_replaces = refl

-- `a` takes the name of the other entry of the same file, which is open by `a` alone
rename_onto_its_link : rename (own 4 3 ∷ []) true (codes "l")
    ≡ (
      of_status 0,
      record (quiet (own 4 3 ∷ [])) {
        entries = entry_d ∷ entry_f ∷ an_entry 3 1 (codes "l") 4 false ∷ entry_b ∷ other_entries;
      },
    )
unfolding components
rename_onto_its_link = refl

-- ---- LinkTo

-- no open of the client has this file id: FILE_CLOSED
link_by_no_open : link (other 4 3 ∷ []) false (codes "x") ≡ refused 0xC0000128 (quiet (other 4 3 ∷ []))
unfolding components
link_by_no_open = refl

-- a directory, whatever the new name: FILE_IS_A_DIRECTORY
link_of_a_directory : link (own 2 1 ∷ []) false (codes "*") ≡ refused 0xC00000BA (quiet (own 2 1 ∷ []))
unfolding components
link_of_a_directory = refl

-- `*` is no name: OBJECT_NAME_INVALID
link_to_no_name : link (reading 4 3 ∷ []) false (codes "n\\*") ≡ refused 0xC0000033 (quiet (reading 4 3 ∷ []))
unfolding components
link_to_no_name = refl

-- the directory is missing: OBJECT_PATH_NOT_FOUND
link_to_no_path : link (reading 4 3 ∷ []) true (codes "n\\x") ≡ refused 0xC000003A (quiet (reading 4 3 ∷ []))
unfolding components
link_to_no_path = refl

-- the root's path: OBJECT_NAME_COLLISION
link_to_the_root : link (reading 4 3 ∷ []) true [] ≡ refused 0xC0000035 (quiet (reading 4 3 ∷ []))
unfolding components
link_to_the_root = refl

-- the new directory is to go: DELETE_PENDING
link_into_what_goes : link (reading 4 3 ∷ []) true (codes "q\\x") ≡ refused 0xC0000056 (quiet (reading 4 3 ∷ []))
unfolding components
link_into_what_goes = refl

-- the name is there, be it the file's own: OBJECT_NAME_COLLISION, also with replacing
link_to_what_is_there : link (reading 4 3 ∷ []) false (codes "a") ≡ refused 0xC0000035 (quiet (reading 4 3 ∷ []))
unfolding components
link_to_what_is_there = refl

link_onto_what_is_there : link (reading 4 3 ∷ []) true (codes "b") ≡ refused 0xC0000035 (quiet (reading 4 3 ∷ []))
unfolding components
link_onto_what_is_there = refl

-- replacing of nothing: NOT_SUPPORTED
link_with_replacing : link (reading 4 3 ∷ []) true (codes "x") ≡ refused 0xC00000BB (quiet (reading 4 3 ∷ []))
unfolding components
link_with_replacing = refl

-- `a` is `d\x` too; the open needs no access for it
link_is_made : link (reading 4 3 ∷ []) false (codes "d\\x")
    ≡ (
      of_status 0,
      record (quiet (reading 4 3 ∷ [])) {
        entries = (entry_d ∷ entry_f ∷ entry_a ∷ entry_b ∷ entry_l ∷ other_entries) ++ an_entry 11 2 (codes "x") 4 false ∷ [];
        entries_made = 11;
      },
    )
unfolding components
link_is_made = refl

-- ---- SetPending

-- no open of the client has this file id: FILE_CLOSED
mark_by_no_open : mark (other 4 3 ∷ []) true ≡ refused 0xC0000128 (quiet (other 4 3 ∷ []))
unfolding components
mark_by_no_open = refl

-- without DELETE: ACCESS_DENIED, also for the root
mark_without_delete : mark (reading 1 0 ∷ []) true ≡ refused 0xC0000022 (quiet (reading 1 0 ∷ []))
unfolding components
mark_without_delete = refl

-- the root, and what is read-only: CANNOT_DELETE
mark_of_the_root : mark (own 1 0 ∷ []) true ≡ refused 0xC0000121 (quiet (own 1 0 ∷ []))
unfolding components
mark_of_the_root = refl

mark_of_read_only : mark (own 6 5 ∷ []) true ≡ refused 0xC0000121 (quiet (own 6 5 ∷ []))
unfolding components
mark_of_read_only = refl

-- a directory with entries: DIRECTORY_NOT_EMPTY, also where the mark is to be taken back
mark_of_a_full_directory : mark (own 2 1 ∷ []) true ≡ refused 0xC0000101 (quiet (own 2 1 ∷ []))
unfolding components
mark_of_a_full_directory = refl

no_mark_of_a_full_directory : mark (own 2 1 ∷ []) false ≡ refused 0xC0000101 (quiet (own 2 1 ∷ []))
unfolding components
no_mark_of_a_full_directory = refl

-- `b` is to go, and only `a` of the file that is `l` too
mark_is_set : mark (own 5 4 ∷ []) true
    ≡ (
      of_status 0,
      record (quiet (own 5 4 ∷ [])) {
        entries = entry_d ∷ entry_f ∷ entry_a ∷ an_entry 4 1 (codes "b") 5 true ∷ entry_l ∷ other_entries;
      },
    )
unfolding components
mark_is_set = refl

mark_of_one_name : mark (own 4 3 ∷ []) true
    ≡ (
      of_status 0,
      record (quiet (own 4 3 ∷ [])) {
        entries = entry_d ∷ entry_f ∷ an_entry 3 1 (codes "a") 4 true ∷ entry_b ∷ entry_l ∷ other_entries;
      },
    )
unfolding components
mark_of_one_name = refl

-- `p` is to stay
mark_is_taken_back : (mark (own 9 8 ∷ []) false).1.entries
    ≡ entry_d ∷ entry_f ∷ entry_a ∷ entry_b ∷ entry_l ∷ an_entry 5 1 (codes "r") 6 false ∷ an_entry 6 1 (codes "e") 7 false
    ∷ an_entry 7 1 (codes "q") 8 true ∷ an_entry 8 1 (codes "p") 9 false ∷ an_entry 9 2 (codes "g") 10 false ∷ []
unfolding components
mark_is_taken_back = refl

mark_changes_entries_alone : (mark (own 9 8 ∷ []) false).1.nodes ≡ a_node 5 false false ∷ nodes_but_b
unfolding components
mark_changes_entries_alone = refl

-- ---- breaks

abbrev a_key : ℕ → Key
a_key n = record { 0 = n ∷ n ∷ [] }

-- a lease of RWH on a node, of this client under the key of its number
abbrev a_lease : ℕ → ℕ → ℕ → Lease
a_lease who n node = record { who = record { 0 = who }; key = a_key n; node = node; state = 7; asked = None }

-- leases of client 1 on `d`, on the file and the directory in it, and on `b`, and of client 0 on `a` and `d`
abbrev leases : List Lease
leases = a_lease 1 1 2 ∷ a_lease 1 2 3 ∷ a_lease 1 3 10 ∷ a_lease 1 4 5 ∷ a_lease 0 5 4 ∷ a_lease 0 6 2 ∷ []

-- open 1 with DELETE, under the key of this number
abbrev keyed : ℕ → ℕ → ℕ → Open
keyed node entry n = an_open 1 0 node entry 0x10000 (Some (a_key n))

abbrev needs_mark : Open → Bool → List (Key × ℕ)
needs_mark o on = needs_of (the_share (o ∷ []) leases) (record { 0 = 0 }) (req.SetPending (fid_of 1) on)

abbrev needs_rename : Open → Bool → List ℕ → List (Key × ℕ)
needs_rename o replace path = needs_of (the_share (o ∷ []) leases) (record { 0 = 0 }) (req.Rename (fid_of 1) replace path)

-- H of all leases on the directory and on the file in it, but of its own: they go to RW; also where the request is then refused
a_mark_waits : needs_mark (keyed 2 1 6) true ≡ (a_key 1, 5) ∷ (a_key 2, 5) ∷ []
unfolding components
a_mark_waits = refl

a_mark_waits_for_own_keys : needs_mark (own 2 1) true ≡ (a_key 1, 5) ∷ (a_key 2, 5) ∷ (a_key 6, 5) ∷ []
unfolding components
a_mark_waits_for_own_keys = refl

-- taking the mark back waits for nothing, nor does what names no open
no_mark_waits_not : needs_mark (own 2 1) false ≡ []
unfolding components
no_mark_waits_not = refl

no_open_waits_not : needs_mark (other 2 1) true ≡ []
unfolding components
no_open_waits_not = refl

-- a Rename of the directory waits as much, whatever its new name
a_rename_waits : needs_rename (keyed 2 1 6) false (codes "*") ≡ (a_key 1, 5) ∷ (a_key 2, 5) ∷ []
unfolding components
a_rename_waits = refl

-- one that is to replace `b` waits for the lease on it; the lease of the renamed file is its own
a_replacing_rename_waits : needs_rename (keyed 4 3 5) true (codes "b") ≡ (a_key 4, 5) ∷ []
unfolding components
a_replacing_rename_waits = refl

-- without replacing it waits for none, nor where the name is missing
a_colliding_rename_waits_not : needs_rename (keyed 4 3 5) false (codes "b") ≡ []
unfolding components
a_colliding_rename_waits_not = refl

a_free_rename_waits_not : needs_rename (keyed 4 3 5) true (codes "x") ≡ []
unfolding components
a_free_rename_waits_not = refl

-- the root's path replaces nothing, nor does the entry's own name
a_rename_to_the_root_waits_not : needs_rename (keyed 4 3 5) true [] ≡ []
unfolding components
a_rename_to_the_root_waits_not = refl

a_spelling_waits_for_its_own_leases : needs_rename (own 4 3) true (codes "A") ≡ (a_key 5, 5) ∷ []
unfolding components
a_spelling_waits_for_its_own_leases = refl
