-- New names: Rename and LinkTo (MS-FSA 2.1.5.15.11, 2.1.5.15.6).
use Rattle.std.specs.Prelude.{ℕ, ◌==◌, ◌+◌, Bool, false, not, ◌&&◌, ◌||◌, if◌then◌else◌, List, [], ◌∷◌, ◌++◌, map, filter, Option, Some, None}
use Rattle.std.specs.List.{list_any, list_all}
use Rattle.smb_base.specs.declared.names.Fid.{Fid}
use Rattle.share_state.specs.declared.entry.Entry.{Entry}
use Rattle.share_state.specs.declared.opens.Open.{Open}
use Rattle.share_state.specs.declared.place.Found.{Found}
use Rattle.share_state.specs.declared.place.Place.{Place}
use Rattle.share_state.specs.declared.place.Place.TheVariants.{NoPath, Missing, There}
use Rattle.share_state.specs.declared.request.Who.{Who}
use Rattle.share_state.specs.declared.request.Rep.{Rep}
use Rattle.share_state.specs.declared.share.Share.{Share}
use Rattle.share_state.specs.Names.{is_name, components}
use Rattle.share_state.specs.State.{edited, has, is_directory, is_read_only, is_pending, is_going, has_open_of_entry}
use Rattle.share_state.specs.Place.{place_of}
use Rattle.share_state.specs.Tree.{is_beneath, is_entry_beneath}
use Rattle.share_state.specs.Close.{open_of, kept_nodes}
use Rattle.share_state.specs.On.{on_open}
use Rattle.share_state.specs.Create.{or_else}
use Rattle.share_state.specs.Reply.{of_status, unless}

-- the last component of a path
abbrev pub last_name : List (List ℕ) → List ℕ
last_name [] = []
last_name (name ∷ []) = name
last_name (name ∷ next ∷ names) = last_name (next ∷ names)

-- the directory that has this entry
abbrev pub directory_of : List Entry → ℕ → ℕ
directory_of [] n = 0
directory_of (e ∷ es) n = if e.number == n then e.directory else directory_of es n

-- the directory that a new name would be in, given where its path leads
abbrev pub directory_at : Share → Place → ℕ
directory_at s NoPath = 0
directory_at s (Missing d name) = d
directory_at s (There f) = directory_of s.entries f.entry

-- the entry that has the new name already; 0 where none does
abbrev pub entry_at : Place → ℕ
entry_at NoPath = 0
entry_at (Missing d name) = 0
entry_at (There f) = f.entry

-- why a place cannot be that of a new name: a component before the last is missing or no directory; or it is the root's
abbrev pub refusal_of_place : Place → Option ℕ
refusal_of_place NoPath = Some 0xC000003A  -- OBJECT_PATH_NOT_FOUND
refusal_of_place (Missing d name) = None
refusal_of_place (There f) = if f.entry == 0 then Some 0xC0000035 else None  -- OBJECT_NAME_COLLISION

-- why a path cannot be a new name: a component is no name; or its place is none
abbrev pub refusal_of_path : Share → List (List ℕ) → Option ℕ
refusal_of_path s names =
    if not (list_all is_name names) then Some 0xC0000033  -- OBJECT_NAME_INVALID
    else refusal_of_place (place_of s names)

-- some open was made by an entry beneath a directory
abbrev pub has_open_beneath : Share → ℕ → Bool
has_open_beneath s node = list_any (λ o. is_entry_beneath s.entries node o.entry) s.opens

-- why an open's entry cannot have any other name
abbrev pub refusal_of_renaming : Share → Open → Option ℕ
refusal_of_renaming s o =
    if not (has o.access 0x10000) || o.node == 1 then Some 0xC0000022  -- DELETE, and not the root: ACCESS_DENIED
    else if is_pending s.entries o.entry then Some 0xC0000056  -- DELETE_PENDING
    else None

-- why an entry cannot come into a directory: that one is to go, or it is the renamed one or lies within it
abbrev pub refusal_of_directory : Share → Open → ℕ → Option ℕ
refusal_of_directory s o d =
    if is_going s.entries d then Some 0xC0000056  -- DELETE_PENDING
    else if d == o.node || is_beneath s.entries s.entries o.node d then Some 0xC000000D  -- INVALID_PARAMETER
    else None

-- why another entry cannot be replaced
abbrev pub refusal_of_replacing : Share → Bool → Found → Option ℕ
refusal_of_replacing s replace f =
    if not replace then Some 0xC0000035  -- OBJECT_NAME_COLLISION
    else if is_pending s.entries f.entry then Some 0xC0000056  -- DELETE_PENDING
    else if is_directory s.nodes f.node || is_read_only s.nodes f.node || has_open_of_entry s.opens f.entry
    then Some 0xC0000022  -- ACCESS_DENIED
    else None

-- why a directory cannot get another place: something beneath it is open
abbrev pub refusal_of_moving : Share → Open → Option ℕ
refusal_of_moving s o = if has_open_beneath s o.node then Some 0xC0000022 else None  -- ACCESS_DENIED

-- why an entry cannot get the name at this place; its own name may be spelled in another way
abbrev pub refusal_of_target : Share → Open → Bool → Place → Option ℕ
refusal_of_target s o replace NoPath = None
refusal_of_target s o replace (Missing d name) = refusal_of_moving s o
refusal_of_target s o replace (There f) =
    if f.entry == o.entry then None else or_else (refusal_of_replacing s replace f) (refusal_of_moving s o)

-- why a Rename is refused, the first reason of all
abbrev pub refusal_of_rename : Share → Open → Bool → List (List ℕ) → Option ℕ
refusal_of_rename s o replace names =
    or_else (refusal_of_renaming s o)
    (or_else (refusal_of_path s names)
    (or_else (refusal_of_directory s o (directory_at s (place_of s names)))
    (refusal_of_target s o replace (place_of s names))))

-- the entries, this one with this directory and name
abbrev pub with_name : ℕ → ℕ → List ℕ → List Entry → List Entry
with_name n d name entries = edited (λ e. e.number == n) (λ e. record e { directory = d; name = name }) entries

-- the entries but the one with this number, which is replaced, unless it is the renamed one itself
abbrev pub without_replaced : ℕ → ℕ → List Entry → List Entry
without_replaced n replaced entries = filter (λ e. e.number == n || not (e.number == replaced)) entries

-- the share once an entry has this directory and name in place of its own, and of another entry that had them; a node that no entry
-- stands for any more, and that is not open, is gone
abbrev pub renamed : Share → ℕ → ℕ → List ℕ → ℕ → Share
renamed s n d name replaced =
    let entries : List Entry = with_name n d name (without_replaced n replaced s.entries) in
    record s { entries = entries; nodes = kept_nodes s.opens entries s.nodes }

-- a Rename to the path with these components
abbrev pub rename_to : Share → Open → Bool → List (List ℕ) → Rep × Share
rename_to s o replace names =
    unless (refusal_of_rename s o replace names) s
    (of_status 0, renamed s o.entry (directory_at s (place_of s names)) (last_name names) (entry_at (place_of s names)))

abbrev pub rename_of : Share → Who → Fid → Bool → List ℕ → Rep × Share
rename_of s who fid replace path = on_open (open_of s.opens who fid) s (λ o. rename_to s o replace (components path))

-- why a place cannot be that of a link: it is to be free, and replacing is not supported
abbrev pub refusal_of_link_at : Share → Bool → Place → Option ℕ
refusal_of_link_at s replace at =
    if is_going s.entries (directory_at s at) then Some 0xC0000056  -- the directory is to go: DELETE_PENDING
    else if not (entry_at at == 0) then Some 0xC0000035  -- OBJECT_NAME_COLLISION
    else if replace then Some 0xC00000BB  -- NOT_SUPPORTED
    else None

-- why a LinkTo is refused, the first reason of all
abbrev pub refusal_of_link : Share → Open → Bool → List (List ℕ) → Option ℕ
refusal_of_link s o replace names =
    if is_directory s.nodes o.node then Some 0xC00000BA  -- FILE_IS_A_DIRECTORY
    else or_else (refusal_of_path s names) (refusal_of_link_at s replace (place_of s names))

-- the share with one more entry of a node
abbrev pub with_link : Share → ℕ → ℕ → List ℕ → Share
with_link s node d name = record s {
  entries = s.entries ++ record { number = s.entries_made + 1; directory = d; name = name; node = node; pending = false } ∷ [];
  entries_made = s.entries_made + 1;
}

-- one more entry, under the path with these components
abbrev pub link_to : Share → Open → Bool → List (List ℕ) → Rep × Share
link_to s o replace names =
    unless (refusal_of_link s o replace names) s
    (of_status 0, with_link s o.node (directory_at s (place_of s names)) (last_name names))

abbrev pub link_of : Share → Who → Fid → Bool → List ℕ → Rep × Share
link_of s who fid replace path = on_open (open_of s.opens who fid) s (λ o. link_to s o replace (components path))
