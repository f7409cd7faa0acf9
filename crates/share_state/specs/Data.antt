-- Read, Write, Flush, and the end of a file (MS-FSA 2.1.5.3, 2.1.5.4, 2.1.5.7, 2.1.5.15.4).
use Rattle.std.specs.Prelude.{ℕ, ◌+◌, ◌-◌, ◌==◌, min, max, Bool, true, false, not, ◌&&◌, ◌||◌, nat_le, nat_lt, if◌then◌else◌, List, [], ◌∷◌, ◌++◌, map, length, take, drop, replicate, Option, Some, None}
use Rattle.std.specs.List.{sum_by}
use Rattle.smb_base.specs.declared.names.Fid.{Fid}
use Rattle.share_state.specs.declared.node.Node.{Node}
use Rattle.share_state.specs.declared.opens.Open.{Open}
use Rattle.share_state.specs.declared.request.Who.{Who}
use Rattle.share_state.specs.declared.request.Rep.{Rep}
use Rattle.share_state.specs.declared.request.RepBody.TheVariants as body
use Rattle.share_state.specs.declared.share.Share.{Share}
use Rattle.share_state.specs.State.{edited, has, is_directory, size_of}
use Rattle.share_state.specs.Close.{open_of}
use Rattle.share_state.specs.On.{on_open}
use Rattle.share_state.specs.Ranges.{is_read_locked, is_write_locked}
use Rattle.share_state.specs.Reply.{of_status, unless}

-- the bytes of this node
abbrev pub bytes_of : List Node → ℕ → List ℕ
bytes_of [] n = []
bytes_of (x ∷ xs) n = if x.number == n then x.bytes else bytes_of xs n

-- the bytes that all files have together
abbrev pub used : List Node → ℕ
used nodes = sum_by (λ x. length x.bytes) nodes

-- the free room: what the files leave of the room
abbrev pub free_room : Share → ℕ
free_room s = s.room - used s.nodes

-- the open is of a file, and has one of these kinds of access
abbrev pub is_data_open : Share → Open → ℕ → Bool
is_data_open s o access = has o.access access && not (is_directory s.nodes o.node)

-- the nodes, with the bytes of this one changed so
abbrev pub with_bytes : ℕ → (List ℕ → List ℕ) → List Node → List Node
with_bytes n change nodes = edited (λ x. x.number == n) (λ x. record x { bytes = change x.bytes }) nodes

-- the share, with the bytes of this node changed so
abbrev pub changed : ℕ → (List ℕ → List ℕ) → Share → Share
changed n change s = record s { nodes = with_bytes n change s.nodes }

-- why a Read is refused
abbrev pub refusal_of_read : Share → Open → ℕ → ℕ → Option ℕ
refusal_of_read s o offset length =
    if not (is_data_open s o 1) then Some 0xC0000022  -- READ_DATA: ACCESS_DENIED
    else if is_read_locked s o offset length then Some 0xC0000054  -- FILE_LOCK_CONFLICT
    else if nat_lt 0 length && nat_le (size_of s.nodes o.node) offset then Some 0xC0000011  -- END_OF_FILE
    else None

-- the bytes from an offset on, as many as are asked for and there
abbrev pub read_reply : Share → Open → ℕ → ℕ → Rep
read_reply s o offset length = record { status = record { 0 = 0 }; body = body.Bytes (take length (drop offset (bytes_of s.nodes o.node))) }

abbrev pub read_of : Share → Who → Fid → ℕ → ℕ → Rep × Share
read_of s who fid offset length =
    on_open (open_of s.opens who fid) s (λ o. unless (refusal_of_read s o offset length) s (read_reply s o offset length, s))

-- these bytes cut off at a size, or with zeros up to it
abbrev pub resized : ℕ → List ℕ → List ℕ
resized size bytes = take size bytes ++ replicate (size - length bytes) 0

-- these bytes once others are written from an offset on; a gap before them is filled with zeros. No byte written changes nothing
abbrev pub written : ℕ → List ℕ → List ℕ → List ℕ
written offset others bytes =
    if length others == 0 then bytes else resized offset bytes ++ (others ++ drop (offset + length others) bytes)

-- how many bytes a file of this size gets more by a write of so many from an offset on
abbrev pub growth : ℕ → ℕ → ℕ → ℕ
growth size offset count = if count == 0 then 0 else offset + count - size

-- why a Write of so many bytes is refused
abbrev pub refusal_of_write : Share → Open → ℕ → ℕ → Option ℕ
refusal_of_write s o offset count =
    if not (is_data_open s o 2) then Some 0xC0000022  -- WRITE_DATA: ACCESS_DENIED
    else if is_write_locked s o offset count then Some 0xC0000054  -- FILE_LOCK_CONFLICT
    else if nat_lt (free_room s) (growth (size_of s.nodes o.node) offset count) then Some 0xC000007F  -- DISK_FULL
    else None

-- the reply to a Write: how many bytes were written
abbrev pub count_reply : ℕ → Rep
count_reply count = record { status = record { 0 = 0 }; body = body.Count count }

abbrev pub write_of : Share → Who → Fid → ℕ → List ℕ → Rep × Share
write_of s who fid offset bytes =
    on_open (open_of s.opens who fid) s (λ o. unless (refusal_of_write s o offset (length bytes)) s
    (count_reply (length bytes), changed o.node (written offset bytes) s))

-- why a new size is refused: as a Write is, over the bytes that come or go
abbrev pub refusal_of_end : Share → Open → ℕ → Option ℕ
refusal_of_end s o size =
    if not (is_data_open s o 2) then Some 0xC0000022  -- WRITE_DATA: ACCESS_DENIED
    else if is_write_locked s o (min size (size_of s.nodes o.node)) (max size (size_of s.nodes o.node) - min size (size_of s.nodes o.node))
    then Some 0xC0000054  -- FILE_LOCK_CONFLICT
    else if nat_lt (free_room s) (size - size_of s.nodes o.node) then Some 0xC000007F  -- DISK_FULL
    else None

-- a file gets this size
abbrev pub end_of : Share → Who → Fid → ℕ → Rep × Share
end_of s who fid size =
    on_open (open_of s.opens who fid) s (λ o. unless (refusal_of_end s o size) s (of_status 0, changed o.node (resized size) s))

-- why a Flush is refused: it needs WRITE_DATA or APPEND_DATA
abbrev pub refusal_of_flush : Open → Option ℕ
refusal_of_flush o = if has o.access 6 then None else Some 0xC0000022  -- ACCESS_DENIED

abbrev pub flush_of : Share → Who → Fid → Rep × Share
flush_of s who fid = on_open (open_of s.opens who fid) s (λ o. unless (refusal_of_flush o) s (of_status 0, s))

-- the room of the share, and what of it is free
abbrev pub room_reply : Share → Rep
room_reply s = record { status = record { 0 = 0 }; body = body.Room s.room (free_room s) }

abbrev pub room_of : Share → Who → Fid → Rep × Share
room_of s who fid = on_open (open_of s.opens who fid) s (λ o. (room_reply s, s))
