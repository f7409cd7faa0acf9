-- Reading, writing, sizes, locks and attributes at a share whose answers are known.
use Rattle.std.proofs.Common.{◌≡◌, ℕ, Bool, true, false, [], ◌∷◌, refl, None, List}
use Rattle.std.specs.Prelude.{map, codes}
use Rattle.share_state.specs.declared.lock.Lock.{Lock}
use Rattle.share_state.specs.declared.node.Node.{Node}
use Rattle.share_state.specs.declared.opens.Open.{Open}
use Rattle.share_state.specs.declared.request.Who.{Who}
use Rattle.share_state.specs.declared.request.Rep.{Rep}
use Rattle.share_state.specs.declared.request.RepBody.TheVariants as body
use Rattle.share_state.specs.declared.request.Req.{Req}
use Rattle.share_state.specs.declared.request.Req.TheVariants as req
use Rattle.share_state.specs.declared.share.Share.{Share}
use Rattle.share_state.specs.State.{fresh_share, is_read_only}
use Rattle.share_state.specs.Data.{bytes_of, written, resized}
use Rattle.share_state.specs.Ranges.{overlaps}
use Rattle.share_state.specs.Reply.{of_status, fid_of}
use Rattle.share_state.specs.Step.{step_of}

abbrev us : Who
us = record { 0 = 0 }

abbrev other : Who
other = record { 0 = 1 }

-- an open of a node, which shares everything
abbrev opened : ℕ → Who → ℕ → ℕ → Open
opened number who node access = record {
  number = number;
  who = who;
  node = node;
  entry = 0;
  access = access;
  share = 7;
  key = None;
  durable = false;
  connected = true;
  delete_on_close = false;
  snapshot = None;
}

abbrev locked : ℕ → ℕ → ℕ → Bool → Lock
locked holder offset size exclusive = record { holder = holder; offset = offset; length = size; exclusive = exclusive }

-- room for 10 bytes; file 2 has the bytes 1 to 4, file 3 has two more. Ours: open 1 reads and writes file 2, open 2 reads it alone, open 3
-- may change attributes alone, open 4 reads and writes the root, which is a directory, open 6 adds to file 2 at its end. Another's: open 5
-- reads and writes file 2
abbrev start : List Lock → Share
start locks = record (fresh_share 10 false) {
  nodes = record { number = 1; dir = true; bytes = []; read_only = false }
      ∷ record { number = 2; dir = false; bytes = 1 ∷ 2 ∷ 3 ∷ 4 ∷ []; read_only = false }
      ∷ record { number = 3; dir = false; bytes = 8 ∷ 9 ∷ []; read_only = false } ∷ [];
  opens = opened 1 us 2 3 ∷ opened 2 us 2 1 ∷ opened 3 us 2 0x100 ∷ opened 4 us 1 3 ∷ opened 5 other 2 3 ∷ opened 6 us 2 4 ∷ [];
  locks = locks;
}

abbrev answer : List Lock → Req → Rep
answer locks r = (step_of None (start locks) us r).0

-- what each request gives on the share with these locks, and what it is to give
abbrev given : List Lock → List (Req × Rep) → List Rep
given locks rows = map (λ (row : Req × Rep). answer locks row.0) rows

abbrev wanted : List (Req × Rep) → List Rep
wanted rows = map (λ (row : Req × Rep). row.1) rows

abbrev bytes : List ℕ → Rep
bytes held = record { status = record { 0 = 0 }; body = body.Bytes held }

abbrev count : ℕ → Rep
count n = record { status = record { 0 = 0 }; body = body.Count n }

-- Read: within the file, over its end, behind its end, no byte behind its end, without READ_DATA, of a directory, of another's open
abbrev reads : List (Req × Rep)
reads =
    (req.Read (fid_of 1) 1 2, bytes (2 ∷ 3 ∷ []))
    ∷ (req.Read (fid_of 2) 2 9, bytes (3 ∷ 4 ∷ []))
    ∷ (req.Read (fid_of 1) 4 1, of_status 0xC0000011)
    ∷ (req.Read (fid_of 1) 9 0, bytes [])
    ∷ (req.Read (fid_of 3) 0 1, of_status 0xC0000022)
    ∷ (req.Read (fid_of 4) 0 1, of_status 0xC0000022)
    ∷ (req.Read (fid_of 5) 0 1, of_status 0xC0000128)
    ∷ []

each_read : given [] reads ≡ wanted reads
each_read = refl

-- where another open holds a lock on the bytes 1 and 2: an exclusive one keeps reads of them out, a shared one does not, and neither
-- keeps out what lies beside them
abbrev beside_exclusive : List (Req × Rep)
beside_exclusive =
    (req.Read (fid_of 1) 0 2, of_status 0xC0000054)
    ∷ (req.Read (fid_of 1) 2 1, of_status 0xC0000054)
    ∷ (req.Read (fid_of 1) 0 1, bytes (1 ∷ []))
    ∷ (req.Read (fid_of 1) 3 9, bytes (4 ∷ []))
    ∷ (req.Write (fid_of 1) 2 (7 ∷ []), of_status 0xC0000054)
    ∷ (req.Write (fid_of 1) 3 (7 ∷ []), count 1)
    ∷ (req.SetEnd (fid_of 1) 2, of_status 0xC0000054)
    ∷ (req.SetEnd (fid_of 1) 3, of_status 0)
    ∷ (req.Lock (fid_of 1) 2 1 false, of_status 0xC0000055)
    ∷ (req.Lock (fid_of 1) 3 1 true, of_status 0)
    ∷ []

each_beside_exclusive : given (locked 5 1 2 true ∷ []) beside_exclusive ≡ wanted beside_exclusive
each_beside_exclusive = refl

abbrev beside_shared : List (Req × Rep)
beside_shared =
    (req.Read (fid_of 1) 0 2, bytes (1 ∷ 2 ∷ []))
    ∷ (req.Write (fid_of 1) 2 (7 ∷ []), of_status 0xC0000054)
    ∷ (req.Lock (fid_of 2) 2 1 false, of_status 0)
    ∷ (req.Lock (fid_of 2) 2 1 true, of_status 0xC0000055)
    ∷ []

each_beside_shared : given (locked 5 1 2 false ∷ []) beside_shared ≡ wanted beside_shared
each_beside_shared = refl

-- one's own exclusive lock lets one read and write, one's own shared one does not let one write; a second lock on it is refused all the same
abbrev under_own_exclusive : List (Req × Rep)
under_own_exclusive =
    (req.Read (fid_of 1) 1 2, bytes (2 ∷ 3 ∷ []))
    ∷ (req.Write (fid_of 1) 1 (7 ∷ []), count 1)
    ∷ (req.Lock (fid_of 1) 2 9 false, of_status 0xC0000055)
    ∷ (req.Unlock (fid_of 1) 1 2, of_status 0)
    ∷ (req.Unlock (fid_of 1) 1 1, of_status 0xC000007E)
    ∷ (req.Unlock (fid_of 2) 1 2, of_status 0xC000007E)
    ∷ []

each_under_own_exclusive : given (locked 1 1 2 true ∷ []) under_own_exclusive ≡ wanted under_own_exclusive
each_under_own_exclusive = refl

under_own_shared : answer (locked 1 1 2 false ∷ []) (req.Write (fid_of 1) 1 (7 ∷ [])) ≡ of_status 0xC0000054
under_own_shared = refl

-- Write, a new size, Flush and Room: 6 of 10 bytes are used, so that file 2 may grow to 8
abbrev others : List (Req × Rep)
others =
    (req.Write (fid_of 1) 6 (7 ∷ 7 ∷ []), count 2)
    ∷ (req.Write (fid_of 1) 7 (7 ∷ 7 ∷ []), of_status 0xC000007F)
    ∷ (req.Write (fid_of 1) 0xFFFFFFFFFFFFFFFF [], count 0)
    ∷ (req.Write (fid_of 1) 0xFFFFFFFFFFFFFFFF (7 ∷ []), of_status 0xC000007F)
    ∷ (req.Write (fid_of 2) 0 (7 ∷ []), of_status 0xC0000022)
    ∷ (req.Write (fid_of 4) 0 (7 ∷ []), of_status 0xC0000022)
    ∷ (req.Write (fid_of 6) 4 (7 ∷ []), of_status 0xC0000022)
    ∷ (req.Write (fid_of 7) 0 (7 ∷ []), of_status 0xC0000128)
    ∷ (req.SetEnd (fid_of 1) 8, of_status 0)
    ∷ (req.SetEnd (fid_of 1) 9, of_status 0xC000007F)
    ∷ (req.SetEnd (fid_of 2) 0, of_status 0xC0000022)
    ∷ (req.SetEnd (fid_of 4) 0, of_status 0xC0000022)
    ∷ (req.SetEnd (fid_of 7) 0, of_status 0xC0000128)
    ∷ (req.Flush (fid_of 1), of_status 0)
    ∷ (req.Flush (fid_of 6), of_status 0)
    ∷ (req.Flush (fid_of 2), of_status 0xC0000022)
    ∷ (req.Flush (fid_of 7), of_status 0xC0000128)
    ∷ (req.Room (fid_of 2), record { status = record { 0 = 0 }; body = body.Room 10 4 })
    ∷ (req.Room (fid_of 7), of_status 0xC0000128)
    ∷ (req.Lock (fid_of 1) 0 0 true, of_status 0xC000000D)
    ∷ (req.Lock (fid_of 3) 0 1 true, of_status 0xC0000022)
    ∷ (req.Lock (fid_of 7) 0 1 true, of_status 0xC0000128)
    ∷ (req.Unlock (fid_of 7) 0 1, of_status 0xC0000128)
    ∷ (req.SetBasic (fid_of 3) 1, of_status 0)
    ∷ (req.SetBasic (fid_of 1) 1, of_status 0xC0000022)
    ∷ (req.SetBasic (fid_of 7) 1, of_status 0xC0000128)
    ∷ []

each_other : given [] others ≡ wanted others
each_other = refl

-- what the files hold afterwards
abbrev held : Req → ℕ → List ℕ
held r n = bytes_of (step_of None (start []) us r).1.nodes n

written_over : held (req.Write (fid_of 1) 1 (7 ∷ 7 ∷ [])) 2 ≡ 1 ∷ 7 ∷ 7 ∷ 4 ∷ []
written_over = refl

written_over_the_end : held (req.Write (fid_of 1) 3 (7 ∷ 7 ∷ [])) 2 ≡ 1 ∷ 2 ∷ 3 ∷ 7 ∷ 7 ∷ []
written_over_the_end = refl

-- a gap is zeros
written_behind_the_end : held (req.Write (fid_of 1) 6 (7 ∷ [])) 2 ≡ 1 ∷ 2 ∷ 3 ∷ 4 ∷ 0 ∷ 0 ∷ 7 ∷ []
written_behind_the_end = refl

nothing_written : held (req.Write (fid_of 1) 9 []) 2 ≡ 1 ∷ 2 ∷ 3 ∷ 4 ∷ []
nothing_written = refl

cut_off : held (req.SetEnd (fid_of 1) 1) 2 ≡ 1 ∷ []
cut_off = refl

filled_up : held (req.SetEnd (fid_of 1) 6) 2 ≡ 1 ∷ 2 ∷ 3 ∷ 4 ∷ 0 ∷ 0 ∷ []
filled_up = refl

the_other_file : held (req.Write (fid_of 1) 0 (7 ∷ [])) 3 ≡ 8 ∷ 9 ∷ []
the_other_file = refl

refused_write : held (req.Write (fid_of 2) 0 (7 ∷ [])) 2 ≡ 1 ∷ 2 ∷ 3 ∷ 4 ∷ []
refused_write = refl

-- the locks afterwards: a Lock comes last, an Unlock takes the first alone that is exactly it
abbrev locks_after : List Lock → Req → List Lock
locks_after locks r = (step_of None (start locks) us r).1.locks

one_more_lock : locks_after (locked 5 0 1 false ∷ []) (req.Lock (fid_of 1) 2 2 true) ≡ locked 5 0 1 false ∷ locked 1 2 2 true ∷ []
one_more_lock = refl

one_lock_less : locks_after (locked 1 0 1 false ∷ locked 1 2 2 false ∷ locked 1 2 2 false ∷ []) (req.Unlock (fid_of 1) 2 2)
    ≡ locked 1 0 1 false ∷ locked 1 2 2 false ∷ []
one_lock_less = refl

-- a range may end at the last byte that a number can tell, and one without a byte overlaps none
far_ranges : overlaps 0xFFFFFFFFFFFFFFFF 2 0xFFFFFFFFFFFFFFFF 1 ∷ overlaps 0 0xFFFFFFFFFFFFFFFF 0xFFFFFFFFFFFFFFFF 1 ∷ overlaps 1 0 0 9 ∷ overlaps 0 9 1 0 ∷ []
    ≡ true ∷ false ∷ false ∷ false ∷ []
far_ranges = refl

-- the read-only mark afterwards: 1 sets it, any other but 0 takes it off, and 0 leaves it
abbrev marked_after : Bool → ℕ → Bool
marked_after before attributes = is_read_only (step_of None (record (start []) {
  nodes = record { number = 2; dir = false; bytes = []; read_only = before } ∷ [];
}) us (req.SetBasic (fid_of 3) attributes)).1.nodes 2

read_only_marks : marked_after false 1 ∷ marked_after true 0x80 ∷ marked_after true 0 ∷ marked_after false 0 ∷ []
    ≡ true ∷ false ∷ true ∷ false ∷ []
read_only_marks = refl
