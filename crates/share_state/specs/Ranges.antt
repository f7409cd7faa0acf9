-- Ranges of bytes, and the locks on them (MS-FSA 2.1.4.10).
use Rattle.std.specs.Prelude.{ℕ, ◌+◌, ◌==◌, max, Bool, not, ◌&&◌, ◌||◌, nat_lt, List}
use Rattle.std.specs.List.{list_any}
use Rattle.share_state.specs.declared.lock.Lock.{Lock}
use Rattle.share_state.specs.declared.opens.Open.{Open}
use Rattle.share_state.specs.declared.share.Share.{Share}

-- two ranges, each with its first byte and its length, have a byte in common: the later of the two first bytes is in both
abbrev pub overlaps : ℕ → ℕ → ℕ → ℕ → Bool
overlaps one length other size = nat_lt (max one other) (one + length) && nat_lt (max one other) (other + size)

-- the open that holds a lock is of this node
abbrev pub is_lock_on : List Open → ℕ → Lock → Bool
is_lock_on opens node l = list_any (λ o. o.number == l.holder && o.node == node) opens

-- a lock is on the file of an open and has a byte of this range
abbrev pub is_in_range : Share → Open → ℕ → ℕ → Lock → Bool
is_in_range s o offset length l = is_lock_on s.opens o.node l && overlaps offset length l.offset l.length

-- the open may not read all of this range: another one holds an exclusive lock on some of it
abbrev pub is_read_locked : Share → Open → ℕ → ℕ → Bool
is_read_locked s o offset length =
    list_any (λ l. l.exclusive && not (l.holder == o.number) && is_in_range s o offset length l) s.locks

-- the open may not write all of this range: another one holds a lock on some of it, or it holds a shared one itself
abbrev pub is_write_locked : Share → Open → ℕ → ℕ → Bool
is_write_locked s o offset length =
    list_any (λ l. (not l.exclusive || not (l.holder == o.number)) && is_in_range s o offset length l) s.locks

-- a lock on this range would meet another one, and one of the two is exclusive, whoever holds the other
abbrev pub is_taken_range : Share → Open → ℕ → ℕ → Bool → Bool
is_taken_range s o offset length exclusive = list_any (λ l. (exclusive || l.exclusive) && is_in_range s o offset length l) s.locks
