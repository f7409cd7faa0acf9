-- Lock and Unlock (MS-FSA 2.1.5.8, 2.1.5.9).
use Rattle.std.specs.Prelude.{ℕ, ◌==◌, Bool, not, ◌&&◌, if◌then◌else◌, List, [], ◌∷◌, ◌++◌, Option, Some, None}
use Rattle.std.specs.List.{list_any}
use Rattle.smb_base.specs.declared.names.Fid.{Fid}
use Rattle.share_state.specs.declared.lock.Lock.{Lock}
use Rattle.share_state.specs.declared.opens.Open.{Open}
use Rattle.share_state.specs.declared.request.Who.{Who}
use Rattle.share_state.specs.declared.request.Rep.{Rep}
use Rattle.share_state.specs.declared.share.Share.{Share}
use Rattle.share_state.specs.State.{has}
use Rattle.share_state.specs.Close.{open_of}
use Rattle.share_state.specs.On.{on_open}
use Rattle.share_state.specs.Ranges.{is_taken_range}
use Rattle.share_state.specs.Reply.{of_status, unless}

-- why a Lock is refused: it needs READ_DATA or WRITE_DATA, and a range that has a byte and is not taken
abbrev pub refusal_of_lock : Share → Open → ℕ → ℕ → Bool → Option ℕ
refusal_of_lock s o offset length exclusive =
    if not (has o.access 3) then Some 0xC0000022  -- ACCESS_DENIED
    else if length == 0 then Some 0xC000000D  -- INVALID_PARAMETER
    else if is_taken_range s o offset length exclusive then Some 0xC0000055  -- LOCK_NOT_GRANTED
    else None

-- the share with one more lock
abbrev pub with_lock : Lock → Share → Share
with_lock l s = record s { locks = s.locks ++ l ∷ [] }

abbrev pub lock_of : Share → Who → Fid → ℕ → ℕ → Bool → Rep × Share
lock_of s who fid offset length exclusive =
    on_open (open_of s.opens who fid) s (λ o. unless (refusal_of_lock s o offset length exclusive) s
    (of_status 0, with_lock (record { holder = o.number; offset = offset; length = length; exclusive = exclusive }) s))

-- a lock is this open's, and on exactly this range
abbrev pub is_exactly : ℕ → ℕ → ℕ → Lock → Bool
is_exactly holder offset length l = l.holder == holder && l.offset == offset && l.length == length

-- the locks without the first that is this open's on exactly this range
abbrev pub unlocked : ℕ → ℕ → ℕ → List Lock → List Lock
unlocked holder offset length [] = []
unlocked holder offset length (l ∷ ls) = if is_exactly holder offset length l then ls else l ∷ unlocked holder offset length ls

-- why an Unlock is refused: the open holds no lock on exactly this range
abbrev pub refusal_of_unlock : Share → Open → ℕ → ℕ → Option ℕ
refusal_of_unlock s o offset length =
    if list_any (is_exactly o.number offset length) s.locks then None else Some 0xC000007E  -- RANGE_NOT_LOCKED

abbrev pub unlock_of : Share → Who → Fid → ℕ → ℕ → Rep × Share
unlock_of s who fid offset length =
    on_open (open_of s.opens who fid) s (λ o. unless (refusal_of_unlock s o offset length) s
    (of_status 0, record s { locks = unlocked o.number offset length s.locks }))
