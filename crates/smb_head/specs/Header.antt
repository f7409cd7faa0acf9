-- The header that begins each message (MS-SMB2 2.2.1.1 and 2.2.1.2): 64 bytes, every number with its lowest byte first.
use Rattle.std.specs.Prelude.{◌≡◌, ◌==◌, ◌^◌, ◌<◌, ◌≤◌, ℕ, Bool, true, false, not, ◌&&◌, List, ◌++◌, length, replicate, bit_and, nat_lt, if◌then◌else◌, Result, Ok, Err}
use Rattle.smb_le.specs.Numbers.{number_at, bytes_of}
use Rattle.smb_head.specs.declared.head.TheConstants.{PROTOCOL}
use Rattle.smb_head.specs.declared.head.Head.{Head}
use Rattle.smb_head.specs.declared.head.Route.{Route}
use Rattle.smb_head.specs.declared.head.Route.TheVariants.{Sync, Async}
use Rattle.smb_head.specs.declared.head.HeadFault.{HeadFault}
use Rattle.smb_head.specs.declared.head.HeadFault.TheVariants.{Short, Magic, Size}

-- flags with the flag ASYNC
abbrev pub has_async : ℕ → Bool
has_async flags = bit_and flags 2 == 2

-- whether a route is an AsyncId
abbrev pub is_async : Route → Bool
is_async (Sync tree) = false
is_async (Async id) = true

-- the route is an AsyncId exactly where the flag ASYNC is set
abbrev pub IsRouted : Head → Type 0
IsRouted head = is_async head.route ≡ has_async head.flags.0

-- under these flags: AsyncId, 8 bytes at 32, or TreeId, 4 bytes at 36
abbrev pub route_at : ℕ → List ℕ → Route
route_at flags bytes = if has_async flags then Async (number_at 8 32 bytes) else Sync (number_at 4 36 bytes)

-- each field at its place
unfoldable pub head_at : List ℕ → Head
head_at bytes = record {
  charge = number_at 2 6 bytes;
  status = record { 0 = number_at 4 8 bytes };
  command = number_at 2 12 bytes;
  credits = number_at 2 14 bytes;
  flags = record { 0 = number_at 4 16 bytes };
  next = number_at 4 20 bytes;
  mid = record { 0 = number_at 8 24 bytes };
  route = route_at (number_at 4 16 bytes) bytes;
  session = number_at 8 40 bytes;
}

-- the bytes begin with this head
pub record IsHeader (head : Head) (bytes : List ℕ) : Type 0 where
  pub long_enough : 64 ≤ length bytes
  pub protocol : number_at 4 0 bytes ≡ PROTOCOL
  pub size : number_at 2 4 bytes ≡ 64
  pub fields : head ≡ head_at bytes

-- the head that bytes begin with, or the first fault: Short, Magic, Size
unfoldable pub head_of : List ℕ → Result Head HeadFault
head_of bytes =
    if nat_lt (length bytes) 64 then Err Short
    else (if number_at 4 0 bytes == PROTOCOL then (if number_at 2 4 bytes == 64 then Ok (head_at bytes) else Err Size) else Err Magic)

-- the 8 bytes from 32 on: four reserved bytes and TreeId, or AsyncId
abbrev pub route_bytes : Route → List ℕ
route_bytes (Sync tree) = bytes_of 4 0 ++ bytes_of 4 tree
route_bytes (Async id) = bytes_of 8 id

-- the one spelling: the signature and the reserved bytes are zero
unfoldable pub header : Head → List ℕ
header head =
    bytes_of 4 PROTOCOL ++ (bytes_of 2 64 ++ (bytes_of 2 head.charge ++ (bytes_of 4 head.status.0
    ++ (bytes_of 2 head.command ++ (bytes_of 2 head.credits ++ (bytes_of 4 head.flags.0 ++ (bytes_of 4 head.next
    ++ (bytes_of 8 head.mid.0 ++ (route_bytes head.route ++ (bytes_of 8 head.session ++ replicate 16 0))))))))))

-- the id of a route fits its width
abbrev pub FitsRoute : Route → Type 0
FitsRoute (Sync tree) = tree < 2 ^ 32
FitsRoute (Async id) = id < 2 ^ 64

-- each field fits its width
pub record FitsHeader (head : Head) : Type 0 where
  pub charge : head.charge < 2 ^ 16
  pub status : head.status.0 < 2 ^ 32
  pub command : head.command < 2 ^ 16
  pub credits : head.credits < 2 ^ 16
  pub flags : head.flags.0 < 2 ^ 32
  pub next : head.next < 2 ^ 32
  pub mid : head.mid.0 < 2 ^ 64
  pub route : FitsRoute head.route
  pub session : head.session < 2 ^ 64

-- a number has one of these bits
abbrev pub has : ℕ → ℕ → Bool
has number bits = not (bit_and number bits == 0)

-- what a server sends has the flag of replies (SERVER_TO_REDIR)
abbrev pub is_reply : Head → Bool
is_reply head = has head.flags.0 1

-- an interim reply (MS-SMB2 3.3.4.2): STATUS_PENDING with the flag ASYNC
abbrev pub is_interim : Head → Bool
is_interim head = head.status.0 == 0x103 && has head.flags.0 2

-- of this command, with the flag of replies
abbrev pub is_reply_to : ℕ → Head → Bool
is_reply_to command head = head.command == command && is_reply head
