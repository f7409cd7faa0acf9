-- A header that was written is read again, whatever follows it.
use Rattle.std.proofs.Common.{◌≡◌, refl, sym, ap, ℕ, ◌^◌, ◌<◌, List, [], ◌++◌, length, arith, length-append, Ok}
use Rattle.smb_le.specs.Numbers.{number_at, bytes_of}
use Rattle.smb_le.proofs.NumberLaws.{number_at-bytes_of}
use Rattle.smb_head.specs.declared.head.TheConstants.{PROTOCOL}
use Rattle.smb_head.specs.declared.head.Head.{Head}
use Rattle.smb_head.specs.declared.head.Route.TheVariants.{Sync, Async}
use Rattle.smb_head.specs.Header.{FitsRoute, FitsHeader, has_async, is_async, IsRouted, IsHeader, route_at, head_at, head_of, header}

-- what is a header is read as it
pub head_of-is_header : (head : Head) (bytes : List ℕ) → IsHeader head bytes → head_of bytes ≡ Ok head
unfolding head_of
head_of-is_header head bytes is = grind arith

protocol-read : (head : Head) (rest : List ℕ) → number_at 4 0 (header head ++ rest) ≡ PROTOCOL
unfolding number_at bytes_of header
protocol-read head rest = refl

size-read : (head : Head) (rest : List ℕ) → number_at 2 4 (header head ++ rest) ≡ 64
unfolding number_at bytes_of header
size-read head rest = refl

charge-read : (head : Head) (rest : List ℕ) → head.charge < 2 ^ 16 → number_at 2 6 (header head ++ rest) ≡ head.charge
unfolding number_at bytes_of header
charge-read head rest fits = number_at-bytes_of 2 head.charge [] fits

status-read : (head : Head) (rest : List ℕ) → head.status.0 < 2 ^ 32 → number_at 4 8 (header head ++ rest) ≡ head.status.0
unfolding number_at bytes_of header
status-read head rest fits = number_at-bytes_of 4 head.status.0 [] fits

command-read : (head : Head) (rest : List ℕ) → head.command < 2 ^ 16 → number_at 2 12 (header head ++ rest) ≡ head.command
unfolding number_at bytes_of header
command-read head rest fits = number_at-bytes_of 2 head.command [] fits

credits-read : (head : Head) (rest : List ℕ) → head.credits < 2 ^ 16 → number_at 2 14 (header head ++ rest) ≡ head.credits
unfolding number_at bytes_of header
credits-read head rest fits = number_at-bytes_of 2 head.credits [] fits

flags-read : (head : Head) (rest : List ℕ) → head.flags.0 < 2 ^ 32 → number_at 4 16 (header head ++ rest) ≡ head.flags.0
unfolding number_at bytes_of header
flags-read head rest fits = number_at-bytes_of 4 head.flags.0 [] fits

pub next-read : (head : Head) (rest : List ℕ) → head.next < 2 ^ 32 → number_at 4 20 (header head ++ rest) ≡ head.next
unfolding number_at bytes_of header
next-read head rest fits = number_at-bytes_of 4 head.next [] fits

mid-read : (head : Head) (rest : List ℕ) → head.mid.0 < 2 ^ 64 → number_at 8 24 (header head ++ rest) ≡ head.mid.0
unfolding number_at bytes_of header
mid-read head rest fits = number_at-bytes_of 8 head.mid.0 [] fits

session-read : (head : Head) (rest : List ℕ) → head.session < 2 ^ 64 → number_at 8 40 (header head ++ rest) ≡ head.session
unfolding number_at bytes_of header
session-read head rest fits =
    elim head.route as (λ r. number_at 8 40 (header record head { route = r } ++ rest) ≡ head.session) [
      | Sync tree ↦ number_at-bytes_of 8 head.session [] fits
      | Async id ↦ number_at-bytes_of 8 head.session [] fits
    ]

route-read : (head : Head) (rest : List ℕ) → FitsRoute head.route → IsRouted head → route_at head.flags.0 (header head ++ rest) ≡ head.route
unfolding number_at bytes_of header
route-read head rest fits routed =
    (elim head.route as (λ r. FitsRoute r → is_async r ≡ has_async head.flags.0 → route_at head.flags.0 (header record head { route = r } ++ rest) ≡ r) [
      | Sync tree ↦ λ f e. rw (sym e) (ap Sync (number_at-bytes_of 4 tree [] f))
      | Async id ↦ λ f e. rw (sym e) (ap Async (number_at-bytes_of 8 id [] f))
    ]) fits routed

pub length-header : (head : Head) → length (header head) ≡ 64
unfolding bytes_of header
length-header head =
    elim head.route as (λ r. length (header record head { route = r }) ≡ 64) [ Sync tree ↦ refl | Async id ↦ refl ]

fields-read : (head : Head) (rest : List ℕ) → FitsHeader head → IsRouted head → head ≡ head_at (header head ++ rest)
unfolding head_at
fields-read head rest fits routed =
    rw (charge-read head rest fits.charge, status-read head rest fits.status, command-read head rest fits.command, credits-read head rest fits.credits, flags-read head rest fits.flags, next-read head rest fits.next, mid-read head rest fits.mid, route-read head rest fits.route routed, session-read head rest fits.session) refl

-- what was written is a header, whatever follows it
pub is_header-header : (head : Head) (rest : List ℕ) → FitsHeader head → IsRouted head → IsHeader head (header head ++ rest)
is_header-header head rest fits routed = record {
  long_enough = omega (arith, length-append (header head) rest, length-header head);
  protocol = protocol-read head rest;
  size = size-read head rest;
  fields = fields-read head rest fits routed;
}

pub head_of-header : (head : Head) (rest : List ℕ) → FitsHeader head → IsRouted head → head_of (header head ++ rest) ≡ Ok head
head_of-header head rest fits routed = head_of-is_header head (header head ++ rest) (is_header-header head rest fits routed)
