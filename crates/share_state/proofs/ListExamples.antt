-- List at a small share whose answers are known: a directory `d` with a file `b` and a file `ab` that is to go.
use Rattle.std.proofs.Common.{◌≡◌, ℕ, true, false, List, [], ◌∷◌, refl, Some, None}
use Rattle.std.specs.Prelude.{codes}
use Rattle.share_state.specs.declared.listing.ShareName.{ShareName}
use Rattle.share_state.specs.declared.opens.Open.{Open}
use Rattle.share_state.specs.declared.request.Rep.{Rep}
use Rattle.share_state.specs.declared.request.RepBody.TheVariants as body
use Rattle.share_state.specs.declared.request.Who.{Who}
use Rattle.share_state.specs.declared.share.Share.{Share}
use Rattle.share_state.specs.Listing.{in_order, snapshot_of, size_in_reply, raised_to_8, in_reply, list_of}
use Rattle.share_state.specs.Reply.{of_status, fid_of}
use Rattle.share_state.specs.State.{fresh_share}

abbrev us : Who
us = record { 0 = 0 }

-- an open of a node that may do so much
abbrev open_at : ℕ → ℕ → ℕ → Open
open_at number node access = record {
  number = number;
  who = record { 0 = 0 };
  node = node;
  entry = 0;
  access = access;
  share = 7;
  key = None;
  durable = false;
  connected = true;
  delete_on_close = false;
  snapshot = None;
}

-- node 1 is the root, 2 is `d`, 3 is `b` with three bytes and read-only, 4 is `ab`; open 1 is of `d`, 2 of `b`, 3 of `d` without READ_DATA
abbrev small : Share
small = record (fresh_share 100 false) {
  nodes =
      record { number = 1; dir = true; bytes = []; read_only = false }
      ∷ record { number = 2; dir = true; bytes = []; read_only = false }
      ∷ record { number = 3; dir = false; bytes = codes "xyz"; read_only = true }
      ∷ record { number = 4; dir = false; bytes = []; read_only = false } ∷ [];
  entries =
      record { number = 1; directory = 1; name = codes "d"; node = 2; pending = false }
      ∷ record { number = 2; directory = 2; name = codes "b"; node = 3; pending = false }
      ∷ record { number = 3; directory = 2; name = codes "ab"; node = 4; pending = true } ∷ [];
  opens = open_at 1 2 1 ∷ open_at 2 3 1 ∷ open_at 3 2 0x80 ∷ [];
}

abbrev directory_named : List ℕ → ℕ → ShareName
directory_named name number = record { name = name; dir = true; size = 0; read_only = false; number = number }

abbrev b : ShareName
b = record { name = codes "b"; dir = false; size = 3; read_only = true; number = 3 }

abbrev ab : ShareName
ab = record { name = codes "ab"; dir = false; size = 0; read_only = false; number = 4 }

-- `ab` comes before `b`, and `a` before both; capitals come first
names_in_order : in_order (directory_named (codes "b") 1 ∷ directory_named (codes "ab") 2 ∷ directory_named (codes "a") 3 ∷ directory_named (codes "B") 4 ∷ [])
    ≡ directory_named (codes "B") 4 ∷ directory_named (codes "a") 3 ∷ directory_named (codes "ab") 2 ∷ directory_named (codes "b") 1 ∷ []
names_in_order = refl

-- `d` in all
snapshot_of_directory : snapshot_of small 2 ≡ directory_named (codes ".") 2 ∷ directory_named (codes "..") 1 ∷ ab ∷ b ∷ []
snapshot_of_directory = refl

-- the root is above itself
snapshot_of_root : snapshot_of small 1 ≡ directory_named (codes ".") 1 ∷ directory_named (codes "..") 1 ∷ directory_named (codes "d") 2 ∷ []
snapshot_of_root = refl

-- `.` takes 82 bytes, raised to 88 before the next name; `..` takes 84, so that both take 172
size_of_dot : size_in_reply (directory_named (codes ".") 2) ≡ 82
size_of_dot = refl

raised : raised_to_8 82 ≡ 88
raised = refl

raised_already : raised_to_8 88 ≡ 88
raised_already = refl

two_fit : in_reply 172 (snapshot_of small 2) ≡ 2
two_fit = refl

one_fits : in_reply 171 (snapshot_of small 2) ≡ 1
one_fits = refl

-- one name goes into each reply, however short
one_at_least : in_reply 1 (snapshot_of small 2) ≡ 1
one_at_least = refl

-- all four take 88 + 88 + 88 + 82
all_fit : in_reply 346 (snapshot_of small 2) ≡ 4
all_fit = refl

all_but_one_fit : in_reply 345 (snapshot_of small 2) ≡ 3
all_but_one_fit = refl

-- a reply with these names
abbrev names : List ShareName → Rep
names all = record { status = record { 0 = 0 }; body = body.Names all }

-- two replies of 172 bytes have all names, and the third has none
first_reply : (list_of small us (fid_of 1) false 172).0 ≡ names (directory_named (codes ".") 2 ∷ directory_named (codes "..") 1 ∷ [])
first_reply = refl

abbrev after_first : Share
after_first = (list_of small us (fid_of 1) false 172).1

left_after_first : after_first.opens ≡ record (open_at 1 2 1) { snapshot = Some (ab ∷ b ∷ []) } ∷ open_at 2 3 1 ∷ open_at 3 2 0x80 ∷ []
left_after_first = refl

second_reply : (list_of after_first us (fid_of 1) false 172).0 ≡ names (ab ∷ b ∷ [])
second_reply = refl

abbrev after_second : Share
after_second = (list_of after_first us (fid_of 1) false 172).1

no_more_files : list_of after_second us (fid_of 1) false 172 ≡ (of_status 0x80000006, after_second)
no_more_files = refl

-- a restart begins again with `.`, in mid-listing and at the end
restarted : (list_of after_first us (fid_of 1) true 1).0 ≡ names (directory_named (codes ".") 2 ∷ [])
restarted = refl

restarted_at_the_end : (list_of after_second us (fid_of 1) true 172).0 ≡ names (directory_named (codes ".") 2 ∷ directory_named (codes "..") 1 ∷ [])
restarted_at_the_end = refl

-- no listing of a file, nor by an open that may not read, nor of another client's open
no_directory : list_of small us (fid_of 2) false 172 ≡ (of_status 0xC0000022, small)
no_directory = refl

no_access : list_of small us (fid_of 3) false 172 ≡ (of_status 0xC0000022, small)
no_access = refl

no_open : list_of small (record { 0 = 1 }) (fid_of 1) false 172 ≡ (of_status 0xC0000128, small)
no_open = refl
