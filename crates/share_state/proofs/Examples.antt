-- The definitions at shares whose answers are known.
use Rattle.std.proofs.Common.{◌≡◌, ℕ, true, false, [], ◌∷◌, refl, None, Some, List}
use Rattle.std.specs.Prelude.{codes}
use Rattle.smb_base.specs.declared.names.Key.{Key}
use Rattle.share_state.specs.declared.request.Who.{Who}
use Rattle.share_state.specs.declared.request.RepBody.TheVariants as body
use Rattle.share_state.specs.declared.request.Req.{Req}
use Rattle.share_state.specs.declared.request.Req.TheVariants as req
use Rattle.share_state.specs.declared.share.Share.{Share}
use Rattle.share_state.specs.Names.{components, same_name}
use Rattle.share_state.specs.State.{fresh_share}
use Rattle.share_state.specs.Reply.{of_status, fid_of, opened_reply}
use Rattle.share_state.specs.Step.{step_of}
use Rattle.share_state.specs.Cut.{after_cut, after_drop}
use Rattle.share_state.specs.Grants.{is_allowed}
use Rattle.share_state.specs.Breaks.{needs_of}
use Rattle.share_state.specs.Leases.{lowered}
use Rattle.share_state.specs.PlainShare.{shown, plain_step}

us : Who
us = record { 0 = 0 }

-- `d\a` has two components, and `A` is `a` on a folding share alone
two_components : components (codes "d\\a") ≡ codes "d" ∷ codes "a" ∷ []
unfolding components
two_components = refl

folded_names : same_name true (codes "A") (codes "a") ≡ true
folded_names = refl

other_names : same_name false (codes "A") (codes "a") ≡ false
other_names = refl

-- a Create for reading that shares everything
abbrev create : List ℕ → ℕ → Req
create path disposition = req.Create path 1 7 disposition 0 0x80 None false

-- the share once a file `a` was made: node 2, entry 1, open 1
abbrev after_make : Share
after_make = (step_of None (fresh_share 100 false) (record { 0 = 0 }) (create (codes "a") 2)).1

-- it is made, and told as created
a_file_is_made : (step_of None (fresh_share 100 false) (record { 0 = 0 }) (create (codes "a") 2)).0 ≡ opened_reply 1 2 0 0x80
unfolding components
a_file_is_made = refl

-- it is not made twice
a_file_is_there : (step_of None after_make (record { 0 = 0 }) (create (codes "a") 2)).0 ≡ of_status 0xC0000035
unfolding components
a_file_is_there = refl

-- OPEN of what is missing
a_file_is_missing : (step_of None after_make (record { 0 = 0 }) (create (codes "b") 1)).0 ≡ of_status 0xC0000034
unfolding components
a_file_is_missing = refl

-- beneath a file
no_path : (step_of None after_make (record { 0 = 0 }) (create (codes "a\\b") 1)).0 ≡ of_status 0xC000003A
unfolding components
no_path = refl

-- what a Query of the open tells
a_query : (step_of None after_make (record { 0 = 0 }) (req.Query (fid_of 1))).0
    ≡ record { status = record { 0 = 0 }; body = body.Info false 0 false 1 false 2 }
unfolding components
a_query = refl

-- the open is of client 0 alone
a_foreign_query : (step_of None after_make (record { 0 = 1 }) (req.Query (fid_of 1))).0 ≡ of_status 0xC0000128
unfolding components
a_foreign_query = refl

-- a Close ends it, and the file stays
opens_after_close : (step_of None after_make (record { 0 = 0 }) (req.Close (fid_of 1))).1.opens ≡ []
unfolding components
opens_after_close = refl

nodes_after_close : (step_of None after_make (record { 0 = 0 }) (req.Close (fid_of 1))).1.nodes ≡ after_make.nodes
unfolding components
nodes_after_close = refl

-- a cut ends it as the Close does
cut_as_close : after_cut after_make ≡ (step_of None after_make (record { 0 = 0 }) (req.Close (fid_of 1))).1
unfolding components
cut_as_close = refl

-- RWH without W is RH, and without R is none
lowered_to_RH : lowered 7 4 ≡ 3
lowered_to_RH = refl

lowered_to_none : lowered 7 1 ≡ 0
lowered_to_none = refl

-- replies are the same whatever the file id
same_replies : shown (opened_reply 1 2 0 0x80) ≡ shown (opened_reply 9 2 0 0x80)
same_replies = refl

-- on the plain share it is the same open, whatever was wanted of leases
a_plain_open : (plain_step after_make (record { 0 = 0 }) (req.Create (codes "a") 1 7 1 0 0x80 None true)).0
    ≡ opened_reply 2 1 0 0x80
unfolding components
a_plain_open = refl

-- the same share, with a lease on the file that may read, keep handles and write
abbrev leased : Key → Share
leased key = record after_make { leases = record { who = record { 0 = 0 }; key = key; node = 2; state = 7; asked = None } ∷ [] }

-- another client that reads has it broken to RH, one that overwrites to none
a_reader_waits : (key : Key) → needs_of (leased key) (record { 0 = 1 }) (create (codes "a") 1) ≡ (key, 3) ∷ []
unfolding components
a_reader_waits key = refl

an_overwriter_waits : (key : Key) → needs_of (leased key) (record { 0 = 1 }) (create (codes "a") 4) ≡ (key, 0) ∷ []
unfolding components
an_overwriter_waits key = refl

-- a Create that is refused for the name waits for nothing
a_collision_waits_not : (key : Key) → needs_of (leased key) (record { 0 = 1 }) (create (codes "a") 2) ≡ []
unfolding components
a_collision_waits_not key = refl

-- the same open, durable and disconnected, under a key
abbrev disconnected_open : Key → Share
disconnected_open key = record after_make {
  opens = record {
    number = 1;
    who = record { 0 = 0 };
    node = 2;
    entry = 1;
    access = 1;
    share = 7;
    key = Some key;
    durable = true;
    connected = false;
    delete_on_close = false;
    snapshot = None;
  } ∷ [];
}

abbrev key_of_ones : Key
key_of_ones = record { 0 = 1 ∷ 1 ∷ [] }

-- it ends where the share drops what is disconnected under that key, and stays where it drops another
dropped : (after_drop key_of_ones (disconnected_open key_of_ones)).opens ≡ []
dropped = refl

not_dropped : (after_drop (record { 0 = 2 ∷ 2 ∷ [] }) (disconnected_open key_of_ones)).opens ≡ (disconnected_open key_of_ones).opens
not_dropped = refl

-- it may always grant as much as may be, and no lease where none was wanted
most_is_allowed : is_allowed None after_make us (create (codes "a") 1) ≡ true
most_is_allowed = refl

no_lease_is_allowed : is_allowed (Some (record { lease = 1; durable = false })) after_make us (create (codes "a") 1) ≡ false
no_lease_is_allowed = refl
