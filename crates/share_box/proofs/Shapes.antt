-- What the share replies to each request.
use Rattle.std.proofs.Common.{◌≡◌, ◌⊎◌, inl, inr, ℕ, Bool, true, false, List, Option, Some, None, refl, ap, ◌∙◌, ◌+◌}
use Rattle.std.specs.Prelude.{◌==◌, not, ◌&&◌, ◌||◌, if◌then◌else◌}
use Rattle.std.specs.List.{list_all}
use Rattle.smb_base.specs.declared.names.Fid.{Fid}
use Rattle.share_state.specs.declared.connection.Grant.{Grant}
use Rattle.share_state.specs.declared.wanted.Wanted.{Wanted}
use Rattle.share_state.specs.declared.granting.Granting.{Granting}
use Rattle.share_state.specs.declared.opens.Open.{Open}
use Rattle.share_state.specs.declared.place.Found.{Found}
use Rattle.share_state.specs.declared.place.Place.{Place}
use Rattle.share_state.specs.declared.place.Place.TheVariants.{NoPath, Missing, There}
use Rattle.share_state.specs.declared.request.Who.{Who}
use Rattle.share_state.specs.declared.request.Rep.{Rep}
use Rattle.share_state.specs.declared.share.Share.{Share}
use Rattle.share_state.specs.Names.{is_name, components}
use Rattle.share_state.specs.State.{has, is_directory, is_read_only, has_entries, is_pending, is_going}
use Rattle.share_state.specs.Place.{place_of}
use Rattle.share_state.specs.Leases.{is_elsewhere, no_granting, granting_of}
use Rattle.share_state.specs.PlainShare.{plain_wanted}
use Rattle.share_state.specs.Reply.{of_status, refused, unless, granted_reply, opened_reply}
use Rattle.share_state.specs.Create.{is_disposition, overwrites, has_unshared, refusal_of_key, refusal_of_missing, refusal_of_kind, refusal_of_read_only, or_else, refusal_of_use, refusal_of_there, made, opened, create_at, create_of}
use Rattle.share_state.specs.Close.{open_of, close_open, close_of}
use Rattle.share_state.specs.Query.{info_reply, query_open, query_of}
use Rattle.share_box.specs.Paid.{is_refusal}

-- a reply of a status of a refusal alone
pub record IsRefused (reply : Rep) : Type 0 where
  pub status : ℕ
  pub is : reply ≡ of_status status
  pub refusal : is_refusal status ≡ true

-- a reply to a CREATE that was done
pub record IsOpened (reply : Rep) : Type 0 where
  pub number : ℕ
  pub action : ℕ
  pub size : ℕ
  pub attributes : ℕ
  pub is : reply ≡ opened_reply number action size attributes

-- the same, with something granted or not
pub record IsGranted (may : Granting → Type 0) (reply : Rep) : Type 0 where
  pub granting : Granting
  pub allowed : may granting
  pub number : ℕ
  pub action : ℕ
  pub size : ℕ
  pub attributes : ℕ
  pub is : reply ≡ granted_reply granting number action size attributes

-- a reply to a Query that was done
pub record IsTold (reply : Rep) : Type 0 where
  pub share : Share
  pub node : ℕ
  pub entry : ℕ
  pub is : reply ≡ info_reply share node entry

-- each reason there may be is a status of a refusal
are_refusals : Option ℕ → Bool
are_refusals None = true
are_refusals (Some status) = is_refusal status

refuses : (status : ℕ) (s : Share) → is_refusal status ≡ true → IsRefused (refused status s).0
refuses status s is = record { status = status; is = refl; refusal = is }

unless_done : (may : Granting → Type 0) (reason : Option ℕ) (s : Share) (done : Rep × Share) → are_refusals reason ≡ true → IsGranted may done.0
    → IsRefused (unless reason s done).0 ⊎ IsGranted may (unless reason s done).0
unfolding are_refusals
unless_done may None s done is granted = inr granted
unless_done may (Some status) s done is granted = inl (refuses status s is)

of_key : (s : Share) (who : Who) (w : Wanted) (node : ℕ) → are_refusals (refusal_of_key s who w node) ≡ true
unfolding are_refusals
of_key s who w node = by (is_elsewhere s.leases who w.lease node)
  where
    by : (a : Bool) → are_refusals (if a then Some 0xC000000D else None) ≡ true
    by true = refl
    by false = refl

of_missing : (s : Share) (who : Who) (w : Wanted) (d : ℕ) → are_refusals (refusal_of_missing s who w d) ≡ true
unfolding are_refusals
of_missing s who w d = by (w.disposition == 1 || w.disposition == 4) (is_going s.entries d) (refusal_of_key s who w 0) (of_key s who w 0)
  where
    by : (a b : Bool) (later : Option ℕ) → are_refusals later ≡ true
        → are_refusals (if a then Some 0xC0000034 else if b then Some 0xC0000056 else later) ≡ true
    by true b later h = refl
    by false true later h = refl
    by false false later h = h

of_kind : (s : Share) (w : Wanted) (node : ℕ) → are_refusals (refusal_of_kind s w node) ≡ true
unfolding are_refusals
of_kind s w node =
    by (has w.options 1 && not (is_directory s.nodes node)) (has w.options 0x40 && is_directory s.nodes node)
    (overwrites w.disposition && is_directory s.nodes node)
  where
    by : (a b c : Bool) → are_refusals (if a then Some 0xC0000103 else if b then Some 0xC00000BA else if c then Some 0xC000000D else None) ≡ true
    by true b c = refl
    by false true c = refl
    by false false true = refl
    by false false false = refl

of_read_only : (s : Share) (w : Wanted) (node : ℕ) → are_refusals (refusal_of_read_only s w node) ≡ true
unfolding are_refusals
of_read_only s w node =
    by (not (is_read_only s.nodes node)) (not (is_directory s.nodes node) && (has w.access 6 || overwrites w.disposition)) (has w.options 0x1000)
  where
    by : (a b c : Bool) → are_refusals (if a then None else if b then Some 0xC0000022 else if c then Some 0xC0000121 else None) ≡ true
    by true b c = refl
    by false true c = refl
    by false false true = refl
    by false false false = refl

of_use : (s : Share) (w : Wanted) (node : ℕ) → are_refusals (refusal_of_use s w node) ≡ true
unfolding are_refusals
of_use s w node =
    by (has_unshared s.opens node w) (has w.options 0x1000 && is_directory s.nodes node && has_entries s.entries node)
  where
    by : (a b : Bool) → are_refusals (if a then Some 0xC0000043 else if b then Some 0xC0000101 else None) ≡ true
    by true b = refl
    by false true = refl
    by false false = refl

of_two : (first later : Option ℕ) → are_refusals first ≡ true → are_refusals later ≡ true → are_refusals (or_else first later) ≡ true
of_two None later p q = q
of_two (Some status) later p q = p

of_there : (s : Share) (who : Who) (w : Wanted) (f : Found) → are_refusals (refusal_of_there s who w f) ≡ true
unfolding are_refusals
of_there s who w f =
    let behind_read_only : Option ℕ = or_else (refusal_of_key s who w f.node) (refusal_of_use s w f.node) in
    let behind_kind : Option ℕ = or_else (refusal_of_read_only s w f.node) behind_read_only in
    by (is_pending s.entries f.entry) (w.disposition == 2) (or_else (refusal_of_kind s w f.node) behind_kind)
    (of_two (refusal_of_kind s w f.node) behind_kind (of_kind s w f.node)
    (of_two (refusal_of_read_only s w f.node) behind_read_only (of_read_only s w f.node)
    (of_two (refusal_of_key s who w f.node) (refusal_of_use s w f.node) (of_key s who w f.node) (of_use s w f.node))))
  where
    by : (a b : Bool) (later : Option ℕ) → are_refusals later ≡ true → are_refusals (if a then Some 0xC0000056 else if b then Some 0xC0000035 else later) ≡ true
    by true b later h = refl
    by false true later h = refl
    by false false later h = h

made_grants : (may : Granting → Type 0) (s : Share) (who : Who) (w : Wanted) (g : Granting) (d : ℕ) (name : List ℕ) → may g → IsGranted may (made s who w g d name).0
made_grants may s who w g d name allowed = record { granting = g; allowed = allowed; number = _; action = _; size = _; attributes = _; is = refl }

opened_grants : (may : Granting → Type 0) (s : Share) (who : Who) (w : Wanted) (g : Granting) (f : Found) → may g → IsGranted may (opened s who w g f).0
opened_grants may s who w g f allowed = record { granting = g; allowed = allowed; number = _; action = _; size = _; attributes = _; is = refl }

at_place : (may : Granting → Type 0) (choice : Option Grant) (s : Share) (who : Who) (w : Wanted) (p : Place) → ((node : ℕ) → may (granting_of choice s who w node))
    → IsRefused (create_at choice s who w p).0 ⊎ IsGranted may (create_at choice s who w p).0
at_place may choice s who w NoPath allowed = inl (refuses 0xC000003A s refl)
at_place may choice s who w (Missing d name) allowed =
    let g : Granting = granting_of choice s who w (s.nodes_made + 1) in
    unless_done may (refusal_of_missing s who w d) s (made s who w g d name) (of_missing s who w d)
    (made_grants may s who w g d name (allowed (s.nodes_made + 1)))
at_place may choice s who w (There f) allowed =
    let g : Granting = granting_of choice s who w f.node in
    unless_done may (refusal_of_there s who w f) s (opened s who w g f) (of_there s who w f) (opened_grants may s who w g f (allowed f.node))

-- a Create is refused, or done with what may be granted of it
pub create_shape_with : (may : Granting → Type 0) (choice : Option Grant) (s : Share) (who : Who) (path : List ℕ) (w : Wanted)
    → ((node : ℕ) → may (granting_of choice s who w node))
    → IsRefused (create_of choice s who path w).0 ⊎ IsGranted may (create_of choice s who path w).0
create_shape_with may choice s who path w allowed =
    by (not (is_disposition w.disposition)) (not (list_all is_name (components path))) (create_at choice s who w (place_of s (components path)))
    (at_place may choice s who w (place_of s (components path)) allowed)
  where
    by : (a b : Bool) (done : Rep × Share) → IsRefused done.0 ⊎ IsGranted may done.0
        → IsRefused (if a then refused 0xC000000D s else if b then refused 0xC0000033 s else done).0
        ⊎ IsGranted may (if a then refused 0xC000000D s else if b then refused 0xC0000033 s else done).0
    by true b done h = inl (refuses 0xC000000D s refl)
    by false true done h = inl (refuses 0xC0000033 s refl)
    by false false done h = h

grants_nothing : (reply : Rep) → IsRefused reply ⊎ IsGranted (λ g. g ≡ no_granting) reply → IsRefused reply ⊎ IsOpened reply
grants_nothing reply (inl r) = inl r
grants_nothing reply (inr o) = inr (record {
  number = o.number;
  action = o.action;
  size = o.size;
  attributes = o.attributes;
  is = o.is ∙ ap (λ (g : Granting). granted_reply g o.number o.action o.size o.attributes) o.allowed;
})

-- one that wants nothing is refused, or done with nothing granted
pub create_shape : (s : Share) (who : Who) (path : List ℕ) (w : Wanted)
    → IsRefused (create_of None s who path (plain_wanted w)).0 ⊎ IsOpened (create_of None s who path (plain_wanted w)).0
create_shape s who path w =
    grants_nothing (create_of None s who path (plain_wanted w)).0
    (create_shape_with (λ g. g ≡ no_granting) None s who path (plain_wanted w) (λ node. refl))

query_at : (o : Option Open) (s : Share) → IsRefused (query_open o s).0 ⊎ IsTold (query_open o s).0
query_at None s = inl (refuses 0xC0000128 s refl)
query_at (Some o) s = inr (record { share = s; node = o.node; entry = o.entry; is = refl })

-- so is a Query
pub query_shape : (s : Share) (who : Who) (fid : Fid) → IsRefused (query_of s who fid).0 ⊎ IsTold (query_of s who fid).0
query_shape s who fid = query_at (open_of s.opens who fid) s

close_at : (o : Option Open) (s : Share) → IsRefused (close_open o s).0 ⊎ ((close_open o s).0 ≡ of_status 0)
close_at None s = inl (refuses 0xC0000128 s refl)
close_at (Some o) s = inr refl

-- and a Close
pub close_shape : (s : Share) (who : Who) (fid : Fid) → IsRefused (close_of s who fid).0 ⊎ ((close_of s who fid).0 ≡ of_status 0)
close_shape s who fid = close_at (open_of s.opens who fid) s
