-- The data of the contexts that are written, and what is read of them.
use Rattle.std.proofs.Common.{◌≡◌, ℕ, ◌+◌, ◌^◌, ◌<◌, List, [], ◌++◌, length, take, drop, replicate, refl, ap, sym, ◌∙◌, arith, length-append}
use Rattle.std.proofs.Math.Seq.{drop-append-add}
use Rattle.std.proofs.lemmas.List.{append-nil, take_at}
use Rattle.smb_base.specs.declared.names.Key.{Key}
use Rattle.smb_base.specs.declared.names.Fid.{Fid}
use Rattle.smb_le.specs.Numbers.{number_at, bytes_of, overwritten}
use Rattle.smb_le.proofs.NumberLaws.{length-bytes_of, number_at-append_right, number_at-bytes_of, number_at-bytes_of_alone}
use Rattle.smb_body_b.specs.Contexts.{entry, lease_of, fid_of, lease_content, fid_content}

-- a piece that is written behind the first bytes
over-append : (i : ℕ) (front piece back : List ℕ) → length front ≡ i → overwritten i piece (front ++ back) ≡ front ++ (piece ++ drop (length piece) back)
unfolding overwritten
over-append i front piece back at =
    let head : take i (front ++ back) ≡ front = take_at front back i at in
    let rest : drop (i + length piece) (front ++ back) ≡ drop (length piece) back =
    ap (λ (k : ℕ). drop (k + length piece) (front ++ back)) (sym at) ∙ drop-append-add front back (length piece) in
    ap (λ (xs : List ℕ). xs ++ (piece ++ drop (i + length piece) (front ++ back))) head
    ∙ ap (λ (xs : List ℕ). front ++ (piece ++ xs)) rest

-- a key, and a state behind it
pub lease_written : (key back : List ℕ) (state : ℕ) → length key ≡ 16 → drop 4 back ≡ replicate 12 0
    → overwritten 16 (bytes_of 4 state) (key ++ back) ≡ key ++ (bytes_of 4 state ++ replicate 12 0)
lease_written key back state long zeros =
    over-append 16 key (bytes_of 4 state) back long
    ∙ ap (λ (n : ℕ). key ++ (bytes_of 4 state ++ drop n back)) (length-bytes_of 4 state)
    ∙ ap (λ (xs : List ℕ). key ++ (bytes_of 4 state ++ xs)) zeros

-- two halves
pub fid_written : (back : List ℕ) (persistent volatile : ℕ) → drop 8 (drop 8 back) ≡ []
    → overwritten 8 (bytes_of 8 volatile) (overwritten 0 (bytes_of 8 persistent) back) ≡ bytes_of 8 persistent ++ bytes_of 8 volatile
fid_written back persistent volatile zeros =
    let first : overwritten 0 (bytes_of 8 persistent) back ≡ bytes_of 8 persistent ++ drop 8 back =
    over-append 0 [] (bytes_of 8 persistent) back refl
    ∙ ap (λ (n : ℕ). bytes_of 8 persistent ++ drop n back) (length-bytes_of 8 persistent) in
    ap (overwritten 8 (bytes_of 8 volatile)) first
    ∙ over-append 8 (bytes_of 8 persistent) (bytes_of 8 volatile) (drop 8 back) (length-bytes_of 8 persistent)
    ∙ ap (λ (n : ℕ). bytes_of 8 persistent ++ (bytes_of 8 volatile ++ drop n (drop 8 back))) (length-bytes_of 8 volatile)
    ∙ ap (λ (xs : List ℕ). bytes_of 8 persistent ++ (bytes_of 8 volatile ++ xs)) zeros
    ∙ ap (λ (xs : List ℕ). bytes_of 8 persistent ++ xs) (append-nil (bytes_of 8 volatile))

pub length-lease_content : (lease : Key × ℕ) → length lease.0.0 ≡ 16 → length (lease_content lease) ≡ 32
unfolding lease_content
length-lease_content lease long =
    omega (arith, length-append lease.0.0 (bytes_of 4 lease.1 ++ replicate 12 0), length-append (bytes_of 4 lease.1) (replicate 12 0), length-bytes_of 4 lease.1)

pub length-fid_content : (fid : Fid) → length (fid_content fid) ≡ 16
unfolding fid_content
length-fid_content fid =
    omega (arith, length-append (bytes_of 8 fid.persistent) (bytes_of 8 fid.volatile), length-bytes_of 8 fid.persistent, length-bytes_of 8 fid.volatile)

-- a lease that was written is read
pub lease_of-content : (name : List ℕ) (lease : Key × ℕ) → length lease.0.0 ≡ 16 → lease.1 < 2 ^ 32 → lease_of (entry name (lease_content lease)) ≡ lease
unfolding lease_of lease_content
lease_of-content name lease long fits =
    let key : take 16 (lease.0.0 ++ (bytes_of 4 lease.1 ++ replicate 12 0)) ≡ lease.0.0 =
    take_at lease.0.0 (bytes_of 4 lease.1 ++ replicate 12 0) 16 long in
    let state : number_at 4 16 (lease.0.0 ++ (bytes_of 4 lease.1 ++ replicate 12 0)) ≡ lease.1 =
    number_at-append_right 4 0 16 lease.0.0 (bytes_of 4 lease.1 ++ replicate 12 0) (omega (arith, long))
    ∙ number_at-bytes_of 4 lease.1 (replicate 12 0) fits in
    ap (λ (k : List ℕ). (record { 0 = k }, number_at 4 16 (lease.0.0 ++ (bytes_of 4 lease.1 ++ replicate 12 0)))) key
    ∙ ap (λ (n : ℕ). (lease.0, n)) state

-- and so is the open of a reclaim
pub fid_of-content : (name : List ℕ) (fid : Fid) → fid.persistent < 2 ^ 64 → fid.volatile < 2 ^ 64 → fid_of (entry name (fid_content fid)) ≡ fid
unfolding fid_of fid_content
fid_of-content name fid first second =
    let persistent : number_at 8 0 (bytes_of 8 fid.persistent ++ bytes_of 8 fid.volatile) ≡ fid.persistent =
    number_at-bytes_of 8 fid.persistent (bytes_of 8 fid.volatile) first in
    let volatile : number_at 8 8 (bytes_of 8 fid.persistent ++ bytes_of 8 fid.volatile) ≡ fid.volatile =
    number_at-append_right 8 0 8 (bytes_of 8 fid.persistent) (bytes_of 8 fid.volatile) (omega (arith, length-bytes_of 8 fid.persistent))
    ∙ number_at-bytes_of_alone 8 fid.volatile second in
    ap (λ (n : ℕ). record { persistent = n; volatile = number_at 8 8 (bytes_of 8 fid.persistent ++ bytes_of 8 fid.volatile) }) persistent
    ∙ ap (λ (n : ℕ). record { persistent = fid.persistent; volatile = n }) volatile
