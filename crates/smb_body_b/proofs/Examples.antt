-- Examples that compute.
use Rattle.std.proofs.Common.{◌≡◌, [], ◌∷◌, true, false, Some, None, Ok, Err, refl}
use Rattle.smb_le.specs.Numbers.{number_at}
use Rattle.smb_field.specs.declared.field.BodyFault.TheVariants.{Short, Offset}
use Rattle.smb_body_b.specs.Contexts.{context_of, chain_of, contexts_of, is_short, lease_of, fid_of, set_of, read_of}

-- a lease of all states under a key, and a durable handle
lease_and_durable : read_of false
    (56 ∷ 0 ∷ 0 ∷ 0 ∷ 16 ∷ 0 ∷ 4 ∷ 0 ∷ 0 ∷ 0 ∷ 24 ∷ 0 ∷ 32 ∷ 0 ∷ 0 ∷ 0 ∷ 82 ∷ 113 ∷ 76 ∷ 115 ∷ 0 ∷ 0 ∷ 0 ∷ 0 ∷ 160 ∷ 161 ∷
    162 ∷ 163 ∷ 164 ∷ 165 ∷ 166 ∷ 167 ∷ 168 ∷ 169 ∷ 170 ∷ 171 ∷ 172 ∷ 173 ∷ 174 ∷ 175 ∷ 7 ∷ 0 ∷ 0 ∷ 0 ∷ 0 ∷ 0 ∷ 0 ∷ 0 ∷ 0 ∷
    0 ∷ 0 ∷ 0 ∷ 0 ∷ 0 ∷ 0 ∷ 0 ∷ 0 ∷ 0 ∷ 0 ∷ 0 ∷ 16 ∷ 0 ∷ 4 ∷ 0 ∷ 0 ∷ 0 ∷ 24 ∷ 0 ∷ 16 ∷ 0 ∷ 0 ∷ 0 ∷ 68 ∷ 72 ∷ 110 ∷ 81 ∷ 0 ∷
    0 ∷ 0 ∷ 0 ∷ 0 ∷ 0 ∷ 0 ∷ 0 ∷ 0 ∷ 0 ∷ 0 ∷ 0 ∷ 0 ∷ 0 ∷ 0 ∷ 0 ∷ 0 ∷ 0 ∷ 0 ∷ 0 ∷ [])
    ≡ Ok (record { lease = Some (record { 0 = 160 ∷ 161 ∷ 162 ∷ 163 ∷ 164 ∷ 165 ∷ 166 ∷ 167 ∷ 168 ∷ 169 ∷ 170 ∷ 171 ∷ 172 ∷ 173 ∷ 174 ∷ 175 ∷ [] }, 7); durable = true; reclaim = None })
unfolding read_of contexts_of chain_of context_of is_short lease_of fid_of set_of number_at
lease_and_durable = refl

-- the same where the second context would begin in the 16 bytes of the first
too-near : read_of false
    (15 ∷ 0 ∷ 0 ∷ 0 ∷ 16 ∷ 0 ∷ 4 ∷ 0 ∷ 0 ∷ 0 ∷ 24 ∷ 0 ∷ 32 ∷ 0 ∷ 0 ∷ 0 ∷ 82 ∷ 113 ∷ 76 ∷ 115 ∷ 0 ∷ 0 ∷ 0 ∷ 0 ∷ 160 ∷ 161 ∷
    162 ∷ 163 ∷ 164 ∷ 165 ∷ 166 ∷ 167 ∷ 168 ∷ 169 ∷ 170 ∷ 171 ∷ 172 ∷ 173 ∷ 174 ∷ 175 ∷ 7 ∷ 0 ∷ 0 ∷ 0 ∷ 0 ∷ 0 ∷ 0 ∷ 0 ∷ 0 ∷
    0 ∷ 0 ∷ 0 ∷ 0 ∷ 0 ∷ 0 ∷ 0 ∷ 0 ∷ 0 ∷ 0 ∷ 0 ∷ 16 ∷ 0 ∷ 4 ∷ 0 ∷ 0 ∷ 0 ∷ 24 ∷ 0 ∷ 16 ∷ 0 ∷ 0 ∷ 0 ∷ 68 ∷ 72 ∷ 110 ∷ 81 ∷ 0 ∷
    0 ∷ 0 ∷ 0 ∷ 0 ∷ 0 ∷ 0 ∷ 0 ∷ 0 ∷ 0 ∷ 0 ∷ 0 ∷ 0 ∷ 0 ∷ 0 ∷ 0 ∷ 0 ∷ 0 ∷ 0 ∷ 0 ∷ [])
    ≡ Err Offset
unfolding read_of contexts_of chain_of context_of is_short lease_of fid_of set_of number_at
too-near = refl

-- the same where the lease has 31 bytes of data
lease-short : read_of false
    (56 ∷ 0 ∷ 0 ∷ 0 ∷ 16 ∷ 0 ∷ 4 ∷ 0 ∷ 0 ∷ 0 ∷ 24 ∷ 0 ∷ 31 ∷ 0 ∷ 0 ∷ 0 ∷ 82 ∷ 113 ∷ 76 ∷ 115 ∷ 0 ∷ 0 ∷ 0 ∷ 0 ∷ 160 ∷ 161 ∷
    162 ∷ 163 ∷ 164 ∷ 165 ∷ 166 ∷ 167 ∷ 168 ∷ 169 ∷ 170 ∷ 171 ∷ 172 ∷ 173 ∷ 174 ∷ 175 ∷ 7 ∷ 0 ∷ 0 ∷ 0 ∷ 0 ∷ 0 ∷ 0 ∷ 0 ∷ 0 ∷
    0 ∷ 0 ∷ 0 ∷ 0 ∷ 0 ∷ 0 ∷ 0 ∷ 0 ∷ 0 ∷ 0 ∷ 0 ∷ 16 ∷ 0 ∷ 4 ∷ 0 ∷ 0 ∷ 0 ∷ 24 ∷ 0 ∷ 16 ∷ 0 ∷ 0 ∷ 0 ∷ 68 ∷ 72 ∷ 110 ∷ 81 ∷ 0 ∷
    0 ∷ 0 ∷ 0 ∷ 0 ∷ 0 ∷ 0 ∷ 0 ∷ 0 ∷ 0 ∷ 0 ∷ 0 ∷ 0 ∷ 0 ∷ 0 ∷ 0 ∷ 0 ∷ 0 ∷ 0 ∷ 0 ∷ [])
    ≡ Err Short
unfolding read_of contexts_of chain_of context_of is_short lease_of fid_of set_of number_at
lease-short = refl

-- no context
nothing : read_of false [] ≡ Ok (record { lease = None; durable = false; reclaim = None })
unfolding read_of contexts_of set_of
nothing = refl
