-- The body of the LOCK request (MS-SMB2 2.2.26): each field after the structure size, in the order of the table there.
use Rattle.std.specs.Prelude.{◌≡◌, ℕ, ◌==◌, List, [], ◌∷◌, Result}
use Rattle.smb_field.specs.declared.field.BodyFault.{BodyFault}
use Rattle.smb_field.specs.declared.field.Field.{Field}
use Rattle.smb_field.specs.declared.field.Field.TheVariants.{U16, U32, U64, Any32}
use Rattle.smb_field.specs.Body.{IsBody}
use Rattle.smb_field.specs.Rows.{number, skip, file_id, right, value, body}
use Rattle.smb_body_c.specs.declared.lock.LockRequest.{LockRequest}

-- the request's fields: how many ranges, sequence, the file id's two halves, offset, length, flags, reserved
abbrev pub lock_request : LockRequest → List Field
lock_request x =
    U16 x.lock_count ∷ Any32 0 ∷ U64 x.file_id.persistent ∷ U64 x.file_id.volatile ∷ U64 x.offset ∷ U64 x.length ∷ U32 x.flags
    ∷ Any32 0 ∷ []

-- a message has this body, and one range
abbrev pub IsLockRequest : LockRequest → List ℕ → Type 0
IsLockRequest x message = IsBody 48 (lock_request x) [] message × (x.lock_count ≡ 1)

-- the LOCK request that a message has, read by the same table
unfoldable pub lock_request_of : List ℕ → Result LockRequest BodyFault
lock_request_of =
    body 48 (number 2 (λ count. skip 4 (file_id (λ fid. number 8 (λ offset. number 8 (λ size. number 4 (λ flags. skip 4
    (right (count == 1)
    (value (record { lock_count = count; file_id = fid; offset = offset; length = size; flags = flags }))))))))))
