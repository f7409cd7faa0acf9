-- The body of FLUSH (MS-SMB2 2.2.17): each field after the structure size, in the order of the table there.
use Rattle.std.specs.Prelude.{ℕ, List, [], ◌∷◌, Result}
use Rattle.smb_field.specs.declared.field.BodyFault.{BodyFault}
use Rattle.smb_field.specs.declared.field.Field.{Field}
use Rattle.smb_field.specs.declared.field.Field.TheVariants.{U64, Any16, Any32}
use Rattle.smb_field.specs.Body.{IsBody}
use Rattle.smb_field.specs.Rows.{skip, file_id, value, body}
use Rattle.smb_body_b.specs.declared.flush.FlushRequest.{FlushRequest}

-- the request's fields: reserved, reserved, the file id's two halves
abbrev pub flush_request : FlushRequest → List Field
flush_request x = Any16 0 ∷ Any32 0 ∷ U64 x.file_id.persistent ∷ U64 x.file_id.volatile ∷ []

-- a message has this body
abbrev pub IsFlushRequest : FlushRequest → List ℕ → Type 0
IsFlushRequest x message = IsBody 24 (flush_request x) [] message

-- the request that a message has, read by the same table
unfoldable pub flush_request_of : List ℕ → Result FlushRequest BodyFault
flush_request_of = body 24 (skip 2 (skip 4 (file_id (λ fid. value (record { file_id = fid })))))
