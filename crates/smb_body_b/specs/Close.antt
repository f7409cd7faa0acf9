-- The bodies of CLOSE (MS-SMB2 2.2.15 and 2.2.16): each field after the structure size, in the order of the tables there.
use Rattle.std.specs.Prelude.{ℕ, List, [], ◌∷◌, slice_index, Result}
use Rattle.smb_field.specs.declared.field.BodyFault.{BodyFault}
use Rattle.smb_field.specs.declared.field.Field.{Field}
use Rattle.smb_field.specs.declared.field.Field.TheVariants.{U16, U32, U64, Any16, Any32}
use Rattle.smb_field.specs.Body.{IsBody}
use Rattle.smb_field.specs.Rows.{number, skip, file_id, times, value, body}
use Rattle.smb_body_b.specs.declared.close.CloseRequest.{CloseRequest}
use Rattle.smb_body_b.specs.declared.close.CloseReply.{CloseReply}

-- the request's fields: flags, reserved, the file id's two halves
abbrev pub close_request : CloseRequest → List Field
close_request x = Any16 0 ∷ Any32 0 ∷ U64 x.file_id.persistent ∷ U64 x.file_id.volatile ∷ []

-- a message has this body
abbrev pub IsCloseRequest : CloseRequest → List ℕ → Type 0
IsCloseRequest x message = IsBody 24 (close_request x) [] message

-- the reply's fields: flags, reserved, four times, allocation size, end of file, attributes
abbrev pub close_reply : CloseReply → List Field
close_reply x =
    U16 x.flags ∷ Any32 0 ∷ U64 (slice_index x.times 0) ∷ U64 (slice_index x.times 1) ∷ U64 (slice_index x.times 2)
    ∷ U64 (slice_index x.times 3) ∷ U64 x.allocation_size ∷ U64 x.end_of_file ∷ U32 x.attributes ∷ []

-- a message has this body
abbrev pub IsCloseReply : CloseReply → List ℕ → Type 0
IsCloseReply x message = IsBody 60 (close_reply x) [] message

-- the request that a message has, read by the same table
unfoldable pub close_request_of : List ℕ → Result CloseRequest BodyFault
close_request_of = body 24 (skip 2 (skip 4 (file_id (λ fid. value (record { file_id = fid })))))

-- the reply that a message has, read by the same table
unfoldable pub close_reply_of : List ℕ → Result CloseReply BodyFault
close_reply_of =
    body 60 (number 2 (λ flags. skip 4 (times (λ times. number 8 (λ allocation. number 8 (λ size. number 4 (λ attributes.
    value (record { flags = flags; times = times; allocation_size = allocation; end_of_file = size; attributes = attributes }))))))))
