-- The bodies of WRITE (MS-SMB2 2.2.21 and 2.2.22): each field after the structure size, in the order of the tables there.
use Rattle.std.specs.Prelude.{ℕ, List, [], ◌∷◌, length, Result}
use Rattle.smb_base.specs.declared.names.Fid.{Fid}
use Rattle.smb_field.specs.declared.field.BodyFault.{BodyFault}
use Rattle.smb_field.specs.declared.field.Field.{Field}
use Rattle.smb_field.specs.declared.field.Field.TheVariants.{U16, U32, U64, Any16, Any32, Offset16}
use Rattle.smb_field.specs.Body.{IsBody}
use Rattle.smb_field.specs.Rows.{number, skip, file_id, part, value, body}
use Rattle.smb_body_b.specs.declared.write.WriteRequest.{WriteRequest}
use Rattle.smb_body_b.specs.declared.write.WriteReply.{WriteReply}

-- the request's fields: where the bytes stand, their length, offset, the file id's two halves, channel, bytes remaining, the
-- channel's offset, and length, flags
abbrev pub write_request : WriteRequest → List Field
write_request x =
    Offset16 ∷ U32 (length x.bytes.now) ∷ U64 x.offset ∷ U64 x.file_id.persistent ∷ U64 x.file_id.volatile ∷ Any32 0 ∷ Any32 0
    ∷ Any16 0 ∷ Any16 0 ∷ Any32 0 ∷ []

-- a message has this body
abbrev pub IsWriteRequest : WriteRequest → List ℕ → Type 0
IsWriteRequest x message = IsBody 49 (write_request x) x.bytes.now message

-- the reply's fields: reserved, count, remaining, info offset, info length
abbrev pub write_reply : WriteReply → List Field
write_reply x = Any16 0 ∷ U32 x.count ∷ U32 x.remaining ∷ U16 x.info_offset ∷ U16 x.info_length ∷ []

-- a message has this body
abbrev pub IsWriteReply : WriteReply → List ℕ → Type 0
IsWriteReply x message = IsBody 17 (write_reply x) [] message

-- a request as a value
pub record WriteRequestValue : Type 0 where
  pub offset : ℕ
  pub file_id : Fid
  pub bytes : List ℕ

-- the value of a request that was lent
abbrev pub seen_write_request : WriteRequest → WriteRequestValue
seen_write_request x = record { offset = x.offset; file_id = x.file_id; bytes = x.bytes.now }

-- the request that a message has, read by the same table
unfoldable pub write_request_of : List ℕ → Result WriteRequestValue BodyFault
write_request_of =
    body 49 (number 2 (λ bytes_at. number 4 (λ size. number 8 (λ offset. file_id (λ fid. skip 4 (skip 4 (skip 2 (skip 2 (skip 4
    (part 49 bytes_at size (λ bytes. value (record { offset = offset; file_id = fid; bytes = bytes }))))))))))))

-- the reply that a message has, read by the same table
unfoldable pub write_reply_of : List ℕ → Result WriteReply BodyFault
write_reply_of =
    body 17 (skip 2 (number 4 (λ count. number 4 (λ remaining. number 2 (λ offset. number 2 (λ size.
    value (record { count = count; remaining = remaining; info_offset = offset; info_length = size })))))))
