-- The bodies of READ (MS-SMB2 2.2.19 and 2.2.20): each field after the structure size, in the order of the tables there.
use Rattle.std.specs.Prelude.{ℕ, List, [], ◌∷◌, length, Result}
use Rattle.smb_field.specs.declared.field.BodyFault.{BodyFault}
use Rattle.smb_field.specs.declared.field.Field.{Field}
use Rattle.smb_field.specs.declared.field.Field.TheVariants.{U32, U64, Any8, Any16, Any32, Place8}
use Rattle.smb_field.specs.Body.{IsBody}
use Rattle.smb_field.specs.Rows.{byte, number, skip, file_id, part, value, body}
use Rattle.smb_body_b.specs.declared.read.ReadRequest.{ReadRequest}
use Rattle.smb_body_b.specs.declared.read.ReadReply.{ReadReply}

-- the request's fields: padding, reserved, length, offset, the file id's two halves, least count, channel, bytes remaining, the
-- channel's offset, and length
abbrev pub read_request : ReadRequest → List Field
read_request x =
    Any8 80 ∷ Any8 0 ∷ U32 x.length ∷ U64 x.offset ∷ U64 x.file_id.persistent ∷ U64 x.file_id.volatile ∷ Any32 0 ∷ Any32 0
    ∷ Any32 0 ∷ Any16 0 ∷ Any16 0 ∷ []

-- a message has this body
abbrev pub IsReadRequest : ReadRequest → List ℕ → Type 0
IsReadRequest x message = IsBody 49 (read_request x) [] message

-- the reply's fields: where the bytes stand, reserved, their length, data remaining, reserved
abbrev pub read_reply : ReadReply → List Field
read_reply x = Place8 ∷ Any8 0 ∷ U32 (length x.bytes.now) ∷ U32 x.data_remaining ∷ Any32 0 ∷ []

-- a message has this body
abbrev pub IsReadReply : ReadReply → List ℕ → Type 0
IsReadReply x message = IsBody 17 (read_reply x) x.bytes.now message

-- the request that a message has, read by the same table
unfoldable pub read_request_of : List ℕ → Result ReadRequest BodyFault
read_request_of =
    body 49 (skip 1 (skip 1 (number 4 (λ size. number 8 (λ offset. file_id (λ fid. skip 4 (skip 4 (skip 4 (skip 2 (skip 2
    (value (record { length = size; offset = offset; file_id = fid }))))))))))))

-- a reply as a value
pub record ReadReplyValue : Type 0 where
  pub data_remaining : ℕ
  pub bytes : List ℕ

-- the value of a reply that was lent
abbrev pub seen_read_reply : ReadReply → ReadReplyValue
seen_read_reply x = record { data_remaining = x.data_remaining; bytes = x.bytes.now }

-- the reply that a message has, read by the same table
unfoldable pub read_reply_of : List ℕ → Result ReadReplyValue BodyFault
read_reply_of =
    body 17 (byte (λ offset. skip 1 (number 4 (λ size. number 4 (λ remaining. skip 4 (part 17 offset size (λ bytes.
    value (record { data_remaining = remaining; bytes = bytes }))))))))
