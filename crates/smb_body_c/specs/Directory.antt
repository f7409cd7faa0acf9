-- The bodies of QUERY_DIRECTORY and of the reply that it shares with QUERY_INFO (MS-SMB2 2.2.33, 2.2.34 and 2.2.38): each field
-- after the structure size, in the order of the tables there.
use Rattle.std.specs.Prelude.{ℕ, List, [], ◌∷◌, length, Result}
use Rattle.smb_base.specs.declared.names.Fid.{Fid}
use Rattle.smb_field.specs.declared.field.BodyFault.{BodyFault}
use Rattle.smb_field.specs.declared.field.Field.{Field}
use Rattle.smb_field.specs.declared.field.Field.TheVariants.{U8, U16, U32, U64, Any32, Offset16}
use Rattle.smb_field.specs.Body.{IsBody}
use Rattle.smb_field.specs.Rows.{byte, number, skip, file_id, part, value, body}
use Rattle.smb_body_c.specs.declared.directory.QueryDirectoryRequest.{QueryDirectoryRequest}
use Rattle.smb_body_c.specs.declared.directory.BufferReply.{BufferReply}

-- the request's fields: class, flags, index, the file id's two halves, where the pattern stands, its length, output length
abbrev pub query_directory_request : QueryDirectoryRequest → List Field
query_directory_request x =
    U8 x.class ∷ U8 x.flags ∷ Any32 0 ∷ U64 x.file_id.persistent ∷ U64 x.file_id.volatile ∷ Offset16
    ∷ U16 (length x.pattern.now) ∷ U32 x.output_length ∷ []

-- a message has this body
abbrev pub IsQueryDirectoryRequest : QueryDirectoryRequest → List ℕ → Type 0
IsQueryDirectoryRequest x message = IsBody 33 (query_directory_request x) x.pattern.now message

-- the reply's fields: where the buffer stands, its length
abbrev pub buffer_reply : BufferReply → List Field
buffer_reply x = Offset16 ∷ U32 (length x.buffer.now) ∷ []

-- a message has this body
abbrev pub IsBufferReply : BufferReply → List ℕ → Type 0
IsBufferReply x message = IsBody 9 (buffer_reply x) x.buffer.now message

-- a request as a value
pub record QueryDirectoryValue : Type 0 where
  pub class : ℕ
  pub flags : ℕ
  pub file_id : Fid
  pub output_length : ℕ
  pub pattern : List ℕ

-- the value of a request that was lent
abbrev pub seen_query_directory : QueryDirectoryRequest → QueryDirectoryValue
seen_query_directory x =
    record { class = x.class; flags = x.flags; file_id = x.file_id; output_length = x.output_length; pattern = x.pattern.now }

-- the request that a message has, read by the same table
unfoldable pub query_directory_request_of : List ℕ → Result QueryDirectoryValue BodyFault
query_directory_request_of =
    body 33 (byte (λ class. byte (λ flags. skip 4 (file_id (λ fid. number 2 (λ offset. number 2 (λ size. number 4 (λ most.
    part 33 offset size (λ pattern.
    value (record { class = class; flags = flags; file_id = fid; output_length = most; pattern = pattern }))))))))))

-- the bytes of a reply that was lent
abbrev pub seen_buffer : BufferReply → List ℕ
seen_buffer x = x.buffer.now

-- the buffer of the reply that a message has, read by the same table
unfoldable pub buffer_reply_of : List ℕ → Result (List ℕ) BodyFault
buffer_reply_of = body 9 (number 2 (λ offset. number 4 (λ size. part 9 offset size (λ buffer. value buffer))))
