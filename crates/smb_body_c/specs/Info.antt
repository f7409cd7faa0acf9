-- The bodies of QUERY_INFO and SET_INFO (MS-SMB2 2.2.37, 2.2.39 and 2.2.40): each field after the structure size, in the order of
-- the tables there.
use Rattle.std.specs.Prelude.{◌≡◌, ◌⊎◌, ℕ, ◌==◌, ◌||◌, List, [], ◌∷◌, length, Result}
use Rattle.smb_base.specs.declared.names.Fid.{Fid}
use Rattle.smb_field.specs.declared.field.BodyFault.{BodyFault}
use Rattle.smb_field.specs.declared.field.Field.{Field}
use Rattle.smb_field.specs.declared.field.Field.TheVariants.{U8, U32, U64, Any16, Any32, Offset16}
use Rattle.smb_field.specs.Body.{IsBody}
use Rattle.smb_field.specs.Rows.{byte, number, skip, file_id, part, right, value, body}
use Rattle.smb_body_c.specs.declared.info.QueryInfoRequest.{QueryInfoRequest}
use Rattle.smb_body_c.specs.declared.info.SetInfoRequest.{SetInfoRequest}
use Rattle.smb_body_c.specs.declared.info.SetInfoReply.{SetInfoReply}

-- the kinds of information: of a file, and of the file system
abbrev pub IsQueried : ℕ → Type 0
IsQueried info_type = (info_type ≡ 1) ⊎ (info_type ≡ 2)

-- the request's fields: info type, class, output length, the input's offset, reserved, the input's length, additional
-- information, flags, the file id's two halves
abbrev pub query_info_request : QueryInfoRequest → List Field
query_info_request x =
    U8 x.info_type ∷ U8 x.class ∷ U32 x.output_length ∷ Any16 0 ∷ Any16 0 ∷ Any32 0 ∷ Any32 0 ∷ Any32 0
    ∷ U64 x.file_id.persistent ∷ U64 x.file_id.volatile ∷ []

-- a message has this body, and asks for a kind of information that there is
abbrev pub IsQueryInfoRequest : QueryInfoRequest → List ℕ → Type 0
IsQueryInfoRequest x message = IsBody 41 (query_info_request x) [] message × IsQueried x.info_type

-- the request's fields: info type, class, the buffer's length, where the buffer stands, reserved, additional information, the
-- file id's two halves
abbrev pub set_info_request : SetInfoRequest → List Field
set_info_request x =
    U8 x.info_type ∷ U8 x.class ∷ U32 (length x.buffer.now) ∷ Offset16 ∷ Any16 0 ∷ Any32 0 ∷ U64 x.file_id.persistent
    ∷ U64 x.file_id.volatile ∷ []

-- a message has this body, and sets information of a file
abbrev pub IsSetInfoRequest : SetInfoRequest → List ℕ → Type 0
IsSetInfoRequest x message = IsBody 33 (set_info_request x) x.buffer.now message × (x.info_type ≡ 1)

-- the reply's fields: none
abbrev pub set_info_reply : SetInfoReply → List Field
set_info_reply x = []

-- a message has this body
abbrev pub IsSetInfoReply : SetInfoReply → List ℕ → Type 0
IsSetInfoReply x message = IsBody 2 (set_info_reply x) [] message

-- the query that a message has, read by the same table
unfoldable pub query_info_request_of : List ℕ → Result QueryInfoRequest BodyFault
query_info_request_of =
    body 41 (byte (λ kind. byte (λ class. number 4 (λ most. skip 2 (skip 2 (skip 4 (skip 4 (skip 4 (file_id (λ fid.
    right (kind == 1 || kind == 2)
    (value (record { info_type = kind; class = class; output_length = most; file_id = fid }))))))))))))

-- a SET_INFO request as a value
pub record SetInfoValue : Type 0 where
  pub info_type : ℕ
  pub class : ℕ
  pub file_id : Fid
  pub buffer : List ℕ

-- the value of a request that was lent
abbrev pub seen_set_info : SetInfoRequest → SetInfoValue
seen_set_info x = record { info_type = x.info_type; class = x.class; file_id = x.file_id; buffer = x.buffer.now }

-- the SET_INFO request that a message has, read by the same table
unfoldable pub set_info_request_of : List ℕ → Result SetInfoValue BodyFault
set_info_request_of =
    body 33 (byte (λ kind. byte (λ class. number 4 (λ size. number 2 (λ offset. skip 2 (skip 4 (file_id (λ fid.
    right (kind == 1) (part 33 offset size (λ buffer.
    value (record { info_type = kind; class = class; file_id = fid; buffer = buffer })))))))))))

-- the SET_INFO reply that a message has, read by the same table
unfoldable pub set_info_reply_of : List ℕ → Result SetInfoReply BodyFault
set_info_reply_of = body 2 (value (record {}))
