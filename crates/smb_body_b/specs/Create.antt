-- The bodies of CREATE (MS-SMB2 2.2.13 and 2.2.14): each field after the structure size, in the order of the tables there.
use Rattle.std.specs.Prelude.{◌≡◌, ℕ, ◌%◌, ◌≤◌, ◌==◌, ◌&&◌, nat_le, List, [], ◌∷◌, length, slice_index, Result}
use Rattle.smb_base.specs.declared.names.Fid.{Fid}
use Rattle.smb_field.specs.declared.field.BodyFault.{BodyFault}
use Rattle.smb_field.specs.declared.field.Field.{Field}
use Rattle.smb_field.specs.declared.field.Field.TheVariants.{U8, U16, U32, U64, Any8, Any32, Any64, Offset16, Offset32, Second32}
use Rattle.smb_field.specs.Body.{IsBody}
use Rattle.smb_field.specs.TwoParts.{IsBodyOfTwo}
use Rattle.smb_field.specs.Rows.{byte, number, skip, file_id, times, part, right, value, body}
use Rattle.smb_body_b.specs.declared.create.CreateRequest.{CreateRequest}
use Rattle.smb_body_b.specs.declared.create.CreateReply.{CreateReply}

-- the request's fields: security flags, oplock level, impersonation, flags, reserved, access, attributes, share, disposition,
-- options, where the name stands, its length, where the contexts stand, their length
abbrev pub create_request : CreateRequest → List Field
create_request x =
    Any8 0 ∷ U8 x.oplock_level ∷ Any32 2 ∷ Any64 0 ∷ Any64 0 ∷ U32 x.access ∷ U32 x.attributes ∷ U32 x.share ∷ U32 x.disposition
    ∷ U32 x.options ∷ Offset16 ∷ U16 (length x.name.now) ∷ Second32 ∷ U32 (length x.contexts.now) ∷ []

-- a message has this body, with a disposition that there is and a name of whole units
abbrev pub IsCreateRequest : CreateRequest → List ℕ → Type 0
IsCreateRequest x message =
    IsBodyOfTwo 57 (create_request x) x.name.now x.contexts.now message × (x.disposition ≤ 5) × (length x.name.now % 2 ≡ 0)

-- the reply's fields: oplock level, flags, create action, four times, allocation size, end of file, attributes, reserved, the
-- file id's two halves, where the contexts stand, their length
abbrev pub create_reply : CreateReply → List Field
create_reply x =
    U8 x.oplock_level ∷ U8 x.flags ∷ U32 x.action ∷ U64 (slice_index x.times 0) ∷ U64 (slice_index x.times 1)
    ∷ U64 (slice_index x.times 2) ∷ U64 (slice_index x.times 3) ∷ U64 x.allocation_size ∷ U64 x.end_of_file ∷ U32 x.attributes
    ∷ Any32 0 ∷ U64 x.file_id.persistent ∷ U64 x.file_id.volatile ∷ Offset32 ∷ U32 (length x.contexts.now) ∷ []

-- a message has this body
abbrev pub IsCreateReply : CreateReply → List ℕ → Type 0
IsCreateReply x message = IsBody 89 (create_reply x) x.contexts.now message

-- a request as a value, its contexts unread
pub record CreateRequestValue : Type 0 where
  pub oplock_level : ℕ
  pub access : ℕ
  pub attributes : ℕ
  pub share : ℕ
  pub disposition : ℕ
  pub options : ℕ
  pub name : List ℕ
  pub contexts : List ℕ

-- the value of a request that was lent
abbrev pub seen_create_request : CreateRequest → CreateRequestValue
seen_create_request x = record {
  oplock_level = x.oplock_level;
  access = x.access;
  attributes = x.attributes;
  share = x.share;
  disposition = x.disposition;
  options = x.options;
  name = x.name.now;
  contexts = x.contexts.now;
}

-- the request that a message has, read by the same table: its disposition is one that there is, and its name has whole units
unfoldable pub create_request_of : List ℕ → Result CreateRequestValue BodyFault
create_request_of =
    body 57 (skip 1 (byte (λ level. skip 4 (skip 8 (skip 8 (number 4 (λ access. number 4 (λ attributes. number 4 (λ share.
    number 4 (λ disposition. number 4 (λ options. number 2 (λ name_at. number 2 (λ name_size. number 4 (λ contexts_at. number 4 (λ contexts_size.
    right (nat_le disposition 5 && name_size % 2 == 0) (part 57 name_at name_size (λ name. part 57 contexts_at contexts_size (λ contexts.
    value (record {
      oplock_level = level;
      access = access;
      attributes = attributes;
      share = share;
      disposition = disposition;
      options = options;
      name = name;
      contexts = contexts;
    })))))))))))))))))))

-- a reply as a value, its contexts unread
pub record CreateReplyValue : Type 0 where
  pub oplock_level : ℕ
  pub flags : ℕ
  pub action : ℕ
  pub times : List ℕ
  pub allocation_size : ℕ
  pub end_of_file : ℕ
  pub attributes : ℕ
  pub file_id : Fid
  pub contexts : List ℕ

-- the value of a reply that was lent
abbrev pub seen_create_reply : CreateReply → CreateReplyValue
seen_create_reply x = record {
  oplock_level = x.oplock_level;
  flags = x.flags;
  action = x.action;
  times = x.times;
  allocation_size = x.allocation_size;
  end_of_file = x.end_of_file;
  attributes = x.attributes;
  file_id = x.file_id;
  contexts = x.contexts.now;
}

-- the reply that a message has, read by the same table
unfoldable pub create_reply_of : List ℕ → Result CreateReplyValue BodyFault
create_reply_of =
    body 89 (byte (λ level. byte (λ flags. number 4 (λ action. times (λ times. number 8 (λ allocation. number 8 (λ size.
    number 4 (λ attributes. skip 4 (file_id (λ fid. number 4 (λ contexts_at. number 4 (λ contexts_size.
    part 89 contexts_at contexts_size (λ contexts.
    value (record {
      oplock_level = level;
      flags = flags;
      action = action;
      times = times;
      allocation_size = allocation;
      end_of_file = size;
      attributes = attributes;
      file_id = fid;
      contexts = contexts;
    }))))))))))))))
