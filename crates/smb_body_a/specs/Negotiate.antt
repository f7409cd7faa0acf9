-- The bodies of NEGOTIATE (MS-SMB2 2.2.3 and 2.2.4): each field after the structure size, in the order of the tables there.
use Rattle.std.specs.Prelude.{◌≡◌, ℕ, ◌*◌, ◌/◌, ◌%◌, List, [], ◌∷◌, length, Result}
use Rattle.smb_field.specs.declared.field.BodyFault.{BodyFault}
use Rattle.smb_field.specs.declared.field.Field.{Field}
use Rattle.smb_field.specs.declared.field.Field.TheVariants.{U16, U32, U64, Block, Any16, Any32, Any64, Offset16, Follows}
use Rattle.smb_field.specs.Body.{IsBody}
use Rattle.smb_field.specs.Rows.{number, block, skip, part, follows, value, body}
use Rattle.smb_body_a.specs.declared.negotiate.NegotiateRequest.{NegotiateRequest}
use Rattle.smb_body_a.specs.declared.negotiate.NegotiateReply.{NegotiateReply}

-- the request's fields: how many dialects, security mode, reserved, capabilities, the client's id, start time, and the dialects
-- behind them
abbrev pub negotiate_request : NegotiateRequest → List Field
negotiate_request x =
    U16 (length x.dialects.now / 2) ∷ Any16 1 ∷ Any16 0 ∷ Any32 0 ∷ Block x.client_guid ∷ Any64 0 ∷ Follows ∷ []

-- a message has this request, whose dialects have 2 bytes each
abbrev pub IsNegotiateRequest : NegotiateRequest → List ℕ → Type 0
IsNegotiateRequest x message = IsBody 36 (negotiate_request x) x.dialects.now message × (length x.dialects.now % 2 ≡ 0)

-- the reply's fields
abbrev pub negotiate_reply : NegotiateReply → List Field
negotiate_reply x =
    U16 x.security_mode ∷ U16 x.dialect ∷ Any16 0 ∷ Block x.server_guid ∷ U32 x.capabilities ∷ U32 x.max_transact ∷ U32 x.max_read
    ∷ U32 x.max_write ∷ U64 x.system_time ∷ U64 x.start_time ∷ Offset16 ∷ U16 (length x.buffer.now) ∷ Any32 0 ∷ []

-- a message has this reply
abbrev pub IsNegotiateReply : NegotiateReply → List ℕ → Type 0
IsNegotiateReply x message = IsBody 65 (negotiate_reply x) x.buffer.now message

-- a request as a value: the client's id, and the dialects of 2 bytes each
pub record NegotiateRequestValue : Type 0 where
  pub client_guid : List ℕ
  pub dialects : List ℕ

-- the value of a request that was lent
abbrev pub seen_negotiate_request : NegotiateRequest → NegotiateRequestValue
seen_negotiate_request x = record { client_guid = x.client_guid; dialects = x.dialects.now }

-- the request that a message has, read by the same table
unfoldable pub negotiate_request_of : List ℕ → Result NegotiateRequestValue BodyFault
negotiate_request_of =
    body 36 (number 2 (λ count. skip 2 (skip 2 (skip 4 (block 16 (λ guid. skip 8 (follows 36 (2 * count) (λ dialects.
    value (record { client_guid = guid; dialects = dialects })))))))))

-- a reply as a value
pub record NegotiateReplyValue : Type 0 where
  pub security_mode : ℕ
  pub dialect : ℕ
  pub server_guid : List ℕ
  pub capabilities : ℕ
  pub max_transact : ℕ
  pub max_read : ℕ
  pub max_write : ℕ
  pub system_time : ℕ
  pub start_time : ℕ
  pub buffer : List ℕ

-- the value of a reply that was lent
abbrev pub seen_negotiate_reply : NegotiateReply → NegotiateReplyValue
seen_negotiate_reply x = record {
  security_mode = x.security_mode;
  dialect = x.dialect;
  server_guid = x.server_guid;
  capabilities = x.capabilities;
  max_transact = x.max_transact;
  max_read = x.max_read;
  max_write = x.max_write;
  system_time = x.system_time;
  start_time = x.start_time;
  buffer = x.buffer.now;
}

-- the reply that a message has, read by the same table
unfoldable pub negotiate_reply_of : List ℕ → Result NegotiateReplyValue BodyFault
negotiate_reply_of =
    body 65 (number 2 (λ mode. number 2 (λ dialect. skip 2 (block 16 (λ guid. number 4 (λ capabilities. number 4 (λ transact.
    number 4 (λ most_read. number 4 (λ most_written. number 8 (λ now. number 8 (λ start. number 2 (λ offset. number 2 (λ size.
    skip 4 (part 65 offset size (λ buffer.
    value (record {
      security_mode = mode;
      dialect = dialect;
      server_guid = guid;
      capabilities = capabilities;
      max_transact = transact;
      max_read = most_read;
      max_write = most_written;
      system_time = now;
      start_time = start;
      buffer = buffer;
    }))))))))))))))))
