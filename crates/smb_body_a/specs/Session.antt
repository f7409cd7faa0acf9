-- The bodies of SESSION_SETUP (MS-SMB2 2.2.5 and 2.2.6): each field after the structure size, in the order of the tables there.
use Rattle.std.specs.Prelude.{ℕ, List, [], ◌∷◌, length, Result}
use Rattle.smb_field.specs.declared.field.BodyFault.{BodyFault}
use Rattle.smb_field.specs.declared.field.Field.{Field}
use Rattle.smb_field.specs.declared.field.Field.TheVariants.{U16, U64, Any8, Any32, Offset16}
use Rattle.smb_field.specs.Body.{IsBody}
use Rattle.smb_field.specs.Rows.{number, skip, part, value, body}
use Rattle.smb_body_a.specs.declared.session.SessionSetupRequest.{SessionSetupRequest}
use Rattle.smb_body_a.specs.declared.session.SessionSetupReply.{SessionSetupReply}

-- the request's fields: flags, security mode, capabilities, channel, the token's offset and length, the session before this one
abbrev pub session_setup_request : SessionSetupRequest → List Field
session_setup_request x =
    Any8 0 ∷ Any8 1 ∷ Any32 0 ∷ Any32 0 ∷ Offset16 ∷ U16 (length x.buffer.now) ∷ U64 x.previous_session_id ∷ []

-- a message has this request
abbrev pub IsSessionSetupRequest : SessionSetupRequest → List ℕ → Type 0
IsSessionSetupRequest x message = IsBody 25 (session_setup_request x) x.buffer.now message

-- the reply's fields: session flags, the token's offset and length
abbrev pub session_setup_reply : SessionSetupReply → List Field
session_setup_reply x = U16 x.session_flags ∷ Offset16 ∷ U16 (length x.buffer.now) ∷ []

-- a message has this reply
abbrev pub IsSessionSetupReply : SessionSetupReply → List ℕ → Type 0
IsSessionSetupReply x message = IsBody 9 (session_setup_reply x) x.buffer.now message

-- a request as a value: the session before this one, and the token
pub record SessionRequestValue : Type 0 where
  pub previous_session_id : ℕ
  pub buffer : List ℕ

-- the value of a request that was lent
abbrev pub seen_session_request : SessionSetupRequest → SessionRequestValue
seen_session_request x = record { previous_session_id = x.previous_session_id; buffer = x.buffer.now }

-- the request that a message has, read by the same table
unfoldable pub session_setup_request_of : List ℕ → Result SessionRequestValue BodyFault
session_setup_request_of =
    body 25 (skip 1 (skip 1 (skip 4 (skip 4 (number 2 (λ offset. number 2 (λ size. number 8 (λ previous. part 25 offset size (λ buffer.
    value (record { previous_session_id = previous; buffer = buffer }))))))))))

-- a reply as a value: the session's flags, and the token
pub record SessionReplyValue : Type 0 where
  pub session_flags : ℕ
  pub buffer : List ℕ

-- the value of a reply that was lent
abbrev pub seen_session_reply : SessionSetupReply → SessionReplyValue
seen_session_reply x = record { session_flags = x.session_flags; buffer = x.buffer.now }

-- the reply that a message has, read by the same table
unfoldable pub session_setup_reply_of : List ℕ → Result SessionReplyValue BodyFault
session_setup_reply_of =
    body 9 (number 2 (λ flags. number 2 (λ offset. number 2 (λ size. part 9 offset size (λ buffer.
    value (record { session_flags = flags; buffer = buffer }))))))
