-- The body of the error reply (MS-SMB2 2.2.2): each field after the structure size, in the order of the table there.
use Rattle.std.specs.Prelude.{ℕ, List, [], ◌∷◌, length, Result}
use Rattle.smb_field.specs.declared.field.BodyFault.{BodyFault}
use Rattle.smb_field.specs.declared.field.Field.{Field}
use Rattle.smb_field.specs.declared.field.Field.TheVariants.{U8, U32, Any8, Follows}
use Rattle.smb_field.specs.Body.{IsBody}
use Rattle.smb_field.specs.Rows.{byte, number, skip, follows, value, body}
use Rattle.smb_body_c.specs.declared.error.ErrorReply.{ErrorReply}

-- the error reply's fields: how many contexts, reserved, how many bytes, and the bytes behind them
abbrev pub error_reply : ErrorReply → List Field
error_reply x = U8 x.context_count ∷ Any8 0 ∷ U32 (length x.bytes.now) ∷ Follows ∷ []

-- a message has this body
abbrev pub IsErrorReply : ErrorReply → List ℕ → Type 0
IsErrorReply x message = IsBody 9 (error_reply x) x.bytes.now message

-- an error reply as a value
pub record ErrorValue : Type 0 where
  pub context_count : ℕ
  pub bytes : List ℕ

-- the value of a reply that was lent
abbrev pub seen_error : ErrorReply → ErrorValue
seen_error x = record { context_count = x.context_count; bytes = x.bytes.now }

-- the error reply that a message has, read by the same table
unfoldable pub error_reply_of : List ℕ → Result ErrorValue BodyFault
error_reply_of =
    body 9 (byte (λ contexts. skip 1 (number 4 (λ size. follows 9 size (λ bytes.
    value (record { context_count = contexts; bytes = bytes }))))))
