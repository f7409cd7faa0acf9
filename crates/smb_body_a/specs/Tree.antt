-- The bodies of TREE_CONNECT (MS-SMB2 2.2.9 and 2.2.10): each field after the structure size, in the order of the tables there.
use Rattle.std.specs.Prelude.{ℕ, List, [], ◌∷◌, length, Result}
use Rattle.smb_field.specs.declared.field.BodyFault.{BodyFault}
use Rattle.smb_field.specs.declared.field.Field.{Field}
use Rattle.smb_field.specs.declared.field.Field.TheVariants.{U8, U16, U32, Any8, Any16, Offset16}
use Rattle.smb_field.specs.Body.{IsBody}
use Rattle.smb_field.specs.Rows.{byte, number, skip, part, value, body}
use Rattle.smb_body_a.specs.declared.tree.TreeConnectRequest.{TreeConnectRequest}
use Rattle.smb_body_a.specs.declared.tree.TreeConnectReply.{TreeConnectReply}

-- the request's fields: reserved, the path's offset and length
abbrev pub tree_connect_request : TreeConnectRequest → List Field
tree_connect_request x = Any16 0 ∷ Offset16 ∷ U16 (length x.path.now) ∷ []

-- a message has this request
abbrev pub IsTreeConnectRequest : TreeConnectRequest → List ℕ → Type 0
IsTreeConnectRequest x message = IsBody 9 (tree_connect_request x) x.path.now message

-- the reply's fields: share type, reserved, share flags, capabilities, maximal access
abbrev pub tree_connect_reply : TreeConnectReply → List Field
tree_connect_reply x = U8 x.share_type ∷ Any8 0 ∷ U32 x.share_flags ∷ U32 x.capabilities ∷ U32 x.maximal_access ∷ []

-- a message has this reply
abbrev pub IsTreeConnectReply : TreeConnectReply → List ℕ → Type 0
IsTreeConnectReply x message = IsBody 16 (tree_connect_reply x) [] message

-- the path of a request that was lent
abbrev pub seen_path : TreeConnectRequest → List ℕ
seen_path x = x.path.now

-- the path of the request that a message has, read by the same table
unfoldable pub tree_connect_request_of : List ℕ → Result (List ℕ) BodyFault
tree_connect_request_of = body 9 (skip 2 (number 2 (λ offset. number 2 (λ size. part 9 offset size (λ path. value path)))))

-- the reply that a message has, read by the same table
unfoldable pub tree_connect_reply_of : List ℕ → Result TreeConnectReply BodyFault
tree_connect_reply_of =
    body 16 (byte (λ kind. skip 1 (number 4 (λ flags. number 4 (λ capabilities. number 4 (λ access.
    value (record { share_type = kind; share_flags = flags; capabilities = capabilities; maximal_access = access })))))))
