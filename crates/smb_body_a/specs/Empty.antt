-- The body without a field that many messages share (MS-SMB2 2.2.7, for one).
use Rattle.std.specs.Prelude.{ℕ, List, [], ◌∷◌, Result}
use Rattle.smb_field.specs.declared.field.BodyFault.{BodyFault}
use Rattle.smb_field.specs.declared.field.Field.{Field}
use Rattle.smb_field.specs.declared.field.Field.TheVariants.{Any16}
use Rattle.smb_field.specs.Body.{IsBody}
use Rattle.smb_field.specs.Rows.{skip, value, body}
use Rattle.smb_body_a.specs.declared.empty.Empty.{Empty}

-- the one field is reserved
abbrev pub empty_body : Empty → List Field
empty_body x = Any16 0 ∷ []

-- a message has this body
abbrev pub IsEmpty : Empty → List ℕ → Type 0
IsEmpty x message = IsBody 4 (empty_body x) [] message

-- the body that a message has, read by the same table
unfoldable pub empty_of : List ℕ → Result Empty BodyFault
empty_of = body 4 (skip 2 (value (record {})))
