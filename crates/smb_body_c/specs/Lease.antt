-- The bodies of lease breaks (MS-SMB2 2.2.23.2, 2.2.24.2 and 2.2.25.2): each field after the structure size, in the order of the
-- tables there.
use Rattle.std.specs.Prelude.{ℕ, List, [], ◌∷◌, Result}
use Rattle.smb_field.specs.declared.field.BodyFault.{BodyFault}
use Rattle.smb_field.specs.declared.field.Field.{Field}
use Rattle.smb_field.specs.declared.field.Field.TheVariants.{U16, U32, U64, Block, Any16}
use Rattle.smb_field.specs.Body.{IsBody}
use Rattle.smb_field.specs.Rows.{number, block, skip, value, body}
use Rattle.smb_body_c.specs.declared.lease.LeaseBreak.{LeaseBreak}
use Rattle.smb_body_c.specs.declared.lease.LeaseAck.{LeaseAck}

-- the notification's fields: new epoch, flags, key, current, new, reason, access hint, share hint
abbrev pub lease_break : LeaseBreak → List Field
lease_break x =
    U16 x.new_epoch ∷ U32 x.flags ∷ Block x.key.0 ∷ U32 x.current ∷ U32 x.new ∷ U32 x.reason ∷ U32 x.access_hint
    ∷ U32 x.share_hint ∷ []

-- a message has this body
abbrev pub IsLeaseBreak : LeaseBreak → List ℕ → Type 0
IsLeaseBreak x message = IsBody 44 (lease_break x) [] message

-- the acknowledgement's fields: reserved, flags, key, state, duration
abbrev pub lease_ack : LeaseAck → List Field
lease_ack x = Any16 0 ∷ U32 x.flags ∷ Block x.key.0 ∷ U32 x.state ∷ U64 x.duration ∷ []

-- a message has this body
abbrev pub IsLeaseAck : LeaseAck → List ℕ → Type 0
IsLeaseAck x message = IsBody 36 (lease_ack x) [] message

-- the notification that a message has, read by the same table
unfoldable pub lease_break_of : List ℕ → Result LeaseBreak BodyFault
lease_break_of =
    body 44 (number 2 (λ epoch. number 4 (λ flags. block 16 (λ key. number 4 (λ current. number 4 (λ new. number 4 (λ reason.
    number 4 (λ access. number 4 (λ share.
    value (record {
      new_epoch = epoch;
      flags = flags;
      key = record { 0 = key };
      current = current;
      new = new;
      reason = reason;
      access_hint = access;
      share_hint = share;
    }))))))))))

-- the acknowledgement that a message has, read by the same table
unfoldable pub lease_ack_of : List ℕ → Result LeaseAck BodyFault
lease_ack_of =
    body 36 (skip 2 (number 4 (λ flags. block 16 (λ key. number 4 (λ state. number 8 (λ duration.
    value (record { flags = flags; key = record { 0 = key }; state = state; duration = duration })))))))
