-- The one frame that a ping sends (MS-SMB2 2.1, 2.2.1.2 and 2.2.3), byte by byte.
use Rattle.std.specs.Prelude.{ℕ, List, [], ◌∷◌, ◌++◌}

-- the frame up to the client's id: the frame's length; the header with command 0 and message id 0, which asks for 32 credits; the body with
-- one dialect and signing enabled
abbrev pub before_guid : List ℕ
before_guid =
    0 ∷ 0 ∷ 0 ∷ 102
    -- protocol, StructureSize, CreditCharge, Status, Command, CreditRequest
    ∷ 0xFE ∷ 0x53 ∷ 0x4D ∷ 0x42 ∷ 64 ∷ 0 ∷ 0 ∷ 0 ∷ 0 ∷ 0 ∷ 0 ∷ 0 ∷ 0 ∷ 0 ∷ 32 ∷ 0
    -- Flags, NextCommand, MessageId
    ∷ 0 ∷ 0 ∷ 0 ∷ 0 ∷ 0 ∷ 0 ∷ 0 ∷ 0 ∷ 0 ∷ 0 ∷ 0 ∷ 0 ∷ 0 ∷ 0 ∷ 0 ∷ 0
    -- Reserved, TreeId, SessionId
    ∷ 0 ∷ 0 ∷ 0 ∷ 0 ∷ 0 ∷ 0 ∷ 0 ∷ 0 ∷ 0 ∷ 0 ∷ 0 ∷ 0 ∷ 0 ∷ 0 ∷ 0 ∷ 0
    -- Signature
    ∷ 0 ∷ 0 ∷ 0 ∷ 0 ∷ 0 ∷ 0 ∷ 0 ∷ 0 ∷ 0 ∷ 0 ∷ 0 ∷ 0 ∷ 0 ∷ 0 ∷ 0 ∷ 0
    -- StructureSize, DialectCount, SecurityMode, Reserved, Capabilities
    ∷ 36 ∷ 0 ∷ 1 ∷ 0 ∷ 1 ∷ 0 ∷ 0 ∷ 0 ∷ 0 ∷ 0 ∷ 0 ∷ 0 ∷ []

-- the frame behind the client's id: ClientStartTime, and the dialect 0x0210
abbrev pub after_guid : List ℕ
after_guid = 0 ∷ 0 ∷ 0 ∷ 0 ∷ 0 ∷ 0 ∷ 0 ∷ 0 ∷ 0x10 ∷ 0x02 ∷ []

-- the frame with these sixteen bytes as the client's id
abbrev pub ping_frame : List ℕ → List ℕ
ping_frame seed = before_guid ++ (seed ++ after_guid)
