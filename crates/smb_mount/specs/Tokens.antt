-- The two messages of an anonymous client's NTLMSSP, byte by byte.
use Rattle.std.specs.Prelude.{ℕ, List, [], ◌∷◌, ◌++◌}

-- Signature: NTLMSSP and a zero byte
abbrev pub signature : List ℕ
signature = 0x4E ∷ 0x54 ∷ 0x4C ∷ 0x4D ∷ 0x53 ∷ 0x53 ∷ 0x50 ∷ 0 ∷ []

-- a field of no bytes, at the end of the fixed part of 72 bytes: length, maximal length, offset
abbrev pub no_bytes : List ℕ
no_bytes = 0 ∷ 0 ∷ 0 ∷ 0 ∷ 72 ∷ 0 ∷ 0 ∷ 0 ∷ []

-- NEGOTIATE_MESSAGE (MS-NLMP 2.2.1.1)
abbrev pub negotiate_token : List ℕ
negotiate_token =
    signature
    -- MessageType
    ++ (1 ∷ 0 ∷ 0 ∷ 0
    -- NegotiateFlags: UNICODE, REQUEST_TARGET, NTLM
    ∷ 0x05 ∷ 0x02 ∷ 0 ∷ 0
    -- DomainNameFields, WorkstationFields, Version
    ∷ 0 ∷ 0 ∷ 0 ∷ 0 ∷ 0 ∷ 0 ∷ 0 ∷ 0
    ∷ 0 ∷ 0 ∷ 0 ∷ 0 ∷ 0 ∷ 0 ∷ 0 ∷ 0
    ∷ 0 ∷ 0 ∷ 0 ∷ 0 ∷ 0 ∷ 0 ∷ 0 ∷ 0 ∷ [])

-- AUTHENTICATE_MESSAGE of no user (MS-NLMP 2.2.1.3 and 3.2.5.1.2): the LM response is one zero byte
abbrev pub authenticate_token : List ℕ
authenticate_token =
    signature
    -- MessageType
    ++ (3 ∷ 0 ∷ 0 ∷ 0
    -- LmChallengeResponseFields
    ∷ 1 ∷ 0 ∷ 1 ∷ 0 ∷ 72 ∷ 0 ∷ 0 ∷ 0 ∷ []
    -- NtChallengeResponseFields, DomainNameFields, UserNameFields, WorkstationFields, EncryptedRandomSessionKeyFields
    ++ (no_bytes ++ (no_bytes ++ (no_bytes ++ (no_bytes ++ (no_bytes
    -- NegotiateFlags: UNICODE, REQUEST_TARGET, NTLM, ANONYMOUS
    ++ (0x05 ∷ 0x0A ∷ 0 ∷ 0
    -- Version
    ∷ 0 ∷ 0 ∷ 0 ∷ 0 ∷ 0 ∷ 0 ∷ 0 ∷ 0
    -- the LM response
    ∷ 0 ∷ [])))))))
