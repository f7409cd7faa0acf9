-- Two readings of one body are answered alike.
use Rattle.std.proofs.Common.{◌≡◌, ◌==◌, true, ℕ, ◌+◌, ◌<◌, ◌≤◌, ◌⊎◌, List, length, refl, arith, Result, Ok, Err, inl, inr, ap, ◌∙◌}
use Rattle.smb_le.specs.Numbers.{number_at}
use Rattle.smb_head.specs.declared.head.Head.{Head}
use Rattle.smb_head.specs.Header.{head_of}
use Rattle.smb_field.specs.declared.field.BodyFault.{BodyFault}
use Rattle.smb_field.specs.declared.field.BodyFault.TheVariants.{Short, Size, Value, Offset}
use Rattle.smb_field.specs.Body.{end_of_fixed, Lends, Strays, Reads}
use Rattle.smb_body_a.specs.declared.negotiate.NegotiateReply.{NegotiateReply}
use Rattle.smb_body_a.specs.Negotiate.{IsNegotiateReply}
use Rattle.smb_mount.specs.declared.fault.MountFault.{MountFault}
use Rattle.smb_mount.specs.Kept.{Start, Greeted}
use Rattle.smb_mount.specs.Replies.{ReadsNegotiate}
use Rattle.smb_mount.specs.Verdicts.{by_body, greeted, NegotiateEnds}

-- the first fault of a body is one
same_fault : {X : Type 0} (size : ℕ) (stands : X → Type 0) (strays : Type 0) (m : List ℕ) (f g : BodyFault)
    → Reads size stands ⊥ strays m (Err f) → Reads size stands ⊥ strays m (Err g) → f ≡ g
same_fault size stands strays m Short Short p q = refl
same_fault size stands strays m Short Size p q = absurd (omega (arith, q.0))
same_fault size stands strays m Short Value p q = absurd (omega (arith, q.0))
same_fault size stands strays m Short Offset p q = absurd (omega (arith, q.0))
same_fault size stands strays m Size Short p q = absurd (omega (arith, p.0))
same_fault size stands strays m Size Size p q = refl
same_fault size stands strays m Size Value p q = absurd (p.1 q.1)
same_fault size stands strays m Size Offset p q = absurd (p.1 q.1)
same_fault size stands strays m Value Short p q = absurd p.2
same_fault size stands strays m Value Size p q = absurd p.2
same_fault size stands strays m Value Value p q = refl
same_fault size stands strays m Value Offset p q = absurd p.2
same_fault size stands strays m Offset Short p q = absurd (omega (arith, p.0))
same_fault size stands strays m Offset Size p q = absurd (q.1 p.1)
same_fault size stands strays m Offset Value p q = absurd q.2
same_fault size stands strays m Offset Offset p q = refl

-- a body that stands has no fault
no_fault : {X : Type 0} (size : ℕ) (stands : X → Type 0) (strays : Type 0) (m : List ℕ) (f : BodyFault)
    → end_of_fixed size ≤ length m → number_at 2 64 m ≡ size → ¬ strays → Reads size stands ⊥ strays m (Err f) → ⊥
no_fault size stands strays m Short long e n p = omega arith
no_fault size stands strays m Size long e n p = p.1 e
no_fault size stands strays m Value long e n p = p.2
no_fault size stands strays m Offset long e n p = n p.3

-- where a part strays, it is not lent
strays_off : (behind offset size : ℕ) (part m : List ℕ) → (behind ≤ offset) × (offset + length part ≤ length m) → size ≡ length part
    → (offset < behind) ⊎ (length m < offset + size) → ⊥
strays_off behind offset size part m within e (inl low) = omega (arith, within.0)
strays_off behind offset size part m within e (inr high) = omega (arith, within.1)

lent_part : (behind offset size : ℕ) (part m : List ℕ) → size ≡ length part → Lends behind part m offset → ¬ Strays behind offset size m
lent_part behind offset size part m e lends strays =
    let some : 0 < length part = omega (arith, strays.0) in
    let within = lends some in
    strays_off behind offset size part m (within.0, within.1) e strays.1

-- a NEGOTIATE reply that is read has no fault
sound_negotiate : (part : List ℕ) (x : NegotiateReply) (g : BodyFault) → IsNegotiateReply x part → ReadsNegotiate part (Err g) → ⊥
sound_negotiate part x g p q =
    no_fault 65 (λ (x : NegotiateReply). IsNegotiateReply x part) (Strays 128 (number_at 2 120 part) (number_at 2 122 part) part) part g p.0 p.1
    (lent_part 128 (number_at 2 120 part) (number_at 2 122 part) x.buffer.now part p.2.1.1.1.1.1.1.1.1.1.1.1.0 p.2.1.1.1.1.1.1.1.1.1.1.0) q

-- what is read of a NEGOTIATE reply has one answer
pub same_negotiate : (k : Start) (part : List ℕ) (a b : Result NegotiateReply BodyFault) → ReadsNegotiate part a → ReadsNegotiate part b
    → by_body (greeted k) a ≡ by_body (greeted k) b
same_negotiate k part (Ok x) (Ok y) p q = grind arith
same_negotiate k part (Ok x) (Err g) p q = absurd (sound_negotiate part x g p q)
same_negotiate k part (Err f) (Ok y) p q = absurd (sound_negotiate part y f q p)
same_negotiate k part (Err f) (Err g) p q =
    ap (λ (h : BodyFault). by_body (greeted k) (Err h))
    (same_fault 65 (λ (x : NegotiateReply). IsNegotiateReply x part) (Strays 128 (number_at 2 120 part) (number_at 2 122 part) part) part f g p q)

-- the answer to one reading of a NEGOTIATE reply is the answer to each
pub negotiated : (k : Start) (part : List ℕ) (head : Head) (body : Result NegotiateReply BodyFault) (result : Result Greeted MountFault)
    → head_of part ≡ Ok head → (head.status.0 == 0) ≡ true → ReadsNegotiate part body → result ≡ by_body (greeted k) body
    → NegotiateEnds k (head_of part) part result
negotiated k part head body result is_head success read answer =
    rw (is_head, success)
    (record { some_body = (body, read, answer); every_body = λ (other : Result NegotiateReply BodyFault) (reads : ReadsNegotiate part other). answer ∙ same_negotiate k part body other read reads })
