-- The definitions at examples.
use Rattle.std.proofs.Common.{◌≡◌, refl, ◌++◌, ◌∷◌, [], ℕ, List, false, replicate, Ok, Err}
use Rattle.smb_le.specs.Numbers.{number_at, bytes_of}
use Rattle.smb_head.specs.declared.request.Request.{Request}
use Rattle.smb_head.specs.Header.{head_of, head_at}
use Rattle.smb_chain.specs.Parts.{step_of}
use Rattle.smb_credit.specs.Window.{Ids, usable, after_use}
use Rattle.smb_mux.specs.declared.fault.TakeFault.TheVariants as fault
use Rattle.smb_mux.specs.declared.fault.Malformed.TheVariants as malformed
use Rattle.smb_field.specs.declared.field.BodyFault.TheVariants as body
use Rattle.smb_mux.specs.Sending.{costs, room_of, flights_of}
use Rattle.smb_mux.specs.InFlight.{but}
use Rattle.smb_mux.specs.Judged.{judged, judged_from}

-- a request of this command and charge, with four bytes of body
asking : ℕ → ℕ → Request
asking command charge =
    record { command = command; charge = charge; related = false; tree = 3; session = 9; body = 4 ∷ 0 ∷ 0 ∷ 0 ∷ [] }

-- three ids and one more
four : Ids
four = record { granted = 0 ∷ 1 ∷ 2 ∷ 3 ∷ []; used = 0 ∷ [] }

-- a charge of 0 costs one id; each request has the least id that the one before it left
cost_of_two : costs (asking 13 0 ∷ asking 6 2 ∷ []) ≡ 3
unfolding asking
cost_of_two = refl

ids_of_two : flights_of four (asking 13 2 ∷ asking 6 0 ∷ []) ≡ (1, 13) ∷ (3, 6) ∷ []
unfolding four asking usable after_use
ids_of_two = refl

room_of_two : room_of (asking 13 0 ∷ asking 6 2 ∷ []) ≡ 140
unfolding asking
room_of_two = refl

-- the reply to an ECHO with this id, as bytes
echoed : ℕ → List ℕ
echoed mid =
    bytes_of 4 0x424D53FE ++ (bytes_of 2 64 ++ (bytes_of 2 0 ++ (bytes_of 4 0 ++ (bytes_of 2 13 ++ (bytes_of 2 1 ++ (bytes_of 4 1
    ++ (bytes_of 4 0 ++ (bytes_of 8 mid ++ (replicate 32 0 ++ (bytes_of 2 4 ++ bytes_of 2 0))))))))))

-- it answers the ECHO that is in flight; another id is a stranger's, and that of a CLOSE is answered wrongly
answered : judged ((2, 6) ∷ (5, 13) ∷ []) (echoed 5) ≡ Ok (record { replies = record { mid = record { 0 = 5 }; part = echoed 5 } ∷ []; breaks = []; interim = [] })
unfolding judged_from echoed step_of head_of head_at number_at bytes_of
answered = refl

strange : judged ((2, 6) ∷ (5, 13) ∷ []) (echoed 4) ≡ Err (fault.Stranger (record { 0 = 4 }))
unfolding judged_from echoed step_of head_of head_at number_at bytes_of
strange = refl

mistaken : judged ((2, 6) ∷ (5, 13) ∷ []) (echoed 2) ≡ Err (fault.Malformed (malformed.Body body.Value))
unfolding judged_from echoed step_of head_of head_at number_at bytes_of
mistaken = refl

left : but 2 ((2, 6) ∷ (5, 13) ∷ []) ≡ (5, 13) ∷ []
left = refl
