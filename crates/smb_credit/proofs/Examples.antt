-- The definitions at examples.
use Rattle.std.proofs.Common.{◌≡◌, refl, ◌∷◌, [], map}
use Rattle.smb_credit.specs.Window.{Ids, usable, granted_more, after_use, numbers, cost}

start : Ids
start = record { granted = 0 ∷ []; used = [] }

three : Ids
three = record { granted = 0 ∷ 1 ∷ 2 ∷ []; used = [] }

-- MS-SMB2 3.2.4.1.6: two credits make of { 0 } the set { 0, 1, 2 }
two_more : granted_more 2 start ≡ three
unfolding granted_more numbers start three
two_more = refl

-- a charge of 2 uses the two least ones
two_used : after_use 2 three ≡ record { granted = 0 ∷ 1 ∷ 2 ∷ []; used = 0 ∷ 1 ∷ [] }
unfolding after_use usable three
two_used = refl

one_left : usable (record { granted = 0 ∷ 1 ∷ 2 ∷ []; used = 0 ∷ 1 ∷ [] }) ≡ 2 ∷ []
unfolding usable
one_left = refl

-- a request of charge 0 uses one id
costs : map cost (0 ∷ 1 ∷ 2 ∷ []) ≡ 1 ∷ 1 ∷ 2 ∷ []
costs = refl
