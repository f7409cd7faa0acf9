-- What a link that gives a list of turns answers.
use Rattle.std.specs.Prelude.{◌≡◌, ◌<◌, ℕ, List, [], ◌∷◌, Bool, true, false, take, drop, length, min, nat_le, if◌then◌else◌}
use Rattle.smb_link.specs.declared.event.Event.{Event}
use Rattle.smb_link.specs.declared.list_link.Given.{Given}
use Rattle.smb_link.specs.declared.list_link.Given.TheVariants as given
use Rattle.smb_link.specs.declared.list_link.Front.{Front}
use Rattle.smb_link.specs.declared.list_link.Front.TheVariants as front
use Rattle.smb_link.specs.declared.places.Place.{Place}
use Rattle.smb_link.specs.declared.faults.Got.{Got}
use Rattle.smb_link.specs.declared.faults.Got.TheVariants as got

-- such a link: how many connects are still to fail, the turns that are left, whether a connection stands, its story, its counts, and where it
-- connected to
pub record Giving : Type 0 where
  pub refused : ℕ
  pub turns : List Given
  pub stands : Bool
  pub story : List Event
  pub connect_faults : ℕ
  pub cuts : ℕ
  pub own_cuts : ℕ
  pub quiets : ℕ
  pub places : List Place

-- a turn that is no empty piece
abbrev pub gives : Given → Bool
gives (given.Piece []) = false
gives (given.Piece (b ∷ bs)) = true
gives given.Quiet = true
gives given.Closed = true

-- no turn is an empty piece
abbrev pub AllGive : List Given → Type 0
AllGive [] = Unit {0}
AllGive (turn ∷ turns) = (gives turn ≡ true) × AllGive turns

-- the turns with the first bytes of the first piece given away
abbrev pub without_front : ℕ → List Given → List Given
without_front n [] = []
without_front n (given.Piece bytes ∷ turns) = given.Piece (drop n bytes) ∷ turns
without_front n (given.Quiet ∷ turns) = given.Quiet ∷ turns
without_front n (given.Closed ∷ turns) = given.Closed ∷ turns

-- a place before the end of the first piece, or the start of another turn
abbrev pub IsWithinFirst : ℕ → List Given → Type 0
IsWithinFirst n [] = n ≡ 0
IsWithinFirst n (given.Piece bytes ∷ turns) = n < length bytes
IsWithinFirst n (given.Quiet ∷ turns) = n ≡ 0
IsWithinFirst n (given.Closed ∷ turns) = n ≡ 0

-- the turns after the first
abbrev pub turns_behind : List Given → List Given
turns_behind [] = []
turns_behind (turn ∷ turns) = turns

-- the kind of the first turn; at the end of the list the link is closed
abbrev pub front_of : List Given → Front
front_of [] = front.Closed
front_of (given.Piece bytes ∷ turns) = front.Piece
front_of (given.Quiet ∷ turns) = front.Quiet
front_of (given.Closed ∷ turns) = front.Closed

-- the bytes of the first turn, where it is a piece
abbrev pub piece_of : List Given → List ℕ
piece_of [] = []
piece_of (given.Piece bytes ∷ turns) = bytes
piece_of (given.Quiet ∷ turns) = []
piece_of (given.Closed ∷ turns) = []

-- the turns after n bytes of the first, a piece, were given: the rest of it, or the next turn
abbrev pub turns_after : ℕ → List Given → List Given
turns_after n [] = []
turns_after n (given.Piece bytes ∷ turns) = if nat_le (length bytes) n then turns else given.Piece (drop n bytes) ∷ turns
turns_after n (given.Quiet ∷ turns) = turns
turns_after n (given.Closed ∷ turns) = turns

-- what such a link answers to a receive with this room, where a connection stands: bytes of the first turn, that nothing came, or that
-- the connection ended
abbrev pub answer_of : ℕ → List Given → Got
answer_of room [] = got.Closed
answer_of room (given.Piece bytes ∷ turns) = got.Bytes (min room (length bytes))
answer_of room (given.Quiet ∷ turns) = got.Quiet
answer_of room (given.Closed ∷ turns) = got.Closed

-- what a receive gave, and the turns that are left after it; with no connection it is closed and no turn is taken
abbrev pub GivesNext : Giving → Giving → ℕ → List ℕ → Got → Type 0
GivesNext old new room buffer (got.Bytes n) =
    (answer_of room old.turns ≡ got.Bytes n) × (take n buffer ≡ take n (piece_of old.turns)) × (new.turns ≡ turns_after n old.turns)
GivesNext old new room buffer got.Quiet = (answer_of room old.turns ≡ got.Quiet) × (new.turns ≡ turns_behind old.turns)
GivesNext old new room buffer got.Closed =
    (old.stands ≡ true → (answer_of room old.turns ≡ got.Closed) × (new.turns ≡ turns_behind old.turns))
    × (old.stands ≡ false → new.turns ≡ old.turns)
GivesNext old new room buffer got.NoMemory = new.turns ≡ old.turns
