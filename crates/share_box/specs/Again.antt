-- The body of a reply that was written is read again, behind any header and whatever follows it.
use Rattle.std.specs.Prelude.{◌≡◌, ℕ, ◌==◌, Bool, true, false, List, [], length}
use Rattle.smb_field.specs.declared.field.Field.{Field}
use Rattle.smb_field.specs.Body.{IsReadAgain}
use Rattle.smb_field.specs.Structure.{spelling_in, IsReadAgainIn}
use Rattle.share_state.specs.declared.request.Rep.{Rep}
use Rattle.share_state.specs.declared.request.RepBody.{RepBody}
use Rattle.share_state.specs.declared.request.RepBody.TheVariants as body
use Rattle.share_box.specs.declared.bodies.Said.{Said}
use Rattle.share_box.specs.declared.bodies.Said.TheVariants.{Negotiated, Challenge, Session, Tree, Done, Share}
use Rattle.share_box.specs.Bodies.{negotiated, challenge, session, tree, empty, error, opened, closed, information, information_size, buffer}

-- a body with information of so many bytes is read again, and the information from it
pub record IsInfoAgain (size : ℕ) (fields : List Field) : Type 0 where
  pub body : IsReadAgain 9 (buffer size) (spelling_in fields [])
  pub info : IsReadAgainIn fields []
  pub whole : length (spelling_in fields []) ≡ size

-- the body of what was done on the share, told in part or as a whole
abbrev pub IsDoneAgain : Bool → RepBody → Type 0
IsDoneAgain part (body.Opened fid action size attributes lease durable) = IsReadAgain 89 (opened fid action size attributes) []
IsDoneAgain part (body.Info dir size read_only links pending number) =
    IsInfoAgain (information_size part) (information part (body.Info dir size read_only links pending number))
IsDoneAgain part other = IsReadAgain 60 closed []

-- that of a request that was done, or that of one that was refused
abbrev pub IsRepAgainBy : Bool → Bool → RepBody → Type 0
IsRepAgainBy true part b = IsDoneAgain part b
IsRepAgainBy false part b = IsReadAgain 9 error []

-- the body of a reply of the share
abbrev pub IsRepAgain : Bool → Rep → Type 0
IsRepAgain part rep = IsRepAgainBy (rep.status.0 == 0) part rep.body

-- the body of a reply
unfoldable pub IsBodyAgain : Bool → Said → Type 0
IsBodyAgain part Negotiated = IsReadAgain 65 negotiated []
IsBodyAgain part Challenge = IsReadAgain 9 (session 0 56) challenge
IsBodyAgain part Session = IsReadAgain 9 (session 2 0) []
IsBodyAgain part Tree = IsReadAgain 16 tree []
IsBodyAgain part Done = IsReadAgain 4 empty []
IsBodyAgain part (Share rep) = IsRepAgain part rep
