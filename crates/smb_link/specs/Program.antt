-- What a call asks of the share, one request after another, and what it answers in the end.
use Rattle.std.specs.Prelude.{ℕ, zero, suc, ◌==◌, Bool, List, [], ◌∷◌, Option, Some, None, Result, Ok, Err, if◌then◌else◌, nat_lt, length}
use Rattle.smb_base.specs.declared.names.Status.{Status}
use Rattle.smb_base.specs.ErrorTable.{error_number}
use Rattle.smb_names.specs.declared.map.NameMap.{NameMap}
use Rattle.smb_names.specs.declared.map.NameMap.TheVariants.{Sfm, Plain}
use Rattle.smb_names.specs.declared.fault.NameFault.{NameFault}
use Rattle.smb_names.specs.declared.fault.NameFault.TheVariants.{Reserved}
use Rattle.smb_names.specs.Path.{components, path_of}
use Rattle.share_state.specs.declared.request.Rep.{Rep}
use Rattle.fs_types.specs.declared.options.Options.{Options}
use Rattle.fs_types.specs.declared.answer.Answer.{Answer}
use Rattle.fs_types.specs.declared.answer.Answer.TheVariants as answer
use Rattle.smb_link.specs.Locals.{Locals}

-- the file that a request speaks of: the one that the call itself opened at its first, second, .. CREATE, counted from 0, or the one
-- that its descriptor names
pub data File : Type 0 where
  Own : ℕ → File
  Named : File

-- a request of a call. A CREATE has a path on the share, an access, a disposition and options.
pub data Wish : Type 0 where
  Open : List ℕ → ℕ → ℕ → ℕ → Wish
  Query : File → Wish
  Close : File → Wish

-- what the last NEGOTIATE reply said of the server
pub record ServerFacts : Type 0 where
  pub capabilities : ℕ
  pub max_transact : ℕ
  pub max_read : ℕ
  pub max_write : ℕ

-- how a call that a cut broke off goes on: it answers that it was broken off, or it starts once more
pub data GoesOn : Type 0 where
  BrokenOff : GoesOn
  Again : GoesOn

-- a call that a cut broke off, and which of the opens that it made before it closes first, counted from 0
pub record Restart : Type 0 where
  pub goes : GoesOn
  pub closes : Option ℕ

-- what a call looks at beside its replies, when it makes a request or answers: the descriptors and open files, what the server said of
-- itself, the number that the next hidden name takes, and whether a cut broke the call off
pub record Known : Type 0 where
  pub locals : Locals
  pub facts : ServerFacts
  pub hidden : ℕ
  pub restarted : Option Restart

-- what is left of a call: a request, and what comes after its reply; a look at what is known; or the answer. A reply is seen without
-- its file id, lease and durable grant.
pub data Program : Type 0 where
  Ask : Wish → (Rep → Program) → Program
  Look : (Known → Program) → Program
  Say : Answer → Program

-- a program up to its next request or its answer
abbrev pub settled : Known → Program → Program
settled known (Program.Ask wish rest) = Program.Ask wish rest
settled known (Program.Look rest) = settled known (rest known)
settled known (Program.Say answer) = Program.Say answer

-- what is left of a program once its next request has this reply
abbrev pub replied : Known → Program → Rep → Program
replied known (Program.Ask wish rest) reply = rest reply
replied known (Program.Look rest) reply = replied known (rest known) reply
replied known (Program.Say answer) reply = Program.Say answer

-- what is left once its first requests have these replies, each with what was known when its request was announced: the next request
-- or the answer, by what is known now
abbrev pub next : Known → Program → List (Known × Rep) → Program
next now program [] = settled now program
next now program (told ∷ replies) = next now (replied told.0 program told.1) replies

-- more frames than that end a run, so no call asks for more. A call that asks until the share has no more (a listing) goes by this
-- number, which nothing unfolds: a program stays a finite tree, and everything about programs is said along it.
unfoldable pub most_frames : ℕ
most_frames = 16777216

-- asks the same request until its reply says that there is no more, so often at most; then it goes on with these replies, the last of
-- them with it, the newest first
abbrev pub ask_until : ℕ → (Rep → Bool) → Wish → List Rep → (List Rep → Program) → Program
ask_until zero is_last wish replies rest = rest replies
ask_until (suc n) is_last wish replies rest = Program.Ask wish (λ reply.
    if is_last reply then rest (reply ∷ replies) else ask_until n is_last wish (reply ∷ replies) rest)

-- the answer for a status of the server: the error number that the table has for it; one that the table has none for is told
abbrev pub of_number : ℕ → Status → Answer
of_number number status =
    if number == 121 then answer.Err (record { 0 = number }) (Some status) else answer.Err (record { 0 = number }) None

abbrev pub of_refusal : Status → Answer
of_refusal status = of_number (error_number status.0) status

-- the answer of a call that is refused by the client itself
abbrev pub of_errno : ℕ → Answer
of_errno number = answer.Err (record { 0 = number }) None

-- how names are written on the share
abbrev pub map_of : Options → NameMap
map_of options = if options.mapposix then Sfm else Plain

-- a fault of a component: EILSEQ where it has a character that no name may have, ENAMETOOLONG where it is too long
abbrev pub number_of_fault : NameFault → ℕ
number_of_fault Reserved = 84
number_of_fault fault = 36

abbrev pub unless_refused : Result (List ℕ) NameFault → (List ℕ → Program) → Program
unless_refused (Ok path) program = program path
unless_refused (Err fault) program = Program.Say (of_errno (number_of_fault fault))

-- a program over the path on the share; ENAMETOOLONG for one of more than 4,095 bytes, then the fault of the first component that
-- has one
abbrev pub at_path : Options → List ℕ → (List ℕ → Program) → Program
at_path options path program =
    if nat_lt 4095 (length path) then Program.Say (of_errno 36)
    else unless_refused (path_of (map_of options) (components path)) program
