-- What the replies that a frame brings are: each is the final reply to a request in flight, and no two answer one request.
use Rattle.std.specs.Prelude.{◌≡◌, ◌+◌, ℕ, true, false, if◌then◌else◌, List, [], ◌∷◌, length, Some, None, Ok}
use Rattle.smb_head.specs.declared.head.Head.{Head}
use Rattle.smb_head.specs.Header.{head_of, is_reply, is_interim}
use Rattle.smb_mux.specs.declared.taken.Reply.{Reply}
use Rattle.smb_mux.specs.declared.taken.Taken.{Taken}
use Rattle.smb_mux.specs.Bodies.{reply_fault}
use Rattle.smb_mux.specs.Judged.{command_at, is_answered}

-- it has the id and the command of the request, the flag of replies, no interim status, and the body of its status and command
pub record IsAnswerTo (awaited : List (ℕ × ℕ)) (reply : Reply) : Type 0 where
  pub head : Head
  pub headed : head_of reply.part ≡ Ok head
  pub mid : head.mid ≡ reply.mid
  pub command : command_at awaited reply.mid.0 ≡ Some head.command
  pub flagged : is_reply head ≡ true
  pub final : is_interim head ≡ false
  pub body : reply_fault head.status.0 head.command reply.part ≡ None

-- each one is an answer, and none behind it answers the same request
abbrev pub AreAnswers : List (ℕ × ℕ) → List Reply → Type 0
AreAnswers awaited [] = Unit {0}
AreAnswers awaited (r ∷ replies) = IsAnswerTo awaited r × (is_answered replies r.mid.0 ≡ false) × AreAnswers awaited replies

-- how many messages brought this
abbrev pub messages_of : Taken → ℕ
messages_of taken = length taken.replies + (length taken.breaks + length taken.interim)

-- the requests in flight are those before, but those that these replies answer
abbrev pub Remain : List Reply → List (ℕ × ℕ) → List (ℕ × ℕ) → Type 0
Remain replies before after = (id : ℕ) → command_at after id ≡ (if is_answered replies id then None else command_at before id)
