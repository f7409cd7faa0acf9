-- An answer of a call of the plain side: what is left of its program is done on the plain share, and the answer is compared.
use Rattle.std.specs.Prelude.{ℕ, ◌==◌, Bool, true, false, not, ◌&&◌, ◌||◌, if◌then◌else◌, List, ◌++◌, Option, Some, None, []}
use Rattle.fs_types.specs.declared.answer.Answer.{Answer}
use Rattle.fs_types.specs.declared.call.Call.{Call}
use Rattle.fs_types.specs.declared.call.Call.TheVariants as call
use Rattle.fs_types.specs.declared.answer.Answer.TheVariants as answer
use Rattle.share_state.specs.declared.request.Rep.{Rep}
use Rattle.share_state.specs.declared.share.Share.{Share}
use Rattle.share_state.specs.PlainShare.{shown}
use Rattle.smb_link.specs.Program.{Open as Opening, Query, Close, File, Program, Known, Ask, Look, Say}
use Rattle.fs_plain.specs.Run.{Run, ended_by}
use Rattle.fs_plain.specs.Differences.{Difference, odd}
use Rattle.fs_plain.specs.Paired.{Pair, KeptOpen, pair_of_plain, kept_of, paired, open_given, reusable, kept_but, unpaired}
use Rattle.fs_plain.specs.PlainSide.{PlainCall, PlainSide, call_with, calls_but, wish_done_on, open_of_file, with_given}
use Rattle.fs_plain.specs.Same.{same_answer}

-- a CLOSE that is left is done on the plain share, and the real open that it stood for is kept
abbrev pub kept_open : Option ℕ → List Pair → ℕ → List KeptOpen
kept_open None pairs now = []
kept_open (Some n) pairs now = kept_of (pair_of_plain n pairs) now

abbrev pub side_closed_early : PlainSide → PlainCall → File → Rep × Share → PlainSide
side_closed_early p c file done = record p {
  plain = done.1;
  kept = kept_open (open_of_file c p.described file) p.pairs p.told.now ++ p.kept;
}

-- a CREATE that is left is done on the plain share, and where it made an open there the newest kept open of its path takes the part of
-- the real one
abbrev pub side_reopened : PlainSide → List ℕ → Rep × Share → ℕ → PlainSide
side_reopened p path done real = record p {
  plain = done.1;
  kept = kept_but real p.kept;
  pairs = paired path (open_given done.0.body) (Some real) ++ unpaired real p.pairs;
}

-- by the kept open, where there is one
abbrev pub with_kept : Option ℕ → Option Answer × PlainSide → (ℕ → Option Answer × PlainSide) → Option Answer × PlainSide
with_kept None otherwise taken = otherwise
with_kept (Some real) otherwise taken = taken real

abbrev pub is_open : Call → Bool
is_open (call.Open path flags) = true
is_open other = false

-- what is left of a program, done at once and in order, and the answer; none where a request is left that has to be taken from the
-- client. A CLOSE may be left, and the CREATE of an `open` where an open of its path is kept that stands on the real share with the
-- same access.
abbrev pub finished_on : Share → Known → PlainCall → Program → PlainSide → Option Answer × PlainSide
finished_on s known c (Ask (Opening path access disposition options) rest) p =
    let done : Rep × Share = wish_done_on p c (Opening path access disposition options) in
    if is_open c.call
    then with_kept (reusable path access s.opens p.kept) (None, p) (λ real. finished_on s known
    (record c { opened = with_given (open_given done.0.body) c.opened }) (rest (shown done.0)) (side_reopened p path done real))
    else (None, p)
finished_on s known c (Ask (Query file) rest) p = (None, p)
finished_on s known c (Ask (Close file) rest) p =
    finished_on s known c (rest (shown (wish_done_on p c (Close file)).0)) (side_closed_early p c file (wish_done_on p c (Close file)))
finished_on s known c (Look rest) p = finished_on s known c (rest known) p
finished_on s known c (Say a) p = (Some a, p)

-- the answer is this error number and no status
abbrev pub is_number : ℕ → Answer → Bool
is_number n (answer.Err number None) = number.0 == n
is_number n a = false

-- an answer that is not compared: ENOMEM of a call that sent nothing; and EPROTO or EHOSTDOWN where it ends the run, which ended by what
-- the server sent or by lost connections: nothing of the client but answers follows
abbrev pub is_passed_by : Run → PlainSide → PlainCall → Answer → Bool
is_passed_by run p c a =
    (not c.announced && is_number 12 a)
    || (p.to_do == 0 && ((ended_by 5 run.status && is_number 71 a) || (ended_by 6 run.status && is_number 112 a)))

-- the answer is the program's
abbrev pub compared : Option Answer → Answer → Option Difference
compared None a = Some odd
compared (Some expected) a = if same_answer expected a then None else Some (record { expected = expected; found = a })

abbrev pub judged_answer_of : Run → Share → PlainSide → Option PlainCall → Answer → Option Difference
judged_answer_of run s p None a = Some odd
judged_answer_of run s p (Some c) a =
    if is_passed_by run p c a then None else compared (finished_on s p.told.known c c.rest p).0 a

abbrev pub without_call : ℕ → PlainSide → PlainSide
without_call number p = record p { running = calls_but number p.running }

abbrev pub side_after_answer_of : Run → Share → PlainSide → Option PlainCall → Answer → PlainSide
side_after_answer_of run s p None a = p
side_after_answer_of run s p (Some c) a =
    without_call c.number (if is_passed_by run p c a then p else (finished_on s p.told.known c c.rest p).1)

-- an answer of the call with a number
abbrev pub judged_answer : Run → Share → PlainSide → ℕ → Answer → Option Difference
judged_answer run s p number a = judged_answer_of run s p (call_with number p.running) a

abbrev pub side_after_answer : Run → Share → PlainSide → ℕ → Answer → PlainSide
side_after_answer run s p number a = side_after_answer_of run s p (call_with number p.running) a
