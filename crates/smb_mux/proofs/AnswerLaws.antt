-- What the messages of a frame bring are answers to requests in flight.
use Rattle.std.proofs.Common.{◌≡◌, ◌∙◌, ◌≢◌, refl, sym, ap, subst, inl, inr, ℕ, zero, suc, ◌+◌, ◌==◌, Bool, true, false, ◌&&◌, ◌||◌, if◌then◌else◌, List, [], ◌∷◌, ◌++◌, length, Option, Some, None, Result, Ok, Err, arith, length-append}
use Rattle.std.proofs.lemmas.Bool.Decides.{eqb_tells}
use Rattle.smb_head.specs.declared.head.Head.{Head}
use Rattle.smb_head.specs.declared.head.HeadFault.{HeadFault}
use Rattle.smb_head.specs.Header.{head_of, is_reply, is_interim}
use Rattle.smb_chain.specs.Parts.{Step, Only, Then, Bad, step_of, with_rest, parts_of, parts_within}
use Rattle.smb_credit.specs.Window.{no_request}
use Rattle.smb_field.specs.declared.field.BodyFault.{BodyFault}
use Rattle.smb_field.specs.declared.field.BodyFault.TheVariants as body
use Rattle.smb_mux.specs.declared.fault.TakeFault.{TakeFault}
use Rattle.smb_mux.specs.declared.taken.Reply.{Reply}
use Rattle.smb_mux.specs.declared.taken.BreakNote.{BreakNote}
use Rattle.smb_mux.specs.declared.taken.Taken.{Taken}
use Rattle.smb_mux.specs.declared.look.Look.{Look}
use Rattle.smb_mux.specs.declared.look.Look.TheVariants as look
use Rattle.smb_field.specs.Faults.{error_fault}
use Rattle.smb_mux.specs.Bodies.{reply_fault}
use Rattle.smb_mux.specs.Judged.{nothing, command_at, is_answered, awaited_command, notice_in, wrong, if_sound, looked_reply, looked_for, looked_notice, look_with, look_of, added, on_with, judged_by, judged_within, judged_from, judged}
use Rattle.smb_mux.specs.Answers.{IsAnswerTo, AreAnswers, messages_of}

-- ---- one message

-- a look at the final reply to a request, when it is given for what a message is
abbrev pub IsRight : List (ℕ × ℕ) → Taken → List ℕ → Look → Type 0
IsRight awaited taken part (look.Final mid) = IsAnswerTo awaited (record { mid = mid; part = part }) × (is_answered taken.replies mid.0 ≡ false)
IsRight awaited taken part (look.Interim mid) = Unit {0}
IsRight awaited taken part (look.Notice note) = Unit {0}
IsRight awaited taken part (look.Fault f) = Unit {0}

right_sound : (awaited : List (ℕ × ℕ)) (taken : Taken) (part : List ℕ) (l : Look) (o : Option BodyFault) → (o ≡ None → IsRight awaited taken part l) → IsRight awaited taken part (if_sound l o)
right_sound awaited taken part l None is = is refl
right_sound awaited taken part l (Some f) is = tt

right_reply : (awaited : List (ℕ × ℕ)) (taken : Taken) (part : List ℕ) (head : Head) (t : Bool) → is_interim head ≡ t → head_of part ≡ Ok head
    → command_at awaited head.mid.0 ≡ Some head.command → is_answered taken.replies head.mid.0 ≡ false → is_reply head ≡ true
    → IsRight awaited taken part (if t then if_sound (look.Interim head.mid) (error_fault part) else if_sound (look.Final head.mid) (reply_fault head.status.0 head.command part))
right_reply awaited taken part head true is headed command open_ flagged = right_sound awaited taken part (look.Interim head.mid) (error_fault part) (λ sound. tt)
right_reply awaited taken part head false is headed command open_ flagged =
    right_sound awaited taken part (look.Final head.mid) (reply_fault head.status.0 head.command part) (λ sound. (
      record { head = head; headed = headed; mid = refl; command = command; flagged = flagged; final = is; body = sound },
      open_,
    ))

-- the command that a message's id has, and whether it is answered
unanswered : (t : Bool) (o : Option ℕ) (command : ℕ) → (if t then None else o) ≡ Some command → (t ≡ false) × (o ≡ Some command)
unanswered true o command is = absurd (cc)
unanswered false o command is = (refl, is)

both : (s t : Bool) → (s && t) ≡ true → (s ≡ true) × (t ≡ true)
both true true is = (refl, refl)
both true false is = absurd (cc)
both false t is = absurd (cc)

right_command : (awaited : List (ℕ × ℕ)) (taken : Taken) (part : List ℕ) (head : Head) (command : ℕ) (t : Bool) → (head.command == command && is_reply head) ≡ t → head_of part ≡ Ok head
    → awaited_command awaited taken head.mid.0 ≡ Some command → IsRight awaited taken part (if t then looked_reply head part else wrong body.Value)
right_command awaited taken part head command false is headed known = tt
right_command awaited taken part head command true is headed known =
    let two = both (head.command == command) (is_reply head) is in
    let same : head.command ≡ command = elim (eqb_tells head.command command) as (λ _. head.command ≡ command) [ inl p ↦ p.1 | inr p ↦ absurd (different (head.command == command) p.0 two.0) ] in
    let found = unanswered (is_answered taken.replies head.mid.0) (command_at awaited head.mid.0) command known in
    right_reply awaited taken part head (is_interim head) refl headed (found.1 ∙ ap (λ (n : ℕ). Some n) (sym same)) found.0 two.1
  where
    different : (t : Bool) → t ≡ false → t ≡ true → ⊥
    different t is is' = cc

right_for : (awaited : List (ℕ × ℕ)) (taken : Taken) (part : List ℕ) (head : Head) (o : Option ℕ) → awaited_command awaited taken head.mid.0 ≡ o → head_of part ≡ Ok head
    → IsRight awaited taken part (looked_for o head part)
right_for awaited taken part head None is headed = tt
right_for awaited taken part head (Some command) is headed =
    right_command awaited taken part head command (head.command == command && is_reply head) refl headed is

right_notice : (awaited : List (ℕ × ℕ)) (taken : Taken) (part : List ℕ) (o : Option BreakNote) → IsRight awaited taken part (looked_notice o)
right_notice awaited taken part None = tt
right_notice awaited taken part (Some note) = tt

right_under : (awaited : List (ℕ × ℕ)) (taken : Taken) (part : List ℕ) (head : Head) (t : Bool) → head_of part ≡ Ok head
    → IsRight awaited taken part (if t then looked_notice (notice_in head part) else looked_for (awaited_command awaited taken head.mid.0) head part)
right_under awaited taken part head true headed = right_notice awaited taken part (notice_in head part)
right_under awaited taken part head false headed = right_for awaited taken part head (awaited_command awaited taken head.mid.0) refl headed

right_with : (awaited : List (ℕ × ℕ)) (taken : Taken) (part : List ℕ) (head : Result Head HeadFault) → head_of part ≡ head → IsRight awaited taken part (look_with head awaited taken part)
right_with awaited taken part (Err f) is = tt
right_with awaited taken part (Ok head) is = right_under awaited taken part head (head.mid.0 == no_request) is

pub right_look : (awaited : List (ℕ × ℕ)) (taken : Taken) (part : List ℕ) → IsRight awaited taken part (look_of awaited taken part)
right_look awaited taken part = right_with awaited taken part (head_of part) refl

-- ---- one more reply

apart : (a b : ℕ) (t : Bool) → (t || (a == b)) ≡ false → (t ≡ false) × ((a == b) ≡ false)
apart a b true is = absurd (cc)
apart a b false is = (refl, is)

turned : (a b : ℕ) → (a == b) ≡ false → (b == a) ≡ false
turned a b is = elim (eqb_tells b a) as (λ _. (b == a) ≡ false) [
  | inl p ↦ absurd (never (elim (eqb_tells a b) as (λ _. a ≢ b) [ inl q ↦ absurd (different (a == b) q.0 is) | inr q ↦ q.1 ]) p.1)
  | inr p ↦ p.0
]
  where
    never : a ≢ b → b ≡ a → ⊥
    never ne e = ne (sym e)

    different : (t : Bool) → t ≡ true → t ≡ false → ⊥
    different t is is' = cc

neither : (s t : Bool) → (s || t) ≡ false → (s ≡ false) × (t ≡ false)
neither true t is = absurd (cc)
neither false t is = (refl, is)

or_false : (s t : Bool) → s ≡ false → t ≡ false → (s || t) ≡ false
or_false true t is is' = absurd (cc)
or_false false t is is' = is'

unanswered_more : (rs : List Reply) (r : Reply) (id : ℕ) → is_answered rs id ≡ false → (r.mid.0 == id) ≡ false → is_answered (rs ++ r ∷ []) id ≡ false
unanswered_more [] r id is other = or_false (r.mid.0 == id) false other refl
unanswered_more (x ∷ rs) r id is other =
    let two = neither (x.mid.0 == id) (is_answered rs id) is in
    or_false (x.mid.0 == id) (is_answered (rs ++ r ∷ []) id) two.0 (unanswered_more rs r id two.1 other)

answers_more : (awaited : List (ℕ × ℕ)) (rs : List Reply) (r : Reply) → AreAnswers awaited rs → IsAnswerTo awaited r → is_answered rs r.mid.0 ≡ false → AreAnswers awaited (rs ++ r ∷ [])
answers_more awaited [] r each one none = (one, refl, tt)
answers_more awaited (x ∷ rs) r each one none =
    let two = neither (x.mid.0 == r.mid.0) (is_answered rs r.mid.0) none in
    (each.0, unanswered_more rs r x.mid.0 each.1 (turned x.mid.0 r.mid.0 two.0), answers_more awaited rs r each.2 one two.1)

abbrev told_as : Taken → Result Taken TakeFault
told_as t = Ok t

same : (a b : Taken) → told_as a ≡ told_as b → a ≡ b
same a b is = cc

-- what a message adds
pub answers_added : (awaited : List (ℕ × ℕ)) (taken now : Taken) (part : List ℕ) (l : Look) → IsRight awaited taken part l → AreAnswers awaited taken.replies
    → added l part taken ≡ Ok now → AreAnswers awaited now.replies × (messages_of now ≡ messages_of taken + 1)
answers_added awaited taken now part (look.Final mid) right each is =
    let r : Reply = record { mid = mid; part = part } in
    subst (λ (t : Taken). AreAnswers awaited t.replies × (messages_of t ≡ messages_of taken + 1)) (same (record taken { replies = taken.replies ++ r ∷ [] }) now is)
    (answers_more awaited taken.replies r each right.0 right.1, omega (arith, length-append taken.replies (r ∷ [])))
answers_added awaited taken now part (look.Interim mid) right each is =
    subst (λ (t : Taken). AreAnswers awaited t.replies × (messages_of t ≡ messages_of taken + 1)) (same (record taken { interim = taken.interim ++ mid ∷ [] }) now is)
    (each, omega (arith, length-append taken.interim (mid ∷ [])))
answers_added awaited taken now part (look.Notice note) right each is =
    subst (λ (t : Taken). AreAnswers awaited t.replies × (messages_of t ≡ messages_of taken + 1)) (same (record taken { breaks = taken.breaks ++ note ∷ [] }) now is)
    (each, omega (arith, length-append taken.breaks (note ∷ [])))
answers_added awaited taken now part (look.Fault f) right each is = absurd (cc)

-- ---- all messages

-- what is told of the messages of these bytes: they bring answers, and each of them something
abbrev Told : List (ℕ × ℕ) → Taken → ℕ → Result Taken TakeFault → Type 0
Told awaited taken many (Err e) = Unit {0}
Told awaited taken many (Ok now) = AreAnswers awaited now.replies × (messages_of now ≡ messages_of taken + many)

told_on : (awaited : List (ℕ × ℕ)) (taken : Taken) (many : ℕ) (first : Result Taken TakeFault) (others : Taken → Result Taken TakeFault)
    → ((now : Taken) → first ≡ Ok now → AreAnswers awaited now.replies × (messages_of now ≡ messages_of taken + 1))
    → ((now : Taken) → AreAnswers awaited now.replies → Told awaited now many (others now))
    → Told awaited taken (many + 1) (on_with first others)
told_on awaited taken many (Err e) others one rest = tt
told_on awaited taken many (Ok now) others one rest =
    let it = one now refl in
    counted awaited now taken many (others now) it.1 (rest now it.0)
  where
    counted : (awaited : List (ℕ × ℕ)) (now taken : Taken) (many : ℕ) (r : Result Taken TakeFault) → messages_of now ≡ messages_of taken + 1 → Told awaited now many r → Told awaited taken (many + 1) r
    counted awaited now taken many (Err e) is told = tt
    counted awaited now taken many (Ok t) is told = (told.0, omega (arith, is, told.1))

told_only : (awaited : List (ℕ × ℕ)) (taken : Taken) (r : Result Taken TakeFault)
    → ((now : Taken) → r ≡ Ok now → AreAnswers awaited now.replies × (messages_of now ≡ messages_of taken + 1)) → Told awaited taken 1 r
told_only awaited taken (Err e) one = tt
told_only awaited taken (Ok now) one = one now refl

told_by : (awaited : List (ℕ × ℕ)) (taken : Taken) (head : Result Head HeadFault) (step : Step) (n : ℕ) → AreAnswers awaited taken.replies
    → ((now : Taken) (part rest : List ℕ) → AreAnswers awaited now.replies → Told awaited now (length (parts_within n rest)) (judged_within n awaited now rest))
    → Told awaited taken (length (with_rest step (parts_within n))) (judged_by head step awaited taken (judged_within n awaited))
told_by awaited taken (Err e) step n each others = tt
told_by awaited taken (Ok head) Bad n each others = tt
told_by awaited taken (Ok head) (Only part) n each others =
    told_only awaited taken (added (look_of awaited taken part) part taken)
    (λ now is. answers_added awaited taken now part (look_of awaited taken part) (right_look awaited taken part) each is)
told_by awaited taken (Ok head) (Then part rest) n each others =
    subst (λ (many : ℕ). Told awaited taken many (on_with (added (look_of awaited taken part) part taken) (λ now. judged_within n awaited now rest)))
    (let e : length (parts_within n rest) + 1 ≡ suc (length (parts_within n rest)) = omega arith in e)
    (told_on awaited taken (length (parts_within n rest)) (added (look_of awaited taken part) part taken) (λ now. judged_within n awaited now rest)
    (λ now is. answers_added awaited taken now part (look_of awaited taken part) (right_look awaited taken part) each is)
    (λ now each'. others now part rest each'))

told_within : (n : ℕ) (awaited : List (ℕ × ℕ)) (taken : Taken) (bytes : List ℕ) → AreAnswers awaited taken.replies
    → Told awaited taken (length (parts_within n bytes)) (judged_within n awaited taken bytes)
told_within zero awaited taken bytes each = (each, omega arith)
told_within (suc n) awaited taken bytes each =
    told_by awaited taken (head_of bytes) (step_of bytes) n each (λ now part rest each'. told_within n awaited now rest each')

pub told : (awaited : List (ℕ × ℕ)) (frame : List ℕ) → Told awaited nothing (length (parts_of frame)) (judged awaited frame)
unfolding judged_from parts_of
told awaited frame = told_within (suc (length frame)) awaited nothing frame tt

-- what is given is told
pub answers_given : (awaited : List (ℕ × ℕ)) (frame : List ℕ) (taken : Taken) → judged awaited frame ≡ Ok taken
    → AreAnswers awaited taken.replies × (messages_of taken ≡ length (parts_of frame))
answers_given awaited frame taken is =
    let it = subst (Told awaited nothing (length (parts_of frame))) is (told awaited frame) in
    (it.0, omega (arith, it.1))
