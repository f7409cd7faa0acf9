-- The lines of a script, one after the other.
use Rattle.std.proofs.Common.{◌≡◌, ◌∙◌, refl, sym, ap, subst, ℕ, ◌+◌, ◌<◌, ◌==◌, List, [], ◌∷◌, length, Bool, true, false, cond, IfSome, Option}
use Rattle.std.proofs.Common.{Some, None, Result, Ok, Err, arith}
use Rattle.std.specs.Prelude.{IfOk, option_map, nat_lt, IsUtf8}
use Rattle.std.specs.List.{onto_first}
use Rattle.std.specs.Str.{is_utf8}
use Rattle.std.proofs.lemmas.Bool.{cond-true, cond-false, false_from_ne_true}
use Rattle.std.proofs.lemmas.Bool.Decides.{nat_tests}
use Rattle.std.proofs.lemmas.Str.{IsUtf8-from_is_utf8, is_utf8-from_IsUtf8}
use Rattle.smb_base.specs.declared.names.NoMemory.{NoMemory}
use Rattle.smb_link.specs.Count.{counted}
use Rattle.fs_lines.specs.Line.{first_line, behind, Gives}
use Rattle.fs_lines.specs.declared.next.NextLine.TheVariants as next
use Rattle.fs_lines.specs.Told.{Reading, Took, ahead}
use Rattle.fs_script.specs.declared.line.LineFault.{LineFault}
use Rattle.fs_script.specs.declared.line.Line.{Line}
use Rattle.fs_script.specs.Lines.{longest, said_by}
use Rattle.fs_ahead.specs.declared.next.Found.{Found}
use Rattle.fs_ahead.specs.declared.next.Found.TheVariants as found
use Rattle.fs_ahead.specs.declared.asked.Asked.TheVariants as asked
use Rattle.fs_ahead.specs.declared.asked.Over.{Over}
use Rattle.fs_ahead.specs.declared.asked.Over.TheVariants as over
use Rattle.fs_ahead.specs.Script.{lines_of, LineWants, Nothing, Pause, Called, Refused, wanted_of, wanted_by, wanted_at}
use Rattle.fs_ahead.specs.Script.{greatest, wanted_then, Coming, ends_by, coming_behind, coming_from, coming_ahead, asked_then, unless_over}
use Rattle.fs_ahead.specs.Script.{lines_to_come}
use Rattle.fs_ahead.specs.Steps.{brought, LineBrings, is_source_line, is_source_by}

first_at : (is : Bool) (b : ℕ) (bs : List ℕ) → (0 < length bs → lines_of bs ≡ first_line bs ∷ lines_of (behind bs))
    → cond is ([] ∷ lines_of bs) (onto_first b (lines_of bs)) ≡ cond is [] (b ∷ first_line bs) ∷ lines_of (cond is bs (behind bs))
first_at true b bs others = refl
first_at false b [] others = refl
first_at false b (x ∷ bs) others = ap (onto_first b) (others (omega arith))

-- the lines of a text are its first line and those of what stands behind it
pub first_of_lines : (bytes : List ℕ) → 0 < length bytes → lines_of bytes ≡ first_line bytes ∷ lines_of (behind bytes)
first_of_lines [] some = absurd (omega arith)
first_of_lines (b ∷ bs) some = first_at (b == 10) b bs (λ more. first_of_lines bs more)

-- what is to come of a line, and of the lines behind it
abbrev pub line_then : Option Found → Coming → Coming
line_then None later = later
line_then (Some (found.Asked asked)) later = asked_then (Some asked) later
line_then (Some (found.Over why)) later = unless_over (Some why) later

wanted_comes : (w : LineWants) (n : ℕ) (later : Coming) → wanted_then w n later ≡ line_then (brought w n) later
wanted_comes Nothing n later = refl
wanted_comes Pause n later = refl
wanted_comes (Called lane call) n later = refl
wanted_comes Refused n later = refl

line_comes : (n : ℕ) (line : List ℕ) (lines : List (List ℕ))
    → coming_from n (line ∷ lines) ≡ line_then (brought (wanted_at n line) n) (coming_behind n lines)
line_comes n line lines = by (nat_lt n greatest)
  where
    by : (b : Bool) → wanted_then (cond b (wanted_by line) Refused) n (coming_from (n + 1) lines)
        ≡ line_then (brought (cond b (wanted_by line) Refused) n) (cond b (coming_from (n + 1) lines) (ends_by (over.Line greatest)))
    by true = wanted_comes (wanted_by line) n (coming_from (n + 1) lines)
    by false = refl

less : (n : ℕ) → n < greatest → nat_lt n greatest ≡ true
less n small = grind (arith, nat_tests)

-- the lines ahead: the first one, and those behind it
given : (n : ℕ) (line bytes rest : List ℕ) → n < greatest → 0 < length bytes → first_line bytes ≡ line → behind bytes ≡ rest
    → coming_behind n (lines_of bytes) ≡ line_then (brought (wanted_at (n + 1) line) (n + 1)) (coming_behind (n + 1) (lines_of rest))
given n line bytes rest small some first others =
    cond-true _ _ _ (less n small)
    ∙ (ap (coming_from (n + 1)) (first_of_lines bytes some)
    ∙ (line_comes (n + 1) (first_line bytes) (lines_of (behind bytes))
    ∙ (ap (λ (l : List ℕ). line_then (brought (wanted_at (n + 1) l) (n + 1)) (coming_behind (n + 1) (lines_of (behind bytes)))) first
    ∙ ap (λ (l : List ℕ). line_then (brought (wanted_at (n + 1) line) (n + 1)) (coming_behind (n + 1) (lines_of l))) others)))

-- a line that is refused stops them
stopped : (n : ℕ) (bytes : List ℕ) → n < greatest → 0 < length bytes → wanted_by (first_line bytes) ≡ Refused
    → coming_behind n (lines_of bytes) ≡ ends_by (over.Line (n + 1))
stopped n bytes small some is =
    given n (first_line bytes) bytes (behind bytes) small some refl refl
    ∙ ap (λ (w : LineWants). line_then (brought w (n + 1)) (coming_behind (n + 1) (lines_of (behind bytes)))) (by (nat_lt (n + 1) greatest))
  where
    by : (b : Bool) → cond b (wanted_by (first_line bytes)) Refused ≡ Refused
    by true = is
    by false = refl

-- a line that is not UTF-8, and one that is too long
not_text : (line : List ℕ) → ¬ (IsUtf8 line) → wanted_by line ≡ Refused
not_text line bad = cond-false _ (wanted_of (said_by line)) Refused (false_from_ne_true (is_utf8 line) (λ is. bad (IsUtf8-from_is_utf8 line is)))

too_long : (line : List ℕ) → longest < length line → wanted_by line ≡ Refused
too_long line long = by (is_utf8 line)
  where
    by : (b : Bool) → cond b (wanted_of (said_by line)) Refused ≡ Refused
    by true = let more : nat_lt longest (length line) ≡ true = grind (arith, nat_tests) in rw more refl
    by false = refl

has_first : (bytes : List ℕ) → 0 < length (first_line bytes) → 0 < length bytes
has_first [] some = absurd (omega arith)
has_first (b ∷ bs) some = omega arith

-- what a source tells before and after a call
same_told : (left left' : Option (List ℕ)) (got : List ℕ) (f g : List ℕ → Coming) (h : Coming → Coming) → Took got left left'
    → IfSome left (λ b. IfSome left' (λ a. f b ≡ h (g a))) → option_map f left ≡ option_map h (option_map g left')
same_told None None got f g h took same = refl
same_told None (Some a) got f g h took same = absurd (cc)
same_told (Some b) None got f g h took same = absurd (cc)
same_told (Some b) (Some a) got f g h took same = ap (λ (x : Coming). Some x) same

by_told : (left left' : Option (List ℕ)) (P Q : List ℕ → List ℕ → Type 0) → ((b a : List ℕ) → P b a → Q b a)
    → IfSome left (λ b. IfSome left' (λ a. P b a)) → IfSome left (λ b. IfSome left' (λ a. Q b a))
by_told None left' P Q leads p = tt
by_told (Some b) None P Q leads p = tt
by_told (Some b) (Some a) P Q leads p = leads b a p

as_it_is : (x : Option Coming) → option_map (line_then None) x ≡ x
as_it_is None = refl
as_it_is (Some x) = refl

by_wanted : (w : LineWants) (n : ℕ) (before after : Option Coming) → before ≡ option_map (line_then (brought w n)) after → LineBrings (brought w n) before after
by_wanted Nothing n before after is = is ∙ as_it_is after
by_wanted Pause n before after is = is
by_wanted (Called lane call) n before after is = is
by_wanted Refused n before after is = is

-- the next line was given, and this is what it asks for
line_brings_at : (old new : Reading) (left left' : Option (List ℕ)) (got line : List ℕ) (result : Result (Option Found) NoMemory)
    → old.number < greatest → new.number ≡ counted old.number true → Took got left left'
    → IfSome left (λ b. IfSome left' (λ a. Gives (next.Line line) (ahead old b) (ahead new a)))
    → IfOk result (λ x. x ≡ brought (wanted_at new.number line) new.number)
    → IfOk result (λ x. LineBrings x (lines_to_come old left) (lines_to_come new left'))
line_brings_at old new left left' got line (Err e) small number took gives is = tt
line_brings_at old new left left' got line (Ok x) small number took gives is =
    let on : new.number ≡ old.number + 1 = omega arith in
    let P : Option Found → Type 0 = λ y. LineBrings y (lines_to_come old left) (lines_to_come new left') in
    subst P (sym is)
    (by_wanted (wanted_at new.number line) new.number (lines_to_come old left) (lines_to_come new left')
    (same_told left left' got (coming_ahead old) (coming_ahead new) (line_then (brought (wanted_at new.number line) new.number)) took
    (by_told left left' (λ b a. Gives (next.Line line) (ahead old b) (ahead new a))
    (λ b a. coming_ahead old b ≡ line_then (brought (wanted_at new.number line) new.number) (coming_ahead new a))
    (λ b a g. rw on (given old.number line (ahead old b) (ahead new a) small g.0 g.1 g.4)) gives)))

pub line_brings : (old new : Reading) (left left' : Option (List ℕ)) (got line : List ℕ) (number : ℕ) (result : Result (Option Found) NoMemory)
    → old.number < greatest → new.number ≡ counted old.number true → Took got left left'
    → IfSome left (λ b. IfSome left' (λ a. Gives (next.Line line) (ahead old b) (ahead new a)))
    → number ≡ new.number
    → IfOk result (λ x. x ≡ brought (wanted_at number line) number)
    → IfOk result (λ x. LineBrings x (lines_to_come old left) (lines_to_come new left'))
line_brings old new left left' got line number result small counts took gives is told =
    line_brings_at old new left left' got line result small counts took gives
    (subst (λ (n : ℕ). IfOk result (λ x. x ≡ brought (wanted_at n line) n)) is told)

-- the next line is refused
stop_brings : (old new : Reading) (left left' : Option (List ℕ)) (got : List ℕ) (why : Over) → Took got left left'
    → IfSome left (λ b. IfSome left' (λ a. coming_ahead old b ≡ ends_by why))
    → lines_to_come old left ≡ option_map (unless_over (Some why)) (lines_to_come new left')
stop_brings old new left left' got why took is = same_told left left' got (coming_ahead old) (coming_ahead new) (unless_over (Some why)) took is

pub bad_text_brings : (old new : Reading) (left left' : Option (List ℕ)) (got : List ℕ) (number : ℕ) → number ≡ new.number
    → old.number < greatest → new.number ≡ counted old.number true → Took got left left'
    → IfSome left (λ b. IfSome left' (λ a. Gives next.NotText (ahead old b) (ahead new a)))
    → lines_to_come old left ≡ option_map (unless_over (Some (over.Line number))) (lines_to_come new left')
bad_text_brings old new left left' got number is small counts took gives =
    let on : number ≡ old.number + 1 = omega arith in
    stop_brings old new left left' got (over.Line number) took
    (by_told left left' (λ b a. Gives next.NotText (ahead old b) (ahead new a)) (λ b a. coming_ahead old b ≡ ends_by (over.Line number))
    (λ b a g. rw on (stopped old.number (ahead old b) small g.0 (not_text (first_line (ahead old b)) g.2))) gives)

pub long_brings : (old new : Reading) (left left' : Option (List ℕ)) (got : List ℕ) (number : ℕ) → number ≡ new.number
    → old.number < greatest → new.number ≡ counted old.number true → Took got left left'
    → IfSome left (λ b. IfSome left' (λ a. Gives next.TooLong (ahead old b) (ahead new a)))
    → lines_to_come old left ≡ option_map (unless_over (Some (over.Line number))) (lines_to_come new left')
long_brings old new left left' got number is small counts took gives =
    let on : number ≡ old.number + 1 = omega arith in
    stop_brings old new left left' got (over.Line number) took
    (by_told left left' (λ b a. Gives next.TooLong (ahead old b) (ahead new a)) (λ b a. coming_ahead old b ≡ ends_by (over.Line number))
    (λ b a g. let long = g.0 in rw on
    (stopped old.number (ahead old b) small (has_first (ahead old b) (omega arith)) (too_long (first_line (ahead old b)) long))) gives)

no_source : (w : LineWants) (n : ℕ) → is_source_line (brought w n) ≡ false
no_source Nothing n = refl
no_source Pause n = refl
no_source (Called lane call) n = refl
no_source Refused n = refl

-- a line that was given is no failure of the source
pub line_no_source : (number : ℕ) (line : List ℕ) (result : Result (Option Found) NoMemory)
    → IfOk result (λ x. x ≡ brought (wanted_at number line) number) → is_source_by is_source_line result ≡ false
line_no_source number line (Err e) is = refl
line_no_source number line (Ok x) is = ap is_source_line is ∙ no_source (wanted_at number line) number

below_greatest : (number : ℕ) (line : List ℕ) (w : LineWants) → number < greatest → wanted_by line ≡ w → wanted_at number line ≡ w
below_greatest number line w small is = cond-true _ _ _ (less number small) ∙ is

-- a line that is read asks for what it says
brings_said : (number : ℕ) (line shown : List ℕ) (l : Result Line LineFault) → number < greatest → shown ≡ line → IsUtf8 shown → said_by shown ≡ l
    → brought (wanted_of l) number ≡ brought (wanted_at number line) number
brings_said number line shown l small same utf8 is =
    ap (λ (w : LineWants). brought w number)
    (sym (below_greatest number shown (wanted_of l) small (cond-true _ _ _ (is_utf8-from_IsUtf8 shown utf8) ∙ ap wanted_of is)))
    ∙ ap (λ (t : List ℕ). brought (wanted_at number t) number) same

pub line_brings_said : (number : ℕ) (line shown : List ℕ) (l said : Line) → number < greatest → shown ≡ line → IsUtf8 shown → l ≡ said
    → said_by shown ≡ Ok l → brought (wanted_of (Ok said)) number ≡ brought (wanted_at number line) number
line_brings_said number line shown l said small same utf8 l_is is = brings_said number line shown (Ok said) small same utf8 (is ∙ ap Ok l_is)

pub fault_brings : (number : ℕ) (line shown : List ℕ) (fault : LineFault) → number < greatest → shown ≡ line → IsUtf8 shown
    → said_by shown ≡ Err fault → Some (found.Over (over.Line number)) ≡ brought (wanted_at number line) number
fault_brings number line shown fault small same utf8 is = brings_said number line shown (Err fault) small same utf8 is
