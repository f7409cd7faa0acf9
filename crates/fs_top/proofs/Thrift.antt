-- A run sends no frame in vain.
use Rattle.std.proofs.Common.{◌≡◌, ◌∙◌, refl, sym, ap, subst, ℕ, false, List, [], ◌∷◌, ◌++◌, Option, Some, None, inl, inr, ◌⊎◌}
use Rattle.smb_link.specs.Came.{Seen}
use Rattle.smb_link.proofs.CameLaws.{own-append}
use Rattle.smb_link.specs.declared.event.Event.{Event}
use Rattle.fs_client.specs.View.{Setting, Client, no_client}
use Rattle.fs_client.specs.After.{after, own}
use Rattle.fs_core.specs.Kept.{CoreValue}
use Rattle.fs_core.specs.Event.{events_of}
use Rattle.fs_refine.specs.Ends.{AreThrifty}
use Rattle.fs_refine.proofs.Ends.{thrifty}
use Rattle.fs_ahead.specs.Script.{Coming}
use Rattle.fs_top.specs.declared.run_end.End.{End}
use Rattle.fs_top.specs.Closing.{errno_by, answers_of}
use Rattle.fs_top.specs.Headline.{SendsFew}
use Rattle.fs_top.specs.Printing.{Held}
use Rattle.fs_top.specs.Run.{closings_of, Unjoined, Turned, RunIs}
use Rattle.fs_top.proofs.Stories.{answers_own}
use Rattle.fs_top.proofs.Plain.{IsTold, is_told, never_told}

thrifty_then : (st : Setting) (xs ys : List Event) (c : Client) → AreThrifty st c xs → ((d : Client) → AreThrifty st d ys) → AreThrifty st c (xs ++ ys)
thrifty_then st [] ys c first later = later c
thrifty_then st (x ∷ xs) ys c first later = (first.0, thrifty_then st xs ys (after st c x) first.1 later)

-- answers send nothing
answers_thrifty : (st : Setting) (errno : ℕ) (closed : List ℕ) (c : Client) → AreThrifty st c (events_of (answers_of errno closed))
answers_thrifty st errno [] c = record {}
answers_thrifty st errno (n ∷ ns) c = (record {}, answers_thrifty st errno ns _)

closings_thrifty : (st : Setting) (errno : Option ℕ) (closed : List ℕ) (c : Client) → AreThrifty st c (closings_of errno closed)
closings_thrifty st None closed c = record {}
closings_thrifty st (Some errno) closed c = answers_thrifty st errno closed c

-- they are the client's own
closings_own : (errno : Option ℕ) (closed : List ℕ) → own (closings_of errno closed) ≡ closings_of errno closed
closings_own None closed = refl
closings_own (Some errno) closed = answers_own errno closed

turned_thrifty : (core : CoreValue) (tries patience : ℕ) (script : Option Coming) (faults faults' : ℕ) (told told' : Option (List ℕ)) (why last : End) (link link' : Seen) (out out' : Held)
    (t : Turned core tries patience script faults faults' told told' false why last link link' out out') → link.story ≡ Some [] → SendsFew core.setting link'.story
turned_thrifty core tries patience script faults faults' told told' why last link link' out out' t none came all =
    subst (AreThrifty core.setting no_client) (sym parts)
    (thrifty_then core.setting (own x.is.story) (closings_of (errno_by why) t.closed) no_client (thrifty core.setting (own x.is.story) no_client x.allowed)
    (closings_thrifty core.setting (errno_by why) t.closed))
  where
    x : IsTold core tries patience script faults faults' told told' why last link link' out out' t came
    x = is_told core tries patience script faults faults' told told' why last link link' out out' t came none all

    parts : own came ≡ own x.is.story ++ closings_of (errno_by why) t.closed
    parts = ap own x.is.are ∙ own-append x.is.story (closings_of (errno_by why) t.closed) ∙ ap (λ (l : List Event). own x.is.story ++ l) (closings_own (errno_by why) t.closed)

pub run_thrifty : (core : CoreValue) (tries patience : ℕ) (script : Option Coming) (faults faults' : ℕ) (told told' : Option (List ℕ)) (link link' : Seen) (out out' : Held) (status : ℕ)
    → RunIs core tries patience script faults faults' told told' false link link' out out' status → link.story ≡ Some [] → SendsFew core.setting link'.story
run_thrifty core tries patience script faults faults' told told' link link' out out' status r none = by r.went
  where
    by : Unjoined tries false faults faults' told told' r.why r.last link link' out r.between
        ⊎ Turned core tries patience script faults faults' told told' false r.why r.last link link' out r.between → SendsFew core.setting link'.story
    by (inl u) came all = thrifty core.setting (own came) no_client (never_told core.setting tries faults faults' told told' r.why r.last link link' out r.between came u none all)
    by (inr t) came all = turned_thrifty core tries patience script faults faults' told told' r.why r.last link link' out r.between t none came all
