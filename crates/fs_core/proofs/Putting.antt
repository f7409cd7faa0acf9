-- The parts of an event, one after another: what each does of what the client may do, and the order of what they add.
use Rattle.std.proofs.Common.{arith, ◌≡◌, ◌∙◌, refl, sym, ap, subst, ℕ, ◌≤◌, Bool, true, false, List, [], ◌∷◌, ◌++◌, append-nil}
use Rattle.std.specs.Prelude.{◌||◌}
use Rattle.std.proofs.lemmas.Grind.{flat_map-append}
use Rattle.std.proofs.lemmas.List.{append_assoc}
use Rattle.std.proofs.lemmas.List.Folds.{list_any-append}
use Rattle.smb_link.specs.declared.event.Event.{Event}
use Rattle.smb_link.specs.declared.event.Event.TheVariants as event
use Rattle.smb_link.specs.declared.mark.Mark.{Mark}
use Rattle.smb_link.specs.declared.mark.Mark.TheVariants as mark
use Rattle.fs_client.specs.View.{Setting, Client}
use Rattle.fs_client.specs.After.{after, all_after}
use Rattle.fs_client.specs.May.{Allowed}
use Rattle.fs_client.specs.Sane.{Sane}
use Rattle.fs_client.proofs.Stays.{stays, stays_along}
use Rattle.fs_core.specs.declared.fault.CoreFault.{CoreFault}
use Rattle.fs_core.specs.declared.fault.CoreFault.TheVariants as fault
use Rattle.fs_core.specs.declared.fault.Protocol.TheVariants as protocol
use Rattle.fs_core.specs.declared.input.Input.{Input}
use Rattle.fs_core.specs.declared.input.Input.TheVariants as input
use Rattle.fs_core.specs.declared.output.Output.{Output}
use Rattle.fs_core.specs.declared.output.Output.TheVariants as output
use Rattle.fs_core.specs.Kept.{Kept, CoreValue}
use Rattle.fs_core.specs.Fits.{Fits}
use Rattle.fs_core.specs.Event.{events_by, events_of, rank, AreInOrder, telling_by, tellings, told_by, Does, is_leave, has_left, is_left, Stays, Holds, Puts, Tells, Brought, Moves, Comes, IsStarved, IsFaultOf, Stops}

-- events and more events
pub events_append : (more more' : List Output) → events_of (more ++ more') ≡ events_of more ++ events_of more'
events_append more more' = flat_map-append events_by more more'

pub allowed_append : (st : Setting) (events later : List Event) (c : Client) → Allowed st c events → Allowed st (all_after st c events) later
    → Allowed st c (events ++ later)
allowed_append st [] later c allowed then = then
allowed_append st (e ∷ events) later c allowed then = (allowed.0, allowed_append st events later (after st c e) allowed.1 then)

pub all_after_append : (st : Setting) (events later : List Event) (c : Client) → all_after st c (events ++ later) ≡ all_after st (all_after st c events) later
all_after_append st [] later c = refl
all_after_append st (e ∷ events) later c = all_after_append st events later (after st c e)

-- the client after outputs, and after more
pub after_more : (st : Setting) (more more' : List Output) (c : Client)
    → all_after st c (events_of (more ++ more')) ≡ all_after st (all_after st c (events_of more)) (events_of more')
after_more st more more' c = ap (all_after st c) (events_append more more') ∙ all_after_append st (events_of more) (events_of more') c

pub allowed_more : (st : Setting) (more more' : List Output) (c : Client) → Allowed st c (events_of more)
    → Allowed st (all_after st c (events_of more)) (events_of more')
    → Allowed st c (events_of (more ++ more'))
allowed_more st more more' c allowed then =
    subst (Allowed st c) (sym (events_append more more')) (allowed_append st (events_of more) (events_of more') c allowed then)

-- a part that does nothing, and two parts
pub does_nothing : (st : Setting) (k : Kept) → Does st k [] k
does_nothing st k = λ c sane fits. (record {}, fits)

pub does_then : (st : Setting) (k k' k'' : Kept) (more more' : List Output) → Does st k more k' → Does st k' more' k'' → Does st k (more ++ more') k''
does_then st k k' k'' more more' one two = λ c sane fits.
    let a = one c sane fits in
    let b = two (all_after st c (events_of more)) (stays_along st (events_of more) c sane a.0) a.1 in (
      allowed_more st more more' c a.0 b.0,
      subst (Fits st k'') (sym (after_more st more more' c)) b.1,
    )

-- the order of outputs: wider bounds, and one list behind another
pub order_wider : (low high low' high' : ℕ) (os : List Output) → low' ≤ low → high ≤ high' → AreInOrder low high os → AreInOrder low' high' os
order_wider low high low' high' [] under over order = record {}
order_wider low high low' high' (o ∷ os) under over order = (
  at_most low' low (rank o) under order.0,
  at_most (rank o) high high' order.1 over,
  order_wider (rank o) high (rank o) high' os (itself (rank o)) over order.2,
)
  where
    at_most : (a b c : ℕ) → a ≤ b → b ≤ c → a ≤ c
    at_most a b c ab bc = omega (arith, ab, bc)

    itself : (a : ℕ) → a ≤ a
    itself a = omega arith

pub order_then : (low mid high : ℕ) (os more : List Output) → low ≤ mid → mid ≤ high → AreInOrder low mid os → AreInOrder mid high more
    → AreInOrder low high (os ++ more)
order_then low mid high [] more under over order then = order_wider mid high low high more under (itself high) then
  where
    itself : (a : ℕ) → a ≤ a
    itself a = omega arith
order_then low mid high (o ∷ os) more under over order then = (
  order.0,
  at_most (rank o) mid high order.1 over,
  order_then (rank o) mid high os more order.1 over order.2 then,
)
  where
    at_most : (a b c : ℕ) → a ≤ b → b ≤ c → a ≤ c
    at_most a b c ab bc = omega (arith, ab, bc)

-- what is told of the core itself: nothing behind its place in the order, and of two parts what both tell
untold_by : (o : Output) → 2 ≤ rank o → telling_by o ≡ []
untold_by output.Reconnect behind = refl
untold_by (output.Marked (mark.For number first count)) behind = refl
untold_by (output.Marked (mark.Answer number a)) behind = refl
untold_by (output.Marked other) behind = absurd (omega (arith, behind))
untold_by (output.Answer number a) behind = refl
untold_by (output.Send frame) behind = refl
untold_by output.Left behind = refl

untold : (low high : ℕ) (os : List Output) → 2 ≤ low → AreInOrder low high os → tellings os ≡ []
untold low high [] behind order = refl
untold low high (o ∷ os) behind order =
    let later : 2 ≤ rank o = at_most 2 low (rank o) behind order.0 in
    ap (λ (l : List Mark). l ++ tellings os) (untold_by o later) ∙ untold (rank o) high os later order.2
  where
    at_most : (a b c : ℕ) → a ≤ b → b ≤ c → a ≤ c
    at_most a b c ab bc = omega (arith, ab, bc)

told_then : (e : Input) (k : Kept) (told more : List Output) → tellings told ≡ told_by e k → AreInOrder 2 4 more → tellings (told ++ more) ≡ told_by e k
told_then e k told more tells order =
    flat_map-append telling_by told more ∙ ap (λ (l : List Mark). tellings told ++ l) (untold 2 4 more (omega arith) order)
    ∙ append-nil (tellings told) ∙ tells

-- whether the share was left, and what holds without an input, of two parts
or_else : (a b c : Bool) → ((a || b) || c) ≡ (a || (b || c))
or_else true b c = refl
or_else false b c = refl

pub not_left : (b : Bool) → b ≡ (b || false)
not_left true = refl
not_left false = refl

left_then : (a b c : Bool) (more more' : List Output) → b ≡ (a || has_left more) → c ≡ (b || has_left more') → c ≡ (a || has_left (more ++ more'))
left_then a b c more more' one two =
    two ∙ ap (λ (t : Bool). t || has_left more') one ∙ or_else a (has_left more) (has_left more')
    ∙ ap (λ (t : Bool). a || t) (sym (list_any-append is_leave more more'))

pub holds_itself : (k : Kept) → Holds k k
holds_itself k = record { last = refl; now = refl; ended = refl; connected = refl }

pub holds_then : (k k' k'' : Kept) → Holds k k' → Holds k' k'' → Holds k k''
holds_then k k' k'' one two = record {
  last = two.last ∙ one.last;
  now = two.now ∙ one.now;
  ended = two.ended ∙ one.ended;
  connected = two.connected ∙ one.connected;
}

pub stays_then : (e : Input) (k k' k'' : Kept) → Stays e k k' → Holds k' k'' → Stays e k k''
stays_then e k k' k'' one two = record {
  last = two.last ∙ one.last;
  now = two.now ∙ one.now;
  ended = two.ended ∙ one.ended;
  connected = two.connected ∙ one.connected;
}

-- a part of an event that adds nothing, one in wider bounds, and two parts
pub puts_nothing : (low high : ℕ) (v : CoreValue) → Puts low high v v
puts_nothing low high v = record {
  more = [];
  setting = refl;
  outs = nothing v.outs;
  order = record {};
  left = not_left (is_left v.kept.phase);
  holds = holds_itself v.kept;
  does = does_nothing v.setting v.kept;
}
  where
    nothing : (os : List Output) → os ≡ os ++ []
    nothing [] = refl
    nothing (o ∷ os) = ap (λ (l : List Output). o ∷ l) (nothing os)

pub puts_wider : (low high low' high' : ℕ) (old new : CoreValue) → low' ≤ low → high ≤ high' → Puts low high old new → Puts low' high' old new
puts_wider low high low' high' old new under over p = record {
  more = p.more;
  setting = p.setting;
  outs = p.outs;
  order = order_wider low high low' high' p.more under over p.order;
  left = p.left;
  holds = p.holds;
  does = p.does;
}

outs_then : (old mid new more more' : List Output) → mid ≡ old ++ more → new ≡ mid ++ more' → new ≡ old ++ (more ++ more')
outs_then old mid new more more' one two = two ∙ ap (λ (l : List Output). l ++ more') one ∙ append_assoc old more more'

pub puts_then : (low between high : ℕ) (old mid new : CoreValue) → low ≤ between → between ≤ high → Puts low between old mid → Puts between high mid new
    → Puts low high old new
puts_then low between high old mid new under over one two = record {
  more = one.more ++ two.more;
  setting = two.setting ∙ one.setting;
  outs = outs_then old.outs mid.outs new.outs one.more two.more one.outs two.outs;
  order = order_then low between high one.more two.more under over one.order two.order;
  left = left_then (is_left old.kept.phase) (is_left mid.kept.phase) (is_left new.kept.phase) one.more two.more one.left two.left;
  holds = holds_then old.kept mid.kept new.kept one.holds two.holds;
  does = does_then old.setting old.kept mid.kept new.kept one.more two.more one.does
      (subst (λ (st : Setting). Does st mid.kept two.more new.kept) one.setting two.does);
}

-- a part that adds outputs, and one that adds one output
pub puts_by : (low high : ℕ) (old new : CoreValue) (more : List Output) (k : Kept) → new.setting ≡ old.setting → new.outs ≡ old.outs ++ more → new.kept ≡ k
    → AreInOrder low high more → is_left k.phase ≡ (is_left old.kept.phase || has_left more) → Holds old.kept k → Does old.setting old.kept more k → Puts low high old new
puts_by low high old new more k setting outs kept order left holds does = record {
  more = more;
  setting = setting;
  outs = outs;
  order = order;
  left = ap (λ (j : Kept). is_left j.phase) kept ∙ left;
  holds = subst (Holds old.kept) (sym kept) holds;
  does = subst (Does old.setting old.kept more) (sym kept) does;
}

pub puts_one : (old new : CoreValue) (o : Output) (k : Kept) → new.setting ≡ old.setting → new.outs ≡ old.outs ++ o ∷ [] → new.kept ≡ k
    → is_left k.phase ≡ (is_left old.kept.phase || has_left (o ∷ [])) → Holds old.kept k → Does old.setting old.kept (o ∷ []) k → Puts (rank o) (rank o) old new
puts_one old new o k setting outs kept left holds does =
    puts_by (rank o) (rank o) old new (o ∷ []) k setting outs kept (itself (rank o), itself (rank o), record {}) left holds does
  where
    itself : (n : ℕ) → n ≤ n
    itself n = omega arith

-- what holds of every client holds of it once an input came
pub brought_sane : (st : Setting) (e : Input) (c c' : Client) → Sane c.view → Brought st e c c' → Sane c'.view
brought_sane st (input.Frame frame) c c' sane b =
    subst (λ (d : Client). Sane d.view) (sym b.3) (stays st c (event.Got b.0) sane b.1)
brought_sane st input.Joined c c' sane b = subst (λ (d : Client). Sane d.view) (sym b.1) (stays st c event.Joined sane b.0)
brought_sane st input.Cut c c' sane b = subst (λ (d : Client). Sane d.view) (sym b.1) (stays st c event.Cut sane b.0)
brought_sane st (input.Begin number lane call) c c' sane b = subst (λ (d : Client). Sane d.view) (sym b) sane
brought_sane st (input.Now time) c c' sane b = subst (λ (d : Client). Sane d.view) (sym b) sane
brought_sane st input.End c c' sane b = subst (λ (d : Client). Sane d.view) (sym b) sane

-- an input that tells the client something is taken in, and the parts follow
pub moves_behind : (e : Input) (old mid new : CoreValue) → [] ≡ told_by e old.kept → Comes e old mid → Puts 2 4 mid new → Moves e old new
moves_behind e old mid new none came puts = record {
  more = puts.more;
  setting = puts.setting ∙ came.setting;
  outs = puts.outs ∙ ap (λ (l : List Output). l ++ puts.more) came.outs;
  order = order_wider 2 4 1 4 puts.more (omega arith) (omega arith) puts.order;
  tells = untold 2 4 puts.more (omega arith) puts.order ∙ none;
  left = λ start. sym (puts.left ∙ ap (λ (t : Bool). t || has_left puts.more) (came.left ∙ start));
  does = λ c c' sane fits brought.
      subst (λ (st : Setting). Does st mid.kept puts.more new.kept) came.setting puts.does c' (brought_sane old.setting e c c' sane brought)
      (came.fits c c' sane fits brought);
}

pub stays_behind : (e : Input) (old mid new : CoreValue) → Comes e old mid → Puts 2 4 mid new → Stays e old.kept new.kept
stays_behind e old mid new came puts = stays_then e old.kept mid.kept new.kept came.stays puts.holds

-- an input that tells the client nothing: the core tells of it, and the parts follow
abbrev pub IsSilent : Setting → Input → Type 0
IsSilent st e = (c c' : Client) → Brought st e c c' → c' ≡ c

pub moves_told : (e : Input) (old mid new : CoreValue) → IsSilent old.setting e → Tells e old mid → Puts 2 4 mid new → Moves e old new
moves_told e old mid new silent told puts = record {
  more = told.more ++ puts.more;
  setting = puts.setting ∙ told.setting;
  outs = outs_then old.outs mid.outs new.outs told.more puts.more told.outs puts.outs;
  order = order_then 1 2 4 told.more puts.more (omega arith) (omega arith) (order_wider 1 1 1 2 told.more (omega arith) (omega arith) told.order) puts.order;
  tells = told_then e old.kept told.more puts.more told.tells puts.order;
  left = λ start. sym (left_then (is_left old.kept.phase) (is_left mid.kept.phase) (is_left new.kept.phase) told.more puts.more told.left puts.left
      ∙ ap (λ (t : Bool). t || has_left (told.more ++ puts.more)) start);
  does = λ c c' sane fits brought.
      subst (λ (d : Client). Allowed old.setting d (events_of (told.more ++ puts.more))
      × Fits old.setting new.kept (all_after old.setting d (events_of (told.more ++ puts.more)))) (sym (silent c c' brought))
      (does_then old.setting old.kept mid.kept new.kept told.more puts.more told.does
      (subst (λ (st : Setting). Does st mid.kept puts.more new.kept) told.setting puts.does) c sane fits);
}

pub stays_told : (e : Input) (old mid new : CoreValue) → Tells e old mid → Puts 2 4 mid new → Stays e old.kept new.kept
stays_told e old mid new told puts = stays_then e old.kept mid.kept new.kept told.stays puts.holds

-- each client that the core fits can be starved; so it can, where it can once this was done
abbrev CanStarve : Kept → Setting → Type 0
CanStarve k st = (c : Client) → Sane c.view → Fits st k c → (more : List Output) × Allowed st c (events_of more) × IsStarved st (all_after st c (events_of more))

starves_then : (st : Setting) (k k' : Kept) (more : List Output) → Does st k more k' → CanStarve k' st → CanStarve k st
starves_then st k k' more does stops = λ c sane fits.
    let a = does c sane fits in
    let s = stops (all_after st c (events_of more)) (stays_along st (events_of more) c sane a.0) a.1 in (
      more ++ s.0,
      allowed_more st more s.0 c a.0 s.1,
      subst (IsStarved st) (sym (after_more st more s.0 c)) s.2,
    )

-- a fault in a later part, in one behind an input that tells something, and in one behind what the core tells
pub stops_then : (low high : ℕ) (old mid : CoreValue) (f : CoreFault) → Puts low high old mid → Stops mid f → Stops old f
stops_then low high old mid fault.NoMemory puts stops = record {}
stops_then low high old mid (fault.Protocol protocol.NoCredit) puts stops =
    starves_then old.setting old.kept mid.kept puts.more puts.does (subst (CanStarve mid.kept) puts.setting stops)
stops_then low high old mid (fault.Protocol (protocol.Head f)) puts stops = absurd stops
stops_then low high old mid (fault.Protocol (protocol.Body f)) puts stops = absurd stops
stops_then low high old mid (fault.Protocol (protocol.Info f)) puts stops = absurd stops
stops_then low high old mid (fault.Protocol protocol.Chain) puts stops = absurd stops
stops_then low high old mid (fault.Protocol (protocol.Stranger m)) puts stops = absurd stops
stops_then low high old mid (fault.Refused f) puts stops = absurd stops

pub stops_behind : (e : Input) (old mid : CoreValue) (f : CoreFault) → Comes e old mid → Stops mid f → IsFaultOf e old f
stops_behind e old mid fault.NoMemory came stops = λ c c' sane fits brought. record {}
stops_behind e old mid (fault.Protocol protocol.NoCredit) came stops = λ c c' sane fits brought.
    subst (CanStarve mid.kept) came.setting stops c' (brought_sane old.setting e c c' sane brought) (came.fits c c' sane fits brought)
stops_behind e old mid (fault.Protocol (protocol.Head f)) came stops = absurd stops
stops_behind e old mid (fault.Protocol (protocol.Body f)) came stops = absurd stops
stops_behind e old mid (fault.Protocol (protocol.Info f)) came stops = absurd stops
stops_behind e old mid (fault.Protocol protocol.Chain) came stops = absurd stops
stops_behind e old mid (fault.Protocol (protocol.Stranger m)) came stops = absurd stops
stops_behind e old mid (fault.Refused f) came stops = absurd stops

pub stops_told : (e : Input) (old mid : CoreValue) (f : CoreFault) → IsSilent old.setting e → Tells e old mid → Stops mid f → IsFaultOf e old f
stops_told e old mid fault.NoMemory silent told stops = λ c c' sane fits brought. record {}
stops_told e old mid (fault.Protocol protocol.NoCredit) silent told stops = λ c c' sane fits brought.
    subst (λ (d : Client). (more : List Output) × Allowed old.setting d (events_of more) × IsStarved old.setting (all_after old.setting d (events_of more)))
    (sym (silent c c' brought))
    (starves_then old.setting old.kept mid.kept told.more told.does (subst (CanStarve mid.kept) told.setting stops) c sane fits)
stops_told e old mid (fault.Protocol (protocol.Head f)) silent told stops = absurd stops
stops_told e old mid (fault.Protocol (protocol.Body f)) silent told stops = absurd stops
stops_told e old mid (fault.Protocol (protocol.Info f)) silent told stops = absurd stops
stops_told e old mid (fault.Protocol protocol.Chain) silent told stops = absurd stops
stops_told e old mid (fault.Protocol (protocol.Stranger m)) silent told stops = absurd stops
stops_told e old mid (fault.Refused f) silent told stops = absurd stops
