-- How a run ends: the share as it is left, the answers of calls that a broken-off run closes, and the frames that it did without.
use Rattle.std.specs.Prelude.{◌≡◌, ◌⊎◌, ℕ, ◌≤◌, ◌==◌, true, false, not, IsSomeAnd, List, [], ◌∷◌, map}
use Rattle.std.specs.List.{list_all}
use Rattle.fs_types.specs.declared.answer.Answer.{Answer}
use Rattle.share_state.specs.declared.opens.Open.{Open}
use Rattle.share_state.specs.declared.share.Share.{Share}
use Rattle.smb_link.specs.declared.event.Event.{Event}
use Rattle.smb_link.specs.declared.event.Event.TheVariants as event
use Rattle.smb_link.specs.declared.mark.Mark.TheVariants as mark
use Rattle.smb_link.specs.Program.{of_errno}
use Rattle.fs_plain.specs.Run.{Run, ended_by}
use Rattle.fs_plain.specs.PlainSide.{PlainSide}
use Rattle.fs_client.specs.Item.{Item, item_with, items_but}
use Rattle.fs_client.specs.View.{Setting, Client}
use Rattle.fs_client.specs.After.{after}
use Rattle.fs_client.specs.May.{is_stat}
use Rattle.fs_client.specs.Spelled.{free_ids}

-- the share is left as the plain client leaves it: the files, their bytes and their names are those of the plain share, and no open of
-- this client stands
pub record IsLeft (s : Share) (p : PlainSide) : Type 0 where
  pub nodes : s.nodes ≡ p.plain.nodes
  pub entries : s.entries ≡ p.plain.entries
  pub opens : list_all (λ (o : Open). not (o.who.0 == 0)) s.opens ≡ true

-- an answer of a run that was broken off: EPROTO where it ended by what the server sent, EHOSTDOWN where it ended by lost connections
abbrev pub BreaksOff : Run → Answer → Type 0
BreaksOff run a = ((ended_by 5 run.status ≡ true) × (a ≡ of_errno 71)) ⊎ ((ended_by 6 run.status ≡ true) × (a ≡ of_errno 112))

-- these events give such an answer to calls that run, each once
abbrev pub AreClosings : Run → List Item → List Event → Type 0
AreClosings run items [] = Unit {0}
AreClosings run items (event.Marked (mark.Answer number a) ∷ events) =
    IsSomeAnd (item_with number items) (λ (i : Item). BreaksOff run a) × AreClosings run (items_but number items) events
AreClosings run items (e ∷ events) = ⊥

-- a client announces the first frame of a stat with all its three requests, wherever three ids are free; links aside, which have to be
-- looked for first
abbrev pub IsThrifty : Setting → Client → Event → Type 0
IsThrifty st c (event.Marked (mark.For number first count)) =
    IsSomeAnd (item_with number c.view.items)
    (λ i. is_stat i.call ≡ true → i.announced ≡ false → st.options.mfsymlinks ≡ false → 3 ≤ free_ids c → count ≡ 3)
IsThrifty st c e = Unit {0}

abbrev pub AreThrifty : Setting → Client → List Event → Type 0
AreThrifty st c [] = Unit {0}
AreThrifty st c (e ∷ events) = IsThrifty st c e × AreThrifty st (after st c e) events

-- the answers with this error number that close calls, in the order of beginning
abbrev pub closings : ℕ → List Item → List Event
closings number items = map (λ (i : Item). event.Marked (mark.Answer i.number (of_errno number))) items
