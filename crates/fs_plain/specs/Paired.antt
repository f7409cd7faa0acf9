-- Which open of the plain share stands for which of the real one, and which are kept open on the real share alone.
use Rattle.std.specs.Prelude.{ℕ, ◌==◌, Bool, not, ◌&&◌, if◌then◌else◌, List, [], ◌∷◌, filter, Option, Some, None, unwrap_or, option_map, ◌≡◌, false}
use Rattle.std.specs.List.{list_any}
use Rattle.std.specs.Str.{bytes_eq}
use Rattle.share_state.specs.declared.opens.Open.{Open}
use Rattle.share_state.specs.declared.request.RepBody.{RepBody}
use Rattle.share_state.specs.declared.request.RepBody.TheVariants as body
use Rattle.share_state.specs.declared.request.Rep.{Rep}
use Rattle.share_state.specs.Reply.{fid_of}

-- an open of the plain share, the one of the real share that it stands for, and the path on the share under which it was opened
pub record Pair : Type 0 where
  pub plain : ℕ
  pub real : ℕ
  pub path : List ℕ

-- an open that stands on the real share although it was closed for its call: its number there, its path, and since when
pub record KeptOpen : Type 0 where
  pub real : ℕ
  pub path : List ℕ
  pub since : ℕ

-- the pair of a real open, and the pair of a plain one: the newest
abbrev pub pair_of_real : ℕ → List Pair → Option Pair
pair_of_real real [] = None
pair_of_real real (p ∷ pairs) = if p.real == real then Some p else pair_of_real real pairs

abbrev pub pair_of_plain : ℕ → List Pair → Option Pair
pair_of_plain plain [] = None
pair_of_plain plain (p ∷ pairs) = if p.plain == plain then Some p else pair_of_plain plain pairs

-- the number of the plain open that stands for a real one; 0, which no open has, where none does
abbrev pub plain_of_real : List Pair → ℕ → ℕ
plain_of_real pairs real = unwrap_or (option_map (λ (pair : Pair). pair.plain) (pair_of_real real pairs)) 0

-- the open that a reply gave
abbrev pub open_given : RepBody → Option ℕ
open_given (body.Opened fid action size attributes lease durable) = Some fid.persistent
open_given other = None

-- the number of the open that a reply gave, or 0
abbrev pub opened_number : RepBody → ℕ
opened_number (body.Opened fid action size attributes lease durable) = fid.persistent
opened_number other = 0

-- the body of a reply that gives an open names it by its number in both halves
abbrev pub NamesIn : RepBody → Type 0
NamesIn (body.Opened fid action size attributes lease durable) = (fid ≡ fid_of fid.persistent) × ((fid.persistent == 0) ≡ false)
NamesIn other = Unit {0}

-- a reply names the open that it gives, if it gives one
abbrev pub Names : Rep → Type 0
Names reply = NamesIn reply.body

-- the opens that two replies gave, as a pair, where both gave one
abbrev pub paired : List ℕ → Option ℕ → Option ℕ → List Pair
paired path None real = []
paired path (Some plain) None = []
paired path (Some plain) (Some real) = record { plain = plain; real = real; path = path } ∷ []

abbrev pub pair_given : List ℕ → Rep → Rep → List Pair
pair_given path plain real = paired path (open_given plain.body) (open_given real.body)

-- the pairs without that of a real open
abbrev pub unpaired : ℕ → List Pair → List Pair
unpaired real pairs = filter (λ p. not (p.real == real)) pairs

-- a plain open ends early: the real one that it stands for is kept
abbrev pub kept_of : Option Pair → ℕ → List KeptOpen
kept_of None now = []
kept_of (Some p) now = record { real = p.real; path = p.path; since = now } ∷ []

-- this client's open with this number stands on the real share and has this access
abbrev pub stands_with : ℕ → ℕ → List Open → Bool
stands_with real access opens = list_any (λ o. o.number == real && o.who.0 == 0 && o.access == access) opens

-- the newest kept open of a path, where it stands with this access
abbrev pub reusable : List ℕ → ℕ → List Open → List KeptOpen → Option ℕ
reusable path access opens [] = None
reusable path access opens (k ∷ kept) =
    if bytes_eq k.path path then (if stands_with k.real access opens then Some k.real else None)
    else reusable path access opens kept

abbrev pub kept_but : ℕ → List KeptOpen → List KeptOpen
kept_but real kept = filter (λ k. not (k.real == real)) kept
