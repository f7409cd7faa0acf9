-- The turns of a box that are to come, as a list.
use Rattle.std.specs.Prelude.{List, [], ◌∷◌, Option, Some, None}
use Rattle.share_box.specs.declared.schedule.Turn.{Turn}

-- the first of them
abbrev pub front_of : List Turn → Option Turn
front_of [] = None
front_of (t ∷ ts) = Some t

-- those after the first
abbrev pub turns_behind : List Turn → List Turn
turns_behind [] = []
turns_behind (t ∷ ts) = ts
