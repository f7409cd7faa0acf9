-- A request on an open that a file id names.
use Rattle.share_state.specs.declared.opens.Open.{Open}
use Rattle.share_state.specs.declared.request.Rep.{Rep}
use Rattle.share_state.specs.declared.share.Share.{Share}
use Rattle.share_state.specs.Reply.{refused}
use Rattle.std.specs.Prelude.{Option, Some, None}

-- what is done with the open; FILE_CLOSED where the file id names none
abbrev pub on_open : Option Open → Share → (Open → Rep × Share) → Rep × Share
on_open None s done = refused 0xC0000128 s
on_open (Some o) s done = done o
