-- What scripts ask for, computed.
use Rattle.std.proofs.Common.{◌≡◌, refl, [], ◌∷◌, codes}
use Rattle.std.specs.Char.{encode_utf8}
use Rattle.std.specs.Str.{is_utf8, chars}
use Rattle.fs_types.specs.declared.call.Call.TheVariants as call
use Rattle.fs_ahead.specs.declared.asked.Asked.TheVariants as asked
use Rattle.fs_ahead.specs.declared.asked.Over.TheVariants as over
use Rattle.fs_ahead.specs.Script.{lines_of, Nothing, Pause, Called, Refused, called, wanted_by, coming_of}

three_lines : lines_of (codes "a\n\nb") ≡ codes "a" ∷ [] ∷ codes "b" ∷ []
three_lines = refl

last_line_feed : lines_of (codes "a\n") ≡ codes "a" ∷ []
last_line_feed = refl

-- an empty line, a comment, two calls in two lanes with a pause between them, a line that is refused, and a line behind it
a_script : coming_of (codes "\n# c\n0 stat /a\nwait\n15 stat /b/c\n0 stat\n0 stat /d\n") ≡ record {
  asked = asked.Call (record { number = 3; lane = 0; call = call.Stat (codes "/a") })
      ∷ asked.Wait
      ∷ asked.Call (record { number = 5; lane = 15; call = call.Stat (codes "/b/c") })
      ∷ [];
  over = over.Line 6;
}
unfolding is_utf8 chars encode_utf8
a_script = refl

-- a line in no lane is refused, and a pause before it stays
no_lane : coming_of (codes "wait\n16 stat /a\n") ≡ record { asked = asked.Wait ∷ []; over = over.Line 2 }
unfolding is_utf8 chars encode_utf8
no_lane = refl

-- the last line has no LF
to_the_end : coming_of (codes "0 stat /") ≡ record { asked = asked.Call (record { number = 1; lane = 0; call = call.Stat (codes "/") }) ∷ []; over = over.End }
unfolding is_utf8 chars encode_utf8
to_the_end = refl

-- a carriage return is a byte as any other
carriage_return : coming_of (codes "0 stat /\r\n") ≡ record { asked = asked.Call (record { number = 1; lane = 0; call = call.Stat (47 ∷ 13 ∷ []) }) ∷ []; over = over.End }
unfolding is_utf8 chars encode_utf8
carriage_return = refl

-- a comment that is not UTF-8
no_text : wanted_by (35 ∷ 255 ∷ []) ≡ Refused
unfolding is_utf8 chars encode_utf8
no_text = refl

a_comment : wanted_by (35 ∷ 195 ∷ 188 ∷ []) ≡ Nothing
unfolding is_utf8 chars encode_utf8
a_comment = refl

a_lane : wanted_by (codes "10 stat /a") ≡ Called 10 (call.Stat (codes "/a"))
unfolding is_utf8 chars encode_utf8
a_lane = refl

a_pause : wanted_by (codes "wait") ≡ Pause
unfolding is_utf8 chars encode_utf8
a_pause = refl

-- a call that the client does not have
not_there : called 0 (call.Unlink (codes "/a")) ≡ Refused
not_there = refl
