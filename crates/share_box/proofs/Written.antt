-- What a writer of a body appends.
use Rattle.std.proofs.Common.{◌≡◌, ◌≤◌, ℕ, List, ◌++◌, length, OnOk, Result, Ok, Err, arith}
use Rattle.smb_field.specs.declared.field.Field.{Field}
use Rattle.smb_field.specs.Body.{WritesBody, IsReadAgain, spelling, tail}

pub puts : {A E : Type 0} (size : ℕ) (fields : List Field) (part old new : List ℕ) (r : Result A E) → WritesBody size fields part old new r → OnOk r (new ≡ old ++ spelling size fields part)
puts size fields part old new (Ok done) h = h.0
puts size fields part old new (Err fault) h = tt

pub puts_few : {A E : Type 0} (size : ℕ) (fields : List Field) (part old new : List ℕ) (r : Result A E) → size ≤ 900 → length (tail size part) ≤ 100 → WritesBody size fields part old new r → OnOk r (length (spelling size fields part) ≤ 1000)
puts_few size fields part old new (Ok done) few short h = omega (arith, h.2)
puts_few size fields part old new (Err fault) few short h = tt

pub puts_again : {A E : Type 0} (size : ℕ) (fields : List Field) (part old new : List ℕ) (r : Result A E) → WritesBody size fields part old new r → OnOk r (IsReadAgain size fields part)
puts_again size fields part old new (Ok done) h = h.1
puts_again size fields part old new (Err fault) h = tt
