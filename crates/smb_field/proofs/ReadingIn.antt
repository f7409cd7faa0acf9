-- The spelling of a structure inside a part is read again.
use Rattle.std.proofs.Common.{◌≡◌, ℕ, ◌+◌, ◌<◌, ◌≤◌, List, [], ◌++◌, length, refl, ap, sym, arith, append_assoc, length-append}
use Rattle.std.specs.Prelude.{⊤}
use Rattle.smb_field.specs.declared.field.Field.{Field}
use Rattle.smb_field.specs.Fields.{width_of, spelled, AllFit}
use Rattle.smb_field.specs.Body.{Lends, named}
use Rattle.smb_field.specs.Structure.{places_in, spelling_in, IsReadAgainIn}
use Rattle.smb_field.proofs.Reading.{Meets, named-le, length-spelled, spelled-holds}
use Rattle.smb_field.proofs.ReadingTwo.{lent-at}

pub read_again_in : (fields : List Field) (part : List ℕ) → width_of fields < 256 → AllFit fields → IsReadAgainIn fields part
unfolding IsReadAgainIn spelling_in
read_again_in fields part small fit rest =
    let places = places_in fields part in
    let bytes = (spelled places fields ++ part) ++ rest in
    let is : bytes ≡ spelled places fields ++ (part ++ rest) = append_assoc (spelled places fields) part rest in
    let long : width_of fields ≡ length (spelled places fields) = sym (length-spelled places fields fit) in
    let lent = lent-at (width_of fields) (width_of fields) part bytes (spelled places fields) rest is long (omega arith) in
    let low : named part (width_of fields) ≤ width_of fields = named-le part (width_of fields) in
    let meets : Meets (Lends (width_of fields) part bytes) (λ (offset : ℕ). ⊤) (width_of fields) places =
    record {
      narrow = small;
      first_fits = omega arith;
      second_fits = omega arith;
      at_behind = lent.0;
      at_first = lent.1;
      at_second = tt;
      follows = lent.0;
    } in (
      omega (arith, ap length is, length-append (spelled places fields) (part ++ rest)),
      spelled-holds (Lends (width_of fields) part bytes) (λ (offset : ℕ). ⊤) (width_of fields) places fields 0 bytes [] (part ++ rest) meets fit refl is,
    )

-- and is as long as the fields and the bytes behind them
pub length-spelling_in : (fields : List Field) (part : List ℕ) → AllFit fields → length (spelling_in fields part) ≡ width_of fields + length part
unfolding spelling_in
length-spelling_in fields part fit =
    let front = spelled (places_in fields part) fields in
    omega (arith, length-append front part, length-spelled (places_in fields part) fields fit)
