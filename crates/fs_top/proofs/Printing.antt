-- What a sink took of several texts.
use Rattle.std.proofs.Common.{◌≡◌, inl, inr, true, ℕ, List, [], ◌++◌, Option, Some, None, Result, Ok, Err, refl, ap, sym, ◌∙◌, append_assoc, append-nil}
use Rattle.fs_top.specs.declared.run_end.End.{End}
use Rattle.fs_top.specs.declared.run_end.End.TheVariants as end
use Rattle.fs_top.specs.Printing.{Held, gained, Refused, TookAll, TookFront}
use Rattle.smb_link.specs.Count.{counted}
use Rattle.fs_top.specs.Ends.{PrintedSo}
use Rattle.fs_top.proofs.Printed.{gained_twice}

gained-nothing : (written : Option (List ℕ)) → gained written [] ≡ written
gained-nothing None = refl
gained-nothing (Some w) = ap Some (append-nil w)

pub took_nothing : (h : Held) → TookAll [] h h
took_nothing h = record { text_held = sym (gained-nothing h.written); same_faults = refl; same_stalls = refl }

pub took_then : (xs ys : List ℕ) (a b c : Held) → TookAll xs a b → TookAll ys b c → TookAll (xs ++ ys) a c
took_then xs ys a b c first last = record {
  text_held = last.text_held ∙ ap (λ (w : Option (List ℕ)). gained w ys) first.text_held ∙ gained_twice a.written xs ys;
  same_faults = last.same_faults ∙ first.same_faults;
  same_stalls = last.same_stalls ∙ first.same_stalls;
}

refused_by : (a b c : Held) → b.faults ≡ a.faults → b.stalls ≡ a.stalls → Refused b c → Refused a c
refused_by a b c faults stalls (inl r) = inl (r.0 ∙ ap (λ (n : ℕ). counted n true) faults, r.1 ∙ stalls)
refused_by a b c faults stalls (inr r) = inr (r.0 ∙ faults, r.1 ∙ ap (λ (n : ℕ). counted n true) stalls)

front_then : (xs ys : List ℕ) (a b c : Held) → TookAll xs a b → TookFront ys b c → TookFront (xs ++ ys) a c
front_then xs ys a b c first last = record {
  front = xs ++ last.front;
  rest = last.rest;
  parts = append_assoc xs last.front last.rest ∙ ap (λ (l : List ℕ). xs ++ l) last.parts;
  some_left = last.some_left;
  front_held = last.front_held ∙ ap (λ (w : Option (List ℕ)). gained w last.front) first.text_held ∙ gained_twice a.written xs last.front;
  refused = refused_by a b c first.same_faults first.same_stalls last.refused;
}

-- all that came before was taken
pub printed_then : (result : Result (Unit {0}) End) (xs ys : List ℕ) (a b c : Held) → TookAll xs a b → PrintedSo result ys b c → PrintedSo result (xs ++ ys) a c
printed_then (Ok done) xs ys a b c first last = took_then xs ys a b c first last
printed_then (Err end.Sink) xs ys a b c first last = front_then xs ys a b c first last
printed_then (Err end.Done) xs ys a b c first last = took_then xs ys a b c first last
printed_then (Err (end.Line number)) xs ys a b c first last = took_then xs ys a b c first last
printed_then (Err end.Memory) xs ys a b c first last = took_then xs ys a b c first last
printed_then (Err (end.Mount why)) xs ys a b c first last = took_then xs ys a b c first last
printed_then (Err (end.Frame number what)) xs ys a b c first last = took_then xs ys a b c first last
printed_then (Err (end.Connects number)) xs ys a b c first last = took_then xs ys a b c first last
printed_then (Err end.Cuts) xs ys a b c first last = took_then xs ys a b c first last
printed_then (Err end.Source) xs ys a b c first last = took_then xs ys a b c first last
printed_then (Err end.Frames) xs ys a b c first last = took_then xs ys a b c first last
