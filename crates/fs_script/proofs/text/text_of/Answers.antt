use Rattle.std.proofs.Common.{◌≡◌, ◌==◌, ℕ, string_bytes, Vec, Global, false, true, Ok, refl, sym, ap, ◌∙◌}
use Rattle.std.specs.List.{list_any}
use Rattle.fs_script.specs.Texts.{is_text}
use Rattle.fs_script.proofs.Texts.{text_is, no_text}
use Rattle.fs_script.proofs.text.text_of.Goals as goal

pub returns-in-Ok : goal.returns-in-Ok
returns-in-Ok c =
    let is : string_bytes c.in-Ok.text ≡ c.args.bytes = ap (λ (v : Vec ℕ Global). v.items) c.in-Ok.ensures.ok ∙ c.into_vec.ensures in
    let clear : list_any (λ b. b == 0) c.args.bytes ≡ false =
    ap (list_any (λ b. b == 0)) (sym c.as_slice.ensures) ∙ sym c.has_zero.ensures ∙ c.if-has_zero.false in
    let good : is_text c.args.bytes ≡ true = text_is c.in-Ok.text c.args.bytes is clear in
    rw good (ap Ok (c.of_string.ensures ∙ is))

pub returns : goal.returns
returns c =
    let clear : list_any (λ b. b == 0) c.args.bytes ≡ false =
    ap (list_any (λ b. b == 0)) (sym c.as_slice.ensures) ∙ sym c.has_zero.ensures ∙ c.if-has_zero.false in
    let bad : is_text c.args.bytes ≡ false = no_text c.args.bytes (λ text. let both : false ≡ true = c.in-Err.ensures.succeeds (rw c.into_vec.ensures text) in cc) clear in
    rw bad refl
