-- Frames that wait, of which a part is given.
use Rattle.std.proofs.Common.{◌≡◌, ◌∙◌, ◌<◌, ◌+◌, ℕ, List, [], ◌∷◌, ◌++◌, length, take, drop, refl, sym, ap, subst, inl, inr, arith, append_assoc, Result, Ok}
use Rattle.std.specs.Prelude.{◌⊎◌}
use Rattle.std.proofs.lemmas.List.{append-nil}
use Rattle.smb_head.specs.Stream.{Partial, Whole, prefix, frame, first_of, frames_in, rest_in}
use Rattle.smb_head.proofs.FrameLaws.{first_of-nil, first_of-frame, first_of-begun}
use Rattle.smb_head.proofs.StreamLaws.{IsSettled, settled-partial, frames_in-whole, rest_in-whole}
use Rattle.smb_chain.specs.declared.parts.BadNext.{BadNext}
use Rattle.share_state.specs.declared.connection.Owed.{Owed}
use Rattle.fs_plain.specs.World.{messages_in}
use Rattle.fs_plain.specs.Honest.{ArePaid, MayBeHeld}
use Rattle.share_box.specs.Paid.{IsPayment}
use Rattle.share_box.specs.Truth.{ArePayments}

-- bytes that are cut in two ways: the first cut comes no earlier than the second, or it comes before
record Later (xs ys front back : List ℕ) : Type 0 where
  more : List ℕ
  front_first : xs ≡ front ++ more
  back_last : back ≡ more ++ ys

record Earlier (xs front : List ℕ) : Type 0 where
  shorter : length xs < length front
  begins : xs ≡ take (length xs) front

one_more : (x a : ℕ) (xs ys front back : List ℕ) → x ≡ a → Later xs ys front back ⊎ Earlier xs front → Later (x ∷ xs) ys (a ∷ front) back ⊎ Earlier (x ∷ xs) (a ∷ front)
one_more x a xs ys front back same (inl l) = inl (record { more = l.more; front_first = cc (same, l.front_first); back_last = l.back_last })
one_more x a xs ys front back same (inr e) =
    let short : length xs < length front = e.shorter in
    inr (record { shorter = omega arith; begins = cc (same, e.begins) })

two_cuts : (xs ys front back : List ℕ) → xs ++ ys ≡ front ++ back → Later xs ys front back ⊎ Earlier xs front
two_cuts xs ys [] back same = inl (record { more = xs; front_first = refl; back_last = sym same })
two_cuts [] ys (a ∷ front) back same = inr (record { shorter = omega arith; begins = refl })
two_cuts (x ∷ xs) ys (a ∷ front) back same =
    let first : x ≡ a = cc in
    let others : xs ++ ys ≡ front ++ back = cc in
    one_more x a xs ys front back first (two_cuts xs ys front back others)

-- of the frames that wait these bytes were got: the whole frames among them pay what is owed, and the rest begins the next one
pub record Front (owed : List Owed) (got after : List ℕ) : Type 0 where
  pub paid : ArePaid owed (messages_in (frames_in got))
  pub begun : first_of (rest_in got) ≡ Partial
  pub left : ArePayments (drop (length (messages_in (frames_in got))) owed) (rest_in got ++ after)

-- less than a frame was got
front_partial : (owed : List Owed) (got after : List ℕ) → first_of got ≡ Partial → ArePayments owed (got ++ after) → Front owed got after
front_partial owed got after part pays =
    let is : IsSettled got = settled-partial got part in
    record {
      paid = subst (λ (f : List (List ℕ)). ArePaid owed (messages_in f)) (sym is.no_frame) tt;
      begun = ap first_of is.all_left ∙ part;
      left = subst (λ (f : List (List ℕ)). ArePayments (drop (length (messages_in f)) owed) (rest_in got ++ after)) (sym is.no_frame)
          (subst (λ (r : List ℕ). ArePayments owed (r ++ after)) (sym is.all_left) pays);
    }

-- the first frame was got whole
front_whole : (o : Owed) (owed : List Owed) (got more after first : List ℕ) → got ≡ first ++ more → IsPayment o first → Front owed more after → Front (o ∷ owed) got after
front_whole o owed got more after first is pays others =
    let bytes : got ≡ prefix (length pays.message) ++ (pays.message ++ more) =
    is ∙ ap (λ (l : List ℕ). l ++ more) pays.framed ∙ append_assoc (prefix (length pays.message)) pays.message more in
    let whole : first_of got ≡ Whole pays.message more = ap first_of bytes ∙ first_of-frame (length pays.message) pays.message more pays.fits.1 refl in
    let frames : frames_in got ≡ pays.message ∷ frames_in more = frames_in-whole got pays.message more whole in
    let rest : rest_in got ≡ rest_in more = rest_in-whole got pays.message more whole in
    let messages : messages_in (frames_in got) ≡ Ok pays.message ∷ messages_in (frames_in more) =
    ap messages_in frames ∙ ap (λ (l : List (Result (List ℕ) BadNext)). l ++ messages_in (frames_in more)) pays.alone in
    record {
      paid = subst (ArePaid (o ∷ owed)) (sym messages) (pays.pays, others.paid);
      begun = ap first_of rest ∙ others.begun;
      left = subst (λ (l : List (Result (List ℕ) BadNext)). ArePayments (drop (length l) (o ∷ owed)) (rest_in got ++ after)) (sym messages)
          (subst (λ (r : List ℕ). ArePayments (drop (length (messages_in (frames_in more))) owed) (r ++ after)) (sym rest) others.left);
    }

-- a part of the first frame was got
part_begun : (o : Owed) (got first : List ℕ) → Earlier got first → IsPayment o first → first_of got ≡ Partial
part_begun o got first e pays =
    let long : length first ≡ length (frame pays.message) = ap length pays.framed in
    let short : length got < 4 + length pays.message = omega (arith, long, e.shorter) in
    ap first_of (e.begins ∙ ap (take (length got)) pays.framed)
    ∙ first_of-begun (length pays.message) pays.message (length got) pays.fits.1 refl short

nothing_got : (got after : List ℕ) → got ++ after ≡ [] → Front [] got after
nothing_got [] after none = front_partial [] [] after first_of-nil none
nothing_got (b ∷ got) after none = absurd (cc none)

pub front : (owed : List Owed) (got after : List ℕ) → ArePayments owed (got ++ after) → Front owed got after
front [] got after none = nothing_got got after none
front (o ∷ owed) got after (first, rest, same, pays, others) = elim (two_cuts got after first rest same) [
  | inl l ↦ front_whole o owed got l.more after first l.front_first pays (front owed l.more after (subst (ArePayments owed) l.back_last others))
  | inr e ↦ front_partial (o ∷ owed) got after (part_begun o got first e pays) (first, rest, same, pays, others)
]

-- what is held of a frame is of one that is owed
pub may_be_held : (owed : List Owed) (held after : List ℕ) → ArePayments owed (held ++ after) → MayBeHeld held owed
may_be_held owed [] after pays = tt
may_be_held [] (b ∷ held) after pays = absurd (cc pays)
may_be_held (o ∷ owed) (b ∷ held) after pays = tt

-- one more frame waits
pub one_more_payment : (owed : List Owed) (o : Owed) (bytes frame : List ℕ) → ArePayments owed bytes → IsPayment o frame → ArePayments (owed ++ o ∷ []) (bytes ++ frame)
one_more_payment [] o bytes frame none pays = (frame, [], ap (λ (l : List ℕ). l ++ frame) none ∙ sym (append-nil frame), pays, refl)
one_more_payment (p ∷ owed) o bytes frame (first, rest, same, pays', others) pays =
    (first, rest ++ frame, ap (λ (l : List ℕ). l ++ frame) same ∙ append_assoc first rest frame, pays', one_more_payment owed o rest frame others pays)
