-- A written reply is heard as the reply to its request.
use Rattle.std.proofs.Common.{◌≡◌, ◌∙◌, ℕ, Bool, true, false, List, None, Result, Ok, Err, refl, sym, ap, arith}
use Rattle.std.specs.Prelude.{◌==◌, not, ◌&&◌, if◌then◌else◌, length, nat_lt}
use Rattle.std.proofs.lemmas.Bool.Decides.{nat_tests}
use Rattle.smb_base.specs.declared.names.Mid.{Mid}
use Rattle.smb_le.specs.Numbers.{number_at}
use Rattle.smb_head.specs.declared.head.TheConstants.{PROTOCOL}
use Rattle.smb_head.specs.declared.head.Head.{Head}
use Rattle.smb_head.specs.declared.head.HeadFault.{HeadFault}
use Rattle.smb_head.specs.declared.head.HeadFault.TheVariants.{Short, Magic, Size}
use Rattle.smb_head.specs.Header.{head_of, head_at, is_interim}
use Rattle.share_state.specs.State.{has}
use Rattle.fs_plain.specs.Replies.{command_of, answers, is_error, reply_by_status, reply_with, reply_in, interim_with, is_interim_of, is_aside_by_status, aside_with, is_aside_reply}
use Rattle.fs_plain.specs.Masked.{untold}
use Rattle.fs_plain.specs.World.{mid_of}
use Rattle.share_box.specs.declared.bodies.Said.{Said}
use Rattle.share_box.specs.Bodies.{status_of}
use Rattle.share_box.specs.Answers.{flags_of, reply_head, pending}

found_by : (a b c : Bool) (bytes : List ℕ) (head : Head)
    → (if a then Err Short else (if b then (if c then Ok (head_at bytes) else Err Size) else Err Magic)) ≡ Ok head → head ≡ head_at bytes
found_by true b c bytes head h = absurd (cc h)
found_by false true true bytes head h = cc
found_by false true false bytes head h = absurd (cc h)
found_by false false c bytes head h = absurd (cc h)

found : (bytes : List ℕ) (head : Head) → head_of bytes ≡ Ok head → head ≡ head_at bytes
unfolding head_of
found bytes head h = found_by (nat_lt (length bytes) 64) (number_at 4 0 bytes == PROTOCOL) (number_at 2 4 bytes == 64) bytes head h

-- the header of a request has its id
mid_found : (request : List ℕ) (head : Head) → head_of request ≡ Ok head → head.mid ≡ mid_of request
unfolding head_at
mid_found request head h = ap (λ (x : Head). x.mid) (found request head h)

-- and its command
pub command_found : (request : List ℕ) (head : Head) → head_of request ≡ Ok head → head.command ≡ command_of request
unfolding head_at
command_found request head h = ap (λ (x : Head). x.command) (found request head h)

same : (n m : ℕ) → n ≡ m → (n == m) ≡ true
same n m h = grind (arith, nat_tests)

all_three : (a b c : Bool) → a ≡ true → b ≡ true → c ≡ true → (a && b && c) ≡ true
all_three a b c p q r = rw (p, q, r) refl

-- a reply has the flag of replies, put off or not
is_reply : (pended : Bool) → has (flags_of pended).0 1 ≡ true
is_reply true = refl
is_reply false = refl

-- the header of a reply answers the request
answers_it : (mid : Mid) (request : List ℕ) (head : Head) (credits : ℕ) (pended : Bool) (what : Said) → head_of request ≡ Ok head → mid ≡ mid_of request
    → answers mid request (reply_head head credits pended what) ≡ true
answers_it mid request head credits pended what is own =
    all_three (has (flags_of pended).0 1) (head.mid.0 == mid.0) (head.command == command_of request)
    (is_reply pended)
    (same head.mid.0 mid.0 (ap (λ (m : Mid). m.0) (mid_found request head is ∙ sym own)))
    (same head.command (command_of request) (command_found request head is))

-- it says something else than that the request was put off
abbrev pub IsFinal : Said → Type 0
IsFinal what = ((status_of what).0 == 0x103) ≡ false

-- it is none of an interim reply then
no_interim : (head : Head) (credits : ℕ) (pended : Bool) (what : Said) → IsFinal what → is_interim (reply_head head credits pended what) ≡ false
no_interim head credits pended what final = by ((status_of what).0 == 0x103) (has (flags_of pended).0 2) final
  where
    by : (t u : Bool) → t ≡ false → (t && u) ≡ false
    by t u p = rw p refl

tested : {A : Type 0} (a i : Bool) (x y : A) → a ≡ true → i ≡ false → (if a && not i then x else y) ≡ x
tested a i x y p q = rw (p, q) refl

-- a message with this header is the reply that its status and its body say
pub heard : (mid : Mid) (request m : List ℕ) (head : Head) (credits : ℕ) (pended : Bool) (what : Said) → head_of request ≡ Ok head → mid ≡ mid_of request
    → IsFinal what → head_of m ≡ Ok (reply_head head credits pended what)
    → reply_in mid request m ≡ reply_by_status (untold request) (status_of what).0 head.command m
unfolding reply_in
heard mid request m head credits pended what is own final read =
    ap (λ (r : Result Head HeadFault). reply_with r mid request m) read
    ∙ tested (answers mid request (reply_head head credits pended what)) (is_interim (reply_head head credits pended what))
    (reply_by_status (untold request) (status_of what).0 (command_of request) m) None (answers_it mid request head credits pended what is own)
    (no_interim head credits pended what final)
    ∙ ap (λ (c : ℕ). reply_by_status (untold request) (status_of what).0 c m) (sym (command_found request head is))

-- and to a request of the connection itself
pub heard_aside : (mid : Mid) (request m : List ℕ) (head : Head) (credits : ℕ) (pended : Bool) (what : Said) → head_of request ≡ Ok head → mid ≡ mid_of request
    → IsFinal what → head_of m ≡ Ok (reply_head head credits pended what) → is_aside_reply mid request m ≡ is_aside_by_status (status_of what).0 head.command m
unfolding is_aside_reply
heard_aside mid request m head credits pended what is own final read =
    ap (λ (r : Result Head HeadFault). aside_with r mid request m) read
    ∙ ap (λ (c : ℕ). answers mid request (reply_head head credits pended what) && not (is_interim (reply_head head credits pended what)) && is_aside_by_status (status_of what).0 c m)
    (sym (command_found request head is))
    ∙ all (answers mid request (reply_head head credits pended what)) (is_interim (reply_head head credits pended what))
    (is_aside_by_status (status_of what).0 head.command m) (answers_it mid request head credits pended what is own) (no_interim head credits pended what final)
  where
    all : (a i t : Bool) → a ≡ true → i ≡ false → (a && not i && t) ≡ t
    all a i t p q = rw (p, q) refl

-- a message that says that the request was put off is an interim reply
pub heard_interim : (mid : Mid) (request m : List ℕ) (head : Head) → head_of request ≡ Ok head → mid ≡ mid_of request
    → head_of m ≡ Ok (reply_head head 0 true pending) → is_error m ≡ true → is_interim_of mid request m ≡ true
unfolding is_interim_of
heard_interim mid request m head is own read error =
    ap (λ (r : Result Head HeadFault). interim_with r mid request m) read
    ∙ all_three (answers mid request (reply_head head 0 true pending)) true (is_error m) (answers_it mid request head 0 true pending is own) refl error
