-- Programs that close each open that they make, before they answer.
use Rattle.std.specs.Prelude.{◌≡◌, ◌⊎◌, ℕ, ◌+◌, ◌==◌, Bool, true, false}
use Rattle.share_state.specs.declared.request.Rep.{Rep}
use Rattle.smb_link.specs.Program.{Own, Wish, Open as Opening, Close, Known, Program, Ask, Look, Say}

-- a request closes the n-th open of its call, from 0
abbrev pub closes : ℕ → Wish → Bool
closes n (Close (Own k)) = k == n
closes n other = false

-- a program closes the n-th open of its call before it answers, whatever the replies are
abbrev pub WillClose : ℕ → Program → Type 0
WillClose n (Ask wish rest) = (closes n wish ≡ true) ⊎ ((reply : Rep) → WillClose n (rest reply))
WillClose n (Look rest) = (known : Known) → WillClose n (rest known)
WillClose n (Say answer) = ⊥

-- a program whose call made so many opens closes each one that it makes from now on: a CREATE that succeeds makes one
abbrev pub Tidies : ℕ → Program → Type 0
Tidies made (Ask (Opening path access disposition options) rest) =
    (reply : Rep)
    → ((reply.status.0 == 0) ≡ true → WillClose made (rest reply) × Tidies (made + 1) (rest reply))
    × ((reply.status.0 == 0) ≡ false → Tidies made (rest reply))
Tidies made (Ask other rest) = (reply : Rep) → Tidies made (rest reply)
Tidies made (Look rest) = (known : Known) → Tidies made (rest known)
Tidies made (Say answer) = Unit {0}
