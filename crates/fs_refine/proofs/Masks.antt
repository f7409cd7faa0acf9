-- What the reply to a request tells of the share's own: the open that it gives, what the CREATE of a frame came to, and all of it where
-- the request's reply leaves nothing out.
use Rattle.std.proofs.Common.{◌≡◌, ◌∙◌, refl, ap, ℕ, ◌==◌, Bool, true, if◌then◌else◌, List, Option}
use Rattle.std.specs.Prelude.{is_some, is_none, ◌&&◌}
use Rattle.share_state.specs.declared.request.Rep.{Rep}
use Rattle.share_state.specs.declared.request.RepBody.{RepBody}
use Rattle.share_state.specs.declared.request.RepBody.TheVariants as body
use Rattle.fs_plain.specs.World.{came_to}
use Rattle.fs_plain.specs.Paired.{open_given}
use Rattle.fs_plain.specs.Masked.{Untold, Nothing, NumberAndMark, Durability, untold, without, told_of, masked}
use Rattle.fs_plain.proofs.ShareLaws.{gives}

-- the open that it gives
without_gives : (u : Untold) (b : RepBody) → open_given (without u b) ≡ open_given b
without_gives Nothing b = refl
without_gives NumberAndMark (body.Info dir size read_only links pending number) = refl
without_gives NumberAndMark other = refl
without_gives Durability (body.Opened fid action size attributes lease durable) = refl
without_gives Durability other = refl

without_came : (r : Rep) (u : Untold) (b : RepBody) → came_to r (without u b) ≡ came_to r b
without_came r Nothing b = refl
without_came r NumberAndMark (body.Info dir size read_only links pending number) = refl
without_came r NumberAndMark other = refl
without_came r Durability (body.Opened fid action size attributes lease durable) = refl
without_came r Durability other = refl

pub masked_gives : (q : List ℕ) (reply : Rep) → open_given (masked q reply).body ≡ open_given reply.body
masked_gives q reply = without_gives (untold q) reply.body

pub masked_came : (q : List ℕ) (reply : Rep) → came_to (masked q reply) (masked q reply).body ≡ came_to reply reply.body
masked_came q reply = status (without (untold q) reply.body) ∙ without_came reply (untold q) reply.body
  where
    status : (b : RepBody) → came_to (masked q reply) b ≡ came_to reply b
    status (body.Opened fid action size attributes lease durable) = refl
    status other = refl

pub masked_fits : (creates : Bool) (q : List ℕ) (reply : Rep) → gives creates reply ≡ true → gives creates (masked q reply) ≡ true
masked_fits creates q reply fits =
    ap (λ (o : Option ℕ). if creates && reply.status.0 == 0 then is_some o else is_none o) (masked_gives q reply) ∙ fits

-- a reply that leaves nothing out
pub masked_itself : (q : List ℕ) (reply : Rep) → untold q ≡ Untold.Nothing → masked q reply ≡ reply
masked_itself q reply whole = ap (λ (u : Untold). told_of u reply) whole
