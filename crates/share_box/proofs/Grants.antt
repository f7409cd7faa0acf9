-- The share grants neither a lease nor a durable open, and refuses a CREATE only with a status of a refusal.
use Rattle.std.proofs.Common.{◌≡◌, ◌⊎◌, inl, inr, true, false, Some, None, Result, Ok, Err, IfOk, refl, sym, subst}
use Rattle.smb_base.specs.declared.names.NoMemory.{NoMemory}
use Rattle.share_state.specs.declared.request.Who.{Who}
use Rattle.share_state.specs.declared.request.Rep.{Rep}
use Rattle.share_state.specs.declared.request.RepBody.{RepBody}
use Rattle.share_state.specs.declared.request.RepBody.TheVariants as body
use Rattle.share_state.specs.declared.request.Req.{Req}
use Rattle.share_state.specs.declared.request.Req.TheVariants as req
use Rattle.share_state.specs.declared.share.Share.{Share}
use Rattle.share_state.specs.Reply.{of_status}
use Rattle.share_state.specs.Step.{step_of}
use Rattle.share_state.specs.Built.{is_built}
use Rattle.std.proofs.lemmas.Bool.{false≢true}
use Rattle.std.specs.Prelude.{is_none}
use Rattle.fs_plain.specs.Paired.{open_given}
use Rattle.fs_plain.specs.World.{is_creating, came_to}
use Rattle.fs_plain.proofs.Deeds.{step_deed}
use Rattle.share_box.specs.Paid.{GrantsNothing, is_outcome}
use Rattle.share_box.proofs.Shapes.{IsRefused, IsOpened, IsGranted, create_shape, create_shape_with, close_shape}

refused_grants : (reply : Rep) → IsRefused reply → GrantsNothing reply.body
refused_grants reply r = subst (λ (x : Rep). GrantsNothing x.body) (sym r.is) tt

created : (reply : Rep) → IsRefused reply ⊎ IsOpened reply → GrantsNothing reply.body
created reply (inl r) = refused_grants reply r
created reply (inr o) = subst (λ (x : Rep). GrantsNothing x.body) (sym o.is) (refl, refl)

not_opened : (b : RepBody) → is_none (open_given b) ≡ true → GrantsNothing b
not_opened (body.Opened fid action size attributes lease durable) none = absurd (false≢true none)
not_opened other none = tt

ended : (reply : Rep) → IsRefused reply ⊎ (reply ≡ of_status 0) → GrantsNothing reply.body
ended reply (inl r) = refused_grants reply r
ended reply (inr is) = subst (λ (x : Rep). GrantsNothing x.body) (sym is) tt

-- no request is granted one
pub step_grants : (s : Share) (who : Who) (r : Req) → is_built r ≡ true → GrantsNothing (step_of None s who r).0.body
step_grants s who (req.Create path access share disposition options attributes (Some wish) durable) built = absurd (false≢true built)
step_grants s who (req.Create path access share disposition options attributes None true) built = absurd (false≢true built)
step_grants s who (req.Create path access share disposition options attributes None false) built =
    created _ (create_shape s who path (record { access = access; share = share; disposition = disposition; options = options; attributes = attributes; lease = None; durable = false }))
step_grants s who (req.Close fid) built = ended _ (close_shape s who fid)
step_grants s who other built = not_opened (step_of None s who other).0.body (step_deed None s who other refl).gives

-- nor does its reply say so
pub reply_grants : (result : Result Rep NoMemory) (s new : Share) (who : Who) (r : Req) → is_built r ≡ true → IfOk result (λ rep. step_of None s who r ≡ (rep, new))
    → IfOk result (λ rep. GrantsNothing rep.body)
reply_grants (Ok rep) s new who r built h = subst (λ (d : Rep × Share). GrantsNothing d.0.body) h (step_grants s who r built)
reply_grants (Err e) s new who r built h = tt

outcome : (reply : Rep) → IsRefused reply ⊎ IsGranted (λ g. Unit {0}) reply → is_outcome (came_to reply reply.body) ≡ true
outcome reply (inl r) = subst (λ (x : Rep). is_outcome (came_to x x.body) ≡ true) (sym r.is) r.refusal
outcome reply (inr o) = subst (λ (x : Rep). is_outcome (came_to x x.body) ≡ true) (sym o.is) refl

-- a CREATE comes to what it can come to
pub create_outcome : (s : Share) (who : Who) (r : Req) → is_creating r ≡ true → is_outcome (came_to (step_of None s who r).0 (step_of None s who r).0.body) ≡ true
create_outcome s who (req.Create path access share disposition options attributes lease durable) creating =
    outcome _ (create_shape_with (λ g. Unit {0}) None s who path (record { access = access; share = share; disposition = disposition; options = options; attributes = attributes; lease = lease; durable = durable }) (λ node. record {}))
create_outcome s who other creating = absurd (cc creating)
