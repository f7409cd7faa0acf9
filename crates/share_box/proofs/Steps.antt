-- A request leaves the connection as it stands.
use Rattle.std.proofs.Common.{◌≡◌, ◌∙◌, Result, Ok, Err, IfOk, OnErr, None, sym, ap}
use Rattle.smb_base.specs.declared.names.NoMemory.{NoMemory}
use Rattle.share_state.specs.declared.request.Who.{Who}
use Rattle.share_state.specs.declared.request.Rep.{Rep}
use Rattle.share_state.specs.declared.request.Req.{Req}
use Rattle.share_state.specs.declared.share.Share.{Share}
use Rattle.share_state.specs.Step.{step_of}
use Rattle.fs_plain.proofs.Deeds.{Connection}
use Rattle.fs_plain.proofs.Steps.{step_connection}

pub step_connected : (s : Share) (who : Who) (r : Req) → (step_of None s who r).1.connected ≡ s.connected
step_connected s who r = ap (λ (k : Connection). k.connected) (step_connection None s who r)

pub step_keeps : (result : Result Rep NoMemory) (s new : Share) (who : Who) (r : Req) → IfOk result (λ rep. step_of None s who r ≡ (rep, new)) → OnErr result (new ≡ s) → new.connected ≡ s.connected
step_keeps (Ok rep) s new who r ok err = sym (ap (λ (p : Rep × Share). p.1.connected) ok) ∙ step_connected s who r
step_keeps (Err e) s new who r ok err = ap (λ (x : Share). x.connected) err
