use Rattle.std.proofs.Common.{◌≡◌, ◌∙◌, [], false, List, Some, OnOk, length, take, refl, sym, ap, subst}
use Rattle.std.specs.Prelude.{slice_get}
use Rattle.std.proofs.lemmas.Option.{slice_get_read, slice_get_past}
use Rattle.smb_base.specs.declared.names.Mid.{Mid}
use Rattle.share_state.specs.Sent.{sent_with}
use Rattle.share_box.specs.declared.state.State.{State}
use Rattle.share_box.specs.Order.{waiting_ids, is_next}
use Rattle.share_box.specs.Turns.{served_at, all_delayed}
use Rattle.share_box.proofs.Going.{goes_further}
use Rattle.share_box.proofs.Ordering.{next_kept, servable_next, servable_one, served_is}
use Rattle.share_box.proofs.turns.serve_number.Goals as goal

pub serve_id-requires : goal.serve_id-requires
serve_id-requires c =
    let b = c.args.b.now in
    let ids : c.deref.result.now ≡ waiting_ids b.share.sent = c.deref.ensures.value ∙ c.in_ok-mids.ensures ∙ ap waiting_ids c.as_slice.ensures in
    let found : slice_get (waiting_ids b.share.sent) c.args.number ≡ Some c.in-Some.mid.now =
    ap (λ (l : List Mid). slice_get l c.args.number) (sym ids)
    ∙ slice_get_read c.deref.result.now (length c.deref.result.now) c.args.number c.in-Some.mid.now refl c.in-Some.ensures.lookup.3.0 c.in-Some.ensures.lookup.1 in
    let after : c.put_all_off.new.b ≡ all_delayed (take c.args.number (waiting_ids b.share.sent)) b =
    c.in_ok-put_all_off-in-Some.ensures.ok
    ∙ ap (λ (l : List Mid). all_delayed (take c.args.number l) b) (c.deref-in-Some.ensures.value ∙ c.in_ok-mids.ensures ∙ ap waiting_ids c.as_slice.ensures) in
    ap (λ (s : State). is_next (sent_with c.in-Some.mid.now s.share.sent) s.share.sent) after
    ∙ next_kept (take c.args.number (waiting_ids b.share.sent)) c.in-Some.mid.now b
    ∙ servable_next b.share c.args.number c.in-Some.mid.now found c.requires

pub returns-in-Some-clause-ok : goal.returns-in-Some-clause-ok
returns-in-Some-clause-ok c =
    let b = c.args.b.now in
    let ids : c.deref.result.now ≡ waiting_ids b.share.sent = c.deref.ensures.value ∙ c.in_ok-mids.ensures ∙ ap waiting_ids c.as_slice.ensures in
    let found : slice_get (waiting_ids b.share.sent) c.args.number ≡ Some c.in-Some.mid.now =
    ap (λ (l : List Mid). slice_get l c.args.number) (sym ids)
    ∙ slice_get_read c.deref.result.now (length c.deref.result.now) c.args.number c.in-Some.mid.now refl c.in-Some.ensures.lookup.3.0 c.in-Some.ensures.lookup.1 in
    let after : c.put_all_off.new.b ≡ all_delayed (take c.args.number (waiting_ids b.share.sent)) b =
    c.in_ok-put_all_off-in-Some.ensures.ok
    ∙ ap (λ (l : List Mid). all_delayed (take c.args.number l) b) (c.deref-in-Some.ensures.value ∙ c.in_ok-mids.ensures ∙ ap waiting_ids c.as_slice.ensures) in
    subst (λ (s : State). OnOk c.serve_id.result (c.serve_id.new.b ≡ s)) (ap (served_at c.in-Some.mid.now) after ∙ sym (served_is b c.args.number c.in-Some.mid.now found))
    c.serve_id.ensures.ok

pub returns-in-Some-clause-goes : goal.returns-in-Some-clause-goes
returns-in-Some-clause-goes c = goes_further [] false false _ _ _ c.put_all_off.ensures.goes c.serve_id.ensures.goes

pub returns-clause-ok : goal.returns-clause-ok
returns-clause-ok c =
    let b = c.args.b.now in
    let ids : c.deref.result.now ≡ waiting_ids b.share.sent = c.deref.ensures.value ∙ c.in_ok-mids.ensures ∙ ap waiting_ids c.as_slice.ensures in
    absurd (servable_one b.share c.args.number (ap (λ (l : List Mid). slice_get l c.args.number) (sym ids) ∙ slice_get_past c.deref.result.now c.args.number c.in-None.ensures.lookup.3) c.requires)
