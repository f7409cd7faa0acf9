-- A share that grants no lease and no durable open does the same as the plain share.
use Rattle.std.proofs.Common.{◌≡◌, ℕ, true, false, [], ◌∷◌, ◌+◌, refl, ap, sym, ◌∙◌, None, Some, List, Option, Bool, not, if◌then◌else◌}
use Rattle.std.specs.Prelude.{map}
use Rattle.share_state.specs.declared.connection.Grant.{Grant}
use Rattle.share_state.specs.declared.opens.Open.{Open}
use Rattle.share_state.specs.declared.wanted.Wanted.{Wanted}
use Rattle.share_state.specs.declared.place.Found.{Found}
use Rattle.share_state.specs.declared.place.Place.{Place}
use Rattle.share_state.specs.declared.place.Place.TheVariants.{NoPath, Missing, There}
use Rattle.share_state.specs.declared.request.Who.{Who}
use Rattle.share_state.specs.declared.request.Req.{Req}
use Rattle.share_state.specs.declared.request.Req.TheVariants as req
use Rattle.share_state.specs.declared.request.Rep.{Rep}
use Rattle.share_state.specs.declared.share.Share.{Share}
use Rattle.share_state.specs.Names.{components, is_name}
use Rattle.share_state.specs.Place.{place_of}
use Rattle.share_state.specs.Create.{create_at, create_of, made, opened, open_with, with_open, overwrites, refusal_of_missing, refusal_of_there, is_disposition}
use Rattle.share_state.specs.Reply.{unless, refused}
use Rattle.share_state.specs.Built.{is_built}
use Rattle.share_state.specs.PlainShare.{plain_wanted, plain_request}
use Rattle.share_state.specs.Leases.{no_granting, with_granting}
use Rattle.std.proofs.lemmas.Bool.{false≢true}
use Rattle.std.specs.List.{list_all}
use Rattle.share_state.specs.State.{emptied}
use Rattle.share_state.specs.Close.{open_of, close_open}
use Rattle.share_state.specs.Step.{step_of}
use Rattle.fs_plain.specs.Alike.{bare}
use Rattle.fs_plain.proofs.Deeds.{bare_of, place_bare, unless_bare, fid_in, deed_is, deed_bare}

-- the share, its node emptied where that is asked
abbrev perhaps_emptied : Share → ℕ → Bool → Share
perhaps_emptied s node t = if t then record s { nodes = map (emptied node) s.nodes } else s

perhaps_emptied_bare : (s : Share) (node : ℕ) (t : Bool) → perhaps_emptied (bare s) node t ≡ bare (perhaps_emptied s node t)
perhaps_emptied_bare s node true = refl
perhaps_emptied_bare s node false = refl

opened_bare : (s : Share) (who : Who) (w : Wanted) (f : Found) → opened (bare s) who w no_granting f ≡ bare_of (opened s who w no_granting f)
opened_bare s who w f =
    ap (λ (t : Share). (
      (opened s who w no_granting f).0,
      with_granting who no_granting f.node (with_open (open_with (s.opens_made + 1) who w no_granting f.node f.entry) t),
    ))
    (perhaps_emptied_bare s f.node (overwrites w.disposition))

create_at_bare : (choice choice' : Option Grant) (s : Share) (who : Who) (w : Wanted) (at : Place)
    → create_at choice' (bare s) who (plain_wanted w) at ≡ bare_of (create_at choice s who (plain_wanted w) at)
create_at_bare choice choice' s who w NoPath = refl
create_at_bare choice choice' s who w (Missing d name) =
    unless_bare (refusal_of_missing s who (plain_wanted w) d) s (made s who (plain_wanted w) no_granting d name)
create_at_bare choice choice' s who w (There f) =
    ap (unless (refusal_of_there s who (plain_wanted w) f) (bare s)) (opened_bare s who (plain_wanted w) f)
    ∙ unless_bare (refusal_of_there s who (plain_wanted w) f) s (opened s who (plain_wanted w) no_granting f)

create_bare : (choice choice' : Option Grant) (s : Share) (who : Who) (path : List ℕ) (w : Wanted)
    → create_of choice' (bare s) who path (plain_wanted w) ≡ bare_of (create_of choice s who path (plain_wanted w))
create_bare choice choice' s who path w = by (is_disposition w.disposition) (list_all is_name (components path))
  where
    by : (t u : Bool)
        → (if not t then refused 0xC000000D (bare s)
        else if not u then refused 0xC0000033 (bare s) else create_at choice' (bare s) who (plain_wanted w) (place_of (bare s) (components path)))
        ≡ bare_of (if not t then refused 0xC000000D s
        else if not u then refused 0xC0000033 s else create_at choice s who (plain_wanted w) (place_of s (components path)))
    by false u = refl
    by true false = refl
    by true true =
        ap (create_at choice' (bare s) who (plain_wanted w)) (place_bare s (components path))
        ∙ create_at_bare choice choice' s who w (place_of s (components path))

close_open_bare : (o : Option Open) (s : Share) → close_open o (bare s) ≡ bare_of (close_open o s)
close_open_bare None s = refl
close_open_bare (Some o) s = refl

-- every request that the machine takes does the same, whatever was chosen
pub step_bare : (choice choice' : Option Grant) (s : Share) (who : Who) (r : Req) → is_built r ≡ true
    → step_of choice' (bare s) who (plain_request r) ≡ bare_of (step_of choice s who r)
step_bare choice choice' s who (req.Create path access share disposition options attributes (Some wish) durable) built = absurd (false≢true built)
step_bare choice choice' s who (req.Create path access share disposition options attributes None true) built = absurd (false≢true built)
step_bare choice choice' s who (req.Create path access share disposition options attributes None false) built = create_bare choice choice' s who path record {
  access = access;
  share = share;
  disposition = disposition;
  options = options;
  attributes = attributes;
  lease = None;
  durable = false;
}
step_bare choice choice' s who (req.Close fid) built = close_open_bare (open_of s.opens who fid) s
step_bare choice choice' s who other built =
    deed_is choice' (bare s) who other refl ∙ deed_bare s who other (open_of s.opens who (fid_in other)) ∙ ap bare_of (sym (deed_is choice s who other refl))
