-- The shapes of frames: one request, and a CREATE with two requests that are related to it.
use Rattle.std.proofs.Common.{arith, ◌≡◌, ◌∙◌, refl, sym, ap, subst, ℕ, ◌==◌, Bool, true, false, if◌then◌else◌, not, List, [], ◌∷◌, ◌++◌, Option, Some, None}
use Rattle.std.specs.Prelude.{MatchBool, is_some, is_none, ◌&&◌}
use Rattle.std.proofs.lemmas.Bool.{false≢true}
use Rattle.std.proofs.lemmas.Bool.Decides.{nat_tests}
use Rattle.smb_base.specs.declared.names.Fid.{Fid}
use Rattle.smb_base.specs.declared.names.Mid.{Mid}
use Rattle.smb_base.specs.declared.names.Status.{Status}
use Rattle.share_state.specs.declared.connection.LastCreate.TheVariants as last
use Rattle.share_state.specs.declared.connection.Sent.{Sent}
use Rattle.share_state.specs.declared.request.Rep.{Rep}
use Rattle.share_state.specs.declared.request.RepBody.{RepBody}
use Rattle.share_state.specs.declared.request.RepBody.TheVariants as body
use Rattle.share_state.specs.declared.request.Req.{Req}
use Rattle.share_state.specs.PlainShare.{shown}
use Rattle.share_state.specs.Reply.{map_fid}
use Rattle.share_state.specs.Sent.{behind_create}
use Rattle.smb_link.specs.Program.{File, Wish, Program, Known, Ask, settled}
use Rattle.fs_plain.specs.Paired.{open_given}
use Rattle.fs_plain.specs.Masked.{Untold, untold}
use Rattle.fs_plain.specs.Requests.{WireRequest, wire_request}
use Rattle.fs_plain.specs.Wishes.{wish_of}
use Rattle.fs_plain.specs.World.{is_creating, refusal_before, came_to}
use Rattle.fs_client.specs.Item.{fids_with, fids_after}
use Rattle.fs_client.specs.Asked.{creates, creates_as, is_refused, refused_as, AsksAs, Asks, fits, behind_it}
use Rattle.fs_client.specs.Flies.{AsksNext, FliesAs}
use Rattle.fs_client.proofs.Flights.{flies_none, flies_in}

-- a program's next request is this one
pub record Wants (files : List Fid → File → Fid) (known : Known) (p : Program) (fids : List Fid) (wanted : Req) (Then : Program → Type 0) : Type 0 where
  pub wish : Wish
  pub rest : Rep → Program
  pub settles : settled known p ≡ Ask wish rest
  pub wished : wanted ≡ wish_of (files fids) wish
  pub going : (reply : Rep) → Then (rest (shown reply))

-- such a request is asked next, whatever comes of it
asks_wanted : (files : List Fid → File → Fid) (known : Known) (x : Sent) (p : Program) (fids : List Fid) (wanted : Req) (Then : Program → Type 0) (T : Program → Rep → Type 0)
    → Wants files known p fids wanted Then → Asks x wanted → ((rest : Program) (reply : Rep) → fits x reply ≡ true → Then rest → T rest reply) → AsksNext files x fids (settled known p) T
asks_wanted files known x p fids wanted Then T wants asks f =
    subst (λ (q : Program). AsksNext files x fids q T) (sym wants.settles)
    (subst (Asks x) wants.wished asks, λ reply fit. f (wants.rest (shown reply)) reply fit (wants.going reply))

-- one request
pub flies_one : (files : List Fid → File → Fid) (known : Known) (frame : Mid) (p : Program) (fids : List Fid) (x : Sent) (wanted : Req)
    → (x.frame.0 == frame.0) ≡ true → is_refused x ≡ false → Asks x wanted → Wants files known p fids wanted (λ rest. Unit {0}) → FliesAs files known frame (λ y. y) p fids (x ∷ [])
flies_one files known frame p fids x wanted at not_refused asks wants =
    flies_in files known frame (λ y. y) p fids x [] at
    (subst (λ (b : Bool). MatchBool b (FliesAs files known frame (λ y. y) p fids []) (AsksNext files x fids (settled known p) (λ rest reply. FliesAs files known frame (λ y. behind_it x reply y) rest (fids_after reply fids) []))) (sym not_refused)
    (asks_wanted files known x p fids wanted (λ rest. Unit {0}) _ wants asks (λ rest reply fit going. flies_none files known frame (λ y. behind_it x reply y) rest (fids_after reply fids))))

-- a request that is related to a CREATE before it and makes none itself, and whose reply leaves nothing out
pub record IsRelated (frame : Mid) (x : Sent) (request : Req) : Type 0 where
  pub at : (x.frame.0 == frame.0) ≡ true
  pub asks : wire_request x.message ≡ Some (WireRequest.Share true request)
  pub plain : is_creating request ≡ false
  pub whole : untold x.message ≡ Untold.Nothing

-- what holds of the open that a reply gives
abbrev pub IfOpened : RepBody → (Fid → Type 0) → Type 0
IfOpened (body.Opened fid action size attributes lease durable) P = P fid
IfOpened other P = Unit {0}

-- a program asks for a CREATE, and where that gives an open, for two requests of it
pub record WantsThree (files : List Fid → File → Fid) (known : Known) (p : Program) (fids : List Fid) (first second third : Req) : Type 0 where
  pub wish : Wish
  pub rest : Rep → Program
  pub settles : settled known p ≡ Ask wish rest
  pub wished : first ≡ wish_of (files fids) wish
  pub going : (reply : Rep) → (reply.status.0 == 0) ≡ true → IfOpened reply.body (λ fid.
      Wants files known (rest (shown reply)) (fids ++ fid ∷ []) (map_fid (λ own. fid) second) (λ more.
      Wants files known more (fids ++ fid ∷ []) (map_fid (λ own. fid) third) (λ end. Unit {0})))

-- what a CREATE leaves of a request of its frame
seen_behind : (x y : Sent) (reply : Rep) → creates x ≡ true → (y.frame.0 == x.frame.0) ≡ true → behind_it x reply y ≡ record y { last_create = came_to reply reply.body }
seen_behind x y reply is at =
    ap (λ (b : Bool). if b then behind_create x.frame (came_to reply reply.body) y else y) is
    ∙ ap (λ (b : Bool). if b then record y { last_create = came_to reply reply.body } else y) at

same_frame : (frame : Mid) (x y : Sent) → (x.frame.0 == frame.0) ≡ true → (y.frame.0 == frame.0) ≡ true → (y.frame.0 == x.frame.0) ≡ true
same_frame frame x y a b = both x.frame.0 y.frame.0 frame.0 a b
  where
    both : (p q r : ℕ) → (p == r) ≡ true → (q == r) ≡ true → (q == p) ≡ true
    both p q r a b = grind (arith, nat_tests)

-- behind a refused CREATE a related request is refused
refused_behind : (frame : Mid) (y : Sent) (request : Req) (status : Status) → IsRelated frame y request → is_refused (record y { last_create = last.Refused status }) ≡ true
refused_behind frame y request status r =
    ap (λ (w : Option WireRequest). refused_as w (last.Refused status)) r.asks ∙ ap (λ (b : Bool). is_some (if true && not b then Some status.0 else None)) r.plain

-- behind one that gave an open it asks for that one
asks_behind : (frame : Mid) (y : Sent) (request : Req) (fid : Fid) → IsRelated frame y request → Asks (record y { last_create = last.Opened fid }) (map_fid (λ own. fid) request)
asks_behind frame y request fid r = (subst (λ (w : Option WireRequest). AsksAs w (last.Opened fid) (map_fid (λ own. fid) request)) (sym r.asks) refl, r.whole)

kept_behind : (frame : Mid) (y : Sent) (request : Req) (fid : Fid) → IsRelated frame y request → is_refused (record y { last_create = last.Opened fid }) ≡ false
kept_behind frame y request fid r =
    ap (λ (w : Option WireRequest). refused_as w (last.Opened fid)) r.asks ∙ ap (λ (b : Bool). is_some (if true && not b then refusal_before (last.Opened fid) else None)) r.plain

plain_creates : (frame : Mid) (y : Sent) (request : Req) → IsRelated frame y request → creates y ≡ false
plain_creates frame y request r = ap creates_as r.asks ∙ r.plain

-- a reply to what is no CREATE gives no open
fids_same : (y : Sent) (reply : Rep) (fids : List Fid) → creates y ≡ false → fits y reply ≡ true → fids_after reply fids ≡ fids
fids_same y reply fids plain fit = by reply.body (sym (ap (λ (b : Bool). if b && reply.status.0 == 0 then is_some (open_given reply.body) else is_none (open_given reply.body)) plain) ∙ fit)
  where
    by : (b : RepBody) → is_none (open_given b) ≡ true → fids_with b fids ≡ fids
    by (body.Opened fid action size attributes lease durable) is = absurd (false≢true is)
    by other is = refl

-- the two related requests behind a CREATE that gave an open
two_fly : (files : List Fid → File → Fid) (known : Known) (frame : Mid) (seen : Sent → Sent) (p : Program) (fids : List Fid) (y z : Sent) (second third : Req) (fid : Fid)
    → IsRelated frame y second → IsRelated frame z third → seen y ≡ record y { last_create = last.Opened fid } → seen z ≡ record z { last_create = last.Opened fid }
    → Wants files known p fids (map_fid (λ own. fid) second) (λ more. Wants files known more fids (map_fid (λ own. fid) third) (λ end. Unit {0}))
    → FliesAs files known frame seen p fids (y ∷ z ∷ [])
two_fly files known frame seen p fids y z second third fid ry rz see_y see_z wants =
    flies_in files known frame seen p fids y (z ∷ []) ry.at
    (subst (λ (b : Bool). MatchBool b (FliesAs files known frame seen p fids (z ∷ [])) (AsksNext files (seen y) fids (settled known p) (λ rest reply. FliesAs files known frame (λ w. behind_it (seen y) reply (seen w)) rest (fids_after reply fids) (z ∷ []))))
    (sym (ap is_refused see_y ∙ kept_behind frame y second fid ry))
    (asks_wanted files known (seen y) p fids (map_fid (λ own. fid) second) _ _ wants (subst (λ (w : Sent). Asks w (map_fid (λ own. fid) second)) (sym see_y) (asks_behind frame y second fid ry))
    (λ rest reply fit more.
    subst (λ (l : List Fid). FliesAs files known frame (λ w. behind_it (seen y) reply (seen w)) rest l (z ∷ [])) (sym (fids_same (seen y) reply fids plain fit))
    (last_flies rest reply more))))
  where
    plain : creates (seen y) ≡ false
    plain = ap creates see_y ∙ plain_creates frame y second ry

    still : (reply : Rep) → behind_it (seen y) reply (seen z) ≡ record z { last_create = last.Opened fid }
    still reply = ap (λ (b : Bool). if b then behind_create (seen y).frame (came_to reply reply.body) (seen z) else seen z) plain ∙ see_z

    last_flies : (rest : Program) (reply : Rep) → Wants files known rest fids (map_fid (λ own. fid) third) (λ end. Unit {0}) → FliesAs files known frame (λ w. behind_it (seen y) reply (seen w)) rest fids (z ∷ [])
    last_flies rest reply more =
        flies_in files known frame (λ w. behind_it (seen y) reply (seen w)) rest fids z [] rz.at
        (subst (λ (w : Sent). MatchBool (is_refused w) (FliesAs files known frame (λ u. behind_it (seen y) reply (seen u)) rest fids [])
        (AsksNext files w fids (settled known rest) (λ end r. FliesAs files known frame (λ u. behind_it w r (behind_it (seen y) reply (seen u))) end (fids_after r fids) []))) (sym (still reply))
        (subst (λ (b : Bool). MatchBool b (FliesAs files known frame (λ u. behind_it (seen y) reply (seen u)) rest fids [])
        (AsksNext files (record z { last_create = last.Opened fid }) fids (settled known rest) (λ end r. FliesAs files known frame (λ u. behind_it (record z { last_create = last.Opened fid }) r (behind_it (seen y) reply (seen u))) end (fids_after r fids) [])))
        (sym (kept_behind frame z third fid rz))
        (asks_wanted files known (record z { last_create = last.Opened fid }) rest fids (map_fid (λ own. fid) third) _ _ more (asks_behind frame z third fid rz)
        (λ end r fit going. flies_none files known frame (λ u. behind_it (record z { last_create = last.Opened fid }) r (behind_it (seen y) reply (seen u))) end (fids_after r fids)))))

-- behind a refused one both are passed over
two_refused : (files : List Fid → File → Fid) (known : Known) (frame : Mid) (seen : Sent → Sent) (p : Program) (fids : List Fid) (y z : Sent) (second third : Req) (status : Status)
    → IsRelated frame y second → IsRelated frame z third → seen y ≡ record y { last_create = last.Refused status } → seen z ≡ record z { last_create = last.Refused status }
    → FliesAs files known frame seen p fids (y ∷ z ∷ [])
two_refused files known frame seen p fids y z second third status ry rz see_y see_z =
    flies_in files known frame seen p fids y (z ∷ []) ry.at
    (subst (λ (b : Bool). MatchBool b (FliesAs files known frame seen p fids (z ∷ [])) (AsksNext files (seen y) fids (settled known p) (λ rest reply. FliesAs files known frame (λ w. behind_it (seen y) reply (seen w)) rest (fids_after reply fids) (z ∷ []))))
    (sym (ap is_refused see_y ∙ refused_behind frame y second status ry))
    (flies_in files known frame seen p fids z [] rz.at
    (subst (λ (b : Bool). MatchBool b (FliesAs files known frame seen p fids []) (AsksNext files (seen z) fids (settled known p) (λ rest reply. FliesAs files known frame (λ w. behind_it (seen z) reply (seen w)) rest (fids_after reply fids) [])))
    (sym (ap is_refused see_z ∙ refused_behind frame z third status rz))
    (flies_none files known frame seen p fids))))

-- a CREATE and two requests that are related to it
pub flies_three : (files : List Fid → File → Fid) (known : Known) (frame : Mid) (p : Program) (fids : List Fid) (x y z : Sent) (first second third : Req)
    → (x.frame.0 == frame.0) ≡ true → creates x ≡ true → is_refused x ≡ false → Asks x first → IsRelated frame y second → IsRelated frame z third
    → WantsThree files known p fids first second third → FliesAs files known frame (λ w. w) p fids (x ∷ y ∷ z ∷ [])
flies_three files known frame p fids x y z first second third at creating not_refused asks ry rz wants =
    flies_in files known frame (λ w. w) p fids x (y ∷ z ∷ []) at
    (subst (λ (b : Bool). MatchBool b (FliesAs files known frame (λ w. w) p fids (y ∷ z ∷ [])) (AsksNext files x fids (settled known p) (λ rest reply. FliesAs files known frame (λ w. behind_it x reply w) rest (fids_after reply fids) (y ∷ z ∷ [])))) (sym not_refused)
    (subst (λ (q : Program). AsksNext files x fids q (λ rest reply. FliesAs files known frame (λ w. behind_it x reply w) rest (fids_after reply fids) (y ∷ z ∷ []))) (sym wants.settles)
    (subst (Asks x) wants.wished asks, λ reply fit. behind reply.status reply.body fit (wants.going reply))))
  where
    seen : (w : Sent) (reply : Rep) → (w.frame.0 == frame.0) ≡ true → behind_it x reply w ≡ record w { last_create = came_to reply reply.body }
    seen w reply at' = seen_behind x w reply creating (same_frame frame x w at at')

    good : (status : Status) → (if creates x && status.0 == 0 then true else false) ≡ true → (status.0 == 0) ≡ true
    good status fit = by (creates x) (status.0 == 0) fit
      where
        by : (a b : Bool) → (if a && b then true else false) ≡ true → b ≡ true
        by true true is = refl
        by true false is = absurd (false≢true is)
        by false b is = absurd (false≢true is)

    behind : (status : Status) (b : RepBody) → fits x (record { status = status; body = b }) ≡ true
        → ((status.0 == 0) ≡ true → IfOpened b (λ fid. Wants files known (wants.rest (shown (record { status = status; body = b }))) (fids ++ fid ∷ []) (map_fid (λ own. fid) second) (λ more.
        Wants files known more (fids ++ fid ∷ []) (map_fid (λ own. fid) third) (λ end. Unit {0}))))
        → FliesAs files known frame (λ w. behind_it x (record { status = status; body = b }) w) (wants.rest (shown (record { status = status; body = b }))) (fids_with b fids) (y ∷ z ∷ [])
    behind status (body.Opened fid action size attributes lease durable) fit going =
        two_fly files known frame (λ w. behind_it x (record { status = status; body = body.Opened fid action size attributes lease durable }) w)
        (wants.rest (shown (record { status = status; body = body.Opened fid action size attributes lease durable }))) (fids ++ fid ∷ []) y z second third fid ry rz
        (seen y (record { status = status; body = body.Opened fid action size attributes lease durable }) ry.at) (seen z (record { status = status; body = body.Opened fid action size attributes lease durable }) rz.at)
        (going (good status fit))
    behind status other fit going =
        two_refused files known frame (λ w. behind_it x (record { status = status; body = other }) w) (wants.rest (shown (record { status = status; body = other }))) (fids_with other fids) y z second third status ry rz
        (seen y (record { status = status; body = other }) ry.at) (seen z (record { status = status; body = other }) rz.at)
