-- The exchanges of a connection lead to one stage of its mount, and to one share: session and tree are those of its replies.
use Rattle.std.proofs.Common.{◌≡◌, ◌∙◌, sym, ap, subst, ℕ, ◌==◌, Bool, true, false, List, [], ◌∷◌, Result, Ok, Err}
use Rattle.std.specs.Prelude.{MatchBool}
use Rattle.smb_head.specs.declared.head.Head.{Head}
use Rattle.smb_head.specs.declared.head.HeadFault.{HeadFault}
use Rattle.smb_head.specs.Header.{head_of}
use Rattle.smb_field.specs.declared.field.BodyFault.{BodyFault}
use Rattle.smb_mount.specs.declared.facts.Facts.{Facts}
use Rattle.smb_mount.specs.declared.fault.MountFault.{MountFault}
use Rattle.smb_mount.specs.declared.states.SetUp.{SetUp}
use Rattle.smb_mount.specs.declared.states.SetUp.TheVariants.{Challenged, Authenticated}
use Rattle.smb_mount.specs.Kept as kept
use Rattle.smb_mount.specs.Replies.{Decides}
use Rattle.smb_mount.specs.Verdicts.{NegotiateEnds, SetUpEnds, SessionEnds, TreeEnds}
use Rattle.fs_client.specs.View.{Setting, Exchange, Client}
use Rattle.fs_client.specs.Mount.{Stage, Unmounted, Agreed, Challenging, InSession, Mounted, Leads, LeadTo, HasCome, at_first}

-- what is read of a body decides one answer
one_answer : {X A : Type 0} (reads : Result X BodyFault → Type 0) (verdict : Result X BodyFault → A) (a b : A) → Decides reads verdict a → Decides reads verdict b → a ≡ b
one_answer reads verdict a b da db = da.some_body.2 ∙ sym (db.every_body da.some_body.0 da.some_body.1)

-- answers that are both good are one, where no failure is good
good_is : {A : Type 0} (a b : A) → ◌≡◌ {A = Result A MountFault} (Ok a) (Ok b) → a ≡ b
good_is {A = A} a b is = ap (the a) is
  where
    the : A → Result A MountFault → A
    the d (Ok x) = x
    the d (Err fault) = d

one_good : {X A : Type 0} (t : Bool) (reads : Result X BodyFault → Type 0) (verdict : Result X BodyFault → Result A MountFault) (a b : A)
    → MatchBool t (Decides reads verdict (Ok a)) ⊥ → MatchBool t (Decides reads verdict (Ok b)) ⊥ → a ≡ b
one_good true reads verdict a b x y = good_is a b (one_answer reads verdict (Ok a) (Ok b) x y)
one_good false reads verdict a b x y = absurd x

one_of_two : {X A : Type 0} (t u : Bool) (reads : Result X BodyFault → Type 0) (first second : Result X BodyFault → Result A MountFault) (a b : A)
    → MatchBool t (Decides reads first (Ok a)) (MatchBool u (Decides reads second (Ok a)) ⊥)
    → MatchBool t (Decides reads first (Ok b)) (MatchBool u (Decides reads second (Ok b)) ⊥) → a ≡ b
one_of_two true u reads first second a b x y = good_is a b (one_answer reads first (Ok a) (Ok b) x y)
one_of_two false u reads first second a b x y = one_good u reads second a b x y

one_agreed : (k : kept.Start) (head : Result Head HeadFault) (part : List ℕ) (a b : kept.Greeted) → NegotiateEnds k head part (Ok a) → NegotiateEnds k head part (Ok b) → a ≡ b
one_agreed k (Err fault) part a b x y = absurd x
one_agreed k (Ok head) part a b x y = one_good (head.status.0 == 0) _ _ a b x y

one_set_up : (k : kept.Greeted) (head : Result Head HeadFault) (part : List ℕ) (a b : SetUp) → SetUpEnds k head part (Ok a) → SetUpEnds k head part (Ok b) → a ≡ b
one_set_up k (Err fault) part a b x y = absurd x
one_set_up k (Ok head) part a b x y = one_of_two (head.status.0 == 0xC0000016) (head.status.0 == 0) _ _ _ a b x y

one_session : (k : kept.Challenge) (head : Result Head HeadFault) (part : List ℕ) (a b : kept.Session) → SessionEnds k head part (Ok a) → SessionEnds k head part (Ok b) → a ≡ b
one_session k (Err fault) part a b x y = absurd x
one_session k (Ok head) part a b x y = one_of_two (head.status.0 == 0) (head.status.0 == 0xC0000016) _ _ _ a b x y

one_tree : (k : kept.Session) (head : Result Head HeadFault) (part : List ℕ) (a b : Facts) → TreeEnds k head part (Ok a) → TreeEnds k head part (Ok b) → a ≡ b
one_tree k (Err fault) part a b x y = absurd x
one_tree k (Ok head) part a b x y = one_good (head.status.0 == 0) _ _ a b x y

-- the stage that the first session reply leads to
abbrev stage_of : SetUp → Stage
stage_of (Challenged k) = Challenging k
stage_of (Authenticated k) = InSession k

leads_one : (stage : Stage) (reply : List ℕ) (a b : Stage) → Leads stage reply a → Leads stage reply b → a ≡ b
leads_one (Unmounted k) reply (Agreed a) (Agreed b) x y = ap Agreed (one_agreed k (head_of reply) reply a b x y)
leads_one (Unmounted k) reply (Agreed a) other x y = absurd y
leads_one (Unmounted k) reply other b x y = absurd x
leads_one (Agreed k) reply (Challenging a) (Challenging b) x y = ap stage_of (one_set_up k (head_of reply) reply (Challenged a) (Challenged b) x y)
leads_one (Agreed k) reply (Challenging a) (InSession b) x y = ap stage_of (one_set_up k (head_of reply) reply (Challenged a) (Authenticated b) x y)
leads_one (Agreed k) reply (Challenging a) other x y = absurd y
leads_one (Agreed k) reply (InSession a) (Challenging b) x y = ap stage_of (one_set_up k (head_of reply) reply (Authenticated a) (Challenged b) x y)
leads_one (Agreed k) reply (InSession a) (InSession b) x y = ap stage_of (one_set_up k (head_of reply) reply (Authenticated a) (Authenticated b) x y)
leads_one (Agreed k) reply (InSession a) other x y = absurd y
leads_one (Agreed k) reply other b x y = absurd x
leads_one (Challenging k) reply (InSession a) (InSession b) x y = ap InSession (one_session k (head_of reply) reply a b x y)
leads_one (Challenging k) reply (InSession a) other x y = absurd y
leads_one (Challenging k) reply other b x y = absurd x
leads_one (InSession k) reply (Mounted a) (Mounted b) x y = ap Mounted (one_tree k (head_of reply) reply a b x y)
leads_one (InSession k) reply (Mounted a) other x y = absurd y
leads_one (InSession k) reply other b x y = absurd x
leads_one (Mounted facts) reply (Mounted a) (Mounted b) x y = ap Mounted (sym x ∙ y)
leads_one (Mounted facts) reply (Mounted a) other x y = absurd y
leads_one (Mounted facts) reply other b x y = absurd x

lead_to_one : (exchanges : List Exchange) (stage a b : Stage) → LeadTo stage exchanges a → LeadTo stage exchanges b → a ≡ b
lead_to_one [] stage a b x y = sym x ∙ y
lead_to_one (e ∷ exchanges) stage a b x y =
    lead_to_one exchanges x.0 a b x.2 (subst (λ (s : Stage). LeadTo s exchanges b) (sym (leads_one stage e.reply x.0 y.0 x.1 y.1)) y.2)

pub one_stage : (s : Setting) (c : Client) (a b : Stage) → HasCome s c a → HasCome s c b → a ≡ b
one_stage s c a b x y = lead_to_one c.tally.exchanges (at_first s) a b x y

pub one_share : (s : Setting) (c : Client) (a b : Facts) → HasCome s c (Mounted a) → HasCome s c (Mounted b) → a ≡ b
one_share s c a b x y = ap (the a) (one_stage s c (Mounted a) (Mounted b) x y)
  where
    the : Facts → Stage → Facts
    the d (Mounted facts) = facts
    the d other = d
