-- Replies that land leave the last line, the end and the connection as they were.
use Rattle.std.proofs.Common.{◌≡◌, ◌∙◌, refl, sym, ap, subst, ℕ, zero, suc, Bool, true, false, if◌then◌else◌, List, [], ◌∷◌, ◌++◌, length, Option, Some, None}
use Rattle.smb_mux.specs.declared.taken.Reply.{Reply}
use Rattle.smb_mux.specs.declared.taken.Taken.{Taken}
use Rattle.share_state.specs.declared.request.Rep.{Rep}
use Rattle.fs_types.specs.declared.options.Options.{Options}
use Rattle.fs_client.specs.View.{Client}
use Rattle.fs_client.specs.Sane.{Sane}
use Rattle.fs_core.specs.declared.flight.Flight.{Flight}
use Rattle.fs_core.specs.declared.flight.Kind.{Kind}
use Rattle.fs_core.specs.declared.flight.Kind.TheVariants as kind
use Rattle.fs_core.specs.declared.input.Input.TheVariants as input
use Rattle.fs_core.specs.declared.phase.Phase.{Phase}
use Rattle.fs_core.specs.declared.phase.Phase.TheVariants as phase
use Rattle.fs_core.specs.Kept.{Kept, CoreValue}
use Rattle.fs_core.specs.Parts.{is_first}
use Rattle.fs_core.specs.Fits.{Fits}
use Rattle.fs_core.specs.Event.{is_connected, is_left, Holds, Brought, Comes}
use Rattle.fs_core.specs.Steps.{next_turn, gone, turned_with, turned, landed, aside_gone, LeadsTo, LandsSaid, LandsAs, LandsFor, waiting_with, LandAll, with_frame}

pub record Remains (k k' : Kept) : Type 0 where
  pub holds : Holds k k'
  pub left : is_left k'.phase ≡ is_left k.phase

remains_itself : (k : Kept) → Remains k k
remains_itself k = record { holds = record { last = refl; now = refl; ended = refl; connected = refl }; left = refl }

remains_then : (k k' k'' : Kept) → Remains k k' → Remains k' k'' → Remains k k''
remains_then k k' k'' one two = record {
  holds = record {
    last = two.holds.last ∙ one.holds.last;
    now = two.holds.now ∙ one.holds.now;
    ended = two.holds.ended ∙ one.holds.ended;
    connected = two.holds.connected ∙ one.holds.connected;
  };
  left = two.left ∙ one.left;
}

remains_gone : (options : Options) (f : Flight) (reply : Rep) (k : Kept) → Remains k (gone options f reply k)
remains_gone options f reply k = record { holds = record { last = refl; now = refl; ended = refl; connected = refl }; left = refl }

remains_turned : (options : Options) (n : ℕ) (k : Kept) → Remains k (turned options n k)
remains_turned options zero k = remains_itself k
remains_turned options (suc n) k = by (next_turn k.flights k.early) (λ j. remains_turned options n j)
  where
    by : (o : Option (Flight × Rep)) → ((j : Kept) → Remains j (turned options n j)) → Remains k (turned_with options o (turned options n) k)
    by None deeper = remains_itself k
    by (Some next) deeper =
        remains_then k (gone options next.0 next.1 k) (turned options n (gone options next.0 next.1 k)) (remains_gone options next.0 next.1 k)
        (deeper (gone options next.0 next.1 k))

remains_landed : (options : Options) (f : Flight) (reply : Rep) (k : Kept) → Remains k (landed options f reply k)
remains_landed options f reply k = by (is_first k.flights f)
  where
    by : (t : Bool) → Remains k (if t then turned options (length k.early) (gone options f reply k) else record k { early = k.early ++ (f.mid, reply) ∷ [] })
    by true =
        remains_then k (gone options f reply k) (turned options (length k.early) (gone options f reply k)) (remains_gone options f reply k)
        (remains_turned options (length k.early) (gone options f reply k))
    by false = record { holds = record { last = refl; now = refl; ended = refl; connected = refl }; left = refl }

-- a mount goes on, on its connection
record IsBeside (p q : Phase) : Type 0 where
  left : is_left q ≡ is_left p
  connected : is_connected q ≡ is_connected p

beside_same : (p q : Phase) → q ≡ p → IsBeside p q
beside_same p q is = record { left = ap is_left is; connected = ap is_connected is }

leads_beside : (p q : Phase) (part : List ℕ) → LeadsTo p part q → IsBeside p q
leads_beside (phase.Greeting k) (phase.SettingUp next) part leads = record { left = refl; connected = refl }
leads_beside (phase.Greeting k) other part leads = absurd leads
leads_beside (phase.SettingUp k) (phase.Answering next) part leads = record { left = refl; connected = refl }
leads_beside (phase.SettingUp k) (phase.Joining next) part leads = record { left = refl; connected = refl }
leads_beside (phase.SettingUp k) other part leads = absurd leads
leads_beside (phase.Answering k) (phase.Joining next) part leads = record { left = refl; connected = refl }
leads_beside (phase.Answering k) other part leads = absurd leads
leads_beside (phase.Joining k) (phase.On facts) part leads = record { left = refl; connected = refl }
leads_beside (phase.Joining k) other part leads = absurd leads
leads_beside other q part leads = beside_same other q leads

remains_led : (f : Flight) (p : Phase) (k : Kept) → IsBeside k.phase p → Remains k (aside_gone f p k)
remains_led f p k beside = record { holds = record { last = refl; now = refl; ended = refl; connected = beside.connected }; left = beside.left }

remains_said : (options : Options) (command : ℕ) (f : Flight) (part : List ℕ) (k k' : Kept) → LandsSaid options command f part k k' → Remains k k'
remains_said options command f part k k' lands = subst (Remains k) (sym lands.2) (remains_landed options f lands.0 k)

remains_as : (options : Options) (a : Kind) (f : Flight) (part : List ℕ) (k k' : Kept) → LandsAs options a f part k k' → Remains k k'
remains_as options kind.Open f part k k' lands = remains_said options _ f part k k' lands
remains_as options kind.Query f part k k' lands = remains_said options _ f part k k' lands
remains_as options kind.Close f part k k' lands = remains_said options _ f part k k' lands
remains_as options kind.Aside f part k k' lands =
    subst (Remains k) (sym lands.1) (remains_led f k'.phase k (leads_beside k.phase k'.phase part lands.0))

remains_for : (options : Options) (o : Option Flight) (part : List ℕ) (k k' : Kept) → LandsFor options o part k k' → Remains k k'
remains_for options None part k k' lands = subst (Remains k) (sym lands) (remains_itself k)
remains_for options (Some f) part k k' lands = remains_as options f.kind f part k k' lands

pub land_remains : (options : Options) (replies : List Reply) (k k' : Kept) → LandAll options replies k k' → Remains k k'
land_remains options [] k k' lands = subst (Remains k) (sym lands) (remains_itself k)
land_remains options (r ∷ replies) k k' lands =
    remains_then k lands.0 k' (remains_for options (waiting_with r.mid k) r.part k lands.0 lands.1) (land_remains options replies lands.0 k' lands.2)

-- a frame was taken, and its replies have landed
pub comes_landed : (frame : List ℕ) (taken : Taken) (old new : CoreValue) → new.setting ≡ old.setting → new.outs ≡ old.outs
    → LandAll old.setting.options taken.replies (with_frame frame taken old.kept) new.kept
    → ((c c' : Client) → Sane c.view → Fits old.setting old.kept c → Brought old.setting (input.Frame frame) c c' → Fits old.setting new.kept c')
    → Comes (input.Frame frame) old new
comes_landed frame taken old new setting outs lands fits =
    let r = land_remains old.setting.options taken.replies (with_frame frame taken old.kept) new.kept lands in
    record {
      setting = setting;
      outs = outs;
      left = r.left;
      stays = record { last = r.holds.last; now = r.holds.now; ended = r.holds.ended; connected = r.holds.connected };
      fits = fits;
    }
