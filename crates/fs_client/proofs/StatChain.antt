-- The three requests of a stat in one frame: what its program asks, whatever the replies are.
use Rattle.std.proofs.Common.{◌≡◌, refl, ap, ℕ, ◌==◌, Bool, true, false, if◌then◌else◌, List, [], ◌∷◌, ◌++◌, None}
use Rattle.smb_base.specs.declared.names.Fid.{Fid}
use Rattle.fs_types.specs.declared.options.Options.{Options}
use Rattle.share_state.specs.declared.request.Rep.{Rep}
use Rattle.share_state.specs.declared.request.RepBody.{RepBody}
use Rattle.share_state.specs.declared.request.RepBody.TheVariants as body
use Rattle.share_state.specs.declared.request.Req.TheVariants as req
use Rattle.share_state.specs.PlainShare.{shown}
use Rattle.share_state.specs.Reply.{map_fid}
use Rattle.smb_link.specs.Program.{Own, Open as Opening, Query, Close, Program, Known, Ask, Say, settled, of_refusal}
use Rattle.smb_link.specs.Stat.{stat_answer, stat_once_open}
use Rattle.fs_client.specs.Item.{Item, Placed}
use Rattle.fs_client.specs.Flies.{files_of}
use Rattle.fs_client.proofs.Chains.{Wants, IfOpened, WantsThree}

-- a stat that has made no request yet wants a CREATE of its path, and of the open that this gives a QUERY_INFO and a CLOSE
pub stat_wants_three : (i : Item) (placed : List Placed) (options : Options) (known : Known) (p : Program) (path : List ℕ) (own other : Fid)
    → settled known p ≡ Ask (Opening path 0x100080 1 0) (stat_once_open options)
    → WantsThree (files_of i placed) known p [] (req.Create path 0x100080 7 1 0 0x80 None false) (req.Query own) (req.Close other)
stat_wants_three i placed options known p path own other is = record {
  wish = Opening path 0x100080 1 0;
  rest = stat_once_open options;
  settles = is;
  wished = refl;
  going = λ reply good. by reply good reply.body;
}
  where
    on : (reply : Rep) → (reply.status.0 == 0) ≡ true
        → settled known (stat_once_open options (shown reply)) ≡ Ask (Query (Own 0)) (λ info. Ask (Close (Own 0)) (λ closed. Say (stat_answer options info)))
    on reply good = ap (λ (b : Bool). settled known (if b then Ask (Query (Own 0)) (λ info. Ask (Close (Own 0)) (λ closed. Say (stat_answer options info))) else Say (of_refusal reply.status))) good

    by : (reply : Rep) → (reply.status.0 == 0) ≡ true → (b : RepBody) → IfOpened b (λ fid.
        Wants (files_of i placed) known (stat_once_open options (shown reply)) ([] ++ fid ∷ []) (map_fid (λ any. fid) (req.Query own)) (λ more.
        Wants (files_of i placed) known more ([] ++ fid ∷ []) (map_fid (λ any. fid) (req.Close other)) (λ end. Unit {0})))
    by reply good (body.Opened fid action size attributes lease durable) = record {
      wish = Query (Own 0);
      rest = λ info. Ask (Close (Own 0)) (λ closed. Say (stat_answer options info));
      settles = on reply good;
      wished = refl;
      going = λ info. record {
        wish = Close (Own 0);
        rest = λ closed. Say (stat_answer options (shown info));
        settles = refl;
        wished = refl;
        going = λ closed. record {};
      };
    }
    by reply good other = record {}
