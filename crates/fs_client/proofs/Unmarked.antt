-- Frames without a mark: the mount begins with NEGOTIATE, the share is left with TREE_DISCONNECT once the end was said, and no ECHO is
-- sent yet, since no request costs more than one id.
use Rattle.std.proofs.Common.{arith, ◌≡◌, ◌+◌, ◌-◌, ◌==◌, ◌<◌, ◌≤◌, max, ℕ, Bool, true, false, if◌then◌else◌, List, [], ◌∷◌, refl, bit_and}
use Rattle.smb_le.specs.Numbers.{number_at, bytes_of}
use Rattle.smb_head.specs.declared.command.TheConstants.{TREE_DISCONNECT}
use Rattle.smb_head.specs.declared.request.Request.{Request}
use Rattle.smb_head.specs.Header.{head_of, head_at, header}
use Rattle.smb_head.specs.Stream.{first_of}
use Rattle.smb_head.specs.Stream as stream
use Rattle.smb_chain.specs.Chain.{chain}
use Rattle.smb_chain.specs.Parts.{step_of, parts_of}
use Rattle.smb_credit.specs.Window.{numbers, usable, after_use, up_to}
use Rattle.smb_field.specs.Body.{spelling}
use Rattle.smb_field.specs.Fields.{spelled}
use Rattle.smb_field.specs.Rows.{part_in}
use Rattle.smb_body_a.specs.Empty.{empty_of}
use Rattle.smb_body_a.specs.Negotiate.{negotiate_request_of}
use Rattle.smb_mount.specs.Requests.{negotiate, tree_disconnect}
use Rattle.smb_mux.specs.Sending.{placed}
use Rattle.smb_link.specs.declared.event.Event.TheVariants as event
use Rattle.smb_link.specs.declared.mark.Mark.TheVariants as mark
use Rattle.fs_plain.specs.Requests.{wire_request}
use Rattle.fs_client.specs.View.{Setting, Exchange, Client, no_client}
use Rattle.fs_client.specs.After.{after}
use Rattle.fs_client.specs.Mount.{Mounted, LeadTo, at_first}
use Rattle.fs_client.specs.May.{was_answered, IsEcho, Mounting, LeavingTree, May}
use Rattle.fs_client.proofs.Spellings.{facts}
use Rattle.fs_client.proofs.Stories.{s, mounted_by, short}

-- a request alone under the next id
abbrev alone : ℕ → ℕ → Request → List ℕ
alone next top request = stream.frame (chain (placed (up_to next top) (request ∷ [])))

one_within : 1 ≤ 1
one_within = omega arith

some : 0 < 1
some = omega arith

one_of_many : 1 ≤ 32
one_of_many = omega arith

the_mount_begins : May s (after s no_client event.Joined) (event.Sent (alone 0 1 (negotiate s.guid)))
unfolding wire_request head_of head_at number_at first_of step_of parts_of part_in header chain bytes_of spelling spelled numbers usable after_use up_to negotiate_request_of
the_mount_begins = Mounting (record {
  stage = at_first s;
  come = refl;
  request = negotiate s.guid;
  asks = refl;
  no_call = refl;
  quiet = refl;
  frame_is = record { connected = refl; spelled = refl; granted = one_within; room = short _ refl; some = some; next = (refl, refl, record {}) };
  aside = (refl, tt);
})

the_share_is_left : (exchanges : List Exchange) → LeadTo (at_first s) exchanges (Mounted facts) → was_answered TREE_DISCONNECT exchanges ≡ false
    → May s (after s (mounted_by exchanges) (event.Marked mark.End)) (event.Sent (alone 0 32 (tree_disconnect facts)))
unfolding wire_request head_of head_at number_at first_of step_of parts_of part_in header chain bytes_of spelling spelled numbers usable after_use up_to empty_of
the_share_is_left exchanges mounted once = LeavingTree (record {
  facts = facts;
  leaving = record { mounted = mounted; over = refl; no_call = refl; no_open = refl; quiet = refl };
  once = once;
  frame_is = record { connected = refl; spelled = refl; granted = one_of_many; room = short _ refl; some = some; next = (refl, refl, record {}) };
  aside = (refl, tt);
})

no_echo_yet : (setting : Setting) (c : Client) (frame : List ℕ) → IsEcho setting c frame → ⊥
no_echo_yet setting c frame e = by (bit_and e.facts.caps.0 4 == 4) e.short e.frame_is.granted
  where
    by : (b : Bool) → c.tally.granted - c.view.next < max 1 (if b then 1 else 0) → c.view.next + (max 1 (if b then 1 else 0) + 0) ≤ c.tally.granted → ⊥
    by true short granted = omega (arith, short, granted)
    by false short granted = omega (arith, short, granted)
