-- Query: what is known of an open's file (MS-FSCC 2.4.2).
use Rattle.std.specs.Prelude.{ℕ, ◌==◌, ◌^◌, ◌-◌, min, if◌then◌else◌, List, Option, Some, None, count_by}
use Rattle.smb_base.specs.declared.names.Fid.{Fid}
use Rattle.share_state.specs.declared.entry.Entry.{Entry}
use Rattle.share_state.specs.declared.opens.Open.{Open}
use Rattle.share_state.specs.declared.request.Who.{Who}
use Rattle.share_state.specs.declared.request.Rep.{Rep}
use Rattle.share_state.specs.declared.request.RepBody.TheVariants as body
use Rattle.share_state.specs.declared.share.Share.{Share}
use Rattle.share_state.specs.State.{is_directory, is_read_only, size_of, is_pending}
use Rattle.share_state.specs.Close.{open_of}
use Rattle.share_state.specs.Reply.{refused}

-- the links of a node: its entries, those among them that are to go; 1 for the root
abbrev pub links_of : List Entry → ℕ → ℕ
links_of entries node = if node == 1 then 1 else min (count_by (λ e. e.node == node) entries) (2 ^ 32 - 1)

-- what is known of the file of an open
abbrev pub info_reply : Share → ℕ → ℕ → Rep
info_reply s node entry = record {
  status = record { 0 = 0 };
  body = body.Info (is_directory s.nodes node) (size_of s.nodes node) (is_read_only s.nodes node) (links_of s.entries node)
      (is_pending s.entries entry) node;
}

-- a Query of what a file id names; FILE_CLOSED where it names nothing
abbrev pub query_open : Option Open → Share → Rep × Share
query_open None s = refused 0xC0000128 s
query_open (Some o) s = (info_reply s o.node o.entry, s)

abbrev pub query_of : Share → Who → Fid → Rep × Share
query_of s who fid = query_open (open_of s.opens who fid) s
