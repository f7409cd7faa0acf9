-- The spelling of a chain is the frame that was written by hand from the tables.
use Rattle.std.proofs.Common.{◌≡◌, ℕ, true, false, [], ◌∷◌, refl, None, List, Bool, replicate}
use Rattle.std.specs.Prelude.{codes, map}
use Rattle.smb_le.specs.Numbers.{bytes_of}
use Rattle.smb_head.specs.Header.{header}
use Rattle.smb_head.specs.Stream as stream
use Rattle.smb_chain.specs.Chain.{chain}
use Rattle.smb_credit.specs.Window.{numbers, usable, after_use, up_to}
use Rattle.smb_field.specs.Body.{spelling}
use Rattle.smb_field.specs.Fields.{spelled}
use Rattle.smb_field.specs.TwoParts.{spelling_of_two}
use Rattle.smb_mount.specs.declared.facts.Facts.{Facts}
use Rattle.smb_mount.specs.Requests.{unit_bytes}
use Rattle.smb_mux.specs.Sending.{placed}
use Rattle.smb_link.specs.Program.{Own, Wish, Open as Opening, Query, Close}
use Rattle.fs_client.specs.Item.{file_id}
use Rattle.fs_client.specs.Spelled.{request_for}
use Rattle.fs_plain.proofs.Frames.{chain_frame, missing_chain_frame}

-- a mounted share of a server that charges by payload (LARGE_MTU), in session 1 and tree 1
abbrev pub facts : Facts
facts = record {
  session = 1;
  tree = 1;
  caps = record { 0 = 4 };
  max_transact = 65536;
  max_read = 65536;
  max_write = 65536;
  guid = replicate 16 0;
}

-- the three requests of a stat, the two later ones related to the first
abbrev pub stat_wishes : List ℕ → List (Bool × Wish)
stat_wishes path = (false, Opening path 0x100080 1 0) ∷ (true, Query (Own 0)) ∷ (true, Close (Own 0)) ∷ []

abbrev pub spelled_chain : ℕ → List ℕ → List ℕ
spelled_chain first path = stream.frame (chain (placed (up_to first 32) (map (request_for facts (file_id None [])) (stat_wishes path))))

of_the_root : spelled_chain 0 [] ≡ chain_frame
unfolding header chain bytes_of spelling spelled spelling_of_two unit_bytes numbers usable after_use up_to
of_the_root = refl

of_a_file : spelled_chain 0 (codes "b") ≡ missing_chain_frame
unfolding header chain bytes_of spelling spelled spelling_of_two unit_bytes numbers usable after_use up_to
of_a_file = refl
