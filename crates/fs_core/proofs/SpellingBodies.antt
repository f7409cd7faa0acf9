-- A request of a call as it stands in a frame asks for what its fields say, related or not, and its reply leaves nothing out.
use Rattle.std.proofs.Common.{rules, arith, ◌≡◌, ◌∙◌, refl, ap, ℕ, ◌+◌, ◌%◌, ◌^◌, ◌<◌, ◌≤◌, ◌==◌, ◌||◌, Bool, true, false, if◌then◌else◌, nat_le, List, [], ◌++◌, length, replicate, Some, None, Result, Ok}
use Rattle.std.proofs.lemmas.Bool.Decides.{nat_tests}
use Rattle.smb_base.specs.declared.names.Fid.{Fid}
use Rattle.smb_le.specs.Numbers.{number_at}
use Rattle.smb_head.specs.declared.command.TheConstants.{CREATE, CLOSE, QUERY_INFO}
use Rattle.smb_head.specs.declared.request.Request.{Request}
use Rattle.smb_head.specs.Header.{header}
use Rattle.smb_head.proofs.HeadLaws.{length-header}
use Rattle.smb_chain.specs.Chain.{linked}
use Rattle.smb_field.specs.declared.field.BodyFault.{BodyFault}
use Rattle.smb_field.specs.Body.{IsBody}
use Rattle.smb_field.specs.Fields.{AllFit}
use Rattle.smb_field.specs.TwoParts.{IsBodyOfTwo, IsTwoReadAgain, tail_of_two}
use Rattle.smb_field.specs.Rows.{byte, number, skip, file_id, value, right, part_in, if_read}
use Rattle.smb_field.proofs.Parts.{part_read, body_read}
use Rattle.smb_field.proofs.Reading.{read_again, length-spelling}
use Rattle.smb_field.proofs.ReadingTwo.{two_read_again, length-spelling_of_two}
use Rattle.smb_body_b.specs.declared.close.CloseRequest.{CloseRequest}
use Rattle.smb_body_b.specs.declared.contexts.ContextSet.{ContextSet}
use Rattle.smb_body_b.specs.Close.{close_request_of}
use Rattle.smb_body_b.specs.Contexts.{contexts_of, set_of, read_of}
use Rattle.smb_body_b.specs.Create.{CreateRequestValue, create_request_of}
use Rattle.smb_body_c.specs.declared.info.QueryInfoRequest.{QueryInfoRequest}
use Rattle.smb_body_c.specs.Info.{query_info_request_of}
use Rattle.smb_mount.specs.declared.facts.Facts.{Facts}
use Rattle.smb_mount.specs.Requests.{unit_bytes}
use Rattle.smb_mux.specs.Sending.{head_for}
use Rattle.smb_link.specs.Program.{File, Open as Opening, Query, Close}
use Rattle.share_state.specs.declared.request.Req.{Req}
use Rattle.share_state.specs.declared.request.Req.TheVariants as req
use Rattle.share_state.specs.State.{has}
use Rattle.fs_plain.specs.Wire.{units_in}
use Rattle.fs_plain.specs.Masked.{Untold, untold_of_class, untold_of_contexts, untold}
use Rattle.fs_plain.specs.Replies.{command_of}
use Rattle.fs_plain.specs.Requests.{WireRequest, create_with, create_asked, close_asked, query_asked, wire_request}
use Rattle.fs_plain.specs.Wishes.{wished_attributes}
use Rattle.fs_client.specs.Spelled.{create_fields, close_fields, query_fields, fid_sent, request_for}
use Rattle.fs_core.specs.Written.{IsPath, IsWide}
use Rattle.fs_core.proofs.SpellingHeads.{behind_header, command_there, asked_there, untold_there, body_there, Everywhere}
use Rattle.fs_core.proofs.SpellingUnits.{length-units, units_back}

-- a message asks the share for this, related to the request before it or not, and its reply leaves nothing out
pub record AsksShare (command : ℕ) (related : Bool) (wanted : Req) (m : List ℕ) : Type 0 where
  pub asks : wire_request m ≡ Some (WireRequest.Share related wanted)
  pub whole : untold m ≡ Untold.Nothing
  pub command_is : command_of m ≡ command

close_read : (fid : Fid) (m : List ℕ) → IsBody 24 (close_fields fid) [] m → close_request_of m ≡ Ok (record { file_id = fid })
unfolding close_request_of
close_read fid m is =
    body_read 24 (skip 2 (skip 4 (file_id (λ f. value (record { file_id = f }))))) m is.0 is.1
    ∙ rw (is.2.1.1.0, is.2.1.1.1.0) refl

query_read : (fid : Fid) (m : List ℕ) → IsBody 41 (query_fields fid) [] m
    → query_info_request_of m ≡ Ok (record { info_type = 1; class = 18; output_length = 1024; file_id = fid })
unfolding query_info_request_of
query_read fid m is =
    body_read 41 (byte (λ kind. byte (λ class. number 4 (λ most. skip 2 (skip 2 (skip 4 (skip 4 (skip 4 (file_id (λ f.
    right (kind == 1 || kind == 2) (value (record { info_type = kind; class = class; output_length = most; file_id = f })))))))))))) m is.0 is.1
    ∙ rw (is.2.0, is.2.1.0, is.2.1.1.0, is.2.1.1.1.1.1.1.1.1.0, is.2.1.1.1.1.1.1.1.1.1.0) refl

-- no contexts
abbrev no_context : ContextSet
no_context = record { lease = None; durable = false; reclaim = None }

no_contexts : read_of false [] ≡ Ok no_context
unfolding read_of contexts_of set_of
no_contexts = refl

-- the CREATE that stands in a message
abbrev written : ℕ → ℕ → ℕ → List ℕ → CreateRequestValue
written access disposition options name = record {
  oplock_level = 0;
  access = access;
  attributes = wished_attributes options;
  share = 7;
  disposition = disposition;
  options = options;
  name = name;
  contexts = [];
}

create_read : (name m : List ℕ) (access disposition options : ℕ)
    → IsBodyOfTwo 57 (create_fields access disposition options name) name [] m → disposition ≤ 5 → length name % 2 ≡ 0
    → create_request_of m ≡ Ok (written access disposition options name)
unfolding create_request_of
create_read name m access disposition options is high even =
    let fields = is.2.1.1.1.1.1 in
    let parts = fields.1.1.1.1.1 in
    let low : nat_le disposition 5 ≡ true = grind (arith, nat_tests) in
    let whole : (length name % 2 == 0) ≡ true = rw even refl in
    let name_there : part_in 120 (number_at 2 108 m) (number_at 2 110 m) m ≡ Some name =
    part_read 120 name m (number_at 2 108 m) (number_at 2 110 m) parts.0 parts.1.0 in
    let none_there : part_in 120 (number_at 4 112 m) (number_at 4 116 m) m ≡ Some [] =
    part_read 120 [] m (number_at 4 112 m) (number_at 4 116 m) parts.1.1.0 parts.1.1.1.0 in
    grind (arith, is.0, is.1, name_there, none_there, low, whole, parts.1.0, fields.0, fields.1.0, fields.1.1.0, fields.1.1.1.0, fields.1.1.1.1.0)

-- what the bodies that were read ask for
close_asks : (related : Bool) (fid : Fid) (m : List ℕ) → close_request_of m ≡ Ok (record { file_id = fid })
    → if_read (close_request_of m) (close_asked related) None ≡ Some (WireRequest.Share related (req.Close fid))
close_asks related fid m read = ap (λ (r : Result CloseRequest BodyFault). if_read r (close_asked related) None) read

query_asks : (related : Bool) (fid : Fid) (m : List ℕ)
    → query_info_request_of m ≡ Ok (record { info_type = 1; class = 18; output_length = 1024; file_id = fid })
    → (if_read (query_info_request_of m) (query_asked related) None ≡ Some (WireRequest.Share related (req.Query fid)))
    × (if_read (query_info_request_of m) (λ (x : QueryInfoRequest). untold_of_class x.class) Untold.Nothing ≡ Untold.Nothing)
query_asks related fid m read = (
  ap (λ (r : Result QueryInfoRequest BodyFault). if_read r (query_asked related) None) read,
  ap (λ (r : Result QueryInfoRequest BodyFault). if_read r (λ (x : QueryInfoRequest). untold_of_class x.class) Untold.Nothing) read,
)

create_asks : (related : Bool) (path name m : List ℕ) (access disposition options : ℕ) → units_in name ≡ path
    → create_request_of m ≡ Ok (written access disposition options name)
    → (if_read (create_request_of m) (create_asked related) None
    ≡ Some (WireRequest.Share related (req.Create path access 7 disposition options (wished_attributes options) None false)))
    × (if_read (create_request_of m) (λ (x : CreateRequestValue). untold_of_contexts (read_of false x.contexts)) Untold.Nothing ≡ Untold.Nothing)
create_asks related path name m access disposition options units read = (
  ap (λ (r : Result CreateRequestValue BodyFault). if_read r (create_asked related) None) read
      ∙ ap (λ (r : Result ContextSet BodyFault). create_with related (written access disposition options name) r) no_contexts
      ∙ ap (λ (p : List ℕ). Some (WireRequest.Share related (req.Create p access 7 disposition options (wished_attributes options) None false))) units,
  ap (λ (r : Result CreateRequestValue BodyFault). if_read r (λ (x : CreateRequestValue). untold_of_contexts (read_of false x.contexts)) Untold.Nothing) read
      ∙ ap untold_of_contexts no_contexts,
)

-- a CREATE of a path, wherever it stands
small_attributes : (options : ℕ) → wished_attributes options < 2 ^ 32
small_attributes options = by (has options 1)
  where
    by : (t : Bool) → (if t then 0 else 0x80) < 2 ^ 32
    by true = omega arith
    by false = omega arith

create_fits : (path : List ℕ) (access disposition options : ℕ) → IsPath path → access < 2 ^ 32 → disposition ≤ 5 → options < 2 ^ 32
    → AllFit (create_fields access disposition options (unit_bytes path))
create_fits path access disposition options p access_fits high options_fit =
    let long : length (unit_bytes path) < 2 ^ 16 = omega (arith, length-units path, p.short) in
    let attributes : wished_attributes options < 2 ^ 32 = small_attributes options in
    let low : disposition < 2 ^ 32 = omega (arith, high) in
    search (rules, arith)

create_again : (path : List ℕ) (access disposition options : ℕ) → IsPath path → access < 2 ^ 32 → disposition ≤ 5 → options < 2 ^ 32
    → IsTwoReadAgain 57 (create_fields access disposition options (unit_bytes path)) (unit_bytes path) []
create_again path access disposition options p access_fits high options_fit =
    let long : length (unit_bytes path) < 2 ^ 16 = omega (arith, length-units path, p.short) in
    two_read_again 57 (create_fields access disposition options (unit_bytes path)) (unit_bytes path) [] (omega arith) refl long
    (create_fits path access disposition options p access_fits high options_fit)

-- it is short
few_behind : (name : List ℕ) → length (tail_of_two 57 name []) ≤ 1 + length name
few_behind name = by (length name == 0)
  where
    by : (t : Bool) → length (if t then replicate (57 % 2) 0 else name) ≤ 1 + length name
    by true = omega arith
    by false = omega arith

pub create_short : (facts : Facts) (files : File → Fid) (related : Bool) (path : List ℕ) (access disposition options : ℕ) → IsPath path → access < 2 ^ 32
    → disposition ≤ 5 → options < 2 ^ 32
    → length (request_for facts files (related, Opening path access disposition options)).body ≤ 65600
create_short facts files related path access disposition options p access_fits high options_fit =
    omega (
      arith,
      length-spelling_of_two 57 (create_fields access disposition options (unit_bytes path)) (unit_bytes path) [] refl
          (create_fits path access disposition options p access_fits high options_fit),
      few_behind (unit_bytes path),
      length-units path,
      p.short,
    )

pub create_speaks : (facts : Facts) (files : File → Fid) (related : Bool) (path : List ℕ) (access disposition options : ℕ) → IsPath path → access < 2 ^ 32
    → disposition ≤ 5 → options < 2 ^ 32
    → Everywhere (AsksShare CREATE related (req.Create path access 7 disposition options (wished_attributes options) None false))
    (request_for facts files (related, Opening path access disposition options))
unfolding IsTwoReadAgain
create_speaks facts files related path access disposition options p access_fits high options_fit mid place rest =
    let r : Request = request_for facts files (related, Opening path access disposition options) in
    let name : List ℕ = unit_bytes path in
    let m : List ℕ = behind_header mid r place (r.body ++ rest) in
    let even : length name % 2 ≡ 0 = omega (arith, length-units path) in
    let read : create_request_of m ≡ Ok (written access disposition options name) =
    create_read name m access disposition options
    (create_again path access disposition options p access_fits high options_fit (header (linked (head_for mid r) place)) rest
    (length-header (linked (head_for mid r) place))) high even in
    let asked = create_asks related path name m access disposition options (units_back path p.units) read in
    record {
      asks = asked_there mid r place (r.body ++ rest) (omega arith) ∙ asked.0;
      whole = untold_there mid r place (r.body ++ rest) (omega arith) ∙ asked.1;
      command_is = command_there mid r place (r.body ++ rest) (omega arith);
    }

-- a QUERY_INFO of an open, and a CLOSE
query_fits : (fid : Fid) → IsWide fid → AllFit (query_fields fid)
query_fits fid wide = search (rules, arith)

close_fits : (fid : Fid) → IsWide fid → AllFit (close_fields fid)
close_fits fid wide = search (rules, arith)

pub query_short : (facts : Facts) (files : File → Fid) (related : Bool) (file : File) → IsWide (fid_sent related files file)
    → length (request_for facts files (related, Query file)).body ≤ 65600
query_short facts files related file wide =
    omega (arith, length-spelling 41 (query_fields (fid_sent related files file)) [] refl (query_fits (fid_sent related files file) wide))

pub close_short : (facts : Facts) (files : File → Fid) (related : Bool) (file : File) → IsWide (fid_sent related files file)
    → length (request_for facts files (related, Close file)).body ≤ 65600
close_short facts files related file wide =
    omega (arith, length-spelling 24 (close_fields (fid_sent related files file)) [] refl (close_fits (fid_sent related files file) wide))

pub query_speaks : (facts : Facts) (files : File → Fid) (related : Bool) (file : File) → IsWide (fid_sent related files file)
    → Everywhere (AsksShare QUERY_INFO related (req.Query (fid_sent related files file))) (request_for facts files (related, Query file))
query_speaks facts files related file wide mid place rest =
    let r : Request = request_for facts files (related, Query file) in
    let fid : Fid = fid_sent related files file in
    let m : List ℕ = behind_header mid r place (r.body ++ rest) in
    let again = read_again 41 (query_fields fid) [] (omega arith) refl (query_fits fid wide) in
    let asked = query_asks related fid m (query_read fid m (body_there mid r place rest 41 (query_fields fid) [] again)) in
    record {
      asks = asked_there mid r place (r.body ++ rest) (omega arith) ∙ asked.0;
      whole = untold_there mid r place (r.body ++ rest) (omega arith) ∙ asked.1;
      command_is = command_there mid r place (r.body ++ rest) (omega arith);
    }

pub close_speaks : (facts : Facts) (files : File → Fid) (related : Bool) (file : File) → IsWide (fid_sent related files file)
    → Everywhere (AsksShare CLOSE related (req.Close (fid_sent related files file))) (request_for facts files (related, Close file))
close_speaks facts files related file wide mid place rest =
    let r : Request = request_for facts files (related, Close file) in
    let fid : Fid = fid_sent related files file in
    let m : List ℕ = behind_header mid r place (r.body ++ rest) in
    let again = read_again 24 (close_fields fid) [] (omega arith) refl (close_fits fid wide) in
    record {
      asks = asked_there mid r place (r.body ++ rest) (omega arith)
          ∙ close_asks related fid m (close_read fid m (body_there mid r place rest 24 (close_fields fid) [] again));
      whole = untold_there mid r place (r.body ++ rest) (omega arith);
      command_is = command_there mid r place (r.body ++ rest) (omega arith);
    }
