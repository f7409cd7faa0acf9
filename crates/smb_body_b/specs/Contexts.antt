-- Create contexts (MS-SMB2 2.2.13.2 and 2.2.14.2): a chain of entries, each with a name and data, and what this client knows of them:
-- leases (2.2.13.2.8 and 2.2.14.2.10), durable handles (2.2.13.2.3 and 2.2.14.2.3) and reclaims (2.2.13.2.4).
use Rattle.std.specs.Prelude.{◌≡◌, ℕ, zero, suc, ◌+◌, ◌^◌, ◌<◌, ◌==◌, nat_lt, Bool, true, false, ◌&&◌, ◌||◌, if◌then◌else◌, List, [], ◌∷◌, ◌++◌, length, take, drop, replicate, slice_range, Option, Some, None, option_map, is_some, find, Result, Ok, Err, codes, bytes_eq, ⊤}
use Rattle.std.specs.List.{list_any}
use Rattle.std.specs.Option.{option_or}
use Rattle.smb_le.specs.Numbers.{number_at, bytes_of}
use Rattle.smb_base.specs.declared.names.Key.{Key}
use Rattle.smb_base.specs.declared.names.Fid.{Fid}
use Rattle.smb_field.specs.declared.field.Field.{Field}
use Rattle.smb_field.specs.declared.field.Field.TheVariants.{U16, U32, Name, Any16, Any32, Follows}
use Rattle.smb_field.specs.declared.field.BodyFault.{BodyFault}
use Rattle.smb_field.specs.declared.field.BodyFault.TheVariants.{Short, Offset}
use Rattle.smb_field.specs.Structure.{spelling_in}
use Rattle.smb_body_b.specs.declared.contexts.ContextSet.{ContextSet}
use Rattle.smb_body_b.specs.declared.create.CreateRequest.{CreateRequest}
use Rattle.smb_body_b.specs.declared.create.CreateReply.{CreateReply}
use Rattle.smb_body_b.specs.Create.{IsCreateRequest, IsCreateReply}

-- a context: its name, and the data that it has
pub record Context : Type 0 where
  pub name : List ℕ
  pub content : List ℕ

abbrev pub entry : List ℕ → List ℕ → Context
entry name content = record { name = name; content = content }

-- `size` bytes at a place of a list; none where they leave it. The place of no byte is not looked at.
abbrev pub piece : List ℕ → ℕ → ℕ → Option (List ℕ)
piece list place size =
    if size == 0 then Some [] else if nat_lt (length list) (place + size) then None else Some (slice_range list place (place + size))

-- a name and data, where both are there
abbrev pub both : Option (List ℕ) → Option (List ℕ) → Option Context
both (Some name) (Some content) = Some (entry name content)
both (Some name) None = None
both None content = None

-- the context at the start of a list: none where its 16 bytes, its name or its data leave the list
unfoldable pub context_of : List ℕ → Option Context
context_of list =
    if nat_lt (length list) 16 then None
    else both (piece list (number_at 2 4 list) (number_at 2 6 list)) (piece list (number_at 2 10 list) (number_at 4 12 list))

-- a context in front of those that follow it. The number of the next one's place is 0 at the last, and else at least 16.
abbrev pub chained : ℕ → Option Context → Option (List Context) → Option (List Context)
chained next None others = None
chained next (Some context) others =
    if next == 0 then Some (context ∷ []) else if nat_lt next 16 then None else option_map (λ cs. context ∷ cs) others

-- the chain of at most so many contexts at the start of a list; none where one leaves the list
unfoldable pub chain_of : ℕ → List ℕ → Option (List Context)
chain_of zero list = None
chain_of (suc most) list = chained (number_at 4 0 list) (context_of list) (chain_of most (drop (number_at 4 0 list) list))

-- the contexts of a list, which may be empty. Each takes 16 bytes, so there are no more than the list has bytes.
unfoldable pub contexts_of : List ℕ → Option (List Context)
contexts_of list = if length list == 0 then Some [] else chain_of (length list) list

-- whether a context has this name
abbrev pub is_named : List ℕ → Context → Bool
is_named name context = bytes_eq context.name name

-- whether a context of this name has less than so many bytes of data
abbrev pub lacks : List ℕ → ℕ → Context → Bool
lacks name needed context = is_named name context && nat_lt (length context.content) needed

-- whether a context has less data than it needs: a lease 32 bytes, a durable handle 16 in a request and 8 in a reply, a reclaim 16
unfoldable pub is_short : Bool → Context → Bool
is_short reply context =
    lacks (codes "RqLs") 32 context || lacks (codes "DHnQ") (if reply then 8 else 16) context || lacks (codes "DHnC") 16 context

-- the key and the state of a lease
unfoldable pub lease_of : Context → Key × ℕ
lease_of context = (record { 0 = take 16 context.content }, number_at 4 16 context.content)

-- the open of a reclaim
unfoldable pub fid_of : Context → Fid
fid_of context = record { persistent = number_at 8 0 context.content; volatile = number_at 8 8 context.content }

-- what contexts say: the first of each name counts
unfoldable pub set_of : List Context → ContextSet
set_of contexts =
    record {
      lease = option_map lease_of (find (is_named (codes "RqLs")) contexts);
      durable = list_any (is_named (codes "DHnQ")) contexts;
      reclaim = option_map fid_of (find (is_named (codes "DHnC")) contexts);
    }

-- what is read of contexts: nothing where one leaves the list, or where the data of one is short
abbrev pub answer : Bool → Option (List Context) → Result ContextSet BodyFault
answer reply None = Err Offset
answer reply (Some contexts) = if list_any (is_short reply) contexts then Err Short else Ok (set_of contexts)

-- what is read of a list
unfoldable pub read_of : Bool → List ℕ → Result ContextSet BodyFault
read_of reply list = answer reply (contexts_of list)

-- the lease of a context that is one of a lease
abbrev pub lease_in : Context → Option (Key × ℕ)
lease_in context = if is_named (codes "RqLs") context then Some (lease_of context) else None

-- the open of a context that is one of a reclaim
abbrev pub reclaim_in : Context → Option Fid
reclaim_in context = if is_named (codes "DHnC") context then Some (fid_of context) else None

-- what contexts say with one more behind them
unfoldable pub joined : ContextSet → Context → ContextSet
joined set context =
    record {
      lease = option_or set.lease (lease_in context);
      durable = set.durable || is_named (codes "DHnQ") context;
      reclaim = option_or set.reclaim (reclaim_in context);
    }

-- the same where one of them may be short
unfoldable pub extended : Bool → Option ContextSet → Context → Option ContextSet
extended reply None context = None
extended reply (Some set) context = if is_short reply context then None else Some (joined set context)

-- the fields of a context that is written: the place of the next one, where the name stands and its length, reserved, where the
-- data stand and their length, the name, zero bytes up to the data, and the data
abbrev pub context_fields : ℕ → Context → List Field
context_fields next context =
    U32 next ∷ U16 16 ∷ U16 4 ∷ Any16 0 ∷ U16 24 ∷ U32 (length context.content) ∷ Name context.name ∷ Any32 0 ∷ Follows ∷ []

-- the one spelling of a context, with others behind it or without. Data of 8, 16 or 32 bytes end at a multiple of 8, where the next
-- context stands.
abbrev pub spelled_context : Bool → Context → List ℕ
spelled_context more context = spelling_in (context_fields (if more then 24 + length context.content else 0) context) context.content

-- whether a list has a member
abbrev pub is_some_left : List Context → Bool
is_some_left [] = false
is_some_left (context ∷ contexts) = true

-- the one spelling of contexts
unfoldable pub spelled_contexts : List Context → List ℕ
spelled_contexts [] = []
spelled_contexts (context ∷ contexts) = spelled_context (is_some_left contexts) context ++ spelled_contexts contexts

-- the data of a lease: its key, its state, and its flags and its duration, which are 0
unfoldable pub lease_content : Key × ℕ → List ℕ
lease_content lease = lease.0.0 ++ (bytes_of 4 lease.1 ++ replicate 12 0)

-- the data of a reclaim: the open
unfoldable pub fid_content : Fid → List ℕ
fid_content fid = bytes_of 8 fid.persistent ++ bytes_of 8 fid.volatile

-- the context of a lease
abbrev pub leases : Option (Key × ℕ) → List Context
leases None = []
leases (Some lease) = entry (codes "RqLs") (lease_content lease) ∷ []

-- the context of a durable handle, whose data are zero bytes
abbrev pub durables : Bool → Bool → List Context
durables reply false = []
durables reply true = entry (codes "DHnQ") (replicate (if reply then 8 else 16) 0) ∷ []

-- the context of a reclaim
abbrev pub reclaims : Option Fid → List Context
reclaims None = []
reclaims (Some fid) = entry (codes "DHnC") (fid_content fid) ∷ []

-- the contexts of a set, in the order in which they are written
abbrev pub contexts_in : Bool → ContextSet → List Context
contexts_in reply set = leases set.lease ++ (durables reply set.durable ++ reclaims set.reclaim)

-- the spelling of a set is read as that set, whatever follows it; where it has no context, nothing may follow
unfoldable pub AreReadAgain : Bool → ContextSet → Type 0
AreReadAgain reply set =
    (rest : List ℕ) → (contexts_in reply set ≡ [] → rest ≡ []) → read_of reply (spelled_contexts (contexts_in reply set) ++ rest) ≡ Ok set

-- a writer appends the spelling of a set, which is read again, and for want of memory changes nothing
abbrev pub WritesContexts : {A E : Type 0} → Bool → ContextSet → List ℕ → List ℕ → Result A E → Type 0
WritesContexts reply set old new (Ok done) = (new ≡ old ++ spelled_contexts (contexts_in reply set)) × AreReadAgain reply set
WritesContexts reply set old new (Err fault) = new ≡ old

-- a lease whose key has 16 bytes and whose state fits
abbrev pub FitsLease : Option (Key × ℕ) → Type 0
FitsLease None = ⊤
FitsLease (Some lease) = (length lease.0.0 ≡ 16) × (lease.1 < 2 ^ 32)

-- an open whose halves fit
abbrev pub FitsFid : Option Fid → Type 0
FitsFid None = ⊤
FitsFid (Some fid) = (fid.persistent < 2 ^ 64) × (fid.volatile < 2 ^ 64)

-- the spelling of a list of one context at most
abbrev pub spelled_some : Bool → List Context → List ℕ
spelled_some more [] = []
spelled_some more (context ∷ contexts) = spelled_context more context

-- the spelling of what stands behind the lease of a set
abbrev pub spelled_behind : Bool → ContextSet → List ℕ
spelled_behind reply set =
    spelled_some (is_some set.reclaim) (durables reply set.durable) ++ spelled_some false (reclaims set.reclaim)

-- the spellings of a lease, a durable handle and a reclaim, one after another
abbrev pub spelled_parts : Bool → ContextSet → List ℕ
spelled_parts reply set = spelled_some (set.durable || is_some set.reclaim) (leases set.lease) ++ spelled_behind reply set

-- a CREATE request of SMB2: its body stands in the message, and its contexts say this. The body's reader lends the contexts without
-- a look at them, so who reads such a message calls both readers.
abbrev pub IsCreateRequestWith : CreateRequest → ContextSet → List ℕ → Type 0
IsCreateRequestWith x set message = IsCreateRequest x message × (read_of false x.contexts.now ≡ Ok set)

-- the same of a CREATE reply
abbrev pub IsCreateReplyWith : CreateReply → ContextSet → List ℕ → Type 0
IsCreateReplyWith x set message = IsCreateReply x message × (read_of true x.contexts.now ≡ Ok set)
