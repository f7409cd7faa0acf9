-- The entries of a directory (MS-FSCC 2.4, FileIdFullDirectoryInformation): the fields of one in the order of the table there, and
-- the chain of several, each with the offset of the next.
use Rattle.std.specs.Prelude.{◌≡◌, ◌≢◌, ℕ, zero, suc, ◌+◌, ◌-◌, ◌*◌, ◌/◌, ◌<◌, ◌≤◌, ◌⊎◌, ◌==◌, Bool, not, ◌&&◌, ◌||◌, nat_lt, if◌then◌else◌, List, [], ◌∷◌, ◌++◌, length, drop, replicate, slice_index, slice_range, Option, Some, None, Result, Ok, Err}
use denote.Ref.{Bor}
use Rattle.smb_le.specs.Numbers.{number_at}
use Rattle.smb_field.specs.declared.field.Field.{Field}
use Rattle.smb_field.specs.declared.field.Field.TheVariants.{U32, U64, Any32, Follows}
use Rattle.smb_field.specs.Body.{Strays}
use Rattle.smb_field.specs.Structure.{IsStructure, spelling_in}
use Rattle.smb_info.specs.declared.fault.InfoFault.{InfoFault}
use Rattle.smb_info.specs.declared.fault.InfoFault.TheVariants.{Short, Next}
use Rattle.smb_info.specs.declared.entries.DirEntry.{DirEntry}

-- an entry as a value: the offset of the next entry from the start of this one, or 0, and what the entry says of a file
pub record Entry : Type 0 where
  pub next : ℕ
  pub index : ℕ
  pub times : List ℕ
  pub end_of_file : ℕ
  pub allocation_size : ℕ
  pub attributes : ℕ
  pub ea_size : ℕ
  pub number : ℕ
  pub name : List ℕ

-- the value of an entry that was lent
abbrev pub seen : DirEntry → Entry
seen x =
    record {
      next = x.next;
      index = x.index;
      times = slice_index x.times 0 ∷ slice_index x.times 1 ∷ slice_index x.times 2 ∷ slice_index x.times 3 ∷ [];
      end_of_file = x.end_of_file;
      allocation_size = x.allocation_size;
      attributes = x.attributes;
      ea_size = x.ea_size;
      number = x.number;
      name = x.name.now;
    }

-- next, index, four times, end of file, allocation size, attributes, the name's length, size of extended attributes, reserved, the
-- file's number, and the name behind it
abbrev pub dir_entry : Entry → List Field
dir_entry e =
    U32 e.next ∷ U32 e.index ∷ U64 (slice_index e.times 0) ∷ U64 (slice_index e.times 1) ∷ U64 (slice_index e.times 2)
    ∷ U64 (slice_index e.times 3) ∷ U64 e.end_of_file ∷ U64 e.allocation_size ∷ U32 e.attributes ∷ U32 (length e.name)
    ∷ U32 e.ea_size ∷ Any32 0 ∷ U64 e.number ∷ Follows ∷ []

-- no entry follows at this offset: it is not 0 and under 80, or leaves the information
abbrev pub IsBadNext : ℕ → ℕ → Type 0
IsBadNext next size = (next ≢ 0) × ((next < 80) ⊎ (size < next))

-- the information begins with this entry, and the next one may stand where it says
abbrev pub IsEntry : Entry → List ℕ → Type 0
IsEntry e info = IsStructure (dir_entry e) e.name info × ¬ IsBadNext e.next (length info)

-- the information begins with no entry, for this fault: it has no 80 bytes; the offset of the next entry is bad; the name leaves it
abbrev pub Refuses : InfoFault → List ℕ → Type 0
Refuses Short info =
    (length info < 80)
    ⊎ (¬ IsBadNext (number_at 4 0 info) (length info) × Strays 80 80 (number_at 4 60 info) info)
Refuses Next info = (80 ≤ length info) × IsBadNext (number_at 4 0 info) (length info)

-- what a reader of an entry answers: an entry with which the information begins, or why it begins with none
abbrev pub ReadsEntry : List ℕ → Result DirEntry InfoFault → Type 0
ReadsEntry info (Ok x) = IsEntry (seen x) info
ReadsEntry info (Err fault) = Refuses fault info

-- the entries of a chain: each at the offset that the one before it names, up to one that names 0 or to the first fault
abbrev pub IsChain : List (Result Entry InfoFault) → List ℕ → Type 0
IsChain [] info = ⊥
IsChain (Err fault ∷ others) info = Refuses fault info × (others ≡ [])
IsChain (Ok e ∷ others) info =
    IsEntry e info × (((e.next ≡ 0) × (others ≡ [])) ⊎ ((e.next ≢ 0) × IsChain others (drop e.next info)))

-- the entries of a directory's information, which has none where it is empty
abbrev pub IsListing : List (Result Entry InfoFault) → List ℕ → Type 0
IsListing entries [] = entries ≡ []
IsListing entries (b ∷ info) = IsChain entries (b ∷ info)

-- what information begins with: the last entry, an entry and the bytes from the next one on, or a fault
pub data Step : Type 0 where
  Last : Entry → Step
  Then : Entry → List ℕ → Step
  Refused : InfoFault → Step

-- the entry whose fields stand at the start
abbrev pub entry_at : List ℕ → Entry
entry_at info =
    record {
      next = number_at 4 0 info;
      index = number_at 4 4 info;
      times = number_at 8 8 info ∷ number_at 8 16 info ∷ number_at 8 24 info ∷ number_at 8 32 info ∷ [];
      end_of_file = number_at 8 40 info;
      allocation_size = number_at 8 48 info;
      attributes = number_at 4 56 info;
      ea_size = number_at 4 64 info;
      number = number_at 8 72 info;
      name = slice_range info 80 (80 + number_at 4 60 info);
    }

-- the last entry, or an entry before others
abbrev pub step_by : Entry → List ℕ → Step
step_by e info = if e.next == 0 then Last e else Then e (drop e.next info)

-- a test of IsBadNext
abbrev pub is_bad_next : ℕ → ℕ → Bool
is_bad_next next size = not (next == 0) && (nat_lt next 80 || nat_lt size next)

-- the first entry of information, or its first fault
unfoldable pub step_of : List ℕ → Step
step_of info =
    if nat_lt (length info) 80 then Refused Short
    else (if is_bad_next (number_at 4 0 info) (length info) then Refused Next
    else (if nat_lt (length info) (80 + number_at 4 60 info) then Refused Short else step_by (entry_at info) info))

-- an entry and those after it
abbrev pub with_rest : Step → (List ℕ → List (Result Entry InfoFault)) → List (Result Entry InfoFault)
with_rest (Last e) others = Ok e ∷ []
with_rest (Then e rest) others = Ok e ∷ others rest
with_rest (Refused fault) others = Err fault ∷ []

-- n entries at most
abbrev pub entries_within : ℕ → List ℕ → List (Result Entry InfoFault)
entries_within zero info = []
entries_within (suc n) info = with_rest (step_of info) (entries_within n)

-- the entries of a chain that begins here
unfoldable pub chain_of : List ℕ → List (Result Entry InfoFault)
chain_of info = entries_within (suc (length info)) info

-- the entries of a directory's information
abbrev pub entries_of : List ℕ → List (Result Entry InfoFault)
entries_of [] = []
entries_of (b ∷ info) = chain_of (b ∷ info)

-- the entries of what is left of it
abbrev pub entries_left : Option (Bor (List ℕ)) → List (Result Entry InfoFault)
entries_left None = []
entries_left (Some info) = chain_of info.now

-- what an iterator gives, as a value
abbrev pub seen_item : Result DirEntry InfoFault → Result Entry InfoFault
seen_item (Ok x) = Ok (seen x)
seen_item (Err fault) = Err fault

-- an entry that was lent and the bytes from the next one on, as a step
abbrev pub step_from : DirEntry → Option (Bor (List ℕ)) → Step
step_from x None = Last (seen x)
step_from x (Some rest) = Then (seen x) rest.now

-- what a function answered, as a step
abbrev pub seen_step : Result (DirEntry × Option (Bor (List ℕ))) InfoFault → Step
seen_step (Ok p) = step_from p.0 p.1
seen_step (Err fault) = Refused fault

-- the next entry, where there is one, begins behind this one's name
abbrev pub IsPlaced : Entry → Type 0
IsPlaced e = (e.next ≡ 0) ⊎ (80 + length e.name ≤ e.next)

-- how much an entry takes in a listing before another: 80 bytes and its name, raised to a multiple of 8
abbrev pub padded : List ℕ → ℕ
padded name = (80 + length name + 7) / 8 * 8

-- the one spelling of an entry: its fields, its name, and zero bytes up to the next entry
unfoldable pub entry_spelling : Entry → List ℕ
entry_spelling e = spelling_in (dir_entry e) e.name ++ replicate (e.next - (80 + length e.name)) 0

-- whatever follows, the spelling is read as that entry
unfoldable pub IsEntryReadAgain : Entry → Type 0
IsEntryReadAgain e = (rest : List ℕ) → IsEntry e (entry_spelling e ++ rest)

-- whatever follows, the first entry of the spelling is that one, and the others are those of what follows, or none after Next 0
unfoldable pub IsListed : Entry → Type 0
IsListed e =
    (rest : List ℕ) → chain_of (entry_spelling e ++ rest) ≡ Ok e ∷ (if e.next == 0 then [] else chain_of rest)

-- a writer appends the spelling, which is read again, and for want of memory changes nothing
abbrev pub WritesEntry : {A E : Type 0} → Entry → List ℕ → List ℕ → Result A E → Type 0
WritesEntry e old new (Ok done) = (new ≡ old ++ entry_spelling e) × IsEntryReadAgain e × IsListed e
WritesEntry e old new (Err fault) = new ≡ old
