-- What a reply tells of the share's own reply, by what its request asked for. The share answers more than some messages can carry.
use Rattle.std.specs.Prelude.{ℕ, ◌==◌, Bool, true, false, if◌then◌else◌, List, is_some, Result, Ok, Err}
use Rattle.smb_head.specs.declared.command.TheConstants.{CREATE, QUERY_INFO}
use Rattle.smb_head.specs.declared.head.Head.{Head}
use Rattle.smb_head.specs.declared.head.HeadFault.{HeadFault}
use Rattle.smb_head.specs.Header.{head_of}
use Rattle.smb_field.specs.declared.field.BodyFault.{BodyFault}
use Rattle.smb_field.specs.Rows.{if_read}
use Rattle.smb_body_b.specs.declared.contexts.ContextSet.{ContextSet}
use Rattle.smb_body_b.specs.Create.{create_request_of}
use Rattle.smb_body_b.specs.Contexts.{read_of}
use Rattle.smb_body_c.specs.Info.{query_info_request_of}
use Rattle.share_state.specs.declared.request.RepBody.{RepBody}
use Rattle.share_state.specs.declared.request.RepBody.TheVariants as body
use Rattle.share_state.specs.declared.request.Rep.{Rep}

-- what a reply leaves out: nothing; the number of a file and its read-only mark; whether an open is durable
pub data Untold : Type 0 where
  Nothing : Untold
  NumberAndMark : Untold
  Durability : Untold

-- FileStandardInformation (class 5, MS-FSCC 2.4.41) has neither the number of a file nor its attributes, one of which is the read-only
-- mark; FileAllInformation has both
abbrev pub untold_of_class : ℕ → Untold
untold_of_class class = if class == 5 then NumberAndMark else Nothing

-- the reply to a reclaim has no context for a durable handle (MS-SMB2 3.3.5.9.7)
abbrev pub untold_of_contexts : Result ContextSet BodyFault → Untold
untold_of_contexts contexts = if_read contexts (λ set. if is_some set.reclaim then Durability else Nothing) Nothing

-- by the command and the body of a request
abbrev pub untold_with : Result Head HeadFault → List ℕ → Untold
untold_with (Err fault) request = Nothing
untold_with (Ok head) request =
    if head.command == QUERY_INFO then if_read (query_info_request_of request) (λ x. untold_of_class x.class) Nothing
    else if head.command == CREATE
    then if_read (create_request_of request) (λ x. untold_of_contexts (read_of false x.contexts)) Nothing
    else Nothing

-- what the reply to a request leaves out
unfoldable pub untold : List ℕ → Untold
untold request = untold_with (head_of request) request

abbrev pub without_number : RepBody → RepBody
without_number (body.Info dir size read_only links pending number) = body.Info dir size false links pending 0
without_number b = b

abbrev pub without_durability : RepBody → RepBody
without_durability (body.Opened fid action size attributes lease durable) = body.Opened fid action size attributes lease false
without_durability b = b

-- what is told of a body where this is left out
abbrev pub without : Untold → RepBody → RepBody
without Nothing b = b
without NumberAndMark b = without_number b
without Durability b = without_durability b

abbrev pub told_of : Untold → Rep → Rep
told_of u reply = record reply { body = without u reply.body }

-- what the reply to a request tells of this one of the share
abbrev pub masked : List ℕ → Rep → Rep
masked request reply = told_of (untold request) reply

-- a request whose reply leaves nothing out
abbrev pub is_whole : Untold → Bool
is_whole Nothing = true
is_whole u = false
