-- What a client knows of the server, by the messages that it got, and what it knows before the first event.
use Rattle.std.specs.Prelude.{ℕ, ◌==◌, ◌&&◌, if◌then◌else◌, List, [], ◌∷◌, None, Result, Ok, Err}
use Rattle.smb_head.specs.declared.command.TheConstants.{NEGOTIATE}
use Rattle.smb_head.specs.declared.head.Head.{Head}
use Rattle.smb_head.specs.declared.head.HeadFault.{HeadFault}
use Rattle.smb_head.specs.Header.{head_of}
use Rattle.smb_field.specs.Rows.{if_read}
use Rattle.smb_body_a.specs.Negotiate.{NegotiateReplyValue, negotiate_reply_of}
use Rattle.smb_chain.specs.declared.parts.BadNext.{BadNext}
use Rattle.share_state.specs.State.{has}
use Rattle.smb_link.specs.Locals.{no_locals}
use Rattle.smb_link.specs.Program.{ServerFacts, Known}

-- what a NEGOTIATE reply (MS-SMB2 2.2.4) says of the server
abbrev pub facts_of : NegotiateReplyValue → ServerFacts
facts_of x = record { capabilities = x.capabilities; max_transact = x.max_transact; max_read = x.max_read; max_write = x.max_write }

-- what is known of the server once a message was got, which may be such a reply, of success
abbrev pub facts_with : Result Head HeadFault → List ℕ → ServerFacts → ServerFacts
facts_with (Err fault) message facts = facts
facts_with (Ok head) message facts =
    if has head.flags.0 1 && head.command == NEGOTIATE && head.status.0 == 0
    then if_read (negotiate_reply_of message) facts_of facts
    else facts

-- what is known once these messages were got, one after another
abbrev pub facts_after : List (Result (List ℕ) BadNext) → ServerFacts → ServerFacts
facts_after [] facts = facts
facts_after (Err bad ∷ messages) facts = facts_after messages facts
facts_after (Ok message ∷ messages) facts = facts_after messages (facts_with (head_of message) message facts)

-- nothing is known of the server
abbrev pub no_facts : ServerFacts
no_facts = record { capabilities = 0; max_transact = 0; max_read = 0; max_write = 0 }

-- before the first event the client knows of nothing
abbrev pub nothing_known : Known
nothing_known = record { locals = no_locals; facts = no_facts; hidden = 0; restarted = None }
