-- The same with a call: a stat of the root in one frame, whose replies come in two.
use Rattle.std.proofs.Common.{refl, sym, ℕ, false, List, [], ◌∷◌}
use Rattle.std.specs.Prelude.{codes, set}
use Rattle.std.specs.List.{AllByRecursion}
use Rattle.std.proofs.lemmas.Bool.{false≢true}
use Rattle.std.proofs.lemmas.List.{append-nil}
use Rattle.smb_le.specs.Numbers.{number_at}
use Rattle.smb_head.specs.Header.{head_of, head_at}
use Rattle.smb_head.specs.Stream.{frame, first_of, frames_in, rest_in}
use Rattle.smb_chain.specs.Parts.{step_of, parts_of}
use Rattle.smb_names.specs.Path as path
use Rattle.smb_names.specs.WireName.{fault_of, spelling}
use Rattle.smb_field.specs.Rows.{part_in}
use Rattle.smb_body_a.specs.Empty.{empty_of}
use Rattle.smb_body_a.specs.Negotiate.{negotiate_request_of, negotiate_reply_of}
use Rattle.smb_body_a.specs.Session.{session_setup_request_of, session_setup_reply_of}
use Rattle.smb_body_a.specs.Tree.{tree_connect_request_of, tree_connect_reply_of}
use Rattle.smb_body_b.specs.Close.{close_request_of, close_reply_of}
use Rattle.smb_body_b.specs.Contexts.{read_of, contexts_of, set_of}
use Rattle.smb_body_b.specs.Create.{create_request_of, create_reply_of}
use Rattle.smb_body_c.specs.Directory.{buffer_reply_of}
use Rattle.smb_body_c.specs.Error.{error_reply_of}
use Rattle.smb_body_c.specs.Info.{query_info_request_of}
use Rattle.smb_info.specs.Attributes.{all_of}
use Rattle.share_state.specs.Names.{components}
use Rattle.smb_link.specs.Came.{own}
use Rattle.smb_link.specs.declared.event.Event.{Event}
use Rattle.smb_link.specs.declared.event.Event.TheVariants as event
use Rattle.smb_link.specs.declared.mark.Mark.TheVariants as mark
use Rattle.fs_types.specs.declared.names.Kind.TheVariants as kind
use Rattle.fs_types.specs.declared.answer.Answer.TheVariants as answer
use Rattle.fs_types.specs.declared.call.Call.TheVariants as call
use Rattle.fs_ahead.specs.declared.asked.Asked.TheVariants as asked
use Rattle.fs_ahead.specs.declared.asked.Over.TheVariants as over
use Rattle.fs_ahead.specs.Script.{Coming}
use Rattle.fs_plain.specs.Honest.{IsHonest}
use Rattle.fs_plain.specs.Masked.{untold}
use Rattle.fs_plain.specs.Facts.{no_facts}
use Rattle.fs_plain.specs.Replies.{reply_in, is_interim_of, is_aside_reply}
use Rattle.fs_plain.specs.Requests.{wire_request}
use Rattle.fs_plain.proofs.Frames.{chain_frame, opened_frame, told_frame}
use Rattle.fs_client.specs.View.{Client, Exchange, no_client}
use Rattle.fs_client.specs.After.{after}
use Rattle.fs_top.specs.Run.{run_options}
use Rattle.fs_top.specs.Completeness.{IsAccepted, HasCredit, Favours, IsCarriedOut}
use Rattle.fs_top.proofs.FavourFrames.{greeting, greeting_reply, set_up, set_up_reply, authenticate, authenticate_reply, tree, tree_reply, leave_tree, leave_tree_reply, leave_session, leave_session_reply}
use Rattle.fs_top.proofs.FavourStory.{st, mid, client, flight, x0, x1, x2, x3, server, Goes, less, flies, accepted, always, IsFew, few, never_silent}

-- a frame whose first message has this id
abbrev numbered : ℕ → List ℕ → List ℕ
numbered first frame = set frame 28 first

-- the chain under the ids 4, 5 and 6; its replies: the first open of the share, and what is told of it
abbrev asks : List ℕ
asks = set (set (numbered 4 chain_frame) 156 5) 268 6

abbrev opened : List ℕ
opened = set (set (numbered 4 opened_frame) 132 1) 140 1

abbrev told : List ℕ
told = set (numbered 5 told_frame) 204 6

-- the messages of the leave behind it
abbrev later : ℕ → List ℕ → List ℕ
later id message = set message 24 id

abbrev begins : Event
begins = event.Marked (mark.Begin 1 0 (call.Stat (codes "/")))

abbrev announces : Event
announces = event.Marked (mark.For 1 (mid 4) 3)

abbrev answers : Event
answers = event.Marked (mark.Answer 1 (answer.Stat (record { kind = kind.Dir; size = 0; mode = 493; links = 1; number = 1 })))

abbrev pub story : List Event
story =
    event.Joined
    ∷ event.Sent (frame greeting)
    ∷ event.Took (mid 0)
    ∷ event.Got (frame greeting_reply)
    ∷ event.Sent (frame set_up)
    ∷ event.Took (mid 1)
    ∷ event.Got (frame set_up_reply)
    ∷ event.Sent (frame authenticate)
    ∷ event.Took (mid 2)
    ∷ event.Got (frame authenticate_reply)
    ∷ event.Sent (frame tree)
    ∷ event.Took (mid 3)
    ∷ event.Got (frame tree_reply)
    ∷ begins
    ∷ announces
    ∷ event.Sent asks
    ∷ event.Took (mid 4)
    ∷ event.Took (mid 5)
    ∷ event.Took (mid 6)
    ∷ event.Got opened
    ∷ event.Got told
    ∷ answers
    ∷ event.Marked mark.End
    ∷ event.Sent (frame (later 7 leave_tree))
    ∷ event.Took (mid 7)
    ∷ event.Got (frame (later 7 leave_tree_reply))
    ∷ event.Sent (frame (later 8 leave_session))
    ∷ event.Took (mid 8)
    ∷ event.Got (frame (later 8 leave_session_reply))
    ∷ []

abbrev mine : List Event
mine =
    event.Joined
    ∷ event.Sent (frame greeting)
    ∷ event.Got (frame greeting_reply)
    ∷ event.Sent (frame set_up)
    ∷ event.Got (frame set_up_reply)
    ∷ event.Sent (frame authenticate)
    ∷ event.Got (frame authenticate_reply)
    ∷ event.Sent (frame tree)
    ∷ event.Got (frame tree_reply)
    ∷ begins
    ∷ announces
    ∷ event.Sent asks
    ∷ event.Got opened
    ∷ event.Got told
    ∷ answers
    ∷ event.Marked mark.End
    ∷ event.Sent (frame (later 7 leave_tree))
    ∷ event.Got (frame (later 7 leave_tree_reply))
    ∷ event.Sent (frame (later 8 leave_session))
    ∷ event.Got (frame (later 8 leave_session_reply))
    ∷ []

-- the client from the mount on
abbrev c0 : Client
c0 = client [] 4 4 67 (x0 ∷ x1 ∷ x2 ∷ x3 ∷ []) server false

abbrev c1 : Client
c1 = after st c0 (begins)

abbrev c2 : Client
c2 = after st c1 (announces)

abbrev c3 : Client
c3 = after st c2 (event.Sent asks)

abbrev c4 : Client
c4 = after st c3 (event.Got opened)

abbrev c5 : Client
c5 = after st c4 (event.Got told)

abbrev c6 : Client
c6 = after st c5 (answers)

abbrev c7 : Client
c7 = after st c6 (event.Marked mark.End)

abbrev c8 : Client
c8 = after st c7 (event.Sent (frame (later 7 leave_tree)))

abbrev c9 : Client
c9 = after st c8 (event.Got (frame (later 7 leave_tree_reply)))

abbrev c10 : Client
c10 = after st c9 (event.Sent (frame (later 8 leave_session)))

abbrev c11 : Client
c11 = after st c10 (event.Got (frame (later 8 leave_session_reply)))

abbrev clients : List Client
clients =
    client [] 0 0 1 [] no_facts false
    ∷ client (flight 0 greeting) 1 0 1 [] no_facts false
    ∷ client [] 1 1 2 (x0 ∷ []) server false
    ∷ client (flight 1 set_up) 2 1 2 (x0 ∷ []) server false
    ∷ client [] 2 2 3 (x0 ∷ x1 ∷ []) server false
    ∷ client (flight 2 authenticate) 3 2 3 (x0 ∷ x1 ∷ []) server false
    ∷ client [] 3 3 35 (x0 ∷ x1 ∷ x2 ∷ []) server false
    ∷ client (flight 3 tree) 4 3 35 (x0 ∷ x1 ∷ x2 ∷ []) server false
    ∷ c0
    ∷ c1
    ∷ c2
    ∷ c3
    ∷ c4
    ∷ c5
    ∷ c6
    ∷ c7
    ∷ c8
    ∷ c9
    ∷ c10
    ∷ c11
    ∷ []

they_go : Goes no_client mine clients
unfolding components wire_request reply_in is_interim_of is_aside_reply head_of head_at number_at first_of frames_in rest_in step_of parts_of read_of contexts_of set_of path.components path.after_part fault_of spelling untold create_request_of close_request_of query_info_request_of part_in create_reply_of close_reply_of buffer_reply_of error_reply_of all_of empty_of negotiate_request_of negotiate_reply_of session_setup_request_of session_setup_reply_of tree_connect_request_of tree_connect_reply_of
they_go = (refl, (refl, (refl, (refl, (refl, (refl, (refl, (refl, (refl, (refl, (refl, (refl, (refl, (refl, (refl, (refl, (refl, (refl, (refl, (refl, record {}))))))))))))))))))))

abbrev y4 : Exchange
y4 = record { request = later 7 leave_tree; reply = later 7 leave_tree_reply }

abbrev y5 : Exchange
y5 = record { request = later 8 leave_session; reply = later 8 leave_session_reply }

all_accepted : AllByRecursion (IsAccepted st) clients
unfolding components wire_request reply_in is_interim_of is_aside_reply head_of head_at number_at first_of frames_in rest_in step_of parts_of read_of contexts_of set_of path.components path.after_part fault_of spelling untold create_request_of close_request_of query_info_request_of part_in create_reply_of close_reply_of buffer_reply_of error_reply_of all_of empty_of negotiate_request_of negotiate_reply_of session_setup_request_of session_setup_reply_of tree_connect_request_of tree_connect_reply_of
all_accepted = (
  accepted (y4 ∷ y5 ∷ []) [] _ _ refl refl,
  (
    accepted (y4 ∷ y5 ∷ []) [] _ _ refl refl,
    (
      accepted (y4 ∷ y5 ∷ []) (x0 ∷ []) _ _ refl refl,
      (
        accepted (y4 ∷ y5 ∷ []) (x0 ∷ []) _ _ refl refl,
        (
          accepted (y4 ∷ y5 ∷ []) (x0 ∷ x1 ∷ []) _ _ refl refl,
          (
            accepted (y4 ∷ y5 ∷ []) (x0 ∷ x1 ∷ []) _ _ refl refl,
            (
              accepted (y4 ∷ y5 ∷ []) (x0 ∷ x1 ∷ x2 ∷ []) _ _ refl refl,
              (
                accepted (y4 ∷ y5 ∷ []) (x0 ∷ x1 ∷ x2 ∷ []) _ _ refl refl,
                (
                  accepted (y4 ∷ y5 ∷ []) (x0 ∷ x1 ∷ x2 ∷ x3 ∷ []) _ _ refl refl,
                  (
                    accepted (y4 ∷ y5 ∷ []) (x0 ∷ x1 ∷ x2 ∷ x3 ∷ []) _ _ refl refl,
                    (
                      accepted (y4 ∷ y5 ∷ []) (x0 ∷ x1 ∷ x2 ∷ x3 ∷ []) _ _ refl refl,
                      (
                        accepted (y4 ∷ y5 ∷ []) (x0 ∷ x1 ∷ x2 ∷ x3 ∷ []) _ _ refl refl,
                        (
                          accepted (y4 ∷ y5 ∷ []) (x0 ∷ x1 ∷ x2 ∷ x3 ∷ []) _ _ refl refl,
                          (
                            accepted (y4 ∷ y5 ∷ []) (x0 ∷ x1 ∷ x2 ∷ x3 ∷ []) _ _ refl refl,
                            (
                              accepted (y4 ∷ y5 ∷ []) (x0 ∷ x1 ∷ x2 ∷ x3 ∷ []) _ _ refl refl,
                              (
                                accepted (y4 ∷ y5 ∷ []) (x0 ∷ x1 ∷ x2 ∷ x3 ∷ []) _ _ refl refl,
                                (
                                  accepted (y4 ∷ y5 ∷ []) (x0 ∷ x1 ∷ x2 ∷ x3 ∷ []) _ _ refl refl,
                                  (
                                    accepted (y4 ∷ y5 ∷ []) (x0 ∷ x1 ∷ x2 ∷ x3 ∷ y4 ∷ []) _ _ refl refl,
                                    (
                                      accepted (y4 ∷ y5 ∷ []) (x0 ∷ x1 ∷ x2 ∷ x3 ∷ y4 ∷ []) _ _ refl refl,
                                      (accepted (y4 ∷ y5 ∷ []) (x0 ∷ x1 ∷ x2 ∷ x3 ∷ y4 ∷ y5 ∷ []) _ _ refl refl, tt),
                                    ),
                                  ),
                                ),
                              ),
                            ),
                          ),
                        ),
                      ),
                    ),
                  ),
                ),
              ),
            ),
          ),
        ),
      ),
    ),
  ),
)

all_granted : AllByRecursion HasCredit clients
unfolding components wire_request reply_in is_interim_of is_aside_reply head_of head_at number_at first_of frames_in rest_in step_of parts_of read_of contexts_of set_of path.components path.after_part fault_of spelling untold create_request_of close_request_of query_info_request_of part_in create_reply_of close_reply_of buffer_reply_of error_reply_of all_of empty_of negotiate_request_of negotiate_reply_of session_setup_request_of session_setup_reply_of tree_connect_request_of tree_connect_reply_of
all_granted = (
  λ up none. less _ _ refl,
  (
    λ up flown. flies _ _ flown,
    (
      λ up none. less _ _ refl,
      (
        λ up flown. flies _ _ flown,
        (
          λ up none. less _ _ refl,
          (
            λ up flown. flies _ _ flown,
            (
              λ up none. less _ _ refl,
              (
                λ up flown. flies _ _ flown,
                (
                  λ up none. less _ _ refl,
                  (
                    λ up none. less _ _ refl,
                    (
                      λ up none. less _ _ refl,
                      (
                        λ up flown. flies _ _ flown,
                        (
                          λ up flown. flies _ _ flown,
                          (
                            λ up none. less _ _ refl,
                            (
                              λ up none. less _ _ refl,
                              (
                                λ up none. less _ _ refl,
                                (
                                  λ up flown. flies _ _ flown,
                                  (
                                    λ up none. less _ _ refl,
                                    (
                                      λ up flown. flies _ _ flown,
                                      (λ up none. less _ _ refl, tt),
                                    ),
                                  ),
                                ),
                              ),
                            ),
                          ),
                        ),
                      ),
                    ),
                  ),
                ),
              ),
            ),
          ),
        ),
      ),
    ),
  ),
)

all_few : AllByRecursion IsFew clients
unfolding components wire_request reply_in is_interim_of is_aside_reply head_of head_at number_at first_of frames_in rest_in step_of parts_of read_of contexts_of set_of path.components path.after_part fault_of spelling untold create_request_of close_request_of query_info_request_of part_in create_reply_of close_reply_of buffer_reply_of error_reply_of all_of empty_of negotiate_request_of negotiate_reply_of session_setup_request_of session_setup_reply_of tree_connect_request_of tree_connect_reply_of
all_few = (
  few 0 refl,
  (
    few 0 refl,
    (
      few 1 refl,
      (
        few 1 refl,
        (
          few 2 refl,
          (
            few 2 refl,
            (
              few 3 refl,
              (
                few 3 refl,
                (
                  few 4 refl,
                  (
                    few 4 refl,
                    (
                      few 4 refl,
                      (
                        few 4 refl,
                        (
                          few 5 refl,
                          (
                            few 6 refl,
                            (
                              few 6 refl,
                              (
                                few 6 refl,
                                (
                                  few 6 refl,
                                  (
                                    few 7 refl,
                                    (
                                      few 7 refl,
                                      (few 8 refl, tt),
                                    ),
                                  ),
                                ),
                              ),
                            ),
                          ),
                        ),
                      ),
                    ),
                  ),
                ),
              ),
            ),
          ),
        ),
      ),
    ),
  ),
)

it_is_honest : IsHonest 1000 false story
unfolding components wire_request reply_in is_interim_of is_aside_reply head_of head_at number_at first_of frames_in rest_in step_of parts_of read_of contexts_of set_of path.components path.after_part fault_of spelling untold create_request_of close_request_of query_info_request_of part_in create_reply_of close_reply_of buffer_reply_of error_reply_of all_of empty_of negotiate_request_of negotiate_reply_of session_setup_request_of session_setup_reply_of tree_connect_request_of tree_connect_reply_of
it_is_honest = (
  record {},
  (
    record {},
    (
      (refl, record {}),
      (
        record { paid = (refl, record {}); sound = refl; held = record {} },
        (
          record {},
          (
            (refl, record {}),
            (
              record { paid = (refl, record {}); sound = refl; held = record {} },
              (
                record {},
                (
                  (refl, record {}),
                  (
                    record { paid = (refl, record {}); sound = refl; held = record {} },
                    (
                      record {},
                      (
                        (refl, record {}),
                        (
                          record { paid = (refl, record {}); sound = refl; held = record {} },
                          (
                            record {},
                            (
                              record {},
                              (
                                record {},
                                (
                                  (refl, (refl, refl)),
                                  (
                                    (refl, (refl, refl)),
                                    (
                                      (refl, (refl, refl)),
                                      (
                                        record { paid = (refl, record {}); sound = refl; held = record {} },
                                        (
                                          record { paid = (refl, (refl, record {})); sound = refl; held = record {} },
                                          (
                                            record {},
                                            (
                                              record {},
                                              (
                                                record {},
                                                (
                                                  (refl, record {}),
                                                  (
                                                    record { paid = (refl, record {}); sound = refl; held = record {} },
                                                    (
                                                      record {},
                                                      (
                                                        (refl, record {}),
                                                        (record { paid = (refl, record {}); sound = refl; held = record {} }, record {}),
                                                      ),
                                                    ),
                                                  ),
                                                ),
                                              ),
                                            ),
                                          ),
                                        ),
                                      ),
                                    ),
                                  ),
                                ),
                              ),
                            ),
                          ),
                        ),
                      ),
                    ),
                  ),
                ),
              ),
            ),
          ),
        ),
      ),
    ),
  ),
)

-- on it a script of that call has to be carried out, and is
pub it_favours : Favours st run_options.patience 1000 false story
it_favours = record {
  honest = it_is_honest;
  steady = refl;
  accepted = always (IsAccepted st) mine clients no_client they_go (accepted (y4 ∷ y5 ∷ []) [] (x0 ∷ x1 ∷ x2 ∷ x3 ∷ y4 ∷ y5 ∷ []) no_client refl refl) all_accepted;
  granted = always HasCredit mine clients no_client they_go (λ up none. absurd (false≢true up)) all_granted;
  lively = never_silent mine run_options.patience (less 0 300 refl) refl;
  few = always IsFew mine clients no_client they_go (few 0 refl) all_few mine [] (sym (append-nil mine));
}

abbrev one_call : Coming
one_call = record { asked = asked.Call (record { number = 1; lane = 0; call = call.Stat (codes "/") }) ∷ []; over = over.End }

it_is_carried_out : IsCarriedOut one_call (own story)
it_is_carried_out = record { begun = refl; answered = (refl, tt) }
