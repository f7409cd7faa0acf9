-- A story on which a run has to do all that its script asks for: a mount, the end of a script without a call, and the leave, with an honest
-- share that grants few credits at first.
use Rattle.std.proofs.Common.{arith, ◌≡◌, ◌∙◌, refl, sym, ap, subst, ℕ, ◌<◌, ◌≤◌, Bool, true, false, not, ◌&&◌, List, [], ◌∷◌, ◌++◌, replicate, Result, Ok, Err}
use Rattle.std.specs.Prelude.{nat_lt, nat_le}
use Rattle.std.specs.List.{AllByRecursion, list_all}
use Rattle.std.proofs.lemmas.Bool.{false≢true}
use Rattle.std.proofs.lemmas.Bool.Decides.{nat_tests}
use Rattle.std.proofs.lemmas.List.{append-nil}
use denote.Ref.{Bor}
use Rattle.smb_base.specs.declared.names.Mid.{Mid}
use Rattle.smb_le.specs.Numbers.{number_at}
use Rattle.smb_head.specs.Header.{head_of, head_at}
use Rattle.smb_head.specs.Stream.{frame, first_of, frames_in, rest_in}
use Rattle.smb_chain.specs.Parts.{step_of, parts_of}
use Rattle.smb_field.specs.Rows.{part_in}
use Rattle.smb_body_a.specs.Empty.{empty_of}
use Rattle.smb_body_a.specs.Negotiate.{negotiate_request_of, negotiate_reply_of}
use Rattle.smb_body_a.specs.Session.{session_setup_request_of, session_setup_reply_of}
use Rattle.smb_body_a.specs.Tree.{tree_connect_request_of, tree_connect_reply_of}
use Rattle.smb_body_a.specs.declared.negotiate.NegotiateReply.{NegotiateReply}
use Rattle.smb_body_a.specs.declared.session.SessionSetupReply.{SessionSetupReply}
use Rattle.smb_body_a.specs.declared.tree.TreeConnectReply.{TreeConnectReply}
use Rattle.smb_mount.specs.declared.facts.Facts.{Facts}
use Rattle.smb_mount.specs.declared.fault.MountFault.{MountFault}
use Rattle.smb_mount.specs.declared.states.SetUp.{SetUp}
use Rattle.smb_mount.specs.declared.states.SetUp.TheVariants.{Challenged, Authenticated}
use Rattle.smb_mount.specs.Kept as kept
use Rattle.smb_mount.specs.Replies.{ReadsNegotiate, ReadsSession, ReadsTree}
use Rattle.share_state.specs.declared.connection.Sent.{Sent}
use Rattle.smb_link.specs.Came.{is_silence}
use Rattle.smb_link.specs.Program.{ServerFacts}
use Rattle.smb_link.specs.declared.event.Event.{Event}
use Rattle.smb_link.specs.declared.event.Event.TheVariants as event
use Rattle.smb_link.specs.declared.mark.Mark.TheVariants as mark
use Rattle.fs_plain.specs.Honest.{IsHonest}
use Rattle.fs_plain.specs.Facts.{no_facts, nothing_known}
use Rattle.fs_plain.specs.Replies.{is_aside_reply}
use Rattle.fs_plain.specs.Requests.{wire_request}
use Rattle.fs_plain.specs.Told.{nothing_told}
use Rattle.fs_plain.specs.World.{waiting}
use Rattle.fs_client.specs.View.{Setting, Exchange, Client, no_view, no_client}
use Rattle.fs_client.specs.After.{after, all_after}
use Rattle.fs_client.specs.Mount.{Stage, Unmounted, Agreed, Challenging, InSession, Mounted, Leads, LeadTo, at_first}
use Rattle.fs_core.specs.Event.{FailsAt}
use Rattle.fs_top.specs.declared.hear.TheConstants.{MAX_FRAMES}
use Rattle.fs_top.specs.Endings.{AreUnheard}
use Rattle.fs_top.specs.Run.{run_options}
use Rattle.fs_top.specs.Completeness.{IsAccepted, HasCredit, IsLively, Favours}
use Rattle.fs_top.proofs.FavourFrames.{greeting, greeting_reply, set_up, set_up_reply, authenticate, authenticate_reply, tree, tree_reply, leave_tree, leave_tree_reply, leave_session, leave_session_reply}

abbrev pub st : Setting
st = record { options = run_options; seed = []; guid = replicate 16 0; path = [] }

abbrev pub mid : ℕ → Mid
mid n = record { 0 = n }

-- what the client does and hears, and each of its requests taken
abbrev pub story : List Event
story =
    event.Joined
    ∷ event.Sent (frame greeting)
    ∷ event.Took (mid 0)
    ∷ event.Got (frame greeting_reply)
    ∷ event.Sent (frame set_up)
    ∷ event.Took (mid 1)
    ∷ event.Got (frame set_up_reply)
    ∷ event.Sent (frame authenticate)
    ∷ event.Took (mid 2)
    ∷ event.Got (frame authenticate_reply)
    ∷ event.Sent (frame tree)
    ∷ event.Took (mid 3)
    ∷ event.Got (frame tree_reply)
    ∷ event.Marked mark.End
    ∷ event.Sent (frame leave_tree)
    ∷ event.Took (mid 4)
    ∷ event.Got (frame leave_tree_reply)
    ∷ event.Sent (frame leave_session)
    ∷ event.Took (mid 5)
    ∷ event.Got (frame leave_session_reply)
    ∷ []

abbrev pub mine : List Event
mine =
    event.Joined
    ∷ event.Sent (frame greeting)
    ∷ event.Got (frame greeting_reply)
    ∷ event.Sent (frame set_up)
    ∷ event.Got (frame set_up_reply)
    ∷ event.Sent (frame authenticate)
    ∷ event.Got (frame authenticate_reply)
    ∷ event.Sent (frame tree)
    ∷ event.Got (frame tree_reply)
    ∷ event.Marked mark.End
    ∷ event.Sent (frame leave_tree)
    ∷ event.Got (frame leave_tree_reply)
    ∷ event.Sent (frame leave_session)
    ∷ event.Got (frame leave_session_reply)
    ∷ []

-- The client between two of them: what is in flight, how many ids it used, how many frames came, how many ids were granted, the exchanges
-- of the connection, and what it knows of the server and of the end.
abbrev pub client : List Sent → ℕ → ℕ → ℕ → List Exchange → ServerFacts → Bool → Client
client flights next frames granted exchanges facts ended = record {
  view = record no_view {
    flights = flights;
    connected = true;
    next = next;
    told = record nothing_told { known = record nothing_known { facts = facts }; ended = ended };
  };
  tally = record { frames = frames; granted = granted; silences = 0; exchanges = exchanges };
}

abbrev pub flight : ℕ → List ℕ → List Sent
flight n message = waiting (mid n) message ∷ []

abbrev pub x0 : Exchange
x0 = record { request = greeting; reply = greeting_reply }

abbrev pub x1 : Exchange
x1 = record { request = set_up; reply = set_up_reply }

abbrev pub x2 : Exchange
x2 = record { request = authenticate; reply = authenticate_reply }

abbrev pub x3 : Exchange
x3 = record { request = tree; reply = tree_reply }

abbrev pub x4 : Exchange
x4 = record { request = leave_tree; reply = leave_tree_reply }

abbrev pub x5 : Exchange
x5 = record { request = leave_session; reply = leave_session_reply }

abbrev pub server : ServerFacts
server = record { capabilities = 7; max_transact = 8388608; max_read = 8388608; max_write = 8388608 }

abbrev pub clients : List Client
clients =
    client [] 0 0 1 [] no_facts false
    ∷ client (flight 0 greeting) 1 0 1 [] no_facts false
    ∷ client [] 1 1 2 (x0 ∷ []) server false
    ∷ client (flight 1 set_up) 2 1 2 (x0 ∷ []) server false
    ∷ client [] 2 2 3 (x0 ∷ x1 ∷ []) server false
    ∷ client (flight 2 authenticate) 3 2 3 (x0 ∷ x1 ∷ []) server false
    ∷ client [] 3 3 35 (x0 ∷ x1 ∷ x2 ∷ []) server false
    ∷ client (flight 3 tree) 4 3 35 (x0 ∷ x1 ∷ x2 ∷ []) server false
    ∷ client [] 4 4 67 (x0 ∷ x1 ∷ x2 ∷ x3 ∷ []) server false
    ∷ client [] 4 4 67 (x0 ∷ x1 ∷ x2 ∷ x3 ∷ []) server true
    ∷ client (flight 4 leave_tree) 5 4 67 (x0 ∷ x1 ∷ x2 ∷ x3 ∷ []) server true
    ∷ client [] 5 5 99 (x0 ∷ x1 ∷ x2 ∷ x3 ∷ x4 ∷ []) server true
    ∷ client (flight 5 leave_session) 6 5 99 (x0 ∷ x1 ∷ x2 ∷ x3 ∷ x4 ∷ []) server true
    ∷ client [] 6 6 131 (x0 ∷ x1 ∷ x2 ∷ x3 ∷ x4 ∷ x5 ∷ []) server true
    ∷ []

-- events lead a client from one to the next of these
abbrev pub Goes : Client → List Event → List Client → Type 0
Goes c [] [] = Unit {0}
Goes c (e ∷ es) (d ∷ ds) = (after st c e ≡ d) × Goes d es ds
Goes c [] (d ∷ ds) = ⊥
Goes c (e ∷ es) [] = ⊥

pub they_go : Goes no_client mine clients
unfolding head_of head_at number_at first_of frames_in rest_in step_of parts_of wire_request is_aside_reply part_in empty_of negotiate_request_of negotiate_reply_of session_setup_request_of session_setup_reply_of tree_connect_request_of tree_connect_reply_of
they_go = (refl, (refl, (refl, (refl, (refl, (refl, (refl, (refl, (refl, (refl, (refl, (refl, (refl, (refl, record {}))))))))))))))

-- what is read of the replies of the mount
abbrev empty : Bor (List ℕ)
empty = record { ref_ptr = (0, 0); now = [] }

abbrev pub greeting_read : NegotiateReply
greeting_read = record {
  security_mode = 1;
  dialect = 0x210;
  server_guid = replicate 16 0;
  capabilities = 7;
  max_transact = 8388608;
  max_read = 8388608;
  max_write = 8388608;
  system_time = 0;
  start_time = 0;
  buffer = empty;
}

abbrev pub session_read : ℕ → SessionSetupReply
session_read flags = record { session_flags = flags; buffer = empty }

abbrev pub tree_read : TreeConnectReply
tree_read = record { share_type = 1; share_flags = 0; capabilities = 0; maximal_access = 0x1F01FF }

pub at_most : (n m : ℕ) → nat_le n m ≡ true → n ≤ m
at_most n m is = grind (arith, nat_tests)

pub less : (n m : ℕ) → nat_lt n m ≡ true → n < m
less n m is = grind (arith, nat_tests)

none_less : {P : Type 0} → 0 < 0 → P
none_less is = absurd (omega (arith, is))

pub reads_greeting : ReadsNegotiate greeting_reply (Ok greeting_read)
unfolding number_at
reads_greeting =
    (at_most _ _ refl, refl, (refl, (refl, (tt, (refl, (refl, (refl, (refl, (refl, (refl, (refl, ((λ some. none_less some), (refl, (tt, tt))))))))))))))

pub reads_set_up : ReadsSession set_up_reply (Ok (session_read 0))
unfolding number_at
reads_set_up = (at_most _ _ refl, refl, (refl, ((λ some. none_less some), (refl, tt))))

pub reads_authenticate : ReadsSession authenticate_reply (Ok (session_read 1))
unfolding number_at
reads_authenticate = (at_most _ _ refl, refl, (refl, ((λ some. none_less some), (refl, tt))))

pub reads_tree : ReadsTree tree_reply (Ok tree_read)
unfolding number_at
reads_tree = (at_most _ _ refl, refl, (refl, (tt, (refl, (refl, (refl, tt))))))

-- None of them refuses the mount, at whatever stage it is that they lead to.
abbrev Passes : Stage → List Exchange → Type 0
Passes stage [] = Unit {0}
Passes stage (x ∷ xs) = ((why : MountFault) → FailsAt stage x.reply why → ⊥) × ((next : Stage) → Leads stage x.reply next → Passes next xs)

mounted_passes : (k : Facts) (xs : List Exchange) → Passes (Mounted k) xs
mounted_passes k [] = record {}
mounted_passes k (x ∷ xs) = ((λ why fails. fails), λ next leads. by next leads (λ k. mounted_passes k xs))
  where
    by : (next : Stage) → Leads (Mounted k) x.reply next → ((k : Facts) → Passes (Mounted k) xs) → Passes next xs
    by (Mounted next) leads deeper = deeper next
    by other leads deeper = absurd leads

bad_good : {A : Type 0} (why : MountFault) (a : A) → ◌≡◌ {A = Result A MountFault} (Err why) (Ok a) → ⊥
bad_good {A = A} why a is = false≢true (ap good is)
  where
    good : Result A MountFault → Bool
    good (Ok x) = true
    good (Err f) = false

session_passes : (k : kept.Session) (xs : List Exchange) → Passes (InSession k) (x3 ∷ xs)
unfolding head_of head_at number_at
session_passes k xs = ((λ why fails. bad_good why _ (fails.every_body (Ok tree_read) reads_tree)), by)
  where
    by : (next : Stage) → Leads (InSession k) tree_reply next → Passes next xs
    by (Mounted next) leads = mounted_passes next xs
    by other leads = absurd leads

challenge_passes : (k : kept.Challenge) (xs : List Exchange) → Passes (Challenging k) (x2 ∷ x3 ∷ xs)
unfolding head_of head_at number_at
challenge_passes k xs = ((λ why fails. bad_good why _ (fails.every_body (Ok (session_read 1)) reads_authenticate)), by)
  where
    by : (next : Stage) → Leads (Challenging k) authenticate_reply next → Passes next (x3 ∷ xs)
    by (InSession next) leads = session_passes next xs
    by other leads = absurd leads

challenged_only : (a : kept.Challenge) (b : kept.Session) → ◌≡◌ {A = Result SetUp MountFault} (Ok (Authenticated b)) (Ok (Challenged a)) → ⊥
challenged_only a b is = false≢true (ap wants is)
  where
    wants : Result SetUp MountFault → Bool
    wants (Ok (Challenged k)) = true
    wants other = false

agreed_passes : (k : kept.Greeted) (xs : List Exchange) → Passes (Agreed k) (x1 ∷ x2 ∷ x3 ∷ xs)
unfolding head_of head_at number_at
agreed_passes k xs = ((λ why fails. bad_good why _ (fails.every_body (Ok (session_read 0)) reads_set_up)), by)
  where
    by : (next : Stage) → Leads (Agreed k) set_up_reply next → Passes next (x2 ∷ x3 ∷ xs)
    by (Challenging next) leads = challenge_passes next xs
    by (InSession next) leads = absurd (challenged_only _ next (leads.every_body (Ok (session_read 0)) reads_set_up))
    by other leads = absurd leads

first_passes : (k : kept.Start) (xs : List Exchange) → Passes (Unmounted k) (x0 ∷ x1 ∷ x2 ∷ x3 ∷ xs)
unfolding head_of head_at number_at
first_passes k xs = ((λ why fails. bad_good why _ (fails.every_body (Ok greeting_read) reads_greeting)), by)
  where
    by : (next : Stage) → Leads (Unmounted k) greeting_reply next → Passes next (x1 ∷ x2 ∷ x3 ∷ xs)
    by (Agreed next) leads = agreed_passes next xs
    by other leads = absurd leads

-- nor does a front of them
passes_front : (xs ys : List Exchange) (stage : Stage) → Passes stage (xs ++ ys) → Passes stage xs
passes_front [] ys stage passes = record {}
passes_front (x ∷ xs) ys stage passes = (passes.0, λ next leads. passes_front xs ys next (passes.1 next leads))

never_refused : (before later : List Exchange) (x : Exchange) (first stage : Stage) (why : MountFault) → Passes first (before ++ x ∷ later) → LeadTo first before stage
    → FailsAt stage x.reply why → ⊥
never_refused [] later x first stage why passes come fails = passes.0 why (subst (λ (s : Stage). FailsAt s x.reply why) (sym come) fails)
never_refused (y ∷ before) later x first stage why passes come fails = never_refused before later x come.0 stage why (passes.1 come.0 come.1) come.2 fails

pub accepted : (rest xs ys : List Exchange) (c : Client) → xs ++ ys ≡ x0 ∷ x1 ∷ x2 ∷ x3 ∷ rest → c.tally.exchanges ≡ xs → IsAccepted st c
accepted rest xs ys c all are why refused =
    never_refused refused.before refused.later refused.exchange (at_first st) refused.stage why
    (subst (Passes (at_first st)) (sym are ∙ refused.told)
    (passes_front xs ys (at_first st) (subst (Passes (at_first st)) (sym all) (first_passes (record { guid = st.guid; path = st.path; previous = 0 }) rest))))
    refused.come refused.fails

-- what holds of the client before these events, and after each of them, holds always
first_of_two : (e f : Event) (es fs : List Event) → e ∷ es ≡ f ∷ fs → e ≡ f
first_of_two e f es fs is = ap (the e) is
  where
    the : Event → List Event → Event
    the d [] = d
    the d (x ∷ xs) = x

others_of_two : (e f : Event) (es fs : List Event) → e ∷ es ≡ f ∷ fs → es ≡ fs
others_of_two e f es fs is = ap (the es) is
  where
    the : List Event → List Event → List Event
    the d [] = d
    the d (x ∷ xs) = xs

none_some : (f : Event) (fs : List Event) → [] ≡ f ∷ fs → ⊥
none_some f fs is = false≢true (ap some is)
  where
    some : List Event → Bool
    some [] = false
    some (x ∷ xs) = true

pub always : (P : Client → Type 0) (events : List Event) (ds : List Client) (c : Client) → Goes c events ds → P c → AllByRecursion P ds
    → (front rest : List Event) → events ≡ front ++ rest → P (all_after st c front)
always P events ds c goes now all [] rest are = now
always P [] ds c goes now all (f ∷ front) rest are = absurd (none_some f (front ++ rest) are)
always P (e ∷ es) [] c goes now all (f ∷ front) rest are = absurd goes
always P (e ∷ es) (d ∷ ds) c goes now all (f ∷ front) rest are =
    subst (λ (k : Client). P (all_after st k front)) (sym goes.0 ∙ ap (after st c) (first_of_two e f es (front ++ rest) are))
    (always P es ds d goes.1 all.0 all.1 front rest (others_of_two e f es (front ++ rest) are))

-- no reply refuses the mount
all_accepted : AllByRecursion (IsAccepted st) clients
all_accepted = (
  accepted (x4 ∷ x5 ∷ []) [] _ _ refl refl,
  (
    accepted (x4 ∷ x5 ∷ []) [] _ _ refl refl,
    (
      accepted (x4 ∷ x5 ∷ []) (x0 ∷ []) _ _ refl refl,
      (
        accepted (x4 ∷ x5 ∷ []) (x0 ∷ []) _ _ refl refl,
        (
          accepted (x4 ∷ x5 ∷ []) (x0 ∷ x1 ∷ []) _ _ refl refl,
          (
            accepted (x4 ∷ x5 ∷ []) (x0 ∷ x1 ∷ []) _ _ refl refl,
            (
              accepted (x4 ∷ x5 ∷ []) (x0 ∷ x1 ∷ x2 ∷ []) _ _ refl refl,
              (
                accepted (x4 ∷ x5 ∷ []) (x0 ∷ x1 ∷ x2 ∷ []) _ _ refl refl,
                (
                  accepted (x4 ∷ x5 ∷ []) (x0 ∷ x1 ∷ x2 ∷ x3 ∷ []) _ _ refl refl,
                  (
                    accepted (x4 ∷ x5 ∷ []) (x0 ∷ x1 ∷ x2 ∷ x3 ∷ []) _ _ refl refl,
                    (
                      accepted (x4 ∷ x5 ∷ []) (x0 ∷ x1 ∷ x2 ∷ x3 ∷ []) _ _ refl refl,
                      (
                        accepted (x4 ∷ x5 ∷ []) (x0 ∷ x1 ∷ x2 ∷ x3 ∷ x4 ∷ []) _ _ refl refl,
                        (
                          accepted (x4 ∷ x5 ∷ []) (x0 ∷ x1 ∷ x2 ∷ x3 ∷ x4 ∷ []) _ _ refl refl,
                          (accepted (x4 ∷ x5 ∷ []) (x0 ∷ x1 ∷ x2 ∷ x3 ∷ x4 ∷ x5 ∷ []) _ _ refl refl, tt),
                        ),
                      ),
                    ),
                  ),
                ),
              ),
            ),
          ),
        ),
      ),
    ),
  ),
)

-- wherever nothing is in flight an id is free
pub flies : {P : Type 0} (x : Sent) (xs : List Sent) → x ∷ xs ≡ [] → P
flies x xs none = absurd (false≢true (ap some (sym none)))
  where
    some : List Sent → Bool
    some [] = false
    some (x ∷ xs) = true

all_granted : AllByRecursion HasCredit clients
all_granted = (
  λ up none. less 0 1 refl,
  (
    λ up flown. flies _ _ flown,
    (
      λ up none. less 0 1 refl,
      (
        λ up flown. flies _ _ flown,
        (
          λ up none. less 0 1 refl,
          (
            λ up flown. flies _ _ flown,
            (
              λ up none. less 0 32 refl,
              (
                λ up flown. flies _ _ flown,
                (
                  λ up none. less 0 63 refl,
                  (
                    λ up none. less 0 63 refl,
                    (
                      λ up flown. flies _ _ flown,
                      (
                        λ up none. less 0 94 refl,
                        (
                          λ up flown. flies _ _ flown,
                          (λ up none. less 0 125 refl, tt),
                        ),
                      ),
                    ),
                  ),
                ),
              ),
            ),
          ),
        ),
      ),
    ),
  ),
)

-- fewer frames come than end a run
abbrev pub IsFew : Client → Type 0
IsFew c = c.tally.frames < MAX_FRAMES

pub few : (n : ℕ) → nat_lt n MAX_FRAMES ≡ true → n < MAX_FRAMES
few n is = less n MAX_FRAMES is

all_few : AllByRecursion IsFew clients
all_few =
    (few 0 refl, (few 0 refl, (few 1 refl, (few 1 refl, (few 2 refl, (few 2 refl, (few 3 refl, (few 3 refl, (few 4 refl, (few 4 refl, (few 4 refl, (few 5 refl, (few 5 refl, (few 6 refl, tt))))))))))))))

-- and no receive brings nothing
abbrev is_heard : Event → Bool
is_heard e = not (is_silence e)

unheard_none : (events : List Event) (c : Client) (n : ℕ) → list_all is_heard events ≡ true → AreUnheard st c n events → n ≡ 0
unheard_none [] c n heard silent = silent
unheard_none (event.Quiet ∷ events) c n heard silent = absurd (false≢true heard)
unheard_none (event.Got bytes ∷ events) c n heard silent = absurd silent
unheard_none (e ∷ events) c n heard silent = unheard_none events (after st c e) n heard silent

heard_last : (xs ys : List Event) → list_all is_heard (xs ++ ys) ≡ true → list_all is_heard ys ≡ true
heard_last [] ys heard = heard
heard_last (x ∷ xs) ys heard = heard_last xs ys (right (is_heard x) (list_all is_heard (xs ++ ys)) heard)
  where
    right : (a b : Bool) → (a && b) ≡ true → b ≡ true
    right true b is = is
    right false b is = absurd (false≢true is)

heard_first : (xs ys : List Event) → list_all is_heard (xs ++ ys) ≡ true → list_all is_heard xs ≡ true
heard_first [] ys heard = refl
heard_first (x ∷ xs) ys heard = both (is_heard x) (list_all is_heard (xs ++ ys)) heard (heard_first xs ys)
  where
    both : (a b : Bool) → (a && b) ≡ true → (b ≡ true → list_all is_heard xs ≡ true) → (a && list_all is_heard xs) ≡ true
    both true b is deeper = deeper is
    both false b is deeper = absurd (false≢true is)

pub never_silent : (events : List Event) (patience : ℕ) → 0 < patience → list_all is_heard events ≡ true → IsLively st patience events
never_silent events patience some heard front rest are u =
    no (unheard_none u.later (all_after st no_client u.before) patience
    (heard_last u.before u.later (ap (list_all is_heard) (sym u.are) ∙ heard_first front rest (ap (list_all is_heard) (sym are) ∙ heard))) u.silent)
  where
    no : patience ≡ 0 → ⊥
    no is = omega (arith, some, is)

-- it is a story of an honest share
it_is_honest : IsHonest 1000 false story
unfolding head_of head_at number_at first_of frames_in rest_in step_of parts_of wire_request is_aside_reply part_in empty_of negotiate_request_of negotiate_reply_of session_setup_request_of session_setup_reply_of tree_connect_request_of tree_connect_reply_of
it_is_honest = (
  record {},
  (
    record {},
    (
      (refl, record {}),
      (
        record { paid = (refl, record {}); sound = refl; held = record {} },
        (
          record {},
          (
            (refl, record {}),
            (
              record { paid = (refl, record {}); sound = refl; held = record {} },
              (
                record {},
                (
                  (refl, record {}),
                  (
                    record { paid = (refl, record {}); sound = refl; held = record {} },
                    (
                      record {},
                      (
                        (refl, record {}),
                        (
                          record { paid = (refl, record {}); sound = refl; held = record {} },
                          (
                            record {},
                            (
                              record {},
                              (
                                (refl, record {}),
                                (
                                  record { paid = (refl, record {}); sound = refl; held = record {} },
                                  (
                                    record {},
                                    (
                                      (refl, record {}),
                                      (record { paid = (refl, record {}); sound = refl; held = record {} }, record {}),
                                    ),
                                  ),
                                ),
                              ),
                            ),
                          ),
                        ),
                      ),
                    ),
                  ),
                ),
              ),
            ),
          ),
        ),
      ),
    ),
  ),
)

-- on it a run has to be carried out
pub it_favours : Favours st run_options.patience 1000 false story
it_favours = record {
  honest = it_is_honest;
  steady = refl;
  accepted = always (IsAccepted st) mine clients no_client they_go (accepted (x4 ∷ x5 ∷ []) [] (x0 ∷ x1 ∷ x2 ∷ x3 ∷ x4 ∷ x5 ∷ []) no_client refl refl) all_accepted;
  granted = always HasCredit mine clients no_client they_go (λ up none. absurd (false≢true up)) all_granted;
  lively = never_silent mine run_options.patience (less 0 300 refl) refl;
  few = always IsFew mine clients no_client they_go (few 0 refl) all_few mine [] (sym (append-nil mine));
}
