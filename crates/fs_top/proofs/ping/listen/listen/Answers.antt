use Rattle.std.proofs.Common.{◌≡◌, ◌≢◌, ◌+◌, ◌∙◌, ℕ, List, [], ◌∷◌, ◌++◌, inl, inr, take, drop, length, length-append, length-take, refl, sym, ap, subst, arith}
use Rattle.smb_link.specs.declared.event.Event.TheVariants.{Got}
use Rattle.smb_link.specs.declared.faults.Got.TheVariants as got
use Rattle.smb_link.proofs.CameLaws.{came_receive}
use Rattle.std.proofs.lemmas.List.{take-append-le, length-take-le}
use Rattle.smb_head.specs.Stream.{first_of, Partial}
use Rattle.fs_top.specs.declared.ping.ending.Ending.{Ending}
use Rattle.smb_link.specs.Came.{seen_by, Came}
use Rattle.fs_top.specs.Ping.Tale.{FirstEnds, Heard}
use Rattle.fs_top.proofs.Pings.Partial.{first_of-nothing, partial_short, partial_lacks}
use Rattle.fs_top.proofs.Pings.Waiting.{Waiting, waiting_none, waiting_few, waiting_undecided, waiting_got, waiting_silence, heard_got, heard_silence, heard_cut, heard_memory}
use Rattle.fs_top.proofs.ping.listen.listen.Goals as goal

pub loop-n-init : goal.loop-n-init
loop-n-init g c = record { waiting = rw c.new-frames.ensures (waiting_none _ first_of-nothing); places = (refl, refl) }

pub receive-requires : goal.receive-requires
receive-requires g c =
    let undecided = waiting_undecided _ _ _ _ c.loop-n.invariant.waiting in
    let some = partial_lacks c.loop-n.frames undecided in
    omega (arith, c.min-room.ensures, c.lacks.ensures, length-take c.min-room.result c.loop-n.buf, c.loop-n.auto)

pub returns-in-Some-clause-heard : goal.returns-in-Some-clause-heard
returns-in-Some-clause-heard g c =
    let w = c.loop-n.invariant.waiting in
    let e = c.in-Bytes.ensures in
    let seen = seen_by g.L.Link.story g.L.Link.connect_faults g.L.Link.cuts g.L.Link.quiets in
    let kept : length c.receive.new.buf ≡ length (take c.min-room.result c.loop-n.buf) = c.receive.auto.buf in
    let piece : take c.in-Bytes.n (c.receive.new.buf ++ drop c.min-room.result c.loop-n.buf) ≡ take c.in-Bytes.n c.receive.new.buf = take-append-le c.in-Bytes.n c.receive.new.buf (drop c.min-room.result c.loop-n.buf) (omega (arith, e.bytes.1)) in
    let came : Came (Got (take c.in-Bytes.n c.receive.new.buf) ∷ []) (seen c.loop-n.link) (seen c.receive.new.self) = came_receive (seen c.loop-n.link) (seen c.receive.new.self) c.receive.new.buf (got.Bytes c.in-Bytes.n) e.story e.faults e.cuts e.quiets in
    elim c.in-Some.ensures.ends [
      | inl memory ↦ subst (λ (x : Ending). Heard (seen c.args.link.now) (seen c.receive.new.self) x) (sym memory) (heard_memory _ _ _ _ _ (Got (take c.in-Bytes.n c.receive.new.buf) ∷ []) w came)
      | inr ends ↦ heard_got _ _ _ _ _ (take c.in-Bytes.n c.receive.new.buf) c.in-Some.ending w came (subst (λ (p : List ℕ). FirstEnds (first_of (c.loop-n.frames ++ p)) c.in-Some.ending) piece ends)
    ]

pub loop-n-smaller-in_default : goal.loop-n-smaller-in_default
loop-n-smaller-in_default g c =
    let e = c.in-Bytes.ensures in
    let went = c.in_default.ensures.goes_on in
    let kept : length c.receive.new.buf ≡ length (take c.min-room.result c.loop-n.buf) = c.receive.auto.buf in
    let piece : take c.in-Bytes.n (c.receive.new.buf ++ drop c.min-room.result c.loop-n.buf) ≡ take c.in-Bytes.n c.receive.new.buf = take-append-le c.in-Bytes.n c.receive.new.buf (drop c.min-room.result c.loop-n.buf) (omega (arith, e.bytes.1)) in
    let held : c.take_in.new.frames ≡ c.loop-n.frames ++ take c.in-Bytes.n c.receive.new.buf = went.0 ∙ ap (λ (p : List ℕ). c.loop-n.frames ++ p) piece in
    let longer : length c.take_in.new.frames ≡ length c.loop-n.frames + c.in-Bytes.n = ap length held ∙ length-append c.loop-n.frames (take c.in-Bytes.n c.receive.new.buf) ∙ ap (λ (n : ℕ). length c.loop-n.frames + n) (length-take-le c.in-Bytes.n c.receive.new.buf (omega (arith, e.bytes.1))) in
    let short = partial_short c.take_in.new.frames (ap first_of went.0 ∙ went.1) in
    let few = waiting_few _ _ _ _ c.loop-n.invariant.waiting in
    omega (arith, e.bytes.0)

pub loop-n-preserved-in_default : goal.loop-n-preserved-in_default
loop-n-preserved-in_default g c =
    let e = c.in-Bytes.ensures in
    let went = c.in_default.ensures.goes_on in
    let seen = seen_by g.L.Link.story g.L.Link.connect_faults g.L.Link.cuts g.L.Link.quiets in
    let kept : length c.receive.new.buf ≡ length (take c.min-room.result c.loop-n.buf) = c.receive.auto.buf in
    let piece : take c.in-Bytes.n (c.receive.new.buf ++ drop c.min-room.result c.loop-n.buf) ≡ take c.in-Bytes.n c.receive.new.buf = take-append-le c.in-Bytes.n c.receive.new.buf (drop c.min-room.result c.loop-n.buf) (omega (arith, e.bytes.1)) in
    let held : c.take_in.new.frames ≡ c.loop-n.frames ++ take c.in-Bytes.n c.receive.new.buf = went.0 ∙ ap (λ (p : List ℕ). c.loop-n.frames ++ p) piece in
    let came : Came (Got (take c.in-Bytes.n c.receive.new.buf) ∷ []) (seen c.loop-n.link) (seen c.receive.new.self) = came_receive (seen c.loop-n.link) (seen c.receive.new.self) c.receive.new.buf (got.Bytes c.in-Bytes.n) e.story e.faults e.cuts e.quiets in
    let undecided = subst (λ (p : List ℕ). first_of (c.loop-n.frames ++ p) ≡ Partial) piece went.1 in
    record {
      waiting = subst (λ (h : List ℕ). Waiting (seen c.args.link.now) (seen c.receive.new.self) h 0) (sym held) (waiting_got _ _ _ _ _ (take c.in-Bytes.n c.receive.new.buf) c.loop-n.invariant.waiting came undecided);
      places = (e.places ∙ c.loop-n.invariant.places.0, e.own_cuts ∙ c.loop-n.invariant.places.1);
    }

pub overflow_add-quiets : goal.overflow_add-quiets
overflow_add-quiets g c = let few = waiting_few _ _ _ _ c.loop-n.invariant.waiting in omega arith

pub returns-then-quiets-eq-PATIENCE-clause-heard : goal.returns-then-quiets-eq-PATIENCE-clause-heard
returns-then-quiets-eq-PATIENCE-clause-heard g c =
    let w = c.loop-n.invariant.waiting in
    let e = c.in-Quiet.ensures in
    let seen = seen_by g.L.Link.story g.L.Link.connect_faults g.L.Link.cuts g.L.Link.quiets in
    let came = came_receive (seen c.loop-n.link) (seen c.receive.new.self) c.receive.new.buf got.Quiet e.story e.faults e.cuts e.quiets in
    heard_silence _ _ _ _ _ w came (c.if-quiets-eq-PATIENCE.true)

pub loop-n-smaller : goal.loop-n-smaller
loop-n-smaller g c = let few = waiting_few _ _ _ _ c.loop-n.invariant.waiting in omega arith

pub loop-n-preserved : goal.loop-n-preserved
loop-n-preserved g c =
    let w = c.loop-n.invariant.waiting in
    let e = c.in-Quiet.ensures in
    let few = waiting_few _ _ _ _ w in
    let seen = seen_by g.L.Link.story g.L.Link.connect_faults g.L.Link.cuts g.L.Link.quiets in
    let came = came_receive (seen c.loop-n.link) (seen c.receive.new.self) c.receive.new.buf got.Quiet e.story e.faults e.cuts e.quiets in
    record {
      waiting = waiting_silence _ _ _ _ _ w came (let not : c.loop-n.quiets + 1 ≢ 300 = c.if-quiets-eq-PATIENCE.false in omega arith);
      places = (e.places ∙ c.loop-n.invariant.places.0, e.own_cuts ∙ c.loop-n.invariant.places.1);
    }

pub returns-in-Closed-clause-heard : goal.returns-in-Closed-clause-heard
returns-in-Closed-clause-heard g c =
    let e = c.in-Closed.ensures in
    let seen = seen_by g.L.Link.story g.L.Link.connect_faults g.L.Link.cuts g.L.Link.quiets in
    heard_cut _ _ _ _ _ c.loop-n.invariant.waiting (came_receive (seen c.loop-n.link) (seen c.receive.new.self) c.receive.new.buf got.Closed e.story e.faults e.cuts e.quiets)

pub returns-in-NoMemory-clause-heard : goal.returns-in-NoMemory-clause-heard
returns-in-NoMemory-clause-heard g c =
    let e = c.in-NoMemory.ensures in
    let seen = seen_by g.L.Link.story g.L.Link.connect_faults g.L.Link.cuts g.L.Link.quiets in
    heard_memory _ _ _ _ _ [] c.loop-n.invariant.waiting (came_receive (seen c.loop-n.link) (seen c.receive.new.self) c.receive.new.buf got.NoMemory e.story e.faults e.cuts e.quiets)
