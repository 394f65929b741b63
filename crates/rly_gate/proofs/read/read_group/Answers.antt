use Rattle.rly_gate.proofs.Common.{[], ap, arith, drop, Err, HoldsGroup, le-leb, length-drop, length-take, List, Makes, makes_front, makes_joined, not-false}
use Rattle.rly_gate.proofs.Common.{quiet_new, Read, refl, rules, take, true, ℕ, ◌+◌, ◌∷◌, ◌≡◌, ◌≤◌}
use Rattle.std.proofs.lemmas.Result.{err_from_is_err_and}
use Rattle.rly_gate.proofs.Holding.{holds}
use Rattle.rly_gate.proofs.Rereading.{group_cut}
use Rattle.rly_gate.proofs.read.read_group.Goals.{In_ok-length}
use Rattle.rly_gate.proofs.read.read_group.Goals as goal

-- the gate is open, and the length was read
length_made : (g : _) (c : In_ok-length g) → Makes g.D.Disk.state (Read c.args.at 1 ∷ Read (c.args.at + 1) 4 ∷ []) true c.args.disk.now c.read_length.new.disk
length_made g c =
    let fits : c.args.at + 6 ≤ c.args.end = omega (arith, c.in_ok-length.ensures.within) in
    makes_joined g.D.Disk.state _ _ true c.in-Ok.ensures.trace (rw (le-leb (c.args.at + 6) c.args.end fits) at c.in_ok-length.ensures.trace)

-- the bytes after it are the body of a group
body_held : (g : _) (c : In_ok-length g) → (g.D.Disk.state c.args.disk.now).honest → {body : List ℕ}
    → body ≡ take c.in_ok-length.length (drop (c.args.at + 5) (g.D.Disk.state c.args.disk.now).seen)
    → HoldsGroup (g.D.Disk.state c.args.disk.now).seen c.args.at c.args.end body
body_held g c honest is =
    let facts = g.met.D.Disk.consistent c.args.disk.now honest in
    let first = quiet_new g.D.Disk.state c.in-Ok.ensures.trace refl honest facts in
    let field = c.in_ok-length.ensures.read first.honest in
    holds c.in_ok-length.length ((c.in-Ok.ensures.read honest).0 (search (rules, not-false))) (rw first.seen at field.0) field.1 c.in_ok-length.ensures.within
    (omega (arith, facts.seen_size, c.requires.end)) is

pub returns-in-Ok-read_bytes-clause-read : goal.returns-in-Ok-read_bytes-clause-read
returns-in-Ok-read_bytes-clause-read g c honest =
    let made = (goal.at.returns-in-Ok-read_bytes-clause-read g c).In_ok-length in
    let same = quiet_new g.D.Disk.state (length_made g made) refl honest (g.met.D.Disk.consistent c.args.disk.now honest) in
    let place : c.args.at + 1 + 4 ≡ c.args.at + 5 = omega arith in
    body_held g made honest (rw (same.seen, place) at (c.in-Ok-read_bytes.ensures.read same.honest))

pub returns-in-Err-OutOfMemory-clause-memory : goal.returns-in-Err-OutOfMemory-clause-memory
returns-in-Err-OutOfMemory-clause-memory g c honest refused =
    let size = (g.met.D.Disk.consistent c.args.disk.now honest).seen_size in
    let some = c.in-Err-OutOfMemory.ensures.memory (ap Err c.in-Err-OutOfMemory.field-0-is) in
    let held = body_held g (goal.at.returns-in-Err-OutOfMemory-clause-memory g c).In_ok-length honest refl in
    (_, held, simp (length-take, length-drop) (omega (arith, some, c.in_ok-length.ensures.within, size, c.requires.end)))

pub returns-in_default-clause-trace : goal.returns-in_default-clause-trace
returns-in_default-clause-trace g c = (0, makes_front g.D.Disk.state (Read c.args.at 1 ∷ []) _ (search rules))

pub returns-in_err-length-clause-trace : goal.returns-in_err-length-clause-trace
returns-in_err-length-clause-trace g c =
    let is = err_from_is_err_and c.from_residual.result c.from_residual.ensures.1 in
    rw (is.1, is.2) (group_cut ℕ c.args.end _ (λ refused. c.in_err-length.ensures.memory (ap Err refused)) c.in-Ok.ensures.trace c.in_err-length.ensures.trace)

pub returns-in-Err-Device-clause-trace : goal.returns-in-Err-Device-clause-trace
returns-in-Err-Device-clause-trace g c =
    let made = length_made g (goal.at.returns-in-Err-Device-clause-trace g c).In_ok-length in
    let place : c.args.at + 1 + 4 ≡ c.args.at + 5 = omega arith in
    (c.in_ok-length.length, makes_joined g.D.Disk.state _ _ _ made (rw (c.in-Err-Device.field-0-is, place) at c.in-Err-Device.ensures.trace))
