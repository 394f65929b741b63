-- The end of the part of an image that was read, and a gate that stops the scan.
use Rattle.std.proofs.Common.{◌≡◌, ℕ, Bool, List, length, sym, subst}
use Rattle.rly_core.specs.declared.params.Geometry.{Geometry}
use Rattle.rly_disk.specs.DiskModel.{DiskState}
use Rattle.rly_gate.specs.Group.{IsOpen}
use Rattle.rly_gate.specs.GroupReads.{HoldsGroup, HoldsNone, OnlyRead}
use Rattle.rly_machine.specs.Fold.{AllAccepted}
use Rattle.rly_machine.specs.State.{State}
use Rattle.rly_record.specs.Spelling.{HaveBody, body_of}
use Rattle.rly_segment.specs.Heads.{segment_end}
use Rattle.rly_journal.specs.declared.tail.Tail.{Tail}
use Rattle.rly_journal.specs.Faults.{IsBroken}
use Rattle.rly_journal.specs.Log.{EndsAt}
use Rattle.rly_journal.specs.HelpersScan.{IsReplayed}
use Rattle.rly_journal.specs.Recovery.{Commands, Recovery, recovery_end}
use Rattle.rly_journal.proofs.Once.{body_there_once, gate_there}

-- a disk that was only read reads the same again
pub read_again : {a b : DiskState} (P : List ℕ → Type 0) → OnlyRead a b → (b.honest → P b.seen) → a.honest → P a.seen
read_again P only read honest = let same = only.crash honest in subst P same.seen (read same.honest)

-- ---- the end

-- the end after a head
abbrev pub head_tail : Geometry → ℕ → ℕ → ℕ → List Bool → Tail
head_tail g segment generation gate closed = record { geometry = g; segment = segment; generation = generation; gate = gate; closed = closed }

-- the end after a gate
abbrev pub with_gate : Tail → ℕ → Tail
with_gate tail gate = record tail { gate = gate }

group_of_tail : {image : List ℕ} (tail : Tail) (x : Recovery) (body : List ℕ) → EndsAt tail x
    → HoldsGroup image tail.gate (recovery_end x) body → HoldsGroup image tail.gate (segment_end tail.geometry tail.segment) body
group_of_tail {image} tail x body ends holds =
    subst (λ g. HoldsGroup image tail.gate (segment_end g tail.segment) body) (sym ends.geometry)
    (subst (λ n. HoldsGroup image tail.gate (segment_end x.geometry n) body) (sym ends.segment) holds)

-- ---- no group of accepted commands lies at the end

pub broken_at : (image : List ℕ) (tail : Tail) (s : State (List ℕ)) → IsReplayed image tail s → IsOpen image tail.gate
    → ((commands : Commands) → HaveBody commands → HoldsGroup image tail.gate (segment_end tail.geometry tail.segment) (body_of commands) → AllAccepted length s commands → ⊥)
    → IsBroken image tail.gate
broken_at image tail s so_far gate none = record {
  x = so_far.x;
  scanned = so_far.scanned;
  at = so_far.ends.gate;
  gate = gate;
  none = λ commands have holds accepted.
      none commands have (group_of_tail tail so_far.x (body_of commands) so_far.ends holds) (subst (λ m. AllAccepted length m commands) (sym so_far.state) accepted);
}

-- no body lies there
pub broken_body : (image : List ℕ) (tail : Tail) (s : State (List ℕ)) → IsReplayed image tail s → IsOpen image tail.gate
    → HoldsNone image tail.gate (segment_end tail.geometry tail.segment) → IsBroken image tail.gate
broken_body image tail s so_far gate none = broken_at image tail s so_far gate (λ commands have holds accepted. none (body_of commands) holds)

-- the body there encodes no commands that are all accepted
pub broken_commands : (image : List ℕ) (tail : Tail) (body : List ℕ) (s : State (List ℕ)) → IsReplayed image tail s
    → HoldsGroup image tail.gate (segment_end tail.geometry tail.segment) body
    → ((commands : Commands) → HaveBody commands → body ≡ body_of commands → AllAccepted length s commands → ⊥) → IsBroken image tail.gate
broken_commands image tail body s so_far holds none =
    let end : ℕ = segment_end tail.geometry tail.segment in
    broken_at image tail s so_far (gate_there image tail.gate end body holds)
    (λ commands have other accepted. none commands have (body_there_once tail.gate end body (body_of commands) holds other) accepted)
