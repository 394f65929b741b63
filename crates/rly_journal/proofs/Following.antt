-- The consequences of the calls of an opening.
use Rattle.std.proofs.Common.{◌≡◌, ◌+◌, ◌++◌, ◌∷◌, [], ◌∙◌, ℕ, Bool, true, false, List, nat_le, le-leb, ap, append_assoc, arith, refl, subst, sym}
use Rattle.std.specs.Prelude.{◌≤◌, Err, None, Option, Some, Vec, if◌then◌else◌}
use Rattle.std.proofs.lemmas.Bool.{false≢true}
use Rattle.std.proofs.lemmas.List.{append-nil}
use Rattle.rly_core.specs.declared.params.Geometry.{Geometry}
use Rattle.rly_disk.specs.DiskModel.{Consistent, DiskState, Settled}
use Rattle.rly_disk.specs.Trace.{DeviceEvent, Makes, MakesFront, Read, Sync, are_quiet, are_reads, images_at_end, seen_at_end}
use Rattle.rly_disk.proofs.Making.{each_reads, makes_later, makes_settled, quiet_front, quiet_new, quiet_settled, reads_joined, reads_quiet}
use Rattle.rly_disk.proofs.Traces.{makes_joined}
use Rattle.rly_gate.specs.Calls.{group_reads, group_reads_succeeded}
use Rattle.rly_gate.specs.GroupReads.{OnlyRead}
use Rattle.rly_gate.specs.declared.read.GroupFault.{GroupFault}
use Rattle.rly_gate.specs.declared.read.GroupFault.TheVariants as group
use Rattle.rly_segment.specs.Calls.{generation_reads, head_reads, header_reads}
use Rattle.rly_segment.specs.Device.{IsLayout, geometry_in}
use Rattle.rly_segment.specs.Heads.{segment_place}
use Rattle.rly_journal.specs.declared.open_fault.OpenFault.{OpenFault}
use Rattle.rly_journal.specs.declared.open_fault.OpenFault.TheVariants as fault
use Rattle.rly_journal.specs.declared.tail.Tail.{Tail}
use Rattle.rly_journal.specs.OpenCalls.{BreaksOpening, EndsScan, MakesOpening, Scan, gate_past, group_scan, groups_scan, head_gate, head_scan, last_gate, open_calls, scan_calls, scan_before, open_calls_succeeded}

-- ---- the calls before a list

module _ {D : Type 0} (state : D → DiskState) {a b : D} {whole : Bool} where
  pub front_first : {calls : List DeviceEvent} (more : List DeviceEvent) → Makes state calls whole a b → MakesFront state (calls ++ more) whole a b
  front_first {calls} more made = record { front = calls; rest = more; calls_are = refl; makes = made }

  pub front_all : {calls : List DeviceEvent} → Makes state calls whole a b → MakesFront state calls whole a b
  front_all {calls} made = record { front = calls; rest = []; calls_are = sym (append-nil calls); makes = made }

  pub front_more : {calls : List DeviceEvent} (more : List DeviceEvent) → MakesFront state calls whole a b → MakesFront state (calls ++ more) whole a b
  front_more {calls} more made = record {
    front = made.front;
    rest = made.rest ++ more;
    calls_are = ap (λ l. l ++ more) made.calls_are ∙ append_assoc made.front made.rest more;
    makes = made.makes;
  }

  pub front_joined : {e : D} {first second : List DeviceEvent} → Makes state first true e a → MakesFront state second whole a b → MakesFront state (first ++ second) whole e b
  front_joined {e} {first} {second} one two = record {
    front = first ++ two.front;
    rest = two.rest;
    calls_are = ap (λ l. first ++ l) two.calls_are ∙ sym (append_assoc first two.front two.rest);
    makes = makes_joined state first two.front whole one two.makes;
  }

  -- reads and syncs write nothing
  pub only_made : {calls : List DeviceEvent} → ((disk : D) → (state disk).honest → Consistent (state disk)) → are_quiet calls ≡ true → Makes state calls whole a b → OnlyRead (state a) (state b)
  only_made facts quiet made = record {
    crash = λ honest. quiet_new state made quiet honest (facts a honest);
    settled = λ settled. quiet_settled state made quiet settled (facts b);
    later = makes_later state made;
  }

  pub only_front : {calls : List DeviceEvent} → ((disk : D) → (state disk).honest → Consistent (state disk)) → are_quiet calls ≡ true → MakesFront state calls whole a b → OnlyRead (state a) (state b)
  only_front {calls} facts quiet made = only_made facts (quiet_front made.front made.rest (ap are_quiet (sym made.calls_are) ∙ quiet)) made.makes

-- ---- a group that wasn't read

module _ {D : Type 0} {state : D → DiskState} {a b : D} (at end : ℕ) where
  pub group_broken : (A : Type 0) (why : GroupFault) → (n : ℕ) × Makes state (group_reads {A = A} at end n (Err why)) (group_reads_succeeded {A = Option (Vec ℕ A)} (Err why)) a b
      → (n : ℕ) × MakesFront state (group_scan at n) (group_reads_succeeded {A = Option (Vec ℕ A)} (Err why)) a b
  group_broken A group.Damaged made = (0, by_length (nat_le (at + 6) end) made.1)
    where
      by_length : (fits : Bool) → Makes state (Read at 1 ∷ (if fits then Read (at + 1) 4 ∷ [] else [])) true a b → MakesFront state (group_scan at 0) true a b
      by_length true made = front_first state (Read (at + 5) 0 ∷ []) made
      by_length false made = front_first state (Read (at + 1) 4 ∷ Read (at + 5) 0 ∷ []) made
  group_broken A group.OutOfMemory made = (0, front_first state (Read (at + 5) 0 ∷ []) made.1)
  group_broken A group.Device made = (made.0, front_all state made.1)

-- ---- the scan of a device

-- the header and the generation of each segment
abbrev pub gate_scan : Geometry → List DeviceEvent
gate_scan g = Read 0 53 ∷ generation_reads g g.segments

are_gates : (g : Geometry) → are_reads (gate_scan g) ≡ true
are_gates g = each_reads (λ t. Read (segment_place g t) 9 ∷ []) (λ t. refl) g.segments

pub gates_quiet : (g : Geometry) → are_quiet (gate_scan g) ≡ true
gates_quiet g = reads_quiet (gate_scan g) (are_gates g)

are_head : (g : Geometry) (segment n : ℕ) → are_reads (head_scan g segment n) ≡ true
are_head g segment n = reads_joined (gate_scan g) (head_reads (segment_place g segment) (Some n)) (are_gates g) refl

are_groups : (at : ℕ) (lengths : List ℕ) → are_reads (groups_scan at lengths) ≡ true
are_groups at [] = refl
are_groups at (n ∷ lengths) = are_groups (at + 5 + n) lengths

are_before : (x : Scan) → are_reads (scan_before x) ≡ true
are_before x = reads_joined (head_scan x.geometry x.segment x.head) (groups_scan (head_gate x) x.groups) (are_head x.geometry x.segment x.head) (are_groups (head_gate x) x.groups)

pub before_quiet : (x : Scan) → are_quiet (scan_before x) ≡ true
before_quiet x = reads_quiet (scan_before x) (are_before x)

pub scan_quiet : (x : Scan) → are_quiet (scan_calls x) ≡ true
scan_quiet x = reads_quiet (scan_calls x) (reads_joined (scan_before x) (Read (last_gate x) 1 ∷ []) (are_before x) refl)

-- one more group
abbrev pub with_body : Scan → ℕ → Scan
with_body x n = record x { groups = x.groups ++ n ∷ [] }

groups_push : (at : ℕ) (lengths : List ℕ) (n : ℕ) → groups_scan at (lengths ++ n ∷ []) ≡ groups_scan at lengths ++ group_scan (gate_past at lengths) n
groups_push at [] n = refl
groups_push at (m ∷ lengths) n = ap (λ l. group_scan at m ++ l) (groups_push (at + 5 + m) lengths n)

gate_push : (at : ℕ) (lengths : List ℕ) (n : ℕ) → gate_past at (lengths ++ n ∷ []) ≡ gate_past at lengths + 5 + n
gate_push at [] n = refl
gate_push at (m ∷ lengths) n = gate_push (at + 5 + m) lengths n

scan_push : (x : Scan) (n : ℕ) → scan_before (with_body x n) ≡ scan_before x ++ group_scan (last_gate x) n
scan_push x n =
    ap (λ l. head_scan x.geometry x.segment x.head ++ l) (groups_push (head_gate x) x.groups n)
    ∙ sym (append_assoc (head_scan x.geometry x.segment x.head) (groups_scan (head_gate x) x.groups) (group_scan (last_gate x) n))

-- the journal ends after it
abbrev pub past_body : Tail → ℕ → Tail
past_body tail n = record tail { gate = tail.gate + 5 + n }

pub ends_push : (tail : Tail) (x : Scan) (n : ℕ) → EndsScan tail x → EndsScan (past_body tail n) (with_body x n)
ends_push tail x n ends = record {
  geometry = ends.geometry;
  segment = ends.segment;
  gate = ap (λ k. k + 5 + n) ends.gate ∙ sym (gate_push (head_gate x) x.groups n);
}

module _ {D : Type 0} {state : D → DiskState} {a b e : D} {tail : Tail} (so_far : (x : Scan) × EndsScan tail x × Makes state (scan_before x) true a b) where
  -- a group was read
  pub scanned_group : (n : ℕ) → Makes state (group_scan tail.gate n) true b e
      → (y : Scan) × EndsScan (past_body tail n) y × Makes state (scan_before y) true a e
  scanned_group n made =
      let x : Scan = so_far.0 in (
        with_body x n,
        ends_push tail x n so_far.1,
        subst (λ l. Makes state l true a e) (sym (scan_push x n))
            (makes_joined state (scan_before x) (group_scan (last_gate x) n) true so_far.2 (rw so_far.1.gate at made)),
      )

  -- the gate after all groups was
  pub scanned_all : Makes state (Read tail.gate 1 ∷ []) true b e → (y : Scan) × EndsScan tail y × Makes state (scan_calls y) true a e
  scanned_all made =
      let x : Scan = so_far.0 in
      (x, so_far.1, makes_joined state (scan_before x) (Read (last_gate x) 1 ∷ []) true so_far.2 (rw so_far.1.gate at made))

  -- a group wasn't read completely
  pub scan_broken : {told : Bool} → (n : ℕ) × MakesFront state (group_scan tail.gate n) told b e → (y : Scan) × MakesFront state (scan_calls y) told a e
  scan_broken {told} cut =
      let x : Scan = so_far.0 in
      let n : ℕ = cut.0 in (
        with_body x n,
        front_more state (Read (last_gate (with_body x n)) 1 ∷ [])
            (subst (λ l. MakesFront state l told a e) (sym (scan_push x n)) (front_joined state so_far.2 (rw so_far.1.gate at cut.1))),
      )

-- a scan that failed in the head
head_broken : {D : Type 0} {state : D → DiskState} {a b : D} {told : Bool} (g : Geometry) (segment n : ℕ) → MakesFront state (head_scan g segment n) told a b
    → (y : Scan) × MakesFront state (scan_calls y) told a b
head_broken {state = state} g segment n made =
    let y : Scan = record { geometry = g; segment = segment; head = n; groups = [] } in
    (y, front_more state (Read (last_gate y) 1 ∷ []) (front_more state (groups_scan (head_gate y) []) made))

-- ---- an opening

-- a sync, and then reads, leave no write pending
quiet_end : (calls : List DeviceEvent) → are_quiet calls ≡ true → (seen : List ℕ) (I : List ℕ → Type 0) → ((c : List ℕ) → I c → c ≡ seen) → (c : List ℕ) → images_at_end calls seen I c → c ≡ seen_at_end calls seen
quiet_end [] quiet seen I only c image = only c image
quiet_end (Read place n ∷ calls) quiet seen I only c image = quiet_end calls quiet seen I only c image
quiet_end (Sync ∷ calls) quiet seen I only c image = quiet_end calls quiet seen (λ d. d ≡ seen) (λ d is. is) c image
quiet_end (event ∷ calls) quiet seen I only c image = absurd (false≢true quiet)

module _ {D : Type 0} (state : D → DiskState) (facts : (disk : D) → (state disk).honest → Consistent (state disk)) {a b : D} where
  pub opening_only : (x : Scan) → Makes state (open_calls x) true a b → OnlyRead (state a) (state b)
  opening_only x made = only_made state facts (scan_quiet x) made

  pub opening_settled : (x : Scan) → Makes state (open_calls x) true a b → (state a).honest → Settled (state b)
  opening_settled x made honest =
      makes_settled state made (λ seen I c image. quiet_end (scan_calls x) (scan_quiet x) seen (λ d. d ≡ seen) (λ d is. is) c image) honest (facts b)

  broken_quiet : {told : Bool} (broken : BreaksOpening state told a b) → are_quiet broken.front ≡ true
  broken_quiet broken = quiet_front broken.front broken.rest (ap are_quiet (sym broken.scan_is) ∙ scan_quiet broken.x)

  pub broken_only : {told : Bool} → BreaksOpening state told a b → OnlyRead (state a) (state b)
  broken_only broken = only_made state facts (broken_quiet broken) broken.makes

  pub broken_settled : BreaksOpening state true a b → (state a).honest → Settled (state b)
  broken_settled broken honest =
      makes_settled state broken.makes (λ seen I c image. quiet_end broken.front (broken_quiet broken) seen (λ d. d ≡ seen) (λ d is. is) c image) honest (facts b)

-- the sync failed
pub sync_broken : {D : Type 0} (state : D → DiskState) {a b : D} → Makes state (Sync ∷ []) false a b → BreaksOpening state false a b
sync_broken state made =
    let x : Scan = record { geometry = geometry_in []; segment = 0; head = 0; groups = [] } in
    record { x = x; front = []; rest = scan_calls x; scan_is = refl; makes = made }

-- it was made, and then the scan failed, or all was read
module _ {D : Type 0} (state : D → DiskState) {a b e : D} (synced : Makes state (Sync ∷ []) true a b) where
  pub read_broken : {told : Bool} → (x : Scan) × MakesFront state (scan_calls x) told b e → BreaksOpening state told a e
  read_broken {told} cut = record {
    x = cut.0;
    front = cut.1.front;
    rest = cut.1.rest;
    scan_is = cut.1.calls_are;
    makes = makes_joined state (Sync ∷ []) cut.1.front told synced cut.1.makes;
  }

  pub read_all : (tail : Tail) → (x : Scan) × EndsScan tail x × Makes state (scan_calls x) true b e → MakesOpening state tail a e
  read_all tail read = (read.0, read.1, makes_joined state (Sync ∷ []) (scan_calls read.0) true synced read.2)

-- a whole opening, known only to be made
pub opening_broken : {D : Type 0} (state : D → DiskState) {a b : D} (x : Scan) → Makes state (open_calls x) true a b → BreaksOpening state true a b
opening_broken state x made = record { x = x; front = scan_calls x; rest = []; scan_is = sym (append-nil (scan_calls x)); makes = made }

-- no call failed
pub told_when : (why : OpenFault) → (why ≡ fault.Device → ⊥) → open_calls_succeeded why ≡ true
told_when fault.OutOfMemory told = refl
told_when fault.NotADevice told = refl
told_when fault.BadGeometry told = refl
told_when (fault.Damaged place) told = refl
told_when fault.Device told = absurd (told refl)

-- ---- the head of a scan

module _ {D : Type 0} {state : D → DiskState} {a b : D} {told : Bool} where
  -- the header was read, or the device is shorter
  pub header_broken : (size : ℕ) → Makes state (header_reads size) told a b → (y : Scan) × MakesFront state (scan_calls y) told a b
  header_broken size made = head_broken (geometry_in []) 0 0 (by_length (nat_le 64 size) made)
    where
      by_length : (long : Bool) → Makes state (if long then Read 0 53 ∷ [] else []) told a b → MakesFront state (head_scan (geometry_in []) 0 0) told a b
      by_length true made = front_first state (generation_reads (geometry_in []) (geometry_in []).segments ++ head_reads (segment_place (geometry_in []) 0) (Some 0)) made
      by_length false made = front_first state (head_scan (geometry_in []) 0 0) made

  -- and then the generations
  pub gates_made : {e : D} (g : Geometry) (size : ℕ) → IsLayout g size → Makes state (header_reads size) true e a
      → Makes state (generation_reads g g.segments) told a b → Makes state (gate_scan g) told e b
  gates_made {e} g size layout header made =
      let long : 64 ≤ size = omega (arith, layout.room) in
      makes_joined state (Read 0 53 ∷ []) (generation_reads g g.segments) told
      (subst (λ t. Makes state (if t then Read 0 53 ∷ [] else []) true e a) (le-leb 64 size long) header) made

  -- up to one of them
  pub gates_broken : (g : Geometry) → Makes state (gate_scan g) told a b → (y : Scan) × MakesFront state (scan_calls y) told a b
  gates_broken g made = head_broken g 0 0 (front_first state (head_reads (segment_place g 0) (Some 0)) made)

  -- the head was, up to its body or a part of it
  head_front : (place : ℕ) (body : Option ℕ) → Makes state (head_reads place body) told a b → (n : ℕ) × MakesFront state (head_reads place (Some n)) told a b
  head_front place None made = (0, front_first state (Read (place + 13) 0 ∷ []) made)
  head_front place (Some n) made = (n, front_all state made)

  pub head_unread : {e : D} (g : Geometry) (segment : ℕ) (body : Option ℕ) → Makes state (gate_scan g) true e a
      → Makes state (head_reads (segment_place g segment) body) told a b → (y : Scan) × MakesFront state (scan_calls y) told e b
  head_unread g segment body before made =
      let read = head_front (segment_place g segment) body made in
      head_broken g segment read.0 (front_joined state before read.1)

-- all of it was, and no group yet
pub head_scanned : {D : Type 0} {state : D → DiskState} {a b e : D} (tail : Tail) (n : ℕ) → tail.gate ≡ segment_place tail.geometry tail.segment + 13 + n
    → Makes state (gate_scan tail.geometry) true a e → Makes state (head_reads (segment_place tail.geometry tail.segment) (Some n)) true e b
    → (x : Scan) × EndsScan tail x × Makes state (scan_before x) true a b
head_scanned {state = state} {a} {b} tail n behind before made = (
  record { geometry = tail.geometry; segment = tail.segment; head = n; groups = [] },
  record { geometry = refl; segment = refl; gate = behind },
  subst (λ l. Makes state l true a b) (sym (append-nil (head_scan tail.geometry tail.segment n)))
      (makes_joined state (gate_scan tail.geometry) (head_reads (segment_place tail.geometry tail.segment) (Some n)) true before made),
)
