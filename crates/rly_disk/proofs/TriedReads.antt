-- Tries of reads alone: their effect, and the counters.
use Rattle.std.proofs.Common.{◌≡◌, ◌≤◌, ◌+◌, ◌++◌, ◌∷◌, [], ◌∙◌, ℕ, Bool, true, false, List, arith, sym, ap, subst, ⊎_elim, refl}
use Rattle.std.specs.Prelude.{if◌then◌else◌}
use Rattle.std.specs.List.{AllByRecursion}
use Rattle.std.proofs.lemmas.Bool.{false≢true}
use Rattle.rly_disk.specs.DiskModel.{Consistent, DiskState, NothingNew, Settled, SettlesNothing}
use Rattle.rly_disk.specs.Trace.{DeviceEvent, EndsAtFailure, EndsUncounted, FailedRead, IsFailed, IsMade, Read, are_reads, count_of, images_at_end, images_within, is_failed_call, is_failed_read, is_spent, is_still, is_sync_call, seen_at_end}
use Rattle.rly_disk.proofs.Making.{is_read_call}
use Rattle.rly_disk.proofs.Traces.{count_joined}
use Rattle.rly_disk.specs.Trials.{AreReads, AreTried, Tries, Try, failed_rows}

-- the events are reads, done or failed
abbrev AreRead : List DeviceEvent → Type 0
AreRead events = AllByRecursion (λ event. is_read_call event ≡ true) events

-- ---- the effect of such events

seen_same : (events : List DeviceEvent) → AreRead events → (seen : List ℕ) → seen_at_end events seen ≡ seen
seen_same [] read seen = refl
seen_same (Read place n ∷ events) read seen = seen_same events read.1 seen
seen_same (FailedRead place n ∷ events) read seen = seen_same events read.1 seen
seen_same (event ∷ events) read seen = absurd (false≢true read.0)

end_same : (events : List DeviceEvent) → AreRead events → (seen : List ℕ) (I : List ℕ → Type 0) (c : List ℕ) → images_at_end events seen I c → I c
end_same [] read seen I c image = image
end_same (Read place n ∷ events) read seen I c image = end_same events read.1 seen I c image
end_same (FailedRead place n ∷ events) read seen I c image = end_same events read.1 seen I c image
end_same (event ∷ events) read seen I c image = absurd (false≢true read.0)

within_same : (events : List DeviceEvent) → AreRead events → (seen : List ℕ) (I : List ℕ → Type 0) (c : List ℕ) → images_within events seen I c → I c
within_same [] read seen I c image = image
within_same (Read place n ∷ events) read seen I c image = ⊎_elim (λ now. now) (λ later. within_same events read.1 seen I c later) image
within_same (FailedRead place n ∷ events) read seen I c image = ⊎_elim (λ now. now) (λ later. within_same events read.1 seen I c later) image
within_same (event ∷ events) read seen I c image = absurd (false≢true read.0)

still_all : (events : List DeviceEvent) → AreRead events → is_still events ≡ true
still_all [] read = refl
still_all (Read place n ∷ events) read = still_all events read.1
still_all (FailedRead place n ∷ events) read = still_all events read.1
still_all (event ∷ events) read = absurd (false≢true read.0)

no_sync : (events : List DeviceEvent) → AreRead events → count_of is_sync_call events ≡ 0
no_sync [] read = refl
no_sync (Read place n ∷ events) read = omega (arith, no_sync events read.1)
no_sync (FailedRead place n ∷ events) read = omega (arith, no_sync events read.1)
no_sync (event ∷ events) read = absurd (false≢true read.0)

-- ---- the events of lists of reads

all_read : (calls : List DeviceEvent) → are_reads calls ≡ true → AreRead calls
all_read [] reads = tt
all_read (Read place n ∷ calls) reads = (refl, all_read calls reads)
all_read (event ∷ calls) reads = absurd (false≢true reads)

reads_front : (done rest : List DeviceEvent) → are_reads (done ++ rest) ≡ true → (are_reads done ≡ true) × (are_reads rest ≡ true)
reads_front [] rest reads = (refl, reads)
reads_front (Read place n ∷ done) rest reads = reads_front done rest reads
reads_front (event ∷ done) rest reads = absurd (false≢true reads)

both_read : (first second : List DeviceEvent) → AreRead first → AreRead second → AreRead (first ++ second)
both_read [] second one two = two
both_read (event ∷ first) second one two = (one.0, both_read first second one.1 two)

last_read : (call last : DeviceEvent) (rest : List DeviceEvent) → IsFailed call last → are_reads (call ∷ rest) ≡ true → is_read_call last ≡ true
last_read (Read place n) last rest failed reads = ap is_read_call failed
last_read call last rest failed reads = absurd (false≢true reads)

row_read : (whole spent : Bool) (calls events : List DeviceEvent) → IsMade whole spent calls events → are_reads calls ≡ true → AreRead events
row_read true spent calls events made reads = all_read events (ap are_reads made ∙ reads)
row_read false spent calls events made reads = ⊎_elim
    (λ (f : EndsAtFailure calls events).
    let parts = reads_front f.done (f.call ∷ f.rest) (ap are_reads (sym f.calls_are) ∙ reads) in
    subst AreRead (sym f.events_are) (both_read f.done (f.last ∷ []) (all_read f.done parts.0) (last_read f.call f.last f.rest f.failed parts.1, tt)))
    (λ (s : (spent ≡ true) × EndsUncounted calls events).
    all_read events (reads_front events (s.1.call ∷ s.1.rest) (ap are_reads (sym s.1.calls_are) ∙ reads)).0)
    made

rows_read : (spent : Bool) (rows : List Try) (events : List DeviceEvent) → AreTried spent rows events → AreReads rows → AreRead events
rows_read spent [] events tried reads = subst AreRead (sym tried) tt
rows_read spent (row ∷ rows) events tried reads =
    subst AreRead (sym tried.2)
    (both_read tried.0 tried.1 (row_read row.whole spent row.calls tried.0 tried.3 reads.0) (rows_read spent rows tried.1 tried.4 reads.1))

-- ---- the number of failed ones

abbrev one_if : Bool → ℕ
one_if b = if b then 1 else 0

module _ (kind : DeviceEvent → Bool) (never : (place n : ℕ) → kind (Read place n) ≡ false) (always : (place n : ℕ) → kind (FailedRead place n) ≡ true) where
  none_failed : (calls : List DeviceEvent) → are_reads calls ≡ true → count_of kind calls ≡ 0
  none_failed [] reads = refl
  none_failed (Read place n ∷ calls) reads = let one = ap one_if (never place n) in omega (arith, one, none_failed calls reads)
  none_failed (event ∷ calls) reads = absurd (false≢true reads)

  last_counts : (call last : DeviceEvent) (rest : List DeviceEvent) → IsFailed call last → are_reads (call ∷ rest) ≡ true → kind last ≡ true
  last_counts (Read place n) last rest failed reads = ap kind failed ∙ always place n
  last_counts call last rest failed reads = absurd (false≢true reads)

  row_count : (whole spent : Bool) (calls events : List DeviceEvent) → IsMade whole spent calls events → are_reads calls ≡ true
      → (count_of kind events ≤ (if whole then 0 else 1)) × (spent ≡ false → count_of kind events ≡ (if whole then 0 else 1))
  row_count true spent calls events made reads =
      let none : count_of kind events ≡ 0 = ap (count_of kind) made ∙ none_failed calls reads in
      (omega (arith, none), λ _. none)
  row_count false spent calls events made reads = ⊎_elim
      (λ (f : EndsAtFailure calls events).
      let parts = reads_front f.done (f.call ∷ f.rest) (ap are_reads (sym f.calls_are) ∙ reads) in
      let last = ap one_if (last_counts f.call f.last f.rest f.failed parts.1) in
      let one : count_of kind events ≡ 1 =
      omega (arith, last, none_failed f.done parts.0, ap (count_of kind) f.events_are, count_joined kind f.done (f.last ∷ [])) in
      (omega (arith, one), λ _. one))
      (λ (s : (spent ≡ true) × EndsUncounted calls events).
      let none = none_failed events (reads_front events (s.1.call ∷ s.1.rest) (ap are_reads (sym s.1.calls_are) ∙ reads)).0 in
      (omega (arith, none), λ counts. absurd (false≢true (sym counts ∙ s.0))))
      made

  rows_count : (spent : Bool) (rows : List Try) (events : List DeviceEvent) → AreTried spent rows events → AreReads rows
      → (count_of kind events ≤ failed_rows rows) × (spent ≡ false → count_of kind events ≡ failed_rows rows)
  rows_count spent [] events tried reads =
      let none : count_of kind events ≡ 0 = ap (count_of kind) tried in
      (omega (arith, none), λ _. none)
  rows_count spent (row ∷ rows) events tried reads =
      let one = row_count row.whole spent row.calls tried.0 tried.3 reads.0 in
      let rest = rows_count spent rows tried.1 tried.4 reads.1 in
      let both : count_of kind events ≡ count_of kind tried.0 + count_of kind tried.1 = ap (count_of kind) tried.2 ∙ count_joined kind tried.0 tried.1 in
      (omega (arith, both, one.0, rest.0), λ counts. omega (arith, both, one.1 counts, rest.1 counts))

-- ---- on a disk

module _ {D : Type 0} (state : D → DiskState) {a b : D} (rows : List Try) (tries : Tries state rows a b) (reads : AreReads rows) where
  read : AreRead tries.events
  read = rows_read (is_spent (state b)) rows tries.events tries.tried reads

  pub tried_new : (state a).honest → Consistent (state a) → NothingNew (state a) (state b)
  tried_new honest facts =
      let follows = tries.leads.follows honest in
      record {
        honest = tries.leads.honest.1 honest;
        seen = follows.seen ∙ seen_same tries.events read (state a).seen;
        images = λ c image. end_same tries.events read (state a).seen (state a).images c (follows.images c image);
        later = follows.later;
        since = λ t c le left. ⊎_elim (λ earlier. earlier)
            (λ now. facts.counts_now t c le (within_same tries.events read (state a).seen (state a).images c now))
            (follows.since t c le left);
        keeps = follows.keeps;
      }

  pub tried_still : (state a).honest → SettlesNothing (state a) (state b)
  tried_still honest =
      (tries.leads.follows honest).still (still_all tries.events read)

  pub tried_settled : Settled (state a) → ((state b).honest → Consistent (state b)) → Settled (state b)
  tried_settled settled facts =
      let new = tried_new settled.honest settled.consistent in
      record { honest = new.honest; consistent = facts new.honest; only = λ c image. settled.only c (new.images c image) ∙ sym new.seen }

  pub tried_syncs : (state b).syncs ≡ (state a).syncs
  tried_syncs = omega (arith, tries.leads.syncs, no_sync tries.events read)

  reads_count : (count_of is_failed_read tries.events ≤ failed_rows rows) × (is_spent (state b) ≡ false → count_of is_failed_read tries.events ≡ failed_rows rows)
  reads_count = rows_count is_failed_read (λ place n. refl) (λ place n. refl) (is_spent (state b)) rows tries.events tries.tried reads

  calls_count : (count_of is_failed_call tries.events ≤ failed_rows rows) × (is_spent (state b) ≡ false → count_of is_failed_call tries.events ≡ failed_rows rows)
  calls_count = rows_count is_failed_call (λ place n. refl) (λ place n. refl) (is_spent (state b)) rows tries.events tries.tried reads

  pub tried_most : (state b).failed_reads ≤ (state a).failed_reads + failed_rows rows
  tried_most = omega (arith, tries.leads.failed_reads, reads_count.0)

  pub tried_failed : is_spent (state b) ≡ false → (state b).failed_reads ≡ (state a).failed_reads + failed_rows rows
  tried_failed counts = omega (arith, tries.leads.failed_reads, reads_count.1 counts)

  pub tried_failures : is_spent (state b) ≡ false → (state b).failures ≡ (state a).failures + failed_rows rows
  tried_failures counts = omega (arith, tries.leads.failures, calls_count.1 counts)
