-- The consequences if a list of calls was made.
use Rattle.rly_disk.proofs.Common.{[], add-one, AllWrites, append-nil, are_quiet, are_reads, arith, Bool, cases_eq, Consistent, count_of, DeviceEvent}
use Rattle.rly_disk.proofs.Common.{DiskState, each_below, Err, FailedRead, FailedWrite, false, false≢true, HasFailed, images_after, images_at_end}
use Rattle.rly_disk.proofs.Common.{images_within, inl, inr, is_failed_call, is_ok, is_spent, is_sync_call, IsErr, IsFailed, IsMade, IsTorn, IsWritten, Later}
use Rattle.rly_disk.proofs.Common.{LeavesOnly, length, length-take, List, Makes, nat_tests, NothingNew, Ok, OnlyReads, bytes_after_write, overwritten_within, Read}
use Rattle.rly_disk.proofs.Common.{refl, Result, SameOutside, seen_after, seen_at_end, Settled, suc, Sync, take, true, wider, Write, zero, ℕ, ⊎_elim, ◌++◌, ◌+◌}
use Rattle.rly_disk.proofs.Common.{◌<◌, ◌∙◌, ◌∷◌, ◌≡◌, ◌≤◌, ◌⊎◌}
use Rattle.rly_disk.proofs.Traces.{within_start, within_grows, within_joined, makes_front, makes_joined}

-- ---- the events of a list against its calls

-- call by call: each was done, up to one that failed or wasn't counted
pub data Row : (whole spent : Bool) → (calls events : List DeviceEvent) → Type 0 where
  Whole : {spent : Bool} → Row true spent [] []
  Done : {whole spent : Bool} {call : DeviceEvent} {calls events : List DeviceEvent} → Row whole spent calls events
      → Row whole spent (call ∷ calls) (call ∷ events)
  Failed : {spent : Bool} {call last : DeviceEvent} {rest : List DeviceEvent} → IsFailed call last → Row false spent (call ∷ rest) (last ∷ [])
  Uncounted : {call : DeviceEvent} {rest : List DeviceEvent} → Row false true (call ∷ rest) []

after_done : (done : List DeviceEvent) {whole spent : Bool} {calls events : List DeviceEvent} → Row whole spent calls events
    → Row whole spent (done ++ calls) (done ++ events)
after_done [] row = row
after_done (call ∷ done) row = Done (after_done done row)

pub row_of : (whole spent : Bool) (calls events : List DeviceEvent) → IsMade whole spent calls events → Row whole spent calls events
row_of true spent calls events made = rw made (rw append-nil at (after_done calls (Whole {spent = spent})))
row_of false spent calls events (inl f) = rw (f.calls_are, f.events_are) (after_done f.done (Failed f.failed))
row_of false spent calls events (inr s) = rw (s.0, s.1.calls_are) (rw append-nil at (after_done events (Uncounted {call = s.1.call} {rest = s.1.rest})))

pub made_row : {D : Type 0} {state : D → DiskState} {a b : D} {calls : List DeviceEvent} {whole : Bool} (made : Makes state calls whole a b)
    → Row whole (is_spent (state b)) calls made.events
made_row {state = state} {b = b} {calls} {whole} made = row_of whole (is_spent (state b)) calls made.events made.made

-- the images of a list that was cut are among those of the whole list
within_row : {whole spent : Bool} {calls events : List DeviceEvent} → Row whole spent calls events → (seen : List ℕ) (I : List ℕ → Type 0) (c : List ℕ)
    → images_within events seen I c → images_within calls seen I c
within_row (Done {call = call} row) seen I c image = let more = within_row row (seen_after call seen) (images_after call seen I) c in grind (arith, more)
within_row (Failed {call = call} {rest = rest} failed) seen I c image =
    let more = within_start rest (seen_after call seen) (images_after call seen I) c in grind (arith, more)
within_row row seen I c image = grind arith

-- at most the syncs of the list, at most one failure more, and at least one if not all calls were made
pub row_counts : {whole spent : Bool} {calls events : List DeviceEvent} → Row whole spent calls events
    → (count_of is_sync_call events ≤ count_of is_sync_call calls) × (count_of is_failed_call events ≤ count_of is_failed_call calls + 1)
    × (whole ≡ false → (1 ≤ count_of is_failed_call events) ⊎ (spent ≡ true))
row_counts (Done row) = let more = row_counts row in (omega (arith, more.0), omega (arith, more.1), λ cut. grind (arith, more.2 cut))
row_counts (Failed failed) = (grind arith, grind arith, λ cut. grind arith)
row_counts row = (omega arith, omega arith, λ cut. grind arith)

-- no read failed if no call was a failed read
abbrev pub is_read_call : DeviceEvent → Bool
is_read_call (Read place count) = true
is_read_call (FailedRead place count) = true
is_read_call call = false

-- ---- the effects of lists: one image after a sync, no new one without a write

-- after these calls there is one image
abbrev pub AreSynced : List DeviceEvent → Type 1
AreSynced calls = (seen : List ℕ) (I : List ℕ → Type 0) (c : List ℕ) → images_at_end calls seen I c → c ≡ seen_at_end calls seen

pub synced_behind : (calls more : List DeviceEvent) → AreSynced more → AreSynced (calls ++ more)
synced_behind [] more synced = synced
synced_behind (call ∷ calls) more synced = λ seen I. synced_behind calls more synced (seen_after call seen) (images_after call seen I)

pub synced_sync : AreSynced (Sync ∷ [])
synced_sync seen I c image = image

-- the calls of a part
pub quiet_front : (done rest : List DeviceEvent) → are_quiet (done ++ rest) ≡ true → are_quiet done ≡ true
quiet_front [] rest quiet = refl
quiet_front (call ∷ done) rest quiet = let more = quiet_front done rest in grind (arith, more)

-- they leave the bytes that a read returns unchanged
pub quiet_seen : {whole spent : Bool} {calls events : List DeviceEvent} → Row whole spent calls events → are_quiet calls ≡ true → (seen : List ℕ)
    → seen_at_end events seen ≡ seen
quiet_seen (Done {call = call} row) quiet seen = let more = λ (still : _). quiet_seen row still seen in grind (arith, more)
quiet_seen (Failed failed) quiet seen = grind arith
quiet_seen row quiet seen = refl

-- they leave no new image
pub quiet_within : (calls : List DeviceEvent) → are_quiet calls ≡ true → (seen : List ℕ) (I : List ℕ → Type 0) → I seen → (c : List ℕ)
    → images_within calls seen I c → I c
quiet_within [] quiet seen I here c image = image
quiet_within (call ∷ calls) quiet seen I here c image =
    let more = λ (still : _) (there : _). quiet_within calls still (seen_after call seen) (images_after call seen I) there c in grind (arith, more)

pub reads_sound : (calls : List DeviceEvent) → are_reads calls ≡ true → count_of is_failed_call calls ≡ 0
reads_sound [] reads = refl
reads_sound (call ∷ calls) reads = let more = reads_sound calls in grind (arith, more)

pub reads_joined : (first second : List DeviceEvent) → are_reads first ≡ true → are_reads second ≡ true → are_reads (first ++ second) ≡ true
reads_joined [] second one two = two
reads_joined (call ∷ first) second one two = let more = reads_joined first second in grind (arith, more)

pub reads_quiet : (calls : List DeviceEvent) → are_reads calls ≡ true → are_quiet calls ≡ true
reads_quiet [] reads = refl
reads_quiet (call ∷ calls) reads = let more = reads_quiet calls in grind (arith, more)

-- a write that may have failed lies in a range that contains it
write_outside : {whole spent : Bool} {place n : ℕ} {bytes seen : List ℕ} {events : List DeviceEvent} → Row whole spent (Write place bytes ∷ []) events
    → length bytes ≤ n → place + n ≤ length seen → SameOutside place n seen (seen_at_end events seen)
write_outside {place = place} {n} {bytes} {seen} (Done Whole) short room = overwritten_within place n bytes seen short room
write_outside {place = place} {n} {bytes} {seen} (Failed failed) short room =
    rw failed.1 (overwritten_within place n _ seen (omega (arith, length-take (length bytes) failed.0)) room)
write_outside Uncounted short room = assumption

-- ---- a list of calls that was made

module _ {D : Type 0} (state : D → DiskState) {a b : D} {calls : List DeviceEvent} where
  pub makes_failed : Makes state calls false a b → HasFailed (state a) (state b)
  makes_failed made = let failed = (row_counts (made_row made)).2 refl in grind (arith, nat_tests)

  -- an error is returned
  pub cut_short : {A E : Type 0} (result : Result A E) → IsErr result → Makes state calls false a b → Makes state calls (is_ok result) a b
  cut_short (Ok done) failed made = absurd (false≢true failed)
  cut_short (Err fault) failed made = made

  -- the bytes that a read returns at the end
  pub makes_seen : Makes state calls true a b → (state a).honest → (state b).seen ≡ seen_at_end calls (state a).seen
  makes_seen made honest = rw (← made.made) (made.leads.follows honest).seen

  pub makes_settled : Makes state calls true a b → AreSynced calls → (state a).honest → ((state b).honest → Consistent (state b)) → Settled (state b)
  makes_settled made synced honest facts =
      let images = rw made.made at (made.leads.follows honest).images in
      search (makes_seen made honest, synced (state a).seen (state a).images, images, made.leads.honest.1, facts)

module _ {D : Type 0} (state : D → DiskState) {a b : D} {calls : List DeviceEvent} {whole : Bool} (made : Makes state calls whole a b) where
  pub makes_later : Later (state a) (state b)
  makes_later = search arith

  pub makes_syncs : (state b).syncs ≤ (state a).syncs + count_of is_sync_call calls
  makes_syncs = omega (arith, made.leads.syncs, (row_counts (made_row made)).0)

  -- an image of the end, or of a moment since one before the list, is one of the list's moments, or of before it
  leaves : (P : List ℕ → Type 0) → (state a).honest → ((c : List ℕ) → images_within calls (state a).seen (state a).images c → P c)
      → ((c : List ℕ) → (state b).images c → P c) × ((t : ℕ) (c : List ℕ) → t ≤ (state a).moment → (state b).since t c → (state a).since t c ⊎ P c)
  leaves P honest here =
      let follows = made.leads.follows honest in
      let kept = λ (c : List ℕ) (now : _). here c (within_row (made_row made) (state a).seen (state a).images c now) in (
        λ c image. kept c (rw append-nil at ((within_joined made.events [] (state a).seen (state a).images c).1 (inr (follows.images c image)))),
        λ t c le left. grind (arith, kept c, follows.since t c le left),
      )

  pub quiet_new : are_quiet calls ≡ true → (state a).honest → Consistent (state a) → NothingNew (state a) (state b)
  quiet_new quiet honest facts =
      let follows = made.leads.follows honest in
      let left = leaves (state a).images honest (quiet_within calls quiet (state a).seen (state a).images facts.seen_is_image) in
      search (arith, follows.seen ∙ quiet_seen (made_row made) quiet (state a).seen, made.leads.honest.1, left.1, facts.counts_now)

  pub quiet_settled : are_quiet calls ≡ true → Settled (state a) → ((state b).honest → Consistent (state b)) → Settled (state b)
  quiet_settled quiet settled facts = let new = quiet_new quiet settled.honest settled.consistent in search (arith, facts, settled.only, new.images)

module _ {D : Type 0} (state : D → DiskState) {a b : D} {whole : Bool} where
  -- the images of a crash at any moment, whether all calls were made or not
  pub makes_leaves : {calls : List DeviceEvent} (P : List ℕ → Type 0) → Makes state calls whole a b → Settled (state a)
      → ((c : List ℕ) → images_within calls (state a).seen (λ d. d ≡ (state a).seen) c → P c) → LeavesOnly (state a) (state b) P
  makes_leaves {calls} P made settled here =
      let kept = λ (c : List ℕ) (now : _). here c (within_grows calls (state a).seen (state a).images (λ d. d ≡ (state a).seen) settled.only c now) in
      let start = λ (c : List ℕ) (now : _). kept c (within_start calls (state a).seen (state a).images c now) in
      search (arith, (leaves state made P settled.honest kept).1, (made.leads.follows settled.honest).later, start, settled.consistent.only_now)

  -- a write that may have failed, with all bytes outside a range unchanged
  pub write_written : (place n : ℕ) (bytes : List ℕ) → length bytes ≤ n → Makes state (Write place bytes ∷ []) whole a b → (state a).honest
      → Consistent (state a) → place + n ≤ (state a).size → IsWritten place n (state a) (state b)
  write_written place n bytes short made honest facts fits =
      let follows = made.leads.follows honest in
      let left = leaves state made (IsTorn place n (state a).images) honest (λ c. ⊎_elim (λ before. (c, before, assumption))
      (λ torn. (torn.0, torn.1, wider place n place (length bytes) (omega arith) (omega arith) torn.2))) in
      search (made.leads.honest.1, rw (← follows.seen) at (write_outside {seen = (state a).seen} (made_row made) short (omega (arith, facts.seen_size))))

  pub reads_of : (calls : List DeviceEvent) → are_reads calls ≡ true → Makes state calls whole a b → OnlyReads state whole a b
  reads_of calls reads made = record { calls = calls; reads = reads; makes = made }

  pub reads_new : OnlyReads state whole a b → (state a).honest → Consistent (state a) → NothingNew (state a) (state b)
  reads_new only honest facts = quiet_new state only.makes (reads_quiet only.calls only.reads) honest facts

-- ---- the calls for each number below another

pub each_reads : (calls : ℕ → List DeviceEvent) → ((t : ℕ) → are_reads (calls t) ≡ true) → (n : ℕ) → are_reads (each_below calls n) ≡ true
each_reads calls all zero = refl
each_reads calls all (suc n) = reads_joined (each_below calls n) (calls n) (each_reads calls all n) (all n)

module _ {D : Type 0} (state : D → DiskState) (calls : ℕ → List DeviceEvent) {a b e : D} where
  pub each_next : {whole : Bool} (k : ℕ) → Makes state (each_below calls k) true a b → Makes state (calls k) whole b e
      → Makes state (each_below calls (k + 1)) whole a e
  each_next {whole = whole} k first second = rw add-one (makes_joined state (each_below calls k) (calls k) whole first second)

  pub each_failed : (k n : ℕ) → k < n → Makes state (each_below calls k) true a b → Makes state (calls k) false b e → Makes state (each_below calls n) false a e
  each_failed k zero below first second = absurd (omega (arith, below))
  each_failed k (suc n) below first second = elim (cases_eq n k) [
    | inl last ↦ rw last (makes_joined state (each_below calls k) (calls k) false first second)
    | inr more ↦ makes_front state (each_below calls n) (calls n) (each_failed k n (omega (arith, below, more)) first second)
  ]

-- ---- the crash images of two lists, the first of which leaves no write pending

pub synced_then : (first second : List DeviceEvent) → AreSynced first → (seen : List ℕ) (I : List ℕ → Type 0) (c : List ℕ)
    → images_within (first ++ second) seen I c
    → images_within first seen I c ⊎ images_within second (seen_at_end first seen) (λ d. d ≡ seen_at_end first seen) c
synced_then first second synced seen I c image =
    let past = within_grows second (seen_at_end first seen) _ _ (synced seen I) c in grind (arith, past, (within_joined first second seen I c).0 image)

-- ---- a list whose writes keep a property of an image

module _ (R : List ℕ → Type 0) (IsRange : ℕ → ℕ → Type 0) (fits : (place n : ℕ) (c : List ℕ) → IsRange place n → R c → place + n ≤ length c)
    (keeps : (place n : ℕ) (c d : List ℕ) → IsRange place n → R c → SameOutside place n c d → R d) where
  -- n bytes at an offset are overwritten by at most n
  written_kept : (place n : ℕ) (bytes seen : List ℕ) (I : List ℕ → Type 0) → length bytes ≤ n → IsRange place n → R seen → ((c : List ℕ) → I c → R c)
      → R (bytes_after_write place bytes seen) × ((c : List ℕ) → IsTorn place n I c → R c)
  written_kept place n bytes seen I short range here images =
      let over = overwritten_within place n bytes seen short (fits place n seen range here) in
      (keeps place n seen _ range here over, λ c torn. keeps place n torn.0 c range (images torn.0 torn.1) torn.2)

  pub kept : (calls : List DeviceEvent) (seen : List ℕ) (I : List ℕ → Type 0) → AllWrites IsRange calls → R seen → ((c : List ℕ) → I c → R c)
      → (c : List ℕ) → images_within calls seen I c → R c
  kept [] seen I all here images c image = images c image
  kept (Write place bytes ∷ calls) seen I all here images c image =
      let after = written_kept place (length bytes) bytes seen I (omega arith) all.0 here images in
      ⊎_elim (images c) (kept calls _ (IsTorn place (length bytes) I) all.1 after.0 after.1 c) image
  kept (FailedWrite place bytes left ∷ calls) seen I all here images c image =
      let after = written_kept place (length bytes) (take (length bytes) left) seen I (omega (arith, length-take (length bytes) left)) all.0 here images in
      ⊎_elim (images c) (kept calls _ (IsTorn place (length bytes) I) all.1 after.0 after.1 c) image
  kept (Sync ∷ calls) seen I all here images c image = ⊎_elim (images c) (kept calls seen (λ d. d ≡ seen) all here (λ d is. rw is here) c) image
  kept (event ∷ calls) seen I all here images c image = ⊎_elim (images c) (kept calls seen I all here images c) image

  -- a crash at any moment of the list
  pub leaves_kept : {D : Type 0} (state : D → DiskState) {a b : D} {calls : List DeviceEvent} {whole : Bool} → Makes state calls whole a b → Settled (state a)
      → AllWrites IsRange calls → R (state a).seen → LeavesOnly (state a) (state b) R
  leaves_kept state {a} {b} {calls} made settled all here =
      makes_leaves state R made settled (kept calls (state a).seen (λ d. d ≡ (state a).seen) all here (λ d is. rw is here))

-- two lists
pub all_joined : (IsRange : ℕ → ℕ → Type 0) (first second : List DeviceEvent) → AllWrites IsRange first → AllWrites IsRange second
    → AllWrites IsRange (first ++ second)
all_joined IsRange [] second one two = two
all_joined IsRange (call ∷ first) second one two = let more = all_joined IsRange first second in grind (arith, more)

-- the calls for each number below another
pub each_all : (IsRange : ℕ → ℕ → Type 0) (calls : ℕ → List DeviceEvent) (n : ℕ) → ((t : ℕ) → t < n → AllWrites IsRange (calls t))
    → AllWrites IsRange (each_below calls n)
each_all IsRange calls zero all = tt
each_all IsRange calls (suc n) all =
    all_joined IsRange (each_below calls n) (calls n) (each_all IsRange calls n (λ t below. all t (omega (arith, below)))) (all n (omega arith))
