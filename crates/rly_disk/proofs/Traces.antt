-- Lists of events: one call, and one list after another.
use Rattle.rly_disk.proofs.Common.{[], ap, append_assoc, arith, Bool, cases_lt, Consistent, count_of, Counted, DeviceEvent, DiskState, Err, FailedRead}
use Rattle.rly_disk.proofs.Common.{FailedSync, FailedWrite, false, false≢true, Follows, if◌then◌else◌, images_after, images_at_end, images_within, inl, inr}
use Rattle.rly_disk.proofs.Common.{is_failed_call, is_failed_read, is_ok, is_spent, is_still, is_sync_call, IsCut, IsErr, IsFailed, IsMade, IsSpent, IsWritten}
use Rattle.rly_disk.proofs.Common.{Later, Leads, length, length-append, length-drop, length-take, List, Makes, nat_tests, nil_from_length, NothingNew, Ok}
use Rattle.rly_disk.proofs.Common.{OnErr, OnOk, bytes_after_write, Read, refl, Result, seen_after, seen_at_end, Settled, SettlesNothing, slice_range, Sync, take_all}
use Rattle.rly_disk.proofs.Common.{true, Write, written_over, ℕ, ⊎_elim, ◌++◌, ◌+◌, ◌-◌, ◌^◌, ◌↔◌, ◌∙◌, ◌∷◌, ◌≡◌, ◌≤◌, ◌⊎◌}

abbrev pub one_if : Bool → ℕ
one_if b = if b then 1 else 0

-- more images before an event give more after it
images_grow : (event : DeviceEvent) (seen : List ℕ) (I K : List ℕ → Type 0) → ((c : List ℕ) → I c → K c) → (c : List ℕ) → images_after event seen I c
    → images_after event seen K c
images_grow Sync seen I K more c image = image
images_grow event seen I K more c image = search more

pub end_grows : (events : List DeviceEvent) (seen : List ℕ) (I K : List ℕ → Type 0) → ((c : List ℕ) → I c → K c) → (c : List ℕ) → images_at_end events seen I c
    → images_at_end events seen K c
end_grows [] seen I K more c image = more c image
end_grows (event ∷ events) seen I K more c image = end_grows events (seen_after event seen) _ _ (images_grow event seen I K more) c image

pub within_grows : (events : List DeviceEvent) (seen : List ℕ) (I K : List ℕ → Type 0) → ((c : List ℕ) → I c → K c) → (c : List ℕ)
    → images_within events seen I c → images_within events seen K c
within_grows [] seen I K more c image = more c image
within_grows (event ∷ events) seen I K more c image =
    let later = within_grows events (seen_after event seen) _ _ (images_grow event seen I K more) c in grind (arith, more c)

-- one list after the other
pub seen_joined : (first second : List DeviceEvent) (seen : List ℕ) → seen_at_end (first ++ second) seen ≡ seen_at_end second (seen_at_end first seen)
seen_joined [] second seen = refl
seen_joined (event ∷ first) second seen = seen_joined first second (seen_after event seen)

pub end_joined : (first second : List DeviceEvent) (seen : List ℕ) (I : List ℕ → Type 0) (c : List ℕ)
    → images_at_end second (seen_at_end first seen) (images_at_end first seen I) c → images_at_end (first ++ second) seen I c
end_joined [] second seen I c image = image
end_joined (event ∷ first) second seen I c image = end_joined first second (seen_after event seen) (images_after event seen I) c image

pub within_start : (events : List DeviceEvent) (seen : List ℕ) (I : List ℕ → Type 0) (c : List ℕ) → I c → images_within events seen I c
within_start [] seen I c image = image
within_start (event ∷ events) seen I c image = inl image

-- the images of the moments of two lists are those of the first and those of the second
pub within_joined : (first second : List DeviceEvent) (seen : List ℕ) (I : List ℕ → Type 0) (c : List ℕ) → images_within (first ++ second) seen I c
    ↔ (images_within first seen I c ⊎ images_within second (seen_at_end first seen) (images_at_end first seen I) c)
within_joined [] second seen I c = (λ later. inr later, ⊎_elim (within_start second seen I c) (λ later. later))
within_joined (event ∷ first) second seen I c =
    let more = within_joined first second (seen_after event seen) (images_after event seen I) c in grind (arith, more.0, more.1)

pub count_joined : (kind : DeviceEvent → Bool) (first second : List DeviceEvent) → count_of kind (first ++ second) ≡ count_of kind first + count_of kind second
count_joined kind [] second = omega arith
count_joined kind (event ∷ first) second = omega (arith, count_joined kind first second)

still_parts : (first second : List DeviceEvent) → is_still (first ++ second) ≡ true → (is_still first ≡ true) × (is_still second ≡ true)
still_parts [] second still = (refl, still)
still_parts (event ∷ first) second still = let more = still_parts first second in grind (arith, more)

follows_joined : {a b e : DiskState} (first second : List DeviceEvent) → Follows first a b → Follows second b e → Follows (first ++ second) a e
follows_joined {a} {b} {e} first second one two =
    let images : (c : List ℕ) → e.images c → images_at_end (first ++ second) a.seen a.images c = λ c image.
    end_joined first second a.seen a.images c (end_grows second _ _ _ one.images c (rw one.seen at (two.images c image))) in
    let within = λ (c : List ℕ). (within_joined first second a.seen a.images c).1 in
    let past : (c : List ℕ) → images_within second b.seen b.images c → images_within (first ++ second) a.seen a.images c = λ c now.
    within c (inr (within_grows second _ _ _ one.images c (rw one.seen at now))) in
    search (arith, seen_joined first second a.seen, within, still_parts first second, one.since, two.since, one.keeps, two.keeps, one.still, two.still)

pub leads_joined : {a b e : DiskState} (first second : List DeviceEvent) → Leads first a b → Leads second b e → Leads (first ++ second) a e
leads_joined {a} {b} {e} first second one two =
    let joined = λ (kind : DeviceEvent → Bool). count_joined kind first second in
    let follows : a.honest → Follows (first ++ second) a e = λ h. follows_joined first second (one.follows h) (two.follows (one.honest.1 h)) in
    search (arith, length-append first second, joined is_failed_call, joined is_sync_call, joined is_failed_read, one.honest, two.honest)

-- no call
pub leads_nothing : (a : DiskState) → Leads [] a a
leads_nothing a = search (arith, inl)

-- the calls up to a failed one, and those before one that wasn't counted
cut_at : (spent : Bool) (done rest : List DeviceEvent) (call last : DeviceEvent) → IsFailed call last → IsCut spent (done ++ call ∷ rest) (done ++ last ∷ [])
cut_at _ done rest call last failed = inl (record { done = done; call = call; rest = rest; last = last; calls_are = refl; failed = failed; events_are = refl })

cut_before : (spent : Bool) (done rest : List DeviceEvent) (call : DeviceEvent) → spent ≡ true → IsCut spent (done ++ call ∷ rest) done
cut_before spent done rest call full = inr (full, record { call = call; rest = rest; calls_are = refl })

-- a list of calls that was cut, and one after a list that was made completely
pub cut_front : (spent : Bool) (calls more events : List DeviceEvent) → IsCut spent calls events → IsCut spent (calls ++ more) events
cut_front spent calls more events (inl f) = rw (f.calls_are, f.events_are, append_assoc) (cut_at spent f.done (f.rest ++ more) f.call f.last f.failed)
cut_front spent calls more events (inr s) = rw (s.1.calls_are, append_assoc) (cut_before spent events (s.1.rest ++ more) s.1.call s.0)

pub cut_behind : (spent : Bool) (calls more events : List DeviceEvent) → IsCut spent more events → IsCut spent (calls ++ more) (calls ++ events)
cut_behind spent calls more _ (inl f) = rw (f.calls_are, f.events_are) (simp (← append_assoc) (cut_at spent (calls ++ f.done) f.rest f.call f.last f.failed))
cut_behind spent calls more events (inr s) = rw (s.1.calls_are, ← append_assoc) (cut_before spent (calls ++ events) s.1.rest s.1.call s.0)

-- one event
leads_once : {a b : DiskState} (event : DeviceEvent) → Counted (one_if (is_failed_call event)) (one_if (is_sync_call event)) (one_if (is_failed_read event)) a b
    → Later a b → (a.honest → Follows (event ∷ []) a b) → Leads (event ∷ []) a b
leads_once event counted later follows = search arith

module _ {D : Type 0} (state : D → DiskState) where
  pub makes_nothing : (a : D) → Makes state [] true a a
  makes_nothing a = record { events = []; leads = leads_nothing (state a); made = refl; untouched = λ none. refl }

  pub makes_front : {a b : D} (calls more : List DeviceEvent) → Makes state calls false a b → Makes state (calls ++ more) false a b
  makes_front {b = b} calls more made = search (cut_front (is_spent (state b)) calls more made.events made.made)

  pub makes_joined : {a b e : D} (calls more : List DeviceEvent) (whole : Bool) → Makes state calls true a b → Makes state more whole b e
      → Makes state (calls ++ more) whole a e
  makes_joined {a} {e = e} calls more whole one two =
      let untouched : one.events ++ two.events ≡ [] → e ≡ a = λ none. let both = simp length-append at (ap length none) in
      two.untouched (nil_from_length two.events (omega arith)) ∙ one.untouched (nil_from_length one.events (omega arith)) in
      let made : IsMade whole (is_spent (state e)) (calls ++ more) (one.events ++ two.events) =
      rw one.made (grind (arith, cut_behind (is_spent (state e)) calls more two.events)) in search (leads_joined one.events two.events one.leads two.leads)

  -- one call, if the counters have their maximum value
  pub not_counted : {a : D} (call : DeviceEvent) (calls : List DeviceEvent) → IsSpent (state a) → Makes state (call ∷ calls) false a a
  not_counted {a} call calls spent = search (leads_nothing (state a), cut_before (is_spent (state a)) [] calls call (grind (arith, nat_tests)))

  -- and if they don't, done or failed
  call_done : {a b : D} (call : DeviceEvent) → (IsSpent (state a) → (false ≡ true) × (b ≡ a))
      → (¬ IsSpent (state a) → Leads (call ∷ []) (state a) (state b)) → Makes state (call ∷ []) true a b
  call_done call spent leads = record { events = call ∷ []; leads = leads (λ full. false≢true (spent full).0); made = refl; untouched = λ none. cc }

  call_failed : {a b : D} {call last : DeviceEvent} → IsFailed call last → (IsSpent (state a) → (true ≡ true) × (b ≡ a))
      → (¬ IsSpent (state a) → Leads (last ∷ []) (state a) (state b)) → Makes state (call ∷ []) false a b
  call_failed {a} {b} {call} {last} failed spent leads = elim (cases_lt (state a).calls (2 ^ 64 - 1)) [
    | inl below ↦ search (arith, leads (λ full. omega (arith, below, full)), cut_at (is_spent (state b)) [] [] call last failed)
    | inr full ↦ rw (spent full).1 (not_counted call [] full)
  ]

  pub read_makes : {E : Type 0} {a b : D} (place n : ℕ) (result : Result (Unit {0}) E)
      → (¬ IsSpent (state a) → Counted (if is_ok result then 0 else 1) 0 (if is_ok result then 0 else 1) (state a) (state b))
      → (IsSpent (state a) → IsErr result × (b ≡ a)) → Later (state a) (state b) → ((state a).honest → NothingNew (state a) (state b))
      → ((state a).honest → SettlesNothing (state a) (state b)) → Makes state (Read place n ∷ []) (is_ok result) a b
  read_makes place n (Ok done) counted spent later new still =
      call_done (Read place n) spent (λ no. leads_once (Read place n) (counted no) later (λ h. search (inl, new h, still h, (new h).since)))
  read_makes place n (Err fault) counted spent later new still =
      call_failed refl spent (λ no. leads_once (FailedRead place n) (counted no) later (λ h. search (inl, new h, still h, (new h).since)))

  pub write_makes : {E : Type 0} {a b : D} (place : ℕ) (bytes : List ℕ) (result : Result (Unit {0}) E) → place + length bytes ≤ (state a).size
      → (¬ IsSpent (state a) → Counted (if is_ok result then 0 else 1) 0 0 (state a) (state b)) → (IsSpent (state a) → IsErr result × (b ≡ a))
      → Later (state a) (state b) → ((state a).honest → Consistent (state a)) → ((state a).honest → IsWritten place (length bytes) (state a) (state b))
      → ((state a).honest → OnOk result ((state b).seen ≡ bytes_after_write place bytes (state a).seen)) → Makes state (Write place bytes ∷ []) (is_ok result) a b
  write_makes place bytes (Ok done) fits counted spent later facts written seen = call_done (Write place bytes) spent
      (λ no. leads_once (Write place bytes) (counted no) later (λ h. search (arith, seen h, written h, (written h).since, false≢true)))
  write_makes {a = a} {b} place bytes (Err fault) fits counted spent later facts written seen =
      let n = length bytes in
      let left : List ℕ = slice_range (state b).seen place (place + n) in
      call_failed (left, refl) spent (λ no. leads_once (FailedWrite place bytes left) (counted no) later (λ h.
      let over = written_over place n (omega (arith, (facts h).seen_size)) (written h).outside in
      let whole = take_all n left (simp (length-take, length-drop) (omega (arith, (written h).outside.same_length, (facts h).seen_size))) in
      search (arith, rw (← whole) at over, written h, (written h).since, false≢true)))

  pub sync_makes : {E : Type 0} {a b : D} (result : Result (Unit {0}) E)
      → (¬ IsSpent (state a) → Counted (if is_ok result then 0 else 1) 1 0 (state a) (state b)) → (IsSpent (state a) → IsErr result × (b ≡ a))
      → Later (state a) (state b) → ((state a).honest → NothingNew (state a) (state b)) → ((state a).honest → OnOk result (Settled (state b)))
      → ((state a).honest → OnErr result (SettlesNothing (state a) (state b))) → Makes state (Sync ∷ []) (is_ok result) a b
  sync_makes (Ok done) counted spent later new settled still =
      call_done Sync spent (λ no. leads_once Sync (counted no) later (λ h. search (arith, inl, new h, (new h).since, (settled h).only, false≢true)))
  sync_makes (Err fault) counted spent later new settled still =
      call_failed refl spent (λ no. leads_once FailedSync (counted no) later (λ h. search (inl, new h, still h, (new h).since)))
