-- Every stored Data was received before, every refusal was sent, and the next number in order is not covered.
use Rattle.std.proofs.Common.{◌≡◌, ℕ, ◌-◌, ◌%◌, ◌^◌, ◌<◌, ◌≤◌, Bool, true, false, List, [], ◌∷◌, ◌++◌, refl, sym, subst, arith, length, set}
use Rattle.std.proofs.Common.{append_assoc, cond, inl, inr, ◌⊎◌, true≢false}
use Rattle.std.specs.Prelude.{Option, Some, None, All, Contains, IfSome, is_some, slice_get, nat_lt, nat_le, ◌==◌, ◌&&◌}
use Rattle.std.proofs.lemmas.Bool.{and_parts, eqb-true, ltb-true}
use Rattle.std.proofs.lemmas.List.{append-nil}
use Rattle.std.proofs.lemmas.Option.{get_or_from_slice_get, none-some, option_and_then_some, slice_get_within}
use Rattle.std.proofs.lemmas.List.Elements.{All-get_or, All-set, All-weaker, All-replicate, Contains-append_left, Contains-push}
use Rattle.rly_link_reorder.specs.ReorderBuffer.{ReorderView, BufferedData, after_data, after_heard, after_refusal, due_data, next_number, if_for, is_past_gap, is_for, buffered_data, buffered_at, new_reorder, slot_of}
use Rattle.rly_link_reorder.specs.ReorderRuns.{ReorderEvent, Came, Asked, Covered, Refused, Told, HasCome, reorder_after_event, after_events}

-- a stored Data was received before, and doesn't have the last number
pub record IsOld (past : List ReorderEvent) (k : BufferedData) : Type 0 where
  pub came : HasCome past k
  pub below : k.number < 2 ^ 64 - 1

abbrev pub IsOldIf : List ReorderEvent → Option BufferedData → Type 0
IsOldIf past o = IfSome o (IsOld past)

-- a refusal in a slot was sent, if there is one
abbrev pub IsTold : List ReorderEvent → ℕ → Type 0
IsTold past number = (number ≡ 0) ⊎ Contains past (Refused number)

-- this holds of all stored Data and all refusals, and the next number is above those covered
pub record IsHistory (past : List ReorderEvent) (e : ReorderView) : Type 0 where
  pub places : All (IsOldIf past) e.places
  pub refused : All (IsTold past) e.refused
  pub turn : next_number e.covered ≤ e.next

older : (past more : List ReorderEvent) (o : Option BufferedData) → IsOldIf past o → IsOldIf (past ++ more) o
older past more None h = tt
older past more (Some k) h = record { came = Contains-append_left past more _ h.came; below = h.below }

all_older : (past more : List ReorderEvent) (places : List (Option BufferedData)) → All (IsOldIf past) places → All (IsOldIf (past ++ more)) places
all_older past more places h = All-weaker (IsOldIf past) (IsOldIf (past ++ more)) (older past more) places h

told : (past more : List ReorderEvent) (n : ℕ) → IsTold past n → IsTold (past ++ more) n
told past more n (inl none) = inl none
told past more n (inr sent) = inr (Contains-append_left past more _ sent)

all_told : (past more : List ReorderEvent) (refused : List ℕ) → All (IsTold past) refused → All (IsTold (past ++ more)) refused
all_told past more refused h = All-weaker (IsTold past) (IsTold (past ++ more)) (told past more) refused h

-- the next number stays above those covered, if it goes on by one
turn_goes_on : (c n : ℕ) → next_number c ≤ n → next_number c ≤ next_number n
turn_goes_on c n h = omega arith

turn_on_data : (is : Bool) (c next n : ℕ) → (is ≡ true → n ≡ next) → next_number c ≤ next → next_number c ≤ cond is (next_number n) next
turn_on_data true c next n same h = turn_goes_on c n (subst (λ (x : ℕ). next_number c ≤ x) (sym (same refl)) h)
turn_on_data false c next n same h = h

-- the content of a slot after a Data was received
placed : (past : List ReorderEvent) (ahead : Bool) (places : List (Option BufferedData)) (n : ℕ) (packet : List ℕ) → IsOld past (buffered_data n packet) ⊎ (ahead ≡ false)
    → All (IsOldIf past) places → All (IsOldIf past) (cond ahead (set places (n % 64) (Some (buffered_data n packet))) places)
placed past true places n packet (inl old) h = All-set (IsOldIf past) places (n % 64) (Some (buffered_data n packet)) old h
placed past true places n packet (inr e) h = absurd (true≢false e)
placed past false places n packet any h = h

-- a number ahead of a gap isn't the last one
ahead_below : (covered n : ℕ) → is_past_gap covered n ≡ true → n < 2 ^ 64 - 1
ahead_below covered n e = ltb-true _ _ (and_parts (nat_le 2 (n - covered) && nat_le (n - covered) 64) (nat_lt n (2 ^ 64 - 1)) e).1

-- whether a received Data is stored
abbrev is_kept : ReorderView → ℕ → List ℕ → Bool
is_kept e n packet = is_past_gap e.covered n && nat_le (length packet) e.longest

is_old_if_kept : (past : List ReorderEvent) (e : ReorderView) (n : ℕ) (packet : List ℕ) (is : Bool) → is_kept e n packet ≡ is
    → IsOld (past ++ Came n packet ∷ []) (buffered_data n packet) ⊎ (is ≡ false)
is_old_if_kept past e n packet true same =
    let ahead = (and_parts (is_past_gap e.covered n) (nat_le (length packet) e.longest) same).0 in
    inl (record { came = Contains-push past (Came n packet); below = ahead_below e.covered n ahead })
is_old_if_kept past e n packet false same = inr refl

history_on_data : (past : List ReorderEvent) (e : ReorderView) (n : ℕ) (packet : List ℕ) → IsHistory past e → IsHistory (past ++ Came n packet ∷ []) (after_data e n packet)
history_on_data past e n packet h = record {
  places = placed (past ++ Came n packet ∷ []) (is_kept e n packet) e.places n packet (is_old_if_kept past e n packet (is_kept e n packet) refl)
      (all_older past (Came n packet ∷ []) e.places h.places);
  refused = all_told past (Came n packet ∷ []) e.refused h.refused;
  turn = turn_on_data (n == e.next) e.covered e.next n (eqb-true n e.next) h.turn;
}

history_if_given : (past : List ReorderEvent) (room : ℕ) (is : Bool) (e : ReorderView) → IsHistory past e
    → IsHistory (past ++ Asked room ∷ []) (cond is (record e { next = next_number e.next }) e)
history_if_given past room true e h = record {
  places = all_older past (Asked room ∷ []) e.places h.places;
  refused = all_told past (Asked room ∷ []) e.refused h.refused;
  turn = turn_goes_on e.covered e.next h.turn;
}
history_if_given past room false e h = record {
  places = all_older past (Asked room ∷ []) e.places h.places;
  refused = all_told past (Asked room ∷ []) e.refused h.refused;
  turn = h.turn;
}

history_if_covered : (past : List ReorderEvent) (last : ℕ) (is : Bool) (e : ReorderView) → IsHistory past e
    → IsHistory (past ++ Covered last ∷ []) (cond is (record e { covered = last; next = next_number last }) e)
history_if_covered past last true e h = record {
  places = all_older past (Covered last ∷ []) e.places h.places;
  refused = all_told past (Covered last ∷ []) e.refused h.refused;
  turn = omega arith;
}
history_if_covered past last false e h = record {
  places = all_older past (Covered last ∷ []) e.places h.places;
  refused = all_told past (Covered last ∷ []) e.refused h.refused;
  turn = h.turn;
}

history_on_refusal : (past : List ReorderEvent) (n : ℕ) (e : ReorderView) → IsHistory past e → IsHistory (past ++ Refused n ∷ []) (after_refusal e n)
history_on_refusal past n e h = record {
  places = all_older past (Refused n ∷ []) e.places h.places;
  refused = All-set (IsTold (past ++ Refused n ∷ [])) e.refused (n % 64) n (inr (Contains-push past (Refused n)))
      (all_told past (Refused n ∷ []) e.refused h.refused);
  turn = h.turn;
}

history_if_told : (past : List ReorderEvent) (e : ReorderView) → IsHistory past e → IsHistory (past ++ Told ∷ []) (after_heard e)
history_if_told past e h =
    record { places = all_older past (Told ∷ []) e.places h.places; refused = all_told past (Told ∷ []) e.refused h.refused; turn = h.turn }

history_on : (past : List ReorderEvent) (e : ReorderView) (event : ReorderEvent) → IsHistory past e → IsHistory (past ++ event ∷ []) (reorder_after_event e event)
history_on past e (Came n packet) h = history_on_data past e n packet h
history_on past e (Asked room) h = history_if_given past room (is_some (due_data e room)) e h
history_on past e (Covered last) h = history_if_covered past last (nat_lt e.covered last) e h
history_on past e (Refused n) h = history_on_refusal past n e h
history_on past e Told h = history_if_told past e h

history_after : (past : List ReorderEvent) (e : ReorderView) (events : List ReorderEvent) → IsHistory past e → IsHistory (past ++ events) (after_events e events)
history_after past e [] h = subst (λ (p : List ReorderEvent). IsHistory p e) (sym (append-nil past)) h
history_after past e (event ∷ events) h =
    subst (λ (p : List ReorderEvent). IsHistory p (after_events (reorder_after_event e event) events)) (append_assoc past (event ∷ []) events)
    (history_after (past ++ event ∷ []) (reorder_after_event e event) events (history_on past e event h))

pub history : (places longest : ℕ) (events : List ReorderEvent) → IsHistory events (after_events (new_reorder places longest) events)
history places longest events =
    history_after [] (new_reorder places longest) events (record {
      places = All-replicate (IsOldIf []) places None tt;
      refused = All-replicate (IsTold []) 64 0 (inl refl);
      turn = omega arith;
    })

-- the content of a slot is old
pub old_at : (past : List ReorderEvent) (places : List (Option BufferedData)) (i : ℕ) (o : Option BufferedData) → All (IsOldIf past) places → slice_get places i ≡ Some o → IsOldIf past o
old_at past places i o all e =
    subst (IsOldIf past) (get_or_from_slice_get places i o None e) (All-get_or (IsOldIf past) places i None (slice_get_within places i o e) all)

-- a due packet is stored, under the next number in order
pub record IsDue (past : List ReorderEvent) (e : ReorderView) (k : BufferedData) : Type 0 where
  pub old : IsOld past k
  pub turn : k.number ≡ e.next

if_some : (is : Bool) (x k : BufferedData) → cond is (Some x) None ≡ Some k → (is ≡ true) × (x ≡ k)
if_some true x k e = (refl, cc)
if_some false x k e = absurd (none-some k e)

due_if : (past : List ReorderEvent) (e : ReorderView) (room : ℕ) (x k : BufferedData) → IsOld past x → if_for e.next room x ≡ Some k → IsDue past e k
due_if past e room x k old is =
    let both = if_some (is_for e.next room x) x k is in
    let number : x.number ≡ e.next = eqb-true x.number e.next (and_parts (x.number == e.next) (nat_le (length x.packet) room) both.0).0 in
    subst (IsDue past e) both.1 (record { old = old; turn = number })

pub is_due : (past : List ReorderEvent) (e : ReorderView) (room : ℕ) (k : BufferedData) → IsHistory past e → due_data e room ≡ Some k → IsDue past e k
is_due past e room k h is =
    option_and_then_some (if_for e.next room) (buffered_at e.places (slot_of e.next)) k is (λ x at for.
    option_and_then_some (λ (o : Option BufferedData). o) (slice_get e.places (slot_of e.next)) x at (λ o there same.
    due_if past e room x k (subst (IsOldIf past) same (old_at past e.places (slot_of e.next) o h.places there)) for))

pub due_uncovered : (past : List ReorderEvent) (e : ReorderView) (k : BufferedData) → IsHistory past e → IsDue past e k → e.covered < k.number
due_uncovered past e k h d =
    let below : k.number < 2 ^ 64 - 1 = d.old.below in
    let turn : next_number e.covered ≤ k.number = subst (λ (n : ℕ). next_number e.covered ≤ n) (sym d.turn) h.turn in
    omega arith
