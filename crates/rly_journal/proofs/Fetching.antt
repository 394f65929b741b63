-- A fetched payload is one of the spool.
use Rattle.rly_journal.proofs.Common.{[], All, ap, AreFetching, arith, Bytes, DeviceRead, DiskState, fetch_reply, Geometry, get_or_append_left, has_hop}
use Rattle.rly_journal.proofs.Common.{HasBytes, HoldsIndex, hop_at, HopState, inline_length, IsAlike, IsFetched, IsFetchedAs, IsLayout, IsLean, IsLostRead}
use Rattle.rly_journal.proofs.Common.{IsThere, Item, item_of, length, length-append, LiesThere, List, stored_at_address, new_hop, None, none_each, of_items, Ok, Option}
use Rattle.rly_journal.proofs.Common.{OutOfMemory, payload_in, payloads_of, payloads_sum, DeviceAddress, refl, Refusal, Refused, Reply, row_for, segment_within}
use Rattle.rly_journal.proofs.Common.{slice_get, Some, State, state_in, Stored, stored_length, subst, sym, true, ℕ, ◌-◌, ◌∙◌, ◌∷◌, ◌≡◌, ◌≤◌}
use Rattle.std.proofs.lemmas.Option.{get_or_from_slice_get, slice_get_within}
use Rattle.rly_core.specs.declared.ids.HopId.{HopId}
use Rattle.rly_journal_relocate.proofs.MovedPayloads.{hop_below}
use Rattle.rly_journal_index.proofs.Fetched.{found_alike, found_bytes}

pub item_held : {P : Type 0} (T : P → Type 0) (s : State P) (hop : HopId) (number : ℕ) (item : Item P) → All T (payloads_of s)
    → item_of s hop number ≡ Ok item → T item.payload
item_held {P} T s hop number item all is =
    let h : HopState P = hop_at s hop in let i : ℕ = number - h.released - 1 in
    let there : has_hop s hop ≡ true = grind (arith, is) in let found : slice_get h.flight i ≡ Some item = grind (arith, is) in
    let below = slice_get_within h.flight i item found in
    rw (get_or_append_left h.flight h.queue item i below, get_or_from_slice_get h.flight i item item found) at
    (of_items T s.hops all (hop.0 - 1) new_hop (hop_below s hop there) i item (omega (arith, below, length-append h.flight h.queue)))

-- ---- its device address

-- a payload in a segment lies on the device
pub lies_within : (g : Geometry) (size : ℕ) (p : Stored) (at : Option DeviceAddress) → IsLayout g size → LiesThere g p → stored_at_address at ≡ p → IsThere size at
lies_within g size p None layout lies is = tt
lies_within g size p (Some place) layout lies is =
    let there = (subst (LiesThere g) (sym is) lies).1 in omega (arith, there.1.to, segment_within g there.0 size layout there.1.there)

-- ---- the bytes that are read there

-- an item in flight, in a spool of device addresses and in the one with bytes, and the address of its payload
pub record IsInFlight (g : Geometry) (s : State Stored) (t : State (List ℕ)) (hop : HopId) (number : ℕ) (item : Item Stored) (at : Option DeviceAddress)
    : Type 0 where
  pub alike : IsAlike s t
  pub found : item_of s hop number ≡ Ok item
  pub lies : stored_at_address at ≡ item.payload
  pub there : LiesThere g item.payload

-- one in an index
module _ {g : Geometry} {segment used : ℕ} {s : State Stored} (holds : HoldsIndex g segment used s) (hop : HopId) (number : ℕ) {item : Item Stored}
    (is : item_of s hop number ≡ Ok item) where
  pub item_lean : IsLean item.payload
  item_lean =
      let none = none_each inline_length (payloads_of s) (payloads_sum inline_length s ∙ holds.index.inline) in
      grind (arith, item_held (λ p. inline_length p ≡ 0) s hop number item none is)

  pub item_lies : LiesThere g item.payload
  item_lies = item_held (LiesThere g) s hop number item holds.index.there is

  pub in_flight : {t : State (List ℕ)} {at : Option DeviceAddress} → IsAlike s t → (IsLean item.payload → stored_at_address at ≡ item.payload) → IsInFlight g s t hop number item at
  in_flight alike place = record { alike = alike; found = is; lies = place item_lean; there = item_lies }

module _ {g : Geometry} {s : State Stored} {t : State (List ℕ)} {hop : HopId} {number : ℕ} {item : Item Stored} {at : Option DeviceAddress}
    (f : IsInFlight g s t hop number item at) where
  -- the reply to its Fetch
  pub fetched : (payload : List ℕ) × (fetch_reply (item_of t hop number) ≡ Bytes payload item.limit) × (length payload ≡ stored_length (stored_at_address at))
  fetched = rw f.lies (found_alike s t hop number item f.alike f.found)

  pub fetched_bytes : (image : List ℕ) → state_in image s ≡ t → fetch_reply (item_of t hop number) ≡ Bytes (payload_in image (stored_at_address at)) item.limit
  fetched_bytes image stands = rw f.lies (found_bytes image s t hop number item stands f.found)

  -- a refusal occurs for a payload that has bytes
  pub lost_as : (disk : DiskState) (limit : ℕ) (refusal : Refusal) → IsFetched disk at limit (Refused refusal)
      → IsLostRead refusal × HasBytes (fetch_reply (item_of t hop number))
  lost_as disk limit DeviceRead got =
      let long : 1 ≤ stored_length (stored_at_address at) = rw got.1 ((rw (← f.lies, got.1) at f.there).0) in (tt, rw fetched.1 (omega (arith, fetched.2, long)))
  lost_as disk limit OutOfMemory got = let long : 1 ≤ stored_length (stored_at_address at) = got in (tt, rw fetched.1 (omega (arith, fetched.2, long)))
  lost_as disk limit refusal got = absurd got

  -- the payload that was read is the machine's
  pub fetched_as : (disk : DiskState) {limit : ℕ} {payload bytes : List ℕ} → (disk.honest → state_in disk.seen s ≡ t)
      → IsFetched disk at limit (Bytes payload limit) → bytes ≡ payload → IsFetchedAs disk (fetch_reply (item_of t hop number)) bytes
  fetched_as disk stands got same =
      rw fetched.1 (omega (arith, ap length same, got.0, fetched.2), λ honest. cc (got.1 honest, sym fetched.1 ∙ fetched_bytes disk.seen (stands honest)))

  -- the calls of the read
  pub fetching_as : (told : Reply) → AreFetching (fetch_reply (item_of t hop number)) told (row_for at told ∷ [])
  fetching_as told = rw fetched.1 (at, sym fetched.2, refl)
