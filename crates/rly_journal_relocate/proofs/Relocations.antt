-- The payloads of a spool get their addresses in a head, one by one.
use Rattle.std.proofs.Common.{ℕ, zero, suc, ◌≡◌, ◌+◌, ◌-◌, ◌<◌, ◌≤◌, Bool, true, false, cond, ltb, List, [], ◌∷◌, ◌++◌, length, get_or, set, take, drop, map, arith, refl, sym, ap, ◌∙◌}
use Rattle.std.specs.List.{flat_map}
use Rattle.std.proofs.lemmas.Bool.{ltb-true, ltb-false}
use Rattle.std.proofs.lemmas.List.Concat.{flat_map-cons}
use Rattle.std.proofs.lemmas.List.{get_or-set_same, length-append, length-map, length-take, map-append, set-get_or, take-append-drop}
use Rattle.std.proofs.Math.Seq.{take-append_seam, drop-append_seam}
use Rattle.rly_core.specs.declared.ids.HopId.{HopId}
use Rattle.rly_machine.specs.declared.hop.Item.{Item}
use Rattle.rly_machine.specs.Map.{map_hop, map_item}
use Rattle.rly_machine.specs.Relocate.{state_with_relocated, with_payload, with_relocated}
use Rattle.rly_machine.specs.State.{HopState, State, hop_at, live_line, new_hop}
use Rattle.rly_segment_checkpoint.specs.Checkpoint.{entry_spelled, hop_spelled}
use Rattle.rly_segment_checkpoint.proofs.Sizes.{length-hop}
use Rattle.rly_segment_checkpoint.specs.Stored.{stored_length, stored_spelled}
use Rattle.rly_segment_checkpoint.specs.Widths.{entry_width, hop_width}
use Rattle.rly_segment_checkpoint.specs.declared.head_form.HeadForm.{HeadForm}
use Rattle.rly_segment_checkpoint.specs.declared.stored.Stored.{Stored}
use Rattle.rly_segment.specs.HeadAddresses.{stored_in_head, hop_in_head, hops_in_head, items_in_head}
use Rattle.rly_journal_relocate.specs.HelpersRelocation.{with_hop}

-- ---- an item of a list gets other content

take_before : {P : Type 0} (items : List (Item P)) (n i : ℕ) (p : P) → i < n → take n (with_payload items i p) ≡ with_payload (take n items) i p
take_before [] zero i p lt = absurd (omega arith)
take_before [] (suc n) i p lt = refl
take_before (x ∷ items) zero i p lt = absurd (omega arith)
take_before (x ∷ items) (suc n) zero p lt = refl
take_before {P} (x ∷ items) (suc n) (suc i) p lt = ap (λ (l : List (Item P)). x ∷ l) (take_before items n i p (omega arith))

drop_before : {P : Type 0} (items : List (Item P)) (n i : ℕ) (p : P) → i < n → drop n (with_payload items i p) ≡ drop n items
drop_before [] n i p lt = refl
drop_before (x ∷ items) zero i p lt = absurd (omega arith)
drop_before (x ∷ items) (suc n) zero p lt = refl
drop_before (x ∷ items) (suc n) (suc i) p lt = drop_before items n i p (omega arith)

take_behind : {P : Type 0} (items : List (Item P)) (n i : ℕ) (p : P) → n ≤ i → take n (with_payload items i p) ≡ take n items
take_behind [] n i p le = refl
take_behind (x ∷ items) zero i p le = refl
take_behind (x ∷ items) (suc n) zero p le = absurd (omega arith)
take_behind {P} (x ∷ items) (suc n) (suc i) p le = ap (λ (l : List (Item P)). x ∷ l) (take_behind items n i p (omega arith))

drop_behind : {P : Type 0} (items : List (Item P)) (n i : ℕ) (p : P) → n ≤ i → drop n (with_payload items i p) ≡ with_payload (drop n items) (i - n) p
drop_behind [] zero i p le = refl
drop_behind [] (suc n) i p le = refl
drop_behind (x ∷ items) zero i p le = let e : i ≡ i - 0 = omega arith in ap (λ (k : ℕ). with_payload (x ∷ items) k p) e
drop_behind (x ∷ items) (suc n) zero p le = absurd (omega arith)
drop_behind {P} (x ∷ items) (suc n) (suc i) p le =
    let e : i - n ≡ suc i - suc n = omega arith in
    drop_behind items n i p (omega arith) ∙ ap (λ (k : ℕ). with_payload (drop n items) k p) e

-- ---- a hop with another list

abbrev pub lined : {P : Type 0} → HopState P → List (Item P) → HopState P
lined h line = record h { flight = take (length h.flight) line; queue = drop (length h.flight) line }

pub lined_self : {P : Type 0} (h : HopState P) → lined h (live_line h) ≡ h
lined_self {P} h =
    ap (λ (l : List (Item P)). record h { flight = l; queue = drop (length h.flight) (live_line h) }) (take-append_seam h.flight h.queue)
    ∙ ap (λ (l : List (Item P)). record h { queue = l }) (drop-append_seam h.flight h.queue)

pub lined_live : {P : Type 0} (h : HopState P) (line : List (Item P)) → live_line (lined h line) ≡ line
lined_live h line = take-append-drop (length h.flight) line

pub lined_put : {P : Type 0} (h : HopState P) (line : List (Item P)) (i : ℕ) (p : P) → length h.flight ≤ length line
    → with_relocated (lined h line) i p ≡ lined h (with_payload line i p)
lined_put {P} h line i p long = by_cases (ltb i (length (take (length h.flight) line))) refl
  where
    f : ℕ
    f = length h.flight

    size : length (take f line) ≡ f
    size = omega (arith, length-take f line, long)

    here : Bool → HopState P
    here b = cond b (record (lined h line) { flight = with_payload (take f line) i p }) (record (lined h line) { queue = with_payload (drop f line) (i - length (take f line)) p })

    by_cases : (b : Bool) → ltb i (length (take f line)) ≡ b → with_relocated (lined h line) i p ≡ lined h (with_payload line i p)
    by_cases true e =
        let lt : i < f = omega (arith, ltb-true _ _ e, size) in
        ap here e
        ∙ ap (λ (l : List (Item P)). record h { flight = l; queue = drop f line }) (sym (take_before line f i p lt))
        ∙ ap (λ (l : List (Item P)). record h { flight = take f (with_payload line i p); queue = l }) (sym (drop_before line f i p lt))
    by_cases false e =
        let le : f ≤ i = omega (arith, ltb-false _ _ e, size) in
        ap here e
        ∙ ap (λ (k : ℕ). record h { flight = take f line; queue = with_payload (drop f line) (i - k) p }) size
        ∙ ap (λ (l : List (Item P)). record h { flight = take f line; queue = l }) (sym (drop_behind line f i p le))
        ∙ ap (λ (l : List (Item P)). record h { flight = l; queue = drop f (with_payload line i p) }) (sym (take_behind line f i p le))

-- ---- a spool with another hop

set_twice : {X : Type 0} (xs : List X) (i : ℕ) (x y : X) → set (set xs i x) i y ≡ set xs i y
set_twice [] i x y = refl
set_twice (z ∷ xs) zero x y = refl
set_twice {X} (z ∷ xs) (suc i) x y = ap (λ (l : List X). z ∷ l) (set_twice xs i x y)

module _ {P : Type 0} (s : State P) (hop : HopId) where
  abbrev with_hops : List (HopState P) → State P
  with_hops hops = record { params = s.params; hops = hops; lasts = s.lasts; seq = s.seq }

  pub with_own : with_hop s hop (hop_at s hop) ≡ s
  with_own = ap with_hops (set-get_or s.hops (hop.0 - 1) new_hop)

  pub with_at : (h : HopState P) → hop.0 - 1 < length s.hops → hop_at (with_hop s hop h) hop ≡ h
  with_at h below = get_or-set_same s.hops (hop.0 - 1) h new_hop below

  pub with_relocation : (h : HopState P) (i : ℕ) (p : P) → hop.0 - 1 < length s.hops
      → state_with_relocated (with_hop s hop h) hop i p ≡ with_hop s hop (with_relocated h i p)
  with_relocation h i p below =
      ap with_hops
      (set_twice s.hops (hop.0 - 1) h (with_relocated (hop_at (with_hop s hop h) hop) i p)
      ∙ ap (λ (k : HopState P). set s.hops (hop.0 - 1) (with_relocated k i p)) (with_at h below))

-- ---- the first of a hop's items lie in a head of a form; D gives the payloads in that head

module _ (which : HeadForm) where
  abbrev pub entry_size : Item Stored → ℕ
  entry_size item = length (entry_spelled stored_length (stored_spelled which) item)

  abbrev pub entries_size : List (Item Stored) → ℕ
  entries_size items = length (flat_map (entry_spelled stored_length (stored_spelled which)) items)

  entries_cons : (item : Item Stored) (items : List (Item Stored)) → entries_size (item ∷ items) ≡ entry_size item + entries_size items
  entries_cons item items =
      let one : Item Stored → List ℕ = entry_spelled stored_length (stored_spelled which) in
      ap length (flat_map-cons one item items) ∙ length-append (one item) (flat_map one items)

  module _ (D : Stored → Stored) where
    abbrev pub first_moved : ℕ → ℕ → List (Item Stored) → List (Item Stored)
    first_moved zero at items = items
    first_moved (suc n) at [] = []
    first_moved (suc n) at (item ∷ items) = map_item (stored_in_head (at + entry_width which)) (map_item D item) ∷ first_moved n (at + entry_size (map_item D item)) items

    -- the offset of the next entry
    abbrev pub past : ℕ → ℕ → List (Item Stored) → ℕ
    past zero at items = at
    past (suc n) at [] = at
    past (suc n) at (item ∷ items) = past n (at + entry_size (map_item D item)) items

    pub moved_all : (n at : ℕ) (items : List (Item Stored)) → length items ≤ n → first_moved n at items ≡ items_in_head which at (map (map_item D) items)
    moved_all zero at [] le = refl
    moved_all zero at (item ∷ items) le = absurd (omega arith)
    moved_all (suc n) at [] le = refl
    moved_all (suc n) at (item ∷ items) le =
        ap (λ (l : List (Item Stored)). map_item (stored_in_head (at + entry_width which)) (map_item D item) ∷ l) (moved_all n (at + entry_size (map_item D item)) items (omega arith))

    pub past_all : (n at : ℕ) (items : List (Item Stored)) → length items ≤ n → past n at items ≡ at + entries_size (map (map_item D) items)
    past_all zero at [] le = omega arith
    past_all zero at (item ∷ items) le = absurd (omega arith)
    past_all (suc n) at [] le = omega arith
    past_all (suc n) at (item ∷ items) le =
        omega (arith, past_all n (at + entry_size (map_item D item)) items (omega arith), entries_cons (map_item D item) (map (map_item D) items))

    past_suc : (n at : ℕ) (items : List (Item Stored)) (item : Item Stored) → n < length items → item ≡ get_or items n item
        → past (suc n) at items ≡ past n at items + entry_size (map_item D item)
    past_suc n at [] item lt is = absurd (omega arith)
    past_suc zero at (x ∷ items) item lt is = ap (λ (y : Item Stored). at + entry_size (map_item D y)) (sym is)
    past_suc (suc n) at (x ∷ items) item lt is = past_suc n (at + entry_size (map_item D x)) items item (omega arith) is

    pub past_next : (n at : ℕ) (items : List (Item Stored)) (item : Item Stored) → n < length items → item ≡ get_or items n item
        → past (n + 1) at items ≡ past n at items + entry_size (map_item D item)
    past_next n at items item lt is =
        let e : n + 1 ≡ suc n = omega arith in
        ap (λ (k : ℕ). past k at items) e ∙ past_suc n at items item lt is

    pub past_within : (n at : ℕ) (items : List (Item Stored)) → past n at items ≤ at + entries_size (map (map_item D) items)
    past_within zero at items = omega arith
    past_within (suc n) at [] = omega arith
    past_within (suc n) at (item ∷ items) =
        omega (arith, past_within n (at + entry_size (map_item D item)) items, entries_cons (map_item D item) (map (map_item D) items))

    pub moved_length : (n at : ℕ) (items : List (Item Stored)) → length (first_moved n at items) ≡ length items
    moved_length zero at items = refl
    moved_length (suc n) at [] = refl
    moved_length (suc n) at (item ∷ items) = ap suc (moved_length n (at + entry_size (map_item D item)) items)

    -- the next item is unchanged
    pub moved_there : (n at : ℕ) (items : List (Item Stored)) (d : Item Stored) → get_or (first_moved n at items) n d ≡ get_or items n d
    moved_there zero at items d = refl
    moved_there (suc n) at [] d = refl
    moved_there (suc n) at (item ∷ items) d = moved_there n (at + entry_size (map_item D item)) items d

    -- and then it lies in the head too
    moved_suc : (n at : ℕ) (items : List (Item Stored)) (item : Item Stored) → n < length items → item ≡ get_or items n item
        → with_payload (first_moved n at items) n (stored_in_head (past n at items + entry_width which) (D item.payload)) ≡ first_moved (suc n) at items
    moved_suc n at [] item lt is = absurd (omega arith)
    moved_suc zero at (x ∷ items) item lt is =
        ap (λ (y : Item Stored). record x { payload = stored_in_head (at + entry_width which) (D y.payload) } ∷ items) is
    moved_suc (suc n) at (x ∷ items) item lt is =
        ap (λ (l : List (Item Stored)). map_item (stored_in_head (at + entry_width which)) (map_item D x) ∷ l) (moved_suc n (at + entry_size (map_item D x)) items item (omega arith) is)

    pub moved_next : (n at : ℕ) (items : List (Item Stored)) (item : Item Stored) → n < length items → item ≡ get_or items n item
        → with_payload (first_moved n at items) n (stored_in_head (past n at items + entry_width which) (D item.payload)) ≡ first_moved (n + 1) at items
    moved_next n at items item lt is =
        let e : suc n ≡ n + 1 = omega arith in
        moved_suc n at items item lt is ∙ ap (λ (k : ℕ). first_moved k at items) e

    -- ---- a whole hop

    settled_append : (at : ℕ) (xs ys : List (Item Stored)) → items_in_head which at (xs ++ ys) ≡ items_in_head which at xs ++ items_in_head which (at + entries_size xs) ys
    settled_append at [] ys = let e : at ≡ at + 0 = omega arith in ap (λ (k : ℕ). items_in_head which k ys) e
    settled_append at (x ∷ xs) ys =
        let e : at + entry_size x + entries_size xs ≡ at + entries_size (x ∷ xs) = omega (arith, entries_cons x xs) in
        ap (λ (l : List (Item Stored)). map_item (stored_in_head (at + entry_width which)) x ∷ l)
        (settled_append (at + entry_size x) xs ys
        ∙ ap (λ (k : ℕ). items_in_head which (at + entry_size x) xs ++ items_in_head which k ys) e)

    settled_length : (at : ℕ) (xs : List (Item Stored)) → length (items_in_head which at xs) ≡ length xs
    settled_length at [] = refl
    settled_length at (x ∷ xs) = ap suc (settled_length (at + entry_size x) xs)

    pub hop_moved : (at : ℕ) (h : HopState Stored) → lined h (items_in_head which (at + hop_width which) (map (map_item D) (live_line h))) ≡ hop_in_head which at (map_hop D h)
    hop_moved at h =
        let m : Item Stored → Item Stored = map_item D in
        let first : List (Item Stored) = items_in_head which (at + hop_width which) (map m h.flight) in
        let second : List (Item Stored) = items_in_head which (at + hop_width which + entries_size (map m h.flight)) (map m h.queue) in
        let whole : items_in_head which (at + hop_width which) (map m (live_line h)) ≡ first ++ second =
        ap (items_in_head which (at + hop_width which)) (map-append m h.flight h.queue) ∙ settled_append (at + hop_width which) (map m h.flight) (map m h.queue) in
        let size : length h.flight ≡ length first = sym (settled_length (at + hop_width which) (map m h.flight) ∙ length-map h.flight m) in
        ap (lined h) whole
        ∙ ap (λ (k : ℕ). record h { flight = take k (first ++ second); queue = drop k (first ++ second) }) size
        ∙ ap (λ (l : List (Item Stored)). record h { flight = l; queue = drop (length first) (first ++ second) }) (take-append_seam first second)
        ∙ ap (λ (l : List (Item Stored)). record h { flight = first; queue = l }) (drop-append_seam first second)

    -- ---- hops

    abbrev pub hop_size : HopState Stored → ℕ
    hop_size h = length (hop_spelled stored_length (stored_spelled which) (map_hop D h))

    abbrev pub hops_size : List (HopState Stored) → ℕ
    hops_size hops = length (flat_map (hop_spelled stored_length (stored_spelled which)) (map (map_hop D) hops))

    abbrev pub first_hops : ℕ → ℕ → List (HopState Stored) → List (HopState Stored)
    first_hops zero at hops = hops
    first_hops (suc n) at [] = []
    first_hops (suc n) at (h ∷ hops) = hop_in_head which at (map_hop D h) ∷ first_hops n (at + hop_size h) hops

    abbrev pub hops_past : ℕ → ℕ → List (HopState Stored) → ℕ
    hops_past zero at hops = at
    hops_past (suc n) at [] = at
    hops_past (suc n) at (h ∷ hops) = hops_past n (at + hop_size h) hops

    hops_cons : (h : HopState Stored) (hops : List (HopState Stored)) → hops_size (h ∷ hops) ≡ hop_size h + hops_size hops
    hops_cons h hops =
        let one : HopState Stored → List ℕ = hop_spelled stored_length (stored_spelled which) in
        ap length (flat_map-cons one (map_hop D h) (map (map_hop D) hops)) ∙ length-append (one (map_hop D h)) (flat_map one (map (map_hop D) hops))

    pub hops_all : (n at : ℕ) (hops : List (HopState Stored)) → length hops ≤ n → first_hops n at hops ≡ hops_in_head which at (map (map_hop D) hops)
    hops_all zero at [] le = refl
    hops_all zero at (h ∷ hops) le = absurd (omega arith)
    hops_all (suc n) at [] le = refl
    hops_all (suc n) at (h ∷ hops) le = ap (λ (l : List (HopState Stored)). hop_in_head which at (map_hop D h) ∷ l) (hops_all n (at + hop_size h) hops (omega arith))

    pub hops_there : (n at : ℕ) (hops : List (HopState Stored)) (d : HopState Stored) → get_or (first_hops n at hops) n d ≡ get_or hops n d
    hops_there zero at hops d = refl
    hops_there (suc n) at [] d = refl
    hops_there (suc n) at (h ∷ hops) d = hops_there n (at + hop_size h) hops d

    pub hops_length : (n at : ℕ) (hops : List (HopState Stored)) → length (first_hops n at hops) ≡ length hops
    hops_length zero at hops = refl
    hops_length (suc n) at [] = refl
    hops_length (suc n) at (h ∷ hops) = ap suc (hops_length n (at + hop_size h) hops)

    hops_suc : (n at : ℕ) (hops : List (HopState Stored)) (d : HopState Stored) → n < length hops
        → set (first_hops n at hops) n (hop_in_head which (hops_past n at hops) (map_hop D (get_or hops n d))) ≡ first_hops (suc n) at hops
    hops_suc n at [] d lt = absurd (omega arith)
    hops_suc zero at (h ∷ hops) d lt = refl
    hops_suc (suc n) at (h ∷ hops) d lt = ap (λ (l : List (HopState Stored)). hop_in_head which at (map_hop D h) ∷ l) (hops_suc n (at + hop_size h) hops d (omega arith))

    pub hops_next : (n at : ℕ) (hops : List (HopState Stored)) (d : HopState Stored) → n < length hops
        → set (first_hops n at hops) n (hop_in_head which (hops_past n at hops) (map_hop D (get_or hops n d))) ≡ first_hops (n + 1) at hops
    hops_next n at hops d lt =
        let e : suc n ≡ n + 1 = omega arith in
        hops_suc n at hops d lt ∙ ap (λ (k : ℕ). first_hops k at hops) e

    hops_past_suc : (n at : ℕ) (hops : List (HopState Stored)) (d : HopState Stored) → n < length hops
        → hops_past (suc n) at hops ≡ hops_past n at hops + hop_size (get_or hops n d)
    hops_past_suc n at [] d lt = absurd (omega arith)
    hops_past_suc zero at (h ∷ hops) d lt = refl
    hops_past_suc (suc n) at (h ∷ hops) d lt = hops_past_suc n (at + hop_size h) hops d (omega arith)

    pub hops_past_next : (n at : ℕ) (hops : List (HopState Stored)) (d : HopState Stored) → n < length hops
        → hops_past (n + 1) at hops ≡ hops_past n at hops + hop_size (get_or hops n d)
    hops_past_next n at hops d lt =
        let e : n + 1 ≡ suc n = omega arith in
        ap (λ (k : ℕ). hops_past k at hops) e ∙ hops_past_suc n at hops d lt

    pub hops_within : (n at : ℕ) (hops : List (HopState Stored)) (d : HopState Stored) → n < length hops
        → hops_past n at hops + hop_size (get_or hops n d) ≤ at + hops_size hops
    hops_within n at [] d lt = absurd (omega arith)
    hops_within zero at (h ∷ hops) d lt = omega (arith, hops_cons h hops)
    hops_within (suc n) at (h ∷ hops) d lt = omega (arith, hops_within n (at + hop_size h) hops d (omega arith), hops_cons h hops)

    -- ---- one step of a hop, and of a spool

    -- the bytes of a hop
    pub size_of_hop : (h : HopState Stored) → hop_size h ≡ hop_width which + entries_size (map (map_item D) (live_line h))
    size_of_hop h =
        length-hop stored_length (stored_spelled which) (map_hop D h)
        ∙ ap (λ (l : List (Item Stored)). hop_width which + entries_size l) (sym (map-append (map_item D) h.flight h.queue))

    module _ (s : State Stored) (hop : HopId) (below : hop.0 - 1 < length s.hops) (n at : ℕ) (t : State Stored) where
      abbrev line : List (Item Stored)
      line = live_line (hop_at s hop)

      abbrev so_far : List (Item Stored)
      so_far = first_moved n at line

      pub line_is : t ≡ with_hop s hop (lined (hop_at s hop) so_far) → live_line (hop_at t hop) ≡ so_far
      line_is is =
          ap (λ (u : State Stored). live_line (hop_at u hop)) is
          ∙ ap (λ (h : HopState Stored). live_line h) (with_at s hop (lined (hop_at s hop) so_far) below)
          ∙ lined_live (hop_at s hop) so_far

      pub item_is : t ≡ with_hop s hop (lined (hop_at s hop) so_far) → (item : Item Stored) → item ≡ get_or (live_line (hop_at t hop)) n item → item ≡ get_or line n item
      item_is is item found = found ∙ ap (λ (l : List (Item Stored)). get_or l n item) (line_is is) ∙ moved_there n at line item

      pub item_settled : t ≡ with_hop s hop (lined (hop_at s hop) so_far) → (next : ℕ) → next ≡ past n at line → (item : Item Stored) → n < length line → item ≡ get_or line n item
          → state_with_relocated t hop n (stored_in_head (next + entry_width which) (D item.payload)) ≡ with_hop s hop (lined (hop_at s hop) (first_moved (n + 1) at line))
      item_settled is next next_is item lt found =
          let h : HopState Stored = hop_at s hop in
          let p : Stored = stored_in_head (next + entry_width which) (D item.payload) in
          let long : length h.flight ≤ length so_far = omega (arith, length-append h.flight h.queue, moved_length n at line) in
          ap (λ (u : State Stored). state_with_relocated u hop n p) is
          ∙ with_relocation s hop (lined h so_far) n p below
          ∙ ap (with_hop s hop)
          (lined_put h so_far n p long
          ∙ ap (lined h) (ap (λ (k : ℕ). with_payload so_far n (stored_in_head (k + entry_width which) (D item.payload))) next_is ∙ moved_next n at line item lt found))

    module _ (s : State Stored) (n at : ℕ) (t : State Stored) where
      abbrev pub hops_so_far : List (HopState Stored) → State Stored
      hops_so_far hops = record { params = s.params; hops = hops; lasts = s.lasts; seq = s.seq }

      -- the next hop is unchanged
      pub hop_is : t ≡ hops_so_far (first_hops n at s.hops) → hop_at t (record { 0 = n + 1 }) ≡ get_or s.hops n new_hop
      hop_is is =
          let e : n + 1 - 1 ≡ n = omega arith in
          ap (λ (u : State Stored). get_or u.hops (n + 1 - 1) new_hop) is
          ∙ ap (λ (k : ℕ). get_or (first_hops n at s.hops) k new_hop) e
          ∙ hops_there n at s.hops new_hop

      -- and then it lies in the head too
      pub hop_settled : t ≡ hops_so_far (first_hops n at s.hops) → (next : ℕ) → next ≡ hops_past n at s.hops → n < length s.hops
          → with_hop t (record { 0 = n + 1 }) (hop_in_head which next (map_hop D (hop_at t (record { 0 = n + 1 })))) ≡ hops_so_far (first_hops (n + 1) at s.hops)
      hop_settled is next next_is lt =
          let hop : HopId = record { 0 = n + 1 } in
          let h : HopState Stored = get_or s.hops n new_hop in
          let there : hop_in_head which next (map_hop D (hop_at t hop)) ≡ hop_in_head which (hops_past n at s.hops) (map_hop D h) =
          ap (λ (k : HopState Stored). hop_in_head which next (map_hop D k)) (hop_is is) ∙ ap (λ (k : ℕ). hop_in_head which k (map_hop D h)) next_is in
          let e : n + 1 - 1 ≡ n = omega arith in
          ap (with_hop t hop) there
          ∙ ap (λ (u : State Stored). with_hop u hop (hop_in_head which (hops_past n at s.hops) (map_hop D h))) is
          ∙ ap (λ (k : ℕ). hops_so_far (set (first_hops n at s.hops) k (hop_in_head which (hops_past n at s.hops) (map_hop D h)))) e
          ∙ ap hops_so_far (hops_next n at s.hops new_hop lt)
