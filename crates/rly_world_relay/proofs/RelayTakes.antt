-- Batches are taken in order.
use Rattle.std.proofs.Common.{ℕ, ◌≡◌, ◌≢◌, ◌⊎◌, ◌<◌, ◌++◌, ◌∙◌, Bool, true, false, List, [], ◌∷◌, Option, Some, None, length, arith, ap, refl, sym, subst, inl, inr}
use Rattle.std.specs.Prelude.{◌||◌, not, nat_le, if◌then◌else◌}
use Rattle.std.proofs.lemmas.Bool.{lt-leb}
use Rattle.std.proofs.lemmas.Grind.{flat_map-append}
use Rattle.std.proofs.lemmas.List.{append-nil}
use Rattle.rly_machine.specs.declared.call.Call.{Call}
use Rattle.rly_world.specs.RelaySteps.{Event, Happens, MayTake, Takes, world_after_join}
use Rattle.rly_world.specs.RelayWorld.{Batch, Round, Taking, World, batches_in, calls_of, has_failed_read}
use Rattle.rly_world_relay.specs.HelpersRounds.{AreSome, Gathered, IsNoneLeft, TakesOne, round_of, taken_world}
use Rattle.rly_world_relay.specs.RelayRounds.{Gathers, may_take}

calls_joined : (batches : List Batch) (batch : Batch) → calls_of (batches ++ batch ∷ []) ≡ calls_of batches ++ batch
calls_joined batches batch =
    flat_map-append (λ (b : Batch). b) batches (batch ∷ []) ∙ ap (λ l. calls_of batches ++ l) (append-nil batch)

batches_of : (batches : List Batch) → batches_in (round_of batches) ≡ batches
batches_of [] = refl
batches_of (batch ∷ batches) = refl

round_more : (batches : List Batch) (batch : Batch)
    → (let r : Option Round = Some (record { stage = Taking; batches = batches_in (round_of batches) ++ batch ∷ []; answers = []; read_failed = has_failed_read (round_of batches) }) in r)
    ≡ round_of (batches ++ batch ∷ [])
round_more [] batch = refl
round_more (first ∷ batches) batch = refl

pub some_calls : (batches : List Batch) → AreSome batches → calls_of batches ≡ [] → batches ≡ []
some_calls [] some none = refl
some_calls ([] ∷ batches) some none = absurd (some.0 refl)
some_calls ((call ∷ batch) ∷ batches) some none = (let e : call ∷ (batch ++ calls_of batches) ≡ [] = none in absurd cc)

some_more : (batches : List Batch) (batch : Batch) → AreSome batches → batch ≢ [] → AreSome (batches ++ batch ∷ [])
some_more [] batch some one = (one, tt)
some_more (first ∷ batches) batch some one = (some.0, some_more batches batch some.1 one)

-- a batch is in the round, or kept
record Joined (w : World) (line : List Batch) (batches : List Batch) (calls : List Call) (batch : Batch) (fits : Bool) : Type 0 where
  pub more : List Batch
  pub some : AreSome more
  pub calls_are : calls_of more ≡ (if fits then calls ++ batch else calls)
  pub next : world_after_join (taken_world w None line batches) batch ≡ taken_world w (if fits then None else Some batch) line more

joined_world : (w : World) (line : List Batch) (batches : List Batch) (calls : List Call) (batch : Batch) → AreSome batches
    → batch ≢ [] → calls_of batches ≡ calls → (fits : Bool) → nat_le (length (calls ++ batch)) 64 ≡ fits
    → Joined w line batches calls batch fits
joined_world w line batches calls batch some one are fits is = by_room fits
    (ap (λ l. nat_le (length l) 64) (ap (λ b. calls_of (b ++ batch ∷ [])) (batches_of batches) ∙ calls_joined batches batch
    ∙ ap (λ l. l ++ batch) are) ∙ is)
  where
    v : World
    v = taken_world w None line batches

    room : Bool
    room = nat_le (length (calls_of (batches_in (round_of batches) ++ batch ∷ []))) 64

    joined_by : Bool → World
    joined_by b = if b then record v {
      round = Some (record { stage = Taking; batches = batches_in (round_of batches) ++ batch ∷ []; answers = []; read_failed = has_failed_read (round_of batches) });
    } else record v { kept = Some batch }

    by_room : (b : Bool) → nat_le (length (calls_of (batches_in (round_of batches) ++ batch ∷ []))) 64 ≡ b
        → Joined w line batches calls batch b
    by_room true told = record {
      more = batches ++ batch ∷ [];
      some = some_more batches batch some one;
      calls_are = calls_joined batches batch ∙ ap (λ l. l ++ batch) are;
      next = ap joined_by told ∙ ap (λ r. record v { round = r }) (round_more batches batch);
    }
    by_room false told = record { more = batches; some = some; calls_are = are; next = ap joined_by told }

-- one more batch was taken in the model of a relay
pub record Took (w : World) (kept : Option Batch) (line batches : List Batch) (kept_then : Option Batch)
    (line_then : List Batch) (calls : List Call) : Type 0 where
  pub more : List Batch
  pub some : AreSome more
  pub calls_are : calls_of more ≡ calls
  pub happens : Happens (taken_world w kept line batches) Takes (taken_world w kept_then line_then more)
  pub may : may_take kept line (round_of batches) ≡ true

first_may : (batch : Batch) (line batches : List Batch) → MayTake None (batch ∷ line) (round_of batches)
first_may batch line [] = tt
first_may batch line (first ∷ batches) = refl

module _ (w : World) (opened : w.is_open ≡ true) where
  pub takes_more : (kept : Option Batch) (line batches : List Batch) (calls : List Call) (kept_then : Option Batch)
      (line_then : List Batch) (calls_then : List Call) → AreSome batches → calls_of batches ≡ calls
      → TakesOne kept line calls kept_then line_then calls_then → Took w kept line batches kept_then line_then calls_then
  takes_more kept line batches calls kept_then line_then calls_then some are takes = elim takes.next [
    | inl again ↦
        let none : batches ≡ [] = some_calls batches some (are ∙ again.1) in
        subst (λ k. Took w k line batches kept_then line_then calls_then) (sym again.0)
        (subst (λ l. Took w (Some takes.batch) l batches kept_then line_then calls_then) (sym again.2)
        (subst (λ b. Took w (Some takes.batch) line_then b kept_then line_then calls_then) (sym none) (record {
          more = (made [] tt (sym again.1)).more;
          some = (made [] tt (sym again.1)).some;
          calls_are = (made [] tt (sym again.1)).calls_are ∙ sym takes.calls_are;
          happens = inl (
            (opened, tt),
            ap (λ k. taken_world w k line_then (made [] tt (sym again.1)).more) takes.kept_is
                ∙ sym (made [] tt (sym again.1)).next,
          );
          may = refl;
        })))
    | inr first ↦
        subst (λ k. Took w k line batches kept_then line_then calls_then) (sym first.0)
        (subst (λ l. Took w None l batches kept_then line_then calls_then) (sym first.1) (record {
          more = (made batches some are).more;
          some = (made batches some are).some;
          calls_are = (made batches some are).calls_are ∙ sym takes.calls_are;
          happens = inl (
            (opened, first_may takes.batch line_then batches),
            ap (λ k. taken_world w k line_then (made batches some are).more) takes.kept_is ∙ sym (made batches some are).next,
          );
          may = refl;
        }))
  ]
    where
      one : takes.batch ≢ []
      one none = omega (arith, takes.count.0, ap length none)

      made : (b : List Batch) → AreSome b → calls_of b ≡ calls
          → Joined w line_then b calls takes.batch (nat_le (length (calls ++ takes.batch)) 64)
      made b all is = joined_world w line_then b calls takes.batch all one is (nat_le (length (calls ++ takes.batch)) 64) refl

-- ---- until there are enough requests

-- the batches taken from here on are taken from the start
abbrev pub Continues : ℕ → World → World → Type 0
Continues most w v = (events : List Event) (new : World) → Gathers most v events new
    → (takes : List Event) × Gathers most w takes new

pub record Gathering (most : ℕ) (w : World) (kept : Option Batch) (line : List Batch) (calls : List Call) : Type 0 where
  pub batches : List Batch
  pub some : AreSome batches
  pub calls_are : calls_of batches ≡ calls
  pub continues : Continues most w (taken_world w kept line batches)

-- in the model states with this queue
abbrev pub GathersOn : ℕ → Option Batch → List Batch → Option Batch → List Batch → List Call → Type 0
GathersOn most first_kept first_line kept line calls = (w : World) → w.kept ≡ first_kept → w.line ≡ first_line → w.round ≡ None
    → w.is_open ≡ true → Gathering most w kept line calls

pub gathering_none : (most : ℕ) (kept : Option Batch) (line : List Batch) (calls : List Call) → calls ≡ []
    → GathersOn most kept line kept line calls
gathering_none most kept line calls none w same_kept same_line no_round opened = record {
  batches = [];
  some = tt;
  calls_are = sym none;
  continues = λ events new gathers. (
    events,
    subst (λ v. Gathers most v events new)
        (ap (λ k. taken_world w k line []) (sym same_kept) ∙ ap (λ l. taken_world w w.kept l []) (sym same_line)
        ∙ ap (λ (r : Option Round). record w { round = r }) (sym no_round)) gathers,
  );
}

enough_by : (x y z : Bool) → (x ≡ true) ⊎ (z ≡ false) → (x || not y || not z) ≡ true
enough_by true true true by = refl
enough_by true true false by = refl
enough_by true false true by = refl
enough_by true false false by = refl
enough_by false true true by = elim by [
  | inl e ↦ (let f : false ≡ true = e in absurd cc)
  | inr e ↦ (let f : true ≡ false = e in absurd cc)
]
enough_by false true false by = refl
enough_by false false true by = refl
enough_by false false false by = refl

not_enough : (x y z : Bool) → x ≡ false → y ≡ true → z ≡ true → (x || not y || not z) ≡ false
not_enough x y z a b c = ap (λ n. n || not y || not z) a ∙ ap (λ n. false || not n || not z) b ∙ ap (λ n. false || not true || not n) c

count_in : (batches : List Batch) (calls : List Call) → calls_of batches ≡ calls
    → length (calls_of (batches_in (round_of batches))) ≡ length calls
count_in batches calls are = ap (λ b. length (calls_of b)) (batches_of batches) ∙ ap length are

pub gathering_more : (most : ℕ) (first_kept : Option Batch) (first_line : List Batch) (kept : Option Batch) (line : List Batch)
    (calls : List Call) (kept_then : Option Batch) (line_then : List Batch) (calls_then : List Call) → length calls < most
    → TakesOne kept line calls kept_then line_then calls_then → GathersOn most first_kept first_line kept line calls
    → GathersOn most first_kept first_line kept_then line_then calls_then
gathering_more most first_kept first_line kept line calls kept_then line_then calls_then few takes so_far w same_kept same_line no_round opened =
    let was = so_far w same_kept same_line no_round opened in
    let took = takes_more w opened kept line was.batches calls kept_then line_then calls_then was.some was.calls_are takes in
    let left : nat_le most (length (calls_of (batches_in (round_of was.batches)))) ≡ false =
    lt-leb most (length (calls_of (batches_in (round_of was.batches)))) (omega (arith, few, count_in was.batches calls was.calls_are)) in
    record {
      batches = took.more;
      some = took.some;
      calls_are = took.calls_are;
      continues = λ events new gathers. was.continues (Takes ∷ events) new (
        not_enough (nat_le most (length (calls_of (batches_in (round_of was.batches))))) w.is_open
            (may_take kept line (round_of was.batches)) left opened took.may,
        refl,
        (taken_world w kept_then line_then took.more, took.happens, gathers),
      );
    }

none_may : (kept : Option Batch) (line : List Batch) (batches : List Batch) (calls : List Call) → calls_of batches ≡ calls
    → IsNoneLeft kept line calls → may_take kept line (round_of batches) ≡ false
none_may None [] batches calls are none = refl
none_may None (batch ∷ line) batches calls are none = elim none [
  | inl some ↦ absurd (some.0 refl)
  | inr out ↦ (let e : batch ∷ line ≡ [] = out.1 in absurd cc)
]
none_may (Some kept) line [] calls are none = elim none [
  | inl some ↦ absurd (some.1 (sym are))
  | inr out ↦ (let e : Some kept ≡ None = out.0 in absurd cc)
]
none_may (Some kept) line (batch ∷ batches) calls are none = refl

pub gathered : (most : ℕ) (first_kept : Option Batch) (first_line : List Batch) (kept : Option Batch) (line : List Batch)
    (calls : List Call) → (nat_le most (length calls) ≡ true) ⊎ IsNoneLeft kept line calls
    → GathersOn most first_kept first_line kept line calls → (w : World) → w.kept ≡ first_kept → w.line ≡ first_line
    → w.round ≡ None → w.is_open ≡ true → Gathered most w kept line calls
gathered most first_kept first_line kept line calls enough so_far w same_kept same_line no_round opened =
    let was = so_far w same_kept same_line no_round opened in
    let v : World = taken_world w kept line was.batches in
    let by : (nat_le most (length (calls_of (batches_in (round_of was.batches)))) ≡ true)
    ⊎ (may_take kept line (round_of was.batches) ≡ false) = elim enough [
      | inl many ↦ inl (ap (λ n. nat_le most n) (count_in was.batches calls was.calls_are) ∙ many)
      | inr none ↦ inr (none_may kept line was.batches calls was.calls_are none)
    ] in
    let done = was.continues [] v (
      enough_by (nat_le most (length (calls_of (batches_in (round_of was.batches))))) w.is_open
          (may_take kept line (round_of was.batches)) by,
      refl,
    ) in
    record { takes = done.0; batches = was.batches; gathers = done.1; some = was.some; calls_are = was.calls_are }

-- the number of remaining batches falls
abbrev pub kept_count : Option Batch → ℕ
kept_count None = 0
kept_count (Some batch) = 1
