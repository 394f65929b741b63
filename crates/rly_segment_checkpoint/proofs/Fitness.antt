-- The numbers of a sound state fit their fields, and no two sound states have the same checkpoint.
use Rattle.std.proofs.Common.{◌≡◌, ℕ, ◌+◌, ◌<◌, ◌≤◌, ◌^◌, List, [], ◌∷◌, ◌++◌, length, get_or, Option, refl, sym, ap, subst, ◌∙◌, length-append, arith}
use Rattle.std.specs.Prelude.{All}
use Rattle.std.specs.List.{AllByRecursion}
use Rattle.std.proofs.lemmas.List.{get_or_append_left, get_or-append-add}
use Rattle.std.proofs.lemmas.List.Elements.{All-weaker, recursion_from_All}
use Rattle.std.proofs.lemmas.List.Sums.{get_or-le-sum_by}
use Rattle.rly_core.specs.Limits.{IsWithinLimits}
use Rattle.rly_core.specs.declared.params.Params.{Params}
use Rattle.rly_machine.specs.Accepted.{max_seq}
use Rattle.rly_machine.specs.declared.hop.Item.{Item}
use Rattle.rly_machine.specs.Sound.{IsLive, IsSound, IsSoundHop}
use Rattle.rly_machine.specs.State.{State, HopState, live_line}
use Rattle.rly_record.specs.HelpersReader.{Reader}
use Rattle.rly_record.proofs.Fields.{some_is}
use Rattle.rly_segment_checkpoint.specs.Checkpoint.{IsOfForm, Spelled, checkpoint_of, state_spelled}
use Rattle.rly_segment_checkpoint.specs.Forms.{AreForms, HaveForms}
use Rattle.rly_segment_checkpoint.specs.HelpersFitting.{FitsBytes, EntryFits, HopFits}
use Rattle.rly_segment_checkpoint.specs.HelpersReader.{whole_state}
use Rattle.rly_segment_checkpoint.specs.Widths.{count_width, expired_width, limit_width, moment_width}
use Rattle.rly_segment_checkpoint.specs.declared.head_form.HeadForm.{HeadForm}
use Rattle.rly_segment_checkpoint.specs.declared.head_form.HeadForm.TheVariants.{First, Second}
use Rattle.rly_segment_checkpoint.proofs.Parts.{StateFits, inline_forms, whole_again}

All_left : {A : Type 0} (P : A → Type 0) (xs ys : List A) → All P (xs ++ ys) → All P xs
All_left P xs ys all k d lt = subst P (get_or_append_left xs ys d k lt) (all k d (omega (arith, lt, length-append xs ys)))

All_right : {A : Type 0} (P : A → Type 0) (xs ys : List A) → All P (xs ++ ys) → All P ys
All_right P xs ys all k d lt = subst P (get_or-append-add xs ys k d) (all (length xs + k) d (omega (arith, lt, length-append xs ys)))

-- a hop that a head of a form can hold
abbrev IsHopOfForm : {P : Type 0} → HeadForm → HopState P → Type 0
IsHopOfForm First h = (h.expired ≡ 0) × All (λ item. item.limit ≡ 0) (live_line h)
IsHopOfForm Second h = Unit {0}

hop_of_form : {P : Type 0} (which : HeadForm) (s : State P) → IsOfForm which s → (k : ℕ) (d : HopState P) → k < length s.hops → IsHopOfForm which (get_or s.hops k d)
hop_of_form First s plain k d lt = plain k d lt
hop_of_form Second s plain k d lt = tt

-- times with an hour to spare, numbers of commands, and limits that have a field, fit
moment_fits : (which : HeadForm) (n : ℕ) → n < 2 ^ 52 + 2 ^ 52 → FitsBytes (moment_width which) n
moment_fits First n lt = omega (arith, lt)
moment_fits Second n lt = omega (arith, lt)

count_fits : (which : HeadForm) (n : ℕ) → n ≤ max_seq → FitsBytes (count_width which) n
count_fits First n le = omega (arith, le)
count_fits Second n le = omega (arith, le)

expired_fits : {P : Type 0} (which : HeadForm) (h : HopState P) → IsHopOfForm which h → h.expired ≤ max_seq → FitsBytes (expired_width which) h.expired
expired_fits First h plain le = omega (arith, plain.0)
expired_fits Second h plain le = omega (arith, le)

limit_fits : {P : Type 0} (which : HeadForm) (h : HopState P) → IsHopOfForm which h → (k : ℕ) (d : Item P) → k < length (live_line h) → (get_or (live_line h) k d).limit < 2 ^ 40 → FitsBytes (limit_width which) (get_or (live_line h) k d).limit
limit_fits First h plain k d below lt = omega (arith, plain.1 k d below)
limit_fits Second h plain k d below lt = omega (arith, lt)

entry_fits : {P : Type 0} (which : HeadForm) (len : P → ℕ) (HasForm : P → Type 0) (params : Params) (moment seq : ℕ) (item : Item P)
    → IsWithinLimits params → moment < 2 ^ 52 → seq ≤ max_seq → IsLive len params moment seq item → FitsBytes (limit_width which) item.limit → HasForm item.payload → EntryFits which len HasForm item
entry_fits which len HasForm params moment seq item within early few live limit has = record {
  id = count_fits which item.id (omega (arith, live.last, few));
  stamp = moment_fits which item.stamp (omega (arith, live.stamp, early));
  limit = limit;
  payload = omega (arith, live.length, within.payload.1);
  form = has;
}

pub hop_fits : {P : Type 0} (which : HeadForm) (len : P → ℕ) (HasForm : P → Type 0) (params : Params) (seq : ℕ) (h : HopState P)
    → IsWithinLimits params → seq ≤ max_seq → length (live_line h) ≤ 16384 → IsSoundHop len params seq h
    → IsHopOfForm which h → HaveForms HasForm h → HopFits which len HasForm h
hop_fits which len HasForm params seq h within few live sound plain has =
    let early : h.moment < 2 ^ 52 = sound.moment in
    let all : All (EntryFits which len HasForm) (live_line h) =
    λ k d lt. entry_fits which len HasForm params h.moment seq (get_or (live_line h) k d) within early few (sound.items k d lt) (limit_fits which h plain k d lt (sound.items k d lt).limit) (has k d lt) in
    let count : length (live_line h) ≡ length h.flight + length h.queue = length-append h.flight h.queue in
    record {
      moment = moment_fits which h.moment (omega (arith, early));
      codel = record {
        first_above_time = moment_fits which h.codel.first_above_time (omega (arith, sound.first_above_time, early, within.interval.1));
        drop_next = moment_fits which h.codel.drop_next (omega (arith, sound.drop_next, early, within.interval.1));
        count = count_fits which h.codel.count (omega (arith, sound.count, sound.balance, sound.taken, few));
        lastcount = count_fits which h.codel.lastcount (omega (arith, sound.lastcount, sound.count, sound.balance, sound.taken, few));
      };
      taken = count_fits which h.taken (omega (arith, sound.taken, few));
      dropped = count_fits which h.dropped (omega (arith, sound.balance, sound.taken, few));
      released = count_fits which h.released (omega (arith, sound.balance, sound.taken, few));
      expired = expired_fits which h plain (omega (arith, sound.balance, sound.taken, few));
      lines = record {
        in_flight = omega (arith, sound.window, within.window.1);
        waiting = omega (arith, count, live);
        flight = recursion_from_All (EntryFits which len HasForm) h.flight (All_left (EntryFits which len HasForm) h.flight h.queue all);
        queue = recursion_from_All (EntryFits which len HasForm) h.queue (All_right (EntryFits which len HasForm) h.flight h.queue all);
      };
    }

-- the hops of a sound state
pub hops_fit : {P : Type 0} (which : HeadForm) (len : P → ℕ) (HasForm : P → Type 0) (s : State P) → IsSound len s
    → IsOfForm which s → All (HaveForms HasForm) s.hops → All (HopFits which len HasForm) s.hops
hops_fit {P} which len HasForm s sound plain has k d lt =
    let some : length (live_line (get_or s.hops k d)) ≤ 16384 = omega (arith, get_or-le-sum_by (λ (h : HopState P). length (live_line h)) s.hops k d lt, sound.items, sound.params.items.1) in
    hop_fits which len HasForm s.params s.seq (get_or s.hops k d) sound.params sound.seq some (sound.hops k d lt) (hop_of_form which s plain k d lt) (has k d lt)

pub state_fits : {P : Type 0} (which : HeadForm) (len : P → ℕ) (HasForm : P → Type 0) (s : State P) → IsSound len s
    → IsOfForm which s → All (HaveForms HasForm) s.hops → StateFits which len HasForm s.params s
state_fits which len HasForm s sound plain has = record {
  params = refl;
  seq = omega (arith, sound.seq);
  lasts = record { count = sound.peer_count; each = recursion_from_All (FitsBytes 8) s.lasts (All-weaker (λ last. last ≤ s.seq) (FitsBytes 8) (λ last le. omega (arith, le, sound.seq)) s.lasts sound.lasts) };
  hops = record { count = sound.hop_count; each = recursion_from_All (HopFits which len HasForm) s.hops (hops_fit which len HasForm s sound plain has) };
}

-- no two sound states have the same encoding
pub one_spelled : {P : Type 0} {len : P → ℕ} {form : Spelled P} {HasForm : P → Type 0} {form_at : ℕ → Reader P} (forms : AreForms len form HasForm form_at) (a b : State P) → IsSound len a → IsSound len b → All (HaveForms HasForm) a.hops → All (HaveForms HasForm) b.hops
    → IsOfForm form.which a → IsOfForm form.which b → a.params ≡ b.params → state_spelled len form a ≡ state_spelled len form b → a ≡ b
one_spelled {P} {len} {form} {HasForm} {form_at} forms a b sound_a sound_b has_a has_b plain_a plain_b params same =
    let read : Params → List ℕ → Option (State P) = whole_state form.which form_at in
    some_is a b (sym (whole_again forms a.params a (state_fits form.which len HasForm a sound_a plain_a has_a)) ∙ ap (λ (p : Params). read p (state_spelled len form a)) params ∙ ap (read b.params) same ∙ whole_again forms b.params b (state_fits form.which len HasForm b sound_b plain_b has_b))

-- an empty requirement on content holds
pub any_have : {P : Type 0} (hops : List (HopState P)) → All (HaveForms (λ (payload : P). Unit {0})) hops
any_have hops k d lt i item below = tt

pub inline_have : (hops : List (HopState (List ℕ))) → All (HaveForms (λ (payload : List ℕ). Unit {0})) hops
inline_have hops = any_have hops

pub one_state : (a b : State (List ℕ)) → IsSound length a → IsSound length b → a.params ≡ b.params
    → checkpoint_of a ≡ checkpoint_of b → a ≡ b
one_state a b sound_a sound_b params same = one_spelled (inline_forms Second) a b sound_a sound_b (inline_have a.hops) (inline_have b.hops) tt tt params same

-- the items in flight and the waiting ones, as one list
recursion_append : {A : Type 0} (P : A → Type 0) (xs ys : List A) → AllByRecursion P xs → AllByRecursion P ys
    → AllByRecursion P (xs ++ ys)
recursion_append P [] ys first second = second
recursion_append P (x ∷ xs) ys first second = (first.0, recursion_append P xs ys first.1 second)

pub live_fit : {P : Type 0} (which : HeadForm) (len : P → ℕ) (HasForm : P → Type 0) (h : HopState P) → HopFits which len HasForm h
    → AllByRecursion (EntryFits which len HasForm) (live_line h)
live_fit which len HasForm h fits = recursion_append (EntryFits which len HasForm) h.flight h.queue fits.lines.flight fits.lines.queue
