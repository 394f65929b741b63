-- A turn before the next moment changes nothing.
use Rattle.std.proofs.Common.{◌≡◌, ◌∙◌, ℕ, zero, suc, ◌+◌, ◌-◌, ◌*◌, ◌/◌, ◌^◌, ◌<◌, ◌≤◌, Bool, true, false, ap, arith, max, min, refl, subst, sym}
use Rattle.std.proofs.Math.Nat.{mul-le-mul_left}
use Rattle.std.proofs.lemmas.Bool.Decides.{nat_tests}
use Rattle.std.specs.Prelude.{None, Some, not, if◌then◌else◌, ◌&&◌, ◌||◌, ◌==◌, nat_lt}
use Rattle.rly_hop_pacing.specs.declared.pacer.Pacer.{Pacer}
use Rattle.rly_hop_pacing.specs.CongestionControl.{ControlView, is_recovering, is_timeout, on_time, open_room, way_count, window_room, with_timeout}
use Rattle.rly_hop_pacing.specs.Moments.{IsBefore, sooner}
use Rattle.rly_hop_pacing.specs.NextMoments.{again_after, can_send, credit_after, has_work, next_moment, next_timeout, probe_after}
use Rattle.rly_hop_pacing.specs.Pacers.{pacer_room}
use Rattle.rly_hop_pacing.specs.Windows.{shortest}
use Rattle.rly_hop_pacing.proofs.Gains.{more_room}
use Rattle.rly_hop_pacing.proofs.LaterMoments.{no-timeout}
use Rattle.rly_hop_pacing.proofs.NextMoments.{both_before, way-steady}
use Rattle.rly_hop_pacing.proofs.NextWork.{idle-before, neither}

-- the pacer's room doesn't fall with time
credit-grows : (credit allowed mark at t most need : ℕ) → at ≤ t → 0 < need → 0 < min (credit + allowed * (at - mark)) most / need
    → 0 < min (credit + allowed * (t - mark)) most / need
credit-grows credit allowed mark at t most need later costs some =
    let passed : at - mark ≤ t - mark = omega arith in
    let gained : allowed * (at - mark) ≤ allowed * (t - mark) = mul-le-mul_left allowed passed in
    more_room (min (credit + allowed * (at - mark)) most) (min (credit + allowed * (t - mark)) most) need costs (omega arith) some

pacer-cases : (p : Pacer) (allowed round at t : ℕ) (unlimited : Bool) → at ≤ t
    → 0 < (if unlimited then 64 else min (p.credit + allowed * (at - p.mark)) (max (2 * round) (20000 * allowed)) / max round 1)
    → 0 < (if unlimited then 64 else min (p.credit + allowed * (t - p.mark)) (max (2 * round) (20000 * allowed)) / max round 1)
pacer-cases p allowed round at t true later some = some
pacer-cases p allowed round at t false later some =
    credit-grows p.credit allowed p.mark at t (max (2 * round) (20000 * allowed)) (max round 1) later (omega arith) some

pacer-grows : (p : Pacer) (allowed round at t : ℕ) → at ≤ t → 0 < pacer_room p allowed round at → 0 < pacer_room p allowed round t
pacer-grows p allowed round at t later some = pacer-cases p allowed round at t (round == 2 ^ 32 - 1) later some

-- nor does the room of a contact, if as many are on the way
room-cases : (opened recovering rated : Bool) (few window left paced paced_then : ℕ) → (0 < paced → 0 < paced_then)
    → 0 < (if opened then (if recovering then few else (if rated then window else min left paced)) else 0)
    → 0 < (if opened then (if recovering then few else (if rated then window else min left paced_then)) else 0)
room-cases false recovering rated few window left paced paced_then grows some = some
room-cases true true rated few window left paced paced_then grows some = some
room-cases true false true few window left paced paced_then grows some = some
room-cases true false false few window left paced paced_then grows some =
    let more : 0 < paced_then = grows (omega arith) in
    omega arith

room-grows : (p : ControlView) (at t : ℕ) → at ≤ t → IsBefore t (again_after p at) → 0 < open_room p at → 0 < open_room p t
room-grows p at t later again some =
    let few = (if p.is_due then 1 else 0) + (if nat_lt p.flight.reached p.recover then 1 else 0) in
    let paced = pacer_room p.pacer p.congestion.allowed (shortest p.congestion) at in
    let way : way_count p t ≡ way_count p at = way-steady p at t later again in
    room-cases p.is_open (is_recovering p) p.congestion.is_rated few p.congestion.window (window_room p t) paced
    (pacer_room p.pacer p.congestion.allowed (shortest p.congestion) t)
    (pacer-grows p.pacer p.congestion.allowed (shortest p.congestion) at t later)
    (subst (λ (w : ℕ). 0 < (if p.is_open then (if is_recovering p then few else (if p.congestion.is_rated then p.congestion.window
    else min (max (p.congestion.allowed - w) (if p.is_due then 1 else 0)) paced)) else 0)) (sym way) some)

-- a round that a turn without room limited is limited already
limited-cases : (limited opened : Bool) (now after : ℕ) → (opened ≡ true → 0 < now → 0 < after)
    → ((limited || (opened && (now == 0))) || (opened && (after == 0))) ≡ (limited || (opened && (now == 0)))
limited-cases true opened now after grows = refl
limited-cases false false now after grows = refl
limited-cases false true zero after grows = refl
limited-cases false true (suc now) after grows =
    let some : 0 < after = grows refl (omega arith) in
    grind (arith, nat_tests)

again-before : (p : ControlView) (at t : ℕ) (wants opened busy : Bool) → at ≤ t → opened ≡ true
    → IsBefore t (if not opened then None else (if busy then Some at
    else sooner (next_timeout p at) (sooner (again_after p at) (sooner (probe_after p at) (credit_after p at wants)))))
    → IsBefore t (again_after p at)
again-before p at t wants false busy later is_open before = absurd (cc)
again-before p at t wants true true later is_open before = absurd (omega arith)
again-before p at t wants true false later is_open before =
    let rest = sooner (again_after p at) (sooner (probe_after p at) (credit_after p at wants)) in
    let first = both_before t (next_timeout p at) rest before in
    (both_before t (again_after p at) (sooner (probe_after p at) (credit_after p at wants)) first.1).0

pub same-state : (p : ControlView) (at t : ℕ) (wants : Bool) → at ≤ t → IsBefore t (next_moment (on_time p at) at wants)
    → on_time (on_time p at) t ≡ on_time p at
same-state p at t wants later before =
    let v = with_timeout p at in
    let q = on_time p at in
    let none = (neither (is_timeout q t) (can_send q t wants) (idle-before q at t wants later before)).0 in
    let same : with_timeout q t ≡ q = no-timeout (is_timeout q t) q _ none in
    let limited = limited-cases v.round.is_limited v.is_open (open_room v at) (open_room q t)
    (λ is_open some. room-grows q at t later (again-before q at t wants q.is_open (has_work q at wants) later is_open before) some) in
    ap (λ (r : ControlView). record r { round = record r.round { is_limited = r.round.is_limited || (r.is_open && (open_room r t == 0)) } }) same
    ∙ ap (λ (b : Bool). record q { round = record q.round { is_limited = b } }) limited
