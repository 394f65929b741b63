-- The number of ids in the reply to a Pick.
use Rattle.std.proofs.Common.{ℕ, ◌+◌, ◌-◌, ◌^◌, ◌<◌, length, arith, refl, sym, subst, inl, inr}
use Rattle.std.proofs.lemmas.Bool.{cases_lt}
use Rattle.std.proofs.lemmas.List.{get_or_past}
use Rattle.std.proofs.lemmas.List.Elements.{All-get_or, All-nil}
use Rattle.rly_core.specs.declared.ids.HopId.{HopId}
use Rattle.rly_machine.specs.Sound.{IsLive, IsSound, IsSoundHop}
use Rattle.rly_machine.specs.State.{State, hop_at, new_hop}
use Rattle.rly_machine.specs.Step.{drops_of, expires_of}
use Rattle.rly_machine.proofs.Picking.{gone_within}
use Rattle.rly_segment_checkpoint.specs.Stored.{stored_length}
use Rattle.rly_segment_checkpoint.specs.declared.stored.Stored.{Stored}

-- a hop that doesn't exist reads as a new one
sound_hop : (s : State Stored) (hop : HopId) → IsSound stored_length s → IsSoundHop stored_length s.params s.seq (hop_at s hop)
sound_hop s hop sound = elim (cases_lt (hop.0 - 1) (length s.hops)) [
  | inl there ↦ All-get_or (IsSoundHop stored_length s.params s.seq) s.hops (hop.0 - 1) new_hop there sound.hops
  | inr past ↦ subst (IsSoundHop stored_length s.params s.seq) (sym (get_or_past s.hops (hop.0 - 1) new_hop past)) (record {
    balance = refl;
    taken = omega arith;
    moment = omega arith;
    window = omega arith;
    items = All-nil (IsLive stored_length s.params 0 s.seq);
    order = λ i j d i<j j<n. absurd (omega arith);
    first_above_time = omega arith;
    drop_next = omega arith;
    lastcount = omega arith;
    count = omega arith;
  })
]

-- at most the waiting items are listed
pub listed_few : (s : State Stored) (hop : HopId) (now : ℕ) → IsSound stored_length s → expires_of s hop now + drops_of stored_length s hop now < 2 ^ 64
listed_few s hop now sound =
    let h = sound_hop s hop sound in
    omega (arith, gone_within stored_length s.params s.seq now (hop_at s hop) sound.params h, h.balance, h.taken, sound.seq)
