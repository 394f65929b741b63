-- What a spool refuses no Take for.
use Rattle.std.proofs.Common.{◌≡◌, ◌≢◌, ℕ, ◌≤◌, true, false, nat_lt, List, length, Some, refl, ap, ◌∙◌, arith, le-ltb, lt-ltb, le-leb}
use Rattle.rly_core.specs.Bounds.{IsIn}
use Rattle.rly_core.specs.declared.ids.HopId.{HopId}
use Rattle.rly_core.specs.declared.ids.PeerId.{PeerId}
use Rattle.rly_core.specs.declared.refusal.Refusal.TheVariants.{NoSuchHop, NoSuchPeer, TooLong}
use Rattle.rly_machine.specs.Sound.{IsSound}
use Rattle.rly_machine.specs.State.{State, has_hop, has_peer, is_among}
use Rattle.rly_machine.specs.Take.{take_refusal}
use Rattle.rly_machine.specs.declared.reply.Reply.TheVariants.{Refused}
use Rattle.rly_plan.specs.declared.plan.NextHop.{NextHop}
use Rattle.rly_network.specs.Network.{Takes}
use Rattle.rly_network.specs.declared.station_plan.StationPlan.{StationPlan}

among : (count n : ℕ) → 1 ≤ n → n ≤ count → is_among count n ≡ true
among count n least most = rw (lt-ltb 0 n (omega (arith, least)), le-leb n count most) refl

pub takes_pass : (s : StationPlan) (spool : State (List ℕ)) (peer : PeerId) (number stamp limit : ℕ) (payload : List ℕ) (id : HopId)
    (hop : NextHop) → IsSound length spool → spool.params ≡ s.device → IsIn 1 (length s.plan.peers) peer.0 → Takes s payload id hop
    → (take_refusal length spool peer number id stamp limit (length payload) ≢ Some (Refused NoSuchPeer))
    × (take_refusal length spool peer number id stamp limit (length payload) ≢ Some (Refused NoSuchHop))
    × (take_refusal length spool peer number id stamp limit (length payload) ≢ Some (Refused TooLong))
takes_pass s spool peer number stamp limit payload id hop sound same peered takes =
    let peers : length spool.lasts ≡ s.device.peers = sound.peer_count ∙ ap (λ p. p.peers) same in
    let hops : length spool.hops ≡ s.device.hops = sound.hop_count ∙ ap (λ p. p.hops) same in
    let bytes : spool.params.payload ≡ s.device.payload = ap (λ p. p.payload) same in
    let has_p : has_peer spool peer ≡ true = among (length spool.lasts) peer.0 peered.0 (omega (arith, peered.1, takes.peers, peers)) in
    let has_h : has_hop spool id ≡ true = among (length spool.hops) id.0 takes.hops.0 (omega (arith, takes.hops.1, hops)) in
    let short : nat_lt spool.params.payload (length payload) ≡ false = le-ltb spool.params.payload (length payload) (omega (arith, takes.length, bytes)) in
    (λ is. grind (arith, is, has_p, has_h, short), λ is. grind (arith, is, has_p, has_h, short), λ is. grind (arith, is, has_p, has_h, short))
