-- The neighbours of a sound plan are sound.
use Rattle.std.proofs.Common.{◌≡◌, ℕ, zero, suc, List, Option, Some, None, ap, refl, subst}
use Rattle.std.proofs.lemmas.Option.{get_or_from_slice_get, none-some, slice_get_within}
use Rattle.std.specs.List.{All}
use Rattle.std.specs.Prelude.{option_map, unwrap_or}
use Rattle.rly_link.specs.declared.turn.Worker.{Worker}
use Rattle.rly_link.specs.declared.turn.Worker.TheVariants as worker
use Rattle.rly_plan.specs.ContactPlan.{ContactPlan, at_number}
use Rattle.rly_plan.specs.Sound.{AreInOrder, IsSoundNeighbour, IsSoundPlan}
use Rattle.rly_plan.specs.declared.neighbour.Neighbour.{Neighbour}
use Rattle.rly_station.specs.Workers.{neighbour_of}

at_holds : {A : Type 0} (P : A → Type 0) (xs : List A) (n : ℕ) (x : A) → All P xs → at_number xs n ≡ Some x → P x
at_holds P xs zero x all found = absurd (none-some x found)
at_holds P xs (suc n) x all found =
    subst P (get_or_from_slice_get xs n x x found) (all n x (slice_get_within xs n x found))

map_holds : {A B : Type 0} (P : B → Type 0) (f : A → B) (o : Option A) (y : B) → ((x : A) → o ≡ Some x → P (f x)) → option_map f o ≡ Some y → P y
map_holds P f None y all found = absurd (none-some y found)
map_holds P f (Some x) y all found = subst P (ap (λ o. unwrap_or o y) found) (all x refl)

pub neighbour_sound : (plan : ContactPlan) (w : Worker) (n : Neighbour) → IsSoundPlan plan → neighbour_of plan w ≡ Some n → IsSoundNeighbour n
neighbour_sound plan (worker.Receiver peer) n sound found = at_holds IsSoundNeighbour plan.peers peer.0 n sound.peers found
neighbour_sound plan (worker.Sender hop) n sound found =
    map_holds IsSoundNeighbour (λ h. h.neighbour) (at_number plan.hops hop.0) n
    (λ h at. (at_holds (λ h. IsSoundNeighbour h.neighbour × AreInOrder h.contacts) plan.hops hop.0 h sound.hops at).0) found
