-- A relay on a new device, and the law of all later events.
use Rattle.std.proofs.Common.{ℕ, ◌≡◌, ◌≤◌, List, length, length-take, take, drop, arith, refl, subst, sym}
use Rattle.std.proofs.lemmas.List.{take-append-drop}
use Rattle.rly_core.specs.declared.params.Geometry.{Geometry}
use Rattle.rly_machine.specs.Fold.{AllAccepted}
use Rattle.rly_machine.specs.State.{new_state}
use Rattle.rly_machine.proofs.Folding.{accepted_parts, seq_fold}
use Rattle.rly_segment.specs.Formatted.{IsFormatted}
use Rattle.rly_journal.specs.Recovery.{Stands}
use Rattle.rly_journal.proofs.Growing.{formatted_stands}
use Rattle.rly_world.specs.RelayLaw.{HoldsTold}
use Rattle.rly_world.specs.RelaySteps.{Event, Run}
use Rattle.rly_world.specs.RelayWorld.{IsImageOf, World, new_world, state_from}
use Rattle.rly_world.proofs.RelayBooks.{books_kept}
use Rattle.rly_world.proofs.RelayEvents.{run_held}
use Rattle.rly_world.proofs.RelayHolds.{IsHeld}

new_held : (g : Geometry) (seats : ℕ) (bytes : List ℕ) → IsFormatted g bytes → IsHeld (new_world g.params seats bytes)
new_held g seats bytes is = record {
  within = is.fits.params;
  accepted = tt;
  few = omega arith;
  seen = refl;
  kept = λ image same.
      record {
        n = 0;
        told = omega arith;
        most = omega arith;
        stands = subst (λ i. Stands i (new_state g.params))
            (sym same) (formatted_stands g bytes is);
      };
  placed = refl;
}

pub holds : (g : Geometry) (seats : ℕ) (bytes : List ℕ) (events : List Event) (w : World) → IsFormatted g bytes
    → Run (new_world g.params seats bytes) events w → IsHeld w
holds g seats bytes events w is run = run_held (new_world g.params seats bytes) w events run (new_held g seats bytes is)

-- a prefix of the accepted commands
prefix_accepted : (w : World) → IsHeld w → (n : ℕ) → AllAccepted length (new_state w.params) (take n w.accepted)
prefix_accepted w held n =
    (accepted_parts length (new_state w.params) (take n w.accepted) (drop n w.accepted)
    (subst (AllAccepted length (new_state w.params)) (sym (take-append-drop n w.accepted)) held.accepted)).0

pub prefix_counted : (w : World) → IsHeld w → (n : ℕ) → n ≤ length w.accepted
    → (state_from w.params (take n w.accepted)).seq ≡ n
prefix_counted w held n most =
    omega (
      arith,
      seq_fold length (new_state w.params) (take n w.accepted) (prefix_accepted w held n),
      length-take n
          w.accepted,
      most,
    )

-- the law
pub told_held : (g : Geometry) (seats : ℕ) (bytes : List ℕ) (events : List Event) (w : World) → IsFormatted g bytes
    → Run (new_world g.params seats bytes) events w
    → (image : List ℕ) → IsImageOf w.device image → HoldsTold w image
told_held g seats bytes events w formatted run image left =
    let held = holds g seats bytes events w formatted run in
    let kept = held.kept image left in
    record {
      n = kept.n;
      told = kept.told;
      most = kept.most;
      stands = kept.stands;
      count = prefix_counted w held kept.n kept.most;
      books = λ hop there. books_kept w.params (take kept.n w.accepted) hop held.within (prefix_accepted w held kept.n)
          there;
    }
