-- An end after a crash.
use Rattle.std.proofs.Common.{ℕ, ◌≡◌, inl, inr, ◌≤◌, List, [], length, take, true, false, refl, arith, sym, ◌∙◌, ap, subst, Option, Some}
use Rattle.std.proofs.Math.Seq.{take-length}
use Rattle.std.proofs.lemmas.List.{length-take-le}
use Rattle.rly_core.specs.declared.params.Params.{Params}
use Rattle.rly_disk.specs.FaultDisk.{fault_state}
use Rattle.rly_disk.specs.MemDisk.{mem_state}
use Rattle.rly_disk.specs.declared.fault_disk.FaultDisk.{FaultDisk}
use Rattle.rly_disk.specs.declared.mem.MemDisk.{MemDisk}
use Rattle.rly_journal.specs.Journal.{JournalState}
use Rattle.rly_journal.specs.Recovery.{Stands}
use Rattle.rly_machine.specs.Fold.{AllAccepted, fold}
use Rattle.rly_machine.specs.State.{State, new_state}
use Rattle.rly_world_pair.specs.declared.spool.Spool.{Spool}
use Rattle.rly_world_pair.specs.declared.spool.Spool.TheVariants.{Open, Shut}
use Rattle.rly_world_pair.specs.HelpersStation.{Commands, IsDurableSpool, IsReopened, IsSafe, IsSoundStation, IsSpool, Leaves, accepted_in, cut_by, disk_of, harm_left, state_at}
use Rattle.rly_world.specs.PairEnd.{Asked, Replied}
use Rattle.rly_world_pair.specs.PairSteps.{Crashes}
use Rattle.rly_world_pair.proofs.StationAccepted.{accepted_take, seq_at, standing_accepted, standing_all, standing_take}
use Rattle.rly_world_pair.proofs.StationSteps.{shown}

module _ (params : Params) (commands : Commands) (told due harmed : ℕ) (under : told ≤ due) (asked : List Asked) (replied : List Replied) where
  -- each image that a crash may leave
  leaves_of : (spool : Spool) → due ≤ length (accepted_in params commands) → IsSpool params commands due harmed (Some spool) → IsDurableSpool spool
      → (image : List ℕ) → (fault_state mem_state (disk_of spool)).images image → Leaves params commands due image
  leaves_of (Open j) within (inl works) durable image left =
      let now = durable works.working in
      let state : j.state ≡ state_at params commands (length (accepted_in params commands)) =
      works.state ∙ ap (fold length (new_state params)) (sym (standing_all (new_state params) commands works.accepted) ∙ sym (take-length (accepted_in params commands))) in
      record {
        kept = length (accepted_in params commands);
        has_due = within;
        is_prefix = omega arith;
        stands = subst (λ (i : List ℕ). Stands i (state_at params commands (length (accepted_in params commands)))) (sym (now.0.only image left))
            (subst (Stands (fault_state mem_state j.disk).seen) state now.1);
      }
  leaves_of (Open j) within (inr stopped) durable image left = stopped.1.leaves image left
  leaves_of (Shut disk) within stopped durable image left = stopped.leaves image left

  -- the end before, and the required end after the crash
  abbrev pub IsLeft : Commands → ℕ → Option Spool → Type 0
  IsLeft after harm spool =
      Crashes (shown params told asked replied (accepted_in params commands) harmed) (shown params told [] [] (accepted_in params after) harm)
      × IsSafe params after due harm spool

  opened : (image : List ℕ) → Leaves params commands due image → ((image : List ℕ) (a b : State (List ℕ)) → Stands image a → Stands image b → a ≡ b)
      → (j : JournalState (FaultDisk MemDisk)) → IsReopened image (Open j) → IsLeft (take j.position commands) 0 (Some (Open j))
  opened image leaves one j is =
      let same : j.state ≡ state_at params commands leaves.kept = one image j.state (state_at params commands leaves.kept) is.1 leaves.stands in
      let at : j.position ≡ leaves.kept = is.2 ∙ ap (λ (s : State (List ℕ)). s.seq) same ∙ seq_at params commands leaves.kept leaves.is_prefix in
      let cut : take j.position commands ≡ take leaves.kept (accepted_in params commands) =
      ap (λ (n : ℕ). take n commands) at ∙ standing_take (new_state params) commands leaves.kept leaves.is_prefix in
      let accepted : AllAccepted length (new_state params) (take leaves.kept (accepted_in params commands)) =
      accepted_take (new_state params) (accepted_in params commands) leaves.kept (standing_accepted (new_state params) commands) in
      let standing_is : accepted_in params (take j.position commands) ≡ take leaves.kept (accepted_in params commands) =
      ap (accepted_in params) cut ∙ standing_all (new_state params) (take leaves.kept (accepted_in params commands)) accepted in (
        record {
          kept = leaves.kept;
          opens = true;
          has_told = omega (arith, leaves.has_due, under);
          within = leaves.is_prefix;
          after = ap (λ (l : Commands). shown params told [] [] l 0) standing_is;
        },
        record {
          within = omega (arith, ap length standing_is, length-take-le leaves.kept (accepted_in params commands) leaves.is_prefix, leaves.has_due);
          held = inl (record {
            working = is.0;
            unharmed = refl;
            accepted = subst (AllAccepted length (new_state params)) (sym cut) accepted;
            state = same ∙ ap (fold length (new_state params)) (sym cut);
          });
        },
      )

  -- all accepted commands may still be there
  unopened : (spool : Option Spool) → due ≤ length (accepted_in params commands) → IsSpool params commands due 2 spool → IsLeft commands 2 spool
  unopened spool within held = (
    record {
      kept = length (accepted_in params commands);
      opens = false;
      has_told = omega (arith, within, under);
      within = omega arith;
      after = ap (λ (l : Commands). shown params told [] [] l 2) (sym (take-length (accepted_in params commands)));
    },
    record { within = within; held = held },
  )

  shut : (image : List ℕ) → Leaves params commands due image → due ≤ length (accepted_in params commands) → (disk : FaultDisk MemDisk) → IsReopened image (Shut disk)
      → IsLeft commands 2 (Some (Shut disk))
  shut image leaves within disk closed =
      unopened (Some (Shut disk)) within (record { harmed_so = (omega arith, omega arith); leaves = λ c left. subst (Leaves params commands due) (sym (closed c left)) leaves })

  reopened : (image : List ℕ) → Leaves params commands due image → due ≤ length (accepted_in params commands)
      → ((image : List ℕ) (a b : State (List ℕ)) → Stands image a → Stands image b → a ≡ b) → (spool : Spool) → IsReopened image spool
      → IsLeft (cut_by spool commands) (harm_left spool) (Some spool)
  reopened image leaves within one (Open j) is = opened image leaves one j is
  reopened image leaves within one (Shut disk) closed = shut image leaves within disk closed

-- a crash of an end, and its opening
abbrev pub IsCrashed : Params → Commands → ℕ → ℕ → List Asked → List Replied → Commands → ℕ → Option Spool → Type 0
IsCrashed params commands told harmed asked replied after left spool =
    IsSoundStation params after told left [] spool
    × Crashes (shown params told asked replied (accepted_in params commands) harmed) (shown params told [] [] (accepted_in params after) left)

pub crash_left : (params : Params) (commands : Commands) (told harmed : ℕ) (asked : List Asked) (replied : List Replied) (old new : Spool) (after : Commands) (left : ℕ)
    → IsSoundStation params commands told harmed replied (Some old) → IsDurableSpool old
    → ((image : List ℕ) × (fault_state mem_state (disk_of old)).images image × IsReopened image new)
    → ((image : List ℕ) (a b : State (List ℕ)) → Stands image a → Stands image b → a ≡ b)
    → after ≡ cut_by new commands → left ≡ harm_left new → IsCrashed params commands told harmed asked replied after left (Some new)
crash_left params commands told harmed asked replied old new after left sound durable found one cut harm =
    let leaves = leaves_of params commands told sound.due harmed sound.has_told asked replied old sound.safe.within sound.safe.held durable found.0 found.1 in
    let done = reopened params commands told sound.due harmed sound.has_told asked replied found.0 leaves sound.safe.within one new found.2 in
    subst (λ (l : Commands). IsCrashed params commands told harmed asked replied l left (Some new)) (sym cut)
    (subst (λ (h : ℕ). IsCrashed params commands told harmed asked replied (cut_by new commands) h (Some new)) (sym harm)
    (record { due = sound.due; has_told = sound.has_told; has_replied = tt; safe = done.1 }, done.0))

-- no call waits
pub emptied : (params : Params) (commands : Commands) (told harmed : ℕ) (asked : List Asked) (replied : List Replied) (after : Commands) (left : ℕ) (spool : Option Spool)
    (a : List Asked) (r : List Replied) → a ≡ [] → r ≡ [] → IsCrashed params commands told harmed asked replied after left spool
    → IsSoundStation params after told left r spool
    × Crashes (shown params told asked replied (accepted_in params commands) harmed) (shown params told a r (accepted_in params after) left)
emptied params commands told harmed asked replied after left spool a r none nothing crashed = (
  subst (λ (l : List Replied). IsSoundStation params after told left l spool) (sym nothing) crashed.0,
  subst (λ (l : List Asked). Crashes (shown params told asked replied (accepted_in params commands) harmed) (shown params told l r (accepted_in params after) left)) (sym none)
      (subst (λ (l : List Replied). Crashes (shown params told asked replied (accepted_in params commands) harmed) (shown params told [] l (accepted_in params after) left)) (sym nothing)
      crashed.1),
)
