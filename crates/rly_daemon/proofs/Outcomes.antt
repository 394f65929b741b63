-- Properties of a good outcome.
use Rattle.std.proofs.Common.{◌≡◌, ◌∙◌, ℕ, ◌+◌, ap, arith, false, sym, true}
use Rattle.std.specs.Bool.{⊤}
use Rattle.std.specs.Prelude.{Err, IfErr, Ok, OnOk, Result}
use Rattle.rly_journal.specs.Journal.{JournalState}
use Rattle.rly_daemon_commands.specs.declared.command_fault.CommandFault.{CommandFault}
use Rattle.rly_daemon.specs.Helpers.{as_command}
use Rattle.rly_daemon.specs.Program.{is_wait_over}
use Rattle.rly_daemon.specs.declared.program_fault.ProgramFault.{ProgramFault}

pub always_ok : {A E X : Type 0} (r : Result A E) → X → OnOk r X
always_ok (Ok a) x = x
always_ok (Err e) x = tt

pub then_ok : {A E X Y : Type 0} (r : Result A E) → OnOk r X → (X → Y) → OnOk r Y
then_ok (Ok a) x f = f x
then_ok (Err e) x f = tt

-- the same of the outcome of a command as one of the program
pub command_ok : {A : Type 0} (X : Type 0) (r : Result A CommandFault) → OnOk r X → OnOk (as_command r) X
command_ok X (Ok a) x = x
command_ok X (Err e) x = tt

-- a fault by which no wait is over, and one by which it may be
pub never_over : {A : Type 0} (X : Type 0) (r : Result A ProgramFault) → IfErr r (λ fault. is_wait_over fault ≡ false)
    → IfErr r (λ fault. is_wait_over fault ≡ true → X)
never_over X (Ok a) never = tt
never_over X (Err fault) never = λ over. let no : true ≡ false = sym over ∙ never in absurd (cc no)

pub may_be_over : {A : Type 0} (r : Result A ProgramFault) → IfErr r (λ fault. is_wait_over fault ≡ true → ⊤)
may_be_over (Ok a) = tt
may_be_over (Err fault) = λ over. tt

-- the same of two things that hold of it
pub then_both : {A E X Y Z : Type 0} (r : Result A E) → OnOk r X → OnOk r Y → (X → Y → Z) → OnOk r Z
then_both (Ok a) x y f = f x y
then_both (Err e) x y f = tt

-- and of three
pub then_each : {A E X Y Z V : Type 0} (r : Result A E) → OnOk r X → OnOk r Y → OnOk r Z → (X → Y → Z → V) → OnOk r V
then_each (Ok a) x y z f = f x y z
then_each (Err e) x y z f = tt

-- a journal that is left whole, and a count, without the context of its use
pub left_whole : {D : Type 0} (left journal : JournalState D) → left ≡ journal → journal.broken ≡ false → left.broken ≡ false
left_whole {D} left journal same whole = ap (λ (j : JournalState D). j.broken) same ∙ whole

pub and_none : (m n : ℕ) → m ≡ n → m ≡ n + 0
and_none m n same = omega (arith, same)
