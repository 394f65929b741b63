-- The bell of a worker, step by step (docs/ARCHITECTURE.md, "Waiting times").
use Rattle.std.specs.Prelude.{◌≡◌, ◌≤◌, ◌⊎◌, ℕ, zero, suc, ◌+◌, Bool, true, false, ⊤, List, [], ◌∷◌}

-- its word: the worker asked nothing since its last sleep, asked something, sleeps since it did, or a datagram was stored since
pub data Word : Type 0 where
  Idle : Word
  Listening : Word
  Waiting : Word
  Woken : Word

-- the word, whether the counter may be read, how many found the worker waiting and haven't written the counter yet, and
-- whether the worker sleeps
pub record Bell : Type 0 where
  pub word : Word
  pub is_rung : Bool
  pub owed : ℕ
  pub sleeps : Bool

-- The steps, each one atomic of the code or one call of the system: the worker is about to ask something; is about to
-- sleep; no longer sleeps; a datagram was stored for it; one that found it waiting writes the counter.
pub data BellStep : Type 0 where
  Listens : BellStep
  Begins : BellStep
  Ends : BellStep
  Stores : BellStep
  Rings : BellStep

abbrev pub on_begin : Bell → Word → Bell
on_begin b Idle = record b { sleeps = true }
on_begin b Listening = record b { word = Waiting; sleeps = true }
on_begin b Waiting = record b { sleeps = true }
on_begin b Woken = b

abbrev pub owed_on_store : ℕ → Word → ℕ
owed_on_store owed Idle = owed
owed_on_store owed Listening = owed
owed_on_store owed Waiting = owed + 1
owed_on_store owed Woken = owed

abbrev pub on_ring : Bell → ℕ → Bell
on_ring b zero = b
on_ring b (suc owed) = record b { is_rung = true; owed = owed }

abbrev pub bell_step : Bell → BellStep → Bell
bell_step b Listens = record b { word = Listening }
bell_step b Begins = on_begin b b.word
bell_step b Ends = record b { word = Idle; is_rung = false; sleeps = false }
bell_step b Stores = record b { word = Woken; owed = owed_on_store b.owed b.word }
bell_step b Rings = on_ring b b.owed

abbrev pub bell_steps : Bell → List BellStep → Bell
bell_steps b [] = b
bell_steps b (step ∷ steps) = bell_steps (bell_step b step) steps

-- the worker neither asks anew nor ends a sleep in these steps
abbrev pub Keeps : BellStep → Type 0
Keeps Listens = ⊥
Keeps Ends = ⊥
Keeps Begins = ⊤
Keeps Stores = ⊤
Keeps Rings = ⊤

-- the counter may be read, or a ring is on its way
abbrev pub HasRing : Bell → Type 0
HasRing b = (b.is_rung ≡ true) ⊎ (1 ≤ b.owed)
