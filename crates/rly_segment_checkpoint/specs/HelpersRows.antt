-- Helpers: a hop's live datagrams, from left to right. No public contract cites them.
use Rattle.std.specs.Prelude.{ℕ, ◌<◌, ◌≤◌, ◌^◌, List, [], ◌∷◌}
use Rattle.rly_core.specs.declared.params.Params.{Params}
use Rattle.rly_machine.specs.declared.hop.Item.{Item}

-- an item may follow one with that id and stamp, in a hop with the given last time and a spool with these parameters
-- and this many accepted commands
pub record Follows {P : Type 0} (len : P → ℕ) (params : Params) (moment seq id stamp : ℕ) (item : Item P) : Type 0 where
  pub later : id < item.id
  pub last : item.id ≤ seq
  pub not_before : stamp ≤ item.stamp
  pub not_after : item.stamp ≤ moment
  pub limit : item.limit < 2 ^ 40
  pub short : len item.payload ≤ params.payload

-- each item follows its predecessor, and the first one that id and stamp
abbrev pub IsRow : {P : Type 0} → (P → ℕ) → Params → (moment seq id stamp : ℕ) → List (Item P) → Type 0
IsRow len params moment seq id stamp [] = Unit {0}
IsRow len params moment seq id stamp (item ∷ items) =
    Follows len params moment seq id stamp item × IsRow len params moment seq item.id item.stamp items
