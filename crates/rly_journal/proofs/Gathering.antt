-- The maximum length of a group's body.
use Rattle.std.proofs.Common.{ℕ, ◌≤◌, length, arith}
use Rattle.std.specs.List.{AllByRecursion}
use Rattle.rly_record.specs.Spelling.{IsShort, body_of, longest_body}
use Rattle.rly_record.proofs.Bodies.{body_length-within, length-body_of}
use Rattle.rly_journal.specs.Recovery.{Commands}

pub spelled_most : (most : ℕ) (commands : Commands) → AllByRecursion (IsShort most) commands → length commands ≤ 64 → length (body_of commands) ≤ longest_body most
spelled_most most commands short few = omega (arith, length-body_of commands, body_length-within most commands short few)
