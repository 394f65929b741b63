-- How the reply lines of a round are written, in order.
use Rattle.std.proofs.Common.{◌≡◌, ◌+◌, ◌<◌, ℕ, add-one, drop, get_or, length, List, ◌∷◌, ◌++◌, Option, sym, ◌∙◌, append_assoc}
use Rattle.std.proofs.Math.Seq.{drop-cons}
use Rattle.rly_machine.specs.declared.call.Answer.{Answer}
use Rattle.rly_daemon_lines.specs.HelpersOutflow.{Adds, AddsBeginning, Outflow}
use Rattle.rly_daemon_lines.specs.HelpersPlay.{answers_behind, round_text, slot_text}
use Rattle.rly_daemon_reply.specs.declared.reply_line.Subject.{Subject}
use Rattle.rly_daemon_lines.proofs.Outflows.{adds_adds, adds_begins, begins_whole}

abbrev pub Slots : Type 0
Slots = List (Option Subject)

-- so far: the added text and the text of the remaining lines are the text of the round
pub record ToldSoFar (first now : Outflow) (slots : Slots) (answers : List Answer) (left : Slots) (rest : List Answer) : Type 0 where
  pub told : List ℕ
  pub added : Adds first now told
  pub whole : round_text slots answers ≡ told ++ round_text left rest

pub told_more : (first now next : Outflow) (slots : Slots) (answers : List Answer) (slot : Option Subject) (left : Slots) (rest behind : List Answer)
    → ToldSoFar first now slots answers (slot ∷ left) rest → behind ≡ answers_behind slot rest → Adds now next (slot_text slot rest)
    → ToldSoFar first next slots answers left behind
told_more first now next slots answers slot left rest behind so_far same more = record {
  told = so_far.told ++ slot_text slot rest;
  added = adds_adds first now next so_far.told (slot_text slot rest) so_far.added more;
  whole =
      let regrouped : so_far.told ++ (slot_text slot rest ++ round_text left (answers_behind slot rest)) ≡ (so_far.told ++ slot_text slot rest) ++ round_text left behind =
      rw same (sym (append_assoc so_far.told (slot_text slot rest) (round_text left (answers_behind slot rest)))) in
      so_far.whole ∙ regrouped;
}

pub told_begun : (first now next : Outflow) (slots : Slots) (answers : List Answer) (slot : Option Subject) (left : Slots) (rest : List Answer)
    → ToldSoFar first now slots answers (slot ∷ left) rest → AddsBeginning now next (slot_text slot rest) → AddsBeginning first next (round_text slots answers)
told_begun first now next slots answers slot left rest so_far begun =
    rw so_far.whole (adds_begins first now next so_far.told (slot_text slot rest ++ round_text left (answers_behind slot rest)) so_far.added
    (begins_whole now next (slot_text slot rest) (round_text left (answers_behind slot rest)) begun))

-- from an index on, the slot there and then those after it
pub next_slot : (slots : Slots) (i : ℕ) (d : Option Subject) → i < length slots → drop i slots ≡ get_or slots i d ∷ drop (i + 1) slots
next_slot slots i d h = rw add-one (drop-cons slots i d h)
