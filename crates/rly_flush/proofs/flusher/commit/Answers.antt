use Rattle.std.proofs.Common.{◌≡◌, ◌⊎◌, ◌++◌, ◌∙◌, List, true, ap, subst, sym}
use Rattle.std.specs.Prelude.{Result, Ok, Err, OnOk, is_ok}
use Rattle.std.proofs.lemmas.Bool.{false≢true}
use Rattle.rly_core.specs.declared.refusal.Refusal.{Refusal}
use Rattle.rly_machine.specs.declared.call.Answer.{Answer}
use Rattle.rly_journal.specs.Rounds.{refusals}
use Rattle.rly_journal.specs.Journal.{IsRound, MakesRound, MakesShut}
use Rattle.rly_journal.proofs.Unread.{round_unread}
use Rattle.rly_flush.proofs.flusher.commit.Goals as goal

on_ok : {A E : Type 0} (r : Result A E) (P : Type 0) → is_ok r ≡ true → OnOk r P → P
on_ok (Ok x) P is holds = holds
on_ok (Err e) P is holds = absurd (false≢true is)

pub returns-clause-round : goal.returns-clause-round
returns-clause-round g c =
    let is : is_ok c.round-made.result ≡ true = sym c.is_ok.ensures.value ∙ c.if-prove.false in
    let made = on_ok c.round-made.result _ is c.round-made.ensures.answers in
    let round : IsRound g.D.Disk.state c.args.journal.now c.round-made.new.self c.args.calls.now.items c.round-made.new.answers.items =
    subst (IsRound g.D.Disk.state c.args.journal.now c.round-made.new.self c.args.calls.now.items)
    (sym (made.1 ∙ ap (λ (l : List Answer). l ++ made.0) c.requires.empty)) made.2 in
    record {
      round = round;
      unread = round_unread g.D.Disk.state c.args.journal.now c.round-made.new.self c.args.calls.now.items c.round-made.new.answers.items round (λ whole.
          subst (λ (l : List Answer). MakesRound g.D.Disk.state c.args.journal.now c.round-made.new.self c.args.calls.now.items l c.round-made.new.answers.items
          ⊎ ((c.round-made.new.self.state ≡ c.args.journal.now.state) × (told : Refusal)
          × (c.round-made.new.answers.items ≡ l ++ refusals told c.args.journal.now.position c.args.calls.now.items)
          × MakesShut g.D.Disk.state c.args.journal.now c.round-made.new.self c.args.calls.now.items told)) c.requires.empty
          (on_ok c.round-made.result _ is (c.round-made.ensures.trace whole)));
      any_moment = λ honest whole. on_ok c.round-made.result _ is (c.round-made.ensures.any_moment honest whole);
      durable = λ honest whole. on_ok c.round-made.result _ is (c.round-made.ensures.durable honest whole);
      later = c.round-made.ensures.later;
    }
