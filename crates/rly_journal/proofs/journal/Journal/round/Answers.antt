use Rattle.rly_journal.proofs.Common.{[], ap, Broken, false, inl, rules, sym, vec_capacity, ◌∙◌, ◌≡◌, ◌≤◌}
use Rattle.rly_journal.proofs.Rounded.{IsRounded, refused_unlost, shut_rounded, well_rounded}
use Rattle.rly_journal.proofs.journal.Journal.round.Goals.{After-law_durable, in-Ok, in-Err}
use Rattle.rly_journal.proofs.journal.Journal.round.Goals as goal

-- the journal wasn't broken
rounded : (g : _) (c : After-law_durable g) → let m = c.match-make_ready in
    IsRounded g.D.Disk.state c.args.self.now m.self c.args.calls.now.items c.args.answers.now.items m.answers.items
    × (m.calls.items ≡ []) × (vec_capacity m.calls ≡ vec_capacity c.args.calls.now) × (vec_capacity c.args.answers.now ≤ vec_capacity m.answers)
rounded g c =
    let whole : c.args.self.now.broken ≡ false = sym (ap (λ j. j.broken) c.self.view_is) ∙ c.if-self.false in elim c.match-make_ready.branch [
      | in-Ok w ↦
          let served = rw c.reserve.ensures.items at w.serve.ensures.served in
          (rw (w.self-is, w.answers-is) (well_rounded whole (rw c.deref.ensures.value at w.in-Ok.ensures) served), search rules, search rules, search rules)
      | in-Err w ↦
          let at = ap (λ j. j.position) w.self-in-Err.view_is ∙ c.make_ready.ensures.position in
          let told = rw (c.reserve.ensures.items, at) at w.refuse_calls-in-Err.ensures.answers in
          (rw (w.self-is, w.answers-is) (shut_rounded whole (rw c.deref.ensures.value at w.in-Err.ensures) told), search rules, search rules, search rules)
    ]

pub returns : goal.returns
returns g c =
    let r = rounded g c in search (rules, r, r.0.trace, r.0.any_moment, r.0.syncs, r.0.few_syncs, r.0.opened, r.0.stays)

pub returns-then-self-clause-lost : goal.returns-then-self-clause-lost
returns-then-self-clause-lost g c =
    let told = rw c.reserve.ensures.items at c.refuse_calls.ensures.answers in
    (_, told, inl (refused_unlost Broken c.self.inside.position (λ same. cc) (λ same. cc) c.args.self.now.state c.args.calls.now.items))
