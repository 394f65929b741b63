use Rattle.rly_plan.proofs.PassLemmas.{ended_at}
use Rattle.rly_plan.proofs.plan.contacts_of_draft.Goals as goal

pub push-requires-clause-behind : goal.push-requires-clause-behind
push-requires-clause-behind c =
    rw (c.loop-draft.invariant, c.contact_of_draft.ensures) (ended_at c.args.drafts.now c.loop-draft.draft-index _ c.requires.apart c.loop-draft-test.true)
