use Rattle.std.proofs.Common.{◌≤◌, ◌∙◌, sym, ap, subst, length}
use Rattle.std.specs.Result.{result_ok}
use Rattle.rly_hop.specs.Spelling.{spelling}
use Rattle.rly_hop.proofs.Messages.{reading-spelling}
use Rattle.rly_world.specs.KeyedWorld.{message_in}
use Rattle.rly_world.proofs.KeyedCase.{keyed_case}
use Rattle.rly_world.specs.PairPayloads.{IsPrefix}
use Rattle.rly_world.specs.PairWorld.{PairWorld, lastingly_picked, lastingly_taken, now_taken, pair_start, released_count}
use Rattle.rly_world.proofs.keyed_law.law_keyed.Goals as goal

pub returns-clause-heard : goal.returns-clause-heard
returns-clause-heard c keys key m hears written =
    ap message_in (c.law_seal.ensures.heard keys key (spelling m) hears) ∙ ap result_ok (reading-spelling m written)

pub returns-clause-case : goal.returns-clause-case
returns-clause-case c setup events sealed = keyed_case (pair_start setup) events sealed

pub returns-clause-order : goal.returns-clause-order
returns-clause-order c setup events pair sealed =
    let made = keyed_case (pair_start setup) events sealed in
    subst (λ (w : PairWorld). IsPrefix (now_taken w) (lastingly_picked w)) (sym made.1) (c.law_two.ensures.order setup made.0 pair)

pub returns-clause-released : goal.returns-clause-released
returns-clause-released c setup events pair sealed =
    let made = keyed_case (pair_start setup) events sealed in
    subst (λ (w : PairWorld). released_count w ≤ length (lastingly_taken w)) (sym made.1)
    (c.law_two.ensures.released setup made.0 pair)
