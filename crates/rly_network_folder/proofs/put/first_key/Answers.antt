use Rattle.std.proofs.Common.{drop, refl, suc, take}
use Rattle.std.proofs.lemmas.List.{map-append}
use Rattle.rly_network_folder.proofs.Puts.{calls_then, looked_missing, looked_none, looked_once, looked_then, one_found, one_taken}
use Rattle.rly_network_folder.proofs.put.first_key.Goals as goal

pub loop-other-preserved : goal.loop-other-preserved
loop-other-preserved g c =
    rw (one_taken c.args.others.now c.loop-other.other-index c.other-item.result c.loop-other-test.true c.other-item.is, map-append)
    (calls_then _ _ _ _ _ c.loop-other.invariant (rw (c.in_default.is, c.as_str.ensures.value) at c.in_ok-key.ensures.called))

pub returns-in-Some-clause-first : goal.returns-in-Some-clause-first
returns-in-Some-clause-first g c = (
  _,
  (
    take c.loop-other.other-index c.args.others.now,
    drop (suc c.loop-other.other-index) c.args.others.now,
    c.other-item.result,
    one_found c.args.others.now c.loop-other.other-index c.other-item.result c.loop-other-test.true c.other-item.is,
    refl,
  ),
  calls_then _ _ _ _ _ c.loop-other.invariant (rw (c.in-Some.is, c.as_str.ensures.value) at c.in_ok-key.ensures.called),
)

pub returns-in_err-key-clause-looked : goal.returns-in_err-key-clause-looked
returns-in_err-key-clause-looked g c =
    looked_then _ _ _ (looked_missing _ _ _ c.loop-other.invariant) (looked_none _ _ c.in_err-key.ensures.failed)

pub returns-in-Some-clause-looked : goal.returns-in-Some-clause-looked
returns-in-Some-clause-looked g c =
    looked_then _ _ _ (looked_missing _ _ _ c.loop-other.invariant) (looked_once _ _ _ _ c.in_ok-key.ensures.called)

pub returns-clause-looked : goal.returns-clause-looked
returns-clause-looked g c = looked_missing _ _ _ c.loop-other.invariant
