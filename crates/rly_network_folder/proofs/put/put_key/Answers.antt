use Rattle.std.proofs.Common.{inl, inr, refl}
use Rattle.rly_network_folder.proofs.Puts.{calls_then, looked_once, looked_then, on_err}
use Rattle.rly_network_folder.proofs.put.put_key.Goals as goal

pub returns-in-Some-clause-put : goal.returns-in-Some-clause-put
returns-in-Some-clause-put g c =
    (_, inl (record { there = c.in-Some._there.items; stays = refl; looked = refl }), (rw c.in-Some.is at c.in_ok-found.ensures.called))

pub returns-clause-put : goal.returns-clause-put
returns-clause-put g c =
    let made = c.in_ok-make_key.ensures.made in (
      _,
      inr (record { far = made.0; key = made.1; looks = made.2; from = made.3; first = made.4; comes = refl; made = refl }),
      calls_then _ _ _ _ _ (rw c.in_default.is at c.in_ok-found.ensures.called) made.5,
    )

pub returns-in_err-make_key-clause-looked : goal.returns-in_err-make_key-clause-looked
returns-in_err-make_key-clause-looked g c =
    on_err _ (looked_then _ _ _ (looked_once _ _ _ _ c.in_ok-found.ensures.called) c.in_err-make_key.ensures.looked)
