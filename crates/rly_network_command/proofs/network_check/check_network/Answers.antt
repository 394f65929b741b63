use Rattle.std.proofs.Common.{◌∷◌, ◌++◌, Some, inl, inr, refl, string_bytes}
use Rattle.rly_network_folder.proofs.Puts.{calls_then, looked_then}
use Rattle.rly_network_folder.specs.ShelfCalls.{Looked}
use Rattle.rly_network_command.proofs.network_check.check_network.Goals as goal

pub returns-in_default-clause-checked : goal.returns-in_default-clause-checked
returns-in_default-clause-checked g c =
    let looks = c.sole_network.ensures.looked in
    let plans = c.in_ok-agree.ensures.checked in (
      looks.0 ++ plans.0,
      inl (record { first = looks.0; reading = plans.0; only = looks.1; all = refl; checked = plans.1 }),
      calls_then _ _ _ _ _ looks.2 plans.2,
    )

pub returns-clause-checked : goal.returns-clause-checked
returns-clause-checked g c =
    let file = c.in_ok-agree-2.ensures.checked in (
      Looked c.in-Some.name.now (Some (string_bytes c.in-Some.text)) ∷ file.0,
      inr (record {
        file = c.in-Some.name.now;
        text = string_bytes c.in-Some.text;
        more = file.0;
        alone = c.in-Some.ensures.alone;
        network = c.in-Some.ensures.network;
        looked = refl;
        checked = rw c.as_str.ensures.value at file.1;
      }),
      calls_then _ _ _ _ _ c.in-Some.ensures.called file.2,
    )

pub returns-in_err-agree-clause-looked : goal.returns-in_err-agree-clause-looked
returns-in_err-agree-clause-looked g c = looked_then _ _ _ c.sole_network.ensures.looked c.check_plans.ensures.looked

pub returns-in_default-clause-looked : goal.returns-in_default-clause-looked
returns-in_default-clause-looked g c = looked_then _ _ _ c.sole_network.ensures.looked c.check_plans.ensures.looked

pub returns-in_err-agree-2-clause-looked : goal.returns-in_err-agree-2-clause-looked
returns-in_err-agree-2-clause-looked g c = looked_then _ _ _ c.sole_network.ensures.looked c.check_file.ensures.looked

pub returns-clause-looked : goal.returns-clause-looked
returns-clause-looked g c = looked_then _ _ _ c.sole_network.ensures.looked c.check_file.ensures.looked
