use Rattle.std.proofs.Common.{[], ◌∷◌, ◌++◌, option_map, refl, string_bytes}
use Rattle.rly_network_folder.proofs.Puts.{calls_then, looked_then}
use Rattle.rly_network_folder.specs.ShelfCalls.{Looked}
use Rattle.rly_network_command.proofs.network_check.check_file.Goals as goal

pub returns-in_err-before-clause-looked : goal.returns-in_err-before-clause-looked
returns-in_err-before-clause-looked g c = looked_then _ _ _ c.passes_in.ensures c.text_in.ensures.looked

pub returns-in_err-lines-clause-looked : goal.returns-in_err-lines-clause-looked
returns-in_err-lines-clause-looked g c = looked_then _ _ _ c.passes_in.ensures c.text_in.ensures.looked

pub returns-in_err-put-clause-looked : goal.returns-in_err-put-clause-looked
returns-in_err-put-clause-looked g c = looked_then _ _ _ c.passes_in.ensures c.text_in.ensures.looked

pub returns-in-Some-clause-looked : goal.returns-in-Some-clause-looked
returns-in-Some-clause-looked g c = looked_then _ _ _ c.passes_in.ensures c.text_in.ensures.looked

pub returns-in_err-put-2-clause-looked : goal.returns-in_err-put-2-clause-looked
returns-in_err-put-2-clause-looked g c = looked_then _ _ _ c.passes_in.ensures c.text_in.ensures.looked

pub returns-clause-looked : goal.returns-clause-looked
returns-clause-looked g c = looked_then _ _ _ c.passes_in.ensures c.text_in.ensures.looked

pub returns-in-Some-clause-checked : goal.returns-in-Some-clause-checked
returns-in-Some-clause-checked g c =
    let passes = c.passes_in.ensures in
    let before = option_map string_bytes c.in_ok-before.before in (
      passes.0 ++ Looked (string_bytes c.in_ok-ids.ids) before ∷ [],
      record {
        path = string_bytes c.in_ok-ids.ids;
        before = before;
        lines = c.as_str-in-Some.result.now;
        passes = passes.0;
        only = passes.1;
        beside = c.in_ok-ids.ensures;
        looked = refl;
        written = c.in_ok-put.ensures;
        none = λ no. absurd cc;
      },
      calls_then _ _ _ passes.0 _ passes.2 (rw c.as_str.ensures.value at c.in_ok-before.ensures.called),
    )

pub returns-clause-checked : goal.returns-clause-checked
returns-clause-checked g c =
    let passes = c.passes_in.ensures in
    let before = option_map string_bytes c.in_ok-before.before in (
      passes.0 ++ Looked (string_bytes c.in_ok-ids.ids) before ∷ [],
      record {
        path = string_bytes c.in_ok-ids.ids;
        before = before;
        lines = [];
        passes = passes.0;
        only = passes.1;
        beside = c.in_ok-ids.ensures;
        looked = refl;
        written = c.in_ok-put-2.ensures;
        none = λ yes. (refl, c.in_ok-lines.ensures c.in_default.is);
      },
      calls_then _ _ _ passes.0 _ passes.2 (rw c.as_str.ensures.value at c.in_ok-before.ensures.called),
    )
