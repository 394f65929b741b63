use Rattle.std.proofs.Common.{[], ◌∷◌, Some, string_bytes}
use Rattle.rly_network_folder.proofs.Puts.{calls_then, looked_then}
use Rattle.rly_network_folder.specs.ShelfCalls.{Looked}
use Rattle.rly_network_command.proofs.network_file.network_in.Goals as goal

pub returns-in_err-passes-clause-looked : goal.returns-in_err-passes-clause-looked
returns-in_err-passes-clause-looked g c = looked_then _ _ _ c.text_in.ensures.looked c.passes_in.ensures

pub returns-in_err-network-clause-looked : goal.returns-in_err-network-clause-looked
returns-in_err-network-clause-looked g c = looked_then _ _ _ c.text_in.ensures.looked c.passes_in.ensures

pub returns-clause-looked : goal.returns-clause-looked
returns-clause-looked g c = looked_then _ _ _ c.text_in.ensures.looked c.passes_in.ensures

pub returns-clause-called : goal.returns-clause-called
returns-clause-called g c =
    let passes = c.passes_in.ensures in
    let text = string_bytes c.in-Some.text in (
      text,
      passes.0,
      (rw c.as_str-2.ensures.value at c.in_ok-network.ensures.stations),
      passes.1,
      calls_then _ _ _ (Looked c.args.path.now (Some text) ∷ []) passes.0 (rw c.in-Some.is at c.in_ok-text.ensures.called) passes.2,
    )
