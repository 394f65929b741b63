use Rattle.std.proofs.Common.{◌∷◌, ◌++◌, Some, option_map, refl, string_bytes}
use Rattle.rly_network_command.specs.NetworkWrite.{plan_looks}
use Rattle.rly_network_folder.proofs.Puts.{calls_then, looked_then}
use Rattle.rly_network_folder.specs.ShelfCalls.{Looked}
use Rattle.rly_network_command.proofs.network_write.read_network.Goals as goal

pub returns-in_err-before-clause-looked : goal.returns-in_err-before-clause-looked
returns-in_err-before-clause-looked g c = looked_then _ _ _ c.network_in.ensures.looked c.text_in.ensures.looked

pub returns-in_err-ids-clause-looked : goal.returns-in_err-ids-clause-looked
returns-in_err-ids-clause-looked g c = looked_then _ _ _ c.network_in.ensures.looked c.text_in.ensures.looked

pub returns-in_err-refuse_lost_ids-clause-looked : goal.returns-in_err-refuse_lost_ids-clause-looked
returns-in_err-refuse_lost_ids-clause-looked g c =
    looked_then _ _ _ (looked_then _ _ _ c.network_in.ensures.looked c.text_in.ensures.looked) c.refuse_lost_ids.ensures.looked

pub returns-clause-looked : goal.returns-clause-looked
returns-clause-looked g c =
    looked_then _ _ _ (looked_then _ _ _ c.network_in.ensures.looked c.text_in.ensures.looked) c.refuse_lost_ids.ensures.looked

pub returns-clause-read : goal.returns-clause-read
returns-clause-read g c =
    let text = c.in_ok-network.ensures.called in
    let before = rw c.as_str.ensures.value at c.in_ok-before.ensures.called in
    let plans = rw c.deref.ensures.value at c.in_ok-refuse_lost_ids.ensures.none in
    let were = option_map string_bytes c.in_ok-before.before in
    let looks = Looked c.args.file.now (Some text.0) ∷ text.1 in (
      looks ++ (Looked (string_bytes c.in_ok-path.path) were ∷ plan_looks were c.args.folder.now c.in_ok-ids.stations.items),
      record {
        text = text.0;
        before = were;
        passes = text.1;
        only = text.3;
        are = c.in_ok-ids.ensures text.0 text.2;
        beside = c.in_ok-path.ensures;
        looked = refl;
      },
      calls_then _ _ _ looks _ text.4 (calls_then _ _ _ _ _ before plans),
    )
