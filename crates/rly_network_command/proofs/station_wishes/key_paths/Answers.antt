use Rattle.std.proofs.Common.{◌∙◌, [], ◌∷◌, ◌++◌, ap, sym, take}
use Rattle.rly_network_command.specs.NetworkFiles.{key_paths}
use Rattle.rly_network_command.proofs.WishLemmas.{key_paths_then}
use Rattle.rly_network_folder.proofs.Puts.{one_taken}
use Rattle.rly_network_command.proofs.station_wishes.key_paths.Goals as goal

pub loop-station-preserved : goal.loop-station-preserved
loop-station-preserved c =
    let folder = c.args.folder.now in
    let key = c.args.key.now in
    let here = key_paths folder (c.station-item.result ∷ []) key in
    let before = take c.loop-station.station-index c.args.stations.now in
    let more = one_taken c.args.stations.now c.loop-station.station-index c.station-item.result c.loop-station-test.true c.station-item.is in
    c.in_ok-push_path.ensures ∙ ap (λ l. l ++ here) c.loop-station.invariant
    ∙ sym (key_paths_then folder before (c.station-item.result ∷ []) key) ∙ ap (λ l. key_paths folder l key) (sym more)
