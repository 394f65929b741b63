-- The texts of disagreements (docs/NETWORK.md).
use Rattle.std.specs.Prelude.{ℕ, List, [], ◌∷◌, ◌++◌, codes, Some, None}
use Rattle.std.specs.Fmt.{decimal}
use Rattle.std.specs.List.{flat_map}
use Rattle.rly_plan_syntax.specs.PathText.{place_text}
use Rattle.rly_network.specs.declared.disagreement.Conflict.{Conflict}
use Rattle.rly_network.specs.declared.disagreement.Conflict.TheVariants as conflict
use Rattle.rly_network.specs.declared.disagreement.Disagreement.{Disagreement}
use Rattle.rly_network.specs.declared.disagreement.Trouble.{Trouble}
use Rattle.rly_network.specs.declared.disagreement.Trouble.TheVariants as trouble

abbrev pub trouble_text : Trouble → List ℕ
trouble_text (trouble.NoRoute station) =
    codes "stops at station " ++ decimal station ++ codes ", which has no route for it"
trouble_text (trouble.NeverOpen station) =
    codes "stops at station " ++ decimal station ++ codes ", whose hop for it has no contacts"
trouble_text (trouble.Elsewhere station) =
    codes "ends at station " ++ decimal station ++ codes ", which isn't its own"
trouble_text (trouble.Circle station) = codes "goes in a circle through station " ++ decimal station

abbrev pub conflict_text : Conflict → List ℕ
conflict_text conflict.SameStation = codes "another plan has this number"
conflict_text (conflict.FewHops most) = codes "the device has only " ++ decimal most
conflict_text (conflict.FewPeers most) = codes "the device has only " ++ decimal most
conflict_text (conflict.NoPlan station) = codes "no plan of station " ++ decimal station ++ codes " is given"
conflict_text (conflict.NoPeer station) =
    codes "station " ++ decimal station ++ codes " has no peer at a socket for this station"
conflict_text (conflict.ShortPayload station) =
    codes "station " ++ decimal station ++ codes " takes only shorter payloads"
conflict_text (conflict.NotListening station) =
    codes "not where station " ++ decimal station ++ codes " listens for this one"
conflict_text (conflict.NotSending station) =
    codes "not where station " ++ decimal station ++ codes " sends to this one"
conflict_text (conflict.OneKey station) =
    codes "only one of this station and station " ++ decimal station ++ codes " has a key"
conflict_text (conflict.Astray (Some to) trouble) = codes "destination " ++ decimal to ++ codes " " ++ trouble_text trouble
conflict_text (conflict.Astray None trouble) = codes "\"rest\" " ++ trouble_text trouble

abbrev pub disagreement_text : Disagreement → List ℕ
disagreement_text found =
    codes "station " ++ decimal found.station ++ codes ": " ++ place_text found.place ++ codes ": "
    ++ conflict_text found.conflict

-- a line for each
abbrev pub disagreement_line : Disagreement → List ℕ
disagreement_line found = disagreement_text found ++ 10 ∷ []

abbrev pub disagreement_lines : List Disagreement → List ℕ
disagreement_lines found = flat_map disagreement_line found
