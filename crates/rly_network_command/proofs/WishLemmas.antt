-- Wishes after wishes, and lines after lines.
use Rattle.std.proofs.Common.{◌≡◌, ◌∙◌, ℕ, ◌+◌, ◌<◌, ◌≤◌, Bool, List, [], ◌∷◌, ◌++◌, ap, arith, drop, drop-cons, get_or, inl, inr, length, map, min, refl, suc, sym, true, false}
use Rattle.std.proofs.lemmas.Bool.{cases_lt}
use Rattle.std.proofs.lemmas.List.{drop_all, map-append}
use Rattle.std.proofs.lemmas.List.Elements.{filter-append}
use Rattle.std.specs.List.{filter}
use Rattle.rly_network_command.specs.NetworkFiles.{key_paths, names_key, path_of}
use Rattle.rly_network_command.specs.NetworkWrite.{changed_line, changed_lines}
use Rattle.rly_network_file.specs.declared.station_files.StationFiles.{StationFiles}

pub key_paths_then : (folder : List ℕ) (a b : List StationFiles) (key : List ℕ) → key_paths folder (a ++ b) key ≡ key_paths folder a key ++ key_paths folder b key
key_paths_then folder a b key =
    ap (λ l. map (λ s. path_of folder s key) l) (filter-append (names_key key) a b)
    ∙ map-append (λ s. path_of folder s key) (filter (names_key key) a) (filter (names_key key) b)

drop_next : {X : Type 0} (xs : List X) (i : ℕ) (x : X) → i < length xs → x ≡ get_or xs i x → drop i xs ≡ x ∷ drop (i + 1) xs
drop_next xs i x within found =
    let next : suc i ≡ i + 1 = omega arith in
    drop-cons xs i x within ∙ ap (λ y. y ∷ drop (suc i) xs) (sym found) ∙ ap (λ n. x ∷ drop n xs) next

pub key_paths_none : (folder : List ℕ) (station : StationFiles) (key : List ℕ) → names_key key station ≡ false → key_paths folder (station ∷ []) key ≡ []
key_paths_none folder station key unnamed = rw unnamed refl

pub key_paths_one : (folder : List ℕ) (station : StationFiles) (key : List ℕ) → names_key key station ≡ true
    → key_paths folder (station ∷ []) key ≡ path_of folder station key ∷ []
key_paths_one folder station key named = rw named refl

changed_no_news : (stations : List StationFiles) → changed_lines stations [] ≡ []
changed_no_news [] = refl
changed_no_news (station ∷ stations) = refl

-- what is left of the lines once as many stations were told
pub changed_rest : (stations : List StationFiles) (news : List Bool) (i : ℕ) (station : StationFiles) (new : Bool)
    → i < length stations → i < length news → station ≡ get_or stations i station → new ≡ get_or news i new
    → changed_lines (drop i stations) (drop i news) ≡ changed_line station new ++ changed_lines (drop (i + 1) stations) (drop (i + 1) news)
changed_rest stations news i station new one two this that =
    rw (drop_next stations i station one this, drop_next news i new two that) refl

pub changed_end : (stations : List StationFiles) (news : List Bool) (i : ℕ) → min (length stations) (length news) ≤ i → changed_lines (drop i stations) (drop i news) ≡ []
changed_end stations news i past =
    elim (cases_lt i (length stations)) [
      | inl more ↦ let over : length news ≤ i = omega (arith, past, more) in rw (drop_all i news over) (changed_no_news (drop i stations))
      | inr over ↦ rw (drop_all i stations over) refl
    ]
