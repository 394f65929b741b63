-- One Show more.
use Rattle.std.proofs.Common.{◌≡◌, ℕ, ◌+◌, ◌++◌, [], ◌∷◌, arith}
use Rattle.std.proofs.lemmas.List.FromFn.{map-range_with_len_more}
use Rattle.rly_daemon_report.specs.Hops.{show_ask, shows_of_hops}

pub shows_more : (count : ℕ) → shows_of_hops (count + 1) ≡ shows_of_hops count ++ show_ask (count + 1) ∷ []
shows_more count = map-range_with_len_more show_ask 1 count (count + 1) (omega arith)
