-- The report on a state (docs/COMMANDS.md, "rly audit"): a line for each hop, then one for each peer, then the
-- count of accepted commands, and, if the books balance, a line for that.
use Rattle.std.specs.Prelude.{ℕ, ◌+◌, ◌==◌, Bool, true, false, ◌&&◌, List, [], ◌∷◌, ◌++◌, codes}
use Rattle.std.specs.Prelude.{map, sum, sum_by}
use Rattle.std.specs.Fmt.{decimal}
use Rattle.std.specs.List.{enumerate_from, flat_map, list_all}
use Rattle.rly_machine.specs.declared.reply.HopStatus.{HopStatus}
use Rattle.rly_machine.specs.Query.{status_of}
use Rattle.rly_machine.specs.State.{State}
use Rattle.rly_daemon_reply.specs.Counts.{counts_text, expired_text}

-- the numbers in a report: those of each hop, the last number taken from each peer, and how many commands were
-- accepted
pub record BooksState : Type 0 where
  pub hops : List HopStatus
  pub lasts : List ℕ
  pub seq : ℕ

-- the numbers of a state
abbrev pub books_of : State (List ℕ) → BooksState
books_of s = record { hops = map status_of s.hops; lasts = s.lasts; seq = s.seq }

-- hop H taken A queued B flight C dropped D released E, and at its end how many expired
abbrev pub hop_line : ℕ × HopStatus → List ℕ
hop_line (number, h) = codes "hop " ++ decimal number ++ counts_text h ++ expired_text h.expired ++ 10 ∷ []

-- peer P last N
abbrev pub peer_line : ℕ × ℕ → List ℕ
peer_line (number, last) = codes "peer " ++ decimal number ++ codes " last " ++ decimal last ++ 10 ∷ []

-- seq N
abbrev pub seq_line : ℕ → List ℕ
seq_line seq = codes "seq " ++ decimal seq ++ 10 ∷ []

-- a hop's books balance: it stored as many as wait, are in flight, were dropped, expired or were released
abbrev pub hop_balances : HopStatus → Bool
hop_balances h = h.taken == h.queued + h.flight + h.dropped + h.expired + h.released

-- each hop's books balance, and the peers' numbers sum to the number of stored datagrams
unfoldable pub balances : BooksState → Bool
balances b = list_all hop_balances b.hops && sum b.lasts == sum_by (λ h. h.taken) b.hops

-- the line for balanced books, if they balance
abbrev pub balance_line : Bool → List ℕ
balance_line true = codes "balance ok" ++ 10 ∷ []
balance_line false = []

-- the hops' lines, each with its number, counted from 1
abbrev pub hop_lines : List HopStatus → List ℕ
hop_lines hops = flat_map hop_line (enumerate_from 1 hops)

-- the peers' lines, each with its number, counted from 1
abbrev pub peer_lines : List ℕ → List ℕ
peer_lines lasts = flat_map peer_line (enumerate_from 1 lasts)

-- the report on numbers
abbrev pub report_text : BooksState → List ℕ
report_text b = hop_lines b.hops ++ peer_lines b.lasts ++ seq_line b.seq ++ balance_line (balances b)

-- the report on a state
abbrev pub report_of : State (List ℕ) → List ℕ
report_of s = report_text (books_of s)
