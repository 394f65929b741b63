-- A text of only white space and comments is a document without a key, and yields no plan.
use Rattle.std.proofs.Common.{◌≡◌, ◌≢◌, ℕ, suc, List, [], codes, length, Some, None, option_and_then, ◌∙◌, sym, ap, arith}
use Rattle.toml.specs.Data.{Members, no_members}
use Rattle.toml.specs.Errors.{IsBlank}
use Rattle.toml.specs.Parse.{parse_document, skip_bom}
use Rattle.toml.specs.Tables.{no_nodes}
use Rattle.toml.proofs.Turns.{document_some, lines_end}
use Rattle.rly_plan_syntax.specs.Draft.{PlanText, draft_of, integer_at}

blank_document : (text : List ℕ) → IsBlank text → parse_document text ≡ Some no_members
blank_document text blank = document_some text (no_nodes, []) (lines_end (suc (length text)) (no_nodes, []) (skip_bom text) (omega arith) blank)

-- a text whose document has a station, or a draft, isn't blank
pub with_station : (text : List ℕ) (ms : Members) → parse_document text ≡ Some ms → integer_at (codes "station") ms ≢ None → IsBlank text → ⊥
with_station text ms read there blank = there (ap (option_and_then (integer_at (codes "station"))) (sym read ∙ blank_document text blank))

pub with_draft : (text : List ℕ) (ms : Members) (d : PlanText) → parse_document text ≡ Some ms → draft_of ms ≡ Some d → IsBlank text → ⊥
with_draft text ms d read drafted blank =
    let none : draft_of ms ≡ None = ap (option_and_then draft_of) (sym read ∙ blank_document text blank) in
    cc
