use Rattle.std.proofs.Common.{◌≡◌, ◌+◌, ◌<◌, ◌∙◌, ◌==◌, ℕ, List, Some, None, ap, arith, drop, length, slice_index, sym}
use Rattle.std.specs.List.{position}
use Rattle.std.proofs.lemmas.List.{get_or-drop, length-drop, take_rest}
use Rattle.std.proofs.lemmas.List.Quantifiers.{position-Some}
use Rattle.rly_daemon_lines.proofs.Payloads.{any_cut, no_cut}
use Rattle.rly_daemon_lines.proofs.grammar.cut_limit.Goals as goal

pub returns-in_err-found : goal.returns-in_err-found
returns-in_err-found c =
    let text = c.args.text.now in
    let start = c.saturating_sub-start.result in
    let none : position (λ b. b == 32) (drop start text) ≡ None = rw take_rest at (sym c.in_err-found.ensures.place) in
    rw c.from_residual.ensures (λ (peer number hop stamp : List ℕ). no_cut peer number hop stamp text start (omega (arith, c.saturating_sub-start.ensures)) none)

pub returns : goal.returns
returns c =
    let text = c.args.text.now in
    let start = c.saturating_sub-start.result in
    let found = c.in_ok-found.found in
    let place : position (λ b. b == 32) (drop start text) ≡ Some found = rw take_rest at (sym c.in_ok-found.ensures.place) in
    let there = position-Some (λ b. b == 32) (drop start text) found 0 place in
    let is : slice_index (drop start text) found ≡ slice_index text (start + found) = get_or-drop start text found 0 in
    let within : start + found < length text = omega (arith, there.0, length-drop start text) in
    λ (peer number hop stamp : List ℕ). rw (take_rest text (start + found + 1))
    (any_cut peer number hop stamp text (start + found) within (sym (ap (λ (b : ℕ). b == 32) is) ∙ there.1))
