use Rattle.std.proofs.Common.{sym, ◌∙◌}
use Rattle.rly_daemon_lines.proofs.Numerals.{number_parsed, digits_utf8, never_err, ok_value}
use Rattle.rly_daemon_lines.proofs.grammar.parse_number.Goals as goal

pub returns-in_err-text : goal.returns-in_err-text
returns-in_err-text c =
    let numeral = sym c.is_numeral.ensures ∙ c.if-not-is_numeral.false in
    absurd (never_err c.from_utf8.result _ _ c.from_utf8.ensures.cases (sym c.ok.ensures.value ∙ c.in_err-text.was) (λ e h. h.0 (digits_utf8 c.args.word.now numeral)))

pub returns : goal.returns
returns c =
    let numeral = sym c.is_numeral.ensures ∙ c.if-not-is_numeral.false in
    let same = (ok_value c.from_utf8.result _ _ c.in_ok-text.text c.from_utf8.ensures.cases (sym c.in_ok-text.ensures.value)).0 in
    let parsed = rw same at c.parse.ensures.value.0 in
    c.ok-2.ensures.value ∙ number_parsed c.args.word.now c.parse.result parsed numeral
