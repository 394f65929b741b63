use Rattle.std.proofs.Common.{sym, ◌∙◌}
use Rattle.rly_folder_file.proofs.FileNames.{digits_utf8, never_err, ok_value, value_parsed}
use Rattle.rly_folder_file.proofs.place.value_in.Goals as goal

pub returns-in_err-text : goal.returns-in_err-text
returns-in_err-text c =
    let are = sym c.are_twenty_digits.ensures ∙ c.if-not-are_twenty_digits.false in
    absurd (never_err c.from_utf8.result _ _ c.from_utf8.ensures.cases (sym c.ok.ensures.value ∙ c.in_err-text.was) (λ e h. h.0 (digits_utf8 c.args.digits.now are)))

pub returns : goal.returns
returns c =
    let are = sym c.are_twenty_digits.ensures ∙ c.if-not-are_twenty_digits.false in
    let same = (ok_value c.from_utf8.result _ _ c.in_ok-text.text c.from_utf8.ensures.cases (sym c.in_ok-text.ensures.value)).0 in
    let parsed = rw same at c.parse.ensures.value.0 in
    c.ok-2.ensures.value ∙ value_parsed c.args.digits.now c.parse.result parsed are
