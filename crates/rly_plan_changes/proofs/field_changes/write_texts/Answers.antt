use Rattle.std.proofs.Common.{string_bytes}
use Rattle.rly_plan_changes.proofs.Rows.{four_written}
use Rattle.rly_plan_changes.proofs.field_changes.write_texts.Goals as goal

pub returns : goal.returns
returns c =
    four_written (string_bytes c.args.text.now) _ _ _ _ (string_bytes c.write_text_at.new.text) (string_bytes c.write_text_at-2.new.text)
    (string_bytes c.write_text_at-3.new.text) (string_bytes c.write_text_at-4.new.text)
    c.in_ok-write_text_at.ensures c.in_ok-write_text_at-2.ensures c.in_ok-write_text_at-3.ensures c.in_ok-write_text_at-4.ensures
