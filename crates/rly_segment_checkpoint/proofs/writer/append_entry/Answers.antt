use Rattle.std.proofs.Common.{List, ℕ, length, ap, arith}
use Rattle.rly_segment_checkpoint.specs.Checkpoint.{spelled_by}
use Rattle.rly_segment_checkpoint.specs.declared.head_form.HeadForm.TheVariants.{Second}
use Rattle.rly_segment_checkpoint.proofs.Parts.{length-entry}
use Rattle.rly_segment_checkpoint.proofs.Written.{entry_written}
use Rattle.rly_segment_checkpoint.proofs.writer.append_entry.Goals as goal

pub append-requires : goal.append-requires
append-requires g c =
    omega (arith, ap (λ (t : List ℕ). length t) c.entry_head-head.ensures, length-entry g.C.Content.length_of (spelled_by g.C.Form.form Second) c.args.item.now, c.requires.room)

pub append_form-requires-clause-room : goal.append_form-requires-clause-room
append_form-requires-clause-room g c =
    omega (arith, ap (λ (t : List ℕ). length t) c.entry_head-head.ensures, length-entry g.C.Content.length_of (spelled_by g.C.Form.form Second) c.args.item.now, c.requires.room, c.append.ensures.len, c.append.ensures.capacity)

pub returns-clause-items : goal.returns-clause-items
returns-clause-items g c =
    entry_written g.C.Content.length_of g.C.Form.form c.args.item.now c.entry_head-head.result c.args.out.now.items c.append.new.out.items c.append_form.new.out.items
    c.entry_head-head.ensures c.append.ensures.items c.append_form.ensures.items

pub returns-clause-len : goal.returns-clause-len
returns-clause-len g c =
    omega (arith, ap (λ (t : List ℕ). length t) c.entry_head-head.ensures, length-entry g.C.Content.length_of (spelled_by g.C.Form.form Second) c.args.item.now, c.append.ensures.len, c.append_form.ensures.len)
