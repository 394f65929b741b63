use Rattle.std.proofs.Common.{◌≡◌, ◌+◌, ◌++◌, ◌∙◌, [], ap, arith, drop, length, length-append, subst, sym, ℕ}
use Rattle.rly_record.specs.Spelling.{IsRecordable, record_of}
use Rattle.rly_record.proofs.Bodies.{record_length-short, recordable_longest, recordable_short}
use Rattle.rly_record.proofs.Records.{length-record_of}
use Rattle.rly_journal.specs.Groups.{GroupState, record_place}
use Rattle.rly_journal.specs.GroupAddresses.{placed_at}
use Rattle.rly_journal.proofs.Framed.{all_kept, on_ok_holds, records_length, stage_room}
use Rattle.rly_journal.proofs.group.Group.stage.Goals as goal

pub write_command-requires : goal.write_command-requires
write_command-requires c =
    let most : c.self.inside.most ≡ c.args.self.now.most = ap (λ (g : GroupState). g.most) c.self.view_is in
    recordable_longest c.args.self.now.most c.args.command (omega (arith, most, c.self.invariant.6)) c.requires.recordable

pub unwrap-requires : goal.unwrap-requires
unwrap-requires c =
    let none : drop c.self.inside.kept c.self.inside.frame.items ≡ [] = ap (λ (g : GroupState). g.staged) c.self.view_is ∙ c.requires.nothing in
    let count : c.self.inside.count ≡ c.args.self.now.count = ap (λ (g : GroupState). g.count) c.self.view_is in
    let most : c.self.inside.most ≡ c.args.self.now.most = ap (λ (g : GroupState). g.most) c.self.view_is in
    let recordable : IsRecordable c.self.inside.most c.args.command = subst (λ (n : ℕ). IsRecordable n c.args.command) (sym most) c.requires.recordable in
    c.write_command.ensures.reserved
    (stage_room c.self.inside.most c.self.inside.kept c.self.inside.count _ _ _ c.self.inside.frame.items c.self.inside.frame.ok.0
    (all_kept c.self.inside.kept c.self.inside.frame.items c.self.invariant.1 none) c.self.invariant.2 (omega (arith, count, c.requires.room)) c.self.invariant.5
    (record_length-short c.self.inside.most c.args.command (recordable_short c.self.inside.most c.args.command recordable)))

pub invariant_of-self : goal.invariant_of-self
invariant_of-self c =
    let none : drop c.self.inside.kept c.self.inside.frame.items ≡ [] = ap (λ (g : GroupState). g.staged) c.self.view_is ∙ c.requires.nothing in
    let count : c.self.inside.count ≡ c.args.self.now.count = ap (λ (g : GroupState). g.count) c.self.view_is in
    let most : c.self.inside.most ≡ c.args.self.now.most = ap (λ (g : GroupState). g.most) c.self.view_is in
    let recordable : IsRecordable c.self.inside.most c.args.command = subst (λ (n : ℕ). IsRecordable n c.args.command) (sym most) c.requires.recordable in
    let full = all_kept c.self.inside.kept c.self.inside.frame.items c.self.invariant.1 none in
    let small = record_length-short c.self.inside.most c.args.command (recordable_short c.self.inside.most c.args.command recordable) in
    let ok = c.write_command.ensures.reserved
    (stage_room c.self.inside.most c.self.inside.kept c.self.inside.count _ _ _ c.self.inside.frame.items c.self.inside.frame.ok.0
    full c.self.invariant.2 (omega (arith, count, c.requires.room)) c.self.invariant.5 small) in
    let written : c.write_command.new.out.items ≡ c.self.inside.frame.items ++ record_of c.args.command = on_ok_holds c.write_command.result _ ok c.write_command.ensures.written in
    let size : length c.write_command.new.out.items ≡ length c.self.inside.frame.items + length (record_of c.args.command) =
    ap length written ∙ length-append c.self.inside.frame.items (record_of c.args.command) in
    let record_size = length-record_of c.args.command in (
      c.self.invariant.0,
      omega (arith, size, full),
      c.self.invariant.2,
      omega (arith, size, full, record_size, small),
      c.self.invariant.4,
      omega (arith, c.self.invariant.5, c.write_command.ensures.capacity),
      c.self.invariant.6,
    )

pub returns-clause-placed : goal.returns-clause-placed
returns-clause-placed c =
    let size = records_length c.self.inside.kept c.self.inside.count c.self.inside.most c.self.inside.frame.items c.args.self.now c.self.view_is c.self.invariant.0 c.self.invariant.1 in
    let place : c.args.gate + 1 + c.self.inside.kept ≡ record_place c.args.gate c.args.self.now = omega (arith, size) in
    c.placed_at.ensures ∙ ap (λ (n : ℕ). placed_at n c.args.command) place

pub placed_at-requires-clause-short : goal.placed_at-requires-clause-short
placed_at-requires-clause-short c =
    let most : c.self.inside.most ≡ c.args.self.now.most = ap (λ (g : GroupState). g.most) c.self.view_is in
    recordable_short 8192 c.args.command
    (recordable_longest c.args.self.now.most c.args.command (omega (arith, most, c.self.invariant.6)) c.requires.recordable)
