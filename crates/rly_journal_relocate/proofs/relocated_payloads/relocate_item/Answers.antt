use Rattle.std.proofs.Common.{◌≡◌, ◌+◌, ℕ, arith, sym, ap, ◌∙◌}
use Rattle.std.specs.Prelude.{Some}
use Rattle.std.proofs.lemmas.Bool.{iff_false}
use Rattle.rly_machine.specs.Map.{map_item}
use Rattle.rly_machine.specs.State.{Spool, hop_at, live_line}
use Rattle.rly_machine.specs.Relocate.{state_with_relocated}
use Rattle.rly_segment_checkpoint.specs.Widths.{entry_width}
use Rattle.rly_segment_checkpoint.specs.declared.stored.Stored.{Stored}
use Rattle.rly_segment_checkpoint.specs.declared.stored.Stored.TheVariants.{Placed}
use Rattle.rly_journal_relocate.specs.HelpersRelocation.{collected_blank}
use Rattle.rly_journal_relocate.proofs.Relocations.{entry_size}
use Rattle.rly_journal_relocate.proofs.MovedPayloads.{carried, empty_stays, entry_short, hop_below, live_short, same_relocated, settles, size_here, size_there, stays_there}
use Rattle.rly_journal_relocate.proofs.relocated_payloads.relocate_item.Goals as goal
use Rattle.rly_journal_relocate.proofs.relocated_payloads.relocate_item.Goals.{then-length-gt0, else-length-gt0}

pub overflow_cast-length : goal.overflow_cast-length
overflow_cast-length c =
    let s = c.args.machine.now.state in
    omega (arith, c.len-length.ensures, live_short s c.args.hop c.args.index c.live_item.result.now c.law_sound.ensures (hop_below s c.args.hop c.requires.there) c.requires.live c.live_item.ensures)

pub returns-then-not-stands_inline : goal.returns-then-not-stands_inline
returns-then-not-stands_inline c =
    let s = c.args.machine.now.state in
    let item = c.live_item.result.now in
    let other = iff_false c.stands_inline.ensures c.if-not-stands_inline.true in (
      item,
      c.live_item.ensures,
      same_relocated s c.args.hop c.args.index item _ c.requires.live c.live_item.ensures (stays_there c.args.geometry.now c.args.victim (c.args.at + entry_width c.args.form) item.payload other),
      omega (arith, size_there c.args.form c.args.geometry.now c.args.victim item other),
    )

pub relocate-requires-clause-live : goal.relocate-requires-clause-live
relocate-requires-clause-live c =
    let s = c.args.machine.now.state in
    let item = c.live_item.result.now in
    carried (live_line (hop_at s c.args.hop)) c.args.index item c.requires.live c.live_item.ensures ∙ ap (λ (n : ℕ). Some n) (sym c.len-length.ensures)

pub overflow_add-result-2 : goal.overflow_add-result-2
overflow_add-result-2 c =
    let s = c.args.machine.now.state in
    omega (arith, c.requires.fits, c.entry_len.ensures, entry_short c.args.form, c.len-length.ensures, live_short s c.args.hop c.args.index c.live_item.result.now c.law_sound.ensures (hop_below s c.args.hop c.requires.there) c.requires.live c.live_item.ensures)

pub returns : goal.returns
returns c =
    let s = c.args.machine.now.state in
    let g = c.args.geometry.now in
    let item = c.live_item.result.now in
    let here = c.stands_inline.ensures.0 c.if-not-stands_inline.false in
    let start : c.args.at + c.entry_len.result ≡ c.args.at + entry_width c.args.form = omega (arith, c.entry_len.ensures) in
    let size : c.args.at + c.entry_len.result + c.from.result ≡ c.args.at + entry_size c.args.form (map_item (collected_blank g c.args.victim) item) =
    omega (arith, start, size_here c.args.form g c.args.victim item here, c.from.ensures, c.len-length.ensures) in
    elim c.if-length-gt0.branch [
      | then-length-gt0 w ↦ (
        item,
        c.live_item.ensures,
        ap (λ (m : Spool Stored). m.state) w.machine-is ∙ w.relocate.ensures
            ∙ ap (state_with_relocated s c.args.hop c.args.index)
            (ap (λ (n : ℕ). let p : Stored = Placed (record { start = n; length = c.len-length.result }) in p) start
            ∙ ap (λ (n : ℕ). let p : Stored = Placed (record { start = c.args.at + entry_width c.args.form; length = n }) in p) c.len-length.ensures
            ∙ sym (settles g c.args.victim (c.args.at + entry_width c.args.form) item.payload here (omega (arith, w.if-length-gt0.true, c.len-length.ensures)))),
        size,
      )
      | else-length-gt0 w ↦ (
        item,
        c.live_item.ensures,
        ap (λ (m : Spool Stored). m.state) w.machine-is
            ∙ same_relocated s c.args.hop c.args.index item _ c.requires.live c.live_item.ensures
            (empty_stays g c.args.victim (c.args.at + entry_width c.args.form) item.payload (c.requires.bytes item c.live_item.ensures) (omega (arith, w.if-length-gt0.false, c.len-length.ensures))),
        size,
      )
    ]
