use Rattle.rly_journal.proofs.Common.{[], ap, arith, false, false≢true, inl, Inline, inline_alike, is_accepted, IsAlike, length, List, map_command, map_state}
use Rattle.rly_journal.proofs.Common.{same_reply, shown_in, sound_alike, State, step, stored_length, sym, unaccepted, ℕ, ◌∙◌, ◌≡◌}
use Rattle.rly_journal.proofs.AcceptedCounts.{long_leaves}
use Rattle.rly_journal.proofs.Opening.{shown_alike}
use Rattle.rly_journal.proofs.Outcomes.{needs_accepts}
use Rattle.rly_journal.proofs.Redone.{IsStepped, stepped}
use Rattle.rly_journal.proofs.evaluation.answer_long.Goals.{After-law_index}
use Rattle.rly_journal.proofs.evaluation.answer_long.Goals as goal

-- it fails a check
refused : (c : After-law_index) → is_accepted (step stored_length c.args.index.now.spool.state (map_command Inline c.args.command)).1 ≡ false
refused c =
    let s = c.args.index.now.spool.state in
    let t = map_state (shown_in []) s in
    let alike = shown_alike [] s in
    ap is_accepted (same_reply s t (map_command Inline c.args.command) c.args.command alike (inline_alike c.args.command))
    ∙ long_leaves t c.args.command (sound_alike stored_length length s t alike c.law_index.ensures.sound) c.requires.long

pub apply-requires-clause-brought : goal.apply-requires-clause-brought
apply-requires-clause-brought c = λ accepts.
    let long = refused (goal.at.apply-requires-clause-brought c).After-law_index in
    absurd (false≢true (sym long ∙ rw (c.in-Ok.ensures.state, c.inline_command-placed.ensures) at accepts))

pub returns-in-Ok : goal.returns-in-Ok
returns-in-Ok c =
    let long = refused (goal.at.returns-in-Ok c).After-law_index in
    let s = c.args.index.now.spool.state in
    let placed = map_command Inline c.args.command in
    let one : IsStepped c.args.index.now c.apply.new.self placed c.apply.result c.used_until-used.result =
    stepped c.in-Ok.ensures.state c.in-Ok.ensures.at c.inline_command-placed.ensures c.apply.ensures.state c.apply.ensures.reply c.apply.ensures.at in
    let told = λ (t : State (List ℕ)) (alike : IsAlike s t). one.reply ∙ same_reply s t placed c.args.command alike (inline_alike c.args.command) in
    search (arith, told, inl, long, one.state, one.reply, one.at, unaccepted stored_length s placed long)

-- only a command that would be accepted allocates
pub returns-in-Err-clause-told : goal.returns-in-Err-clause-told
returns-in-Err-clause-told c = λ t alike.
    let long = refused (goal.at.returns-in-Err-clause-told c).After-law_index in
    absurd (false≢true (sym long ∙ needs_accepts c.args.index.now.spool _ (rw c.inline_command-placed.ensures at c.in-Err.ensures.memory)))
