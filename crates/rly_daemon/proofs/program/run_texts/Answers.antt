use Rattle.std.proofs.Common.{inl, map, refl}
use Rattle.rly_daemon.proofs.Asking.{asks_help}
use Rattle.rly_daemon.proofs.program.run_texts.Goals as goal

-- nothing was read
pub returns-in-Err-clause-done : goal.returns-in-Err-clause-done
returns-in-Err-clause-done g c = λ well. inl (asks_help (map (λ s. s.now) c.args.words.now) c.in-Err.fault c.in-Err.ensures.told (c.report_settings_fault.ensures.asked well), refl)
