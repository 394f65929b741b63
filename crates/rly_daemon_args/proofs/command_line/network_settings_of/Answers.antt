use Rattle.std.proofs.Common.{◌≡◌, ◌∙◌, Some, ap, arith, codes, length, map, refl, sym}
use Rattle.std.specs.Prelude.{option_map}
use Rattle.clap.specs.Words.{found_of}
use Rattle.clap.proofs.WalkLemmas.{raw_values-rows}
use Rattle.rly_daemon_args.proofs.Readings.{one_text_alone, two_texts}
use Rattle.rly_daemon_args.proofs.command_line.network_settings_of.Goals as goal

pub returns-in_ok-last_words-in-check-default-false : goal.returns-in_ok-last_words-in-check-default-false
returns-in_ok-last_words-in-check-default-false c =
    let files = sym (raw_values-rows (found_of c.args.options.now) (codes "files")) ∙ sym c.get_strs.ensures
    ∙ ap (option_map (λ s. map (λ v. v.now) s.now)) c.in_ok-files.was in (
      refl,
      sym c.path_of.ensures ∙ c.in-check-default-false.is-check-0,
      files ∙ ap Some (sym c.in_ok-last_words-in-check-default-false.ensures),
      c.in-check-default-false.ensures,
    )

pub returns-in-write-len2-default : goal.returns-in-write-len2-default
returns-in-write-len2-default c =
    let files = sym (raw_values-rows (found_of c.args.options.now) (codes "files")) ∙ sym c.get_strs.ensures
    ∙ ap (option_map (λ s. map (λ v. v.now) s.now)) c.in_ok-files.was in
    let two : length c.in_ok-files.files.now ≡ 2 = omega (arith, c.in-write-len2-default.len_at_least, c.in-write-len2-default.len_below) in
    (refl, sym c.path_of.ensures ∙ c.in-write-len2-default.is-write-0, files ∙ ap Some (two_texts c.in_ok-files.files.now _ _ two), c.has_flag-changed.ensures)

pub returns-in-draw-len1-false : goal.returns-in-draw-len1-false
returns-in-draw-len1-false c =
    let files = sym (raw_values-rows (found_of c.args.options.now) (codes "files")) ∙ sym c.get_strs.ensures
    ∙ ap (option_map (λ s. map (λ v. v.now) s.now)) c.in_ok-files.was in
    let one : length c.in_ok-files.files.now ≡ 1 = omega (arith, c.in-draw-len1-false.len_at_least, c.in-draw-len1-false.len_below) in (
      refl,
      sym c.path_of.ensures ∙ c.in-draw-len1-false.is-draw-0,
      files ∙ ap Some (one_text_alone c.in_ok-files.files.now _ one),
      c.in-draw-len1-false.ensures,
    )
