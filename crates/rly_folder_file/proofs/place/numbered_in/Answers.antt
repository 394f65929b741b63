use Rattle.std.proofs.Common.{refl, rules}
use Rattle.rly_folder_file.proofs.FileNames.{all_behind, no_limit, no_value, no_zero, whole_name}
use Rattle.rly_folder_file.proofs.place.numbered_in.Goals as goal

pub returns-in_err-number-clause-none : goal.returns-in_err-number-clause-none
returns-in_err-number-clause-none c none number limit file =
    no_value c.args.area c.in_ok-middle.middle.now c.args.name.now number limit (search rules) (search rules) file

pub returns-in_err-limit-clause-none : goal.returns-in_err-limit-clause-none
returns-in_err-limit-clause-none c none number limit file =
    no_limit c.args.area c.in_ok-middle.middle.now c.args.name.now number limit (search rules) (λ l. rw (all_behind c.in_ok-middle.middle.now) at (c.in_err-limit.ensures.none refl l)) file

pub returns-then-number-gt0-clause-some : goal.returns-then-number-gt0-clause-some
returns-then-number-gt0-clause-some c = whole_name c.args.area c.in_ok-middle.middle.now c.args.name.now c.in_ok-number.number c.in_ok-limit.limit (search rules)
    (record { long = search rules; value_is = search rules; counts = search rules; limit_is = rw (all_behind c.in_ok-middle.middle.now) at c.in_ok-limit.ensures.some })

pub returns-else-number-gt0-clause-none : goal.returns-else-number-gt0-clause-none
returns-else-number-gt0-clause-none c none number limit file =
    no_zero c.args.area c.in_ok-middle.middle.now c.args.name.now number limit (search rules) c.in_ok-number.number (search rules) (search rules) file
