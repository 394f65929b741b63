use Rattle.std.proofs.Common.{◌≡◌, arith, subst, w64}
use Rattle.std.specs.Prelude.{IfOk, pos, ◌*ℤ◌}
use Rattle.std.proofs.lemmas.Int.{to_z_pos}
use Rattle.jiff_core.proofs.SignedLemmas.{signed_arith}
use Rattle.rly_plan_show.proofs.Dates.{clock_text_is}
use Rattle.rly_plan_show.proofs.utc.clock_at.Goals as goal

pub returns : goal.returns
returns c =
    let value = rw (to_z_pos w64 c.args.moment (omega (arith, c.requires))) at c.from_microsecond.ensures.value in
    let found = subst (λ r. IfOk r (λ t. t.nanosecond ≡ pos c.args.moment *ℤ pos 1000)) c.unwrap-instant.ensures value in
    clock_text_is c.args.moment c.to_datetime.result c.requires (omega (arith, signed_arith, c.to_datetime.ensures, found))
