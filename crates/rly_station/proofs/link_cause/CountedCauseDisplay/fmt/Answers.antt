use Rattle.std.proofs.Common.{subst, sym}
use Rattle.std.specs.Fmt.{HasWritten}
use Rattle.rly_station.specs.LinkCauses.{cause_text}
use Rattle.rly_station.proofs.link_cause.CountedCauseDisplay.fmt.Goals as goal

pub returns-in-IsRefused-clause-writes : goal.returns-in-IsRefused-clause-writes
returns-in-IsRefused-clause-writes g c plain ok =
    subst (λ cause. HasWritten {W = g.row.W.Denot} g.W.Write.write_str_gives c.args.f.now (cause_text cause c.args.self.now.count) c.write-in-IsRefused.new.self) (sym c.in-IsRefused.is) (c.write-in-IsRefused.ensures.writes plain ok)

pub returns-in-Stalled-clause-writes : goal.returns-in-Stalled-clause-writes
returns-in-Stalled-clause-writes g c plain ok =
    subst (λ cause. HasWritten {W = g.row.W.Denot} g.W.Write.write_str_gives c.args.f.now (cause_text cause c.args.self.now.count) c.write-in-Stalled.new.self) (sym c.in-Stalled.is) (c.write-in-Stalled.ensures.writes plain ok)

pub returns-in-LedBack-clause-writes : goal.returns-in-LedBack-clause-writes
returns-in-LedBack-clause-writes g c plain ok =
    subst (λ cause. HasWritten {W = g.row.W.Denot} g.W.Write.write_str_gives c.args.f.now (cause_text cause c.args.self.now.count) c.write-in-LedBack.new.self) (sym c.in-LedBack.is) (c.write-in-LedBack.ensures.writes plain ok)
