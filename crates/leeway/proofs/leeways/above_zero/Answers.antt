use Rattle.std.proofs.Common.{sym, ◌∙◌}
use Rattle.leeway.proofs.leeways.above_zero.Goals as goal

pub returns-then-over-eq0 : goal.returns-then-over-eq0
returns-then-over-eq0 c =
    (c.args.course.asked, c.greatest_settles.ensures.settled.zero c.in_ok-best.best c.in_ok-best.ensures (sym c.over.ensures ∙ c.if-over-eq0.true))
