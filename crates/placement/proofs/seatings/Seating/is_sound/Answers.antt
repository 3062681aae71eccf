use Rattle.std.proofs.Common.{◌^◌, ap, ◌∙◌, arith, eqb-true}
use Rattle.std.specs.Prelude.{nat_lt}
use Rattle.std.specs.List.{list_all}
use Rattle.placement.specs.Seatings.{Sound}
use Rattle.placement.proofs.Places.{all_below}
use Rattle.placement.proofs.seatings.Seating.is_sound.Goals as goal

pub returns-then-len : goal.returns-then-len
unfolding Sound
returns-then-len c =
    let s = c.args.self.now in
    let small = all_below (2 ^ 62) _ c.all_small.result (omega arith) (c.all_small.ensures ∙ ap (list_all (λ t. nat_lt t (2 ^ 62))) c.deref.ensures.value) in (
      (λ e. (omega (arith, c.if-len.true, c.len.ensures, c.len-2.ensures, s.order.ok.0, s.times.ok.0), small.0 e)),
      λ h. small.1 h.1,
    )

pub returns-else-len : goal.returns-else-len
unfolding Sound
returns-else-len c =
    let s = c.args.self.now in (
      (λ e. absurd (c.if-len.false (eqb-true _ _ e))),
      λ h. absurd (c.if-len.false (omega (arith, h.0, c.len.ensures, c.len-2.ensures, s.order.ok.0, s.times.ok.0))),
    )
