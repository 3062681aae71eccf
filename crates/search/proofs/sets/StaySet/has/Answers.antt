use Rattle.std.proofs.Common.{arith, ltb-true}
use Rattle.std.proofs.lemmas.Nat.Bits.{bit_at_above}
use Rattle.search.proofs.sets.StaySet.has.Goals as goal

-- An index of 64 or more is in no set.
pub returns-else-stay-lt64 : goal.returns-else-stay-lt64
returns-else-stay-lt64 c =
    ((λ h. absurd (omega (arith, ltb-true c.args.stay 64 h))), λ h. absurd (omega (arith, h, bit_at_above c.args.self.now.bits 64 c.args.stay (omega arith) c.if-stay-lt64.false)))
