use Rattle.std.proofs.Common.{◌≡◌, ◌^◌, ◌<◌}
use Rattle.round_file.specs.Bits.{field}
use Rattle.round_file.proofs.bits.field_at.Given as goal

abbrev pub invariant-loop-i : goal.invariant-loop-i
invariant-loop-i l = (l.number ≡ field l.fixed l.at l.i) × (l.number < 2 ^ l.i)
