use Rattle.ring.proofs.Asking.{one_number, yes_or_no}
use Rattle.ring.proofs.questions.one_answer.Goals as goal

pub returns : goal.returns
returns g c =
    let qs = g.Q.Questioned.questions c.args.asked.now in
    record { number = one_number qs; either = yes_or_no qs }
