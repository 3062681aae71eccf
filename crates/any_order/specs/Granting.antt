-- The seater that seats in any order keeps the rules.
use Rattle.std.specs.Prelude.{[], refl}
use Rattle.std.proofs.Common.{arith}
use Rattle.std.proofs.lemmas.List.Edits.{length-remove}
use Rattle.std.proofs.lemmas.List.{length-set}
use Rattle.placement.proofs.Easier.{lawful_narrowed}
use Rattle.placement.proofs.Leaving.{empty_seated}
use Rattle.seaters.specs.Meanings.{Rules}
use Rattle.seaters.specs.ListRules.{bounds_without, bounds_narrowed, left}
use Rattle.seaters.specs.DepotRules.{only_empty}
use Rattle.any_order.specs.AnyOrders.{any_order_means}

pub any_order_rules : Rules any_order_means
any_order_rules = record {
  lawful = λ c v l s g. g.1;
  taken = λ c v l s g. g.0;
  few = λ c l t. omega (arith, t.0);
  bounded = λ c l t. t.1;
  none_taken = λ c. (omega arith, λ k h. absurd (omega arith));
  none_granted = λ c v. ((omega arith, λ k h. absurd (omega arith)), (empty_seated c.ticks v.p v.q [] refl).0);
  none_given = λ c v s g. only_empty c.ticks v.p v.q [] s refl g.1;
  taken_without = λ c l k h t. (omega (arith, length-remove l k h, t.0), bounds_without c.ticks l k h t.1);
  taken_narrowed = λ c l k a h n t. (omega (arith, length-set l k a, t.0), bounds_narrowed c.ticks l k a h n t.1);
  granted_without = λ c v l s k h g. (
    (omega (arith, length-remove l k h, g.0.0), bounds_without c.ticks l k h g.0.1),
    left c.ticks v.p v.q l s k c.bounds.0 v.bounds.2 h g.1,
  );
  granted_narrowed = λ c v l s k a h n b g. (
    (omega (arith, length-set l k a, g.0.0), bounds_narrowed c.ticks l k a h n g.0.1),
    lawful_narrowed c.ticks v.p v.q l s k a v.bounds.2 h n b g.1,
  );
  given = λ c v l s g. g;
  some_given = λ c v l s g. (s, g);
}
