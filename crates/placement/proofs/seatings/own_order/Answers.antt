use Rattle.std.proofs.Common.{◌≡◌, ℕ, ◌<◌, length, vec_items, rules, sym, ◌∙◌, arith, ext_get_or}
use Rattle.std.specs.Prelude.{Result, Ok, Err, IfOk, Vec, slice_index}
use Rattle.std.specs.declared.alloc.Global.{Global}
use Rattle.std.specs.declared.alloc.AllocError.{AllocError}
use Rattle.std.specs.List.{range_with_len}
use Rattle.std.proofs.lemmas.List.FromFn.{length-range_with_len, get_or-range_with_len}
use Rattle.std.proofs.iter.runs.Sources.{ranges}
use Rattle.placement.proofs.seatings.own_order.Goals as goal

-- A list is known by its length and its places.
listed : (n : ℕ) (r : Result (Vec ℕ Global) AllocError) → IfOk r (λ v. (length (vec_items v) ≡ n) × ((k : ℕ) → k < n → slice_index (vec_items v) k ≡ k)) → IfOk r (λ v. vec_items v ≡ range_with_len 0 n)
listed n (Err e) h = tt
listed n (Ok v) h =
    ext_get_or 0 (vec_items v) (range_with_len 0 n) (h.0 ∙ sym (length-range_with_len 0 n)) (λ k b. omega (arith, h.1 k (omega (arith, h.0, b)), get_or-range_with_len 0 n k 0 (omega (arith, h.0, b))))

pub returns : goal.returns
returns c = listed c.args.n c.collect.result (search (rules, ranges))
