use Rattle.std.proofs.Common.{◌≡◌, ℕ, ◌^◌, List, map, length, vec_items, vec_len, sym, ap, ◌∙◌, subst, arith}
use Rattle.std.specs.List.{remove}
use Rattle.std.proofs.lemmas.List.{with_items_is}
use Rattle.placement.specs.declared.seatings.Seating.{Seating}
use Rattle.placement.specs.Seatings.{planned, place_of, FirstPlace, fallen, left_out, Sound, Small}
use Rattle.placement.proofs.Places.{place_from, removed_past, removed_below}
use Rattle.placement.proofs.seatings.Seating.leave_out.Goals as goal
use Rattle.placement.proofs.seatings.Seating.leave_out.Goals.{in-Some, in_default}

pub remove-requires-in-Some : goal.remove-requires-in-Some
unfolding Sound
remove-requires-in-Some c =
    let s = c.args.self.now in
    let found = subst (λ (os : List ℕ). FirstPlace c.args.stay os c.find.result) c.deref.ensures.value c.find.ensures in
    let k = place_from c.args.stay c.in-Some.k (vec_items s.order) c.find.result found c.in-Some.is in
    omega (arith, k.1, c.requires.0, s.times.ok.0)

pub returns : goal.returns
unfolding Sound left_out
returns c =
    let s = c.args.self.now in
    let i = c.args.stay in
    let os : List ℕ = vec_items s.order in
    let ts : List ℕ = vec_items s.times in
    let k : ℕ = place_of i os in
    let same : vec_len s.order ≡ vec_len s.times = omega (arith, c.requires.0, s.order.ok.0, s.times.ok.0) in
    let found = subst (λ (l : List ℕ). FirstPlace i l c.find.result) c.deref.ensures.value c.find.ensures in
    let Out : Seating → Type 0 = λ v. (vec_items v.order ≡ remove os k) × (vec_items v.times ≡ remove ts k) × (vec_len v.order ≡ vec_len v.times) in
    let out : Out c.match-find.self =
    elim c.match-find.branch [
      | in-Some w ↦
          let at : w.in-Some.k ≡ k = sym (place_from i w.in-Some.k os c.find.result found w.in-Some.is).0 in
          subst Out (sym w.self-is) (w.remove.ensures.items ∙ ap (remove os) at, w.remove-in-Some.ensures.items ∙ ap (remove ts) at, omega (arith, w.remove.ensures.len, w.remove-in-Some.ensures.len))
      | in_default w ↦
          let past : k ≡ length os = subst (FirstPlace i os) w.in_default.is found in
          subst Out (sym w.self-is) (sym (removed_past os k (omega (arith, past))), sym (removed_past ts k (omega (arith, past, same, s.order.ok.0, s.times.ok.0))), same)
    ] in
    let v = c.match-find.self.order in
    let u = c.match-find.self.times in
    let numbers : c.renumber.new.order ≡ map (fallen i) (remove os k) =
    c.renumber.ensures ∙ ap (map (fallen i)) c.deref_mut.ensures.value ∙ ap (map (fallen i)) out.0 in
    let held = with_items_is v c.renumber.new.order (omega (arith, c.renumber.auto.order, c.deref_mut.ensures.len)) in
    let small : Small (vec_items u) = subst (λ (l : List ℕ). Small l) (sym out.1) (removed_below (2 ^ 62) ts k c.requires.1) in
    let order = held ∙ numbers in
    record {
      leaves = λ x. planned (order x) (out.1 x);
      sound = (ap length held ∙ omega (arith, c.renumber.auto.order, c.deref_mut.ensures.len, out.2, v.ok.0, u.ok.0), small);
    }
