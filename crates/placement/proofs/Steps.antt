-- The times of a seating begun again, step by step.
use Rattle.std.proofs.Common.{◌≡◌, ℕ, suc, ◌+◌, ◌-◌, ◌*◌, ◌/◌, ◌%◌, ◌<◌, ◌≤◌, cond, List, ◌++◌, map, length, get_or, take, drop, sym, refl, ap, ◌∙◌, arith, length-append, length-drop, le-ltb, lt-ltb}
use native.Mathlib.Decide.{dec_lt}
use Rattle.std.proofs.lemmas.Nat.{div-add-mod'}
use Rattle.std.proofs.lemmas.List.{length-map, length-take-le, get_or_append_left, get_or-append_right, get_or-drop, get_or-take, get_or-map}
use Rattle.placement.specs.Seatings.{Seated, kth, planned, place_of, begun, begun_again}
use Rattle.placement.specs.Keeps.{along, Begun}
use Rattle.placement.specs.declared.stays.Stay.{Stay}
use Rattle.placement.proofs.Chains.{apart_le, lawful_on, lawful_round}
use Rattle.placement.proofs.Leaving.{begun_keeps}
use Rattle.placement.proofs.Orders.{place_order}

pub along_here : (C : ℕ) (ts : List ℕ) (k : ℕ) → k < length ts → along C ts k ≡ get_or ts k 0
along_here C ts k h = ap (λ b. cond b (get_or ts k 0) (get_or ts (k - length ts) 0 + C)) (lt-ltb k (length ts) h)

pub along_past : (C : ℕ) (ts : List ℕ) (k : ℕ) → length ts ≤ k → along C ts k ≡ get_or ts (k - length ts) 0 + C
along_past C ts k h = ap (λ b. cond b (get_or ts k 0) (get_or ts (k - length ts) 0 + C)) (le-ltb k (length ts) h)

-- The times from t on, and those before it one ring later.
round : ℕ → ℕ → List ℕ → List ℕ
round C t ts = drop t ts ++ map (λ u. u + C) (take t ts)

length_round : (C t : ℕ) (ts : List ℕ) → t ≤ length ts → length (round C t ts) ≡ length ts
unfolding round
length_round C t ts h =
    omega (arith, length-append (drop t ts) (map (λ u. u + C) (take t ts)), length-map (take t ts) (λ u. u + C), length-take-le t ts h, length-drop t ts)

round_at : (C t : ℕ) (ts : List ℕ) (k : ℕ) → t < length ts → k < length ts → get_or (round C t ts) k 0 ≡ along C ts (t + k)
unfolding round
round_at C t ts k h b =
    let n : length (drop t ts) ≡ length ts - t = length-drop t ts in
    elim (dec_lt (t + k) (length ts)) [
      | yes y ↦ get_or_append_left (drop t ts) (map (λ u. u + C) (take t ts)) 0 k (omega arith) ∙ get_or-drop t ts k 0 ∙ sym (along_here C ts (t + k) y)
      | no y ↦
          let l : length ts ≤ t + k = omega arith in
          let j : ℕ = k - (length ts - t) in
          let jt : j < t = omega arith in
          let long : length (take t ts) ≡ t = length-take-le t ts (omega arith) in
          let e : j ≡ t + k - length ts = omega arith in
          get_or-append_right (drop t ts) (map (λ u. u + C) (take t ts)) (length ts - t) k 0 n (omega arith)
          ∙ get_or-map (λ u. u + C) (take t ts) j 0 0 (omega arith)
          ∙ ap (λ v. v + C) (get_or-take t ts j 0 jt ∙ ap (λ v. get_or ts v 0) e)
          ∙ sym (along_past C ts (t + k) l)
    ]

module _ (C p q : ℕ) (l : List Stay) (os ts : List ℕ) (hC : 1 ≤ C) (hq : 1 ≤ q) (h : Seated C p q l (planned os ts)) (t : ℕ) (ht : t < length l) where
  -- No time after the t-th, round the ring, comes before it.
  later : (k : ℕ) → k < length l → get_or ts t 0 ≤ along C ts (t + k)
  unfolding Seated
  later k b =
      let n : length ts ≡ length l = h.1 in
      elim (dec_lt (t + k) (length ts)) [
        | yes y ↦ elim (dec_lt 0 k) [
          | yes z ↦ omega (arith, along_here C ts (t + k) y, apart_le p q (kth l os t) (get_or ts t 0) (kth l os (t + k)) (get_or ts (t + k) 0) hq (lawful_on C p q l os ts h t (t + k) (omega arith) (omega arith)))
          | no z ↦ let e : t + k ≡ t = omega arith in omega (arith, along_here C ts (t + k) y, ap (λ v. get_or ts v 0) e)
        ]
        | no y ↦
            let j : ℕ = t + k - length ts in
            omega (arith, along_past C ts (t + k) (omega arith), apart_le p q (kth l os t) (get_or ts t 0) (kth l os j) (get_or ts j 0 + C) hq (lawful_round C p q l os ts h j t (omega arith) ht))
      ]

  base : ℕ
  base = get_or ts t 0 / C * C

  -- The times begun at t, with the whole rings that were taken off.
  begun_plus : (k : ℕ) → k ≤ length l → along C (begun C t ts) k + base ≡ along C ts (t + k)
  unfolding base round Seated
  begun_plus k b =
      let n : length ts ≡ length l = h.1 in
      let r : List ℕ = round C t ts in
      let long : length r ≡ length ts = length_round C t ts (omega arith) in
      let t0 : t + 0 ≡ t = omega arith in
      let first : get_or r 0 0 ≡ get_or ts t 0 = round_at C t ts 0 (omega arith) (omega arith) ∙ ap (λ v. along C ts v) t0 ∙ along_here C ts t (omega arith) in
      let D : ℕ = get_or r 0 0 / C * C in
      let same : D ≡ base = ap (λ v. v / C * C) first in
      let size : length (begun C t ts) ≡ length ts = length-map r (λ u. u - D) ∙ long in
      let low : base + get_or ts t 0 % C ≡ get_or ts t 0 = div-add-mod' (get_or ts t 0) C in
      let at : (j : ℕ) → j < length l → get_or (begun C t ts) j 0 + base ≡ along C ts (t + j) = λ j bj. omega (arith, get_or-map (λ u. u - D) r j 0 0 (omega arith), round_at C t ts j (omega arith) (omega arith), later j bj) in
      elim (dec_lt k (length l)) [
        | yes y ↦ omega (arith, along_here C (begun C t ts) k (omega arith), at k y)
        | no y ↦
            let e : k - length (begun C t ts) ≡ 0 = omega arith in
            let e' : t + k - length ts ≡ t = omega arith in
            omega (arith, along_past C (begun C t ts) k (omega arith), ap (λ v. get_or (begun C t ts) v 0) e, at 0 (omega arith), ap (λ v. along C ts v) t0, along_here C ts t (omega arith), along_past C ts (t + k) (omega arith), ap (λ v. get_or ts v 0) e')
      ]

  begun_first : get_or (begun C t ts) 0 0 ≡ get_or ts t 0 % C
  unfolding base round Seated
  begun_first =
      let n : length ts ≡ length l = h.1 in
      let t0 : t + 0 ≡ t = omega arith in
      let size : length (begun C t ts) ≡ length ts = length-map (round C t ts) (λ u. u - get_or (round C t ts) 0 0 / C * C) ∙ length_round C t ts (omega arith) in
      omega (arith, begun_plus 0 (omega arith), along_here C (begun C t ts) 0 (omega arith), ap (λ v. along C ts v) t0, along_here C ts t (omega arith), div-add-mod' (get_or ts t 0) C)

  begun_steps : (k : ℕ) → k < length l → along C (begun C t ts) (suc k) + along C ts (t + k) ≡ along C (begun C t ts) k + along C ts (t + suc k)
  begun_steps k b = omega (arith, begun_plus k (omega arith), begun_plus (suc k) (omega arith))

pub begun_law : (C p q : ℕ) (l : List Stay) (i : ℕ) (os ts : List ℕ) → 1 ≤ C → 1 ≤ q → Seated C p q l (planned os ts) → i < length l → Begun C p q l i (planned os ts) (begun_again C i (planned os ts))
unfolding Seated begun_again
begun_law C p q l i os ts hC hq h b =
    let k = begun_keeps C p q l i os ts hC hq h b in
    let r = place_order (length l) os h.0 i b in
    record {
      seated = k.0;
      begins = k.1;
      positions = k.2;
      order = refl;
      first = begun_first C p q l os ts hC hq h (place_of i os) r.0;
      steps = begun_steps C p q l os ts hC hq h (place_of i os) r.0;
    }
