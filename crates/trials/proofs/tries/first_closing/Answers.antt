use Rattle.std.proofs.Common.{◌≡◌, ℕ, ◌+◌, ◌%◌, ◌^◌, ◌<◌, ◌≤◌, [], ◌∷◌, ◌++◌, length, get_or, vec_items, sym, refl, subst, arith, rules, true≢false}
use native.Mathlib.Decide.{dec_lt}
use Rattle.placement.specs.Stays.{Apart, no_stay}
use Rattle.placement.specs.Seatings.{turned}
use Rattle.trials.specs.Trials.{Found, First}
use Rattle.trials.proofs.Followers.{open_fails, fails_open}
use Rattle.trials.proofs.Pushes.{Place, last_push, trial_more, last_more, late_more, place_round, whole_trial}
use Rattle.trials.proofs.Firsts.{first_seated, least_exists, none_seated}
use Rattle.trials.proofs.tries.first_closing.Goals as goal
use Rattle.trials.proofs.tries.first_closing.Goals.{in_default, in-Some+in_ok-push+else-followers-test+then-is_apart}

one_more : (P : ℕ → Type 0) (m n t : ℕ) → t ≡ m → n ≡ t + 1 → ((u : ℕ) → u < m → P u) → P t → (u : ℕ) → u < n → P u
one_more P m n t at on before here u h = elim (dec_lt u m) [ yes b ↦ before u b | no b ↦ subst P (omega (arith, at, on, h, b)) here ]

-- A follower that has no time of 64 bits.
pub trials-preserved-in_default-next_time : goal.trials-preserved-in_default-next_time
trials-preserved-in_default-next_time c =
    let C = c.args.ring.ticks in
    let p = c.args.ratio.over in
    let q = c.args.ratio.under in
    let l = c.args.stays.now in
    let os = c.args.order.now in
    let t = c.in-Some.t in
    let at : t ≡ c.trials.starts.start = search rules in
    let k = c.followers.k in
    let i : ℕ = (t + k) % length os in
    let pl : Place (length os) t k i = place_round (length os) t k (search rules) (omega arith) in
    let v = c.followers.invariant in
    let b = get_or l (get_or os i 0) no_stay in
    let m = least_exists C p q l c.args.ring.bounds.0 c.args.ratio.whole c.followers.last c.followers.at b in
    let late : 2 ^ 64 ≤ m.0 = c.in_default-next_time.ensures m.0 m.1.holds m.1.apart in
    let on : c.next.new.self.start ≡ t + 1 = search rules in
    let end : c.next.new.self.end ≡ length os = search rules in
    let below : t < length os = search rules in
    let low : (get_or l (get_or os t 0) no_stay).window.from < C = (c.requires.0 (get_or os t 0) (c.requires.1.1 t (omega (arith, c.requires.1.0)))).from in (
      omega (arith, on, end, below),
      end,
      one_more _ _ _ _ at on c.trials.invariant.2 (late_more C p q l t k i os (vec_items c.followers.times) c.followers.last c.followers.at m.0 c.args.ratio.whole (omega arith) (omega arith) pl v.1 v.2 v.3 m.1 (omega (arith, late, low, c.args.ring.bounds.1))),
    )

-- A follower that comes after the end.
pub trials-preserved-then-time-end : goal.trials-preserved-then-time-end
trials-preserved-then-time-end c =
    let C = c.args.ring.ticks in
    let p = c.args.ratio.over in
    let q = c.args.ratio.under in
    let l = c.args.stays.now in
    let os = c.args.order.now in
    let t = c.in-Some.t in
    let at : t ≡ c.trials.starts.start = search rules in
    let k = c.followers.k in
    let i : ℕ = (t + k) % length os in
    let pl : Place (length os) t k i = place_round (length os) t k (search rules) (omega arith) in
    let on : c.next.new.self.start ≡ t + 1 = search rules in
    let end : c.next.new.self.end ≡ length os = search rules in
    let below : t < length os = search rules in
    let v = c.followers.invariant in (
      omega (arith, on, end, below),
      end,
      one_more _ _ _ _ at on c.trials.invariant.2 (late_more C p q l t k i os (vec_items c.followers.times) c.followers.last c.followers.at c.in-Some-next_time.time c.args.ratio.whole (omega arith) (omega arith) pl v.1 v.2 v.3 c.in-Some-next_time.ensures (omega (arith, c.if-time-end.true, c.ticks.ensures))),
    )

pub followers-preserved : goal.followers-preserved
followers-preserved c =
    let C = c.args.ring.ticks in
    let p = c.args.ratio.over in
    let q = c.args.ratio.under in
    let l = c.args.stays.now in
    let os = c.args.order.now in
    let t = c.in-Some.t in
    let at : t ≡ c.trials.starts.start = search rules in
    let k = c.followers.k in
    let i : ℕ = (t + k) % length os in
    let ht : t < length os = search rules in
    let hk : k < length os = omega arith in
    let pl : Place (length os) t k i = place_round (length os) t k (search rules) (omega arith) in
    let v = c.followers.invariant in
    let e : vec_items c.push-in-followers.new.self ≡ vec_items c.followers.times ++ c.in-Some-next_time.time ∷ [] = c.in_ok-push-2.ensures.items in (
      c.if-time-end.false,
      rw e (trial_more C p q l t k i os (vec_items c.followers.times) c.followers.last c.followers.at c.in-Some-next_time.time ht hk pl v.1 v.2 v.3 c.in-Some-next_time.ensures),
      last_more C p q l t k i os ht hk pl,
      rw e (last_push 0 (vec_items c.followers.times) c.in-Some-next_time.time),
    )

-- The whole trial does not close.
pub trials-preserved : goal.trials-preserved
trials-preserved c =
    let C = c.args.ring.ticks in
    let p = c.args.ratio.over in
    let q = c.args.ratio.under in
    let l = c.args.stays.now in
    let os = c.args.order.now in
    let t = c.in-Some.t in
    let at : t ≡ c.trials.starts.start = search rules in
    let v = c.followers.invariant in
    let first = get_or l (get_or os t 0) no_stay in
    let P : ℕ → Type 0 = λ m. Apart p q c.followers.last c.followers.at first (first.window.from + m) in
    let on : c.next.new.self.start ≡ t + 1 = search rules in
    let end : c.next.new.self.end ≡ length os = search rules in
    let below : t < length os = search rules in
    let w = whole_trial C p q l t c.followers.k os (vec_items c.followers.times) c.followers.last c.followers.at (omega arith) c.followers-test.false v.1 v.2 v.3 in (
      omega (arith, on, end, below),
      end,
      one_more _ _ _ _ at on c.trials.invariant.2 (open_fails C p q l (turned t os) (vec_items c.followers.times) w.0 (λ k. true≢false (sym (c.if-is_apart.ensures.1 (subst P (sym c.ticks.ensures) (w.2 k)))))),
    )

pub returns : goal.returns
returns c =
    let C = c.args.ring.ticks in
    let p = c.args.ratio.over in
    let q = c.args.ratio.under in
    let l = c.args.stays.now in
    let os = c.args.order.now in
    let G = λ (o : _). Found C p q l os o in
    elim c.match-next.branch [
      | in_default w ↦
          let done : length os ≤ c.trials.starts.start = search rules in
          subst G (sym w.found-is) (none_seated C p q l c.args.ring.bounds.0 c.args.ratio.whole c.requires.0 os c.requires.1 (λ u h. c.trials.invariant.2 u (omega (arith, h, done))))
      | in-Some+in_ok-push+else-followers-test+then-is_apart w ↦
          let t = w.in-Some.t in
          let at : t ≡ c.trials.starts.start = search rules in
          let ht : t < length os = search rules in
          let v = w.followers.invariant in
          let first = get_or l (get_or os t 0) no_stay in
          let P : ℕ → Type 0 = λ m. Apart p q w.followers.last w.followers.at first (first.window.from + m) in
          let f = whole_trial C p q l t w.followers.k os (vec_items w.followers.times) w.followers.last w.followers.at ht w.followers-test.false v.1 v.2 v.3 in
          let is-first : First C p q l os t (vec_items w.followers.times) = record {
            place = ht;
            trial = f.0;
            closes = f.1 (subst P w.ticks.ensures (w.if-is_apart.ensures.0 refl));
            earlier = λ u us h g k. fails_open C p q l (turned u os) us (c.trials.invariant.2 u (omega (arith, at, h))) g k;
          } in
          subst G (sym w.found-is) (is-first, first_seated C p q l c.args.ring.bounds.0 c.args.ratio.whole c.requires.0 os t (vec_items w.followers.times) c.requires.1 is-first)
    ]
