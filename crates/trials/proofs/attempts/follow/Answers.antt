use Rattle.std.proofs.Common.{◌≡◌, ℕ, List, length, suc, ◌+◌, ◌^◌, ◌≤◌, [], ◌∷◌, ◌++◌, get_or, vec_items, sym, ◌∙◌, arith, rules}
use Rattle.placement.specs.Stays.{no_stay}
use Rattle.trials.specs.Trials.{Least}
use Rattle.trials.proofs.Pushes.{last_push, trial_next, last_next}
use Rattle.trials.proofs.Firsts.{least_exists, trial_time}
use Rattle.trials.proofs.attempts.follow.Goals as goal

-- An index that the list does not have.
pub returns-in_default : goal.returns-in_default
returns-in_default c =
    let far : length c.args.stays.now ≤ c.args.head = search rules in
    λ below ts f small. omega (arith, below 0 (omega arith))

pub returns-in_default-get : goal.returns-in_default-get
returns-in_default-get c =
    let far : length c.args.stays.now ≤ get_or c.args.others.now c.loop-i.i-index 0 = search rules in
    λ below ts f small. omega (arith, below (suc c.loop-i.i-index) (omega arith))

-- A follower that has no time of 64 bits.
pub returns-in_default-next_time : goal.returns-in_default-next_time
returns-in_default-next_time c =
    let C = c.args.ring.ticks in
    let p = c.args.ratio.over in
    let q = c.args.ratio.under in
    let l = c.args.stays.now in
    let os : List ℕ = c.args.head ∷ c.args.others.now in
    let k : ℕ = suc c.loop-i.i-index in
    let v = c.loop-i.invariant in
    let e : c.in-Some-get.stay.now ≡ get_or l (get_or os k 0) no_stay = search rules in
    let m = least_exists C p q l c.args.ring.bounds.0 c.args.ratio.whole c.loop-i.last c.loop-i.at c.in-Some-get.stay.now in
    let late : 2 ^ 64 ≤ m.0 = c.in_default-next_time.ensures m.0 m.1.holds m.1.apart in
    let m' : Least C p q c.loop-i.last c.loop-i.at (get_or l (get_or os k 0) no_stay) m.0 = (rw e at m).1 in
    λ below ts f small.
    omega (arith, late, small k (omega arith), trial_time C p q l c.args.ring.bounds.0 c.args.ratio.whole k os (vec_items c.loop-i.times) ts c.loop-i.last c.loop-i.at m.0 (omega arith) v.0 v.1 v.2 m' f)

pub loop-i-preserved : goal.loop-i-preserved
loop-i-preserved c =
    let C = c.args.ring.ticks in
    let p = c.args.ratio.over in
    let q = c.args.ratio.under in
    let l = c.args.stays.now in
    let os : List ℕ = c.args.head ∷ c.args.others.now in
    let k : ℕ = suc c.loop-i.i-index in
    let v = c.loop-i.invariant in
    let y = c.in-Some-next_time.time in
    let is : c.in-Some-get.stay.now ≡ get_or l (get_or os k 0) no_stay = search rules in
    let m : Least C p q c.loop-i.last c.loop-i.at c.in-Some-get.stay.now y = c.in-Some-next_time.ensures in
    let m' : Least C p q c.loop-i.last c.loop-i.at (get_or l (get_or os k 0) no_stay) y = rw is at m in
    let s : c.loop-i.i-index + 1 ≡ k = omega arith in
    let e : vec_items c.push-in-loop-i.new.self ≡ vec_items c.loop-i.times ++ y ∷ [] = c.in_ok-push-2.ensures.items in (
      rw (s, e) (trial_next C p q l k os (vec_items c.loop-i.times) c.loop-i.last c.loop-i.at y (omega arith) v.0 v.1 v.2 m'),
      rw s (last_next C p q l k os (omega arith)) ∙ sym is,
      rw e (last_push 0 (vec_items c.loop-i.times) y),
    )
