-- Stays put one after another.
use Rattle.std.proofs.Common.{◌≡◌, ℕ, ◌+◌, ◌-◌, ◌*◌, ◌/◌, ◌^◌, ◌<◌, ◌≤◌, List, [], ◌∷◌, length, get_or, sym, refl, ap, subst, inl, inr, mul-le-mul_left, arith}
use Rattle.placement.specs.Windows.{Holds, Earliest}
use Rattle.placement.specs.Stays.{no_stay}
use Rattle.placement.specs.declared.stays.Stay.{Stay}
use Rattle.placement.proofs.Inserts.{ceil_covers, ceil_least}
use Rattle.search.specs.Sets.{held, Joined}
use Rattle.search.specs.Roads.{end_of, After, Next, Late, Road, Exact, Whole, one, count}
use Rattle.search.specs.Partials.{Good, Dead, Full}
use Rattle.search.specs.declared.sets.StaySet.{StaySet}
use Rattle.search.specs.declared.partials.Partial.{Partial}
use Rattle.search.proofs.Bits.{one_other, one_cases, joined_held}
use Rattle.search.proofs.Counts.{exact_first}

-- The least whole tick after the end e and the lead.
abbrev pub low_of : ℕ → ℕ → ℕ → Stay → ℕ
low_of p q e s = (e + p * s.lead + (q - 1)) / q

module _ (C p q room e : ℕ) (s : Stay) (hq : 1 ≤ q) where
  after_low : (z : ℕ) → After p q e s z → low_of p q e s ≤ z
  after_low z h = omega (arith, ceil_least q (e + p * s.lead) 0 z hq (omega arith))

  at_least : (z : ℕ) → z ≤ q * z
  at_least z = omega (arith, mul-le-mul_left z hq)

  pub late_low : room < low_of p q e s → Late C p q room e s
  late_low h = λ z w a. omega (arith, after_low z a, at_least z)

  pub late_none : room < 2 ^ 64 → ((y : ℕ) → low_of p q e s ≤ y → Holds C s.window y → 2 ^ 64 ≤ y) → Late C p q room e s
  late_none h f = λ z w a. omega (arith, f z (after_low z a) w, at_least z)

  pub late_end : (y : ℕ) → Earliest C s.window (low_of p q e s) y → room < end_of p q s y → Late C p q room e s
  late_end y k h = λ z w a. omega (arith, mul-le-mul_left q (k.least z (after_low z a) w))

  pub next_is : (y : ℕ) → Earliest C s.window (low_of p q e s) y → Next C p q e s y
  next_is y k =
      record {
        holds = k.holds;
        after = omega (arith, ceil_covers q (e + p * s.lead) hq, mul-le-mul_left q k.late);
        least = λ z w a. k.least z (after_low z a) w;
      }

-- The least time is one.
pub next_one : (C p q e : ℕ) (s : Stay) (y z : ℕ) → Next C p q e s y → Next C p q e s z → y ≡ z
next_one C p q e s y z a b = omega (arith, a.least z b.holds b.after, b.least y a.holds a.after)

module _ (C p q : ℕ) (l : List Stay) (room : ℕ) where
  -- An earlier end goes on as well.
  pub road_earlier : (e e' : ℕ) (js ts : List ℕ) → e ≤ e' → Road C p q l room e' js ts → Road C p q l room e js ts
  road_earlier e e' [] [] h r = omega arith
  road_earlier e e' [] (t ∷ ts) h r = r
  road_earlier e e' (j ∷ js) [] h r = r
  road_earlier e e' (j ∷ js) (t ∷ ts) h r = (r.0, omega (arith, r.1), r.2)

  pub road_le : (e : ℕ) (js ts : List ℕ) → Road C p q l room e js ts → e ≤ room
  road_le e [] [] r = r
  road_le e [] (t ∷ ts) r = absurd r
  road_le e (j ∷ js) [] r = absurd r
  road_le e (j ∷ js) (t ∷ ts) r = omega (arith, r.1, road_le (end_of p q (get_or l j no_stay) t) js ts r.2)

  -- A stay that stands on a road ends within the room.
  road_at : (e : ℕ) (js ts : List ℕ) (i : ℕ) → 1 ≤ count i js → Road C p q l room e js ts → (u : ℕ) × Holds C (get_or l i no_stay).window u × After p q e (get_or l i no_stay) u × (end_of p q (get_or l i no_stay) u ≤ room)
  road_at e [] ts i h r = absurd (omega arith)
  road_at e (j ∷ js) [] i h r = absurd r
  road_at e (j ∷ js) (t ∷ ts) i h r = elim (one_cases j i) [
    | inl k ↦
        let P : ℕ → Type 0 = λ i. (u : ℕ) × Holds C (get_or l i no_stay).window u × After p q e (get_or l i no_stay) u × (end_of p q (get_or l i no_stay) u ≤ room) in
        subst P k.0 (t, r.0, r.1, road_le (end_of p q (get_or l j no_stay) t) js ts r.2)
    | inr k ↦
        let w = road_at (end_of p q (get_or l j no_stay) t) js ts i (omega (arith, k.1)) r.2 in
        (w.0, w.1, omega (arith, w.2, r.1), w.3)
  ]

  -- What can be completed is not dead.
  pub dead_not_good : (k : ℕ) (m : StaySet) (e : ℕ) → Dead C p q l room m e → Good C p q l room k m e → ⊥
  dead_not_good k m e d g =
      let w = g.whole in
      let r = road_at e g.js g.ts d.stay (omega (arith, (w.exact d.stay).0 d.below, d.fresh)) w.road in
      omega (arith, r.3, d.late r.0 r.1 r.2)

  -- A road without one of its stays.
  record Without (e : ℕ) (js : List ℕ) (i : ℕ) : Type 0 where
    pub left : List ℕ
    pub ts : List ℕ
    pub counts : (x : ℕ) → count x js ≡ one i x + count x left
    pub long : length js ≡ length left + 1
    pub road : Road C p q l room e left ts

  road_without : (e : ℕ) (js ts : List ℕ) (i : ℕ) → 1 ≤ count i js → Road C p q l room e js ts → Without e js i
  road_without e [] ts i h r = absurd (omega arith)
  road_without e (j ∷ js) [] i h r = absurd r
  road_without e (j ∷ js) (t ∷ ts) i h r = elim (one_cases j i) [
    | inl k ↦ record {
      left = js;
      ts = ts;
      counts = λ z. ap (λ y. one y z + count z js) k.0;
      long = omega arith;
      road = road_earlier e (end_of p q (get_or l j no_stay) t) js ts (omega (arith, r.1)) r.2;
    }
    | inr k ↦
        let w = road_without (end_of p q (get_or l j no_stay) t) js ts i (omega (arith, k.1)) r.2 in
        record { left = j ∷ w.left; ts = t ∷ w.ts; counts = λ z. omega (arith, w.counts z); long = omega (arith, w.long); road = (r.0, r.1, w.road) }
  ]

  -- An end as small of the same set is as good.
  pub good_earlier : (k : ℕ) (m r : StaySet) (e f : ℕ) → r ≡ m → f ≤ e → Good C p q l room k m e → Good C p q l room k r f
  good_earlier k m r e f is h g =
      let P : StaySet → Type 0 = λ n. Good C p q l room k n f in
      subst P (sym is) (record { js = g.js; ts = g.ts; long = g.long; whole = record { exact = g.whole.exact; road = road_earlier f e g.js g.ts h g.whole.road } })

  -- The first of the stays that complete it, at its least time, leaves a good one; and so does another
  -- stay that fits before that one, if it comes first.
  pub record Goes_on (k : ℕ) (m : StaySet) (e : ℕ) : Type 0 where
    pub j : ℕ
    pub below : j < length l
    pub fresh : held m j ≡ 0
    pub good : (y : ℕ) (r : StaySet) → Next C p q e (get_or l j no_stay) y → Joined m j r → Good C p q l room (k + 1) r (end_of p q (get_or l j no_stay) y)
    pub swap : (y i f : ℕ) (r : StaySet) → Next C p q e (get_or l j no_stay) y → i < length l → held m i ≡ 0 → (i ≡ j → ⊥) → Joined m i r → f + p * (get_or l j no_stay).lead ≤ q * y → Good C p q l room (k + 1) r f

  pub good_next : (k : ℕ) (m : StaySet) (e : ℕ) → k < length l → Good C p q l room k m e → Goes_on k m e
  good_next k m e h g = go g.js g.ts g.long g.whole.exact g.whole.road
    where
      go : (js ts : List ℕ) → length js + k ≡ length l → Exact (length l) m js → Road C p q l room e js ts → Goes_on k m e
      go [] ts n x r = absurd (omega arith)
      go (j ∷ js) [] n x r = absurd r
      go (j ∷ js) (t ∷ ts) n x r =
          let f = exact_first (length l) m j js x in
          let s = get_or l j no_stay in
          record {
            j = j;
            below = f.0;
            fresh = f.1;
            good = λ y r' ny jn. record {
              js = js;
              ts = ts;
              long = omega arith;
              whole = record { exact = f.2 r' jn; road = road_earlier (end_of p q s y) (end_of p q s t) js ts (omega (arith, mul-le-mul_left q (ny.least t r.0 r.1))) r.2 };
            };
            swap = λ y i b r' ny hi zi ne jn fits.
                let c : 1 ≤ count i js = omega (arith, (x i).0 hi, one_other j i (λ e. ne (sym e))) in
                let w = road_without (end_of p q s t) js ts i c r.2 in
                record {
                  js = j ∷ w.left;
                  ts = t ∷ w.ts;
                  long = omega (arith, w.long);
                  whole = record {
                    exact = λ z. ((λ h. omega (arith, (x z).0 h, w.counts z, joined_held m r' i z jn zi)), λ h. omega (arith, (x z).1 h, w.counts z));
                    road = (r.0, omega (arith, fits, mul-le-mul_left q (ny.least t r.0 r.1)), w.road);
                  };
                };
          }

  -- At the last layer nothing is left.
  pub good_last : (k : ℕ) (a : Partial) → length l ≤ k → Good C p q l room k a.set a.end → Full (length l) room a
  good_last k a h g = go g.js g.ts g.long g.whole.exact g.whole.road
    where
      go : (js ts : List ℕ) → length js + k ≡ length l → Exact (length l) a.set js → Road C p q l room a.end js ts → Full (length l) room a
      go [] ts n x r = ((λ j b. omega (arith, (x j).0 b)), road_le a.end [] ts r)
      go (j ∷ js) ts n x r = absurd (omega arith)

  pub full_whole : (a : Partial) → Full (length l) room a → Whole C p q l room a.set a.end [] []
  full_whole a f = record { exact = λ j. ((λ h. omega (arith, f.0 j h)), λ h. refl); road = f.1 }
