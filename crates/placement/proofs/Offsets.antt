-- How far round the ring times lie past a window's first position. Only this file looks into the
-- formula of a window.
use Rattle.std.proofs.Common.{◌≡◌, ℕ, ◌+◌, ◌-◌, ◌*◌, ◌/◌, ◌%◌, ◌<◌, ◌≤◌, sym, ap, ◌∙◌, mod-lt, mod-eq_of_lt, add-mul, arith}
use native.Mathlib.Nat.{add-mod_right, mod-add-mod, mod_self, add-mul-mod_self_right}
use native.Mathlib.Decide.{dec_lt, dec_le}
use lib.Arith.{digits_mod}
use Rattle.std.proofs.lemmas.Nat.{div-add-mod'}
use Rattle.placement.specs.Windows.{offset, Holds, Earliest}
use Rattle.placement.specs.declared.windows.Window.{Window}

-- A number that is k rings and d.
pub mod_is : (C k d n : ℕ) → d < C → n ≡ k * C + d → n % C ≡ d
mod_is C k d n h e = rw e (digits_mod k h)

pub same_mod : (R a b m : ℕ) → a % R ≡ b % R → (a + m) % R ≡ (b + m) % R
same_mod R a b m e = sym (mod-add-mod a R m) ∙ ap (λ v. (v + m) % R) e ∙ mod-add-mod b R m

-- A time lies where the same time lies that was brought below the ring first.
pub offset_below : (C : ℕ) (w : Window) (x : ℕ) → (x % C + (C - w.from)) % C ≡ offset C w x
offset_below C w x = mod-add-mod x C (C - w.from)

module _ (C : ℕ) (w : Window) where
  -- A later time lies as much further, up to the ring's end.
  offset_plus : (x j : ℕ) → offset C w x + j < C → offset C w (x + j) ≡ offset C w x + j
  offset_plus x j h =
      let e : (x + (C - w.from)) / C * C + offset C w x ≡ x + (C - w.from) = div-add-mod' (x + (C - w.from)) C in
      mod_is C ((x + (C - w.from)) / C) (offset C w x + j) (x + j + (C - w.from)) h (omega arith)

  -- To the next time at the first position.
  offset_turn : (x : ℕ) → 1 ≤ C → offset C w (x + (C - offset C w x)) ≡ 0
  offset_turn x h =
      let e : (x + (C - w.from)) / C * C + offset C w x ≡ x + (C - w.from) = div-add-mod' (x + (C - w.from)) C in
      let l : offset C w x < C = mod-lt (x + (C - w.from)) h in
      mod_is C ((x + (C - w.from)) / C + 1) 0 (x + (C - offset C w x) + (C - w.from)) h
      (omega (arith, add-mul ((x + (C - w.from)) / C) 1 C))

  past : (low y : ℕ) → w.width < offset C w low → low ≤ y → Holds C w y → y < low + (C - offset C w low) → ⊥
  past low y h ly hy b =
      let e : low + (y - low) ≡ y = omega arith in
      let d : offset C w (low + (y - low)) ≡ offset C w low + (y - low) = offset_plus low (y - low) (omega arith) in
      let d' : offset C w y ≡ offset C w low + (y - low) = rw e at d in
      omega arith

  pub earliest_later : (low : ℕ) → 1 ≤ C → w.width < offset C w low → Earliest C w low (low + (C - offset C w low))
  earliest_later low hC h =
      record {
        holds = omega (arith, offset_turn low hC);
        late = omega arith;
        least =
            λ y ly hy. elim (dec_lt y (low + (C - offset C w low))) [ no n ↦ omega arith | yes b ↦ absurd (past low y h ly hy b) ];
      }

  pub earliest_bound : (low r : ℕ) → 1 ≤ C → Earliest C w low r → r ≤ low + C
  earliest_bound low r hC e =
      let z : offset C w (low + (C - offset C w low)) ≡ 0 = offset_turn low hC in
      omega (arith, e.least (low + (C - offset C w low)) (omega arith) (omega arith))

  pub earliest_exists : (low : ℕ) → 1 ≤ C → (r : ℕ) × Earliest C w low r
  earliest_exists low hC =
      elim (dec_le (offset C w low) w.width) [
        | yes b ↦ (low, record { holds = b; late = omega arith; least = λ y l k. l })
        | no n ↦ (low + (C - offset C w low), earliest_later low hC (omega arith))
      ]

  -- Whole rings do not matter.
  pub holds_mod : (x y : ℕ) → x % C ≡ y % C → Holds C w x → Holds C w y
  holds_mod x y e h =
      omega (arith, h, mod-add-mod x C (C - w.from), mod-add-mod y C (C - w.from), ap (λ v. (v + (C - w.from)) % C) e)

-- The first position lies in the window.
pub offset_from : (C : ℕ) (w : Window) → w.from < C → offset C w w.from ≡ 0
offset_from C w h =
    let e : w.from + (C - w.from) ≡ C = omega arith in
    rw e (mod_self C)

pub offset_mod : (C : ℕ) (w : Window) (x y : ℕ) → x % C ≡ y % C → offset C w x ≡ offset C w y
offset_mod C w x y e =
    sym (mod-add-mod x C (C - w.from)) ∙ ap (λ v. (v + (C - w.from)) % C) e ∙ mod-add-mod y C (C - w.from)

-- Times moved back, so that y comes to the first position of v: in w the offset falls by as much.
pub offset_back : (C : ℕ) (v w : Window) (y u : ℕ) → v.from < C → y ≤ u → offset C v y ≤ offset C w u → offset C w (u + v.from - y) ≡ offset C w u - offset C v y
offset_back C v w y u h l e =
    let k = (y + (C - v.from)) / C in
    let j = (u + (C - w.from)) / C in
    let ky : k * C + offset C v y ≡ y + (C - v.from) = div-add-mod' (y + (C - v.from)) C in
    let ju : j * C + offset C w u ≡ u + (C - w.from) = div-add-mod' (u + (C - w.from)) C in
    let n = u + v.from - y + (C - w.from) in
    let m : (n + k * C) % C ≡ offset C w u - offset C v y = mod_is C (j + 1) (offset C w u - offset C v y) (n + k * C) (omega (arith, mod-lt (u + (C - w.from)) {m = C} (omega arith))) (omega (arith, add-mul j 1 C)) in
    rw (add-mul-mod_self_right n k C) at m

-- A window of one position holds the times there and no others.
pub holds_one : (C x r : ℕ) → x < C → Holds C (record { from = x; width = 0 }) r → r % C ≡ x
holds_one C x r h d =
    let z : 0 < C = omega arith in
    let e : (r + (C - x)) % C ≡ 0 % C = omega (arith, mod-eq_of_lt z) in
    let s : (r + (C - x) + x) % C ≡ (0 + x) % C = same_mod C (r + (C - x)) 0 x e in
    let a : r + (C - x) + x ≡ r + C = omega arith in
    let b : 0 + x ≡ x = omega arith in
    let s' : (r + C) % C ≡ x % C = rw (a, b) at s in
    sym (add-mod_right r C) ∙ s' ∙ mod-eq_of_lt h

pub one_holds : (C x r : ℕ) → x < C → r % C ≡ x → Holds C (record { from = x; width = 0 }) r
one_holds C x r h e =
    let s : (r + (C - x)) % C ≡ (x + (C - x)) % C = same_mod C r x (C - x) (e ∙ sym (mod-eq_of_lt h)) in
    let a : x + (C - x) ≡ 0 + C = omega arith in
    let s' : (r + (C - x)) % C ≡ (0 + C) % C = rw a at s in
    let z : 0 < C = omega arith in
    omega (arith, s' ∙ add-mod_right 0 C ∙ mod-eq_of_lt z)
