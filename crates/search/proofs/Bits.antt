-- The bits of a set.
use Rattle.std.proofs.Common.{◌≡◌, ℕ, ◌+◌, ◌*◌, ◌%◌, ◌^◌, ◌<◌, true, false, ◌⊎◌, bit_or, w64, sym, refl, ◌∙◌, subst, inl, inr, arith, true≢false}
use Rattle.std.proofs.lemmas.Nat.Bits.{bit_at_set_same, bit_at_set_other}
use Rattle.std.proofs.lemmas.Bool.{eq-eqb, ne_eqb, cases_eq}
use Rattle.search.specs.Sets.{held, In, Joined}
use Rattle.search.specs.Roads.{one}
use Rattle.search.specs.declared.sets.StaySet.{StaySet}

pub one_same : (x j : ℕ) → x ≡ j → one x j ≡ 1
unfolding one
one_same x j e = rw (eq-eqb x j e) refl

pub one_other : (x j : ℕ) → (x ≡ j → ⊥) → one x j ≡ 0
unfolding one
one_other x j n = rw (ne_eqb x j n) refl

pub one_cases : (x j : ℕ) → ((x ≡ j) × (one x j ≡ 1)) ⊎ ((x ≡ j → ⊥) × (one x j ≡ 0))
one_cases x j = elim (cases_eq x j) [ inl e ↦ inl (e, one_same x j e) | inr n ↦ inr (n, one_other x j n) ]

-- The bit of i set.
pub joined : (m i : ℕ) → i < 64 → Joined (record { bits = m }) i (record { bits = bit_or m (1 * 2 ^ i % 2 ^ 64) })
joined m i h = λ j. elim (cases_eq j i) [
  | inl e ↦
      let P : ℕ → Type 0 = λ k. In (record { bits = bit_or m (1 * 2 ^ i % 2 ^ 64) }) k in
      ((λ _. inr e), λ _. subst P (sym e) (bit_at_set_same w64 m i h))
  | inr n ↦
      let s = bit_at_set_other w64 m i h j n in
      ((λ k. inl (sym s ∙ k)), λ k. elim k [ inl w ↦ s ∙ w | inr e ↦ absurd (n e) ])
]

pub free : (m : StaySet) (j : ℕ) → (In m j → ⊥) → held m j ≡ 0
free m j f = elim (cases_eq (held m j) 1) [ inl e ↦ absurd (f e) | inr n ↦ omega (arith, n) ]

pub not_held : (m : StaySet) (j : ℕ) → (In m j → false ≡ true) → held m j ≡ 0
not_held m j f = free m j (λ h. true≢false (sym (f h)))

-- Where the index is new, the numbers add up.
pub joined_held : (m r : StaySet) (i j : ℕ) → Joined m i r → held m i ≡ 0 → held r j ≡ held m j + one i j
joined_held m r i j f z =
    let a : held m j < 2 = omega arith in
    let b : held r j < 2 = omega arith in
    elim (one_cases i j) [
      | inl k ↦
          let h : held r j ≡ 1 = (f j).1 (inr (sym k.0)) in
          let P : ℕ → Type 0 = λ n. held m n ≡ 0 in
          omega (arith, k.1, h, subst P k.0 z)
      | inr k ↦ elim (cases_eq (held m j) 1) [
        | inl h ↦ omega (arith, k.1, h, (f j).1 (inl h))
        | inr h ↦ elim (cases_eq (held r j) 1) [
          | inl g ↦ elim ((f j).0 g) [ inl w ↦ absurd (h w) | inr w ↦ absurd (k.0 (sym w)) ]
          | inr g ↦ omega (arith, k.1, h, g)
        ]
      ]
    ]
