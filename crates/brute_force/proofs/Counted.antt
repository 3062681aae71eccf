-- How far a time lies past a window's first position, by whether its position comes before that one.
use Rattle.std.proofs.Common.{◌≡◌, ℕ, ◌+◌, ◌-◌, ◌*◌, ◌/◌, ◌%◌, ◌<◌, ◌≤◌, true, leb, mod-lt, add-mul, arith, le-leb, leb-true}
use Rattle.std.proofs.lemmas.Nat.{div-add-mod'}
use Rattle.placement.specs.Windows.{offset, Holds}
use Rattle.placement.proofs.Offsets.{mod_is}
use Rattle.placement.specs.declared.windows.Window.{Window}

pub offset_after : (C : ℕ) (w : Window) (x : ℕ) → w.from < C → w.from ≤ x % C → offset C w x ≡ x % C - w.from
offset_after C w x h p =
    let e : x / C * C + x % C ≡ x = div-add-mod' x C in
    let l : x % C < C = mod-lt x (omega arith) in
    mod_is C (x / C + 1) (x % C - w.from) (x + (C - w.from)) (omega arith) (omega (arith, add-mul (x / C) 1 C))

pub offset_before :
    (C : ℕ) (w : Window) (x : ℕ) → w.from < C → x % C < w.from → offset C w x ≡ x % C + (C - w.from)
offset_before C w x h p =
    let e : x / C * C + x % C ≡ x = div-add-mod' x C in
    mod_is C (x / C) (x % C + (C - w.from)) (x + (C - w.from)) (omega arith) (omega arith)

-- Counted on from the window's first position, the time is in the window up to its last.
abbrev pub Counts : ℕ → Window → ℕ → ℕ → Type 0
Counts C w x n = (leb n (w.from + w.width) ≡ true → Holds C w x) × (Holds C w x → leb n (w.from + w.width) ≡ true)

counts : (C : ℕ) (w : Window) (x n : ℕ) → offset C w x + w.from ≡ n → Counts C w x n
counts C w x n e = (
  (λ t. let l : n ≤ w.from + w.width = leb-true n (w.from + w.width) t in omega arith),
  (λ l. le-leb n (w.from + w.width) (omega arith)),
)

pub counts_after : (C : ℕ) (w : Window) (x n : ℕ) → w.from < C → w.from ≤ x % C → n ≡ x % C → Counts C w x n
counts_after C w x n h p q = counts C w x n (omega (arith, offset_after C w x h p))

pub counts_before : (C : ℕ) (w : Window) (x n : ℕ) → w.from < C → x % C < w.from → n ≡ x % C + C → Counts C w x n
counts_before C w x n h p q = counts C w x n (omega (arith, offset_before C w x h p))
