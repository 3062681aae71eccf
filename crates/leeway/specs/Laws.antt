-- What is true of leeways, whatever the list and the order.
use Rattle.std.specs.Prelude.{◌≡◌, ℕ, ◌<◌, ◌≤◌, List, map, length, slice_index_or, slice_set}
use Rattle.std.specs.List.{remove}
use Rattle.ring.specs.Fractions.{AtMost}
use Rattle.placement.specs.Stays.{Narrowed, no_stay}
use Rattle.placement.specs.Seatings.{place_of, turned, fallen}
use Rattle.placement.specs.declared.stays.Stay.{Stay}
use Rattle.leeway.specs.Leeways.{SeatsIn, IsLeeway}

-- The order of the list without its stay i: that stay left out, later indexes one less.
abbrev pub order_without : ℕ → List ℕ → List ℕ
order_without i os = map (fallen i) (remove os (place_of i os))

pub record LeewayLaws (C : ℕ) (l : List Stay) (os : List ℕ) : Type 0 where
  -- there is one leeway at most
  pub one : (P Q P' Q' : ℕ) → IsLeeway C l os P Q → IsLeeway C l os P' Q' → (P ≡ P') × (Q ≡ Q')
  -- a seating at a fraction is one at every smaller fraction
  pub smaller : (p q p' q' : ℕ) → 1 ≤ q → AtMost p' q' p q → SeatsIn C p q l os → SeatsIn C p' q' l os
  -- begun at another stay, the order has the same leeway
  pub begun : (k P Q : ℕ) → k < length os → IsLeeway C l os P Q → IsLeeway C l (turned k os) P Q
  -- the leeway never falls if a stay is left out
  pub left_out :
      (i P Q P' Q' : ℕ) → i < length l → IsLeeway C l os P Q
      → IsLeeway C (remove l i) (order_without i os) P' Q' → AtMost P Q P' Q'
  -- and never rises if a window is narrowed
  pub narrowed :
      (i : ℕ) (a : Stay) (P Q P' Q' : ℕ) → i < length l → Narrowed C a (slice_index_or l i no_stay)
      → IsLeeway C l os P Q → IsLeeway C (slice_set l i a) os P' Q' → AtMost P' Q' P Q

unfoldable pub Laws : ℕ → List Stay → List ℕ → Type 0
Laws C l os = LeewayLaws C l os
