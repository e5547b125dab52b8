use Rattle.std.proofs.Common.{◌≡◌, ◌⊎◌, ℕ, ◌<◌, ◌^◌, ◌≤ℤ◌, pos, length}
use Rattle.std.specs.Prelude.{neg_ℤ}
use Rattle.std.specs.Int.{int_max}
use Rattle.net_routes.specs.Pieces.{net_at}
use Rattle.net_routes.specs.GapFree.{IsHeight}
use Rattle.route_slots.proofs.middles.highest.Given as goal

abbrev pub invariant-nets : goal.invariant-nets
invariant-nets l =
    record {
      above : (k : ℕ) → k < l.net-index → ((net_at l.nets k).a.height ≤ℤ l.top.value) × ((net_at l.nets k).b.height ≤ℤ l.top.value);
      reached : (l.top.value ≡ neg_ℤ (pos (2 ^ 50))) ⊎ ((k : ℕ) × (k < length l.nets) × (l.top.value ≤ℤ int_max (net_at l.nets k).a.height (net_at l.nets k).b.height));
      range : IsHeight l.top.value;
    }
