-- A card that has a fault is refused by it.
-- Assumes nothing.
use Rattle.std.specs.Prelude.{ℕ, ◌≡◌}
use Rattle.card.specs.declared.Verdict.{Verdict}

abbrev pub Named : ℕ → ℕ → Verdict
Named k at = record { number = k; place = at }

-- an answer of this number and place
pub named : (x : Verdict) {k at : ℕ} → x.number ≡ k → x.place ≡ at → x ≡ Named k at
named x p q = λ i. record { number = p i; place = q i }
